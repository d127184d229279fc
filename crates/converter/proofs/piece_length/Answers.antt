use mathlib.Core.Path.{sym, ◌∙◌}
use Rattle.converter.proofs.Pieces.{piece-flying, piece-copied}
use Rattle.converter.proofs.piece_length.Goals as goal

pub returns-then-is_flying-clause-value : goal.returns-then-is_flying-clause-value
returns-then-is_flying-clause-value c =
    let a = c.args in
    piece-flying a.words.now a.i (sym c.if-is_flying.true ∙ c.is_flying.ensures)

pub returns-else-is_flying-clause-value : goal.returns-else-is_flying-clause-value
returns-else-is_flying-clause-value c =
    let a = c.args in
    piece-copied a.words.now a.i (sym c.if-is_flying.false ∙ c.is_flying.ensures)
