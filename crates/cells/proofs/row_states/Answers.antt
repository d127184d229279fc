use mathlib.Core.Path.{sym, ap, ◌∙◌}
use Rattle.model.specs.declared.Order.{Order}
use Rattle.whole.proofs.Bounds.{exact, exactly}
use Rattle.cells.specs.Rows.{changed}
use Rattle.cells.proofs.OneRow.{forwards-is, backwards-is}
use Rattle.cells.proofs.row_states.Goals as goal

pub returns-in-Forwards : goal.returns-in-Forwards
returns-in-Forwards c =
    forwards-is c.args.t c.args.change _ _ (exactly (search exact depth 20) tt) (exactly (search exact depth 20) tt)
    ∙ sym (ap (λ (o : Order). changed o c.args.t c.args.change) c.in-Forwards.is)

pub returns-in-Backwards : goal.returns-in-Backwards
returns-in-Backwards c =
    backwards-is c.args.t c.args.change _ _ (exactly (search exact depth 20) tt) (exactly (search exact depth 20) tt)
    ∙ sym (ap (λ (o : Order). changed o c.args.t c.args.change) c.in-Backwards.is)
