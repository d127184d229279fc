use native.Mathlib.Omega.{arith}
use mathlib.Core.Path.{◌∙◌}
use Rattle.model.specs.calls.Converter.{converted}
use Rattle.converter.proofs.Pieces as pieces
use Rattle.converter.proofs.Stages.{too_few, enough}
use Rattle.converter.proofs.write_converted.Goals as goal

pub returns-then-lent-needed : goal.returns-then-lent-needed
returns-then-lent-needed c =
    let a = c.args in
    let n = c.words_needed-needed in
    let count = n.ensures ∙ pieces.same_length 0 a.asked a.words.now in
    too_few (converted a.asked a.words.now) a.lent.now n.result count c.if-lent-needed.true

pub put_words-requires-clause-words_in_bounds : goal.put_words-requires-clause-words_in_bounds
put_words-requires-clause-words_in_bounds c =
    let a = c.args in
    let n = c.words_needed-needed in
    let count = n.ensures ∙ pieces.same_length 0 a.asked a.words.now in
    omega (arith, count)

pub returns : goal.returns
returns c =
    let a = c.args in
    let n = c.words_needed-needed in
    let count = n.ensures ∙ pieces.same_length 0 a.asked a.words.now in
    let room = c.if-lent-needed.false in
    let w = c.put_words in
    enough (converted a.asked a.words.now) a.lent.now n.result count room w.new.lent
    w.ensures
