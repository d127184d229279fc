use mathlib.Core.Path.{sym, subst}
use Rattle.model.specs.planning.Outcome.{words}
use Rattle.planner.specs.Promise.{part_answer}
use Rattle.parts.specs.Promise.{PartPromise}
use Rattle.parts.proofs.Calls.{promise}
use Rattle.parts.proofs.plan_words_part.Goals as goal

pub returns : goal.returns
returns c =
    let a = c.args in
    let w = c.plan_words_in-planned in
    subst (λ r. PartPromise (words a.words.now) a.first a.table.now r w.new.table) (sym c.part_answer.ensures)
    (promise (words a.words.now) a.first a.table.now (part_answer w.result) w.new.table w.ensures)
