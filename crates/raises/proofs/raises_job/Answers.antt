use mathlib.Core.Path.{sym, ap, ◌∙◌}
use Rattle.model.specs.declared.Answer.{Answer}
use Rattle.model.specs.planning.Outcome.{typed}
use Rattle.theorems.proofs.calls.RaisesHold.{eight}
use Rattle.raises.proofs.Calls.{beside, with-raises, without-raises, promise}
use Rattle.raises.proofs.raises_job.Goals as goal

pub returns-then-planned-ne8 : goal.returns-then-planned-ne8
returns-then-planned-ne8 c =
    let t = c.args.job in
    let planned = c.answer_of-planned in
    promise t c.answered.result
    (c.answered.ensures
    ∙ ap (beside planned.result) c.no_raises.ensures
    ∙ without-raises (typed t) planned.result planned.ensures.is c.if-planned-ne8.true)

pub raises_for-requires-clause-all_passed : goal.raises_for-requires-clause-all_passed
raises_for-requires-clause-all_passed c =
    let number = ap (λ (r : Answer). r.number) c.answer_of-planned.ensures.is in
    (eight c.args.job (sym number ∙ c.if-planned-ne8.false)).0.passed

pub raises_for-requires-clause-asked_le_last_tick : goal.raises_for-requires-clause-asked_le_last_tick
raises_for-requires-clause-asked_le_last_tick c =
    let number = ap (λ (r : Answer). r.number) c.answer_of-planned.ensures.is in
    (eight c.args.job (sym number ∙ c.if-planned-ne8.false)).0.last

pub returns : goal.returns
returns c =
    let t = c.args.job in
    let planned = c.answer_of-planned in
    promise t c.answered-2.result
    (c.answered-2.ensures
    ∙ ap (beside planned.result) c.raises_for.ensures
    ∙ with-raises (typed t) planned.result planned.ensures.is c.if-planned-ne8.false)
