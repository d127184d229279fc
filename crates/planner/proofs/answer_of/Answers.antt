use mathlib.Core.Path.{sym, subst}
use Rattle.planner.specs.Promise.{Answered, part_answer}
use Rattle.planner.proofs.Answers.{answered}
use Rattle.planner.proofs.answer_of.Goals as goal

pub returns : goal.returns
returns c =
    let w = c.plan_job_in-planned in
    subst (Answered c.args.job) (sym c.answer_for.ensures)
    (answered c.args.job 4097 _ (part_answer w.result) _ w.ensures)
