use mathlib.Core.Path.{sym, ap, ◌∙◌}
use Rattle.std.specs.declared.result.Result.TheVariants.{Err}
use Rattle.model.specs.declared.Answer.{Answer}
use Rattle.model.specs.planning.Outcome.{words, call, input_job, input_axes, outcome_of, outcome_after}
use Rattle.words.proofs.ReadWords.{words-answer}
use Rattle.planner.specs.Promise.{part_answer}
use Rattle.planner.proofs.Calls.{promise-in}
use Rattle.planner.proofs.Answers.{of_words, words-promise}
use Rattle.planner.proofs.Stages.{refuses}
use Rattle.planner.proofs.plan_words_in.Goals as goal

pub returns-in-Err : goal.returns-in-Err
returns-in-Err c =
    let a = c.args in
    let d = c.decode in
    let x = c.in-Err.refusal in
    let was = c.in-Err.is in
    let ws = a.words.now in
    let lent = a.table.now in
    let w = of_words ws d.result d.ensures x was in
    promise-in a.wanted (words ws) lent (part_answer (Err x)) lent
    (refuses (input_job (words ws)).mask (input_axes (words ws)) lent a.wanted x (call (words ws) lent) w.not-10
    (ap (λ (b : Answer). outcome_of b lent) (words-answer ws d.result d.ensures x was)
    ∙ sym (ap (outcome_after lent) w.is)))

pub returns-in-Ok : goal.returns-in-Ok
returns-in-Ok c =
    let a = c.args in
    let d = c.decode in
    let w = c.plan_job_in in
    words-promise a.words.now d.result d.ensures c.in-Ok.job c.in-Ok.is a.wanted a.table.now
    (part_answer w.result) w.new.table w.ensures
