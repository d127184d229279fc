use Rattle.raises.proofs.Calls.{beside, words-promise, refusal-promise}
use Rattle.raises.proofs.raises_words.Goals as goal
use mathlib.Core.Path.{◌∙◌}

pub returns-in-Err : goal.returns-in-Err
returns-in-Err c =
    refusal-promise c.args.words.now c.decode.result c.decode.ensures c.in-Err.refusal c.in-Err.is c.answered.result
    (c.answered.ensures ∙ (λ i. beside (c.from.ensures i) (c.no_raises.ensures i)))

pub returns-in-Ok : goal.returns-in-Ok
returns-in-Ok c =
    words-promise c.args.words.now c.decode.result c.decode.ensures c.in-Ok.job c.in-Ok.is c.raises_job.result
    c.raises_job.ensures
