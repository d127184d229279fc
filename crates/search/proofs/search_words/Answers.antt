use mathlib.Core.Path.{◌∙◌}
use Rattle.model.specs.planning.Outcome.{words}
use Rattle.search.proofs.Ways.{promise, words-refused, words-passed}
use Rattle.search.proofs.search_words.Goals as goal

pub returns-in-Err : goal.returns-in-Err
returns-in-Err c =
    let a = c.args in
    promise (words a.words.now) a.first a.budget c.refused.result
    (c.refused.ensures
    ∙ words-refused a.words.now a.first a.budget c.decode.result c.decode.ensures c.in-Err.wrong c.in-Err.is)

pub returns-in-Ok : goal.returns-in-Ok
returns-in-Ok c =
    let a = c.args in
    promise (words a.words.now) a.first a.budget c.search_job.result
    (c.search_job.ensures.is
    ∙ words-passed a.words.now a.first a.budget c.decode.result c.decode.ensures c.in-Ok.job c.in-Ok.is)
