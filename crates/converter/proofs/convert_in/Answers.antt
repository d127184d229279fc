use Rattle.std.proofs.lemmas.Result.{err_from_is_err_and}
use Rattle.converter.specs.Promise.{conversion_answer}
use Rattle.converter.proofs.Stages.{ends-at-words, ends-at-job, soon, ends-written}
use Rattle.converter.proofs.convert_in.Goals as goal

pub returns-in-Err : goal.returns-in-Err
returns-in-Err c =
    let a = c.args in
    ends-at-words a.words.now a.lent.now _ c.in-Err.ensures

pub returns-in_err-check-in-Ok : goal.returns-in_err-check-in-Ok
returns-in_err-check-in-Ok c =
    let a = c.args in
    let j = c.in-Ok in
    let p = err_from_is_err_and c.from_residual.result c.from_residual.ensures.1 in
    rw (p.1, p.2) (ends-at-job a.words.now a.lent.now j.job j.ensures _ c.in_err-check-in-Ok.ensures)

pub write_converted-requires : goal.write_converted-requires
write_converted-requires c =
    let a = c.args in
    let j = c.in-Ok in
    soon a.words.now a.lent.now j.job j.ensures c.in_ok-check-in-Ok.ensures

pub returns-in_ok-check-in-Ok : goal.returns-in_ok-check-in-Ok
returns-in_ok-check-in-Ok c =
    let a = c.args in
    let j = c.in-Ok in
    let w = c.write_converted in
    ends-written a.words.now a.lent.now j.job j.ensures c.in_ok-check-in-Ok.ensures (conversion_answer w.result)
    w.new.lent w.ensures
