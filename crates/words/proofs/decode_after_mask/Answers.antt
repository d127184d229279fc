use mathlib.Core.Path.{sym, ◌∙◌}
use Rattle.std.proofs.lemmas.Result.{err_from_is_err_and}
use Rattle.std.specs.declared.result.Result.TheVariants.{Ok, Err}
use Rattle.words.proofs.JobWords.{wrong_axis, whole_job}
use Rattle.words.proofs.decode_after_mask.Goals as goal

pub returns-in_err-axes : goal.returns-in_err-axes
returns-in_err-axes c =
    let a = c.args in
    let k = c.payload-asked in
    let asked = sym c.is_kind.ensures ∙ c.if-not-is_kind.false in
    let p = err_from_is_err_and c.from_residual.result c.from_residual.ensures.1 in
    rw (p.1, p.2)
    (wrong_axis a.words.now a.mask asked k.result k.ensures _ c.in_err-axes.ensures)

pub returns-in_err-check_end : goal.returns-in_err-check_end
returns-in_err-check_end c =
    let a = c.args in
    let k = c.payload-asked in
    let asked = sym c.is_kind.ensures ∙ c.if-not-is_kind.false in
    let r = c.in_ok-axes in
    let x = c.in_err-check_end in
    let p = err_from_is_err_and c.from_residual-in_err-check_end.result c.from_residual-in_err-check_end.ensures.1 in
    rw (p.1, p.2)
    (whole_job a.words.now a.mask asked k.result k.ensures r.axes r.end r.ensures (Err x.field-0.0) x.ensures)

pub returns : goal.returns
returns c =
    let a = c.args in
    let k = c.payload-asked in
    let asked = sym c.is_kind.ensures ∙ c.if-not-is_kind.false in
    let r = c.in_ok-axes in
    whole_job a.words.now a.mask asked k.result k.ensures r.axes r.end r.ensures (Ok tt) c.in_ok-check_end.ensures
