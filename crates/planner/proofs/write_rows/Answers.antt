use mathlib.Core.Path.{◌≡◌, refl, sym, ◌∙◌}
use native.Mathlib.Omega.{arith}
use lib.ListN.{length}
use Rattle.std.specs.Prelude.{None, Some}
use Rattle.std.proofs.lemmas.Result.{err_from_is_err_and}
use Rattle.model.specs.planning.Job.{axes_of, typed_job}
use Rattle.model.specs.declared.refusal.Refusal.TheVariants as refusals
use Rattle.planner.proofs.Rows.{rows_fit, too_short, wrote, none_written}
use Rattle.planner.proofs.write_rows.Goals as goal

pub returns-in_err-chosen : goal.returns-in_err-chosen
returns-in_err-chosen c =
    let a = c.args in
    let w = c.rows_wanted in
    let six : length a.axes ≡ 6 = omega arith in
    let p = err_from_is_err_and c.from_residual.result c.from_residual.ensures.1 in
    let none : w.result ≡ None = grind arith in
    let ten : c.in_err-chosen.field-0.0 ≡ refusals.TableShort a.tick = grind arith in
    rw (p.1, p.2, ten) (too_short a.mask a.tick a.axes six a.table.now a.wanted (sym none ∙ w.ensures))

pub fill_part-requires-clause-rows_in_bounds : goal.fill_part-requires-clause-rows_in_bounds
fill_part-requires-clause-rows_in_bounds c =
    let a = c.args in
    let six : length a.axes ≡ 6 = omega arith in
    let some : c.rows_wanted.result ≡ Some c.in_ok-chosen.chosen = grind arith in
    rows_fit a.mask a.tick a.axes six a.table.now a.wanted c.in_ok-chosen.chosen (sym some ∙ c.rows_wanted.ensures)

pub returns-then-chosen-gt0 : goal.returns-then-chosen-gt0
returns-then-chosen-gt0 c =
    let a = c.args in
    let f = c.fill_part in
    let six : length a.axes ≡ 6 = omega arith in
    let some : c.rows_wanted.result ≡ Some c.in_ok-chosen.chosen = grind arith in
    wrote a.mask a.tick a.axes six a.table.now a.wanted c.in_ok-chosen.chosen (sym some ∙ c.rows_wanted.ensures)
    f.new.table f.ensures c.requires.mask_bound c.requires.tick_le_last_tick (omega arith)

pub returns-else-chosen-gt0 : goal.returns-else-chosen-gt0
returns-else-chosen-gt0 c =
    let a = c.args in
    let w = c.in_ok-chosen.chosen in
    let six : length a.axes ≡ 6 = omega arith in
    let some : c.rows_wanted.result ≡ Some w = grind arith in
    let xs = axes_of (typed_job a.mask a.tick a.axes) in
    wrote a.mask a.tick a.axes six a.table.now a.wanted w (sym some ∙ c.rows_wanted.ensures) a.table.now
    (none_written w.order xs a.tick w.first w.rows a.table.now (omega (arith, c.if-chosen-gt0.false)))
    c.requires.mask_bound c.requires.tick_le_last_tick refl
