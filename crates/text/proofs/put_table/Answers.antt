use mathlib.Core.Path.{sym, ◌∙◌}
use Rattle.text.proofs.Enough.{put-nothing, arrival-room, rows-room, table_done}
use Rattle.text.proofs.put_table.Goals as goal

pub put_arrival-next-requires : goal.put_arrival-next-requires
put_arrival-next-requires c =
    let fits = sym c.table_fits-fits.ensures ∙ c.if-fits.true in
    let a = c.args in
    let k = c.axis_count-width in
    arrival-room a.mask a.n k.result a.table.now a.out.now k.ensures fits

pub returns-then-fits : goal.returns-then-fits
returns-then-fits c =
    let fits = sym c.table_fits-fits.ensures ∙ c.if-fits.true in
    let a = c.args in
    let k = c.axis_count-width in
    table_done a.mask a.n k.result a.table.now a.out.now k.ensures fits
    c.put_arrival-next.ensures c.put_rows.ensures

pub returns : goal.returns
returns c = put-nothing _ _ (sym c.table_fits-fits.ensures ∙ c.if-fits.false)

pub put_rows-requires-clause-n_in_bounds_2 : goal.put_rows-requires-clause-n_in_bounds_2
put_rows-requires-clause-n_in_bounds_2 c =
    let fits = sym c.table_fits-fits.ensures ∙ c.if-fits.true in
    let a = c.args in
    let k = c.axis_count-width in
    (rows-room a.mask a.n k.result a.table.now a.out.now k.ensures fits
    c.put_arrival-next.ensures c.put_arrival-next.auto.out).1.1
