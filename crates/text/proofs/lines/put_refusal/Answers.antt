use native.Mathlib.Omega.{arith}
use mathlib.Core.Path.{◌∙◌}
use Rattle.whole.specs.Lists.{Room}
use Rattle.text.specs.Printed.{refusal_line}
use Rattle.text.proofs.lines.Laws as laws
use Rattle.text.proofs.lines.put_refusal.Goals as goal

pub put_labelled-after_place-requires : goal.put_labelled-after_place-requires
put_labelled-after_place-requires c =
    let a = c.args in
    let f = c.ranges in
    let most = laws.refusal-most a.number a.place a.mask a.arrival f.number.fits f.place.fits f.mask.fits
    f.arrival.fits in
    let room : Room a.out.now a.at (refusal_line a.number a.place a.mask a.arrival) = record {
      room = omega (arith, most, c.requires);
    } in
    laws.place-room a.number a.place a.mask a.arrival room c.put_labelled-after_number.ensures

pub put_labelled-after_arrival-requires : goal.put_labelled-after_arrival-requires
put_labelled-after_arrival-requires c =
    let a = c.args in
    let f = c.ranges in
    let most = laws.refusal-most a.number a.place a.mask a.arrival f.number.fits f.place.fits f.mask.fits
    f.arrival.fits in
    let room : Room a.out.now a.at (refusal_line a.number a.place a.mask a.arrival) = record {
      room = omega (arith, most, c.requires);
    } in
    let one = c.put_labelled-after_number.ensures in
    laws.arrival-room a.number a.place a.mask a.arrival room one c.put_labelled-after_place.ensures
    c.put_labelled-after_mask.ensures

pub bounds-out-after_arrival : goal.bounds-out-after_arrival
bounds-out-after_arrival c =
    let a = c.args in
    let f = c.ranges in
    let most = laws.refusal-most a.number a.place a.mask a.arrival f.number.fits f.place.fits f.mask.fits
    f.arrival.fits in
    let room : Room a.out.now a.at (refusal_line a.number a.place a.mask a.arrival) = record {
      room = omega (arith, most, c.requires);
    } in
    let one = c.put_labelled-after_number.ensures in
    let two = c.put_labelled-after_place.ensures in
    laws.feed-index a.number a.place a.mask a.arrival room one two c.put_labelled-after_mask.ensures
    c.put_labelled-after_arrival.ensures

pub overflow_add-result : goal.overflow_add-result
overflow_add-result c =
    let long = c.put_labelled-after_arrival.auto.out ∙ c.put_labelled-after_mask.auto.out
    ∙ c.put_labelled-after_place.auto.out
    ∙ c.put_labelled-after_number.auto.out in
    omega (arith, bounds-out-after_arrival c, long, c.well_formed)

pub returns : goal.returns
returns c =
    let a = c.args in
    let f = c.ranges in
    let most = laws.refusal-most a.number a.place a.mask a.arrival f.number.fits f.place.fits f.mask.fits
    f.arrival.fits in
    let room : Room a.out.now a.at (refusal_line a.number a.place a.mask a.arrival) = record {
      room = omega (arith, most, c.requires);
    } in
    let one = c.put_labelled-after_number.ensures in
    let two = c.put_labelled-after_place.ensures in
    let labels =
    laws.refusal-done a.number a.place a.mask a.arrival room one two c.put_labelled-after_mask.ensures
    c.put_labelled-after_arrival.ensures in
    record { written = labels; most = most }

pub put_labelled-after_number-requires : goal.put_labelled-after_number-requires
put_labelled-after_number-requires c =
    let a = c.args in
    let f = c.ranges in
    let most = laws.refusal-most a.number a.place a.mask a.arrival f.number.fits f.place.fits f.mask.fits
    f.arrival.fits in
    let room : Room a.out.now a.at (refusal_line a.number a.place a.mask a.arrival) = record {
      room = omega (arith, most, c.requires);
    } in
    laws.number-room a.number a.place a.mask a.arrival room

pub put_labelled-after_mask-requires : goal.put_labelled-after_mask-requires
put_labelled-after_mask-requires c =
    let a = c.args in
    let f = c.ranges in
    let most = laws.refusal-most a.number a.place a.mask a.arrival f.number.fits f.place.fits f.mask.fits
    f.arrival.fits in
    let room : Room a.out.now a.at (refusal_line a.number a.place a.mask a.arrival) = record {
      room = omega (arith, most, c.requires);
    } in
    laws.mask-room a.number a.place a.mask a.arrival room c.put_labelled-after_number.ensures
    c.put_labelled-after_place.ensures
