use Rattle.std.proofs.Common.{◌≡◌, ◌≤◌, ◌++◌, length, take, drop, sym, ◌∙◌, arith}
use lib.Seq.{length-take-le}
use Rattle.stops.specs.Rows.{held_of}
use Rattle.stops.proofs.Held.{row-front}
use Rattle.stops.proofs.stop_row.Goals as goal

pub returns : goal.returns
returns c =
    let l = c.args.stops.now in
    let k = c.min-held.result in
    let held : k ≡ held_of (length l) = c.min-held.ensures in
    let few : k ≤ length l = omega arith in
    let empty = c.empty_row-row.ensures in
    (λ i. record {
      stops = (c.write_front.ensures
          ∙ (λ j. take (held j) l ++ drop ((length-take-le k l few ∙ held) j) (empty j).stops)) i;
      lent = (empty i).lent;
    })
    ∙ sym (row-front l (held_of (length l)) (omega arith) (omega arith))
