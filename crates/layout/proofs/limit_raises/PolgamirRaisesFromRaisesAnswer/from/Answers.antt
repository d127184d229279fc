-- Each entry of the list is the raises of its axis in C.
use Rattle.std.proofs.Common.{◌≡◌, length, arith, rules}
use Rattle.layout.specs.Raises.{answer_in_c, entry_in_c}
use Rattle.layout.proofs.Mapped.{mapped}
use Rattle.layout.proofs.limit_raises.PolgamirRaisesFromRaisesAnswer.from.Goals as goal

pub returns : goal.returns
returns c =
    let m = c.map.ensures.items in
    let six : length c.args.r.axes ≡ 6 = omega arith in
    let axes = mapped entry_in_c c.args.r.axes c.map.result (omega (arith, m.long))
    (λ i d e h. let k = (m.at i d e (omega arith)).2.met in search rules) in
    λ i. record { answer = answer_in_c (c.into.ensures i); axes = axes i }
