use Prim.Native.Nat.{ℕ, suc, ◌+◌, ◌-◌, ◌*◌, ◌/◌, ◌^◌, ◌≤◌, ◌<◌}
use mathlib.Core.Path.{◌≡◌, ap, ◌∙◌}
use native.Mathlib.Numerals.{add-one}
use native.Mathlib.Omega.{arith}
use lib.IntN.{ℤ, pos, nat_abs, ◌+ℤ◌, ◌-ℤ◌}
use mir.Syntax.{w64}
use mir.Val.{to_z, of_z}
use Rattle.whole.specs.Integers.{least}
use Rattle.whole.specs.Ranges.{Within, Is}
use Rattle.whole.proofs.Bounds.{sfits, exactly, exact, computed, is-of, then_is}
use Rattle.envelopes.specs.Sums.{crossing, peak_of}
use Rattle.envelopes.proofs.EnvelopeSums.{m-late}
use Rattle.envelopes.proofs.sums.peak_of.Goals as goal

-- the way that is halved, as the code has it
abbrev way : ℤ → ℤ → ℤ → ℤ
way s e r =
    to_z w64 (of_z w64
    (to_z w64 (of_z w64 (to_z w64 (of_z w64 e) -ℤ to_z w64 (of_z w64 s))) +ℤ to_z w64 (of_z w64 r)))

-- where the ramps cross
cross-is : (a : ℕ) (s e r : ℤ) (t : ℕ) → Within (2 ^ 37) s → Within (2 ^ 37) e → Is (2 ^ 46) r (pos (a * t))
    → nat_abs (way s e r) / (2 * a) ≡ crossing a s e t
unfolding crossing
cross-is a s e r t p q h =
    let w : way s e r ≡ e -ℤ s +ℤ pos (a * t) = exactly (search exact depth 20) tt in
    ap (λ (x : ℤ). nat_abs x / (2 * a)) w

-- of a leg of these ramps, with a speed limit that they keep
late : (a : ℕ) (s e : ℤ) (t : ℕ) → 0 < a → Within (a * t) (e -ℤ s) → crossing a s e t ≤ t
late a s e t some near =
    m-late
    (record { ticks = t; start = s; end = e; speed_limit = nat_abs s + nat_abs e; acceleration_limit = a })
    (record { start = omega arith; end = omega arith; apart = near.within })
    some

pub overflow_add-way : goal.overflow_add-way
overflow_add-way c = sfits (search computed depth 20) tt

pub change_after-requires-2-clause-k_bound : goal.change_after-requires-2-clause-k_bound
change_after-requires-2-clause-k_bound c =
    let a = c.args in
    let q = c.requires in
    let n = cross-is a.limit a.start a.end c.change_after.result a.ticks q.within q.within_2 c.change_after.ensures in
    let m = late a.limit a.start a.end a.ticks q.limit_nonzero q.within_3 in
    omega arith

pub overflow_sub-ticks : goal.overflow_sub-ticks
overflow_sub-ticks c =
    let a = c.args in
    let q = c.requires in
    let n = cross-is a.limit a.start a.end c.change_after.result a.ticks q.within q.within_2 c.change_after.ensures in
    let m = late a.limit a.start a.end a.ticks q.limit_nonzero q.within_3 in
    omega arith

pub returns : goal.returns
unfolding peak_of
returns c =
    let a = c.args in
    let q = c.requires in
    let n = cross-is a.limit a.start a.end c.change_after.result a.ticks q.within q.within_2 c.change_after.ensures in
    let m : nat_abs (way a.start a.end c.change_after.result) / (2 * a.limit) + 1
    ≡ suc (crossing a.limit a.start a.end a.ticks) =
    ap (λ (k : ℕ). k + 1) n ∙ add-one _ in
    then_is (is-of (search computed depth 30 fits 9000) tt)
    (λ i. least (a.start +ℤ pos (a.limit * m i)) (a.end +ℤ pos (a.limit * (a.ticks - n i))))
