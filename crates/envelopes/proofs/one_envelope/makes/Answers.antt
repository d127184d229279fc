use Prim.Native.Nat.{ℕ, ◌-◌, ◌*◌, ◌≤◌}
use mathlib.Core.Path.{◌≡◌, sym, ap, subst, ◌∙◌}
use lib.IntN.{pos, neg_ℤ, nat_abs, ◌+ℤ◌, ◌-ℤ◌, ◌*ℤ◌, +ℤ_idl}
use lib.Signed.{le_z, ◌≤ℤ◌, ◌<ℤ◌}
use mir.Syntax.{w64}
use mir.Val.{to_z, of_z}
use Rattle.whole.specs.Integers.{sum_to}
use Rattle.whole.specs.Ranges.{Is}
use Rattle.whole.proofs.Bounds.{sfits, within, exactly, exact, computed, cast-small, lt-taken, lt-left}
use Rattle.model.specs.planning.Leg.{Leg, upper, required}
use Rattle.theorems.proofs.legs.Envelopes.{Joined}
use Rattle.profile.specs.Profiles.{leg_of, Ranged, Joinable}
use Rattle.profile.proofs.FeasibleParts.{joined-ends}
use Rattle.envelopes.proofs.EnvelopeSums.{mirrored}
use Rattle.envelopes.proofs.OneEnvelope.{ahead, behind, mirrored-joined}
use Rattle.envelopes.proofs.one_envelope.makes.Goals as goal

-- the first test: the ends are near enough to one another, h being made of the fields
joined : (h p : Leg) (n : ℕ) → h ≡ p → Ranged h → nat_abs p.start ≤ p.speed_limit → nat_abs p.end ≤ p.speed_limit
    → n ≡ nat_abs (to_z w64 (of_z w64 (to_z w64 (of_z w64 h.end) -ℤ to_z w64 (of_z w64 h.start))))
    → n ≤ h.acceleration_limit * h.ticks
    → Joined p
joined h p n v r s e q t =
    let x : to_z w64 (of_z w64 (to_z w64 (of_z w64 h.end) -ℤ to_z w64 (of_z w64 h.start))) ≡ h.end -ℤ h.start =
    exactly (search computed depth 9) tt in
    record {
      start = s;
      end = e;
      apart =
          subst (λ (l : Leg). nat_abs (l.end -ℤ l.start) ≤ l.acceleration_limit * l.ticks) v
          (subst (λ (n : ℕ). n ≤ h.acceleration_limit * h.ticks) (q ∙ ap nat_abs x) t);
    }

ticks-is : (h : Leg) → Ranged h → Is 4096 (to_z w64 h.ticks) (pos h.ticks)
ticks-is h r = cast-small 4096 h.ticks r.ticks tt

pub overflow_mul-line : goal.overflow_mul-line
overflow_mul-line c =
    let r = c.p.invariant in
    let t = ticks-is (leg_of c.p.inside) r in
    sfits (search computed depth 20) tt

pub overflow_sub-displacement : goal.overflow_sub-displacement
overflow_sub-displacement c = sfits (search exact depth 9) tt

pub comes_up-requires-clause-joinable : goal.comes_up-requires-clause-joinable
comes_up-requires-clause-joinable c =
    let p = c.args.p in
    let q = c.requires in
    let j = joined (leg_of c.p.inside) p c.unsigned_abs.result c.p.view_is c.p.invariant
    q.start_bound q.end_bound c.unsigned_abs.ensures.value
    c.if-unsigned_abs-p.false in
    subst Joinable (sym c.mirrored.ensures)
    (record {
      acceleration = q.acceleration_limit_nonzero;
      some = q.ticks_nonzero;
      ends = joined-ends (mirrored p) (mirrored-joined p j);
    })

pub comes_up-requires-clause-within : goal.comes_up-requires-clause-within
comes_up-requires-clause-within c = within (search exact depth 9) tt

pub comes_up-requires-else-displacement-line-clause-joinable
    : goal.comes_up-requires-else-displacement-line-clause-joinable
comes_up-requires-else-displacement-line-clause-joinable c =
    let p = c.args.p in
    let q = c.requires in
    let j = joined (leg_of c.p.inside) p c.unsigned_abs.result c.p.view_is c.p.invariant
    q.start_bound q.end_bound c.unsigned_abs.ensures.value
    c.if-unsigned_abs-p.false in
    record {
      acceleration = q.acceleration_limit_nonzero;
      some = q.ticks_nonzero;
      ends = joined-ends p j;
    }

pub returns-then-displacement-line : goal.returns-then-displacement-line
returns-then-displacement-line c =
    let a = c.args in
    let p = a.p in
    let q = c.requires in
    let r = c.p.invariant in
    let t = ticks-is (leg_of c.p.inside) r in
    let j = joined (leg_of c.p.inside) p c.unsigned_abs.result c.p.view_is c.p.invariant
    q.start_bound q.end_bound c.unsigned_abs.ensures.value
    c.if-unsigned_abs-p.false in
    let d : to_z w64 (of_z w64 (pos 0 -ℤ to_z w64 (of_z w64 a.displacement))) ≡ neg_ℤ a.displacement =
    exactly (search exact depth 9) tt ∙ +ℤ_idl (neg_ℤ a.displacement) in
    let far : a.displacement <ℤ (pos p.ticks *ℤ (p.start +ℤ p.end)) =
    subst (λ (l : Leg). a.displacement <ℤ (pos l.ticks *ℤ (l.start +ℤ l.end))) c.p.view_is
    (lt-taken c.if-displacement-line.true (search computed depth 20) tt) in
    c.comes_up.ensures
    ∙ (λ i. le_z (required (c.mirrored.ensures i) (d i))
    (sum_to (upper (c.mirrored.ensures i)) ((c.mirrored.ensures i).ticks - 1)))
    ∙ behind p a.displacement q.ticks_nonzero q.acceleration_limit_nonzero
    (subst Ranged c.p.view_is r).speed_limit j far
    q.displacement_value

pub returns-else-displacement-line : goal.returns-else-displacement-line
returns-else-displacement-line c =
    let a = c.args in
    let p = a.p in
    let q = c.requires in
    let r = c.p.invariant in
    let t = ticks-is (leg_of c.p.inside) r in
    let j = joined (leg_of c.p.inside) p c.unsigned_abs.result c.p.view_is c.p.invariant
    q.start_bound q.end_bound c.unsigned_abs.ensures.value
    c.if-unsigned_abs-p.false in
    let d : to_z w64 (of_z w64 a.displacement) ≡ a.displacement = exactly (search exact depth 9) tt in
    let far : (pos p.ticks *ℤ (p.start +ℤ p.end)) ≤ℤ a.displacement =
    subst (λ (l : Leg). (pos l.ticks *ℤ (l.start +ℤ l.end)) ≤ℤ a.displacement) c.p.view_is
    (lt-left c.if-displacement-line.false (search computed depth 20) tt) in
    c.comes_up-else-displacement-line.ensures
    ∙ (λ i. le_z (required p (d i)) (sum_to (upper p) (p.ticks - 1)))
    ∙ ahead p a.displacement q.ticks_nonzero j far q.displacement_value
