-- Demand 3, the limits on cells, the exact start and what is left of a sway that fits only
-- nearly hold of every accepted call, in either order of its rows: `demand3`,
-- `cell-limits`, `exact-start`, `sway-left`. Each row of a backward call is the forward
-- call's row for that tick: `same_rows`. Each position cell is the sum taken from the
-- landing end, rounded once: `cells-from-landing`.
use Rattle.std.specs.Prelude.{Some}
use Prim.Native.Nat.{ℕ, zero, suc, ◌+◌, ◌-◌, ◌*◌, ◌≤◌, ◌<◌}
use mathlib.Core.Path.{◌≡◌, refl, sym, ap, ap₂, ◌∙◌, subst}
use mathlib.Core.List.{List, [], ◌∷◌, ◌++◌, map}
use native.Mathlib.Omega.{arith}
use native.Mathlib.Nat as N
use lib.ListN.{get_or, length, drop, length-append, get_or-append}
use Rattle.std.specs.Prelude.{slice_get}
use lib.Seq.{get_or-take}
use lib.IntN.{ℤ, pos, nat_abs, ◌+ℤ◌, ◌-ℤ◌, ◌*ℤ◌}
use Rattle.model.specs.declared.Axis.{Axis}
use Rattle.model.specs.declared.Answer.{Answer}
use Rattle.model.specs.declared.Order.{Order}
use Rattle.model.specs.declared.Order.TheVariants.{Forwards, Backwards}
use Rattle.whole.specs.Integers.{nearest_quotient}
use Rattle.model.specs.planning.Rows.{planned_axis, blend, divisor, cells, row_at, table}
use Rattle.theorems.specs.Rows.{from_landing, SameRows, CellsFromLanding}
use Rattle.model.specs.planning.Job.{Job, JobAxis, axes_of}
use Rattle.model.specs.planning.Motion.{reachable}
use Rattle.model.specs.planning.Demand.{table_in, cell_at, position_cell, velocity_cell, acceleration_cell, Lands}
use Rattle.model.specs.planning.Demand.{Carries}
use Rattle.model.specs.planning.Demand.{SwayCancelled, Demand3, Demand3Holds, CellLimits, CellLimitsHold}
use Rattle.model.specs.planning.Demand.{ExactStart, ExactStartHolds}
use Rattle.theorems.specs.Misfit.{planned_variation, rounding_left, SwayLeft, SwayLeftHolds}
use Rattle.model.specs.planning.Outcome.{Outcome, Input, call, call_in, input_axes, cells_needed}
use Rattle.whole.proofs.Tests.{T_true}
use Rattle.whole.proofs.Elements.{at-below, element}
use Rattle.theorems.proofs.tables.CellPlaces.{row-place, table-length, table_at}
use Rattle.model.specs.planning.Refusals.{Plannable, AllPassed}
use Rattle.theorems.specs.Verdict.{Among, IsArrival, Refuses, Verdict, CallVerdict, accepted, refused3, refused4}
use Rattle.theorems.specs.Verdict.{refused12, refused5, refused15, refused6, refused16, refused17, refused13}
use Rattle.theorems.specs.Verdict.{refused8, refused9, refused10}
use Rattle.model.specs.planning.Quantities.{speed_limit, acceleration_limit}
use Rattle.theorems.proofs.tables.CellLimits as L
use Rattle.theorems.proofs.tables.ExactStart as S
use Rattle.theorems.proofs.jobs.Verdict.{passed-among, reach-is}
use Rattle.theorems.proofs.words.WordsAre.{either-said}
use Rattle.theorems.proofs.calls.CallVerdict.{call-verdict}
use Rattle.theorems.proofs.tables.TwoBlends.{both, both_divisor, cell-both, position-both}
use Rattle.theorems.proofs.tables.Landing.{lands-position, lands-velocity, lands-acceleration}
use Rattle.theorems.proofs.tables.FromLanding.{sums-from-landing}
use Rattle.theorems.proofs.tables.Carry.{carries-position, carries-velocity}
use Rattle.theorems.proofs.tables.SwayExact.{sway-same}
use Rattle.theorems.proofs.jobs.Ordered.{answer-stays, rows-turn}
use Rattle.theorems.proofs.tables.SwayCancelled.{left-exact, left-rounded, cancelled-exact, cancelled-rounded}

module _ (o : Order) (xs : List Axis) (n : ℕ) (lent rest : List ℤ) (is : lent ≡ table o xs n ++ rest)
    (plannable : (i : ℕ) (x : Axis) → slice_get xs i ≡ Some x → Plannable x n) where
  -- the place of cell j of axis i in the row at place r
  abbrev place_of : ℕ → ℕ → ℕ → ℕ
  place_of i j r = 3 * (length xs * r + i) + j

  place_inside : (i j r : ℕ) (x : Axis) → slice_get xs i ≡ Some x → j < 3 → r ≤ n
      → place_of i j r < cells_needed (length xs) n
  place_inside i j r x e hj h =
      omega (
        arith,
        at-below xs i x e,
        N.mul_assoc 3 (length xs) (suc n),
        N.mul-suc (length xs) n,
        N.mul-le-mul_left (length xs) h,
      )

  -- a cell of the row of tick k
  cell-is : (i j k : ℕ) (x : Axis) → slice_get xs i ≡ Some x → j < 3 → k ≤ n
      → cell_at (table_in o xs n lent) i j k ≡ get_or (cells k (planned_axis n x)) j (pos 0)
  cell-is i j k x e hj hk =
      let at : ℕ = place_of i j (row_at o n k) in
      let inside : at < cells_needed (length xs) n = place_inside i j (row_at o n k) x e hj (row-place o n k hk) in
      get_or-take (cells_needed (length xs) n) lent at (pos 0) inside
      ∙ ap (λ (l : List ℤ). get_or l at (pos 0)) is
      ∙ get_or-append (table o xs n) rest (pos 0) at (subst (λ (m : ℕ). at < m) (sym (table-length o xs n)) inside)
      ∙ table_at o xs n i j k x (pos 0) e hj hk

  module _ (i : ℕ) (x : Axis) (e : slice_get xs i ≡ Some x) where
    g : Plannable x n
    g = plannable i x e

    -- the cells of row k, from the two blends
    p : ℕ → ℤ
    p k = nearest_quotient (both (planned_axis n x) k (λ s. s.position)) (2 * both_divisor x)

    v : ℕ → ℤ
    v k = nearest_quotient (both (planned_axis n x) k (λ s. s.velocity)) (both_divisor x)

    a : ℕ → ℤ
    a k = nearest_quotient (both (planned_axis n x) k (λ s. s.acceleration)) (both_divisor x)

    position-is : (k : ℕ) → k ≤ n → position_cell (table_in o xs n lent) i k ≡ p k
    unfolding p
    position-is k h = cell-is i 0 k x e (omega arith) h ∙ position-both (planned_axis n x) k (λ s. s.position)

    velocity-is : (k : ℕ) → k ≤ n → velocity_cell (table_in o xs n lent) i k ≡ v k
    unfolding v
    velocity-is k h = cell-is i 1 k x e (omega arith) h ∙ cell-both (planned_axis n x) k (λ s. s.velocity)

    acceleration-is : (k : ℕ) → k ≤ n → acceleration_cell (table_in o xs n lent) i k ≡ a k
    unfolding a
    acceleration-is k h = cell-is i 2 k x e (omega arith) h ∙ cell-both (planned_axis n x) k (λ s. s.acceleration)

    p-is : (k : ℕ) → k ≤ n → p k ≡ position_cell (table_in o xs n lent) i k
    p-is k h = sym (position-is k h)

    v-is : (k : ℕ) → k ≤ n → v k ≡ velocity_cell (table_in o xs n lent) i k
    v-is k h = sym (velocity-is k h)

    a-is : (k : ℕ) → k ≤ n → a k ≡ acceleration_cell (table_in o xs n lent) i k
    a-is k h = sym (acceleration-is k h)

    lands : Lands x i n (table_in o xs n lent)
    unfolding p v a
    lands =
        record {
          position = position-is n (omega arith) ∙ lands-position x n g;
          velocity = velocity-is n (omega arith) ∙ lands-velocity x n g;
          acceleration = acceleration-is n (omega arith) ∙ lands-acceleration x n g;
        }

    miss-p : (k : ℕ) → k < n → nat_abs (pos 2 *ℤ p k +ℤ pos 2 *ℤ v k +ℤ a k -ℤ pos 2 *ℤ p (suc k)) ≤ 3
    unfolding p v a
    miss-p k h = carries-position x n g k h

    miss-v : (k : ℕ) → k < n → nat_abs (pos 2 *ℤ (v k +ℤ a k -ℤ v (suc k))) ≤ 3
    unfolding v a
    miss-v k h = carries-velocity x n g k h

    carries : (k : ℕ) → k < n → Carries i k (table_in o xs n lent)
    carries k h =
        record {
          position = subst (λ (z : ℤ). nat_abs z ≤ 3)
              (ap₂ (λ (y z : ℤ). y -ℤ pos 2 *ℤ z)
              (ap₂ (λ (y z : ℤ). y +ℤ z)
              (ap₂ (λ (y z : ℤ). pos 2 *ℤ y +ℤ pos 2 *ℤ z) (p-is k (omega arith)) (v-is k (omega arith)))
              (a-is k (omega arith)))
              (p-is (suc k) h))
              (miss-p k h);
          velocity = subst (λ (z : ℤ). nat_abs (pos 2 *ℤ z) ≤ 3)
              (ap₂ (λ (y z : ℤ). y -ℤ z)
              (ap₂ (λ (y z : ℤ). y +ℤ z) (v-is k (omega arith)) (a-is k (omega arith))) (v-is (suc k) h))
              (miss-v k h);
        }

    stills : SwayCancelled x i n (table_in o xs n lent)
    unfolding a
    stills =
        record {
          once = λ k h. cell-is i 2 k x e (omega arith) h;
          exact = λ m w h s. cancelled-exact x n g m w h s;
          rounded = λ m G w h s b.
              subst (λ (z : ℤ). nat_abs z ≤ n * G) (sway-same a (acceleration_cell (table_in o xs n lent) i) w m n a-is)
              (cancelled-rounded x n g m G w h s b);
        }

    left : SwayLeft planned_variation x i n (table_in o xs n lent)
    unfolding a
    left =
        record {
          exact = λ m E w h f. left-exact x n g m E w h f;
          rounded = λ m E G w h f b.
              subst (λ (z : ℤ). divisor x * nat_abs z ≤ planned_variation x n * E + divisor x * rounding_left n G)
              (sway-same a (acceleration_cell (table_in o xs n lent) i) w m n a-is) (left-rounded x n g m E G w h f b);
        }

  whole : cells_needed (length xs) n ≤ length lent
  whole = omega (arith, table-length o xs n, ap length is ∙ length-append (table o xs n) rest)

  pub demanded : Demand3 o xs n lent
  demanded =
      record {
        whole = whole;
        lands = lands;
        carries = λ i k h q. let y : (x : Axis) × (slice_get xs i ≡ Some x) = element xs i h in
            carries i y.0 y.1 k q;
        sway = stills;
      }

  limited : CellLimits o xs n lent
  unfolding v a
  limited =
      record {
        velocities = λ i k x e h.
            subst (λ (z : ℤ). nat_abs z ≤ 256 * speed_limit x) (sym (velocity-is i x e k h))
            (L.velocity-cell x n (plannable i x e) k h);
        accelerations = λ i k x e h.
            subst (λ (z : ℤ). nat_abs z ≤ 256 * acceleration_limit x) (sym (acceleration-is i x e k h))
            (L.acceleration-cell x n (plannable i x e) k h);
      }

  started : ExactStart o xs n lent
  unfolding p v
  started =
      record {
        positions = λ i x e. position-is i x e 0 (omega arith) ∙ S.start-position x n (plannable i x e);
        velocities = λ i x e. velocity-is i x e 0 (omega arith) ∙ S.start-velocity x n (plannable i x e);
      }

-- an axis of a job without its number
unnumbered : (l : List JobAxis) (i : ℕ) (x : Axis) → slice_get (map (λ y. y.axis) l) i ≡ Some x
    → (y : JobAxis) × (Among l y × (y.axis ≡ x))
unnumbered [] i x e = absurd (let z : ◌≡◌ {A = ℕ} 0 1 = cc in omega arith)
unnumbered (y ∷ l) zero x e = (y, ((zero, refl), cc))
unnumbered (y ∷ l) (suc i) x e = let r = unnumbered l i x e in (r.0, ((suc r.1.0.0, r.1.0.1), r.1.1))

-- an accepted job's axes can all be planned
pub all-plannable : (j : Job) (n : ℕ) → AllPassed j.axes → IsArrival j n → (i : ℕ) (x : Axis)
    → slice_get (axes_of j) i ≡ Some x → Plannable x n
all-plannable j n p a i x q =
    let y = unnumbered j.axes i x q in
    let g = passed-among j.axes p y.0 y.1.0 in
    subst (λ (x : Axis). Plannable x n) y.1.1
    (record {
      passed = g;
      tick = a.last;
      reach = T_true (reachable y.0.axis n) ((reach-is y.0.axis n g).0 (a.arrives.reached y.0 y.1.0));
    })

-- what holds of the forward table of every job that can be planned holds of every accepted forward
-- call
module _ (Claim : List Axis → ℕ → List ℤ → Type 0)
    (holds : (xs : List Axis) (n : ℕ) (lent rest : List ℤ) → lent ≡ table Forwards xs n ++ rest
    → ((i : ℕ) (x : Axis) → slice_get xs i ≡ Some x → Plannable x n) → Claim xs n lent) where
  -- only an accepted job has number 0
  by-verdict : (j : Job) (lent : List ℤ) (o : Outcome) → Verdict Forwards j lent o → o.number ≡ 0
      → Claim (axes_of j) o.arrival o.cells
  by-verdict j lent o (accepted n p w a room e) z =
      subst (λ (m : ℕ). Claim (axes_of j) m o.cells) (sym e.arrival)
      (holds (axes_of j) n o.cells (drop (cells_needed (length (axes_of j)) n) lent) e.cells (all-plannable j n p a))
  by-verdict j lent o (refused3 a e) z = absurd (let n = e.number in omega arith)
  by-verdict j lent o (refused4 i a b e) z = absurd (let n = e.number in omega arith)
  by-verdict j lent o (refused12 i a b c e) z = absurd (let n = e.number in omega arith)
  by-verdict j lent o (refused5 i a b c d e) z = absurd (let n = e.number in omega arith)
  by-verdict j lent o (refused15 i a b c d f e) z = absurd (let n = e.number in omega arith)
  by-verdict j lent o (refused6 i a b c d f g e) z = absurd (let n = e.number in omega arith)
  by-verdict j lent o (refused16 i a b c d f g k e) z = absurd (let n = e.number in omega arith)
  by-verdict j lent o (refused17 i a b c d f g k l e) z = absurd (let n = e.number in omega arith)
  by-verdict j lent o (refused13 p a b c e) z = absurd (let n = e.number in omega arith)
  by-verdict j lent o (refused8 m a b c w d f e) z = absurd (let n = e.number in omega arith)
  by-verdict j lent o (refused9 m a b w c d e) z = absurd (let n = e.number in omega arith)
  by-verdict j lent o (refused10 n a w b c e) z = absurd (let n = e.number in omega arith)

  by_call : (q : Input) (lent : List ℤ) (o : Outcome) → CallVerdict Forwards lent o q → o.number ≡ 0
      → Claim (input_axes q) o.arrival o.cells
  by_call q lent o v z =
      either-said (λ n p. Refuses o n p 0 0 lent) (λ j. Verdict Forwards j lent o)
      (Claim (input_axes q) o.arrival o.cells) q
      (λ n p w r. absurd (w.not-0 (sym r.number ∙ z)))
      (λ j e w. subst (λ (i : Job). Claim (axes_of i) o.arrival o.cells) (sym e) (by-verdict j lent o w z)) v

  of-forward-calls : (q : Input) (lent : List ℤ) → (call q lent).number ≡ 0
      → Claim (input_axes q) (call q lent).arrival (call q lent).cells
  of-forward-calls q lent z = by_call q lent (call q lent) (call-verdict q lent) z

-- an accepted call's axes can all be planned
abbrev pub Planned : List Axis → ℕ → Type 0
Planned xs n = (i : ℕ) (x : Axis) → slice_get xs i ≡ Some x → Plannable x n

planned-axes : (q : Input) (lent : List ℤ) → (call q lent).number ≡ 0 → Planned (input_axes q) (call q lent).arrival
planned-axes = of-forward-calls (λ xs n cells. Planned xs n) (λ xs n lent rest is plannable. plannable)

-- the same in either order
module _ (Claim : Order → List Axis → ℕ → List ℤ → Type 0)
    (holds : (o : Order) (xs : List Axis) (n : ℕ) (lent rest : List ℤ) → lent ≡ table o xs n ++ rest
    → Planned xs n → Claim o xs n lent) where
  of_calls : (o : Order) (q : Input) (lent : List ℤ) → (call_in o q lent).number ≡ 0
      → Claim o (input_axes q) (call_in o q lent).arrival (call_in o q lent).cells
  of_calls Forwards q lent z = of-forward-calls (Claim Forwards) (holds Forwards) q lent z
  of_calls Backwards q lent z =
      let xs = input_axes q in
      let r = call q lent in
      let zero : r.number ≡ 0 = sym (ap (λ (a : Answer). a.number) (answer-stays xs lent r Backwards)) ∙ z in
      subst (λ (s : Outcome). Claim Backwards xs s.arrival s.cells) (rows-turn xs lent r zero)
      (holds Backwards xs r.arrival _ (drop (cells_needed (length xs) r.arrival) lent) refl
      (planned-axes q lent zero))

pub plannable-axes : (o : Order) (q : Input) (lent : List ℤ) → (call_in o q lent).number ≡ 0
    → Planned (input_axes q) (call_in o q lent).arrival
plannable-axes = of_calls (λ o xs n lent. Planned xs n) (λ o xs n lent rest is plannable. plannable)

pub demand3 : Demand3Holds
demand3 = of_calls Demand3 demanded

pub cell-limits : CellLimitsHold
cell-limits = of_calls CellLimits limited

pub exact-start : ExactStartHolds
exact-start = of_calls ExactStart started

pub sway-left : SwayLeftHolds planned_variation
sway-left =
    of_calls (λ o xs n lent. (i : ℕ) (x : Axis) → slice_get xs i ≡ Some x
    → SwayLeft planned_variation x i n (table_in o xs n lent)) left

-- ---- each row is that of its tick, in either order

abbrev CellsByTick : Order → List Axis → ℕ → List ℤ → Type 0
CellsByTick o xs n lent =
    (i j k : ℕ) (x : Axis) → slice_get xs i ≡ Some x → j < 3 → k ≤ n
    → cell_at (table_in o xs n lent) i j k ≡ get_or (cells k (planned_axis n x)) j (pos 0)

cells-by-tick : (o : Order) (q : Input) (lent : List ℤ) → (call_in o q lent).number ≡ 0
    → CellsByTick o (input_axes q) (call_in o q lent).arrival (call_in o q lent).cells
cells-by-tick = of_calls CellsByTick cell-is

pub same_rows : SameRows
same_rows q lent z i j k h hj hk =
    let xs = input_axes q in
    let r = call q lent in
    let answer = answer-stays xs lent r Backwards in
    let y : (x : Axis) × (slice_get xs i ≡ Some x) = element xs i h in
    let back = subst (λ (n : ℕ). CellsByTick Backwards xs n (call_in Backwards q lent).cells)
    (ap (λ (a : Answer). a.arrival) answer)
    (cells-by-tick Backwards q lent (ap (λ (a : Answer). a.number) answer ∙ z)) in
    back i j k y.0 y.1 hj hk ∙ sym (cells-by-tick Forwards q lent z i j k y.0 y.1 hj hk)

-- ---- the position cells, by the sums taken from the landing end

abbrev FromLanding : Order → List Axis → ℕ → List ℤ → Type 0
FromLanding o xs n lent =
    (i k : ℕ) (x : Axis) → slice_get xs i ≡ Some x → k ≤ n
    → position_cell (table_in o xs n lent) i k ≡ nearest_quotient (from_landing x n (n - k)) (2 * divisor x)

from-landing : (o : Order) (xs : List Axis) (n : ℕ) (lent rest : List ℤ) → lent ≡ table o xs n ++ rest
    → Planned xs n → FromLanding o xs n lent
from-landing o xs n lent rest is plannable i k x e h =
    let back : n - (n - k) ≡ k = omega (arith, h) in
    cell-is o xs n lent rest is plannable i 0 k x e (omega arith) h
    ∙ ap (λ (z : ℤ). nearest_quotient z (2 * divisor x))
    (sym (sums-from-landing x n (plannable i x e) (n - k) (omega arith)
    ∙ ap (λ (j : ℕ). blend (planned_axis n x) j (λ s. s.position)) back))

pub cells-from-landing : CellsFromLanding
cells-from-landing = of_calls FromLanding from-landing
