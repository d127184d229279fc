-- The planned motion of the definition, tick by tick: the velocities are those of the plan, and
-- each tick goes on by the velocities at its two ends.
use mathlib.Core.Path.{◌≡◌, refl, ap, ap₂, ◌∙◌}
use Rattle.whole.proofs.Ring.{pol, same}
use mathlib.Core.List.{List, [], ◌∷◌, ◌++◌}
use Prim.Native.Nat.{ℕ, zero, suc, ◌+◌, ◌-◌, ◌<◌, ◌≤◌}
use native.Mathlib.Omega.{arith}
use lib.IntN.{ℤ, pos, ◌+ℤ◌, ◌-ℤ◌, ◌*ℤ◌}
use lib.ListN.{get_or, replicate}
use Rattle.model.specs.declared.Axis.{Axis}
use Rattle.model.specs.planning.Quantities.{delay}
use Rattle.model.specs.planning.Leg.{Leg}
use Rattle.model.specs.planning.Motion.{Tick, run, changes_from, leg, displacement, start_velocity, planned, earlier}
use Rattle.model.specs.planning.Motion.{landing_tick}
use Rattle.model.specs.planning.Refusals.{Plannable}
use Rattle.model.specs.planning.Rows.{planned_axis, tick_at, tabulate}
use Rattle.theorems.proofs.jobs.PlannableAxis.{some-acceleration, speed-range, moves}
use Rattle.regions.specs.Regions.{velocity_in}
use Rattle.regions.proofs.ChosenRegions.{chosen-in-regions}
use Rattle.motion.proofs.PlannableAxis.{plannable-after}
use Rattle.planned.specs.declared.AxisPlan.{AxisPlan}
use Rattle.planned.specs.Plans.{plan_of, planned_at}
use Rattle.planned.proofs.Velocities.{planned-before, planned-start, lands, goes_on}

-- ---- the ticks of a plan

unfoldable pub planned_position : AxisPlan → ℕ → ℤ
planned_position p zero = p.origin
planned_position p (suc k) = planned_position p k +ℤ planned_at p k +ℤ planned_at p (suc k)

abbrev tick_from : ℤ → ℤ → ℤ → Tick
tick_from q v w = record { position = q; velocity = v; acceleration = w -ℤ v }

abbrev pub plan_tick : AxisPlan → ℕ → Tick
plan_tick p k = tick_from (planned_position p k) (planned_at p k) (planned_at p (suc k))

-- where a tick from position q goes
abbrev on_to : AxisPlan → ℕ → ℤ → ℤ
on_to p i q = q +ℤ planned_at p i +ℤ planned_at p (suc i)

-- c ticks from tick i on, from position q
walk : AxisPlan → ℕ → ℤ → ℕ → List Tick
walk p i q zero = []
walk p i q (suc c) = tick_from q (planned_at p i) (planned_at p (suc i)) ∷ walk p (suc i) (on_to p i q) c

-- ---- a run over accelerations is a walk over velocities

-- one tick, to velocity w
one : (q v w : ℤ) (αs : List ℤ) → run q v ((w -ℤ v) ∷ αs) ≡ tick_from q v w ∷ run (q +ℤ v +ℤ w) w αs
one q v w αs = ap₂ (λ (z y : ℤ). tick_from q v w ∷ run z y αs) (far q v w) (fast v w)
  where
    far : (q v w : ℤ) → q +ℤ pos 2 *ℤ v +ℤ (w -ℤ v) ≡ q +ℤ v +ℤ w
    far q v w = same (q ∷ v ∷ w ∷ []) (search pol depth 20 fits 9000) tt

    fast : (v w : ℤ) → v +ℤ (w -ℤ v) ≡ w
    fast v w = same (v ∷ w ∷ []) (search pol depth 20 fits 9000) tt

-- one tick of a walk, from a run to the velocity that the plan has there
onward : (p : AxisPlan) (i c : ℕ) (q w : ℤ) (αs : List ℤ) → w ≡ planned_at p (suc i)
    → run (on_to p i q) (planned_at p (suc i)) αs ≡ walk p (suc i) (on_to p i q) c
    → run q (planned_at p i) ((w -ℤ planned_at p i) ∷ αs) ≡ walk p i q (suc c)
unfolding walk
onward p i c q w αs e h =
    ap (λ (z : ℤ). run q (planned_at p i) ((z -ℤ planned_at p i) ∷ αs)) e
    ∙ one q (planned_at p i) (planned_at p (suc i)) αs
    ∙ ap (λ (l : List Tick). tick_from q (planned_at p i) (planned_at p (suc i)) ∷ l) h

-- from the landing on
steady : (p : AxisPlan) (c i : ℕ) (q : ℤ) → p.regions.ticks ≤ i
    → run q (planned_at p i) (replicate c p.acceleration) ≡ walk p i q c
unfolding walk
steady p zero i q h = refl
steady p (suc c) i q h =
    ap (λ (α : ℤ). run q v (α ∷ replicate c p.acceleration)) {x = p.acceleration} (less v p.acceleration)
    ∙ onward p i c q (v +ℤ p.acceleration) (replicate c p.acceleration) (goes_on p i h)
    (steady p c (suc i) (on_to p i q) (omega arith))
  where
    v : ℤ
    v = planned_at p i

    less : (v a : ℤ) → a ≡ (v +ℤ a) -ℤ v
    less v a = same (v ∷ a ∷ []) (search pol depth 20 fits 9000) tt

-- the changes along the velocities ws after tick i, to the landing, and c ticks of the acceleration
-- after it
abbrev along : AxisPlan → ℕ → ℕ → List ℤ → List ℤ
along p c i ws = changes_from (planned_at p i) (ws ++ (p.regions.end ∷ [])) ++ replicate c p.acceleration

-- from tick i on, where j ticks are left before the landing tick
up-to-landing : (p : AxisPlan) (j i c : ℕ) (q : ℤ) → i + suc j ≡ p.regions.ticks
    → run q (planned_at p i) (along p c i (tabulate (velocity_in p.regions) (suc i) j)) ≡ walk p i q (suc (j + c))
up-to-landing p zero i c q h =
    onward p i c q p.regions.end (replicate c p.acceleration) (lands p (suc i) (omega arith))
    (steady p c (suc i) (on_to p i q) (omega arith))
    ∙ ap (λ (m : ℕ). walk p i q (suc m)) {x = c} {y = zero + c} (omega arith)
up-to-landing p (suc j) i c q h =
    ap (λ (v : ℤ). run q (planned_at p i) (along p c i (v ∷ tabulate (velocity_in p.regions) (suc (suc i)) j)))
    (planned-before p (suc i) (omega arith))
    ∙ onward p i (suc (j + c)) q (planned_at p (suc i))
    (along p c (suc i) (tabulate (velocity_in p.regions) (suc (suc i)) j)) refl
    (up-to-landing p j (suc i) c (on_to p i q) (omega arith))
    ∙ ap (λ (m : ℕ). walk p i q (suc m)) {x = suc (j + c)} {y = suc j + c} (omega arith)

module _ (x : Axis) (n : ℕ) (plannable : Plannable x n) where
  abbrev p : AxisPlan
  p = plan_of n x

  abbrev g : Leg
  g = leg x n

  -- the definition's list of accelerations, over the velocities of the plan
  abbrev over : ℤ → List ℤ → List Tick
  over v ws = run p.origin v (changes_from v ws ++ replicate (suc (delay x)) p.acceleration)

  planned-walk : planned x n ≡ walk p 0 p.origin (suc n)
  planned-walk =
      let after = plannable-after plannable in
      ap (over (start_velocity x))
      (chosen-in-regions g (displacement x n) (omega arith) (some-acceleration x n plannable)
      (speed-range x n plannable) (moves x n plannable))
      ∙ ap (λ (v : ℤ). over v (tabulate (velocity_in p.regions) 1 (landing_tick x n - 1) ++ (p.regions.end ∷ [])))
      (planned-start p (omega arith))
      ∙ up-to-landing p (landing_tick x n - 1) 0 (suc (delay x)) p.origin (omega arith)
      ∙ ap (walk p 0 p.origin) {x = suc (landing_tick x n - 1 + suc (delay x))} {y = suc n} (omega arith)

-- ---- tick k of it

walk_at : (p : AxisPlan) (c i k : ℕ) (d : Tick) → k < c
    → get_or (walk p i (planned_position p i) c) k d ≡ plan_tick p (i + k)
unfolding walk planned_position
walk_at p zero i k d h = absurd (omega arith)
walk_at p (suc c) i zero d h = ap (plan_tick p) {x = i} {y = i + zero} (omega arith)
walk_at p (suc c) i (suc k) d h =
    walk_at p c (suc i) k d (omega arith) ∙ ap (plan_tick p) {x = suc i + k} {y = i + suc k} (omega arith)

pub tick_is : (x : Axis) (n k : ℕ) → Plannable x n → k ≤ n → tick_at (planned_axis n x) k ≡ plan_tick (plan_of n x) k
unfolding planned_position
tick_is x n k plannable q =
    ap (λ (l : List Tick). get_or l k (earlier x 0)) (planned-walk x n plannable)
    ∙ walk_at (plan_of n x) (suc n) 0 k (earlier x 0) (omega arith)
    ∙ ap (plan_tick (plan_of n x)) {x = 0 + k} {y = k} (omega arith)
