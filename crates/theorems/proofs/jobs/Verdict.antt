-- Every call's outcome is what `specs/Verdict` says of its number: each refusal comes only in its
-- named case, the first in checking order, and leaves the lent list as it was; the arrival is the
-- asked one or the least common one; 8 and 9 name exactly the axes that the method says.
use Prim.Native.Nat.{ℕ, zero, suc, ◌≤◌, ◌<◌}
use mathlib.Core.Path.{◌≡◌, refl, sym, subst}
use mathlib.Core.Bool.{Bool, true, false, not, false≢true}
use mathlib.Core.List.{List, [], ◌∷◌}
use Rattle.std.specs.Prelude.{Option, None, Some}
use mathlib.Core.Logic.{◌↔◌, inl, inr}
use native.Mathlib.Omega.{arith}
use lib.Dec.{T, leb, ltb, leb→le, ltb→lt, nltb→le, nleb→lt}
use lib.IntN.{ℤ}
use lib.ListN.{length}
use Rattle.std.specs.Prelude.{slice_get}
use Rattle.whole.proofs.Tests.{by_bool, by-option, both, and, T_true, true-T}
use Rattle.whole.proofs.Elements.{none-some}
use Rattle.model.specs.declared.Axis.{Axis}
use Rattle.model.specs.declared.Order.TheVariants.{Forwards}
use Rattle.model.specs.planning.Motion.{Reachable, reachable}
use Rattle.model.specs.planning.Windows as W
use Rattle.model.specs.planning.Windows.{in_windows}
use Rattle.theorems.proofs.jobs.WindowsInWords.{in-windows, windows-in, windows-wrong, windows-right}
use Rattle.model.specs.planning.Job.{Job, JobAxis, mask_where}
use Rattle.model.specs.planning.Refusals.{last_tick, limits_refused, damping_refused, blend_refused, sway_refused}
use Rattle.model.specs.planning.Refusals.{values_refused, acceleration_refused, flying_refused, Passed, AllPassed}
use Rattle.model.specs.planning.Admission.{first_axis, Admission}
use Rattle.model.specs.planning.Outcome.{Outcome, refuse, accept, all_reach, least_from, least_arrival, arrives}
use Rattle.model.specs.planning.Outcome.{reaches_none, cells_needed, filled, arrived, outcome_after, job_outcome}
use Rattle.theorems.specs.Verdict.{Refuses, Accepts, Among, NoneRefused, FirstRefused, Names}
use Rattle.theorems.specs.Verdict.{AllReachable, ReachesNone, Arrives, IsArrival, WindowsPass, Verdict}
use Rattle.theorems.specs.Verdict.{refused3, refused4, refused12, refused5, refused15, refused6}
use Rattle.theorems.specs.Verdict.{refused16, refused17, refused13, refused8, refused9, refused10, accepted}
use Rattle.theorems.proofs.jobs.LeastTick.{Least, least-is, none_is}
use Rattle.theorems.proofs.jobs.Masks.{Ascends, names}
use Rattle.theorems.proofs.jobs.PassedAxis.{speed-limit, some-acceleration}
use Rattle.theorems.proofs.motions.Reaches.{reachable-is}

-- ---- members

pub first-among : (y : JobAxis) (l : List JobAxis) → Among (y ∷ l) y
first-among y l = (zero, refl)

pub later-among : (y : JobAxis) (l : List JobAxis) (x : JobAxis) → Among l x → Among (y ∷ l) x
later-among y l x m = (suc m.0, m.1)

-- a fact of the first and of the later members is one of all
all_among : (Q : JobAxis → Type 0) (y : JobAxis) (l : List JobAxis) → Q y → ((x : JobAxis) → Among l x → Q x)
    → (x : JobAxis) → Among (y ∷ l) x → Q x
all_among Q y l h f x (zero, e) = let s : y ≡ x = cc in subst Q s h
all_among Q y l h f x (suc k, e) = f x (k, e)

pub passed-among : (l : List JobAxis) → AllPassed l → (x : JobAxis) → Among l x → Passed x.axis
passed-among [] p x m = absurd (none-some m.1)
passed-among (y ∷ l) p x m = all_among (λ x. Passed x.axis) y l p.0 (λ z q. passed-among l p.1 z q) x m

pub all-passed : (l : List JobAxis) → NoneRefused limits_refused l → NoneRefused damping_refused l
    → NoneRefused blend_refused l → NoneRefused sway_refused l
    → NoneRefused values_refused l → NoneRefused acceleration_refused l → NoneRefused flying_refused l → AllPassed l
all-passed [] a b c d e f g = tt
all-passed (y ∷ l) a b c d e f g =
    let here = first-among y l in (
      record {
        limits = a y here;
        damping = b y here;
        blend = c y here;
        sway = d y here;
        values = e y here;
        acceleration = f y here;
        resting = g y here;
      },
      all-passed l (λ x m. a x (later-among y l x m)) (λ x m. b x (later-among y l x m))
          (λ x m. c x (later-among y l x m))
          (λ x m. d x (later-among y l x m)) (λ x m. e x (later-among y l x m)) (λ x m. f x (later-among y l x m))
          (λ x m. g x (later-among y l x m)),
    )

-- ---- the first axis that a test refuses

pub none-refused : (f : Axis → Bool) (l : List JobAxis) → first_axis f l ≡ None → NoneRefused f l
none-refused f [] e = λ x m. absurd (none-some m.1)
none-refused f (y ∷ l) e = go (f y.axis) refl e (none-refused f l)
  where
    go : (b : Bool) → f y.axis ≡ b
        → ◌≡◌ {A = Option ℕ} (elim b as (λ z. Option ℕ) [ true ↦ Some y.number | false ↦ first_axis f l ]) None
        → (first_axis f l ≡ None → NoneRefused f l) → NoneRefused f (y ∷ l)
    go true p e h = absurd (none-some (sym e))
    go false p e h = all_among (λ x. f x.axis ≡ false) y l p (h e)

first-refused : (f : Axis → Bool) (l : List JobAxis) (i : ℕ) → first_axis f l ≡ Some i → FirstRefused f l i
first-refused f [] i e = absurd (none-some e)
first-refused f (y ∷ l) i e = go (f y.axis) refl e (first-refused f l i)
  where
    before : f y.axis ≡ false → (r : FirstRefused f l i) → (k : ℕ) (z : JobAxis)
        → k < suc r.index → slice_get (y ∷ l) k ≡ Some z
        → f z.axis ≡ false
    before p r zero z h e = let s : y ≡ z = cc in subst (λ (w : JobAxis). f w.axis ≡ false) s p
    before p r (suc k) z h e = r.before k z (omega arith) e

    go : (b : Bool) → f y.axis ≡ b
        → ◌≡◌ {A = Option ℕ} (elim b as (λ z. Option ℕ) [ true ↦ Some y.number | false ↦ first_axis f l ]) (Some i)
        → (first_axis f l ≡ Some i → FirstRefused f l i) → FirstRefused f (y ∷ l) i
    go true p e h =
        record { index = 0; axis = y; here = refl; number = cc; refused = p; before = λ k z q e. absurd (omega arith) }
    go false p e h =
        let r : FirstRefused f l i = h e in
        record {
          index = suc r.index;
          axis = r.axis;
          here = r.here;
          number = r.number;
          refused = r.refused;
          before = before p r;
        }

-- ---- reach: the decision is the existence of a list

pub reach-is : (x : Axis) (n : ℕ) → Passed x → Reachable x n ↔ T (reachable x n)
reach-is x n p = reachable-is x n (some-acceleration x p) (speed-limit x p)

pub all-reach : (l : List JobAxis) (n : ℕ) → AllPassed l → T (all_reach l n) → AllReachable l n
all-reach [] n p t = λ x m. absurd (none-some m.1)
all-reach (y ∷ l) n p t = go (reachable y.axis n) (reach-is y.axis n p.0).1 t (all-reach l n p.1)
  where
    go : (b : Bool) → (T b → Reachable y.axis n) → T (elim b as (λ z. Bool) [ true ↦ all_reach l n | false ↦ false ])
        → (T (all_reach l n) → AllReachable l n) → AllReachable (y ∷ l) n
    go true r t h = all_among (λ x. Reachable x.axis n) y l (r tt) (h t)
    go false r t h = absurd t

pub reach-all : (l : List JobAxis) (n : ℕ) → AllPassed l → AllReachable l n → T (all_reach l n)
reach-all [] n p r = tt
reach-all (y ∷ l) n p r =
    go (reachable y.axis n) ((reach-is y.axis n p.0).0 (r y (first-among y l)))
    (reach-all l n p.1 (λ x m. r x (later-among y l x m)))
  where
    go : (b : Bool) → T b → T (all_reach l n) → T (elim b as (λ z. Bool) [ true ↦ all_reach l n | false ↦ false ])
    go true t h = h
    go false t h = t

-- ---- the axes that 8 and 9 name

unreached-is : (x : Axis) (n : ℕ) → Passed x → (not (reachable x n) ≡ true) ↔ (Reachable x n → ⊥)
unreached-is x n p = go (reachable x n) (reach-is x n p)
  where
    go : (b : Bool) → Reachable x n ↔ T b → (not b ≡ true) ↔ (Reachable x n → ⊥)
    go true r = (λ e. absurd (false≢true e), λ h. absurd (h (r.1 tt)))
    go false r = (λ e q. r.0 q, λ h. refl)

none-reached-is : (x : Axis) → Passed x → (reaches_none x ≡ true) ↔ ReachesNone x
none-reached-is x p =
    by-option (λ (b : Bool). (b ≡ true) ↔ ReachesNone x) (least_arrival alone) _ _
    (λ n e. let l : Least (all_reach alone) 1 last_tick n = least-is (all_reach alone) 1 last_tick n e in found n l)
    (λ e. (
      λ q n a b r. none_is (all_reach alone) 1 last_tick e n a (omega arith)
          (T_true (all_reach alone n) (reach-all alone n (p, tt) (only n r))),
      λ h. refl,
    ))
  where
    alone : List JobAxis
    alone = record { number = 0; axis = x } ∷ []

    only : (n : ℕ) → Reachable x n → AllReachable (record { number = 0; axis = x } ∷ []) n
    only n r =
        all_among (λ y. Reachable y.axis n) (record { number = 0; axis = x }) [] r (λ y m. absurd (none-some m.1))

    found : (n : ℕ) → Least (all_reach (record { number = 0; axis = x } ∷ [])) 1 last_tick n
        → (false ≡ true) ↔ ReachesNone x
    found n l = (
      λ e. absurd (false≢true e),
      λ h.
          absurd
          (h n l.first (omega (arith, l.last))
          (all-reach (record { number = 0; axis = x } ∷ []) n (p, tt) (true-T l.passes)
          (record { number = 0; axis = x }) (zero, refl))),
    )

-- ---- the verdict

pub is-refusal : {n p m a : ℕ} {lent : List ℤ} → Refuses (refuse n p m a lent) n p m a lent
is-refusal = record { number = refl; place = refl; mask = refl; arrival = refl; cells = refl }

is-accepted : {j : Job} {n : ℕ} {lent : List ℤ} → Accepts Forwards (accept j n lent) j n lent
is-accepted = record { number = refl; place = refl; mask = refl; arrival = refl; cells = refl }

module _ (j : Job) (n : ℕ) (p : AllPassed j.axes) where
  pub arrives-is : T (arrives j n) → Arrives j n
  arrives-is t =
      let b = both (in_windows j.windows n) (all_reach j.axes n) t in
      record { fits = in-windows j.windows n b.0; reached = all-reach j.axes n p b.1 }

  pub is-arrives : Arrives j n → T (arrives j n)
  is-arrives a =
      and (in_windows j.windows n) (all_reach j.axes n) (windows-in j.windows n a.fits)
      (reach-all j.axes n p a.reached)

module _ (j : Job) (lent : List ℤ) (numbered : Ascends 0 j.axes) where
  abbrev Q : Outcome → Type 0
  Q o = Verdict Forwards j lent o

  filled_is : (n : ℕ) → AllPassed j.axes → WindowsPass j → IsArrival j n → Verdict Forwards j lent (filled j n lent)
  filled_is n p w a =
      by_bool Q (ltb (length lent) (cells_needed (length j.axes) n)) _ _
      (λ t. refused10 n p w a (ltb→lt (length lent) (cells_needed (length j.axes) n) t) is-refusal)
      (λ t. accepted n p w a (nltb→le (length lent) (cells_needed (length j.axes) n) t) is-accepted)

  least-arrival : (n : ℕ) → AllPassed j.axes → j.asked ≡ 0 → Least (arrives j) 1 last_tick n → IsArrival j n
  least-arrival n p z l =
      record {
        first = l.first;
        last = omega (arith, l.last);
        arrives = arrives-is j n p (true-T l.passes);
        asked = inr (z, λ k a b r. l.least k a b (T_true (arrives j k) (is-arrives j k p r)));
      }

  arrived-is : (a : ℕ) → j.asked ≡ a → a ≤ last_tick → AllPassed j.axes → WindowsPass j
      → Verdict Forwards j lent (arrived j a lent)
  arrived-is zero z h p w =
      by-option Q (least_from (arrives j) 1 last_tick) _ _
      (λ n e. filled_is n p w (least-arrival n p z (least-is (arrives j) 1 last_tick n e)))
      (λ e.
      refused9 (mask_where (λ x. reaches_none x) j.axes) z p w
      (λ n a b r. none_is (arrives j) 1 last_tick e n a (omega arith) (T_true (arrives j n) (is-arrives j n p r)))
      (names (λ x. reaches_none x) ReachesNone j.axes numbered
      (λ x m. none-reached-is x.axis (passed-among j.axes p x m))) is-refusal)
  arrived-is (suc a) z h p w =
      by_bool Q (arrives j (suc a)) _ _
      (λ t. filled_is (suc a) p w
      (record { first = omega arith; last = h; arrives = arrives-is j (suc a) p t; asked = inl z }))
      (λ t.
      refused8 (mask_where (λ x. not (reachable x (suc a))) j.axes) (omega arith) (omega arith) p w
      (λ r. missed t (is-arrives j (suc a) p (subst (Arrives j) z r)))
      (subst (λ (n : ℕ). Names (λ x. Reachable x n → ⊥) j.axes
      (mask_where (λ x. not (reachable x (suc a))) j.axes)) (sym z)
      (names (λ x. not (reachable x (suc a))) (λ x. Reachable x (suc a) → ⊥) j.axes numbered
      (λ x m. unreached-is x.axis (suc a) (passed-among j.axes p x m)))) is-refusal)
    where
      missed : T (not (arrives j (suc a))) → T (arrives j (suc a)) → ⊥
      missed = clash (arrives j (suc a))
        where
          clash : (b : Bool) → T (not b) → T b → ⊥
          clash true f t = f
          clash false f t = t

  abbrev A : Admission → Type 0
  A a = Verdict Forwards j lent (outcome_after lent a)

  pub verdict : Verdict Forwards j lent (job_outcome j lent)
  verdict =
      by_bool A (leb j.asked last_tick) _ _
      (λ t.
      let h : j.asked ≤ last_tick = leb→le j.asked last_tick t in
      by-option A (first_axis limits_refused j.axes) _ _
      (λ i e. refused4 i h (first-refused limits_refused j.axes i e) is-refusal) (λ e₄.
      let n₄ = none-refused limits_refused j.axes e₄ in
      by-option A (first_axis damping_refused j.axes) _ _
      (λ i e. refused12 i h n₄ (first-refused damping_refused j.axes i e) is-refusal) (λ e₁₂.
      let n₁₂ = none-refused damping_refused j.axes e₁₂ in
      by-option A (first_axis blend_refused j.axes) _ _
      (λ i e. refused5 i h n₄ n₁₂ (first-refused blend_refused j.axes i e) is-refusal) (λ e₅.
      let n₅ = none-refused blend_refused j.axes e₅ in
      by-option A (first_axis sway_refused j.axes) _ _
      (λ i e. refused15 i h n₄ n₁₂ n₅ (first-refused sway_refused j.axes i e) is-refusal) (λ e₁₅.
      let n₁₅ = none-refused sway_refused j.axes e₁₅ in
      by-option A (first_axis values_refused j.axes) _ _
      (λ i e. refused6 i h n₄ n₁₂ n₅ n₁₅ (first-refused values_refused j.axes i e) is-refusal) (λ e₆.
      let n₆ = none-refused values_refused j.axes e₆ in
      by-option A (first_axis acceleration_refused j.axes) _ _
      (λ i e. refused16 i h n₄ n₁₂ n₅ n₁₅ n₆ (first-refused acceleration_refused j.axes i e) is-refusal) (λ e₁₆.
      let n₁₆ = none-refused acceleration_refused j.axes e₁₆ in
      by-option A (first_axis flying_refused j.axes) _ _
      (λ i e. refused17 i h n₄ n₁₂ n₅ n₁₅ n₆ n₁₆ (first-refused flying_refused j.axes i e) is-refusal) (λ e₁₇.
      let passed = all-passed j.axes n₄ n₁₂ n₅ n₁₅ n₆ n₁₆ (none-refused flying_refused j.axes e₁₇) in
      by-option A (W.refused13 j.windows) _ _
      (λ p e. refused13 p h passed (windows-wrong j.windows p e) is-refusal)
      (λ e. arrived-is j.asked refl h passed (windows-right j.windows e))))))))))
      (λ t. refused3 (nleb→lt j.asked last_tick t) is-refusal)
