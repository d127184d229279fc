-- Refusals 8 and 9 of a job with windows, exactly: `eight-outside`, `nine-nowhere`.
use Prim.Native.Nat.{ℕ, zero, suc, ◌+◌, ◌^◌, ◌≤◌, ◌<◌}
use mathlib.Core.Path.{◌≡◌, refl, sym, ap, subst, ◌∙◌}
use mathlib.Core.Bool.{Bool, true, false, not, false≢true}
use mathlib.Core.List.{List, [], ◌∷◌}
use Rattle.std.specs.Prelude.{Option, None, Some, IfSome, IsSomeAnd}
use mathlib.Core.Logic.{◌↔◌, ◌⊎◌, inl, inr}
use native.Mathlib.Omega.{arith}
use native.Mathlib.Nat as N
use lib.Dec.{T, ltb}
use lib.IntN.{ℤ}
use lib.ListN.{length}
use Rattle.whole.proofs.Tests.{leb_yes, left, and, T_true, T_false, true-T}
use Rattle.model.specs.declared.Axis.{Axis}
use Rattle.model.specs.declared.Windows.{Windows}
use Rattle.model.specs.planning.Motion.{reachable}
use Rattle.model.specs.planning.Windows.{in_windows, refused13, brought}
use Rattle.theorems.specs.Windows.{FitsOne, WindowsWrong, empty, too_many, long_dwell, wrong_window, WindowsRight}
use Rattle.model.specs.planning.Job.{Job, JobAxis, mask_where}
use Rattle.model.specs.planning.Refusals.{last_tick, limits_refused, damping_refused, blend_refused, sway_refused}
use Rattle.model.specs.planning.Refusals.{values_refused, acceleration_refused, flying_refused, Passed, AllPassed}
use Rattle.model.specs.planning.Outcome.{Outcome, refuse, accept, all_reach, least_from, arrives, cells_needed}
use Rattle.model.specs.planning.Outcome.{reaches_none, filled, arrived, outcome_after, job_outcome}
use Rattle.model.specs.planning.Admission.{first_axis, Tests, axis_refusals, Admission, refused_at, admitted}
use Rattle.model.specs.planning.Admission.{windowed, tested}
use Rattle.theorems.specs.Verdict.{Arrives, Passing, OutsideWindows, EightOutside, NineNowhere}
use Rattle.theorems.proofs.jobs.WindowsInWords.{in-windows, windows-in, windows-wrong}
use Rattle.theorems.proofs.jobs.LeastTick.{least-is, none_is}
use Rattle.theorems.proofs.jobs.Verdict.{all-reach, reach-all, arrives-is, is-arrives}

not-below : {a b : ℕ} → a < b → b ≤ a → ⊥
not-below h k = omega arith

-- ---- what every earlier refusal lets pass goes on to 8 and 9

first-none : (f : Axis → Bool) → ((x : Axis) → Passed x → f x ≡ false) → (l : List JobAxis)
    → AllPassed l → first_axis f l ≡ None
first-none f h [] p = refl
first-none f h (y ∷ l) p = go (f y.axis) (h y.axis p.0) (first-none f h l p.1)
  where
    go : (b : Bool) → b ≡ false → first_axis f l ≡ None
        → ◌≡◌ {A = Option ℕ} (elim b as (λ _. Option ℕ) [ true ↦ Some y.number | false ↦ first_axis f l ]) None
    go true e r = absurd (false≢true (sym e))
    go false e r = r

wrong-or-right : (w : Windows) (p : ℕ) → WindowsWrong w p → WindowsRight w → ⊥
wrong-or-right w p (empty e) r = omega (arith, r.not_empty)
wrong-or-right w p (too_many h) r = omega (arith, r.few)
wrong-or-right w p (long_dwell a b h) r = omega (arith, r.dwell)
wrong-or-right w p (wrong_window i a b c f) r =
    let o = r.each i f.window f.here in
    go f.wrong o.closes o.follows
  where
    go : {a b c : ℕ} → (b ≤ a) ⊎ (a < c) → a < b → c ≤ a → ⊥
    go (inl h) k l = not-below k h
    go (inr h) k l = not-below h l

not-both : (w : Option Windows) (p : ℕ) → IsSomeAnd w (λ v. WindowsWrong v p) → IfSome w WindowsRight → ⊥
not-both None p x r = x
not-both (Some w) p x r = wrong-or-right w p x r

-- no test of a list holds of an axis
abbrev pub Clear : Tests → List JobAxis → Type 0
Clear [] xs = Unit
Clear (t ∷ ts) xs = (first_axis t.1 xs ≡ None) × Clear ts xs

module _ (j : Job) (lent : List ℤ) (p : Passing j) where
  tests-clear : (ts : Tests) → Clear ts j.axes → tested ts j ≡ windowed j
  tests-clear [] c = refl
  tests-clear (t ∷ ts) (e, c) =
      ap (λ (o : Option ℕ). elim o as (λ _. Admission) [ Some i ↦ refused_at t.0 i | None ↦ tested ts j ]) e
      ∙ tests-clear ts c

  -- of each test that no axis that passed meets
  clear : (f : Axis → Bool) → ((x : Axis) → Passed x → f x ≡ false) → first_axis f j.axes ≡ None
  clear f h = first-none f h j.axes p.axes

  all-clear : Clear axis_refusals j.axes
  all-clear =
      let last : Clear ((16, acceleration_refused) ∷ (17, flying_refused) ∷ []) j.axes =
      (clear acceleration_refused (λ x q. q.acceleration), (clear flying_refused (λ x q. q.resting), tt)) in
      let blends : Clear
      ((5, blend_refused) ∷ (15, sway_refused) ∷ (6, values_refused) ∷ (16, acceleration_refused)
      ∷ (17, flying_refused) ∷ []) j.axes = (
        clear blend_refused (λ x q. q.blend),
        (clear sway_refused (λ x q. q.sway), (clear values_refused (λ x q. q.values), last)),
      ) in
      (clear limits_refused (λ x q. q.limits), (clear damping_refused (λ x q. q.damping), blends))

  no-thirteen : refused13 j.windows ≡ None
  no-thirteen = go (refused13 j.windows) refl
    where
      go : (o : Option ℕ) → refused13 j.windows ≡ o → o ≡ None
      go None e = refl
      go (Some k) e = absurd (not-both j.windows k (windows-wrong j.windows k e) p.windows)

  pub goes_on : job_outcome j lent ≡ arrived j j.asked lent
  goes_on =
      ap (outcome_after lent)
      (ap (λ (b : Bool). elim b as (λ _. Admission) [ true ↦ tested axis_refusals j | false ↦ refused_at 3 1 ])
      (leb_yes p.asked)
      ∙ tests-clear axis_refusals all-clear
      ∙ ap (λ (o : Option ℕ). elim o as (λ _. Admission) [ Some k ↦ refused_at 13 k | None ↦ admitted j ]) no-thirteen)

  -- where there is an arrival the number is 10 or 0
  not-filled : (n k : ℕ) → (k ≡ 10 → ⊥) → (k ≡ 0 → ⊥) → (filled j n lent).number ≡ k → ⊥
  not-filled n k a b = go (ltb (length lent) (cells_needed (length j.axes) n))
    where
      go : (t : Bool)
          → (elim t as (λ _. Outcome) [ true ↦ refuse 10 0 0 n lent | false ↦ accept j n lent ]).number ≡ k → ⊥
      go true e = a (sym e)
      go false e = b (sym e)

-- ---- the mask of 8

power : (k : ℕ) → 1 ≤ 2 ^ k
power zero = omega arith
power (suc k) = let h = power k in subst (λ (m : ℕ). 1 ≤ m) (sym (N.pow-succ' 2 k)) (omega arith)

abbrev missed : List JobAxis → ℕ → ℕ
missed l n = mask_where (λ x. not (reachable x n)) l

none-missed : (l : List JobAxis) (n : ℕ) → missed l n ≡ 0 → T (all_reach l n)
none-missed [] n e = tt
none-missed (y ∷ l) n e = go (reachable y.axis n) e (none-missed l n)
  where
    go : (b : Bool)
        → ◌≡◌ {A = ℕ} (elim (not b) as (λ _. ℕ) [ true ↦ 2 ^ y.number + missed l n | false ↦ missed l n ]) 0
        → (missed l n ≡ 0 → T (all_reach l n))
        → T (elim b as (λ _. Bool) [ true ↦ all_reach l n | false ↦ false ])
    go true e h = h e
    go false e h = absurd (let k = power y.number in omega arith)

all-reached : (l : List JobAxis) (n : ℕ) → T (all_reach l n) → missed l n ≡ 0
all-reached [] n t = refl
all-reached (y ∷ l) n t = go (reachable y.axis n) t (all-reached l n)
  where
    go : (b : Bool) → T (elim b as (λ _. Bool) [ true ↦ all_reach l n | false ↦ false ])
        → (T (all_reach l n) → missed l n ≡ 0)
        → ◌≡◌ {A = ℕ} (elim (not b) as (λ _. ℕ) [ true ↦ 2 ^ y.number + missed l n | false ↦ missed l n ]) 0
    go true t h = h t
    go false t h = absurd t

-- ---- exactly where 8 comes with mask 0, and where 9 comes

clash : (b : Bool) → b ≡ false → T b → ⊥
clash true e t = false≢true (sym e)
clash false e t = t

module _ (j : Job) (lent : List ℤ) (p : Passing j) where
  abbrev Eight : Outcome → Type 0
  Eight o = (o.number ≡ 8) × (o.mask ≡ 0)

  module _ (n : ℕ) where
    no-window : T (all_reach j.axes n) → arrives j n ≡ false → in_windows j.windows n ≡ false
    no-window t e = T_false (in_windows j.windows n)
        (λ w. clash (arrives j n) e (and (in_windows j.windows n) (all_reach j.axes n) w t))

    to-outside : T (all_reach j.axes n) → in_windows j.windows n ≡ false → OutsideWindows j n
    to-outside t e =
        record {
          reached = all-reach j.axes n p.axes t;
          outside = go j.windows e;
        }
      where
        go : (w : Option Windows) → in_windows w n ≡ false → IsSomeAnd w (λ v. FitsOne n v.dwell (brought v) → ⊥)
        go None e = absurd (false≢true (sym e))
        go (Some w) e = λ f. clash (in_windows (Some w) n) e (windows-in (Some w) n f)

    of-outside : OutsideWindows j n → arrives j n ≡ false
    of-outside o =
        T_false (arrives j n)
        (λ t. go j.windows o.outside
        (in-windows j.windows n (left (in_windows j.windows n) (all_reach j.axes n) t)))
      where
        go : (w : Option Windows) → IsSomeAnd w (λ v. FitsOne n v.dwell (brought v) → ⊥)
            → IfSome w (λ v. FitsOne n v.dwell (brought v)) → ⊥
        go None x f = x
        go (Some w) x f = x f

    eight-ends : (b : Bool) → arrives j n ≡ b
        → Eight (elim b as (λ _. Outcome) [ true ↦ filled j n lent | false ↦ refuse 8 0 (missed j.axes n) 0 lent ])
        ↔ OutsideWindows j n
    eight-ends true e = (
      λ h. absurd (not-filled j lent p n 8 (λ k. omega arith) (λ k. omega arith) h.0),
      λ o. absurd (false≢true (sym (of-outside o) ∙ e)),
    )
    eight-ends false e = (
      λ h. let t = none-missed j.axes n h.1 in to-outside t (no-window t e),
      λ o. (refl, all-reached j.axes n (reach-all j.axes n p.axes o.reached)),
    )

  eight-at : (n : ℕ) → 1 ≤ n → Eight (arrived j n lent) ↔ OutsideWindows j n
  eight-at zero h = absurd (omega arith)
  eight-at (suc n) h = eight-ends (suc n) (arrives j (suc n)) refl

  abbrev Nowhere : Type 0
  Nowhere = (n : ℕ) → 1 ≤ n → n ≤ 4096 → Arrives j n → ⊥

  nine-ends : (o : Option ℕ) → least_from (arrives j) 1 last_tick ≡ o
      → ((elim o as (λ _. Outcome) [
        | Some n ↦ filled j n lent
        | None ↦ refuse 9 0 (mask_where (λ x. reaches_none x) j.axes) 0 lent
      ]).number ≡ 9) ↔ Nowhere
  nine-ends (Some n) e =
      let l = least-is (arrives j) 1 last_tick n e in (
        λ h. absurd (not-filled j lent p n 9 (λ k. omega arith) (λ k. omega arith) h),
        λ h. absurd (h n l.first (omega (arith, l.last)) (arrives-is j n p.axes (true-T l.passes))),
      )
  nine-ends None e = (
    λ h n a b r. none_is (arrives j) 1 last_tick e n a (omega arith) (T_true (arrives j n) (is-arrives j n p.axes r)),
    λ h. refl,
  )

pub eight-outside : EightOutside
eight-outside j lent p h = subst (λ (o : Outcome). Eight j lent p o ↔ OutsideWindows j j.asked)
    (sym (goes_on j lent p)) (eight-at j lent p j.asked h)

pub nine-nowhere : NineNowhere
nine-nowhere j lent p z =
    subst (λ (o : Outcome). (o.number ≡ 9) ↔ Nowhere j lent p)
    (sym (goes_on j lent p ∙ ap (λ (n : ℕ). arrived j n lent) z))
    (nine-ends j lent p (least_from (arrives j) 1 last_tick) refl)
