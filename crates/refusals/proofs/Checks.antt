-- Refusals 4, 12, 5, 15, 6, 16, 17 and 13, in checking order, are what
-- admission tests of axes and windows.
use Prim.Native.Nat.{ℕ}
use mathlib.Core.Path.{◌≡◌, refl, sym, ap, ◌∙◌}
use mathlib.Core.Bool.{Bool, true, false, ◌||◌, false≢true}
use Rattle.std.specs.Prelude.{Option, None, Some, is_some}
use Rattle.std.specs.declared.result.Result.{Result}
use Rattle.std.specs.declared.result.Result.TheVariants.{Ok, Err}
use mathlib.Core.List.{List, [], ◌∷◌}
use Rattle.whole.proofs.Elements.{none-some}
use Rattle.model.specs.declared.Answer.{Answer}
use Rattle.model.specs.declared.Axis.{Axis}
use Rattle.model.specs.declared.Windows.{Windows}
use Rattle.model.specs.planning.Windows.{refused13}
use Rattle.model.specs.planning.Job.{Job, JobAxis}
use Rattle.model.specs.planning.Told.{refusal}
use Rattle.model.specs.planning.Admission.{first_axis, Tests, Admission, refused_at, admitted, tested}
use Rattle.refusals.specs.Checks.{first_refusal, without_job, window_refusal, refused_by, tests_for}

-- the first refusal is what admission comes to, without the job
pub first-tested : (ts : Tests) (j : Job) → first_refusal ts j.axes j.windows ≡ without_job (tested ts j)
first-tested [] j = go (refused13 j.windows)
  where
    go : (o : Option ℕ) → (elim o as (λ _. Result Unit Answer) [ Some p ↦ Err (refusal 13 p) | None ↦ Ok tt ])
        ≡ without_job (elim o as (λ _. Admission) [ Some p ↦ refused_at 13 p | None ↦ admitted j ])
    go (Some p) = refl
    go None = refl
first-tested (t ∷ ts) j = go (first_axis t.1 j.axes) (first-tested ts j)
  where
    go : (o : Option ℕ) → first_refusal ts j.axes j.windows ≡ without_job (tested ts j)
        → (elim o as (λ _. Result Unit Answer) [
          | Some i ↦ Err (refusal t.0 i)
          | None ↦ first_refusal ts j.axes j.windows
        ])
        ≡ without_job (elim o as (λ _. Admission) [ Some i ↦ refused_at t.0 i | None ↦ tested ts j ])
    go (Some i) h = refl
    go None h = h

-- ---- where no test refuses an axis

-- axis by axis
abbrev one_more : ℕ → Bool → Option ℕ → Option ℕ
one_more i b o = elim b [ true ↦ Some i | false ↦ o ]

nowhere : (t : ℕ × (Axis → Bool)) (ts : Tests) (xs : List JobAxis) → first_axis (refused_by (t ∷ ts)) xs ≡ None
    → (first_axis t.1 xs ≡ None) × (first_axis (refused_by ts) xs ≡ None)
nowhere t ts [] e = (refl, refl)
nowhere t ts (x ∷ xs) e = go (t.1 x.axis) (refused_by ts x.axis) e (nowhere t ts xs)
  where
    go : (a b : Bool) → one_more x.number (a || b) (first_axis (refused_by (t ∷ ts)) xs) ≡ None
        → (first_axis (refused_by (t ∷ ts)) xs ≡ None
        → (first_axis t.1 xs ≡ None) × (first_axis (refused_by ts) xs ≡ None))
        → (one_more x.number a (first_axis t.1 xs) ≡ None)
        × (one_more x.number b (first_axis (refused_by ts) xs) ≡ None)
    go true b e h = absurd (none-some (sym e))
    go false true e h = absurd (none-some (sym e))
    go false false e h = h e

no-test : (ts : Tests) (xs : List JobAxis) (w : Option Windows) → first_axis (refused_by ts) xs ≡ None
    → first_refusal ts xs w ≡ window_refusal w
no-test [] xs w e = refl
no-test (t ∷ ts) xs w e =
    let n = nowhere t ts xs e in
    ap (λ (o : Option ℕ). elim o as (λ _. Result Unit Answer) [
      | Some i ↦ Err (refusal t.0 i)
      | None ↦ first_refusal ts xs w
    ]) n.0
    ∙ no-test ts xs w n.1

pub none_refused : (resting : Bool) (xs : List JobAxis) (w : Option Windows)
    → is_some (first_axis (refused_by (tests_for resting)) xs) ≡ false
    → first_refusal (tests_for resting) xs w ≡ window_refusal w
none_refused resting xs w e =
    no-test (tests_for resting) xs w (none (first_axis (refused_by (tests_for resting)) xs) e)
  where
    none : (o : Option ℕ) → is_some o ≡ false → o ≡ None
    none None e = refl
    none (Some i) e = absurd (false≢true (sym e))
