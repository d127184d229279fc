-- What a call knows once a job is checked: what admission comes to, and what a job that is admitted
-- has.
use Prim.Native.Nat.{ℕ, ◌<◌, ◌≤◌}
use native.Mathlib.Omega.{arith}
use mathlib.Core.Path.{◌≡◌, refl, sym, ap, ◌∙◌}
use mathlib.Core.Bool.{Bool, true, false, ◌&&◌, false≢true}
use Rattle.std.specs.Prelude.{None}
use lib.Dec.{ltb, leb}
use borrow.Author.Tests.{leb-true, ltb-true}
use Rattle.std.specs.declared.result.Result.{Result}
use Rattle.std.specs.declared.result.Result.TheVariants.{Ok, Err}
use Rattle.model.specs.declared.Answer.{Answer}
use Rattle.model.specs.declared.Job as Typed
use Rattle.model.specs.planning.Windows.{refused13}
use Rattle.model.specs.planning.Job.{Job, job_of}
use Rattle.model.specs.planning.Words.{good_mask}
use Rattle.model.specs.planning.Told as Told
use Rattle.model.specs.planning.Refusals.{last_tick}
use Rattle.model.specs.planning.Admission.{Input, typed, input_job, Admission, refused_at, admitted, Rules}
use Rattle.model.specs.planning.Admission.{job_admission}
use Rattle.model.specs.planning.Admission.{admission}
use Rattle.theorems.proofs.jobs.OutsideWindows.{Clear}
use Rattle.theorems.proofs.jobs.Admissions.{Numbered, Comes, refuses, goes, comes}
use Rattle.refusals.specs.Checks.{without_job}

-- ---- a refusal

-- it is neither 0 nor 10
pub record Refusal (r : Rules) (q : Input) (n p : ℕ) : Type 0 where
  pub is : admission r q ≡ refused_at n p
  pub not-0 : n ≡ 0 → ⊥
  pub not-10 : n ≡ 10 → ⊥

-- ---- a job that is admitted, as the call reads it

pub record Goes (r : Rules) (q : Input) : Type 0 where
  pub is : admission r q ≡ admitted (r.reads (input_job q))
  pub asked : (r.reads (input_job q)).asked ≤ last_tick
  pub clear : Clear (r.tests (r.reads (input_job q)).asked) (r.reads (input_job q)).axes
  pub windows : refused13 (r.reads (input_job q)).windows ≡ None

module _ (r : Rules) (s : Numbered r) (q : Input) where
  pub refusal : (n p : ℕ) → admission r q ≡ refused_at n p → Refusal r q n p
  refusal n p e = go (admission r q) refl (comes r s q) e
    where
      go : (a : Admission) → admission r q ≡ a → Comes r (input_job q) a → a ≡ refused_at n p → Refusal r q n p
      go a f (refuses m k h t) w =
          let same : m ≡ n = cc in
          record { is = f ∙ w; not-0 = λ z. h (same ∙ z); not-10 = λ z. t (same ∙ z) }
      go a f (goes h c v) w = absurd (let z : ◌≡◌ {A = ℕ} 0 1 = cc in omega arith)

  module _ (c : Result Unit Answer) (is : c ≡ without_job (admission r q)) where
    pub refused : (n p : ℕ) → c ≡ Err (Told.refusal n p) → Refusal r q n p
    refused n p e = refusal n p (go (admission r q) (sym is ∙ e))
      where
        go : (a : Admission) → without_job a ≡ Err (Told.refusal n p) → a ≡ refused_at n p
        go (refused_at m k) w =
            let f : Told.refusal m k ≡ Told.refusal n p = cc in
            ap (λ (a : Answer). refused_at a.number a.place) f
        go (admitted j) w = absurd (let z : ◌≡◌ {A = ℕ} 0 1 = cc in omega arith)

    -- it names no axes and no arrival
    pub place-alone : (a : Answer) → c ≡ Err a → a ≡ Told.refusal a.number a.place
    place-alone a e = go (admission r q) (sym is ∙ e)
      where
        go : (b : Admission) → without_job b ≡ Err a → a ≡ Told.refusal a.number a.place
        go (refused_at m k) w =
            let f : Told.refusal m k ≡ a = cc in
            sym f ∙ ap (λ (d : Answer). Told.refusal d.number d.place) f
        go (admitted j) w = absurd (let z : ◌≡◌ {A = ℕ} 0 1 = cc in omega arith)

    pub passed : c ≡ Ok tt → Goes r q
    passed e = go (admission r q) refl (comes r s q) (sym is ∙ e)
      where
        go : (a : Admission) → admission r q ≡ a → Comes r (input_job q) a → without_job a ≡ Ok tt → Goes r q
        go a f (refuses m k h t) w = absurd (let z : ◌≡◌ {A = ℕ} 0 1 = cc in omega arith)
        go a f (goes h c v) w = record { is = f; asked = h; clear = c; windows = v }

-- ---- its mask

mask-range : (m : ℕ) → good_mask m ≡ true → (0 < m) × (m < 64)
mask-range m e =
    let b = both (ltb 0 m) (leb m 63) e in
    let h = leb-true m 63 b.1 in
    (ltb-true 0 m b.0, omega arith)
  where
    both : (a b : Bool) → a && b ≡ true → (a ≡ true) × (b ≡ true)
    both true b e = (refl, e)
    both false b e = absurd (false≢true e)

pub good-mask : (r : Rules) (t : Typed.Job) (j : Job) → admission r (typed t) ≡ admitted j
    → (0 < t.mask) × (t.mask < 64)
good-mask r t j = go (good_mask t.mask) refl
  where
    go : (b : Bool) → good_mask t.mask ≡ b
        → (elim b as (λ _. Admission) [ true ↦ job_admission r (job_of t) | false ↦ refused_at 1 0 ]) ≡ admitted j
        → (0 < t.mask) × (t.mask < 64)
    go true e w = mask-range t.mask e
    go false e w = absurd (let z : ◌≡◌ {A = ℕ} 0 1 = cc in omega arith)
