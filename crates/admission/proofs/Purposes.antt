-- What `check` does, stage by stage, is admission by the rules of its purpose.
use Prim.Native.Nat.{ℕ, zero, suc, ◌<◌, ◌≤◌}
use native.Mathlib.Omega.{arith}
use mathlib.Core.Path.{◌≡◌, refl, sym, ap, ◌∙◌}
use mathlib.Core.Bool.{Bool, true, false}
use lib.Dec.{eqb, leb}
use borrow.Author.Tests.{le-leb, lt-leb, ne_eqb}
use Rattle.std.specs.declared.result.Result.{Result}
use Rattle.std.specs.declared.result.Result.TheVariants.{Err}
use Rattle.model.specs.declared.Answer.{Answer}
use Rattle.model.specs.declared.Job as Typed
use Rattle.model.specs.planning.Job.{Job, job_of, job_with, set_axes}
use Rattle.model.specs.planning.Words.{good_mask}
use Rattle.model.specs.planning.Refusals.{last_tick}
use Rattle.model.specs.planning.Told.{refusal}
use Rattle.model.specs.planning.Admission.{typed, Admission, refused_at, tested, asked_admission, job_admission}
use Rattle.model.specs.planning.Admission.{admission}
use Rattle.model.specs.calls.Converter.{conversion_refusals}
use Rattle.model.proofs.AllowedMask.{mask-passed}
use Rattle.refusals.specs.Checks.{tests_for, first_refusal, without_job}
use Rattle.refusals.proofs.Checks.{first-tested}
use Rattle.admission.specs.declared.Purpose.{Purpose}
use Rattle.admission.specs.declared.Purpose.TheVariants.{Planning, Searching, Converting}
use Rattle.admission.specs.Admitting.{rules_for, asked_read, must_rest}

-- ---- refusal 3, and then the tests that a purpose asks for

-- the least arrival is sought where 0 is asked
tests-for : (n : ℕ) → conversion_refusals n ≡ tests_for (eqb n 0)
tests-for zero = refl
tests-for (suc n) = ap tests_for (sym (ne_eqb (suc n) 0 (λ e. omega arith)))

-- the job as it is read
abbrev read : Purpose → Typed.Job → Job
read p t = job_with t.mask (asked_read p t.asked) t.axes t.windows

by-purpose : (p : Purpose) (t : Typed.Job)
    → job_admission (rules_for p) (job_of t) ≡ asked_admission (λ n. tests_for (must_rest p n)) (read p t)
by-purpose Planning t = refl
by-purpose Searching t = refl
by-purpose Converting t = λ i. asked_admission (λ n. tests-for n i) (job_of t)

module _ (p : Purpose) (t : Typed.Job) (good : good_mask t.mask ≡ true) (asked : ℕ)
    (is : asked ≡ asked_read p t.asked) where
  abbrev j : Job
  j = job_with t.mask asked t.axes t.windows

  by-asked : Bool → Admission
  by-asked b = elim b [ true ↦ tested (tests_for (must_rest p asked)) j | false ↦ refused_at 3 1 ]

  from-three : by-asked (leb asked last_tick) ≡ admission (rules_for p) (typed t)
  unfolding by-asked
  from-three =
      ap (λ (n : ℕ). asked_admission (λ n. tests_for (must_rest p n)) (job_with t.mask n t.axes t.windows)) is
      ∙ sym (by-purpose p t)
      ∙ sym (mask-passed (rules_for p) t good)

  pub asked-late : last_tick < asked → Err (refusal 3 1) ≡ without_job (admission (rules_for p) (typed t))
  unfolding by-asked
  asked-late h = ap without_job (sym (ap by-asked (lt-leb asked last_tick h)) ∙ from-three)

  pub asked-in-time : asked ≤ last_tick → (rests : Bool) → rests ≡ must_rest p asked → (c : Result Unit Answer)
      → c ≡ first_refusal (tests_for rests) (set_axes 0 t.mask t.axes) t.windows
      → c ≡ without_job (admission (rules_for p) (typed t))
  unfolding by-asked
  asked-in-time h rests e c q =
      q
      ∙ ap (λ (b : Bool). first_refusal (tests_for b) (set_axes 0 t.mask t.axes) t.windows) e
      ∙ first-tested (tests_for (must_rest p asked)) j
      ∙ ap without_job (sym (ap by-asked (le-leb asked last_tick h)) ∙ from-three)
