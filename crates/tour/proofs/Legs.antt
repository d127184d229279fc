-- The arrival of a leg, or its refusal, is what the answer to its job tells.
use Prim.Native.Nat.{ℕ, zero, suc, ◌≤◌}
use native.Mathlib.Omega.{arith}
use mathlib.Core.Path.{◌≡◌, refl, sym, ap, subst, ◌∙◌}
use mathlib.Core.Bool.{Bool, true, false, not}
use mathlib.Core.List.{List, []}
use lib.Dec.{eqb}
use lib.IntN.{ℤ}
use Rattle.std.specs.Prelude.{Option, None, Some}
use Rattle.std.specs.declared.result.Result.{Result}
use Rattle.std.specs.declared.result.Result.TheVariants.{Ok, Err}
use Rattle.model.specs.declared.Answer.{Answer}
use Rattle.model.specs.declared.Job as Typed
use Rattle.model.specs.declared.TourSettings.{TourSettings}
use Rattle.model.specs.declared.refusal.Refusal.{Refusal}
use Rattle.model.specs.planning.Job.{Job, job_of, mask_where}
use Rattle.model.specs.planning.Motion.{reachable}
use Rattle.model.specs.planning.Refusals.{last_tick}
use Rattle.model.specs.planning.Admission.{typed, Admission, planning_rules, admission}
use Rattle.model.specs.planning.Outcome.{Outcome, refuse, filled, arrived, outcome_after, least_from, arrives}
use Rattle.model.specs.planning.Outcome.{reaches_none, before_ten, answer_of}
use Rattle.model.specs.calls.Tour.{leg_job}
use Rattle.theorems.proofs.jobs.Admissions.{Comes, refuses, goes, comes}
use Rattle.theorems.proofs.jobs.BeforeTen.{before-filled, planning-numbered}
use Rattle.planner.specs.declared.Planned.{Planned}
use Rattle.planner.specs.declared.Wanted.TheVariants.{From}
use Rattle.planner.specs.Promise.{PromiseIn, Answered, part_answer}
use Rattle.planner.proofs.Answers.{answered}
use Rattle.stops.specs.Parts.{LegIs}

-- ---- where the number of an answer is 0 its mask is the job's own

abbrev Own : ℕ → Outcome → Type 0
Own m o = (before_ten m o).number ≡ 0 → (before_ten m o).mask ≡ m

arrived-own : (j : Job) (asked : ℕ) → Own j.mask (arrived j asked [])
arrived-own j zero = go (least_from (arrives j) 1 last_tick)
  where
    go : (o : Option ℕ) → Own j.mask
        (elim o as (λ _. Outcome) [
          | Some n ↦ filled j n []
          | None ↦ refuse 9 0 (mask_where (λ x. reaches_none x) j.axes) 0 []
        ])
    go (Some n) z = ap (λ (a : Answer). a.mask) (before-filled j n [])
    go None z = absurd (omega arith)
arrived-own j (suc n) = go (arrives j (suc n))
  where
    go : (b : Bool) → Own j.mask
        (elim b as (λ _. Outcome) [
          | true ↦ filled j (suc n) []
          | false ↦ refuse 8 0 (mask_where (λ x. not (reachable x (suc n))) j.axes) 0 []
        ])
    go true z = ap (λ (a : Answer). a.mask) (before-filled j (suc n) [])
    go false z = absurd (omega arith)

own-mask : (t : Typed.Job) → (answer_of (typed t)).number ≡ 0 → (answer_of (typed t)).mask ≡ t.mask
unfolding answer_of
own-mask t = go (admission planning_rules (typed t)) (comes planning_rules planning-numbered (typed t))
  where
    refused : (n p : ℕ) → (n ≡ 0 → ⊥) → Own t.mask (refuse n p 0 0 [])
    refused n p h = by-ten (eqb n 10)
      where
        by-ten : (b : Bool) → (elim b as (λ _. Answer) [
          | true ↦ record { number = 0; place = 0; mask = t.mask; arrival = 0 }
          | false ↦ record { number = n; place = p; mask = 0; arrival = 0 }
        ]).number ≡ 0
            → (elim b as (λ _. Answer) [
              | true ↦ record { number = 0; place = 0; mask = t.mask; arrival = 0 }
              | false ↦ record { number = n; place = p; mask = 0; arrival = 0 }
            ]).mask ≡ t.mask
        by-ten true z = refl
        by-ten false z = absurd (h z)

    go : (a : Admission) → Comes planning_rules (job_of t) a → Own t.mask (outcome_after [] a)
    go a (refuses n p h k) = refused n p h
    go a (goes h c w) = arrived-own (job_of t) (job_of t).asked

-- ---- a leg

abbrev pub arrival_in : Result Planned Refusal → Result ℕ Refusal
arrival_in (Ok p) = Ok p.arrival
arrival_in (Err why) = Err why

module _ (t : TourSettings) (here there : List ℤ) (k : ℕ) (entry exit : List ℤ) (job : Typed.Job)
    (is : job ≡ leg_job t here there) where
  abbrev Planning : Result Planned Refusal → Type 0
  Planning r = PromiseIn (From k) (typed job) entry (part_answer r) exit

  answer-is : (r : Result Planned Refusal) → Planning r → Answered (leg_job t here there) (part_answer r).answer
  answer-is r e =
      subst (λ (j : Typed.Job). Answered j (part_answer r).answer) is (answered job k entry (part_answer r) exit e)

  pub leg-is : (r : Result Planned Refusal) → Planning r → LegIs t here there (arrival_in r)
  leg-is (Err why) e =
      record {
        is = (answer-is (Err why) e).is;
        last = λ n z. absurd (let f : ◌≡◌ {A = Result ℕ Refusal} (Err why) (Ok n) = z in cc);
      }
  leg-is (Ok p) e =
      let q = answer-is (Ok p) e in
      let own : p.mask ≡ t.mask =
      ap (λ (a : Answer). a.mask) q.is
      ∙ own-mask (leg_job t here there) (sym (ap (λ (a : Answer). a.number) q.is)) in
      record {
        is = (λ i. record { number = 0; place = 0; mask = sym own i; arrival = p.arrival }) ∙ q.is;
        last = λ n z. let s : p.arrival ≡ n = cc in subst (λ (m : ℕ). m ≤ last_tick) s q.last;
      }
