-- From one stage of a call to the next, and where a stage ends it.
use Prim.Native.Nat.{ℕ, zero, suc, ◌*◌, ◌^◌, ◌<◌, ◌≤◌}
use native.Mathlib.Nat.{mul-le-mul, lt_of_le_of_lt}
use native.Mathlib.Omega.{arith}
use mathlib.Core.Path.{◌≡◌, refl, sym, ap, subst, ◌∙◌}
use mathlib.Core.Bool.{Bool, true, false, not}
use Rattle.std.specs.Prelude.{Option, None, Some}
use mathlib.Core.List.{List}
use lib.IntN.{ℤ}
use lib.ListN.{length, length-map}
use lib.Dec.{eqb, lit<}
use borrow.Author.Tests.{ne_eqb}
use Rattle.whole.proofs.Tests.{choice-no}
use Rattle.model.specs.declared.Axis.{Axis}
use Rattle.model.specs.declared.Answer.{Answer}
use Rattle.model.specs.declared.Order.TheVariants.{Forwards}
use Rattle.model.specs.declared.PartAnswer.{PartAnswer}
use Rattle.model.specs.declared.Windows.{Windows}
use Rattle.model.specs.declared.refusal.AxisTest.{AxisTest}
use Rattle.model.specs.declared.refusal.AxisTest.TheVariants as tests
use Rattle.model.specs.declared.refusal.Refusal.{Refusal}
use Rattle.model.specs.declared.refusal.Refusal.TheVariants as refusals
use Rattle.std.specs.declared.result.Result.{Result}
use Rattle.std.specs.declared.result.Result.TheVariants.{Ok, Err}
use Rattle.model.specs.planning.Told.{test_number, number_of, place_of, mask_of, arrival_of, answer_to, told}
use Rattle.model.specs.planning.Motion.{reachable}
use Rattle.model.specs.planning.Outcome.{reaches_none}
use Rattle.model.specs.planning.Job.{Job, JobAxis, set_bits, axes_of, job_with, mask_where}
use Rattle.theorems.specs.GivenWeights.{job_with_weight}
use Rattle.model.specs.planning.Refusals.{last_tick}
use Rattle.model.specs.planning.Outcome.{Outcome, outcome_of, refuse, least_from, arrives, part_over, filled, arrived}
use Rattle.model.specs.planning.Outcome.{ordered, before_ten}
use Rattle.model.specs.calls.Parts.{PartOutcome, part_rows, part_accepted, part_refused, part_with}
use Rattle.arrival.specs.Arrivals.{least_or, asked_or, arrival_for}
use Rattle.model.proofs.SetAxes.{six-bits}
use Rattle.theorems.proofs.jobs.Ordered.{refusal-stays}
use Rattle.theorems.proofs.jobs.GivenWeights.{ordered-with-weight, arrived-with-weight, part-with-weight}
use Rattle.admission.specs.Admitting.{named_with_weight}
use Rattle.planner.specs.declared.Wanted.{Wanted}
use Rattle.planner.specs.declared.Wanted.TheVariants.{Whole, From}
use Rattle.planner.specs.Promise.{part_answer}
use Rattle.planner.specs.Stages.{GivesAll, Gives, GivesFrom}
use Rattle.admission.proofs.Weights.{axes-given}

-- ---- where a stage ends a call

-- no refusal has the number 0
test-numbered : (t : AxisTest) → test_number t ≡ 0 → ⊥
test-numbered tests.Limits e = omega arith
test-numbered tests.Damping e = omega arith
test-numbered tests.Blend e = omega arith
test-numbered tests.SecondSway e = omega arith
test-numbered tests.Values e = omega arith
test-numbered tests.Acceleration e = omega arith
test-numbered tests.Flying e = omega arith

pub numbered : (x : Refusal) → number_of x ≡ 0 → ⊥
numbered refusals.Mask e = omega arith
numbered (refusals.Word at) e = omega arith
numbered refusals.Asked e = omega arith
numbered (refusals.Axis t axis) e = test-numbered t e
numbered (refusals.AskedMissed axes) e = omega arith
numbered (refusals.NoArrival axes) e = omega arith
numbered (refusals.TableShort tick) e = omega arith
numbered (refusals.ListShort needed) e = omega arith
numbered (refusals.Stop stop) e = omega arith
numbered (refusals.Window window) e = omega arith
numbered (refusals.LongPosition at) e = omega arith
numbered refusals.FirstCandidate e = omega arith

-- an answer that is not 10 is the answer before 10
pub before-ten : (m : ℕ) (r : Answer) (lent : List ℤ) → (r.number ≡ 10 → ⊥) → r ≡ before_ten m (outcome_of r lent)
before-ten m r lent h = choice-no (eqb r.number 10)
    (record { number = 0; place = 0; mask = m; arrival = r.arrival }) r (ne_eqb r.number 10 h)

module _ (m : ℕ) (xs : List Axis) (lent : List ℤ) where
  pub onward : (w : Wanted) (o o' : Outcome) (r : PartAnswer) (exit : List ℤ) → o ≡ o'
      → Gives w m xs lent o r exit → Gives w m xs lent o' r exit
  onward w o o' r exit e g = subst (λ (q : Outcome). Gives w m xs lent q r exit) e g

  -- a refusal before 10
  pub refuses : (w : Wanted) (x : Refusal) (o : Outcome) → (number_of x ≡ 10 → ⊥)
      → refuse (number_of x) (place_of x) (mask_of x) (arrival_of x) lent ≡ o
      → Gives w m xs lent o (part_answer (Err x)) lent
  refuses (Whole w) x o t q =
      record {
        outcome =
            refusal-stays xs lent (outcome_of (answer_to x) lent) w (numbered x)
            ∙ ap (λ (x : Outcome). ordered w xs lent x) q;
        fitted = λ z. absurd (numbered x z);
      }
  refuses (From f) x o t q =
      let a = answer_to x in
      choice-no (eqb a.number 0) (part_accepted a xs f lent) (part_refused a lent) (ne_eqb a.number 0 (numbered x))
      ∙ ap (λ (x : Answer). part_with x xs f lent) (before-ten m a lent t)
      ∙ ap (λ (x : Outcome). part_with (before_ten m x) xs f lent) q

-- ---- with the weights given

part-with-with-weight : (j : Job) (k : ℕ) (lent : List ℤ) (a : Answer)
    → part_with a (axes_of (job_with_weight j)) k lent ≡ part_with a (axes_of j) k lent
part-with-with-weight j k lent a =
    λ i. elim (eqb a.number 0) as (λ _. PartOutcome) [ true ↦ accepted i | false ↦ part_refused a lent ]
  where
    xs : List Axis
    xs = axes_of (job_with_weight j)

    c : ℕ → ℕ
    c l = part_rows l a.arrival k (length lent)

    same : length xs ≡ length (axes_of j)
    same = length-map (job_with_weight j).axes (λ x. x.axis) ∙ length-map j.axes _
        ∙ sym (length-map j.axes (λ x. x.axis))

    accepted : part_accepted a xs k lent ≡ part_accepted a (axes_of j) k lent
    accepted =
        ap (λ (l : ℕ). record { answer = a; rows = c l; cells = part_over Forwards xs a.arrival k (c l) lent }) same
        ∙ ap (λ (l : List ℤ). record { answer = a; rows = c (length (axes_of j)); cells = l })
        (part-with-weight Forwards j a.arrival k (c (length (axes_of j))) lent)

module _ (m asked : ℕ) (axes given : List Axis) (v : Option Windows) (is : given ≡ named_with_weight m axes)
    (lent : List ℤ)
    (r : PartAnswer) (exit : List ℤ) where
  Given : Wanted → Job → Type 0
  Given w j = Gives w j.mask (axes_of j) lent (arrived j asked lent) r exit

  j : Job
  j = job_with m asked axes v

  with-weight : (w : Wanted) → Given w (job_with_weight j) → Given w j
  unfolding Given j
  with-weight (Whole o) g =
      subst (λ (q : Outcome). GivesAll q r.answer exit)
      (ordered-with-weight o j lent (arrived (job_with_weight j) asked lent)
      ∙ ap (λ (q : Outcome). ordered o (axes_of j) lent q) (arrived-with-weight j asked lent)) g
  with-weight (From k) g =
      g
      ∙ part-with-with-weight j k lent (before_ten m (arrived (job_with_weight j) asked lent))
      ∙ ap (λ (q : Outcome). part_with (before_ten m q) (axes_of j) k lent) (arrived-with-weight j asked lent)

  pub given-arrives : (w : Wanted) → GivesFrom w (job_with m asked given v) (λ j. arrived j asked) lent r exit
      → GivesFrom w (job_with m asked axes v) (λ j. arrived j asked) lent r exit
  unfolding Given j
  given-arrives w g =
      with-weight w
      (subst (λ (l : List JobAxis). Given w (record { mask = m; asked = asked; axes = l; windows = v }))
      (axes-given m axes given is) g)

-- ---- after the arrival

module _ (j : Job) (lent : List ℤ) where
  abbrev after_arrival : Result ℕ Answer → Outcome
  after_arrival (Ok n) = filled j n lent
  after_arrival (Err a) = refuse a.number a.place a.mask a.arrival lent

  arrivals-are : (asked : ℕ) → after_arrival (arrival_for j.windows j.axes asked) ≡ arrived j asked lent
  arrivals-are zero = go (least_from (arrives j) 1 last_tick)
    where
      go : (o : Option ℕ) → after_arrival (least_or j.axes o)
          ≡ (elim o as (λ _. Outcome) [
            | Some n ↦ filled j n lent
            | None ↦ refuse 9 0 (mask_where (λ x. reaches_none x) j.axes) 0 lent
          ])
      go (Some n) = refl
      go None = refl
  arrivals-are (suc n) = go (arrives j (suc n))
    where
      go : (b : Bool) → after_arrival (asked_or j.axes (suc n) b)
          ≡ (elim b as (λ _. Outcome) [
            | true ↦ filled j (suc n) lent
            | false ↦ refuse 8 0 (mask_where (λ x. not (reachable x (suc n))) j.axes) 0 lent
          ])
      go true = refl
      go false = refl

  module _ (f : Result ℕ Refusal) (is : told f ≡ arrival_for j.windows j.axes j.asked) where
    pub none_found : (x : Refusal) → f ≡ Err x
        → refuse (number_of x) (place_of x) (mask_of x) (arrival_of x) lent ≡ arrived j j.asked lent
    none_found x e = ap after_arrival (sym (ap told e) ∙ is) ∙ arrivals-are j.asked

    pub found : (n : ℕ) → f ≡ Ok n → filled j n lent ≡ arrived j j.asked lent
    found n e = ap after_arrival (sym (ap told e) ∙ is) ∙ arrivals-are j.asked

not-ten : {a b : Answer} → ◌≡◌ {A = Result ℕ Answer} (Err a) (Err b) → (a.number ≡ 10 → ⊥) → b.number ≡ 10 → ⊥
not-ten {a} {b} e h z = let f : a ≡ b = cc in h (ap (λ (d : Answer). d.number) f ∙ z)

arrivals-not-ten : (j : Job) (asked : ℕ) (b : Answer) → arrival_for j.windows j.axes asked ≡ Err b → b.number ≡ 10 → ⊥
arrivals-not-ten j zero b = go (least_from (arrives j) 1 last_tick)
  where
    go : (o : Option ℕ) → least_or j.axes o ≡ Err b → b.number ≡ 10 → ⊥
    go (Some n) e = absurd (cc)
    go None e = not-ten e (λ z. omega arith)
arrivals-not-ten j (suc n) b = go (arrives j (suc n))
  where
    go : (t : Bool) → asked_or j.axes (suc n) t ≡ Err b → b.number ≡ 10 → ⊥
    go true e = absurd (cc)
    go false e = not-ten e (λ z. omega arith)

pub found-not-ten : (j : Job) (f : Result ℕ Refusal) → told f ≡ arrival_for j.windows j.axes j.asked
    → (x : Refusal) → f ≡ Err x → number_of x ≡ 10 → ⊥
found-not-ten j f is x e = arrivals-not-ten j j.asked (answer_to x) (sym is ∙ ap told e)

-- ---- sizes

pub few-axes : (m k : ℕ) → k ≡ length (set_bits m) → k ≤ 6
few-axes m k e = subst (λ (n : ℕ). n ≤ 6) (sym e) (six-bits m)

-- three cells for each axis of a row, and at most some thousand rows, fit a machine word
pub cells_fit : (cells rows : ℕ) → cells ≤ 18 → rows ≤ 8192 → cells * rows < 2 ^ 64
cells_fit cells rows h k = lt_of_le_of_lt (mul-le-mul {n₁ = cells} {m₁ = rows} {n₂ = 18} {m₂ = 8192} h k) (lit< tt)
