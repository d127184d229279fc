-- Every call with damping as measured gives what it gives with each B entered by hand:
-- `measured-is-given`.
use Prim.Native.Nat.{ℕ, suc, ◌+◌}
use mathlib.Core.Path.{◌≡◌, refl, ap, ◌∙◌}
use mathlib.Core.Bool.{Bool, true, false}
use Rattle.std.specs.Prelude.{Option, None, Some}
use mathlib.Core.List.{List, [], ◌∷◌, ◌++◌, map}
use lib.IntN.{ℤ}
use lib.Dec.{eqb, leb}
use lib.ListN.{length, set}
use Rattle.model.specs.declared.Answer.{Answer}
use Rattle.model.specs.declared.Axis.{Axis}
use Rattle.model.specs.declared.AxisLimits.{AxisLimits}
use Rattle.model.specs.declared.AxisRaises.{AxisRaises}
use Rattle.model.specs.declared.Job as Typed
use Rattle.model.specs.declared.Order.{Order}
use Rattle.model.specs.declared.Order.TheVariants.{Forwards}
use Rattle.model.specs.declared.SearchAnswer.{SearchAnswer}
use Rattle.model.specs.declared.Stop.{Stop}
use Rattle.model.specs.declared.TourSettings.{TourSettings}
use Rattle.model.specs.planning.Quantities.{finer}
use Rattle.model.specs.planning.Motion.{reachable}
use Rattle.model.specs.planning.Windows.{no_windows}
use Rattle.model.specs.planning.Job.{Job, JobAxis, axes_of, job_of}
use Rattle.theorems.specs.GivenWeights.{with_weight, axes_with_weight, job_with_weight, typed_with_weight}
use Rattle.theorems.specs.GivenWeights.{limits_with_weight, settings_with_weight, MeasuredIsGiven}
use Rattle.model.specs.planning.Words.{good_mask}
use Rattle.model.specs.planning.Refusals.{last_tick}
use Rattle.model.specs.planning.Admission.{typed, axis_refusals, Admission, refused_at, admitted, Rules}
use Rattle.model.specs.planning.Admission.{planning_rules, tested, asked_admission, job_admission}
use Rattle.model.specs.planning.Outcome.{Outcome, call, call_in, ordered, outcome_after, part_over, before_ten}
use Rattle.model.specs.planning.Outcome.{answer_of}
use Rattle.model.specs.calls.Parts.{PartOutcome, part_rows, part_accepted, part_refused, part_with, part_call}
use Rattle.model.specs.calls.Raises.{raise_of, raises_of, raises_from, none_raised, raises_with, raises_call}
use Rattle.model.specs.calls.Search.{search_from, refuse_search, search_answer, first_allowed, first_checked, asking}
use Rattle.model.specs.calls.Search.{search_rules, search_after, search_call}
use Rattle.model.specs.calls.Tour.{leg_axis, leg_axes, leg_job, leg_answer, Legs, refused_leg, legs_from, after_legs}
use Rattle.model.specs.calls.Tour.{arrivals_over, refuse_tour, first_long_dwell}
use Rattle.model.specs.calls.Tour.{TourOutcome, tour_outcome, no_stops, most_stops}
use Rattle.theorems.proofs.jobs.Ordered.{answer-stays}
use Rattle.theorems.proofs.jobs.GivenWeights.{set-with-weight, arrives-with-weight, arrived-with-weight}
use Rattle.theorems.proofs.jobs.GivenWeights.{ordered-with-weight, part-with-weight, tests-with-weight}

-- ---- a table

-- what becomes of a job, by whether its mask is allowed
abbrev by_mask : Rules → Job → Bool → Admission
by_mask r j b = elim b [ true ↦ job_admission r j | false ↦ refused_at 1 0 ]

-- of any call that goes on by f from rules with planning's tests, and that reads a job with its
-- weights given as it reads the job
module _ {X : Type 0} (f : Admission → X) (number : X → ℕ)
    (numbered : (p : ℕ) → number (f (refused_at 12 p)) ≡ 12) (reads : Job → Job) where
  abbrev rules : Rules
  rules = record { reads = reads; tests = λ asked. axis_refusals }

  module _ (j : Job) (read : reads (job_with_weight j) ≡ job_with_weight (reads j))
      (same : f (admitted (job_with_weight (reads j))) ≡ f (admitted (reads j))) where
    abbrev by-asked : Job → Bool → Admission
    by-asked i b = elim b [ true ↦ tested axis_refusals i | false ↦ refused_at 3 1 ]

    asked : (b : Bool) → (number (f (by-asked (reads j) b)) ≡ 12 → ⊥)
        → f (by-asked (job_with_weight (reads j)) b) ≡ f (by-asked (reads j) b)
    asked true h = tests-with-weight f number numbered (reads j) same h
    asked false h = refl

    masked : (b : Bool) → (number (f (by_mask rules j b)) ≡ 12 → ⊥)
        → f (by_mask rules (job_with_weight j) b) ≡ f (by_mask rules j b)
    masked true h = ap (λ (i : Job). f (asked_admission (λ a. axis_refusals) i)) read
        ∙ asked (leb (reads j).asked last_tick) h
    masked false h = refl

-- the job of the values by hand
job-with-weight : (t : Typed.Job) → job_of (typed_with_weight t) ≡ job_with_weight (job_of t)
job-with-weight t =
    ap (λ (l : List JobAxis). record { mask = t.mask; asked = t.asked; axes = l; windows = t.windows })
    (set-with-weight 0 t.mask t.axes)

called : (t : Typed.Job) (lent : List ℤ) → ((call (typed t) lent).number ≡ 12 → ⊥)
    → call (typed (typed_with_weight t)) lent ≡ call (typed t) lent
called t lent h =
    ap (λ (j : Job). outcome_after lent (by_mask planning_rules j (good_mask t.mask))) (job-with-weight t)
    ∙ masked (outcome_after lent) (λ o. o.number) (λ p. refl) (λ j. j) (job_of t) refl
    (arrived-with-weight (job_of t) t.asked lent) (good_mask t.mask) h

tables : (o : Order) (t : Typed.Job) (lent : List ℤ) → ((call_in o (typed t) lent).number ≡ 12 → ⊥)
    → call_in o (typed (typed_with_weight t)) lent ≡ call_in o (typed t) lent
tables o t lent h =
    let r = call (typed t) lent in
    let same = called t lent (λ e. h (ap (λ (a : Answer). a.number) (answer-stays (axes_of (job_of t)) lent r o)
    ∙ e)) in
    (λ i. ordered o (axes_of (job-with-weight t i)) lent (same i)) ∙ ordered-with-weight o (job_of t) lent r

-- ---- the answer before 10

answered : (t : Typed.Job) → ((answer_of (typed t)).number ≡ 12 → ⊥)
    → answer_of (typed (typed_with_weight t)) ≡ answer_of (typed t)
unfolding answer_of
answered t h = ap (before_ten t.mask) (called t [] (λ e. h (before (call (typed t) []) e)))
  where
    before : (o : Outcome) → o.number ≡ 12 → (before_ten t.mask o).number ≡ 12
    before o e = ap (λ (b : Bool). (by b).number) (ap (λ (n : ℕ). eqb n 10) e) ∙ e
      where
        by : Bool → Answer
        by b =
            elim b [
              | true ↦ record { number = 0; place = 0; mask = t.mask; arrival = o.arrival }
              | false ↦ record { number = o.number; place = o.place; mask = o.mask; arrival = o.arrival }
            ]

-- ---- rows in parts

axes-length : (l : List JobAxis) → length (map (λ x. x.axis) (axes_with_weight l)) ≡ length (map (λ x. x.axis) l)
axes-length [] = refl
axes-length (x ∷ l) = ap suc (axes-length l)

accepted-part : (j : Job) (a : Answer) (k : ℕ) (lent : List ℤ)
    → part_accepted a (axes_of (job_with_weight j)) k lent ≡ part_accepted a (axes_of j) k lent
accepted-part j a k lent =
    let xs = axes_of (job_with_weight j) in
    let c : ℕ = part_rows (length (axes_of j)) a.arrival k (length lent) in
    ap (λ (m : ℕ). record {
      answer = a;
      rows = part_rows m a.arrival k (length lent);
      cells = part_over Forwards xs a.arrival k (part_rows m a.arrival k (length lent)) lent;
    }) (axes-length j.axes)
    ∙ ap (λ (l : List ℤ). record { answer = a; rows = c; cells = l })
    (part-with-weight Forwards j a.arrival k c lent)

parts : (t : Typed.Job) (k : ℕ) (lent : List ℤ) → ((part_call (typed t) k lent).answer.number ≡ 12 → ⊥)
    → part_call (typed (typed_with_weight t)) k lent ≡ part_call (typed t) k lent
unfolding part_call
parts t k lent h =
    let a = answer_of (typed t) in
    let same = answered t (λ e. h (own a (axes_of (job_of t)) ∙ e)) in
    (λ i. part_with (same i) (axes_of (job-with-weight t i)) k lent)
    ∙ (λ i. elim (eqb a.number 0) as
    (λ _. PartOutcome) [ true ↦ accepted-part (job_of t) a k lent i | false ↦ part_refused a lent ])
  where
    own : (a : Answer) (xs : List Axis) → (part_with a xs k lent).answer.number ≡ a.number
    own a xs = go (eqb a.number 0)
      where
        go : (b : Bool)
            → (elim b as (λ _. PartOutcome) [
              | true ↦ part_accepted a xs k lent
              | false ↦ part_refused a lent
            ]).answer.number ≡ a.number
        go true = refl
        go false = refl

-- ---- raises

raises-of : (x : Axis) (n : ℕ) → raises_of (with_weight x) n ≡ raises_of x n
unfolding raise_of finer
raises-of x n = refl

raises-from : (n : ℕ) (xs : List JobAxis) (l : List AxisRaises)
    → raises_from n (axes_with_weight xs) l ≡ raises_from n xs l
unfolding finer
raises-from n [] l = refl
raises-from n (x ∷ xs) l =
    λ i.
    elim (reachable x.axis n) as (λ _. List AxisRaises) [
      | true ↦ raises-from n xs l i
      | false ↦ (ap (λ (r : AxisRaises). raises_from n (axes_with_weight xs) (set l x.number r)) (raises-of x.axis n)
          ∙ raises-from n xs (set l x.number (raises_of x.axis n))) i
    ]

raises : (t : Typed.Job) → ((raises_call (typed t)).answer.number ≡ 12 → ⊥)
    → raises_call (typed (typed_with_weight t)) ≡ raises_call (typed t)
unfolding raises_call
raises t h =
    let a = answer_of (typed t) in
    (λ i. raises_with (answered t h i) (job-with-weight t i))
    ∙ (λ i. record {
      answer = a;
      axes = elim (eqb a.number 8) as
          (λ _. List AxisRaises) [ true ↦ raises-from t.asked (job_of t).axes none_raised i | false ↦ none_raised ];
    })

-- ---- searches

module _ (first budget : ℕ) where
  searches : (t : Typed.Job) → ((search_call (typed t) first budget).number ≡ 12 → ⊥)
      → search_call (typed (typed_with_weight t)) first budget ≡ search_call (typed t) first budget
  unfolding search_call
  searches t h =
      ap (λ (j : Job). search_after first budget (by_mask search_rules j (good_mask t.mask))) (job-with-weight t)
      ∙ masked (search_after first budget) (λ a. a.number) (λ p. refl) (asking 0)
      (job_of t) refl checked (good_mask t.mask) h
    where
      -- 18, then the search
      checked : first_checked (job_with_weight (asking 0 (job_of t))) first budget
          ≡ first_checked (asking 0 (job_of t)) first budget
      checked =
          λ i.
          elim (first_allowed first) as (λ _. SearchAnswer) [
            | true ↦
                search_answer t.mask (search_from (λ n. arrives-with-weight (asking 0 (job_of t)) n i) first budget)
            | false ↦ refuse_search 18 0
          ]

-- ---- tours

leg-axes : (ls : List AxisLimits) (ps qs : List ℤ)
    → leg_axes (map limits_with_weight ls) ps qs ≡ map with_weight (leg_axes ls ps qs)
leg-axes [] ps qs = refl
leg-axes (l ∷ ls) [] qs = refl
leg-axes (l ∷ ls) (p ∷ ps) [] = refl
leg-axes (l ∷ ls) (p ∷ ps) (q ∷ qs) = ap (λ (r : List Axis). with_weight (leg_axis l p q) ∷ r) (leg-axes ls ps qs)

module _ (t : TourSettings) where
  leg-answer : (here there : List ℤ) → ((leg_answer t here there).number ≡ 12 → ⊥)
      → leg_answer (settings_with_weight t) here there ≡ leg_answer t here there
  leg-answer here there h =
      ap (λ (xs : List Axis). answer_of (typed (record { mask = t.mask; asked = 0; axes = xs; windows = no_windows })))
      (leg-axes t.limits here there)
      ∙ answered (leg_job t here there) h

  -- the leg to the stop s, whose answer is a, and the stops ss after it
  on-leg : List Stop → Stop → ℕ → List ℕ → TourSettings → Answer → Bool → Legs
  on-leg ss s n l u a b =
      elim b [
        | true ↦ legs_from u ss (n + a.arrival + s.dwell) s.positions (l ++ ((n + a.arrival) ∷ []))
        | false ↦ refused_leg a (length l)
      ]

  legs : (ss : List Stop) (n : ℕ) (here : List ℤ) (l : List ℕ) → ((legs_from t ss n here l).number ≡ 12 → ⊥)
      → legs_from (settings_with_weight t) ss n here l ≡ legs_from t ss n here l
  unfolding on-leg
  legs [] n here l h = refl
  legs (s ∷ ss) n here l h =
      let a = leg_answer t here s.positions in
      ap (λ (b : Answer). on-leg ss s n l (settings_with_weight t) b (eqb b.number 0))
      (leg-answer here s.positions (λ e. h (refused a e)))
      ∙ go (λ m p k. legs ss m p k) a (eqb a.number 0) h
    where
      refused : (a : Answer) → a.number ≡ 12 → (on-leg ss s n l t a (eqb a.number 0)).number ≡ 12
      refused a e = ap (λ (m : ℕ). (on-leg ss s n l t a (eqb m 0)).number) e ∙ e

      go : ((m : ℕ) (p : List ℤ) (k : List ℕ) → ((legs_from t ss m p k).number ≡ 12 → ⊥)
          → legs_from (settings_with_weight t) ss m p k ≡ legs_from t ss m p k)
          → (a : Answer) (b : Bool) → ((on-leg ss s n l t a b).number ≡ 12 → ⊥)
          → on-leg ss s n l (settings_with_weight t) a b ≡ on-leg ss s n l t a b
      go more a true h = more _ _ _ h
      go more a false h = refl

  module _ (lent : List ℕ) (count : ℕ) where
    by-dwell : Option ℕ → Legs → TourOutcome
    by-dwell o g = elim o [ Some i ↦ refuse_tour 11 i 0 0 lent | None ↦ after_legs count g lent ]

    by_count : Bool → Option ℕ → Legs → TourOutcome
    by_count b o g = elim b [ true ↦ by-dwell o g | false ↦ refuse_tour 11 most_stops 0 0 lent ]

    by-stops : Bool → Bool → Option ℕ → Legs → TourOutcome
    by-stops e b o g = elim e [ true ↦ no_stops lent | false ↦ by_count b o g ]

    after : (g : Legs) → g.number ≡ 12 → (after_legs count g lent).number ≡ 12
    after g e = ap (λ (m : ℕ). (by (eqb m 0)).number) e ∙ e
      where
        by : Bool → TourOutcome
        by b = elim b [
          | true ↦ arrivals_over count g lent
          | false ↦ refuse_tour g.number g.place g.mask g.arrival lent
        ]

    same-tour : (e b : Bool) (o : Option ℕ) (g f : Legs) → ((g.number ≡ 12 → ⊥) → f ≡ g)
        → ((by-stops e b o g).number ≡ 12 → ⊥)
        → by-stops e b o f ≡ by-stops e b o g
    unfolding by-dwell by_count by-stops
    same-tour true b o g f s h = refl
    same-tour false false o g f s h = refl
    same-tour false true (Some i) g f s h = refl
    same-tour false true None g f s h = ap (λ (k : Legs). after_legs count k lent) (s (λ e. h (after g e)))

  tours : (stops : List Stop) (lent : List ℕ) → ((tour_outcome t stops lent).number ≡ 12 → ⊥)
      → tour_outcome (settings_with_weight t) stops lent ≡ tour_outcome t stops lent
  unfolding by-dwell by_count by-stops
  tours stops lent h =
      same-tour lent (length stops) (eqb (length stops) 0) (leb (length stops) most_stops) (first_long_dwell 0 stops)
      (legs_from t stops 0 t.start []) (legs_from (settings_with_weight t) stops 0 t.start [])
      (legs stops 0 t.start []) h

-- ---- every call

pub measured-is-given : MeasuredIsGiven
measured-is-given =
    record {
      tables = tables;
      parts = parts;
      raises = raises;
      searches = λ t first budget. searches first budget t;
      tours = λ t stops lent. tours t stops lent;
    }
