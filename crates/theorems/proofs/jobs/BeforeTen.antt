-- The answer before refusal 10: it does not depend on what is lent, and where its number is 0 the
-- call with any table that has room is accepted with this arrival and meets demand 3.
use Prim.Native.Nat.{ℕ, zero, suc, ◌≤◌, ◌<◌}
use native.Mathlib.Omega.{arith}
use mathlib.Core.Path.{◌≡◌, refl, sym, ap, subst, ◌∙◌}
use mathlib.Core.Bool.{Bool, true, false, not}
use Rattle.std.specs.Prelude.{Option, None, Some}
use mathlib.Core.Logic.{◌⊎◌, inl, inr}
use mathlib.Core.List.{List, []}
use lib.IntN.{ℤ}
use lib.Dec.{eqb, ltb}
use lib.ListN.{length, length-map}
use borrow.Author.Tests.{eqb-true, ne_eqb}
use Rattle.model.specs.declared.Answer.{Answer}
use Rattle.model.specs.declared.Order.TheVariants.{Forwards}
use Rattle.model.specs.planning.Job.{Job, mask_where}
use Rattle.model.specs.planning.Motion.{reachable}
use Rattle.model.specs.planning.Refusals.{last_tick}
use Rattle.model.specs.planning.Admission.{Input, input_job, input_axes, axis_refusals, Admission, planning_rules}
use Rattle.model.specs.planning.Admission.{admission}
use Rattle.model.specs.planning.Outcome.{Outcome, call, refuse, accept, filled, arrived, outcome_after}
use Rattle.model.specs.planning.Outcome.{cells_needed, least_from, arrives, reaches_none, before_ten, answer_of}
use Rattle.theorems.specs.Verdict.{Verdict, refused3, refused4, refused12, refused5, refused15, refused6}
use Rattle.theorems.specs.Verdict.{refused16, refused17, refused13, refused8, refused9, refused10, accepted}
use Rattle.theorems.specs.Verdict.{Refuses, CallVerdict}
use Rattle.model.specs.planning.Demand.{Demand3}
use Rattle.theorems.proofs.words.WordsAre.{either-said}
use Rattle.theorems.proofs.jobs.CheckingOrder.{lacks}
use Rattle.theorems.proofs.jobs.Admissions.{Numbered, Comes, refuses, goes, comes}
use Rattle.theorems.proofs.calls.CallVerdict.{call-verdict}
use Rattle.theorems.proofs.tables.Demand.{demand3}

not-below : {a b : ℕ} → a < b → b ≤ a → ⊥
not-below h k = omega arith

-- the masks of 9 and of 8
abbrev none-mask : Job → ℕ
none-mask j = mask_where (λ x. reaches_none x) j.axes

abbrev missed-mask : Job → ℕ → ℕ
missed-mask j n = mask_where (λ x. not (reachable x n)) j.axes

-- ---- the same whatever is lent

-- with or without room for the table
pub before-filled : (j : Job) (n : ℕ) (lent : List ℤ)
    → before_ten j.mask (filled j n lent) ≡ record { number = 0; place = 0; mask = j.mask; arrival = n }
before-filled j n lent = go (ltb (length lent) (cells_needed (length j.axes) n))
  where
    go : (b : Bool)
        → before_ten j.mask (elim b as (λ _. Outcome) [ true ↦ refuse 10 0 0 n lent | false ↦ accept j n lent ])
        ≡ record { number = 0; place = 0; mask = j.mask; arrival = n }
    go true = refl
    go false = refl

module _ (j : Job) (l l' : List ℤ) where
  abbrev Same : (List ℤ → Outcome) → Type 0
  Same f = before_ten j.mask (f l) ≡ before_ten j.mask (f l')

  filled-same : (n : ℕ) → Same (filled j n)
  filled-same n = before-filled j n l ∙ sym (before-filled j n l')

  arrived-same : (asked : ℕ) → Same (arrived j asked)
  arrived-same zero = go (least_from (arrives j) 1 last_tick)
    where
      go : (o : Option ℕ) → before_ten j.mask
          (elim o as (λ _. Outcome) [ Some n ↦ filled j n l | None ↦ refuse 9 0 (none-mask j) 0 l ])
          ≡ before_ten j.mask
          (elim o as (λ _. Outcome) [ Some n ↦ filled j n l' | None ↦ refuse 9 0 (none-mask j) 0 l' ])
      go (Some n) = filled-same n
      go None = refl
  arrived-same (suc n) = go (arrives j (suc n))
    where
      go : (b : Bool) → before_ten j.mask
          (elim b as (λ _. Outcome) [ true ↦ filled j (suc n) l | false ↦ refuse 8 0 (missed-mask j (suc n)) 0 l ])
          ≡ before_ten j.mask
          (elim b as (λ _. Outcome) [ true ↦ filled j (suc n) l' | false ↦ refuse 8 0 (missed-mask j (suc n)) 0 l' ])
      go true = filled-same (suc n)
      go false = refl

-- planning's tests have no number 0 and no number 10
pub planning-numbered : Numbered planning_rules
planning-numbered = record { not-0 = λ n. lacks 0 axis_refusals refl; not-10 = λ n. lacks 10 axis_refusals refl }

pub same_answer : (q : Input) (lent : List ℤ) → before_ten (input_job q).mask (call q lent) ≡ answer_of q
unfolding answer_of
same_answer q lent = go (admission planning_rules q) (comes planning_rules planning-numbered q)
  where
    go : (a : Admission) → Comes planning_rules (input_job q) a
        → before_ten (input_job q).mask (outcome_after lent a) ≡ before_ten (input_job q).mask (outcome_after [] a)
    go a (refuses n p h k) = refl
    go a (goes h c w) = arrived-same (input_job q) lent [] (input_job q).asked

-- ---- with room for the table it is the call's own

module _ (m : ℕ) (o : Outcome) where
  -- an outcome's answer, by whether the number is 10
  abbrev by_ten : Bool → Answer
  by_ten b =
      elim b [
        | true ↦ record { number = 0; place = 0; mask = m; arrival = o.arrival }
        | false ↦ record { number = o.number; place = o.place; mask = o.mask; arrival = o.arrival }
      ]

  same-arrival : (before_ten m o).arrival ≡ o.arrival
  same-arrival = go (eqb o.number 10)
    where
      go : (b : Bool) → (by_ten b).arrival ≡ o.arrival
      go true = refl
      go false = refl

  zero-or-ten : (before_ten m o).number ≡ 0 → (o.number ≡ 10) ⊎ (o.number ≡ 0)
  zero-or-ten = go (eqb o.number 10) refl
    where
      go : (b : Bool) → eqb o.number 10 ≡ b → (by_ten b).number ≡ 0 → (o.number ≡ 10) ⊎ (o.number ≡ 0)
      go true s e = inl (eqb-true o.number 10 s)
      go false s e = inr e

  -- a refusal is the call's own
  pub same-refusal : (k : ℕ) → (k ≡ 0 → ⊥) → (before_ten m o).number ≡ k
      → (o.number ≡ k) × (o.mask ≡ (before_ten m o).mask)
  same-refusal k not-zero = go (eqb o.number 10)
    where
      go : (b : Bool) → (by_ten b).number ≡ k → (o.number ≡ k) × (o.mask ≡ (by_ten b).mask)
      go true e = absurd (not-zero (sym e))
      go false e = (e, refl)

-- as an answer, with place, mask and arrival
pub refused-answer : (m : ℕ) (o : Outcome) (n p k a : ℕ) (lent : List ℤ) → (n ≡ 10 → ⊥) → Refuses o n p k a lent
    → before_ten m o ≡ record { number = n; place = p; mask = k; arrival = a }
refused-answer m o n p k a lent ten r =
    ap (by_ten m o) (ne_eqb o.number 10 (λ e. ten (sym r.number ∙ e)))
    ∙ (λ i. record { number = r.number i; place = r.place i; mask = r.mask i; arrival = r.arrival i })

-- the table is too short for a job and an outcome's arrival
abbrev Short : List ℤ → Outcome → Job → Type 0
Short lent o j = length lent < cells_needed (length j.axes) o.arrival

-- 10 comes where the table is too short, and there alone
module _ (lent : List ℤ) (o : Outcome) (e : o.number ≡ 10) where
  of-job : (j : Job) → Verdict Forwards j lent o → Short lent o j
  of-job j (refused3 a r) = let z = r.number in absurd (omega arith)
  of-job j (refused4 i a b r) = let z = r.number in absurd (omega arith)
  of-job j (refused12 i a b c r) = let z = r.number in absurd (omega arith)
  of-job j (refused5 i a b c d r) = let z = r.number in absurd (omega arith)
  of-job j (refused15 i a b c d f r) = let z = r.number in absurd (omega arith)
  of-job j (refused6 i a b c d f g r) = let z = r.number in absurd (omega arith)
  of-job j (refused16 i a b c d f g h r) = let z = r.number in absurd (omega arith)
  of-job j (refused17 i a b c d f g h k r) = let z = r.number in absurd (omega arith)
  of-job j (refused13 p a b c r) = let z = r.number in absurd (omega arith)
  of-job j (refused8 n a b c w d f r) = let z = r.number in absurd (omega arith)
  of-job j (refused9 n a b w c d r) = let z = r.number in absurd (omega arith)
  of-job j (refused10 n a w b h r) =
      subst (λ (k : ℕ). length lent < cells_needed (length j.axes) k) (sym r.arrival) h
  of-job j (accepted n a w b c r) = let z = r.number in absurd (omega arith)

  ten-short : (q : Input) → CallVerdict Forwards lent o q → Short lent o (input_job q)
  ten-short q =
      either-said (λ n p. Refuses o n p 0 0 lent) (λ j. Verdict Forwards j lent o) (Short lent o (input_job q)) q
      (λ n p w r. absurd (w.not-10 (sym r.number ∙ e)))
      (λ j s v. subst (Short lent o) (sym s) (of-job j v))

module _ (q : Input) (lent : List ℤ) where
  abbrev o : Outcome
  o = call q lent

  pub job-accepted : (answer_of q).number ≡ 0
      → cells_needed (length (input_axes q)) (answer_of q).arrival ≤ length lent
      → (o.number ≡ 0)
      × ((o.arrival ≡ (answer_of q).arrival) × Demand3 Forwards (input_axes q) (answer_of q).arrival o.cells)
  job-accepted z room =
      let n = (answer_of q).arrival in
      let same = same_answer q lent in
      let m = (input_job q).mask in
      let arrives : o.arrival ≡ n = sym (same-arrival m o) ∙ ap (λ (a : Answer). a.arrival) same in
      let number = go arrives (zero-or-ten m o (ap (λ (a : Answer). a.number) same ∙ z)) in (
        number,
        (
          arrives,
          subst (λ (k : ℕ). Demand3 Forwards (input_axes q) k o.cells) arrives
              (demand3 Forwards q lent number),
        ),
      )
    where
      go : o.arrival ≡ (answer_of q).arrival → (o.number ≡ 10) ⊎ (o.number ≡ 0) → o.number ≡ 0
      go a (inr e) = e
      go a (inl e) =
          let short = ten-short lent o e q (call-verdict q lent) in
          let count : length (input_axes q) ≡ length (input_job q).axes = length-map (input_job q).axes (λ x. x.axis) in
          let enough = subst (λ (k : ℕ). cells_needed k (answer_of q).arrival ≤ length lent) count room in
          let enough' = subst (λ (k : ℕ). cells_needed (length (input_job q).axes) k ≤ length lent) (sym a) enough in
          absurd (not-below short enough')
