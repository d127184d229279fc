-- The answer before refusal 10, and words: what is promised of the typed values that
-- they hold is promised of them.
use Prim.Native.Nat.{ℕ, ◌≤◌}
use native.Mathlib.Omega.{arith}
use mathlib.Core.Path.{◌≡◌, refl, sym, ap, ap₂, subst, ◌∙◌}
use mathlib.Core.Bool.{Bool, true, false}
use mathlib.Core.List.{List, []}
use lib.Dec.{eqb}
use lib.IntN.{ℤ}
use Rattle.model.specs.declared.Answer.{Answer}
use Rattle.model.specs.declared.refusal.Refusal.{Refusal}
use Rattle.std.specs.declared.result.Result.{Result}
use Rattle.std.specs.declared.result.Result.TheVariants.{Ok, Err}
use Rattle.model.specs.planning.Told.{number_of, place_of, answer_to, refusal}
use Rattle.model.specs.declared.Job as Typed
use Rattle.model.specs.declared.Order.TheVariants.{Forwards}
use Rattle.model.specs.declared.PartAnswer.{PartAnswer}
use Rattle.model.specs.planning.Job.{Job, job_of, axes_of}
use Rattle.model.specs.planning.Refusals.{last_tick}
use Rattle.model.specs.planning.Outcome.{Outcome, Input, call, input_axes, ordered, outcome_after, before_ten}
use Rattle.model.specs.planning.Outcome.{answer_of}
use Rattle.model.specs.planning.Admission.{words, typed, job_read, input_job, Admission, planning_rules}
use Rattle.theorems.specs.Verdict.{Verdict, refused3, refused4, refused12, refused5, refused15, refused6}
use Rattle.theorems.specs.Verdict.{refused16, refused17, refused13, refused8, refused9, refused10}
use Rattle.theorems.specs.Verdict.{accepted, CallVerdict, words1, words2, words14, words_job, typed1, typed_jobs}
use Rattle.model.specs.calls.Parts.{PartOutcome, part_accepted, part_refused, part_with, part_call}
use Rattle.theorems.proofs.calls.CallVerdict.{call-verdict}
use Rattle.theorems.proofs.jobs.BeforeTen.{planning-numbered}
use Rattle.words.specs.Decoding.{Decodes}
use Rattle.admission.proofs.Admitted as admitting
use Rattle.words.proofs.ReadWords.{words-refused, words-passed, words-answer}
use Rattle.planner.specs.declared.Wanted.{Wanted}
use Rattle.planner.specs.declared.Wanted.TheVariants.{Whole, From}
use Rattle.planner.specs.Promise.{PromiseIn, Answered, part_outcome}
use Rattle.planner.proofs.Stages.{before-ten}
use Rattle.planner.proofs.Calls.{promise}

-- ---- the answer before 10

-- no call answers with an arrival past 4,096
of-verdict : (j : Job) (lent : List ℤ) (o : Outcome) → Verdict Forwards j lent o → o.arrival ≤ last_tick
of-verdict j lent o (refused3 a r) = omega (arith, r.arrival)
of-verdict j lent o (refused4 i a b r) = omega (arith, r.arrival)
of-verdict j lent o (refused12 i a b c r) = omega (arith, r.arrival)
of-verdict j lent o (refused5 i a b c d r) = omega (arith, r.arrival)
of-verdict j lent o (refused15 i a b c d f r) = omega (arith, r.arrival)
of-verdict j lent o (refused6 i a b c d f g r) = omega (arith, r.arrival)
of-verdict j lent o (refused16 i a b c d f g h r) = omega (arith, r.arrival)
of-verdict j lent o (refused17 i a b c d f g h k r) = omega (arith, r.arrival)
of-verdict j lent o (refused13 p a b c r) = omega (arith, r.arrival)
of-verdict j lent o (refused8 n a b c w d f r) = omega (arith, r.arrival)
of-verdict j lent o (refused9 n a b w c d r) = omega (arith, r.arrival)
of-verdict j lent o (refused10 n a w b h r) = omega (arith, r.arrival, b.last)
of-verdict j lent o (accepted n a w b c r) = omega (arith, r.arrival, b.last)

of-call : (lent : List ℤ) (o : Outcome) (q : Input) → CallVerdict Forwards lent o q → o.arrival ≤ last_tick
of-call lent o q (words1 ws a r) = omega (arith, r.arrival)
of-call lent o q (words2 ws p a r) = omega (arith, r.arrival)
of-call lent o q (words14 ws p a r) = omega (arith, r.arrival)
of-call lent o q (words_job ws j a v) = of-verdict j lent o v
of-call lent o q (typed1 t a r) = omega (arith, r.arrival)
of-call lent o q (typed_jobs t a b v) = of-verdict (job_of t) lent o v

-- nor does the answer before 10
late : (q : Input) → (answer_of q).arrival ≤ last_tick
unfolding answer_of
late q = go (eqb o.number 10)
  where
    o : Outcome
    o = call q []

    go : (b : Bool) → (elim b as (λ _. Answer) [
      | true ↦ record { number = 0; place = 0; mask = (input_job q).mask; arrival = o.arrival }
      | false ↦ record { number = o.number; place = o.place; mask = o.mask; arrival = o.arrival }
    ]).arrival ≤ last_tick
    go true = of-call [] o q (call-verdict q [])
    go false = of-call [] o q (call-verdict q [])

-- the answer of a call for a part
pub part-answer : (q : Input) (k : ℕ) (entry : List ℤ) → (part_call q k entry).answer ≡ answer_of q
unfolding part_call
part-answer q k entry = go (eqb (answer_of q).number 0)
  where
    go : (b : Bool)
        → (elim b as (λ _. PartOutcome) [
          | true ↦ part_accepted (answer_of q) (input_axes q) k entry
          | false ↦ part_refused (answer_of q) entry
        ]).answer ≡ answer_of q
    go true = refl
    go false = refl

pub answered : (t : Typed.Job) (k : ℕ) (entry : List ℤ) (r : PartAnswer) (exit : List ℤ)
    → part_outcome r exit ≡ part_call (typed t) k entry → Answered t r.answer
answered t k entry r exit e =
    let is = ap (λ (p : PartOutcome). p.answer) e ∙ part-answer (typed t) k entry in
    record { is = is; last = subst (λ (a : Answer). a.arrival ≤ last_tick) (sym is) (late (typed t)) }

-- ---- words: the answer, and the job, are those of the typed values that the words hold

module _ (ws : List ℕ) (d : Result Typed.Job Refusal) (is : Decodes ws d) where
  module _ (t : Typed.Job) (z : d ≡ Ok t) where
    pub job-of-words : job_of t ≡ input_job (words ws)
    job-of-words = sym (ap job_read (is.typed t z))

    pub answer-of-words : answer_of (typed t) ≡ answer_of (words ws)
    unfolding answer_of
    answer-of-words = ap₂ (λ (j : Job). before_ten j.mask) job-of-words
        (ap (outcome_after []) (words-passed planning_rules ws d is t z))

    pub words-promise : (w : Wanted) (entry : List ℤ) (r : PartAnswer) (exit : List ℤ)
        → PromiseIn w (typed t) entry r exit → PromiseIn w (words ws) entry r exit
    unfolding part_call
    words-promise (Whole o) entry r exit p =
        promise o (words ws) entry r.answer exit
        (record {
          outcome = p.outcome ∙ ap₂ (λ (j : Job) (r : Outcome). ordered o (axes_of j) entry r) job-of-words
              (ap (outcome_after entry) (words-passed planning_rules ws d is t z));
          fitted = p.fitted;
        })
    words-promise (From k) entry r exit p =
        p ∙ ap₂ (λ (a : Answer) (j : Job). part_with a (axes_of j) k entry) answer-of-words job-of-words

  module _ (x : Refusal) (e : d ≡ Err x) where
    pub of_words : admitting.Refusal planning_rules (words ws) (number_of x) (place_of x)
    of_words = admitting.refusal planning_rules planning-numbered (words ws) (number_of x) (place_of x)
        (words-refused planning_rules ws d is x e)

    pub refusal-of-words : answer_to x ≡ answer_of (words ws)
    unfolding answer_of
    refusal-of-words =
        words-answer ws d is x e
        ∙ before-ten (input_job (words ws)).mask (refusal (number_of x) (place_of x)) [] of_words.not-10
        ∙ sym (ap (λ (a : Admission). before_ten (input_job (words ws)).mask (outcome_after [] a)) of_words.is)
