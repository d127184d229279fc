-- The two calls: what they promise follows from the answer and the raises.
use Prim.Native.Nat.{ℕ}
use native.Mathlib.Omega.{arith}
use mathlib.Core.Path.{◌≡◌, sym, ap, ap₂, subst, ◌∙◌}
use mathlib.Core.Bool.{Bool, true, false}
use mathlib.Core.List.{List}
use lib.ListN.{get_or}
use borrow.Author.Tests.{eq-eqb, ne_eqb}
use Rattle.model.specs.declared.Answer.{Answer}
use Rattle.model.specs.declared.AxisRaises.{AxisRaises}
use Rattle.model.specs.declared.Job as Typed
use Rattle.model.specs.declared.refusal.Refusal.{Refusal}
use Rattle.std.specs.declared.result.Result.{Result}
use Rattle.std.specs.declared.result.Result.TheVariants.{Ok, Err}
use Rattle.model.specs.planning.Told.{number_of, answer_to}
use Rattle.model.specs.declared.RaisesAnswer.{RaisesAnswer}
use Rattle.model.specs.planning.Job.{Job, job_of}
use Rattle.model.specs.planning.Words.{Decoded, no_mask, bad_word, bad_long, job, decode}
use Rattle.model.specs.planning.Outcome.{Input, words, typed, input_job, answer_of}
use Rattle.model.specs.calls.Raises.{no_raises, raises_from, none_raised, raises_with, raises_call}
use Rattle.theorems.specs.Raises.{Named, RaisesHold}
use Rattle.theorems.proofs.calls.RaisesHold.{raises-hold, none-raised, raises-verdict}
use Rattle.words.specs.Decoding.{decoded_job, Decodes}
use Rattle.words.proofs.ReadWords.{words-told}
use Rattle.planner.proofs.Answers.{job-of-words, answer-of-words, refusal-of-words}
use Rattle.raises.specs.Promise.{RaisesPromise}

-- ---- an answer with its raises

abbrev pub beside : Answer → List AxisRaises → RaisesAnswer
beside a l = record { answer = a; axes = l }

module _ (q : Input) (a : Answer) (e : a ≡ answer_of q) where
  abbrev j : Job
  j = input_job q

  abbrev list : Bool → RaisesAnswer
  list b =
      record { answer = a; axes = elim b [ true ↦ raises_from j.asked j.axes none_raised | false ↦ none_raised ] }

  pub with-raises : a.number ≡ 8
      → record { answer = a; axes = raises_from j.asked j.axes none_raised } ≡ raises_call q
  unfolding raises_call
  with-raises z = sym (ap list (eq-eqb a.number 8 z)) ∙ ap (λ (b : Answer). raises_with b j) e

  pub without-raises : (a.number ≡ 8 → ⊥) → record { answer = a; axes = none_raised } ≡ raises_call q
  unfolding raises_call
  without-raises z = sym (ap list (ne_eqb a.number 8 z)) ∙ ap (λ (b : Answer). raises_with b j) e

promised : (q : Input) (r : RaisesAnswer) → r ≡ raises_call q → RaisesHold (input_job q) r → RaisesPromise q r
promised q r e h = record { is = e; verdict = raises-verdict q r e h; holds = h }

pub promise : (t : Typed.Job) (r : RaisesAnswer) → r ≡ raises_call (typed t) → RaisesPromise (typed t) r
promise t r e = promised (typed t) r e (subst (RaisesHold (job_of t)) (sym e) (raises-hold t))

-- ---- words

module _ (ws : List ℕ) (d : Result Typed.Job Refusal) (is : Decodes ws d) where
  -- the answer to the words is that to their job
  pub words-promise : (t : Typed.Job) → d ≡ Ok t → (r : RaisesAnswer) → RaisesPromise (typed t) r
      → RaisesPromise (words ws) r
  unfolding raises_call
  words-promise t z r p =
      promised (words ws) r (p.is ∙ ap₂ raises_with (answer-of-words ws d is t z) (job-of-words ws d is t z))
      (subst (λ (j : Job). RaisesHold j r) (job-of-words ws d is t z) p.holds)

  -- refusals 1, 2 and 14
  pub refusal-promise : (x : Refusal) → d ≡ Err x → (r : RaisesAnswer) → r ≡ beside (answer_to x) none_raised
      → RaisesPromise (words ws) r
  refusal-promise x h r e =
      promised (words ws) r (e ∙ without-raises (words ws) (answer_to x) (refusal-of-words ws d is x h) no-eight)
      (record {
        named = λ i m k. absurd (eight i.number k);
        others = λ i k. ap (λ (a : RaisesAnswer). get_or a.axes i no_raises) e ∙ none-raised i;
      })
    where
      number : Result Typed.Job Answer → ℕ
      number (Ok t) = 0
      number (Err a) = a.number

      no-eight : number_of x ≡ 8 → ⊥
      no-eight z = go (decode ws) (sym (ap number (words-told ws d is x h)) ∙ z)
        where
          go : (w : Decoded) → number (decoded_job w) ≡ 8 → ⊥
          go no_mask e = omega arith
          go (bad_word q) e = omega arith
          go (bad_long q) e = omega arith
          go (job j) e = omega arith

      eight : (i : ℕ) → Named r.answer i → ⊥
      eight i k = no-eight (sym (ap (λ (a : RaisesAnswer). a.answer.number) e) ∙ k.0)
