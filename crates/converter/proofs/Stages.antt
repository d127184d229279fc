-- The stages of a conversion, in checking order.
use Prim.Native.Nat.{ℕ, ◌≤◌, ◌<◌}
use native.Mathlib.Omega.{arith}
use mathlib.Core.Path.{◌≡◌, refl, sym, ap, subst, ◌∙◌}
use mathlib.Core.Bool.{Bool, true, false}
use mathlib.Core.List.{List, ◌++◌}
use lib.ListN.{length, take, drop}
use borrow.Author.Tests.{lt-ltb, le-ltb}
use Rattle.whole.specs.Lists.{over}
use Rattle.whole.proofs.Lists.{over-front}
use Rattle.model.specs.declared.Answer.{Answer}
use Rattle.std.specs.declared.result.Result.TheVariants.{Ok, Err}
use Rattle.model.specs.declared.Job as Typed
use Rattle.model.specs.declared.refusal.Refusal.{Refusal}
use Rattle.model.specs.declared.refusal.Refusal.TheVariants.{ListShort}
use Rattle.model.specs.planning.Told.{number_of, place_of, answer_to}
use Rattle.model.specs.planning.Refusals.{last_tick}
use Rattle.model.specs.planning.Admission.{words, typed, admission}
use Rattle.model.specs.planning.Outcome.{call}
use Rattle.model.specs.calls.Converter.{old_outcome, converted, Conversion, unconverted, written, conversion_rules}
use Rattle.model.specs.calls.Converter.{conversion_after, conversion}
use Rattle.theorems.specs.Converter.{ConversionVerdict}
use Rattle.theorems.proofs.calls.Conversion.{conversion-kept, conversion-plans, conversion-verdict, conversion-numbered}
use Rattle.words.specs.Decoding.{Decodes}
use Rattle.admission.specs.Admitting.{without_job}
use Rattle.admission.proofs.Admitted.{Goes, refused, place-alone, passed}
use Rattle.words.proofs.ReadWords.{words-answer, words-refused, words-passed}
use Rattle.converter.specs.Promise.{Converts, Answers, conversion_answer}

-- ---- refusal 10, or the words

by-room : List ℕ → List ℕ → Bool → Conversion
by-room ws lent b =
    elim b [
      | true ↦ unconverted 10 (length ws) lent
      | false ↦ record { number = 0; place = length ws; words = ws ++ drop (length ws) lent }
    ]

-- n is the number of words needed
module _ (ws lent : List ℕ) (n : ℕ) (e : n ≡ length ws) where
  pub too_few : length lent < n → Answers (written ws lent) (conversion_answer (Err (ListShort n))) lent
  unfolding by-room
  too_few h =
      record {
        conversion =
            ap (λ (k : ℕ). unconverted 10 k lent) e
            ∙ sym (ap (by-room ws lent) (lt-ltb (length lent) (length ws) (omega arith)));
        mask = refl;
        arrival = refl;
      }

  pub enough : n ≤ length lent → (exit : List ℕ) → exit ≡ over lent 0 ws
      → Answers (written ws lent) (conversion_answer (Ok n)) exit
  unfolding by-room
  enough h exit x =
      record {
        conversion =
            (λ i. record { number = 0; place = e i; words = (x ∙ over-front lent ws) i })
            ∙ sym (ap (by-room ws lent) (le-ltb (length lent) (length ws) (omega arith)));
        mask = refl;
        arrival = refl;
      }

-- ---- the promise

-- what a stage that ends the call gives is what the call promises
pub promised : (ws lent : List ℕ) (r : Answer) (exit : List ℕ)
    → Answers (conversion ws lent) r exit → Converts ws lent r exit
promised ws lent r exit g =
    record {
      conversion = g.conversion;
      verdict = subst (ConversionVerdict ws lent) (sym g.conversion) (conversion-verdict ws lent);
      mask = g.mask;
      arrival = g.arrival;
      kept = λ z cells.
          ap (λ (q : Conversion). old_outcome (take q.place q.words) cells) g.conversion
          ∙ conversion-kept ws lent (sym (ap (λ (q : Conversion). q.number) g.conversion) ∙ z) cells;
      plans = λ z cells.
          ap (λ (q : Conversion). call (words (take q.place q.words)) cells) g.conversion
          ∙ conversion-plans ws lent (sym (ap (λ (q : Conversion). q.number) g.conversion) ∙ z) cells;
    }

-- the three ways out of the call: a refusal of the words, one of the job, and the last stage
pub ends-at-words : (ws lent : List ℕ) (x : Refusal) → Decodes ws (Err x) → Converts ws lent (answer_to x) lent
ends-at-words ws lent x d =
    let plain = words-answer ws (Err x) d x refl in
    promised ws lent (answer_to x) lent
    (record {
      conversion = sym (ap (conversion_after ws lent) (words-refused conversion_rules ws (Err x) d x refl));
      mask = ap (λ (a : Answer). a.mask) plain;
      arrival = ap (λ (a : Answer). a.arrival) plain;
    })

module _ (ws lent : List ℕ) (t : Typed.Job) (d : Decodes ws (Ok t)) where
  read : admission conversion_rules (typed t) ≡ admission conversion_rules (words ws)
  read = words-passed conversion_rules ws (Ok t) d t refl

  pub ends-at-job : (x : Refusal) → Err (answer_to x) ≡ without_job (admission conversion_rules (typed t))
      → Converts ws lent (answer_to x) lent
  ends-at-job x is =
      let plain =
      place-alone conversion_rules conversion-numbered (typed t) (Err (answer_to x)) is (answer_to x) refl in
      let told = refused conversion_rules conversion-numbered (typed t) (Err (answer_to x)) is
      (number_of x) (place_of x) (ap (λ (a : Answer). Err a) plain) in
      promised ws lent (answer_to x) lent
      (record {
        conversion = ap (conversion_after ws lent) (sym told.is ∙ read);
        mask = ap (λ (a : Answer). a.mask) plain;
        arrival = ap (λ (a : Answer). a.arrival) plain;
      })

  module _ (is : Ok tt ≡ without_job (admission conversion_rules (typed t))) where
    goes : Goes conversion_rules (typed t)
    goes = passed conversion_rules conversion-numbered (typed t) (Ok tt) is refl

    pub soon : t.asked ≤ last_tick
    soon = goes.asked

    pub ends-written : (a : Answer) (exit : List ℕ) → Answers (written (converted t.asked ws) lent) a exit
        → Converts ws lent a exit
    ends-written a exit g =
        promised ws lent a exit
        (record {
          conversion = g.conversion ∙ ap (conversion_after ws lent) (sym goes.is ∙ read);
          mask = g.mask;
          arrival = g.arrival;
        })
