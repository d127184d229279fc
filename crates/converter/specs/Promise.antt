-- What the converter promises of any words and any lent words.
use Rattle.std.specs.Prelude.{ℕ, ◌≡◌, List, ℤ, take}
use Rattle.std.specs.declared.result.Result.{Result}
use Rattle.std.specs.declared.result.Result.TheVariants.{Ok, Err}
use Rattle.model.specs.declared.Answer.{Answer}
use Rattle.model.specs.declared.refusal.Refusal.{Refusal}
use Rattle.model.specs.planning.Told.{answer_to}
use Rattle.model.specs.planning.Outcome.{words, call}
use Rattle.model.specs.calls.Converter.{old_outcome, Conversion, conversion}
use Rattle.theorems.specs.Converter.{ConversionVerdict}

-- ws are the words of the job, entry and exit the lent words before and after the call, r is the
-- answer
pub record Converts (ws entry : List ℕ) (r : Answer) (exit : List ℕ) : Type 0 where
  -- number, place and every lent word are those of the definition, refused or not
  pub conversion : record { number = r.number; place = r.place; words = exit } ≡ conversion ws entry
  -- 1, 2 and 14 come only in their named cases, and which job is converted is said of the
  -- words, without a reader of words
  pub verdict : ConversionVerdict ws entry (record { number = r.number; place = r.place; words = exit })
  -- left free by the method
  pub mask : r.mask ≡ 0
  pub arrival : r.arrival ≡ 0
  -- number 0: for every lent table the written words have, by the old rules and in planning, the
  -- outcome that the old rules give the old words
  pub kept : r.number ≡ 0 → (cells : List ℤ) → old_outcome (take r.place exit) cells ≡ old_outcome ws cells
  pub plans : r.number ≡ 0 → (cells : List ℤ) → call (words (take r.place exit)) cells ≡ old_outcome ws cells

-- ---- the stages

-- the answer for the number of words written, or for the refusal
abbrev pub conversion_answer : Result ℕ Refusal → Answer
conversion_answer (Ok n) = record { number = 0; place = n; mask = 0; arrival = 0 }
conversion_answer (Err r) = answer_to r

-- a stage that ends the call: the answer and the lent words are a conversion of the definitions
pub record Answers (c : Conversion) (r : Answer) (exit : List ℕ) : Type 0 where
  pub conversion : record { number = r.number; place = r.place; words = exit } ≡ c
  pub mask : r.mask ≡ 0
  pub arrival : r.arrival ≡ 0
