-- Words that are refused are refused by any rules, and others are admitted as the job that they
-- hold.
use Prim.Native.Nat.{ℕ}
use mathlib.Core.Path.{◌≡◌, sym, ap, ◌∙◌}
use mathlib.Core.List.{List}
use Rattle.std.specs.declared.result.Result.{Result}
use Rattle.std.specs.declared.result.Result.TheVariants.{Ok, Err}
use Rattle.model.specs.declared.Answer.{Answer}
use Rattle.model.specs.declared.Job as Typed
use Rattle.model.specs.declared.refusal.Refusal.{Refusal}
use Rattle.model.specs.planning.Told.{number_of, place_of, answer_to, told, refusal}
use Rattle.model.specs.planning.Words.{Decoded, no_mask, bad_word, bad_long, job, decode}
use Rattle.model.specs.planning.Admission.{words, typed, Admission, refused_at, Rules, job_admission, admission}
use Rattle.model.proofs.AllowedMask.{mask-passed}
use Rattle.words.specs.Decoding.{decoded_job, Decodes}

plain : {a : Answer} {n p : ℕ} → a ≡ refusal n p → a ≡ refusal a.number a.place
plain e = e ∙ (λ i. refusal ((sym e i).number) ((sym e i).place))

-- the words are refused: x names no axes and no arrival
module _ (ws : List ℕ) (d : Result Typed.Job Refusal) (is : Decodes ws d) (x : Refusal) (e : d ≡ Err x) where
  pub words-told : Err (answer_to x) ≡ decoded_job (decode ws)
  words-told = sym (ap told e) ∙ is.decoded

  pub words-answer : answer_to x ≡ refusal (number_of x) (place_of x)
  words-answer = go (decode ws) words-told
    where
      go : (w : Decoded) → Err (answer_to x) ≡ decoded_job w → answer_to x ≡ refusal (number_of x) (place_of x)
      go no_mask h = let z : answer_to x ≡ refusal 1 0 = cc in plain z
      go (bad_word q) h = let z : answer_to x ≡ refusal 2 q = cc in plain z
      go (bad_long q) h = let z : answer_to x ≡ refusal 14 q = cc in plain z
      go (job j) h = absurd (cc)

module _ (r : Rules) (ws : List ℕ) (d : Result Typed.Job Refusal) (is : Decodes ws d) where
  by-words : Decoded → Admission
  by-words w =
      elim w [
        | no_mask ↦ refused_at 1 0
        | bad_word p ↦ refused_at 2 p
        | bad_long p ↦ refused_at 14 p
        | job j ↦ job_admission r j
      ]

  -- what a refusal of the words comes to
  abbrev at : Result Typed.Job Answer → Admission
  at (Err a) = refused_at a.number a.place
  at (Ok t) = refused_at 0 0

  pub words-refused : (x : Refusal) → d ≡ Err x → admission r (words ws) ≡ refused_at (number_of x) (place_of x)
  unfolding by-words
  words-refused x e = go (decode ws) (sym (words-told ws d is x e))
    where
      go : (w : Decoded) → decoded_job w ≡ Err (answer_to x) → by-words w ≡ refused_at (number_of x) (place_of x)
      go no_mask h = ap at h
      go (bad_word q) h = ap at h
      go (bad_long q) h = ap at h
      go (job j) h = absurd (cc)

  pub words-passed : (t : Typed.Job) → d ≡ Ok t → admission r (typed t) ≡ admission r (words ws)
  unfolding by-words
  words-passed t z = mask-passed r t (is.allowed t z) ∙ sym (ap by-words (is.typed t z))
