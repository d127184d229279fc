-- A whole job: what the code returns at each of its ways out is what the definitions decode.
use Prim.Native.Nat.{ℕ, suc, ◌+◌}
use native.Mathlib.Omega.{arith}
use mathlib.Core.Path.{◌≡◌, refl, sym, ap, subst, ◌∙◌}
use mathlib.Core.Bool.{Bool, true, false, cond, ◌&&◌, and-false}
use Rattle.std.specs.Prelude.{Option, None, Some}
use mathlib.Core.List.{List, [], ◌∷◌}
use lib.ListN.{length, drop}
use lib.Dec.{eqb, ltb}
use borrow.Author.Tests.{ltb-false}
use Rattle.model.specs.declared.Axis.{Axis}
use Rattle.std.specs.declared.result.Result.{Result}
use Rattle.std.specs.declared.result.Result.TheVariants.{Ok, Err}
use Rattle.model.specs.declared.Answer.{Answer}
use Rattle.model.specs.declared.Job as Typed
use Rattle.model.specs.declared.refusal.Refusal.{Refusal}
use Rattle.model.specs.declared.refusal.Refusal.TheVariants.{Word}
use Rattle.model.specs.planning.Told.{answer_to}
use Rattle.model.specs.planning.Job.{JobAxis, set_bits}
use Rattle.model.specs.planning.Words.{kind, payload, first_bad_long, Reading, got, wrong, axes, ending, read_job}
use Rattle.model.specs.planning.Words.{after_mask, good_mask, no_mask, spelled, decided, decode}
use Rattle.words.specs.Decoding.{unset_axes, placed, word_job, refused_job, decoded_job, decided_job}
use Rattle.words.specs.ByIndex.{is_kind, is_end, payload_at, bad_long_in, long_checked, end_checked, AxesRead}
use Rattle.words.specs.ByIndex.{read_all, begun}
use Rattle.words.proofs.Reader.{on, field-yes, field-no, inside, there}
use Rattle.words.proofs.EndWords.{end_there, ends, ending-is}
use Rattle.words.proofs.LongWords.{long-is}
use Rattle.words.proofs.AxesWords.{Matches, reads}

-- ---- from the mask on

abbrev Out : Type 0
Out = Result Typed.Job Answer

abbrev accepted : ℕ → ℕ → List Axis → Out
accepted m asked six = Ok (word_job m asked six)

-- once the structure is right, by what refusal 14 names
abbrev unless : Option ℕ → ℕ → ℕ → List Axis → Out
unless o m asked six = elim o [ Some p ↦ refused_job 14 p | None ↦ accepted m asked six ]

-- once the axes are read, by the tests of the end word
abbrev closed : Option ℕ → ℕ → ℕ → ℕ → List Axis → Bool → Bool → Out
closed o m asked i six b l = cond b (cond l (refused_job 2 (i + 1)) (unless o m asked six)) (refused_job 2 i)

-- the same by what the code's check of the end says
abbrev pub checked_job : ℕ → ℕ → List Axis → Result (Unit {0}) Refusal → Out
checked_job m asked six (Ok u) = accepted m asked six
checked_job m asked six (Err e) = Err (answer_to e)

-- a reading of axes that the code's reading matches
module _ (ws : List ℕ) (m asked : ℕ) where
  abbrev read : Reading (List JobAxis) → Out
  read r = decided_job ws (on (λ xs. ending (read_job m asked xs)) r)

  abbrev long : Option ℕ
  long = first_bad_long 0 ws

  stopped-is : (e : Refusal) (r : Reading (List JobAxis)) → Matches ws unset_axes (Err e) r
      → read r ≡ Err (answer_to e)
  stopped-is e (got xs j vs) h = absurd h
  stopped-is e (wrong p) h = ap (λ (x : Refusal). Err (answer_to x)) (sym h)

  closed_is : (six : List Axis) (at : ℕ) (r : Reading (List JobAxis)) → Matches ws unset_axes (Ok (six, at)) r
      → read r ≡ closed long m asked at six (is_end ws at) (ltb (at + 1) (length ws))
  closed_is six at (got xs j vs) (b, c, d) =
      ap (λ (us : List ℕ). decided_job ws (ending (read_job m asked xs) j us)) c
      ∙ ap (λ (k : ℕ). decided_job ws (ending (read_job m asked xs) k (drop k ws))) (sym b)
      ∙ ap (decided_job ws) (ending-is (read_job m asked xs) ws at)
      ∙ by-ends (is_end ws at) (ltb (at + 1) (length ws))
      ∙ ap (λ (s : List Axis). closed long m asked at s (is_end ws at) (ltb (at + 1) (length ws))) (sym d)
    where
      by-long : (o : Option ℕ) → decoded_job (spelled o (read_job m asked xs)) ≡ unless o m asked (placed xs unset_axes)
      by-long (Some p) = refl
      by-long None = refl

      by-ends : (b l : Bool) → decided_job ws (ends (read_job m asked xs) at b l)
          ≡ closed long m asked at (placed xs unset_axes) b l
      by-ends true true = refl
      by-ends true false = by-long long
      by-ends false l = refl
  closed_is six at (wrong p) h = absurd h

module _ (ws : List ℕ) (m : ℕ) where
  abbrev after : Out
  after = decided_job ws (after_mask m 1 (drop 1 ws))

  abbrev by-asked : Reading ℕ → Out
  by-asked r = decided_job ws (on (λ a i vs. on (λ xs. ending (read_job m a xs)) (axes (set_bits m) i vs)) r)

  pub no_asked : is_kind ws 1 2 ≡ false → refused_job 2 1 ≡ after
  no_asked e = sym (ap by-asked (field-no ws 2 1 e))

  module _ (e : is_kind ws 1 2 ≡ true) (asked : ℕ) (a : asked ≡ payload_at ws 1) where
    axes-read : Reading (List JobAxis)
    axes-read = axes (set_bits m) 2 (drop 2 ws)

    matches : (s : AxesRead) → s ≡ read_all ws 6 0 m begun → Matches ws unset_axes s axes-read
    unfolding axes-read
    matches s is = subst (λ (q : AxesRead). Matches ws unset_axes q (axes (set_bits m) 2 (drop 2 ws)))
        (sym is) (reads ws 6 0 m 2 unset_axes)

    after_is : after ≡ read ws m asked axes-read
    unfolding axes-read
    after_is =
        ap by-asked (field-yes ws 2 1 e)
        ∙ ap (λ (k : ℕ). decided_job ws (on (λ xs. ending (read_job m k xs)) (axes (set_bits m) 2 (drop 2 ws)))) (sym a)

    pub wrong_axis : (x : Refusal) → Err x ≡ read_all ws 6 0 m begun → Err (answer_to x) ≡ after
    wrong_axis x is = sym (after_is ∙ stopped-is ws m asked x axes-read (matches (Err x) is))

    module _ (six : List Axis) (at : ℕ) (is : Ok (six, at) ≡ read_all ws 6 0 m begun) where
      by_end : (b l : Bool) → is_end ws at ≡ b → ltb (at + 1) (length ws) ≡ l
          → closed (first_bad_long 0 ws) m asked at six b l ≡ after
      by_end b l p q =
          sym
          (after_is
          ∙ closed_is ws m asked six at axes-read (matches (Ok (six, at)) is)
          ∙ (λ i. closed (first_bad_long 0 ws) m asked at six (p i) (q i)))

      by-long : is_end ws at ≡ true → ltb (at + 1) (length ws) ≡ false
          → checked_job m asked six (long_checked (bad_long_in ws at 0)) ≡ after
      by-long p q =
          let count : length ws ≡ suc at = omega (arith, end_there ws at p, ltb-false (at + 1) (length ws) q) in
          go (bad_long_in ws at 0)
          ∙ ap (λ (o : Option ℕ). unless o m asked six) (sym (long-is ws at count))
          ∙ by_end true false p q
        where
          go : (o : Option ℕ) → checked_job m asked six (long_checked o) ≡ unless o m asked six
          go (Some p) = refl
          go None = refl

      abbrev last : Bool → Result (Unit {0}) Refusal
      last l = cond l (Err (Word (at + 1))) (long_checked (bad_long_in ws at 0))

      ended : checked_job m asked six (end_checked ws at) ≡ after
      unfolding end_checked
      ended = go (is_end ws at) (ltb (at + 1) (length ws)) refl refl
        where
          go : (b l : Bool) → is_end ws at ≡ b → ltb (at + 1) (length ws) ≡ l
              → checked_job m asked six (cond b (last l) (Err (Word at))) ≡ after
          go false l p q = by_end false l p q
          go true true p q = by_end true true p q
          go true false p q = by-long p q

      pub whole_job : (c : Result (Unit {0}) Refusal) → c ≡ end_checked ws at → checked_job m asked six c ≡ after
      whole_job c is_c = ap (checked_job m asked six) is_c ∙ ended

-- ---- the mask

-- `decode` of a word and those after it, by the test of its mask
abbrev by_mask : ℕ → List ℕ → Bool → Result Typed.Job Answer
by_mask w ws b = elim b [ true ↦ decided_job (w ∷ ws) (after_mask (payload w) 1 ws) | false ↦ refused_job 1 0 ]

decode_is : (w : ℕ) (ws : List ℕ)
    → decoded_job (decode (w ∷ ws)) ≡ by_mask w ws (eqb (kind w) 1 && good_mask (payload w))
decode_is w ws = go (eqb (kind w) 1 && good_mask (payload w))
  where
    go : (b : Bool)
        → decoded_job (elim b [ true ↦ decided (w ∷ ws) (after_mask (payload w) 1 ws) | false ↦ no_mask ])
        ≡ by_mask w ws b
    go true = refl
    go false = refl

pub no_mask_word : (ws : List ℕ) → is_kind ws 0 1 ≡ false → refused_job 1 0 ≡ decoded_job (decode ws)
no_mask_word [] e = refl
no_mask_word (w ∷ ws) e =
    sym (decode_is w ws
    ∙ ap (λ (b : Bool). by_mask w ws (b && good_mask (payload w))) (sym (inside (w ∷ ws) 0 1 (omega arith)) ∙ e))

pub bad_mask_word : (ws : List ℕ) → good_mask (payload_at ws 0) ≡ false → refused_job 1 0 ≡ decoded_job (decode ws)
bad_mask_word [] e = refl
bad_mask_word (w ∷ ws) e =
    sym
    (decode_is w ws
    ∙ ap (λ (b : Bool). by_mask w ws (eqb (kind w) 1 && b)) e
    ∙ ap (by_mask w ws) (and-false (eqb (kind w) 1)))

pub good_mask_word : (ws : List ℕ) → is_kind ws 0 1 ≡ true → good_mask (payload_at ws 0) ≡ true
    → decided_job ws (after_mask (payload_at ws 0) 1 (drop 1 ws)) ≡ decoded_job (decode ws)
good_mask_word [] e f = absurd (let z = there [] 0 1 e in omega arith)
good_mask_word (w ∷ ws) e f =
    let k : eqb (kind w) 1 ≡ true = sym (inside (w ∷ ws) 0 1 (omega arith)) ∙ e in
    sym (decode_is w ws ∙ (λ i. by_mask w ws (k i && f i)))
