-- The words of bytes, one by one. Assumes nothing.
use Prim.Native.Nat.{ℕ, zero, suc, ◌+◌, ◌*◌, ◌/◌, ◌<◌, ◌≤◌, min}
use native.Mathlib.Omega.{arith}
use mathlib.Core.Path.{◌≡◌, refl, sym, ap, ◌∙◌, subst}
use mathlib.Core.List.{List, [], ◌∷◌}
use lib.ListN.{length, get_or, take, drop, set, length-take, length-drop}
use lib.Seq.{drop-cons, drop-drop, take_all, take-nil, get_or-take}
use Rattle.whole.specs.Lists.{Room, Written, WrittenAtStart}
use Rattle.whole.proofs.Lists.{written-nil, written-copy}
use Rattle.model.specs.calls.Bytes.{little_endian, words_of}
use Rattle.text.specs.Words.{first_word}

-- ---- the first word

next : (bytes : List ℕ) (i j : ℕ) → suc i ≡ j → i < length bytes → drop i bytes ≡ (get_or bytes i 0 ∷ drop j bytes)
next bytes i j e h = drop-cons bytes i 0 h ∙ ap (λ (n : ℕ). get_or bytes i 0 ∷ drop n bytes) e

pub word-four : (bytes : List ℕ) (i : ℕ) → i + 4 ≤ length bytes
    → little_endian (get_or bytes i 0) (get_or bytes (i + 1) 0) (get_or bytes (i + 2) 0) (get_or bytes (i + 3) 0)
    ≡ first_word (drop i bytes)
unfolding first_word
word-four bytes i h =
    sym
    (ap first_word
    (next bytes i (i + 1) (omega arith) (omega arith)
    ∙ ap (λ (l : List ℕ). get_or bytes i 0 ∷ l)
    (next bytes (i + 1) (i + 2) (omega arith) (omega arith)
    ∙ ap (λ (l : List ℕ). get_or bytes (i + 1) 0 ∷ l)
    (next bytes (i + 2) (i + 3) (omega arith) (omega arith)
    ∙ ap (λ (l : List ℕ). get_or bytes (i + 2) 0 ∷ l) (next bytes (i + 3) (i + 4) (omega arith) (omega arith))))))

short : (l : List ℕ) → length l < 4 → first_word l ≡ 0
unfolding first_word
short [] h = refl
short (a ∷ []) h = refl
short (a ∷ b ∷ []) h = refl
short (a ∷ b ∷ c ∷ []) h = refl
short (a ∷ b ∷ c ∷ d ∷ l) h = absurd (omega arith)

pub word-short : (bytes : List ℕ) (i : ℕ) → length bytes < i + 4 → 0 ≡ first_word (drop i bytes)
word-short bytes i h = sym (short (drop i bytes) (simp length-drop (omega arith)))

-- ---- all words

pub words-length : (bytes : List ℕ) → length (words_of bytes) ≡ (length bytes + 3) / 4
unfolding words_of
words-length [] = refl
words-length (a ∷ []) = refl
words-length (a ∷ b ∷ []) = refl
words-length (a ∷ b ∷ c ∷ []) = refl
words-length (a ∷ b ∷ c ∷ d ∷ l) = omega (arith, words-length l)

words-first : (bytes : List ℕ) → get_or (words_of bytes) 0 0 ≡ first_word bytes
unfolding words_of first_word
words-first [] = refl
words-first (a ∷ []) = refl
words-first (a ∷ b ∷ []) = refl
words-first (a ∷ b ∷ c ∷ []) = refl
words-first (a ∷ b ∷ c ∷ d ∷ l) = refl

words-rest : (bytes : List ℕ) (k : ℕ) → get_or (words_of bytes) (suc k) 0 ≡ get_or (words_of (drop 4 bytes)) k 0
unfolding words_of
words-rest [] k = refl
words-rest (a ∷ []) k = refl
words-rest (a ∷ b ∷ []) k = refl
words-rest (a ∷ b ∷ c ∷ []) k = refl
words-rest (a ∷ b ∷ c ∷ d ∷ l) k = refl

words-at : (k : ℕ) (bytes : List ℕ) → get_or (words_of bytes) k 0 ≡ first_word (drop (4 * k) bytes)
words-at zero bytes = words-first bytes
words-at (suc k) bytes =
    words-rest bytes k
    ∙ words-at k (drop 4 bytes)
    ∙ ap first_word (drop-drop (4 * k) 4 bytes ∙ ap (λ (n : ℕ). drop n bytes) (four k))
  where
    four : (k : ℕ) → 4 + 4 * k ≡ 4 * suc k
    four k = omega arith

four-more : (n : ℕ) → 4 * suc n ≡ suc (suc (suc (suc (4 * n))))
four-more n = omega arith

none : (n : ℕ) → ◌≡◌ {A = List ℕ} (0 ∷ []) (take (suc n) (0 ∷ []))
none n = ap (λ (l : List ℕ). 0 ∷ l) (sym (take-nil n))

-- the words of the first 4 n bytes are the first n words
words_take : (n : ℕ) (bytes : List ℕ) → words_of (take (4 * n) bytes) ≡ take n (words_of bytes)
unfolding words_of
words_take zero bytes = refl
words_take (suc n) [] = ap (λ (m : ℕ). words_of (take m [])) (four-more n)
words_take (suc n) (a ∷ []) = ap (λ (m : ℕ). words_of (take m (a ∷ []))) (four-more n) ∙ none n
words_take (suc n) (a ∷ b ∷ []) = ap (λ (m : ℕ). words_of (take m (a ∷ b ∷ []))) (four-more n) ∙ none n
words_take (suc n) (a ∷ b ∷ c ∷ []) = ap (λ (m : ℕ). words_of (take m (a ∷ b ∷ c ∷ []))) (four-more n) ∙ none n
words_take (suc n) (a ∷ b ∷ c ∷ d ∷ l) =
    ap (λ (m : ℕ). words_of (take m (a ∷ b ∷ c ∷ d ∷ l))) (four-more n)
    ∙ ap (λ (ws : List ℕ). little_endian a b c d ∷ ws) (words_take n l)

-- ---- writing the words, as many as the list has entries for

module _ (bytes t : List ℕ) where
  abbrev pub kept : List ℕ
  kept = take (length t) (words_of bytes)

  kept-length : length kept ≡ min (length t) ((length bytes + 3) / 4)
  kept-length = length-take (length t) (words_of bytes) ∙ ap (min (length t)) (words-length bytes)

  room : Room t 0 kept
  room = record { room = omega (arith, kept-length) }

  pub words-none : Written t 0 (take 0 kept) t 0
  words-none = written-nil (omega arith)

  pub words-turn : {u : List ℕ} {k w : ℕ} → k < length t → 4 * k < length bytes → w ≡ first_word (drop (4 * k) bytes)
      → Written t 0 (take k kept) u k → Written t 0 (take (k + 1) kept) (set u k w) (k + 1)
  words-turn {u} {k} {w} q l e x =
      subst (λ (v : ℕ). Written t 0 (take (k + 1) kept) (set u k v) (k + 1))
      (get_or-take (length t) (words_of bytes) k 0 q ∙ words-at k bytes ∙ sym e)
      (written-copy kept k 0 room (omega (arith, kept-length)) x)

  pub words-done : {u : List ℕ} (k : ℕ) → min (length t) ((length bytes + 3) / 4) ≤ k → Written t 0 (take k kept) u k
      → WrittenAtStart t (words_of (take (4 * length t) bytes)) u k
  words-done {u} k h x =
      subst (λ (m : List ℕ). WrittenAtStart t m u k) (sym (words_take (length t) bytes))
      (record {
        written = subst (λ (m : List ℕ). Written t 0 m u k) (take_all k kept (omega (arith, kept-length))) x;
        most = omega (arith, room.room);
      })
