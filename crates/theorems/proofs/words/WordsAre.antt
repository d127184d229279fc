-- What words are, in the method's words: the decoder gives the case that they are, and no other
-- (`words_are`). By it each call says what it says of what it was given (`by-input`).
use Prim.Native.Nat.{ℕ, ◌≤◌, ◌<◌}
use mathlib.Core.Path.{◌≡◌, refl, sym, ap, subst, ◌∙◌}
use mathlib.Core.Bool.{Bool, true, false, not, ◌&&◌}
use Rattle.std.specs.Prelude.{Option, None, Some}
use mathlib.Core.List.{List, [], ◌∷◌}
use mathlib.Core.Logic.{◌⊎◌, inl, inr}
use native.Mathlib.Omega.{arith}
use lib.Dec.{T, eqb, leb, ltb, leb→le, ltb→lt, nltb→le, nleb→lt}
use borrow.Author.Tests.{eq-eqb, eqb-true}
use Rattle.model.specs.planning.Job.{Job, job_of}
use Rattle.model.specs.planning.Words.{Reading, got, wrong, after_mask, kind, payload, good_mask, first_bad_long}
use Rattle.model.specs.planning.Words.{Decoded, no_mask, bad_word, bad_long, job, spelled, decided, decode}
use Rattle.model.specs.planning.Admission.{Input, words, typed, job_read, input_job}
use Rattle.theorems.specs.Grammar.{WellFormed}
use Rattle.theorems.specs.Spelling.{SpellsJob, OneSpelling}
use Rattle.theorems.specs.Verdict.{MaskOutside, MaskWordWrong, FirstLongWrong, WordsAre, DecodesAre}
use Rattle.theorems.specs.Verdict.{ByInput, words1, words2, words14, words_job, typed1, typed_jobs}
use Rattle.theorems.proofs.words.LongWrong.{first-long-wrong, none-long-wrong}
use Rattle.theorems.proofs.words.Walks.{none-wrong, one-first}
use Rattle.theorems.proofs.words.FirstWrongWord.{MaskWord, read_through, first-wrong-word}
use Rattle.theorems.proofs.words.PositionSpelling.{clean, clean-tail, word-is}
use Rattle.theorems.proofs.words.Spelling.{read-spells}
use Rattle.theorems.proofs.words.SpelledJob.{spelled-reads}

-- ---- masks

mask-outside : (m : ℕ) → T (not (good_mask m)) → MaskOutside m
mask-outside m t = go (ltb 0 m) (leb m 63) (nltb→le 0 m) (nleb→lt m 63) t
  where
    go : (a b : Bool) → (T (not a) → m ≤ 0) → (T (not b) → 63 < m) → T (not (a && b)) → MaskOutside m
    go true true f g t = absurd t
    go true false f g t = inr (g tt)
    go false b f g t = let h : m ≤ 0 = f tt in inl (omega arith)

mask-inside : (m : ℕ) → T (good_mask m) → (1 ≤ m) × (m ≤ 63)
mask-inside m t = go (ltb 0 m) (leb m 63) (ltb→lt 0 m) (leb→le m 63) t
  where
    go : (a b : Bool) → (T a → 0 < m) → (T b → m ≤ 63) → T (a && b) → (1 ≤ m) × (m ≤ 63)
    go true true f g t = (f tt, g tt)
    go true false f g t = absurd t
    go false b f g t = absurd t

not-kind : (a : ℕ) → T (not (eqb a 1)) → a ≡ 1 → ⊥
not-kind a t e = subst (λ (b : Bool). T (not b)) (eq-eqb a 1 e) t

word-wrong : (w : ℕ) (ws : List ℕ) → T (not (eqb (kind w) 1 && good_mask (payload w))) → MaskWordWrong (w ∷ ws)
word-wrong w ws t = go (eqb (kind w) 1) (good_mask (payload w)) (not-kind (kind w)) (mask-outside (payload w)) t
  where
    go : (a b : Bool) → (T (not a) → kind w ≡ 1 → ⊥) → (T (not b) → MaskOutside (payload w)) → T (not (a && b))
        → (kind w ≡ 1 → ⊥) ⊎ MaskOutside (payload w)
    go true b f g t = inr (g t)
    go false b f g t = inl (f tt)

word-right : (w : ℕ) → T (eqb (kind w) 1 && good_mask (payload w)) → MaskWord w
word-right w t = go (eqb (kind w) 1) (good_mask (payload w)) (eqb-true (kind w) 1) (mask-inside (payload w)) t
  where
    go : (a b : Bool) → (a ≡ true → kind w ≡ 1) → (T b → (1 ≤ payload w) × (payload w ≤ 63)) → T (a && b) → MaskWord w
    go true b f g t = (f refl, g t)
    go false b f g t = absurd t

not-wrong : (w : ℕ) (ws : List ℕ) → MaskWord w → MaskWordWrong (w ∷ ws) → ⊥
not-wrong w ws m (inl n) = n m.0
not-wrong w ws m (inr (inl z)) = omega (arith, m.1.0, z)
not-wrong w ws m (inr (inr z)) = omega (arith, m.1.1, z)

-- ---- what words are, by what the decoder gives

by-long : (w : ℕ) (ws : List ℕ) (j : Job) (i : ℕ) (rest : List ℕ) → MaskWord w
    → after_mask (payload w) 1 ws ≡ got j i rest
    → (o : Option ℕ) → first_bad_long 0 (w ∷ ws) ≡ o → WordsAre (w ∷ ws) (spelled o j)
by-long w ws j i rest m e (Some p) f = (read_through w ws m j i rest e, first-long-wrong p (w ∷ ws) f)
by-long w ws j i rest m e None f =
    let spells = read-spells (payload w) 1 ws j i rest m.1 (clean-tail w ws (clean 0 (w ∷ ws) f)) e in (
      read_through w ws m j i rest e,
      (none-long-wrong 0 (w ∷ ws) f, subst (λ (v : ℕ). SpellsJob (v ∷ ws) j) (sym (word-is w 1 m.0)) spells),
    )

by-reading : (w : ℕ) (ws : List ℕ) → MaskWord w → (r : Reading Job) → after_mask (payload w) 1 ws ≡ r
    → WordsAre (w ∷ ws) (decided (w ∷ ws) r)
by-reading w ws m (got j i rest) e = by-long w ws j i rest m e (first_bad_long 0 (w ∷ ws)) refl
by-reading w ws m (wrong p) e = record { mask = not-wrong w ws m; first = first-wrong-word w ws m p e }

by_mask : (w : ℕ) (ws : List ℕ) (b : Bool) → (T b → MaskWord w) → (T (not b) → MaskWordWrong (w ∷ ws))
    → WordsAre (w ∷ ws)
    (elim b as (λ _. Decoded) [ true ↦ decided (w ∷ ws) (after_mask (payload w) 1 ws) | false ↦ no_mask ])
by_mask w ws true g f = by-reading w ws (g tt) (after_mask (payload w) 1 ws) refl
by_mask w ws false g f = f tt

are : (ws : List ℕ) → WordsAre ws (decode ws)
are [] = tt
are (w ∷ ws) = by_mask w ws (eqb (kind w) 1 && good_mask (payload w)) (word-right w) (word-wrong w ws)

-- ---- they are nothing else

well-masked : (ws : List ℕ) → WellFormed ws → MaskWordWrong ws → ⊥
well-masked [] g m = g
well-masked (w ∷ ws) g m = not-wrong w ws (g.0, g.1.0) m

one-long : (ws : List ℕ) (p q : ℕ) → FirstLongWrong ws p → FirstLongWrong ws q → p ≡ q
one-long ws p q a b =
    let h : p < q → ⊥ = λ l. b.before p a.high a.low l a.here a.next a.wrong in
    let k : q < p → ⊥ = λ l. a.before q b.high b.low l b.here b.next b.wrong in
    omega (arith, h, k)

one-case : (ws : List ℕ) (d e : Decoded) → WordsAre ws d → WordsAre ws e → d ≡ e
one-case ws no_mask no_mask a b = refl
one-case ws no_mask (bad_word q) a b = absurd (b.mask a)
one-case ws no_mask (bad_long q) a b = absurd (well-masked ws b.0 a)
one-case ws no_mask (job k) a b = absurd (well-masked ws b.0 a)
one-case ws (bad_word p) no_mask a b = absurd (a.mask b)
one-case ws (bad_word p) (bad_word q) a b = ap bad_word (one-first WellFormed ws p q a.first b.first)
one-case ws (bad_word p) (bad_long q) a b = absurd (none-wrong WellFormed ws p b.0 a.first)
one-case ws (bad_word p) (job k) a b = absurd (none-wrong WellFormed ws p b.0 a.first)
one-case ws (bad_long p) no_mask a b = absurd (well-masked ws a.0 b)
one-case ws (bad_long p) (bad_word q) a b = absurd (none-wrong WellFormed ws q a.0 b.first)
one-case ws (bad_long p) (bad_long q) a b = ap bad_long (one-long ws p q a.1 b.1)
one-case ws (bad_long p) (job k) a b =
    absurd (b.1.0 p a.1.high a.1.low a.1.here a.1.next a.1.wrong)
one-case ws (job j) no_mask a b = absurd (well-masked ws a.0 b)
one-case ws (job j) (bad_word q) a b = absurd (none-wrong WellFormed ws q a.0 b.first)
one-case ws (job j) (bad_long q) a b =
    absurd (a.1.0 q b.1.high b.1.low b.1.here b.1.next b.1.wrong)
one-case ws (job j) (job k) a b = sym (spelled-reads ws j a.1.1) ∙ spelled-reads ws k b.1.1

pub words_are : DecodesAre
words_are ws d = (λ e. subst (WordsAre ws) e (are ws), λ a. one-case ws (decode ws) d (are ws) a)

pub one-spelling : OneSpelling
one-spelling ws j = (λ e. ((words_are ws (job j)).0 e).1.1, spelled-reads ws j)

-- the job of a call from words that spell one
pub job-spelled : (ws : List ℕ) (j : Job) → WordsAre ws (job j) → input_job (words ws) ≡ j
job-spelled ws j a = ap job_read ((words_are ws (job j)).1 a)

-- ---- what a call says, by what the decoder gives and by the mask

module _ (R : ℕ → ℕ → Type 0) (P : Job → Type 0) where
  -- what it says where the decoder gives d
  abbrev pub Says : Decoded → Type 0
  Says no_mask = R 1 0
  Says (bad_word p) = R 2 p
  Says (bad_long p) = R 14 p
  Says (job j) = P j

  -- and where a mask is allowed or not
  abbrev pub SaysTyped : Job → Bool → Type 0
  SaysTyped j true = P j
  SaysTyped j false = R 1 0

  abbrev pub SaysOf : Input → Type 0
  SaysOf (words ws) = Says (decode ws)
  SaysOf (typed t) = SaysTyped (job_of t) (good_mask t.mask)

  pub by-input : (q : Input) → SaysOf q → ByInput R P q
  by-input (words ws) h = go (decode ws) (are ws) h
    where
      go : (d : Decoded) → WordsAre ws d → Says d → ByInput R P (words ws)
      go no_mask a h = words1 ws a h
      go (bad_word p) a h = words2 ws p a h
      go (bad_long p) a h = words14 ws p a h
      go (job j) a h = words_job ws j a h
  by-input (typed t) h = go (good_mask t.mask) (mask-inside t.mask) (mask-outside t.mask) h
    where
      go : (b : Bool) → (T b → (1 ≤ t.mask) × (t.mask ≤ 63)) → (T (not b) → MaskOutside t.mask)
          → SaysTyped (job_of t) b → ByInput R P (typed t)
      go true f g h = typed_jobs t (f tt).0 (f tt).1 h
      go false f g h = typed1 t (g tt) h

-- ---- from what one call says to what another does

-- a number that words, or a mask, are refused with: no other number of a call
pub record OfWords (n : ℕ) : Type 0 where
  pub not-0 : n ≡ 0 → ⊥
  pub not-8 : n ≡ 8 → ⊥
  pub not-10 : n ≡ 10 → ⊥

of-1 : OfWords 1
of-1 = record { not-0 = λ e. omega (arith, e); not-8 = λ e. omega (arith, e); not-10 = λ e. omega (arith, e) }

of-2 : OfWords 2
of-2 = record { not-0 = λ e. omega (arith, e); not-8 = λ e. omega (arith, e); not-10 = λ e. omega (arith, e) }

of-14 : OfWords 14
of-14 = record { not-0 = λ e. omega (arith, e); not-8 = λ e. omega (arith, e); not-10 = λ e. omega (arith, e) }

module _ (R S : ℕ → ℕ → Type 0) (P Q : Job → Type 0) where
  pub said-too : (q : Input) → ((n p : ℕ) → OfWords n → R n p → S n p) → ((j : Job) → input_job q ≡ j → P j → Q j)
      → ByInput R P q → ByInput S Q q
  said-too q f g (words1 ws a r) = words1 ws a (f 1 0 of-1 r)
  said-too q f g (words2 ws p a r) = words2 ws p a (f 2 p of-2 r)
  said-too q f g (words14 ws p a r) = words14 ws p a (f 14 p of-14 r)
  said-too q f g (words_job ws j a v) = words_job ws j a (g j (job-spelled ws j a) v)
  said-too q f g (typed1 t a r) = typed1 t a (f 1 0 of-1 r)
  said-too q f g (typed_jobs t a b v) = typed_jobs t a b (g (job_of t) refl v)

module _ (R : ℕ → ℕ → Type 0) (P : Job → Type 0) (A : Type 0) where
  pub either-said : (q : Input) → ((n p : ℕ) → OfWords n → R n p → A)
      → ((j : Job) → input_job q ≡ j → P j → A) → ByInput R P q → A
  either-said q f g (words1 ws a r) = f 1 0 of-1 r
  either-said q f g (words2 ws p a r) = f 2 p of-2 r
  either-said q f g (words14 ws p a r) = f 14 p of-14 r
  either-said q f g (words_job ws j a v) = g j (job-spelled ws j a) v
  either-said q f g (typed1 t a r) = f 1 0 of-1 r
  either-said q f g (typed_jobs t a b v) = g (job_of t) refl v
