-- Refusal 14: the first word that the code's loop finds is the one that the definitions name.
use Prim.Native.Nat.{ℕ, zero, suc, ◌+◌, ◌-◌, ◌<◌, ◌≤◌}
use Rattle.whole.proofs.Counting.{one_less, none_left, next_one}
use native.Mathlib.Omega.{arith}
use mathlib.Core.Path.{◌≡◌, refl, sym, ap, ◌∙◌}
use mathlib.Core.Bool.{Bool, true, false, not, cond, ◌&&◌}
use Rattle.std.specs.Prelude.{Option, None, Some}
use mathlib.Core.List.{List, [], ◌∷◌}
use lib.ListN.{get_or, length, drop, drop_of_length-le}
use lib.Seq.{drop-cons}
use lib.Dec.{eqb}
use Rattle.model.specs.planning.Words.{kind, long_allowed, first_bad_long}
use Rattle.words.specs.ByIndex.{payload_at, is_bad_long, bad_long_in}
use Rattle.words.proofs.Reader.{inside}

-- ---- one word, with another after it

abbrev named : List ℕ → ℕ → Bool
named ws i = eqb (kind (get_or ws i 0)) 14 && not (long_allowed (payload_at ws i) (payload_at ws (suc i)))

bad-long-is : (ws : List ℕ) (i : ℕ) → i < length ws → is_bad_long ws i ≡ named ws i
unfolding is_bad_long
bad-long-is ws i h =
    let long : Bool = not (long_allowed (payload_at ws i) (payload_at ws (suc i))) in
    ap (λ (b : Bool). cond b long false) (inside ws i 14 h) ∙ both (eqb (kind (get_or ws i 0)) 14) long
  where
    both : (b d : Bool) → cond b d false ≡ b && d
    both true d = refl
    both false d = refl

-- ---- the words from i on, e being the index of the last one

finds : (ws : List ℕ) (n i : ℕ) → length ws ≡ i + suc n → bad_long_in ws n i ≡ first_bad_long i (drop i ws)
unfolding bad_long_in
finds ws zero i l =
    let one : drop i ws ≡ get_or ws i 0 ∷ [] =
    drop-cons ws i 0 (omega arith)
    ∙ ap (λ (vs : List ℕ). get_or ws i 0 ∷ vs) (drop_of_length-le ws {i = suc i} (omega arith)) in
    sym (ap (first_bad_long i) one)
finds ws (suc n) i l =
    let more : drop (suc i) ws ≡ get_or ws (suc i) 0 ∷ drop (suc (suc i)) ws = drop-cons ws (suc i) 0 (omega arith) in
    let two : drop i ws ≡ get_or ws i 0 ∷ get_or ws (suc i) 0 ∷ drop (suc (suc i)) ws =
    drop-cons ws i 0 (omega arith) ∙ ap (λ (vs : List ℕ). get_or ws i 0 ∷ vs) more in
    let later = finds ws n (suc i) (omega arith) ∙ ap (first_bad_long (suc i)) more in
    ap (λ (o : Option ℕ). cond (is_bad_long ws i) (Some i) o) later
    ∙ go (is_bad_long ws i) (first_bad_long (suc i) (get_or ws (suc i) 0 ∷ drop (suc (suc i)) ws))
    ∙ ap by (bad-long-is ws i (omega arith))
    ∙ sym (ap (first_bad_long i) two)
  where
    by : Bool → Option ℕ
    by b = elim b [ true ↦ Some i | false ↦ first_bad_long (suc i) (get_or ws (suc i) 0 ∷ drop (suc (suc i)) ws) ]

    go : (b : Bool) (o : Option ℕ) → cond b (Some i) o ≡ elim b [ true ↦ Some i | false ↦ o ]
    go true o = refl
    go false o = refl

-- the index of the last word being e
pub long-is : (ws : List ℕ) (e : ℕ) → length ws ≡ suc e → first_bad_long 0 ws ≡ bad_long_in ws e 0
long-is ws e l = sym (finds ws e 0 (omega arith))

-- ---- the loop

module _ (ws : List ℕ) (e i : ℕ) where
  by_word : Bool → Option ℕ
  by_word b = cond b (Some i) (bad_long_in ws (e - (i + 1)) (suc i))

  opened : i < e → bad_long_in ws (e - i) i ≡ by_word (is_bad_long ws i)
  unfolding bad_long_in by_word
  opened h = ap (λ (n : ℕ). bad_long_in ws n i) (one_less e i h)

  pub long-on : i < e → is_bad_long ws i ≡ false → bad_long_in ws (e - i) i ≡ bad_long_in ws (e - (i + 1)) (i + 1)
  unfolding by_word
  long-on h t = opened h ∙ ap by_word t ∙ ap (bad_long_in ws (e - (i + 1))) (next_one i)

  pub long-stop : i < e → is_bad_long ws i ≡ true → bad_long_in ws (e - i) i ≡ Some i
  unfolding by_word
  long-stop h t = opened h ∙ ap by_word t

  pub long-ended : e ≤ i → bad_long_in ws (e - i) i ≡ None
  unfolding bad_long_in
  long-ended h = ap (λ (n : ℕ). bad_long_in ws n i) (none_left e i h)

pub long-begun : (ws : List ℕ) (e : ℕ) → bad_long_in ws (e - 0) 0 ≡ bad_long_in ws e 0
long-begun ws e = let r : e - 0 ≡ e = omega arith in ap (λ (n : ℕ). bad_long_in ws n 0) r
