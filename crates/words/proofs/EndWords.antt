-- The end word: what the definitions read at an index, and what the code's check of it says.
use Prim.Native.Nat.{ℕ, suc, ◌+◌, ◌<◌}
use Rattle.whole.proofs.Tests.{either}
use Rattle.whole.proofs.Counting.{next_one}
use native.Mathlib.Omega.{arith}
use mathlib.Core.Path.{◌≡◌, refl, sym, ap, ◌∙◌}
use mathlib.Core.Bool.{Bool, true, false, cond, ◌&&◌}
use mathlib.Core.Logic.{⊎_elim}
use mathlib.Core.List.{List, [], ◌∷◌}
use lib.ListN.{get_or, length, drop, drop_of_length-le}
use lib.Seq.{drop-cons}
use lib.Dec.{eqb, ltb}
use borrow.Author.Tests.{ltb-true, ltb-false}
use Rattle.model.specs.planning.Words.{kind, payload, Reading, got, wrong, ending}
use Rattle.words.specs.ByIndex.{is_kind, is_end, payload_at}
use Rattle.words.proofs.Reader.{inside, outside, there}

abbrev end_word : ℕ → Bool
end_word w = eqb (kind w) 15 && eqb (payload w) 0

end-inside : (ws : List ℕ) (i : ℕ) → i < length ws → is_end ws i ≡ end_word (get_or ws i 0)
end-inside ws i h =
    ap (λ (b : Bool). cond b (eqb (payload_at ws i) 0) false) (inside ws i 15 h)
    ∙ both (eqb (kind (get_or ws i 0)) 15) (eqb (payload_at ws i) 0)
  where
    both : (b d : Bool) → cond b d false ≡ b && d
    both true d = refl
    both false d = refl

pub end_there : (ws : List ℕ) (i : ℕ) → is_end ws i ≡ true → i < length ws
end_there ws i e = there ws i 15 (first (is_kind ws i 15) (eqb (payload_at ws i) 0) e)
  where
    first : (b d : Bool) → cond b d false ≡ true → b ≡ true
    first true d e = refl
    first false d e = e

-- what `ending` reads at index i, by its tests: an end word, and a word after it
abbrev pub ends : {A : Type 0} → A → ℕ → Bool → Bool → Reading A
ends a i b l = cond b (cond l (wrong (i + 1)) (got a (i + 1) [])) (wrong i)

last_word : {A : Type 0} (a : A) (i w : ℕ) → ending a i (w ∷ []) ≡ ends a i (end_word w) false
last_word a i w = go (end_word w)
  where
    go : (b : Bool) → elim b [ true ↦ got a (suc i) [] | false ↦ wrong i ] ≡ ends a i b false
    go true = ap (λ (k : ℕ). got a k []) (next_one i)
    go false = refl

more-words : {A : Type 0} (a : A) (i w u : ℕ) (us : List ℕ) → ending a i (w ∷ u ∷ us) ≡ ends a i (end_word w) true
more-words a i w u us = go (end_word w)
  where
    go : (b : Bool) → elim b [ true ↦ wrong (suc i) | false ↦ wrong i ] ≡ ends a i b true
    go true = ap (λ (k : ℕ). wrong k) (next_one i)
    go false = refl

module _ {A : Type 0} (a : A) (ws : List ℕ) (i : ℕ) where
  ending_there : i < length ws → ending a i (drop i ws) ≡ ends a i (end_word (get_or ws i 0)) (ltb (i + 1) (length ws))
  ending_there h =
      ap (ending a i) (drop-cons ws i 0 h)
      ∙ ⊎_elim
      (λ t. let k = ltb-true (i + 1) (length ws) t in
      ap (λ (vs : List ℕ). ending a i (get_or ws i 0 ∷ vs)) (drop-cons ws (suc i) 0 (omega arith))
      ∙ more-words a i (get_or ws i 0) (get_or ws (suc i) 0) (drop (suc (suc i)) ws)
      ∙ ap (ends a i (end_word (get_or ws i 0))) (sym t))
      (λ t. let k = ltb-false (i + 1) (length ws) t in
      ap (λ (vs : List ℕ). ending a i (get_or ws i 0 ∷ vs)) (drop_of_length-le ws {i = suc i} (omega arith))
      ∙ last_word a i (get_or ws i 0)
      ∙ ap (ends a i (end_word (get_or ws i 0))) (sym t))
      (either (ltb (i + 1) (length ws)))

  pub ending-is : ending a i (drop i ws) ≡ ends a i (is_end ws i) (ltb (i + 1) (length ws))
  ending-is = ⊎_elim
      (λ t. let h = ltb-true i (length ws) t in
      ending_there h ∙ ap (λ (b : Bool). ends a i b (ltb (i + 1) (length ws))) (sym (end-inside ws i h)))
      (λ t. ap (ending a i) (drop_of_length-le ws {i = i} (ltb-false i (length ws) t))
      ∙ sym (ap (λ (b : Bool). ends a i (cond b (eqb (payload_at ws i) 0) false) (ltb (i + 1) (length ws)))
      (outside ws i 15 t)))
      (either (ltb i (length ws)))
