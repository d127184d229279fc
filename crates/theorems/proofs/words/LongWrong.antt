-- What refusal 14 names is the first word of kind 14 that is wrong, in the
-- method's words: `first-long-wrong`.
use Prim.Native.Nat.{ℕ, zero, suc, ◌+◌, ◌<◌}
use native.Mathlib.Omega.{arith}
use mathlib.Core.Path.{◌≡◌, refl, sym, ap, subst, ◌∙◌}
use mathlib.Core.Bool.{Bool, true, false, not, ◌&&◌, true≢false}
use Rattle.std.specs.Prelude.{Option, None, Some}
use mathlib.Core.List.{List, [], ◌∷◌}
use mathlib.Core.Logic.{◌⊎◌, inl, inr}
use lib.Dec.{eqb}
use lib.IntN.{pos, negsuc}
use Rattle.std.specs.Prelude.{slice_get}
use borrow.Author.Tests.{eq-eqb, eqb-true}
use Rattle.model.specs.planning.Words.{kind, payload, twos, long_position, between, fits_word, long_allowed}
use Rattle.model.specs.planning.Words.{first_bad_long}
use Rattle.theorems.specs.Verdict.{LongWrong, FirstLongWrong, NoneLongWrong}

-- the test of refusal 14
abbrev pub bad : ℕ → ℕ → Bool
bad w u = eqb (kind w) 14 && not (long_allowed (payload w) (payload u))

module _ (w u : ℕ) where
  abbrev small : Bool
  small = between (negsuc 63) (pos 63) (twos (payload w))

  abbrev single : Bool
  single = fits_word (long_position (payload w) (payload u))

  bad-wrong : bad w u ≡ true → LongWrong w u
  bad-wrong e = go (eqb (kind w) 14) small single refl refl refl e
    where
      go : (a b c : Bool) → eqb (kind w) 14 ≡ a → small ≡ b → single ≡ c → a && not (b && not c) ≡ true → LongWrong w u
      go true true true k s t e = record { long = eqb-true (kind w) 14 k; wrong = inr t }
      go true true false k s t e = absurd (true≢false (sym e))
      go true false c k s t e = record { long = eqb-true (kind w) 14 k; wrong = inl s }
      go false b c k s t e = absurd (true≢false (sym e))

  wrong-bad : LongWrong w u → bad w u ≡ true
  wrong-bad h =
      ap (λ (a : Bool). a && not (long_allowed (payload w) (payload u))) (eq-eqb (kind w) 14 h.long) ∙ by h.wrong
    where
      by : (small ≡ false) ⊎ (single ≡ true) → not (small && not single) ≡ true
      by (inl s) = ap (λ (b : Bool). not (b && not single)) s
      by (inr t) = ap (λ (c : Bool). not (small && not c)) t ∙ never small
        where
          never : (b : Bool) → not (b && false) ≡ true
          never true = refl
          never false = refl

-- by how many words the index lies past i
first_past : (i p : ℕ) (ws : List ℕ) → first_bad_long i ws ≡ Some p → (q : ℕ) × ((p ≡ i + q) × FirstLongWrong ws q)
first_past i p [] e = absurd (let z : ◌≡◌ {A = ℕ} 0 1 = cc in omega arith)
first_past i p (w ∷ []) e = absurd (let z : ◌≡◌ {A = ℕ} 0 1 = cc in omega arith)
first_past i p (w ∷ u ∷ ws) e = go (bad w u) refl e (first_past (suc i) p (u ∷ ws))
  where
    later : bad w u ≡ false → (q : ℕ) × ((p ≡ suc i + q) × FirstLongWrong (u ∷ ws) q)
        → (q : ℕ) × ((p ≡ i + q) × FirstLongWrong (w ∷ u ∷ ws) q)
    later t (q, (is, f)) = (
      suc q,
      (
        omega (arith, is),
        record {
          high = f.high;
          low = f.low;
          here = f.here;
          next = f.next;
          wrong = f.wrong;
          before = earlier;
        },
      ),
    )
      where
        earlier : (k v y : ℕ) → k < suc q → slice_get (w ∷ u ∷ ws) k ≡ Some v
            → slice_get (w ∷ u ∷ ws) (suc k) ≡ Some y → LongWrong v y → ⊥
        earlier zero v y h a b l =
            let first : v ≡ w = cc in
            let second : y ≡ u = cc in
            true≢false (sym (wrong-bad v y l) ∙ (λ j. bad (first j) (second j)) ∙ t)
        earlier (suc k) v y h a b l = f.before k v y (omega arith) a b l

    go : (b : Bool) → bad w u ≡ b → ◌≡◌ {A = Option ℕ}
        (elim b as (λ _. Option ℕ) [ true ↦ Some i | false ↦ first_bad_long (suc i) (u ∷ ws) ]) (Some p)
        → (first_bad_long (suc i) (u ∷ ws) ≡ Some p → (q : ℕ) × ((p ≡ suc i + q) × FirstLongWrong (u ∷ ws) q))
        → (q : ℕ) × ((p ≡ i + q) × FirstLongWrong (w ∷ u ∷ ws) q)
    go true t e h =
        let is : i ≡ p = cc in (
          0,
          (
            omega (arith, is),
            record {
              high = w;
              low = u;
              here = refl;
              next = refl;
              wrong = bad-wrong w u t;
              before = λ k v y l a b z. omega arith;
            },
          ),
        )
    go false t e h = later t (h e)

pub first-long-wrong : (p : ℕ) (ws : List ℕ) → first_bad_long 0 ws ≡ Some p → FirstLongWrong ws p
first-long-wrong p ws e =
    let f = first_past 0 p ws e in
    let is : f.0 ≡ p = omega (arith, f.1.0) in
    subst (FirstLongWrong ws) is f.1.1

-- where the test finds none, no word is wrong
pub none-long-wrong : (i : ℕ) (ws : List ℕ) → first_bad_long i ws ≡ None → NoneLongWrong ws
none-long-wrong i [] e k w u a b h = absurd (let z : ◌≡◌ {A = ℕ} 0 1 = cc in omega arith)
none-long-wrong i (v ∷ []) e zero w u a b h = absurd (let z : ◌≡◌ {A = ℕ} 0 1 = cc in omega arith)
none-long-wrong i (v ∷ []) e (suc k) w u a b h = absurd (let z : ◌≡◌ {A = ℕ} 0 1 = cc in omega arith)
none-long-wrong i (v ∷ t ∷ ws) e k w u a b h = go (bad v t) refl e (none-long-wrong (suc i) (t ∷ ws)) k a b
  where
    go : (c : Bool) → bad v t ≡ c
        → ◌≡◌ {A = Option ℕ} (elim c as (λ _. Option ℕ) [ true ↦ Some i | false ↦ first_bad_long (suc i) (t ∷ ws) ])
        None
        → (first_bad_long (suc i) (t ∷ ws) ≡ None → NoneLongWrong (t ∷ ws))
        → (k : ℕ) → slice_get (v ∷ t ∷ ws) k ≡ Some w → slice_get (v ∷ t ∷ ws) (suc k) ≡ Some u → ⊥
    go true c e more k a b = let z : ◌≡◌ {A = ℕ} 0 1 = cc in omega arith
    go false c e more zero a b =
        let s : v ≡ w = cc in
        let t : t ≡ u = cc in
        true≢false (sym (wrong-bad w u h) ∙ (λ l. bad (sym s l) (sym t l)) ∙ c)
    go false c e more (suc k) a b = more e k w u a b h
