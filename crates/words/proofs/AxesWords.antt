-- The words of the axes of a mask: what the loop over six axes reads is what the definitions read.
use Prim.Native.Nat.{ℕ, zero, suc, ◌+◌, ◌-◌, ◌/◌, ◌%◌, ◌<◌, ◌≤◌}
use Rattle.whole.proofs.Counting.{one_less, none_left, next_one}
use mathlib.Core.Path.{◌≡◌, refl, sym, ap, subst, ◌∙◌}
use mathlib.Core.Bool.{Bool, true, false, cond}
use mathlib.Core.List.{List, ◌∷◌}
use lib.ListN.{drop, set}
use lib.Dec.{eqb}
use borrow.Author.Tests.{eq-eqb, ne_eqb}
use Rattle.std.specs.declared.result.Result.{Result}
use Rattle.std.specs.declared.result.Result.TheVariants.{Ok, Err}
use Rattle.model.specs.declared.refusal.Refusal.{Refusal}
use Rattle.model.specs.declared.refusal.Refusal.TheVariants.{Word}
use Rattle.model.specs.declared.Axis.{Axis}
use Rattle.model.specs.planning.Job.{JobAxis, set_from}
use Rattle.model.specs.planning.Words.{Reading, got, wrong, axis, axes, give, ◌>>=◌}
use Rattle.words.specs.Decoding.{placed}
use Rattle.words.specs.ByIndex.{axis_reading, AxesRead, with_axis, read_on, read_all}
use Rattle.words.proofs.Reader.{on}
use Rattle.words.proofs.AxisWords.{Follows, axis-follows}

-- ---- the code's reading s, from six axes on, against the definitions' reading

abbrev pub Matches : List ℕ → List Axis → AxesRead → Reading (List JobAxis) → Type 0
Matches ws six (Ok q) (got xs j vs) = (q.1 ≡ j) × (vs ≡ drop j ws) × (q.0 ≡ placed xs six)
Matches ws six (Ok q) (wrong p) = ⊥
Matches ws six (Err e) (got xs j vs) = ⊥
Matches ws six (Err e) (wrong p) = e ≡ Word p

-- after a wrong word nothing is read
pub stays : (ws : List ℕ) (n i m : ℕ) (e : Refusal) → read_all ws n i m (Err e) ≡ Err e
unfolding read_all
stays ws zero i m e = refl
stays ws (suc n) i m e = stays ws n (suc i) (m / 2) e

-- one axis in front of others
abbrev front : ℕ → Axis → List JobAxis → List JobAxis
front i x xs = record { number = i; axis = x } ∷ xs

in-front : (ws : List ℕ) (six : List Axis) (i : ℕ) (x : Axis) (s : AxesRead) (r : Reading (List JobAxis))
    → Matches ws (set six i x) s r → Matches ws six s (on (λ xs. give (front i x xs)) r)
in-front ws six i x (Ok q) (got xs j vs) h = h
in-front ws six i x (Ok q) (wrong p) h = h
in-front ws six i x (Err e) (got xs j vs) h = h
in-front ws six i x (Err e) (wrong p) h = h

module _ (ws : List ℕ) (n i m : ℕ) where
  abbrev later : List ℕ
  later = set_from n (suc i) (m / 2)

  -- the axes after axis i, from any index and any six
  abbrev Later : Type 0
  Later = (at : ℕ) (six : List Axis)
      → Matches ws six (read_all ws n (suc i) (m / 2) (Ok (six, at))) (axes later at (drop at ws))

  one-read : (at : ℕ) (six : List Axis) → Later → (r : Reading Axis) → Follows ws at r
      → Matches ws six (read_all ws n (suc i) (m / 2) (with_axis i six (axis_reading r)))
      (on (λ x. ◌>>=◌ (axes later) (λ xs. give (front i x xs))) r)
  one-read at six h (got x j vs) (e, _) =
      let s : AxesRead = read_all ws n (suc i) (m / 2) (Ok (set six i x, j)) in
      subst (λ us. Matches ws six s (on (λ xs. give (front i x xs)) (axes later j us))) (sym e)
      (in-front ws six i x s (axes later j (drop j ws)) (h j (set six i x)))
  one-read at six h (wrong p) f =
      subst (λ s. Matches ws six s (wrong p)) (sym (stays ws n (suc i) (m / 2) (Word p))) refl

  abbrev bits : Bool → List ℕ
  bits b = elim b [ true ↦ i ∷ later | false ↦ later ]

  abbrev here : ℕ → List Axis → Bool → AxesRead
  here at six b = cond b (with_axis i six (axis_reading (axis at (drop at ws)))) (Ok (six, at))

  by_bit : (b : Bool) (at : ℕ) (six : List Axis) → Later
      → Matches ws six (read_all ws n (suc i) (m / 2) (here at six b)) (axes (bits b) at (drop at ws))
  by_bit true at six h = one-read at six h (axis at (drop at ws)) (axis-follows ws at)
  by_bit false at six h = h at six

pub reads : (ws : List ℕ) (n i m at : ℕ) (six : List Axis)
    → Matches ws six (read_all ws n i m (Ok (six, at))) (axes (set_from n i m) at (drop at ws))
unfolding read_all
reads ws zero i m at six = (refl, refl, refl)
reads ws (suc n) i m at six = by_bit ws n i m (eqb (m % 2) 1) at six (λ a s. reads ws n (suc i) (m / 2) a s)

-- ---- one turn of the loop, at the code's ways out

module _ (ws : List ℕ) (i m at : ℕ) (six : List Axis) where
  turn : Bool → Result (Axis × ℕ) Refusal → AxesRead
  turn b r = cond b (with_axis i six r) (Ok (six, at))

  pub turn-unset : (m % 2 ≡ 1 → ⊥) → Ok (six, at) ≡ read_on ws i m (Ok (six, at))
  unfolding turn
  turn-unset h = sym (ap (λ (b : Bool). turn b (axis_reading (axis at (drop at ws)))) (ne_eqb (m % 2) 1 h))

  pub turn-set : m % 2 ≡ 1 → (r : Result (Axis × ℕ) Refusal) → r ≡ axis_reading (axis at (drop at ws))
      → with_axis i six r ≡ read_on ws i m (Ok (six, at))
  unfolding turn
  turn-set e r p = ap (with_axis i six) p
      ∙ sym (ap (λ (b : Bool). turn b (axis_reading (axis at (drop at ws)))) (eq-eqb (m % 2) 1 e))

-- ---- the loop

pub more-axes : (ws : List ℕ) (i m : ℕ) (s : AxesRead) → i < 6
    → read_all ws (6 - i) i m s ≡ read_all ws (6 - (i + 1)) (i + 1) (m / 2) (read_on ws i m s)
unfolding read_all
more-axes ws i m s h =
    ap (λ (n : ℕ). read_all ws n i m s) (one_less 6 i h)
    ∙ ap (λ (k : ℕ). read_all ws (6 - (i + 1)) k (m / 2) (read_on ws i m s)) (next_one i)

pub no-axes : (ws : List ℕ) (i m : ℕ) (s : AxesRead) → 6 ≤ i → read_all ws (6 - i) i m s ≡ s
unfolding read_all
no-axes ws i m s h = ap (λ (n : ℕ). read_all ws n i m s) (none_left 6 i h)
