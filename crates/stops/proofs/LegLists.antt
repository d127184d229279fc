-- The lists that the loops of a tour go over and store into: the stops that are left, and the axes
-- and arrivals so far.
use Prim.Native.Nat.{ℕ, zero, suc, ◌+◌, ◌≤◌, ◌<◌}
use Rattle.whole.proofs.Counting.{next_one}
use native.Mathlib.Omega.{arith}
use mathlib.Core.Path.{◌≡◌, refl, sym, ap, ◌∙◌}
use mathlib.Core.Bool.{Bool, true, false}
use Rattle.std.specs.Prelude.{Option, None, Some}
use mathlib.Core.List.{List, [], ◌∷◌, ◌++◌}
use lib.IntN.{ℤ}
use lib.Dec.{eqb, leb}
use lib.ListN.{length, get_or, set, take, drop, drop_of_length-le}
use lib.Seq.{drop-cons, length-take-le, take-suc, take-suc-set, set_at, append_snoc, length_front}
use borrow.Author.Tests.{le-leb, lt-leb, leb-true, eq-eqb, ne_eqb}
use Rattle.model.specs.declared.Answer.{Answer}
use Rattle.model.specs.declared.Axis.{Axis}
use Rattle.model.specs.declared.AxisLimits.{AxisLimits}
use Rattle.model.specs.declared.Stop.{Stop}
use Rattle.model.specs.declared.TourSettings.{TourSettings}
use Rattle.model.specs.planning.Windows.{longest_dwell}
use Rattle.model.specs.planning.Job.{unset_axis}
use Rattle.model.specs.calls.Tour.{Legs, leg_axis, leg_axes, leg_answer, all_legs, refused_leg, legs_from}
use Rattle.model.specs.calls.Tour.{first_long_dwell}

-- ---- the stops that are left

module _ (stops : List Stop) where
  abbrev pub left : ℕ → List Stop
  left i = drop i stops

  pub left-more : (i : ℕ) (d : Stop) → i < length stops → left i ≡ get_or stops i d ∷ left (i + 1)
  left-more i d h = drop-cons stops i d h ∙ (λ j. get_or stops i d ∷ drop (next_one i j) stops)

  pub left-none : (i : ℕ) → length stops ≤ i → left i ≡ []
  left-none i h = drop_of_length-le stops {i = i} h

  -- ---- the first dwell that is too long

  by-dwell : ℕ → Bool → Option ℕ
  by-dwell i b = elim b [ true ↦ first_long_dwell (suc i) (left (i + 1)) | false ↦ Some i ]

  dwell-is : (i : ℕ) (d : Stop) → i < length stops
      → first_long_dwell i (left i) ≡ by-dwell i (leb (get_or stops i d).dwell longest_dwell)
  unfolding by-dwell
  dwell-is i d h = ap (first_long_dwell i) (left-more i d h)

  pub long-here : (i : ℕ) (d : Stop) → i < length stops → longest_dwell < (get_or stops i d).dwell
      → first_long_dwell i (left i) ≡ Some i
  unfolding by-dwell
  long-here i d h e = dwell-is i d h ∙ ap (by-dwell i) (lt-leb (get_or stops i d).dwell longest_dwell e)

  pub long-later : (i : ℕ) (d : Stop) → i < length stops → (get_or stops i d).dwell ≤ longest_dwell
      → first_long_dwell i (left i) ≡ first_long_dwell (i + 1) (left (i + 1))
  unfolding by-dwell
  long-later i d h e =
      dwell-is i d h
      ∙ ap (by-dwell i) (le-leb (get_or stops i d).dwell longest_dwell e)
      ∙ ap (λ (k : ℕ). first_long_dwell k (left (i + 1))) (next_one i)

  pub long-nowhere : (i : ℕ) → length stops ≤ i → first_long_dwell i (left i) ≡ None
  long-nowhere i h = ap (first_long_dwell i) (left-none i h)

  -- none is too long: not the next, and none after it
  pub short : (i : ℕ) (d : Stop) → i < length stops → first_long_dwell i (left i) ≡ None
      → ((get_or stops i d).dwell ≤ longest_dwell) × (first_long_dwell (i + 1) (left (i + 1)) ≡ None)
  unfolding by-dwell
  short i d h e = go (leb (get_or stops i d).dwell longest_dwell) refl (sym (dwell-is i d h) ∙ e)
    where
      go : (b : Bool) → leb (get_or stops i d).dwell longest_dwell ≡ b → by-dwell i b ≡ None
          → ((get_or stops i d).dwell ≤ longest_dwell) × (first_long_dwell (i + 1) (left (i + 1)) ≡ None)
      go true t e = (
        leb-true (get_or stops i d).dwell longest_dwell t,
        sym
            (ap (λ (k : ℕ). first_long_dwell k (left (i + 1))) (next_one i)) ∙ e,
      )
      go false t e = absurd (let z : ◌≡◌ {A = ℕ} 0 1 = cc in omega arith)

  -- ---- the legs

  module _ (t : TourSettings) (n : ℕ) (here : List ℤ) (i : ℕ) (d : Stop) (h : i < length stops) where
    abbrev a : Answer
    a = leg_answer t here (get_or stops i d).positions

    by-leg : List ℕ → Bool → Legs
    by-leg l b =
        elim b [
          | true ↦ legs_from t (left (i + 1)) (n + a.arrival + (get_or stops i d).dwell) (get_or stops i d).positions
              (l ++ ((n + a.arrival) ∷ []))
          | false ↦ refused_leg a (length l)
        ]

    legs-are : (l : List ℕ) → legs_from t (left i) n here l ≡ by-leg l (eqb a.number 0)
    unfolding by-leg
    legs-are l = ap (λ (ss : List Stop). legs_from t ss n here l) (left-more i d h)

    pub leg-refused : (l : List ℕ) → (a.number ≡ 0 → ⊥) → legs_from t (left i) n here l ≡ refused_leg a (length l)
    unfolding by-leg
    leg-refused l e = legs-are l ∙ ap (by-leg l) (ne_eqb a.number 0 e)

    pub leg-made : (l : List ℕ) → a.number ≡ 0 → legs_from t (left i) n here l
        ≡ legs_from t (left (i + 1)) (n + a.arrival + (get_or stops i d).dwell) (get_or stops i d).positions
        (l ++ ((n + a.arrival) ∷ []))
    unfolding by-leg
    leg-made l e = legs-are l ∙ ap (by-leg l) (eq-eqb a.number 0 e)

  pub legs-made : (t : TourSettings) (n : ℕ) (here : List ℤ) (i : ℕ) (l : List ℕ) → length stops ≤ i
      → legs_from t (left i) n here l ≡ all_legs t n l
  legs-made t n here i l h = ap (λ (ss : List Stop). legs_from t ss n here l) (left-none i h)

-- ---- lists that are stored into in order

pub stored_next : {A : Type 0} (l : List A) (i : ℕ) (v : A) → i < length l
    → take (i + 1) (set l i v) ≡ take i l ++ (v ∷ [])
stored_next l i v h = ap (λ (k : ℕ). take k (set l i v)) (sym (next_one i)) ∙ take-suc-set l i v h

-- one entry more of l over the front of e
pub front-next : {A : Type 0} (l e : List A) (i : ℕ) (d : A) → i < length l → i < length e
    → set (take i l ++ drop i e) i (get_or l i d) ≡ take (i + 1) l ++ drop (i + 1) e
front-next l e i d h k =
    ap (λ (r : List _). set (take i l ++ r) i (get_or l i d)) (drop-cons e i d k)
    ∙ set_at (take i l) (get_or e i d) (drop (suc i) e) (get_or l i d) i (length-take-le i l (omega arith))
    ∙ sym (append_snoc (take i l) (get_or l i d) (drop (suc i) e))
    ∙ ap (λ (r : List _). r ++ drop (suc i) e) (sym (take-suc l i d h))
    ∙ ap (λ (m : ℕ). take m l ++ drop m e) (next_one i)

pub front_length : {A : Type 0} (l e r : List A) (i : ℕ) → i ≤ length l → i ≤ length e
    → r ≡ take i l ++ drop i e → length r ≡ length e
front_length l e r i h k q =
    ap length q ∙ length_front e (take i l) i (length-take-le i l h ∙ sym (length-take-le i e k))

-- ---- the ways out of the legs

-- the default of an array's element
abbrev pub empty_stop : Stop
empty_stop = record { positions = []; dwell = 0 }

-- ---- the axes of a leg

-- axis i, for any i
leg-at : (ls : List AxisLimits) (ps qs : List ℤ) (i : ℕ) (d : AxisLimits) (p q : ℤ)
    → i < length ls → i < length ps → i < length qs
    → get_or (leg_axes ls ps qs) i unset_axis ≡ leg_axis (get_or ls i d) (get_or ps i p) (get_or qs i q)
leg-at [] ps qs i c a b h k m = absurd (omega arith)
leg-at (l ∷ ls) [] qs i c a b h k m = absurd (omega arith)
leg-at (l ∷ ls) (p ∷ ps) [] i c a b h k m = absurd (omega arith)
leg-at (l ∷ ls) (p ∷ ps) (q ∷ qs) zero c a b h k m = refl
leg-at (l ∷ ls) (p ∷ ps) (q ∷ qs) (suc i) c a b h k m =
    leg-at ls ps qs i c a b (omega arith) (omega arith)
    (omega arith)

pub legs-long : (ls : List AxisLimits) (ps qs : List ℤ) (n : ℕ) → length ls ≡ n → length ps ≡ n → length qs ≡ n
    → length (leg_axes ls ps qs) ≡ n
legs-long [] ps qs n h k m = h
legs-long (l ∷ ls) [] qs n h k m = k
legs-long (l ∷ ls) (p ∷ ps) [] n h k m = m
legs-long (l ∷ ls) (p ∷ ps) (q ∷ qs) zero h k m = absurd (omega arith)
legs-long (l ∷ ls) (p ∷ ps) (q ∷ qs) (suc n) h k m =
    ap suc (legs-long ls ps qs n (omega arith) (omega arith) (omega arith))

-- the axes before axis i are those of the leg, and so is axis i
pub legs-next : (ls : List AxisLimits) (ps qs : List ℤ) (axes : List Axis) (i : ℕ) (x : Axis)
    (d : AxisLimits) (p q : ℤ) → i < length ls → i < length ps → i < length qs
    → i < length (leg_axes ls ps qs) → i < length axes
    → x ≡ leg_axis (get_or ls i d) (get_or ps i p) (get_or qs i q)
    → take i axes ≡ take i (leg_axes ls ps qs)
    → take (i + 1) (set axes i x) ≡ take (i + 1) (leg_axes ls ps qs)
legs-next ls ps qs axes i x d p q l m n h k e f =
    let g = leg_axes ls ps qs in
    stored_next axes i x k
    ∙ (λ j. f j ++ ((e ∙ sym (leg-at ls ps qs i d p q l m n)) j ∷ []))
    ∙ sym (take-suc g i unset_axis h)
    ∙ ap (λ (m : ℕ). take m g) (next_one i)
