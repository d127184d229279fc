-- The tracks while the table is filled: one axis is stepped, and the others stay.
use mathlib.Core.Path.{◌≡◌, refl, sym, subst, ◌∙◌}
use mathlib.Core.Bool.{true, false}
use mathlib.Core.List.{List, ◌++◌}
use Prim.Native.Nat.{ℕ, suc, ◌+◌, ◌<◌, ◌≤◌}
use native.Mathlib.Numerals.{add-one}
use native.Mathlib.Omega.{arith}
use native.Mathlib.Decide.{dec_lt}
use lib.Dec.{ltb}
use borrow.Author.Tests.{lt-ltb, le-ltb}
use lib.IntN.{pos}
use lib.ListN.{length, get_or, set, take, get_or-append}
use lib.Seq.{get_or-set_same, get_or-set_other, get_or-take}
use Rattle.model.specs.declared.Order.{Order}
use Rattle.model.specs.declared.Order.TheVariants.{Forwards, Backwards}
use Rattle.model.specs.planning.Rows.{row_at}
use Rattle.planned.specs.declared.AxisPlan.{AxisPlan}
use Rattle.rows.specs.declared.Track.{Track}
use Rattle.rows.specs.Plans.{unset_plan}
use Rattle.blended.specs.BlendedStates.{comes_to}
use Rattle.rows.specs.Table.{TrackAt}
use Rattle.cells.specs.Rows.{comes_at, goes_on_at}
use Rattle.whole.proofs.Tests.{choice-yes, choice-no}

-- the tick of axis a in a row, when the axes before axis i are stepped from tick k to tick l
unfoldable pub tick_of : ℕ → ℕ → ℕ → ℕ → ℕ
tick_of i k l a = elim (ltb a i) [ true ↦ l | false ↦ k ]

pub tick-after : (i k l a : ℕ) → a < i → tick_of i k l a ≡ l
unfolding tick_of
tick-after i k l a h = sym (choice-yes (ltb a i) l k (lt-ltb a i h))

pub tick-before : (i k l a : ℕ) → i ≤ a → tick_of i k l a ≡ k
unfolding tick_of
tick-before i k l a h = sym (choice-no (ltb a i) l k (le-ltb a i h))

-- what stands where no track is
abbrev pub no_track : Track
no_track =
    record {
      plan = unset_plan;
      state = record { position = pos 0; velocity = pos 0 };
      segment = record { change = pos 0; from = 0; until = 0 };
    }

-- the tracks of the first `count` axes
abbrev pub At : List AxisPlan → ℕ → ℕ → List Track → Type 0
At axes count k tracks = (a : ℕ) → a < count → TrackAt (get_or axes a unset_plan) k (get_or tracks a no_track)

abbrev pub Tracks : List AxisPlan → ℕ → ℕ → ℕ → ℕ → List Track → Type 0
Tracks axes count k l i tracks = (a : ℕ) → a < count
    → TrackAt (get_or axes a unset_plan) (tick_of i k l a) (get_or tracks a no_track)

-- a track of plan p, as one of its own plan, and back
pub own-track : {p : AxisPlan} {k : ℕ} {t : Track} → TrackAt p k t → TrackAt t.plan k t
own-track {p} {k} {t} h = subst (λ (q : AxisPlan). TrackAt q k t) (sym h.plan) h

pub track-of : {p q : AxisPlan} {k : ℕ} {t : Track} → q ≡ p → TrackAt q k t → TrackAt p k t
track-of {p} {q} {k} {t} e h = subst (λ (r : AxisPlan). TrackAt r k t) e h

at-tick : {p : AxisPlan} {t : Track} {k l : ℕ} → k ≡ l → TrackAt p k t → TrackAt p l t
at-tick {p} {t} e h = subst (λ (m : ℕ). TrackAt p m t) e h

-- all at tick k: no axis is stepped yet
pub row-begins : (axes : List AxisPlan) (count k l : ℕ) (tracks : List Track) → At axes count k tracks
    → Tracks axes count k l 0 tracks
row-begins axes count k l tracks h a q = at-tick (sym (tick-before 0 k l a (omega arith))) (h a q)

-- and all of them are
pub row_ends : (axes : List AxisPlan) (count k l : ℕ) (tracks : List Track)
    → Tracks axes count k l count tracks → At axes count l tracks
row_ends axes count k l tracks h a q = at-tick (tick-after count k l a q) (h a q)

-- axis i, which is the next to be stepped
pub next-track : (axes : List AxisPlan) (count k l i : ℕ) (tracks : List Track)
    → Tracks axes count k l i tracks → i < count
    → TrackAt (get_or axes i unset_plan) k (get_or tracks i no_track)
next-track axes count k l i tracks h q = at-tick (tick-before i k l i (omega arith)) (h i q)

-- one more track is set
pub first-tracks : (axes : List AxisPlan) (k i : ℕ) (tracks : List Track) (u : Track) → i < length tracks
    → TrackAt (get_or axes i unset_plan) k u → At axes i k tracks → At axes (i + 1) k (set tracks i u)
first-tracks axes k i tracks u m e h a q = go (dec_lt a i)
  where
    Goal : ℕ → Type 0
    Goal b = TrackAt (get_or axes b unset_plan) k (get_or (set tracks i u) b no_track)

    go : Dec (a < i) → Goal a
    go (yes r) =
        subst (TrackAt (get_or axes a unset_plan) k)
        (sym (get_or-set_other tracks i a u no_track (λ w. omega arith))) (h a r)
    go (no r) =
        let w : i ≡ a = omega arith in
        subst Goal w (subst (TrackAt (get_or axes i unset_plan) k) (sym (get_or-set_same tracks i u no_track m)) e)

-- those of the first `count` alone, and with others after them
pub front-tracks : (axes : List AxisPlan) (count k : ℕ) (tracks : List Track) → At axes count k tracks
    → At axes count k (take count tracks)
front-tracks axes count k tracks h a q =
    subst (TrackAt (get_or axes a unset_plan) k) (sym (get_or-take count tracks a no_track q)) (h a q)

pub more-tracks : (axes : List AxisPlan) (count k : ℕ) (tracks others : List Track) → length tracks ≡ count
    → At axes count k tracks → At axes count k (tracks ++ others)
more-tracks axes count k tracks others e h a q =
    subst (TrackAt (get_or axes a unset_plan) k) (sym (get_or-append tracks others no_track a (omega arith))) (h a q)

-- axis i is stepped
pub steps : (axes : List AxisPlan) (count k l i : ℕ) (tracks : List Track) (u : Track) → i < count
    → i < length tracks
    → TrackAt (get_or axes i unset_plan) l u → Tracks axes count k l i tracks
    → Tracks axes count k l (i + 1) (set tracks i u)
steps axes count k l i tracks u m long e h a q = go (dec_lt a i) (dec_lt i a)
  where
    Goal : ℕ → Type 0
    Goal b = TrackAt (get_or axes b unset_plan) (tick_of (i + 1) k l b) (get_or (set tracks i u) b no_track)

    own : Goal i
    own =
        subst (TrackAt (get_or axes i unset_plan) (tick_of (i + 1) k l i))
        (sym (get_or-set_same tracks i u no_track long))
        (at-tick (sym (tick-after (i + 1) k l i (omega arith))) e)

    other : (a ≡ i → ⊥) → tick_of i k l a ≡ tick_of (i + 1) k l a → Goal a
    other n t =
        subst (TrackAt (get_or axes a unset_plan) (tick_of (i + 1) k l a))
        (sym (get_or-set_other tracks i a u no_track n)) (at-tick t (h a q))

    go : Dec (a < i) → Dec (i < a) → Goal a
    go (yes r) d = other (λ w. omega arith) (tick-after i k l a r ∙ sym (tick-after (i + 1) k l a (omega arith)))
    go (no r) (yes t) =
        other (λ w. omega arith) (tick-before i k l a (omega arith) ∙ sym (tick-before (i + 1) k l a (omega arith)))
    go (no r) (no t) = let w : i ≡ a = omega arith in subst Goal w own

-- ---- the state that comes to the row at place j is that of the row's tick, and the one
-- that goes on comes to the next row

pub comes : (o : Order) (n j : ℕ) → j ≤ n → comes_to o n j ≡ comes_at o (row_at o n j)
comes Forwards n j h = refl
comes Backwards n j h = omega arith

pub comes-late : (o : Order) (k : ℕ) → comes_at o k ≤ suc k
comes-late Forwards k = omega arith
comes-late Backwards k = omega arith

pub goes_on : (o : Order) (n j : ℕ) → j ≤ n → goes_on_at o (row_at o n j) ≡ comes_to o n (j + 1)
goes_on Forwards n j h = sym (add-one j)
goes_on Backwards n j h = omega arith
