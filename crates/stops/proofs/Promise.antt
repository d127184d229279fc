-- A row by value stands for its list of stops, and what the call promises follows from its outcome.
use Prim.Native.Nat.{ℕ, zero, suc, ◌-◌, ◌≤◌, ◌<◌, min}
use native.Mathlib.Omega.{arith}
use mathlib.Core.Path.{◌≡◌, refl, sym, ap, subst, ◌∙◌}
use mathlib.Core.Bool.{Bool, true, false}
use mathlib.Core.List.{List, [], ◌∷◌, ◌++◌, append-nil}
use lib.ListN.{length, get_or, take, replicate, length-set, length-replicate, length-append, length-take}
use lib.Seq.{take-suc-set, take-suc, take-length}
use lib.Dec.{leb}
use borrow.Author.Tests.{leb-true, leb-false}
use Rattle.model.specs.declared.Stop.{Stop}
use Rattle.model.specs.declared.TourSettings.{TourSettings}
use Rattle.model.specs.declared.TourAnswer.{TourAnswer}
use Rattle.model.specs.calls.Tour.{TourOutcome, tour_by, tour_outcome, tour_outcome_of}
use Rattle.stops.specs.declared.StopRow.{StopRow}
use Rattle.stops.specs.Rows.{no_stop, held_of, row_to, row_of, row_stops}
use Rattle.stops.specs.Promise.{departs_at, LegPlanned, TourPromise}
use Rattle.stops.proofs.Outcomes.{many-stops}
use Rattle.stops.proofs.Planned.{legs-planned, total-planned}

-- ---- the row of the first k stops of a list

record Row (l : List Stop) (k : ℕ) (w : StopRow) : Type 0 where
  long : length w.stops ≡ 64
  lent : w.lent ≡ length l
  front : take k w.stops ≡ take k l

row_is : (l : List Stop) (k : ℕ) → k ≤ 64 → k ≤ length l → Row l k (row_to l k)
unfolding row_to
row_is l zero h g = record { long = length-replicate 64 no_stop; lent = refl; front = refl }
row_is l (suc k) h g =
    let r = row_is l k (omega arith) (omega arith) in
    let w = r.long in
    record {
      long = length-set (row_to l k).stops k (get_or l k no_stop) ∙ r.long;
      lent = r.lent;
      front =
          take-suc-set (row_to l k).stops k (get_or l k no_stop) (omega arith)
          ∙ ap (λ (f : List Stop). f ++ (get_or l k no_stop ∷ [])) r.front
          ∙ sym (take-suc l k no_stop (omega arith));
    }

row-of : (l : List Stop) → Row l (held_of (length l)) (row_of l)
row-of l = row_is l (held_of (length l)) (omega arith) (omega arith)

-- ---- the promise from the outcome

module _ (t : TourSettings) (entry : List ℕ) (r : TourAnswer) (exit : List ℕ) where
  promised : (l : List Stop) → tour_outcome_of r exit ≡ tour_outcome t l entry → TourPromise t l entry r exit
  promised l is =
      let zero : r.number ≡ 0 → (tour_outcome t l entry).number ≡ 0 =
      λ z. sym (ap (λ (o : TourOutcome). o.number) is) ∙ z in
      record {
        outcome = is;
        legs = λ z i h. subst (λ (o : TourOutcome). LegPlanned t t.start 0 l o.arrivals i) (sym is)
            (legs-planned t entry l (zero z) i h);
        total = λ z. subst (λ (o : TourOutcome). o.total ≡ departs_at 0 l o.arrivals (length l)) (sym is)
            (total-planned t entry l (zero z));
      }

  -- ---- a row

  -- more than 64 stops are refused whatever they are
  many : (n : ℕ) (l l' : List Stop) → 64 < n → tour_by t n l entry ≡ tour_by t n l' entry
  many n l l' h = sym (many-stops t n l entry (λ z. omega arith) h) ∙ many-stops t n l' entry (λ z. omega arith) h

  row-length : (w : StopRow) → length w.stops ≡ 64 → length (row_stops w) ≡ w.lent
  row-length w long =
      let n = w.lent in
      let front : length (take n w.stops) ≡ min n 64 = length-take n w.stops ∙ ap (min n) long in
      let rest = length-replicate (n - 64) no_stop in
      length-append (take n w.stops) (replicate (n - 64) no_stop) ∙ omega arith

  -- the first stops that are lent, as many as there are places
  row-tour : (w : StopRow) → length w.stops ≡ 64
      → tour_by t w.lent (take w.lent w.stops) entry ≡ tour_outcome t (row_stops w) entry
  row-tour w long =
      go (leb w.lent 64) refl
      ∙ ap (λ (n : ℕ). tour_by t n (row_stops w) entry) (sym (row-length w long))
    where
      go : (b : Bool) → leb w.lent 64 ≡ b
          → tour_by t w.lent (take w.lent w.stops) entry ≡ tour_by t w.lent (row_stops w) entry
      go true e =
          let few = leb-true w.lent 64 e in
          let none : 0 ≡ w.lent - 64 = omega arith in
          ap (λ (f : List Stop). tour_by t w.lent f entry)
          (sym (append-nil (take w.lent w.stops))
          ∙ ap (λ (k : ℕ). take w.lent w.stops ++ replicate k no_stop) none)
      go false e = many w.lent (take w.lent w.stops) (row_stops w) (leb-false w.lent 64 e)

  pub row-promise : (w : StopRow) → length w.stops ≡ 64
      → tour_outcome_of r exit ≡ tour_by t w.lent (take w.lent w.stops) entry
      → TourPromise t (row_stops w) entry r exit
  row-promise w long e = promised (row_stops w) (e ∙ row-tour w long)

  -- the row of a list
  list-tour : (l : List Stop) → tour_outcome t (row_stops (row_of l)) entry ≡ tour_outcome t l entry
  list-tour l =
      let w = row_of l in
      sym (row-tour w (row-of l).long)
      ∙ ap (λ (n : ℕ). tour_by t n (take n w.stops) entry) (row-of l).lent
      ∙ go (leb (length l) 64) refl
    where
      go : (b : Bool) → leb (length l) 64 ≡ b
          → tour_by t (length l) (take (length l) (row_of l).stops) entry ≡ tour_outcome t l entry
      go true e =
          let few = leb-true (length l) 64 e in
          let held : held_of (length l) ≡ length l = omega arith in
          ap (λ (f : List Stop). tour_by t (length l) f entry)
          (subst (λ (k : ℕ). take k (row_of l).stops ≡ take k l) held (row-of l).front ∙ take-length l)
      go false e = many (length l) (take (length l) (row_of l).stops) l (leb-false (length l) 64 e)

  pub list-promise : (l : List Stop) → TourPromise t (row_stops (row_of l)) entry r exit → TourPromise t l entry r exit
  list-promise l p = promised l (p.outcome ∙ list-tour l)
