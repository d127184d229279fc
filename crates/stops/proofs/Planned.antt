-- The legs of an accepted tour, one by one.
use Prim.Native.Nat.{ℕ, zero, suc, ◌+◌, ◌<◌}
use native.Mathlib.Omega.{arith}
use mathlib.Core.Path.{◌≡◌, refl, sym, ap, subst, ◌∙◌}
use mathlib.Core.Bool.{Bool, true, false}
use Rattle.std.specs.Prelude.{Option, None, Some}
use mathlib.Core.List.{List, [], ◌∷◌, ◌++◌}
use lib.IntN.{ℤ}
use lib.Dec.{eqb, leb, ltb}
use lib.ListN.{length, get_or, drop}
use lib.Seq.{append_snoc}
use borrow.Author.Tests.{eqb-true, eqb-false}
use Rattle.model.specs.declared.Answer.{Answer}
use Rattle.model.specs.declared.Stop.{Stop}
use Rattle.model.specs.declared.TourSettings.{TourSettings}
use Rattle.model.specs.calls.Tour.{Legs, TourOutcome, leg_job, leg_answer, legs_from, refused_leg, refuse_tour}
use Rattle.model.specs.calls.Tour.{arrivals_over}
use Rattle.model.specs.calls.Tour.{after_legs, first_long_dwell, dwells_checked, stops_checked, most_stops}
use Rattle.model.specs.calls.Tour.{tour_outcome}
use Rattle.stops.specs.Promise.{departs_at, LegPlanned}
use Rattle.model.specs.planning.Outcome.{typed}
use Rattle.theorems.proofs.jobs.BeforeTen.{job-accepted}

-- ---- the arrivals m of the stops ss, the first leg leaving `here` at tick n, and the total

abbrev Plan : TourSettings → List Stop → ℕ → List ℤ → List ℕ → ℕ → Type 0
Plan t [] n here m total = (m ≡ []) × (total ≡ n)
Plan t (s ∷ ss) n here m total =
    ((leg_answer t here s.positions).number ≡ 0)
    × ((m' : List ℕ) × ((m ≡ (n + (leg_answer t here s.positions).arrival) ∷ m')
    × Plan t ss (n + (leg_answer t here s.positions).arrival + s.dwell) s.positions m' total))

module _ (t : TourSettings) where
  Made : List Stop → ℕ → List ℤ → List ℕ → Legs → Type 0
  Made ss n here l g = (m : List ℕ) × ((g.arrivals ≡ l ++ m) × Plan t ss n here m g.total)

  legs-made : (ss : List Stop) (n : ℕ) (here : List ℤ) (l : List ℕ) → (legs_from t ss n here l).number ≡ 0
      → Made ss n here l (legs_from t ss n here l)
  unfolding Made
  legs-made [] n here l z = ([], (sym (append-nil l), (refl, refl)))
    where
      append-nil : (l : List ℕ) → l ++ [] ≡ l
      append-nil [] = refl
      append-nil (x ∷ l) = ap (λ (r : List ℕ). x ∷ r) (append-nil l)
  legs-made (s ∷ ss) n here l z = go (eqb a.number 0) refl z
      (legs-made ss (n + a.arrival + s.dwell) s.positions (l ++ ((n + a.arrival) ∷ [])))
    where
      a : Answer
      a = leg_answer t here s.positions

      rest : Legs
      rest = legs_from t ss (n + a.arrival + s.dwell) s.positions (l ++ ((n + a.arrival) ∷ []))

      go : (b : Bool) → eqb a.number 0 ≡ b
          → (elim b as (λ _. Legs) [ true ↦ rest | false ↦ refused_leg a (length l) ]).number ≡ 0
          → (rest.number ≡ 0 → Made ss (n + a.arrival + s.dwell) s.positions (l ++ ((n + a.arrival) ∷ [])) rest)
          → Made (s ∷ ss) n here l (elim b [ true ↦ rest | false ↦ refused_leg a (length l) ])
      go true e z h =
          let r = h z in (
            (n + a.arrival) ∷ r.0,
            (r.1.0 ∙ append_snoc l (n + a.arrival) r.0, (eqb-true a.number 0 e, (r.0, (refl, r.1.1)))),
          )
      go false e z h = absurd (eqb-false a.number 0 e z)

  -- ---- by index; the lent list has the arrivals in front

  at : (ss : List Stop) (n : ℕ) (here : List ℤ) (m e : List ℕ) (total : ℕ) → Plan t ss n here m total
      → (i : ℕ) → i < length ss → LegPlanned t here n ss (m ++ e) i
  at [] n here m e total p i h = absurd (omega arith)
  at (s ∷ ss) n here m e total (z, (m', (q, p))) zero h =
      record {
        ticks = (leg_answer t here s.positions).arrival;
        arrival = ap (λ (k : List ℕ). get_or (k ++ e) 0 0) q;
        job = λ lent room. job-accepted (typed (leg_job t here s.positions)) lent z room;
      }
  at (s ∷ ss) n here m e total (z, (m', (q, p))) (suc i) h =
      subst (λ (k : List ℕ). LegPlanned t here n (s ∷ ss) (k ++ e) (suc i)) (sym q)
      (next i (at ss (n + (leg_answer t here s.positions).arrival + s.dwell)
      s.positions m' e total p i (omega arith)))
    where
      first : ℕ
      first = n + (leg_answer t here s.positions).arrival

      next : (i : ℕ) → LegPlanned t s.positions (first + s.dwell) ss (m' ++ e) i
          → LegPlanned t here n (s ∷ ss) ((first ∷ m') ++ e) (suc i)
      next zero r = record { ticks = r.ticks; arrival = r.arrival; job = r.job }
      next (suc i) r = record { ticks = r.ticks; arrival = r.arrival; job = r.job }

  total-at : (ss : List Stop) (n : ℕ) (here : List ℤ) (m e : List ℕ) (total : ℕ) → Plan t ss n here m total
      → total ≡ departs_at n ss (m ++ e) (length ss)
  total-at [] n here m e total (q, p) = p
  total-at (s ∷ ss) n here m e total (z, (m', (q, p))) =
      total-at ss first s.positions m' e total p
      ∙ next ss
      ∙ ap (λ (k : List ℕ). departs_at n (s ∷ ss) (k ++ e) (suc (length ss))) (sym q)
    where
      first : ℕ
      first = n + (leg_answer t here s.positions).arrival + s.dwell

      next : (us : List Stop)
          → departs_at first us (m' ++ e) (length us)
          ≡ departs_at n (s ∷ us) (((n + (leg_answer t here s.positions).arrival) ∷ m') ++ e) (suc (length us))
      next [] = refl
      next (u ∷ us) = refl

-- ---- an accepted tour

module _ (t : TourSettings) (lent : List ℕ) where
  -- the arrivals stand in front of the lent list
  Accepted : List Stop → TourOutcome → Type 0
  Accepted stops o =
      (m : List ℕ) × ((o.arrivals ≡ m ++ drop (length stops) lent) × Plan t stops 0 t.start m o.total)

  tour-accepted : (stops : List Stop) → (tour_outcome t stops lent).number ≡ 0
      → Accepted stops (tour_outcome t stops lent)
  unfolding Accepted Made
  tour-accepted [] z = ([], (refl, (refl, refl)))
  tour-accepted (s ∷ ss) z = by_count (eqb (length (s ∷ ss)) 0) refl z
    where
      stops : List Stop
      stops = s ∷ ss

      g : Legs
      g = legs_from t stops 0 t.start []

      by-room : (b : Bool) → g.number ≡ 0
          → (elim b as (λ _. TourOutcome) [
            | true ↦ refuse_tour 10 (length stops) 0 0 lent
            | false ↦ record {
              number = 0;
              place = 0;
              mask = g.mask;
              arrival = 0;
              total = g.total;
              arrivals = g.arrivals ++ drop (length stops) lent;
            }
          ]).number ≡ 0
          → Accepted stops (elim b [
            | true ↦ refuse_tour 10 (length stops) 0 0 lent
            | false ↦ record {
              number = 0;
              place = 0;
              mask = g.mask;
              arrival = 0;
              total = g.total;
              arrivals = g.arrivals ++ drop (length stops) lent;
            }
          ])
      by-room true n z = absurd (omega arith)
      by-room false n z =
          let r = legs-made t stops 0 t.start [] n in
          (r.0, (ap (λ (l : List ℕ). l ++ drop (length stops) lent) r.1.0, r.1.1))

      by-legs : (b : Bool) → eqb g.number 0 ≡ b
          → (elim b as (λ _. TourOutcome) [
            | true ↦ arrivals_over (length stops) g lent
            | false ↦ refuse_tour g.number g.place g.mask g.arrival lent
          ]).number ≡ 0
          → Accepted stops
          (elim b [
            | true ↦ arrivals_over (length stops) g lent
            | false ↦ refuse_tour g.number g.place g.mask g.arrival lent
          ])
      by-legs true e z = by-room (ltb (length lent) (length stops)) (eqb-true g.number 0 e) z
      by-legs false e z = absurd (eqb-false g.number 0 e z)

      by-dwell : (o : Option ℕ)
          → (elim o as (λ _. TourOutcome) [
            | Some i ↦ refuse_tour 11 i 0 0 lent
            | None ↦ after_legs (length stops) g lent
          ]).number ≡ 0
          → Accepted stops (elim o [ Some i ↦ refuse_tour 11 i 0 0 lent | None ↦ after_legs (length stops) g lent ])
      by-dwell (Some i) z = absurd (omega arith)
      by-dwell None z = by-legs (eqb g.number 0) refl z

      by_most : (b : Bool)
          → (elim b as (λ _. TourOutcome) [
            | true ↦ dwells_checked t (length stops) stops lent
            | false ↦ refuse_tour 11 most_stops 0 0 lent
          ]).number ≡ 0
          → Accepted stops
          (elim b [ true ↦ dwells_checked t (length stops) stops lent | false ↦ refuse_tour 11 most_stops 0 0 lent ])
      by_most true z = by-dwell (first_long_dwell 0 stops) z
      by_most false z = absurd (omega arith)

      by_count : (b : Bool) → eqb (length stops) 0 ≡ b
          → (elim b as (λ _. TourOutcome) [
            | true ↦ refuse_tour 0 0 0 0 lent
            | false ↦ stops_checked t (length stops) stops lent
          ]).number ≡ 0
          → Accepted stops
          (elim b [ true ↦ refuse_tour 0 0 0 0 lent | false ↦ stops_checked t (length stops) stops lent ])
      by_count true e z = let n = eqb-true (length stops) 0 e in absurd (omega arith)
      by_count false e z = by_most (leb (length stops) most_stops) z

  pub legs-planned : (stops : List Stop) → (tour_outcome t stops lent).number ≡ 0 → (i : ℕ) → i < length stops
      → LegPlanned t t.start 0 stops (tour_outcome t stops lent).arrivals i
  unfolding Accepted
  legs-planned stops z i h =
      let a = tour-accepted stops z in
      subst (λ (l : List ℕ). LegPlanned t t.start 0 stops l i) (sym a.1.0)
      (at t stops 0 t.start a.0 (drop (length stops) lent) _ a.1.1 i h)

  pub total-planned : (stops : List Stop) → (tour_outcome t stops lent).number ≡ 0
      → (tour_outcome t stops lent).total ≡ departs_at 0 stops (tour_outcome t stops lent).arrivals (length stops)
  unfolding Accepted
  total-planned stops z =
      let a = tour-accepted stops z in
      total-at t stops 0 t.start a.0 (drop (length stops) lent) _ a.1.1
      ∙ ap (λ (l : List ℕ). departs_at 0 stops l (length stops)) (sym a.1.0)
