-- The rows that a call wants: they fit, they are rows of the table, and written they are what
-- the call gives; or refusal 10.
use Prim.Native.Nat.{ℕ, zero, suc, ◌+◌, ◌-◌, ◌*◌, ◌/◌, ◌%◌, ◌^◌, ◌≤◌, ◌<◌, min}
use mathlib.Core.Path.{◌≡◌, refl, sym, ap, subst, ◌∙◌}
use mathlib.Core.Bool.{Bool, true, false}
use mathlib.Core.List.{List, ◌∷◌, flatten}
use mathlib.Core.Logic.{◌⊎◌, inl, inr}
use native.Mathlib.Omega.{arith}
use native.Mathlib.Nat.{mul-zero, mul_comm, mul-le-mul_left, div-mul-le_self, pow-suc}
use borrow.Author.Tests.{eq-eqb, ne_eqb, ltb-true, ltb-false, lt-ltb, le-ltb}
use lib.Dec.{eqb, ltb}
use Rattle.std.specs.Prelude.{Option, None, Some}
use Rattle.std.specs.declared.result.Result.TheVariants.{Ok, Err}
use Rattle.model.specs.declared.refusal.Refusal.TheVariants as refusals
use lib.IntN.{ℤ}
use lib.ListN.{length, drop, length-map}
use Rattle.whole.proofs.Tests.{lt-or-le}
use Rattle.model.specs.declared.Answer.{Answer}
use Rattle.model.specs.declared.Axis.{Axis}
use Rattle.model.specs.declared.Order.{Order}
use Rattle.model.specs.declared.Order.TheVariants.{Forwards, Backwards}
use Rattle.model.specs.planning.Job.{Job, set_from, set_bits, set_axes, axes_of, typed_job}
use Rattle.model.specs.planning.Refusals.{last_tick}
use Rattle.model.specs.planning.Outcome.{Outcome, outcome_of, refuse, accept, filled, ordered, cells_needed, part_over}
use Rattle.model.specs.planning.Outcome.{table_over}
use Rattle.model.specs.calls.Parts.{part_rows, part_with}
use Rattle.theorems.proofs.jobs.BeforeTen.{before-filled}
use Rattle.theorems.proofs.jobs.Ordered.{refusal-stays}
use Rattle.model.proofs.SetAxes.{six-axes-bits}
use Rattle.planner.specs.declared.Choice.{Choice}
use Rattle.planner.specs.declared.Wanted.{Wanted}
use Rattle.planner.specs.declared.Wanted.TheVariants.{Whole, From}
use Rattle.planner.specs.Promise.{part_answer}
use Rattle.planner.specs.Stages.{choice_for, Gives}

-- ---- a mask that is not 0 names an axis

some-from : (k i m : ℕ) → m < 2 ^ k → 0 < m → 0 < length (set_from k i m)
some-from zero i m h p = absurd (omega arith)
some-from (suc k) i m h p = go (lt-or-le 0 (m % 2)) (some-from k (suc i) (m / 2) (omega (arith, h, pow-suc 2 k)))
  where
    later : List ℕ
    later = set_from k (suc i) (m / 2)

    Longer : Bool → Type 0
    Longer b = 0 < length {A = ℕ} (elim b as (λ _. List ℕ) [ true ↦ i ∷ later | false ↦ later ])

    go : (0 < m % 2) ⊎ (m % 2 ≤ 0) → (0 < m / 2 → 0 < length later) → Longer (eqb (m % 2) 1)
    go (inl q) f = subst Longer (sym (eq-eqb (m % 2) 1 (omega arith))) (omega arith)
    go (inr q) f = subst Longer (sym (ne_eqb (m % 2) 1 (λ e. omega arith))) (f (omega arith))

pub some_bits : (m : ℕ) → 0 < m → m < 64 → 0 < length (set_bits m)
some_bits m p h = some-from 6 0 m h p

-- ---- how many rows a part has: h rows fit, or as many as are left

module _ (h n k : ℕ) (early : k ≤ n) where
  pub held_rows : h < n - k + 1 → h ≡ min h (suc n - k)
  held_rows q = omega arith

  pub left-rows : n - k + 1 ≤ h → n - k + 1 ≡ min h (suc n - k)
  left-rows q = omega arith

-- they fit, and they are rows of the table
module _ (b n k cells c : ℕ) (is : c ≡ min (cells / b) (suc n - k)) where
  part-fits : b * c ≤ cells
  part-fits =
      let few : c ≤ cells / b = omega arith in
      omega (arith, mul-le-mul_left b few, div-mul-le_self cells b, mul_comm b (cells / b))

  part-inside : (c ≡ 0 → ⊥) → k + c ≤ suc n
  part-inside h = omega arith

-- none is written
pub none_written : (o : Order) (xs : List Axis) (n k c : ℕ) (lent : List ℤ) → c ≡ 0 → lent ≡ part_over o xs n k c lent
unfolding flatten
none_written o xs n k c lent e =
    ap (λ (m : ℕ). drop m lent) {x = 0} (sym (mul-zero (3 * length xs)))
    ∙ ap (λ (m : ℕ). part_over o xs n k m lent) (sym e)

-- ---- what is wanted, of the axes of a mask with arrival n, and a lent table

-- all rows are chosen where there is room for them
module _ (o : Order) (axes n cells : ℕ) where
  room : (c : Choice) → Some c ≡ choice_for (Whole o) axes n cells
      → (c ≡ record { order = o; first = 0; rows = suc n }) × (cells_needed axes n ≤ cells)
  room c = go (ltb cells (cells_needed axes n)) (ltb-false cells (cells_needed axes n))
    where
      go : (b : Bool) → (b ≡ false → cells_needed axes n ≤ cells)
          → Some c ≡ (elim b as (λ _. Option Choice) [
            | true ↦ None
            | false ↦ Some (record { order = o; first = 0; rows = suc n })
          ])
          → (c ≡ record { order = o; first = 0; rows = suc n }) × (cells_needed axes n ≤ cells)
      go true f e = absurd (cc)
      go false f e = (cc, f refl)

  no-room : None ≡ choice_for (Whole o) axes n cells → cells < cells_needed axes n
  no-room = go (ltb cells (cells_needed axes n)) (ltb-true cells (cells_needed axes n))
    where
      go : (b : Bool) → (b ≡ true → cells < cells_needed axes n)
          → None ≡ (elim b as (λ _. Option Choice) [
            | true ↦ None
            | false ↦ Some (record { order = o; first = 0; rows = suc n })
          ])
          → cells < cells_needed axes n
      go true f e = f refl
      go false f e = absurd (cc)

one : {A : Type 0} {a b : A} → Some a ≡ Some b → a ≡ b
one e = cc

module _ (m n : ℕ) (six : List Axis) (long : length six ≡ 6) (lent : List ℤ) where
  abbrev j : Job
  j = typed_job m n six

  abbrev Chosen : Wanted → Option Choice → Type 0
  Chosen w c = c ≡ choice_for w (length (set_bits m)) n (length lent)

  named : length (set_bits m) ≡ length (set_axes 0 m six)
  named = sym (six-axes-bits m six long)

  by-room : Bool → Outcome
  by-room b = elim b [ true ↦ refuse 10 0 0 n lent | false ↦ accept j n lent ]

  -- the rows have room and are rows of the table
  pub rows_inside : (w : Wanted) (c : Choice) → Chosen w (Some c) → (c.rows ≡ 0 → ⊥) → c.first + c.rows ≤ suc n
  rows_inside (Whole o) c is h =
      let e = (room o (length (set_bits m)) n (length lent) c is).0 in
      let a : c.first ≡ 0 = ap (λ (d : Choice). d.first) e in
      let b : c.rows ≡ suc n = ap (λ (d : Choice). d.rows) e in
      omega arith
  rows_inside (From k) c is h =
      let e = one is in
      let a : c.first ≡ k = ap (λ (d : Choice). d.first) e in
      subst (λ (i : ℕ). i + c.rows ≤ suc n) (sym a)
      (part-inside (3 * length (set_bits m)) n k (length lent) c.rows (ap (λ (d : Choice). d.rows) e) h)

  rows-fit-bits : (w : Wanted) (c : Choice) → Chosen w (Some c) → 3 * length (set_bits m) * c.rows ≤ length lent
  rows-fit-bits (Whole o) c is =
      let e = room o (length (set_bits m)) n (length lent) c is in
      subst (λ (i : ℕ). 3 * length (set_bits m) * i ≤ length lent) (sym (ap (λ (d : Choice). d.rows) e.0)) e.1
  rows-fit-bits (From k) c is =
      part-fits (3 * length (set_bits m)) n k (length lent) c.rows (ap (λ (d : Choice). d.rows) (one is))

  pub rows_fit : (w : Wanted) (c : Choice) → Chosen w (Some c) → 3 * length (set_axes 0 m six) * c.rows ≤ length lent
  rows_fit w c is = subst (λ (i : ℕ). 3 * i * c.rows ≤ length lent) named (rows-fit-bits w c is)

  -- refusal 10, where all rows are wanted and the table is too short
  pub too_short : (w : Wanted) → Chosen w None
      → Gives w m (axes_of j) lent (filled j n lent) (part_answer (Err (refusals.TableShort n))) lent
  unfolding by-room
  too_short (Whole o) is =
      record {
        outcome =
            refusal-stays (axes_of j) lent (refuse 10 0 0 n lent) o (λ z. omega arith)
            ∙ ap (λ (b : Bool). ordered o (axes_of j) lent (by-room b))
            (sym (lt-ltb (length lent) (cells_needed (length (set_axes 0 m six)) n) short));
        fitted = λ z. absurd (omega arith);
      }
    where
      short : length lent < cells_needed (length (set_axes 0 m six)) n
      short =
          subst (λ (i : ℕ). length lent < cells_needed i n) named
          (no-room o (length (set_bits m)) n (length lent) is)
  too_short (From k) is = absurd (cc)

  -- the rows
  accepted : (o : Order)
      → outcome_of (record { number = 0; place = 0; mask = m; arrival = n }) (table_over o (axes_of j) n lent)
      ≡ ordered o (axes_of j) lent (accept j n lent)
  accepted Forwards = refl
  accepted Backwards = refl

  pub wrote : (w : Wanted) (c : Choice) → Chosen w (Some c) → (exit : List ℤ)
      → exit ≡ part_over c.order (axes_of j) n c.first c.rows lent → m < 64
      → n ≤ last_tick → length exit ≡ length lent
      → Gives w m (axes_of j) lent (filled j n lent)
      (part_answer (Ok (record { mask = m; arrival = n; rows = c.rows }))) exit
  unfolding by-room
  wrote (Whole o) c is exit q g l s =
      record {
        outcome =
            ap (λ (l : List ℤ). record { number = 0; place = 0; mask = m; arrival = n; cells = l })
            (q ∙ ap (λ (d : Choice). part_over d.order (axes_of j) n d.first d.rows lent) e.0)
            ∙ accepted o
            ∙ ap (λ (b : Bool). ordered o (axes_of j) lent (by-room b))
            (sym (le-ltb (length lent) (cells_needed (length (set_axes 0 m six)) n)
            (subst (λ (i : ℕ). cells_needed i n ≤ length lent) named e.1)));
        fitted = λ z. record { mask = g; last = l; room = omega (arith, e.1, s) };
      }
    where
      e : (c ≡ record { order = o; first = 0; rows = suc n }) × (cells_needed (length (set_bits m)) n ≤ length lent)
      e = room o (length (set_bits m)) n (length lent) c is
  wrote (From k) c is exit q g l s =
      ap (λ (l : List ℤ). record { answer = a; rows = c.rows; cells = l }) q
      ∙ ap (λ (d : Choice).
      record { answer = a; rows = d.rows; cells = part_over d.order (axes_of j) n d.first d.rows lent }) (one is)
      ∙ ap (λ (i : ℕ). record {
        answer = a;
        rows = part_rows i n k (length lent);
        cells = part_over Forwards (axes_of j) n k (part_rows i n k (length lent)) lent;
      })
      (named ∙ sym (length-map (set_axes 0 m six) (λ x. x.axis)))
      ∙ ap (λ (x : Answer). part_with x (axes_of j) k lent) (sym (before-filled j n lent))
    where
      a : Answer
      a = record { number = 0; place = 0; mask = m; arrival = n }
