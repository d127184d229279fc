-- A part of a table: its rows are the table's, and it is accepted where the table is:
-- `parts-hold`. Parts one after the other are the table: `parts-make-the-table`. And what is
-- known of the axes of a job that is accepted.
use Prim.Native.Nat.{ℕ, zero, suc, ◌+◌, ◌-◌, ◌*◌, ◌≤◌, ◌<◌}
use mathlib.Core.Path.{◌≡◌, refl, sym, ap, subst, ◌∙◌}
use mathlib.Core.Bool.{true}
use mathlib.Core.List.{List, [], ◌∷◌, ◌++◌, map, append_assoc, append-nil, flatten}
use mathlib.Core.Logic.{◌⊎◌, inl, inr}
use native.Mathlib.Omega.{arith}
use native.Mathlib.Nat.{mul-zero}
use borrow.Author.Tests.{eq-eqb}
use lib.Dec.{eqb}
use lib.IntN.{ℤ, pos}
use lib.ListN.{length, take, drop, replicate, length-map, length-replicate, drop_of_length-le}
use lib.Seq.{take-append_seam, drop-append_seam}
use Rattle.whole.proofs.Tests.{T_true, choice-yes, lt-or-le}
use Rattle.model.specs.declared.Axis.{Axis}
use Rattle.model.specs.declared.Order.TheVariants.{Forwards}
use Rattle.model.specs.planning.Rows.{planned_axis, cells, row, tabulate, table, part}
use Rattle.model.specs.planning.Job.{Job, job_of, axes_of}
use Rattle.model.specs.planning.Refusals.{AllPassed}
use Rattle.model.specs.planning.Outcome.{Outcome, Input, words, typed, call, input_job, input_axes, cells_needed}
use Rattle.model.specs.planning.Outcome.{all_reach, answer_of}
use Rattle.theorems.specs.Verdict.{Verdict, refused3, refused4, refused12, refused5, refused15, refused6}
use Rattle.theorems.specs.Verdict.{refused16, refused17, refused13, refused8, refused9, refused10, accepted}
use Rattle.theorems.specs.Verdict.{CallVerdict, words1, words2, words14, words_job, typed1, typed_jobs}
use Rattle.model.specs.planning.Demand.{Demand3}
use Rattle.model.specs.calls.Parts.{part_rows, PartOutcome, part_accepted, part_call}
use Rattle.theorems.specs.Parts.{PartOf, PartsHold, next_row, parts_written, PartsMakeTheTable}
use Rattle.theorems.proofs.tables.CellPlaces.{rows-length, blocks-length}
use Rattle.theorems.proofs.jobs.Verdict.{reach-all}
use Rattle.theorems.proofs.words.WordsAre.{job-spelled}
use Rattle.theorems.proofs.calls.CallVerdict.{call-verdict}
use Rattle.theorems.proofs.jobs.BeforeTen.{job-accepted}

-- ---- some of a list's blocks

module _ (b : ℕ) (f : ℕ → List ℤ) (even : (k : ℕ) → length (f k) ≡ b) where
  blocks : ℕ → ℕ → List ℤ
  blocks k c = flatten (tabulate f k c)

  parted : (j a c : ℕ) → blocks j (a + c) ≡ blocks j a ++ blocks (j + a) c
  unfolding blocks flatten
  parted j zero c =
      let e : j ≡ j + zero = omega arith in
      let g : zero + c ≡ c = omega arith in
      λ i. blocks (e i) (g i)
  parted j (suc a) c =
      ap (blocks j) {x = suc a + c} {y = suc (a + c)} (omega arith)
      ∙ ap (λ (l : List ℤ). f j ++ l)
      (parted (suc j) a c
      ∙ ap (λ (i : ℕ). blocks (suc j) a ++ blocks i c) {x = suc j + a} {y = j + suc a} (omega arith))
      ∙ sym (append_assoc (f j) (blocks (suc j) a) (blocks (j + suc a) c))

  taken : (k c n : ℕ) (rest : List ℤ) → k + c ≤ n
      → take (b * c) (drop (b * k) (flatten (tabulate f 0 n) ++ rest)) ≡ flatten (tabulate f k c)
  unfolding blocks
  taken k c n rest h =
      ap (λ (l : List ℤ). take (b * c) (drop (b * k) (l ++ rest))) all
      ∙ ap (λ (l : List ℤ). take (b * c) (drop (b * k) l)) (append_assoc X (Y ++ Z) rest)
      ∙ ap (λ (m : ℕ). take (b * c) (drop m (X ++ ((Y ++ Z) ++ rest)))) (sym (rows-length b f even 0 k))
      ∙ ap (take (b * c)) (drop-append_seam X ((Y ++ Z) ++ rest) ∙ append_assoc Y Z rest)
      ∙ ap (λ (m : ℕ). take m (Y ++ (Z ++ rest))) (sym (rows-length b f even k c))
      ∙ take-append_seam Y (Z ++ rest)
    where
      r : ℕ
      r = n - (k + c)

      X : List ℤ
      X = flatten (tabulate f 0 k)

      Y : List ℤ
      Y = flatten (tabulate f k c)

      Z : List ℤ
      Z = flatten (tabulate f (k + c) r)

      all : flatten (tabulate f 0 n) ≡ X ++ (Y ++ Z)
      all =
          ap (blocks 0) {x = n} {y = k + (c + r)} (omega arith)
          ∙ parted 0 k (c + r)
          ∙ ap (λ (i : ℕ). X ++ blocks i (c + r)) {x = 0 + k} {y = k} (omega arith)
          ∙ ap (λ (l : List ℤ). X ++ l) (parted k c r)

-- ---- what is known of an accepted job

pub record Accepted (j : Job) (lent : List ℤ) (o : Outcome) : Type 0 where
  pub passed : AllPassed j.axes
  pub reach : all_reach j.axes o.arrival ≡ true
  pub cells : o.cells ≡ table Forwards (axes_of j) o.arrival
      ++ drop (cells_needed (length (axes_of j)) o.arrival) lent

by-verdict : (j : Job) (lent : List ℤ) (o : Outcome) → Verdict Forwards j lent o → o.number ≡ 0 → Accepted j lent o
by-verdict j lent o (accepted n p w a room e) z =
    record {
      passed = p;
      reach = subst (λ (m : ℕ). all_reach j.axes m ≡ true) (sym e.arrival)
          (T_true _ (reach-all j.axes n p a.arrives.reached));
      cells = e.cells ∙ ap
          (λ (m : ℕ). table Forwards (axes_of j) m ++ drop (cells_needed (length (axes_of j)) m) lent) (sym e.arrival);
    }
by-verdict j lent o (refused3 a e) z = absurd (let n = e.number in omega arith)
by-verdict j lent o (refused4 i a b e) z = absurd (let n = e.number in omega arith)
by-verdict j lent o (refused12 i a b c e) z = absurd (let n = e.number in omega arith)
by-verdict j lent o (refused5 i a b c d e) z = absurd (let n = e.number in omega arith)
by-verdict j lent o (refused15 i a b c d f e) z = absurd (let n = e.number in omega arith)
by-verdict j lent o (refused6 i a b c d f g e) z = absurd (let n = e.number in omega arith)
by-verdict j lent o (refused16 i a b c d f g k e) z = absurd (let n = e.number in omega arith)
by-verdict j lent o (refused17 i a b c d f g k l e) z = absurd (let n = e.number in omega arith)
by-verdict j lent o (refused13 p a b c e) z = absurd (let n = e.number in omega arith)
by-verdict j lent o (refused8 m a b c w d f e) z = absurd (let n = e.number in omega arith)
by-verdict j lent o (refused9 m a b w c d e) z = absurd (let n = e.number in omega arith)
by-verdict j lent o (refused10 n a w b c e) z = absurd (let n = e.number in omega arith)

-- the mask of a job of typed values
abbrev pub MaskAllowed : Input → Type 0
MaskAllowed (words ws) = Unit
MaskAllowed (typed t) = (1 ≤ t.mask) × (t.mask ≤ 63)

by_call : (q : Input) (lent : List ℤ) (o : Outcome) → CallVerdict Forwards lent o q → o.number ≡ 0
    → MaskAllowed q × Accepted (input_job q) lent o
by_call q lent o (words1 ws a e) z = absurd (let n = e.number in omega arith)
by_call q lent o (words2 ws p a e) z = absurd (let n = e.number in omega arith)
by_call q lent o (words14 ws p a e) z = absurd (let n = e.number in omega arith)
by_call q lent o (words_job ws j a v) z =
    (tt, subst (λ (i : Job). Accepted i lent o) (sym (job-spelled ws j a)) (by-verdict j lent o v z))
by_call q lent o (typed1 t a e) z = absurd (let n = e.number in omega arith)
by_call q lent o (typed_jobs t a b v) z = ((a, b), by-verdict (job_of t) lent o v z)

-- a job that is answered with number 0
pub record Passes (q : Input) : Type 0 where
  pub mask : MaskAllowed q
  pub passed : AllPassed (input_job q).axes
  pub reach : all_reach (input_job q).axes (answer_of q).arrival ≡ true

pub passes : (q : Input) → (answer_of q).number ≡ 0 → Passes q
passes q z =
    let n = (answer_of q).arrival in
    let cells = cells_needed (length (input_axes q)) n in
    let whole = replicate cells (pos 0) in
    let long : length whole ≡ cells = length-replicate cells (pos 0) in
    let a = job-accepted q whole z (omega (arith, long)) in
    let b = by_call q whole (call q whole) (call-verdict q whole) a.0 in
    record {
      mask = b.0;
      passed = b.1.passed;
      reach = subst (λ (m : ℕ). all_reach (input_job q).axes m ≡ true) a.1.0 b.1.reach;
    }

-- ---- the part

module _ (q : Input) (k : ℕ) (lent : List ℤ) where
  pub part-accepted : (answer_of q).number ≡ 0 → part_accepted (answer_of q) (input_axes q) k lent ≡ part_call q k lent
  unfolding part_call
  part-accepted z = choice-yes (eqb (answer_of q).number 0) _ _ (eq-eqb (answer_of q).number 0 z)

-- ---- of a job that is answered with number 0

module _ (q : Input) (z : (answer_of q).number ≡ 0) where
  -- the arrival, the axes, the cells of a row, and row i
  abbrev n : ℕ
  n = (answer_of q).arrival

  abbrev xs : List Axis
  xs = input_axes q

  abbrev b : ℕ
  b = 3 * length xs

  abbrev f : ℕ → List ℤ
  f i = row (map (planned_axis n) xs) i

  even : (i : ℕ) → length (f i) ≡ b
  even i = blocks-length 3 (cells i) (λ t. refl) (map (planned_axis n) xs)
      ∙ ap (λ (l : ℕ). 3 * l) (length-map xs (planned_axis n))

  -- how many rows a part has
  abbrev count : ℕ → List ℤ → ℕ
  count k lent = part_rows (length xs) n k (length lent)

  -- the rows of a part
  part-taken : (k : ℕ) (lent : List ℤ)
      → take (b * count k lent) (part_accepted (answer_of q) xs k lent).cells ≡ part Forwards xs n k (count k lent)
  part-taken k lent =
      let c = count k lent in
      let some = part Forwards xs n k c in
      ap (λ (m : ℕ). take m (some ++ drop (b * c) lent)) (sym (rows-length b f even k c))
      ∙ take-append_seam some (drop (b * c) lent)

  -- the call for all rows, with a table that has room
  module _ (whole : List ℤ) (room : cells_needed (length xs) n ≤ length whole) where
    is-accepted : ((call q whole).number ≡ 0)
        × (((call q whole).arrival ≡ n) × Demand3 Forwards xs n (call q whole).cells)
    is-accepted = job-accepted q whole z room

    all-rows : (call q whole).cells ≡ flatten (tabulate f 0 (suc n)) ++ drop (cells_needed (length xs) n) whole
    all-rows =
        (by_call q whole (call q whole) (call-verdict q whole) is-accepted.0).1.cells
        ∙ ap (λ (m : ℕ). table Forwards xs m ++ drop (cells_needed (length xs) m) whole) is-accepted.1.0

  -- c rows from row k on, of parts that come to row k + c
  record Made (k c : ℕ) (lents : List (List ℤ)) : Type 0 where
    next : next_row q k lents ≡ k + c
    inside : k + c ≤ suc n
    cells : parts_written q k lents ≡ part Forwards xs n k c

  -- the rows from row k on that the calls write
  made : (k : ℕ) (lents : List (List ℤ)) → k ≤ suc n → (c : ℕ) × Made k c lents
  unfolding blocks flatten
  made k [] h = (0, record { next = omega arith; inside = omega arith; cells = refl })
  made k (lent ∷ lents) h =
      let c = count k lent in
      let fits : k + c ≤ suc n = omega arith in
      let later = made (k + c) lents fits in
      let d = later.0 in
      let is = part-accepted q k lent z in
      let rows : (part_call q k lent).rows ≡ c = sym (ap (λ (p : PartOutcome). p.rows) is) in (
        c + d,
        record {
          next = ap (λ (i : ℕ). next_row q (k + i) lents) rows ∙ later.1.next ∙ omega arith;
          inside = let l = later.1.inside in omega arith;
          cells =
              sym (ap (λ (p : PartOutcome). take (b * p.rows) p.cells ++ parts_written q (k + p.rows) lents) is)
              ∙ ap (λ (l : List ℤ). l ++ parts_written q (k + c) lents) (part-taken k lent)
              ∙ ap (λ (l : List ℤ). part Forwards xs n k c ++ l) later.1.cells
              ∙ sym (parted b f even k c d);
        },
      )

pub parts-hold : PartsHold
parts-hold q k lent whole z room =
    subst (λ (p : PartOutcome). PartOf q (n q z) k p.rows p.cells (call q whole)) (part-accepted q k lent z)
    (record { number = a.0; arrival = a.1.0; demand3 = a.1.1; rows = go (lt-or-le (suc (n q z)) k) })
  where
    a : ((call q whole).number ≡ 0)
        × (((call q whole).arrival ≡ n q z) × Demand3 Forwards (input_axes q) (n q z) (call q whole).cells)
    a = is-accepted q z whole room

    c : ℕ
    c = count q z k lent

    none : (m : ℕ) (l l' : List ℤ) → m ≡ 0 → take m l ≡ take m l'
    none m l l' e = ap (λ (i : ℕ). take i l) e ∙ sym (ap (λ (i : ℕ). take i l') e)

    go : (suc (n q z) < k) ⊎ (k ≤ suc (n q z))
        → take (b q z * c) (part_accepted (answer_of q) (input_axes q) k lent).cells
        ≡ take (b q z * c) (drop (b q z * k) (call q whole).cells)
    go (inl h) = let e : c ≡ 0 = omega arith in none (b q z * c) _ _ (ap (λ (i : ℕ). b q z * i) e ∙ mul-zero (b q z))
    go (inr h) =
        part-taken q z k lent
        ∙ sym (taken (b q z) (f q z) (even q z) k c (suc (n q z))
        (drop (cells_needed (length (input_axes q)) (n q z)) whole) (omega arith))
        ∙ ap (λ (l : List ℤ). take (b q z * c) (drop (b q z * k) l)) (sym (all-rows q z whole room))

pub parts-make-the-table : PartsMakeTheTable
parts-make-the-table q lents whole z end long =
    (same, subst (Demand3 Forwards (input_axes q) (n q z)) (sym same) (is-accepted q z whole room).1.1)
  where
    room : cells_needed (length (input_axes q)) (n q z) ≤ length whole
    room = omega (arith, long)

    all : (c : ℕ) × Made q z 0 c lents
    all = made q z 0 lents (omega arith)

    every : all.0 ≡ suc (n q z)
    every = let e = all.1.next in omega (arith, end)

    same : parts_written q 0 lents ≡ (call q whole).cells
    same =
        all.1.cells
        ∙ ap (part Forwards (input_axes q) (n q z) 0) every
        ∙ sym (append-nil (table Forwards (input_axes q) (n q z)))
        ∙ ap (λ (l : List ℤ). table Forwards (input_axes q) (n q z) ++ l)
        (sym (drop_of_length-le whole {i = cells_needed (length (input_axes q)) (n q z)} (omega (arith, long))))
        ∙ sym (all-rows q z whole room)
