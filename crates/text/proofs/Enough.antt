-- Buffers that are long enough for a text: the tests of the code, and what
-- follows from them. Assumes nothing.
use Prim.Native.Nat.{ℕ, suc, ◌+◌, ◌*◌, ◌<◌, ◌≤◌}
use native.Mathlib.Omega.{arith}
use native.Mathlib.Nat.{mul-le-mul}
use native.Mathlib.Numerals.{add-one}
use mathlib.Core.Path.{◌≡◌, refl, sym, ap, subst}
use mathlib.Core.Bool.{Bool, true, false, ◌&&◌}
use mathlib.Core.List.{List, ◌++◌}
use lib.Dec.{eqb, ltb, leb, ltb→lt, leb→le}
use lib.IntN.{ℤ}
use lib.ListN.{length}
use borrow.Author.Tests.{le-leb, lt-leb, eq-eqb, ne_eqb, eqb-true}
use Rattle.whole.specs.Lists.{Room, Written, WrittenWithin, WrittenAtStart}
use Rattle.whole.proofs.Lists.{written-nil, written_then, room-on}
use Rattle.whole.proofs.Tests.{true-T, both, and_yes, and_no, leb_yes, leb_no, ltb_yes}
use Rattle.model.specs.planning.Job.{set_bits}
use Rattle.model.specs.planning.Refusals.{last_tick}
use Rattle.model.specs.planning.Outcome.{Outcome, cells_needed}
use Rattle.model.proofs.SetAxes.{six-bits}
use Rattle.text.specs.Printed.{arrival_line, refusal_line, row_width, row_lines, table_lines, printed}
use Rattle.text.specs.Enough.{refusal_bytes, row_bytes, table_bytes, table_fits, only_if, table_within, text_within}
use Rattle.text.proofs.lines.Laws.{arrival-most}

-- ---- the axes of a mask

-- a count of the axes of a mask
pub count_most : (mask c : ℕ) → c ≡ length (set_bits mask) → c ≤ 6
count_most mask c e = omega (arith, six-bits mask)

product : {a b : ℕ} (x y : ℕ) → a ≤ x → b ≤ y → a * b ≤ x * y
product x y h q = mul-le-mul h q

-- the products of the test stay small
pub cells-small : (c n : ℕ) → c ≤ 6 → n ≤ 4096 → 3 * c * (n + 1) ≤ 18 * 4097
cells-small c n h q = product 18 4097 (omega arith) (omega arith)

pub bytes_small : (c n : ℕ) → c ≤ 6 → n ≤ 4096 → (5 + 21 * (3 * c)) * (n + 1) ≤ 383 * 4097
bytes_small c n h q = product 383 4097 (omega arith) (omega arith)

-- ---- the test for a table

pub record TableFits (m n cells bytes : ℕ) : Type 0 where
  pub mask : m < 64
  pub last : n ≤ last_tick
  pub rows : cells_needed (length (set_bits m)) n ≤ cells
  pub text : table_bytes (row_width m) n ≤ bytes

-- the four tests, two by two
module _ (mask n cells bytes : ℕ) where
  abbrev axes_test : Bool
  axes_test = ltb mask 64 && leb n last_tick

  abbrev room_test : Bool
  room_test = leb (cells_needed (length (set_bits mask)) n) cells && leb (table_bytes (row_width mask) n) bytes

  pub fits-parts : table_fits mask n cells bytes ≡ true → TableFits mask n cells bytes
  fits-parts e =
      let h = both axes_test room_test (true-T e) in
      let f = both (ltb mask 64) (leb n last_tick) h.0 in
      let g = both (leb (cells_needed (length (set_bits mask)) n) cells)
      (leb (table_bytes (row_width mask) n) bytes) h.1 in
      record {
        mask = ltb→lt mask 64 f.0;
        last = leb→le n last_tick f.1;
        rows = leb→le _ cells g.0;
        text = leb→le _ bytes g.1;
      }

  axes-pass : mask < 64 → n ≤ last_tick → axes_test ≡ true
  axes-pass h q = sym (and_yes (ltb mask 64) (leb n last_tick) (ltb_yes h) (sym (leb_yes q)))

  pub parts-fit : TableFits mask n cells bytes → table_fits mask n cells bytes ≡ true
  parts-fit f =
      sym
      (and_yes axes_test room_test (axes-pass f.mask f.last)
      (and_yes _ (leb (table_bytes (row_width mask) n) bytes) (leb_yes f.rows) (sym (leb_yes f.text))))

  -- the tests of the code, by its count c of the axes
  module _ (c : ℕ) (e : c ≡ length (set_bits mask)) (h : mask < 64) (q : n ≤ last_tick) where
    needed : 3 * c * (n + 1) ≡ cells_needed (length (set_bits mask)) n
    needed = λ i. 3 * e i * add-one n i

    pub rows_short : cells < 3 * c * (n + 1) → false ≡ table_fits mask n cells bytes
    rows_short l =
        and_yes axes_test room_test (axes-pass h q)
        (and_no _ (leb (table_bytes (row_width mask) n) bytes) (leb_no (subst (λ (k : ℕ). cells < k) needed l)))

    pub rows_fit : 3 * c * (n + 1) ≤ cells
        → leb (13 + (5 + 21 * (3 * c)) * (n + 1)) bytes ≡ table_fits mask n cells bytes
    rows_fit l =
        and_yes axes_test room_test (axes-pass h q)
        (and_yes _ (leb (table_bytes (row_width mask) n) bytes) (leb_yes (subst (λ (k : ℕ). k ≤ cells) needed l))
        (λ i. leb (13 + (5 + 21 * (3 * e i)) * add-one n i) bytes))

-- ---- nothing, or the text

pub put-nothing : {t : List ℕ} (b : Bool) (l : List ℕ) → b ≡ false → WrittenAtStart t (only_if b l) t 0
put-nothing true l e = absurd (mathlib.Core.Bool.true≢false e)
put-nothing false l e = record { written = written-nil (omega arith); most = omega arith }

pub put_all : {t u l : List ℕ} {r : ℕ} (b : Bool) → b ≡ true → Room t 0 l → Written t 0 l u r
    → WrittenAtStart t (only_if b l) u r
put_all true e h w = record { written = w; most = omega (arith, h.room) }
put_all false e h w = absurd (mathlib.Core.Bool.false≢true e)

-- ---- the text of a table

module _ (mask n c : ℕ) (cells : List ℤ) (t : List ℕ) (e : c ≡ length (set_bits mask))
    (b : table_fits mask n (length cells) (length t) ≡ true) where
  parts : TableFits mask n (length cells) (length t)
  parts = fits-parts mask n (length cells) (length t) b

  bytes : 13 + row_bytes (3 * c) * suc n ≤ length t
  bytes = subst (λ (k : ℕ). 13 + row_bytes (3 * k) * suc n ≤ length t) (sym e) parts.text

  pub arrival-room : Room t 0 (arrival_line n)
  arrival-room = record { room = omega (arith, bytes, arrival-most n parts.last) }

  module _ {u : List ℕ} {j : ℕ} (w : Written t 0 (arrival_line n) u j) where
    next-most : j ≤ 13
    next-most = omega (arith, w.next, arrival-most n parts.last)

    pub rows-room : length u ≡ length t
        → (n ≤ last_tick) × ((3 * c * suc n ≤ length cells) × (j + row_bytes (3 * c) * suc n ≤ length u))
    rows-room l = (
      parts.last,
      (subst (λ (k : ℕ). 3 * k * suc n ≤ length cells) (sym e) parts.rows, omega (arith, bytes, next-most)),
    )

    pub table_done : {v : List ℕ} {r : ℕ}
        → WrittenWithin (row_bytes (3 * c) * suc n) u j (row_lines (3 * c) cells n) v r
        → WrittenAtStart t (table_within mask n cells (length t)) v r
    table_done {v} {r} x =
        put_all _ b (subst (λ (k : ℕ). Room t 0 (text k)) e space)
        (subst (λ (k : ℕ). Written t 0 (text k) v r) e (written_then space w x.written))
      where
        text : ℕ → List ℕ
        text k = arrival_line n ++ row_lines (3 * k) cells n

        space : Room t 0 (text c)
        space = room-on (row_lines (3 * c) cells n) (omega (arith, bytes, next-most, x.most)) w

-- ---- the text of an outcome

abbrev line_of : Outcome → List ℕ
line_of o = refusal_line o.number o.place o.mask o.arrival

abbrev FitsInto : Outcome → ℕ → Type 0
FitsInto o n = TableFits o.mask o.arrival (length o.cells) n

module _ (o : Outcome) (n : ℕ) where
  fits : Bool → Bool
  fits b = elim b [ true ↦ table_fits o.mask o.arrival (length o.cells) n | false ↦ leb refusal_bytes n ]

  text : Bool → List ℕ
  text b = elim b [ true ↦ table_lines o.mask o.arrival o.cells | false ↦ line_of o ]

  text-accepted : o.number ≡ 0 → text_within o n ≡ table_within o.mask o.arrival o.cells n
  unfolding text_within printed fits text
  text-accepted e = ap (λ (b : Bool). only_if (fits b) (text b)) (eq-eqb o.number 0 e)

  text-refused : (o.number ≡ 0 → ⊥) → text_within o n ≡ only_if (leb refusal_bytes n) (line_of o)
  unfolding text_within printed fits text
  text-refused e = ap (λ (b : Bool). only_if (fits b) (text b)) (ne_eqb o.number 0 e)

  -- a buffer that is long enough in every case gets the whole text
  fits_all : (b : Bool) → eqb o.number 0 ≡ b → refusal_bytes ≤ n → (o.number ≡ 0 → FitsInto o n) → fits b ≡ true
  unfolding fits
  fits_all true e h f = parts-fit o.mask o.arrival (length o.cells) n (f (eqb-true o.number 0 e))
  fits_all false e h f = le-leb refusal_bytes n h

  pub whole-text : refusal_bytes ≤ n → (o.number ≡ 0 → FitsInto o n) → text_within o n ≡ printed o
  unfolding text_within fits
  whole-text h f = ap (λ (b : Bool). only_if b (printed o)) (fits_all (eqb o.number 0) refl h f)

module _ (o : Outcome) {t : List ℕ} where
  pub put-accepted : {u : List ℕ} {r : ℕ} → o.number ≡ 0
      → WrittenAtStart t (table_within o.mask o.arrival o.cells (length t)) u r
      → WrittenAtStart t (text_within o (length t)) u r
  put-accepted {u} {r} e w = subst (λ (l : List ℕ). WrittenAtStart t l u r) (sym (text-accepted o (length t) e)) w

  pub put-short : (o.number ≡ 0 → ⊥) → length t < refusal_bytes → WrittenAtStart t (text_within o (length t)) t 0
  put-short e h =
      subst (λ (l : List ℕ). WrittenAtStart t l t 0) (sym (text-refused o (length t) e))
      (put-nothing _ _ (lt-leb refusal_bytes (length t) h))

  pub put_refused : {u : List ℕ} {r : ℕ} → (o.number ≡ 0 → ⊥) → refusal_bytes ≤ length t
      → WrittenWithin refusal_bytes t 0 (line_of o) u r
      → WrittenAtStart t (text_within o (length t)) u r
  put_refused {u} {r} e h w =
      subst (λ (l : List ℕ). WrittenAtStart t l u r) (sym (text-refused o (length t) e))
      (put_all _ (le-leb refusal_bytes (length t) h) (record { room = omega (arith, w.most) }) w.written)
