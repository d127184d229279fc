-- The lines of the text, part by part: how many bytes they have, and what a turn of the loops that
-- write them leaves. Assumes nothing.
use Prim.Native.Nat.{ℕ, suc, ◌+◌, ◌-◌, ◌*◌, ◌^◌, ◌<◌, ◌≤◌}
use native.Mathlib.Omega.{arith}
use native.Mathlib.Nat.{mul-add, mul-le-mul_left}
use mathlib.Core.Path.{◌≡◌, sym, ap, ◌∙◌, subst}
use mathlib.Core.List.{List, ◌++◌}
use mathlib.Core.Bool.{true, false}
use lib.IntN.{ℤ, pos, negsuc, nat_abs}
use lib.Signed.{lt_z}
use lib.ListN.{length, get_or, take, drop, set, length-set, length-append, length-take, length-drop}
use mir.Syntax.{w64}
use mir.Val.{SFits, to_z, of_z}
use mir.ValLaws.{to_z-of_z}
use Rattle.whole.specs.Lists.{up_to, Room, Written, WrittenWithin}
use Rattle.whole.proofs.Lists.{flatten-up_to, turn-within, written-within, written_one, written_then, room-front}
use Rattle.whole.proofs.Lists.{room-then, room-on}
use Rattle.model.specs.planning.Refusals.{last_tick}
use Rattle.text.specs.Printed.{ascii, decimal, printed_number, labelled, cell_text, cells_text, row_line, printed_row}
use Rattle.text.specs.Printed.{arrival_line, refusal_line}
use Rattle.text.specs.Enough.{refusal_bytes, cells_bytes, row_bytes}
use Rattle.text.proofs.numbers.Laws.{decimal-most, signed_below, signed-from}

-- ---- the arrival line and a refusal

tick-most : (tick : ℕ) → tick ≤ last_tick → length (decimal tick) ≤ 4
tick-most tick q = decimal-most 3 tick (omega arith)

pub arrival-most : (n : ℕ) → n ≤ last_tick → length (arrival_line n) ≤ 13
unfolding arrival_line labelled
arrival-most n h = simp length-append (omega (arith, tick-most n h))

pub refusal-most : (number place mask arrival : ℕ) → number < 2 ^ 32 → place < 2 ^ 64 → mask < 2 ^ 32 → arrival < 2 ^ 32
    → length (refusal_line number place mask arrival) ≤ refusal_bytes
unfolding refusal_line labelled
refusal-most number place mask arrival h q m a =
    let d₁ = decimal-most 9 number (omega arith) in
    let d₂ = decimal-most 19 place (omega arith) in
    let d₃ = decimal-most 9 mask (omega arith) in
    let d₄ = decimal-most 9 arrival (omega arith) in
    simp length-append (omega arith)

-- writing a refusal, part by part
module _ (number place mask arrival : ℕ) {t : List ℕ} {i : ℕ}
    (h : Room t i (refusal_line number place mask arrival)) where
  abbrev one : List ℕ
  one = labelled (ascii "refused ") number

  abbrev two : List ℕ
  two = one ++ labelled (ascii " place ") place

  abbrev three : List ℕ
  three = two ++ labelled (ascii " axes ") mask

  abbrev four : List ℕ
  four = three ++ labelled (ascii " arrival ") arrival

  room-four : Room t i four
  unfolding refusal_line
  room-four = room-front four (ascii "\n") h

  room-three : Room t i three
  room-three = room-front three _ room-four

  room-two : Room t i two
  room-two = room-front two _ room-three

  pub number-room : Room t i one
  number-room = room-front one _ room-two

  module _ {u₁ : List ℕ} {j₁ : ℕ} (w₁ : Written t i one u₁ j₁) where
    pub place-room : Room u₁ j₁ (labelled (ascii " place ") place)
    place-room = room-then room-two w₁

    module _ {u₂ : List ℕ} {j₂ : ℕ} (w₂ : Written u₁ j₁ (labelled (ascii " place ") place) u₂ j₂) where
      done-two : Written t i two u₂ j₂
      done-two = written_then room-two w₁ w₂

      pub mask-room : Room u₂ j₂ (labelled (ascii " axes ") mask)
      mask-room = room-then room-three done-two

      module _ {u₃ : List ℕ} {j₃ : ℕ} (w₃ : Written u₂ j₂ (labelled (ascii " axes ") mask) u₃ j₃) where
        done-three : Written t i three u₃ j₃
        done-three = written_then room-three done-two w₃

        pub arrival-room : Room u₃ j₃ (labelled (ascii " arrival ") arrival)
        arrival-room = room-then room-four done-three

        module _ {u₄ : List ℕ} {j₄ : ℕ} (w₄ : Written u₃ j₃ (labelled (ascii " arrival ") arrival) u₄ j₄) where
          done-four : Written t i four u₄ j₄
          done-four = written_then room-four done-three w₄

          pub feed-index : j₄ < length u₄
          unfolding refusal_line
          feed-index = omega (arith, (room-then {m = ascii "\n"} h done-four).room)

          pub refusal-done : Written t i (refusal_line number place mask arrival) (set u₄ j₄ 10) (j₄ + 1)
          unfolding refusal_line
          refusal-done = written_then h done-four (written_one feed-index)

-- ---- a cell

signed-most : (z : ℤ) → SFits w64 z → length (printed_number z) ≤ 20
unfolding printed_number
signed-most (pos n) f = omega (arith, decimal-most 18 n (omega (arith, f.sfits)))
signed-most (negsuc n) f = omega (arith, decimal-most 18 (suc n) (omega (arith, f.sfits)))

cell-most : (z : ℤ) → SFits w64 z → length (cell_text z) ≤ 21
unfolding cell_text
cell-most z f = omega (arith, signed-most z f)

-- writing it, by its size n: a space, a sign where it is negative, and its digits. The room does
-- not depend on what was stored.
module _ (x : ℤ) {n i : ℕ} {t : List ℕ} (f : SFits w64 x) (e : n ≡ nat_abs (to_z w64 (of_z w64 x)))
    (h : Room t i (cell_text x)) where
  pub space-index : i < length t
  unfolding cell_text
  space-index = omega (arith, h.room)

  module _ (b : lt_z (to_z w64 (of_z w64 x)) (pos 0) ≡ true) where
    below : cell_text x ≡ ascii " -" ++ decimal n
    unfolding cell_text labelled
    below = ap (λ (l : List ℕ). ascii " " ++ l) (signed_below x f b e)

    below_all : Room t i (ascii " -" ++ decimal n)
    below_all = subst (Room t i) below h

    pub sign-index : (p : ℕ) → i + 1 < length (set t i p)
    sign-index p = omega (arith, below_all.room, length-set t i p)

    pub below-room : (p q : ℕ) → Room (set (set t i p) (i + 1) q) (i + 2) (decimal n)
    below-room p q =
        record { room = omega (arith, below_all.room, length-set t i p, length-set (set t i p) (i + 1) q) }

    pub below-done : {v : List ℕ} {r : ℕ} → Written (set (set t i 32) (i + 1) 45) (i + 2) (decimal n) v r
        → Written t i (cell_text x) v r
    below-done {v} {r} y = subst (λ (l : List ℕ). Written t i l v r) (sym below) (written_then below_all both y)
      where
        sign : Written (set t i 32) (i + 1) (ascii "-") (set (set t i 32) (i + 1) 45) (i + 2)
        sign = record { list = (written_one (sign-index 32)).list; next = omega arith }

        both : Written t i (ascii " -") (set (set t i 32) (i + 1) 45) (i + 2)
        both = written_then {l = ascii " "} {m = ascii "-"} (room-front (ascii " -") (decimal n) below_all)
            (written_one space-index) sign

  module _ (b : lt_z (to_z w64 (of_z w64 x)) (pos 0) ≡ false) where
    natural : cell_text x ≡ ascii " " ++ decimal n
    unfolding cell_text
    natural = ap (λ (l : List ℕ). ascii " " ++ l) (signed-from x f b e)

    natural-all : Room t i (ascii " " ++ decimal n)
    natural-all = subst (Room t i) natural h

    pub natural-room : (p : ℕ) → Room (set t i p) (i + 1) (decimal n)
    natural-room p = record { room = omega (arith, natural-all.room, length-set t i p) }

    pub natural-done : {v : List ℕ} {r : ℕ} → Written (set t i 32) (i + 1) (decimal n) v r
        → Written t i (cell_text x) v r
    natural-done {v} {r} y =
        subst (λ (l : List ℕ). Written t i l v r) (sym natural) (written_then natural-all (written_one space-index) y)

-- ---- the cells of a row

abbrev pub cell_of : List ℤ → ℕ → ℤ
cell_of cells k = get_or cells k (pos 0)

abbrev pub cell_at : List ℤ → ℕ → List ℕ
cell_at cells k = cell_text (cell_of cells k)

-- a turn of the loop, which passes the cell on as its bits
module _ (cells : List ℤ) {t u : List ℕ} {i j k : ℕ}
    (h : i + cells_bytes (length cells) ≤ length t) (q : k < length cells)
    (w : WrittenWithin (21 * k) t i (up_to (cell_at cells) k) u j) (f : SFits w64 (cell_of cells k)) where
  passed : cell_text (to_z w64 (of_z w64 (cell_of cells k))) ≡ cell_at cells k
  passed = ap (λ (z : ℤ). cell_text z) (to_z-of_z w64 (cell_of cells k) f)

  pub cell_room : length u ≡ length t → Room u j (cell_text (to_z w64 (of_z w64 (cell_of cells k))))
  cell_room e =
      subst (Room u j) (sym passed)
      (record {
        room = omega (arith, turn-within (cell_at cells) 21 (length cells) h q w e, cell-most (cell_of cells k) f);
      })

  pub cell-turn : {v : List ℕ} {r : ℕ} → Written u j (cell_text (to_z w64 (of_z w64 (cell_of cells k)))) v r
      → WrittenWithin (21 * (k + 1)) t i (up_to (cell_at cells) (k + 1)) v r
  cell-turn {v} {r} x =
      written-within (cell_at cells) 21 (length cells) h q w
      (record { written = subst (λ (l : List ℕ). Written u j l v r) passed x; most = cell-most (cell_of cells k) f })

pub cells-done : (cells : List ℤ) {t u : List ℕ} {i j : ℕ} (k : ℕ) → k ≡ length cells
    → WrittenWithin (21 * k) t i (up_to (cell_at cells) k) u j
    → WrittenWithin (cells_bytes (length cells)) t i (cells_text cells) u j
cells-done cells {t} {u} {i} {j} k e w =
    subst (λ (l : List ℕ). WrittenWithin (cells_bytes (length cells)) t i l u j)
    (sym (flatten-up_to cell_text (pos 0) cells))
    (subst (λ (n : ℕ). WrittenWithin (21 * n) t i (up_to (cell_at cells) n) u j) e w)

-- ---- a row

module _ (tick : ℕ) (cells : List ℤ) {t : List ℕ} {i : ℕ}
    (h : i + row_bytes (length cells) ≤ length t) (q : tick ≤ last_tick) where
  pub tick-room : Room t i (decimal tick)
  tick-room = record { room = omega (arith, tick-most tick q) }

  module _ {u : List ℕ} {j : ℕ} (w : Written t i (decimal tick) u j) where
    pub cells-room : length u ≡ length t → j + cells_bytes (length cells) ≤ length u
    cells-room e = omega (arith, tick-most tick q, w.next)

    module _ {v : List ℕ} {k : ℕ} (x : WrittenWithin (cells_bytes (length cells)) u j (cells_text cells) v k) where
      ends : k + 1 ≤ length t
      ends = omega (arith, tick-most tick q, w.next, x.most, x.written.next)

      pub end-index : length v ≡ length t → k < length v
      end-index e = omega (arith, ends)

      pub row_done : length v ≡ length t
          → WrittenWithin (row_bytes (length cells)) t i (row_line tick cells) (set v k 10) (k + 1)
      unfolding row_line
      row_done e =
          record {
            written = written_then (room-on (ascii "\n") ends both) both (written_one (end-index e));
            most = row-most;
          }
        where
          both : Written t i (decimal tick ++ cells_text cells) v k
          both = written_then (room-on (cells_text cells) (omega (arith, ends, x.written.next)) w) w x.written

          row-most : length (decimal tick ++ cells_text cells ++ ascii "\n") ≤ row_bytes (length cells)
          row-most = simp length-append (omega (arith, tick-most tick q, x.most))

-- ---- the rows

-- the cells of row k, as a part of the table
abbrev pub row_part : ℕ → ℕ → List ℤ → List ℤ
row_part w first cells = take (first + w - first) (drop first cells)

part_length : (w first : ℕ) (cells : List ℤ) → first + w ≤ length cells → length (row_part w first cells) ≡ w
part_length w first cells h = simp (length-take, length-drop) (omega arith)

pub part-ends : (w first k n l : ℕ) → first ≡ w * k → k ≤ n → w * suc n ≤ l → first + w ≤ l
part-ends w first k n l e q h = omega (arith, mul-add w k 1, mul-le-mul_left {m = k + 1} {n = suc n} w (omega arith))

pub part-next : (w first k : ℕ) → first ≡ w * k → first + w ≡ w * (k + 1)
part-next w first k e = omega (arith, mul-add w k 1)

row_is : (w first k : ℕ) (cells : List ℤ) → first ≡ w * k → row_line k (row_part w first cells) ≡ printed_row w cells k
row_is w first k cells e =
    ap (λ (n : ℕ). row_line k (take n (drop first cells))) (only w first)
    ∙ ap (λ (n : ℕ). row_line k (take w (drop n cells))) e
  where
    only : (w first : ℕ) → first + w - first ≡ w
    only w first = omega arith

module _ (w n : ℕ) (cells : List ℤ) {t u : List ℕ} {i j k first : ℕ} (h : i + row_bytes w * suc n ≤ length t)
    (q : k ≤ n)
    (x : WrittenWithin (row_bytes w * k) t i (up_to (printed_row w cells) k) u j)
    (m : w * suc n ≤ length cells) (e : first ≡ w * k) where
  part-is : length (row_part w first cells) ≡ w
  part-is = part_length w first cells (part-ends w first k n (length cells) e q m)

  pub row_room : length u ≡ length t → j + row_bytes (length (row_part w first cells)) ≤ length u
  row_room l = rw part-is (turn-within (printed_row w cells) (row_bytes w) (suc n) h (omega arith) x l)

  pub row-turn : {v : List ℕ} {r : ℕ}
      → WrittenWithin (row_bytes (length (row_part w first cells))) u j (row_line k (row_part w first cells)) v r
      → WrittenWithin (row_bytes w * (k + 1)) t i (up_to (printed_row w cells) (k + 1)) v r
  row-turn {v} {r} y =
      written-within (printed_row w cells) (row_bytes w) (suc n) h (omega arith) x
      (subst (λ (l : List ℕ). WrittenWithin (row_bytes w) u j l v r) (row_is w first k cells e)
      (subst (λ (z : ℕ). WrittenWithin (row_bytes z) u j (row_line k (row_part w first cells)) v r) part-is y))
