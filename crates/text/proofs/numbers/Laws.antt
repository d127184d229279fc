-- A number in decimal: its last digit, its sign, and how many bytes it takes. Assumes nothing.
use Prim.Native.Nat.{ℕ, zero, suc, ◌+◌, ◌/◌, ◌%◌, ◌^◌, ◌<◌, ◌≤◌}
use native.Mathlib.Omega.{arith}
use native.Mathlib.Nat.{pow-suc, div-lt_iff_lt-mul}
use native.Mathlib.Decide.{dec_le}
use mathlib.Core.Path.{◌≡◌, refl, sym, ap, ◌∙◌, subst}
use mathlib.Core.Bool.{Bool, true, false}
use mathlib.Core.List.{List, ◌++◌}
use lib.Dec.{ltb}
use lib.IntN.{ℤ, pos, negsuc, nat_abs}
use lib.Signed.{lt_z}
use lib.ListN.{length, set, length-append}
use borrow.Author.Tests.{lt-ltb, le-ltb, ltb-true, ltb-false}
use mir.Syntax.{w64}
use mir.Val.{SFits, to_z, of_z}
use mir.ValLaws.{to_z-of_z}
use Rattle.whole.specs.Lists.{Room, Written}
use Rattle.whole.proofs.Lists.{written_one, written_then, room-front, room-then}
use Rattle.text.specs.Printed.{ascii, digit, decimal_digits, decimal, printed_number, labelled}

by_size : ℕ → ℕ → Bool → List ℕ
by_size k n b = elim b [ true ↦ digit n | false ↦ decimal_digits k (n / 10) ++ digit (n % 10) ]

-- what ends the recursion does not matter while it is above the number
fuel-free : (k m n : ℕ) → n < k → n < m → decimal_digits k n ≡ decimal_digits m n
unfolding by_size
fuel-free zero m n h q = absurd (omega arith)
fuel-free (suc k) zero n h q = absurd (omega arith)
fuel-free (suc k) (suc m) n h q = go (ltb n 10) refl (λ t. fuel-free k m (n / 10) (omega arith) (omega arith))
  where
    go : (b : Bool) → ltb n 10 ≡ b → (10 ≤ n → decimal_digits k (n / 10) ≡ decimal_digits m (n / 10))
        → by_size k n b ≡ by_size m n b
    go true e f = refl
    go false e f = ap (λ (l : List ℕ). l ++ digit (n % 10)) (f (ltb-false n 10 e))

decimal_digit : (n : ℕ) → n < 10 → decimal n ≡ digit n
unfolding decimal by_size
decimal_digit n h = ap (by_size n n) (lt-ltb n 10 h)

decimal-more : (n : ℕ) → 10 ≤ n → decimal n ≡ decimal (n / 10) ++ digit (n % 10)
unfolding decimal by_size
decimal-more n h =
    ap (by_size n n) (le-ltb n 10 h)
    ∙ ap (λ (l : List ℕ). l ++ digit (n % 10)) (fuel-free n (suc (n / 10)) (n / 10) (omega arith) (omega arith))

-- a number below 10 ^ k has at most k digits
pub decimal-most : (k n : ℕ) → n < 10 ^ suc k → length (decimal n) ≤ suc k
decimal-most zero n h = omega (arith, ap length (decimal_digit n (omega arith)))
decimal-most (suc k) n h = go (dec_le 10 n) (decimal-most k (n / 10) shorter)
  where
    shorter : n / 10 < 10 ^ suc k
    shorter = (div-lt_iff_lt-mul {k = 10} (omega arith)).1 (subst (λ (m : ℕ). n < m) (pow-suc 10 (suc k)) h)

    go : Dec (10 ≤ n) → length (decimal (n / 10)) ≤ suc k → length (decimal n) ≤ suc (suc k)
    go (no t) i = omega (arith, ap length (decimal_digit n (omega arith)))
    go (yes t) i = omega (arith, ap length (decimal-more n t), length-append (decimal (n / 10)) (digit (n % 10)))

signed-negative : (z : ℤ) → lt_z z (pos 0) ≡ true → printed_number z ≡ labelled (ascii "-") (nat_abs z)
unfolding printed_number labelled
signed-negative (pos n) e = absurd (let h = ltb-true n 0 e in omega arith)
signed-negative (negsuc n) e = refl

signed-natural : (z : ℤ) → lt_z z (pos 0) ≡ false → printed_number z ≡ decimal (nat_abs z)
unfolding printed_number
signed-natural (pos n) e = refl
signed-natural (negsuc n) e = absurd (mathlib.Core.Bool.true≢false e)

-- its text by its size n
pub signed_below : (x : ℤ) {n : ℕ} → SFits w64 x → lt_z (to_z w64 (of_z w64 x)) (pos 0) ≡ true
    → n ≡ nat_abs (to_z w64 (of_z w64 x))
    → printed_number x ≡ labelled (ascii "-") n
signed_below x {n} f t e =
    let y : to_z w64 (of_z w64 x) ≡ x = to_z-of_z w64 x f in
    signed-negative x (ap (λ (z : ℤ). lt_z z (pos 0)) (sym y) ∙ t)
    ∙ ap (labelled (ascii "-")) (sym (e ∙ ap (λ (z : ℤ). nat_abs z) y))

pub signed-from : (x : ℤ) {n : ℕ} → SFits w64 x → lt_z (to_z w64 (of_z w64 x)) (pos 0) ≡ false
    → n ≡ nat_abs (to_z w64 (of_z w64 x))
    → printed_number x ≡ decimal n
signed-from x {n} f t e =
    let y : to_z w64 (of_z w64 x) ≡ x = to_z-of_z w64 x f in
    signed-natural x (ap (λ (z : ℤ). lt_z z (pos 0)) (sym y) ∙ t) ∙ ap decimal (sym (e ∙ ap (λ (z : ℤ). nat_abs z) y))

-- ---- writing a number

module _ {t : List ℕ} {i x : ℕ} (h : Room t i (decimal x)) where
  pub digit-index : x < 10 → i < length t
  digit-index q = omega (arith, h.room, ap length (decimal_digit x q))

  pub written-digit : x < 10 → Written t i (decimal x) (set t i (48 + x)) (i + 1)
  written-digit q =
      subst (λ (l : List ℕ). Written t i l (set t i (48 + x)) (i + 1)) (sym (decimal_digit x q))
      (written_one (digit-index q))

  room-last : 10 ≤ x → Room t i (decimal (x / 10) ++ digit (x % 10))
  room-last q = subst (Room t i) (decimal-more x q) h

  pub room-shorter : 10 ≤ x → Room t i (decimal (x / 10))
  room-shorter q = room-front (decimal (x / 10)) (digit (x % 10)) (room-last q)

  pub room-digit : {u : List ℕ} {j : ℕ} → 10 ≤ x → Written t i (decimal (x / 10)) u j → j < length u
  room-digit q w = omega (arith, (room-then {m = digit (x % 10)} (room-last q) w).room)

  pub written_last : {u : List ℕ} {j : ℕ} → 10 ≤ x → Written t i (decimal (x / 10)) u j
      → Written t i (decimal x) (set u j (48 + x % 10)) (j + 1)
  written_last {u} {j} q w =
      subst (λ (l : List ℕ). Written t i l (set u j (48 + x % 10)) (j + 1)) (sym (decimal-more x q))
      (written_then (room-last q) w (written_one (room-digit q w)))

-- ---- writing a label, and a number after it

module _ (label : List ℕ) (x : ℕ) {t : List ℕ} {i : ℕ} (h : Room t i (labelled label x)) where
  label-room : Room t i label
  unfolding labelled
  label-room = room-front label (decimal x) h

  pub label-fits : i + length label ≤ length t
  label-fits = label-room.room

  module _ {u : List ℕ} (w : Written t i label u (i + length label)) where
    pub number-room : Room u (i + length label) (decimal x)
    unfolding labelled
    number-room = room-then h w

    pub number-done : {v : List ℕ} {r : ℕ} → Written u (i + length label) (decimal x) v r
        → Written t i (labelled label x) v r
    unfolding labelled
    number-done y = written_then h w y
