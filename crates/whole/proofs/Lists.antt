-- The laws of lists written over from an index on. Assumes nothing.
use mathlib.Core.Path.{◌≡◌, refl, sym, ap, ap₂, ◌∙◌, subst}
use mathlib.Core.List.{List, [], ◌∷◌, ◌++◌, map, flatten, append_assoc, append-nil}
use Prim.Native.Nat.{ℕ, zero, suc, ◌+◌, ◌*◌, ◌≤◌, ◌<◌}
use native.Mathlib.Omega.{arith}
use native.Mathlib.Nat.{zero-add, mul-add, mul-le-mul_left}
use native.Mathlib.Numerals.{add-one}
use lib.ListN.{length, get_or, set, take, drop, length-append, length-take, length-drop}
use lib.Seq.{take-suc, take_at, drop-append-add, drop-drop, sets-eq, length-take-le}
use Rattle.whole.specs.Lists.{over, up_to, Room, Written, WrittenWithin, WrittenAtStart}

module _ {A : Type 0} where
  -- ---- one list over another

  head-length : (t : List A) (i : ℕ) (l : List A) → i ≤ length t → length (take i t ++ l) ≡ i + length l
  head-length t i l h = length-append (take i t) l ∙ ap (λ (n : ℕ). n + length l) (length-take-le i t h)

  pub over-length : (t : List A) (i : ℕ) (l : List A) → i + length l ≤ length t → length (over t i l) ≡ length t
  unfolding over
  over-length t i l h = simp (length-append, length-take, length-drop) (omega arith)

  pub over-nil : (t : List A) (i : ℕ) → i ≤ length t → over t i [] ≡ t
  unfolding over
  over-nil t i h = sym (sets-eq [] t i (omega arith))

  -- one entry: a store
  pub over-one : (t : List A) (i : ℕ) (x : A) → i < length t → over t i (x ∷ []) ≡ set t i x
  unfolding over
  over-one t i x h = sym (sets-eq (x ∷ []) t i (omega arith))

  -- three entries: three stores
  pub over-three : (t : List A) (i : ℕ) (x y z : A) → i + 3 ≤ length t
      → over t i (x ∷ y ∷ z ∷ []) ≡ set (set (set t i x) (i + 1) y) (i + 2) z
  unfolding over
  over-three t i x y z h =
      sym (ap₂ (λ (j k : ℕ). set (set (set t i x) j y) k z) (add-one i) (add-two i) ∙ sets-eq (x ∷ y ∷ z ∷ []) t i h)
    where
      add-two : (n : ℕ) → n + 2 ≡ suc (suc n)
      add-two n = omega arith

  -- from the front
  pub over-front : (t l : List A) → over t 0 l ≡ l ++ drop (length l) t
  unfolding over
  over-front t l = ap (λ (n : ℕ). l ++ drop n t) (zero-add (length l))

  pub take-over : (t l : List A) → take (length l) (over t 0 l) ≡ l
  take-over t l = ap (take (length l)) (over-front t l) ∙ take_at l (drop (length l) t) (length l) refl

  -- one list after another
  pub over-over : (t : List A) (i : ℕ) (l m : List A) → i + length (l ++ m) ≤ length t
      → over (over t i l) (i + length l) m ≡ over t i (l ++ m)
  unfolding over
  over-over t i l m h =
      ap₂ (λ (x y : List A). x ++ m ++ y) front back
      ∙ ap (λ (x : List A). x ++ drop (i + length (l ++ m)) t) (append_assoc (take i t) l m)
    where
      more : i + length l + length m ≡ i + length (l ++ m)
      more = omega (arith, length-append l m)

      long : length (take i t ++ l) ≡ i + length l
      long = head-length t i l (omega (arith, more))

      front : take (i + length l) (take i t ++ l ++ drop (i + length l) t) ≡ take i t ++ l
      front = take_at (take i t ++ l) (drop (i + length l) t) (i + length l) long

      back : drop (i + length l + length m) (take i t ++ l ++ drop (i + length l) t) ≡ drop (i + length (l ++ m)) t
      back =
          ap (λ (n : ℕ). drop (n + length m) (take i t ++ l ++ drop (i + length l) t)) (sym long)
          ∙ drop-append-add (take i t ++ l) (drop (i + length l) t) (length m)
          ∙ drop-drop (length m) (i + length l) t
          ∙ ap (λ (n : ℕ). drop n t) more

  -- ---- parts one after another

  pub up_to-more : (f : ℕ → List A) (n : ℕ) → up_to f (n + 1) ≡ up_to f n ++ f n
  unfolding up_to
  up_to-more f n = ap (up_to f) (add-one n)

  pub up_to-grows : (f : ℕ → List A) (n : ℕ) → length (up_to f (n + 1)) ≡ length (up_to f n) + length (f n)
  up_to-grows f n = ap length (up_to-more f n) ∙ length-append (up_to f n) (f n)

  -- the first part by itself
  up_to-first : (f : ℕ → List A) (n : ℕ) → up_to f (suc n) ≡ f 0 ++ up_to (λ k. f (suc k)) n
  unfolding up_to
  up_to-first f zero = sym (append-nil (f 0))
  up_to-first f (suc n) =
      ap (λ (l : List A). l ++ f (suc n)) (up_to-first f n) ∙ append_assoc (f 0) (up_to (λ k. f (suc k)) n) (f (suc n))

  -- ---- writing on

  pub written-nil : {t : List A} {i : ℕ} → i ≤ length t → Written t i [] t i
  written-nil {t} {i} h = record { list = sym (over-nil t i h); next = omega arith }

  pub written_one : {t : List A} {i : ℕ} {x : A} → i < length t → Written t i (x ∷ []) (set t i x) (i + 1)
  written_one {t} {i} {x} h = record { list = sym (over-one t i x h); next = refl }

  pub written-length : {t u : List A} {i r : ℕ} {l : List A} → Room t i l → Written t i l u r → length u ≡ length t
  written-length {t} {u} {i} {r} {l} h w = ap length w.list ∙ over-length t i l h.room

  pub written_then : {t u v : List A} {i j r : ℕ} {l m : List A} → Room t i (l ++ m)
      → Written t i l u j → Written u j m v r → Written t i (l ++ m) v r
  written_then {t} {u} {v} {i} {j} {r} {l} {m} h w x =
      record {
        list = x.list ∙ (λ k. over (w.list k) (w.next k) m) ∙ over-over t i l m h.room;
        next = omega (arith, w.next, x.next, length-append l m);
      }

  pub room-front : {t : List A} {i : ℕ} (l m : List A) → Room t i (l ++ m) → Room t i l
  room-front {t} {i} l m h = record { room = omega (arith, h.room, length-append l m) }

  pub room-then : {t u : List A} {i j : ℕ} {l m : List A} → Room t i (l ++ m) → Written t i l u j → Room u j m
  room-then {t} {u} {i} {j} {l} {m} h w =
      record { room = omega (arith, h.room, w.next, written-length (room-front l m h) w, length-append l m) }

  -- the room for one list more, from the index that was returned
  pub room-on : {t u : List A} {i j : ℕ} {l : List A} (m : List A) → j + length m ≤ length t
      → Written t i l u j → Room t i (l ++ m)
  room-on {t} {u} {i} {j} {l} m h w = record { room = omega (arith, w.next, length-append l m) }

  -- a turn of a loop that copies l, entry by entry
  pub written-copy : {t u : List A} {i j : ℕ} (l : List A) (k : ℕ) (d : A) → Room t i l → k < length l
      → Written t i (take k l) u j → Written t i (take (k + 1) l) (set u j (get_or l k d)) (j + 1)
  written-copy {t} {u} {i} {j} l k d h q w =
      subst (λ (m : List A). Written t i m (set u j (get_or l k d)) (j + 1)) more
      (written_then space w (written_one (omega (arith, (room-then space w).room))))
    where
      more : take k l ++ (get_or l k d ∷ []) ≡ take (k + 1) l
      more = sym (ap (λ (n : ℕ). take n l) (add-one k) ∙ take-suc l k d q)

      space : Room t i (take k l ++ (get_or l k d ∷ []))
      space = record {
        room = omega (arith, h.room, length-append (take k l) (get_or l k d ∷ []), length-take-le k l (omega arith));
      }

  -- a loop that writes the parts of up_to f n, of at most b entries each
  pub within-nil : (f : ℕ → List A) (b : ℕ) {t : List A} {i : ℕ} → i ≤ length t
      → WrittenWithin (b * 0) t i (up_to f 0) t i
  unfolding up_to
  within-nil f b h = record { written = written-nil h; most = omega arith }

  module _ (f : ℕ → List A) (b n : ℕ) {t u : List A} {i j k : ℕ} (h : i + b * n ≤ length t) (q : k < n)
      (w : WrittenWithin (b * k) t i (up_to f k) u j) where
    turn-next : j + b ≤ length t
    turn-next =
        omega (arith, w.most, w.written.next, mul-add b k 1, mul-le-mul_left {m = k + 1} {n = n} b (omega arith))

    pub turn-within : length u ≡ length t → j + b ≤ length u
    turn-within e = omega (arith, turn-next)

    pub written-within : {v : List A} {r : ℕ} → WrittenWithin b u j (f k) v r
        → WrittenWithin (b * (k + 1)) t i (up_to f (k + 1)) v r
    written-within {v} {r} x =
        record {
          written =
              subst (λ (l : List A). Written t i l v r) (sym (up_to-more f k))
              (written_then (room-on (f k) (omega (arith, turn-next, x.most)) w.written) w.written x.written);
          most = omega (arith, up_to-grows f k, w.most, x.most, mul-add b k 1);
        }

  -- ---- written at the start

  pub start-taken : {t l u : List A} {r : ℕ} → WrittenAtStart t l u r → take r u ≡ l
  start-taken {t} {l} w =
      (λ i. take ((w.written.next ∙ zero-add (length l)) i) (w.written.list i)) ∙ take-over t l

  pub start-length : {t l u : List A} {r : ℕ} → WrittenAtStart t l u r → r ≡ length (take r u)
  start-length {t} {l} w = w.written.next ∙ zero-add (length l) ∙ sym (ap length (start-taken w))

  pub start-within : {t l u : List A} {r : ℕ} → length u ≡ length t → WrittenAtStart t l u r → r ≤ length u
  start-within e w = omega (arith, w.written.next, w.most)

-- the parts that a function makes of the entries of a list
pub flatten-up_to : {A B : Type 0} (f : A → List B) (d : A) (l : List A)
    → flatten (map f l) ≡ up_to (λ i. f (get_or l i d)) (length l)
unfolding flatten up_to
flatten-up_to f d [] = refl
flatten-up_to f d (x ∷ l) =
    ap (λ m. f x ++ m) (flatten-up_to f d l) ∙ sym (up_to-first (λ i. f (get_or (x ∷ l) i d)) (length l))
