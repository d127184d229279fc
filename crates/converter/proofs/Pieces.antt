-- The converted words, one word of the old job after another.
use Prim.Native.Nat.{ℕ, suc, ◌+◌, ◌≤◌, ◌<◌}
use native.Mathlib.Omega.{arith}
use native.Mathlib.Numerals.{add-one}
use mathlib.Core.Path.{◌≡◌, refl, sym, ap, subst, ◌∙◌}
use mathlib.Core.Bool.{Bool, true, false, not, ◌&&◌}
use mathlib.Core.List.{List, [], ◌∷◌, ◌++◌, append_assoc, append-nil}
use lib.Dec.{eqb}
use lib.ListN.{length, get_or, set, drop, length-append, drop_of_length-le}
use lib.Seq.{drop-cons}
use Rattle.whole.specs.Lists.{over, up_to, Room, Written}
use Rattle.whole.proofs.Lists.{over-three, written-nil, written_one, written_then, room-on, up_to-more}
use Rattle.model.specs.planning.Words.{word}
use Rattle.model.specs.calls.Converter.{begins, flying_word, converted}
use Rattle.theorems.proofs.words.PositionSpelling.{value_of}
use Rattle.theorems.proofs.calls.ConvertedWords as C
use Rattle.words.specs.ByIndex.{is_kind, payload_at}
use Rattle.words.proofs.Reader as R
use Rattle.converter.specs.Pieces.{flying_at, piece_by, piece_at, needed_for}

-- ---- one word

kind-begins : (ws : List ℕ) (i k : ℕ) → is_kind ws i k ≡ begins k (drop i ws)
kind-begins ws i k = value_of (sym (R.next-is ws i k) ∙ C.next-is k i (drop i ws))

flying-is : (ws : List ℕ) (i : ℕ) → i < length ws → flying_at ws i ≡ flying_word (get_or ws i 0) (drop (suc i) ws)
unfolding flying_at
flying-is ws i h =
    (λ l. R.inside ws i 10 h l && (not (eqb (payload_at ws i) 0) && not (kind-begins ws (i + 1) 11 l)))
    ∙ ap (λ (k : ℕ). flying_word (get_or ws i 0) (drop k ws)) (add-one i)

-- the code's first two tests
pub moves_at : List ℕ → ℕ → Bool
moves_at ws i = is_kind ws i 10 && not (eqb (payload_at ws i) 0)

module _ (ws : List ℕ) (i : ℕ) where
  pub of-kind : {r : Bool} {n : ℕ} → r ≡ is_kind ws i 10 → r ≡ true → n ≡ payload_at ws i
      → not (eqb n 0) ≡ moves_at ws i
  unfolding moves_at
  of-kind p t q = λ l. (sym t ∙ p) l && not (eqb (q l) 0)

  pub not-kind : {r : Bool} → r ≡ is_kind ws i 10 → r ≡ false → r ≡ moves_at ws i
  unfolding moves_at
  not-kind p t = t ∙ (λ l. (sym t ∙ p) l && not (eqb (payload_at ws i) 0))

  pub by_next : {v r : Bool} → v ≡ moves_at ws i → v ≡ true → r ≡ is_kind ws (i + 1) 11 → not r ≡ flying_at ws i
  unfolding moves_at flying_at
  by_next p t q = ap not q ∙ go (is_kind ws i 10) (not (eqb (payload_at ws i) 0)) (sym p ∙ t)
    where
      go : (k z : Bool) → k && z ≡ true → not (is_kind ws (i + 1) 11) ≡ (k && (z && not (is_kind ws (i + 1) 11)))
      go true true e = refl
      go true false e = absurd (cc)
      go false z e = absurd (cc)

  pub at_rest : {v : Bool} → v ≡ moves_at ws i → v ≡ false → v ≡ flying_at ws i
  unfolding moves_at flying_at
  at_rest p t = t ∙ go (is_kind ws i 10) (not (eqb (payload_at ws i) 0)) (sym p ∙ t)
    where
      go : (k z : Bool) → k && z ≡ false → false ≡ (k && (z && not (is_kind ws (i + 1) 11)))
      go true true e = absurd (cc)
      go true false e = refl
      go false z e = refl

-- the words from word i on
pub turn : (asked : ℕ) (ws : List ℕ) (i : ℕ) → i < length ws
    → converted asked (drop i ws) ≡ piece_at ws asked i ++ converted asked (drop (i + 1) ws)
unfolding piece_by
turn asked ws i h =
    ap (converted asked) (drop-cons ws i 0 h)
    ∙ ap by (sym (flying-is ws i h))
    ∙ parts (flying_at ws i)
    ∙ ap (λ (k : ℕ). piece_at ws asked i ++ converted asked (drop k ws)) (sym (add-one i))
  where
    w : ℕ
    w = get_or ws i 0

    by : Bool → List ℕ
    by b =
        elim b [
          | true ↦ get_or ws i 0 ∷ word 11 0 ∷ word 12 asked ∷ converted asked (drop (suc i) ws)
          | false ↦ get_or ws i 0 ∷ converted asked (drop (suc i) ws)
        ]

    parts : (b : Bool) → (elim b as (λ _. List ℕ) [
      | true ↦ get_or ws i 0 ∷ word 11 0 ∷ word 12 asked ∷ converted asked (drop (suc i) ws)
      | false ↦ get_or ws i 0 ∷ converted asked (drop (suc i) ws)
    ]) ≡ piece_by b asked (get_or ws i 0) ++ converted asked (drop (suc i) ws)
    parts true = refl
    parts false = refl

-- ---- the number of words

pub same_length : (a b : ℕ) (ws : List ℕ) → length (converted a ws) ≡ length (converted b ws)
same_length a b [] = refl
same_length a b (w ∷ ws) = go (flying_word w ws) (same_length a b ws)
  where
    go : (f : Bool) → length (converted a ws) ≡ length (converted b ws)
        → length {A = ℕ}
        (elim f as (λ _. List ℕ) [ true ↦ w ∷ word 11 0 ∷ word 12 a ∷ converted a ws | false ↦ w ∷ converted a ws ])
        ≡ length {A = ℕ}
        (elim f as (λ _. List ℕ) [ true ↦ w ∷ word 11 0 ∷ word 12 b ∷ converted b ws | false ↦ w ∷ converted b ws ])
    go true e = ap (λ (n : ℕ). suc (suc (suc n))) e
    go false e = ap suc e

pub piece-flying : (ws : List ℕ) (i : ℕ) → true ≡ flying_at ws i → 3 ≡ length (piece_at ws 0 i)
unfolding piece_by
piece-flying ws i e = ap (λ (b : Bool). length (piece_by b 0 (get_or ws i 0))) e

pub piece-copied : (ws : List ℕ) (i : ℕ) → false ≡ flying_at ws i → 1 ≡ length (piece_at ws 0 i)
unfolding piece_by
piece-copied ws i e = ap (λ (b : Bool). length (piece_by b 0 (get_or ws i 0))) e

-- a count of the words before word i
pub count-more : (ws : List ℕ) (i n p : ℕ) → i < length ws → p ≡ length (piece_at ws 0 i)
    → n + length (converted 0 (drop i ws)) ≡ needed_for ws
    → n + p + length (converted 0 (drop (i + 1) ws)) ≡ needed_for ws
count-more ws i n p h e q =
    let t = ap length (turn 0 ws i h) ∙ length-append (piece_at ws 0 i) (converted 0 (drop (i + 1) ws)) in
    omega (arith, t, q)

-- ---- writing

-- the stores of one word
module _ (t : List ℕ) (at asked : ℕ) (ws : List ℕ) (i : ℕ) (room : Room t at (piece_at ws asked i)) where
  abbrev w : ℕ
  w = get_or ws i 0

  pub one-fits : at < length t
  unfolding piece_by
  one-fits = go (flying_at ws i) room
    where
      go : (b : Bool) → Room t at (piece_by b asked w) → at < length t
      go true h = omega (arith, h.room)
      go false h = omega (arith, h.room)

  module _ (e : flying_at ws i ≡ true) where
    three-room : Room t at (piece_by true asked w)
    three-room = subst (λ (b : Bool). Room t at (piece_by b asked w)) e room

    pub three-fit : at + 3 ≤ length t
    unfolding piece_by
    three-fit = three-room.room

    pub three-written : Written t at (piece_at ws asked i)
        (set (set (set t at w) (at + 1) (word 11 0)) (at + 2) (word 12 asked)) (at + 3)
    unfolding piece_by
    three-written =
        subst (λ (b : Bool). Written t at (piece_by b asked w)
        (set (set (set t at w) (at + 1) (word 11 0)) (at + 2) (word 12 asked)) (at + 3)) (sym e)
        (record { list = sym (over-three t at w (word 11 0) (word 12 asked) three-fit); next = refl })

  pub one_written : flying_at ws i ≡ false → Written t at (piece_at ws asked i) (set t at w) (at + 1)
  unfolding piece_by
  one_written e =
      subst (λ (b : Bool). Written t at (piece_by b asked w) (set t at w) (at + 1)) (sym e) (written_one one-fits)

module _ (asked : ℕ) (ws : List ℕ) where
  abbrev pub pieces : ℕ → List ℕ
  pieces i = up_to (piece_at ws asked) i

  -- the words before word i, and those from it on
  abbrev pub Parts : ℕ → Type 0
  Parts i = pieces i ++ converted asked (drop i ws) ≡ converted asked ws

  pub parts_none : Parts 0
  unfolding up_to
  parts_none = refl

  pub parts_more : (i : ℕ) → i < length ws → Parts i → Parts (i + 1)
  parts_more i h e =
      ap (λ (l : List ℕ). l ++ converted asked (drop (i + 1) ws)) (up_to-more (piece_at ws asked) i)
      ∙ append_assoc (pieces i) (piece_at ws asked i) (converted asked (drop (i + 1) ws))
      ∙ ap (λ (l : List ℕ). pieces i ++ l) (sym (turn asked ws i h))
      ∙ e

  parts_all : (i : ℕ) → length ws ≤ i → Parts i → pieces i ≡ converted asked ws
  parts_all i h e =
      sym (append-nil (pieces i))
      ∙ ap (λ (l : List ℕ). pieces i ++ converted asked l) (sym (drop_of_length-le ws {i = i} h)) ∙ e

  module _ {t u : List ℕ} {i j : ℕ} (h : i < length ws) (e : Parts i) (room : length (converted asked ws) ≤ length t)
      (w : Written t 0 (pieces i) u j) where
    enough : j + length (piece_at ws asked i) ≤ length t
    enough =
        let l = sym (ap length e) ∙ length-append (pieces i) (converted asked (drop i ws)) in
        let m = ap length (turn asked ws i h)
        ∙ length-append (piece_at ws asked i) (converted asked (drop (i + 1) ws)) in
        omega (arith, l, m, w.next, room)

    pub piece-room : length u ≡ length t → Room u j (piece_at ws asked i)
    piece-room k = record { room = omega (arith, enough, k) }

    pub piece-written : {v : List ℕ} {r : ℕ} → Written u j (piece_at ws asked i) v r → Written t 0 (pieces (i + 1)) v r
    piece-written {v} {r} x =
        let both = written_then (room-on (piece_at ws asked i) enough w) w x in
        record {
          list = both.list ∙ ap (over t 0) (sym more);
          next = both.next
              ∙ ap (λ (l : List ℕ). 0 + length l) (sym more);
        }
      where
        more : pieces (i + 1) ≡ pieces i ++ piece_at ws asked i
        more = up_to-more (piece_at ws asked) i

  pub nothing_written : (t : List ℕ) → Written t 0 (pieces 0) t 0
  unfolding up_to
  nothing_written t = written-nil (omega arith)

  pub all-written : {t u : List ℕ} {i j : ℕ} → length ws ≤ i → Parts i → Written t 0 (pieces i) u j
      → u ≡ over t 0 (converted asked ws)
  all-written {t} {u} {i} h e w = w.list ∙ ap (over t 0) (parts_all i h e)
