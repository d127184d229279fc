-- Lists written over from an index on, and lists put together one part after another: what a
-- function leaves that fills a lent table or a lent buffer. Their laws are in
-- proofs/Lists.antt. Assumes nothing.
use Rattle.std.specs.Prelude.{ℕ, zero, suc, ◌+◌, ◌≤◌, ◌≡◌, List, [], ◌++◌, length, take, drop}

module _ {A : Type 0} where
  -- the list t, with its entries from index i on replaced by those of l
  unfoldable pub over : List A → ℕ → List A → List A
  over t i l = take i t ++ l ++ drop (i + length l) t

  -- f 0, .., f (n − 1), one after the other
  unfoldable pub up_to : (ℕ → List A) → ℕ → List A
  up_to f zero = []
  up_to f (suc n) = up_to f n ++ f n

  -- the list t has room for l from index i on
  pub record Room (t : List A) (i : ℕ) (l : List A) : Type 0 where
    pub room : i + length l ≤ length t

  -- what a function promises that writes l from index i on and returns the index after it: the list
  -- t has become u, and r is returned
  pub record Written (t : List A) (i : ℕ) (l : List A) (u : List A) (r : ℕ) : Type 0 where
    pub list : u ≡ over t i l
    pub next : r ≡ i + length l

  -- the same of a list l that has at most b entries
  pub record WrittenWithin (b : ℕ) (t : List A) (i : ℕ) (l : List A) (u : List A) (r : ℕ) : Type 0 where
    pub written : Written t i l u r
    pub most : length l ≤ b

  -- the same of a list l that fits into t from its start on
  abbrev pub WrittenAtStart : List A → List A → List A → ℕ → Type 0
  WrittenAtStart t l u r = WrittenWithin (length t) t 0 l u r
