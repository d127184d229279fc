-- Which arrivals fit windows, and refusal 13, in the words of the method (docs/METHOD.md, 3.8).
use Rattle.std.specs.Prelude.{Some}
use Rattle.std.specs.Prelude.{ℕ, ◌+◌, ◌≤◌, ◌<◌, ◌≡◌, List, ◌∷◌, map, ◌⊎◌, get_or}
use Rattle.std.specs.Prelude.{slice_get}
use Rattle.model.specs.declared.Window.{Window}
use Rattle.model.specs.declared.Windows.{Windows}
use Rattle.model.specs.planning.Windows.{brought}

-- the same in the method's words: one window holds the arrival and its dwell
pub record FitsOne (n dwell : ℕ) (l : List Window) : Type 0 where
  pub index : ℕ
  pub window : Window
  pub here : slice_get l index ≡ Some window
  pub opened : window.opening ≤ n
  pub below : n < window.closing
  pub stays : n + dwell ≤ window.closing

-- ---- 13 in the method's words

-- the tick at which the window before window k closes, where before the first one closed at tick c
abbrev pub closed_before : ℕ → List Window → ℕ → ℕ
closed_before c l k = get_or (c ∷ map (λ w. w.closing) l) k 0

-- window v, at index k, closes after it opens, and opens when the previous one has closed
pub record InOrder (c : ℕ) (l : List Window) (k : ℕ) (v : Window) : Type 0 where
  pub closes : v.opening < v.closing
  pub follows : closed_before c l k ≤ v.opening

-- window i is the first whose closing is not above its opening or that opens
-- before the previous one closes
pub record FirstWrongWindow (c : ℕ) (l : List Window) (i : ℕ) : Type 0 where
  pub window : Window
  pub here : slice_get l i ≡ Some window
  pub wrong : (window.closing ≤ window.opening) ⊎ (window.opening < closed_before c l i)
  pub before : (k : ℕ) (v : Window) → k < i → slice_get l k ≡ Some v → InOrder c l k v

-- what 13 refuses, with its place; before the first window nothing closes, so it opens at tick 0 or
-- later
pub data WindowsWrong (w : Windows) : ℕ → Type 0 where
  empty : w.count ≡ 0 → WindowsWrong w 0
  too_many : 32 < w.count → WindowsWrong w 32
  long_dwell : 1 ≤ w.count → w.count ≤ 32 → 4096 < w.dwell → WindowsWrong w 32
  wrong_window : (i : ℕ) → 1 ≤ w.count → w.count ≤ 32 → w.dwell ≤ 4096
      → FirstWrongWindow 0 (brought w) i → WindowsWrong w i

-- what it lets pass
pub record WindowsRight (w : Windows) : Type 0 where
  pub not_empty : 1 ≤ w.count
  pub few : w.count ≤ 32
  pub dwell : w.dwell ≤ 4096
  pub each : (k : ℕ) (v : Window) → slice_get (brought w) k ≡ Some v → InOrder 0 (brought w) k v
