-- The windows of a list, one after the other.
use Prim.Native.Nat.{ℕ, ◌+◌, ◌<◌}
use native.Mathlib.Numerals.{add-one}
use mathlib.Core.Path.{◌≡◌, refl, sym, ap₂, ◌∙◌}
use mathlib.Core.Bool.{Bool, true, false, ◌||◌}
use Rattle.std.specs.List.{list_any}
use mathlib.Core.List.{List, [], ◌∷◌}
use lib.ListN.{length, get_or, take, drop}
use lib.Seq.{drop-cons, get_or-take}
use Rattle.model.specs.declared.Window.{Window}
use Rattle.model.specs.planning.Windows.{fits_window, fits_one}

abbrev pub no_window : Window
no_window = record { opening = 0; closing = 0 }

-- window i of the first `count`
pub split : (list : List Window) (count i : ℕ) → i < length (take count list) → i < count
    → drop i (take count list) ≡ get_or list i no_window ∷ drop (i + 1) (take count list)
split list count i h below =
    drop-cons (take count list) i no_window h
    ∙ ap₂ (λ (v : Window) (j : ℕ). v ∷ drop j (take count list))
    (get_or-take count list i no_window below) (sym (add-one i))

-- whether one of them fits
pub any_fits : (n dwell : ℕ) (ws : List Window) → list_any (fits_window n dwell) ws ≡ fits_one n dwell ws
any_fits n dwell [] = refl
any_fits n dwell (w ∷ ws) = go (fits_window n dwell w) (any_fits n dwell ws)
  where
    go : (b : Bool) → list_any (fits_window n dwell) ws ≡ fits_one n dwell ws
        → (b || list_any (fits_window n dwell) ws) ≡
        (elim b as (λ _. Bool) [ true ↦ true | false ↦ fits_one n dwell ws ])
    go true h = refl
    go false h = h
