-- What a case is: the input of a call, how many cells are lent, and what the method says of the
-- outcome; and the axes and words that cases share.
use Rattle.std.specs.Prelude.{ℕ, ◌≡◌, true, List, [], ◌∷◌, ◌++◌, map, ℤ, pos, length, replicate}
use Rattle.model.specs.declared.Axis.{Axis}
use Rattle.std.specs.Prelude.{None, Some}
use Rattle.model.specs.declared.Target.{Target}
use Rattle.model.specs.declared.Target.TheVariants.{Fixed}
use Rattle.model.specs.declared.Weight.TheVariants.{Given}
use Rattle.model.specs.declared.Window.{Window}
use Rattle.model.specs.planning.Windows.{no_windows}
use Rattle.model.specs.planning.Words.{word}
use Rattle.model.specs.planning.Outcome.{Outcome, Input, typed, call}

-- ---- what a case is

-- what a case shows of the cells: all, or the positions, velocities or
-- accelerations of a table of one axis
pub data View : Type 0 where
  all positions velocities accelerations : View

abbrev pub every_third : List ℤ → List ℤ
every_third [] = []
every_third (a ∷ []) = a ∷ []
every_third (a ∷ b ∷ []) = a ∷ []
every_third (a ∷ b ∷ c ∷ l) = a ∷ every_third l

abbrev pub tail : List ℤ → List ℤ
tail [] = []
tail (a ∷ l) = l

abbrev pub seen : List ℤ → View → List ℤ
seen l all = l
seen l positions = every_third l
seen l velocities = every_third (tail l)
seen l accelerations = every_third (tail (tail l))

pub record Result : Type 0 where
  pub number : ℕ
  pub place : ℕ
  pub mask : ℕ
  pub arrival : ℕ
  pub shown : List (List ℤ)

pub record Case : Type 0 where
  pub input : Input
  -- how many cells are lent, all 0
  pub lent : ℕ
  pub views : List View
  pub says : Result

abbrev pub found : Case → Result
found c =
    let o : Outcome = call c.input (replicate c.lent (pos 0)) in
    record {
      number = o.number;
      place = o.place;
      mask = o.mask;
      arrival = o.arrival;
      shown = map (seen o.cells) c.views;
    }

-- each case of a list gives what the method says
abbrev pub Hold : List Case → Type 0
Hold [] = Unit
Hold (c ∷ cs) = (found c ≡ c.says) × Hold cs

-- ---- axes, words and answers from which cases are made

-- start position and velocity, speed limit, half period, target; M = 1, B = 128
abbrev pub axis : ℤ → ℤ → ℕ → ℕ → Target → Axis
axis p v l h g =
    record {
      start = record { position = p; velocity = v };
      speed_limit = l;
      acceleration_limit = 1;
      half_period = h;
      second_weight = Given 128;
      second_sway = None;
      target = g;
    }

abbrev pub fixed : ℕ → ℕ → Target
fixed p v = Fixed (record { position = pos p; velocity = pos v })

-- one axis, at rest at 0, L = 10, h = 0, to rest at p
abbrev pub rest_to : ℕ → Axis
rest_to p = axis (pos 0) (pos 0) 10 0 (fixed p 0)

-- F's words of an asked arrival: one axis, from 0 at velocity 10, L = 20, M = 1, h = 0, B = 128, to
-- a fixed target at 10 with velocity 10
abbrev pub axis_f : List ℕ
axis_f = 0x30000000 ∷ 0x4000000A ∷ 0x50000014 ∷ 0x60000001 ∷ 0x70000000 ∷ 0x80000080 ∷ 0x9000000A ∷ 0xA000000A ∷ []

abbrev pub words_f : ℕ → List ℕ
words_f asked = 0x10000001 ∷ word 2 asked ∷ (axis_f ++ (0xF0000000 ∷ []))

-- G's: axis 0 as F, axis 1 from rest at 0 to rest at 1, L = 10
abbrev pub words_g : ℕ → List ℕ
words_g asked =
    0x10000003 ∷ word 2 asked
    ∷ (axis_f
    ++ (0x30000000 ∷ 0x40000000 ∷ 0x5000000A ∷ 0x60000001 ∷ 0x70000000 ∷ 0x80000080 ∷ 0x90000001
    ∷ 0xA0000000 ∷ 0xF0000000 ∷ []))

abbrev pub one_axis : ℕ → Axis → Input
one_axis asked x = typed (record { mask = 1; asked = asked; axes = x ∷ []; windows = no_windows })

abbrev pub two_axes : ℕ → Axis → Axis → Input
two_axes asked x y = typed (record { mask = 3; asked = asked; axes = x ∷ y ∷ []; windows = no_windows })

abbrev pub words_c : List ℕ
words_c = 0x10000001 ∷ 0x20000004 ∷ 0x30000000 ∷ 0x40000000 ∷ 0x5000000A ∷ 0x60000001 ∷ 0x70000000 ∷ 0x80000080
    ∷ 0x90000001 ∷ 0xA0000000 ∷ 0xF0000000 ∷ []

abbrev pub accepted : ℕ → ℕ → List (List ℤ) → Result
accepted m n l = record { number = 0; place = 0; mask = m; arrival = n; shown = l }

abbrev pub refused : ℕ → ℕ → ℕ → ℕ → Result
refused n p m a = record { number = n; place = p; mask = m; arrival = a; shown = [] }

abbrev pub case : Input → ℕ → List View → Result → Case
case i n v r = record { input = i; lent = n; views = v; says = r }

-- ---- field case B with windows: an asked arrival, a dwell, and windows
abbrev pub inside : ℕ → ℕ → List Window → Input
inside asked dwell l =
    typed (record {
      mask = 1;
      asked = asked;
      axes = rest_to 4 ∷ [];
      windows = Some (record { dwell = dwell; count = length l; list = l });
    })

abbrev pub window : ℕ → ℕ → Window
window a b = record { opening = a; closing = b }
