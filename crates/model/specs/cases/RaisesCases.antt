-- Cases of raises.
use Rattle.std.specs.Prelude.{Some}
use Rattle.std.specs.Prelude.{ℕ, ◌≡◌, true, List, [], ◌∷◌, map, pos, replicate}
use Rattle.model.specs.declared.Axis.{Axis}
use Rattle.model.specs.declared.AxisRaises.{AxisRaises}
use Rattle.model.specs.declared.Raise.TheVariants.{AccelerationBy, SpeedBy}
use Rattle.model.specs.declared.RaisesAnswer.{RaisesAnswer}
use Rattle.model.specs.declared.Window.{Window}
use Rattle.model.specs.planning.Outcome.{Input, typed}
use Rattle.model.specs.calls.Raises.{no_raises, none_raised, raises_call}
use Rattle.model.specs.cases.Case.{axis, fixed, rest_to, one_axis, two_axes, window}

-- ---- the smallest change that makes it (docs/METHOD.md, 8.2)

pub record RaisesCase : Type 0 where
  pub input : Input
  pub says : RaisesAnswer

-- L = 2, to 9, which it does not reach at 6: by M = 2 it does, and by L = 3
abbrev pub slow : Axis
slow = axis (pos 0) (pos 0) 2 0 (fixed 9 0)

abbrev pub equal_raises : AxisRaises
equal_raises = record { first = Some (AccelerationBy 1); second = Some (SpeedBy 1) }

-- refusal 8 with its mask, and the entries of axes 0 and 1
abbrev pub eight : ℕ → AxisRaises → AxisRaises → RaisesAnswer
eight m x y =
    record { answer = record { number = 8; place = 0; mask = m; arrival = 0 }; axes = x ∷ y ∷ replicate 4 no_raises }

-- one axis, and one window without a dwell
abbrev pub within : ℕ → Axis → Window → Input
within asked x w =
    typed (record {
      mask = 1;
      asked = asked;
      axes = x ∷ [];
      windows = Some (record { dwell = 0; count = 1; list = w ∷ [] });
    })

abbrev pub raises_cases : List RaisesCase
raises_cases =
    -- equal raises: that of M first
    record { input = one_axis 6 slow; says = eight 1 equal_raises no_raises }
    -- from velocity 2 to 22, L = 3, asked 8: the smaller first
    ∷ record {
      input = one_axis 8 (axis (pos 0) (pos 2) 3 0 (fixed 22 0));
      says = eight 1 (record { first = Some (SpeedBy 1); second = Some (AccelerationBy 2) }) no_raises;
    }
    -- each axis that the mask names, at its number
    ∷ record { input = two_axes 6 slow slow; says = eight 3 equal_raises equal_raises }
    ∷ record { input = two_axes 6 (rest_to 4) slow; says = eight 2 no_raises equal_raises }
    -- a raise heeds no window, and mask 0 has none
    ∷ record { input = within 6 slow (window 8 9); says = eight 1 equal_raises no_raises }
    ∷ record { input = within 4 (rest_to 4) (window 8 9); says = eight 0 no_raises no_raises }
    -- any other answer has none, and 10 never comes
    ∷ record {
      input = one_axis 6 (rest_to 4);
      says = record { answer = record { number = 0; place = 0; mask = 1; arrival = 6 }; axes = none_raised };
    }
    ∷ record {
      input = one_axis 4097 slow;
      says = record { answer = record { number = 3; place = 1; mask = 0; arrival = 0 }; axes = none_raised };
    }
    ∷ []

abbrev pub RaisesCasesHold : Type 0
RaisesCasesHold =
    map (λ (c : RaisesCase). raises_call c.input) raises_cases ≡ map (λ (c : RaisesCase). c.says) raises_cases
