-- The engine by ticks and the engine by areas give one answer for every axis with an acceleration
-- limit of at least 1 and every arrival, on the axis's own grid.
use Prim.Native.Nat.{ℕ, ◌<◌}
use mathlib.Core.Path.{◌≡◌, ap, sym, ◌∙◌}
use mathlib.Core.Bool.{Bool, true, ◌&&◌}
use lib.Dec.{leb, ltb}
use lib.IntN.{nat_abs}
use Rattle.whole.proofs.Tests.{left, T_true, true-T}
use Rattle.model.specs.declared.Axis.{Axis}
use Rattle.model.specs.planning.Quantities.{acceleration_limit, delay, speed_steps}
use Rattle.model.specs.planning.Leg.{required, sum_is_whole}
use Rattle.model.specs.planning.Motion.{leg, displacement, landing_velocity, arrival_velocity, reachable, required_sum}
use Rattle.theorems.proofs.motions.Grid.{acceleration-some}
use Rattle.theorems.proofs.motions.Reaches.{reach-feasible}
use Rattle.profile.specs.Profiles.{ends_allowed, sum_between}
use Rattle.cruise.specs.Engines.{EnginesAgree}
use Rattle.profile.proofs.FeasibleParts.{feasible-parts}
use Rattle.cruise.proofs.Engines.{engines-agree}
use Rattle.planned.specs.Engines.{OneAnswer, OneAnswers}

module _ (x : Axis) (some : 0 < acceleration_limit x) (n : ℕ) where
  agree : EnginesAgree (leg x n)
  agree = engines-agree (leg x n) (acceleration-some x some)

  -- an arrival that is reached has ends that can be joined
  ends : reachable x n ≡ true → ends_allowed (leg x n) ≡ true
  ends e =
      let g = leg x n in
      let d = displacement x n in
      let f = true-T (sym (feasible-parts g d) ∙ T_true _ (reach-feasible x n (true-T e))) in
      T_true (ends_allowed g) (left (ends_allowed g) (sum_is_whole g d && sum_between g (required g d)) f)

  gives_one : OneAnswer x n
  gives_one =
      record {
        reach =
            ap
            (λ (b : Bool). ltb (delay x) n
            && (leb (nat_abs (landing_velocity x n)) (speed_steps x)
            && (leb (nat_abs (arrival_velocity x n)) (speed_steps x) && b)))
            (agree.reach (displacement x n));
        cruises = λ e. agree.cruises (ends e) (required_sum x n);
        remainders = λ e. agree.remainders (ends e) (required_sum x n);
      }

pub one_answer : OneAnswers
one_answer x some n = gives_one x some n
