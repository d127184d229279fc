-- A leg whose ends can be joined, with more ticks.
use Prim.Native.Nat.{ℕ, ◌≤◌}
use native.Mathlib.Omega.{arith}
use Rattle.model.specs.planning.Leg.{Leg}
use Rattle.profile.specs.Profiles.{Joinable}
use Rattle.profile.proofs.FeasibleParts.{joined-ends, ends-joined}
use Rattle.envelopes.specs.Sums.{with_ticks}
use Rattle.envelopes.proofs.EnvelopeSums.{more-ticks}

pub longer-joinable : (p : Leg) (t : ℕ) → Joinable p → p.ticks ≤ t → Joinable (with_ticks p t)
longer-joinable p t j low =
    record {
      acceleration = j.acceleration;
      some = omega (arith, j.some);
      ends = joined-ends (with_ticks p t) (more-ticks p t (ends-joined p j.ends) low);
    }
