use Prim.Native.Nat.{ℕ}
use mathlib.Core.Path.{◌≡◌, sym, ap, subst, ◌∙◌}
use Rattle.model.specs.declared.Limit.{Limit}
use Rattle.model.specs.declared.Limit.TheVariants.{Acceleration, Speed}
use Rattle.model.specs.planning.Leg.{Leg}
use Rattle.profile.specs.Profiles.{Joinable}
use Rattle.least_limit.specs.declared.Task.{Task}
use Rattle.least_limit.specs.Limits.{profile_at, speed_with, acceleration_with, TaskRanged, Allowed, ProfileFor}
use Rattle.least_limit.proofs.FallsShort.{profile-joinable}
use Rattle.least_limit.proofs.profile_with.Goals as goal

-- the profile that the code makes for the limit q
made : (p q : Limit) (t : Task) (v : ℕ) (r : Leg) → TaskRanged t → Allowed p t v → p ≡ q
    → r ≡ profile_at t (speed_with q t v) (acceleration_with q t v)
    → ProfileFor p t v r
made p q t v r ranged a e is =
    let own = is ∙ ap (λ (l : Limit). profile_at t (speed_with l t v) (acceleration_with l t v)) (sym e) in
    record { is = own; joinable = subst Joinable (sym own) (profile-joinable t p v ranged a) }

pub returns-in-Acceleration : goal.returns-in-Acceleration
returns-in-Acceleration c =
    let a = c.args in
    let q = c.requires in
    made a.limit Acceleration a.t a.value c.profile_at.result q.task_ranged q.allowed c.in-Acceleration.is
    c.profile_at.ensures

pub returns-in-Speed : goal.returns-in-Speed
returns-in-Speed c =
    let a = c.args in
    let q = c.requires in
    made a.limit Speed a.t a.value c.profile_at-in-Speed.result q.task_ranged q.allowed c.in-Speed.is
    c.profile_at-in-Speed.ensures
