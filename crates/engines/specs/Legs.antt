-- The ranges of a leg that is drawn.
use Rattle.std.specs.Prelude.{◌≤◌, ◌<◌}
use Rattle.whole.specs.Ranges.{Within}
use Rattle.profile.specs.declared.Profile.{Profile}

pub record Drawn (p : Profile) : Type 0 where
  pub speed_limit : p.speed_limit ≤ 3000
  pub acceleration_limit : p.acceleration_limit ≤ 100
  pub acceleration : 0 < p.acceleration_limit
  pub ticks : p.ticks ≤ 60
  pub some : 0 < p.ticks
  pub start : Within 8388608 p.start
  pub end : Within 8388608 p.end
