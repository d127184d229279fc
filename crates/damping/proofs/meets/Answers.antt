use mathlib.Core.Path.{refl}
use Rattle.model.specs.planning.Damping.{meets}
use Rattle.damping.proofs.meets.Goals as goal

pub returns : goal.returns
unfolding meets
returns c = refl
