use Rattle.model.proofs.SetAxes.{ones-bits}
use Rattle.model.proofs.masks.axis_count.Goals as goal

pub returns : goal.returns
returns c = ones-bits 6 0 c.args.mask c.requires
