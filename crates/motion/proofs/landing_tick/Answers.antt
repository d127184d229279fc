use Rattle.motion.proofs.PassedRanges.{ranges-of}
use Rattle.motion.proofs.landing_tick.Goals as goal

pub delay_of-requires : goal.delay_of-requires
delay_of-requires c = ranges-of c.requires.passed
