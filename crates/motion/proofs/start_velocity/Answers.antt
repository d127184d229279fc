use Rattle.whole.proofs.Bounds.{sfits, computed, is-of}
use Rattle.motion.proofs.PassedRanges.{ranges-of}
use Rattle.motion.proofs.start_velocity.Goals as goal

pub overflow_mul-result : goal.overflow_mul-result
overflow_mul-result c = let h = ranges-of c.requires in sfits (search computed depth 20 fits 9000) tt

pub overflow_mul-result-2 : goal.overflow_mul-result-2
overflow_mul-result-2 c = let h = ranges-of c.requires in sfits (search computed depth 20 fits 9000) tt

pub returns : goal.returns
returns c = let h = ranges-of c.requires in is-of (search computed depth 30 fits 9000) tt
