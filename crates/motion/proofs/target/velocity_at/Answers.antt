use Rattle.whole.proofs.Bounds.{sfits, computed, is-of}
use Rattle.motion.proofs.target.velocity_at.Goals as goal

pub overflow_add-result : goal.overflow_add-result
overflow_add-result c = sfits (search computed depth 20 fits 9000) tt

pub returns : goal.returns
returns c = is-of (search computed depth 30 fits 9000) tt
