use Rattle.whole.proofs.Bounds.{sfits, computed, is-of}
use Rattle.motion.proofs.target.twice_position_at.Goals as goal

pub overflow_mul-result-3 : goal.overflow_mul-result-3
overflow_mul-result-3 c = sfits (search computed depth 20 fits 9000) tt

pub overflow_add-result : goal.overflow_add-result
overflow_add-result c = sfits (search computed depth 20 fits 9000) tt

pub overflow_mul-result-5 : goal.overflow_mul-result-5
overflow_mul-result-5 c = sfits (search computed depth 20 fits 9000) tt

pub overflow_add-result-2 : goal.overflow_add-result-2
overflow_add-result-2 c = sfits (search computed depth 20 fits 9000) tt

pub returns : goal.returns
returns c = is-of (search computed depth 30 fits 9000) tt
