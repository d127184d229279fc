use Rattle.whole.proofs.Bounds.{sfits, computed, is-of}
use Rattle.motion.proofs.PassedRanges.{ranges-of}
use Rattle.motion.proofs.start_position.Goals as goal

pub shift-requires : goal.shift-requires
shift-requires c = ranges-of c.requires

pub overflow_mul-result-2 : goal.overflow_mul-result-2
overflow_mul-result-2 c = let h = ranges-of c.requires in
    sfits (search computed depth 20 fits 9000) tt

pub overflow_mul-result-3 : goal.overflow_mul-result-3
overflow_mul-result-3 c = let h = ranges-of c.requires in
    sfits (search computed depth 20 fits 9000) tt

pub overflow_mul-result-4 : goal.overflow_mul-result-4
overflow_mul-result-4 c = let h = ranges-of c.requires in
    sfits (search computed depth 20 fits 9000) tt

pub overflow_add-result : goal.overflow_add-result
overflow_add-result c = let h = ranges-of c.requires in
    sfits (search computed depth 20 fits 9000) tt

pub overflow_mul-result-5 : goal.overflow_mul-result-5
overflow_mul-result-5 c = let h = ranges-of c.requires in
    sfits (search computed depth 20 fits 9000) tt

pub returns : goal.returns
returns c = let h = ranges-of c.requires in
    is-of (search computed depth 30 fits 9000) tt
