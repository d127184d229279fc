use Rattle.whole.proofs.Bounds.{sfits, exact, is-of}
use Rattle.reach.proofs.drift.Goals as goal

pub drift_of-requires : goal.drift_of-requires
drift_of-requires c = c.requires

pub overflow_mul-result : goal.overflow_mul-result
overflow_mul-result c = sfits (search exact depth 20) tt

pub returns : goal.returns
returns c = is-of (search exact depth 30) tt
