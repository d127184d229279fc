use Rattle.whole.proofs.Bounds.{computed, is-of}
use Rattle.profile.proofs.upper.Goals as goal

pub returns : goal.returns
returns c = rw (← c.p.view_is) (is-of (search computed depth 30 fits 9000) tt)
