use Rattle.arrival.proofs.Leading.{next_named, next_unnamed}
use Rattle.arrival.proofs.lead_on.next_for.Goals as goal

pub returns-then-bits-eq1 : goal.returns-then-bits-eq1
returns-then-bits-eq1 c =
    let a = c.args in
    next_named a.bits a.axis a.k a.last _ c.if-bits-eq1.true c.next_reached.ensures

pub returns-else-bits-eq1 : goal.returns-else-bits-eq1
returns-else-bits-eq1 c =
    let a = c.args in
    next_unnamed a.bits a.axis a.k a.last c.if-bits-eq1.false c.requires.k_bound
