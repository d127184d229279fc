use mathlib.Core.Path.{sym, subst}
use native.Mathlib.Omega.{arith}
use Rattle.whole.specs.Candidates.{Next, Lasting}
use Rattle.model.specs.planning.Leg.{Leg}
use Rattle.profile.specs.Profiles.{Joinable}
use Rattle.envelopes.specs.Sums.{between}
use Rattle.envelopes.proofs.Longer.{longer-joinable}
use Rattle.envelopes.proofs.NextTicks.{next-later}
use Rattle.envelopes.proofs.next_lasting.Goals as goal

pub next_between-requires-clause-joinable : goal.next_between-requires-clause-joinable
next_between-requires-clause-joinable c =
    subst Joinable (sym c.with_ticks.ensures)
    (longer-joinable c.args.p c.skip_missed-first.result c.requires.joinable c.skip_missed-first.ensures.low)

pub next_between-requires-clause-lasting : goal.next_between-requires-clause-lasting
next_between-requires-clause-lasting c =
    subst (λ (p : Leg). Lasting (between c.args.sought p) p.ticks) (sym c.with_ticks.ensures)
    (λ j k h l e. c.requires.lasting j k (omega (arith, c.skip_missed-first.ensures.low)) l e)

pub returns : goal.returns
returns c =
    let a = c.args in
    let s = c.skip_missed-first in
    next-later (between a.sought a.p) a.p.ticks a.last s.result s.ensures.low s.ensures.missed c.next_between.result
    (subst (λ (p : Leg). Next (between a.sought p) p.ticks a.last c.next_between.result)
    c.with_ticks.ensures c.next_between.ensures)
