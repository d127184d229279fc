use mathlib.Core.Path.{sym, subst, ◌∙◌}
use Rattle.whole.proofs.Bounds.{exactly, exact}
use Rattle.profile.specs.Profiles.{Joinable}
use Rattle.profile.proofs.FeasibleParts.{ends-joined}
use Rattle.envelopes.specs.Sums.{envelope_sums_at}
use Rattle.envelopes.proofs.EnvelopeSums.{more-ticks}
use Rattle.envelopes.proofs.NextTicks.{between_is}
use Rattle.envelopes.proofs.Longer.{longer-joinable}
use Rattle.envelopes.proofs.will_do.Goals as goal

pub envelope_sums-requires : goal.envelope_sums-requires
envelope_sums-requires c =
    let q = c.requires in
    subst Joinable (sym c.with_ticks.ensures)
    (longer-joinable c.args.p c.args.t q.joinable q.ticks_le_t)

pub returns : goal.returns
returns c =
    let a = c.args in
    let q = c.requires in
    let g = a.p in
    let sums = c.envelope_sums.ensures ∙ (λ i. envelope_sums_at (c.with_ticks.ensures i)) in
    c.within_sums.ensures
    ∙ between_is a.sought g a.t (more-ticks g a.t (ends-joined g q.joinable.ends) q.ticks_le_t)
    c.envelope_sums.result sums _ (exactly (search exact depth 9) tt)
