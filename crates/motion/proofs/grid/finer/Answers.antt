use mathlib.Core.Path.{sym, ap, ◌∙◌}
use mathlib.Core.Bool.{◌&&◌}
use Rattle.std.specs.Prelude.{ℕ, Option}
use Rattle.model.specs.planning.Quantities.{accelerates, damped, finer_by, finer}
use Rattle.motion.proofs.grid.finer.Goals as goal

pub returns-in-Some : goal.returns-in-Some
unfolding finer
returns-in-Some c =
    let x = c.args.x in
    sym (ap (λ (s : Option ℕ). finer_by s (accelerates x.target && damped x)) c.in-Some.is)

pub returns-in-None : goal.returns-in-None
unfolding finer
returns-in-None c =
    let x = c.args.x in
    c.finer_by_target.ensures ∙ sym
    (ap (λ (s : Option ℕ). finer_by s (accelerates x.target && damped x)) c.in-None.is)
