use native.Mathlib.Omega.{arith}
use mathlib.Core.Path.{sym, subst}
use lib.Seq.{length-take-le}
use mathlib.Core.List.{List}
use Prim.Native.Nat.{ℕ}
use Rattle.model.specs.declared.Order.TheVariants.{Forwards}
use Rattle.model.specs.planning.Outcome.{words}
use Rattle.planner.specs.Promise.{Promise}
use Rattle.whole.proofs.Lists.{start-taken, start-within}
use borrow.Author.Rules.{rules}
use Rattle.table.proofs.run.Goals as goal

pub returns : goal.returns
returns c =
    let p = c.plan_words in
    let a = c.args in
    subst (λ (ws : List ℕ). Promise Forwards (words ws) a.table.now p.result p.new.table)
    (start-taken c.words_of-count.ensures) p.ensures
