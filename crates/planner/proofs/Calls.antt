-- The calls: what they promise follows from the outcome of their stages.
use Rattle.theorems.proofs.tables.Demand.{demand3, cell-limits, exact-start}
use Rattle.theorems.proofs.jobs.VerdictIn.{verdict-in}
use Rattle.theorems.proofs.jobs.BeforeTen.{same_answer}
use mathlib.Core.Path.{sym, ap, subst, ◌∙◌}
use mathlib.Core.List.{List}
use lib.IntN.{ℤ}
use Rattle.model.specs.declared.Answer.{Answer}
use Rattle.model.specs.declared.Order.{Order}
use Rattle.model.specs.declared.PartAnswer.{PartAnswer}
use Rattle.model.specs.planning.Outcome.{Outcome, Input, call, call_in, input_job, input_axes}
use Rattle.theorems.specs.Verdict.{CallVerdict}
use Rattle.model.specs.calls.Parts.{part_with, part_call}
use Rattle.model.specs.planning.Demand.{Demand3, CellLimits, ExactStart}
use Rattle.planner.specs.Promise.{Promise, PromiseIn}
use Rattle.planner.specs.declared.Wanted.{Wanted}
use Rattle.planner.specs.declared.Wanted.TheVariants.{Whole, From}
use Rattle.planner.specs.Stages.{GivesAll, Gives}

-- the verdict, demand 3, the limits and the start of the definitions, carried to what the call
-- leaves
pub promise : (o : Order) (q : Input) (entry : List ℤ) (r : Answer) (exit : List ℤ)
    → GivesAll (call_in o q entry) r exit → Promise o q entry r exit
promise o q entry r exit g =
    let number = ap (λ (s : Outcome). s.number) g.outcome in
    record {
      outcome = g.outcome;
      verdict = subst (λ (s : Outcome). CallVerdict o entry s q) (sym g.outcome) (verdict-in o q entry);
      demand3 = λ z.
          subst (λ (s : Outcome). Demand3 o (input_axes q) s.arrival s.cells) (sym g.outcome)
          (demand3 o q entry (sym number ∙ z));
      limits = λ z.
          subst (λ (s : Outcome). CellLimits o (input_axes q) s.arrival s.cells) (sym g.outcome)
          (cell-limits o q entry (sym number ∙ z));
      start = λ z.
          subst (λ (s : Outcome). ExactStart o (input_axes q) s.arrival s.cells) (sym g.outcome)
          (exact-start o q entry (sym number ∙ z));
      fitted = g.fitted;
    }

-- the same for what is wanted
pub promise-in : (w : Wanted) (q : Input) (entry : List ℤ) (r : PartAnswer) (exit : List ℤ)
    → Gives w (input_job q).mask (input_axes q) entry (call q entry) r exit
    → PromiseIn w q entry r exit
unfolding part_call
promise-in (Whole o) q entry r exit g = promise o q entry r.answer exit g
promise-in (From k) q entry r exit g = g ∙ ap (λ (a : Answer). part_with a (input_axes q) k entry) (same_answer q entry)
