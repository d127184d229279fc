-- What a call for a part promises follows from its answer, its rows and its cells.
use Prim.Native.Nat.{ℕ, ◌≤◌}
use mathlib.Core.Path.{◌≡◌, sym, ap, subst, ◌∙◌}
use mathlib.Core.List.{List}
use lib.IntN.{ℤ}
use lib.ListN.{length}
use Rattle.model.specs.declared.Answer.{Answer}
use Rattle.model.specs.declared.PartAnswer.{PartAnswer}
use Rattle.model.specs.planning.Outcome.{Input, call, input_axes, cells_needed, answer_of}
use Rattle.model.specs.calls.Parts.{PartOutcome, part_call}
use Rattle.theorems.specs.Parts.{PartOf}
use Rattle.theorems.proofs.calls.Parts.{parts-hold}
use Rattle.planner.specs.Promise.{part_outcome}
use Rattle.planner.proofs.Answers.{part-answer}
use Rattle.parts.specs.Promise.{PartPromise}

pub promise : (q : Input) (k : ℕ) (entry : List ℤ) (r : PartAnswer) (exit : List ℤ)
    → part_outcome r exit ≡ part_call q k entry → PartPromise q k entry r exit
promise q k entry r exit e =
    let a : r.answer ≡ answer_of q = ap (λ (p : PartOutcome). p.answer) e ∙ part-answer q k entry in
    record {
      is = e;
      whole = λ z lent room.
          subst (λ (x : Answer). PartOf q x.arrival k r.rows exit (call q lent)) (sym a)
          (subst (λ (p : PartOutcome). PartOf q (answer_of q).arrival k p.rows p.cells (call q lent)) (sym e)
          (parts-hold q k entry lent (sym (ap (λ (x : Answer). x.number) a) ∙ z)
          (subst (λ (x : Answer). Fits x lent) a room)));
    }
  where
    Fits : Answer → List ℤ → Type 0
    Fits x lent = cells_needed (length (input_axes q)) x.arrival ≤ length lent
