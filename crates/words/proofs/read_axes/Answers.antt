use mathlib.Core.List.{List}
use Prim.Native.Nat.{ℕ, ◌<◌, ◌+◌, ◌-◌, ◌/◌, ◌≤◌}
use native.Mathlib.Omega.{arith}
use mathlib.Core.Path.{◌≡◌, sym, ap, ◌∙◌}
use Rattle.std.proofs.lemmas.List.{set-get_or}
use Rattle.model.specs.declared.Axis.{Axis}
use Rattle.std.proofs.lemmas.Result.{err_from_is_err_and}
use Rattle.std.specs.declared.result.Result.TheVariants.{Ok, Err}
use Rattle.words.specs.ByIndex.{AxesRead, read_on, read_all}
use Rattle.words.proofs.AxisWords.{axis-end}
use Rattle.words.proofs.AxesWords.{stays, turn-set, turn-unset, more-axes, no-axes}
use Rattle.words.proofs.read_axes.Goals as goal
use Rattle.words.proofs.read_axes.Goals.{then-bits-eq1+in_ok-axis, else-bits-eq1}

-- what is left after a turn, from what the turn has read
turn_done : (ws : List ℕ) (number bits : ℕ) (s t : AxesRead)
    → number < 6
    → t ≡ read_on ws number bits s
    → read_all ws (6 - (number + 1)) (number + 1) (bits / 2) t ≡ read_all ws (6 - number) number bits s
turn_done ws number bits s t h e =
    ap (read_all ws (6 - (number + 1)) (number + 1) (bits / 2)) e ∙ sym (more-axes ws number bits s h)

pub returns-in_err-axis : goal.returns-in_err-axis
returns-in_err-axis c =
    let l = c.loop-slot in
    let ws = c.args.words.now in
    let x = c.in_err-axis in
    let turn = turn-set ws l.slot-index l.bits l.at l.slot-items c.if-bits-eq1.true (Err x.field-0.0) x.ensures in
    let none = stays ws (6 - (l.slot-index + 1)) (l.slot-index + 1) (l.bits / 2) x.field-0.0 in
    let p = err_from_is_err_and c.from_residual.result c.from_residual.ensures.1 in
    rw (p.1, p.2)
    (sym none
    ∙ turn_done ws l.slot-index l.bits (Ok (l.slot-items, l.at)) _ c.loop-slot-test.true turn
    ∙ l.invariant.reads)

pub loop-slot-preserved : goal.loop-slot-preserved
loop-slot-preserved c =
    let l = c.loop-slot in
    let ws = c.args.words.now in
    let b = c.if-bits-eq1 in
    let turn : Ok (b.slot-items, b.at) ≡ read_on ws l.slot-index l.bits (Ok (l.slot-items, l.at)) =
    elim b.branch [
      | then-bits-eq1+in_ok-axis w ↦
          ((λ i. Ok (w.slot-items-is i, w.at-is i))
          ∙ turn-set ws l.slot-index l.bits l.at l.slot-items w.if-bits-eq1.true
          (Ok (w.in_ok-axis.axis, w.in_ok-axis.after)) w.in_ok-axis.ensures)
      | else-bits-eq1 w ↦
          ((λ i. Ok (w.slot-items-is i, w.at-is i))
          ∙ ap (λ (six : List Axis). Ok (six, l.at)) (set-get_or l.slot-items l.slot-index _)
          ∙ turn-unset ws l.slot-index l.bits l.at l.slot-items w.if-bits-eq1.false)
    ] in
    let near : b.at ≤ l.at + 13 =
    elim b.branch [
      | then-bits-eq1+in_ok-axis w ↦
          omega (arith, axis-end ws l.at w.in_ok-axis.axis w.in_ok-axis.after w.in_ok-axis.ensures)
      | else-bits-eq1 w ↦ omega arith
    ] in
    record {
      within = omega arith;
      reads =
          turn_done ws l.slot-index l.bits (Ok (l.slot-items, l.at)) _ c.loop-slot-test.true turn
          ∙ l.invariant.reads;
    }

pub returns : goal.returns
returns c =
    let l = c.loop-slot in
    let ws = c.args.words.now in
    sym (no-axes ws l.slot-index l.bits (Ok (l.slot-items, l.at)) c.loop-slot-test.false) ∙ l.invariant.reads
