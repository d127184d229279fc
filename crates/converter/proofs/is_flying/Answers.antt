use mathlib.Core.Path.{◌≡◌, ◌∙◌}
use Rattle.converter.proofs.Pieces.{moves_at, of-kind, not-kind, by_next, at_rest}
use Rattle.converter.proofs.is_flying.Goals as goal
use Rattle.converter.proofs.is_flying.Goals.{then-is_kind, else-is_kind}

pub returns-then-payload-ne0 : goal.returns-then-payload-ne0
returns-then-payload-ne0 c =
    let ws = c.args.words.now in
    let i = c.args.i in
    let v = c.if-is_kind in
    let moves : v.value ≡ moves_at ws i =
    elim v.branch [
      | then-is_kind w ↦ (w.value-is ∙ of-kind ws i c.is_kind.ensures w.if-is_kind.true w.payload.ensures)
      | else-is_kind w ↦ (w.value-is ∙ not-kind ws i c.is_kind.ensures w.if-is_kind.false)
    ] in
    by_next ws i moves c.if-payload-ne0.true c.is_kind-then-payload-ne0.ensures

pub returns-else-payload-ne0 : goal.returns-else-payload-ne0
returns-else-payload-ne0 c =
    let ws = c.args.words.now in
    let i = c.args.i in
    let v = c.if-is_kind in
    let moves : v.value ≡ moves_at ws i =
    elim v.branch [
      | then-is_kind w ↦ (w.value-is ∙ of-kind ws i c.is_kind.ensures w.if-is_kind.true w.payload.ensures)
      | else-is_kind w ↦ (w.value-is ∙ not-kind ws i c.is_kind.ensures w.if-is_kind.false)
    ] in
    at_rest ws i moves c.if-payload-ne0.false
