use Rattle.text.proofs.lines.Laws.{space-index, sign-index, below-room, below-done, natural-room, natural-done}
use Rattle.text.proofs.lines.put_cell.Goals as goal

pub bounds-out-at : goal.bounds-out-at
bounds-out-at c =
    space-index c.args.x c.ranges.x c.unsigned_abs-n.ensures.value c.requires

pub bounds-out-at-then-x-lt0 : goal.bounds-out-at-then-x-lt0
bounds-out-at-then-x-lt0 c =
    sign-index c.args.x c.ranges.x c.unsigned_abs-n.ensures.value c.requires c.if-x-lt0.true _

pub put_number-requires : goal.put_number-requires
put_number-requires c =
    below-room c.args.x c.ranges.x c.unsigned_abs-n.ensures.value c.requires c.if-x-lt0.true _ _

pub returns-then-x-lt0 : goal.returns-then-x-lt0
returns-then-x-lt0 c =
    below-done c.args.x c.ranges.x c.unsigned_abs-n.ensures.value c.requires
    c.if-x-lt0.true c.put_number.ensures

pub put_number-requires-2 : goal.put_number-requires-2
put_number-requires-2 c =
    natural-room c.args.x c.ranges.x c.unsigned_abs-n.ensures.value c.requires c.if-x-lt0.false _

pub returns : goal.returns
returns c =
    natural-done c.args.x c.ranges.x c.unsigned_abs-n.ensures.value c.requires
    c.if-x-lt0.false c.put_number-2.ensures
