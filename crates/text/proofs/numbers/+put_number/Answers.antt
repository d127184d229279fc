use native.Mathlib.Omega.{arith}
use Rattle.text.proofs.numbers.Laws.{digit-index, written-digit, room-shorter, room-digit, written_last}
use Rattle.text.proofs.numbers.+put_number.Goals as goal

pub bounds-out-at : goal.bounds-out-at
bounds-out-at t c = digit-index c.requires c.if-x-lt10.true

pub returns-then-x-lt10 : goal.returns-then-x-lt10
returns-then-x-lt10 t c = written-digit c.requires c.if-x-lt10.true

pub put_number-last-requires : goal.put_number-last-requires
put_number-last-requires t c = (omega arith, room-shorter c.requires c.if-x-lt10.false)

pub bounds-out-last : goal.bounds-out-last
bounds-out-last t c = room-digit c.requires c.if-x-lt10.false c.put_number-last.ensures

pub overflow_add-result-2 : goal.overflow_add-result-2
overflow_add-result-2 t c = omega (arith, room-digit c.requires c.if-x-lt10.false c.put_number-last.ensures)

pub returns : goal.returns
returns t c = written_last c.requires c.if-x-lt10.false c.put_number-last.ensures
