use mathlib.Core.Path.{◌≡◌}
use Rattle.words.specs.ByIndex.{first_wrong}
use Rattle.words.proofs.Run.{from}
use Rattle.words.proofs.word.run_end.Given as goal

abbrev pub invariant-loop-i : goal.invariant-loop-i
invariant-loop-i l =
    from l.fn.words l.fn.at l.fn.first l.fn.count l.i ≡ first_wrong l.fn.words l.fn.at l.fn.first l.fn.count
