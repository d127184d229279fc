use mathlib.Core.Path.{◌≡◌}
use lib.ListN.{length}
use Rattle.whole.specs.Lists.{Written}
use Rattle.converter.proofs.Pieces.{pieces, Parts}
use Rattle.converter.proofs.put_words.Given as goal

abbrev pub invariant-loop-i : goal.invariant-loop-i
invariant-loop-i l =
    record {
      long : length l.lent ≡ length l.fn.lent;
      parts : Parts l.fn.asked l.fn.words l.i;
      text : Written l.fn.lent 0 (pieces l.fn.asked l.fn.words l.i) l.lent l.at;
    }
