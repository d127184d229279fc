-- `words_of`: the first i words stand in front.
use Rattle.std.proofs.Common.{◌≡◌, length, take}
use Rattle.whole.specs.Lists.{Written}
use Rattle.text.proofs.words.Laws.{kept}
use Rattle.text.proofs.words.words_of.Given as goal

abbrev pub invariant-loop-i : goal.invariant-loop-i
invariant-loop-i l =
    record {
      long : length l.words ≡ length l.initial.words;
      text : Written l.initial.words 0 (take l.i (kept l.fn.bytes l.initial.words)) l.words l.i;
    }
