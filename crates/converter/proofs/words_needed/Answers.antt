use native.Mathlib.Omega.{arith}
use Rattle.converter.proofs.Pieces.{count-more}
use Rattle.converter.proofs.words_needed.Goals as goal

pub loop-i-preserved : goal.loop-i-preserved
loop-i-preserved c =
    let p = c.piece_length-needed in
    let l = c.loop-i in
    let a = c.args in
    record {
      few = omega (arith, l.invariant.few, p.ensures.upper_bound);
      counted =
          count-more a.words.now l.i l.needed p.result (omega arith) p.ensures.value l.invariant.counted;
    }
