use mathlib.Core.Path.{sym, ◌∙◌}
use Rattle.words.proofs.LongWords.{long-on, long-stop, long-ended, long-begun}
use Rattle.words.proofs.position.first_bad_long.Goals as goal

pub loop-i-init : goal.loop-i-init
loop-i-init c = long-begun c.args.words.now c.args.end

pub returns-then-is_bad_long : goal.returns-then-is_bad_long
returns-then-is_bad_long c =
    let l = c.loop-i in
    let a = c.args in
    let e = sym c.is_bad_long.ensures ∙ c.if-is_bad_long.true in
    sym (long-stop a.words.now a.end l.i c.loop-i-test.true e) ∙ l.invariant

pub loop-i-preserved : goal.loop-i-preserved
loop-i-preserved c =
    let l = c.loop-i in
    let a = c.args in
    let e = sym c.is_bad_long.ensures ∙ c.if-is_bad_long.false in
    sym (long-on a.words.now a.end l.i c.loop-i-test.true e) ∙ l.invariant

pub returns : goal.returns
returns c =
    let l = c.loop-i in
    let a = c.args in
    sym (long-ended a.words.now a.end l.i c.loop-i-test.false) ∙ l.invariant
