use Prim.Native.Nat.{◌+◌}
use mathlib.Core.Path.{sym, ap, ◌∙◌}
use Rattle.words.specs.ByIndex.{run_by}
use Rattle.words.proofs.Run.{go_on, stop, ended, begun}
use Rattle.words.proofs.word.run_end.Goals as goal

pub loop-i-init : goal.loop-i-init
loop-i-init c =
    let a = c.args in
    begun a.words.now a.at a.first a.count

pub returns-then-not-is_kind : goal.returns-then-not-is_kind
returns-then-not-is_kind c =
    let l = c.loop-i in
    let a = c.args in
    let e = sym c.is_kind.ensures ∙ c.if-not-is_kind.true in
    ap (run_by (a.at + a.count))
    (sym (stop a.words.now a.at a.first a.count l.i c.loop-i-test.true e) ∙ l.invariant)

pub loop-i-preserved : goal.loop-i-preserved
loop-i-preserved c =
    let l = c.loop-i in
    let a = c.args in
    let e = sym c.is_kind.ensures ∙ c.if-not-is_kind.false in
    sym (go_on a.words.now a.at a.first a.count l.i c.loop-i-test.true e) ∙ l.invariant

pub returns : goal.returns
returns c =
    let l = c.loop-i in
    let a = c.args in
    ap (run_by (a.at + a.count))
    (sym (ended a.words.now a.at a.first a.count l.i c.loop-i-test.false) ∙ l.invariant)
