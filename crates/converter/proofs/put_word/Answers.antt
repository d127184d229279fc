use Prim.Native.Nat.{ℕ, ◌+◌, ◌<◌}
use native.Mathlib.Omega.{arith}
use mathlib.Core.Path.{sym, subst, ◌∙◌}
use lib.ListN.{set, length-set}
use Rattle.converter.proofs.Pieces.{one-fits, three-fit, three-written, one_written}
use Rattle.converter.proofs.put_word.Goals as goal

pub bounds-lent-at : goal.bounds-lent-at
bounds-lent-at c =
    let a = c.args in
    one-fits a.lent.now a.at a.asked a.words.now a.i c.requires.room

pub bounds-lent-at-then-flying : goal.bounds-lent-at-then-flying
bounds-lent-at-then-flying c =
    let a = c.args in
    let flies = sym c.is_flying-flying.ensures ∙ c.if-flying.true in
    let fits = three-fit a.lent.now a.at a.asked a.words.now a.i c.requires.room flies in
    subst (λ (n : ℕ). a.at + 1 < n) (sym (length-set a.lent.now a.at _)) (omega arith)

pub bounds-lent-at-then-flying-2 : goal.bounds-lent-at-then-flying-2
bounds-lent-at-then-flying-2 c =
    let a = c.args in
    let flies = sym c.is_flying-flying.ensures ∙ c.if-flying.true in
    let fits = three-fit a.lent.now a.at a.asked a.words.now a.i c.requires.room flies in
    let l = length-set (set a.lent.now a.at _) (a.at + 1) _ ∙ length-set a.lent.now a.at _ in
    subst (λ (n : ℕ). a.at + 2 < n) (sym l) (omega arith)

pub returns-then-flying : goal.returns-then-flying
returns-then-flying c =
    let a = c.args in
    three-written a.lent.now a.at a.asked a.words.now a.i c.requires.room
    (sym c.is_flying-flying.ensures ∙ c.if-flying.true)

pub returns : goal.returns
returns c =
    let a = c.args in
    one_written a.lent.now a.at a.asked a.words.now a.i c.requires.room
    (sym c.is_flying-flying.ensures ∙ c.if-flying.false)
