use Rattle.std.proofs.Common.{◌≡◌, ℕ, ◌*◌, ◌<◌, length, take, refl, ◌∙◌, subst, arith}
use lib.ListN.{length-set}
use Rattle.whole.specs.Lists.{WrittenAtStart}
use Rattle.model.specs.calls.Bytes.{words_of}
use Rattle.text.proofs.words.Laws.{words-none, words-turn, words-done}
use Rattle.text.proofs.words.words_of.Goals as goal

pub loop-i-init : goal.loop-i-init
loop-i-init c = record { long = refl; text = words-none c.args.bytes.now c.args.words.now }

pub loop-i-preserved : goal.loop-i-preserved
loop-i-preserved c =
    let l = c.loop-i in
    let inside : l.i < length c.args.words.now = omega arith in
    record {
      long = length-set l.words l.i c.word.result ∙ l.invariant.long;
      text = words-turn c.args.bytes.now c.args.words.now inside (omega arith) c.word.ensures l.invariant.text;
    }

pub returns : goal.returns
returns c =
    let l = c.loop-i in
    let a = c.args in
    let all : l.i ≡ c.min-count.result = omega arith in
    subst (λ (r : ℕ). WrittenAtStart a.words.now (words_of (take (4 * length a.words.now) a.bytes.now)) l.words r) all
    (words-done a.bytes.now a.words.now l.i (omega arith) l.invariant.text)
