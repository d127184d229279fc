use mathlib.Core.Path.{refl, ◌∙◌}
use Rattle.converter.proofs.Pieces.{parts_none, parts_more, piece-room, piece-written, nothing_written, all-written}
use Rattle.converter.proofs.put_words.Goals as goal

pub loop-i-init : goal.loop-i-init
loop-i-init c =
    let a = c.args in
    record {
      long = refl;
      parts = parts_none a.asked a.words.now;
      text = nothing_written a.asked a.words.now a.lent.now;
    }

pub put_word-at-requires-clause-room : goal.put_word-at-requires-clause-room
put_word-at-requires-clause-room c =
    let l = c.loop-i.invariant in
    let a = c.args in
    piece-room a.asked a.words.now c.loop-i-test.true l.parts c.requires.words_in_bounds l.text l.long

pub loop-i-preserved : goal.loop-i-preserved
loop-i-preserved c =
    let w = c.put_word-at in
    let l = c.loop-i in
    let a = c.args in
    record {
      long = w.auto.lent ∙ l.invariant.long;
      parts = parts_more a.asked a.words.now l.i c.loop-i-test.true l.invariant.parts;
      text = piece-written a.asked a.words.now c.loop-i-test.true l.invariant.parts
          c.requires.words_in_bounds l.invariant.text w.ensures;
    }

pub returns : goal.returns
returns c =
    let l = c.loop-i in
    let a = c.args in
    all-written a.asked a.words.now c.loop-i-test.false l.invariant.parts l.invariant.text
