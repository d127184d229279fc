use Rattle.std.proofs.Common.{◌∙◌, arith}
use Rattle.text.proofs.words.Laws.{word-four, word-short}
use Rattle.text.proofs.words.word.Goals as goal

pub returns-then-at-bytes : goal.returns-then-at-bytes
returns-then-at-bytes c = (omega (arith, c.from_le_bytes.ensures)) ∙ word-four c.args.bytes.now c.args.at (omega arith)

pub returns : goal.returns
returns c = word-short c.args.bytes.now c.args.at (omega arith)
