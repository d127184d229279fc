use Rattle.model.specs.planning.Outcome.{outcome_of}
use Rattle.text.proofs.Enough.{put-accepted, put-short, put_refused}
use Rattle.text.proofs.answer_text.Goals as goal

pub returns-then-answer-eq0 : goal.returns-then-answer-eq0
returns-then-answer-eq0 c =
    let s = c.args in
    put-accepted (outcome_of s.answer s.table.now) c.if-answer-eq0.true
    c.put_table.ensures

pub returns-then-out-lt-REFUSAL_BYTES : goal.returns-then-out-lt-REFUSAL_BYTES
returns-then-out-lt-REFUSAL_BYTES c =
    let s = c.args in
    put-short (outcome_of s.answer s.table.now) c.if-answer-eq0.false c.if-out-lt-REFUSAL_BYTES.true

pub returns : goal.returns
returns c =
    let s = c.args in
    put_refused (outcome_of s.answer s.table.now) c.if-answer-eq0.false c.if-out-lt-REFUSAL_BYTES.false
    c.put_refusal.ensures
