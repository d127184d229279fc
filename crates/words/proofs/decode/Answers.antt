use Prim.Native.Nat.{ℕ}
use mathlib.Core.Path.{sym, ap, ◌∙◌}
use lib.ListN.{drop}
use Rattle.model.specs.planning.Words.{good_mask, after_mask}
use Rattle.words.specs.Decoding.{decided_job}
use Rattle.words.proofs.Typed.{decodes}
use Rattle.words.proofs.JobWords.{no_mask_word, bad_mask_word, good_mask_word}
use Rattle.words.proofs.decode.Goals as goal

pub returns-then-not-is_kind : goal.returns-then-not-is_kind
returns-then-not-is_kind c =
    let ws = c.args.words.now in
    decodes ws _ (no_mask_word ws (sym c.is_kind.ensures ∙ c.if-not-is_kind.true))

pub returns-then-not-mask_allowed : goal.returns-then-not-mask_allowed
returns-then-not-mask_allowed c =
    let ws = c.args.words.now in
    let mask = ap (λ (m : ℕ). good_mask m) (sym c.payload-mask.ensures) in
    decodes ws _ (bad_mask_word ws (mask ∙ sym c.mask_allowed.ensures ∙ c.if-not-mask_allowed.true))

pub returns : goal.returns
returns c =
    let ws = c.args.words.now in
    let mask = ap (λ (m : ℕ). good_mask m) (sym c.payload-mask.ensures) in
    let kind = sym c.is_kind.ensures ∙ c.if-not-is_kind.false in
    let good = mask ∙ sym c.mask_allowed.ensures ∙ c.if-not-mask_allowed.false in
    let after = ap (λ (m : ℕ). decided_job ws (after_mask m 1 (drop 1 ws))) c.payload-mask.ensures in
    decodes ws _ (c.decode_after_mask.ensures ∙ after ∙ good_mask_word ws kind good)
