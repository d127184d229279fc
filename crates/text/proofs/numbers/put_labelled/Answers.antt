use Rattle.std.proofs.Common.{◌≡◌, ◌+◌, ◌-◌, ◌++◌, List, ℕ, length, take, drop, refl, sym, ap, ◌∙◌, arith}
use mathlib.Core.List.{append_assoc}
use lib.Seq.{drop-drop}
use borrow.Rule.Slice.PartMut.{put_mid}
use Rattle.whole.specs.Lists.{over, Written}
use Rattle.text.proofs.numbers.Laws.{label-fits, number-room, number-done}
use Rattle.text.proofs.numbers.put_labelled.Goals as goal

-- what is copied stands in the place of the part
copied : (t label part : List ℕ) (i : ℕ) → part ≡ label
    → Written t i label (put_mid i (i + length label - i) t part) (i + length label)
unfolding over
copied t label part i e =
    let size : i + (i + length label - i) ≡ i + length label = omega arith in
    let rest = drop-drop (i + length label - i) i t ∙ ap (λ (n : ℕ). drop n t) size in
    record {
      list = (λ j. take i t ++ (e j ++ rest j)) ∙ sym (append_assoc (take i t) label (drop (i + length label) t));
      next = refl;
    }

pub slice_bounds-copy_from_slice-end : goal.slice_bounds-copy_from_slice-end
slice_bounds-copy_from_slice-end c =
    let fits = label-fits c.args.label.now c.args.x c.requires in
    omega arith

pub put_number-requires : goal.put_number-requires
put_number-requires c =
    number-room c.args.label.now c.args.x c.requires
    (copied _ _ _ _ c.copy_from_slice.ensures.after)

pub returns : goal.returns
returns c =
    number-done c.args.label.now c.args.x c.requires
    (copied _ _ _ _ c.copy_from_slice.ensures.after) c.put_number.ensures
