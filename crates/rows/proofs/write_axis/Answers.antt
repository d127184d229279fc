use mathlib.Core.Path.{◌≡◌, refl, sym, ap, subst, ◌∙◌}
use mathlib.Core.Bool.{true}
use Prim.Native.Nat.{ℕ, ◌^◌}
use mir.Syntax.{w64}
use mir.Val.{to_z, of_z}
use Rattle.whole.specs.Ranges.{Within}
use Rattle.whole.proofs.Bounds.{exact, exactly}
use Rattle.whole.specs.Lists.{over}
use Rattle.segments.specs.declared.Segment.{Segment}
use Rattle.segments.specs.Segments.{SegmentAt}
use Rattle.blended.specs.BlendedStates.{blended_velocity, cells_of}
use Rattle.cells.specs.declared.RowStates.{RowStates}
use Rattle.cells.specs.Rows.{kept_at, changed}
use Rattle.cells.proofs.OneRow.{Kept, kept}
use Rattle.rows.specs.declared.Track.{Track}
use Rattle.rows.specs.Table.{TrackAt}
use Rattle.rows.proofs.AxisRow.{row-planned, row-writable}
use Rattle.rows.proofs.write_axis.Goals as goal
use Rattle.rows.proofs.write_axis.Goals.{then-not-kept_at, else-not-kept_at}

-- the track u is t once its segment has tick k, whether it was held or is worked out
record Held (t : Track) (k : ℕ) (u : Track) : Type 0 where
  pub plan : u.plan ≡ t.plan
  pub state : u.state ≡ t.state
  pub kept : Kept t.plan k u.segment

held-anew : (t : Track) (k : ℕ) (q : Segment) → SegmentAt (2 ^ 14) (2 ^ 57) (blended_velocity t.plan) k q
    → Held t k (record { plan = t.plan; state = t.state; segment = q })
held-anew t k q s =
    record { plan = refl; state = refl; kept = record { segment = s.segment; from = s.from; until = s.until } }

held-still : (t : Track) (k : ℕ) {l : ℕ} → TrackAt t.plan l t → kept_at t.segment k ≡ true → Held t k t
held-still t k h e = record { plan = refl; state = refl; kept = kept t.plan k t.segment h.segment e }

pub row_states-row-requires-clause-within : goal.row_states-row-requires-clause-within
row_states-row-requires-clause-within c =
    let t = c.args.track.now in
    let u = c.if-not-kept_at.track in
    let h : Held t c.args.k u = elim c.if-not-kept_at.branch [
      | then-not-kept_at w ↦
          subst (Held t c.args.k) (sym w.track-is) (held-anew t c.args.k _ w.segment_at-track.ensures)
      | else-not-kept_at w ↦
          subst (Held t c.args.k) (sym w.track-is)
          (held-still t c.args.k c.requires.on_track (sym w.if-not-kept_at.ensures))
    ] in
    let w = row-writable h.kept c.args.order u.state (h.state ∙ c.requires.on_track.state)
    c.requires.plan_ranges c.requires.k_bound in
    w.position

pub row_states-row-requires-clause-within_2 : goal.row_states-row-requires-clause-within_2
row_states-row-requires-clause-within_2 c =
    let t = c.args.track.now in
    let u = c.if-not-kept_at.track in
    let h : Held t c.args.k u = elim c.if-not-kept_at.branch [
      | then-not-kept_at w ↦
          subst (Held t c.args.k) (sym w.track-is) (held-anew t c.args.k _ w.segment_at-track.ensures)
      | else-not-kept_at w ↦
          subst (Held t c.args.k) (sym w.track-is)
          (held-still t c.args.k c.requires.on_track (sym w.if-not-kept_at.ensures))
    ] in
    let w = row-writable h.kept c.args.order u.state (h.state ∙ c.requires.on_track.state)
    c.requires.plan_ranges c.requires.k_bound in
    w.velocity

pub row_states-row-requires-clause-within_3 : goal.row_states-row-requires-clause-within_3
row_states-row-requires-clause-within_3 c =
    let t = c.args.track.now in
    let u = c.if-not-kept_at.track in
    let h : Held t c.args.k u = elim c.if-not-kept_at.branch [
      | then-not-kept_at w ↦
          subst (Held t c.args.k) (sym w.track-is) (held-anew t c.args.k _ w.segment_at-track.ensures)
      | else-not-kept_at w ↦
          subst (Held t c.args.k) (sym w.track-is)
          (held-still t c.args.k c.requires.on_track (sym w.if-not-kept_at.ensures))
    ] in
    let w = row-writable h.kept c.args.order u.state (h.state ∙ c.requires.on_track.state)
    c.requires.plan_ranges c.requires.k_bound in
    let d = w.change in
    let e : to_z w64 (of_z w64 u.segment.change) ≡ u.segment.change = exactly (search exact depth 9) tt in
    subst (Within (2 ^ 47)) (sym e) w.change

pub write_cells-requires-clause-within : goal.write_cells-requires-clause-within
write_cells-requires-clause-within c =
    let t = c.args.track.now in
    let u = c.if-not-kept_at.track in
    let h : Held t c.args.k u = elim c.if-not-kept_at.branch [
      | then-not-kept_at w ↦
          subst (Held t c.args.k) (sym w.track-is) (held-anew t c.args.k _ w.segment_at-track.ensures)
      | else-not-kept_at w ↦
          subst (Held t c.args.k) (sym w.track-is)
          (held-still t c.args.k c.requires.on_track (sym w.if-not-kept_at.ensures))
    ] in
    let w = row-writable h.kept c.args.order u.state (h.state ∙ c.requires.on_track.state)
    c.requires.plan_ranges c.requires.k_bound in
    let d = w.change in
    let e : to_z w64 (of_z w64 u.segment.change) ≡ u.segment.change = exactly (search exact depth 9) tt in
    subst (λ (z : RowStates). Within (2 ^ 61) z.now.position)
    (sym (c.row_states-row.ensures ∙ ap (changed c.args.order u.state) e)) w.written

pub write_cells-requires-clause-within_2 : goal.write_cells-requires-clause-within_2
write_cells-requires-clause-within_2 c =
    let t = c.args.track.now in
    let u = c.if-not-kept_at.track in
    let h : Held t c.args.k u = elim c.if-not-kept_at.branch [
      | then-not-kept_at w ↦
          subst (Held t c.args.k) (sym w.track-is) (held-anew t c.args.k _ w.segment_at-track.ensures)
      | else-not-kept_at w ↦
          subst (Held t c.args.k) (sym w.track-is)
          (held-still t c.args.k c.requires.on_track (sym w.if-not-kept_at.ensures))
    ] in
    let w = row-writable h.kept c.args.order u.state (h.state ∙ c.requires.on_track.state)
    c.requires.plan_ranges c.requires.k_bound in
    let d = w.change in
    let e : to_z w64 (of_z w64 u.segment.change) ≡ u.segment.change = exactly (search exact depth 9) tt in
    subst (λ (z : RowStates). Within (2 ^ 46) z.now.velocity)
    (sym (c.row_states-row.ensures ∙ ap (changed c.args.order u.state) e)) w.now

pub write_cells-requires-clause-within_3 : goal.write_cells-requires-clause-within_3
write_cells-requires-clause-within_3 c =
    let t = c.args.track.now in
    let u = c.if-not-kept_at.track in
    let h : Held t c.args.k u = elim c.if-not-kept_at.branch [
      | then-not-kept_at w ↦
          subst (Held t c.args.k) (sym w.track-is) (held-anew t c.args.k _ w.segment_at-track.ensures)
      | else-not-kept_at w ↦
          subst (Held t c.args.k) (sym w.track-is)
          (held-still t c.args.k c.requires.on_track (sym w.if-not-kept_at.ensures))
    ] in
    let w = row-writable h.kept c.args.order u.state (h.state ∙ c.requires.on_track.state)
    c.requires.plan_ranges c.requires.k_bound in
    let d = w.change in
    let e : to_z w64 (of_z w64 u.segment.change) ≡ u.segment.change = exactly (search exact depth 9) tt in
    subst (λ (z : RowStates). Within (2 ^ 46) z.next.velocity)
    (sym (c.row_states-row.ensures ∙ ap (changed c.args.order u.state) e)) w.next

pub returns-clause-cells : goal.returns-clause-cells
returns-clause-cells c =
    let t = c.args.track.now in
    let u = c.if-not-kept_at.track in
    let h : Held t c.args.k u = elim c.if-not-kept_at.branch [
      | then-not-kept_at w ↦
          subst (Held t c.args.k) (sym w.track-is) (held-anew t c.args.k _ w.segment_at-track.ensures)
      | else-not-kept_at w ↦
          subst (Held t c.args.k) (sym w.track-is)
          (held-still t c.args.k c.requires.on_track (sym w.if-not-kept_at.ensures))
    ] in
    let w = row-writable h.kept c.args.order u.state (h.state ∙ c.requires.on_track.state)
    c.requires.plan_ranges c.requires.k_bound in
    let d = w.change in
    let e : to_z w64 (of_z w64 u.segment.change) ≡ u.segment.change = exactly (search exact depth 9) tt in
    let is = c.row_states-row.ensures ∙ ap (changed c.args.order u.state) e
    ∙ row-planned h.kept c.args.order u.state (h.state ∙ c.requires.on_track.state) in
    c.write_cells.ensures ∙ ap (λ (z : RowStates). over c.args.table.now c.args.at (cells_of z.now z.next)) is

pub returns-clause-goes_on : goal.returns-clause-goes_on
returns-clause-goes_on c =
    let t = c.args.track.now in
    let u = c.if-not-kept_at.track in
    let h : Held t c.args.k u = elim c.if-not-kept_at.branch [
      | then-not-kept_at w ↦
          subst (Held t c.args.k) (sym w.track-is) (held-anew t c.args.k _ w.segment_at-track.ensures)
      | else-not-kept_at w ↦
          subst (Held t c.args.k) (sym w.track-is)
          (held-still t c.args.k c.requires.on_track (sym w.if-not-kept_at.ensures))
    ] in
    let w = row-writable h.kept c.args.order u.state (h.state ∙ c.requires.on_track.state)
    c.requires.plan_ranges c.requires.k_bound in
    let d = w.change in
    let e : to_z w64 (of_z w64 u.segment.change) ≡ u.segment.change = exactly (search exact depth 9) tt in
    let is = c.row_states-row.ensures ∙ ap (changed c.args.order u.state) e
    ∙ row-planned h.kept c.args.order u.state (h.state ∙ c.requires.on_track.state) in
    record { plan = h.plan; state = ap (λ (z : RowStates). z.onward) is; segment = h.kept.segment }
