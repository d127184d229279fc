-- The segments of the planned velocities, and of the blends of them.
use mathlib.Core.Path.{◌≡◌, sym, ap, subst, ◌∙◌}
use mathlib.Core.List.{[], ◌∷◌}
use Prim.Native.Nat.{ℕ, suc, ◌+◌, ◌-◌, ◌<◌, ◌≤◌}
use native.Mathlib.Omega.{arith}
use native.Mathlib.Decide.{dec_lt}
use lib.Dec.{ltb, ltb→lt, nltb→le}
use lib.IntN.{ℤ, pos, ◌+ℤ◌, ◌-ℤ◌, ◌*ℤ◌}
use Rattle.whole.specs.Ranges.{Within}
use Rattle.whole.proofs.Ring.{pol, same}
use Rattle.whole.proofs.Tests.{by_bool}
use Rattle.std.specs.Prelude.{Option}
use Rattle.regions.specs.declared.Regions.{Regions}
use Rattle.regions.proofs.ChosenRegions.{in_start, in_end, in-raised, in-level}
use Rattle.planned.specs.declared.AxisPlan.{AxisPlan}
use Rattle.segments.specs.declared.Segment.{Segment}
use Rattle.planned.specs.Plans.{planned_at, velocity_back}
use Rattle.blended.specs.BlendedStates.{mix, blended_back, added, blended_velocity}
use Rattle.segments.specs.Segments.{SegmentOf, SegmentAt, fall_begins, raised_until, shared}
use Rattle.planned.proofs.Velocities.{planned-before, lands, goes_on, back-late, back_early}

-- ---- any velocities

nothing : (x : ℤ) → x ≡ x +ℤ pos 0
nothing x = same (x ∷ []) (search pol depth 20 fits 9000) tt

-- a change of c in each tick from a on and before b
abbrev pub over : ℤ → ℕ → ℕ → Segment
over c a b = record { change = c; from = a; until = b }

-- a segment that has tick k, its change being c in the code and d in a law
pub segment-at : {n b k f u : ℕ} {v : ℕ → ℤ} {c d : ℤ} → SegmentOf v (over d f u) → c ≡ d
    → f ≤ k → k < u → u ≤ n → Within b d
    → SegmentAt n b v k (over c f u)
segment-at {n} {b} {k} {f} {u} {v} o e first last end w =
    subst (λ (z : ℤ). SegmentAt n b v k (over z f u)) (sym e)
    (record { segment = o; from = first; until = last; short = end; small = w })

-- one tick alone
pub segment-once : (v : ℕ → ℤ) (k : ℕ) → SegmentOf v (over (v (suc k) -ℤ v k) k (k + 1))
segment-once v k =
    record {
      even = λ j h l. subst (λ (i : ℕ). v (suc i) ≡ v i +ℤ (v (suc k) -ℤ v k)) {x = k} {y = j}
          (omega arith) (made (v (suc k)) (v k));
    }
  where
    made : (x y : ℤ) → x ≡ y +ℤ (x -ℤ y)
    made x y = same (x ∷ y ∷ []) (search pol depth 20 fits 9000) tt

-- velocities that are the same
pub segment-same : {f g : ℕ → ℤ} {q : Segment} → ((j : ℕ) → f j ≡ g j) → SegmentOf g q → SegmentOf f q
segment-same {q = q} e o =
    record { even = λ j h l. e (suc j) ∙ o.even j h l ∙ ap (λ (v : ℤ). v +ℤ q.change) (sym (e j)) }

-- the ticks that two segments have in common
module _ {f g : ℕ → ℤ} {q r : Segment} (o : SegmentOf f q) (u : SegmentOf g r) where
  pub segment-mix : (a b : ℕ) → SegmentOf (λ j. mix a b (f j) (g j)) (shared (mix a b q.change r.change) q r)
  segment-mix a b =
      record {
        even = λ j h l.
            (λ i. mix a b (o.even j (omega arith) (omega arith) i) (u.even j (omega arith) (omega arith) i))
            ∙ ring (pos a) (pos b) (f j) (g j) q.change r.change;
      }
    where
      ring : (a b x y c d : ℤ) → a *ℤ (x +ℤ c) +ℤ b *ℤ (y +ℤ d) ≡ (a *ℤ x +ℤ b *ℤ y) +ℤ (a *ℤ c +ℤ b *ℤ d)
      ring a b x y c d = same (a ∷ b ∷ x ∷ y ∷ c ∷ d ∷ []) (search pol depth 20 fits 9000) tt

  pub segment-sum : SegmentOf (λ j. f j +ℤ g j) (shared (q.change +ℤ r.change) q r)
  segment-sum =
      record {
        even = λ j h l. (λ i. o.even j (omega arith) (omega arith) i +ℤ u.even j (omega arith) (omega arith) i)
            ∙ ring (f j) (g j) q.change r.change;
      }
    where
      ring : (x y c d : ℤ) → (x +ℤ c) +ℤ (y +ℤ d) ≡ (x +ℤ y) +ℤ (c +ℤ d)
      ring x y c d = same (x ∷ y ∷ c ∷ d ∷ []) (search pol depth 20 fits 9000) tt

-- they have tick k where both have it
pub shared_at : {n b d k : ℕ} {f g h : ℕ → ℤ} {q r : Segment} {c e : ℤ} → SegmentAt n b f k q → SegmentAt n b g k r
    → SegmentOf h (shared e q r) → c ≡ e → Within d e → SegmentAt n d h k (shared c q r)
shared_at s t o e w =
    segment-at o e (omega (arith, s.from, t.from)) (omega (arith, s.until, t.until))
    (omega (arith, s.short, t.short)) w

-- ---- the regions: where the ramp to the end begins, and where the raised ticks end

module _ (r : Regions) where
  pub record Falls (j : ℕ) : Type 0 where
    pub risen : r.rise < j
    pub falls : r.ticks ≤ j + r.fall

  pub fall-from : (j : ℕ) → fall_begins r ≤ j → Falls j
  fall-from j =
      by_bool (λ (a : ℕ). a ≤ j → Falls j) (ltb (r.rise + r.fall) r.ticks) _ _
      (λ t h. let s = ltb→lt (r.rise + r.fall) r.ticks t in record { risen = omega arith; falls = omega arith })
      (λ t h. let s = nltb→le (r.rise + r.fall) r.ticks t in record { risen = omega arith; falls = omega arith })

  pub fall-first : (j : ℕ) → r.rise < j → r.ticks ≤ j + r.fall → fall_begins r ≤ j
  fall-first j p q =
      by_bool (λ (a : ℕ). a ≤ j) (ltb (r.rise + r.fall) r.ticks) _ _ (λ t. omega arith) (λ t. omega arith)

  module _ (n : ℕ) (h : r.rise ≤ n) where
    pub record Raised (j : ℕ) : Type 0 where
      pub inside : j ≤ n
      pub raised : j - r.rise ≤ r.raised

    pub raised-to : (j : ℕ) → j ≤ raised_until r n → Raised j
    raised-to j =
        by_bool (λ (a : ℕ). j ≤ a → Raised j) (ltb r.raised (n - r.rise)) _ _
        (λ t l. let s = ltb→lt r.raised (n - r.rise) t in record { inside = omega arith; raised = omega arith })
        (λ t l. let s = nltb→le r.raised (n - r.rise) t in record { inside = omega arith; raised = omega arith })

    pub record Unraised (j : ℕ) : Type 0 where
      pub risen : r.rise < j
      pub unraised : r.raised < j - r.rise

    pub raised-before : (j : ℕ) → j ≤ n → raised_until r n < j → Unraised j
    raised-before j l =
        by_bool (λ (a : ℕ). a < j → Unraised j) (ltb r.raised (n - r.rise)) _ _
        (λ t q. record { risen = omega arith; unraised = omega arith })
        (λ t q. absurd (omega arith))

    pub raised-last : raised_until r n ≤ n
    raised-last =
        by_bool (λ (a : ℕ). a ≤ n) (ltb r.raised (n - r.rise)) _ _
        (λ t. let s = ltb→lt r.raised (n - r.rise) t in omega arith) (λ t. omega arith)

-- ---- the planned velocities

module _ (p : AxisPlan) where
  abbrev g : Regions
  g = p.regions

  -- from the landing on
  pub segment-landed : (n : ℕ) → SegmentOf (planned_at p) (over p.acceleration g.ticks n)
  segment-landed n = record { even = λ j h l. sym (goes_on p j h) }

  -- on the ramp from the start
  pub segment-rising : g.rise < g.ticks → SegmentOf (planned_at p) (over g.up 0 g.rise)
  segment-rising h =
      record {
        even = λ j _ l. rises (suc j) (omega arith) ∙ more j
            ∙ ap (λ (v : ℤ). v +ℤ g.up) (sym (rises j (omega arith)));
      }
    where
      rises : (j : ℕ) → j ≤ g.rise → planned_at p j ≡ g.start +ℤ pos j *ℤ g.up
      rises j l = sym (planned-before p j (omega arith)) ∙ in_start g j l

      ring : (v j a : ℤ) → v +ℤ (j +ℤ pos 1) *ℤ a ≡ v +ℤ j *ℤ a +ℤ a
      ring v j a = same (v ∷ j ∷ a ∷ []) (search pol depth 20 fits 9000) tt

      more : (j : ℕ) → g.start +ℤ pos (suc j) *ℤ g.up ≡ g.start +ℤ pos j *ℤ g.up +ℤ g.up
      more j =
          ap (λ (i : ℕ). g.start +ℤ pos i *ℤ g.up) {x = suc j} {y = j + 1} (omega arith)
          ∙ ring g.start (pos j) g.up

  -- on the ramp to the end, up to the landing
  pub segment-falling : SegmentOf (planned_at p) (over (pos 0 -ℤ g.down) (fall_begins g) g.ticks)
  segment-falling =
      record {
        even = λ j h l. falls (suc j) (fall-from g (suc j) (omega arith)) (omega arith)
            ∙ less j l
            ∙ ap (λ (v : ℤ). v +ℤ (pos 0 -ℤ g.down)) (sym (falls j (fall-from g j h) (omega arith)));
      }
    where
      none : (v a : ℤ) → v ≡ v +ℤ pos 0 *ℤ a
      none v a = same (v ∷ a ∷ []) (search pol depth 20 fits 9000) tt

      falls : (j : ℕ) → Falls g j → j ≤ g.ticks → planned_at p j ≡ g.end +ℤ pos (g.ticks - j) *ℤ g.down
      falls j f l = go (dec_lt j g.ticks)
        where
          go : Dec (j < g.ticks) → planned_at p j ≡ g.end +ℤ pos (g.ticks - j) *ℤ g.down
          go (Dec.yes q) = sym (planned-before p j q) ∙ in_end g j f.risen f.falls
          go (Dec.no q) =
              sym (lands p j (omega arith))
              ∙ none g.end g.down
              ∙ ap (λ (i : ℕ). g.end +ℤ pos i *ℤ g.down) {x = 0} {y = g.ticks - j} (omega arith)

      ring : (v j a : ℤ) → v +ℤ j *ℤ a ≡ v +ℤ (j +ℤ pos 1) *ℤ a +ℤ (pos 0 -ℤ a)
      ring v j a = same (v ∷ j ∷ a ∷ []) (search pol depth 20 fits 9000) tt

      less : (j : ℕ) → j < g.ticks
          → g.end +ℤ pos (g.ticks - suc j) *ℤ g.down ≡ g.end +ℤ pos (g.ticks - j) *ℤ g.down +ℤ (pos 0 -ℤ g.down)
      less j l =
          ring g.end (pos (g.ticks - suc j)) g.down
          ∙ ap (λ (i : ℕ). g.end +ℤ pos i *ℤ g.down +ℤ (pos 0 -ℤ g.down)) {x = g.ticks - suc j + 1}
          {y = g.ticks - j} (omega arith)

  -- on the level part, whose last tick is n
  module _ (n : ℕ) (h : g.rise ≤ n) (end : suc (n + g.fall) ≡ g.ticks) where
    pub segment-raised : SegmentOf (planned_at p) (over (pos 0) (g.rise + 1) (raised_until g n))
    segment-raised =
        record {
          even = λ j a b. at (suc j) (omega arith) b ∙ nothing _
              ∙ ap (λ (v : ℤ). v +ℤ pos 0) (sym (at j (omega arith) (omega arith)));
        }
      where
        at : (j : ℕ) → g.rise < j → j ≤ raised_until g n → planned_at p j ≡ g.cruise +ℤ pos 1
        at j a b =
            let q = raised-to g n h j b in
            let i = q.inside in
            sym (planned-before p j (omega arith)) ∙ in-raised g j a (omega arith) q.raised

    pub segment-level : SegmentOf (planned_at p) (over (pos 0) (raised_until g n + 1) n)
    segment-level =
        record {
          even = λ j a b. at (suc j) (omega arith) b ∙ nothing _
              ∙ ap (λ (v : ℤ). v +ℤ pos 0) (sym (at j a (omega arith)));
        }
      where
        at : (j : ℕ) → raised_until g n + 1 ≤ j → j ≤ n → planned_at p j ≡ g.cruise
        at j a b =
            let q = raised-before g n h j b (omega arith) in
            sym (planned-before p j (omega arith)) ∙ in-level g j q.risen (omega arith) q.unraised

-- ---- d ticks before

module _ (p : AxisPlan) (d : ℕ) where
  pub segment-back : {q : Segment} → SegmentOf (planned_at p) q
      → SegmentOf (velocity_back p d) (over q.change (q.from + d) (q.until + d))
  segment-back {q} o =
      record {
        even = λ j h l. sym (back-late p d (suc j) (omega arith))
            ∙ ap (planned_at p) {x = suc j - d} {y = suc (j - d)} (omega arith)
            ∙ o.even (j - d) (omega arith) (omega arith)
            ∙ ap (λ (v : ℤ). v +ℤ q.change) (back-late p d j (omega arith));
      }

  -- up to tick 0 of the planned motion
  pub segment-early : 0 < p.regions.ticks → SegmentOf (velocity_back p d) (over (pos 0) 0 d)
  segment-early some =
      record {
        even = λ j h l. sym (back_early p d (suc j) some (omega arith))
            ∙ nothing p.regions.start
            ∙ ap (λ (v : ℤ). v +ℤ pos 0) (back_early p d j some (omega arith));
      }

  -- ---- the blends

  pub segment-blend : {q r : Segment} → SegmentOf (velocity_back p d) q
      → SegmentOf (velocity_back p (d + p.half_period)) r
      → SegmentOf (blended_back p d) (shared (mix p.first_weight p.second_weight q.change r.change) q r)
  unfolding blended_back
  segment-blend o u = segment-mix o u p.first_weight p.second_weight

pub segment-added : (p : AxisPlan) {s : Option ℕ} {q : Segment} → p.second_sway ≡ s
    → SegmentOf (λ k. added s (λ d. blended_back p d k)) q
    → SegmentOf (blended_velocity p) q
unfolding blended_velocity
segment-added p e o = segment-same (λ k. ap (λ (s : Option ℕ). added s (λ d. blended_back p d k)) e) o
