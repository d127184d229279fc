-- The words of one axis: what the definitions read at an index, by the runs of its words.
use Prim.Native.Nat.{ℕ, ◌+◌, ◌≤◌}
use Rattle.whole.proofs.Tests.{either}
use native.Mathlib.Omega.{arith}
use mathlib.Core.Path.{◌≡◌, refl, sym, ap, subst, ◌∙◌}
use mathlib.Core.Bool.{Bool, true, false}
use mathlib.Core.Logic.{⊎_elim}
use mathlib.Core.List.{List}
use lib.IntN.{ℤ}
use lib.ListN.{length, drop}
use Rattle.std.specs.Prelude.{None}
use Rattle.std.specs.declared.result.Result.{Result}
use Rattle.std.specs.declared.result.Result.TheVariants.{Ok, Err}
use Rattle.model.specs.declared.refusal.Refusal.{Refusal}
use Rattle.model.specs.declared.Axis.{Axis}
use Rattle.model.specs.declared.Target.{Target}
use Rattle.model.specs.declared.Target.TheVariants.{Fixed, Moving}
use Rattle.model.specs.planning.Words.{Reading, got, wrong, Reader, ◌>>=◌, give, signed, next, position, target, axis}
use Rattle.theorems.proofs.words.Spelling.{assoc₂}
use Rattle.words.specs.ByIndex.{is_kind, skip_optional, first_wrong, signed_at, position_at, rest_at, state_at, axis_at}
use Rattle.words.specs.ByIndex.{axis_reading, run_end}
use Rattle.words.proofs.Reader.{on, next-is, step_field, step-signed, step-position, step-sway, skip-within}
use Rattle.words.proofs.Reader.{after, after_none, after-full, after_both, run-full, run-short, full-there}

module _ (ws : List ℕ) (i : ℕ) where
  -- the indices of the words of kinds 3 and 9, and where those of the target begin
  abbrev first : ℕ
  first = skip_optional ws i 14

  abbrev goal : ℕ
  goal = skip_optional ws (first + 6) 13

  abbrev ninth : ℕ
  ninth = skip_optional ws goal 14

  -- once the words of kinds 3 to 10 are there: a fixed target or, where a word
  -- of kind 11 follows, a moving one
  by-target : Bool → Reader Axis
  by-target b = λ j vs. ◌>>=◌ (target b (position_at ws goal) (signed_at ws (ninth + 1)))
      (λ g. give (axis_at ws i g)) j vs

  rest : ℕ → List ℕ → Reading Axis
  rest = λ j vs. ◌>>=◌ (next 11) by-target j vs

  -- once the words of kinds 3 to 8 are there, and that of kind 13 where it stands
  tail : ℕ → List ℕ → Reading Axis
  tail =
      λ j vs.
      ◌>>=◌ (position 9)
      (λ p. ◌>>=◌ (signed 10) (λ v. ◌>>=◌ (next 11) (λ b. ◌>>=◌ (target b p v) (λ g. give (axis_at ws i g))))) j vs

  axis-is : axis i (drop i ws) ≡ after ws first 3 6 (tail goal (drop goal ws))
  unfolding tail axis_at rest_at
  axis-is =
      step-position ws 3 5 i (first + 1) _ _ (omega arith)
      (step-signed ws 4 4 (first + 1) (first + 2) _ _ (omega arith)
      (step_field ws 5 3 (first + 2) (first + 3) _ _ (omega arith)
      (step_field ws 6 2 (first + 3) (first + 4) _ _ (omega arith)
      (step_field ws 7 1 (first + 4) (first + 5) _ _ (omega arith)
      (step_field ws 8 0 (first + 5) (first + 6) _ _ (omega arith)
      (step-sway ws (first + 6) _ ∙ after_none ws (first + 6) 9 _))))))

  tail-is : tail goal (drop goal ws) ≡ after ws ninth 9 2 (rest (ninth + 2) (drop (ninth + 2) ws))
  unfolding tail rest by-target
  tail-is =
      step-position ws 9 1 goal (ninth + 1) _ _ (omega arith)
      (step-signed ws 10 0 (ninth + 1) (ninth + 2) _ _ (omega arith)
      (after_none ws _ 11 _))

  rest-by : (b : Bool) → is_kind ws (ninth + 2) 11 ≡ b
      → rest (ninth + 2) (drop (ninth + 2) ws) ≡ by-target b (ninth + 2) (drop (ninth + 2) ws)
  unfolding rest
  rest-by b e = ap (on by-target) (next-is ws (ninth + 2) 11)
      ∙ ap (λ (m : Bool). by-target m (ninth + 2) (drop (ninth + 2) ws)) e

  -- a fixed target
  fixed : Axis
  fixed = axis_at ws i (Fixed (rest_at ws goal))

  rest-fixed : is_kind ws (ninth + 2) 11 ≡ false
      → rest (ninth + 2) (drop (ninth + 2) ws) ≡ got fixed (ninth + 2) (drop (ninth + 2) ws)
  unfolding fixed by-target rest_at
  rest-fixed e = rest-by false e

  -- a moving target
  moving : Axis
  moving = axis_at ws i (Moving (state_at ws goal))

  toward : ℤ → ℤ → Target
  toward a t =
      Moving (record {
        position = position_at ws goal;
        velocity = signed_at ws (ninth + 1);
        acceleration = a;
        tick = t;
      })

  rest-moving : is_kind ws (ninth + 2) 11 ≡ true
      → rest (ninth + 2) (drop (ninth + 2) ws)
      ≡ after ws (ninth + 2) 11 2 (got moving (ninth + 4) (drop (ninth + 4) ws))
  unfolding by-target toward moving state_at
  rest-moving e =
      rest-by true e
      ∙ assoc₂ (signed 11) (signed 12) toward (axis_at ws i) (ninth + 2) (drop (ninth + 2) ws)
      ∙ step-signed ws 11 1 (ninth + 2) (ninth + 3) _ _ (omega arith)
      (step-signed ws 12 0 (ninth + 3) (ninth + 4) _ _ (omega arith) (after_none ws _ 13 _))

  -- ---- what the code returns, at the indices that it comes to: s and e after the words of kinds 3
  -- to 8, g, t and f before and after those of kinds 9 and 10, l after those of kinds 11 and 12

  abbrev read : Result (Axis × ℕ) Refusal
  read = axis_reading (axis i (drop i ws))

  module _ (s : ℕ) (es : s ≡ first) where
    pub axis-short : (x : Refusal) → Err x ≡ run_end ws s 3 6 → Err x ≡ read
    axis-short x h =
        run-short ws first 3 6 x _ (h ∙ ap (λ (k : ℕ). run_end ws k 3 6) es) ∙ sym (ap axis_reading axis-is)

    module _ (e : ℕ) (he : Ok e ≡ run_end ws s 3 6) where
      full₁ : (first_wrong ws first 3 6 ≡ None) × (e ≡ first + 6)
      full₁ = run-full ws first 3 6 e (he ∙ ap (λ (k : ℕ). run_end ws k 3 6) es)

      pub start-there : first + 6 ≤ length ws
      start-there = full-there ws first 3 5 full₁.0

      module _ (g : ℕ) (eg : g ≡ skip_optional ws e 13) (t : ℕ) (et : t ≡ skip_optional ws g 14) where
        is-goal : g ≡ goal
        is-goal = eg ∙ ap (λ (k : ℕ). skip_optional ws k 13) full₁.1

        is-ninth : t ≡ ninth
        is-ninth = et ∙ ap (λ (k : ℕ). skip_optional ws k 14) is-goal

        -- the words of kinds 9 and 10 begin at most nine after i
        pub target-near : t ≤ i + 9
        target-near =
            omega (arith, is-ninth, skip-within ws i 14, skip-within ws (first + 6) 13, skip-within ws goal 14)

        axis-tail : axis i (drop i ws) ≡ after ws ninth 9 2 (rest (ninth + 2) (drop (ninth + 2) ws))
        axis-tail = axis-is ∙ after-full ws first 3 6 _ full₁.0 ∙ tail-is

        pub axis-half : (x : Refusal) → Err x ≡ run_end ws t 9 2 → Err x ≡ read
        axis-half x h =
            run-short ws ninth 9 2 x _ (h ∙ ap (λ (k : ℕ). run_end ws k 9 2) is-ninth)
            ∙ sym (ap axis_reading axis-tail)

        module _ (f : ℕ) (hf : Ok f ≡ run_end ws t 9 2) where
          full₂ : (first_wrong ws ninth 9 2 ≡ None) × (f ≡ ninth + 2)
          full₂ = run-full ws ninth 9 2 f (hf ∙ ap (λ (k : ℕ). run_end ws k 9 2) is-ninth)

          pub target-there : skip_optional ws g 14 + 2 ≤ length ws
          target-there = omega (arith, et, is-ninth, full-there ws ninth 9 1 full₂.0)

          pub fixed-near : f ≤ i + 11
          fixed-near = omega (arith, target-near, is-ninth, full₂.1)

          axis-rest : axis i (drop i ws) ≡ rest (ninth + 2) (drop (ninth + 2) ws)
          axis-rest = axis-tail ∙ after-full ws ninth 9 2 _ full₂.0

          kind-there : (b : Bool) → is_kind ws f 11 ≡ b → is_kind ws (ninth + 2) 11 ≡ b
          kind-there b e = sym (ap (λ (k : ℕ). is_kind ws k 11) full₂.1) ∙ e

          pub axis-fixed : is_kind ws f 11 ≡ false → Ok (axis_at ws i (Fixed (rest_at ws g)), f) ≡ read
          unfolding fixed
          axis-fixed k =
              (λ j. Ok (axis_at ws i (Fixed (rest_at ws (is-goal j))), full₂.1 j))
              ∙ sym (ap axis_reading (axis-rest ∙ rest-fixed (kind-there false k)))

          module _ (k : is_kind ws f 11 ≡ true) where
            axis-motion : axis i (drop i ws)
                ≡ after ws (ninth + 2) 11 2 (got moving (ninth + 4) (drop (ninth + 4) ws))
            axis-motion = axis-rest ∙ rest-moving (kind-there true k)

            pub axis-unfinished : (x : Refusal) → Err x ≡ run_end ws f 11 2 → Err x ≡ read
            axis-unfinished x h =
                run-short ws (ninth + 2) 11 2 x _ (h ∙ ap (λ (k : ℕ). run_end ws k 11 2) full₂.1)
                ∙ sym (ap axis_reading axis-motion)

            module _ (l : ℕ) (hl : Ok l ≡ run_end ws f 11 2) where
              full₃ : (first_wrong ws (ninth + 2) 11 2 ≡ None) × (l ≡ ninth + 2 + 2)
              full₃ = run-full ws (ninth + 2) 11 2 l (hl ∙ ap (λ (k : ℕ). run_end ws k 11 2) full₂.1)

              pub motion-there : skip_optional ws g 14 + 4 ≤ length ws
              motion-there = omega (arith, et, is-ninth, full-there ws (ninth + 2) 11 1 full₃.0)

              pub axis-moving : Ok (axis_at ws i (Moving (state_at ws g)), l) ≡ read
              unfolding moving
              axis-moving =
                  let end : l ≡ ninth + 4 = omega (arith, full₃.1) in
                  (λ j. Ok (axis_at ws i (Moving (state_at ws (is-goal j))), end j))
                  ∙ sym (ap axis_reading (axis-motion ∙ after-full ws (ninth + 2) 11 2 _ full₃.0))

  -- ---- what comes after an axis: the words from the next index on, at most thirteen after i

  abbrev pub Follows : Reading Axis → Type 0
  Follows (got x j vs) = (vs ≡ drop j ws) × (j ≤ i + 13)
  Follows (wrong p) = Unit {0}

  near : ninth ≤ i + 9
  near = omega (arith, skip-within ws i 14, skip-within ws (first + 6) 13, skip-within ws goal 14)

  rest-follows : Follows (rest (ninth + 2) (drop (ninth + 2) ws))
  rest-follows = ⊎_elim
      (λ e. subst Follows (sym (rest-moving e))
      (after_both ws (ninth + 2) 11 2 _ Follows (refl, omega (arith, near)) (λ p. tt)))
      (λ e. subst Follows (sym (rest-fixed e)) (refl, omega (arith, near)))
      (either (is_kind ws (ninth + 2) 11))

  tail-follows : Follows (tail goal (drop goal ws))
  tail-follows = subst Follows (sym tail-is) (after_both ws ninth 9 2 _ Follows rest-follows (λ p. tt))

  pub axis-follows : Follows (axis i (drop i ws))
  axis-follows = subst Follows (sym axis-is) (after_both ws first 3 6 _ Follows tail-follows (λ p. tt))

  -- the index after the words of an axis that is read
  pub axis-end : (x : Axis) (j : ℕ) → Ok (x, j) ≡ read → j ≤ i + 13
  axis-end x j e = go (axis i (drop i ws)) axis-follows e
    where
      go : (r : Reading Axis) → Follows r → Ok (x, j) ≡ axis_reading r → j ≤ i + 13
      go (got y k vs) (f, h) e =
          let same : ◌≡◌ {A = Axis × ℕ} (x, j) (y, k) = cc in
          omega (arith, ap (λ (q : Axis × ℕ). q.1) same)
      go (wrong p) h e = absurd (cc)
