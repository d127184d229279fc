-- What admission comes to, for any rules: a refusal that is neither 0 nor 10, or the job with
-- all that its checks passed (`comes`); and what a call says that goes on from it, whatever the
-- call is for (`after-admission`).
use Prim.Native.Nat.{ℕ, ◌≤◌}
use native.Mathlib.Omega.{arith}
use mathlib.Core.Path.{◌≡◌, refl, sym, ◌∙◌}
use mathlib.Core.Bool.{Bool, true, false}
use Rattle.std.specs.Prelude.{Option, None, Some}
use mathlib.Core.List.{[], ◌∷◌}
use mathlib.Core.Logic.{inl, inr}
use lib.Dec.{leb}
use borrow.Author.Tests.{leb-true}
use Rattle.model.specs.planning.Windows.{refused13}
use Rattle.model.specs.planning.Job.{Job, job_of}
use Rattle.model.specs.planning.Words.{Decoded, no_mask, bad_word, bad_long, job, decode, good_mask}
use Rattle.model.specs.planning.Refusals.{last_tick}
use Rattle.model.specs.planning.Admission.{Input, words, typed, job_read, input_job, first_axis, Tests}
use Rattle.theorems.specs.Search.{numbers_of, OneOf}
use Rattle.model.specs.planning.Admission.{Admission, refused_at, admitted, Rules, tested, job_admission, admission}
use Rattle.theorems.specs.Verdict.{WordsAre, ByInput}
use Rattle.theorems.proofs.words.WordsAre.{words_are, Says, SaysTyped, by-input}
use Rattle.theorems.proofs.jobs.OutsideWindows.{Clear}
use Rattle.theorems.proofs.jobs.CheckingOrder.{Lacks}

-- ---- the tests, and 13

-- one of them refuses, or none does
pub data Way (ts : Tests) (j : Job) : Admission → Type 0 where
  stops : (n p : ℕ) → OneOf (numbers_of ts) n → Way ts j (refused_at n p)
  passes : Clear ts j.axes → refused13 j.windows ≡ None → Way ts j (admitted j)

pub ways : (ts : Tests) (j : Job) → Way ts j (tested ts j)
ways [] j = go (refused13 j.windows) refl
  where
    go : (o : Option ℕ) → refused13 j.windows ≡ o
        → Way [] j (elim o as (λ _. Admission) [ Some p ↦ refused_at 13 p | None ↦ admitted j ])
    go (Some p) e = stops 13 p (inl refl)
    go None e = passes tt e
ways (t ∷ ts) j = go (first_axis t.1 j.axes) refl (ways ts j)
  where
    more : (a : Admission) → first_axis t.1 j.axes ≡ None → Way ts j a → Way (t ∷ ts) j a
    more a e (stops n p o) = stops n p (inr o)
    more a e (passes c w) = passes (e, c) w

    go : (o : Option ℕ) → first_axis t.1 j.axes ≡ o → Way ts j (tested ts j)
        → Way (t ∷ ts) j (elim o as (λ _. Admission) [ Some i ↦ refused_at t.0 i | None ↦ tested ts j ])
    go (Some i) e w = stops t.0 i (inl refl)
    go None e w = more (tested ts j) e w

-- a number that is not among the tests' is none of theirs
pub not-among : (k : ℕ) (ts : Tests) (n : ℕ) → (13 ≡ k → ⊥) → Lacks k ts → OneOf (numbers_of ts) n → n ≡ k → ⊥
not-among k [] n h l (inl e) z = h (sym e ∙ z)
not-among k [] n h l (inr a) z = a
not-among k (t ∷ ts) n h (l, ls) (inl e) z = l (sym e ∙ z)
not-among k (t ∷ ts) n h (l, ls) (inr a) z = not-among k ts n h ls a z

-- ---- the whole

-- rules none of whose tests has the number 0 or 10
pub record Numbered (r : Rules) : Type 0 where
  pub not-0 : (asked : ℕ) → Lacks 0 (r.tests asked)
  pub not-10 : (asked : ℕ) → Lacks 10 (r.tests asked)

-- what becomes of the job j
pub data Comes (r : Rules) (j : Job) : Admission → Type 0 where
  refuses : (n p : ℕ) → (n ≡ 0 → ⊥) → (n ≡ 10 → ⊥) → Comes r j (refused_at n p)
  goes : (r.reads j).asked ≤ last_tick → Clear (r.tests (r.reads j).asked) (r.reads j).axes
      → refused13 (r.reads j).windows ≡ None
      → Comes r j (admitted (r.reads j))

module _ (r : Rules) (s : Numbered r) where
  pub job-comes : (j : Job) → Comes r j (job_admission r j)
  job-comes j = go (leb i.asked last_tick) refl (ways (r.tests i.asked) i)
    where
      i : Job
      i = r.reads j

      of-way : (a : Admission) → i.asked ≤ last_tick → Way (r.tests i.asked) i a → Comes r j a
      of-way a h (stops n p o) =
          refuses n p (not-among 0 (r.tests i.asked) n (λ e. omega arith) (s.not-0 i.asked) o)
          (not-among 10 (r.tests i.asked) n (λ e. omega arith) (s.not-10 i.asked) o)
      of-way a h (passes c w) = goes h c w

      go : (b : Bool) → leb i.asked last_tick ≡ b → Way (r.tests i.asked) i (tested (r.tests i.asked) i)
          → Comes r j (elim b as (λ _. Admission) [ true ↦ tested (r.tests i.asked) i | false ↦ refused_at 3 1 ])
      go true e w = of-way (tested (r.tests i.asked) i) (leb-true i.asked last_tick e) w
      go false e w = refuses 3 1 (λ z. omega arith) (λ z. omega arith)

  pub comes : (q : Input) → Comes r (input_job q) (admission r q)
  comes (words ws) = go (decode ws)
    where
      go : (d : Decoded)
          → Comes r (job_read d) (elim d as (λ _. Admission) [
            | no_mask ↦ refused_at 1 0
            | bad_word p ↦ refused_at 2 p
            | bad_long p ↦ refused_at 14 p
            | job j ↦ job_admission r j
          ])
      go no_mask = refuses 1 0 (λ z. omega arith) (λ z. omega arith)
      go (bad_word p) = refuses 2 p (λ z. omega arith) (λ z. omega arith)
      go (bad_long p) = refuses 14 p (λ z. omega arith) (λ z. omega arith)
      go (job j) = job-comes j
  comes (typed t) = go (good_mask t.mask)
    where
      go : (b : Bool)
          → Comes r (job_of t) (elim b as
          (λ _. Admission) [ true ↦ job_admission r (job_of t) | false ↦ refused_at 1 0 ])
      go true = job-comes (job_of t)
      go false = refuses 1 0 (λ z. omega arith) (λ z. omega arith)

-- ---- a call that goes on from admission says of its input what it says of a refusal and of a job

-- the job that an input is
abbrev pub IsJob : Input → Job → Type 0
IsJob (words ws) j = WordsAre ws (job j)
IsJob (typed t) j = job_of t ≡ j

module _ {X : Type 0} (r : Rules) (f : Admission → X) (R : X → ℕ → ℕ → Type 0) (P : X → Job → Type 0)
    (stop : (n p : ℕ) → R (f (refused_at n p)) n p) where
  pub after-admission : (q : Input) → ((j : Job) → IsJob q j → P (f (job_admission r j)) j)
      → ByInput (R (f (admission r q))) (P (f (admission r q))) q
  after-admission (words ws) h =
      by-input (R (f (admission r (words ws)))) (P (f (admission r (words ws)))) (words ws)
      (go (decode ws) ((words_are ws (decode ws)).0 refl))
    where
      by : Decoded → Admission
      by d = elim d [
        | no_mask ↦ refused_at 1 0
        | bad_word p ↦ refused_at 2 p
        | bad_long p ↦ refused_at 14 p
        | job j ↦ job_admission r j
      ]

      go : (d : Decoded) → WordsAre ws d → Says (R (f (by d))) (P (f (by d))) d
      go no_mask a = stop 1 0
      go (bad_word p) a = stop 2 p
      go (bad_long p) a = stop 14 p
      go (job j) a = h j a
  after-admission (typed t) h =
      by-input (R (f (admission r (typed t)))) (P (f (admission r (typed t)))) (typed t) (go (good_mask t.mask))
    where
      by : Bool → Admission
      by b = elim b [ true ↦ job_admission r (job_of t) | false ↦ refused_at 1 0 ]

      go : (b : Bool) → SaysTyped (R (f (by b))) (P (f (by b))) (job_of t) b
      go true = h (job_of t) refl
      go false = stop 1 0
