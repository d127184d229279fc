-- The search for the least tick that passes a test, with a budget (docs/METHOD.md, 8.4): how an
-- undivided search falls into two.
use Prim.Native.Nat.{ℕ, zero, suc, ◌+◌, ◌-◌, ◌<◌, ◌≤◌}
use native.Mathlib.Omega.{arith}
use mathlib.Core.Path.{◌≡◌, refl, sym, ap, ◌∙◌}
use mathlib.Core.Bool.{Bool, true, false}
use mathlib.Core.Logic.{◌⊎◌, inl, inr}
use Rattle.std.specs.Prelude.{Option, None, Some}
use borrow.Author.Tests.{lt-ltb, le-ltb}
use Rattle.whole.proofs.Tests.{lt-or-le, lt-choice, le-choice}
use Rattle.model.specs.declared.Report.TheVariants.{Found, Spent, Nothing}
use Rattle.model.specs.declared.SearchReport.{SearchReport}
use Rattle.model.specs.planning.Outcome.{least_from}
use Rattle.model.specs.calls.Search.{candidates, within_budget, not_found, report_of, search_from}
use Rattle.theorems.proofs.jobs.LeastTick.{least-is}

-- ---- some candidates, and then those after them

or_else : Option ℕ → Option ℕ → Option ℕ
or_else (Some n) o = Some n
or_else None o = o

split : (test : ℕ → Bool) (n b k : ℕ)
    → least_from test n (b + k) ≡ or_else (least_from test n b) (least_from test (n + b) k)
unfolding or_else
split test n zero k =
    let e : zero + k ≡ k = omega arith in
    let f : n ≡ n + zero = omega arith in
    λ j. least_from test (f j) (e j)
split test n (suc b) k =
    let e : suc b + k ≡ suc (b + k) = omega arith in
    ap (least_from test n) e ∙ go (test n) (split test (suc n) b k)
  where
    go : (t : Bool) → least_from test (suc n) (b + k)
        ≡ or_else (least_from test (suc n) b) (least_from test (suc n + b) k)
        → ◌≡◌ {A = Option ℕ} (elim t [ true ↦ Some n | false ↦ least_from test (suc n) (b + k) ])
        (or_else (elim t [ true ↦ Some n | false ↦ least_from test (suc n) b ]) (least_from test (n + suc b) k))
    go true h = refl
    go false h =
        let e : suc n + b ≡ n + suc b = omega arith in
        h ∙ ap (λ (m : ℕ). or_else (least_from test (suc n) b) (least_from test m k)) e

-- ---- one search

-- what an undivided search makes of the least candidate
abbrev pub wholly : ℕ → Option ℕ → SearchReport
wholly first (Some n) = record { report = Found n; tried = n - first + 1 }
wholly first None = record { report = Nothing; tried = candidates first }

abbrev pub whole : (ℕ → Bool) → ℕ → SearchReport
whole test first = wholly first (least_from test first (candidates first))

-- spent, with the next candidate
abbrev pub spent_at : ℕ → ℕ → SearchReport
spent_at first budget = record { report = Spent (first + budget); tried = budget }

-- a report after k candidates that were tried before
abbrev pub later : ℕ → SearchReport → SearchReport
later k s = record { report = s.report; tried = k + s.tried }

-- the budget is used up before the last candidate, and the undivided search goes on at the next one
pub record GoesOn (test : ℕ → Bool) (first budget : ℕ) : Type 0 where
  pub left : first + budget ≤ 4096
  pub is : search_from test first budget ≡ spent_at first budget
  pub on : whole test first ≡ later budget (whole test (first + budget))

module _ (test : ℕ → Bool) (first budget : ℕ) where
  pub few : budget < candidates first → within_budget budget first ≡ budget
  few h = lt-choice budget (candidates first) budget (candidates first) h

  pub all : candidates first ≤ budget → within_budget budget first ≡ candidates first
  all h = le-choice budget (candidates first) budget (candidates first) h

  -- the budget covers all candidates: it is the undivided search
  pub whole-search : candidates first ≤ budget → search_from test first budget ≡ whole test first
  unfolding search_from
  whole-search h =
      ap (λ (k : ℕ). report_of first budget (least_from test first k)) (all h)
      ∙ go (least_from test first (candidates first))
    where
      go : (o : Option ℕ) → report_of first budget o ≡ wholly first o
      go (Some n) = refl
      go None = ap (not_found first budget) (le-ltb budget (candidates first) h)

  -- it does not: the search found its tick, or it is spent
  divided : budget < candidates first → (search_from test first budget ≡ whole test first) ⊎ GoesOn test first budget
  unfolding search_from or_else
  divided h = go (least_from test first budget) refl
    where
      more : ℕ
      more = candidates (first + budget)

      here : search_from test first budget ≡ report_of first budget (least_from test first budget)
      here = ap (λ (k : ℕ). report_of first budget (least_from test first k)) (few h)

      parts : whole test first
          ≡ wholly first (or_else (least_from test first budget) (least_from test (first + budget) more))
      parts =
          let e : candidates first ≡ budget + more = omega arith in
          ap (λ (k : ℕ). wholly first (least_from test first k)) e ∙ ap (wholly first) (split test first budget more)

      from_next : (o : Option ℕ) → least_from test (first + budget) more ≡ o
          → wholly first o ≡ later budget (wholly (first + budget) o)
      from_next (Some n) p =
          let low = (least-is test (first + budget) more n p).first in
          let e : n - first + 1 ≡ budget + (n - (first + budget) + 1) = omega arith in
          λ j. record { report = Found n; tried = e j }
      from_next None p =
          let e : candidates first ≡ budget + candidates (first + budget) = omega arith in
          λ j. record { report = Nothing; tried = e j }

      go : (o : Option ℕ) → least_from test first budget ≡ o
          → (search_from test first budget ≡ whole test first) ⊎ GoesOn test first budget
      go (Some n) e =
          inl (here ∙ ap (report_of first budget) e
          ∙ sym (parts ∙ ap (λ (o : Option ℕ). wholly first (or_else o (least_from test (first + budget) more))) e))
      go None e =
          inr
          (record {
            left = omega arith;
            is = here ∙ ap (report_of first budget) e
                ∙ ap (not_found first budget) (lt-ltb budget (candidates first) h);
            on = parts
                ∙ ap (λ (o : Option ℕ). wholly first (or_else o (least_from test (first + budget) more))) e
                ∙ from_next (least_from test (first + budget) more) refl;
          })

  -- a search is the undivided one; or it is spent, and the undivided one goes on at its next
  -- candidate
  pub either_way : (search_from test first budget ≡ whole test first) ⊎ GoesOn test first budget
  either_way = go (lt-or-le budget (candidates first))
    where
      go : (budget < candidates first) ⊎ (candidates first ≤ budget)
          → (search_from test first budget ≡ whole test first) ⊎ GoesOn test first budget
      go (inl h) = divided h
      go (inr h) = inl (whole-search h)
