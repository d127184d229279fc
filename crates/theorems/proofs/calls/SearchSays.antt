-- What the report of a search with a budget says of a job that every refusal lets pass:
-- `search-says`, by the existence of a list. A tick that it found can be asked for: `planned`.
use Prim.Native.Nat.{ℕ, zero, suc, ◌+◌, ◌<◌, ◌≤◌}
use native.Mathlib.Omega.{arith}
use mathlib.Core.Path.{◌≡◌, refl, sym, subst, ◌∙◌}
use mathlib.Core.Bool.{Bool, not}
use mathlib.Core.Logic.{◌⊎◌, inl, inr}
use Rattle.std.specs.Prelude.{Option, None, Some}
use mathlib.Core.List.{List}
use lib.IntN.{ℤ}
use lib.ListN.{length, length-map, drop}
use borrow.Author.Tests.{lt-ltb, le-ltb}
use Rattle.whole.proofs.Tests.{T_true, true-T, lt-or-le, choice-yes, le-choice}
use Rattle.model.specs.declared.SearchReport.{SearchReport}
use Rattle.model.specs.declared.Order.TheVariants.{Forwards}
use Rattle.model.specs.planning.Job.{Job, axes_of, mask_where}
use Rattle.model.specs.planning.Motion.{reachable}
use Rattle.model.specs.planning.Refusals.{AllPassed}
use Rattle.model.specs.planning.Outcome.{Outcome, refuse, accept, filled, arrived, arrives, least_from}
use Rattle.model.specs.planning.Outcome.{cells_needed, table_over, job_outcome}
use Rattle.theorems.specs.Verdict.{Arrives, Passing}
use Rattle.model.specs.planning.Demand.{Demand3}
use Rattle.model.specs.calls.Search.{candidates, within_budget, not_found, report_of, search_from, asking}
use Rattle.theorems.specs.Search.{SearchSays, found, spent, nothing, Planned}
use Rattle.theorems.proofs.jobs.LeastTick.{least-is, none_is}
use Rattle.theorems.proofs.jobs.Verdict.{arrives-is, is-arrives}
use Rattle.theorems.proofs.jobs.OutsideWindows.{goes_on}
use Rattle.theorems.proofs.tables.Demand.{demanded, all-plannable}
use Rattle.theorems.proofs.calls.Budgets.{few, all}

-- ---- the report

module _ (j : Job) (first budget : ℕ) (passed : AllPassed j.axes) (low : first ≤ 4097) where
  abbrev Says : SearchReport → Type 0
  Says s = SearchSays j first budget s.report s.tried

  -- none of count candidates arrives
  missed : (count : ℕ) → least_from (arrives j) first count ≡ None → (k : ℕ) → first ≤ k
      → k < first + count → Arrives j k → ⊥
  missed count e k a b r = none_is (arrives j) first count e k a b (T_true (arrives j k) (is-arrives j k passed r))

  says-found : (count n : ℕ) → least_from (arrives j) first count ≡ Some n → count ≤ budget → count ≤ candidates first
      → Says (report_of first budget (Some n))
  says-found count n e b c =
      let l = least-is (arrives j) first count n e in
      found n l.first (omega (arith, l.last, l.first)) (omega (arith, l.last))
      (arrives-is j n passed (true-T l.passes))
      (λ k a b r. l.least k a b (T_true (arrives j k) (is-arrives j k passed r)))

  says-few : budget < candidates first → (o : Option ℕ) → least_from (arrives j) first budget ≡ o
      → Says (report_of first budget o)
  says-few h (Some n) e = says-found budget n e (omega arith) (omega arith)
  says-few h None e = subst (λ (b : Bool). Says (not_found first budget b)) (sym (lt-ltb budget (candidates first) h))
      (spent (omega arith) (missed budget e))

  says_all : candidates first ≤ budget → (o : Option ℕ) → least_from (arrives j) first (candidates first) ≡ o
      → Says (report_of first budget o)
  says_all h (Some n) e = says-found (candidates first) n e h (omega arith)
  says_all h None e =
      subst (λ (b : Bool). Says (not_found first budget b)) (sym (le-ltb budget (candidates first) h))
      (nothing (omega arith) (λ k a b r. missed (candidates first) e k a (omega arith) r))

  pub search-says : Says (search_from (arrives j) first budget)
  unfolding search_from
  search-says = go (lt-or-le budget (candidates first))
    where
      at : (k : ℕ) → within_budget budget first ≡ k → Says (report_of first budget (least_from (arrives j) first k))
          → Says (report_of first budget (least_from (arrives j) first (within_budget budget first)))
      at k e = subst (λ (m : ℕ). Says (report_of first budget (least_from (arrives j) first m))) (sym e)

      go : (budget < candidates first) ⊎ (candidates first ≤ budget)
          → Says (report_of first budget (least_from (arrives j) first (within_budget budget first)))
      go (inl h) = at budget (few (arrives j) first budget h) (says-few h (least_from (arrives j) first budget) refl)
      go (inr h) = at (candidates first) (all (arrives j) first budget h)
          (says_all h (least_from (arrives j) first (candidates first)) refl)

-- ---- the tick found, asked for

module _ (j : Job) (p : Passing (asking 0 j)) where
  asks : (n : ℕ) → n ≤ 4096 → Passing (asking n j)
  asks n h = record { asked = h; axes = p.axes; windows = p.windows }

  reached : (n : ℕ) (lent : List ℤ) → 1 ≤ n → Arrives j n → arrived (asking n j) n lent ≡ filled j n lent
  reached zero lent h a = absurd (omega arith)
  reached (suc n) lent h a =
      sym
      (choice-yes (arrives j (suc n)) (filled j (suc n) lent)
      (refuse 8 0 (mask_where (λ x. not (reachable x (suc n))) j.axes) 0 lent)
      (T_true (arrives j (suc n)) (is-arrives j (suc n) p.axes a)))

  pub planned : (n : ℕ) → 1 ≤ n → n ≤ 4096 → Arrives j n → Planned j n
  planned n h l a =
      record {
        accepted = is;
        demand3 = λ lent room.
            subst (λ (o : Outcome). Demand3 Forwards (axes_of j) n o.cells) (sym (is lent room))
            (demanded Forwards (axes_of j) n (table_over Forwards (axes_of j) n lent)
            (drop (cells_needed (length (axes_of j)) n) lent) refl
            (all-plannable (asking n j) n p.axes
            (record {
              first = h;
              last = l;
              arrives = record { fits = a.fits; reached = a.reached };
              asked = inl refl;
            })));
      }
    where
      is : (lent : List ℤ) → cells_needed (length (axes_of j)) n ≤ length lent
          → job_outcome (asking n j) lent ≡ accept j n lent
      is lent room =
          let count : length (axes_of j) ≡ length j.axes = length-map j.axes (λ x. x.axis) in
          let enough = subst (λ (k : ℕ). cells_needed k n ≤ length lent) count room in
          goes_on (asking n j) lent (asks n l)
          ∙ reached n lent h a
          ∙ le-choice (length lent) (cells_needed (length j.axes) n) (refuse 10 0 0 n lent) (accept j n lent) enough
