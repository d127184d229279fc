-- Searches with a budget (docs/METHOD.md, 8.4) of field case B, whose axis reaches tick 4 and every
-- later one, as one table: what each call is given, and what it gives. The theorem `search-cases`
-- proves them all, by computing the definitions.
use Rattle.std.specs.Prelude.{ℕ, ◌≡◌, List, [], ◌∷◌, map}
use Rattle.model.specs.declared.Report.{Report}
use Rattle.model.specs.declared.Report.TheVariants.{Found, Spent, Nothing}
use Rattle.model.specs.declared.SearchAnswer.{SearchAnswer}
use Rattle.model.specs.planning.Outcome.{Input, words}
use Rattle.model.specs.calls.Search.{refuse_search, search_answer, search_call}
use Rattle.model.specs.cases.Case.{rest_to, one_axis, words_c, inside, window}

pub record SearchCase : Type 0 where
  pub input : Input
  pub first : ℕ
  pub budget : ℕ
  pub says : SearchAnswer

abbrev pub search : Input → ℕ → ℕ → SearchAnswer → SearchCase
search i first budget a = record { input = i; first = first; budget = budget; says = a }

-- a report of axis 0, and how many candidates were tried
abbrev pub report : Report → ℕ → SearchAnswer
report r n = search_answer 1 (record { report = r; tried = n })

abbrev pub search_cases : List SearchCase
search_cases =
    search (one_axis 0 (rest_to 4)) 1 4096 (report (Found 4) 4)
    ∷ search (one_axis 0 (rest_to 4)) 1 4 (report (Found 4) 4)
    ∷ search (one_axis 0 (rest_to 4)) 1 3 (report (Spent 4) 3)
    ∷ search (one_axis 0 (rest_to 4)) 4 1 (report (Found 4) 1)
    ∷ search (one_axis 0 (rest_to 4)) 6 1 (report (Found 6) 1)
    -- budget 0 tries nothing, and hands the first back while one is left
    ∷ search (one_axis 0 (rest_to 4)) 4 0 (report (Spent 4) 0)
    ∷ search (one_axis 0 (rest_to 4)) 4096 0 (report (Spent 4096) 0)
    ∷ search (one_axis 0 (rest_to 4)) 4097 0 (report Nothing 0)
    ∷ search (one_axis 0 (rest_to 4)) 4097 5 (report Nothing 0)
    -- candidates outside the windows are tried too; a budget that just covers the rest gives none
    ∷ search (inside 0 0 (window 7 9 ∷ [])) 1 6 (report (Spent 7) 6)
    ∷ search (inside 0 0 (window 7 9 ∷ [])) 1 7 (report (Found 7) 7)
    ∷ search (inside 0 0 (window 7 9 ∷ [])) 9 2 (report (Spent 11) 2)
    ∷ search (inside 0 0 (window 7 9 ∷ [])) 4096 1 (report Nothing 1)
    -- the asked arrival is not read
    ∷ search (words words_c) 1 9 (report (Found 2) 2)
    ∷ search (one_axis 5000 (rest_to 4)) 1 9 (report (Found 4) 4)
    -- 18, after 1 and 13
    ∷ search (one_axis 0 (rest_to 4)) 0 5 (refuse_search 18 0)
    ∷ search (one_axis 0 (rest_to 4)) 4098 5 (refuse_search 18 0)
    ∷ search (words []) 0 5 (refuse_search 1 0)
    ∷ search (inside 0 0 []) 0 5 (refuse_search 13 0)
    ∷ []

abbrev pub SearchCasesHold : Type 0
SearchCasesHold =
    map (λ (c : SearchCase). search_call c.input c.first c.budget) search_cases
    ≡ map (λ (c : SearchCase). c.says) search_cases
