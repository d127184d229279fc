-- Cases of windows, and of arrivals that end: reach is no threshold where a target becomes
-- too fast, and windows have gaps.
use Rattle.std.specs.Prelude.{List, [], ◌∷◌, pos, negsuc, replicate}
use Rattle.model.specs.declared.Axis.{Axis}
use Rattle.model.specs.declared.Target.TheVariants.{Moving}
use Rattle.model.specs.cases.Case.{Case, Hold, axis, one_axis, accepted, refused, case, inside, window}

-- ---- reach is not a threshold: a target that accelerates can be met in a run of ticks
-- that ends, and windows have gaps

-- at rest at 0, L = 10, M = 1, h = 0; the target is met at ticks 9, 10 and 11
-- only, and after them is too fast
abbrev pub passing : Axis
passing = axis (pos 0) (pos 0) 10 0
    (Moving (record { position = pos 8; velocity = negsuc 0; acceleration = pos 1; tick = pos 0 }))

abbrev pub run_cases : List Case
run_cases =
    case (one_axis 0 passing) 36 [] (accepted 1 9 [])
    ∷ case (one_axis 8 passing) 36 [] (refused 8 0 1 0)
    ∷ case (one_axis 11 passing) 36 [] (accepted 1 11 [])
    ∷ case (one_axis 12 passing) 36 [] (refused 8 0 1 0)
    -- field case B: one window at tick 4, the next from 2,000 on
    ∷ case (inside 0 0 (window 4 5 ∷ window 2000 3000 ∷ [])) 24 [] (accepted 1 4 [])
    ∷ []

abbrev pub RunCasesHold : Type 0
RunCasesHold = Hold run_cases

-- ---- laser windows (docs/METHOD.md, 3.8), on field case B, whose axis reaches tick 4 and every
-- later one

abbrev pub window_cases : List Case
window_cases =
    case (inside 0 2 (window 0 6 ∷ [])) 24 [] (accepted 1 4 [])
    -- touching windows do not join
    ∷ case (inside 0 2 (window 0 5 ∷ window 5 9 ∷ [])) 24 [] (accepted 1 5 [])
    -- the closing tick is no arrival, also without a dwell
    ∷ case (inside 4 0 (window 0 4 ∷ [])) 24 [] (refused 8 0 0 0)
    ∷ case (inside 4 0 (window 0 5 ∷ [])) 24 [] (accepted 1 4 [])
    -- the dwell ends at the closing or before
    ∷ case (inside 4 2 (window 0 6 ∷ [])) 24 [] (accepted 1 4 [])
    ∷ case (inside 4 2 (window 0 5 ∷ [])) 24 [] (refused 8 0 0 0)
    -- 8 names the axes that do not reach the asked arrival, and none where all do
    ∷ case (inside 3 0 (window 7 9 ∷ [])) 24 [] (refused 8 0 1 0)
    ∷ case (inside 4 0 (window 7 9 ∷ [])) 24 [] (refused 8 0 0 0)
    ∷ []

abbrev pub window_refusals : List Case
window_refusals =
    -- 9 where no arrival fits; its mask is of the axes alone
    case (inside 0 0 (window 1 2 ∷ [])) 24 [] (refused 9 0 0 0)
    -- 13: empty, too many, the dwell, the first wrong window; after 3 and before 8
    ∷ case (inside 3 0 []) 24 [] (refused 13 0 0 0)
    ∷ case (inside 0 0 (replicate 33 (window 0 5))) 24 [] (refused 13 32 0 0)
    ∷ case (inside 0 4097 (window 5 2 ∷ [])) 24 [] (refused 13 32 0 0)
    ∷ case (inside 0 0 (window 0 2 ∷ window 4 4 ∷ [])) 24 [] (refused 13 1 0 0)
    ∷ case (inside 0 0 (window 0 5 ∷ window 4 9 ∷ [])) 24 [] (refused 13 1 0 0)
    ∷ case (inside 4097 0 []) 24 [] (refused 3 1 0 0)
    ∷ []

abbrev pub WindowCasesHold : Type 0
WindowCasesHold = Hold window_cases × Hold window_refusals
