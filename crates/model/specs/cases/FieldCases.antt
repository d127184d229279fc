-- The starred field cases of docs/METHOD.md, F and G as converted jobs (docs/METHOD.md, 8.3), as
-- one table: what each call is given, and what the method says of its outcome. The theorem
-- `starred` proves them all, by computing the definitions.
use Rattle.std.specs.Prelude.{List, [], ◌∷◌, ◌++◌, ℤ, pos, negsuc}
use Rattle.model.specs.declared.Target.TheVariants.{Moving}
use Rattle.model.specs.planning.Outcome.{words}
use Rattle.model.specs.calls.Converter.{converted}
use Rattle.model.specs.cases.Case.{all, positions, velocities, accelerations, Case, Hold, axis, fixed, rest_to}
use Rattle.model.specs.cases.Case.{words_f, words_g, one_axis, words_c, accepted, refused, case}

-- A to E
abbrev pub rest_cases : List Case
rest_cases =
    -- A
    case (one_axis 0 (axis (pos 5) (pos 0) 10 0 (fixed 5 0))) 6 (all ∷ [])
    (accepted 1 1 ((pos 1280 ∷ pos 0 ∷ pos 0 ∷ pos 1280 ∷ pos 0 ∷ pos 0 ∷ []) ∷ []))
    -- B
    ∷ case (one_axis 0 (rest_to 4)) 15 (positions ∷ [])
    (accepted 1 4 ((pos 0 ∷ pos 128 ∷ pos 512 ∷ pos 896 ∷ pos 1024 ∷ []) ∷ []))
    -- C, from its words and from typed values
    ∷ case (words words_c) 15 (all ∷ []) (accepted 1 4 (table_c ∷ []))
    ∷ case (one_axis 4 (rest_to 1)) 15 (all ∷ []) (accepted 1 4 (table_c ∷ []))
    -- D
    ∷ case (one_axis 0 (axis (pos 0) (pos 0) 10 1 (fixed 1 0))) 12 (positions ∷ velocities ∷ accelerations ∷ [])
    (accepted 1 3
    ((pos 0 ∷ pos 64 ∷ pos 192 ∷ pos 256 ∷ []) ∷ (pos 0 ∷ pos 128 ∷ pos 128 ∷ pos 0 ∷ [])
    ∷ (pos 128 ∷ pos 0 ∷ negsuc 127 ∷ pos 0 ∷ []) ∷ []))
    -- E
    ∷ case (one_axis 3 (rest_to 4)) 15 [] (refused 8 0 1 0)
    ∷ []
  where
    table_c : List ℤ
    table_c = pos 0 ∷ pos 0 ∷ pos 86 ∷ pos 43 ∷ pos 86 ∷ negsuc 0 ∷ pos 129 ∷ pos 85 ∷ pos 0 ∷ pos 214 ∷ pos 85
        ∷ negsuc 84 ∷ pos 256 ∷ pos 0 ∷ pos 0 ∷ []

-- F, G and H
abbrev pub flying_cases : List Case
flying_cases =
    -- F, asked 1, 2, 38 and 39, as converted jobs; as it stood, and where it seeks the least
    -- arrival
    case (words (converted 1 (words_f 1))) 120 [] (accepted 1 1 [])
    ∷ case (words (converted 2 (words_f 2))) 120 [] (refused 8 0 1 0)
    ∷ case (words (converted 38 (words_f 38))) 120 [] (refused 8 0 1 0)
    ∷ case (words (converted 39 (words_f 39))) 120 [] (accepted 1 39 [])
    ∷ case (words (words_f 39)) 120 [] (refused 17 0 0 0)
    ∷ case (words (words_f 0)) 120 [] (refused 17 0 0 0)
    -- G, asked 39, as a converted job; axis 1 alone arrives at 2
    ∷ case (words (converted 39 (words_g 39))) 240 [] (accepted 3 39 [])
    ∷ case (one_axis 0 (rest_to 1)) 9 [] (accepted 1 2 [])
    -- H
    ∷ case (one_axis 0
    (axis (pos 0) (pos 0) 10 0
    (Moving (record { position = pos 0; velocity = pos 1; acceleration = pos 0; tick = pos 0 }))))
    12 (velocities ∷ [])
    (accepted 1 3 ((pos 0 ∷ pos 256 ∷ pos 384 ∷ pos 256 ∷ []) ∷ []))
    ∷ []

-- I and J
abbrev pub word_cases : List Case
word_cases =
    -- I: a mask word of 63 alone is refused by 2, at word 1
    case (words []) 0 [] (refused 1 0 0 0)
    ∷ case (words (0x10000040 ∷ [])) 0 [] (refused 1 0 0 0)
    ∷ case (words (0x1000003F ∷ [])) 0 [] (refused 2 1 0 0)
    -- a word after the end word is one too many
    ∷ case (words (words_c ++ (0 ∷ []))) 15 [] (refused 2 11 0 0)
    -- J: 14 cells, and 15
    ∷ case (words words_c) 14 [] (refused 10 0 0 4)
    ∷ case (words words_c) 15 [] (accepted 1 4 [])
    ∷ []

-- each call gives what the method says
abbrev pub Starred : Type 0
Starred = Hold rest_cases × Hold flying_cases × Hold word_cases
