-- Cases of the converter.
use Rattle.std.specs.Prelude.{ℕ, ◌≡◌, List, [], ◌∷◌, ◌++◌, map, replicate}
use Rattle.model.specs.calls.Converter.{Conversion, conversion, converted}
use Rattle.model.specs.cases.Case.{axis_f, words_f, words_c}

-- ---- what the converter answers (docs/METHOD.md, 8.3): number, place, and the lent words as it
-- leaves them

pub record Converting : Type 0 where
  pub words : List ℕ
  -- how many words are lent, all 0
  pub lent : ℕ
  pub says : Conversion

abbrev pub converting : List ℕ → ℕ → ℕ → ℕ → List ℕ → Converting
converting ws n number place l =
    record { words = ws; lent = n; says = record { number = number; place = place; words = l } }

abbrev pub conversions : List Converting
conversions =
    -- reach is not checked; later words stay; a word too few
    converting (words_f 2) 14 0 13
    (0x10000001 ∷ 0x20000002 ∷ (axis_f ++ (0xB0000000 ∷ 0xC0000002 ∷ 0xF0000000 ∷ 0 ∷ [])))
    ∷ converting (words_f 2) 12 10 13 (replicate 12 0)
    -- no conversion where the least arrival is sought, whatever is lent
    ∷ converting (words_f 0) 0 17 0 []
    -- targets at rest are copied, also where the least arrival is sought
    ∷ converting words_c 11 0 11 words_c
    -- of two flying targets both become moving ones
    ∷ converting (0x10000003 ∷ 0x20000002 ∷ (axis_f ++ (axis_f ++ (0xF0000000 ∷ [])))) 23 0 23
    (0x10000003 ∷ 0x20000002
    ∷ (axis_f ++ (0xB0000000 ∷ 0xC0000002 ∷ (axis_f ++ (0xB0000000 ∷ 0xC0000002 ∷ 0xF0000000 ∷ [])))))
    -- moving targets are copied, also where they are not at rest
    ∷ converting (converted 2 (words_f 2)) 13 0 13 (converted 2 (words_f 2))
    ∷ []

abbrev pub ConversionsHold : Type 0
ConversionsHold = map (λ (c : Converting). conversion c.words (replicate c.lent 0)) conversions
    ≡ map (λ (c : Converting). c.says) conversions
