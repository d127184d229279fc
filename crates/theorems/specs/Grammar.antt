-- Which words may follow one another in a job (docs/METHOD.md, sections 6, 6.3 and 2.5),
-- said without a reader of words; and refusal 2 by it: the first word that is not of a kind
-- allowed next. Only kinds count, the mask and the payload of the end word: the values of
-- the others are other refusals' business.
use Rattle.std.specs.Prelude.{ℕ, suc, ◌≤◌, ◌<◌, ◌≡◌, List, [], ◌∷◌, ◌++◌, ◌⊎◌, length, take}
use Rattle.model.specs.planning.Job.{set_bits}
use Rattle.model.specs.planning.Words.{kind, payload}

-- a kind of lists of words
abbrev pub Form : Type 1
Form = List ℕ → Type 0

-- a word of kind k, and then the rest
abbrev pub OfKind : ℕ → Form → Form
OfKind k rest [] = ⊥
OfKind k rest (w ∷ ws) = (kind w ≡ k) × rest ws

-- either of two
abbrev pub Either : Form → Form → Form
Either f g ws = f ws ⊎ g ws

-- a position: a word of kind k, and one of kind 14 may stand just before it
abbrev pub PositionForm : ℕ → Form → Form
PositionForm k rest = Either (OfKind 14 (OfKind k rest)) (OfKind k rest)

-- a second half period: a word of kind 13, or none
abbrev pub SwayForm : Form → Form
SwayForm rest = Either (OfKind 13 rest) rest

-- of a moving target also words of kinds 11 and 12, of a fixed one none
abbrev pub MovingForm : Form → Form
MovingForm rest = Either (OfKind 11 (OfKind 12 rest)) rest

-- the words of an axis
abbrev pub AxisForm : Form → Form
AxisForm rest =
    PositionForm 3
    (OfKind 4 (OfKind 5 (OfKind 6 (OfKind 7 (OfKind 8 (SwayForm (PositionForm 9 (OfKind 10 (MovingForm rest)))))))))

-- those of each set mask bit, lowest first
abbrev pub AxesForm : List ℕ → Form → Form
AxesForm [] rest = rest
AxesForm (n ∷ ns) rest = AxisForm (AxesForm ns rest)

-- the end word, of kind 15 and payload 0, with nothing after it
abbrev pub EndForm : Form
EndForm [] = ⊥
EndForm (w ∷ ws) = (kind w ≡ 15) × ((payload w ≡ 0) × (ws ≡ []))

-- the words after a mask word whose mask is m
abbrev pub AfterMask : ℕ → Form
AfterMask m = OfKind 2 (AxesForm (set_bits m) EndForm)

-- words of which refusal 1 and refusal 2 find none wrong
abbrev pub WellFormed : Form
WellFormed [] = ⊥
WellFormed (w ∷ ws) = (kind w ≡ 1) × (((1 ≤ payload w) × (payload w ≤ 63)) × AfterMask (payload w) ws)

-- words that a list of the form begins with
abbrev pub Begins : Form → Form
Begins f us = (vs : List ℕ) × f (us ++ vs)

-- The word of index p is the first that is not allowed: those before it begin a list of the
-- form, and with it they begin none. Or the words are lacking: they begin a list of the form
-- and are none, and p is their count.
pub record FirstWrong (f : Form) (ws : List ℕ) (p : ℕ) : Type 0 where
  pub before : Begins f (take p ws)
  pub here : ((p < length ws) × (Begins f (take (suc p) ws) → ⊥)) ⊎ ((p ≡ length ws) × (f ws → ⊥))
