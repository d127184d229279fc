-- The job words (docs/METHOD.md, section 6, and refusals 1 and 2; 6.3 and 2.5, with refusal 14).
use Rattle.std.specs.Prelude.{ℕ, suc, ◌-◌, ◌/◌, ◌%◌, ◌^◌, ◌+◌, ◌*◌, Bool, true, false, not, ◌&&◌, List, [], ◌∷◌, ℤ}
use Rattle.std.specs.Prelude.{pos, negsuc, neg_ℤ, ◌+ℤ◌, ◌*ℤ◌, eqb, leb, ltb}
use Rattle.std.specs.Int.Signed.{le_z}
use Rattle.model.specs.declared.Axis.{Axis}
use Rattle.std.specs.Prelude.{Option, None, Some}
use Rattle.model.specs.declared.Target.{Target}
use Rattle.model.specs.declared.Target.TheVariants.{Fixed, Moving}
use Rattle.model.specs.declared.Weight.TheVariants.{Given}
use Rattle.model.specs.planning.Windows.{no_windows}
use Rattle.model.specs.planning.Job.{Job, JobAxis, set_bits}

abbrev pub word : ℕ → ℕ → ℕ
word k n = k * 2 ^ 28 + n

abbrev pub kind : ℕ → ℕ
kind w = w / 2 ^ 28

abbrev pub payload : ℕ → ℕ
payload w = w % 2 ^ 28

-- 28 bits, two's complement
abbrev pub twos : ℕ → ℤ
twos n = elim (ltb n (2 ^ 27)) [ true ↦ pos n | false ↦ neg_ℤ (pos (2 ^ 28 - n)) ]

-- ---- positions past 28 bits: a word of kind 14 may stand just before one of kind 3 or 9

-- its signed payload times 2²⁸, plus the following payload read as unsigned
abbrev pub long_position : ℕ → ℕ → ℤ
long_position high low = pos (2 ^ 28) *ℤ twos high +ℤ pos low

abbrev pub between : ℤ → ℤ → ℤ → Bool
between a b z = le_z a z && le_z z b

-- a position that 28 bits hold, −134,217,728 to 134,217,727
abbrev pub fits_word : ℤ → Bool
fits_word p = between (negsuc 134217727) (pos 134217727) p

-- the payload of kind 14 is from −64 to 63, and the position does not fit a single word
abbrev pub long_allowed : ℕ → ℕ → Bool
long_allowed high low = between (negsuc 63) (pos 63) (twos high) && not (fits_word (long_position high low))

-- Of words from index i on, the index of the first of kind 14 that is not allowed with the word
-- after it. Where no word is of a wrong kind, that is a word of kind 3 or 9.
abbrev pub first_bad_long : ℕ → List ℕ → Option ℕ
first_bad_long i [] = None
first_bad_long i (w ∷ []) = None
first_bad_long i (w ∷ u ∷ ws) =
    elim (eqb (kind w) 14 && not (long_allowed (payload w) (payload u))) [
      | true ↦ Some i
      | false ↦ first_bad_long (suc i) (u ∷ ws)
    ]

-- ---- reading

-- What reading from word i on finds: a value, the index of the next word and the words from there;
-- or the index of the first wrong word. Where words are lacking that index is the word count.
pub data Reading (A : Type 0) : Type 0 where
  got : A → ℕ → List ℕ → Reading A
  wrong : ℕ → Reading A

abbrev pub Reader : Type 0 → Type 0
Reader A = ℕ → List ℕ → Reading A

abbrev pub ◌>>=◌ : {A B : Type 0} → Reader A → (A → Reader B) → Reader B
◌>>=◌ m f = λ i ws. elim (m i ws) [ got a j vs ↦ f a j vs | wrong p ↦ wrong p ]

abbrev pub give : {A : Type 0} → A → Reader A
give a = λ i ws. got a i ws

-- the payload of a word of kind k
abbrev pub field : ℕ → Reader ℕ
field k i [] = wrong i
field k i (w ∷ ws) = elim (eqb (kind w) k) [ true ↦ got (payload w) (suc i) ws | false ↦ wrong i ]

abbrev pub signed : ℕ → Reader ℤ
signed k = do
  n ← field k
  give (twos n)

-- whether a word of kind k comes next
abbrev pub next : ℕ → Reader Bool
next k i [] = got false i []
next k i (w ∷ ws) = got (eqb (kind w) k) i (w ∷ ws)

-- a position: a word of kind k, or one of kind 14 and then one of kind k
abbrev pub position_by : Bool → ℕ → Reader ℤ
position_by true k = do
  high ← field 14
  low ← field k
  give (long_position high low)
position_by false k = signed k

abbrev pub position : ℕ → Reader ℤ
position k = do
  long ← next 14
  position_by long k

abbrev pub target : Bool → ℤ → ℤ → Reader Target
target true p v = do
  a ← signed 11
  t ← signed 12
  give (Moving (record { position = p; velocity = v; acceleration = a; tick = t }))
target false p v = give (Fixed (record { position = p; velocity = v }))

-- a second half period: a word of kind 13, or none
abbrev pub sway_by : Bool → Reader (Option ℕ)
sway_by true = do
  d ← field 13
  give (Some d)
sway_by false = give None

abbrev pub second_sway : Reader (Option ℕ)
second_sway = do
  named ← next 13
  sway_by named

-- an axis, by a reader of positions and one of a second sway
abbrev pub axis_by : (ℕ → Reader ℤ) → Reader (Option ℕ) → Reader Axis
axis_by positions sway = do
  p₀ ← positions 3
  v₀ ← signed 4
  l ← field 5
  m ← field 6
  h ← field 7
  b ← field 8
  s ← sway
  p ← positions 9
  v ← signed 10
  moving ← next 11
  g ← target moving p v
  give
      (record {
        start = record { position = p₀; velocity = v₀ };
        speed_limit = l;
        acceleration_limit = m;
        half_period = h;
        second_weight = Given b;
        second_sway = s;
        target = g;
      })

abbrev pub axes_by : (ℕ → Reader ℤ) → Reader (Option ℕ) → List ℕ → Reader (List JobAxis)
axes_by positions sway [] = give []
axes_by positions sway (n ∷ ns) = do
  x ← axis_by positions sway
  xs ← axes_by positions sway ns
  give (record { number = n; axis = x } ∷ xs)

-- the end word, of payload 0, with nothing after it
abbrev pub ending : {A : Type 0} → A → Reader A
ending a i [] = wrong i
ending a i (w ∷ []) = elim (eqb (kind w) 15 && eqb (payload w) 0) [ true ↦ got a (suc i) [] | false ↦ wrong i ]
ending a i (w ∷ u ∷ ws) = elim (eqb (kind w) 15 && eqb (payload w) 0) [ true ↦ wrong (suc i) | false ↦ wrong i ]

-- the job of a mask, an asked arrival and axes that were read; words bring no windows
abbrev pub read_job : ℕ → ℕ → List JobAxis → Job
read_job m asked xs = record { mask = m; asked = asked; axes = xs; windows = no_windows }

abbrev pub after_mask_by : (ℕ → Reader ℤ) → Reader (Option ℕ) → ℕ → Reader Job
after_mask_by positions sway m = do
  asked ← field 2
  xs ← axes_by positions sway (set_bits m)
  ending (read_job m asked xs)

-- the same with positions of one word or two, and with a second half period or none
abbrev pub axis : Reader Axis
axis = axis_by position second_sway

abbrev pub axes : List ℕ → Reader (List JobAxis)
axes = axes_by position second_sway

abbrev pub after_mask : ℕ → Reader Job
after_mask = after_mask_by position second_sway

-- refusal 1 is `no_mask`, refusal 2 `bad_word` and refusal 14 `bad_long`, each with its place
pub data Decoded : Type 0 where
  no_mask : Decoded
  bad_word : ℕ → Decoded
  bad_long : ℕ → Decoded
  job : Job → Decoded

abbrev pub good_mask : ℕ → Bool
good_mask m = ltb 0 m && leb m 63

-- refusal 14 comes directly after all of refusal 2: once every word is of a kind allowed at its
-- place
abbrev pub spelled : Option ℕ → Job → Decoded
spelled (Some p) j = bad_long p
spelled None j = job j

-- what the words ws are, from the reading of those after the mask word
abbrev pub decided : List ℕ → Reading Job → Decoded
decided ws (got j i rest) = spelled (first_bad_long 0 ws) j
decided ws (wrong p) = bad_word p

abbrev pub decode : List ℕ → Decoded
decode [] = no_mask
decode (w ∷ ws) =
    elim (eqb (kind w) 1 && good_mask (payload w)) [
      | true ↦ decided (w ∷ ws) (after_mask (payload w) 1 ws)
      | false ↦ no_mask
    ]
