-- How the code reads words: by index into the whole list, where the definitions of
-- `Words` take one word after another.
use Rattle.std.specs.Prelude.{ℕ, zero, suc, ◌+◌, ◌/◌, ◌%◌, Bool, false, not, cond, List, ℤ, get_or, length}
use Rattle.std.specs.Prelude.{drop, set, eqb, ltb, Option, None, Some}
use Rattle.std.specs.declared.result.Result.{Result}
use Rattle.std.specs.declared.result.Result.TheVariants.{Ok, Err}
use Rattle.model.specs.declared.refusal.Refusal.{Refusal}
use Rattle.model.specs.declared.refusal.Refusal.TheVariants.{Word, LongPosition}
use Rattle.model.specs.declared.Weight.TheVariants.{Given}
use Rattle.model.specs.declared.Axis.{Axis}
use Rattle.model.specs.declared.State.{State}
use Rattle.model.specs.declared.Target.{Target}
use Rattle.model.specs.declared.RestPoint.{RestPoint}
use Rattle.model.specs.planning.Words.{kind, payload, twos, long_position, long_allowed, Reading, got, wrong, axis}
use Rattle.words.specs.Decoding.{unset_axes}

-- ---- one word

abbrev pub payload_at : List ℕ → ℕ → ℕ
payload_at ws i = payload (get_or ws i 0)

abbrev pub signed_at : List ℕ → ℕ → ℤ
signed_at ws i = twos (payload_at ws i)

-- word i is there and of kind k
unfoldable pub is_kind : List ℕ → ℕ → ℕ → Bool
is_kind ws i k = cond (ltb i (length ws)) (eqb (kind (get_or ws i 0)) k) false

-- word i is the end word
abbrev pub is_end : List ℕ → ℕ → Bool
is_end ws i = cond (is_kind ws i 15) (eqb (payload_at ws i) 0) false

-- the first index from i on whose word is not of the kind due there: k, k + 1, .., of n words
unfoldable pub first_wrong : List ℕ → ℕ → ℕ → ℕ → Option ℕ
first_wrong ws i k zero = None
first_wrong ws i k (suc n) = cond (is_kind ws i k) (first_wrong ws (suc i) (suc k) n) (Some i)

-- the index after those n words, or refusal 2 of the first that is wrong
abbrev pub run_by : ℕ → Option ℕ → Result ℕ Refusal
run_by j None = Ok j
run_by j (Some p) = Err (Word p)

abbrev pub run_end : List ℕ → ℕ → ℕ → ℕ → Result ℕ Refusal
run_end ws i k n = run_by (i + n) (first_wrong ws i k n)

-- the index after a word of kind k that may stand at i
abbrev pub skip_optional : List ℕ → ℕ → ℕ → ℕ
skip_optional ws i k = cond (is_kind ws i k) (suc i) i

-- ---- positions

-- the position of word i, of kind 14, and the one after it
abbrev pub long_at : List ℕ → ℕ → ℤ
long_at ws i = long_position (payload_at ws i) (payload_at ws (suc i))

-- the position whose words begin at i
unfoldable pub position_at : List ℕ → ℕ → ℤ
position_at ws i = cond (is_kind ws i 14) (long_at ws i) (signed_at ws i)

-- refusal 14 names word i
unfoldable pub is_bad_long : List ℕ → ℕ → Bool
is_bad_long ws i = cond (is_kind ws i 14) (not (long_allowed (payload_at ws i) (payload_at ws (suc i)))) false

-- of n words from i on, the index of the first that it names
unfoldable pub bad_long_in : List ℕ → ℕ → ℕ → Option ℕ
bad_long_in ws zero i = None
bad_long_in ws (suc n) i = cond (is_bad_long ws i) (Some i) (bad_long_in ws n (suc i))

-- ---- one axis, whose words begin at i

unfoldable pub rest_at : List ℕ → ℕ → RestPoint
rest_at ws i = record { position = position_at ws i; velocity = signed_at ws (skip_optional ws i 14 + 1) }

unfoldable pub state_at : List ℕ → ℕ → State
state_at ws i =
    let s : ℕ = skip_optional ws i 14 in
    record {
      position = position_at ws i;
      velocity = signed_at ws (s + 1);
      acceleration = signed_at ws (s + 2);
      tick = signed_at ws (s + 3);
    }

-- the second sway whose word may stand at i
unfoldable pub sway_at : List ℕ → ℕ → Option ℕ
sway_at ws i = cond (is_kind ws i 13) (Some (payload_at ws i)) None

unfoldable pub axis_at : List ℕ → ℕ → Target → Axis
axis_at ws i g =
    let s : ℕ = skip_optional ws i 14 in
    record {
      start = rest_at ws i;
      speed_limit = payload_at ws (s + 2);
      acceleration_limit = payload_at ws (s + 3);
      half_period = payload_at ws (s + 4);
      second_weight = Given (payload_at ws (s + 5));
      second_sway = sway_at ws (s + 6);
      target = g;
    }

-- a reading of the definitions, without the words after it: the axis and the index after its words
abbrev pub axis_reading : Reading Axis → Result (Axis × ℕ) Refusal
axis_reading (got x j ws) = Ok (x, j)
axis_reading (wrong p) = Err (Word p)

-- ---- the axes of a mask

-- the axes read so far and the index after their words, or refusal 2
abbrev pub AxesRead : Type 0
AxesRead = Result (List Axis × ℕ) Refusal

-- six axes with axis i
abbrev pub with_axis : ℕ → List Axis → Result (Axis × ℕ) Refusal → AxesRead
with_axis i six (Ok q) = Ok (set six i q.0, q.1)
with_axis i six (Err e) = Err e

-- with axis i, where the lowest bit of m names it and no word before was wrong
abbrev pub read_on : List ℕ → ℕ → ℕ → AxesRead → AxesRead
read_on ws i m (Ok q) = cond (eqb (m % 2) 1) (with_axis i q.0 (axis_reading (axis q.1 (drop q.1 ws)))) (Ok q)
read_on ws i m (Err e) = Err e

-- n axes from number i on
unfoldable pub read_all : List ℕ → ℕ → ℕ → ℕ → AxesRead → AxesRead
read_all ws zero i m s = s
read_all ws (suc n) i m s = read_all ws n (suc i) (m / 2) (read_on ws i m s)

-- no axis read; their words begin at index 2
abbrev pub begun : AxesRead
begun = Ok (unset_axes, 2)

-- ---- the end of a job

-- refusal 14 of the first word that it names
abbrev pub long_checked : Option ℕ → Result (Unit {0}) Refusal
long_checked (Some p) = Err (LongPosition p)
long_checked None = Ok tt

-- refusal 2 where word i is not the end word, or not the last; then refusal 14 of the words before
unfoldable pub end_checked : List ℕ → ℕ → Result (Unit {0}) Refusal
end_checked ws i =
    cond (is_end ws i)
    (cond (ltb (i + 1) (length ws)) (Err (Word (i + 1))) (long_checked (bad_long_in ws i 0))) (Err (Word i))
