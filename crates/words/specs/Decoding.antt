-- What decoding a job's words gives back, from what the definition `decode` says of them.
use Rattle.std.specs.Prelude.{ℕ, ◌≡◌, true, List, [], ◌∷◌, set, replicate}
use Rattle.model.specs.declared.Axis.{Axis}
use Rattle.std.specs.declared.result.Result.{Result}
use Rattle.std.specs.declared.result.Result.TheVariants.{Ok, Err}
use Rattle.model.specs.declared.Answer.{Answer}
use Rattle.model.specs.declared.refusal.Refusal.{Refusal}
use Rattle.model.specs.planning.Told.{told, refusal}
use Rattle.model.specs.declared.Job as Typed
use Rattle.model.specs.planning.Windows.{no_windows}
use Rattle.model.specs.planning.Job.{Job, JobAxis, job_of, unset_axis}
use Rattle.model.specs.planning.Words.{Reading, Decoded, no_mask, bad_word, bad_long, job, decided, decode, good_mask}

-- six axes, none of them set
abbrev pub unset_axes : List Axis
unset_axes = replicate 6 unset_axis

-- the axes of a job at their numbers, in a list of axes
abbrev pub placed : List JobAxis → List Axis → List Axis
placed [] six = six
placed (x ∷ xs) six = placed xs (set six x.number x.axis)

-- the typed values of a job of words, which bring no windows
abbrev pub word_job : ℕ → ℕ → List Axis → Typed.Job
word_job m asked six = record { mask = m; asked = asked; axes = six; windows = no_windows }

abbrev pub accepted_job : Job → Result Typed.Job Answer
accepted_job j = Ok (word_job j.mask j.asked (placed j.axes unset_axes))

abbrev pub refused_job : ℕ → ℕ → Result Typed.Job Answer
refused_job number place = Err (refusal number place)

-- refusal 1, refusal 2 or 14 with its place, or the job
abbrev pub decoded_job : Decoded → Result Typed.Job Answer
decoded_job no_mask = refused_job 1 0
decoded_job (bad_word p) = refused_job 2 p
decoded_job (bad_long p) = refused_job 14 p
decoded_job (job j) = accepted_job j

-- the same of the words ws, read after an allowed mask
abbrev pub decided_job : List ℕ → Reading Job → Result Typed.Job Answer
decided_job ws r = decoded_job (decided ws r)

-- what `decode` gives back for the words ws
pub record Decodes (ws : List ℕ) (r : Result Typed.Job Refusal) : Type 0 where
  -- the typed values, or the answer for the refusal, from the definition
  pub decoded : told r ≡ decoded_job (decode ws)
  -- the definition's job is that of the typed values, and the mask is allowed
  pub typed : (t : Typed.Job) → r ≡ Ok t → decode ws ≡ job (job_of t)
  pub allowed : (t : Typed.Job) → r ≡ Ok t → good_mask t.mask ≡ true
