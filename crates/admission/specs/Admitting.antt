-- What the code's admission stands for: the rules of each purpose, and the
-- weights that are to be worked out.
use Rattle.std.specs.Prelude.{ℕ, ◌/◌, ◌%◌, Bool, true, false, cond, List, [], ◌∷◌, eqb}
use Rattle.model.specs.declared.Axis.{Axis}
use Rattle.model.specs.planning.Job.{JobAxis}
use Rattle.theorems.specs.GivenWeights.{with_weight}
use Rattle.model.specs.planning.Admission.{Rules, planning_rules}
use Rattle.model.specs.calls.Search.{search_rules}
use Rattle.model.specs.calls.Converter.{conversion_rules}
use Rattle.motion.specs.Motions.{measured}
-- what admission comes to, without the job
pub use Rattle.refusals.specs.Checks.{without_job}
use Rattle.admission.specs.declared.Purpose.{Purpose}
use Rattle.admission.specs.declared.Purpose.TheVariants.{Planning, Searching, Converting}

abbrev pub rules_for : Purpose → Rules
rules_for Planning = planning_rules
rules_for Searching = search_rules
rules_for Converting = conversion_rules

-- the asked arrival as a call reads it
abbrev pub asked_read : Purpose → ℕ → ℕ
asked_read Planning asked = asked
asked_read Searching asked = 0
asked_read Converting asked = asked

-- whether fixed targets must be at rest
abbrev pub must_rest : Purpose → ℕ → Bool
must_rest Planning asked = true
must_rest Searching asked = true
must_rest Converting asked = eqb asked 0

-- ---- the weights

-- whether one is to be worked out from damping as measured
abbrev pub any_measured : List JobAxis → Bool
any_measured [] = false
any_measured (x ∷ xs) = cond (measured x.axis) true (any_measured xs)

-- of six axes, those whose bit is set with the number B given, the others as they are
abbrev pub named_with_weight : ℕ → List Axis → List Axis
named_with_weight m [] = []
named_with_weight m (x ∷ xs) = cond (eqb (m % 2) 1) (with_weight x) x ∷ named_with_weight (m / 2) xs
