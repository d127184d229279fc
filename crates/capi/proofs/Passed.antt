-- What the proofs of the exported calls share: a promise goes over to an equal answer and to an
-- equal job.
use Prim.Native.Nat.{ℕ}
use mathlib.Core.Path.{◌≡◌, sym, ap, subst, ◌∙◌}
use mathlib.Core.List.{List}
use lib.IntN.{ℤ}
use Rattle.model.specs.declared.Answer.{Answer}
use Rattle.model.specs.declared.Job.{Job}
use Rattle.model.specs.declared.Order.{Order}
use Rattle.model.specs.declared.PartAnswer.{PartAnswer}
use Rattle.model.specs.declared.RaisesAnswer.{RaisesAnswer}
use Rattle.model.specs.planning.Outcome.{Input, typed, input_job}
use Rattle.theorems.specs.Raises.{RaisesHold, RaisesCallVerdict}
use Rattle.planner.specs.Promise.{Promise}
use Rattle.parts.specs.Promise.{PartPromise}
use Rattle.raises.specs.Promise.{RaisesPromise}
use Rattle.layout.specs.declared.limit_raises.PolgamirRaises.{PolgamirRaises}
use Rattle.layout.specs.Raises.{raises_in_c}
use Rattle.capi.specs.Raises.{RaisesReturned}

pub for-answer : {o : Order} {q : Input} {entry exit : List ℤ} {r s : Answer} → s ≡ r
    → Promise o q entry r exit → Promise o q entry s exit
for-answer {o} {q} {entry} {exit} same kept = subst (λ (a : Answer). Promise o q entry a exit) (sym same) kept

pub for-job : {o : Order} {entry exit : List ℤ} {r : Answer} {j k : Job} → j ≡ k → Promise o (typed j) entry r exit
    → Promise o (typed k) entry r exit
for-job {o} {entry} {exit} {r} same kept = subst (λ (t : Job). Promise o (typed t) entry r exit) same kept

-- the same of rows in parts
pub for-part : {q : Input} {k : ℕ} {entry exit : List ℤ} {r s : PartAnswer} → s ≡ r → PartPromise q k entry r exit
    → PartPromise q k entry s exit
for-part {q} {k} {entry} {exit} same kept = subst (λ (a : PartAnswer). PartPromise q k entry a exit) (sym same) kept

pub part-for-job : {k : ℕ} {entry exit : List ℤ} {r : PartAnswer} {i j : Job} → i ≡ j
    → PartPromise (typed i) k entry r exit → PartPromise (typed j) k entry r exit
part-for-job {k} {entry} {exit} {r} same kept = subst (λ (t : Job). PartPromise (typed t) k entry r exit) same kept

-- the same of raises
pub in_c : {q : Input} {r : RaisesAnswer} {c : PolgamirRaises} → c ≡ raises_in_c r
    → RaisesPromise q r → RaisesReturned q c
in_c {q} same kept =
    record {
      is = same ∙ ap raises_in_c kept.is;
      verdict = subst (RaisesCallVerdict q) kept.is kept.verdict;
      holds = subst (RaisesHold (input_job q)) kept.is kept.holds;
    }

pub for-typed : {c : PolgamirRaises} {j k : Job} → j ≡ k → RaisesReturned (typed j) c → RaisesReturned (typed k) c
for-typed {c} same kept = subst (λ (t : Job). RaisesReturned (typed t) c) same kept
