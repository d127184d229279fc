use Prim.Native.Nat.{◌≤◌}
use lib.ListN.{length, length-replicate}
use native.Mathlib.Omega.{arith}
use Rattle.table.specs.Job.{job_text}
use Rattle.table.proofs.Text.{whole-printed}
use Rattle.table.proofs.put_job.Goals as goal

pub returns-clause-out_after : goal.returns-clause-out_after
unfolding job_text
returns-clause-out_after c =
    let r = c.run-answer in
    let long = simp length-replicate at r.auto.table in
    let short : length r.new.table ≤ 8192 = omega (arith, long) in
    whole-printed r.result r.new.table _ short c.requires r.ensures.fitted r.ensures.outcome c.answer_text.ensures
