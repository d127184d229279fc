-- Every call with its rows in either order ends in a verdict: `verdict-in`.
use Prim.Native.Nat.{ℕ}
use native.Mathlib.Omega.{arith}
use mathlib.Core.Path.{◌≡◌, sym, ap, subst}
use mathlib.Core.List.{List}
use lib.IntN.{ℤ}
use Rattle.model.specs.declared.Axis.{Axis}
use Rattle.model.specs.declared.Order.{Order}
use Rattle.model.specs.declared.Order.TheVariants.{Forwards, Backwards}
use Rattle.model.specs.planning.Job.{Job, axes_of}
use Rattle.model.specs.planning.Outcome.{Outcome, Input, table_over, call, call_in, ordered, input_axes}
use Rattle.theorems.specs.Verdict.{Refuses, Accepts, Verdict, CallVerdict, refused3, refused4, refused12}
use Rattle.theorems.specs.Verdict.{refused5, refused15, refused6, refused16, refused17, refused13, refused8}
use Rattle.theorems.specs.Verdict.{refused9, refused10, accepted}
use Rattle.theorems.proofs.jobs.Ordered.{refusal-stays, rows-turn}
use Rattle.theorems.proofs.words.WordsAre.{said-too}
use Rattle.theorems.proofs.calls.CallVerdict.{call-verdict}

-- a refusal is the same
still : (xs : List Axis) (lent : List ℤ) (o : Outcome) (n p m a : ℕ) → (n ≡ 0 → ⊥) → Refuses o n p m a lent
    → Refuses (ordered Backwards xs lent o) n p m a lent
still xs lent o n p m a h r =
    subst (λ (s : Outcome). Refuses s n p m a lent)
    (refusal-stays xs lent o Backwards (λ z. h (let e = r.number in omega (arith, e, z)))) r

-- an accepted job has its rows the other way round
rows_in : (j : Job) (n : ℕ) (lent : List ℤ) (o : Outcome) → Accepts Forwards o j n lent
    → Accepts Backwards (ordered Backwards (axes_of j) lent o) j n lent
rows_in j n lent o r =
    subst (λ (s : Outcome). Accepts Backwards s j n lent) (rows-turn (axes_of j) lent o r.number)
    (record {
      number = r.number;
      place = r.place;
      mask = r.mask;
      arrival = r.arrival;
      cells = ap (λ (k : ℕ). table_over Backwards (axes_of j) k lent) r.arrival;
    })

job-turned : (j : Job) (lent : List ℤ) (o : Outcome) → Verdict Forwards j lent o
    → Verdict Backwards j lent (ordered Backwards (axes_of j) lent o)
job-turned j lent o (refused3 a e) = refused3 a (still (axes_of j) lent o _ _ _ _ (λ z. omega (arith, z)) e)
job-turned j lent o (refused4 i a b e) = refused4 i a b (still (axes_of j) lent o _ _ _ _ (λ z. omega (arith, z)) e)
job-turned j lent o (refused12 i a b c e) =
    refused12 i a b c (still (axes_of j) lent o _ _ _ _ (λ z. omega (arith, z)) e)
job-turned j lent o (refused5 i a b c d e) =
    refused5 i a b c d (still (axes_of j) lent o _ _ _ _ (λ z. omega (arith, z)) e)
job-turned j lent o (refused15 i a b c d f e) =
    refused15 i a b c d f (still (axes_of j) lent o _ _ _ _ (λ z. omega (arith, z)) e)
job-turned j lent o (refused6 i a b c d f g e) =
    refused6 i a b c d f g (still (axes_of j) lent o _ _ _ _ (λ z. omega (arith, z)) e)
job-turned j lent o (refused16 i a b c d f g k e) =
    refused16 i a b c d f g k (still (axes_of j) lent o _ _ _ _ (λ z. omega (arith, z)) e)
job-turned j lent o (refused17 i a b c d f g k l e) =
    refused17 i a b c d f g k l (still (axes_of j) lent o _ _ _ _ (λ z. omega (arith, z)) e)
job-turned j lent o (refused13 p a b c e) =
    refused13 p a b c (still (axes_of j) lent o _ _ _ _ (λ z. omega (arith, z)) e)
job-turned j lent o (refused8 m a b c w d f e) =
    refused8 m a b c w d f (still (axes_of j) lent o _ _ _ _ (λ z. omega (arith, z)) e)
job-turned j lent o (refused9 m a b w c d e) =
    refused9 m a b w c d (still (axes_of j) lent o _ _ _ _ (λ z. omega (arith, z)) e)
job-turned j lent o (refused10 n a w b c e) =
    refused10 n a w b c (still (axes_of j) lent o _ _ _ _ (λ z. omega (arith, z)) e)
job-turned j lent o (accepted n a w b c e) = accepted n a w b c (rows_in j n lent o e)

call-turned : (q : Input) (lent : List ℤ) (o : Outcome) → CallVerdict Forwards lent o q
    → CallVerdict Backwards lent (ordered Backwards (input_axes q) lent o) q
call-turned q lent o =
    said-too _ _ _ _ q (λ n p w r. still (input_axes q) lent o n p 0 0 w.not-0 r)
    (λ j e v. subst (λ (i : Job). Verdict Backwards j lent (ordered Backwards (axes_of i) lent o))
    (sym e) (job-turned j lent o v))

pub verdict-in : (w : Order) (q : Input) (lent : List ℤ) → CallVerdict w lent (call_in w q lent) q
verdict-in Forwards q lent = call-verdict q lent
verdict-in Backwards q lent = call-turned q lent (call q lent) (call-verdict q lent)
