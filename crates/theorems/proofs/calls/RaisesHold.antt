-- What an answer with raises says (`raises-hold`), and what number 8 says of a job (`eight`).
use Prim.Native.Nat.{ℕ, zero, suc, ◌+◌, ◌/◌, ◌%◌, ◌^◌, ◌≤◌, ◌<◌}
use mathlib.Core.Path.{◌≡◌, refl, sym, ap, subst, ◌∙◌}
use mathlib.Core.Bool.{Bool, true, false, not, false≢true}
use Rattle.std.specs.Prelude.{Option, None, Some}
use mathlib.Core.List.{List, [], ◌∷◌}
use mathlib.Core.Logic.{◌↔◌}
use native.Mathlib.Omega.{arith}
use native.Mathlib.Nat.{pow-suc}
use lib.Dec.{T, eqb, eqb→eq, leb, leb→le, nleb→lt}
use lib.ListN.{length, length-set, get_or, set, replicate}
use lib.Seq.{get_or-set_same, get_or-set_other}
use borrow.Author.Tests.{eq-eqb, ne_eqb}
use Rattle.whole.proofs.Tests.{T_true, T_false, by_bool}
use Rattle.whole.proofs.Elements.{none-some}
use Rattle.model.specs.declared.Answer.{Answer}
use Rattle.model.specs.declared.Axis.{Axis}
use Rattle.model.specs.declared.Job as Typed
use Rattle.model.specs.declared.Order.TheVariants.{Forwards}
use Rattle.model.specs.declared.Limit.{Limit}
use Rattle.model.specs.declared.Limit.TheVariants.{Acceleration, Speed}
use Rattle.model.specs.declared.AxisRaises.{AxisRaises}
use Rattle.model.specs.declared.RaisesAnswer.{RaisesAnswer}
use Rattle.model.specs.declared.Raise.TheVariants.{AccelerationBy, SpeedBy}
use Rattle.model.specs.planning.Motion.{Reachable, reachable}
use Rattle.model.specs.planning.Job.{Job, JobAxis, set_axes, job_of, bit}
use Rattle.model.specs.planning.Refusals.{AllPassed, Passed}
use Rattle.model.specs.planning.Outcome.{Outcome, Input, typed, input_job, call, before_ten, answer_of}
use Rattle.theorems.specs.Verdict.{Among, Names, Refuses, Verdict, CallVerdict, typed1, typed_jobs, refused3}
use Rattle.theorems.specs.Verdict.{refused4, refused12, refused5, refused15, refused6, refused16, refused17}
use Rattle.theorems.specs.Verdict.{refused13, refused8, refused9, refused10, accepted}
use Rattle.model.specs.calls.Raises.{limit_of, highest, with_limit, raise_of, no_raises, in_order, raises_of}
use Rattle.model.specs.calls.Raises.{raises_from, none_raised, raises_with, raises_call}
use Rattle.theorems.specs.Raises.{RaiseIs, reported, Ordered, neither, acceleration, speed, acceleration-first}
use Rattle.theorems.specs.Raises.{speed-first}
use Rattle.theorems.specs.Raises.{RaisesSay, Named, RaisesHold, RaisesVerdict, refuse_raises, RaisesCallVerdict}
use Rattle.theorems.proofs.jobs.Masks.{Ascends}
use Rattle.theorems.proofs.jobs.Verdict.{first-among, later-among, passed-among, reach-is}
use Rattle.theorems.proofs.calls.CallVerdict.{set-ascends, call-verdict}
use Rattle.theorems.proofs.jobs.BeforeTen.{same-refusal, refused-answer}
use Rattle.theorems.proofs.words.WordsAre.{OfWords, said-too}
use Rattle.theorems.proofs.calls.LeastRaise.{raise-is}

-- ---- the raises of one axis

-- both raises, in either order
abbrev both-raises : ℕ → ℕ → Bool → AxisRaises
both-raises m l b =
    elim b [
      | true ↦ record { first = Some (AccelerationBy m); second = Some (SpeedBy l) }
      | false ↦ record { first = Some (SpeedBy l); second = Some (AccelerationBy m) }
    ]

ordered-is : (a b : Option ℕ) → Ordered (in_order a b)
ordered-is None None = neither
ordered-is (Some m) None = acceleration m
ordered-is None (Some l) = speed l
ordered-is (Some m) (Some l) = go (leb m l) (leb→le m l) (nleb→lt m l)
  where
    go : (t : Bool) → (T t → m ≤ l) → (T (not t) → l < m) → Ordered (both-raises m l t)
    go true f g = acceleration-first m l (f tt)
    go false f g = speed-first m l (g tt)

-- of the two raises, a limit's own
abbrev of-limit : Limit → Option ℕ → Option ℕ → Option ℕ
of-limit Acceleration a b = a
of-limit Speed a b = b

reported-is : (q : Limit) (a b : Option ℕ) → reported q (in_order a b) ≡ of-limit q a b
reported-is Acceleration None None = refl
reported-is Acceleration (Some m) None = refl
reported-is Acceleration None (Some l) = refl
reported-is Speed None None = refl
reported-is Speed (Some m) None = refl
reported-is Speed None (Some l) = refl
reported-is q (Some m) (Some l) = go q (leb m l)
  where
    go : (q : Limit) (t : Bool) → reported q (both-raises m l t) ≡ of-limit q (Some m) (Some l)
    go Acceleration true = refl
    go Acceleration false = refl
    go Speed true = refl
    go Speed false = refl

raises-say : (x : Axis) (n : ℕ) → Passed x → (Reachable x n → ⊥) → RaisesSay x n (raises_of x n)
raises-say x n p misses =
    record {
      each = λ q. subst (RaiseIs (λ k. Reachable (with_limit q k x) n) (limit_of q x) (highest q))
          (sym (own q)) (raise-is q x n p misses);
      ordered = ordered-is (raise_of Acceleration x n) (raise_of Speed x n);
    }
  where
    own : (q : Limit) → reported q (raises_of x n) ≡ raise_of q x n
    own Acceleration = reported-is Acceleration (raise_of Acceleration x n) (raise_of Speed x n)
    own Speed = reported-is Speed (raise_of Acceleration x n) (raise_of Speed x n)

-- ---- the entries of all axes

-- no axis has a number from k on
abbrev Below : ℕ → List JobAxis → Type 0
Below k [] = Unit {0}
Below k (x ∷ xs) = (x.number < k) × Below k xs

-- an empty mask names no axis
none-set : (i : ℕ) (six : List Axis) → set_axes i 0 six ≡ []
none-set i [] = refl
none-set i (x ∷ six) = none-set (suc i) six

-- a mask of k bits names no axis from number k on
set_below : (k i m : ℕ) (six : List Axis) → m < 2 ^ k → Below (i + k) (set_axes i m six)
set_below k i m [] h = tt
set_below zero i m (x ∷ six) h =
    let empty : m ≡ 0 = omega arith in
    subst (Below (i + 0)) (sym (ap (λ (b : ℕ). set_axes i b (x ∷ six)) empty ∙ none-set i (x ∷ six))) tt
set_below (suc k) i m (x ∷ six) h =
    let next : suc i + k ≡ i + suc k = omega arith in
    let half : m / 2 < 2 ^ k = omega (arith, h, pow-suc 2 k) in
    go (eqb (m % 2) 1)
    (subst (λ (c : ℕ). Below c (set_axes (suc i) (m / 2) six)) next (set_below k (suc i) (m / 2) six half))
  where
    go : (b : Bool) → Below (i + suc k) (set_axes (suc i) (m / 2) six)
        → Below (i + suc k) (elim b as (λ _. List JobAxis) [
          | true ↦ record { number = i; axis = x } ∷ set_axes (suc i) (m / 2) six
          | false ↦ set_axes (suc i) (m / 2) six
        ])
    go true f = (omega arith, f)
    go false f = f

module _ (n : ℕ) where
  abbrev after : JobAxis → List JobAxis → List AxisRaises → Bool → List AxisRaises
  after x xs l b =
      elim b [ true ↦ raises_from n xs l | false ↦ raises_from n xs (set l x.number (raises_of x.axis n)) ]

  -- an entry stays where no axis that misses n has its number
  untouched : (xs : List JobAxis) (l : List AxisRaises) (i : ℕ)
      → ((x : JobAxis) → Among xs x → reachable x.axis n ≡ false → x.number ≡ i → ⊥)
      → get_or (raises_from n xs l) i no_raises ≡ get_or l i no_raises
  untouched [] l i f = refl
  untouched (x ∷ xs) l i f = go (reachable x.axis n) refl (λ k. untouched xs k i (λ y m. f y (later-among x xs y m)))
    where
      go : (b : Bool) → reachable x.axis n ≡ b
          → ((k : List AxisRaises) → get_or (raises_from n xs k) i no_raises ≡ get_or k i no_raises)
          → get_or (after x xs l b) i no_raises ≡ get_or l i no_raises
      go true e h = h l
      go false e h =
          h (set l x.number (raises_of x.axis n))
          ∙ get_or-set_other l x.number i (raises_of x.axis n) no_raises (λ q. f x (first-among x xs) e (sym q))

  ascending-later : (k : ℕ) (xs : List JobAxis) → Ascends k xs → (x : JobAxis) → Among xs x → k ≤ x.number
  ascending-later k [] a x m = absurd (none-some m.1)
  ascending-later k (y ∷ xs) a x (zero, e) = let s : y ≡ x = cc in subst (λ (z : JobAxis). k ≤ z.number) s a.0
  ascending-later k (y ∷ xs) a x (suc i, e) = let h = ascending-later (suc y.number) xs a.1 x (i, e) in
      omega (arith, a.0)

  -- an axis that misses n has its raises at its number
  at_own : (k : ℕ) (xs : List JobAxis) (l : List AxisRaises) → Ascends k xs
      → Below (length l) xs → (x : JobAxis) → Among xs x
      → reachable x.axis n ≡ false → get_or (raises_from n xs l) x.number no_raises ≡ raises_of x.axis n
  at_own k [] l a b x m e = absurd (none-some m.1)
  at_own k (y ∷ xs) l a b x (zero, s) e =
      let q : y ≡ x = cc in
      subst (λ (z : JobAxis). get_or (raises_from n (y ∷ xs) l) z.number no_raises ≡ raises_of z.axis n) q
      (go (reachable y.axis n) (subst (λ (z : JobAxis). reachable z.axis n ≡ false) (sym q) e))
    where
      go : (t : Bool) → t ≡ false → get_or (after y xs l t) y.number no_raises ≡ raises_of y.axis n
      go true e = absurd (false≢true (sym e))
      go false e =
          untouched xs (set l y.number (raises_of y.axis n)) y.number
          (λ z m f q. let h = ascending-later (suc y.number) xs a.1 z m in omega arith)
          ∙ get_or-set_same l y.number (raises_of y.axis n) no_raises b.0
  at_own k (y ∷ xs) l a b x (suc i, s) e =
      go (reachable y.axis n) (λ r h. at_own (suc y.number) xs r a.1 h x (i, s) e)
    where
      go : (t : Bool)
          → ((r : List AxisRaises) → Below (length r) xs
          → get_or (raises_from n xs r) x.number no_raises ≡ raises_of x.axis n)
          → get_or (after y xs l t) x.number no_raises ≡ raises_of x.axis n
      go true h = h l b.1
      go false h =
          h (set l y.number (raises_of y.axis n))
          (subst (λ (c : ℕ). Below c xs) (sym (length-set l y.number (raises_of y.axis n))) b.1)

-- no entry of the list of no raises has any
of_none : (k i : ℕ) → get_or (replicate k no_raises) i no_raises ≡ no_raises
of_none zero i = refl
of_none (suc k) zero = refl
of_none (suc k) (suc i) = of_none k i

pub none-raised : (i : ℕ) → get_or none_raised i no_raises ≡ no_raises
none-raised i = of_none 6 i

-- ---- what number 8 says of a job

pub record Eight (j : Job) (m : ℕ) : Type 0 where
  pub last : j.asked ≤ 4096
  pub passed : AllPassed j.axes
  pub names : Names (λ x. Reachable x j.asked → ⊥) j.axes m

module _ (j : Job) (o : Outcome) (e : o.number ≡ 8) where
  by-verdict : Verdict Forwards j [] o → Eight j o.mask
  by-verdict (refused8 m a b p w n f r) =
      record {
        last = b;
        passed = p;
        names = subst (Names (λ x. Reachable x j.asked → ⊥) j.axes) (sym r.mask) f;
      }
  by-verdict (refused3 a r) = let z = r.number in absurd (omega arith)
  by-verdict (refused4 i a b r) = let z = r.number in absurd (omega arith)
  by-verdict (refused12 i a b c r) = let z = r.number in absurd (omega arith)
  by-verdict (refused5 i a b c d r) = let z = r.number in absurd (omega arith)
  by-verdict (refused15 i a b c d f r) = let z = r.number in absurd (omega arith)
  by-verdict (refused6 i a b c d f g r) = let z = r.number in absurd (omega arith)
  by-verdict (refused16 i a b c d f g h r) = let z = r.number in absurd (omega arith)
  by-verdict (refused17 i a b c d f g h k r) = let z = r.number in absurd (omega arith)
  by-verdict (refused13 p a b c r) = let z = r.number in absurd (omega arith)
  by-verdict (refused9 n a b w c d r) = let z = r.number in absurd (omega arith)
  by-verdict (refused10 n a w b h r) = let z = r.number in absurd (omega arith)
  by-verdict (accepted n a w b c r) = let z = r.number in absurd (omega arith)

module _ (t : Typed.Job) where
  abbrev o : Outcome
  o = call (typed t) []

  -- the answer before 10 has number 8 only where the call has it; the mask is then allowed
  pub eight : (answer_of (typed t)).number ≡ 8 → Eight (job_of t) (answer_of (typed t)).mask × (t.mask < 64)
  unfolding answer_of
  eight e =
      let s = same-refusal t.mask o 8 (λ z. omega arith) e in
      go s.0 s.1 (call-verdict (typed t) [])
    where
      go : o.number ≡ 8 → o.mask ≡ (answer_of (typed t)).mask → CallVerdict Forwards [] o (typed t)
          → Eight (job_of t) (answer_of (typed t)).mask × (t.mask < 64)
      go n m (typed1 _ h r) = let z = r.number in absurd (omega arith)
      go n m (typed_jobs _ h k v) = (subst (Eight (job_of t)) m (by-verdict (job_of t) o n v), omega arith)

  abbrev xs : List JobAxis
  xs = (job_of t).axes

  abbrev a : Answer
  a = answer_of (typed t)

  abbrev with-list : List AxisRaises → RaisesAnswer
  with-list l = record { answer = a; axes = l }

  -- any number but 8
  no_other : (a.number ≡ 8 → ⊥) → RaisesHold (job_of t) (with-list none_raised)
  no_other other = record { named = λ x m h. absurd (other h.0); others = λ i h. none-raised i }

  each-named : a.number ≡ 8 → RaisesHold (job_of t) (with-list (raises_from t.asked xs none_raised))
  each-named number = go (eight number).0 (eight number).1
    where
      go : Eight (job_of t) a.mask → t.mask < 64
          → RaisesHold (job_of t) (with-list (raises_from t.asked xs none_raised))
      go g six =
          record { named = named; others = λ i h. untouched t.asked xs none_raised i (reached i h) ∙ none-raised i }
        where
          reach : (x : JobAxis) → Among xs x → Reachable x.axis t.asked ↔ T (reachable x.axis t.asked)
          reach x m = reach-is x.axis t.asked (passed-among xs g.passed x m)

          -- an axis that does not reach the asked arrival is named
          reached : (i : ℕ) → (Named a i → ⊥) → (x : JobAxis) → Among xs x
              → reachable x.axis t.asked ≡ false → x.number ≡ i → ⊥
          reached i other x m e s =
              other (
                number,
                ap (bit a.mask) (sym s)
                    ∙ (g.names.each x m).1
                    (λ r. false≢true (sym e ∙ T_true (reachable x.axis t.asked) ((reach x m).0 r))),
              )

          named : (x : JobAxis) → Among xs x → Named a x.number
              → RaisesSay x.axis t.asked (get_or (raises_from t.asked xs none_raised) x.number no_raises)
          named x m h =
              let misses = (g.names.each x m).0 h.1 in
              let missed = T_false (reachable x.axis t.asked) (λ r. misses ((reach x m).1 r)) in
              let own = at_own t.asked 0 xs none_raised (set-ascends 0 t.mask t.axes)
              (set_below 6 0 t.mask t.axes six) x m missed in
              subst (RaisesSay x.axis t.asked) (sym own)
              (raises-say x.axis t.asked (passed-among xs g.passed x m) misses)

  pub raises-hold : RaisesHold (job_of t) (raises_call (typed t))
  unfolding raises_call
  raises-hold =
      by_bool (λ (l : List AxisRaises). RaisesHold (job_of t) (with-list l)) (eqb a.number 8) _ _
      (λ y. each-named (eqb→eq a.number 8 y))
      (λ n. no_other (λ z. subst (λ (b : Bool). T (not b)) (eq-eqb a.number 8 z) n))

-- ---- what each number says

module _ (q : Input) (r : RaisesAnswer) (is : r ≡ raises_call q) where
  -- a refusal of the words or of the mask is the call's own, and brings no raises
  refused : (n p : ℕ) → OfWords n → Refuses (call q []) n p 0 0 [] → r ≡ refuse_raises n p
  unfolding raises_call answer_of
  refused n p w e =
      is
      ∙ ap (λ (a : Answer). raises_with a (input_job q))
      (refused-answer (input_job q).mask (call q []) n p 0 0 [] w.not-10 e)
      ∙ ap (λ (b : Bool). record {
        answer = (refuse_raises n p).answer;
        axes = elim b as (λ _. List AxisRaises) [
          | true ↦ raises_from (input_job q).asked (input_job q).axes none_raised
          | false ↦ none_raised
        ];
      }) (ne_eqb n 8 w.not-8)

  judged : RaisesHold (input_job q) r → (j : Job) → input_job q ≡ j
      → Verdict Forwards j [] (call q []) → RaisesVerdict j r
  unfolding raises_call answer_of
  judged h j e v =
      record {
        outcome = call q [];
        planned = v;
        answer = ap (λ (a : RaisesAnswer). a.answer) is ∙ ap (λ (i : Job). before_ten i.mask (call q [])) e;
        holds = subst (λ (i : Job). RaisesHold i r) e h;
      }

  pub raises-verdict : RaisesHold (input_job q) r → RaisesCallVerdict q r
  raises-verdict h = said-too _ _ _ _ q refused (judged h) (call-verdict q [])
