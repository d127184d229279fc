-- The call of a search with a budget: what each number says of it (`search-verdict`,
-- `call-says`), and that calls which go on from spent give what one undivided call gives
-- (`continuing`, `within-4096`).
use Prim.Native.Nat.{ℕ, suc, ◌+◌, ◌-◌, ◌≤◌, ◌<◌}
use native.Mathlib.Omega.{arith}
use mathlib.Core.Path.{◌≡◌, refl, sym, ap, subst, ◌∙◌}
use mathlib.Core.Bool.{Bool, true, false, not, ◌&&◌}
use mathlib.Core.Logic.{◌⊎◌, inl, inr}
use Rattle.std.specs.Prelude.{Option, None, Some}
use mathlib.Core.List.{List, [], ◌∷◌}
use lib.Dec.{T, ltb, leb, ltb→lt, leb→le, nltb→le, nleb→lt}
use lib.ListN.{length}
use Rattle.whole.proofs.Tests.{T_true, true-T, both, and, ltb_yes, leb_yes, by_bool, choice-yes}
use Rattle.model.specs.declared.Report.{Report}
use Rattle.model.specs.declared.Report.TheVariants.{Found, Spent, Nothing}
use Rattle.model.specs.declared.SearchAnswer.{SearchAnswer}
use Rattle.model.specs.planning.Job.{Job}
use Rattle.model.specs.planning.Admission.{Input, input_job, axis_refusals, Admission, tested, job_admission, admission}
use Rattle.model.specs.planning.Outcome.{arrives, least_from, outcome_after}
use Rattle.theorems.specs.Verdict.{Arrives, Passing}
use Rattle.model.specs.calls.Search.{candidates, search_from, refuse_search, search_answer, first_allowed}
use Rattle.model.specs.calls.Search.{first_checked}
use Rattle.model.specs.calls.Search.{asking, search_rules, search_after, search_call}
use Rattle.theorems.specs.Search.{undivided, after, continued, calls_made}
use Rattle.theorems.specs.Search.{Continues, ended, goes_on, ContinuingIsUndivided, AtLeast1, EndsWithin4096}
use Rattle.theorems.specs.Search.{SearchSays, found, spent, nothing, Planned, SearchVerdict}
use Rattle.theorems.specs.Search.{refused_as, refused18, reports, SearchCallVerdict}
use Rattle.theorems.proofs.words.WordsAre.{either-said}
use Rattle.theorems.proofs.jobs.WindowsInWords.{windows-right}
use Rattle.theorems.proofs.jobs.CheckingOrder.{lacks, clear-passed}
use Rattle.theorems.proofs.jobs.Admissions.{Way, stops, passes, ways, not-among, Numbered, Comes, refuses, goes}
use Rattle.theorems.proofs.jobs.Admissions.{comes, after-admission}
use Rattle.theorems.proofs.calls.Budgets.{whole, wholly, whole-search, GoesOn, either_way}
use Rattle.theorems.proofs.calls.SearchSays.{search-says, planned}

-- a search's tests have no number 0 and no number 10
pub search-numbered : Numbered search_rules
search-numbered = record { not-0 = λ n. lacks 0 axis_refusals refl; not-10 = λ n. lacks 10 axis_refusals refl }

-- ---- 18, or the search

first-wrong : (first : ℕ) → T (not (first_allowed first)) → (first ≡ 0) ⊎ (4097 < first)
first-wrong first t = go (ltb 0 first) (leb first 4097) (nltb→le 0 first) (nleb→lt first 4097) t
  where
    go : (a b : Bool) → (T (not a) → first ≤ 0) → (T (not b) → 4097 < first) → T (not (a && b))
        → (first ≡ 0) ⊎ (4097 < first)
    go true true f g t = absurd t
    go true false f g t = inr (g tt)
    go false b f g t = let h : first ≤ 0 = f tt in inl (omega arith)

first-right : (first : ℕ) → T (first_allowed first) → (1 ≤ first) × (first ≤ 4097)
first-right first t = let b = both (ltb 0 first) (leb first 4097) t in (ltb→lt 0 first b.0, leb→le first 4097 b.1)

module _ (j : Job) (first budget : ℕ) where
  -- a tick that was found can be asked for
  can-ask : Passing (asking 0 j) → 1 ≤ first → (r : Report) (tried n : ℕ)
      → SearchSays j first budget r tried → r ≡ Found n → Planned j n
  can-ask p h r tried n (found k a b c d f) e =
      let s : k ≡ n = cc in
      subst (Planned j) s (planned j p k (omega arith) b d)
  can-ask p h r tried n (spent a b) e = absurd (let z : ◌≡◌ {A = ℕ} 0 1 = cc in omega arith)
  can-ask p h r tried n (nothing a b) e = absurd (let z : ◌≡◌ {A = ℕ} 0 1 = cc in omega arith)

  job-verdict : SearchVerdict j first budget (search_after first budget (job_admission search_rules j))
  job-verdict = go (tested axis_refusals (asking 0 j)) refl (ways axis_refusals (asking 0 j))
    where
      go : (a : Admission) → tested axis_refusals (asking 0 j) ≡ a → Way axis_refusals (asking 0 j) a
          → SearchVerdict j first budget (search_after first budget a)
      go a e (stops n p o) = refused_as n p o (λ lent. ap (outcome_after lent) e) refl
      go a e (passes c w) =
          let p : Passing (asking 0 j) =
          record { asked = omega arith; axes = clear-passed j.axes c; windows = windows-right j.windows w } in
          by_bool (SearchVerdict j first budget) (first_allowed first) _ _
          (λ t.
          let h = first-right first t in
          let says = search-says j first budget p.axes h.1 in
          reports p h.0 h.1 refl says (λ n e. can-ask p h.0 _ _ n says e))
          (λ t. refused18 p (first-wrong first t) refl)

-- ---- a search that is not refused: each search of the same job is what it finds

abbrev answer : Job → ℕ → ℕ → SearchAnswer
answer j first budget = search_answer j.mask (search_from (arrives j) first budget)

abbrev Allowed : ℕ → Type 0
Allowed first = (1 ≤ first) × (first ≤ 4097)

pub record Searches (q : Input) (first : ℕ) : Type 0 where
  pub allowed : Allowed first
  pub is : (f b : ℕ) → Allowed f → search_call q f b ≡ answer (input_job q) f b

first_passes : (j : Job) (f b : ℕ) → Allowed f → first_checked j f b ≡ answer j f b
first_passes j f b h =
    sym
    (choice-yes (first_allowed f) (answer j f b) (refuse_search 18 0)
    (T_true (first_allowed f) (and (ltb 0 f) (leb f 4097) (true-T (ltb_yes h.0)) (true-T (leb_yes h.1)))))

pub searches : (q : Input) (first budget : ℕ) → (search_call q first budget).number ≡ 0 → Searches q first
unfolding search_call
searches q first budget = go (admission search_rules q) refl (comes search_rules search-numbered q)
  where
    not-18 : (j : Job) (b : Bool) → (T b → Allowed first)
        → (elim b as (λ _. SearchAnswer) [ true ↦ answer j first budget | false ↦ refuse_search 18 0 ]).number ≡ 0
        → Allowed first
    not-18 j true h e = h tt
    not-18 j false h e = absurd (omega arith)

    go : (a : Admission) → admission search_rules q ≡ a → Comes search_rules (input_job q) a
        → (search_after first budget a).number ≡ 0 → Searches q first
    go a e (refuses n p h k) z = absurd (h z)
    go a e (goes h c w) z =
        record {
          allowed = not-18 (asking 0 (input_job q)) (first_allowed first) (first-right first) z;
          is = λ f b l. ap (search_after f b) e ∙ first_passes (asking 0 (input_job q)) f b l;
        }

-- ---- calls that go on

module _ (q : Input) (is : (f b : ℕ) → Allowed f → search_call q f b ≡ answer (input_job q) f b) where
  abbrev test : ℕ → Bool
  test = arrives (input_job q)

  abbrev all : ℕ → SearchAnswer
  all first = search_answer (input_job q).mask (whole test first)

  undivided-is : (first : ℕ) → Allowed first → undivided q first ≡ all first
  undivided-is first h =
      is first 4096 h ∙ ap (search_answer (input_job q).mask) (whole-search test first 4096 (omega (arith, h.0)))

  turn : List ℕ → SearchAnswer → SearchAnswer
  turn bs a = elim a.report [ Found n ↦ a | Spent next ↦ after a.tried (continued q bs next) | Nothing ↦ a ]

  ends : (bs : List ℕ) (first : ℕ) → turn bs (all first) ≡ all first
  unfolding turn
  ends bs first = go (least_from test first (candidates first))
    where
      go : (o : Option ℕ) → turn bs (search_answer (input_job q).mask (wholly first o))
          ≡ search_answer (input_job q).mask (wholly first o)
      go (Some n) = refl
      go None = refl

  -- a call ends as the undivided one does; or it is spent, and the undivided one
  -- goes on from its next candidate
  call-goes : (first budget : ℕ) → Allowed first → (search_call q first budget ≡ all first) ⊎ GoesOn test first budget
  call-goes first budget h = go (either_way test first budget)
    where
      go : (search_from test first budget ≡ whole test first) ⊎ GoesOn test first budget
          → (search_call q first budget ≡ all first) ⊎ GoesOn test first budget
      go (inl e) = inl (is first budget h ∙ ap (search_answer (input_job q).mask) e)
      go (inr g) = inr g

  module _ (first budget : ℕ) (h : Allowed first) (g : GoesOn test first budget) where
    pub next-allowed : Allowed (first + budget)
    next-allowed = (omega (arith, h.0), omega (arith, g.left))

    spends : search_call q first budget
        ≡ search_answer (input_job q).mask (record { report = Spent (first + budget); tried = budget })
    spends = is first budget h ∙ ap (search_answer (input_job q).mask) g.is

    rest-is : undivided q first ≡ after budget (undivided q (first + budget))
    rest-is =
        undivided-is first h
        ∙ ap (search_answer (input_job q).mask) g.on
        ∙ sym (ap (after budget) (undivided-is (first + budget) next-allowed))

    one_more : (bs : List ℕ) → turn bs (search_call q first budget) ≡ after budget (continued q bs (first + budget))
    unfolding turn
    one_more bs = ap (turn bs) spends

    -- the calls after it, from its next candidate on
    onward : (a : SearchAnswer) → Continues q (first + budget) a → Continues q first (after budget a)
    onward a (ended e) = ended (ap (after budget) e ∙ sym rest-is)
    onward a (goes_on next l t r u) =
        let same : budget + (a.tried + (undivided q next).tried)
        ≡ budget + a.tried + (undivided q next).tried = omega arith in
        goes_on next l (omega arith) r
        (rest-is
        ∙ ap (after budget) u
        ∙ (λ i. record {
          number = (undivided q next).number;
          place = (undivided q next).place;
          mask = (undivided q next).mask;
          arrival = (undivided q next).arrival;
          report = (undivided q next).report;
          tried = same i;
        }))

  continues : (bs : List ℕ) (first : ℕ) → Allowed first → Continues q first (continued q bs first)
  unfolding continued turn
  continues [] first h = go (call-goes first 0 h)
    where
      go : (search_call q first 0 ≡ all first) ⊎ GoesOn test first 0 → Continues q first (search_call q first 0)
      go (inl e) = ended (e ∙ sym (undivided-is first h))
      go (inr g) =
          subst (Continues q first) (sym (spends first 0 h g))
          (goes_on (first + 0) g.left refl refl (rest-is first 0 h g))
  continues (b ∷ bs) first h = go (call-goes first b h) (λ g. continues bs (first + b) (next-allowed first b h g))
    where
      go : (search_call q first b ≡ all first) ⊎ GoesOn test first b
          → (GoesOn test first b → Continues q (first + b) (continued q bs (first + b)))
          → Continues q first (turn bs (search_call q first b))
      go (inl e) ih = ended (ap (turn bs) e ∙ ends bs first ∙ sym (undivided-is first h))
      go (inr g) ih =
          subst (Continues q first) (sym (one_more first b h g bs))
          (onward first b h g (continued q bs (first + b)) (ih g))

  -- as many calls as there are candidates
  finishes : (bs : List ℕ) (first : ℕ) → Allowed first → AtLeast1 bs → candidates first ≤ length bs
      → continued q bs first ≡ undivided q first
  unfolding continued turn
  finishes [] first h l c = go (call-goes first 0 h)
    where
      go : (search_call q first 0 ≡ all first) ⊎ GoesOn test first 0 → search_call q first 0 ≡ undivided q first
      go (inl e) = e ∙ sym (undivided-is first h)
      go (inr g) = absurd (omega (arith, g.left))
  finishes (b ∷ bs) first h (l, ls) c =
      go (call-goes first b h) (λ g. finishes bs (first + b) (next-allowed first b h g) ls (omega arith))
    where
      go : (search_call q first b ≡ all first) ⊎ GoesOn test first b
          → (GoesOn test first b → continued q bs (first + b) ≡ undivided q (first + b))
          → turn bs (search_call q first b) ≡ undivided q first
      go (inl e) ih = ap (turn bs) e ∙ ends bs first ∙ sym (undivided-is first h)
      go (inr g) ih = one_more first b h g bs ∙ ap (after b) (ih g) ∙ sym (rest-is first b h g)

  -- each call but the last tries one candidate or more
  count : List ℕ → Report → ℕ
  count bs r = elim r as (λ _. ℕ) [ Found n ↦ 1 | Spent next ↦ suc (calls_made q bs next) | Nothing ↦ 1 ]

  made : (bs : List ℕ) (first : ℕ) → Allowed first → AtLeast1 bs → calls_made q bs first ≤ suc (candidates first - 1)
  unfolding calls_made count
  made [] first h l = omega arith
  made (b ∷ bs) first h (l, ls) = go (call-goes first b h) (λ g. made bs (first + b) (next-allowed first b h g) ls)
    where
      one : (o : Option ℕ) → count bs (wholly first o).report ≡ 1
      one (Some n) = refl
      one None = refl

      go : (search_call q first b ≡ all first) ⊎ GoesOn test first b
          → (GoesOn test first b → calls_made q bs (first + b) ≤ suc (candidates (first + b) - 1))
          → count bs (search_call q first b).report ≤ suc (candidates first - 1)
      go (inl e) ih =
          let z = ap (λ (a : SearchAnswer). count bs a.report) e ∙ one (least_from test first (candidates first)) in
          omega (arith, z)
      go (inr g) ih =
          let z = ap (λ (a : SearchAnswer). count bs a.report) (spends first b h g) in
          omega (arith, z, ih g, g.left, l)

-- ---- the theorems

pub continuing : ContinuingIsUndivided
continuing q first bs z = let s = searches q first 4096 z in continues q s.is bs first s.allowed

pub within-4096 : EndsWithin4096
within-4096 q first bs z l c =
    let s = searches q first 4096 z in
    record {
      ends = finishes q s.is bs first s.allowed l (omega (arith, s.allowed.0));
      calls = omega (arith, s.allowed.0, made q s.is bs first s.allowed l);
    }

pub search-verdict : (q : Input) (first budget : ℕ) → SearchCallVerdict q first budget (search_call q first budget)
unfolding search_call
search-verdict q first budget =
    after-admission search_rules (search_after first budget) (λ a n p. a ≡ refuse_search n p)
    (λ a j. SearchVerdict j first budget a) (λ n p. refl) q
    (λ j i. job-verdict j first budget)

-- a call with number 0: what its report says, and that a tick that it found can be asked for
pub record CallSays (j : Job) (first budget : ℕ) (a : SearchAnswer) : Type 0 where
  pub says : SearchSays j first budget a.report a.tried
  pub asked : (n : ℕ) → a.report ≡ Found n → Planned j n

job-says : (j : Job) (first budget : ℕ) (a : SearchAnswer) → a.number ≡ 0
    → SearchVerdict j first budget a → CallSays j first budget a
job-says j first budget a z (refused_as n p k f e) =
    absurd (not-among 0 axis_refusals n (λ e. omega arith) (lacks 0 axis_refusals refl) k
    (sym (ap (λ (r : SearchAnswer). r.number) e) ∙ z))
job-says j first budget a z (refused18 p h e) = absurd (let m = ap (λ (r : SearchAnswer). r.number) e in omega arith)
job-says j first budget a z (reports p l h k s asked) = record { says = s; asked = asked }

pub call-says : (q : Input) (first budget : ℕ) (a : SearchAnswer) → a.number ≡ 0 → SearchCallVerdict q first budget a
    → CallSays (input_job q) first budget a
call-says q first budget a z =
    either-said (λ n p. a ≡ refuse_search n p) (λ j. SearchVerdict j first budget a)
    (CallSays (input_job q) first budget a) q
    (λ n p w e. absurd (w.not-0 (sym (ap (λ (r : SearchAnswer). r.number) e) ∙ z)))
    (λ j s v. subst (λ (i : Job). CallSays i first budget a) (sym s) (job-says j first budget a z v))

-- a tick that arrives within the budget is reported, or an earlier one
pub found-if-any : (j : Job) (first budget tried n : ℕ) (r : Report) → SearchSays j first budget r tried → first ≤ n
    → n ≤ 4096 → n < first + budget
    → Arrives j n → (m : ℕ) × ((r ≡ Found m) × (m ≤ n))
found-if-any j first budget tried n r (found m a b c d f) h k l arrives =
    (m, (refl, not-below m n (λ q. f n h q arrives)))
  where
    not-below : (m n : ℕ) → (n < m → ⊥) → m ≤ n
    not-below m n h = omega (arith, h)
found-if-any j first budget tried n r (spent a b) h k l arrives = absurd (b n h l arrives)
found-if-any j first budget tried n r (nothing a b) h k l arrives = absurd (b n h k arrives)
