-- The ways out of a search's calls.
use Prim.Native.Nat.{ℕ, ◌≤◌}
use mathlib.Core.Path.{◌≡◌, refl, sym, ap, subst, ◌∙◌}
use mathlib.Core.Bool.{Bool, true, false, ◌&&◌}
use mathlib.Core.List.{List}
use lib.Dec.{leb, ltb, leb→le, ltb→lt}
use Rattle.whole.proofs.Tests.{both, true-T, choice-yes, choice-no}
use Rattle.model.specs.declared.Axis.{Axis}
use Rattle.std.specs.Prelude.{Result, Ok, Err}
use Rattle.model.specs.declared.refusal.Refusal.{Refusal}
use Rattle.model.specs.planning.Told.{number_of, place_of, answer_to, told}
use Rattle.model.specs.declared.Job as Typed
use Rattle.model.specs.declared.SearchAnswer.{SearchAnswer}
use Rattle.model.specs.planning.Windows.{in_windows}
use Rattle.model.specs.planning.Job.{Job, job_of, set_axes}
use Rattle.model.specs.planning.Admission.{Input, words, typed, admission}
use Rattle.model.specs.planning.Outcome.{arrives}
use Rattle.model.specs.calls.Search.{search_from, refuse_search, search_answer, first_allowed, first_checked, asking}
use Rattle.model.specs.calls.Search.{search_rules, search_after, search_call}
use Rattle.theorems.proofs.calls.SearchCalls.{search-numbered, search-verdict, call-says}
use Rattle.arrival.specs.Arrivals.{arrives_in}
use Rattle.words.specs.Decoding.{Decodes}
use Rattle.admission.specs.Admitting.{without_job, named_with_weight}
use Rattle.admission.proofs.Weights.{given-reaches}
use Rattle.admission.proofs.Admitted.{Goes, refused, place-alone, passed}
use Rattle.words.proofs.ReadWords as Read
use Rattle.search.specs.Promise.{SearchPromise}

pub promise : (q : Input) (first budget : ℕ) (r : SearchAnswer) → r ≡ search_call q first budget
    → SearchPromise q first budget r
promise q first budget r e =
    subst (SearchPromise q first budget) (sym e)
    (record {
      is = refl;
      verdict = search-verdict q first budget;
      says = λ z. (call-says q first budget (search_call q first budget) z (search-verdict q first budget)).says;
      planned = λ z. (call-says q first budget (search_call q first budget) z (search-verdict q first budget)).asked;
    })

pub first_range : (first : ℕ) → first_allowed first ≡ true → (1 ≤ first) × (first ≤ 4097)
first_range first e =
    let t = both (ltb 0 first) (leb first 4097) (true-T e) in
    (ltb→lt 0 first t.0, leb→le first 4097 t.1)

-- ---- a job that is checked

module _ (t : Typed.Job) (first budget : ℕ) (c : Result Unit Refusal)
    (is : told c ≡ without_job (admission search_rules (typed t))) where
  -- its asked arrival is read as 0
  abbrev j : Job
  j = asking 0 (job_of t)

  pub job-refused : (x : Refusal) → c ≡ Err x
      → refuse_search (number_of x) (place_of x) ≡ search_call (typed t) first budget
  unfolding search_call
  job-refused x e =
      let alone = place-alone search_rules search-numbered (typed t) (told c) is (answer_to x) (ap told e) in
      sym (ap (search_after first budget)
      (refused search_rules search-numbered (typed t) (told c) is (number_of x) (place_of x)
      (ap told e ∙ ap Err alone)).is)

  module _ (pass : c ≡ Ok tt) where
    pub goes : Goes search_rules (typed t)
    goes = passed search_rules search-numbered (typed t) (told c) is (ap told pass)

    checks-pass : first_checked j first budget ≡ search_call (typed t) first budget
    unfolding search_call
    checks-pass = sym (ap (search_after first budget) goes.is)

    -- 18
    pub first-refused : first_allowed first ≡ false → refuse_search 18 0 ≡ search_call (typed t) first budget
    first-refused e = choice-no (first_allowed first) (search_answer t.mask (search_from (arrives j) first budget))
        (refuse_search 18 0) e ∙ checks-pass

    -- the search, of the axes with the number B of each given
    pub searched : first_allowed first ≡ true → (given : List Axis) → given ≡ named_with_weight t.mask t.axes
        → search_answer t.mask (search_from (arrives_in t.windows (set_axes 0 t.mask given)) first budget)
        ≡ search_call (typed t) first budget
    searched e given w =
        ap (λ (test : ℕ → Bool). search_answer t.mask (search_from test first budget))
        {x = arrives_in t.windows (set_axes 0 t.mask given)} {y = arrives j}
        (λ i n. in_windows t.windows n && given-reaches t.mask t.axes given w n i)
        ∙ choice-yes (first_allowed first)
        (search_answer t.mask (search_from (arrives j) first budget)) (refuse_search 18 0) e
        ∙ checks-pass

-- ---- words

module _ (ws : List ℕ) (first budget : ℕ) (d : Result Typed.Job Refusal) (is : Decodes ws d) where
  pub words-refused : (x : Refusal) → d ≡ Err x
      → refuse_search (number_of x) (place_of x) ≡ search_call (words ws) first budget
  unfolding search_call
  words-refused x e = sym (ap (search_after first budget) (Read.words-refused search_rules ws d is x e))

  -- the call from words is the call of the job that they hold
  pub words-passed : (t : Typed.Job) → d ≡ Ok t
      → search_call (typed t) first budget ≡ search_call (words ws) first budget
  unfolding search_call
  words-passed t z = ap (search_after first budget) (Read.words-passed search_rules ws d is t z)
