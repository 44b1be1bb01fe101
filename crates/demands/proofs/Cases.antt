-- The starred cases hold, and one more, by computation. A store in form needs no test of its form: without the test, which goes over every row, a call
-- computes fast.
use mathlib.Core.Path.{◌≡◌, refl, sym, ap, ◌∙◌}
use mathlib.Core.Bool.{true}
use mathlib.Core.List.{List, [], ◌∷◌, map, tail, head-eq_of_cons-eq, tail-eq_of_cons-eq}
use Rattle.below.specs.Below.{any_below, all_below, first_below, set_below}
use Rattle.below.specs.Climb.{climb, climb_in, up_any}
use Rattle.kinds.specs.Kinds.{kind_of}
use Rattle.kinds.specs.Table.{entry}
use Rattle.columns.specs.Work.{work, only, laid, numbered}
use Rattle.replay.specs.View.{after_all}
use Rattle.store.specs.declared.Store.{Store}
use Rattle.refusal.specs.declared.Answer.{Answer}
use Rattle.store.specs.declared.Reply.{Reply}
use Rattle.store.specs.Form.{in_form}
use Rattle.store.specs.Effects.{Sized}
use Rattle.refusal.specs.Refusal.{Refusal}
use Rattle.store.specs.Refusal.{decide, malformed}
use Rattle.store.specs.Open.{open_of}
use Rattle.store.proofs.Refusals.{next}
use Rattle.store.proofs.Kept.{open_kept}
use Rattle.store.proofs.Sizes.{open_sized}
use Rattle.store.specs.Calls.{Call, create, respond, commit, abort, reply_to, after, answers_to}
use Rattle.demands.specs.Calls.{refusals_to, done_to}
use Rattle.demands.specs.Cases.{Case, start, Holds, AllHold, table, root, under, withdraw, done, OK, FAIL, opening}
use Rattle.demands.proofs.Calls.{decided_by, call_sized, call_kept}

-- a call without its first refusal, 15
abbrev quickly : Store → Call → Reply
quickly s c = decide s (tail (refusals_to s c)) (done_to s c)

quick_reply : (s : Store) (c : Call) → in_form s ≡ true → reply_to s c ≡ quickly s c
quick_reply s c e = decided_by s c ∙ past_form c
  where
    past : (rest : List Refusal) (done : Reply) → decide s (malformed s ∷ rest) done ≡ decide s rest done
    past rest done = sym (next s done (malformed s) rest (decide s rest done) (rw e) refl)

    past_form : (c : Call) → decide s (refusals_to s c) (done_to s c) ≡ quickly s c
    past_form (create p child) = past _ _
    past_form (respond t) = past _ _
    past_form (commit t) = past _ _
    past_form (abort t) = past _ _

unfoldable quick_answers : Store → List Call → List Answer
quick_answers s [] = []
quick_answers s (c ∷ calls) = (quickly s c).answer ∷ quick_answers (quickly s c).store calls

quick_answers_lem : (s : Store) (calls : List Call) → Sized s → in_form s ≡ true → answers_to s calls ≡ quick_answers s calls
unfolding answers_to quick_answers
quick_answers_lem s [] sized form = refl
quick_answers_lem s (c ∷ calls) sized form =
    ap (λ l. (reply_to s c).answer ∷ l) (quick_answers_lem (reply_to s c).store calls (call_sized s c sized) (call_kept s c sized form))
    ∙ ap (λ r. r.answer ∷ quick_answers r.store calls) (quick_reply s c form)

unfoldable pub quick_after : Store → List Call → Store
quick_after s [] = s
quick_after s (c ∷ calls) = quick_after (quickly s c).store calls

pub quick_after_lem : (s : Store) (calls : List Call) → Sized s → in_form s ≡ true → after s calls ≡ quick_after s calls
unfolding after quick_after
quick_after_lem s [] sized form = refl
quick_after_lem s (c ∷ calls) sized form =
    quick_after_lem (reply_to s c).store calls (call_sized s c sized) (call_kept s c sized form) ∙ ap (λ r. quick_after r.store calls) (quick_reply s c form)

abbrev quick : Case → List Answer
quick c = opening.answer ∷ quick_answers start c.calls

abbrev expected : Case → List Answer
expected c = done 2 ∷ c.answers

-- withdraw 6, committed, and withdraw 6 again
abbrev pub drained : Case
drained = record {
  calls = under root (withdraw 6) ∷ respond 1 ∷ commit 1 ∷ under root (withdraw 6) ∷ respond 2 ∷ [];
  answers = done 1 ∷ OK ∷ done 1 ∷ done 2 ∷ FAIL ∷ [];
}

computed : map quick (drained ∷ table) ≡ map expected (drained ∷ table)
unfolding quick_answers open_of decide kind_of entry after_all work only laid numbered any_below all_below first_below set_below up_any climb climb_in
computed = refl

quick_holds : (cases : List Case) → map quick cases ≡ map expected cases → AllHold cases
quick_holds [] q = tt
quick_holds (c ∷ rest) q = (
  ap (λ l. opening.answer ∷ l) (quick_answers_lem start c.calls (open_sized _ _) (open_kept _ _)) ∙ head-eq_of_cons-eq q,
  quick_holds rest (tail-eq_of_cons-eq q),
)

all_hold : AllHold (drained ∷ table)
all_hold = quick_holds (drained ∷ table) computed

pub drained_holds : Holds drained
drained_holds = all_hold.0

pub starred : AllHold table
starred = all_hold.1
