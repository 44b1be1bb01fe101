-- What `store` proves of each call, said of every call: its answers, each exactly when its condition holds and none earlier in its order does; and what it
-- keeps, accepted or refused: the lengths of the columns, the form, and the objects as they were opened.
use Prim.Native.Nat.{ℕ}
use mathlib.Core.Path.{◌≡◌, refl}
use mathlib.Core.Bool.{true, false}
use mathlib.Core.Logic.{⊎_elim}
use mathlib.Core.List.Memᴰ
use mathlib.Core.List.{List, [], ◌∷◌, ◌++◌}
use lib.IntN.{ℤ, pos}
use lib.ListN.{length}
use Rattle.below.proofs.Tests.{bool_or, same_or}
use Rattle.theory.specs.History.{◌∈◌}
use Rattle.store.specs.declared.Store.{Store}
use Rattle.store.specs.declared.Reply.{Reply}
use Rattle.refusal.specs.declared.Child.TheVariants.{Plain, Access}
use Rattle.store.specs.Form.{in_form}
use Rattle.refusal.specs.Refusal.{Refusal, answer_of}
use Rattle.store.specs.Refusal.{reply_of, decide}
use Rattle.refusal.specs.Exact.{codes_of}
use Rattle.store.specs.Claims.{Decided}
use Rattle.store.specs.Effects.{SameObjects, Sized}
use Rattle.store.specs.Create.{create_of}
use Rattle.store.specs.Respond.{respond_of}
use Rattle.store.specs.Finish.{commit_of, abort_of}
use Rattle.refusal.specs.Open.{openable}
use Rattle.store.specs.Open.{empty_store, opened_store, open_of}
use Rattle.store.proofs.Answers.{create_decided, respond_decided, commit_decided, abort_decided}
use Rattle.store.proofs.Effects.{create_does, respond_does, commit_does, abort_does}
use Rattle.store.proofs.Sizes.{create_sized, respond_sized, commit_sized, abort_sized}
use Rattle.store.proofs.Kept.{create_kept, respond_kept, commit_kept, abort_kept}
use Rattle.store.specs.Calls.{Call, create, respond, commit, abort, reply_to}
use Rattle.demands.specs.Calls.{refusals_to, done_to, Does, codes_for}

pub answers : (s : Store) (c : Call) → Decided s (refusals_to s c) (done_to s c) (reply_to s c)
answers s (create p child) = create_decided s p child
answers s (respond t) = respond_decided s t
answers s (commit t) = commit_decided s t
answers s (abort t) = abort_decided s t

pub orders : (s : Store) (c : Call) → codes_of (refusals_to s c) ++ (0 ∷ []) ≡ codes_for c
orders s (create p Plain) = refl
orders s (create p (Access r)) = refl
orders s (respond t) = refl
orders s (commit t) = refl
orders s (abort t) = refl

pub decided_by : (s : Store) (c : Call) → reply_to s c ≡ decide s (refusals_to s c) (done_to s c)
unfolding create_of respond_of commit_of abort_of
decided_by s (create p child) = refl
decided_by s (respond t) = refl
decided_by s (commit t) = refl
decided_by s (abort t) = refl

-- the code is a refusal's, or that of what is done
one_of : (s : Store) (done : Reply) (refusals : List Refusal) → (decide s refusals done).answer.code ∈ (codes_of refusals ++ (done.answer.code ∷ []))
unfolding decide
one_of s done [] = Memᴰ.head refl
one_of s done (r ∷ rest) =
    ⊎_elim (λ t. rw t (Memᴰ.head refl)) (λ f. rw f (Memᴰ.tail (one_of s done rest))) (bool_or r.when)

done_code : (s : Store) (c : Call) → (done_to s c).answer.code ≡ 0
done_code s (create p child) = refl
done_code s (respond t) = refl
done_code s (commit t) = refl
done_code s (abort t) = refl

pub listed : (s : Store) (c : Call) → (reply_to s c).answer.code ∈ codes_for c
listed s c = rw (decided_by s c, ← orders s c, ← done_code s c) (one_of s (done_to s c) (refusals_to s c))

module _ (kinds : List ℕ) (openings : List ℤ) where
  pub opens : openable kinds openings ≡ true → open_of kinds openings ≡ reply_of (opened_store kinds openings) (answer_of 0 (length kinds) (pos 0))
  unfolding open_of
  opens e = rw e

  pub unopened : openable kinds openings ≡ false → open_of kinds openings ≡ reply_of empty_store (answer_of 14 0 (pos 0))
  unfolding open_of
  unopened e = rw e

pub call_sized : (s : Store) (c : Call) → Sized s → Sized (reply_to s c).store
call_sized s (create p child) sized = create_sized s sized p child
call_sized s (respond t) sized = respond_sized s sized t
call_sized s (commit t) sized = commit_sized s sized t
call_sized s (abort t) sized = abort_sized s sized t

pub call_kept : (s : Store) (c : Call) → Sized s → in_form s ≡ true → in_form (reply_to s c).store ≡ true
call_kept s (create p child) sized form = create_kept s p child form sized
call_kept s (respond t) sized form = respond_kept s t form sized
call_kept s (commit t) sized form = commit_kept s t form
call_kept s (abort t) sized form = abort_kept s t form

pub call_does : (s : Store) (c : Call) → Sized s → (reply_to s c).answer.code ≡ 0 → Does s c (reply_to s c).store
call_does s (create p child) sized = create_does s p child sized
call_does s (respond t) sized = respond_does s t sized
call_does s (commit t) sized = commit_does s t sized
call_does s (abort t) sized = abort_does s t sized

done_objects : (s : Store) (c : Call) (z : Store) → Does s c z → SameObjects s z
done_objects s (create p child) z does = does.same
done_objects s (respond t) z does = does.same
done_objects s (commit t) z does = does.same
done_objects s (abort t) z does = does.same

pub call_objects : (s : Store) (c : Call) → Sized s → SameObjects s (reply_to s c).store
call_objects s c sized =
    ⊎_elim
    (λ done. done_objects s c (reply_to s c).store (call_does s c sized done))
    (λ n. rw ((answers s c).refused n) (record { objects = refl; kind = refl; opening = refl }))
    (same_or (reply_to s c).answer.code 0)
