-- No call and no opening answers a code above 15.
use Prim.Native.Nat.{ℕ, ◌≤◌}
use mathlib.Core.Path.{◌≡◌, refl}
use mathlib.Core.Bool.{Bool, true, ◌&&◌, and-eq-true_iff}
use mathlib.Core.Logic.{⊎_elim}
use mathlib.Core.List.{List, [], ◌∷◌}
use native.Mathlib.Omega.{arith}
use lib.IntN.{ℤ}
use lib.Dec.{leb}
use borrow.Author.Tests.{leb-true}
use Rattle.below.proofs.Tests.{bool_or}
use Rattle.store.specs.declared.Store.{Store}
use Rattle.store.specs.declared.Reply.{Reply}
use Rattle.refusal.specs.declared.Child.TheVariants.{Plain, Access}
use Rattle.refusal.specs.Refusal.{Refusal}
use Rattle.store.specs.Refusal.{decide}
use Rattle.refusal.specs.Exact.{codes_of}
use Rattle.store.specs.Create.{create_of}
use Rattle.store.specs.Respond.{respond_of}
use Rattle.store.specs.Finish.{commit_of, abort_of}
use Rattle.refusal.specs.Open.{openable}
use Rattle.store.specs.Open.{open_of}
use Rattle.store.specs.Calls.{Call, create, respond, commit, abort, reply_to}
use Rattle.output.specs.Codes.{code_most}

abbrev low : List ℕ → Bool
low [] = true
low (c ∷ codes) = leb c code_most && low codes

decide_low : (s : Store) (done : Reply) (refusals : List Refusal) → low (codes_of refusals) ≡ true → done.answer.code ≤ code_most
    → (decide s refusals done).answer.code ≤ code_most
unfolding decide
decide_low s done [] e h = h
decide_low s done (r ∷ rest) e h =
    let b = (and-eq-true_iff (leb r.answer.code code_most) (low (codes_of rest))).0 e in
    ⊎_elim (λ t. rw t (leb-true r.answer.code code_most b.0)) (λ f. rw f (decide_low s done rest b.1 h)) (bool_or r.when)

pub code_most_lem : (s : Store) (c : Call) → (reply_to s c).answer.code ≤ code_most
unfolding create_of respond_of commit_of abort_of
code_most_lem s (create p Plain) = decide_low s _ _ refl (omega arith)
code_most_lem s (create p (Access r)) = decide_low s _ _ refl (omega arith)
code_most_lem s (respond t) = decide_low s _ _ refl (omega arith)
code_most_lem s (commit t) = decide_low s _ _ refl (omega arith)
code_most_lem s (abort t) = decide_low s _ _ refl (omega arith)

pub open_code_most : (kinds : List ℕ) (openings : List ℤ) → (open_of kinds openings).answer.code ≤ code_most
unfolding open_of
open_code_most kinds openings = ⊎_elim (λ t. rw t (omega arith)) (λ f. rw f (omega arith)) (bool_or (openable kinds openings))
