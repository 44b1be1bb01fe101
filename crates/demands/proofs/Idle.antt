-- No idle version is the store. Source: document 01, "How tight the statements must be".
use Prim.Native.Nat.{ℕ, zero, suc}
use mathlib.Core.Path.{◌≡◌, refl, sym, ap, ◌∙◌}
use mathlib.Core.List.{List, [], ◌∷◌, ◌++◌, head-eq_of_cons-eq, tail-eq_of_cons-eq}
use native.Mathlib.Omega.{arith}
use lib.IntN.{pos}
use lib.ListN.{get_or, length}
use Rattle.columns.specs.Column.{at}
use Rattle.columns.specs.Work.{Found}
use Rattle.store.specs.declared.Store.{Store}
use Rattle.refusal.specs.declared.Answer.{Answer}
use Rattle.refusal.specs.declared.Request.{Request}
use Rattle.refusal.specs.declared.Child.{Child}
use Rattle.refusal.specs.declared.Child.TheVariants.{Access}
use Rattle.store.specs.Lists.{list_of}
use Rattle.store.specs.Create.{create_of}
use Rattle.store.specs.Respond.{respond_of}
use Rattle.store.specs.Finish.{commit_of, abort_of}
use Rattle.store.specs.Claims.{Waits}
use Rattle.store.proofs.Effects.{respond_does}
use Rattle.store.proofs.Opens.{open_lists}
use Rattle.store.proofs.Sizes.{open_sized, create_sized}
use Rattle.store.proofs.Waits.{respond_waits}
use Rattle.store.specs.Calls.{Call, respond, commit, reply_to, answers_to}
use Rattle.demands.specs.Cases.{Case, start, Holds, AllHold, table, root, under, withdraw, done, OK, FAIL}
use Rattle.demands.proofs.Cases.{drained_holds, starred}

abbrev none : Case
none = record { calls = []; answers = [] }

row : (cases : List Case) → AllHold cases → (i : ℕ) → Holds (get_or cases i none)
unfolding answers_to
row [] h i = ap (λ opens. opens ∷ []) (head-eq_of_cons-eq drained_holds)
row (c ∷ rest) h zero = h.0
row (c ∷ rest) h (suc i) = row rest h.1 i

-- the k-th answer of row i of the table, both from 0; rows 2 and 3 are case 3, and from 4 on the rows have the document's numbers
answered : (i k : ℕ) → get_or (answers_to start (get_or table i none).calls) k OK ≡ get_or (get_or table i none).answers k OK
answered i k = ap (λ l. get_or l k OK) (tail-eq_of_cons-eq (row table starred i))

accepted : (i k : ℕ) → (get_or (get_or table i none).answers k OK).code ≡ 0 → (get_or (answers_to start (get_or table i none).calls) k OK).code ≡ 0
accepted i k e = ap (λ r. r.code) (answered i k) ∙ e

-- a store that always waits or refuses, in any of its calls
pub not_always_refusing : ¬ ((s : Store) (p : ℕ) (child : Child) → ¬ ((create_of s p child).answer.code ≡ 0))
    × ¬ ((s : Store) (t : ℕ) → ¬ ((respond_of s t).answer.code ≡ 0))
    × ¬ ((s : Store) (t : ℕ) → ¬ ((commit_of s t).answer.code ≡ 0)) × ¬ ((s : Store) (t : ℕ) → ¬ ((abort_of s t).answer.code ≡ 0))
unfolding answers_to
not_always_refusing = (
  (λ idle. idle _ _ _ (accepted 9 0 refl)),
  (λ idle. idle _ _ (accepted 9 2 refl)),
  (λ idle. idle _ _ (accepted 7 3 refl)),
  (λ idle. idle _ _ (accepted 9 3 refl)),
)

-- one that answers the same always: withdraw 10 alone, and withdraw 11 alone
pub not_always_same : ¬ ((s z : Store) (t : ℕ) → (respond_of s t).answer ≡ (respond_of z t).answer)
unfolding answers_to
not_always_same idle =
    let same : ◌≡◌ {A = ℕ} 1 0 = ap (λ r. r.a) (sym (answered 2 1) ∙ idle _ _ 1 ∙ answered 3 1) in
    absurd (omega (arith, same))

-- one that never changes a list
pub not_never_changing : ¬ ((s : Store) (c : Call) (o u : ℕ) → list_of (reply_to s c).store o u ≡ list_of s o u)
unfolding answers_to
not_never_changing idle =
    let s : Store = (create_of start root (Access (withdraw 10))).store in
    let o : ℕ = at s.accesses.object 1 in
    let sized = create_sized start (open_sized _ _) root (Access (withdraw 10)) in
    let own : list_of (respond_of s 1).store o 1 ≡ 1 ∷ [] = (respond_does s 1 sized (accepted 2 1 refl)).own in
    let empty : list_of s o 1 ≡ [] = idle start (under root (withdraw 10)) o 1 ∙ open_lists _ _ o 1 in
    let same : ◌≡◌ {A = ℕ} 1 0 = ap length (sym own ∙ idle s (respond 1) o 1 ∙ empty) in
    absurd (omega (arith, same))

-- one that replays properly for the first response and afterwards repeats old values: r is asked as access t, and after other calls again as access u
abbrev twice : Request → ℕ → List Call → ℕ → List Call
twice r t between u = under root r ∷ respond t ∷ (between ++ (under root r ∷ respond u ∷ []))

pub not_repeating : ¬ ((r : Request) (t u : ℕ) (between : List Call) (others : List Answer) (first again : Answer)
    → answers_to start (twice r t between u) ≡ done t ∷ first ∷ (others ++ (done u ∷ again ∷ [])) → first.code ≡ 0 → again.code ≡ 0 → again ≡ first)
not_repeating idle =
    let same : ◌≡◌ {A = ℕ} 0 1 = ap (λ r. r.a) (idle (withdraw 6) 1 2 (commit 1 ∷ []) (done 1 ∷ []) OK FAIL (tail-eq_of_cons-eq drained_holds) refl refl) in
    absurd (omega (arith, same))

-- one that reports an invented holder or access with 13: what it names is on the list of the holder that it names
pub not_inventing : (s : Store) (t : ℕ) → let answer = (respond_of s t).answer in
    answer.code ≡ 13 → (x : ℕ) × (answer.b ≡ pos x) × Found x (list_of s (at s.accesses.object t) answer.a)
not_inventing s t e =
    let w : Waits s t (respond_of s t).answer = respond_waits s t e in
    (w.blocked.access, ap (λ r. r.b) w.answered, rw w.answered w.blocked.conflicting.listed)
