-- Demand 3 asks that nothing is dropped at or above the job, and must. Of an account with 10, access 2 withdraws 6 under transaction 1, which is then
-- dropped; so access 3 may withdraw 6 too, and commits. To the dropped access 2 both are visible and both were answered OK: no order gives these answers.
use Prim.Native.Nat.{ℕ}
use mathlib.Core.Path.{◌≡◌, refl, sym, ap, subst, ◌∙◌}
use mathlib.Core.List.Memᴰ
use mathlib.Core.List.{List, [], ◌∷◌}
use mathlib.Core.Logic.{⊎_elim}
use native.Mathlib.Omega.{arith}
use lib.IntN.{pos}
use Rattle.below.specs.Below.{any_below, all_below, first_below, set_below}
use Rattle.below.specs.Climb.{climb, climb_in, up_any}
use Rattle.below.proofs.Tests.{same_or}
use Rattle.theory.specs.Serial.{Serial, Op, Legal, Right, after}
use Rattle.theory.specs.History.{◌∈◌, other, access, History, Step, ops, Parent, Committed, Answered, Visible}
use Rattle.theory.specs.Accepted.{Accepted}
use Rattle.theory.specs.Atomic.{Serializes}
use Rattle.theory.proofs.Rows.{got, Rows, Row, Agrees}
use Rattle.theory.proofs.Agree.{asked_row}
use Rattle.theory.proofs.Decide.{root_above}
use Rattle.theory.proofs.Grow.{answered_known, same_step}
use Rattle.theory.proofs.Tree.{access_other, above_trans, one_step}
use Rattle.kinds.specs.declared.Operation.TheVariants as O
use Rattle.kinds.specs.declared.account.AccountOperation.TheVariants.{Withdraw}
use Rattle.kinds.specs.declared.outcome.Outcome.TheVariants.{Ok}
use Rattle.kinds.specs.Kinds.{kind_of}
use Rattle.kinds.specs.Table.{entry}
use Rattle.kinds.specs.Object.{object_of}
use Rattle.kinds.proofs.Outcomes.{ok_not_fail}
use Rattle.columns.specs.Work.{work, only, laid, numbered}
use Rattle.replay.specs.View.{after_all}
use Rattle.store.specs.declared.Store.{Store}
use Rattle.store.specs.Refusal.{decide}
use Rattle.store.specs.Open.{open_of}
use Rattle.store.proofs.Kept.{open_kept}
use Rattle.store.proofs.Sizes.{open_sized}
use Rattle.store.specs.Calls.{Call, respond, commit, abort}
use Rattle.demands.specs.Run.{Run, kind_in, start_in, history_in}
use Rattle.demands.specs.Cases.{root, under, plain_under, withdraw}
use Rattle.demands.proofs.ObjectRows.{seen_by}
use Rattle.demands.proofs.Reached.{reached}
use Rattle.demands.proofs.Cases.{quick_after, quick_after_lem}

-- the rows: 1 is no access; the accesses are 2, under 1, and 3, under the root and committed; both did p
record BothDid {S : Serial} (p : Op S) (T : Rows S) : Type 0 where
  count : T.count ≡ 3
  role_1 : T.role 1 ≡ other
  row_2 : Row T 2 1 (access p.ask)
  row_3 : Row T 3 0 (access p.ask)
  reply_2 : T.reply 2 ≡ got p.reply
  reply_3 : T.reply 3 ≡ got p.reply
  state_3 : T.state 3 ≡ 1

module _ {S : Serial} (h : History S) (T : Rows S) (ok : Accepted h) (agrees : Agrees h T) (p : Op S) (rows : BothDid p T) where
  abbrev by : ℕ → Step S
  by x = record { who = x; did = p }

  first : Answered h (by 2)
  first = ((1, (agrees.rows 2 1 (access p.ask)).1 rows.row_2), (agrees.replies 2 p.reply).1 rows.reply_2)

  second : Answered h (by 3)
  second = ((0, (agrees.rows 3 0 (access p.ask)).1 rows.row_3), (agrees.replies 3 p.reply).1 rows.reply_3)

  -- nothing else was answered
  alike : (e : Step S) → Answered h e → e.did ≡ p
  alike e has =
      let (some, most, role) = asked_row h T agrees e.who e.did.ask has.0 in
      ⊎_elim
      (λ q. ap (λ d. d.did) (same_step h ok e (by 2) has first q))
      (λ n2.
      ⊎_elim
      (λ q. ap (λ d. d.did) (same_step h ok e (by 3) has second q))
      (λ n3.
      let plain : e.who ≡ 1 = omega (arith, rows.count) in
      absurd (access_other e.did.ask (sym rows.role_1 ∙ ap T.role (sym plain) ∙ role)))
      (same_or e.who 3))
      (same_or e.who 2)

  visible : Visible h 3 2
  visible u above off =
      let child : Parent h 0 3 = (access p.ask, (agrees.rows 3 0 (access p.ask)).1 rows.row_3) in
      ⊎_elim
      (λ own. subst (λ t. Committed h t) (sym own) ((agrees.commits 3).1 rows.state_3))
      (λ ne. absurd (off (above_trans (one_step h ok child above ne) (root_above h ok 2 (answered_known first)))))
      (same_or u 3)

  module _ (opening : S.State) (wrong : ¬ Right S (after S opening p) p) where
    -- whatever the order: its second p is wrong
    illegal : (l : List (Step S)) → ((e : Step S) → e ∈ l → e.did ≡ p) → by 2 ∈ l → by 3 ∈ l → ¬ Legal S opening (ops l)
    illegal [] all two three legal = Memᴰ.not-nil two
    illegal (e ∷ []) all two three legal = let z : ◌≡◌ {A = ℕ} 2 3 = ap (λ d. d.who) (lone two ∙ sym (lone three)) in omega arith
      where
        lone : {d : Step S} → d ∈ (e ∷ []) → d ≡ e
        lone m = ⊎_elim (λ q. q) (λ n. absurd (Memᴰ.not-nil n)) (Memᴰ.cases_cons m)
    illegal (e ∷ f ∷ l) all two three legal =
        wrong
        (subst (λ d. Right S (after S opening d) p) (all e (Memᴰ.head refl))
        (subst (λ d. Right S (after S opening e.did) d) (all f (Memᴰ.tail (Memᴰ.head refl))) legal.1.0))

    fails : ¬ Serializes S opening h 2
    fails s =
        let has = s.exact.has in
        illegal s.work (λ e m. alike e ((has e).0 m).0) ((has (by 2)).1 (first, λ u above off. absurd (off above))) ((has (by 3)).1 (second, visible))
        s.legal

abbrev pub calls : List Call
calls = plain_under root ∷ under 1 (withdraw 6) ∷ respond 2 ∷ abort 1 ∷ under root (withdraw 6) ∷ respond 3 ∷ commit 3 ∷ []

abbrev pub opened : Store
opened = (open_of (65 ∷ []) (pos 10 ∷ [])).store

pub one_object : opened.objects.count ≡ 1
unfolding open_of kind_of all_below
one_object = refl

abbrev pub dropped : Run
dropped = record { kinds = 65 ∷ []; openings = pos 10 ∷ []; calls = calls; object = 0; has = omega (arith, one_object) }

abbrev account : Serial
account = object_of (kind_in dropped)

abbrev took : Op account
took = record { ask = O.Account (Withdraw 6); reply = Ok }

abbrev seen : Store → Rows account
seen s = seen_by (kind_in dropped) 0 s

computed : BothDid took (seen (quick_after opened calls))
unfolding quick_after open_of decide kind_of entry after_all work only laid numbered any_below all_below first_below set_below up_any climb climb_in
computed =
    record {
      count = refl;
      role_1 = refl;
      row_2 = record { pos = omega arith; within = omega arith; parent = refl; role = refl };
      row_3 = record { pos = omega arith; within = omega arith; parent = refl; role = refl };
      reply_2 = refl;
      reply_3 = refl;
      state_3 = refl;
    }

-- 4 are left
too_much : ¬ Right account (after account (start_in dropped) took) took
unfolding kind_of
too_much right = ok_not_fail (sym right)

pub dropped_fails : ¬ Serializes (object_of (kind_in dropped)) (start_in dropped) (history_in dropped) 2
dropped_fails =
    let r = reached dropped in
    let agrees = subst (λ s. Agrees (history_in dropped) (seen s)) (quick_after_lem opened calls (open_sized _ _) (open_kept _ _)) r.agrees in
    fails (history_in dropped) (seen (quick_after opened calls)) r.accepted agrees took computed (start_in dropped) too_much
