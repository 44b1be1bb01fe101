-- What a history says, as it grows by one call.
use Prim.Native.Nat.{ℕ}
use mathlib.Core.Path.{◌≡◌, refl, sym, ap, subst}
use mathlib.Core.List.Memᴰ
use mathlib.Core.List.{List, ◌∷◌}
use mathlib.Core.Logic.{◌⊎◌, inl, inr, ⊎_elim, dite}
use native.Mathlib.Omega.{arith}
use Rattle.theory.specs.Serial.{Serial}
use Rattle.theory.specs.History.{◌∈◌, Role, access, Event, created, responded, committed, aborted, History, Step, Ordered}
use Rattle.theory.specs.History.{Parent, AtOrAbove, self, up, Finished, Orphan, Answered, Visible, since, Before}
use Rattle.theory.specs.Accepted.{Known, Allowed, Accepted, MayRespond}
use Rattle.theory.proofs.Moments.{tag, older, skip}
use Rattle.theory.proofs.Tree.{finished_later, asked_known, parent_known, one_role, one_answer, responded_asked}
use Rattle.theory.proofs.Decide.{dec_above}
use Rattle.theory.proofs.Ordered.{ordered_map}

step_eq : {S : Serial} (d e : Step S) → d.who ≡ e.who → d.did.ask ≡ e.did.ask → d.did.reply ≡ e.did.reply → d ≡ e
step_eq {S} d e p q r = whole
  where
    make : ℕ → S.Ask → S.Reply → Step S
    make n a v = record { who = n; did = record { ask = a; reply = v } }

    whole : make d.who d.did.ask d.did.reply ≡ make e.who e.did.ask e.did.reply
    whole = cc

module _ {S : Serial} where
  parent_more : {h : History S} {e : Event S} {p n : ℕ} → Parent h p n → Parent (e ∷ h) p n
  parent_more m = (m.0, Memᴰ.tail m.1)

  pub above_more : {h : History S} {e : Event S} {u n : ℕ} → AtOrAbove h u n → AtOrAbove (e ∷ h) u n
  above_more (self q) = self q
  above_more (up m a) = up (parent_more m) (above_more a)

  pub above_less : {h : History S} {e : Event S} {u n : ℕ} → ¬ (0 ≡ tag e) → AtOrAbove (e ∷ h) u n → AtOrAbove h u n
  above_less ne (self q) = self q
  above_less ne (up m a) = up (m.0, skip ne m.1) (above_less ne a)

  pub finished_more : {h : History S} {e : Event S} {t : ℕ} → Finished h t → Finished (e ∷ h) t
  finished_more f = finished_later (λ c m. Memᴰ.tail m) f

  pub alive_less : {h : History S} {c : Event S} {x : ℕ} → ¬ Orphan (c ∷ h) x → ¬ Orphan h x
  alive_less n d = n (d.0, above_more d.1, Memᴰ.tail d.2)

  pub before_more : {h : History S} {e : Event S} (x y : ℕ) → Before h x y → Before (e ∷ h) x y
  before_more x y b =
      record {
        a = b.a;
        b = b.b;
        p = b.p;
        a_child = parent_more b.a_child;
        b_child = parent_more b.b_child;
        above_x = above_more b.above_x;
        above_y = above_more b.above_y;
        sooner = since b.sooner;
      }

  -- the finishing order of steps
  abbrev pub First : History S → Step S → Step S → Type 0
  First h d e = Before h d.who e.who

  pub first_more : (h : History S) (e : Event S) (l : List (Step S)) → Ordered (First h) l → Ordered (First (e ∷ h)) l
  first_more h e l o = ordered_map (λ d f. before_more d.who f.who) l o

  pub answered_known : {h : History S} {e : Step S} → Answered h e → Known h e.who
  answered_known a = asked_known a.0

  pub answered_more : {h : History S} {c : Event S} {e : Step S} → Answered h e → Answered (c ∷ h) e
  answered_more a = ((a.0.0, Memᴰ.tail a.0.1), Memᴰ.tail a.1)

  module _ (h : History S) (ok : Accepted h) where
    -- what was known is not created again
    old_creation : (e : Event S) → Allowed h e → {x q : ℕ} {s : Role S} → Known h x → created x q s ∈ (e ∷ h) → created x q s ∈ h
    old_creation (created n p r) may {x} k m = older (λ e. let z : x ≡ n = cc in let y = may.newest x k in omega arith) m
    old_creation (responded y v) may k m = skip (λ q. omega arith) m
    old_creation (committed t) may k m = skip (λ q. omega arith) m
    old_creation (aborted t) may k m = skip (λ q. omega arith) m

    pub above_old : (e : Event S) → Allowed h e → {u x : ℕ} → Known h x → AtOrAbove (e ∷ h) u x → AtOrAbove h u x
    above_old e may k (self q) = self q
    above_old e may k (up {p = q} m a) =
        let j : Parent h q _ = (m.0, old_creation e may k m.1) in
        up j (above_old e may (parent_known h ok j) a)

    pub visible_more : (e : Event S) → Allowed h e → {x t : ℕ} → Known h x → Visible h x t → Visible (e ∷ h) x t
    visible_more e may k v w a n = Memᴰ.tail (v w (above_old e may k a) (λ b. n (above_more b)))

    pub visible_trans : {x z t : ℕ} → Visible h x z → Visible h z t → Visible h x t
    visible_trans {x} {z} {t} v y w a n = dite (dec_above h ok w z) (λ b. y w b n) (λ b. v w a b)

    -- an access is answered once, with one reply to one ask
    pub same_step : (d e : Step S) → Answered h d → Answered h e → d.who ≡ e.who → d ≡ e
    same_step d e a b q =
        let c : created d.who b.0.0 (access e.did.ask) ∈ h = subst (λ n. created n b.0.0 (access e.did.ask) ∈ h) (sym q) b.0.1 in
        let r : responded d.who e.did.reply ∈ h = subst (λ n. responded n e.did.reply ∈ h) (sym q) b.1 in
        let i = one_role h ok a.0.1 c in
        step_eq d e q (cc) (one_answer h ok a.1 r)

    -- it is answered now, or was before
    answered_or : (c : Event S) → Allowed h c → (e : Step S) → Answered (c ∷ h) e → (responded e.who e.did.reply ≡ c) ⊎ Answered h e
    answered_or c may e a =
        ⊎_elim
        (λ q. inl q)
        (λ m. inr ((a.0.0, old_creation c may (asked_known (responded_asked h ok m).1) a.0.1), m))
        (Memᴰ.cases_cons a.1)

    -- a call that answers nothing
    pub answered_old : (c : Event S) → Allowed h c → ¬ (1 ≡ tag c) → (e : Step S) → Answered (c ∷ h) e → Answered h e
    answered_old c may ne e a = ⊎_elim (λ q. absurd (ne (ap tag q))) (λ b. b) (answered_or c may e a)

  -- a response answers one access, which was not answered before
  abbrev pub new_step : {h : History S} {x : ℕ} → S.Reply → MayRespond h x → Step S
  new_step {h} {x} v may = record { who = x; did = record { ask = may.asked.0; reply = v } }

  pub new_answered : {h : History S} {x : ℕ} (v : S.Reply) (may : MayRespond h x) → Answered (responded x v ∷ h) (new_step v may)
  new_answered v may = ((may.asked.1.0, Memᴰ.tail may.asked.1.1), Memᴰ.head refl)

  pub new_or_old : (h : History S) → Accepted h → (x : ℕ) (v : S.Reply) (may : MayRespond h x) (e : Step S) → Answered (responded x v ∷ h) e
      → (e ≡ new_step v may) ⊎ Answered h e
  new_or_old h ok x v may e a =
      ⊎_elim
      (λ q. inl (same_step (responded x v ∷ h) (ok, may) e (new_step v may) a (new_answered v may) (cc)))
      (λ b. inr b)
      (answered_or h ok (responded x v) may e a)

  pub old_apart : {h : History S} {x : ℕ} → MayRespond h x → (e : Step S) → Answered h e → ¬ (e.who ≡ x)
  old_apart {h} may e a q = may.unanswered e.did.reply (subst (λ n. responded n e.did.reply ∈ h) q a.1)
