-- Which transactions a history has as accesses to its object.
use Prim.Native.Nat.{ℕ}
use mathlib.Core.Path.{◌≡◌, refl, sym, ap, ◌∙◌}
use mathlib.Core.Bool.{true, ◌&&◌, false≢true, or-true}
use mathlib.Core.Logic.{⊎_elim}
use mathlib.Core.List.Memᴰ
use mathlib.Core.List.{[], ◌∷◌}
use lib.Dec.{eqb}
use borrow.Author.Tests.{eq-eqb, eqb-true}
use Rattle.below.proofs.Tests.{and_fst, and_snd, or_cases}
use Rattle.theory.specs.Serial.{Serial}
use Rattle.theory.specs.History.{◌∈◌, Role, other, access, Event, created, responded, committed, aborted, History, Asked}
use Rattle.demands.specs.History.{is_access, access_in}

module _ {S : Serial} where
  is_access_lem : (r : Role S) → is_access r ≡ true → (a : S.Ask) × (r ≡ access a)
  is_access_lem other e = absurd (false≢true e)
  is_access_lem (access a) e = (a, refl)

  since : (e : Event S) (h : History S) (t : ℕ) → (a : S.Ask) × Asked h t a → (a : S.Ask) × Asked (e ∷ h) t a
  since e h t k = (k.0, (k.1.0, Memᴰ.tail k.1.1))

  pub access_asked : (h : History S) (t : ℕ) → access_in h t ≡ true → (a : S.Ask) × Asked h t a
  access_asked [] t e = absurd (false≢true e)
  access_asked (created n p r ∷ h) t e =
      ⊎_elim
      (λ q. let same : n ≡ t = eqb-true n t (and_fst (eqb n t) (is_access r) q) in
      let k = is_access_lem r (and_snd (eqb n t) (is_access r) q) in
      (k.0, (p, Memᴰ.head (ap (λ y. created y p (access k.0)) (sym same) ∙ ap (created n p) (sym k.1)))))
      (λ q. since (created n p r) h t (access_asked h t q)) (or_cases (eqb n t && is_access r) (access_in h t) e)
  access_asked (responded x v ∷ h) t e = since (responded x v) h t (access_asked h t e)
  access_asked (committed x ∷ h) t e = since (committed x) h t (access_asked h t e)
  access_asked (aborted x ∷ h) t e = since (aborted x) h t (access_asked h t e)

  pub asked_access : (h : History S) (t p : ℕ) (a : S.Ask) → created t p (access a) ∈ h → access_in h t ≡ true
  asked_access [] t p a m = absurd (Memᴰ.not-nil m)
  asked_access (created n q r ∷ h) t p a m =
      ⊎_elim
      (λ e. let same : n ≡ t = cc in let role : r ≡ access a = cc in rw (eq-eqb n t same, role))
      (λ k. rw (asked_access h t p a k) (or-true (eqb n t && is_access r))) (Memᴰ.cases_cons m)
  asked_access (responded x v ∷ h) t p a m = ⊎_elim (λ e. cc) (asked_access h t p a) (Memᴰ.cases_cons m)
  asked_access (committed x ∷ h) t p a m = ⊎_elim (λ e. cc) (asked_access h t p a) (Memᴰ.cases_cons m)
  asked_access (aborted x ∷ h) t p a m = ⊎_elim (λ e. cc) (asked_access h t p a) (Memᴰ.cases_cons m)
