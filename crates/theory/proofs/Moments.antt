-- The accepted calls of a history, one before another: each was allowed when it was made.
use Prim.Native.Nat.{ℕ}
use mathlib.Core.Path.{◌≡◌, sym, ap, subst, ◌∙◌}
use mathlib.Core.List.Memᴰ
use mathlib.Core.List.{[], ◌∷◌}
use mathlib.Core.Logic.{◌⊎◌, inl, inr, ⊎_elim}
use Rattle.theory.specs.Serial.{Serial}
use Rattle.theory.specs.History.{◌∈◌, Event, created, responded, committed, aborted, History}
use Rattle.theory.specs.Accepted.{Allowed, Accepted}

module _ {S : Serial} where
  -- which of the four calls
  abbrev pub tag : Event S → ℕ
  tag (created n p r) = 0
  tag (responded x v) = 1
  tag (committed t) = 2
  tag (aborted t) = 3

  pub differ : {a b : Event S} → ¬ (tag a ≡ tag b) → ¬ (a ≡ b)
  differ ne q = ne (ap tag q)

  pub older : {a b : Event S} {h : History S} → ¬ (a ≡ b) → a ∈ (b ∷ h) → a ∈ h
  older ne m = ⊎_elim (λ q. absurd (ne q)) (λ k. k) (Memᴰ.cases_cons m)

  pub skip : {a b : Event S} {h : History S} → ¬ (tag a ≡ tag b) → a ∈ (b ∷ h) → a ∈ h
  skip ne m = older (differ ne) m

  -- h has all that g has
  abbrev pub Within : History S → History S → Type 0
  Within g h = (e : Event S) → e ∈ g → e ∈ h

  -- e was allowed after the calls `past`, all of which h has
  pub record Moment (h : History S) (e : Event S) : Type 0 where
    pub past : History S
    pub accepted : Accepted past
    pub allowed : Allowed past e
    pub within : Within past h

  abbrev moment_now : (c : Event S) (h : History S) → Accepted (c ∷ h) → (e : Event S) → e ≡ c → Moment (c ∷ h) e
  moment_now c h ok e q = record { past = h; accepted = ok.0; allowed = subst (λ b. Allowed h b) (sym q) ok.1; within = λ b k. Memᴰ.tail k }

  abbrev moment_more : (c : Event S) (h : History S) (e : Event S) → Moment h e → Moment (c ∷ h) e
  moment_more c h e m = record { past = m.past; accepted = m.accepted; allowed = m.allowed; within = λ b k. Memᴰ.tail (m.within b k) }

  pub moment : (h : History S) → Accepted h → (e : Event S) → e ∈ h → Moment h e
  moment [] ok e m = absurd (Memᴰ.not-nil m)
  moment (c ∷ h) ok e m = ⊎_elim (moment_now c h ok e) (λ k. moment_more c h e (moment h ok.0 e k)) (Memᴰ.cases_cons m)

  -- and d was among them
  abbrev pub After : History S → Event S → Event S → Type 0
  After h e d = (m : Moment h e) × (d ∈ m.past)

  -- of two accepted calls one came after the other
  pub two : (h : History S) → Accepted h → (e d : Event S) → e ∈ h → d ∈ h → (e ≡ d) ⊎ After h e d ⊎ After h d e
  two [] ok e d m k = absurd (Memᴰ.not-nil m)
  two (c ∷ h) ok e d m k = go (λ i j. two h ok.0 e d i j) (Memᴰ.cases_cons m) (Memᴰ.cases_cons k)
    where
      more : (e ≡ d) ⊎ After h e d ⊎ After h d e → (e ≡ d) ⊎ After (c ∷ h) e d ⊎ After (c ∷ h) d e
      more (inl q) = inl q
      more (inr (inl a)) = inr (inl (moment_more c h e a.0, a.1))
      more (inr (inr a)) = inr (inr (moment_more c h d a.0, a.1))

      go : (e ∈ h → d ∈ h → (e ≡ d) ⊎ After h e d ⊎ After h d e) → (e ≡ c) ⊎ (e ∈ h) → (d ≡ c) ⊎ (d ∈ h)
          → (e ≡ d) ⊎ After (c ∷ h) e d ⊎ After (c ∷ h) d e
      go rec (inl q) (inl r) = inl (q ∙ sym r)
      go rec (inl q) (inr j) = inr (inl (moment_now c h ok e q, j))
      go rec (inr i) (inl r) = inr (inr (moment_now c h ok d r, i))
      go rec (inr i) (inr j) = more (rec i j)
