-- Lists in an order that never runs both ways: each is given by its members.
use mathlib.Core.Path.{◌≡◌, refl, sym, ap₂, ◌∙◌}
use mathlib.Core.List.Memᴰ
use mathlib.Core.List.{List, [], ◌∷◌, ◌++◌}
use mathlib.Core.Logic.{⊎_elim}
use Rattle.theory.specs.History.{◌∈◌, Ordered}

module _ {A : Type 0} where
  pub ordered_map : {R Q : A → A → Type 0} → ((x y : A) → R x y → Q x y) → (l : List A) → Ordered R l → Ordered Q l
  ordered_map f [] o = tt
  ordered_map f (x ∷ l) o = (λ y m. f x y (o.0 y m), ordered_map f l o.1)

  pub ordered_append : {R : A → A → Type 0} (l k : List A) → Ordered R l → Ordered R k → ((x y : A) → x ∈ l → y ∈ k → R x y) → Ordered R (l ++ k)
  ordered_append [] k o p c = p
  ordered_append (x ∷ l) k o p c = (
    (λ y m. ⊎_elim (λ i. o.0 y i) (λ j. c x y (Memᴰ.head refl) j) (Memᴰ.append_cases l m)),
    ordered_append l k o.1 p (λ y z i j. c y z (Memᴰ.tail i) j),
  )

  module _ (R : A → A → Type 0) (asym : (x y : A) → R x y → R y x → ⊥) where
    heads : (x y : A) (l k : List A) → Ordered R (x ∷ l) → Ordered R (y ∷ k) → x ∈ (y ∷ k) → y ∈ (x ∷ l) → x ≡ y
    heads x y l k o p m n =
        ⊎_elim
        (λ q. q)
        (λ i. ⊎_elim (λ q. sym q) (λ j. absurd (asym x y (o.0 y j) (p.0 x i))) (Memᴰ.cases_cons n))
        (Memᴰ.cases_cons m)

    tails : (x y : A) (l k : List A) → x ≡ y → Ordered R (x ∷ l) → ((z : A) → z ∈ (x ∷ l) → z ∈ (y ∷ k)) → (z : A) → z ∈ l → z ∈ k
    tails x y l k q o f z m =
        ⊎_elim
        (λ e. let i : x ∈ l = Memᴰ.cast (q ∙ sym e) m in absurd (asym x x (o.0 x i) (o.0 x i)))
        (λ j. j)
        (Memᴰ.cases_cons (f z (Memᴰ.tail m)))

    pub ordered_unique : (l k : List A) → Ordered R l → Ordered R k → ((x : A) → x ∈ l → x ∈ k) → ((x : A) → x ∈ k → x ∈ l) → l ≡ k
    ordered_unique [] [] o p f g = refl
    ordered_unique [] (y ∷ k) o p f g = absurd (Memᴰ.not-nil (g y (Memᴰ.head refl)))
    ordered_unique (x ∷ l) [] o p f g = absurd (Memᴰ.not-nil (f x (Memᴰ.head refl)))
    ordered_unique (x ∷ l) (y ∷ k) o p f g =
        let q : x ≡ y = heads x y l k o p (f x (Memᴰ.head refl)) (g y (Memᴰ.head refl)) in
        ap₂ ◌∷◌ q (ordered_unique l k o.1 p.1 (tails x y l k q o f) (tails y x k l (sym q) p g))
