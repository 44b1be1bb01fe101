-- The finishing order never runs both ways, so there is at most one list of the visible work in that order.
use Prim.Native.Nat.{ℕ}
use mathlib.Core.Path.{◌≡◌, sym, subst}
use mathlib.Core.List.{List}
use mathlib.Core.Logic.{⊎_elim}
use native.Mathlib.Decide.{ℕ_discrete}
use Rattle.theory.specs.Serial.{Serial}
use Rattle.theory.specs.History.{History, Step, Parent, AtOrAbove, up, Finished, Sooner, now, since, Before, Work}
use Rattle.theory.specs.Accepted.{Accepted}
use Rattle.theory.proofs.Tree.{one_step, comparable, one_parent, above_trans, siblings}
use Rattle.theory.proofs.Grow.{finished_more, First}
use Rattle.theory.proofs.Ordered.{ordered_unique}

module _ {S : Serial} where
  sooner_finished : {a b : ℕ} {h : History S} → Sooner a b h → Finished h a
  sooner_finished (now f n) = f
  sooner_finished (since s) = finished_more (sooner_finished s)

  sooner_asym : {a b : ℕ} {h : History S} → Sooner a b h → Sooner b a h → ⊥
  sooner_asym (now f n) s = n (sooner_finished s)
  sooner_asym (since s) (now f n) = n (sooner_finished (since s))
  sooner_asym (since s) (since r) = sooner_asym s r

  not_self : {a b : ℕ} {h : History S} → a ≡ b → Sooner a b h → ⊥
  not_self {a} {b} {h} q s = let r : Sooner a a h = subst (λ c. Sooner a c h) (sym q) s in sooner_asym r r

  module _ (h : History S) (ok : Accepted h) where
    pub before_asym : (x y : ℕ) → Before h x y → Before h y x → ⊥
    before_asym x y s t =
        ⊎_elim (λ r. over (ℕ_discrete s.a t.b) r) (λ r. under (ℕ_discrete t.b s.a) r) (comparable h ok s.above_x t.above_y)
      where
        same : s.a ≡ t.b → ⊥
        same q =
            let e : s.p ≡ t.p = one_parent h ok s.a_child (subst (λ c. Parent h t.p c) (sym q) t.b_child) in
            let f : s.b ≡ t.a = siblings h ok s.b_child (subst (λ c. Parent h c t.a) (sym e) t.a_child) s.above_y t.above_x in
            let u : Sooner s.b t.b h = subst (λ c. Sooner c t.b h) (sym f) t.sooner in
            sooner_asym s.sooner (subst (λ c. Sooner s.b c h) (sym q) u)

        over : Dec (s.a ≡ t.b) → AtOrAbove h s.a t.b → ⊥
        over (yes q) r = same q
        over (no ne) r =
            not_self
            (siblings h ok s.a_child s.b_child (above_trans (up t.a_child (one_step h ok t.b_child r ne)) t.above_x) s.above_y)
            s.sooner

        under : Dec (t.b ≡ s.a) → AtOrAbove h t.b s.a → ⊥
        under (yes q) r = same (sym q)
        under (no ne) r =
            not_self
            (siblings h ok t.a_child t.b_child t.above_x (above_trans (up s.b_child (one_step h ok s.a_child r ne)) s.above_y))
            t.sooner

    pub work_unique : (t : ℕ) (l k : List (Step S)) → Work h t l → Work h t k → l ≡ k
    work_unique t l k a b =
        ordered_unique (First h) (λ d e. before_asym d.who e.who) l k a.ordered b.ordered
        (λ x m. (b.has x).1 ((a.has x).0 m))
        (λ x m. (a.has x).1 ((b.has x).0 m))
