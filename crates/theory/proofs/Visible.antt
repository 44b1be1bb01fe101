-- Visible work: who holds it, where it stands in the finishing order, and that it is not dropped.
use Prim.Native.Nat.{ℕ}
use mathlib.Core.Path.{◌≡◌, refl, sym, subst}
use mathlib.Core.Logic.{inl, dite}
use native.Mathlib.Decide.{ℕ_discrete}
use Rattle.theory.specs.Serial.{Serial}
use Rattle.theory.specs.History.{History, Step, Parent, AtOrAbove, self, up, Committed, Finished, Orphan, Asked, Answered, Visible, now, Before}
use Rattle.theory.specs.Accepted.{Accepted}
use Rattle.theory.proofs.Tree.{not_both, childless, root_open, child, child_below, leaf, one_step}
use Rattle.theory.proofs.Decide.{dec_committed, dec_above, root_above}
use Rattle.theory.proofs.Grow.{answered_known}

module _ {S : Serial} (h : History S) (ok : Accepted h) where
  -- the lowest at or above x that has not committed: x's work has come as far as there
  pub record Reaches (x : ℕ) : Type 0 where
    pub holder : ℕ
    pub above : AtOrAbove h holder x
    pub uncommitted : ¬ Committed h holder
    pub visible : Visible h x holder

  pub reaches : {x : ℕ} → AtOrAbove h 0 x → Reaches x
  reaches {x} (self q) =
      record {
        holder = x;
        above = self refl;
        uncommitted = λ c. root_open h ok (subst (λ w. Committed h w) (sym q) c);
        visible = λ w a b. absurd (b a);
      }
  reaches {x} (up {p = p} m a) = go (dec_committed h x) (reaches a)
    where
      go : Dec (Committed h x) → Reaches p → Reaches x
      go (no n) r = record { holder = x; above = self refl; uncommitted = n; visible = λ w b c. absurd (c b) }
      go (yes c) r = record { holder = r.holder; above = up m r.above; uncommitted = r.uncommitted; visible = λ w i j. on w i j (ℕ_discrete w x) }
        where
          on : (w : ℕ) → AtOrAbove h w x → ¬ AtOrAbove h w r.holder → Dec (w ≡ x) → Committed h w
          on w i j (yes q) = subst (λ k. Committed h k) (sym q) c
          on w i j (no ne) = r.visible w (one_step h ok m i ne) j

  pub alive_visible : {x t : ℕ} → Visible h x t → ¬ Orphan h t → ¬ Orphan h x
  alive_visible {x} {t} v n d = dite (dec_above h ok d.0 t) (λ i. n (d.0, i, d.2)) (λ k. not_both h ok (v d.0 d.1 k) d.2)

  -- an access whose work has come as far as p stands before all that is at or beneath a child of p that is still open
  pub stands_before : {x y p b : ℕ} {a : S.Ask} → Asked h x a → AtOrAbove h p x → Visible h x p → Parent h p b → AtOrAbove h b y → ¬ Finished h b
      → Before h x y
  stands_before {x} {y} {p} {b} asked above v under above_y unfinished =
      let c = child above (λ q. childless h ok asked (subst (λ w. Parent h w b) q under)) in
      record {
        a = c.0;
        b = b;
        p = p;
        a_child = c.1;
        b_child = under;
        above_x = c.2;
        above_y = above_y;
        sooner = now (inl (v c.0 c.2 (child_below h ok c.1))) unfinished;
      }

  -- work visible to an access that is open all the way up stands before it
  pub visible_before : (e : Step S) (y : ℕ) (c : S.Ask) → Answered h e → Asked h y c → ¬ (e.who ≡ y)
      → ((w : ℕ) → AtOrAbove h w y → ¬ Finished h w) → Visible h e.who y → Before h e.who y
  visible_before e y c answered asked ne unfinished v =
      let b = child over (λ q. leaf h ok asked (λ z. ne (sym z)) (subst (λ w. AtOrAbove h w e.who) q r.above)) in
      stands_before answered.0 r.above r.visible b.1 b.2 (unfinished b.0 b.2)
    where
      r : Reaches e.who
      r = reaches (root_above h ok e.who (answered_known answered))

      over : AtOrAbove h r.holder y
      over = dite (dec_above h ok r.holder y) (λ i. i) (λ n. absurd (r.uncommitted (v r.holder r.above n)))
