-- Lines one after another, for any kind of line: what they hold, and where they end, by one turn of a loop over them.
use Prim.Native.Nat.{ℕ, zero, suc, ◌+◌, ◌≤◌, ◌<◌, zero-le, suc-le-suc}
use mathlib.Core.Path.{◌≡◌, refl}
use mathlib.Core.List.{[], ◌∷◌}
use native.Mathlib.Omega.{arith}
use lib.ListN.{length}
use Rattle.std.specs.Prelude.{Option, Some, None, Ok, Err}
use Rattle.text.specs.Number.{on_read}
use Rattle.written.specs.Items.{items_from, ends_from}
use Rattle.written.specs.declared.Place.{Place}

module _ {A : Type 0} (line : ℕ → Option (A × ℕ)) where
  pub items_done : (n at : ℕ) → n ≤ 0 → items_from line n at ≡ []
  unfolding items_from
  items_done zero at h = refl
  items_done (suc n) at h = absurd (omega arith)

  pub items_wrong : (n at : ℕ) → line at ≡ None → items_from line n at ≡ []
  unfolding items_from
  items_wrong zero at e = refl
  items_wrong (suc n) at e = rw e

  pub items_more : (n m at : ℕ) (a : A) (next : ℕ) → n ≡ m + 1 → line at ≡ Some (a, next) → items_from line n at ≡ a ∷ items_from line m next
  unfolding items_from
  items_more zero m at a next h e = absurd (omega arith)
  items_more (suc n) m at a next h e = let same : n ≡ m = omega arith in rw (e, same)

  -- no more than were asked for
  pub items_most : (n at : ℕ) → length (items_from line n at) ≤ n
  unfolding items_from
  items_most zero at = zero-le
  items_most (suc n) at = of_item (line at) (items_most n)
    where
      of_item : (x : Option (A × ℕ)) → ((next : ℕ) → length (items_from line n next) ≤ n) → length (on_read x [] (λ a next. a ∷ items_from line n next)) ≤ suc n
      of_item (Some r) few = suc-le-suc (few r.1)
      of_item None few = zero-le

  pub ends_done : (n : ℕ) (place : Place) → n ≤ 0 → ends_from line n place ≡ Ok place
  unfolding ends_from
  ends_done zero place h = refl
  ends_done (suc n) place h = absurd (omega arith)

  pub ends_wrong : (n : ℕ) (place : Place) → 0 < n → line place.at ≡ None → ends_from line n place ≡ Err (record { line = place.line })
  unfolding ends_from
  ends_wrong zero place h e = absurd (omega arith)
  ends_wrong (suc n) place h e = rw e

  pub ends_more : (n m : ℕ) (place : Place) (a : A) (at : ℕ) → n ≡ m + 1 → line place.at ≡ Some (a, at)
      → ends_from line n place ≡ ends_from line m (record { at = at; line = place.line + 1 })
  unfolding ends_from
  ends_more zero m place a at h e = absurd (omega arith)
  ends_more (suc n) m place a at h e = let same : n ≡ m = omega arith in rw (e, same)
