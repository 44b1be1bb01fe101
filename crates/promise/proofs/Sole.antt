-- The laws by which a contract leaves one outcome: it gives the result, and what it writes, as functions of the arguments.
use mathlib.Core.Path.{◌≡◌, sym, ◌∙◌}

pub sole : {A : Type 0} {x y z : A} → x ≡ z → y ≡ z → x ≡ y
sole p q = p ∙ sym q

pub whole : {A B : Type 0} {x y z : A} {s t u : B} → (x ≡ z) × (s ≡ u) → (y ≡ z) × (t ≡ u) → (x ≡ y) × (s ≡ t)
whole p q = (sole p.0 q.0, sole p.1 q.1)
