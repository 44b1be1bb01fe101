-- A square table of rules, kept as rows: one test that antt computes over the whole table, and what it says at every row and column.
use Rattle.std.specs.Prelude.{Option, Some, None}
use mathlib.Core.Path.{◌≡◌, refl, sym, ap, ◌∙◌}
use mathlib.Core.Bool.{Bool, true, not, ◌&&◌, and-eq-true_iff, or_comm}
use mathlib.Core.Logic.{⊎_elim}
use mathlib.Core.List.{List, []}
use Prim.Native.Nat.{ℕ, zero, suc, ◌<◌, ◌≤◌}
use lib.IntN.{ℤ}
use lib.Signed.{lt_z}
use lib.Dec.{eqb}
use lib.ListN.{length, get_or, get_or-eq_default}
use borrow.Author.Tests.{eqb-true}
use Rattle.below.specs.Below.{all_below}
use Rattle.below.proofs.Search.{all_at}
use Rattle.below.proofs.Tests.{le_or}
use Rattle.kinds.specs.Kinds.{table_of}
use Rattle.kinds.specs.Table.{entry, judge, verdict}
use Rattle.kinds.specs.declared.Kind.{Kind}
use Rattle.kinds.specs.declared.Kind.TheVariants.{Account, Register, Counter, Bin, Unknown}
use Rattle.kinds.specs.declared.table.Class.{Class}
use Rattle.kinds.specs.declared.table.Rule.{Rule}
use Rattle.kinds.specs.declared.table.Rule.TheVariants.{Pass, Conflict, UnlessEqual, IfEqual, IfAtLeast, IfAtMost}

-- there are n rows, each of n entries
abbrev pub square : ℕ → List (List Rule) → Bool
square n rows = eqb (length rows) n && all_below n (λ a. eqb (length (get_or rows a [])) n)

abbrev pub size : Kind → ℕ
size Account = 4
size Register = 2
size Counter = 2
size Bin = 4
size Unknown = 0

pub sized : (kind : Kind) → square (size kind) (table_of kind) ≡ true
unfolding all_below
sized Account = refl
sized Register = refl
sized Counter = refl
sized Bin = refl
sized Unknown = refl

module _ (rows : List (List Rule)) (n : ℕ) (full : square n rows ≡ true) where
  parts : (eqb (length rows) n ≡ true) × (all_below n (λ a. eqb (length (get_or rows a [])) n) ≡ true)
  parts = (and-eq-true_iff (eqb (length rows) n) (all_below n (λ a. eqb (length (get_or rows a [])) n))).0 full

  row_length : (a : ℕ) → a < n → length (get_or rows a []) ≡ n
  row_length a h = eqb-true _ _ (all_at (λ a. eqb (length (get_or rows a [])) n) n a parts.1 h)

  pub past_rows : (a b : ℕ) → n ≤ a → Conflict ≡ entry rows a b
  unfolding entry
  past_rows a b h = ap (λ r. get_or r b Conflict) (sym (get_or-eq_default rows [] {n = a} (rw (eqb-true (length rows) n parts.0) h)))

  pub past_row : (a b : ℕ) → n ≤ b → Conflict ≡ entry rows a b
  unfolding entry
  past_row a b hb =
      ⊎_elim (λ ha. past_rows a b ha) (λ ha. sym (get_or-eq_default (get_or rows a []) Conflict {n = b} (rw (row_length a ha) hb))) (le_or n a)

pub no_column : (rows : List (List Rule)) (c : Option Class) → verdict rows c None ≡ true
no_column rows (Some c) = refl
no_column rows None = refl

-- the rule seen from the other side
abbrev turned : Rule → Rule
turned Pass = Pass
turned Conflict = Conflict
turned UnlessEqual = UnlessEqual
turned IfEqual = IfEqual
turned IfAtLeast = IfAtMost
turned IfAtMost = IfAtLeast

turned_judges : (r : Rule) (k l : ℤ) → judge (turned r) k l ≡ judge r l k
turned_judges Pass k l = refl
turned_judges Conflict k l = refl
turned_judges UnlessEqual k l = or_comm (lt_z k l) (lt_z l k)
turned_judges IfEqual k l = ap not (or_comm (lt_z k l) (lt_z l k))
turned_judges IfAtLeast k l = refl
turned_judges IfAtMost k l = refl

-- a rule as a number, and back
abbrev number : Rule → ℕ
number Pass = 0
number Conflict = 1
number UnlessEqual = 2
number IfEqual = 3
number IfAtLeast = 4
number IfAtMost = 5

abbrev named : ℕ → Rule
named zero = Pass
named (suc zero) = Conflict
named (suc (suc zero)) = UnlessEqual
named (suc (suc (suc zero))) = IfEqual
named (suc (suc (suc (suc zero)))) = IfAtLeast
named (suc (suc (suc (suc (suc n))))) = IfAtMost

named_number : (r : Rule) → named (number r) ≡ r
named_number Pass = refl
named_number Conflict = refl
named_number UnlessEqual = refl
named_number IfEqual = refl
named_number IfAtLeast = refl
named_number IfAtMost = refl

same_number : (q r : Rule) → eqb (number q) (number r) ≡ true → q ≡ r
same_number q r e = sym (named_number q) ∙ ap named {x = number q} {y = number r} (eqb-true (number q) (number r) e) ∙ named_number r

-- the rows are the columns
abbrev pub mirrored : ℕ → List (List Rule) → Bool
mirrored n rows = all_below n (λ a. all_below n (λ b. eqb (number (entry rows a b)) (number (turned (entry rows b a)))))

module _ (rows : List (List Rule)) (n : ℕ) (full : square n rows ≡ true) (mirror : mirrored n rows ≡ true) where
  entry_turned : (a b : ℕ) → entry rows a b ≡ turned (entry rows b a)
  entry_turned a b =
      ⊎_elim
      (λ ha. sym (past_rows rows n full a b ha) ∙ ap turned (past_row rows n full b a ha))
      (λ ha. ⊎_elim
      (λ hb. sym (past_row rows n full a b hb) ∙ ap turned (past_rows rows n full b a hb))
      (λ hb. same_number (entry rows a b) (turned (entry rows b a)) (all_at _ n b (all_at _ n a mirror ha) hb))
      (le_or n b))
      (le_or n a)

  pub verdict_sym : (c d : Option Class) → verdict rows c d ≡ verdict rows d c
  verdict_sym (Some c) (Some d) = ap (λ r. judge r c.key d.key) (entry_turned c.row d.row) ∙ turned_judges (entry rows d.row c.row) c.key d.key
  verdict_sym (Some c) None = refl
  verdict_sym None (Some d) = refl
  verdict_sym None None = refl

pub mirror : (kind : Kind) → mirrored (size kind) (table_of kind) ≡ true
unfolding all_below entry
mirror Account = refl
mirror Register = refl
mirror Counter = refl
mirror Bin = refl
mirror Unknown = refl
