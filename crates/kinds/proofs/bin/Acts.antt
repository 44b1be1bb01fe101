-- What an answer is to a bin: its part, whether it needs that part in or out, and whether it changes that. And where the two orders of two answers agree:
-- everywhere if they are on different parts or neither changes anything; nowhere if they are on the same part, need the same of it, and one changes it.
use mathlib.Core.Path.{◌≡◌, refl, sym, ap, ◌∙◌}
use mathlib.Core.Bool.{Bool, true, false, not, cond, ◌||◌}
use Prim.Native.Nat.{ℕ, ◌+◌, ◌-◌, ◌^◌, ◌≤◌}
use native.Mathlib.Omega.{arith}
use lib.Pow.{pow_pos}
use Rattle.kinds.specs.Bin.{part_most, bin_of, is_in}
use Rattle.kinds.specs.Object.{StateOf, bin}
use Rattle.kinds.specs.declared.Kind.TheVariants.{Bin}
use Rattle.kinds.proofs.Digits.{put_in, put_others, take_out, take_others, in_least, none_in, one_in, power_most}

-- on a part, needing it in or not, changing that or not
pub data Act : Type 0 where
  act : ℕ → Bool → Bool → Act

abbrev pub part : Act → ℕ
part (act i b m) = i

abbrev pub inside : Act → Bool
inside (act i b m) = b

abbrev pub moves : Act → Bool
moves (act i b m) = m

abbrev pub Needs : Act → ℕ → Type 0
Needs x n = is_in n (part x) ≡ inside x

-- the bin after a part that was in, or out, has changed its place
abbrev flipped : Bool → ℕ → ℕ → ℕ
flipped true i n = n - 2 ^ i
flipped false i n = n + 2 ^ i

abbrev pub ended : Act → ℕ → ℕ
ended (act i b true) n = flipped b i n
ended (act i b false) n = n

-- after each the other is right, and both orders end the same
abbrev pub Settled : Act → Act → ℕ → Type 0
Settled x y n = Needs y (ended x n) × Needs x (ended y n) × (ended y (ended x n) ≡ ended x (ended y n))

others_stay : (x : Act) (j n : ℕ) → Needs x n → (part x ≡ j → ⊥) → is_in (ended x n) j ≡ is_in n j
others_stay (act i b false) j n h other = refl
others_stay (act i true true) j n h other = take_others n i j h other
others_stay (act i false true) j n h other = put_others n i j h other

either_order : (x y : Act) (n : ℕ) → Needs x n → Needs y n → ended y (ended x n) ≡ ended x (ended y n)
either_order (act i b false) y n h k = refl
either_order (act i b true) (act j d false) n h k = refl
either_order (act i true true) (act j true true) n h k = omega arith
either_order (act i true true) (act j false true) n h k = omega (arith, in_least n i h)
either_order (act i false true) (act j true true) n h k = omega (arith, in_least n j k)
either_order (act i false true) (act j false true) n h k = omega arith

pub apart_settled : (x y : Act) (n : ℕ) → (part x ≡ part y → ⊥) → Needs x n → Needs y n → Settled x y n
apart_settled x y n other h k =
    (others_stay x (part y) n h other ∙ k, others_stay y (part x) n k (λ e. other (sym e)) ∙ h, either_order x y n h k)

pub still_settled : (x y : Act) (n : ℕ) → (moves x || moves y) ≡ false → Needs x n → Needs y n → Settled x y n
still_settled (act i b false) (act j d false) n f h k = (k, h, refl)
still_settled (act i b true) y n f h k = cc
still_settled (act i b false) (act j d true) n f h k = cc

flipped_here : (b : Bool) (i n : ℕ) → is_in n i ≡ b → is_in (flipped b i n) i ≡ not b
flipped_here true i n h = take_out n i h
flipped_here false i n h = put_in n i h

not_itself : (b : Bool) → not b ≡ b → ⊥
not_itself true e = cc
not_itself false e = cc

pub unsettled : (x y : Act) (n : ℕ) → part x ≡ part y → inside x ≡ inside y → (moves x || moves y) ≡ true → Needs x n → Needs y n → ¬ Settled x y n
unsettled (act i b true) (act j d l) n e f t h k both = not_itself b (sym (flipped_here b i n h) ∙ ap (is_in (flipped b i n)) e ∙ both.0 ∙ sym f)
unsettled (act i b false) (act j d true) n e f t h k both = not_itself d (sym (flipped_here d j n k) ∙ sym (ap (is_in (flipped d j n)) e) ∙ both.1 ∙ f)
unsettled (act i b false) (act j d false) n e f t h k both = cc

-- the bin stays as it was just where nothing is changed
pub stays : (x : Act) (n : ℕ) → moves x ≡ false → ended x n ≡ n
stays (act i b false) n f = refl
stays (act i b true) n f = cc

pub moves_on : (x : Act) (n : ℕ) → Needs x n → moves x ≡ true → ended x n ≡ n → ⊥
moves_on (act i b false) n h t e = cc
moves_on (act i true true) n h t e = omega (arith, in_least n i h, pow_pos i)
moves_on (act i false true) n h t e = omega (arith, pow_pos i)

-- the smallest bin that it needs: the part alone, or nothing
abbrev pub smallest : Act → ℕ
smallest x = cond (inside x) (2 ^ part x) 0

pub smallest_needed : (x : Act) → Needs x (smallest x)
smallest_needed (act i true m) = one_in i
smallest_needed (act i false m) = none_in i

pub smallest_has : (x : Act) → part x ≤ part_most → StateOf Bin (bin_of (smallest x))
smallest_has (act i true m) h = bin (power_most i h)
smallest_has (act i false m) h = bin {n = 0} (omega arith)

pub smallest_least : (x : Act) (n : ℕ) → Needs x n → smallest x ≤ n
smallest_least (act i true m) n h = in_least n i h
smallest_least (act i false m) n h = omega arith
