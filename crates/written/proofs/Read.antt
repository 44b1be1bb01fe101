-- A reading of a text at a place: the text is there, or the reading stops after whole lines with which it can begin.
use Prim.Native.Nat.{ℕ, ◌+◌}
use mathlib.Core.Path.{◌≡◌, refl, sym, ◌∙◌}
use mathlib.Core.List.{List, [], ◌∷◌, ◌++◌, append_assoc}
use mathlib.Core.Logic.{◌⊎◌, inl, inr}
use native.Mathlib.Nat.{add-zero}
use native.Mathlib.Omega.{arith}
use lib.ListN.{length, drop}
use Rattle.below.proofs.Tests.{cases}
use Rattle.written.specs.Written.{Lines, Begins}
use Rattle.std.specs.Prelude.{Option, Some, None}
use Rattle.written.specs.declared.Place.{Place}
use Rattle.written.proofs.Standing.{Stands, stands_none, stands, stands_then, stands_before, stands_behind}
use Rattle.written.proofs.Lines.{lines_append, lines_same}
use Rattle.written.proofs.Number.{nothing}
use Rattle.written.proofs.Line.{LineKind}

-- what comes at i in s, next to what comes at j in f: whole lines of f are lines of s, and f has an end only where s has
pub record Shares (s : List ℕ) (i : ℕ) (f : List ℕ) (j : ℕ) : Type 0 where
  pub line : (this rest : List ℕ) → Lines 1 this → drop j f ≡ this ++ rest → (behind : List ℕ) × (drop i s ≡ this ++ behind)
  pub end : drop j f ≡ [] → drop i s ≡ []

pub shares_self : (s : List ℕ) (i : ℕ) → Shares s i s i
shares_self s i = record { line = λ this rest one e. (rest, e); end = λ e. e }

pub shares_line : {s f : List ℕ} {i j : ℕ} (this rest rest' : List ℕ) → Lines 1 this → drop i s ≡ this ++ rest → drop j f ≡ this ++ rest' → Shares s i f j
shares_line this rest rest' one e e' =
    record {
      line = λ that behind one' is. let same : this ≡ that = lines_same 1 this that rest' behind one one' (sym e' ∙ is) in (rest, rw same at e);
      end = λ none. absurd (some this one (sym e' ∙ none));
    }
  where
    some : (t : List ℕ) → Lines 1 t → t ++ rest' ≡ [] → ⊥
    some [] one e = omega arith
    some (b ∷ t) one e = let z : ◌≡◌ {A = ℕ} 0 1 = cc in omega arith

-- where no line of a kind is read, none is read in a file that goes on with the same line
pub none_shared : {A : Type 0} {line : List ℕ → ℕ → Option (A × ℕ)} {text : A → List ℕ} {Fits : A → Type 0} → LineKind line text Fits
    → (s f : List ℕ) (i j : ℕ) → Shares s i f j → line s i ≡ None → line f j ≡ None
none_shared {A} {line} {text} {Fits} kind s f i j share e = go (line f j) refl
  where
    go : (r : Option (A × ℕ)) → line f j ≡ r → line f j ≡ None
    go None is = is
    go (Some (a, next)) is =
        let w : Fits a × Stands f j (text a) next = (kind.read f j a next).0 is in
        let b : (behind : List ℕ) × (drop i s ≡ text a ++ behind) = share.line (text a) (drop next f) (kind.one a w.0) w.1.here in
        nothing (sym e ∙ (kind.read s i a (i + length (text a))).1 (w.0, stands s i (text a) b.0 b.1))

-- Good says which texts are read, and Halts at which line the reading of a file from a place halts.
pub record ReadWhole (Good : List ℕ → Type 0) (s : List ℕ) (at : ℕ) : Type 0 where
  pub text : List ℕ
  pub good : Good text
  pub behind : ℕ
  pub here : Stands s at text behind

pub record Stop (Good : List ℕ → Type 0) (Halts : List ℕ → Place → ℕ → Type 0) (s : List ℕ) (at : ℕ) : Type 0 where
  pub before : List ℕ
  pub count : ℕ
  pub lines : Lines count before
  pub behind : ℕ
  pub here : Stands s at before behind
  pub right : Begins Good before
  -- every file halts that has this text and the same line after it
  pub halts : (f : List ℕ) (place : Place) (e : ℕ) → Stands f place.at before e → Shares s behind f e → Halts f place (place.line + count)

abbrev pub Read : (List ℕ → Type 0) → (List ℕ → Place → ℕ → Type 0) → List ℕ → ℕ → Type 0
Read Good Halts s at = ReadWhole Good s at ⊎ Stop Good Halts s at

-- it stops at once
pub stop_here : {Good : List ℕ → Type 0} {Halts : List ℕ → Place → ℕ → Type 0} {s : List ℕ} {at : ℕ} (text : List ℕ) → Good text
    → ((f : List ℕ) (place : Place) → Shares s at f place.at → Halts f place place.line) → Stop Good Halts s at
stop_here {Good} {Halts} {s} {at} text good halts =
    record {
      before = [];
      count = 0;
      lines = refl;
      behind = at;
      here = stands_none s at;
      right = (text, good);
      halts = λ f place e t share.
          let same : e ≡ place.at = omega (arith, t.place) in
          rw (add-zero place.line) (halts f place (rw same at share));
    }

module _ {Good Good' : List ℕ → Type 0} {Halts Halts' : List ℕ → Place → ℕ → Type 0} {s : List ℕ} {at : ℕ} where
  -- more is to be read after it
  pub stop_early : (more : List ℕ) → ((t : List ℕ) → Good t → Good' (t ++ more))
      → ((f : List ℕ) (place : Place) (line : ℕ) → Halts f place line → Halts' f place line) → Stop Good Halts s at → Stop Good' Halts' s at
  stop_early more grow halts st =
      record {
        before = st.before;
        count = st.count;
        lines = st.lines;
        behind = st.behind;
        here = st.here;
        right = (
          st.right.0 ++ more,
          rw (← append_assoc st.before st.right.0 more) (grow (st.before ++ st.right.0) st.right.1),
        );
        halts = λ f place e t share. halts f place (place.line + st.count) (st.halts f place e t share);
      }

  -- n lines are read before it
  module _ {mid : ℕ} (text : List ℕ) (n : ℕ) (lines : Lines n text) (here : Stands s at text mid) (grow : (t : List ℕ) → Good t → Good' (text ++ t))
      (halts : (f : List ℕ) (place : Place) (line : ℕ) → Stands f place.at text (place.at + length text)
      → Halts f (record { at = place.at + length text; line = place.line + n }) line → Halts' f place line) where
    pub stop_after : Stop Good Halts s mid → Stop Good' Halts' s at
    stop_after st =
        record {
          before = text ++ st.before;
          count = n + st.count;
          lines = lines_append n st.count text st.before lines st.lines;
          behind = st.behind;
          here = stands_then here st.here;
          right = (st.right.0, rw (append_assoc text st.before st.right.0) (grow (st.before ++ st.right.0) st.right.1));
          halts = λ f place e t share.
              let is : place.line + (n + st.count) ≡ place.line + n + st.count = omega arith in
              rw is
              (halts f place (place.line + n + st.count) (stands_before text st.before t)
              (st.halts f (record { at = place.at + length text; line = place.line + n }) e (stands_behind text st.before t) share));
        }

    pub read_after : Read Good Halts s mid → Read Good' Halts' s at
    read_after r =
        cases r
        (λ w. inl (record { text = text ++ w.text; good = grow w.text w.good; behind = w.behind; here = stands_then here w.here }))
        (λ st. inr (stop_after st))
