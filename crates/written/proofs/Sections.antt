-- Lines of one kind after another, and a section of them after its count: read exactly where their texts stand.
use Prim.Native.Nat.{ℕ, zero, suc, ◌+◌, ◌≤◌}
use mathlib.Core.Path.{◌≡◌, refl, ◌∙◌, ap}
use mathlib.Core.List.{List, [], ◌∷◌, ◌++◌}
use mathlib.Core.Logic.{inl, inr}
use native.Mathlib.Nat.{add-zero}
use native.Mathlib.Omega.{arith}
use lib.ListN.{length, replicate, length-replicate}
use Rattle.text.specs.Text.{number_most}
use Rattle.std.specs.Prelude.{Option, Some, None, Result, Ok, Err}
use Rattle.written.specs.Written.{joined, section_text, Each, Lines}
use Rattle.written.specs.Items.{items_from, ends_from}
use Rattle.written.specs.Check.{count_at, section_at}
use Rattle.written.specs.declared.Place.{Place}
use Rattle.written.specs.declared.Part.{Part}
use Rattle.written.specs.declared.WrongLine.{WrongLine}
use Rattle.written.proofs.Standing.{Stands, stands_none, stands_before, stands_behind, stands_as}
use Rattle.written.proofs.Lines.{lines_append, lines_as}
use Rattle.written.proofs.Line.{LineKind, count_text, counts}
use Rattle.written.proofs.Read.{none_shared, ReadWhole, Stop, Read, stop_here, stop_after, read_after}

-- the reading of a file from a place halts at a line
abbrev pub wrong : {A : Type 0} → ℕ → Result A WrongLine
wrong line = Err (record { line = line })

-- the lines that a section of at most so many holds; some line fits
pub record Holds (most : ℕ) {A : Type 0} (line : List ℕ → ℕ → Option (A × ℕ)) (text : A → List ℕ) (Fits : A → Type 0) : Type 0 where
  pub kind : LineKind line text Fits
  pub small : most ≤ number_most
  pub some : A
  pub some_fits : Fits some

-- the text of items that fit, as many as may be
pub record TextOf {A : Type 0} (text : List A → List ℕ) (Fits : A → Type 0) (Many : ℕ → Type 0) (whole : List ℕ) : Type 0 where
  pub items : List A
  pub many : Many (length items)
  pub fits : Each Fits items
  pub is : whole ≡ text items

abbrev pub part_at : {A : Type 0} → ℕ → List A → Part
part_at at xs = record { lines = length xs; start = at + length (count_text (length xs)) }

-- the line that is said to be wrong
abbrev line_told : {A : Type 0} → Result A WrongLine → ℕ
line_told (Ok x) = 0
line_told (Err w) = w.line

pub same_line : {A : Type 0} {l m : ℕ} → wrong {A = A} l ≡ wrong {A = A} m → l ≡ m
same_line e = ap line_told e

module _ {most : ℕ} {A : Type 0} {line : List ℕ → ℕ → Option (A × ℕ)} {text : A → List ℕ} {Fits : A → Type 0} (holds : Holds most line text Fits) where
  abbrev kind : LineKind line text Fits
  kind = holds.kind

  abbrev count : LineKind (count_at most) count_text (λ n. n ≤ most)
  count = counts most holds.small

  joined_lines : (xs : List A) → Each Fits xs → Lines (length xs) (joined text xs)
  joined_lines [] fits = refl
  joined_lines (x ∷ xs) fits =
      let n : 1 + length xs ≡ suc (length xs) = omega arith in
      rw n at (lines_append 1 (length xs) (text x) (joined text xs) (kind.one x fits.0) (joined_lines xs fits.1))

  fillers : (n : ℕ) → Each Fits (replicate n holds.some)
  fillers zero = tt
  fillers (suc n) = (holds.some_fits, fillers n)

  ends_none : (s : List ℕ) (n : ℕ) (place : Place) → line s place.at ≡ None → ends_from (line s) (suc n) place ≡ wrong place.line
  unfolding ends_from
  ends_none s n place e = rw e

  ends_next : (s : List ℕ) (n : ℕ) (place : Place) (x : A) (next : ℕ) → Fits x → Stands s place.at (text x) next
      → ends_from (line s) (suc n) place ≡ ends_from (line s) n (record { at = next; line = place.line + 1 })
  unfolding ends_from
  ends_next s n place x next fit t = rw ((kind.read s place.at x next).1 (fit, t))

  abbrev LinesRead : List ℕ → ℕ → ℕ → Type 0
  LinesRead s n = Read (TextOf (joined text) Fits (λ m. m ≡ n)) (λ f place l. ends_from (line f) n place ≡ wrong l) s

  lines_read : (s : List ℕ) (n at : ℕ) → LinesRead s n at
  lines_read s zero at =
      inl (record { text = []; good = record { items = []; many = refl; fits = tt; is = refl }; behind = at; here = stands_none s at })
  lines_read s (suc n) at = go (line s at) refl (λ next. lines_read s n next)
    where
      go : (r : Option (A × ℕ)) → line s at ≡ r → ((next : ℕ) → LinesRead s n next) → LinesRead s (suc n) at
      go None is on =
          let left : List A = replicate (suc n) holds.some in
          inr
          (stop_here (joined text left) (record { items = left; many = length-replicate (suc n) holds.some; fits = fillers (suc n); is = refl })
          (λ f place share. ends_none f n place (none_shared kind s f at place.at share is)))
      go (Some (x, next)) is on =
          let w : Fits x × Stands s at (text x) next = (kind.read s at x next).0 is in
          read_after (text x) 1 (kind.one x w.0) w.1
          (λ t g. record { items = x ∷ g.items; many = ap suc g.many; fits = (w.0, g.fits); is = ap (λ (l : List ℕ). text x ++ l) g.is })
          (λ f place l t e. ends_next f n place x (place.at + length (text x)) w.0 t ∙ e)
          (on next)

  ends_through : (s : List ℕ) (xs : List A) (place : Place) (e : ℕ) → Each Fits xs → Stands s place.at (joined text xs) e
      → ends_from (line s) (length xs) place ≡ Ok (record { at = e; line = place.line + length xs })
  unfolding ends_from
  ends_through s [] place e fits t =
      let ends : e ≡ place.at = omega (arith, t.place) in
      rw (add-zero place.line, ends)
  ends_through s (x ∷ xs) place e fits t =
      let i : ℕ = place.at + length (text x) in
      let again : place.line + 1 + length xs ≡ place.line + length (x ∷ xs) = omega arith in
      ends_next s (length xs) place x i fits.0 (stands_before (text x) (joined text xs) t)
      ∙ ends_through s xs (record { at = i; line = place.line + 1 }) e fits.1 (stands_behind (text x) (joined text xs) t)
      ∙ rw again

  items_through : (s : List ℕ) (xs : List A) (at e : ℕ) → Each Fits xs → Stands s at (joined text xs) e → items_from (line s) (length xs) at ≡ xs
  unfolding items_from
  items_through s [] at e fits t = refl
  items_through s (x ∷ xs) at e fits t =
      let i : ℕ = at + length (text x) in
      rw ((kind.read s at x i).1 (fits.0, stands_before (text x) (joined text xs) t))
      (ap (λ (l : List A). x ∷ l) (items_through s xs i e fits.1 (stands_behind (text x) (joined text xs) t)))

  abbrev pub SectionText : List ℕ → Type 0
  SectionText = TextOf (section_text text) Fits (λ n. n ≤ most)

  abbrev SectionRead : List ℕ → ℕ → Type 0
  SectionRead = Read SectionText (λ f place l. section_at (line f) most f place ≡ wrong l)

  pub section_read : (s : List ℕ) (at : ℕ) → SectionRead s at
  section_read s at = go (count_at most s at) refl
    where
      go : (c : Option (ℕ × ℕ)) → count_at most s at ≡ c → SectionRead s at
      go None is =
          inr
          (stop_here (section_text text []) (record { items = []; many = omega arith; fits = tt; is = refl })
          (λ f place share. rw (none_shared count s f at place.at share is)))
      go (Some (n, start)) is =
          let w : (n ≤ most) × Stands s at (count_text n) start = (count.read s at n start).0 is in
          read_after (count_text n) 1 (count.one n w.0) w.1
          (λ t g. record { items = g.items; many = rw g.many w.0; fits = g.fits; is = rw (g.many, g.is) })
          (λ f place l t e. rw ((count.read f place.at n (place.at + length (count_text n))).1 (w.0, t)) (rw e))
          (lines_read s n start)

  -- a section that is there is read
  module _ {whole : List ℕ} (there : SectionText whole) where
    abbrev xs : List A
    xs = there.items

    abbrev first : List ℕ
    first = count_text (length xs)

    pub section_lines : Lines (1 + length xs) whole
    section_lines =
        lines_as (1 + length xs) there.is
        (lines_append 1 (length xs) first (joined text xs) (count.one (length xs) there.many) (joined_lines xs there.fits))

    pub section_through : (s : List ℕ) (place : Place) (e : ℕ) → Stands s place.at whole e
        → section_at (line s) most s place ≡ Ok (part_at place.at there.items, record { at = e; line = place.line + (1 + length there.items) })
    section_through s place e t =
        let start : ℕ = place.at + length first in
        let is : place.line + 1 + length xs ≡ place.line + (1 + length xs) = omega arith in
        let parts : Stands s place.at (first ++ joined text xs) e = stands_as there.is t in
        rw (
          (count.read s place.at (length xs) start).1 (there.many, stands_before first (joined text xs) parts),
          ends_through s xs (record { at = start; line = place.line + 1 }) e there.fits (stands_behind first (joined text xs) parts),
          is,
        )

    pub section_items : (s : List ℕ) (at e : ℕ) → Stands s at whole e
        → items_from (line s) (part_at at there.items).lines (part_at at there.items).start ≡ there.items
    section_items s at e t =
        items_through s xs (at + length first) e there.fits (stands_behind first (joined text xs) (stands_as there.is t))

  -- what comes after a section stops
  pub stop_section : {Good Good' : List ℕ → Type 0} {Halts Halts' : List ℕ → Place → ℕ → Type 0} {s : List ℕ} {at : ℕ} (w : ReadWhole SectionText s at)
      → ((t : List ℕ) → Good t → Good' (w.text ++ t))
      → ((f : List ℕ) (place : Place) (l : ℕ) (part : Part) (end : Place) → section_at (line f) most f place ≡ Ok (part, end) → Halts f end l → Halts' f place l)
      → Stop Good Halts s w.behind → Stop Good' Halts' s at
  stop_section w grow halts =
      let n : ℕ = 1 + length w.good.items in
      stop_after w.text n (section_lines w.good) w.here grow
      (λ f place l t.
      let end : ℕ = place.at + length w.text in
      halts f place l (part_at place.at w.good.items) (record { at = end; line = place.line + n }) (section_through w.good f place end t))
