-- The whole file: read where it is a run file, and else its reading stops at a line.
use Prim.Native.Nat.{ℕ, ◌+◌, ◌<◌}
use Prim.Native.Char.{code}
use mathlib.Core.Path.{◌≡◌, refl, sym, ◌∙◌, ap}
use mathlib.Core.List.{List, [], ◌++◌, append-nil}
use mathlib.Core.Logic.{◌⊎◌, inl, inr}
use native.Mathlib.Omega.{arith}
use lib.IntN.{pos}
use lib.ListN.{length, length-drop}
use lib.Seq.{drop-length}
use borrow.Author.Tests.{eq-eqb, ne_eqb}
use Rattle.below.proofs.Tests.{le_or, cases}
use Rattle.written.specs.Written.{objects_most, calls_most, Contents, object_text, call_text, section_text, file_text, ObjectFits, CallFits, RunFile, IsRunFile}
use Rattle.std.specs.Prelude.{Result, Ok}
use Rattle.written.specs.Line.{object_at, call_at}
use Rattle.written.specs.Check.{result_and_then, section_at, ended_at, calls_layout, layout_of}
use Rattle.written.specs.File.{checked_file}
use Rattle.written.specs.declared.Call.TheVariants.{Commit}
use Rattle.written.specs.declared.Place.{Place}
use Rattle.written.specs.declared.Part.{Part}
use Rattle.written.specs.declared.Layout.{Layout}
use Rattle.written.specs.declared.WrongLine.{WrongLine}
use Rattle.written.proofs.Standing.{Stands, stands_first, stands_then, stands_before, stands_behind, stands_all}
use Rattle.written.proofs.Line.{objects}
use Rattle.written.proofs.Calls.{calls}
use Rattle.written.proofs.Read.{ReadWhole, Stop, stop_here, stop_early}
use Rattle.written.proofs.Sections.{wrong, Holds, part_at, SectionText, section_read, section_through, section_items, stop_section}

pub holds_objects : Holds objects_most object_at object_text ObjectFits
holds_objects =
    record {
      kind = objects;
      small = omega arith;
      some = record { letter = code "A"; opening = pos 0 };
      some_fits = (inl refl, omega arith);
    }

holds_calls : Holds calls_most call_at call_text CallFits
holds_calls = record { kind = calls; small = omega arith; some = Commit 0; some_fits = (omega arith, tt) }

abbrev ObjectsText : List ℕ → Type 0
ObjectsText = SectionText holds_objects

abbrev CallsText : List ℕ → Type 0
CallsText = SectionText holds_calls

-- where the sections of the written file stand
abbrev pub layout_for : Contents → Layout
layout_for contents = record {
  objects = part_at 0 contents.objects;
  calls = part_at (0 + length (section_text object_text contents.objects)) contents.calls;
}

module _ (s : List ℕ) (contents : Contents) (run : RunFile s contents) where
  abbrev first_text : List ℕ
  first_text = section_text object_text contents.objects

  abbrev second_text : List ℕ
  second_text = section_text call_text contents.calls

  abbrev objects_there : ObjectsText first_text
  objects_there = record { items = contents.objects; many = run.few_objects; fits = run.objects_fit; is = refl }

  abbrev calls_there : CallsText second_text
  calls_there = record { items = contents.calls; many = run.few_calls; fits = run.calls_fit; is = refl }

  whole : Stands s 0 (file_text contents) (length (file_text contents))
  whole = stands_first s (file_text contents) [] (run.text ∙ sym (append-nil (file_text contents)))

  first : Stands s 0 first_text (0 + length first_text)
  first = stands_before first_text second_text whole

  second : Stands s (0 + length first_text) second_text (length (file_text contents))
  second = stands_behind first_text second_text whole

  pub laid_out : layout_of s ≡ Ok (layout_for contents)
  laid_out =
      rw (
        section_through holds_objects objects_there s (record { at = 0; line = 1 }) (0 + length first_text) first,
        section_through holds_calls calls_there s (record { at = 0 + length first_text; line = 1 + (1 + length contents.objects) })
            (length (file_text contents)) second,
        eq-eqb (length (file_text contents)) (length s) (ap length (sym run.text)),
      )

  pub complete : checked_file s (layout_of s) ≡ Ok contents
  complete =
      rw (
        laid_out,
        section_items holds_objects objects_there s 0 (0 + length first_text) first,
        section_items holds_calls calls_there s (0 + length first_text) (length (file_text contents)) second,
      )

run_file : {t u : List ℕ} → ObjectsText t → CallsText u → IsRunFile (t ++ u)
run_file o c = (
  record { objects = o.items; calls = c.items },
  record { text = rw (o.is, c.is); few_objects = o.many; few_calls = c.many; objects_fit = o.fits; calls_fit = c.fits },
)

abbrev layout_from : List ℕ → Place → Result Layout WrongLine
layout_from f place = result_and_then (section_at (object_at f) objects_most f place) (λ objects. calls_layout f objects.0 objects.1)

-- the reading of a file stops
abbrev pub Halt : List ℕ → Type 0
Halt s = Stop IsRunFile (λ f place line. layout_from f place ≡ wrong line) s 0

-- more follows the calls
stop_end : {s : List ℕ} {at : ℕ} (v : ReadWhole CallsText s at) → v.behind < length s
    → Stop CallsText (λ f place line. (objects : Part) → calls_layout f objects place ≡ wrong line) s at
stop_end {s} {at} v more =
    stop_section holds_calls {Good = λ t. t ≡ []} {Halts = λ f place line. (layout : Layout) → ended_at f layout place ≡ wrong line} v
    (λ t none. rw (none, append-nil v.text) v.good)
    (λ f place line calls end is h objects. rw is (h (record { objects = objects; calls = calls })))
    (stop_here [] refl
    (λ f place share layout.
    rw (ne_eqb place.at (length f)
    (λ is. omega (arith, ap length (share.end (rw is (drop-length f))), length-drop v.behind s)))))

pub outcome : (s : List ℕ) → IsRunFile s ⊎ Halt s
outcome s =
    cases (section_read holds_objects s 0)
    (λ w. cases (section_read holds_calls s w.behind)
    (λ v. cases (le_or (length s) v.behind)
    (λ end.
    let is : w.text ++ v.text ≡ s = stands_all (stands_then w.here v.here) end in
    inl (rw is at (run_file w.good v.good)))
    (λ more. inr (stop_section holds_objects w (λ t. run_file w.good) (λ f place line part end is h. rw is (h part)) (stop_end v more))))
    (λ st. inr (stop_section holds_objects w (λ t. run_file w.good) (λ f place line part end is h. rw is (rw h)) st)))
    (λ st. inr
    (stop_early (section_text call_text []) (λ t o. run_file o (record { items = []; many = omega arith; fits = tt; is = refl }))
    (λ f place line h. rw h)
    st))
