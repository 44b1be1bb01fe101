-- What is read of a file is the file as it is written: what it holds where it is a run file, and else its first wrong line.
use Prim.Native.Nat.{ℕ, ◌+◌, ◌-◌, ◌≤◌, ◌<◌}
use mathlib.Core.Path.{◌≡◌, refl, sym, ◌∙◌, ap}
use mathlib.Core.List.{List, ◌++◌, append_cancel_left}
use mathlib.Core.Logic.{◌↔◌}
use native.Mathlib.Omega.{arith}
use lib.ListN.{length, drop}
use lib.Seq.{drop-append_seam}
use lib.Dec.{ltb}
use borrow.Author.Tests.{lt-ltb, le-ltb}
use Rattle.below.proofs.Tests.{le_or, either, cases}
use Rattle.written.specs.Written.{objects_most, calls_most, bytes_most, Contents, RunFile, IsRunFile, Lines, Top, FirstWrong}
use Rattle.written.specs.Check.{layout_of, check_of}
use Rattle.std.specs.Prelude.{Result, Ok, Err}
use Rattle.written.specs.File.{checked_file, file_of}
use Rattle.written.specs.declared.Layout.{Layout}
use Rattle.written.specs.declared.WrongLine.{WrongLine}
use Rattle.written.proofs.Standing.{Stands, stands_first}
use Rattle.written.proofs.Lines.{lines_same, Split, split, split_then}
use Rattle.written.proofs.Read.{Shares, shares_self, shares_line}
use Rattle.written.proofs.Sections.{wrong, same_line}
use Rattle.written.proofs.File.{layout_for, laid_out, complete, Halt, outcome}

-- a file too long is named as line 0, whatever its lines are
pub too_long_lem : (s : List ℕ) → bytes_most < length s → file_of s ≡ Err (record { line = 0 })
unfolding file_of check_of
too_long_lem s h = rw (lt-ltb bytes_most (length s) h)

short_file : (s : List ℕ) → length s ≤ bytes_most → file_of s ≡ checked_file s (layout_of s)
unfolding file_of check_of
short_file s h = rw (le-ltb bytes_most (length s) h)

read_file : (s : List ℕ) → length s ≤ bytes_most → (contents : Contents) → RunFile s contents → file_of s ≡ Ok contents
read_file s h contents run = short_file s h ∙ complete s contents run

halted : (s : List ℕ) (h : Halt s) → layout_of s ≡ wrong (1 + h.count)
halted s h = h.halts s (record { at = 0; line = 1 }) h.behind h.here (shares_self s h.behind)

read_bad : (s : List ℕ) → length s ≤ bytes_most → (h : Halt s) → file_of s ≡ wrong (1 + h.count)
read_bad s short h = short_file s short ∙ rw (halted s h)

good_not_bad : {A B : Type 0} {r : Result B WrongLine} {x : B} {line : ℕ} → r ≡ Ok x → r ≡ wrong line → A
good_not_bad e f = absurd (let z : ◌≡◌ {A = ℕ} 0 1 = cc in omega arith)

pub read_exactly : (s : List ℕ) → length s ≤ bytes_most → (contents : Contents) → (file_of s ≡ Ok contents) ↔ RunFile s contents
read_exactly s h contents = (
  λ e.
      cases (outcome s)
      (λ w.
      let again : file_of s ≡ Ok w.0 = read_file s h w.0 w.1 in
      let same : w.0 ≡ contents = cc in
      rw same at w.1)
      (λ halt. good_not_bad e (read_bad s h halt)),
  read_file s h contents,
)

-- where the reading halts is the first wrong line: a run file that went on with the same line would be halted too
module _ (s : List ℕ) (h : Halt s) where
  no_run_file : (f : List ℕ) (e : ℕ) → Stands f 0 h.before e → Shares s h.behind f e → IsRunFile f → ⊥
  no_run_file f e t share run =
      let stopped : checked_file f (layout_of f) ≡ wrong (1 + h.count) = rw (h.halts f (record { at = 0; line = 1 }) e t share) in
      good_not_bad (complete f run.0 run.1) stopped

  no_next : (upto : List ℕ) → Top (1 + h.count) s upto → (rest : List ℕ) → IsRunFile (upto ++ rest) → ⊥
  no_next upto t rest run =
      let w : Split h.count 1 upto = split h.count 1 (1 + h.count) upto (omega arith) t.lines in
      let whole : s ≡ w.first ++ (w.second ++ t.rest) = t.parts ∙ split_then w t.rest in
      let same : w.first ≡ h.before =
      lines_same h.count w.first h.before (w.second ++ t.rest) (drop h.behind s) w.first_lines h.lines (sym whole ∙ h.here.here) in
      let text : List ℕ = h.before ++ (w.second ++ rest) in
      no_run_file text (length h.before) (stands_first text h.before (w.second ++ rest) refl)
      (shares_line w.second t.rest rest w.second_lines
      (append_cancel_left h.before (drop h.behind s) (w.second ++ t.rest) (sym h.here.here ∙ rw same at whole))
      (drop-append_seam h.before (w.second ++ rest)))
      (rw (split_then w rest, same) at run)

  halt_wrong : FirstWrong IsRunFile s (1 + h.count)
  halt_wrong =
      let line : 1 + h.count - 1 ≡ h.count = omega arith in
      let lines : Lines (1 + h.count - 1) h.before = rw line h.lines in
      record {
        numbered = omega arith;
        before = h.before;
        top = record { rest = drop h.behind s; parts = h.here.here; lines = lines };
        right = h.right;
        wrong = λ upto t begins. no_next upto t begins.0 begins.1;
        broken = no_run_file s h.behind h.here (shares_self s h.behind);
      }

-- no later line is the first wrong one too: this line would be among the right ones before it
not_later : (Good : List ℕ → Type 0) (s : List ℕ) (l m : ℕ) → FirstWrong Good s l → FirstWrong Good s m → l < m → ⊥
not_later Good s l m p q h = on (split l (m - 1 - l) (m - 1) q.before (omega arith) q.top.lines)
  where
    on : Split l (m - 1 - l) q.before → ⊥
    on t =
        p.wrong t.first
        (record { rest = t.second ++ q.top.rest; parts = q.top.parts ∙ split_then t q.top.rest; lines = t.first_lines })
        (t.second ++ q.right.0, rw (split_then t q.right.0) at q.right.1)

pub sole_line : (Good : List ℕ → Type 0) (s : List ℕ) (l m : ℕ) → FirstWrong Good s l → FirstWrong Good s m → l ≡ m
sole_line Good s l m p q =
    cases (le_or l m)
    (λ h. cases (le_or m l) (λ k. omega arith) (λ k. absurd (not_later Good s l m p q k)))
    (λ k. absurd (not_later Good s m l q p k))

pub first_wrong : (s : List ℕ) → length s ≤ bytes_most → (line : ℕ) → (file_of s ≡ Err (record { line = line })) ↔ FirstWrong IsRunFile s line
first_wrong s h line = (
  λ e.
      cases (outcome s)
      (λ w. good_not_bad (read_file s h w.0 w.1) e)
      (λ halt.
      let again : file_of s ≡ wrong (1 + halt.count) = read_bad s h halt in
      let same : 1 + halt.count ≡ line = same_line (sym again ∙ e) in
      rw same at (halt_wrong s halt)),
  λ first.
      cases (outcome s)
      (λ run. absurd (first.broken run))
      (λ halt. read_bad s h halt ∙ ap wrong (sole_line IsRunFile s (1 + halt.count) line (halt_wrong s halt) first)),
)

-- a good file's counts are within their limits
pub good_limits : (s : List ℕ) (layout : Layout) → check_of s ≡ Ok layout → (layout.objects.lines ≤ objects_most) × (layout.calls.lines ≤ calls_most)
unfolding check_of
good_limits s layout e =
    either (ltb bytes_most (length s))
    (λ over. good_not_bad (rw over at e) refl)
    (λ short. cases (outcome s)
    (λ w.
    let laid : layout_of s ≡ Ok layout = rw short at e in
    let same : layout_for w.0 ≡ layout = cc (laid_out s w.0 w.1) in
    rw (← same) (w.1.few_objects, w.1.few_calls))
    (λ halt. good_not_bad (rw short at e) (halted s halt)))
