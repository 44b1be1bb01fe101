use Rattle.std.proofs.Common.{◌≡◌, ◌∙◌, ℕ, ◌+◌, ◌≤◌, List, ◌++◌, length, take, rules, sym, ap, subst, length-take-le}
use Rattle.std.proofs.Math.Seq.{take-append-add}
use Rattle.std.proofs.lemmas.List.{take-append-le}
use Rattle.std.specs.Io.KnownBytes.{Consumes}
use Rattle.std.proofs.KnownBytes.{Consumes-trans}
use borrow.Rule.Slice.PartMut.{put_mid, post_of}
use Rattle.input.proofs.read_full.Goals as goal

-- the first n bytes of what a read put behind a others
joined : (a k n : ℕ) (xs ys : List ℕ) → a ≤ length xs → n ≤ length ys → take (a + n) (put_mid a k xs ys) ≡ take a xs ++ take n ys
joined a k n xs ys h f =
    let rest = ys ++ post_of a k xs in
    subst (λ m. take (m + n) (take a xs ++ rest) ≡ take a xs ++ take n rest) (length-take-le a xs h) (take-append-add (take a xs) rest n)
    ∙ ap (λ l. take a xs ++ l) (take-append-le n ys (post_of a k xs) f)

pub loop-done-preserved : goal.loop-done-preserved
loop-done-preserved g c =
    let seam = joined c.loop-done.done _ c.in_ok-n.n c.loop-done.buffer c.read.new.buf c.loop-done.invariant.bound c.in_ok-n.ensures.bound.0 in
    record {
      bound = search rules;
      bytes = subst (Consumes _ _) (sym seam) (Consumes-trans _ _ _ _ _ c.loop-done.invariant.bytes c.in_ok-n.ensures.bytes.0);
    }
