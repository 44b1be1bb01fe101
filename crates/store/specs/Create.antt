-- Create. Source: document 01, "Calls, answers and their order".
use Rattle.std.specs.Prelude.{ℕ, ◌+◌, not, List, [], ◌∷◌, pos, set, eqb, leb}
use Rattle.columns.specs.Column.{at}
use Rattle.form.specs.Form.{count_most}
use Rattle.store.specs.declared.Store.{Store}
use Rattle.store.specs.declared.Reply.{Reply}
use Rattle.refusal.specs.declared.Request.{Request}
use Rattle.refusal.specs.declared.Child.{Child}
use Rattle.refusal.specs.declared.Child.TheVariants.{Plain, Access}
use Rattle.refusal.specs.Create.{lacks_object, asks_unfit}
use Rattle.refusal.specs.Refusal.{Refusal, answer_of, refuse}
use Rattle.store.specs.Refusal.{reply_of, decide, malformed, missing, finished, orphaned}

-- 3: create under an access
abbrev pub under_access : Store → ℕ → Refusal
under_access s p = refuse 3 (not (eqb (at s.accesses.operation p) 0))

-- 6: create of an access: no such object
abbrev pub no_object : Store → Child → Refusal
no_object s child = refuse 6 (lacks_object s.objects.count child)

-- 7: operation unknown, not of this kind, or argument outside its range
abbrev pub unfit : Store → Child → Refusal
unfit s child = refuse 7 (asks_unfit s.objects.kind child)

-- 8: 1,024 numbers are already given
abbrev pub full : Store → Refusal
full s = refuse 8 (leb count_most s.tree.count)

-- what its row holds; of a plain transaction, zeros
abbrev pub request_of : Child → Request
request_of Plain = record { object = 0; operation = 0; argument = pos 0 }
request_of (Access r) = r

-- numbers run 1, 2, 3 in order of accepted creations
abbrev pub created : Store → ℕ → Request → Store
created s p r = record {
  objects = s.objects;
  tree = record {
    count = s.tree.count + 1;
    parent = set s.tree.parent (s.tree.count + 1) p;
    state = s.tree.state;
  };
  accesses = record {
    object = set s.accesses.object (s.tree.count + 1) r.object;
    operation = set s.accesses.operation (s.tree.count + 1) r.operation;
    argument = set s.accesses.argument (s.tree.count + 1) r.argument;
    outcome = s.accesses.outcome;
    value = s.accesses.value;
  };
  lists = s.lists;
}

abbrev pub create_refusals : Store → ℕ → Child → List Refusal
create_refusals s p child =
    malformed s ∷ missing s p ∷ under_access s p ∷ finished s p ∷ orphaned s p ∷ no_object s child ∷ unfit s child ∷ full s ∷ []

unfoldable pub create_of : Store → ℕ → Child → Reply
create_of s p child = decide s (create_refusals s p child) (reply_of (created s p (request_of child)) (answer_of 0 (s.tree.count + 1) (pos 0)))
