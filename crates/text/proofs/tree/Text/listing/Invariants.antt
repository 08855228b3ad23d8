use Rattle.rules.specs.Reading.{Form}
use Rattle.std.proofs.Common.{◌≡◌, List, vec_items}
use Rattle.text.specs.Tree.{Forms}
use Rattle.text.proofs.Shown.{Listing}
use Rattle.text.proofs.tree.Text.listing.Given as goal

abbrev pub invariant-loop-form : goal.invariant-loop-form
invariant-loop-form l = record {
  kept : l.writer.cells ≡ l.initial.writer.cells;
  lines : (fs : List Form) → Forms l.initial.writer.cells.now l.form-items fs → Listing l.initial.writer.cells.now l.form-items l.form-index (vec_items l.writer.out) fs;
}
