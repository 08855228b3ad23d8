use Rattle.std.proofs.Common.{◌≡◌, ◌+◌, ◌*◌, ◌≤◌, length, vec_items}
use Rattle.rules.specs.Words.{Datum}
use Rattle.text.specs.Data.{Means}
use Rattle.text.proofs.Shown.{Resting}
use Rattle.text.proofs.show.Writer.+put_datum_put_rest.Given as goal

-- an end that is no pair is written by `put_datum`, over as many cells
abbrev pub decreases-put_datum : goal.decreases-put_datum
decreases-put_datum l = 2 * l.below

abbrev pub decreases-put_rest : goal.decreases-put_rest
decreases-put_rest l = 2 * l.below + 1

abbrev pub invariant-put_rest-elements : goal.invariant-put_rest-elements
invariant-put_rest-elements l = record {
  kept : l.self.cells ≡ l.fn.self.cells;
  below : l.below ≤ l.fn.below;
  rest : (d : Datum) → Means l.fn.self.cells.now l.fn.below l.fn.value d → l.fn.below ≤ length l.fn.self.cells.now → Resting l.fn.self.cells.now l.fn.below l.fn.value (vec_items l.fn.self.out) l.below l.value (vec_items l.self.out) d;
}

abbrev pub decreases-put_rest-elements : goal.decreases-put_rest-elements
decreases-put_rest-elements l = l.below
