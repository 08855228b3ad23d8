use Rattle.std.proofs.Common.{◌≡◌, ◌++◌, length, vec_items}
use Rattle.std.specs.List.{flat_map, AllByRecursion}
use Rattle.artefact.proofs.reader.Source.entries.Given as goal

abbrev pub invariant-loop-entry : goal.invariant-loop-entry
invariant-loop-entry g l =
    (l.initial.self.rest.now ≡ flat_map g.E.Entry.line (vec_items l.entries) ++ l.self.rest.now) × AllByRecursion g.E.Entry.Fits (vec_items l.entries)

abbrev pub decreases-loop-entry : goal.decreases-loop-entry
decreases-loop-entry g l = length l.self.rest.now
