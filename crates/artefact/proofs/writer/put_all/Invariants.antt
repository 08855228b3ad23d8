use Rattle.std.proofs.Common.{◌≡◌, ◌++◌, take, vec_items}
use Rattle.std.specs.List.{flat_map}
use Rattle.artefact.proofs.writer.put_all.Given as goal

abbrev pub invariant-each : goal.invariant-each
invariant-each g l = vec_items l.out ≡ vec_items l.initial.out ++ flat_map g.E.Entry.line (take l.entry-index l.entries)
