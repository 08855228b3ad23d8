use Rattle.std.proofs.Common.{◌≡◌, ◌++◌, map, take, drop}
use Rattle.word.specs.Words.{spelling}
use Rattle.store.specs.Rows.{rows_say, cleared}
use Rattle.store.proofs.rows.strike.Given as goal

abbrev pub invariant-strike : goal.invariant-strike
invariant-strike g l = rows_say g.L.Length.counts g.row.ROOM l.rows ≡ map (cleared (spelling l.key.name) l.key.kind) (take l.row-index (rows_say g.L.Length.counts g.row.ROOM l.initial.rows)) ++ drop l.row-index (rows_say g.L.Length.counts g.row.ROOM l.initial.rows)
