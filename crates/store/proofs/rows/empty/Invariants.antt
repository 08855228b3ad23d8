use Rattle.std.proofs.Common.{◌≡◌, ◌++◌, take, drop}
use Rattle.store.specs.Rows.{rows_say, emptied}
use Rattle.store.proofs.rows.empty.Given as goal

abbrev pub invariant-empty : goal.invariant-empty
invariant-empty g l = rows_say g.L.Length.counts g.row.ROOM l.rows ≡ emptied (take l.row-index (rows_say g.L.Length.counts g.row.ROOM l.initial.rows)) ++ drop l.row-index (rows_say g.L.Length.counts g.row.ROOM l.initial.rows)
