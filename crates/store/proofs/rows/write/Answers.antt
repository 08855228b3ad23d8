use Rattle.std.proofs.Common.{◌≡◌, ◌<◌, rules, length, is_ok, Some}
use Rattle.word.specs.Words.{spelling}
use Rattle.store.specs.Rows.{row_says, rows_say, place_for}
use Rattle.store.proofs.Looks.{write_after}
use Rattle.store.proofs.rows.write.Goals as goal

pub returns-clause-after : goal.returns-clause-after
returns-clause-after g c =
    let i = c.in_ok-i.i in
    let e : Some i ≡ place_for (rows_say g.L.Length.counts g.row.ROOM c.args.rows.now) (spelling c.args.key.name) c.args.key.kind = search rules in
    let l : i < length c.args.rows.now = search rules in
    write_after (row_says g.L.Length.counts g.row.ROOM) c.args.rows.now c.args.key i e c.index-rows-i.result c.fill.new.self (is_ok c.fill.result) (Some c.args.bytes.now) l c.fill.ensures.after
