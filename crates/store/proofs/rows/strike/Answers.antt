use Rattle.word.specs.Words.{spelling}
use Rattle.store.specs.Rows.{row_says, cleared}
use Rattle.store.proofs.Firsts.{changed_more}
use Rattle.store.proofs.rows.strike.Goals as goal

pub strike-preserved : goal.strike-preserved
strike-preserved g c =
    let h = cleared (spelling c.args.key.name) c.args.key.kind in
    changed_more (row_says g.L.Length.counts g.row.ROOM) h c.args.rows.now c.strike.rows c.strike.row-index c.strike.auto.rows c.strike.invariant c.strike-test.true c.row-item.result c.row-item.is c.strike-in-strike.new.self c.strike-in-strike.ensures
