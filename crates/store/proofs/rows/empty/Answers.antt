use Rattle.store.specs.Rows.{row_says}
use Rattle.std.proofs.Common.{None}
use Rattle.store.proofs.Firsts.{changed_more}
use Rattle.store.proofs.rows.empty.Goals as goal

pub empty-preserved : goal.empty-preserved
empty-preserved g c = changed_more (row_says g.L.Length.counts g.row.ROOM) (λ _. None) c.args.rows.now c.empty.rows c.empty.row-index c.empty.auto.rows c.empty.invariant c.empty-test.true c.row-item.result c.row-item.is c.free.new.self c.free.ensures
