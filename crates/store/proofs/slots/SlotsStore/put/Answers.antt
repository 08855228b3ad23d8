use Rattle.std.proofs.Common.{leb, length, is_ok, Some}
use Rattle.store.specs.Rows.{nothing}
use Rattle.store.specs.Slotted.{slot_rows}
use Rattle.store.proofs.Looks.{write_writes}
use Rattle.store.proofs.slots.SlotsStore.put.Goals as goal

pub returns-clause-after : goal.returns-clause-after
returns-clause-after c =
    let bytes = c.args.bytes.now in
    write_writes (slot_rows c.args.self.now.slots.now) c.args.key nothing (Some bytes) (slot_rows c.write.new.rows) (is_ok c.write.result) (leb (length bytes) 8192) c.write.ensures.test c.write.ensures.after
