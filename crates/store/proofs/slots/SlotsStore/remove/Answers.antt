use Rattle.std.proofs.Common.{refl}
use Rattle.store.specs.Rows.{nothing}
use Rattle.store.specs.Slotted.{slot_rows}
use Rattle.store.proofs.Looks.{struck_writes}
use Rattle.store.proofs.slots.SlotsStore.remove.Goals as goal

pub returns-clause-after : goal.returns-clause-after
returns-clause-after c = struck_writes (slot_rows c.args.self.now.slots.now) (slot_rows c.strike.new.rows) c.args.key nothing refl c.strike.ensures
