use Rattle.store.specs.Rows.{nothing}
use Rattle.store.specs.Slotted.{slot_rows}
use Rattle.store.proofs.Slottings.{fresh_takes}
use Rattle.store.proofs.Looks.{over_emptied}
use Rattle.store.proofs.slots.Slots.new.Goals as goal

pub returns-clause-holds : goal.returns-clause-holds
returns-clause-holds c = λ n k. over_emptied (slot_rows c.args.slots.now) (slot_rows c.empty.new.rows) c.empty.ensures n k nothing

pub returns-clause-accepts : goal.returns-clause-accepts
returns-clause-accepts c = fresh_takes c.args.slots.now (slot_rows c.empty.new.rows) c.empty.ensures
