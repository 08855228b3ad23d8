use Rattle.std.proofs.Common.{vec_items}
use Rattle.text.proofs.Lists.{Gathering}
use Rattle.text.proofs.data.push_list.Given as goal

abbrev pub invariant-loop-item : goal.invariant-loop-item
invariant-loop-item l = Gathering (vec_items l.initial.cells) (vec_items l.cells) l.items l.item-iterator.iter.rest.now l.list
