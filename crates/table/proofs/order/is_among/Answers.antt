use Rattle.std.proofs.Common.{◌∙◌}
use Rattle.table.proofs.Amongs.{among_any}
use Rattle.table.proofs.order.is_among.Goals as goal

pub returns : goal.returns
returns g c = c.contains.ensures.value ∙ among_any g.met.N.Eq.laws c.args.node.now c.args.nodes.now
