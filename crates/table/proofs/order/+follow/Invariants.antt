use Rattle.std.proofs.Common.{◌≡◌, ◌-◌, drop}
use Rattle.table.specs.Order.{along, walk}
use Rattle.table.specs.Outcomes.{walked}
use Rattle.table.proofs.order.+follow.Given as goal

abbrev pub decreases-follow : goal.decreases-follow
decreases-follow g l = l.left

abbrev pub invariant-along : goal.invariant-along
invariant-along g l =
    (g.G.Graph.plan l.graph ≡ g.G.Graph.plan l.initial.graph)
    × (along (walk g.G.Node.PartialEq.eq (g.G.Graph.plan l.initial.graph) (l.left - 1)) (drop l.n-index l.n-items) (walked l.trail) ≡ along (walk g.G.Node.PartialEq.eq (g.G.Graph.plan l.initial.graph) (l.left - 1)) l.n-items (walked l.initial.trail))
