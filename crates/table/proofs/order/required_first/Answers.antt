use Rattle.std.proofs.Common.{refl}
use Rattle.table.specs.Outcomes.{walked}
use Rattle.table.proofs.Orders.{is_once, is_required_first}
use Rattle.table.proofs.Walks.{order_stopped, order_came, order_is, made_not, none_met}
use Rattle.table.proofs.order.required_first.Goals as goal

pub returns-in_err-follow : goal.returns-in_err-follow
returns-in_err-follow g c =
    let e = none_met _ _ c.new.ensures.items c.new-2.ensures.items in
    record {
      ordered = order_stopped g.G.Node.PartialEq.eq (g.G.Graph.plan c.args.graph.now) c.args.depth c.args.root _ _ _ _ _ e c.in_err-follow.ensures.goes c.from_residual.ensures.1;
      once = made_not _ _ c.from_residual.result c.from_residual.ensures.1;
      lawful = λ _. made_not _ _ c.from_residual.result c.from_residual.ensures.1;
      stays = c.follow.ensures.stays;
    }

pub returns : goal.returns
returns g c =
    let e = none_met _ _ c.new.ensures.items c.new-2.ensures.items in
    let w = order_came g.G.Node.PartialEq.eq (g.G.Graph.plan c.args.graph.now) c.args.depth c.args.root _ _ (walked c.follow.new.trail) e c.in_ok-follow.ensures.goes in
    record {
      ordered = order_is g.G.Node.PartialEq.eq (g.G.Graph.plan c.args.graph.now) c.args.depth c.args.root _ _ (walked c.follow.new.trail) w refl;
      once = is_once g.G.Node.PartialEq.eq g.met.G.Node.Eq.laws (g.G.Graph.plan c.args.graph.now) c.args.root c.args.depth (walked c.follow.new.trail) w;
      lawful = is_required_first g.G.Node.PartialEq.eq g.met.G.Node.Eq.laws (g.G.Graph.plan c.args.graph.now) c.args.root c.args.depth (walked c.follow.new.trail) w;
      stays = c.follow.ensures.stays;
    }
