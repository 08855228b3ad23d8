use Rattle.std.proofs.Common.{vec_items, refl, ◌∙◌}
use Rattle.table.specs.Outcomes.{walked}
use Rattle.table.proofs.Walks.{has_ended, met_again, not_opened, begun, one_followed, one_stopped, all_followed, exits_empty}
use Rattle.table.proofs.order.+follow.Goals as goal

pub returns-then-is_among : goal.returns-then-is_among
returns-then-is_among g t c = record {
  goes = has_ended g.G.Node.PartialEq.eq (g.G.Graph.plan c.args.graph.now) c.args.left c.if-left-eq0.false c.args.node (walked c.args.trail.now) _ c.deref.ensures.value c.if-is_among.ensures;
  stays = refl;
}

pub returns-then-is_among-2 : goal.returns-then-is_among-2
returns-then-is_among-2 g t c = record {
  goes = met_again g.G.Node.PartialEq.eq (g.G.Graph.plan c.args.graph.now) c.args.left c.if-left-eq0.false c.args.node (walked c.args.trail.now) _ _ _ c.deref.ensures.value c.if-is_among.ensures c.deref-2.ensures.value c.if-is_among-2.ensures c.cycle.ensures.goes_on;
  stays = c.cycle.ensures.stays;
}

pub returns-in_err-next : goal.returns-in_err-next
returns-in_err-next g t c = record {
  goes = not_opened g.G.Node.PartialEq.eq (g.G.Graph.plan c.args.graph.now) c.args.left c.if-left-eq0.false c.args.node (walked c.args.trail.now) _ _ _ _ _ _ _ c.deref.ensures.value c.if-is_among.ensures c.deref-2.ensures.value c.if-is_among-2.ensures (c.len.ensures ∙ c.args.trail.now.met.ok.0) c.in_err-next.ensures.opens c.from_residual.ensures.1;
  stays = c.successors.ensures.stays;
}

pub along-init : goal.along-init
along-init g t c = (refl, refl)

pub along-preserved : goal.along-preserved
along-preserved g t c = (
  c.follow.ensures.stays ∙ c.along.invariant.0,
  one_followed g.G.Node.PartialEq.eq _ (g.G.Graph.plan c.successors.new.self) (g.G.Graph.plan c.along.graph) c.deref-n-items.result.now c.along.n-index c.n-item.result (walked c.along.trail) _ c.in_ok-follow.field-0 (walked c.follow.new.trail) c.along.invariant.0 c.along-test.true c.n-item.is c.in_ok-follow.ensures.goes c.along.invariant.1,
)

pub returns-in_err-follow : goal.returns-in_err-follow
returns-in_err-follow g t c =
    let w = begun g.G.Node.PartialEq.eq (g.G.Graph.plan c.args.graph.now) c.args.left c.if-left-eq0.false c.args.node (walked c.args.trail.now) _ c.deref.result.now c.deref-2.result.now c.len.result c.in_ok-next.next (g.G.Graph.plan c.successors.new.self) c.deref-n-items.result.now (vec_items c.push.new.self) c.deref.ensures.value c.if-is_among.ensures c.deref-2.ensures.value c.if-is_among-2.ensures (c.len.ensures ∙ c.args.trail.now.met.ok.0) c.in_ok-next.ensures.opens (λ l q. c.deref-n-items.ensures.value ∙ q) c.successors.ensures.stays c.in_ok-push.ensures.items in
    record {
      goes = one_stopped g.G.Node.PartialEq.eq _ (g.G.Graph.plan c.successors.new.self) (g.G.Graph.plan c.along.graph) c.deref-n-items.result.now c.along.n-index c.n-item.result (walked c.along.trail) _ _ _ c.from_residual-in_err-follow.result c.in_err-follow.field-0.0 _ _ c.along.invariant.0 c.along-test.true c.n-item.is c.in_err-follow.ensures.goes c.along.invariant.1 w c.from_residual-in_err-follow.ensures.1;
      stays = c.follow.ensures.stays ∙ c.along.invariant.0 ∙ c.successors.ensures.stays;
    }

pub returns-in_err-push-2 : goal.returns-in_err-push-2
returns-in_err-push-2 g t c = record {
  goes = exits_empty _ _ _ c.from_residual-in_err-push-2.ensures.1;
  stays = c.along.invariant.0 ∙ c.successors.ensures.stays;
}

pub returns : goal.returns
returns g t c =
    let w = begun g.G.Node.PartialEq.eq (g.G.Graph.plan c.args.graph.now) c.args.left c.if-left-eq0.false c.args.node (walked c.args.trail.now) _ c.deref.result.now c.deref-2.result.now c.len.result c.in_ok-next.next (g.G.Graph.plan c.successors.new.self) c.deref-n-items.result.now (vec_items c.push.new.self) c.deref.ensures.value c.if-is_among.ensures c.deref-2.ensures.value c.if-is_among-2.ensures (c.len.ensures ∙ c.args.trail.now.met.ok.0) c.in_ok-next.ensures.opens (λ l q. c.deref-n-items.ensures.value ∙ q) c.successors.ensures.stays c.in_ok-push.ensures.items in
    record {
      goes = all_followed _ c.deref-n-items.result.now c.along.n-index c.args.node (walked c.along.trail) _ _ (vec_items c.push-2.new.self) _ c.along-test.false c.along.invariant.1 w c.in_ok-push-2.ensures.items;
      stays = c.along.invariant.0 ∙ c.successors.ensures.stays;
    }
