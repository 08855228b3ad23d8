use Rattle.text.proofs.Lists.{gathered_more}
use Rattle.text.proofs.data.push_list.Goals as goal

pub loop-item-preserved : goal.loop-item-preserved
loop-item-preserved c =
    let pushed = c.in_ok-list.ensures in
    gathered_more _ _ _ c.args.items.now _ _ c.in-Some.field-0.now c.loop-item.list _ c.in-Some.ensures.steps pushed.0 pushed.1 c.loop-item.invariant
