use Rattle.std.proofs.Common.{arith}
use Rattle.modules.proofs.Wholes.{tree_stop, tree_next, tree_end}
use Rattle.modules.proofs.whole.is_tree.Goals as goal

pub returns-then-left-eq0 : goal.returns-then-left-eq0
returns-then-left-eq0 c =
    tree_stop c.args.rows.now c.loop-row.row-index c.loop-row.left _ c.loop-row.invariant.0 c.loop-row-test.true c.if-left-eq0.true

pub overflow_add-left : goal.overflow_add-left
overflow_add-left c = omega (arith, c.children.ensures.bound, c.loop-row.invariant.1)

pub loop-row-preserved : goal.loop-row-preserved
loop-row-preserved c = (
  tree_next c.args.rows.now c.loop-row.row-index c.loop-row.left _ c.loop-row.invariant.0 c.children.result c.loop-row-test.true c.if-left-eq0.false c.children.ensures.value,
  omega (arith, c.children.ensures.bound, c.loop-row.invariant.1),
)

pub returns : goal.returns
returns c = tree_end c.args.rows.now c.loop-row.row-index c.loop-row.left _ c.loop-row.invariant.0 c.loop-row-test.false
