use Rattle.std.proofs.Common.{arith}
use Rattle.modules.proofs.Wholes.{trees_broken, trees_next}
use Rattle.modules.proofs.whole.are_trees.Goals as goal

pub returns-then-not-is_tree : goal.returns-then-not-is_tree
returns-then-not-is_tree c =
    trees_broken _ _ _ _ c.loop-definition.invariant.0 c.loop-definition-test.true _ _ c.in-Some.ensures.cases c.is_tree.result c.is_tree.ensures c.if-not-is_tree.true

pub loop-definition-preserved : goal.loop-definition-preserved
loop-definition-preserved c = (
  trees_next _ _ _ _ c.loop-definition.invariant.0 c.loop-definition-test.true _ _ c.in-Some.ensures.cases c.is_tree.result c.is_tree.ensures c.if-not-is_tree.false,
  omega (arith, c.loop-definition.invariant.1, c.in-Some.ensures.cases),
)
