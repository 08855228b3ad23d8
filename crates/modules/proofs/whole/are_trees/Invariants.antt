use Rattle.std.proofs.Common.{◌≡◌, ◌≤◌, map, length, drop}
use Rattle.modules.specs.Says.{meant}
use Rattle.modules.specs.Whole.{trees}
use Rattle.modules.proofs.whole.are_trees.Given as goal

abbrev pub invariant-loop-definition : goal.invariant-loop-definition
invariant-loop-definition l =
    (trees (drop l.definition-index l.definitions) (map meant l.rest) ≡ trees l.definitions (map meant l.rows)) × (length l.rest ≤ 128)
