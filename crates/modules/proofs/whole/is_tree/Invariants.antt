use Rattle.std.proofs.Common.{◌≡◌, ◌+◌, ◌*◌, ◌≤◌, map, drop}
use Rattle.modules.specs.Says.{meant}
use Rattle.modules.specs.Trees.{closes}
use Rattle.modules.proofs.whole.is_tree.Given as goal

abbrev pub invariant-loop-row : goal.invariant-loop-row
invariant-loop-row l =
    (closes l.left (map meant (drop l.row-index l.rows)) ≡ closes 1 (map meant l.rows)) × (l.left ≤ 1 + 255 * l.row-index)
