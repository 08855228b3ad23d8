use Rattle.modules.proofs.Limited.{by_trees, by_rows}
use Rattle.modules.proofs.laws.limits_agree.Goals as goal

pub returns-clause-trees : goal.returns-clause-trees
returns-clause-trees c = by_trees

pub returns-clause-rows : goal.returns-clause-rows
returns-clause-rows c = by_rows
