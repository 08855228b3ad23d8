use Rattle.std.proofs.Common.{refl}
use Rattle.text.proofs.Means.{grows_not}
use Rattle.text.proofs.Trees.{item_begun}
use Rattle.text.proofs.tree.Tree.item.Goals as goal

pub returns : goal.returns
returns c d s p b = c.add.ensures d s _ (item_begun c.args.self.now _ c.args.at (record { home = refl; grown = grows_not _; forms = refl }) c.start-self.ensures refl refl p b)
