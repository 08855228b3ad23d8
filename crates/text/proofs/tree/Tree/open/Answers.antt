use Rattle.std.proofs.Common.{refl, arith}
use Rattle.text.proofs.Means.{grows_not}
use Rattle.text.proofs.Trees.{opened_nests, too_deep}
use Rattle.text.proofs.tree.Tree.open.Goals as goal

pub returns : goal.returns
returns c = opened_nests c.args.self.now _ c.args.part c.args.at (omega arith) (record { home = refl; grown = grows_not _; forms = refl }) c.start-self.ensures c.in_ok-push.ensures.items refl

pub returns-then-len-ge64 : goal.returns-then-len-ge64
returns-then-len-ge64 c q i = too_deep c.args.self.now c.args.self.now c.args.at q _ (omega arith) c.refuse.ensures
