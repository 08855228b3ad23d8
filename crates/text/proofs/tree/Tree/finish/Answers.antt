use Rattle.std.proofs.Common.{arith}
use Rattle.std.proofs.lemmas.Bool.Decides.{nat_tests}
use Rattle.text.proofs.Trees.{ended_inside}
use Rattle.text.proofs.tree.Tree.finish.Goals as goal

pub returns-then-not-is_empty : goal.returns-then-not-is_empty
returns-then-not-is_empty c = ended_inside c.args.self c.args.end _ (let n = c.args.self.opened.ok.0 in let e = c.if-not-is_empty.ensures in grind (arith, nat_tests)) c.refuse.ensures
