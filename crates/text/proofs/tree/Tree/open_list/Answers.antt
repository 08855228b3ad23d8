use Rattle.std.proofs.Common.{[], arith}
use Rattle.rules.specs.Reading.{bracket}
use Rattle.text.proofs.tree.Tree.open_list.Goals as goal

pub returns : goal.returns
returns c =
    let n = c.args.self.now.values.ok.0 in
    let b = c.len-before.ensures in
    c.open.ensures (bracket []) (omega (arith, n, b))
