use Rattle.std.proofs.Common.{◌≡◌, is_some, sym, ◌∙◌, arith}
use Rattle.std.proofs.lemmas.Grind.{common_steps}
use Rattle.std.specs.List.{count_by}
use Rattle.table.proofs.Places.{held_is}
use Rattle.table.proofs.key_table.KeyTable.len.Goals as goal

pub returns : goal.returns
returns g c =
    let t : c.count.result ≡ count_by is_some c.args.self.now.entries.now = grind (arith, common_steps) in
    t ∙ sym (held_is c.args.self.now.entries.now)
