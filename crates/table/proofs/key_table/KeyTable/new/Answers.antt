use Rattle.std.proofs.Common.{length, rules}
use Rattle.table.proofs.Entries.{blanked_look, blanked_held}
use Rattle.table.proofs.key_table.KeyTable.new.Goals as goal

pub returns : goal.returns
returns g c =
    let blank = c.fill.ensures.after (λ y h. search rules) in
    record {
      none = λ k. blanked_look g.K.PartialEq.eq (length c.args.entries.now) k blank;
      count = blanked_held (length c.args.entries.now) blank;
      room = c.fill.ensures.len;
    }
