use Rattle.std.proofs.Common.{leb, length, is_ok, Some}
use Rattle.store.specs.Drafted.{draft_rows}
use Rattle.store.proofs.Looks.{write_writes}
use Rattle.store.proofs.drafts.DraftsStore.put.Goals as goal

pub returns-clause-after : goal.returns-clause-after
returns-clause-after g c =
    let bytes = c.args.bytes.now in
    write_writes (draft_rows c.args.self.now.rows) c.args.key (g.S.Store.holds c.args.self.now.below) (Some bytes) (draft_rows c.write.new.rows) (is_ok c.write.result) (leb (length bytes) 1024) c.write.ensures.test c.write.ensures.after
