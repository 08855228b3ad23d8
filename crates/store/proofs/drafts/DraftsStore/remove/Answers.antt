use Rattle.std.proofs.Common.{◌≡◌, rules, is_ok, None}
use Rattle.word.specs.Words.{spelling}
use Rattle.store.specs.Drafted.{draft_rows}
use Rattle.store.proofs.Looks.{hide_writes, struck_writes}
use Rattle.store.proofs.drafts.DraftsStore.remove.Goals as goal

pub returns-then-is_some-clause-after : goal.returns-then-is_some-clause-after
returns-then-is_some-clause-after g c =
    hide_writes (draft_rows c.args.self.now.rows) c.args.key (g.S.Store.holds c.args.self.now.below) None (draft_rows c.hide.new.rows) (is_ok c.hide.result) c.hide.ensures.test c.hide.ensures.after

pub returns-clause-after : goal.returns-clause-after
returns-clause-after g c =
    let below = g.S.Store.holds c.args.self.now.below in
    let none : below (spelling c.args.key.name) c.args.key.kind ≡ None = search rules in
    struck_writes (draft_rows c.args.self.now.rows) (draft_rows c.strike.new.rows) c.args.key below none c.strike.ensures
