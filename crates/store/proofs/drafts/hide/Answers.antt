use Rattle.std.proofs.Common.{◌≡◌, ◌<◌, rules, length, true, Some, None}
use Rattle.word.specs.Words.{spelling}
use Rattle.store.specs.Rows.{place_for}
use Rattle.store.specs.Drafted.{draft_says, draft_rows}
use Rattle.store.proofs.Looks.{write_after}
use Rattle.store.proofs.drafts.hide.Goals as goal

pub returns-clause-after : goal.returns-clause-after
returns-clause-after c =
    let i = c.in_ok-i.i in
    let e : Some i ≡ place_for (draft_rows c.args.rows.now) (spelling c.args.key.name) c.args.key.kind = search rules in
    let l : i < length c.args.rows.now = search rules in
    write_after draft_says c.args.rows.now c.args.key i e c.hide.new.self c.hide.new.self true None l c.hide.ensures
