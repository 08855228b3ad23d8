use Rattle.std.proofs.Common.{sym, refl}
use Rattle.modules.specs.Whole.{Heads}
use Rattle.artefact.specs.Picks.{got_none, got_some, none_got, some_got}
use Rattle.artefact.specs.Heads.{no_kind, no_rows, no_stand, all_read}
use Rattle.artefact.proofs.definition.definition_from.Goals as goal

pub returns-in_err-kind : goal.returns-in_err-kind
returns-in_err-kind c =
    let f = c.args.fields in
    rw c.from_residual-in_err-kind.ensures (none_got Heads _ (no_kind f.first.now f.second.now f.third.now f.fourth.now f.fifth.now c.in_ok-level.level (sym c.in_ok-level.ensures) (got_none _ _ c.in_err-kind.ensures)))

pub returns-in_err-rows : goal.returns-in_err-rows
returns-in_err-rows c =
    let f = c.args.fields in
    let k = got_some _ _ c.in_ok-kind.field-0 c.in_ok-kind.ensures in
    rw c.from_residual-in_err-rows.ensures (none_got Heads _ (no_rows f.first.now f.second.now f.third.now f.fourth.now f.fifth.now c.in_ok-level.level (sym c.in_ok-level.ensures) k.0 k.1 (sym c.in_err-rows.ensures)))

pub returns-then-not-may_stand : goal.returns-then-not-may_stand
returns-then-not-may_stand c =
    let f = c.args.fields in
    let k = got_some _ _ c.in_ok-kind.field-0 c.in_ok-kind.ensures in
    none_got Heads _ (no_stand f.first.now f.second.now f.third.now f.fourth.now f.fifth.now c.in_ok-level.level (sym c.in_ok-level.ensures) k.0 k.1 c.in_ok-rows.rows (sym c.in_ok-rows.ensures) (sym (c.if-not-may_stand.ensures _ k.0 k.2)))

pub returns : goal.returns
returns c =
    let f = c.args.fields in
    let k = got_some _ _ c.in_ok-kind.field-0 c.in_ok-kind.ensures in
    some_got Heads _ _ _ (all_read f.first.now f.second.now f.third.now f.fourth.now f.fifth.now c.in_ok-level.level (sym c.in_ok-level.ensures) k.0 k.1 c.in_ok-rows.rows (sym c.in_ok-rows.ensures) (sym (c.if-not-may_stand.ensures _ k.0 k.2))) (record { level = refl; kind = k.2; rows = c.from.ensures })
