use Rattle.artefact.specs.Fields.{plain_arms}
use Rattle.artefact.specs.Picks.{pick_none, none_got}
use Rattle.artefact.proofs.row.plain_row.Goals as goal

pub returns-in_default : goal.returns-in_default
returns-in_default c =
    let h = c.in_default in
    none_got _ _ (pick_none c.args.op.now (plain_arms c.args.number.now) (h.not-number, (h.not-empty, (h.not-local, (h.not-if, (h.not-let, (h.not-do, tt)))))))
