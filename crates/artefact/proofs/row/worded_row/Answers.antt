use Rattle.artefact.specs.Fields.{worded_arms}
use Rattle.artefact.specs.Picks.{pick_none, none_got}
use Rattle.artefact.proofs.row.worded_row.Goals as goal

pub returns-in_default : goal.returns-in_default
returns-in_default c =
    let h = c.in_default in
    none_got _ _ (pick_none c.args.op.now (worded_arms c.args.word.now c.args.number.now) (h.not-set, (h.not-prim, tt)))
