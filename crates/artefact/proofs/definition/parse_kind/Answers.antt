use Rattle.artefact.specs.Fields.{kind_arms}
use Rattle.artefact.specs.Picks.{pick_none, none_got}
use Rattle.artefact.proofs.definition.parse_kind.Goals as goal

pub returns-in_default : goal.returns-in_default
returns-in_default c =
    let h = c.in_default in
    none_got _ _ (pick_none c.args.kind.now (kind_arms c.args.name.now c.args.params.now) (h.not-variable, (h.not-procedure, (h.not-macro, (h.not-action, tt)))))
