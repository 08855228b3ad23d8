use Rattle.word.specs.Words.{spelling, home_of}
use Rattle.artefact.specs.Fields.{named_arms}
use Rattle.artefact.specs.Picks.{pick_none, none_got}
use Rattle.artefact.proofs.row.named_row.Goals as goal

pub returns-in_default : goal.returns-in_default
returns-in_default c =
    let h = c.in_default in
    none_got _ _ (pick_none c.args.op.now (named_arms (spelling c.args.name.word) (home_of c.args.name.home) c.args.number.now) (h.not-name, (h.not-variable, (h.not-call, tt))))
