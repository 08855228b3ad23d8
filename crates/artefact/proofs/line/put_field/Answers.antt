use Rattle.artefact.proofs.Puts.{field_put}
use Rattle.artefact.proofs.line.put_field.Goals as goal

pub returns : goal.returns
returns c = field_put _ _ _ c.args.field.now c.args.end c.in_ok-extend_from_slice.ensures.items c.in_ok-push.ensures.items
