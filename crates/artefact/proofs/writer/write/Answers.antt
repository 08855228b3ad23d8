use Rattle.std.proofs.Common.{vec_items}
use Rattle.artefact.proofs.Artefacts.{wrote}
use Rattle.artefact.proofs.writer.write.Goals as goal

pub returns : goal.returns
returns c = wrote c.args.module.now (vec_items c.new-out.result) _ c.new-out.ensures.items c.in_ok-append.ensures
