use Rattle.std.proofs.Common.{vec_items}
use Rattle.artefact.proofs.Tables.{put_none, put_more, put_done}
use Rattle.artefact.proofs.writer.put_all.Goals as goal

pub each-init : goal.each-init
each-init g c = put_none g.E.Entry.line c.args.entries.now (vec_items c.args.out.now)

pub each-preserved : goal.each-preserved
each-preserved g c =
    put_more g.E.Entry.line c.args.entries.now c.each.entry-index c.entry-item.result (vec_items c.args.out.now) _ _ c.each-test.true c.entry-item.is c.each.invariant c.in_ok-put.ensures

pub returns : goal.returns
returns g c = put_done g.E.Entry.line c.args.entries.now c.each.entry-index (vec_items c.args.out.now) _ c.each-test.false c.each.invariant
