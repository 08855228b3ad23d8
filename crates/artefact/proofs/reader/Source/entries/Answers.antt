use Rattle.std.proofs.Common.{◌++◌, vec_items, sym, ap, ◌∙◌, subst}
use Rattle.std.specs.List.{flat_map, AllByRecursion}
use Rattle.std.proofs.ByRecursion.{All-push}
use Rattle.artefact.proofs.Tables.{tabled_more}
use Rattle.artefact.proofs.reader.Source.entries.Goals as goal

pub loop-entry-preserved : goal.loop-entry-preserved
loop-entry-preserved g c =
    let took = c.in-Some.ensures in
    let grown = c.in_ok-push.ensures.items in (
      tabled_more g.E.Entry.line g.E.Entry.Fits c.args.self.now.rest.now c.loop-entry.self.rest.now c.entry.new.self.rest.now (vec_items c.loop-entry.entries) c.in-Some.entry c.loop-entry.invariant.0 took.0 ∙ ap (λ xs. flat_map g.E.Entry.line xs ++ c.entry.new.self.rest.now) (sym grown),
      subst (AllByRecursion g.E.Entry.Fits) (sym grown) (All-push g.E.Entry.Fits (vec_items c.loop-entry.entries) c.in-Some.entry c.loop-entry.invariant.1 took.1),
    )
