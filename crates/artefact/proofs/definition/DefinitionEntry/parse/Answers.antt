use Rattle.std.proofs.Common.{sym}
use Rattle.modules.specs.Whole.{Heads}
use Rattle.artefact.specs.Lines.{definition_text, FitsDefinition}
use Rattle.artefact.specs.LinesLemmas.{fields, same_fields}
use Rattle.artefact.specs.Columns.{no_fields, entry_read}
use Rattle.artefact.specs.Entries.{heading_columns, heading_tie}
use Rattle.artefact.proofs.definition.DefinitionEntry.parse.Goals as goal

pub returns-in_err-split_fields : goal.returns-in_err-split_fields
returns-in_err-split_fields c = rw c.from_residual.ensures (no_fields heading_columns c.args.text.now c.in_err-split_fields.ensures.found)

pub returns : goal.returns
returns c =
    let f = c.in_ok-split_fields.field-0 in
    let cut = c.in_ok-split_fields.ensures in
    entry_read heading_columns Heads definition_text FitsDefinition heading_tie c.args.text.now (fields f.first.now f.second.now f.third.now f.fourth.now f.fifth.now) c.definition_from.result cut.made (λ x y z u v lx ly lz lu is. let g = cut.found x y z u v lx ly lz lu is in same_fields x y z u v f.first.now f.second.now f.third.now f.fourth.now f.fifth.now (sym g.0) (sym g.1) (sym g.2) (sym g.3) (sym g.4)) c.definition_from.ensures
