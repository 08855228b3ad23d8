use Rattle.std.proofs.Common.{◌≡◌, sym}
use Rattle.modules.specs.Says.{meant}
use Rattle.artefact.specs.Lines.{row_text, FitsRow}
use Rattle.artefact.specs.LinesLemmas.{fields, same_fields}
use Rattle.artefact.specs.Columns.{no_fields, entry_read}
use Rattle.artefact.specs.Entries.{row_columns, row_tie}
use Rattle.artefact.proofs.row.RowEntry.parse.Goals as goal

pub returns-in_err-split_fields : goal.returns-in_err-split_fields
returns-in_err-split_fields c = rw c.from_residual.ensures (no_fields row_columns c.args.text.now c.in_err-split_fields.ensures.found)

pub returns : goal.returns
returns c =
    let f = c.in_ok-split_fields.field-0 in
    let cut = c.in_ok-split_fields.ensures in
    entry_read row_columns (λ x q. meant x ≡ q) row_text FitsRow row_tie c.args.text.now (fields f.first.now f.second.now f.third.now f.fourth.now f.fifth.now) c.row_from.result cut.made (λ x y z u v lx ly lz lu is. let g = cut.found x y z u v lx ly lz lu is in same_fields x y z u v f.first.now f.second.now f.third.now f.fourth.now f.fifth.now (sym g.0) (sym g.1) (sym g.2) (sym g.3) (sym g.4)) c.row_from.ensures
