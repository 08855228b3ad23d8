use Rattle.std.proofs.Common.{codes, refl}
use Rattle.std.proofs.lemmas.Result.{err_from_is_err_and}
use Rattle.artefact.specs.Tables.{Untitled, ArtefactOfNone}
use Rattle.artefact.proofs.Artefacts.{no_requires, no_definitions, no_rows, all_tables, absent_lacks, refuses_more}
use Rattle.artefact.proofs.reader.Source.tables.Goals as goal

pub returns-in_err-table : goal.returns-in_err-table
returns-in_err-table c =
    let r = err_from_is_err_and c.from_residual.result c.from_residual.ensures.1 in
    rw (r.1, r.2) (refuses_more {P = Untitled (codes "require shift") c.args.self.now.rest.now} {Q = ArtefactOfNone c.args.self.now.rest.now} (λ f p limits is. no_requires c.args.self.now.rest.now p limits is f) _ (c.in_err-table.ensures (absent_lacks 10 (codes "require shift") refl)))

pub returns-in_err-table-2 : goal.returns-in_err-table-2
returns-in_err-table-2 c =
    let r = err_from_is_err_and c.from_residual-in_err-table-2.result c.from_residual-in_err-table-2.ensures.1 in
    let one = c.in_ok-table.ensures (absent_lacks 10 (codes "require shift") refl) in
    rw (r.1, r.2) (refuses_more {P = Untitled (codes "level kind name params rows") c.table.new.self.rest.now} {Q = ArtefactOfNone c.args.self.now.rest.now} (λ f p limits is. no_definitions c.args.self.now.rest.now p limits is one.0 _ _ one.1 one.2 f) _ (c.in_err-table-2.ensures (absent_lacks 10 (codes "level kind name params rows") refl)))

pub returns-in_err-table-3 : goal.returns-in_err-table-3
returns-in_err-table-3 c =
    let r = err_from_is_err_and c.from_residual-in_err-table-3.result c.from_residual-in_err-table-3.ensures.1 in
    let one = c.in_ok-table.ensures (absent_lacks 10 (codes "require shift") refl) in
    let two = c.in_ok-table-2.ensures (absent_lacks 10 (codes "level kind name params rows") refl) in
    rw (r.1, r.2) (refuses_more {P = Untitled (codes "op text home base number") c.table-2.new.self.rest.now} {Q = ArtefactOfNone c.args.self.now.rest.now} (λ f p limits is. no_rows c.args.self.now.rest.now p limits is one.0 _ _ one.1 one.2 two.0 _ _ two.1 two.2 f) _ (c.in_err-table-3.ensures (absent_lacks 10 (codes "op text home base number") refl)))

pub returns : goal.returns
returns c =
    let one = c.in_ok-table.ensures (absent_lacks 10 (codes "require shift") refl) in
    let two = c.in_ok-table-2.ensures (absent_lacks 10 (codes "level kind name params rows") refl) in
    let three = c.in_ok-table-3.ensures (absent_lacks 10 (codes "op text home base number") refl) in
    all_tables c.args.self.now.rest.now one.0 _ two.0 _ three.0 _ (record { required = c.in_ok-table.field-0; definitions = c.in_ok-table-2.field-0; rows = c.in_ok-table-3.field-0 }) one.1 one.2 two.1 two.2 three.1 three.2
