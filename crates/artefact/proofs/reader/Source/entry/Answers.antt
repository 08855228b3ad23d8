use Rattle.std.proofs.Common.{refl}
use Rattle.artefact.proofs.Tables.{uncut_stops, unread_stops, line_cut}
use Rattle.artefact.proofs.reader.Source.entry.Goals as goal

pub returns-in_err-line : goal.returns-in_err-line
returns-in_err-line g c = rw c.from_residual.ensures (refl, uncut_stops c.args.self.now.rest.now g.E.Entry.Lawful g.met.E.Entry.ended c.in_err-line.ensures.cases)

pub returns-in_err-entry : goal.returns-in_err-entry
returns-in_err-entry g c =
    rw c.from_residual-in_err-entry.ensures (refl, unread_stops c.args.self.now.rest.now g.E.Entry.Lawful g.met.E.Entry.ended c.in_ok-line.line c.in_ok-line.rest c.in_ok-line.ensures.cases c.in_err-entry.ensures)

pub returns : goal.returns
returns g c =
    let x = c.in_ok-entry.ensures in
    let t = line_cut c.args.self.now.rest.now _ c.in_ok-line.line c.in_ok-line.rest c.in_ok-line.ensures.cases x.0 in
    (t.0, x.1, t.1)
