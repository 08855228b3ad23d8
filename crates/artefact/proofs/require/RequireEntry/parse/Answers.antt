use Rattle.std.proofs.Common.{sym}
use Rattle.artefact.specs.Entries.{require_no_word, require_no_shift, require_uncut, require_unread, require_read}
use Rattle.artefact.proofs.require.RequireEntry.parse.Goals as goal

pub returns-in_err-from : goal.returns-in_err-from
returns-in_err-from c = rw c.from_residual.ensures (require_uncut c.args.text.now c.in_err-from.ensures.cases)

pub returns-in_err-from-2 : goal.returns-in_err-from-2
returns-in_err-from-2 c =
    let f = c.in_ok-from in
    rw c.from_residual-in_err-from-2.ensures (require_unread c.args.text.now f.from f.shift f.ensures.cases (require_no_word f.from.now f.shift.now c.in_err-from-2.ensures))

pub returns-in_err-shift : goal.returns-in_err-shift
returns-in_err-shift c =
    let f = c.in_ok-from in
    rw c.from_residual-in_err-shift.ensures (require_unread c.args.text.now f.from f.shift f.ensures.cases (require_no_shift f.from.now f.shift.now (sym c.in_err-shift.ensures)))

pub returns : goal.returns
returns c =
    let f = c.in_ok-from in
    let w = c.in_ok-from-2.ensures in
    require_read c.args.text.now f.from f.shift f.ensures.cases (record { from = c.in_ok-from-2.from; shift = c.in_ok-shift.shift }) w.0 w.1 (sym c.in_ok-shift.ensures)
