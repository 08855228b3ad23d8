use Rattle.std.proofs.Common.{sym, refl}
use Rattle.std.proofs.lemmas.Result.{err_from_is_err_and}
use Rattle.text.proofs.Readers.{stepped_mark, stepped_item, stepped_bad_item, stepped_bad_mark}
use Rattle.text.proofs.reader.Reader.step.Goals as goal

pub returns-in_err-end_item : goal.returns-in_err-end_item
returns-in_err-end_item c p b =
    let r = err_from_is_err_and c.from_residual.result c.from_residual.ensures.1 in
    rw (r.1, r.2) (stepped_bad_item c.args.self.now c.args.at c.args.b p _ c.requires.begun c.requires.within (sym c.if-not-is_item_byte.ensures) (c.in_err-end_item.ensures p b))

pub returns-in_err-mark : goal.returns-in_err-mark
returns-in_err-mark c p b =
    let r = err_from_is_err_and c.from_residual-in_err-mark.result c.from_residual-in_err-mark.ensures.1 in
    let i = c.in_ok-end_item.ensures p b in
    rw (r.1, r.2) (stepped_bad_mark c.args.self.now c.end_item.new.tree c.args.at c.args.b p i.0 _ c.requires.begun c.requires.within (sym c.if-not-is_item_byte.ensures) i.1 i.3 (c.in_err-mark.ensures i.0 i.2))

pub returns-in_ok-mark : goal.returns-in_ok-mark
returns-in_ok-mark c p b =
    let i = c.in_ok-end_item.ensures p b in
    let m = c.in_ok-mark.ensures i.0 i.2 in
    stepped_mark c.args.self.now _ c.end_item.new.tree c.args.at c.args.b p i.0 m.0 c.requires.begun c.requires.within (sym c.if-not-is_item_byte.ensures) i.1 i.3 m.1 m.2 m.3 refl refl

pub returns-else-not-is_item_byte : goal.returns-else-not-is_item_byte
returns-else-not-is_item_byte c p b = stepped_item c.args.self.now c.args.at c.args.b p c.requires.begun c.requires.within c.requires.byte (sym c.if-not-is_item_byte.ensures) b
