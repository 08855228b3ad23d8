use Rattle.std.proofs.lemmas.Result.{err_from_is_err_and}
use Rattle.text.proofs.Readers.{finished_text, finished_bad_item}
use Rattle.text.proofs.reader.Reader.finish.Goals as goal

pub returns-in_err-end_item : goal.returns-in_err-end_item
returns-in_err-end_item c p b =
    let r = err_from_is_err_and c.from_residual.result c.from_residual.ensures.1 in
    rw (r.1, r.2) (finished_bad_item c.args.self p _ c.requires (c.in_err-end_item.ensures p b))

pub returns : goal.returns
returns c p b =
    let i = c.in_ok-end_item.ensures p b in
    finished_text c.args.self c.end_item.new.tree p i.0 c.finish.result c.requires i.1 i.3 (c.finish.ensures i.0 i.2)
