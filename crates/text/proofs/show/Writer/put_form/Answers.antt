use Rattle.std.proofs.Common.{◌++◌, vec_items, decimal, ap, ◌∙◌, arith}
use Rattle.text.proofs.Shown.{line_written}
use Rattle.text.proofs.show.Writer.put_form.Goals as goal

pub returns-clause-written : goal.returns-clause-written
returns-clause-written c d s =
    let out = vec_items c.args.self.now.out in
    let digits = c.in_ok-extend_from_slice.ensures.items ∙ ap (λ k. out ++ k) (c.as_bytes.ensures.value ∙ c.in_ok-offset.ensures.ok) in
    line_written (decimal c.args.form.offset) _ out _ _ _ _ digits c.in_ok-push.ensures.items (c.in_ok-put_datum.ensures.written d s (omega arith)) c.in_ok-push-2.ensures.items
