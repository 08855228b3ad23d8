use Rattle.std.proofs.Common.{get_or, sym, ap, ◌∙◌}
use Rattle.text.specs.Items.{written_number}
use Rattle.text.proofs.Numbers.{parse_reads, no_text_no_number, text_is, text_is_not}
use Rattle.text.proofs.item.parse_digits.Goals as goal

pub returns-in_err-ok : goal.returns-in_err-ok
returns-in_err-ok c e = c.from_residual.ensures ∙ no_text_no_number c.args.bytes.now (text_is_not _ _ c.from_utf8.result c.from_utf8.ensures.cases c.in_err-ok.ensures.value)

pub returns : goal.returns
returns c e =
    let same = text_is _ c.args.bytes.now c.from_utf8.result c.in_ok-ok.field-0 c.from_utf8.ensures.cases c.in_ok-ok.ensures.value in
    c.ok-2.ensures.value ∙ parse_reads c.in_ok-ok.field-0.now _ c.parse.ensures.value.0 (λ k. e (ap (λ bs. get_or bs 0 0) (sym same) ∙ k)) ∙ ap written_number same
