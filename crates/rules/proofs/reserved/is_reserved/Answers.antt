use Rattle.std.proofs.Common.{◌∙◌}
use Rattle.rules.proofs.Named.{no_core_word, named_ok}
use Rattle.rules.proofs.reserved.is_reserved.Goals as goal

pub returns-in_default : goal.returns-in_default
returns-in_default c =
    let h = c.in_default in
    c.is_ok.ensures.value ∙ named_ok c.args.text.now c.parse.result c.parse.ensures.value ∙ no_core_word c.args.text.now (h.not-require, (h.not-define, (h.not-text, (h.not-text-2, (h.not-quote, (h.not-if, (h.not-set, (h.not-do, (h.not-let, tt)))))))))
