use Rattle.rules.proofs.Named.{names_none}
use Rattle.rules.proofs.primitive.PrimitiveFromStr.from_str.Goals as goal

pub returns-in_default : goal.returns-in_default
returns-in_default c =
    let h = c.in_default in
    names_none c.args.text.now h.not-add h.not-sub h.not-mul h.not-less h.not-same h.not-pair h.not-head h.not-tail h.not-text h.not-text-2 h.not-text-3 h.not-print
