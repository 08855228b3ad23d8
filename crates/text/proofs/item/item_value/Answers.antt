use Rattle.std.proofs.Common.{refl}
use Rattle.rules.specs.Words.{word}
use Rattle.word.specs.Words.{home_of}
use Rattle.text.proofs.Numbers.{word_item, number_value}
use Rattle.text.proofs.item.item_value.Goals as goal

pub returns-in-Ok : goal.returns-in-Ok
returns-in-Ok c = let h = c.in-Ok.ensures in (word c.args.bytes.now (home_of c.args.home), word_item _ _ h.0, λ cs. (_, refl, h.1, refl))

pub returns-in-Err : goal.returns-in-Err
returns-in-Err c = number_value (home_of c.args.home) c.args.bytes.now c.parse_number.result _ c.in-Err.ensures c.parse_number.ensures c.map.ensures.cases
