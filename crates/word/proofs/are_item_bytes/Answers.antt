use Rattle.std.proofs.Common.{rules, tests}
use Rattle.std.proofs.lemmas.Iterator.{YieldsList-from_slice}
use Rattle.std.proofs.lemmas.Iterator.Search.{all_from_yields_List}
use Rattle.rules.specs.Words.{item_byte}
use Rattle.word.proofs.Spellings.{items_all}
use Rattle.word.proofs.are_item_bytes.Goals as goal

pub returns : goal.returns
returns c = items_all c.args.bytes.now _ (all_from_yields_List {all = c.args.bytes.now} item_byte _ _ _ c.all.ensures.ran (YieldsList-from_slice _ cc) (λ x b q k. search (rules, tests)))
