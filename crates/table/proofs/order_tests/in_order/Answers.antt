use Rattle.std.proofs.Common.{map, filter, ap}
use Rattle.std.specs.Str.{bytes_eq}
use Rattle.std.proofs.lemmas.Slice.Eq.{bytes_eq-Decides}
use Rattle.word.specs.Words.{spelling}
use Rattle.table.proofs.order_tests.in_order.Goals as goal

pub returns : goal.returns
returns c =
    c.required_first.ensures.lawful
    (λ a b h. ap (λ s. map (λ q. q.from) (filter (λ q. bytes_eq (spelling q.by) s) c.args.needs.now)) ((bytes_eq-Decides (spelling a) (spelling b)).0 h))
