use Rattle.std.proofs.Common.{rules, tests, sym, ◌∙◌}
use Rattle.std.proofs.lemmas.Iterator.{YieldsList-from_slice}
use Rattle.std.proofs.lemmas.Iterator.Adapters.{position_from-zero}
use Rattle.std.proofs.lemmas.Iterator.Search.{position_from_yields_List}
use Rattle.store.specs.Rows.{row_says, sought}
use Rattle.store.proofs.Firsts.{position_from-map}
use Rattle.store.proofs.rows.find.Goals as goal

pub returns-clause-value : goal.returns-clause-value
returns-clause-value g c =
    let says = row_says g.L.Length.counts g.row.ROOM in
    let rows = c.args.rows.now in
    position_from_yields_List (λ r. sought c.args.key (says r)) _ _ _ c.position.ensures.ran (YieldsList-from_slice rows (cc)) (λ x b q k. search (rules, tests))
    ∙ position_from-zero (λ r. sought c.args.key (says r)) rows
    ∙ sym (position_from-map says (sought c.args.key) rows 0)
