use Rattle.std.proofs.Common.{rules, tests}
use Rattle.std.proofs.lemmas.Iterator.{YieldsList-from_slice}
use Rattle.std.proofs.lemmas.Iterator.Search.{find_from_yields_List}
use Rattle.word.specs.Words.{spelling}
use Rattle.store.specs.Rows.{row_says, is_at}
use Rattle.store.proofs.Looks.{look_found}
use Rattle.store.proofs.rows.row_of.Goals as goal

pub returns : goal.returns
returns g c =
    let says = row_says g.L.Length.counts g.row.ROOM in
    let n = spelling c.args.key.name in
    let k = c.args.key.kind in
    look_found says n k (λ r. r.now) c.find.result c.args.rows.now
    (find_from_yields_List (λ r. is_at n k (says r)) _ _ _ c.find.ensures.ran (YieldsList-from_slice c.args.rows.now (cc)) (λ x b q h. search (rules, tests)))
