use Rattle.std.proofs.lemmas.Result.{IfOk-weaker}
use Rattle.text.proofs.Means.{quoted_by_two}
use Rattle.text.proofs.data.push_quote.Goals as goal

pub returns : goal.returns
returns c =
    let first = c.in_ok-rest.ensures in
    IfOk-weaker c.push_pair-2.result _ _ (λ w p. quoted_by_two _ _ _ c.args.home c.quote-word.result c.args.datum _ w c.quote-word.ensures first.0 first.1 p.0 p.1) c.push_pair-2.ensures
