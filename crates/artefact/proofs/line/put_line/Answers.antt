use Rattle.std.proofs.lemmas.Result.{IfOk-weaker}
use Rattle.artefact.proofs.Puts.{line_put}
use Rattle.artefact.proofs.line.put_line.Goals as goal

pub returns : goal.returns
returns c =
    IfOk-weaker c.put_field-2.result _ _ (λ _ e. line_put _ _ _ c.args.fields.now c.in-Some.front.now c.in-Some.last.now c.loop-field.field-index c.in-Some.ensures.cases.0 c.loop-field-test.false c.loop-field.invariant e) c.put_field-2.ensures
