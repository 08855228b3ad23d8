use Rattle.std.proofs.Common.{◌∙◌}
use Rattle.text.proofs.Shown.{listing_more}
use Rattle.text.proofs.tree.Text.listing.Goals as goal

pub loop-form-preserved : goal.loop-form-preserved
loop-form-preserved c = record {
  kept = c.in_ok-put_form.ensures.kept ∙ c.loop-form.invariant.kept;
  lines = λ fs m.
      listing_more _ _ c.deref-form-items.result.now c.loop-form.form-index _ _ fs c.loop-form.invariant.kept c.loop-form-test.true c.in_ok-put_form.ensures.written (c.loop-form.invariant.lines fs m);
}
