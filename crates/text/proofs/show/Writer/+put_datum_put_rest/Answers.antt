use Rattle.std.proofs.Common.{◌≡◌, List, Bor, w32, to_z, of_z, inl, inr, ap, ◌∙◌, arith, rules}
use Rattle.std.specs.Fmt.{signed_decimal}
use Rattle.std.proofs.lemmas.Result.{IfOk-weaker}
use Rattle.text.specs.declared.data.Cell.{Cell}
use Rattle.text.proofs.Shown.{extended, number_shown, word_shown, empty_shown, pair_written, pair_past, resting_more, ended_empty, ended_atom}
use Rattle.text.proofs.show.Writer.+put_datum_put_rest.Goals as goal
use Rattle.text.proofs.show.Writer.+put_datum_put_rest.Goals.{put_datum-then-i-below-via-then-i-below, put_datum-then-i-below-via-else-i-below+then-i-self, put_rest-then-i-below-via-then-i-below, put_rest-then-i-below-via-else-i-below+then-i-self}

pub put_datum-returns-in-Number-clause-written : goal.put_datum-returns-in-Number-clause-written
put_datum-returns-in-Number-clause-written t c =
    let same : to_z w32 (of_z w32 c.in-Number.n) ≡ c.in-Number.n = search rules in
    extended c.put_number.result _ _ _ _ _ _ _ c.put_number.ensures (λ d m. ap signed_decimal same ∙ number_shown c.args.self.now.cells.now c.args.below c.args.value _ d c.in-Number.is m)

pub put_datum-returns-in-Word-clause-written : goal.put_datum-returns-in-Word-clause-written
put_datum-returns-in-Word-clause-written t c =
    extended c.extend_from_slice.result _ _ _ _ _ _ _ c.extend_from_slice.ensures.items (λ d m. c.as_bytes.ensures ∙ word_shown c.args.self.now.cells.now c.args.below c.args.value _ d c.in-Word.is m)

pub put_datum-returns-in-Empty-clause-written : goal.put_datum-returns-in-Empty-clause-written
put_datum-returns-in-Empty-clause-written t c =
    extended c.extend_from_slice-in-Empty.result _ _ _ _ _ _ _ c.extend_from_slice-in-Empty.ensures.items (λ d m. empty_shown c.args.self.now.cells.now c.args.below c.args.value d c.in-Empty.is m)

pub put_datum-returns-then-i-below-clause-written : goal.put_datum-returns-then-i-below-clause-written
put_datum-returns-then-i-below-clause-written t c d m l =
    pair_past c.args.self.now.cells.now c.args.below c.in-Pair.i c.args.value d c.in-Pair.is (elim c.then-i-below.branch [
      | put_datum-then-i-below-via-then-i-below w ↦ inl (omega arith)
      | put_datum-then-i-below-via-else-i-below+then-i-self w ↦ inr (omega arith)
    ]) m l

pub put_datum-returns-clause-written : goal.put_datum-returns-clause-written
put_datum-returns-clause-written t c =
    IfOk-weaker c.put_rest.result _ _ (λ _ f.
    pair_written _ _ c.args.below c.in-Pair.i c.args.value _ _ _ _ c.in_ok-put_datum.ensures.kept c.in-Pair.is c.in_ok-push.ensures.items c.in_ok-put_datum.ensures.written f) c.put_rest.ensures.written

pub put_rest-returns-then-i-below-clause-written : goal.put_rest-returns-then-i-below-clause-written
put_rest-returns-then-i-below-clause-written t c d m l =
    let kept = ap (λ (x : Bor (List Cell)). x.now) c.elements.invariant.kept in
    let r = c.elements.invariant.rest d m l in
    pair_past c.args.self.now.cells.now c.elements.below c.in-Pair.i c.elements.value r.left c.in-Pair.is (elim c.then-i-below.branch [
      | put_rest-then-i-below-via-then-i-below w ↦ inl (omega arith)
      | put_rest-then-i-below-via-else-i-below+then-i-self w ↦ inr (rw (← kept) (omega arith))
    ]) r.means r.within

pub put_rest-elements-preserved : goal.put_rest-elements-preserved
put_rest-elements-preserved t c = record {
  kept = c.in_ok-put_datum.ensures.kept ∙ c.elements.invariant.kept;
  below = omega arith;
  rest = λ d m l. resting_more _ _ c.args.below c.args.value _ c.elements.below c.in-Pair.i _ _ _ d c.elements.value c.elements.invariant.kept c.in-Pair.is c.in_ok-push.ensures.items c.in_ok-put_datum.ensures.written (c.elements.invariant.rest d m l);
}

pub put_rest-returns-in-Empty : goal.put_rest-returns-in-Empty
put_rest-returns-in-Empty t c = record {
  kept = c.elements.invariant.kept;
  written = λ d m l. ended_empty c.args.self.now.cells.now c.args.below c.elements.below c.args.value c.elements.value _ _ _ d c.in-Empty.is c.in_ok-push-2.ensures.items (c.elements.invariant.rest d m l);
}

pub put_rest-returns : goal.put_rest-returns
put_rest-returns t c = record {
  kept = c.in_ok-put_datum-2.ensures.kept ∙ c.elements.invariant.kept;
  written = λ d m l.
      ended_atom _ _ c.args.below c.elements.below c.args.value c.elements.value _ _ _ _ _ d c.elements.invariant.kept c.in_default.not-Pair c.in_default-value.not-Empty c.in_ok-extend_from_slice.ensures.items c.in_ok-put_datum-2.ensures.written c.in_ok-push-3.ensures.items (c.elements.invariant.rest d m l);
}
