use Rattle.std.proofs.Common.{sym, refl, ◌∙◌}
use Rattle.std.proofs.lemmas.List.{nil_from_length}
use Rattle.text.proofs.Trees.{settles_first, quote_closed, datum_joined, form_added}
use Rattle.text.proofs.Means.{grows_not}
use Rattle.text.proofs.tree.Tree.add.Goals as goal

pub around-init : goal.around-init
around-init c = settles_first c.args.self.now c.args.datum

pub around-preserved : goal.around-preserved
around-preserved c =
    let q = c.in_ok-datum-in-Quote.ensures in
    quote_closed c.args.self.now c.around.self _ c.args.datum c.around.datum _ (record { home = refl; grown = q.grown; forms = refl }) refl (rw c.in-Quote.is at c.in-Some.ensures.items) refl q c.around.invariant

pub returns-in-List : goal.returns-in-List
returns-in-List c d s p b =
    datum_joined c.args.self.now c.around.self _ c.args.datum c.around.datum _ _ (record { home = refl; grown = grows_not _; forms = refl }) refl (rw c.in-List.is at c.in-Some.ensures.items) (rw c.in-List.is at c.in_ok-push-in-List.ensures.items) c.in_ok-push-in-List-2.ensures.items c.around.invariant p d b s

pub returns : goal.returns
returns c d s p b =
    let none = c.in_default.ensures.cases in
    form_added c.args.self.now c.around.self _ c.args.datum c.around.datum (nil_from_length _ (sym c.around.self.opened.ok.0 ∙ none.0)) refl refl refl (nil_from_length _ (sym c.pop.new.self.ok.0 ∙ none.1)) refl c.in_ok-push.ensures.items c.around.invariant p d b s
