use Rattle.std.proofs.Common.{◌≡◌, refl, subst, ◌∙◌}
use Rattle.std.specs.Option.{option_map}
use Rattle.table.specs.Entries.{look}
use Rattle.table.proofs.Places.{look_none, look_at}
use Rattle.table.proofs.key_table.KeyTable.get.Goals as goal

pub returns-in_err-at : goal.returns-in_err-at
returns-in_err-at g c = c.from_residual.ensures ∙ look_none g.K.PartialEq.eq c.args.key.now c.args.self.now.entries.now c.in_err-at.ensures.value

pub returns : goal.returns
returns g c =
    let es = c.args.self.now.entries.now in
    subst (λ o. option_map (λ e. e.value) o ≡ look g.K.PartialEq.eq es c.args.key.now) c.in_ok-self.was (look_at g.K.PartialEq.eq c.args.key.now es c.in_ok-at.at c.index-self-at.result _ c.in_ok-at.ensures.value refl)

pub returns-in_err-self : goal.returns-in_err-self
returns-in_err-self g c =
    let es = c.args.self.now.entries.now in
    c.from_residual-in_err-self.ensures ∙ subst (λ o. option_map (λ e. e.value) o ≡ look g.K.PartialEq.eq es c.args.key.now) c.in_err-self.was (look_at g.K.PartialEq.eq c.args.key.now es c.in_ok-at.at c.index-self-at.result _ c.in_ok-at.ensures.value refl)
