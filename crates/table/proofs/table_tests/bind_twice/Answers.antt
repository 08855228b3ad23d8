use Rattle.std.proofs.Common.{cond, Some, None, refl, ap, ◌∙◌}
use Rattle.std.proofs.lemmas.Bool.{and_from, and_right}
use Rattle.word.specs.Words.{spelling}
use Rattle.table.specs.declared.table_tests.Binding.TheVariants.{Procedure, Macro}
use Rattle.table.specs.Keys.{same_bound}
use Rattle.table.specs.Maps.{mapping}
use Rattle.word.specs.Equality.{spelling_equivalence}
use Rattle.table.proofs.table_tests.bind_twice.Goals as goal

pub returns : goal.returns
returns c =
    c.get.ensures
    ∙ c.in_ok-set-2.ensures.cases.maps (record { word = c.args.word; level = 0 })
    ∙ ap (λ b. cond b (Some Macro) (mapping same_bound c.set.new.self (record { word = c.args.word; level = 0 }))) (and_right _ _ refl)
    ∙ c.in_ok-set.ensures.cases.maps (record { word = c.args.word; level = 0 })
    ∙ ap (λ b. cond b (Some Procedure) (mapping same_bound c.new-table.result (record { word = c.args.word; level = 0 }))) (and_from _ _ (spelling_equivalence.refl c.args.word) refl)
