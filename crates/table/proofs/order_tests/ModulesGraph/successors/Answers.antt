use Rattle.word.specs.declared.Word.{Word}
use Rattle.table.proofs.Meetings.{under}
use Rattle.table.proofs.order_tests.ModulesGraph.successors.Goals as goal

pub returns-clause-opens : goal.returns-clause-opens
returns-clause-opens c = under Word _ _ _ _ _ _ c.if-met-self.false c.in_ok-required_by.ensures
