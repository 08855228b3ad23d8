use Rattle.artefact.specs.Cuts.{none_1, none_2, none_3, none_4, all_five, joined_five}
use Rattle.artefact.proofs.fields.split_fields.Goals as goal

pub returns-in_err-first : goal.returns-in_err-first
returns-in_err-first c =
    rw c.from_residual.ensures (record {
      made = tt;
      found = λ x y z u v lx ly lz lu is. none_1 c.args.line.now x y z u v lx ly lz lu is c.in_err-first.ensures.cases;
    })

pub returns-in_err-second : goal.returns-in_err-second
returns-in_err-second c =
    rw c.from_residual-in_err-second.ensures (record {
      made = tt;
      found = λ x y z u v lx ly lz lu is. none_2 c.args.line.now x y z u v lx ly lz lu is c.in_ok-first.first c.in_ok-first.rest c.in_ok-first.ensures.cases c.in_err-second.ensures.cases;
    })

pub returns-in_err-third : goal.returns-in_err-third
returns-in_err-third c =
    rw c.from_residual-in_err-third.ensures (record {
      made = tt;
      found = λ x y z u v lx ly lz lu is. none_3 c.args.line.now x y z u v lx ly lz lu is c.in_ok-first.first c.in_ok-first.rest c.in_ok-first.ensures.cases c.in_ok-second.second c.in_ok-second.rest c.in_ok-second.ensures.cases c.in_err-third.ensures.cases;
    })

pub returns-in_err-fourth : goal.returns-in_err-fourth
returns-in_err-fourth c =
    rw c.from_residual-in_err-fourth.ensures (record {
      made = tt;
      found = λ x y z u v lx ly lz lu is. none_4 c.args.line.now x y z u v lx ly lz lu is c.in_ok-first.first c.in_ok-first.rest c.in_ok-first.ensures.cases c.in_ok-second.second c.in_ok-second.rest c.in_ok-second.ensures.cases c.in_ok-third.third c.in_ok-third.rest c.in_ok-third.ensures.cases c.in_err-fourth.ensures.cases;
    })

pub returns : goal.returns
returns c = record {
  made = joined_five c.args.line.now c.in_ok-first.first c.in_ok-first.rest c.in_ok-second.second c.in_ok-second.rest c.in_ok-third.third c.in_ok-third.rest c.in_ok-fourth.fourth c.in_ok-fourth.fifth c.in_ok-first.ensures.cases c.in_ok-second.ensures.cases c.in_ok-third.ensures.cases c.in_ok-fourth.ensures.cases;
  found = λ x y z u v lx ly lz lu is. all_five c.args.line.now x y z u v lx ly lz lu is c.in_ok-first.first c.in_ok-first.rest c.in_ok-first.ensures.cases c.in_ok-second.second c.in_ok-second.rest c.in_ok-second.ensures.cases c.in_ok-third.third c.in_ok-third.rest c.in_ok-third.ensures.cases c.in_ok-fourth.fourth c.in_ok-fourth.fifth c.in_ok-fourth.ensures.cases;
}
