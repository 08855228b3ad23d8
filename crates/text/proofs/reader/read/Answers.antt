use Rattle.std.proofs.lemmas.Result.{err_from_is_err_and}
use Rattle.std.proofs.Common.{arith}
use Rattle.text.specs.Tree.{Finished}
use Rattle.word.specs.Words.{home_of}
use Rattle.rules.specs.Reading.{read}
use Rattle.text.proofs.Readers.{at_home, reading_more, reading_refused, reading_all, read_at_home}
use Rattle.text.proofs.reader.read.Goals as goal

pub loop-at-preserved : goal.loop-at-preserved
loop-at-preserved c =
    reading_more c.loop-at.reader c.step.new.self _ _ c.loop-at.at c.loop-at-test.true c.loop-at.invariant (c.in_ok-step.ensures c.loop-at.invariant.progress c.loop-at.invariant.built)

pub returns-in_err-step : goal.returns-in_err-step
returns-in_err-step c =
    let r = err_from_is_err_and c.from_residual.result c.from_residual.ensures.1 in
    let refused : Finished (read (home_of c.new.result.home) c.args.bytes.now) c.new.result.home.«module» c.from_residual.result =
    rw (r.1, r.2) (reading_refused c.loop-at.reader _ _ c.loop-at.at _ c.loop-at-test.true c.loop-at.invariant (c.in_err-step.ensures c.loop-at.invariant.progress c.loop-at.invariant.built)) in
    let whole = read_at_home c.new.result.home c.args.of c.args.bytes.now _ (at_home c.new.result.home c.of_text.result c.args.of c.new.ensures.at_home c.of_text.ensures.home c.of_text.ensures.instance) refused in
    record { as_ruled = whole.0; within = whole.1 }

pub returns : goal.returns
returns c =
    let all = reading_all c.loop-at.reader _ _ c.loop-at.at c.finish.result (omega arith) c.loop-at.invariant (c.finish.ensures c.loop-at.invariant.progress c.loop-at.invariant.built) in
    let whole = read_at_home c.new.result.home c.args.of c.args.bytes.now _ (at_home c.new.result.home c.of_text.result c.args.of c.new.ensures.at_home c.of_text.ensures.home c.of_text.ensures.instance) all in
    record { as_ruled = whole.0; within = whole.1 }
