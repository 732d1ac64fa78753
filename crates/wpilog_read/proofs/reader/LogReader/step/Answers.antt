use Rattle.std.proofs.Common.{arith}
use Rattle.wpilog_read.proofs.Stopped.{item-next, stops-header, stops-record, Answers, answers-steps, answers-stay, none-given}
use Rattle.wpilog_read.proofs.reader.LogReader.step.Goals as goal

pub returns-in-Ok-read-clause-item : goal.returns-in-Ok-read-clause-item
returns-in-Ok-read-clause-item c = item-next c.args.self.now c.open.new.self c.read.new.self c.in-Ok-read.item
    c.in-Ok.ensures.ok c.in-Ok-read.ensures.ok

pub returns-in-Err-read : goal.returns-in-Err-read
returns-in-Err-read c =
    let answers : Answers c.read.new.self c.fail.new.self c.in-Err-read.error c.fail.result = record {
      memory = c.fail.ensures.memory;
      wanting = c.fail.ensures.wanting;
      known = c.fail.ensures.known;
    } in
    let steps = answers-steps c.args.self.now c.read.new.self c.fail.new.self c.in-Err-read.error c.fail.result
    (stops-record c.args.self.now c.open.new.self c.read.new.self c.in-Err-read.error c.in-Ok.ensures.ok
    c.in-Err-read.ensures.err.0 c.in-Err-read.ensures.err.1) answers in
    let stays = answers-stay c.read.new.self c.fail.new.self c.in-Err-read.error c.fail.result answers in
    record {
      item = steps.item;
      none = steps.none;
      fault = steps.fault;
      forward = omega (arith, stays.at, c.read.ensures.forward, c.open.ensures.forward);
      end = omega (arith, stays.at, stays.len, c.read.ensures.end, c.open.ensures.end);
      shorter = none-given c.fail.result _ stays.none;
    }

pub returns-in-Err : goal.returns-in-Err
returns-in-Err c =
    let answers : Answers c.open.new.self c.fail-in-Err.new.self c.in-Err.error c.fail-in-Err.result = record {
      memory = c.fail-in-Err.ensures.memory;
      wanting = c.fail-in-Err.ensures.wanting;
      known = c.fail-in-Err.ensures.known;
    } in
    let steps = answers-steps c.args.self.now c.open.new.self c.fail-in-Err.new.self c.in-Err.error
    c.fail-in-Err.result (stops-header c.args.self.now c.open.new.self c.in-Err.error c.in-Err.ensures.err.0
    c.in-Err.ensures.err.1) answers in
    let stays = answers-stay c.open.new.self c.fail-in-Err.new.self c.in-Err.error c.fail-in-Err.result answers in
    record {
      item = steps.item;
      none = steps.none;
      fault = steps.fault;
      forward = omega (arith, stays.at, c.open.ensures.forward);
      end = omega (arith, stays.at, stays.len, c.open.ensures.end);
      shorter = none-given c.fail-in-Err.result _ stays.none;
    }
