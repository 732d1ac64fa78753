use Rattle.std.proofs.Common.{◌≡◌, None}
use Rattle.wpilog_read.proofs.Runs.{Steps-stands, Steps-ended}
use Rattle.wpilog_read.proofs.Left.{Steps-left}
use Rattle.wpilog_read.proofs.reader.LogReader.next.Goals as goal

pub returns-in-None-clause-stands : goal.returns-in-None-clause-stands
returns-in-None-clause-stands c =
    let none : c.args.self.now.fault ≡ None = rw (← c.self.view_is) c.in-None.is in
    Steps-stands c.args.self.now c.step.new.self c.step.result none (record {
      item = c.step.ensures.item;
      none = c.step.ensures.none;
      fault = c.step.ensures.fault;
    })

pub returns-in-None-clause-ended : goal.returns-in-None-clause-ended
returns-in-None-clause-ended c =
    let none : c.args.self.now.fault ≡ None = rw (← c.self.view_is) c.in-None.is in
    Steps-ended c.args.self.now c.step.new.self c.step.result none (record {
      item = c.step.ensures.item;
      none = c.step.ensures.none;
      fault = c.step.ensures.fault;
    })

pub returns-in-None-clause-kept : goal.returns-in-None-clause-kept
returns-in-None-clause-kept c = Steps-left c.args.self.now c.step.new.self c.step.result (record {
  item = c.step.ensures.item;
  none = c.step.ensures.none;
  fault = c.step.ensures.fault;
})
