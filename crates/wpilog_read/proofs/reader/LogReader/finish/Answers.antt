use Rattle.std.proofs.Common.{None, Some}
use Rattle.wpilog_read.proofs.Runs.{one-reading}
use Rattle.wpilog_read.proofs.Grammar.{reading-means, means-reading}
use Rattle.wpilog_read.proofs.reader.LogReader.finish.Goals as goal

pub returns-in-None-clause-meaning : goal.returns-in-None-clause-meaning
returns-in-None-clause-meaning c = λ bytes items stands. reading-means bytes c.args.self.now.extra items None
    (c.in-None.ensures.reading bytes items stands)

pub returns-in-None-clause-only : goal.returns-in-None-clause-only
returns-in-None-clause-only c = λ bytes extra items others fault stands means.
    one-reading bytes extra c.args.self.now.extra others items fault None (means-reading bytes extra others fault means)
    (c.in-None.ensures.reading bytes items stands)

pub returns-in-Some-clause-meaning : goal.returns-in-Some-clause-meaning
returns-in-Some-clause-meaning c = λ bytes items stands. reading-means bytes c.args.self.now.extra items (Some c.in-Some.fault)
    (c.in-Some.ensures.reading bytes items stands)

pub returns-in-Some-clause-only : goal.returns-in-Some-clause-only
returns-in-Some-clause-only c = λ bytes extra items others fault stands means.
    one-reading bytes extra c.args.self.now.extra others items fault (Some c.in-Some.fault)
    (means-reading bytes extra others fault means)
    (c.in-Some.ensures.reading bytes items stands)
