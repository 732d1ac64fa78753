use Rattle.std.proofs.Common.{rules}
use Rattle.wpilog_read.proofs.Runs.{Stands-fed}
use Rattle.wpilog_read.proofs.reader.LogReader.feed.Goals as goal

pub returns-clause-stands :
    goal.returns-clause-stands
returns-clause-stands c = λ bytes items stands.
    Stands-fed bytes c.args.piece.now items c.args.self.now _ (search rules) stands

pub returns-then-is_some-clause-stands : goal.returns-then-is_some-clause-stands
returns-then-is_some-clause-stands c = λ bytes items stands. Stands-fed bytes c.args.piece.now items c.args.self.now
    c.args.self.now (search rules) stands
