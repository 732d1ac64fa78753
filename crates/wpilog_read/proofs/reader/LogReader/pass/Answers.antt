use Rattle.std.proofs.Common.{rules}
use Rattle.wpilog_read.proofs.Offsets.{passed-is}
use Rattle.wpilog_read.proofs.reader.LogReader.pass.Goals as goal

pub returns : goal.returns
returns c = rw (← c.self.view_is) (passed-is c.self.inside.bytes.items c.self.inside.extra
    c.self.inside.live.entries c.self.inside.fault c.self.inside.taken c.self.inside.at c.args.left c.len.result
    (search rules) (search rules) (search rules))
