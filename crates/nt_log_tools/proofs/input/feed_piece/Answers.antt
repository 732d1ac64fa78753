use Rattle.std.proofs.Common.{rules, arith}
use Rattle.nt_log_tools.proofs.LogFeeds.{feeds-beyond}
use Rattle.nt_log_tools.proofs.input.feed_piece.Goals as goal

pub returns-then-count-room-clause-feeds : goal.returns-then-count-room-clause-feeds
returns-then-count-room-clause-feeds g c =
    feeds-beyond c.read.new.buf c.in-Ok.count c.args.room.now (g.R.Source.left c.args.source.now)
    (g.R.Source.left c.read.new.self) c.args.reader.now c.feed.new.self (omega (arith, c.if-count-room.true))
    (omega (arith, c.in-Ok.ensures.bound)) (search (rules, arith)) c.in-Ok.ensures.bytes.0 c.in_ok-feed.ensures.ok
    c.in_ok-feed.ensures.stands
