use Rattle.std.proofs.Common.{inl}
use Rattle.nt_serve.proofs.Moving.{moves-failed}
use Rattle.nt_serve.proofs.Handing.{moves-all, moves-drain, drain-done, cut-unlaid, cut-unsent, cut-undrained}
use Rattle.nt_serve.proofs.rounds.drain.Goals as goal

pub returns-in_err-frames-in-Ok-clause-cut : goal.returns-in_err-frames-in-Ok-clause-cut
returns-in_err-frames-in-Ok-clause-cut g c = λ ignored.
    cut-unlaid c.from_residual.result _ _ c.args.conn c.now-now.result c.in-Ok.out c.from_residual.ensures.1
    (moves-drain _ _ _ _ _ ignored c.args.conn c.now-now.result c.in-Ok.out c.in-Ok.ensures.acted)

pub returns-in_err-send_all-in-Ok-clause-cut : goal.returns-in_err-send_all-in-Ok-clause-cut
returns-in_err-send_all-in-Ok-clause-cut g c = λ ignored.
    cut-unsent c.from_residual-in_err-send_all-in-Ok.result c.in_err-send_all-in-Ok.field-0.0 g.L.Link.coming
    g.L.Link.received g.L.Link.sent _ c.args.link.now c.send_all.new.link c.act.new.seat ignored c.args.conn
    c.now-now.result c.in-Ok.out c.in_ok-frames-in-Ok.frames.items c.in_ok-frames-in-Ok.ensures
    c.from_residual-in_err-send_all-in-Ok.ensures.1
    (moves-drain _ _ _ _ _ ignored c.args.conn c.now-now.result c.in-Ok.out c.in-Ok.ensures.acted)
    c.in_err-send_all-in-Ok.ensures.some

pub returns-in_ok-send_all-in-Ok-clause-drained : goal.returns-in_ok-send_all-in-Ok-clause-drained
returns-in_ok-send_all-in-Ok-clause-drained g c = λ ignored.
    drain-done _ _ _ c.args.conn c.now-now.result c.in-Ok.out c.in_ok-frames-in-Ok.frames.items
    c.in_ok-frames-in-Ok.ensures
    (moves-drain _ _ _ _ _ ignored c.args.conn c.now-now.result c.in-Ok.out c.in-Ok.ensures.acted)
    (moves-all g.L.Link.coming g.L.Link.received g.L.Link.sent _ c.args.link.now c.send_all.new.link c.act.new.seat
    ignored c.in_ok-send_all-in-Ok.ensures.sent)

pub returns-in-Err-clause-cut : goal.returns-in-Err-clause-cut
returns-in-Err-clause-cut g c = λ ignored.
    cut-undrained _ _ c.args.conn (moves-failed _ _ _ _ _ ignored (inl c.in-Err.ensures.refused))
