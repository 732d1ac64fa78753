use Rattle.std.proofs.Common.{List, Err, subst}
use Rattle.std.specs.Io.KnownBytes.{Appends}
use Rattle.std.proofs.lemmas.Result.{err_from_is_err_and, on_ok_weaker}
use Rattle.nt_link.specs.declared.frame.Frame.{Frame}
use Rattle.nt_rules.specs.declared.act.Entry.{Entry}
use Rattle.nt_cli.specs.Desk.{lines_of}
use Rattle.nt_cli.specs.DeskRun.{IsConnected}
use Rattle.nt_tools.specs.Printing.{Prints}
use Rattle.nt_cli.proofs.DeskSteps.{text-prints, text-stopped, after_turn-is}
use Rattle.nt_cli.proofs.turn.answer_line.Goals as goal

pub returns-in_err-print_frames-clause-prints : goal.returns-in_err-print_frames-clause-prints
returns-in_err-print_frames-clause-prints g c =
    let p = err_from_is_err_and c.from_residual-in_err-print_frames.result c.from_residual-in_err-print_frames.ensures.1
    in
    rw (p.1, p.2) (λ decode is_decoding past connected.
    text-stopped decode past c.args.number c.args.line.now c.in_ok-msgs.msgs.items c.in_ok-answers.answers.items _ _
    c.in_err-print_frames.field-0.0 (c.in_ok-msgs.ensures.messages decode is_decoding)
    c.in_ok-answers.ensures.answers
    (subst (λ (fs : List Frame). Prints (lines_of fs) (g.O.Sink.taken c.args.out.now)
    (g.O.Sink.taken c.print_frames.new.out) (Err c.in_err-print_frames.field-0.0)) c.deref.ensures.value
    c.in_err-print_frames.ensures.prints))

pub returns-clause-prints : goal.returns-clause-prints
returns-clause-prints g c = λ decode is_decoding past connected.
    text-prints decode past c.args.number c.args.line.now c.in_ok-msgs.msgs.items c.in_ok-answers.answers.items _ _ _
    c.drain_all.result (c.in_ok-msgs.ensures.messages decode is_decoding) c.in_ok-answers.ensures.answers
    (subst (λ (fs : List Frame). Appends (g.O.Sink.taken c.args.out.now) (g.O.Sink.taken c.print_frames.new.out)
    (lines_of fs)) c.deref.ensures.value c.in_ok-print_frames.ensures.prints)
    (c.drain_all.ensures.prints _ (c.in_ok-answers.ensures.connected past connected))

pub returns-clause-connected : goal.returns-clause-connected
returns-clause-connected g c = λ decode is_decoding.
    on_ok_weaker c.drain_all.result
    (λ connected_after. λ past connected.
    subst (λ (p : List Entry). IsConnected c.drain_all.new.server p)
    (after_turn-is decode past c.args.number c.args.line.now c.in_ok-msgs.msgs.items
    (c.in_ok-msgs.ensures.messages decode is_decoding)) (connected_after _
    (c.in_ok-answers.ensures.connected past connected)))
    c.drain_all.ensures.connected
