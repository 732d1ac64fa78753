use Rattle.std.proofs.Common.{ℕ, List, sym, ◌∙◌, subst}
use Rattle.std.specs.Io.KnownBytes.{Appends}
use Rattle.std.proofs.KnownBytes.{Appends-nil}
use Rattle.std.proofs.lemmas.Result.{err_from_is_err_and}
use Rattle.nt_cli.specs.Desk.{start}
use Rattle.nt_tools.specs.Printing.{Prints}
use Rattle.nt_tools.proofs.Printing.{on_ok-always, prefix-none}
use Rattle.nt_cli.proofs.DeskSteps.{drain-lines, drain-other, connected-drain}
use Rattle.nt_cli.proofs.turn.drain.Goals as goal

pub returns-in_err-frames-in-Drained-clause-prints : goal.returns-in_err-frames-in-Drained-clause-prints
returns-in_err-frames-in-Drained-clause-prints g c =
    let p = err_from_is_err_and c.from_residual-in_err-frames-in-Drained.result
    c.from_residual-in_err-frames-in-Drained.ensures.1 in
    rw (p.1, p.2) (λ past connected. prefix-none _ _)

pub returns-in-Drained-clause-prints : goal.returns-in-Drained-clause-prints
returns-in-Drained-clause-prints g c = λ past connected.
    let step = c.in_ok-stepped.ensures.steps start past connected.represents in
    subst (λ (l : List ℕ). Prints l (g.O.Sink.taken c.args.out.now) (g.O.Sink.taken c.print_frames.new.out)
    c.print_frames.result)
    (drain-lines past _ _ _ _ _ _ _ connected step c.in-Drained.is
    (c.deref.ensures.value ∙ c.in_ok-frames-in-Drained.ensures))
    c.print_frames.ensures.prints

pub returns-in-Drained-clause-connected : goal.returns-in-Drained-clause-connected
returns-in-Drained-clause-connected g c =
    on_ok-always c.print_frames.result (λ past connected. connected-drain past _ _ _ _ _ connected
    (c.in_ok-stepped.ensures.steps start past connected.represents))

pub returns-clause-prints : goal.returns-clause-prints
returns-clause-prints g c = λ past connected.
    subst (Appends (g.O.Sink.taken c.args.out.now) (g.O.Sink.taken c.args.out.now))
    (sym (drain-other past _ _ _ _ _ connected (c.in_ok-stepped.ensures.steps start past connected.represents)
    c.in_default.not-Drained)) (Appends-nil (g.O.Sink.taken c.args.out.now))

pub returns-clause-connected : goal.returns-clause-connected
returns-clause-connected g c = λ past connected. connected-drain past _ _ _ _ _ connected
    (c.in_ok-stepped.ensures.steps start past connected.represents)
