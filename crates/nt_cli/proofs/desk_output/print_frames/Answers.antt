use Rattle.std.proofs.Common.{◌++◌, rules}
use Rattle.std.proofs.KnownBytes.{Appends-trans}
use Rattle.std.proofs.lemmas.Result.{err_from_is_err_and}
use Rattle.nt_cli.specs.Desk.{frame_line}
use Rattle.nt_cli.proofs.FrameLines.{lines-more, lines-stopped}
use Rattle.nt_cli.proofs.desk_output.print_frames.Goals as goal

pub loop-frame-preserved : goal.loop-frame-preserved
loop-frame-preserved g c =
    let i = c.loop-frame.invariant.0 in (
      record {
        text = i.text ++ frame_line c.frame-item.result;
        whole = lines-more _ _ _ _ i.whole c.loop-frame-test.true c.frame-item.is;
        printed = Appends-trans _ _ _ i.text (frame_line c.frame-item.result) i.printed
            c.in_ok-print_frame.ensures.prints;
      },
      search rules,
    )

pub returns-in_err-print_frame-clause-prints : goal.returns-in_err-print_frame-clause-prints
returns-in_err-print_frame-clause-prints g c =
    let i = c.loop-frame.invariant.0 in
    let p = err_from_is_err_and c.from_residual.result c.from_residual.ensures.1 in
    rw (p.1, p.2) (lines-stopped _ _ i.text _ _ _ _ c.in_err-print_frame.field-0.0 i.whole c.loop-frame-test.true
    c.frame-item.is i.printed c.in_err-print_frame.ensures.prints)
