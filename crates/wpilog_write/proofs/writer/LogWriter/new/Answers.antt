use Rattle.std.proofs.Common.{◌≡◌, ◌<◌, List, ℕ, length, take, subst, ◌∙◌}
use Rattle.std.specs.Io.KnownBytes.{Appends}
use Rattle.wpilog_write.specs.Written.{header_of}
use Rattle.wpilog_write.proofs.writer.LogWriter.new.Goals as goal

pub returns-in-Err-clause-cut : goal.returns-in-Err-clause-cut
returns-in-Err-clause-cut g c = λ is.
    let bytes : c.deref.result.now ≡ header_of c.args.extra.now = c.deref.ensures.value ∙ c.in-Ok.ensures in
    record {
      count = c.in-Err._stopped.written;
      short = subst (λ (w : List ℕ). c.in-Err._stopped.written < length w) bytes c.in-Err.ensures.written;
      taken = subst (λ (w : List ℕ). Appends (g.S.Sink.taken c.args.sink) (g.S.Sink.taken c.write_all.new.sink)
          (take c.in-Err._stopped.written w)) bytes c.in-Err.ensures.stopped;
    }
