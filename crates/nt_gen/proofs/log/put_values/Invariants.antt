use Rattle.std.proofs.Common.{◌≡◌, ◌+◌, ◌*◌, ◌≤◌, length}
use Rattle.nt_link.specs.Causes.{IsLater}
use Rattle.nt_tools.specs.Printing.{HasPrinted}
use Rattle.rand_pcg.specs.Pcg.{pcg32}
use Rattle.nt_gen.specs.Generated.{generator}
use Rattle.nt_gen.specs.Parts.{begun}
use Rattle.nt_gen.proofs.Words.{state_at}
use Rattle.nt_gen.proofs.log.put_values.Given as goal

abbrev pub invariant-loop-before : goal.invariant-loop-before
invariant-loop-before g l = record {
  drawn : l.draws ≡ state_at pcg32 l.before (generator l.seed);
  printed : HasPrinted (begun l.seed l.before) l.draft.bytes.items (g.S.Sink.taken l.fn.sink) (g.S.Sink.taken l.sink);
  len : l.draft.len ≡ length (begun l.seed l.before);
  short : l.draft.len ≤ 64 + 40 * l.before;
  later : IsLater g.S.Sink.faults g.S.Sink.aside l.fn.sink l.sink;
}
