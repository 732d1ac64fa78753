use Rattle.std.proofs.Common.{◌≡◌, ◌-◌, List}
use Rattle.std.specs.List.{AllZip}
use Rattle.nt_msgpack.specs.Atoms.{AtomValue}
use Rattle.nt_frames.specs.Reading.{elements_at}
use Rattle.nt_frames.proofs.Steps.{after_atoms}
use Rattle.nt_frames.proofs.read.elements_of.Given as goal

-- these atoms stand for the elements so far, and reading goes on after them
abbrev pub invariant-loop-i : goal.invariant-loop-i
invariant-loop-i g l = record {
  done : List AtomValue;
  stand : AllZip g.T.Element.stands l.list done;
  goes_on : elements_at g.T.Element.number l.count l.bytes
      ≡ after_atoms done (elements_at g.T.Element.number (l.count - l.i) l.rest);
}
