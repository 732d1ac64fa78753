use Rattle.std.proofs.Common.{◌≡◌, Bool, [], Ok, ap, rules}
use Rattle.nt_tools.specs.LineReading.{Gathers}
use Rattle.nt_tools.proofs.LineReads.{reads-part, reads-on}
use Rattle.nt_tools.proofs.line.LineReader.read_line.Goals as goal

pub returns-then-not-branch-clause-reads : goal.returns-then-not-branch-clause-reads
returns-then-not-branch-clause-reads g c =
    let gathered : Gathers c.loop-self.self c.gather.new.self c.loop-self.line.items c.gather.new.line.items [] =
    rw c.if-branch.false at c.in_ok-gather.ensures.gathers in
    let none : c.gather.new.self.bytes ≡ [] = c.in_ok-gather.ensures.all (ap (λ (b : Bool). Ok b) c.if-branch.false) in
    reads-on _ _ _ _ _ _ _ (reads-part _ _ _ _ _ _ _ _ c.loop-self.invariant.0 gathered c.in_ok-gather.ensures.short)
    none c.in_ok-refill.ensures.taken c.in_ok-refill.ensures.room

pub loop-self-preserved : goal.loop-self-preserved
loop-self-preserved g c =
    let gathered : Gathers c.loop-self.self c.gather.new.self c.loop-self.line.items c.gather.new.line.items [] =
    rw c.if-branch.false at c.in_ok-gather.ensures.gathers in
    let none : c.gather.new.self.bytes ≡ [] =
    c.in_ok-gather.ensures.all (ap (λ (b : Bool). Ok b) c.if-branch.false) in (
      reads-on _ _ _ _ _ _ _ (reads-part _ _ _ _ _ _ _ _ c.loop-self.invariant.0 gathered c.in_ok-gather.ensures.short)
          none c.in_ok-refill.ensures.taken c.in_ok-refill.ensures.room,
      search rules,
    )
