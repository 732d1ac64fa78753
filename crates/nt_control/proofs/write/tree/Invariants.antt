use Rattle.nt_control.proofs.Arrays.{Written}
use Rattle.nt_control.proofs.write.tree.Given as goal

abbrev pub invariant-loop-msg : goal.invariant-loop-msg
invariant-loop-msg g l = Written g.M.Message.written g.M.Message.read l.msgs l.elements.items l.msg-index
