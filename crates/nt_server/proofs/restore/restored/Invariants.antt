use Rattle.nt_server.proofs.Restoring.{IsRestoring}
use Rattle.nt_server.proofs.restore.restored.Given as goal

abbrev pub invariant-loop-one : goal.invariant-loop-one
invariant-loop-one l = IsRestoring l.table.topics l.table.next l.one-iterator.rest.items l.fn.saved.items
