use Rattle.std.proofs.Common.{refl}
use Rattle.nt_server.proofs.Numbers.{numbered_push}
use Rattle.nt_server.proofs.connections.OpenConnections.open.Goals as goal

pub invariant_of-self-2 : goal.invariant_of-self-2
invariant_of-self-2 c = rw c.in_ok-push.ensures.items (numbered_push _ _ _ refl c.self.invariant)
