use Rattle.std.proofs.Common.{◌≡◌, drop}
use Rattle.nt_rules.specs.meta.Elements.{subscribers_of}
use Rattle.nt_meta.specs.Packing.{none_packed, with_elements}
use Rattle.nt_meta.proofs.bytes.subscribers.Given as goal

-- with the subscriptions of the connections that are left it is what it is with all
abbrev pub invariant-loop-conn : goal.invariant-loop-conn
invariant-loop-conn l =
    with_elements l.packed (subscribers_of (drop l.conn-index l.conns) l.topic)
    ≡ with_elements none_packed (subscribers_of l.conns l.topic)
