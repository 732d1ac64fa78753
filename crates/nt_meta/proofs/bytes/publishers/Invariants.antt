use Rattle.std.proofs.Common.{◌≡◌, drop}
use Rattle.nt_rules.specs.meta.Elements.{publishers_of}
use Rattle.nt_meta.specs.Packing.{none_packed, with_elements}
use Rattle.nt_meta.proofs.bytes.publishers.Given as goal

-- with the publishers of the connections that are left it is what it is with all
abbrev pub invariant-loop-conn : goal.invariant-loop-conn
invariant-loop-conn l =
    with_elements l.packed (publishers_of (drop l.conn-index l.conns) l.topic)
    ≡ with_elements none_packed (publishers_of l.conns l.topic)
