use Rattle.std.proofs.Common.{◌≡◌, map, filter, drop, bytes_eq}
use Rattle.nt_rules.specs.meta.Elements.{topic_publisher}
use Rattle.nt_meta.specs.Packing.{with_elements}
use Rattle.nt_meta.proofs.bytes.with_publishers.Given as goal

-- with the publishers that are left it is what it is with all
abbrev pub invariant-loop-row : goal.invariant-loop-row
invariant-loop-row l =
    with_elements l.packed (map (topic_publisher l.conn.name)
    (filter (λ row. bytes_eq row.topic l.topic) (drop l.row-index l.conn.pubs)))
    ≡ with_elements l.fn.packed (map (topic_publisher l.conn.name)
    (filter (λ row. bytes_eq row.topic l.topic) l.conn.pubs))
