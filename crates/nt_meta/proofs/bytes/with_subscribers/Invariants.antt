use Rattle.std.proofs.Common.{◌≡◌, map, filter, drop}
use Rattle.nt_subs.specs.Wishes.{is_matched}
use Rattle.nt_rules.specs.meta.Elements.{topic_subscriber}
use Rattle.nt_meta.specs.Packing.{with_elements}
use Rattle.nt_meta.proofs.bytes.with_subscribers.Given as goal

-- with the subscriptions that are left it is what it is with all
abbrev pub invariant-loop-row : goal.invariant-loop-row
invariant-loop-row l =
    with_elements l.packed (map (topic_subscriber l.conn.name)
    (filter (λ row. is_matched row.sub l.topic) (drop l.row-index l.conn.subs)))
    ≡ with_elements l.fn.packed (map (topic_subscriber l.conn.name)
    (filter (λ row. is_matched row.sub l.topic) l.conn.subs))
