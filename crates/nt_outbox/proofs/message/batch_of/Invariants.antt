use Rattle.std.proofs.Common.{◌≡◌, ◌++◌, drop, map, filter, not}
use Rattle.nt_rules.specs.outbox.Keys.{is_value}
use Rattle.nt_rules.specs.outbox.Messages.{Living, text_of, value_of}
use Rattle.nt_outbox.proofs.message.batch_of.Given as goal

-- the messages so far, and those of the keys that follow
abbrev pub invariant-loop-key : goal.invariant-loop-key
invariant-loop-key l =
    let living : Living = record { topics = l.table.topics; metas = l.metas } in
    (l.texts ++ map (text_of living l.marks) (filter (λ k. not (is_value k)) (drop l.key-index l.keys))
    ≡ map (text_of living l.marks) (filter (λ k. not (is_value k)) l.keys))
    × (l.values ++ map (value_of living l.now l.marks) (filter is_value (drop l.key-index l.keys))
    ≡ map (value_of living l.now l.marks) (filter is_value l.keys))
