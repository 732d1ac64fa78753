use Rattle.std.proofs.Common.{◌≡◌, ◌+◌, ◌≤◌, drop, length, filter, not}
use Rattle.nt_rules.specs.topics.Topics.{is_of}
use Rattle.nt_table.proofs.lookup.others_in.Given as goal

-- those counted and those that follow are all
abbrev pub invariant-loop-publisher : goal.invariant-loop-publisher
invariant-loop-publisher l =
    (l.count ≤ l.publisher-index)
    × (l.count + length (filter (λ p. not (is_of l.conn p)) (drop l.publisher-index l.publishers))
    ≡ length (filter (λ p. not (is_of l.conn p)) l.publishers))
