use Rattle.std.proofs.Common.{◌≡◌, ◌++◌, map, drop}
use Rattle.nt_rules.specs.meta.Meta.{topic_sub}
use Rattle.nt_meta.proofs.meta.add_topic_subs.Given as goal

-- those that were added and those that follow are all
abbrev pub invariant-loop-life : goal.invariant-loop-life
invariant-loop-life l =
    l.all ++ map (topic_sub l.roster) (drop l.life-index l.roster.topics) ≡ l.fn.all
    ++ map (topic_sub l.roster) l.roster.topics
