use Rattle.std.proofs.Common.{◌≡◌, ◌++◌, drop, map}
use Rattle.nt_rules.specs.outbox.Keys.{publish_key, setting_key}
use Rattle.nt_outbox.proofs.queue.add_replies.Given as goal

-- the keys so far, and those that follow
abbrev pub invariant-loop-publish : goal.invariant-loop-publish
invariant-loop-publish l =
    l.keys.items ++ map (λ x. publish_key l.mark.id x.place) (drop l.publish-index l.publish-items)
    ≡ l.fn.keys.items ++ map (λ x. publish_key l.mark.id x.place) l.mark.publishes

abbrev pub invariant-loop-setting : goal.invariant-loop-setting
invariant-loop-setting l =
    l.keys.items ++ map (λ x. setting_key l.mark.id x.place) (drop l.setting-index l.setting-items)
    ≡ (l.fn.keys.items ++ map (λ x. publish_key l.mark.id x.place) l.mark.publishes)
    ++ map (λ x. setting_key l.mark.id x.place) l.mark.settings
