use Rattle.std.proofs.Common.{rules}
use Rattle.std.proofs.lemmas.List.Sorted.{answers_always}
use Rattle.nt_rules.proofs.Calls.{on-ok}
use Rattle.nt_rules.specs.outbox.Keys.{Key}
use Rattle.nt_outbox.proofs.Order.{sorted-is}
use Rattle.nt_outbox.proofs.queue.in_order.Goals as goal

pub returns : goal.returns
returns c =
    on-ok c.sort_by_key.result
    (λ sorted. sorted-is c.args.keys.now.items c.sort_by_key.new.self.items
    (sorted (λ (k : Key). (k.place, k.topic)) (answers_always _ _ _ (λ f a r g h. search rules)))
    (c.sort_by_key.ensures.stable (λ (k : Key). (k.place, k.topic)) (answers_always _ _ _
    (λ f a r g h. search rules))))
    c.sort_by_key.ensures.sorted
