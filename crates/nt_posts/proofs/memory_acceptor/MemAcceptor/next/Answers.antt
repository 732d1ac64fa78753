use Rattle.std.proofs.Common.{◌+◌, sym, ◌∙◌, take}
use Rattle.std.specs.Vec.Iter.{into_iter_items}
use Rattle.nt_posts.proofs.Arriving.{drop-next, take-next, gives-from}
use Rattle.nt_posts.proofs.memory_acceptor.MemAcceptor.next.Goals as goal

pub invariant_of-self-2 : goal.invariant_of-self-2
invariant_of-self-2 g c =
    sym (drop-next c.self.inside.at c.self.inside.all.value.items (into_iter_items c.next.new.self)
    c.in_ok-caller.caller (sym c.self.invariant ∙ c.in_ok-caller.ensures.items))

pub returns : goal.returns
returns g c =
    gives-from c.args.self.now _ (into_iter_items c.next.new.self)
    (take (c.self.inside.at + 1) c.self.inside.all.value.items) c.saturating_add-self-inside.result
    c.in_ok-caller.caller c.self.view_is c.in_ok-caller.ensures.items
    (take-next c.self.inside.at c.self.inside.all.value.items (into_iter_items c.next.new.self)
    c.in_ok-caller.caller (sym c.self.invariant ∙ c.in_ok-caller.ensures.items)) c.saturating_add-self-inside.ensures
