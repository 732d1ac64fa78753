use Rattle.std.proofs.Common.{rules}
use Rattle.nt_listeners.proofs.Retained.{told-retained}
use Rattle.nt_listeners.proofs.listeners.ListenersOf.tell.Goals as goal

pub returns-clause-told : goal.returns-clause-told
returns-clause-told g c =
    rw (← c.self.view_is)
    (told-retained g.L.Listener.heard g.L.Listener.refusals g.L.Listener.may_answer c.args.change.now _ _
    (λ x b f y called. search rules) c.self.inside.rows.items c.retain_mut.new.self.items c.retain_mut.ensures.filtered)
