use Rattle.std.proofs.Common.{◌∙◌, List, subst}
use Rattle.nt_rules.specs.declared.taken.Taken.{Taken}
use Rattle.nt_server.specs.TakenPlaces.{IsFoundAt, IsMissedAt}
use Rattle.nt_server.proofs.Searching.{rises_with}
use Rattle.nt_server.proofs.taken.TakenPlaces.take.Goals as goal

pub invariant_of-self : goal.invariant_of-self
invariant_of-self c =
    let found : IsFoundAt c.args.topic c.self.inside.list.items c.in-Ok.i =
    subst (λ (ts : List Taken). IsFoundAt c.args.topic ts c.in-Ok.i) c.deref.ensures.value c.in-Ok.ensures
    in
    rises_with c.args.topic c.args.place _ _ c.self.invariant (found.put c.args.place)

pub invariant_of-self-in-Continue-1 : goal.invariant_of-self-in-Continue-1
invariant_of-self-in-Continue-1 c =
    let missed : IsMissedAt c.args.topic c.self.inside.list.items c.in-Err.i =
    subst (λ (ts : List Taken). IsMissedAt c.args.topic ts c.in-Err.i) c.deref.ensures.value c.in-Err.ensures
    in
    rises_with c.args.topic c.args.place _ _ c.self.invariant
    (c.in_ok-insert-in-Err.ensures.items ∙ missed.put c.args.place)
