use Rattle.std.proofs.Common.{◌∙◌, List, subst}
use Rattle.nt_rules.specs.declared.taken.Taken.{Taken}
use Rattle.nt_server.specs.TakenPlaces.{IsFoundAt}
use Rattle.nt_server.proofs.Searching.{rises_without}
use Rattle.nt_server.proofs.taken.TakenPlaces.forget.Goals as goal

pub invariant_of-self : goal.invariant_of-self
invariant_of-self c =
    let found : IsFoundAt c.args.topic c.self.inside.list.items c.in-Ok.i =
    subst (λ (ts : List Taken). IsFoundAt c.args.topic ts c.in-Ok.i) c.deref.ensures.value c.in-Ok.ensures
    in
    rises_without c.args.topic _ _ c.self.invariant (c.remove-gone.ensures.items ∙ found.left)
