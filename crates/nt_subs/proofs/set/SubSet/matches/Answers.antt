use Rattle.std.proofs.Common.{◌≡◌, ap, ap₂, subst, ◌∙◌}
use Rattle.nt_subs.specs.Index.{IsIndexed, said, strongest}
use Rattle.nt_subs.specs.Wishes.{greater}
use Rattle.nt_subs.proofs.Matched.{matched}
use Rattle.nt_subs.proofs.set.SubSet.matches.Goals as goal

pub returns : goal.returns
returns c =
    let names = c.self.inside.names in
    let exact : c.wish_of-exact.result ≡ strongest (said names.exact c.args.name.now) =
    c.wish_of-exact.ensures ∙ ap (λ n. strongest (said names.exact n)) c.as_bytes.ensures.value in
    c.greater.ensures
    ∙ ap₂ greater exact c.wish_of_heads.ensures
    ∙ matched names c.args.name.now c.args.self.now (subst (IsIndexed names) c.self.view_is c.self.invariant.1)
