use Rattle.std.proofs.Common.{◌≡◌, [], ap, sym, ◌∙◌}
use Rattle.nt_subs.specs.Wishes.{greater}
use Rattle.nt_subs.proofs.Heads.{heads_in, heads-looked_up, least_of}
use Rattle.nt_subs.proofs.Ranks.{greater-no}
use Rattle.nt_subs.proofs.given.Given.wish_of_heads.Goals as goal

pub returns : goal.returns
returns c =
    let name = c.args.name.now in
    let done : c.loop-length.length-iterator ≡ [] = c.in-None.ensures.steps.0 in
    sym (greater-no c.loop-length.greatest)
    ∙ ap (λ es. greater c.loop-length.greatest (heads_in (least_of name) name es)) (sym done)
    ∙ c.loop-length.invariant.1
    ∙ heads-looked_up c.args.self.now name c.iter-length-items.ensures.found
