use Rattle.std.proofs.Common.{rules, tests, ◌∙◌}
use Rattle.std.specs.Prelude.{bytes_eq}
use Rattle.std.proofs.lemmas.Iterator.Search.{any_from_yields_List}
use Rattle.std.proofs.lemmas.Iterator.Splits.{YieldsList-from_slice_split}
use Rattle.httparse.specs.Grammar.{trim_ows}
use Rattle.nt_ws.proofs.Members.{any-member}
use Rattle.nt_ws.proofs.field.has_member.Goals as goal

pub returns : goal.returns
returns c =
    any_from_yields_List (λ part. bytes_eq (trim_ows part) c.args.member.now) _ _ _ c.any.ensures.ran
    (YieldsList-from_slice_split _ _ c.args.list.now c.split.ensures.rest c.split.ensures.done
    c.split.ensures.closure (λ x r q k. search (rules, tests)))
    (λ x b q k. search (rules, tests))
    ∙ any-member (λ m. bytes_eq m c.args.member.now) c.args.list.now
