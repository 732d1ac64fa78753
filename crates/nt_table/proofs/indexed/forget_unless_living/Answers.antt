use Rattle.std.proofs.Common.{◌≡◌, false, ◌∙◌, ap, rules}
use Rattle.std.specs.List.{position}
use Rattle.std.specs.Option.{is_some}
use Rattle.nt_table.specs.Index.{id_named, is_at}
use Rattle.nt_rules.proofs.Positions.{any-position}
use Rattle.nt_table.proofs.Steps.{indexed-forgotten}
use Rattle.nt_table.proofs.indexed.forget_unless_living.Goals as goal

pub returns-then-is_none : goal.returns-then-is_none
returns-then-is_none c = λ next h.
    let at : c.position_at.result ≡ position (is_at (id_named c.args.index.now c.args.name.now)) c.args.topics.now =
    c.position_at.ensures ∙ ap (λ o. position (is_at o) c.args.topics.now) c.id_named.ensures in
    let none : is_some c.position_at.result ≡ false = search rules in
    indexed-forgotten c.args.index.now c.args.topics.now next h c.forget_name.new.self c.args.name.now
    c.forget_name.ensures.names c.forget_name.ensures.conns
    (any-position (is_at (id_named c.args.index.now c.args.name.now)) c.args.topics.now c.position_at.result at ∙ none)
