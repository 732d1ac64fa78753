use Rattle.std.proofs.Common.{◌≡◌, ◌∙◌, ap, not, filter, rules, tests}
use Rattle.std.proofs.lemmas.Fn.{filter_same}
use Rattle.nt_rules.specs.topics.Topics.{is_of}
use Rattle.nt_table.proofs.edit.drop_conn.Goals as goal

pub returns : goal.returns
returns c =
    let held : c.into_vec-publishers.result.items ≡ c.args.topic.now.pubs = search rules in
    let left : c.retain.new.self.items ≡ filter (λ p. not (is_of c.args.conn p)) c.into_vec-publishers.result.items =
    filter_same _ (λ p. not (is_of c.args.conn p)) _ (λ x b f h. search (rules, tests)) _ _
    c.retain.ensures.filtered in
    ap (λ pubs. record c.args.topic.now { pubs = pubs })
    (c.of_vec.ensures ∙ left ∙ ap (filter (λ p. not (is_of c.args.conn p))) held)
