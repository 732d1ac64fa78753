use Rattle.std.proofs.Common.{◌≡◌, true, false, cond, Some, None, sym, ◌∙◌, ap, arith, rules}
use Rattle.std.proofs.lemmas.List.{get_or_default}
use Rattle.nt_rules.specs.topics.Topics.{without_conn, outlives}
use Rattle.nt_table.specs.Index.{left_by}
use Rattle.nt_rules.proofs.Positions.{set-change, remove-change}
use Rattle.nt_table.proofs.edit.leave.Goals as goal

pub returns-then-outlives : goal.returns-then-outlives
returns-then-outlives c =
    let on : outlives c.args.conn c.index.result.now ≡ true = search rules in
    let same : c.index_mut.result.now ≡ c.index.result.now =
    c.index_mut.ensures.value
    ∙ get_or_default c.args.topics.now.items c.args.i c.index_mut.result.now c.index.result.now (omega arith)
    ∙ sym c.index.ensures in
    let left : c.drop_conn.new.topic ≡ without_conn c.args.conn c.index.result.now =
    c.drop_conn.ensures ∙ ap (without_conn c.args.conn) same in
    set-change (left_by c.args.conn) c.args.topics.now.items c.args.i c.index.result.now c.drop_conn.new.topic
    c.index.ensures
    (ap (λ b. cond b (Some (without_conn c.args.conn c.index.result.now)) None) on ∙ ap Some (sym left))

pub returns-else-outlives : goal.returns-else-outlives
returns-else-outlives c =
    let over : outlives c.args.conn c.index.result.now ≡ false = search rules in
    c.remove-gone.ensures.items
    ∙ remove-change (left_by c.args.conn) c.args.topics.now.items c.args.i c.index.result.now (omega arith)
    c.index.ensures
    (ap (λ b. cond b (Some (without_conn c.args.conn c.index.result.now)) None) over)
