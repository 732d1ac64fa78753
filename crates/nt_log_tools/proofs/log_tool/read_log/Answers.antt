use Rattle.std.proofs.Common.{◌≡◌, [], ◌++◌, Err, ap, string_bytes, rules}
use Rattle.std.specs.Result.{result_err}
use Rattle.std.proofs.lemmas.Result.{err_from_is_err_and}
use Rattle.nt_tools.specs.declared.status.ToolFault.{ToolFault}
use Rattle.nt_log_tools.proofs.LogPrints.{found-fed}
use Rattle.nt_log_tools.proofs.LogFeeds.{so_far-none, so_far-more, may-end, reads-log, stops-reading, stops-feeding}
use Rattle.nt_log_tools.proofs.log_tool.read_log.Goals as goal

pub loop-found-init : goal.loop-found-init
loop-found-init g c =
    let empty : string_bytes c.new.result ≡ [] = search rules in
    (rw empty (so_far-none c.args.tool _ _ _ c.new-reader.ensures.stands), search rules, search rules)

pub returns-in_err-came-clause-stopped : goal.returns-in_err-came-clause-stopped
returns-in_err-came-clause-stopped g c =
    let p = err_from_is_err_and c.from_residual.result c.from_residual.ensures.1 in
    let e = c.in_err-came.ensures in
    let piece = e.taken in
    rw (p.1, p.2)
    (stops-feeding c.args.tool _ _ _ _ _ _ _ piece.0 c.in_err-came.field-0.0 _ _
    (λ is. e.no_write (ap (λ (f : ToolFault). Err f) is)) c.loop-found.invariant.0 piece.1 piece.2)

pub returns-in_err-take_items-clause-stopped : goal.returns-in_err-take_items-clause-stopped
returns-in_err-take_items-clause-stopped g c =
    let p = err_from_is_err_and c.from_residual-in_err-take_items.result c.from_residual-in_err-take_items.ensures.1 in
    let s = c.loop-found.invariant.0 in
    let f = c.in_ok-came.ensures.feeds in
    rw (p.1, p.2)
    (stops-reading c.args.tool _ _ _ _ _ _ _ _ _ c.in_err-take_items.field-0.0 _ _ _ c.in_ok-came.came s f
    (c.in_err-take_items.ensures.stopped (s.bytes ++ f.fed) _ (found-fed c.args.tool s.bytes f.fed _ _ _ _ _ _ f.stands
    s.found)))

pub loop-found-preserved : goal.loop-found-preserved
loop-found-preserved g c =
    let s = c.loop-found.invariant.0 in
    let f = c.in_ok-came.ensures.feeds in
    let t = c.in_ok-take_items.ensures in
    let found = t.found (s.bytes ++ f.fed) _ (found-fed c.args.tool s.bytes f.fed _ _ _ _ _ _ f.stands s.found) in
    let more = so_far-more c.args.tool _ _ _ _ _ _ _ _ _ _ _ _ _ _ _ c.in_ok-came.came
    (result_err c.finish.result) s f (search rules) found t.within in
    (rw c.finish.ensures.same more.0, search rules, search rules)

pub returns-in-Some-clause-reads : goal.returns-in-Some-clause-reads
returns-in-Some-clause-reads g c =
    let s = c.loop-found.invariant.0 in
    let f = c.in_ok-came.ensures.feeds in
    let t = c.in_ok-take_items.ensures in
    let found = t.found (s.bytes ++ f.fed) _ (found-fed c.args.tool s.bytes f.fed _ _ _ _ _ _ f.stands s.found) in
    let ends = may-end c.take_items.new.reader c.finish.result c.finish.ensures.meaning c.finish.ensures.broken
    c.finish.ensures.ending in
    reads-log c.args.tool _ _ _ _ _ _ _ _ _ _ _ _ _ _ _ c.in_ok-came.came _ c.in-Some.end s f (search rules) ends found
