use Rattle.std.proofs.Common.{string_bytes, arith, rules}
use Rattle.nt_tools.specs.declared.status.ToolFault.TheVariants.{Memory}
use Rattle.std.proofs.lemmas.Result.{err_from_is_err_and}
use Rattle.nt_log_tools.proofs.LogPrints.{found-more, found-none, found-stopped, found-other}
use Rattle.nt_log_tools.proofs.log_items.take_items.Goals as goal

pub loop-item-preserved : goal.loop-item-preserved
loop-item-preserved g c =
    let e = rw c.in-Ok-Some.field-0-is at c.in-Ok-Some.ensures in (
      λ bytes before found.
          let i = c.loop-item.invariant.0 bytes before found in
          found-more c.args.tool bytes c.loop-item.reader c.next.new.self c.in-Ok-Some.item c.loop-item.found.count
          (string_bytes c.loop-item.found.lines) (string_bytes c.print_item.new.lines) before
          (g.O.Sink.taken c.loop-item.out) (g.O.Sink.taken c.print_item.new.out) i
          (e.stands bytes i.items i.stands) c.in_ok-print_item-in-Ok-Some.ensures.ok,
      omega (arith, c.loop-item.invariant.1, e.shorter, e.end),
      search rules,
    )

pub returns-in_err-print_item-in-Ok-Some-clause-stopped : goal.returns-in_err-print_item-in-Ok-Some-clause-stopped
returns-in_err-print_item-in-Ok-Some-clause-stopped g c =
    let e = rw c.in-Ok-Some.field-0-is at c.in-Ok-Some.ensures in
    let p = err_from_is_err_and c.from_residual.result c.from_residual.ensures.1 in
    rw (p.1, p.2)
    (λ bytes before found.
    let i = c.loop-item.invariant.0 bytes before found in
    found-stopped c.args.tool bytes c.loop-item.reader c.next.new.self c.in-Ok-Some.item c.loop-item.found.count
    (string_bytes c.loop-item.found.lines) c.in_err-print_item-in-Ok-Some.field-0.0 before
    (g.O.Sink.taken c.loop-item.out) (g.O.Sink.taken c.print_item.new.out) i (e.stands bytes i.items i.stands)
    c.in_err-print_item-in-Ok-Some.ensures.stopped)

pub returns-in-Err-Memory-clause-stopped : goal.returns-in-Err-Memory-clause-stopped
returns-in-Err-Memory-clause-stopped g c = λ bytes before found.
    let i = c.loop-item.invariant.0 bytes before found in
    let e = rw c.in-Err-Memory.is at c.next.ensures in
    found-other c.args.tool bytes c.next.new.self c.loop-item.found.count (string_bytes c.loop-item.found.lines) Memory
    before (g.O.Sink.taken c.loop-item.out) (λ is. cc)
    (found-none c.args.tool bytes c.loop-item.reader c.next.new.self c.loop-item.found.count
    (string_bytes c.loop-item.found.lines) before (g.O.Sink.taken c.loop-item.out) i (e.stands bytes i.items i.stands))
