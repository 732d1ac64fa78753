use Rattle.std.proofs.Common.{◌≡◌, ◌+◌, length, drop, ap, ◌∙◌, arith}
use Rattle.std.proofs.lemmas.List.{length-append}
use Rattle.wpilog_read.specs.Run.{Reading}
use Rattle.wpilog_read.proofs.Records.{record_at-after}
use Rattle.wpilog_read.proofs.Offsets.{record-reads, record-shorter}
use Rattle.wpilog_read.proofs.reader.LogReader.read.Goals as goal

pub pass-requires : goal.pass-requires
pass-requires c =
    let read = rw (c.rest.ensures, ← c.self.view_is) at c.in_ok-fields.ensures in
    let bytes = drop c.self.inside.taken c.self.inside.bytes.items in
    let t = record_at-after c.self.inside.live.entries bytes _ read in
    let len : length bytes ≡ length t.prefix + length c.in_ok-fields.after.now =
    ap length t.parts ∙ length-append t.prefix c.in_ok-fields.after.now in
    omega (arith, len)

pub returns-clause-ok : goal.returns-clause-ok
returns-clause-ok c =
    let read = rw (c.rest.ensures, ← c.self.view_is) at c.in_ok-fields.ensures in
    let r : Reading = record {
      extra = c.self.inside.extra;
      live = c.self.inside.live.entries;
      at = c.self.inside.at;
      rest = drop c.self.inside.taken c.self.inside.bytes.items;
      fault = c.self.inside.fault;
    } in
    rw (← c.self.view_is) (record-reads r c.pass.new.self c.note_item.new.live.entries _ c.in_ok-fields.after.now
    c.in_ok-item.item read c.in_ok-item.ensures c.in_ok-note_item.ensures.ok c.pass.ensures)

pub returns-clause-shorter : goal.returns-clause-shorter
returns-clause-shorter c =
    let read = rw (c.rest.ensures, ← c.self.view_is) at c.in_ok-fields.ensures in
    let r : Reading = record {
      extra = c.self.inside.extra;
      live = c.self.inside.live.entries;
      at = c.self.inside.at;
      rest = drop c.self.inside.taken c.self.inside.bytes.items;
      fault = c.self.inside.fault;
    } in
    rw (← c.self.view_is) (record-shorter r c.pass.new.self c.note_item.new.live.entries _ c.in_ok-fields.after.now
    read c.pass.ensures)
