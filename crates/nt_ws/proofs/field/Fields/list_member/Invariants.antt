use Rattle.std.proofs.Common.{◌≡◌, drop, map}
use Rattle.httparse.specs.Spans.{header_bytes}
use Rattle.nt_ws.specs.Fields.{list_member}
use Rattle.nt_ws.proofs.field.Fields.list_member.Given as goal

abbrev pub invariant-loop-field : goal.invariant-loop-field
invariant-loop-field l =
    list_member l.name l.member (map (header_bytes l.head) l.spans) ≡ list_member l.name l.member (map
    (header_bytes l.head) (drop l.field-index l.spans))
