use Rattle.std.proofs.Common.{◌≡◌, drop, map}
use Rattle.httparse.specs.Spans.{header_bytes}
use Rattle.nt_ws.specs.Fields.{list_word}
use Rattle.nt_ws.proofs.field.Fields.list_word.Given as goal

abbrev pub invariant-loop-field : goal.invariant-loop-field
invariant-loop-field l =
    list_word l.name l.word (map (header_bytes l.head) l.spans) ≡ list_word l.name l.word (map
    (header_bytes l.head) (drop l.field-index l.spans))
