use Rattle.std.proofs.Common.{◌≡◌, drop, map}
use Rattle.std.specs.Prelude.{option_map}
use Rattle.httparse.specs.Spans.{header_bytes}
use Rattle.nt_ws.specs.Fields.{values_of, only_of, only_value}
use Rattle.nt_ws.proofs.Members.{with_found}
use Rattle.nt_ws.proofs.field.Fields.only_value.Given as goal

abbrev pub invariant-loop-field : goal.invariant-loop-field
invariant-loop-field l =
    only_value l.name (map (header_bytes l.head) l.spans)
    ≡ only_of (with_found (option_map (λ v. v.now) l.found) (values_of l.name (map (header_bytes l.head)
    (drop l.field-index l.spans))))
