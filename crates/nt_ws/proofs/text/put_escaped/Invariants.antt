use Rattle.std.proofs.Common.{◌≡◌, ◌++◌, drop}
use Rattle.std.specs.Prelude.{string_bytes}
use Rattle.nt_ws.specs.Written.{escaped}
use Rattle.nt_ws.proofs.text.put_escaped.Given as goal

abbrev pub invariant-loop-b : goal.invariant-loop-b
invariant-loop-b l = string_bytes l.text ++ escaped (drop l.b-index l.name) ≡ string_bytes l.fn.text ++ escaped l.name
