use Rattle.std.proofs.Common.{◌≡◌, length}
use Rattle.nt_cli.specs.Hexadecimal.{spaced_bytes}
use Rattle.nt_cli.proofs.Hexadecimals.{after}
use Rattle.nt_cli.proofs.hexadecimal.spaced_bytes.Given as goal

abbrev pub invariant-loop-rest : goal.invariant-loop-rest
invariant-loop-rest l = after l.bytes.items (spaced_bytes l.rest) ≡ spaced_bytes l.text

abbrev pub decreases-loop-rest : goal.decreases-loop-rest
decreases-loop-rest l = length l.rest
