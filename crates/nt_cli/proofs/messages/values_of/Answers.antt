use Rattle.std.proofs.Common.{◌≡◌, ℕ, List, Some, ap, ◌∙◌}
use Rattle.nt_cli.specs.Hexadecimal.{hex_bytes}
use Rattle.nt_cli.proofs.LineMessages.{decoded-values, values-fit}
use Rattle.nt_cli.proofs.messages.values_of.Goals as goal

pub returns-clause-messages : goal.returns-clause-messages
returns-clause-messages c = λ decode is_decoding.
    let spelled : Some c.in-Some.bytes.items ≡ hex_bytes c.args.text.now = rw c.in-Some.is at c.in_ok-bytes.ensures in
    decoded-values _ c.puts_of.result decode c.args.text.now c.deref.result.now c.in_ok-read.read.messages.items
    is_decoding (ap (λ (l : List ℕ). Some l) c.deref.ensures.value ∙ spelled)
    (λ ms fault m. (c.in_ok-read.ensures.only ms fault m).0) c.puts_of.ensures

pub returns-clause-fit : goal.returns-clause-fit
returns-clause-fit c = values-fit _ c.puts_of.result c.deref.result.now c.in_ok-read.read.messages.items
    c.in_ok-read.read.fault c.in_ok-read.ensures.means c.puts_of.ensures
