use Rattle.std.proofs.Common.{◌≡◌, Option, Some, map, string_bytes, rules, subst}
use Rattle.nt_cli.specs.declared.words.Tool.{Tool}
use Rattle.nt_cli.specs.declared.words.Tool.TheVariants.{Desk}
use Rattle.nt_cli.specs.Words.{tool_of}
use Rattle.nt_cli.specs.Tool.{RepliesBy}
use Rattle.nt_cli.proofs.tool.run.Goals as goal

pub returns-in-Some-Desk-default-clause-exact : goal.returns-in-Some-Desk-default-clause-exact
returns-in-Some-Desk-default-clause-exact g c = λ bytes reply known replies.
    let asked : tool_of (map string_bytes c.args.words.now) ≡ Some Desk = search rules in
    c.desk.ensures.exact bytes reply known (subst (λ (t : Option Tool). RepliesBy t bytes reply) asked replies)
