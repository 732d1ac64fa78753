use Rattle.std.proofs.Common.{◌≡◌, ◌++◌, string_bytes, sym, ◌∙◌}
use Rattle.nt_tools.specs.Lines.{too_long}
use Rattle.nt_log_tools.proofs.LogReplies.{last-long}
use Rattle.nt_log_tools.proofs.log_tool.end_log.Goals as goal

pub returns-clause-gives : goal.returns-clause-gives
returns-clause-gives g c =
    let last = c.args.last in
    let text : c.as_str-in-TooLong.result.now ≡ string_bytes last.lines ++ too_long =
    ◌∙◌ {c = string_bytes last.lines ++ too_long} c.as_str-in-TooLong.ensures.value
    c.in_ok-push_str-in-TooLong.ensures.bytes in
    rw (c.in-TooLong.is, last-long c.args.tool last.items last.bytes, sym text) c.tell-in-TooLong.ensures.gives
