use Rattle.std.proofs.Common.{string_bytes, Err}
use Rattle.std.proofs.lemmas.Result.{err_from_is_err_and}
use Rattle.nt_log_tools.proofs.LogReplies.{ends-log, stops-log, exact-log}
use Rattle.nt_log_tools.proofs.log_tool.run_log_tool.Goals as goal

pub returns-in_err-last-clause-ends : goal.returns-in_err-last-clause-ends
returns-in_err-last-clause-ends g c =
    let law = c.reading_is_meaning.ensures in
    let p = err_from_is_err_and c.from_residual.result c.from_residual.ensures.1 in
    rw (p.1, p.2) (stops-log law.some law.begins c.args.tool _ _ c.in_err-last.field-0.0 _ _ c.in_err-last.ensures.stopped)

pub returns-in_err-last-clause-exact : goal.returns-in_err-last-clause-exact
returns-in_err-last-clause-exact g c =
    let law = c.reading_is_meaning.ensures in
    let p = err_from_is_err_and c.from_residual.result c.from_residual.ensures.1 in
    rw p.1 (exact-log law.one c.args.tool _ _ _ _ (Err c.in_err-last.field-0.0)
    (stops-log law.some law.begins c.args.tool _ _ c.in_err-last.field-0.0 _ _ c.in_err-last.ensures.stopped))

pub returns-clause-ends : goal.returns-clause-ends
returns-clause-ends g c =
    let last = c.in_ok-last.last in
    ends-log c.args.tool _ _ last.end last.items last.bytes (string_bytes last.lines) _ _ _ c.end_log.result
    c.in_ok-last.ensures.reads c.end_log.ensures.gives c.end_log.ensures.memory

pub returns-clause-exact : goal.returns-clause-exact
returns-clause-exact g c =
    let last = c.in_ok-last.last in
    exact-log c.reading_is_meaning.ensures.one c.args.tool _ _ _ _ c.end_log.result
    (ends-log c.args.tool _ _ last.end last.items last.bytes (string_bytes last.lines) _ _ _ c.end_log.result
    c.in_ok-last.ensures.reads c.end_log.ensures.gives c.end_log.ensures.memory)
