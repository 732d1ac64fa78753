use Rattle.std.proofs.Common.{inl}
use Rattle.nt_serve.proofs.Moving.{moves-failed}
use Rattle.nt_serve.proofs.Closing.{unopened-nothing, unopened-failed, unopened-refused, begun, closes, serves-broken, serves-session, unclosed}
use Rattle.nt_serve.proofs.sessions.serve_connection.Goals as goal

pub returns-in_default-clause-served : goal.returns-in_default-clause-served
returns-in_default-clause-served g c =
    unopened-nothing _ _ _ _ c.args.name.now c.args.version c.new.result c.new.ensures.value c.new.ensures.within

pub returns-in_default-act-clause-served : goal.returns-in_default-act-clause-served
returns-in_default-act-clause-served g c =
    unopened-failed _ _ _ _ _ c.args.name.now c.args.version c.new-in_default-act.result
    c.new-in_default-act.ensures.value c.new-in_default-act.ensures.within c.in_default-act.ensures.refused

pub returns-in_default-opened-clause-served : goal.returns-in_default-opened-clause-served
returns-in_default-opened-clause-served g c =
    unopened-refused _ _ _ _ _ c.args.name.now c.in-Ok.name c.args.version c.now-now.result c.in-Ok-act.out
    c.new-in_default-opened.result c.new-in_default-opened.ensures.value c.new-in_default-opened.ensures.within
    c.in-Ok.ensures c.in-Ok-act.ensures.acted c.in_default-opened.ensures

pub returns-in_default-serve_rounds-clause-served : goal.returns-in_default-serve_rounds-clause-served
returns-in_default-serve_rounds-clause-served g c =
    serves-broken _ _ _ _ _ _ _ _ _ c.args.name.now c.args.version c.in-Some.conn c.serve_rounds.new.ignored
    c.new-in_default-serve_rounds.result c.new-in_default-serve_rounds.ensures.value
    c.new-in_default-serve_rounds.ensures.within
    (begun _ _ _ _ _ c.args.name.now c.in-Ok.name c.args.version c.in-Some.conn c.now-now.result c.in-Ok-act.out
    c.in-Ok.ensures c.in-Ok-act.ensures.acted c.in-Some.ensures) c.in_default-serve_rounds.ensures.rounds

pub returns-in-Ok-act-2-clause-served : goal.returns-in-Ok-act-2-clause-served
returns-in-Ok-act-2-clause-served g c =
    serves-session _ _ _ _ _ _ _ _ _ _ c.args.name.now c.args.version c.in-Some.conn c.serve_rounds.new.ignored
    c.in-Some-serve_rounds.end c.new-in-Ok-act-2.result c.new-in-Ok-act-2.ensures.value
    c.new-in-Ok-act-2.ensures.within
    (begun _ _ _ _ _ c.args.name.now c.in-Ok.name c.args.version c.in-Some.conn c.now-now.result c.in-Ok-act.out
    c.in-Ok.ensures c.in-Ok-act.ensures.acted c.in-Some.ensures) c.in-Some-serve_rounds.ensures.rounds
    (closes _ _ _ _ _ c.serve_rounds.new.ignored c.in-Some.conn c.now-now-2.result c.in-Ok-act-2.field-0
    c.in-Ok-act-2.ensures.acted)

pub returns-clause-served : goal.returns-clause-served
returns-clause-served g c =
    serves-broken _ _ _ _ _ _ _ _ _ c.args.name.now c.args.version c.in-Some.conn c.serve_rounds.new.ignored
    c.new-in-Err.result c.new-in-Err.ensures.value c.new-in-Err.ensures.within
    (begun _ _ _ _ _ c.args.name.now c.in-Ok.name c.args.version c.in-Some.conn c.now-now.result c.in-Ok-act.out
    c.in-Ok.ensures c.in-Ok-act.ensures.acted c.in-Some.ensures)
    (unclosed _ _ _ c.in-Some.conn c.in-Some-serve_rounds.end c.in-Some-serve_rounds.ensures.rounds
    (moves-failed _ _ _ _ _ c.serve_rounds.new.ignored (inl c.in-Err.ensures.refused)))
