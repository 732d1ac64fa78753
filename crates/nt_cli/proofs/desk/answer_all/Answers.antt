use Rattle.std.proofs.Common.{◌≡◌, [], None, Ok, Err, rules}
use Rattle.std.proofs.KnownBytes.{Consumes-nil}
use Rattle.std.proofs.lemmas.Result.{err_from_is_err_and}
use Rattle.nt_tools.specs.Printing.{number_of}
use Rattle.nt_cli.specs.DeskRun.{beginning, Settles, GoesOn, Progress}
use Rattle.nt_cli.proofs.Endings.{stops-silent, goes_on-begin, goes_on-more, ends-after}
use Rattle.nt_cli.proofs.desk.answer_all.Goals as goal

pub returns-in_err-desk-clause-ends : goal.returns-in_err-desk-clause-ends
returns-in_err-desk-clause-ends g c =
    let p = err_from_is_err_and c.from_residual.result c.from_residual.ensures.1 in
    rw (p.1, p.2) (λ decode is_decoding. stops-silent (beginning decode) _ _ _ [] (Consumes-nil _))

pub loop-desk-init : goal.loop-desk-init
loop-desk-init g c = (
  record {
    goes_on = rw (c.in_ok-desk.ensures.lines, c.in_ok-desk.ensures.number)
        (λ decode is_decoding. goes_on-begin decode _ _ _ c.in_ok-desk.ensures.connected);
    small = rw (c.in_ok-desk.ensures.lines, c.in_ok-desk.ensures.number) (search rules);
  },
  search rules,
  search rules,
)

pub returns-in_err-status-clause-ends : goal.returns-in_err-status-clause-ends
returns-in_err-status-clause-ends g c =
    let p = err_from_is_err_and c.from_residual-in_err-status.result c.from_residual-in_err-status.ensures.1 in
    rw (p.1, p.2) (λ decode is_decoding.
    let so_far = c.loop-desk.invariant.0.goes_on decode is_decoding in
    ends-after _ _ _ _ _ _ _ _ _ _ so_far (Err c.in_err-status.field-0.0)
    (c.in_err-status.ensures.turns decode is_decoding so_far.past so_far.connected))

pub returns-in-Some-clause-ends : goal.returns-in-Some-clause-ends
returns-in-Some-clause-ends g c = λ decode is_decoding.
    let so_far = c.loop-desk.invariant.0.goes_on decode is_decoding in
    let place : Progress = record {
      decode = decode;
      ahead = c.loop-desk.desk.lines;
      past = so_far.past;
      number = c.loop-desk.desk.number;
    } in
    let settles : Settles place (g.R.Source.left c.loop-desk.source) (g.R.Source.left c.turn.new.source)
    (g.O.Sink.taken c.loop-desk.out) (g.O.Sink.taken c.turn.new.out) (number_of c.in-Some.status)
    = rw c.in-Some.is at (c.in_ok-status.ensures.turns decode is_decoding so_far.past so_far.connected) in
    ends-after _ _ _ _ _ _ _ _ _ _ so_far (Ok c.in-Some.status) settles

pub loop-desk-preserved : goal.loop-desk-preserved
loop-desk-preserved g c =
    let none : c.in_ok-status.field-0 ≡ None = c.in_default.is in (
      record {
        goes_on = λ decode is_decoding.
            let so_far = c.loop-desk.invariant.0.goes_on decode is_decoding in
            let place : Progress = record {
              decode = decode;
              ahead = c.loop-desk.desk.lines;
              past = so_far.past;
              number = c.loop-desk.desk.number;
            } in
            let more : GoesOn place (g.R.Source.left c.loop-desk.source) (g.R.Source.left c.turn.new.source)
            (g.O.Sink.taken c.loop-desk.out) (g.O.Sink.taken c.turn.new.out)
            c.turn.new.self.server c.turn.new.self.lines c.turn.new.self.number
            = rw none at (c.in_ok-status.ensures.turns decode is_decoding so_far.past so_far.connected) in
            goes_on-more _ _ _ _ _ _ _ _ _ _ so_far _ _ _ more;
        small = search rules;
      },
      search rules,
      search rules,
    )

pub returns-in_err-status-clause-read : goal.returns-in_err-status-clause-read
returns-in_err-status-clause-read g c = λ decode is_decoding err.
    let so_far = c.loop-desk.invariant.0.goes_on decode is_decoding in
    let rose = c.in_err-status.ensures.read decode is_decoding so_far.past so_far.connected in
    let later = c.loop-desk.invariant.1.later in
    let p = err_from_is_err_and c.from_residual-in_err-status.result c.from_residual-in_err-status.ensures.1 in
    search rules
