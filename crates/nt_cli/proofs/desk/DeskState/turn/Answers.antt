use Rattle.std.proofs.Common.{ℕ, List, [], ◌∷◌, Ok, Err, ap, subst}
use Rattle.std.proofs.lemmas.Result.{err_from_is_err_and}
use Rattle.nt_tools.specs.declared.status.ToolFault.{ToolFault}
use Rattle.nt_tools.specs.declared.line.LineEnd.{LineEnd}
use Rattle.nt_tools.specs.declared.line.LineFault.{LineFault}
use Rattle.nt_tools.specs.Lines.{too_long}
use Rattle.nt_tools.specs.LineReading.{Reads}
use Rattle.nt_cli.specs.Desk.{line_fault, turn_text, last_text}
use Rattle.nt_tools.specs.Printing.{Prints}
use Rattle.nt_tools.proofs.LineReads.{passed_on}
use Rattle.nt_cli.proofs.Endings.{turn-line, turn-line_stopped, turn-end, turn-end_stopped, turn-fault, turn-fault_stopped, left-long, left-many}
use Rattle.nt_cli.proofs.desk.DeskState.turn.Goals as goal

pub returns-in_err-answer_line-in-Ok-Feed-clause-turns :
    goal.returns-in_err-answer_line-in-Ok-Feed-clause-turns
returns-in_err-answer_line-in-Ok-Feed-clause-turns g c =
    let p = err_from_is_err_and c.from_residual.result c.from_residual.ensures.1 in
    let reads : Reads (g.R.Source.left c.args.source.now) (g.R.Source.left c.read_line.new.source) c.args.self.now.lines
    c.read_line.new.self c.read_line.new.line.items (10 ∷ [])
    = rw c.in-Ok-Feed.field-0-is at c.in-Ok-Feed.ensures.reads in
    rw (p.1, p.2) (λ decode is_decoding past connected.
    turn-line_stopped decode _ _ _ _ _ past c.args.self.now.number _ _ _ reads
    (subst (λ (l : List ℕ). Prints (turn_text decode past c.args.self.now.number l) (g.O.Sink.taken c.args.out.now)
    (g.O.Sink.taken c.answer_line.new.out) (Err c.in_err-answer_line-in-Ok-Feed.field-0.0))
    c.deref.ensures.value (c.in_err-answer_line-in-Ok-Feed.ensures.prints decode is_decoding past connected)))

pub returns-in_err-answer_line-in-Ok-Feed-clause-read :
    goal.returns-in_err-answer_line-in-Ok-Feed-clause-read
returns-in_err-answer_line-in-Ok-Feed-clause-read g c = λ decode is_decoding past connected is.
    let same = passed_on _ _ _ c.from_residual.ensures.1 is in
    absurd (subst (λ (e : ToolFault). Prints (turn_text decode past c.args.self.now.number c.deref.result.now)
    (g.O.Sink.taken c.args.out.now) (g.O.Sink.taken c.answer_line.new.out) (Err e)) same
    (c.in_err-answer_line-in-Ok-Feed.ensures.prints decode is_decoding past connected))

pub returns-in_ok-answer_line-in-Ok-Feed-clause-turns :
    goal.returns-in_ok-answer_line-in-Ok-Feed-clause-turns
returns-in_ok-answer_line-in-Ok-Feed-clause-turns g c = λ decode is_decoding past connected.
    let reads : Reads (g.R.Source.left c.args.source.now) (g.R.Source.left c.read_line.new.source) c.args.self.now.lines
    c.read_line.new.self c.read_line.new.line.items (10 ∷ [])
    = rw c.in-Ok-Feed.field-0-is at c.in-Ok-Feed.ensures.reads in
    let answered = c.in_ok-answer_line-in-Ok-Feed.ensures in
    turn-line decode _ _ _ _ _ past c.args.self.now.number _ _ _ reads
    (rw c.deref.ensures.value at (answered.prints decode is_decoding past connected))
    (rw c.deref.ensures.value at (answered.connected decode is_decoding past connected))

pub returns-in_err-answer_last-in-Ok-Input-clause-turns :
    goal.returns-in_err-answer_last-in-Ok-Input-clause-turns
returns-in_err-answer_last-in-Ok-Input-clause-turns g c =
    let p = err_from_is_err_and c.from_residual-in_err-answer_last-in-Ok-Input.result
    c.from_residual-in_err-answer_last-in-Ok-Input.ensures.1 in
    let reads : Reads (g.R.Source.left c.args.source.now) (g.R.Source.left c.read_line.new.source) c.args.self.now.lines
    c.read_line.new.self c.read_line.new.line.items []
    = rw c.in-Ok-Input.field-0-is at c.in-Ok-Input.ensures.reads in
    let ended = c.in-Ok-Input.ensures.ended (ap (λ (e : LineEnd). Ok e) c.in-Ok-Input.field-0-is) in
    rw (p.1, p.2) (λ decode is_decoding past connected.
    turn-end_stopped decode _ _ _ _ _ past c.args.self.now.number _ _ _ reads ended.0 ended.1
    (subst (λ (l : List ℕ). Prints (last_text decode past c.args.self.now.number l) (g.O.Sink.taken c.args.out.now)
    (g.O.Sink.taken c.answer_last.new.out) (Err c.in_err-answer_last-in-Ok-Input.field-0.0))
    c.deref-in-Ok-Input.ensures.value (c.in_err-answer_last-in-Ok-Input.ensures.prints decode is_decoding past
    connected)))

pub returns-in_err-answer_last-in-Ok-Input-clause-read :
    goal.returns-in_err-answer_last-in-Ok-Input-clause-read
returns-in_err-answer_last-in-Ok-Input-clause-read g c = λ decode is_decoding past connected is.
    let same = passed_on _ _ _ c.from_residual-in_err-answer_last-in-Ok-Input.ensures.1 is in
    absurd (subst (λ (e : ToolFault). Prints (last_text decode past c.args.self.now.number
    c.deref-in-Ok-Input.result.now) (g.O.Sink.taken c.args.out.now) (g.O.Sink.taken c.answer_last.new.out) (Err e))
    same
    (c.in_err-answer_last-in-Ok-Input.ensures.prints decode is_decoding past connected))

pub returns-in_ok-answer_last-in-Ok-Input-clause-turns :
    goal.returns-in_ok-answer_last-in-Ok-Input-clause-turns
returns-in_ok-answer_last-in-Ok-Input-clause-turns g c = λ decode is_decoding past connected.
    let reads : Reads (g.R.Source.left c.args.source.now) (g.R.Source.left c.read_line.new.source) c.args.self.now.lines
    c.read_line.new.self c.read_line.new.line.items []
    = rw c.in-Ok-Input.field-0-is at c.in-Ok-Input.ensures.reads in
    let ended = c.in-Ok-Input.ensures.ended (ap (λ (e : LineEnd). Ok e) c.in-Ok-Input.field-0-is) in
    turn-end decode _ _ _ _ _ past c.args.self.now.number _ _ reads ended.0 ended.1
    (rw c.deref-in-Ok-Input.ensures.value at (c.in_ok-answer_last-in-Ok-Input.ensures.prints decode is_decoding past
    connected))

pub returns-in_err-print_line_fault-in-Err-TooLong-clause-turns :
    goal.returns-in_err-print_line_fault-in-Err-TooLong-clause-turns
returns-in_err-print_line_fault-in-Err-TooLong-clause-turns g c =
    let p = err_from_is_err_and c.from_residual-in_err-print_line_fault-in-Err-TooLong.result
    c.from_residual-in_err-print_line_fault-in-Err-TooLong.ensures.1 in
    let reads : Reads (g.R.Source.left c.args.source.now) (g.R.Source.left c.read_line.new.source) c.args.self.now.lines
    c.read_line.new.self c.read_line.new.line.items []
    = c.in-Err-TooLong.ensures.reads in
    let cause = c.in-Err-TooLong.ensures.too_long (ap (λ (e : LineFault). Err e) c.in-Err-TooLong.field-0-is) in
    rw (p.1, p.2) (λ decode is_decoding past connected.
    turn-fault_stopped decode _ _ _ _ _ past c.args.self.now.number _ _ (line_fault c.args.self.now.number) _ reads
    (left-long decode _ _ _ _ _ past c.args.self.now.number reads cause)
    c.in_err-print_line_fault-in-Err-TooLong.ensures.prints)

pub returns-in_ok-print_line_fault-in-Err-TooLong-clause-turns :
    goal.returns-in_ok-print_line_fault-in-Err-TooLong-clause-turns
returns-in_ok-print_line_fault-in-Err-TooLong-clause-turns g c = λ decode is_decoding past connected.
    let reads : Reads (g.R.Source.left c.args.source.now) (g.R.Source.left c.read_line.new.source) c.args.self.now.lines
    c.read_line.new.self c.read_line.new.line.items []
    = c.in-Err-TooLong.ensures.reads in
    let cause = c.in-Err-TooLong.ensures.too_long (ap (λ (e : LineFault). Err e) c.in-Err-TooLong.field-0-is) in
    turn-fault decode _ _ _ _ _ past c.args.self.now.number _ _ (line_fault c.args.self.now.number) reads
    c.in-Err-TooLong.ensures.most (left-long decode _ _ _ _ _ past c.args.self.now.number reads cause)
    c.in_ok-print_line_fault-in-Err-TooLong.ensures.prints

pub returns-in_err-print-in-Err-TooMany-clause-turns :
    goal.returns-in_err-print-in-Err-TooMany-clause-turns
returns-in_err-print-in-Err-TooMany-clause-turns g c =
    let p = err_from_is_err_and c.from_residual-in_err-print-in-Err-TooMany.result
    c.from_residual-in_err-print-in-Err-TooMany.ensures.1 in
    let reads : Reads (g.R.Source.left c.args.source.now) (g.R.Source.left c.read_line.new.source) c.args.self.now.lines
    c.read_line.new.self c.read_line.new.line.items []
    = c.in-Err-TooMany.ensures.reads in
    let cause = c.in-Err-TooMany.ensures.too_many (ap (λ (e : LineFault). Err e) c.in-Err-TooMany.field-0-is) in
    rw (p.1, p.2) (λ decode is_decoding past connected.
    turn-fault_stopped decode _ _ _ _ _ past c.args.self.now.number _ _ too_long _ reads
    (left-many decode _ _ _ _ _ past c.args.self.now.number reads cause.0 cause.1)
    c.in_err-print-in-Err-TooMany.ensures.prints)

pub returns-in_ok-print-in-Err-TooMany-clause-turns :
    goal.returns-in_ok-print-in-Err-TooMany-clause-turns
returns-in_ok-print-in-Err-TooMany-clause-turns g c = λ decode is_decoding past connected.
    let reads : Reads (g.R.Source.left c.args.source.now) (g.R.Source.left c.read_line.new.source) c.args.self.now.lines
    c.read_line.new.self c.read_line.new.line.items []
    = c.in-Err-TooMany.ensures.reads in
    let cause = c.in-Err-TooMany.ensures.too_many (ap (λ (e : LineFault). Err e) c.in-Err-TooMany.field-0-is) in
    turn-fault decode _ _ _ _ _ past c.args.self.now.number _ _ too_long reads c.in-Err-TooMany.ensures.most
    (left-many decode _ _ _ _ _ past c.args.self.now.number reads cause.0 cause.1)
    c.in_ok-print-in-Err-TooMany.ensures.prints
