use Rattle.std.proofs.Common.{◌≡◌, ℕ, ◌+◌, List, length, Result, Ok, Err, sym, ap, subst, refl, ◌∙◌, inl, inr, rules}
use Rattle.std.proofs.lemmas.Result.{err_from_is_err_and}
use Rattle.nt_tools.specs.declared.status.Status.{Status}
use Rattle.nt_tools.specs.declared.status.ToolFault.{ToolFault}
use Rattle.nt_tools.specs.declared.status.ToolFault.TheVariants.{Write}
use Rattle.nt_tools.specs.Lines.{summary}
use Rattle.nt_tools.specs.Printing.{GivesReply}
use Rattle.nt_tools.proofs.Printing.{gives-follows}
use Rattle.nt_gen.specs.Generated.{generated, gen_items, gen_reply}
use Rattle.nt_gen.proofs.Items.{items-length}
use Rattle.nt_gen.proofs.Prefixes.{stopped-prefix, stopped-cut}
use Rattle.nt_gen.proofs.generate.run_gen.Goals as goal

-- the fault of a result
fault_of : Result Status ToolFault → ToolFault
fault_of (Ok status) = Write
fault_of (Err e) = e

abbrev faulted : ToolFault → Result Status ToolFault
faulted e = Err e

same_fault : (e f : ToolFault) → faulted e ≡ faulted f → e ≡ f
unfolding fault_of
same_fault e f is = ap fault_of is

-- the line is the summary of the log
summary-is : (seed count bytes : ℕ) (line : List ℕ) → line ≡ summary (count + 2) bytes
    → bytes ≡ length (generated seed count)
    → line ≡ summary (length (gen_items seed count)) (length (generated seed count))
summary-is seed count bytes line is len = is ∙ ap (λ (n : ℕ). summary n bytes) (sym (items-length seed count))
    ∙ ap (λ (n : ℕ). summary (length (gen_items seed count)) n) len

pub returns-in_err-bytes-clause-begun : goal.returns-in_err-bytes-clause-begun
returns-in_err-bytes-clause-begun g c =
    stopped-prefix (generated c.args.seed c.args.count) c.in_err-bytes.field-0.0 _ _ c.in_err-bytes.ensures.stopped

pub returns-in_err-bytes-clause-write : goal.returns-in_err-bytes-clause-write
returns-in_err-bytes-clause-write g c =
    let p = err_from_is_err_and c.from_residual.result c.from_residual.ensures.1 in
    let e = c.in_err-bytes.field-0.0 in
    rw (p.1, p.2)
    (λ is.
    let same : e ≡ Write = same_fault e Write is in
    inl (
      c.in_err-bytes.ensures.failed (ap (λ (f : ToolFault). Err f) same),
      refl,
      stopped-cut (generated c.args.seed c.args.count) e _ _ same c.in_err-bytes.ensures.stopped,
    ))

pub returns-clause-follows : goal.returns-clause-follows
returns-clause-follows g c =
    let line : c.as_str.result.now ≡ summary (c.args.count + 2) c.in_ok-bytes.bytes = search rules in
    let text = summary-is c.args.seed c.args.count c.in_ok-bytes.bytes c.as_str.result.now line
    c.in_ok-bytes.ensures.len in
    let before = g.O.Sink.taken c.args.out.now in
    let now = g.O.Sink.taken c.tell.new.out in
    gives-follows (gen_reply c.args.seed c.args.count) before now c.tell.result
    (subst (λ (w : List ℕ). GivesReply (record { status = 0; text = w }) before now c.tell.result) text
    c.tell.ensures.gives)

pub returns-clause-write : goal.returns-clause-write
returns-clause-write g c =
    let line : c.as_str.result.now ≡ summary (c.args.count + 2) c.in_ok-bytes.bytes = search rules in
    let text = summary-is c.args.seed c.args.count c.in_ok-bytes.bytes c.as_str.result.now line
    c.in_ok-bytes.ensures.len in
    let before = g.O.Sink.taken c.args.out.now in
    let now = g.O.Sink.taken c.tell.new.out in
    let gives = subst (λ (w : List ℕ). GivesReply (record { status = 0; text = w }) before now c.tell.result) text
    c.tell.ensures.gives in
    λ is. inr (rw is at c.tell.ensures.failed, c.in_ok-bytes.ensures.written, rw is at gives)
