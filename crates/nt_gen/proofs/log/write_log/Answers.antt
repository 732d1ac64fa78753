use Rattle.std.proofs.Common.{ℕ, ◌+◌, List, ◌++◌, length, sym, ap, subst, ◌∙◌, length-append}
use Rattle.std.proofs.lemmas.Result.{err_from_is_err_and}
use Rattle.std.specs.Io.KnownBytes.{Appends}
use Rattle.nt_tools.specs.declared.status.ToolFault.TheVariants.{Memory}
use Rattle.nt_tools.specs.Printing.{HasPrinted, HasStopped}
use Rattle.nt_tools.proofs.Printing.{nothing-printed, stopped-other, print-stopped}
use Rattle.nt_gen.specs.Parts.{begun, last_record}
use Rattle.nt_gen.proofs.Items.{begun-end}
use Rattle.nt_gen.proofs.Prefixes.{printed-longer, printed-all, stopped-after}
use Rattle.nt_gen.proofs.log.write_log.Goals as goal

pub returns-in_err-draft-clause-stopped : goal.returns-in_err-draft-clause-stopped
returns-in_err-draft-clause-stopped g c =
    let p = err_from_is_err_and c.from_residual.result c.from_residual.ensures.1 in
    rw (p.1, p.2) (stopped-other _ _ Memory _ _ (λ is. cc) (nothing-printed _ _))

pub returns-in_err-put_last-clause-stopped : goal.returns-in_err-put_last-clause-stopped
returns-in_err-put_last-clause-stopped g c =
    let p = err_from_is_err_and c.from_residual-in_err-put_last.result
    c.from_residual-in_err-put_last.ensures.1 in
    let rest = c.put_values.new.draft.bytes.items in
    let last = last_record c.args.count in
    let before = g.S.Sink.taken c.args.sink.now in
    let now = g.S.Sink.taken c.put_values.new.sink in
    rw (p.1, p.2)
    (stopped-other _ (rest ++ last) Memory before now (λ is. cc)
    (subst (λ (w : List ℕ). HasPrinted w (rest ++ last) before now) (begun-end c.args.seed c.args.count)
    (printed-longer (begun c.args.seed c.args.count) rest last before now c.in_ok-put_values.ensures.printed)))

pub returns-in_err-write-clause-stopped : goal.returns-in_err-write-clause-stopped
returns-in_err-write-clause-stopped g c =
    let p = err_from_is_err_and c.from_residual-in_err-write.result c.from_residual-in_err-write.ensures.1 in
    let e = c.in_err-write.field-0.0 in
    let rest = c.put_values.new.draft.bytes.items in
    let last = last_record c.args.count in
    let before = g.S.Sink.taken c.args.sink.now in
    let mid = g.S.Sink.taken c.put_values.new.sink in
    let now = g.S.Sink.taken c.write.new.sink in
    let here : HasStopped (rest ++ last) e mid now =
    print-stopped (rest ++ last) c.deref.result.now mid now e (c.deref.ensures.value ∙ c.in_ok-put_last.ensures.bytes)
    c.in_err-write.ensures.only c.in_err-write.ensures.prints in
    rw (p.1, p.2)
    (subst (λ (w : List ℕ). HasStopped w e before now) (begun-end c.args.seed c.args.count)
    (stopped-after (begun c.args.seed c.args.count) rest last e before mid now c.in_ok-put_values.ensures.printed here))

pub returns-clause-written : goal.returns-clause-written
returns-clause-written g c =
    let rest = c.put_values.new.draft.bytes.items in
    let last = last_record c.args.count in
    let before = g.S.Sink.taken c.args.sink.now in
    let mid = g.S.Sink.taken c.put_values.new.sink in
    let now = g.S.Sink.taken c.write.new.sink in
    subst (Appends before now) (begun-end c.args.seed c.args.count)
    (printed-all (begun c.args.seed c.args.count) rest last before mid now c.in_ok-put_values.ensures.printed
    (subst (Appends mid now) (c.deref.ensures.value ∙ c.in_ok-put_last.ensures.bytes) c.in_ok-write.ensures.prints))

pub returns-clause-len : goal.returns-clause-len
returns-clause-len g c =
    let last = last_record c.args.count in
    c.in_ok-put_last.ensures.len ∙ ap (λ (n : ℕ). n + length last) c.in_ok-put_values.ensures.len
    ∙ sym (length-append (begun c.args.seed c.args.count) last) ∙ ap length (begun-end c.args.seed c.args.count)
