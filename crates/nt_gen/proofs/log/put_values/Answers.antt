use Rattle.std.proofs.Common.{ℕ, ◌+◌, List, ◌++◌, length, sym, ap, subst, ◌∙◌, arith, length-append, rules}
use Rattle.std.proofs.lemmas.Result.{err_from_is_err_and}
use Rattle.rand_pcg.specs.Lcg.{Lcg}
use Rattle.rand_pcg.specs.Pcg.{pcg32}
use Rattle.nt_tools.specs.declared.status.ToolFault.TheVariants.{Memory}
use Rattle.nt_tools.specs.Printing.{HasPrinted, HasStopped}
use Rattle.nt_tools.proofs.Printing.{nothing-printed, printed-more, stopped-other}
use Rattle.nt_gen.specs.Generated.{generator}
use Rattle.nt_gen.specs.Parts.{begun, value_record}
use Rattle.nt_gen.proofs.Words.{state-none}
use Rattle.nt_gen.proofs.Items.{begun-none, log-begins, step-more}
use Rattle.nt_gen.proofs.Prefixes.{printed-longer, stopped-longer, stopped-after, later-later}
use Rattle.nt_gen.proofs.log.put_values.Goals as goal

pub loop-before-init : goal.loop-before-init
loop-before-init g c =
    let seed = c.args.seed in
    let bytes = c.args.draft.now.bytes.items in
    let taken = g.S.Sink.taken c.args.sink.now in
    record {
      drawn = c.seed_from_u64-draws.ensures ∙ sym (state-none Lcg pcg32 (generator seed));
      printed = subst (λ (w : List ℕ). HasPrinted w bytes taken taken) (c.requires.begun ∙ sym (begun-none seed))
          (nothing-printed bytes taken);
      len = c.requires.begun_len ∙ ap length (sym (begun-none seed));
      short = omega (arith, c.requires.begun_len);
      later = search rules;
    }

pub returns-in_err-put_value-clause-stopped : goal.returns-in_err-put_value-clause-stopped
returns-in_err-put_value-clause-stopped g c =
    let p = err_from_is_err_and c.from_residual.result c.from_residual.ensures.1 in
    let at = c.loop-before in
    let more = log-begins c.args.seed at.before c.args.count (omega (arith, c.loop-before-test.true)) in
    let before = g.S.Sink.taken c.args.sink.now in
    let now = g.S.Sink.taken at.sink in
    rw (p.1, p.2)
    (stopped-other _ (at.draft.bytes.items ++ more.0) Memory before now (λ is. cc)
    (subst (λ (w : List ℕ). HasPrinted w (at.draft.bytes.items ++ more.0) before now) (sym more.1)
    (printed-longer (begun c.args.seed at.before) at.draft.bytes.items more.0 before now at.invariant.printed)))

pub returns-in_err-write_full-clause-stopped : goal.returns-in_err-write_full-clause-stopped
returns-in_err-write_full-clause-stopped g c =
    let p = err_from_is_err_and c.from_residual-in_err-write_full.result
    c.from_residual-in_err-write_full.ensures.1 in
    let at = c.loop-before in
    let e = c.in_err-write_full.field-0.0 in
    let seed = c.args.seed in
    let step = step-more seed at.before c.next_word-word.result at.draws c.next_word-word.new.self
    c.next_word-word.ensures
    at.invariant.drawn in
    let more = log-begins seed (at.before + 1) c.args.count (omega (arith, c.loop-before-test.true)) in
    let line = value_record (at.before + 1) c.next_word-word.result in
    let before = g.S.Sink.taken c.args.sink.now in
    let mid = g.S.Sink.taken at.sink in
    let now = g.S.Sink.taken c.write_full.new.sink in
    let here : HasStopped (begun seed at.before ++ line) e before now =
    stopped-after (begun seed at.before) at.draft.bytes.items line e before mid now at.invariant.printed
    (subst (λ (w : List ℕ). HasStopped w e mid now) c.in_ok-put_value.ensures.bytes
    c.in_err-write_full.ensures.stopped) in
    rw (p.1, p.2)
    (subst (λ (w : List ℕ). HasStopped w e before now) (sym more.1)
    (stopped-longer (begun seed (at.before + 1)) more.0 e before now
    (subst (λ (w : List ℕ). HasStopped w e before now) step.0 here)))

pub returns-in_err-write_full-clause-sink : goal.returns-in_err-write_full-clause-sink
returns-in_err-write_full-clause-sink g c = later-later g.S.Sink.faults g.S.Sink.aside _ _ _
    c.loop-before.invariant.later c.write_full.ensures.sink

pub loop-before-preserved : goal.loop-before-preserved
loop-before-preserved g c =
    let at = c.loop-before in
    let i = at.invariant in
    let seed = c.args.seed in
    let put = c.in_ok-put_value.ensures in
    let wrote = c.in_ok-write_full.ensures in
    let step = step-more seed at.before c.next_word-word.result at.draws c.next_word-word.new.self
    c.next_word-word.ensures
    i.drawn in
    let line = value_record (at.before + 1) c.next_word-word.result in
    let left = c.write_full.new.self.bytes.items in
    let before = g.S.Sink.taken c.args.sink.now in
    let mid = g.S.Sink.taken at.sink in
    let now = g.S.Sink.taken c.write_full.new.sink in
    record {
      drawn = step.1;
      printed = subst (λ (w : List ℕ). HasPrinted w left before now) step.0
          (printed-more (begun seed at.before) at.draft.bytes.items line left before mid now i.printed
          (subst (λ (w : List ℕ). HasPrinted w left mid now) put.bytes wrote.ok));
      len = wrote.len ∙ put.len ∙ ap (λ (n : ℕ). n + length line) i.len
          ∙ sym (length-append (begun seed at.before) line) ∙ ap length step.0;
      short = omega (arith, wrote.len, put.len, put.short, i.short);
      later = later-later g.S.Sink.faults g.S.Sink.aside _ _ _ i.later wrote.sink;
    }
