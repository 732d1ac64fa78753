use Rattle.std.proofs.Common.{true, false, length, sym, subst}
use Rattle.nt_subs.specs.Index.{HasRoom}
use Rattle.nt_subs.proofs.Indexed.{noted_prefix, noted_exact, same_prefixes, same_exact, on_ok, on_err}
use Rattle.nt_subs.proofs.index.Index.note.Goals as goal

pub note_all-requires : goal.note_all-requires
note_all-requires c =
    subst (λ l. HasRoom (length l) c.args.self.now.prefixes) (sym c.as_slice.ensures) (c.requires true)

pub note_all-requires-else-sub : goal.note_all-requires-else-sub
note_all-requires-else-sub c =
    subst (λ l. HasRoom (length l) c.args.self.now.exact) (sym c.as_slice-else-sub.ensures) (c.requires false)

pub returns-then-sub-clause-ok : goal.returns-then-sub-clause-ok
returns-then-sub-clause-ok c =
    on_ok c.note_all.result
    (λ h. noted_prefix c.args.self.now c.note_all.new.self c.args.sub.now c.strength-wish.result
    c.as_slice.result.now c.strength-wish.ensures c.as_slice.ensures c.if-sub.true h)
    c.note_all.ensures.ok

pub returns-then-sub-clause-err : goal.returns-then-sub-clause-err
returns-then-sub-clause-err c =
    on_err c.note_all.result (λ h. same_prefixes c.args.self.now c.note_all.new.self h) c.note_all.ensures.err

pub returns-else-sub-clause-ok : goal.returns-else-sub-clause-ok
returns-else-sub-clause-ok c =
    on_ok c.note_all-else-sub.result
    (λ h. noted_exact c.args.self.now c.note_all-else-sub.new.self c.args.sub.now c.strength-wish.result
    c.as_slice-else-sub.result.now c.strength-wish.ensures c.as_slice-else-sub.ensures c.if-sub.false h)
    c.note_all-else-sub.ensures.ok

pub returns-else-sub-clause-err : goal.returns-else-sub-clause-err
returns-else-sub-clause-err c =
    on_err c.note_all-else-sub.result (λ h. same_exact c.args.self.now c.note_all-else-sub.new.self h)
    c.note_all-else-sub.ensures.err
