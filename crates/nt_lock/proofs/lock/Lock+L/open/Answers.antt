use Rattle.std.proofs.Common.{◌∙◌, ◌++◌, ◌∷◌, [], ap, sym, subst}
use Rattle.atomic_table.specs.Table.{opening}
use Rattle.nt_lock.specs.Rule.{LockRule}
use Rattle.nt_lock.specs.Steps.{opener}
use Rattle.nt_lock.proofs.Starting.{starts}
use Rattle.nt_lock.proofs.lock.Lock+L.open.Goals as goal

pub new-requires : goal.new-requires
new-requires g c =
    let kept = g.L.Told.kept in
    let key = c.of-key.result.value in
    let o = (kept key).origin in
    subst (λ xs. LockRule kept o (opening (0 ∷ 0 ∷ 0 ∷ []) xs (opener o)))
    (sym
    (c.push_reserved.ensures.items
    ∙ ap (λ l. l ++ c.args.locked ∷ []) (c.reserve.ensures.items ∙ c.new-slots.ensures.items)))
    (starts kept o c.args.locked (ap (λ x. (kept x).origin) (sym c.of-key.ensures)) c.requires.locked)
