use Rattle.std.proofs.Common.{◌≡◌, ◌+◌, ℕ, List, Some, cond, sym, subst, rules}
use Rattle.std.specs.Str.{bytes_eq}
use Rattle.nt_table.specs.Index.{id_named, IsIndexed}
use Rattle.nt_table.proofs.Steps.{indexed-restored}
use Rattle.nt_table.proofs.indexed.restore.Goals as goal

pub returns-clause-indexed : goal.returns-clause-indexed
returns-clause-indexed c =
    let named : (n : List ℕ) → id_named c.note_name.new.self n
    ≡ cond (bytes_eq c.args.saved.name n) (Some c.args.next.now) (id_named c.args.index.now n) =
    search rules in
    subst (λ n. IsIndexed c.note_name.new.self c.restore.new.topics.items n) (sym c.in_ok-changes.ensures.next)
    (subst (λ ts. IsIndexed c.note_name.new.self ts (c.args.next.now + 1)) (sym c.in_ok-changes.ensures.topics)
    (indexed-restored c.args.index.now c.args.topics.now.items c.args.next.now c.requires.indexed c.note_name.new.self
    c.args.saved named c.in_ok-note_name.ensures.conns c.requires.unnamed))
