use Rattle.std.proofs.Common.{◌≡◌, ◌++◌, map, drop}
use Rattle.nt_msgpack.specs.Atoms.{text}
use Rattle.nt_rules.specs.meta.Elements.{spelled, texts_atoms}
use Rattle.nt_meta.proofs.put.put_names.Given as goal

-- what was written and the names that are left are all
abbrev pub invariant-loop-name : goal.invariant-loop-name
invariant-loop-name l =
    l.out.items ++ spelled (map text (drop l.name-index l.names)) ≡ l.fn.out.items
    ++ spelled (texts_atoms l.names)
