use Rattle.std.proofs.Common.{◌≡◌, map, drop}
use Rattle.nt_meta.specs.Packing.{with_elements}
use Rattle.nt_meta.proofs.list.Packed.with_all.Given as goal

-- with the elements that are left it is what it is with all
abbrev pub invariant-loop-element : goal.invariant-loop-element
invariant-loop-element g l =
    with_elements l.packed (map g.E.Element.atoms (drop l.element-index l.elements))
    ≡ with_elements l.fn.self (map g.E.Element.atoms l.elements)
