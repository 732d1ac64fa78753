use Rattle.std.proofs.Common.{◌≡◌, ◌∷◌, ◌++◌, drop, string_bytes}
use Rattle.std.specs.List.{flat_map}
use Rattle.nt_lines.specs.ItemLines.{listed}
use Rattle.nt_change_lines.proofs.value.append_elements.Given as goal

abbrev pub invariant-loop-part : goal.invariant-loop-part
invariant-loop-part g l =
    string_bytes l.out ++ flat_map (λ y. 44 ∷ g.T.Element.text y) (drop l.part-index l.rest)
    ≡ string_bytes l.fn.out ++ listed (g.T.Element.text) l.list
