use Rattle.std.proofs.Common.{◌∷◌, map, take}
use Rattle.nt_msgpack.specs.Atoms.{array_head}
use Rattle.nt_frames.proofs.Written.{Listed}
use Rattle.nt_frames.proofs.write.put_list.Given as goal

-- the head and the elements so far were written
abbrev pub invariant-loop-item : goal.invariant-loop-item
invariant-loop-item g l =
    Listed g.T.Element.number l.fn.out.items l.out.items
    (array_head l.count ∷ map g.T.Element.written (take l.item-index l.list))
    (map g.T.Element.written (take l.item-index l.list))
