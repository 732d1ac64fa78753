use Rattle.std.proofs.Common.{◌≡◌, ◌++◌, pos, rules}
use Rattle.std.proofs.lemmas.Result.{on_ok_weaker}
use Rattle.std.specs.List.{flat_map}
use Rattle.nt_values.specs.Types.{value_number}
use Rattle.nt_msgpack.specs.Atoms.{int, array_head, shortest}
use Rattle.nt_frames.specs.Frames.{wire_of}
use Rattle.nt_frames.proofs.Written.{five}
use Rattle.nt_frames.proofs.write.put_message.Goals as goal

pub returns-clause-ok : goal.returns-clause-ok
returns-clause-ok c =
    let id : c.put_atom-2.new.out.items ≡ c.put_atom.new.out.items ++ shortest (int c.args.message.now.id) =
    search rules in
    let time : c.put_atom-3.new.out.items ≡ c.put_atom-2.new.out.items ++ shortest (int (pos c.args.message.now.time)) =
    search rules in
    let number : c.put_atom-4.new.out.items ≡ c.put_atom-3.new.out.items
    ++ shortest (int (pos (value_number c.args.message.now.value))) =
    search rules in
    on_ok_weaker c.put_value.result
    (five c.args.out.now.items c.put_atom.new.out.items c.put_atom-2.new.out.items c.put_atom-3.new.out.items
    c.put_atom-4.new.out.items
    c.put_value.new.out.items (shortest (array_head 4)) (shortest (int c.args.message.now.id))
    (shortest (int (pos c.args.message.now.time))) (shortest (int (pos (value_number c.args.message.now.value))))
    (flat_map shortest (wire_of c.args.message.now.value)) c.in_ok-put_atom.ensures.ok id time number)
    c.put_value.ensures.ok
