use Rattle.std.proofs.lemmas.Result.{on_ok_weaker}
use Rattle.nt_meta.proofs.Appends.{map-more}
use Rattle.nt_meta.proofs.put.put_map.Goals as goal

pub returns-clause-more : goal.returns-clause-more
returns-clause-more c =
    on_ok_weaker c.put_atom.result (map-more c.args.count c.args.out.now.items c.put_atom.new.out.items)
    c.put_atom.ensures.ok
