use Rattle.nt_meta.proofs.Metas.{found-number}
use Rattle.nt_meta.proofs.meta.meta_id.Goals as goal

pub id-requires : goal.id-requires
id-requires c =
    found-number c.args.roster.now c.args.name.now c.in-Some.topic c.requires c.in-Some.ensures
