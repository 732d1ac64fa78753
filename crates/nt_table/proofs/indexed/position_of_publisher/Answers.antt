use Rattle.std.proofs.Common.{◌≡◌, ◌∙◌, ap, w64}
use Rattle.std.proofs.lemmas.Int.{to_z-of_z}
use Rattle.std.specs.List.{position}
use Rattle.nt_table.specs.Index.{id_of, is_at}
use Rattle.nt_table.proofs.indexed.position_of_publisher.Goals as goal

pub returns : goal.returns
returns c =
    let found : c.id_of.result ≡ id_of c.args.index.now c.args.conn c.args.uid =
    c.id_of.ensures ∙ ap (λ u. id_of c.args.index.now c.args.conn u) (to_z-of_z w64 c.args.uid c.ranges.uid) in
    c.position_at.ensures ∙ ap (λ o. position (is_at o) c.args.topics.now) found ∙ c.requires.indexed
