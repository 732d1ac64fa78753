use Rattle.std.proofs.Common.{rules}
use Rattle.std.proofs.lemmas.List.Sorted.{answers_always}
use Rattle.std.proofs.lemmas.Int.{to_z-of_z}
use Rattle.nt_rules.specs.declared.held.Held.{Held}
use Rattle.nt_client.specs.Kept.{id_of}
use Rattle.nt_client.proofs.Search.{found-at, searched}
use Rattle.nt_client.proofs.topics.place_of.Goals as goal

pub returns-in-Some : goal.returns-in-Some
returns-in-Some c =
    let facts = simp (to_z-of_z, c.ranges.id) at c.in-Some.ensures in
    found-at id_of c.args.id c.args.held.now c.in-Some.at c.requires facts.0 facts.1

pub returns-in-None : goal.returns-in-None
returns-in-None c =
    let facts = c.binary_search_by_key.ensures in
    let by_key = simp (to_z-of_z, c.ranges.id) at (facts.position (λ (h : Held). h.id)
    (answers_always _ _ _ (λ f a r g called. search rules))) in
    searched id_of c.args.id c.args.held.now c.binary_search_by_key.result c.requires facts.bound by_key
