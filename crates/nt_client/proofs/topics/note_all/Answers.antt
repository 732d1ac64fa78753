use Rattle.std.proofs.Common.{◌≡◌, ℕ, [], List, drop, w64, sym, subst, rules}
use Rattle.std.specs.Prelude.{FitsSigned}
use Rattle.std.proofs.lemmas.Int.{to_z-of_z}
use Rattle.std.proofs.lemmas.List.{drop_all}
use Rattle.nt_rules.specs.declared.held.Held.{Held}
use Rattle.nt_client.specs.Names.{IsNoted}
use Rattle.nt_client.specs.Kept.{AreNoted}
use Rattle.nt_client.proofs.Storing.{noted-next}
use Rattle.nt_client.proofs.topics.note_all.Goals as goal

pub loop-topic-init : goal.loop-topic-init
loop-topic-init c = record { in_order = c.requires; all = λ names stays all. all }

pub loop-topic-preserved : goal.loop-topic-preserved
loop-topic-preserved c =
    let topic : Held = c.topic-item.result in
    let fits : FitsSigned w64 topic.id = search rules in
    let here : IsNoted c.note.new.self topic.name topic.id =
    subst (λ (n : List ℕ). IsNoted c.note.new.self n topic.id) c.as_str.ensures
    (simp (to_z-of_z, fits) at c.in_ok-note.ensures.noted) in
    record {
      in_order = c.note.ensures.in_order;
      all = λ names stays rest. c.loop-topic.invariant.all names
          (λ n k h. stays n k (c.note.ensures.others n k h))
          (noted-next names c.args.held.now c.loop-topic.topic-index topic c.loop-topic-test.true c.topic-item.is
          (stays topic.name topic.id here) rest);
    }

pub returns-clause-noted : goal.returns-clause-noted
returns-clause-noted c =
    let none : drop c.loop-topic.topic-index c.args.held.now ≡ [] =
    drop_all c.loop-topic.topic-index c.args.held.now c.loop-topic-test.false in
    c.loop-topic.invariant.all c.loop-topic.names (λ n k h. h)
    (subst (λ (hs : List Held). AreNoted c.loop-topic.names hs) (sym none) tt)
