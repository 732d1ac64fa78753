use Rattle.std.proofs.Common.{◌≡◌, ◌+◌, ◌∷◌, List, subst, sym, ℕ}
use Rattle.nt_rules.specs.declared.topic.Topic.{Topic}
use Rattle.nt_rules.specs.declared.topic.Saved.{Saved}
use Rattle.nt_server.proofs.Restoring.{IsRestoring, restoring-more}
use Rattle.nt_server.proofs.restore.restored.Goals as goal

pub loop-one-preserved : goal.loop-one-preserved
loop-one-preserved c =
    let t = c.loop-one.table in
    let saved : List Saved = c.args.saved.items in
    let rest : List Saved = c.next.new.self.rest.items in
    let items : c.loop-one.one-iterator.rest.items ≡ c.in-Some.one ∷ rest = c.in-Some.ensures.steps.0 in
    let h : IsRestoring t.topics t.next (c.in-Some.one ∷ rest) saved =
    subst (λ (xs : List Saved). IsRestoring t.topics t.next xs saved) items c.loop-one.invariant in
    subst (λ (n : ℕ). IsRestoring c.begin.new.table.topics n rest saved) (sym c.in_ok-begin.ensures.next) (
    subst (λ (ts : List Topic). IsRestoring ts (t.next + 1) rest saved) (sym c.in_ok-begin.ensures.topics) (
    restoring-more t.topics t.next c.in-Some.one rest saved c.in_ok-begin.ensures.tree h))
