use Rattle.std.proofs.Common.{◌≡◌, ◌++◌, [], List, drop, sym, ◌∙◌, ap, map}
use Rattle.std.proofs.lemmas.List.{drop_all}
use Rattle.nt_client.specs.declared.queue.Run.{Run}
use Rattle.nt_client.specs.Outgoing.{frames_of, laid}
use Rattle.nt_client.proofs.Runs.{append-none}
use Rattle.nt_client.proofs.queue.Queue.frames.Goals as goal

pub returns : goal.returns
returns c =
    let none : drop c.loop-run.run-index c.deref-run-items.result.now ≡ [] =
    drop_all c.loop-run.run-index c.deref-run-items.result.now c.loop-run-test.false in
    sym (append-none c.loop-run.frames.items)
    ∙ ap (λ (rs : List Run). c.loop-run.frames.items ++ map laid rs) (sym none)
    ∙ c.loop-run.invariant
    ∙ ap (map laid) (c.deref-run-items.ensures.value ∙ c.self.invariant) ∙ ap frames_of c.self.view_is
