use Rattle.std.proofs.Common.{◌≡◌, ℕ, ◌^◌, ◌%◌, []}
use Rattle.nt_lock.specs.declared.view.Stage.TheVariants.{Waiting}
use Rattle.nt_lock.specs.Steps.{view_of}
use Rattle.nt_lock.proofs.lock.Lock+L.enter.Given as goal

abbrev pub invariant-loop : goal.invariant-loop
invariant-loop g l =
    (l.pass.table_id ≡ l.fn.pass.table_id) × (l.pass.id ≡ l.fn.pass.id)
    × ((n : ℕ) × (l.ticket ≡ n % 2 ^ 64)
    × (l.pass.me ≡ (view_of l.fn.pass.me.0.origin (Waiting n) l.fn.pass.me.0.known, [])))
