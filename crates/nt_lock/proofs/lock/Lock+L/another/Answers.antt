use Rattle.std.proofs.Common.{◌≡◌, ◌-◌, [], ap, arith}
use Rattle.nt_lock.specs.Steps.{new_hand}
use Rattle.nt_lock.proofs.Coming.{opens}
use Rattle.nt_lock.proofs.lock.Lock+L.another.Goals as goal

pub split_seat-pass-requires : goal.split_seat-pass-requires
split_seat-pass-requires g c =
    let words = c.args.self.now.sized.0 in
    let first = c.requires.first in
    let n : c.args.first.now.me.0.known.opened ≡ c.args.worker - 1 = ap (λ m. m.0.known.opened) first in
    let a = c.requires.worker.0 in
    let b = c.requires.worker.1 in (
      c.requires.own,
      omega arith,
      opens g.L.Told.kept _ _ c.args.first.now.me.0 (new_hand 1) [] (ap (λ m. m.0.known.hands) first) (omega arith)
          (omega arith),
    )
