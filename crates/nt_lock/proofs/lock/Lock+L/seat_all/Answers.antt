use Rattle.std.proofs.Common.{◌≡◌, ◌+◌, ◌++◌, ◌∷◌, [], ap, ◌∙◌, arith}
use Rattle.nt_lock.specs.Seats.{new_seat}
use Rattle.nt_lock.specs.Passes.{first_pass}
use Rattle.nt_lock.proofs.Opening.{others-more}
use Rattle.nt_lock.proofs.lock.Lock+L.seat_all.Goals as goal

pub loop-made-preserved : goal.loop-made-preserved
loop-made-preserved g c =
    let inv = c.loop-made.invariant in
    let some-made = inv.2 in
    let less = c.loop-made-test.true in
    let len = inv.5 in
    let pushed = c.push_reserved.ensures.len in
    let lock = c.args.self.now.table.shared.table_id in
    let o = c.args.first.me.0.origin in
    let from : c.loop-made.first.me.0.origin ≡ o = ap (λ m. m.0.origin) inv.1 in (
      c.another.ensures.own ∙ inv.0,
      c.another.ensures.first ∙ ap (λ o. first_pass o (c.loop-made.made + 1)) from,
      omega arith,
      omega arith,
      c.push_reserved.ensures.items
          ∙ ((λ i.
          inv.4 i
          ++ (c.another.ensures.seat ∙ ap (λ o. new_seat lock o (c.loop-made.made + 1) 0) from) i ∷ [])
          ∙ others-more lock o c.loop-made.made some-made),
      omega arith,
      c.push_reserved.ensures.capacity ∙ inv.6,
    )
