use Rattle.std.proofs.Common.{rules, ◌≡◌, ◌∙◌, [], ◌++◌, ap, sym, subst, arith}
use Rattle.std.specs.Option.{option_to_list}
use mathlib.Core.Option.{some-injective}
use Rattle.nt_lock.specs.Seats.{Closes}
use Rattle.nt_lock.specs.Passes.{Gathers}
use Rattle.nt_lock.proofs.Joining.{closes}
use Rattle.nt_lock.proofs.Closing.{gathers-first, first-here, gathers, next-here, some-hands, closes-all}
use Rattle.nt_lock.proofs.lock.Lock+L.close.Goals as goal

pub loop-seat-init : goal.loop-seat-init
loop-seat-init g c =
    let p = c.pass_of-pass.ensures in
    let lock = c.args.self.table.shared.table_id in
    let all = c.args.seats.items in
    let left = c.pop.new.self.items in
    let popped =
    sym c.reverse.ensures.items ∙ (c.pop.ensures.items ∙ ap (λ o. left ++ option_to_list o) c.unwrap.ensures) in (
      p.0 ∙ first-here all lock left c.unwrap.result c.requires popped,
      gathers-first all lock left c.unwrap.result c.pass_of-pass.result.me c.requires popped p.1,
    )

pub join_seat-requires : goal.join_seat-requires
join_seat-requires g c =
    let words = c.args.self.sized.0 in
    let lock = c.args.self.table.shared.table_id in
    let all = c.args.seats.items in
    let left = c.loop-seat.seats.items in
    let left' = c.pop-in-loop-seat.new.self.items in
    let popped = c.pop-in-loop-seat.ensures.items ∙ ap (λ o. left' ++ option_to_list o) c.in-Some.is in
    let p = c.pass_of.ensures in
    let inv = c.loop-seat.invariant in
    let m = c.loop-seat.pass.me in (
      inv.0,
      p.0 ∙ next-here all left left' c.in-Some.seat m popped inv.1 lock c.requires,
      ap (λ m. m.1) p.1,
      omega arith,
      closes g.L.Told.kept _ _ _ m.0 c.pass_of.result.me.0 (ap (λ m. m.0.stage) p.1) (some-hands all left m inv.1),
    )

pub loop-seat-preserved : goal.loop-seat-preserved
loop-seat-preserved g c =
    let all = c.args.seats.items in
    let left = c.loop-seat.seats.items in
    let left' = c.pop-in-loop-seat.new.self.items in
    let popped = c.pop-in-loop-seat.ensures.items ∙ ap (λ o. left' ++ option_to_list o) c.in-Some.is in
    let inv = c.loop-seat.invariant in (
      c.join_seat.ensures.0 ∙ inv.0,
      gathers all left left' c.in-Some.seat c.loop-seat.pass.me popped inv.1 c.pass_of.result.me c.join_seat.new.seat.me
          c.pass_of.ensures.1 c.join_seat.ensures.2,
    )

pub returns : goal.returns
returns g c =
    let kept = g.L.Told.kept in
    let lock = c.args.self.table.shared.table_id in
    let all = c.args.seats.items in
    let m = c.loop-seat.pass.me in
    let empty : c.loop-seat.seats.items ≡ [] = search rules in
    let done = subst (λ left. Gathers all left m) empty c.loop-seat.invariant.1 in
    let end = closes-all kept _ lock all _ m _ _ c.requires done c.close_with-closed.ensures.values.2 in
    subst (λ x. Closes all (kept x))
    (some-injective end.0 c.take-locked.result (sym end.1 ∙ c.take-locked.ensures.value)) end.2
