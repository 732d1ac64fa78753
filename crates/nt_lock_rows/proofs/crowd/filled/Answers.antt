use Rattle.std.proofs.Common.{rules, ◌≡◌, ◌∙◌, length}
use Rattle.nt_lock_rows.proofs.Crowds.{new-own, all-kept}
use Rattle.nt_lock_rows.proofs.crowd.filled.Goals as goal

pub put_all-requires-clause-own : goal.put_all-requires-clause-own
put_all-requires-clause-own g c κs within =
    new-own _ _ _ _ (c.as_mut_slice.ensures.value ∙ c.in-Ok.ensures.seats)

pub close-requires : goal.close-requires
close-requires g c =
    let before = c.as_mut_slice.result.now in
    let same : length c.put_all.new.seats ≡ length before = search rules in
    let long : c.in-Ok.seats.len ≡ length before = search rules in
    all-kept _ _ _ _ _ _ _ (c.as_mut_slice.ensures.value ∙ c.in-Ok.ensures.seats) c.requires.workers.0 same long
    c.put_all.ensures
