use Rattle.std.proofs.Common.{◌≡◌, ◌<◌, true, false, length, rules}
use Rattle.std.proofs.lemmas.Int.{to_z-of_z}
use Rattle.nt_rules.specs.telling.Told.{is_called}
use Rattle.nt_client.specs.Kept.{id_of}
use Rattle.nt_client.proofs.Search.{within-found}
use Rattle.nt_client.proofs.Calling.{called-at, nowhere-found, nowhere-missed}
use Rattle.nt_client.proofs.topics.place_called.Goals as goal

pub offset_bounds-held-at : goal.offset_bounds-held-at
offset_bounds-held-at c =
    let found = simp (to_z-of_z, c.ranges.id) at c.in-Ok.ensures in
    let within : c.in-Ok.at < length c.args.held.now = within-found id_of c.args.id c.args.held.now c.in-Ok.at found in
    search rules

pub bounds-held-at : goal.bounds-held-at
bounds-held-at c =
    let found = simp (to_z-of_z, c.ranges.id) at c.in-Ok.ensures in
    within-found id_of c.args.id c.args.held.now c.in-Ok.at found

pub returns-then-eq : goal.returns-then-eq
returns-then-eq c =
    let found = simp (to_z-of_z, c.ranges.id) at c.in-Ok.ensures in
    let called : is_called c.args.name.now c.index-held-at.result ≡ true = search rules in
    called-at c.args.id c.args.name.now c.args.held.now c.in-Ok.at c.index-held-at.result found c.index-held-at.is
    called

pub returns-else-eq : goal.returns-else-eq
returns-else-eq c =
    let found = simp (to_z-of_z, c.ranges.id) at c.in-Ok.ensures in
    let other : is_called c.args.name.now c.index-held-at.result ≡ false = search rules in
    nowhere-found c.args.id c.args.name.now c.args.held.now c.in-Ok.at c.index-held-at.result found c.index-held-at.is
    other

pub returns-in-Err : goal.returns-in-Err
returns-in-Err c =
    let missed = simp (to_z-of_z, c.ranges.id) at c.in-Err.ensures in
    nowhere-missed c.args.id c.args.name.now c.args.held.now c.in-Err.field-0 missed
