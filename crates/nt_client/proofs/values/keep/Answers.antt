use Rattle.std.proofs.Common.{◌≡◌, ◌<◌, Some, true, false, length, List, ℕ, get_or, map, refl, sym, ◌∙◌, ap, rules, arith}
use Rattle.nt_frames.specs.declared.message.ValueMsg.{ValueMsg}
use Rattle.nt_topics.specs.Properties.{is_cached}
use Rattle.nt_rules.specs.declared.held.Held.{Held}
use Rattle.nt_rules.specs.telling.Told.{with_message}
use Rattle.nt_client.specs.Sorted.{IsFoundAt, IsMissedAt}
use Rattle.nt_client.specs.Kept.{id_of}
use Rattle.nt_client.proofs.Search.{within-found}
use Rattle.nt_client.proofs.Keeping.{at-set, value-kept, value-missed, value-passed}
use Rattle.std.proofs.lemmas.List.{get_or_default}
use Rattle.nt_client.proofs.values.keep.Goals as goal
use Rattle.nt_client.proofs.values.keep.Goals.{in_default-via-in-Err-1, in_default-via-in-Ok+else-cached}

-- a search that answers that an id is missed leaves all
unfound : (v : ValueMsg) (held : List Held) (i : ℕ) → IsMissedAt id_of v.id held i → held ≡ map (with_message v) held
unfound v held i at = sym (value-missed v held i at)

-- an item within the list is the same whatever stands past the list's end
same-item : (i : ℕ) (held : List Held) (h h-2 : Held) → i < length held → h ≡ get_or held i h
    → h-2 ≡ get_or held i h-2 → h ≡ h-2
same-item i held h h-2 lt e e-2 = e ∙ get_or_default held i h h-2 lt ∙ sym e-2

pub index-requires : goal.index-requires
index-requires c =
    let found : IsFoundAt id_of c.args.msg.id c.args.held.now.items c.in-Ok.at = search rules in
    let lt = within-found id_of c.args.msg.id c.args.held.now.items c.in-Ok.at found in
    let len = c.args.held.now.ok.0 in
    omega arith

pub index_mut-requires : goal.index_mut-requires
index_mut-requires c =
    let found : IsFoundAt id_of c.args.msg.id c.args.held.now.items c.in-Ok.at = search rules in
    let lt = within-found id_of c.args.msg.id c.args.held.now.items c.in-Ok.at found in
    let len = c.args.held.now.ok.0 in
    omega arith

pub returns-then-cached : goal.returns-then-cached
returns-then-cached c =
    let found : IsFoundAt id_of c.args.msg.id c.args.held.now.items c.in-Ok.at = search rules in
    let within : c.in-Ok.at < length c.args.held.now.items =
    within-found id_of c.args.msg.id c.args.held.now.items c.in-Ok.at found in
    let cached : is_cached c.index_mut.result.now.props ≡ true =
    ap (λ (h : Held). is_cached h.props) (same-item c.in-Ok.at c.args.held.now.items c.index_mut.result.now
    c.index.result.now within c.index_mut.ensures.value c.index.ensures)
    ∙ sym c.cached.ensures ∙ c.if-cached.true in
    at-set (λ (h : Held). record h { value = Some (record { time = c.args.msg.time; value = c.args.msg.value }) })
    c.in-Ok.at c.args.held.now.items c.index_mut.result.now _ within c.index_mut.ensures.value refl
    ∙ sym (value-kept c.args.msg c.args.held.now.items c.in-Ok.at c.index_mut.result.now found
    c.index_mut.ensures.value cached)

pub returns-in_default : goal.returns-in_default
returns-in_default c =
    elim c.in_default.branch [
      | in_default-via-in-Err-1 w ↦
          search (rules, unfound)
      | in_default-via-in-Ok+else-cached w ↦
          let found : IsFoundAt id_of c.args.msg.id c.args.held.now.items w.in-Ok.at = search rules in
          let cached : is_cached w.index.result.now.props ≡ false = search rules in
          sym (value-passed c.args.msg c.args.held.now.items w.in-Ok.at w.index.result.now found w.index.ensures cached)
    ]
