use Rattle.std.proofs.Common.{◌≡◌, ℤ, ◌+◌, ◌-◌, ◌^◌, ◌<◌, ◌≤◌, ◌∙◌, ap, sym, false, length, subst, arith, lit<, w64}
use Rattle.std.proofs.lemmas.Int.{to_z-of_z}
use Rattle.std.specs.Prelude.{insert}
use Rattle.nt_subs.specs.Index.{IsIndexed}
use Rattle.nt_subs.specs.Subscriptions.{IsKept, are_within, size_of, with_sub}
use Rattle.nt_subs.specs.declared.sub.Sub.{Sub}
use Rattle.nt_subs.proofs.Limits.{refused, taken_new, many_new, large_new, fits_new, kept_new, not_cut, passes}
use Rattle.nt_subs.proofs.Indexed.{room, indexed_new}
use Rattle.nt_subs.proofs.Indices.{gap}
use Rattle.nt_subs.proofs.set.SubSet.insert.Goals as goal
use Rattle.nt_subs.proofs.set.SubSet.insert.Goals.{then-len-ge-MOST_SUBS-via-then-len-ge-MOST_SUBS, then-len-ge-MOST_SUBS-via-else-len-ge-MOST_SUBS+then-self-size}

pub returns-then-len-ge-MOST_SUBS : goal.returns-then-len-ge-MOST_SUBS
returns-then-len-ge-MOST_SUBS c =
    let uid = c.args.uid in
    let sub = c.args.sub in
    let subs = c.args.self.now in
    let held = c.self.inside.size in
    let kept : IsKept subs held = subst (λ s. IsKept s held) c.self.view_is c.self.invariant.0 in
    let count : c.len.result ≡ length subs =
    let n = ap length c.self.view_is in let m = c.len.ensures in omega arith in
    let within : held ≤ 131_072 = let counted = kept.counted in let small = kept.small in omega arith in
    let no_room : are_within (with_sub uid sub subs) ≡ false =
    elim c.then-len-ge-MOST_SUBS.branch [
      | then-len-ge-MOST_SUBS-via-then-len-ge-MOST_SUBS w ↦
          many_new uid sub subs held c.args.index kept c.requires
          (let full = w.if-len-ge-MOST_SUBS.true in omega arith)
      | then-len-ge-MOST_SUBS-via-else-len-ge-MOST_SUBS+then-self-size w ↦
          large_new uid sub subs held c.args.index kept c.requires
          (passes (size_of sub) (2 ^ 64 - 1) held within
          (subst (λ n. 131_072 - held < n) c.size-size.ensures w.if-self-size.true))
    ] in
    let said = refused uid sub subs no_room in
    record { answer = said.0; subs = said.1; err = tt }

pub note-requires : goal.note-requires
note-requires c =
    let held = c.self.inside.size in
    let kept = c.self.invariant.0 in
    let within : held ≤ 131_072 = let counted = kept.counted in let small = kept.small in omega arith in
    let small = subst (λ n. n ≤ 131_072 - held) c.size-size.ensures c.if-self-size.false in
    let fits = not_cut (size_of c.args.sub) (2 ^ 64 - 1) held (lit< tt) within small in
    room c.self.inside.names c.self.inside.entries.items c.args.sub c.self.invariant.1 kept.small
    (let all = fits.1 in omega arith)

pub insert-requires : goal.insert-requires
insert-requires c =
    let kept = subst (λ s. IsKept s c.self.inside.size) c.self.view_is c.self.invariant.0 in
    let within = (gap c.args.uid c.args.self.now c.args.index kept.by_uid c.requires).within in
    let count = ap length c.self.view_is in omega arith

-- what the set kept
kept_of : (c : goal.After-self-1) → IsKept c.args.self.now c.self.inside.size
kept_of c = subst (λ s. IsKept s c.self.inside.size) c.self.view_is c.self.invariant.0

-- there is room for the subscription
room_of : (c : goal.After-self-1) → (c.size-size.result ≡ size_of c.args.sub)
    × (c.self.inside.size + size_of c.args.sub ≤ 131_072) × (length c.args.self.now < 1024)
room_of c =
    let held = c.self.inside.size in
    let within : held ≤ 131_072 =
    let counted = (kept_of c).counted in let small = (kept_of c).small in omega arith in
    let small = subst (λ n. n ≤ 131_072 - held) c.size-size.ensures c.if-self-size.false in
    let room = not_cut (size_of c.args.sub) (2 ^ 64 - 1) held (lit< tt) within small in
    let few : length c.args.self.now < 1024 =
    let n = ap length c.self.view_is in
    let m = c.len.ensures in
    let less = c.if-len-ge-MOST_SUBS.false in omega arith in
    (c.size-size.ensures ∙ room.0, room.1, few)

-- it stands at its uid now
new_of : (c : goal.After-self-1) → c.insert.new.self.items ≡ with_sub c.args.uid c.args.sub c.args.self.now
new_of c =
    let index = c.args.index in
    let entry : ℤ × Sub = (c.args.uid, c.args.sub) in
    let here = gap c.args.uid c.args.self.now index (kept_of c).by_uid c.requires in
    rw (to_z-of_z w64 c.args.uid c.ranges.uid) at c.in_default.ensures.items
    ∙ ap (λ xs. insert xs index entry) c.self.view_is
    ∙ sym (here.put c.args.sub)

pub invariant_of-self-2 : goal.invariant_of-self-2
invariant_of-self-2 c =
    let room = room_of c in
    let here = gap c.args.uid c.args.self.now c.args.index (kept_of c).by_uid c.requires in
    let right : IsIndexed c.self.inside.names c.args.self.now =
    subst (IsIndexed c.self.inside.names) c.self.view_is c.self.invariant.1 in
    rw (new_of c, room.0) (
      kept_new c.args.uid c.args.sub c.args.self.now c.self.inside.size c.args.index
          (kept_of c) c.requires room.2 room.1,
      indexed_new c.self.inside.names c.note.new.self c.args.uid c.args.sub c.args.self.now (kept_of c).by_uid right
          c.in_ok-note.ensures.ok here.missing,
    )

pub returns : goal.returns
returns c =
    let uid = c.args.uid in
    let sub = c.args.sub in
    let subs = c.args.self.now in
    let here = gap uid subs c.args.index (kept_of c).by_uid c.requires in
    let room = room_of c in
    let fits = fits_new uid sub subs c.self.inside.size c.args.index (kept_of c) c.requires room.2 room.1 in
    let said = taken_new uid sub subs fits here.missing in
    record { answer = said.0; subs = new_of c ∙ said.1; err = tt }
