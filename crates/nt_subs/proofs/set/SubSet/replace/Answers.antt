use Rattle.std.proofs.Common.{◌≡◌, ℤ, ◌+◌, ◌-◌, ◌^◌, ◌≤◌, ◌<◌, ap, sym, subst, ◌∙◌, get_or, length, min, arith, lit<, w64, to_z, of_z}
use Rattle.std.specs.Prelude.{slice_set}
use Rattle.std.proofs.lemmas.Int.{to_z-of_z}
use Rattle.nt_subs.specs.Index.{IsIndexed}
use Rattle.nt_subs.specs.Subscriptions.{IsKept, size_of, with_sub}
use Rattle.nt_subs.specs.declared.sub.Sub.{Sub}
use Rattle.nt_subs.proofs.Limits.{refused, taken_replaced, found_old, size_old, within_old, large_replaced, fits_replaced, kept_replaced, not_cut, passes}
use Rattle.nt_subs.proofs.Indexed.{room, indexed_replaced}
use Rattle.nt_subs.proofs.Indices.{stands}
use Rattle.nt_subs.proofs.set.SubSet.replace.Goals as goal

pub index-requires : goal.index-requires
index-requires c =
    let kept = subst (λ s. IsKept s c.self.inside.size) c.self.view_is c.self.invariant.0 in
    let within = (stands c.args.uid c.args.self.now c.args.index kept.by_uid c.requires).within in
    let count = ap length c.self.view_is in omega arith

pub overflow_sub-others : goal.overflow_sub-others
overflow_sub-others c =
    let subs = c.args.self.now in
    let held = c.self.inside.size in
    let entry = c.index.result.now in
    let kept = subst (λ s. IsKept s held) c.self.view_is c.self.invariant.0 in
    let at_index : entry ≡ get_or subs c.args.index entry =
    subst (λ s. entry ≡ get_or s c.args.index entry) c.self.view_is c.index.ensures in
    let old = size_old c.args.uid subs held c.args.index kept c.requires entry at_index (2 ^ 64 - 1)
    (lit< tt) in
    let size = c.size.ensures in omega arith

pub returns-then-others-size : goal.returns-then-others-size
returns-then-others-size c =
    let uid = c.args.uid in
    let sub = c.args.sub in
    let subs = c.args.self.now in
    let index = c.args.index in
    let held = c.self.inside.size in
    let entry = c.index.result.now in
    let kept = subst (λ s. IsKept s held) c.self.view_is c.self.invariant.0 in
    let at_index : entry ≡ get_or subs index entry =
    subst (λ s. entry ≡ get_or s index entry) c.self.view_is c.index.ensures in
    let old = size_old uid subs held index kept c.requires entry at_index (2 ^ 64 - 1) (lit< tt) in
    let others : c.size.result ≡ size_of entry.1 = c.size.ensures ∙ old.0 in
    let taken = held - size_of entry.1 in
    let more : 131_072 - taken < min (size_of sub) (2 ^ 64 - 1) =
    subst (λ n. 131_072 - (held - n) < min (size_of sub) (2 ^ 64 - 1)) others
    (subst (λ n. 131_072 - (held - c.size.result) < n) c.size-size.ensures c.if-others-size.true) in
    let within = within_old uid subs held index kept c.requires entry at_index in
    let past = passes (size_of sub) (2 ^ 64 - 1) taken within more in
    let said = refused uid sub subs
    (large_replaced uid subs held index kept c.requires entry at_index sub past) in
    record { answer = said.0; subs = said.1; err = tt }

pub index_mut-requires : goal.index_mut-requires
index_mut-requires c =
    let kept = subst (λ s. IsKept s c.self.inside.size) c.self.view_is c.self.invariant.0 in
    let within = (stands c.args.uid c.args.self.now c.args.index kept.by_uid c.requires).within in
    let count = ap length c.self.view_is in omega arith

pub note-requires : goal.note-requires
note-requires c =
    let held = c.self.inside.size in
    let kept = c.self.invariant.0 in
    let within : held - c.size.result ≤ 131_072 =
    let counted = kept.counted in let small = kept.small in omega arith in
    let small = subst (λ n. n ≤ 131_072 - (held - c.size.result)) c.size-size.ensures c.if-others-size.false in
    let fits = not_cut (size_of c.args.sub) (2 ^ 64 - 1) (held - c.size.result) (lit< tt) within small in
    room c.self.inside.names c.self.inside.entries.items c.args.sub c.self.invariant.1 kept.small
    (let all = fits.1 in omega arith)

-- what the set kept
kept_of : (c : goal.After-self-2-1) → IsKept c.args.self.now c.self.inside.size
kept_of c = subst (λ s. IsKept s c.self.inside.size) c.self.view_is c.self.invariant.0

-- what stood at the index
entry_of : (c : goal.After-self-2-1) → c.index.result.now
    ≡ get_or c.args.self.now c.args.index c.index.result.now
entry_of c =
    let entry = c.index.result.now in
    subst (λ s. entry ≡ get_or s c.args.index entry) c.self.view_is c.index.ensures

-- there is room for the subscription
room_of : (c : goal.After-self-2-1)
    → (c.self.inside.size - c.size.result + c.size-size.result
    ≡ (c.self.inside.size - size_of c.index.result.now.1) + size_of c.args.sub)
    × ((c.self.inside.size - size_of c.index.result.now.1) + size_of c.args.sub ≤ 131_072)
room_of c =
    let uid = c.args.uid in
    let subs = c.args.self.now in
    let index = c.args.index in
    let held = c.self.inside.size in
    let entry = c.index.result.now in
    let old = size_old uid subs held index (kept_of c) c.requires entry (entry_of c) (2 ^ 64 - 1)
    (lit< tt) in
    let others : c.size.result ≡ size_of entry.1 = c.size.ensures ∙ old.0 in
    let taken = held - size_of entry.1 in
    let small : min (size_of c.args.sub) (2 ^ 64 - 1) ≤ 131_072 - taken =
    subst (λ n. min (size_of c.args.sub) (2 ^ 64 - 1) ≤ 131_072 - (held - n)) others
    (subst (λ n. n ≤ 131_072 - (held - c.size.result)) c.size-size.ensures c.if-others-size.false) in
    let within = within_old uid subs held index (kept_of c) c.requires entry (entry_of c) in
    let room = not_cut (size_of c.args.sub) (2 ^ 64 - 1) taken (lit< tt) within small in
    let given : c.size-size.result ≡ size_of c.args.sub = c.size-size.ensures ∙ room.0 in
    (ap (λ n. held - n + c.size-size.result) others ∙ ap (λ n. taken + n) given, room.1)

-- it stands at its uid now
new_of : (c : goal.After-self-2-1)
    → slice_set c.self.inside.entries.items c.args.index (to_z w64 (of_z w64 c.args.uid), c.args.sub)
    ≡ with_sub c.args.uid c.args.sub c.args.self.now
new_of c =
    let index = c.args.index in
    let sub = c.args.sub in
    let entry : ℤ × Sub = (c.args.uid, sub) in
    let here = stands c.args.uid c.args.self.now index (kept_of c).by_uid c.requires in
    ap (λ (uid : ℤ). slice_set c.self.inside.entries.items index (uid, sub))
    (to_z-of_z w64 c.args.uid c.ranges.uid)
    ∙ ap (λ xs. slice_set xs index entry) c.self.view_is
    ∙ sym (here.put sub)

pub invariant_of-self-2 : goal.invariant_of-self-2
invariant_of-self-2 c =
    let entry = c.index.result.now in
    let room = room_of c in
    let stood = found_old c.args.uid c.args.self.now c.self.inside.size c.args.index (kept_of c) c.requires entry
    (entry_of c) in
    let right : IsIndexed c.self.inside.names c.args.self.now =
    subst (IsIndexed c.self.inside.names) c.self.view_is c.self.invariant.1 in (
      subst (λ n. IsKept (slice_set c.self.inside.entries.items c.args.index
          (to_z w64 (of_z w64 c.args.uid), c.args.sub)) n)
          (sym room.0)
          (subst (λ s. IsKept s ((c.self.inside.size - size_of entry.1) + size_of c.args.sub)) (sym (new_of c))
          (kept_replaced c.args.uid c.args.self.now c.self.inside.size c.args.index
          (kept_of c) c.requires entry (entry_of c) c.args.sub room.1)),
      subst (IsIndexed c.forget.new.self) (sym (new_of c))
          (indexed_replaced c.self.inside.names c.note.new.self c.args.uid c.args.sub c.args.self.now
          (kept_of c).by_uid right c.in_ok-note.ensures.ok entry.1 c.forget.new.self stood c.forget.ensures),
    )

pub returns : goal.returns
returns c =
    let uid = c.args.uid in
    let subs = c.args.self.now in
    let held = c.self.inside.size in
    let index = c.args.index in
    let entry = c.index.result.now in
    let room = (room_of c).1 in
    let fits = fits_replaced uid subs held index (kept_of c) c.requires entry
    (entry_of c) c.args.sub room in
    let found = found_old uid subs held index (kept_of c) c.requires entry (entry_of c) in
    let said = taken_replaced uid c.args.sub entry.1 subs fits found in
    record { answer = said.0; subs = new_of c ∙ said.1; err = tt }
