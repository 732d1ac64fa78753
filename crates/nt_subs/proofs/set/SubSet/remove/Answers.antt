use Rattle.std.proofs.Common.{◌≡◌, ◌-◌, ◌^◌, ap, sym, subst, ◌∙◌, Ok, Err, get_or, length, is_some, arith, lit<, w64}
use Rattle.std.specs.Prelude.{remove}
use Rattle.std.proofs.lemmas.Int.{to_z-of_z}
use Rattle.nt_subs.specs.Index.{IsIndexed}
use Rattle.nt_subs.specs.Subscriptions.{IsKept, index_of, size_of, without_sub}
use Rattle.nt_subs.proofs.Limits.{found_old, size_old, kept_without}
use Rattle.nt_subs.proofs.Indexed.{indexed_without}
use Rattle.nt_subs.proofs.Indices.{stands, gap}
use Rattle.nt_subs.proofs.set.SubSet.remove.Goals as goal

pub index-requires : goal.index-requires
index-requires c =
    let kept = subst (λ s. IsKept s c.self.inside.size) c.self.view_is c.self.invariant.0 in
    let uid = c.args.uid in
    let is : Ok c.in-Ok.index ≡ index_of uid c.args.self.now =
    rw (to_z-of_z w64 uid c.ranges.uid) at c.in-Ok.ensures
    ∙ ap (index_of uid) (c.as_slice.ensures.value ∙ c.self.view_is) in
    let within = (stands uid c.args.self.now c.in-Ok.index kept.by_uid (sym is)).within in
    let count = ap length c.self.view_is in omega arith

pub overflow_sub-self : goal.overflow_sub-self
overflow_sub-self c =
    let kept = subst (λ s. IsKept s c.self.inside.size) c.self.view_is c.self.invariant.0 in
    let uid = c.args.uid in
    let subs = c.args.self.now in
    let index = c.in-Ok.index in
    let entry = c.index.result.now in
    let is : Ok index ≡ index_of uid subs =
    rw (to_z-of_z w64 uid c.ranges.uid) at c.in-Ok.ensures
    ∙ ap (index_of uid) (c.as_slice.ensures.value ∙ c.self.view_is) in
    let at_index : entry ≡ get_or subs index entry =
    subst (λ s. entry ≡ get_or s index entry) c.self.view_is c.index.ensures in
    let old = size_old uid subs c.self.inside.size index kept (sym is) entry at_index (2 ^ 64 - 1)
    (lit< tt) in
    let size = c.size.ensures in omega arith

pub remove-requires : goal.remove-requires
remove-requires c =
    let kept = subst (λ s. IsKept s c.self.inside.size) c.self.view_is c.self.invariant.0 in
    let uid = c.args.uid in
    let is : Ok c.in-Ok.index ≡ index_of uid c.args.self.now =
    rw (to_z-of_z w64 uid c.ranges.uid) at c.in-Ok.ensures
    ∙ ap (index_of uid) (c.as_slice.ensures.value ∙ c.self.view_is) in
    let within = (stands uid c.args.self.now c.in-Ok.index kept.by_uid (sym is)).within in
    let count = ap length c.self.view_is in omega arith

-- what the set kept
kept_of : (c : goal.After-drop-remove) → IsKept c.args.self.now c.self.inside.size
kept_of c = subst (λ s. IsKept s c.self.inside.size) c.self.view_is c.self.invariant.0

-- the uid's index
index_is : (c : goal.After-drop-remove) → index_of c.args.uid c.args.self.now ≡ Ok c.in-Ok.index
index_is c =
    let uid = c.args.uid in
    let is : Ok c.in-Ok.index ≡ index_of uid c.args.self.now =
    rw (to_z-of_z w64 uid c.ranges.uid) at c.in-Ok.ensures
    ∙ ap (index_of uid) (c.as_slice.ensures.value ∙ c.self.view_is) in
    sym is

-- what stood there
entry_of : (c : goal.After-drop-remove) → c.index.result.now
    ≡ get_or c.args.self.now c.in-Ok.index c.index.result.now
entry_of c =
    let entry = c.index.result.now in
    subst (λ s. entry ≡ get_or s c.in-Ok.index entry) c.self.view_is c.index.ensures

-- it is gone
new_of : (c : goal.After-drop-remove) → c.remove.new.self.items ≡ without_sub c.args.uid c.args.self.now
new_of c =
    let here = stands c.args.uid c.args.self.now c.in-Ok.index (kept_of c).by_uid (index_is c) in
    c.remove.ensures.items ∙ ap (λ xs. remove xs c.in-Ok.index) c.self.view_is ∙ sym here.taken

pub invariant_of-self : goal.invariant_of-self
invariant_of-self c =
    let uid = c.args.uid in
    let subs = c.args.self.now in
    let held = c.self.inside.size in
    let index = c.in-Ok.index in
    let entry = c.index.result.now in
    let old = size_old uid subs held index (kept_of c) (index_is c) entry (entry_of c) (2 ^ 64 - 1)
    (lit< tt) in
    let size : c.size.result ≡ size_of entry.1 = c.size.ensures ∙ old.0 in
    let stood = found_old uid subs held index (kept_of c) (index_is c) entry (entry_of c) in
    let right : IsIndexed c.self.inside.names subs = subst (IsIndexed c.self.inside.names) c.self.view_is c.self.invariant.1 in
    rw (new_of c, size) (
      kept_without uid subs held index (kept_of c) (index_is c) entry (entry_of c),
      indexed_without c.self.inside.names c.forget.new.self uid entry.1 subs right stood c.forget.ensures,
    )

pub returns-in-Ok : goal.returns-in-Ok
returns-in-Ok c =
    let uid = c.args.uid in
    let entry = c.index.result.now in
    let had = found_old uid c.args.self.now c.self.inside.size c.in-Ok.index (kept_of c)
    (index_is c) entry (entry_of c) in
    record { found = sym (ap is_some had); subs = new_of c }

pub returns-in-Err : goal.returns-in-Err
returns-in-Err c =
    let kept = subst (λ s. IsKept s c.self.inside.size) c.self.view_is c.self.invariant.0 in
    let uid = c.args.uid in
    let is : Err c.in-Err.field-0 ≡ index_of uid c.args.self.now =
    rw (to_z-of_z w64 uid c.ranges.uid) at c.in-Err.ensures
    ∙ ap (index_of uid) (c.as_slice.ensures.value ∙ c.self.view_is) in
    let here = gap uid c.args.self.now c.in-Err.field-0 kept.by_uid (sym is) in
    record { found = sym (ap is_some here.missing); subs = sym here.same }
