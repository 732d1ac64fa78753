use Rattle.std.proofs.Common.{◌≡◌, ℕ, ◌-◌, ◌<◌, min, List, [], ◌++◌, take, drop, length, sym, ap, ◌∙◌, arith, rules, length-append, length-drop}
use Rattle.std.proofs.lemmas.List.{drop_all, take_at, take_rest, take-append-drop, drop-drop, length-take}
use Rattle.nt_link.proofs.memory.MemSourceSource.read.Goals as goal

-- the first n bytes that were left now stand at the front of the buffer
consumed : (left buf copied : List ℕ) (n : ℕ) → n ≡ min (length left) (length buf) → copied ≡ take n left
    → (left ≡ take n (copied ++ drop n buf) ++ drop n left) × (n ≡ 0 → 0 < length (copied ++ drop n buf) → drop n left ≡ [])
consumed left buf copied n count copy =
    let copied_length : length copied ≡ n = omega (arith, ap length copy, length-take n left) in (
      sym (rw (take_at copied (drop n buf) n copied_length, copy) (take-append-drop n left)),
      λ none room. drop_all n left (omega (arith, length-append copied (drop n buf), length-drop n buf)),
    )

pub returns-clause-bytes : goal.returns-clause-bytes
returns-clause-bytes c =
    let n = c.min-count.result in
    let at = c.self.inside.at in
    let bytes = c.self.inside.bytes.items in
    let behind : take (length c.deref.result.now - at) (drop at c.deref.result.now) ≡ drop at bytes = take_rest c.deref.result.now at ∙ ap (drop at) c.deref.ensures.value in
    let copy : c.copy_from_slice.new.self ≡ take n (drop at bytes) = rw behind at c.copy_from_slice.ensures.after in
    let left : c.args.self.now.left ≡ drop at bytes = search rules in
    rw (left, ← drop-drop n at bytes) (consumed (drop at bytes) c.args.buf.now c.copy_from_slice.new.self n (rw behind at c.min-count.ensures) copy)
