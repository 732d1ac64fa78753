-- A journal's list with one entry more.
--     still-kept, told-within     within the limits it is kept
--     told-past                   past one of them it isn't
use Rattle.std.proofs.Common.{◌≡◌, ℕ, ◌+◌, ◌-◌, ◌^◌, ◌<◌, ◌≤◌, min, ◌⊎◌, inl, inr, List, [], ◌∷◌, ◌++◌, length, sym, ap, ◌∙◌, arith, length-append, sum_by, Bool, true, false, ◌&&◌, nat_le, if◌then◌else◌}
use Rattle.std.specs.Prelude.{Option, Some, None}
use Rattle.std.proofs.lemmas.List.Sums.{sum_by-append, sum_by-cons}
use Rattle.std.proofs.lemmas.Bool.{and_from, le-leb, lt-leb}
use Rattle.nt_rules.specs.declared.act.Entry.{Entry}
use Rattle.nt_hall.specs.Weight.{entry_weight, most_entries, most_weight, may_keep}
use Rattle.nt_hall.specs.Journals.{kept_list, kept_with}
use Rattle.nt_hall.specs.Kept.{AreKept}

weight-more : (list : List Entry) (e : Entry)
    → sum_by entry_weight (list ++ e ∷ []) ≡ sum_by entry_weight list + entry_weight e
weight-more list e =
    let parts = sum_by-append entry_weight list (e ∷ []) in
    let one = sum_by-cons entry_weight e [] in
    omega arith

length-more : (list : List Entry) (e : Entry) → length (list ++ e ∷ []) ≡ length list + 1
length-more list e = omega (arith, length-append list (e ∷ []))

either : (a b : Bool) → (a ≡ false) ⊎ (b ≡ false) → a && b ≡ false
either a b (inl h) = ap (λ x. x && b) h
either true b (inr h) = h
either false b (inr h) = λ i. false

pub kept-by : (list : List Entry) (b : Bool) → may_keep list ≡ b
    → kept_list list ≡ (if◌then◌else◌ {A = Option (List Entry)} b (Some list) None)
kept-by list b is = ap (λ (b : Bool). if◌then◌else◌ {A = Option (List Entry)} b (Some list) None) is

module _ (list : List Entry) (e : Entry) (count weight r n : ℕ) (kept : AreKept count weight list)
    (r-is : r ≡ min (entry_weight e) (2 ^ 64 - 1)) (n-is : n ≡ min (weight + r) (2 ^ 64 - 1)) where
  pub still-kept : count < most_entries → n ≤ most_weight → AreKept (count + 1) n (list ++ e ∷ [])
  still-kept few light =
      let count-is = kept.count_is in
      let weight-is = kept.weight_is in
      let longer = length-more list e in
      let heavier = weight-more list e in
      record {
        count_is = omega arith;
        weight_is = omega arith;
        few = omega arith;
        light = light;
      }

  pub told-within : count < most_entries → n ≤ most_weight → kept_with (Some list) e ≡ Some (list ++ e ∷ [])
  told-within few light =
      let all = list ++ e ∷ [] in
      let k = still-kept few light in
      let count-is = k.count_is in
      let weight-is = k.weight_is in
      let many = k.few in
      let heavy = k.light in
      kept-by all true
      (and_from (nat_le (length all) most_entries) (nat_le (sum_by entry_weight all) most_weight)
      (le-leb (length all) most_entries (omega arith)) (le-leb (sum_by entry_weight all) most_weight (omega arith)))

  pub told-past : (most_entries ≤ count) ⊎ (most_weight < n) → kept_with (Some list) e ≡ None
  told-past past =
      let all = list ++ e ∷ [] in
      kept-by all false (either (nat_le (length all) most_entries) (nat_le (sum_by entry_weight all) most_weight) (which past))
    where
      which : (most_entries ≤ count) ⊎ (most_weight < n)
          → (nat_le (length (list ++ e ∷ [])) most_entries ≡ false)
          ⊎ (nat_le (sum_by entry_weight (list ++ e ∷ [])) most_weight ≡ false)
      which (inl many) =
          let count-is = kept.count_is in
          let longer = length-more list e in
          inl (lt-leb (length (list ++ e ∷ [])) most_entries (omega arith))
      which (inr heavy) =
          let weight-is = kept.weight_is in
          let heavier = weight-more list e in
          inr (lt-leb (sum_by entry_weight (list ++ e ∷ [])) most_weight (omega arith))
