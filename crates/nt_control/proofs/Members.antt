-- A look-up in an object beside the removal of a key.
use Rattle.std.proofs.Common.{◌≡◌, ℕ, List, [], ◌∷◌, Some, Ordering, Less, Equal, Greater, false, string_bytes, nat_cmp, is_eq, cond, bytes_eq, true≢false, refl, sym, ap, ◌∙◌}
use Rattle.std.proofs.lemmas.Map.Text.{is_eq-slice_cmp}
use Rattle.std.proofs.lemmas.Slice.Eq.{bytes_eq-Decides}
use Rattle.std.specs.Cmp.Lexicographic.{slice_cmp}
use Rattle.std.specs.Map.{remove_entry}
use Rattle.std.specs.BTreeMap.{is_at}
use Rattle.std.specs.Ordering.{match_ordering}
use Rattle.serde_json.proofs.Views.{Entry, member_later}
use Rattle.serde_json.specs.Find.{get_member}
use Rattle.serde_json.specs.View.{view, members_view}

-- texts that the order ties are the same text
tied : (a b : List ℕ) → slice_cmp nat_cmp a b ≡ Equal → a ≡ b
tied a b tie = (bytes_eq-Decides a b).0 (sym (is_eq-slice_cmp a b) ∙ ap is_eq tie)

-- texts that the test tells apart differ
apart : (a b : List ℕ) → bytes_eq a b ≡ false → a ≡ b → ⊥
apart a b differ same = true≢false (sym ((bytes_eq-Decides a b).1 same) ∙ differ)

-- one entry, where what is left of those after it has the other keys
by_order : (o : Ordering) (name other : List ℕ) (e : Entry) (es rest : List Entry)
    → slice_cmp nat_cmp name (string_bytes e.0) ≡ o → bytes_eq other name ≡ false
    → get_member other (members_view rest) ≡ get_member other (members_view es)
    → get_member other (members_view (cond (is_eq o) es (e ∷ rest)))
    ≡ get_member other (members_view (e ∷ es))
by_order Less name other e es rest is differ same =
    ap (λ r. match_ordering (slice_cmp nat_cmp other (string_bytes e.0)) r (Some (view e.1)) r) same
by_order Equal name other e es rest is differ same =
    let here = tied name (string_bytes e.0) is in
    sym (member_later other e es (λ there. apart other name differ (there ∙ sym here)))
by_order Greater name other e es rest is differ same =
    ap (λ r. match_ordering (slice_cmp nat_cmp other (string_bytes e.0)) r (Some (view e.1)) r) same

-- the other keys keep what they have where one is removed
pub get_member-remove_entry : (name other : List ℕ) (es : List Entry) → bytes_eq other name ≡ false
    → get_member other (members_view (remove_entry (is_at (λ k. slice_cmp nat_cmp name (string_bytes k))) es))
    ≡ get_member other (members_view es)
get_member-remove_entry name other [] differ = refl
get_member-remove_entry name other (e ∷ es) differ =
    by_order _ name other e es _ refl differ (get_member-remove_entry name other es differ)
