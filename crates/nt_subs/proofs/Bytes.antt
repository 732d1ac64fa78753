-- Maps of names: what a change at one name leaves of the others.
use Rattle.std.proofs.Common.{◌≡◌, ℕ, Bool, true, false, cond, List, Option, None, Vec, Ordering, BTreeMap, bytes_eq, is_eq, nat_cmp, refl, sym, ap, subst, ◌∙◌}
use Rattle.std.proofs.lemmas.Map.Text.{is_eq-slice_cmp}
use Rattle.std.specs.BTreeMap.{UpdatesBy}
use Rattle.std.specs.Cmp.{eq_by_cmp_equiv}
use Rattle.std.specs.Cmp.Lexicographic.{slice_cmp, nat_list_cmp_total, nat_list_eq_equiv, bytes_decides}
use Rattle.std.specs.Map.{lookup, KeepsOthers}
use Rattle.nt_subs.specs.Index.{none, counts_or_none, said_in}
use Rattle.nt_subs.specs.declared.counts.Counts.{Counts}

-- a key that is at some bytes isn't at others
apart : (bs cs ks : List ℕ) → bytes_eq bs cs ≡ false → is_eq (slice_cmp nat_cmp bs ks) ≡ true
    → is_eq (slice_cmp nat_cmp cs ks) ≡ false
apart bs cs ks differ at =
    let same : bytes_eq bs ks ≡ true = sym (is_eq-slice_cmp bs ks) ∙ at in
    is_eq-slice_cmp cs ks ∙ nat_list_eq_equiv.symm cs ks ∙ sym (nat_list_eq_equiv.congr bs ks cs same) ∙ differ

module _ {Y : Type 0} where
  -- names in order
  abbrev pub compare : Vec ℕ Y → Vec ℕ Y → Ordering
  compare x y = slice_cmp nat_cmp x.items y.items

  -- where a name stands
  abbrev pub place : List ℕ → Vec ℕ Y → Ordering
  place name k = slice_cmp nat_cmp name k.items

  others : (bs cs : List ℕ) → bytes_eq bs cs ≡ false → (old new : List (Vec ℕ Y × Counts))
      → KeepsOthers (λ x y. is_eq (compare x y)) (λ k. is_eq (place bs k)) old new
      → lookup (λ k. is_eq (place cs k)) new ≡ lookup (λ k. is_eq (place cs k)) old
  unfolding KeepsOthers
  others bs cs differ old new h =
      h (λ k. is_eq (place cs k))
      (λ x y. (eq_by_cmp_equiv nat_list_cmp_total).congr cs x.items y.items)
      (λ k. apart bs cs k.items differ)

  -- a change of what is said of one name
  pub said-changed : (f : Counts → Counts) (name : List ℕ) (m n : BTreeMap (Vec ℕ Y) Counts) (w : Option Counts)
      → UpdatesBy compare (place name) m n w → counts_or_none w ≡ f (said_in m name)
      → (cs : List ℕ) → said_in n cs ≡ cond (bytes_eq name cs) (f (said_in m cs)) (said_in m cs)
  said-changed f name m n w h is cs = by (bytes_eq name cs) refl
    where
      by : (b : Bool) → bytes_eq name cs ≡ b → said_in n cs ≡ cond b (f (said_in m cs)) (said_in m cs)
      by true e =
          subst (λ l. said_in n l ≡ f (said_in m l)) ((bytes_decides name cs).0 e) (ap counts_or_none h.1 ∙ is)
      by false e = ap counts_or_none (others name cs e m.entries n.entries h.3)

  -- a name of which nothing is said is forgotten
  pub said-forgotten : (name : List ℕ) (m n : BTreeMap (Vec ℕ Y) Counts) → UpdatesBy compare (place name) m n None
      → said_in m name ≡ none → (cs : List ℕ) → said_in n cs ≡ said_in m cs
  said-forgotten name m n h is cs = by (bytes_eq name cs) refl
    where
      by : (b : Bool) → bytes_eq name cs ≡ b → said_in n cs ≡ said_in m cs
      by true e =
          subst (λ l. said_in n l ≡ said_in m l) ((bytes_decides name cs).0 e) (ap counts_or_none h.1 ∙ sym is)
      by false e = ap counts_or_none (others name cs e m.entries n.entries h.3)

  -- maps of the same entries say the same
  pub said-entries : (m n : BTreeMap (Vec ℕ Y) Counts) → m.entries ≡ n.entries
      → (cs : List ℕ) → said_in m cs ≡ said_in n cs
  said-entries m n e cs = ap (λ es. counts_or_none (lookup (λ k. is_eq (place cs k)) es)) e
