-- The first bytes of a name, as they are looked up length by length.
use Rattle.std.proofs.Common.{◌≡◌, ℕ, zero, suc, ◌≤◌, Bool, true, false, cond, ◌&&◌, leb, nat_eq, nat_le, le-leb, leb-true, leb-false, ne_eqb, List, [], ◌∷◌, length, take, Option, Some, None, unwrap_or, Vec, BTreeMap, Global, All, Ordering, Less, Equal, Greater, is_eq, nat_cmp, refl, sym, ap, ◌∙◌, subst, arith, length-take-le}
use Rattle.std.proofs.lemmas.Bool.{and_parts, and_from, eqb-false}
use Rattle.std.proofs.lemmas.List.Elements.{All-head, All-tail}
use Rattle.std.proofs.lemmas.Cmp.{ranked}
use Rattle.std.specs.BTreeMap.{get}
use Rattle.std.specs.Map.{lookup}
use Rattle.nt_topics.specs.Names.{is_special}
use Rattle.nt_subs.proofs.Ranks.{rank, rank-same, greater-left, greater-right, greater-least}
use Rattle.nt_subs.specs.Index.{said, said_at, said_in, strongest, head_wish, heads_wish}
use Rattle.nt_subs.specs.Wishes.{greater}
use Rattle.nt_subs.specs.declared.counts.Counts.{Counts}
use Rattle.nt_subs.specs.declared.given.Given.{Given}
use Rattle.nt_subs.specs.declared.wish.Wanted.{Wanted}
use Rattle.nt_subs.specs.declared.wish.Wanted.TheVariants.{No}

-- the least number of first bytes of a name that mean it
abbrev pub least_of : List ℕ → ℕ
least_of name = cond (is_special name) 1 0

-- names of one length
abbrev pub Tally : Type 0
Tally = BTreeMap (Vec ℕ Global) Counts

module _ (least : ℕ) (name : List ℕ) where
  -- what names of one length say of a name's first bytes
  abbrev pub head_in : ℕ × Tally → Wanted
  head_in e = cond (nat_le least e.0 && nat_le e.0 (length name)) (strongest (said_in e.1 (take e.0 name))) No

  -- what names of some lengths say of them
  abbrev pub heads_in : List (ℕ × Tally) → Wanted
  heads_in [] = No
  heads_in (e ∷ es) = greater (head_in e) (heads_in es)

-- ---- so many first bytes, among all that are

pub head-reached : (given : Given) (name : List ℕ) (k n : ℕ) → k ≤ n
    → rank (head_wish given name k) ≤ rank (heads_wish given name n)
head-reached given name k zero h =
    let same : k ≡ 0 = omega arith in
    subst (λ i. rank (head_wish given name i) ≤ rank (head_wish given name 0)) (sym same) (omega arith)
head-reached given name k (suc n) h = by (leb k n) refl (λ less. head-reached given name k n less)
  where
    here : rank (head_wish given name (suc n)) ≤ rank (heads_wish given name (suc n))
    here = greater-left (head_wish given name (suc n)) (heads_wish given name n)

    by : (b : Bool) → leb k n ≡ b → (k ≤ n → rank (head_wish given name k) ≤ rank (heads_wish given name n))
        → rank (head_wish given name k) ≤ rank (heads_wish given name (suc n))
    by true e rest =
        let before = rest (leb-true k n e) in
        let more = greater-right (head_wish given name (suc n)) (heads_wish given name n) in omega arith
    by false e rest =
        let last : k ≡ suc n = let more = leb-false k n e in omega arith in
        subst (λ i. rank (head_wish given name i) ≤ rank (heads_wish given name (suc n))) (sym last) here

-- what is at least each is at least all
pub heads-least : (given : Given) (name : List ℕ) (r n : ℕ)
    → ((k : ℕ) → k ≤ n → rank (head_wish given name k) ≤ r) → rank (heads_wish given name n) ≤ r
heads-least given name r zero all = all 0 (omega arith)
heads-least given name r (suc n) all =
    greater-least (head_wish given name (suc n)) (heads_wish given name n) r (all (suc n) (omega arith))
    (heads-least given name r n (λ k h. all k (omega arith)))

-- ---- the first bytes of which a length is known

-- so many bytes are a prefix that can mean the name
module _ (name : List ℕ) where
  meant-from : (n : ℕ) → least_of name ≤ n → (is_special name && nat_eq n 0) ≡ false
  meant-from n h = by (is_special name) refl
    where
      by : (b : Bool) → is_special name ≡ b → (b && nat_eq n 0) ≡ false
      by true e =
          let at : 1 ≤ n = subst (λ b. cond b 1 0 ≤ n) e h in ne_eqb n 0 (λ z. absurd (omega arith))
      by false e = refl

  meant-to : (n : ℕ) → (is_special name && nat_eq n 0) ≡ false → least_of name ≤ n
  meant-to n h = by (is_special name) refl
    where
      by : (b : Bool) → is_special name ≡ b → cond b 1 0 ≤ n
      by true e =
          let differs : nat_eq n 0 ≡ false = subst (λ b. (b && nat_eq n 0) ≡ false) e h in
          let no = eqb-false n 0 differs in omega arith
      by false e = omega arith

equal_lengths : (a b : ℕ) (o : Ordering) → o ≡ nat_cmp a b → is_eq o ≡ true → a ≡ b
equal_lengths a b Less is h = absurd (cc)
equal_lengths a b Equal is h = ranked a b Equal is
equal_lengths a b Greater is h = absurd (cc)

module _ (given : Given) (name : List ℕ) where
  abbrev least : ℕ
  least = least_of name

  -- what a look-up says of so many first bytes
  head-is : (n : ℕ) (tally : Option Tally) → least_of name ≤ n → n ≤ length name
      → get nat_cmp given.by_length n ≡ tally
      → head_wish given name n ≡ strongest (said_at tally (take n name))
  head-is n tally from to is =
      ap (λ b. cond b No (strongest (said given (take n name)))) (meant-from name n from)
      ∙ ap (λ k. strongest (said_at (get nat_cmp given.by_length k) (take n name))) (length-take-le n name to)
      ∙ ap (λ t. strongest (said_at t (take n name))) is

  -- what stands at the lengths is looked up there
  below : (es : List (ℕ × Tally)) → All (λ e. get nat_cmp given.by_length e.0 ≡ Some e.1) es
      → rank (heads_in least name es) ≤ rank (heads_wish given name (length name))
  below [] found = omega arith
  below (e ∷ es) found =
      greater-least (head_in least name e) (heads_in least name es) (rank (heads_wish given name (length name)))
      (first (nat_le least e.0 && nat_le e.0 (length name)) refl)
      (below es (All-tail (λ e. get nat_cmp given.by_length e.0 ≡ Some e.1) e es found))
    where
      first : (b : Bool) → (nat_le least e.0 && nat_le e.0 (length name)) ≡ b
          → rank (cond b (strongest (said_in e.1 (take e.0 name))) No) ≤ rank (heads_wish given name (length name))
      first false eq = omega arith
      first true eq =
          let parts = and_parts (nat_le least e.0) (nat_le e.0 (length name)) eq in
          let to : e.0 ≤ length name = leb-true e.0 (length name) parts.1 in
          subst (λ w. rank w ≤ rank (heads_wish given name (length name)))
          (head-is e.0 (Some e.1) (leb-true least e.0 parts.0) to
          (All-head (λ e. get nat_cmp given.by_length e.0 ≡ Some e.1) e es found))
          (head-reached given name e.0 (length name) to)

  -- what is looked up stands there
  member : (k : ℕ) (t : Tally) → least_of name ≤ k → k ≤ length name → (es : List (ℕ × Tally))
      → lookup (λ q. is_eq (nat_cmp k q)) es ≡ Some t
      → rank (strongest (said_in t (take k name))) ≤ rank (heads_in least name es)
  member k t from to [] h = absurd (cc)
  member k t from to (e ∷ es) h = by (is_eq (nat_cmp k e.0)) refl h (λ rest. member k t from to es rest)
    where
      all : ℕ
      all = rank (greater (head_in least name e) (heads_in least name es))

      by : (b : Bool) → is_eq (nat_cmp k e.0) ≡ b → cond b (Some e.1) (lookup (λ q. is_eq (nat_cmp k q)) es) ≡ Some t
          → (lookup (λ q. is_eq (nat_cmp k q)) es ≡ Some t
          → rank (strongest (said_in t (take k name))) ≤ rank (heads_in least name es))
          → rank (strongest (said_in t (take k name))) ≤ rank (greater (head_in least name e) (heads_in least name es))
      by true eq is more =
          let at : k ≡ e.0 = equal_lengths k e.0 (nat_cmp k e.0) refl eq in
          let fits : (nat_le least e.0 && nat_le e.0 (length name)) ≡ true =
          subst (λ j. (nat_le least j && nat_le j (length name)) ≡ true) at
          (and_from (nat_le least k) (nat_le k (length name)) (le-leb least k from) (le-leb k (length name) to)) in
          let here : rank (strongest (said_in e.1 (take e.0 name)))
          ≤ rank (greater (head_in least name e) (heads_in least name es)) =
          subst (λ w. rank w ≤ rank (greater (head_in least name e) (heads_in least name es)))
          (ap (λ b. cond b (strongest (said_in e.1 (take e.0 name))) No) fits)
          (greater-left (head_in least name e) (heads_in least name es)) in
          subst (λ j. rank (strongest (said_in t (take j name)))
          ≤ rank (greater (head_in least name e) (heads_in least name es))) (sym at)
          (subst (λ u. rank (strongest (said_in u (take e.0 name)))
          ≤ rank (greater (head_in least name e) (heads_in least name es))) (ap (λ o. unwrap_or o t) is) here)
      by false eq is more =
          let rest = more is in
          let past = greater-right (head_in least name e) (heads_in least name es) in omega arith

  above : (k : ℕ) → k ≤ length name
      → rank (head_wish given name k) ≤ rank (heads_in least name given.by_length.entries)
  above k to = by (is_special name && nat_eq k 0) refl
    where
      found : (from : least_of name ≤ k) (o : Option Tally) → get nat_cmp given.by_length k ≡ o
          → rank (strongest (said_at o (take k name))) ≤ rank (heads_in least name given.by_length.entries)
      found from None is = omega arith
      found from (Some t) is = member k t from to given.by_length.entries is

      by : (b : Bool) → (is_special name && nat_eq k 0) ≡ b
          → rank (head_wish given name k) ≤ rank (heads_in least name given.by_length.entries)
      by true e =
          subst (λ b. rank (cond b No (strongest (said given (take k name))))
          ≤ rank (heads_in least name given.by_length.entries)) (sym e) (omega arith)
      by false e =
          let from = meant-to name k e in
          subst (λ w. rank w ≤ rank (heads_in least name given.by_length.entries))
          (sym (head-is k (get nat_cmp given.by_length k) from to refl))
          (found from (get nat_cmp given.by_length k) refl)

  -- what the lengths say is what all first bytes say
  pub heads-looked_up : All (λ e. get nat_cmp given.by_length e.0 ≡ Some e.1) given.by_length.entries
      → heads_in least name given.by_length.entries ≡ heads_wish given name (length name)
  heads-looked_up found =
      rank-same (heads_in least name given.by_length.entries) (heads_wish given name (length name))
      (below given.by_length.entries found)
      (heads-least given name (rank (heads_in least name given.by_length.entries)) (length name) above)
