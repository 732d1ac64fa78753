-- What an index that is right says of a name is what the subscriptions want of it.
use Rattle.std.proofs.Common.{◌≡◌, ℕ, zero, suc, ◌+◌, ◌<◌, ◌≤◌, ℤ, Bool, true, false, cond, not, ◌&&◌, ◌||◌, eqb, nat_eq, ltb, List, [], ◌∷◌, length, min, take, bytes_eq, count_by, refl, sym, ap, ◌∙◌, subst, arith, length-take, length-take-le, ltb-true, ltb-false, ne_eqb}
use Rattle.std.proofs.lemmas.Bool.{and_parts, and_from}
use Rattle.std.proofs.lemmas.List.Sums.{sum_by-cons}
use Rattle.std.specs.Cmp.Lexicographic.{bytes_decides}
use Rattle.std.specs.List.{list_any, starts_with}
use Rattle.std.specs.Map.{values_of}
use Rattle.nt_topics.specs.Names.{is_special}
use Rattle.nt_subs.proofs.Heads.{head-reached, heads-least}
use Rattle.nt_subs.proofs.Ranks.{rank, rank-same, greater-left, greater-right, greater-least, strongest-reached, strongest-least, asked-same, strength-asked}
use Rattle.nt_subs.specs.Index.{IsIndexed, said, strongest, head_wish, heads_wish, is_asked, times_in, given_by, given_in, part, times}
use Rattle.nt_subs.specs.Subscriptions.{Subs}
use Rattle.nt_subs.specs.Wishes.{is_meant, is_matched, strength, wish, greater, wanted}
use Rattle.nt_subs.specs.declared.index.Index.{Index}
use Rattle.nt_subs.specs.declared.sub.Sub.{Sub}
use Rattle.nt_subs.specs.declared.wish.Wanted.{Wanted}
use Rattle.nt_subs.specs.declared.wish.Wanted.TheVariants.{No}

-- ---- the names of one subscription

counted-first : (g : List ℕ) (x : List ℕ) (xs : List (List ℕ)) (b : Bool) → bytes_eq x g ≡ b
    → count_by (λ given. bytes_eq given g) (x ∷ xs) ≡ cond b 1 0 + count_by (λ given. bytes_eq given g) xs
counted-first g x xs b e =
    sum_by-cons (λ given. cond (bytes_eq given g) 1 0) x xs
    ∙ ap (λ t. cond t 1 0 + count_by (λ given. bytes_eq given g) xs) e

-- a name that is counted passes what it passes
any-counted : (test : List ℕ → Bool) (g : List ℕ) (names : List (List ℕ)) → test g ≡ true
    → 0 < count_by (λ given. bytes_eq given g) names → list_any test names ≡ true
any-counted test g [] passes more = absurd (omega arith)
any-counted test g (x ∷ xs) passes more =
    by (bytes_eq x g) refl (λ rest. any-counted test g xs passes rest)
  where
    by : (b : Bool) → bytes_eq x g ≡ b
        → (0 < count_by (λ given. bytes_eq given g) xs → list_any test xs ≡ true)
        → (test x || list_any test xs) ≡ true
    by true e rest =
        ap (λ t. t || list_any test xs) (subst (λ l. test l ≡ true) (sym ((bytes_decides x g).0 e)) passes)
    by false e rest =
        let first = counted-first g x xs false e in
        let later : list_any test xs ≡ true = rest (omega arith) in
        ap (λ t. test x || t) later ∙ or-true (test x)
      where
        or-true : (t : Bool) → (t || true) ≡ true
        or-true true = refl
        or-true false = refl

-- one that passes is counted
counted-any : {A : Type 0} (test : List ℕ → Bool) (names all : List (List ℕ))
    → ((g : List ℕ) → count_by (λ given. bytes_eq given g) names ≤ count_by (λ given. bytes_eq given g) all)
    → list_any test names ≡ true
    → ((g : List ℕ) → test g ≡ true → 0 < count_by (λ given. bytes_eq given g) all → A) → A
counted-any test [] all among any found = absurd (cc)
counted-any {A} test (x ∷ xs) all among any found =
    by (test x) refl
    (λ later. counted-any test xs all
    (λ g. let first = counted-first g x xs (bytes_eq x g) refl in let within = among g in omega arith) later found)
  where
    by : (b : Bool) → test x ≡ b → (list_any test xs ≡ true → A) → A
    by true e rest =
        let first = counted-first x x xs true ((bytes_decides x x).1 refl) in
        let within = among x in
        found x e (omega arith)
    by false e rest = rest (sym (ap (λ b. b || list_any test xs) e) ∙ any)

-- ---- one subscription

-- a name that it gives with a wish, and that means another: it wants the other so
asked-wish : (p : Bool) (w : Wanted) (g name : List ℕ) (sub : Sub) → sub.options.prefix ≡ p
    → is_meant p g name ≡ true → 0 < times_in w g (strength sub.options) sub.names → w ≡ wish sub name
asked-wish p w g name sub is means h = by (is_asked w (strength sub.options)) refl h
  where
    by : (b : Bool) → is_asked w (strength sub.options) ≡ b
        → 0 < cond b (count_by (λ given. bytes_eq given g) sub.names) 0 → w ≡ wish sub name
    by true e k =
        let any : is_matched sub name ≡ true =
        any-counted (λ given. is_meant sub.options.prefix given name) g sub.names
        (subst (λ q. is_meant q g name ≡ true) (sym is) means) k in
        asked-same w (strength sub.options) e ∙ sym (ap (λ b. cond b (strength sub.options) No) any)
    by false e k = absurd (omega arith)

given-wish : (prefix : Bool) (w : Wanted) (g name : List ℕ) (sub : Sub) → is_meant prefix g name ≡ true
    → 0 < given_by prefix w g sub → w ≡ wish sub name
given-wish true w g name sub meant more = by sub.options.prefix refl more
  where
    by : (q : Bool) → sub.options.prefix ≡ q → 0 < cond q (times_in w g (strength sub.options) sub.names) 0
        → w ≡ wish sub name
    by true is h = asked-wish true w g name sub is meant h
    by false is h = absurd (omega arith)
given-wish false w g name sub meant more = by sub.options.prefix refl more
  where
    by : (q : Bool) → sub.options.prefix ≡ q → 0 < cond q 0 (times_in w g (strength sub.options) sub.names)
        → w ≡ wish sub name
    by true is h = absurd (omega arith)
    by false is h = asked-wish false w g name sub is meant h

-- how often it gives a name as it gives names
given-own : (g : List ℕ) (sub : Sub)
    → given_by sub.options.prefix (strength sub.options) g sub ≡ count_by (λ given. bytes_eq given g) sub.names
given-own g sub = by sub.options.prefix refl
  where
    counted : times_in (strength sub.options) g (strength sub.options) sub.names
        ≡ count_by (λ given. bytes_eq given g) sub.names
    counted = ap (λ b. cond b (count_by (λ given. bytes_eq given g) sub.names) 0) (strength-asked sub.options)

    by : (q : Bool) → sub.options.prefix ≡ q
        → given_by q (strength sub.options) g sub ≡ count_by (λ given. bytes_eq given g) sub.names
    by true is = ap (λ b. cond b (times_in (strength sub.options) g (strength sub.options) sub.names) 0) is ∙ counted
    by false is = ap (λ b. cond b 0 (times_in (strength sub.options) g (strength sub.options) sub.names)) is ∙ counted

-- ---- all subscriptions

pub given_in-cons : (prefix : Bool) (w : Wanted) (g : List ℕ) (e : ℤ × Sub) (es : Subs)
    → given_in prefix w g (e ∷ es) ≡ given_by prefix w g e.1 + given_in prefix w g es
given_in-cons prefix w g e es = sum_by-cons (given_by prefix w g) e.1 (values_of es)

-- a name that some give with a wish, and that means another: they want the other at least so
given-wanted : (prefix : Bool) (w : Wanted) (g name : List ℕ) (subs : Subs) → is_meant prefix g name ≡ true
    → 0 < given_in prefix w g subs → rank w ≤ rank (wanted subs name)
given-wanted prefix w g name [] meant more = absurd (omega arith)
given-wanted prefix w g name (e ∷ es) meant more =
    by (ltb 0 (given_by prefix w g e.1)) refl (λ h. given-wanted prefix w g name es meant h)
  where
    by : (b : Bool) → ltb 0 (given_by prefix w g e.1) ≡ b
        → (0 < given_in prefix w g es → rank w ≤ rank (wanted es name))
        → rank w ≤ rank (greater (wish e.1 name) (wanted es name))
    by true is rest =
        let here = given-wish prefix w g name e.1 meant (ltb-true 0 (given_by prefix w g e.1) is) in
        subst (λ v. rank v ≤ rank (greater (wish e.1 name) (wanted es name))) (sym here)
        (greater-left (wish e.1 name) (wanted es name))
    by false is rest =
        let none = ltb-false 0 (given_by prefix w g e.1) is in
        let both = given_in-cons prefix w g e es in
        let later : rank w ≤ rank (wanted es name) = rest (omega arith) in
        let past = greater-right (wish e.1 name) (wanted es name) in omega arith

-- ---- the first bytes of a name

-- where they may mean a special name, they are special too
special-head : (name : List ℕ) (k : ℕ) → (is_special name && nat_eq k 0) ≡ false
    → (not (is_special name) || is_special (take k name)) ≡ true
special-head [] k h = refl
special-head (b ∷ bs) zero h = by (eqb b 36) h
  where
    by : (s : Bool) → (s && true) ≡ false → (not s || false) ≡ true
    by true h = absurd (cc)
    by false h = refl
special-head (b ∷ bs) (suc k) h = by (eqb b 36)
  where
    by : (s : Bool) → (not s || s) ≡ true
    by true = refl
    by false = refl

special-long : (name g : List ℕ) → (not (is_special name) || is_special g) ≡ true
    → (is_special name && nat_eq (length g) 0) ≡ false
special-long name g h = by (is_special name) g h
  where
    by : (s : Bool) (g : List ℕ) → (not s || is_special g) ≡ true → (s && nat_eq (length g) 0) ≡ false
    by true [] h = absurd (cc)
    by true (b ∷ bs) h = ne_eqb (length (b ∷ bs)) 0 (λ z. absurd (omega arith))
    by false g h = refl

head-meant : (name : List ℕ) (k : ℕ) → k ≤ length name → (is_special name && nat_eq k 0) ≡ false
    → is_meant true (take k name) name ≡ true
head-meant name k to h =
    and_from (starts_with nat_eq name (take k name)) (not (is_special name) || is_special (take k name))
    (ap (λ n. bytes_eq (take k name) (take n name)) (length-take-le k name to)
    ∙ (bytes_decides (take k name) (take k name)).1 refl)
    (special-head name k h)

-- ---- an index that is right

-- what it says of a name
abbrev pub found : Index → List ℕ → Wanted
found index name =
    greater (strongest (said index.exact name)) (heads_wish index.prefixes name (length name))

module _ (index : Index) (name : List ℕ) where
  -- a name that it has with a wish, and that means another
  times-found : (prefix : Bool) (w : Wanted) (g : List ℕ) → is_meant prefix g name ≡ true
      → 0 < times prefix w g index → rank w ≤ rank (found index name)
  times-found false w g meant more =
      let here : rank w ≤ rank (strongest (said index.exact name)) =
      subst (λ l. rank w ≤ rank (strongest (said index.exact l))) ((bytes_decides g name).0 meant)
      (strongest-reached w (said index.exact g) more) in
      let among = greater-left (strongest (said index.exact name)) (heads_wish index.prefixes name (length name)) in
      omega arith
  times-found true w g meant more =
      let parts = and_parts (starts_with nat_eq name g) (not (is_special name) || is_special g) meant in
      let head : g ≡ take (length g) name = (bytes_decides g (take (length g) name)).0 parts.0 in
      let to : length g ≤ length name =
      let long : length g ≡ min (length g) (length name) = ap length head ∙ length-take (length g) name in omega arith in
      let is : head_wish index.prefixes name (length g) ≡ strongest (said index.prefixes g) =
      ap (λ b. cond b No (strongest (said index.prefixes (take (length g) name)))) (special-long name g parts.1)
      ∙ ap (λ l. strongest (said index.prefixes l)) (sym head) in
      let here : rank w ≤ rank (head_wish index.prefixes name (length g)) =
      subst (λ v. rank w ≤ rank v) (sym is) (strongest-reached w (said index.prefixes g) more) in
      let among = head-reached index.prefixes name (length g) (length name) to in
      let all = greater-right (strongest (said index.exact name)) (heads_wish index.prefixes name (length name)) in
      omega arith

  -- what subscriptions want that it has
  wanted-found : (rest : Subs)
      → ((prefix : Bool) (w : Wanted) (g : List ℕ) → given_in prefix w g rest ≤ times prefix w g index)
      → rank (wanted rest name) ≤ rank (found index name)
  wanted-found [] has = omega arith
  wanted-found (e ∷ es) has =
      greater-least (wish e.1 name) (wanted es name) (rank (found index name))
      (by (is_matched e.1 name) refl)
      (wanted-found es
      (λ prefix w g. let both = given_in-cons prefix w g e es in let all = has prefix w g in omega arith))
    where
      by : (b : Bool) → is_matched e.1 name ≡ b
          → rank (cond b (strength e.1.options) No) ≤ rank (found index name)
      by true any =
          counted-any (λ given. is_meant e.1.options.prefix given name) e.1.names e.1.names (λ g. omega arith) any
          (λ g meant more. times-found e.1.options.prefix (strength e.1.options) g meant
          (let own = given-own g e.1 in
          let both = given_in-cons e.1.options.prefix (strength e.1.options) g e es in
          let all = has e.1.options.prefix (strength e.1.options) g in omega arith))
      by false any = omega arith

  module _ (subs : Subs) (right : IsIndexed index subs) where
    -- what it says of a name that means another
    said-wanted : (prefix : Bool) (g : List ℕ) → is_meant prefix g name ≡ true
        → rank (strongest (said (part prefix index) g)) ≤ rank (wanted subs name)
    said-wanted prefix g meant =
        strongest-least (said (part prefix index) g) (rank (wanted subs name))
        (λ w h. given-wanted prefix w g name subs meant (subst (λ n. 0 < n) (right prefix w g) h))

    heads-wanted : (k : ℕ) → k ≤ length name → rank (head_wish index.prefixes name k) ≤ rank (wanted subs name)
    heads-wanted k to = by (is_special name && nat_eq k 0) refl
      where
        by : (b : Bool) → (is_special name && nat_eq k 0) ≡ b
            → rank (cond b No (strongest (said index.prefixes (take k name)))) ≤ rank (wanted subs name)
        by true e = omega arith
        by false e = said-wanted true (take k name) (head-meant name k to e)

    pub matched : found index name ≡ wanted subs name
    matched =
        rank-same (found index name) (wanted subs name)
        (greater-least (strongest (said index.exact name)) (heads_wish index.prefixes name (length name))
        (rank (wanted subs name))
        (said-wanted false name ((bytes_decides name name).1 refl))
        (heads-least index.prefixes name (rank (wanted subs name)) (length name) heads-wanted))
        (wanted-found subs (λ prefix w g. let same = right prefix w g in omega arith))
