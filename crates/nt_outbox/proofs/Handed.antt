-- What is left of a topic after keys were handed, part by part; and after some of them, and then the others.
use Rattle.std.proofs.Common.{◌≡◌, ◌≤◌, ◌<◌, ◌+◌, ◌∙◌, ◌||◌, ◌&&◌, ℕ, Bool, true, false, cond, eqb, ltb, List, [], ◌∷◌, ◌++◌, Option, Some, None, not, max, map, nat_le, filter, refl, sym, ap, arith}
use Rattle.std.specs.List.{list_any}
use Rattle.std.specs.List.Sorted.{IsPermutation}
use Rattle.std.proofs.lemmas.Bool.Decides.{nat_tests}
use Rattle.std.proofs.lemmas.List.Sorted.{list_any-IsPermutation}
use Rattle.nt_rules.specs.declared.waiting.Placed.{Placed}
use Rattle.nt_rules.specs.declared.waiting.Setting.{Setting}
use Rattle.nt_rules.specs.declared.waiting.Publish.{Publish}
use Rattle.nt_rules.specs.outbox.Keys.{Key, announces, is_in, is_key, is_value, next_value, end_key, publish_key, setting_key}
use Rattle.nt_rules.specs.outbox.Marks.{Mark, handed, without, place_from}
use Rattle.nt_outbox.specs.Steps.{AreOf}

pub handed-parts : (keys : List Key) (m : Mark) (announced : Bool) (over : Option ℕ) (publishes : List Publish)
    (settings : List Setting) (next : ℕ) (values : List Placed) (newest : Option ℕ)
    → announced ≡ (m.is_announced || list_any (announces m.id) keys)
    → over ≡ without keys m.over m.id
    → publishes ≡ filter (λ p. not (is_in keys (publish_key m.id p.place))) m.publishes
    → settings ≡ filter (λ s. not (is_in keys (setting_key m.id s.place))) m.settings
    → next ≡ max m.next (next_value keys m.id)
    → values ≡ filter (λ p. nat_le (next_value keys m.id) p.place) m.values
    → newest ≡ place_from (next_value keys m.id) m.newest
    → record m {
      is_announced = announced;
      over = over;
      publishes = publishes;
      settings = settings;
      next = next;
      values = values;
      newest = newest;
    } ≡ handed keys m
handed-parts keys m announced over publishes settings next values newest a o p s n v w = rw (a, o, p, s, n, v, w)

-- ---- lists

filter-alike : {X : Type 0} (f g : X → Bool) (xs : List X) → ((x : X) → f x ≡ g x) → filter f xs ≡ filter g xs
filter-alike f g [] e = refl
filter-alike {X} f g (x ∷ xs) e = by (f x) (g x) (e x) (filter-alike f g xs e)
  where
    by : (b c : Bool) → b ≡ c → filter f xs ≡ filter g xs
        → cond b (x ∷ filter f xs) (filter f xs) ≡ cond c (x ∷ filter g xs) (filter g xs)
    by true true e more = ap (λ ys. x ∷ ys) more
    by true false e more = absurd (cc)
    by false true e more = absurd (cc)
    by false false e more = more

filter-all : {X : Type 0} (f : X → Bool) (xs : List X) → ((x : X) → f x ≡ true) → filter f xs ≡ xs
filter-all f [] e = refl
filter-all f (x ∷ xs) e =
    ap (λ b. cond b (x ∷ filter f xs) (filter f xs)) (e x) ∙ ap (λ ys. x ∷ ys) (filter-all f xs e)

filter-twice : {X : Type 0} (f g h : X → Bool) (xs : List X) → ((x : X) → h x ≡ (f x && g x))
    → filter g (filter f xs) ≡ filter h xs
filter-twice f g h [] e = refl
filter-twice {X} f g h (x ∷ xs) e = by (f x) (g x) refl (h x) (e x) (filter-twice f g h xs e)
  where
    by : (b c : Bool) → g x ≡ c → (d : Bool) → d ≡ (b && c) → filter g (filter f xs) ≡ filter h xs
        → filter g (cond b (x ∷ filter f xs) (filter f xs)) ≡ cond d (x ∷ filter h xs) (filter h xs)
    by true true t true e more =
        ap (λ b. cond b (x ∷ filter g (filter f xs)) (filter g (filter f xs))) t ∙ ap (λ ys. x ∷ ys) more
    by true false t false e more =
        ap (λ b. cond b (x ∷ filter g (filter f xs)) (filter g (filter f xs))) t ∙ more
    by true true t false e more = absurd (cc)
    by true false t true e more = absurd (cc)
    by false c t true e more = absurd (cc)
    by false c t false e more = more

any-append : (p : Key → Bool) (xs ys : List Key) → list_any p (xs ++ ys) ≡ (list_any p xs || list_any p ys)
any-append p [] ys = refl
any-append p (x ∷ xs) ys = by (p x) (any-append p xs ys)
  where
    by : (b : Bool) → list_any p (xs ++ ys) ≡ (list_any p xs || list_any p ys)
        → (b || list_any p (xs ++ ys)) ≡ ((b || list_any p xs) || list_any p ys)
    by true more = refl
    by false more = more

any-none : (p : Key → Bool) (id : ℕ) (ks : List Key) → ((k : Key) → k.topic ≡ id → p k ≡ false) → AreOf id ks
    → list_any p ks ≡ false
any-none p id [] h all = refl
any-none p id (k ∷ ks) h all =
    ap (λ b. b || list_any p ks) (h k all.0) ∙ any-none p id ks h all.1

next-append : (xs ys : List Key) (id : ℕ) → next_value (xs ++ ys) id ≡ max (next_value xs id) (next_value ys id)
next-append [] ys id = omega arith
next-append (x ∷ xs) ys id = by (is_value x && eqb x.topic id) (next-append xs ys id)
  where
    by : (b : Bool) → next_value (xs ++ ys) id ≡ max (next_value xs id) (next_value ys id)
        → cond b (max (x.place + 1) (next_value (xs ++ ys) id)) (next_value (xs ++ ys) id)
        ≡ max (cond b (max (x.place + 1) (next_value xs id)) (next_value xs id)) (next_value ys id)
    by true more = omega arith
    by false more = more

next-none : (n id : ℕ) (ks : List Key) → eqb id n ≡ false → AreOf id ks → next_value ks n ≡ 0
next-none n id [] h all = refl
next-none n id (k ∷ ks) h all =
    by (is_value k) (eqb k.topic n) (ap (λ i. eqb i n) all.0 ∙ h) ∙ next-none n id ks h all.1
  where
    by : (b c : Bool) → c ≡ false
        → cond (b && c) (max (k.place + 1) (next_value ks n)) (next_value ks n) ≡ next_value ks n
    by b true e = absurd (cc)
    by true false e = refl
    by false false e = refl

-- ---- some keys, and then others

none-of : (a b c : Bool) → c ≡ (a || b) → not c ≡ (not a && not b)
none-of true b true e = refl
none-of false true true e = refl
none-of false false false e = refl
none-of true b false e = absurd (cc)
none-of false true false e = absurd (cc)
none-of false false true e = absurd (cc)

both-from : (a b n : ℕ) → nat_le (max a b) n ≡ (nat_le a n && nat_le b n)
both-from a b n = grind (arith, nat_tests)

without-twice : (xs ys : List Key) (over : Option ℕ) (id : ℕ)
    → without ys (without xs over id) id ≡ without (xs ++ ys) over id
without-twice xs ys None id = refl
without-twice xs ys (Some place) id =
    by (is_in xs (end_key id place)) (is_in (xs ++ ys) (end_key id place)) (any-append (is_key (end_key id place)) xs ys)
  where
    by : (a c : Bool) → c ≡ (a || is_in ys (end_key id place))
        → without ys (cond a None (Some place)) id ≡ cond c None (Some place)
    by true true e = refl
    by true false e = absurd (cc)
    by false c e = ap (λ b. cond b None (Some place)) (sym e)

from-twice : (a b : ℕ) (o : Option ℕ) → place_from b (place_from a o) ≡ place_from (max a b) o
from-twice a b None = refl
from-twice a b (Some place) = by (nat_le a place) (nat_le (max a b) place) (both-from a b place)
  where
    by : (s t : Bool) → t ≡ (s && nat_le b place)
        → place_from b (cond s (Some place) None) ≡ cond t (Some place) None
    by true t e = ap (λ c. cond c (Some place) None) (sym e)
    by false true e = absurd (cc)
    by false false e = refl

or-twice : (a b c d : Bool) → d ≡ (b || c) → ((a || b) || c) ≡ (a || d)
or-twice true b c d e = refl
or-twice false b c d e = sym e

pub handed-append : (xs ys : List Key) (m : Mark) → handed (xs ++ ys) m ≡ handed ys (handed xs m)
handed-append xs ys m = sym (handed-parts (xs ++ ys) m _ _ _ _ _ _ _
    (or-twice m.is_announced (list_any (announces m.id) xs) (list_any (announces m.id) ys) _
    (any-append (announces m.id) xs ys))
    (without-twice xs ys m.over m.id)
    (filter-twice (λ p. not (is_in xs (publish_key m.id p.place))) (λ p. not (is_in ys (publish_key m.id p.place)))
    (λ p. not (is_in (xs ++ ys) (publish_key m.id p.place))) m.publishes
    (λ p. none-of _ _ _ (any-append (is_key (publish_key m.id p.place)) xs ys)))
    (filter-twice (λ s. not (is_in xs (setting_key m.id s.place))) (λ s. not (is_in ys (setting_key m.id s.place)))
    (λ s. not (is_in (xs ++ ys) (setting_key m.id s.place))) m.settings
    (λ s. none-of _ _ _ (any-append (is_key (setting_key m.id s.place)) xs ys)))
    (let all = next-append xs ys m.id in omega arith)
    (filter-twice (λ p. nat_le (next_value xs m.id) p.place) (λ p. nat_le (next_value ys m.id) p.place)
    (λ p. nat_le (next_value (xs ++ ys) m.id) p.place) m.values
    (λ p. ap (λ n. nat_le n p.place) (next-append xs ys m.id)
    ∙ both-from (next_value xs m.id) (next_value ys m.id) p.place))
    (from-twice (next_value xs m.id) (next_value ys m.id) m.newest
    ∙ ap (λ n. place_from n m.newest) (sym (next-append xs ys m.id))))

-- ---- keys in another order

next-tells : (ks : List Key) (id n : ℕ)
    → list_any (λ k. (is_value k && eqb k.topic id) && ltb n (k.place + 1)) ks ≡ ltb n (next_value ks id)
next-tells [] id n = grind (arith, nat_tests)
next-tells (k ∷ ks) id n = by (is_value k && eqb k.topic id) (next-tells ks id n)
  where
    by : (b : Bool)
        → list_any (λ k. (is_value k && eqb k.topic id) && ltb n (k.place + 1)) ks ≡ ltb n (next_value ks id)
        → ((b && ltb n (k.place + 1))
        || list_any (λ k. (is_value k && eqb k.topic id) && ltb n (k.place + 1)) ks)
        ≡ ltb n (cond b (max (k.place + 1) (next_value ks id)) (next_value ks id))
    by true more = rw more (grind (arith, nat_tests))
    by false more = more

next-permutation : (xs ys : List Key) (id : ℕ) → IsPermutation xs ys → next_value xs id ≡ next_value ys id
next-permutation xs ys id h = same (next_value xs id) (next_value ys id) (alike (next_value xs id)) (alike
    (next_value ys id))
  where
    alike : (n : ℕ) → ltb n (next_value xs id) ≡ ltb n (next_value ys id)
    alike n =
        sym (next-tells xs id n)
        ∙ list_any-IsPermutation (λ k. (is_value k && eqb k.topic id) && ltb n (k.place + 1)) xs ys h
        ∙ next-tells ys id n

    same : (a b : ℕ) → ltb a a ≡ ltb a b → ltb b a ≡ ltb b b → a ≡ b
    same a b h g = grind (arith, nat_tests)

pub handed-permutation : (xs ys : List Key) (m : Mark) → IsPermutation xs ys → handed xs m ≡ handed ys m
handed-permutation xs ys m h =
    let alike : (k : Key) → is_in xs k ≡ is_in ys k = λ k. list_any-IsPermutation (is_key k) xs ys h in
    handed-parts ys m _ _ _ _ _ _ _
    (ap (λ b. m.is_announced || b) (list_any-IsPermutation (announces m.id) xs ys h))
    (over m.over alike)
    (filter-alike (λ p. not (is_in xs (publish_key m.id p.place))) (λ p. not (is_in ys (publish_key m.id p.place)))
    m.publishes (λ p. ap not (alike (publish_key m.id p.place))))
    (filter-alike (λ s. not (is_in xs (setting_key m.id s.place))) (λ s. not (is_in ys (setting_key m.id s.place)))
    m.settings (λ s. ap not (alike (setting_key m.id s.place))))
    (ap (λ n. max m.next n) (next-permutation xs ys m.id h))
    (ap (λ n. filter (λ p. nat_le n p.place) m.values) (next-permutation xs ys m.id h))
    (ap (λ n. place_from n m.newest) (next-permutation xs ys m.id h))
  where
    over : (o : Option ℕ) → ((k : Key) → is_in xs k ≡ is_in ys k) → without xs o m.id ≡ without ys o m.id
    over None alike = refl
    over (Some place) alike = ap (λ b. cond b None (Some place)) (alike (end_key m.id place))

-- ---- keys that don't name the topic

and-no : (a b c : Bool) → b ≡ false → (a && b && c) ≡ false
and-no a true c e = absurd (cc)
and-no true false c e = refl
and-no false false c e = refl

and-not : (a b : Bool) → b ≡ false → (a && b) ≡ false
and-not a true e = absurd (cc)
and-not true false e = refl
and-not false false e = refl

from-none : (a : ℕ) (o : Option ℕ) → a ≡ 0 → place_from a o ≡ o
from-none a None e = refl
from-none a (Some place) e =
    let t : nat_le a place ≡ true = grind (arith, nat_tests) in ap (λ b. cond b (Some place) None) t

or-none : (a b : Bool) → b ≡ false → (a || b) ≡ a
or-none true b e = refl
or-none false b e = e

pub handed-other : (ks : List Key) (id : ℕ) (m : Mark) → AreOf id ks → eqb m.id id ≡ false → handed ks m ≡ m
handed-other ks id m all other =
    let back : eqb id m.id ≡ false = grind (arith, nat_tests) in
    let next = next-none m.id id ks back all in
    let left : (k : Key) → k.topic ≡ id → eqb k.topic m.id ≡ false = λ k e. ap (λ i. eqb i m.id) e ∙ back in
    let right : (k : Key) → k.topic ≡ id → eqb m.id k.topic ≡ false = λ k e. ap (λ i. eqb m.id i) e ∙ other in
    sym (handed-parts ks m m.is_announced m.over m.publishes m.settings m.next m.values m.newest
    (sym (or-none m.is_announced _ (any-none (announces m.id) id ks (λ k e. and-not _ _ (left k e)) all)))
    (over m.over (λ place. any-none (is_key (end_key m.id place)) id ks (λ k e. and-no _ _ _ (right k e)) all))
    (sym (filter-all (λ p. not (is_in ks (publish_key m.id p.place))) m.publishes
    (λ p. ap not (any-none (is_key (publish_key m.id p.place)) id ks (λ k e. and-no _ _ _ (right k e)) all))))
    (sym (filter-all (λ s. not (is_in ks (setting_key m.id s.place))) m.settings
    (λ s. ap not (any-none (is_key (setting_key m.id s.place)) id ks (λ k e. and-no _ _ _ (right k e)) all))))
    (omega arith)
    (sym (filter-all (λ p. nat_le (next_value ks m.id) p.place) m.values
    (λ p. grind (arith, nat_tests))))
    (sym (from-none (next_value ks m.id) m.newest next)))
  where
    over : (o : Option ℕ) → ((place : ℕ) → is_in ks (end_key m.id place) ≡ false) → o ≡ without ks o m.id
    over None none = refl
    over (Some place) none = sym (ap (λ b. cond b None (Some place)) (none place))

pub handed-none : (m : Mark) → handed [] m ≡ m
handed-none m = sym (handed-parts [] m m.is_announced m.over m.publishes m.settings m.next m.values m.newest
    (sym (or-none m.is_announced false refl))
    (over m.over)
    (sym (filter-all (λ p. true) m.publishes (λ p. refl)))
    (sym (filter-all (λ s. true) m.settings (λ s. refl)))
    (omega arith)
    (sym (filter-all (λ p. nat_le 0 p.place) m.values (λ p. grind (arith, nat_tests))))
    (sym (from-none 0 m.newest refl)))
  where
    over : (o : Option ℕ) → o ≡ without [] o m.id
    over None = refl
    over (Some place) = refl

-- ---- all topics

pub all-none : (ms : List Mark) → map (handed []) ms ≡ ms
all-none [] = refl
all-none (m ∷ ms) = ap (λ x. x ∷ map (handed []) ms) (handed-none m) ∙ ap (λ xs. m ∷ xs) (all-none ms)

pub all-append : (xs ys : List Key) (ms : List Mark) → map (handed (xs ++ ys)) ms ≡ map (handed ys) (map (handed xs) ms)
all-append xs ys [] = refl
all-append xs ys (m ∷ ms) =
    ap (λ x. x ∷ map (handed (xs ++ ys)) ms) (handed-append xs ys m)
    ∙ ap (λ zs. handed ys (handed xs m) ∷ zs) (all-append xs ys ms)

pub all-permutation : (xs ys : List Key) (ms : List Mark) → IsPermutation xs ys
    → map (handed xs) ms ≡ map (handed ys) ms
all-permutation xs ys [] h = refl
all-permutation xs ys (m ∷ ms) h =
    ap (λ x. x ∷ map (handed xs) ms) (handed-permutation xs ys m h)
    ∙ ap (λ zs. handed ys m ∷ zs) (all-permutation xs ys ms h)
