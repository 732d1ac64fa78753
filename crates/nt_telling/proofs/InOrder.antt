-- Putting keys in order and choosing some of them, in either order, is the same.
use Rattle.std.proofs.Common.{◌≡◌, ◌≤◌, ◌<◌, Bool, true, false, cond, ◌&&◌, ◌||◌, ◌==◌, nat_lt, nat_le, filter, List}
use Rattle.std.proofs.Common.{[], ◌∷◌, refl, sym, ap, ◌∙◌, ◌⊎◌, inl, inr, arith}
use Rattle.std.specs.List.{list_any, AllByRecursion}
use Rattle.std.proofs.lemmas.Bool.{true≢false, eqb-true, eq-eqb, ltb-true, lt-ltb, leb-true, le-leb, cases_Bool}
use Rattle.std.proofs.lemmas.Bool.{cases_order, or_cases, and_parts, and_from}
use Rattle.nt_rules.specs.outbox.Keys.{Key, is_before, insert_key, in_order}
use Rattle.nt_laws.proofs.topics.ItemFacts.{each-filter}

-- a stands before b
abbrev pub Before : Key → Key → Type 0
Before a b = (a.place < b.place) ⊎ (a.place ≡ b.place) × (a.topic ≤ b.topic)

before-is : (a b : Key) → is_before a b ≡ true → Before a b
before-is a b e = by_or (or_cases (nat_lt a.place b.place) ((a.place == b.place) && nat_le a.topic b.topic) e)
  where
    by_or : (nat_lt a.place b.place ≡ true) ⊎ (((a.place == b.place) && nat_le a.topic b.topic) ≡ true) → Before a b
    by_or (inl f) = inl (ltb-true a.place b.place f)
    by_or (inr f) = let p = and_parts _ _ f in inr (eqb-true a.place b.place p.0, leb-true a.topic b.topic p.1)

is-before : (a b : Key) → Before a b → is_before a b ≡ true
is-before a b (inl h) = let e = lt-ltb a.place b.place h in rw e refl
is-before a b (inr h) =
    or_yes (nat_lt a.place b.place) _ (and_from _ _ (eq-eqb a.place b.place h.0) (le-leb a.topic b.topic h.1))
  where
    or_yes : (x y : Bool) → y ≡ true → (x || y) ≡ true
    or_yes true y e = refl
    or_yes false y e = e

before-more : (a b d : Key) → Before a b → Before b d → Before a d
before-more a b d (inl h) (inl k) = inl (omega arith)
before-more a b d (inl h) (inr k) = let e = k.0 in inl (omega arith)
before-more a b d (inr h) (inl k) = let e = h.0 in inl (omega arith)
before-more a b d (inr h) (inr k) = let e = h.1 in let f = k.1 in inr (h.0 ∙ k.0, omega arith)

-- one of two stands before the other
before-else : (a b : Key) → is_before a b ≡ false → Before b a
before-else a b e = by_order (cases_order a.place b.place) (cases_order a.topic b.topic)
  where
    off : Before a b → Before b a
    off h = absurd (true≢false (sym (is-before a b h) ∙ e))

    by_order : (a.place ≡ b.place) ⊎ ((a.place < b.place) ⊎ (b.place < a.place))
        → (a.topic ≡ b.topic) ⊎ ((a.topic < b.topic) ⊎ (b.topic < a.topic)) → Before b a
    by_order (inr (inl h)) l = off (inl h)
    by_order (inr (inr h)) l = inl h
    by_order (inl h) (inl l) = off (inr (h, omega arith))
    by_order (inl h) (inr (inl l)) = off (inr (h, omega arith))
    by_order (inl h) (inr (inr l)) = inr (sym h, omega arith)

abbrev pub Ordered : List Key → Type 0
Ordered [] = Unit {0}
Ordered (x ∷ xs) = AllByRecursion (Before x) xs × Ordered xs

pub each-insert : (P : Key → Type 0) (k : Key) (xs : List Key) → P k → AllByRecursion P xs
    → AllByRecursion P (insert_key k xs)
each-insert P k [] p h = (p, tt)
each-insert P k (x ∷ xs) p h = by (is_before k x) (each-insert P k xs p h.1)
  where
    by : (b : Bool) → AllByRecursion P (insert_key k xs) → AllByRecursion P (cond b (k ∷ x ∷ xs) (x ∷ insert_key k xs))
    by true r = (p, h)
    by false r = (h.0, r)

each-further : (a x : Key) (xs : List Key) → Before a x → AllByRecursion (Before x) xs → AllByRecursion (Before a) xs
each-further a x [] h k = tt
each-further a x (y ∷ ys) h k = (before-more a x y h k.0, each-further a x ys h k.1)

insert-ordered : (k : Key) (xs : List Key) → Ordered xs → Ordered (insert_key k xs)
insert-ordered k [] o = (tt, tt)
insert-ordered k (x ∷ xs) o = by (cases_Bool (is_before k x)) (insert-ordered k xs o.1)
  where
    by : (is_before k x ≡ true) ⊎ (is_before k x ≡ false) → Ordered (insert_key k xs)
        → Ordered (cond (is_before k x) (k ∷ x ∷ xs) (x ∷ insert_key k xs))
    by (inl e) r = let b = before-is k x e in rw e ((b, each-further k x xs b o.0), o)
    by (inr e) r = rw e (each-insert (Before x) k xs (before-else k x e) o.0, r)

in_order-ordered : (xs : List Key) → Ordered (in_order xs)
in_order-ordered [] = tt
in_order-ordered (x ∷ xs) = insert-ordered x (in_order xs) (in_order-ordered xs)

insert-first : (k : Key) (xs : List Key) → AllByRecursion (Before k) xs → insert_key k xs ≡ k ∷ xs
insert-first k [] h = refl
insert-first k (x ∷ xs) h = let e = is-before k x h.0 in rw e refl

-- keys in order stay as they are
pub in_order-same : (xs : List Key) → Ordered xs → in_order xs ≡ xs
in_order-same [] o = refl
in_order-same (x ∷ xs) o = ap (insert_key x) (in_order-same xs o.1) ∙ insert-first x xs o.0

filter-insert : (t : Key → Bool) (k : Key) (xs : List Key) → Ordered xs
    → filter t (insert_key k xs) ≡ cond (t k) (insert_key k (filter t xs)) (filter t xs)
filter-insert t k [] o = refl
filter-insert t k (x ∷ xs) o = by (cases_Bool (is_before k x)) (filter-insert t k xs o.1)
  where
    further : Before k x → AllByRecursion (Before k) (filter t (x ∷ xs))
    further b = each-filter (Before k) t (x ∷ xs) (b, each-further k x xs b o.0)

    by_key : (b : Bool) → Before k x
        → cond b (k ∷ filter t (x ∷ xs)) (filter t (x ∷ xs))
        ≡ cond b (insert_key k (filter t (x ∷ xs))) (filter t (x ∷ xs))
    by_key true h = sym (insert-first k (filter t (x ∷ xs)) (further h))
    by_key false h = refl

    by_x : (b d : Bool) → is_before k x ≡ false
        → filter t (insert_key k xs) ≡ cond b (insert_key k (filter t xs)) (filter t xs)
        → cond d (x ∷ filter t (insert_key k xs)) (filter t (insert_key k xs))
        ≡ cond b (insert_key k (cond d (x ∷ filter t xs) (filter t xs))) (cond d (x ∷ filter t xs) (filter t xs))
    by_x true true e r = rw e (ap (λ (w : List Key). x ∷ w) r)
    by_x true false e r = r
    by_x false true e r = ap (λ (w : List Key). x ∷ w) r
    by_x false false e r = r

    by : (is_before k x ≡ true) ⊎ (is_before k x ≡ false)
        → filter t (insert_key k xs) ≡ cond (t k) (insert_key k (filter t xs)) (filter t xs)
        → filter t (cond (is_before k x) (k ∷ x ∷ xs) (x ∷ insert_key k xs))
        ≡ cond (t k) (insert_key k (filter t (x ∷ xs))) (filter t (x ∷ xs))
    by (inl e) r = rw e (by_key (t k) (before-is k x e))
    by (inr e) r =
        ap (λ (b : Bool). filter t (cond b (k ∷ x ∷ xs) (x ∷ insert_key k xs))) e ∙ by_x (t k) (t x) e r

-- the keys that pass a test, in order
pub filter-in_order : (t : Key → Bool) (xs : List Key) → filter t (in_order xs) ≡ in_order (filter t xs)
filter-in_order t [] = refl
filter-in_order t (x ∷ xs) =
    filter-insert t x (in_order xs) (in_order-ordered xs) ∙ by (t x) (filter-in_order t xs)
  where
    by : (b : Bool) → filter t (in_order xs) ≡ in_order (filter t xs)
        → cond b (insert_key x (filter t (in_order xs))) (filter t (in_order xs))
        ≡ in_order (cond b (x ∷ filter t xs) (filter t xs))
    by true r = ap (insert_key x) r
    by false r = r

-- some key passes, in whatever order
any-insert : (p : Key → Bool) (x : Key) (xs : List Key) → list_any p (insert_key x xs) ≡ (p x || list_any p xs)
any-insert p x [] = refl
any-insert p x (y ∷ ys) = by (is_before x y) (any-insert p x ys)
  where
    swap : (a b c : Bool) → (b || (a || c)) ≡ (a || (b || c))
    swap true true c = refl
    swap true false c = refl
    swap false b c = refl

    by : (b : Bool) → list_any p (insert_key x ys) ≡ (p x || list_any p ys)
        → list_any p (cond b (x ∷ y ∷ ys) (y ∷ insert_key x ys)) ≡ (p x || list_any p (y ∷ ys))
    by true h = refl
    by false h = ap (λ b. p y || b) h ∙ swap (p x) (p y) (list_any p ys)

pub any-in_order : (p : Key → Bool) (xs : List Key) → list_any p (in_order xs) ≡ list_any p xs
any-in_order p [] = refl
any-in_order p (x ∷ xs) = any-insert p x (in_order xs) ∙ ap (λ b. p x || b) (any-in_order p xs)
