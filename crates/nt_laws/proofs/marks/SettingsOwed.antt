-- A change of a life's properties is among the keys that are owed where its mark has one.
use Rattle.std.proofs.Common.{◌≡◌, ◌≤◌, ◌==◌, ◌&&◌, ◌||◌, not, ℕ, Bool, true, false, cond, List, [], ◌∷◌, ◌++◌, Some}
use Rattle.std.proofs.Common.{map, filter, flat_map, refl, ◌∙◌, ap, arith}
use Rattle.std.specs.List.{list_any}
use Rattle.std.proofs.lemmas.Bool.Decides.{nat_tests}
use Rattle.nt_subs.specs.declared.wish.Wanted.{Wanted}
use Rattle.nt_rules.specs.outbox.Keys.{Key, sets, publish_key, setting_key, topic_key, end_key, value_key, is_before}
use Rattle.nt_rules.specs.outbox.Keys.{insert_key, in_order}
use Rattle.nt_rules.specs.outbox.Marks.{is_empty, option_items}
use Rattle.nt_rules.specs.history.Lives.{Life, Setting, is_living}
use Rattle.nt_rules.specs.history.Owed.{Account, owed_end, owed_publishes, owed_settings, owes_topic, owed_values}
use Rattle.nt_rules.specs.history.Owed.{owed_newest}
use Rattle.nt_rules.specs.history.Owed.{end_keys, reply_keys, topic_keys, value_keys, newest_keys, keys_owed, life_at}
use Rattle.nt_laws.proofs.marks.MarksById.{LivesAbove, AreRising}

-- ---- whether any item passes a test

any-append : {X : Type 0} (test : X → Bool) (xs ys : List X) → list_any test (xs ++ ys)
    ≡ (list_any test xs || list_any test ys)
any-append test [] ys = refl
any-append test (x ∷ xs) ys = ap (λ b. test x || b) (any-append test xs ys) ∙ by (test x)
  where
    by : (b : Bool) → (b || (list_any test xs || list_any test ys)) ≡ ((b || list_any test xs) || list_any test ys)
    by true = refl
    by false = refl

any-left : {X : Type 0} (test : X → Bool) (xs ys : List X) → list_any test ys ≡ false
    → list_any test (xs ++ ys) ≡ list_any test xs
any-left test xs ys e = any-append test xs ys ∙ ap (λ b. list_any test xs || b) e ∙ by (list_any test xs)
  where
    by : (b : Bool) → (b || false) ≡ b
    by true = refl
    by false = refl

any-right : {X : Type 0} (test : X → Bool) (xs ys : List X) → list_any test xs ≡ false
    → list_any test (xs ++ ys) ≡ list_any test ys
any-right test xs ys e = any-append test xs ys ∙ ap (λ b. b || list_any test ys) e

any-insert : (test : Key → Bool) (k : Key) (ks : List Key) → list_any test (insert_key k ks)
    ≡ (test k || list_any test ks)
any-insert test k [] = refl
any-insert test k (x ∷ xs) = by (is_before k x) (any-insert test k xs)
  where
    swap : (a b c : Bool) → (a || (b || c)) ≡ (b || (a || c))
    swap true true c = refl
    swap true false c = refl
    swap false true c = refl
    swap false false c = refl

    by : (b : Bool) → list_any test (insert_key k xs) ≡ (test k || list_any test xs)
        → list_any test (cond b (k ∷ x ∷ xs) (x ∷ insert_key k xs)) ≡ (test k || (test x || list_any test xs))
    by true more = refl
    by false more = ap (λ b. test x || b) more ∙ swap (test x) (test k) (list_any test xs)

any-order : (test : Key → Bool) (ks : List Key) → list_any test (in_order ks) ≡ list_any test ks
any-order test [] = refl
any-order test (k ∷ ks) = any-insert test k (in_order ks) ∙ ap (λ b. test k || b) (any-order test ks)

-- none of a list that others give
any-none : {X Y : Type 0} (test : Y → Bool) (f : X → List Y) → ((x : X) → list_any test (f x) ≡ false)
    → (xs : List X) → list_any test (flat_map f xs) ≡ false
any-none test f none [] = refl
any-none test f none (x ∷ xs) =
    any-append test (f x) (flat_map f xs)
    ∙ ap (λ b. b || list_any test (flat_map f xs)) (none x) ∙ any-none test f none xs

any-map : {X : Type 0} (test : Key → Bool) (f : X → Key) → ((x : X) → test (f x) ≡ false) → (xs : List X)
    → list_any test (map f xs) ≡ false
any-map test f none [] = refl
any-map test f none (x ∷ xs) = ap (λ b. b || list_any test (map f xs)) (none x) ∙ any-map test f none xs

-- ---- one life

-- its changes of properties
any-settings : (id at : ℕ) (ss : List Setting) → list_any (sets id) (map (λ s. setting_key at s.place) ss)
    ≡ ((at == id) && not (is_empty ss))
any-settings id at [] = by (at == id)
  where
    by : (b : Bool) → false ≡ (b && false)
    by true = refl
    by false = refl
any-settings id at (s ∷ ss) =
    ap (λ b. (at == id) || b) (any-settings id at ss) ∙ by (at == id) (not (is_empty ss))
  where
    by : (b more : Bool) → (b || (b && more)) ≡ (b && true)
    by true more = refl
    by false more = refl

any-replies : (id : ℕ) (a : Account) (conn : ℕ) (l : Life) → list_any (sets id) (reply_keys a conn l)
    ≡ ((l.id == id) && not (is_empty (owed_settings a l)))
any-replies id a conn l =
    any-append (sets id) (map (λ p. publish_key l.id p.place) (owed_publishes a conn l))
    (map (λ s. setting_key l.id s.place) (owed_settings a l))
    ∙ ap (λ b. b || list_any (sets id) (map (λ s. setting_key l.id s.place) (owed_settings a l)))
    (any-map (sets id) (λ p. publish_key l.id p.place) (λ p. refl) (owed_publishes a conn l))
    ∙ any-settings id l.id (owed_settings a l)

any-topic : (id : ℕ) (a : Account) (conn : ℕ) (wish : Wanted) (l : Life)
    → list_any (sets id) (topic_keys a conn wish l) ≡ false
any-topic id a conn wish l = by (owes_topic a conn wish l)
  where
    by : (b : Bool) → list_any (sets id) (cond b (topic_key l.id ∷ []) []) ≡ false
    by true = refl
    by false = refl

-- ---- all lives

-- a life with this id that goes on and passes a test
abbrev passes : ℕ → (Life → Bool) → Life → Bool
passes id test l = (l.id == id) && test l

none-above : (id : ℕ) (test : Life → Bool) (n : ℕ) (lives : List Life) → id ≤ n → LivesAbove n lives
    → list_any (passes id test) (filter is_living lives) ≡ false
none-above id test n [] le h = refl
none-above id test n (l ∷ lives) le h = by (is_living l) (none-above id test n lives le h.1)
  where
    other : (l.id == id) ≡ false
    other = let less = h.0 in grind (arith, nat_tests)

    by : (b : Bool) → list_any (passes id test) (filter is_living lives) ≡ false
        → list_any (passes id test) (cond b (l ∷ filter is_living lives) (filter is_living lives)) ≡ false
    by true more = ap (λ b. (b && test l) || list_any (passes id test) (filter is_living lives)) other ∙ more
    by false more = more

any-at : (id : ℕ) (test : Life → Bool) (lives : List Life) (m : Life) → AreRising lives
    → life_at id lives ≡ Some m → is_living m ≡ true
    → list_any (passes id test) (filter is_living lives) ≡ test m
any-at id test [] m rising at living = cc
any-at id test (l ∷ lives) m rising at living =
    by (λ h. any-at id test lives m rising.1 h living) (l.id == id) refl at
  where
    rest : List Life
    rest = filter is_living lives

    here : l ≡ m → (l.id == id) ≡ true
        → list_any (passes id test) (cond (is_living l) (l ∷ rest) rest) ≡ test m
    here same e =
        ap (λ b. list_any (passes id test) (cond b (l ∷ rest) rest)) (ap is_living same ∙ living)
        ∙ ap (λ b. (b && test l) || list_any (passes id test) rest) e
        ∙ ap (λ b. test l || b) (none-above id test l.id lives (grind (arith, nat_tests)) rising.0)
        ∙ last (test l) ∙ ap test same
      where
        last : (b : Bool) → (b || false) ≡ b
        last true = refl
        last false = refl

    skip : (l.id == id) ≡ false → (b : Bool)
        → list_any (passes id test) (cond b (l ∷ rest) rest) ≡ list_any (passes id test) rest
    skip e true = ap (λ b. (b && test l) || list_any (passes id test) rest) e
    skip e false = refl

    by : (life_at id lives ≡ Some m → list_any (passes id test) rest ≡ test m) → (b : Bool) → (l.id == id) ≡ b
        → cond b (Some l) (life_at id lives) ≡ Some m
        → list_any (passes id test) (cond (is_living l) (l ∷ rest) rest) ≡ test m
    by more true e at = let same : l ≡ m = cc in here same e
    by more false e at = skip e (is_living l) ∙ more at

any-same : {X : Type 0} (f g : X → Bool) → ((x : X) → f x ≡ g x) → (xs : List X) → list_any f xs ≡ list_any g xs
any-same f g same [] = refl
any-same f g same (x ∷ xs) = ap (λ b. b || list_any f xs) (same x) ∙ ap (λ b. g x || b) (any-same f g same xs)

any-flat : {X : Type 0} (test : Key → Bool) (f : X → List Key) (xs : List X)
    → list_any test (flat_map f xs) ≡ list_any (λ x. list_any test (f x)) xs
any-flat test f [] = refl
any-flat test f (x ∷ xs) =
    any-append test (f x) (flat_map f xs) ∙ ap (λ b. list_any test (f x) || b) (any-flat test f xs)

-- of a life that goes on a change of properties is owed where its mark has one
pub owed-sets : (a : Account) (conn : ℕ) (wish : Life → Wanted) (since : Life → ℕ) (lives : List Life) (id : ℕ)
    (m : Life) → AreRising lives → life_at id lives ≡ Some m → is_living m ≡ true
    → list_any (sets id) (keys_owed a conn wish since lives) ≡ not (is_empty (owed_settings a m))
owed-sets a conn wish since lives id m rising at living =
    any-left (sets id) (ends ++ replies ++ news ++ values) newest none_newest
    ∙ any-left (sets id) (ends ++ replies ++ news) values none_values
    ∙ any-left (sets id) (ends ++ replies) news none_news
    ∙ any-right (sets id) ends replies none_end
    ∙ any-order (sets id) (flat_map (reply_keys a conn) goes_on)
    ∙ any-flat (sets id) (reply_keys a conn) goes_on
    ∙ any-same (λ l. list_any (sets id) (reply_keys a conn l)) (passes id owes) (any-replies id a conn) goes_on
    ∙ any-at id owes lives m rising at living
  where
    goes_on : List Life
    goes_on = filter is_living lives

    owes : Life → Bool
    owes l = not (is_empty (owed_settings a l))

    ends : List Key
    ends = in_order (flat_map (end_keys a) lives)

    replies : List Key
    replies = in_order (flat_map (reply_keys a conn) goes_on)

    news : List Key
    news = flat_map (λ l. topic_keys a conn (wish l) l) goes_on

    values : List Key
    values = in_order (flat_map (λ l. value_keys a (wish l) (since l) l) goes_on)

    newest : List Key
    newest = flat_map (λ l. newest_keys a (wish l) l) goes_on

    none_end : list_any (sets id) ends ≡ false
    none_end =
        any-order (sets id) (flat_map (end_keys a) lives)
        ∙ any-none (sets id) (end_keys a)
        (λ l. any-map (sets id) (end_key l.id) (λ p. refl) (option_items (owed_end a l))) lives

    none_news : list_any (sets id) news ≡ false
    none_news =
        any-none (sets id) (λ l. topic_keys a conn (wish l) l) (λ l. any-topic id a conn (wish l) l) goes_on

    none_values : list_any (sets id) values ≡ false
    none_values =
        any-order (sets id) (flat_map (λ l. value_keys a (wish l) (since l) l) goes_on)
        ∙ any-none (sets id) (λ l. value_keys a (wish l) (since l) l)
        (λ l. any-map (sets id) (λ p. value_key l.id p.place) (λ p. refl) (owed_values a (wish l) (since l) l))
        goes_on

    none_newest : list_any (sets id) newest ≡ false
    none_newest =
        any-none (sets id) (λ l. newest_keys a (wish l) l)
        (λ l. any-map (sets id) (value_key l.id) (λ p. refl) (option_items (owed_newest a (wish l) l))) goes_on
