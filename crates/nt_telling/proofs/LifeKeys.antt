-- The keys that are owed of one life, among all that are owed.
use Rattle.std.proofs.Common.{◌≡◌, ℕ, ◌+◌, ◌≤◌, ◌<◌, Bool, true, false, cond, not, ◌&&◌, ◌==◌, List, [], ◌∷◌, ◌++◌, map}
use Rattle.std.proofs.Common.{filter, flat_map, Option, Some, None, refl, sym, ap, ◌∙◌, append_assoc, append-nil, arith}
use Rattle.std.specs.List.{AllByRecursion}
use Rattle.std.proofs.lemmas.Bool.{true≢false, eqb-true, eq-eqb, ne_eqb}
use Rattle.std.proofs.lemmas.List.Elements.{filter-append}
use Rattle.nt_subs.specs.declared.wish.Wanted.{Wanted}
use Rattle.nt_rules.specs.outbox.Keys.{Key, Of_end, Of_value, is_kind, end_key, publish_key, setting_key, topic_key}
use Rattle.nt_rules.specs.outbox.Keys.{value_key, is_value, in_order}
use Rattle.nt_rules.specs.outbox.Marks.{is_empty, is_wish, option_items}
use Rattle.nt_rules.specs.history.Lives.{Life, is_living}
use Rattle.nt_rules.specs.history.Owed.{Account, is_announced, owed_end, owed_publishes, owed_settings, owed_values}
use Rattle.nt_rules.specs.history.Owed.{owed_newest, end_keys, reply_keys, topic_keys, value_keys, newest_keys}
use Rattle.nt_rules.specs.history.Owed.{keys_owed, life_at}
use Rattle.nt_telling.proofs.InOrder.{filter-in_order}
use Rattle.nt_laws.proofs.topics.ItemFacts.{each-all, each-append, each-both, each-filter, each-flat, each-in_order}
use Rattle.nt_laws.proofs.topics.ItemFacts.{each-map, each-more, each-passes}

abbrev pub is_of : ℕ → Key → Bool
is_of id k = k.topic == id

-- ids rise from n on
abbrev pub IdsRise : ℕ → List Life → Type 0
IdsRise n [] = Unit {0}
IdsRise n (l ∷ lives) = (n ≤ l.id) × IdsRise (l.id + 1) lives

-- ---- lives by their ids

pub life-low : (id n : ℕ) (lives : List Life) → IdsRise n lives → id < n → life_at id lives ≡ None
life-low id n [] r low = refl
life-low id n (l ∷ lives) r low =
    let from = r.0 in
    let other : (l.id == id) ≡ false = ne_eqb l.id id (λ e. absurd (omega arith)) in
    ap (λ b. cond b (Some l) (life_at id lives)) other ∙ life-low id (l.id + 1) lives r.1 (omega arith)

pub life-id : (id : ℕ) (lives : List Life) (l : Life) → life_at id lives ≡ Some l → l.id ≡ id
life-id id [] l e = cc
life-id id (m ∷ lives) l e = by (m.id == id) refl e (life-id id lives l)
  where
    by : (b : Bool) → (m.id == id) ≡ b → cond b (Some m) (life_at id lives) ≡ Some l
        → (life_at id lives ≡ Some l → l.id ≡ id) → l.id ≡ id
    by true f e more = let same : m ≡ l = cc in ap (λ (x : Life). x.id) (sym same) ∙ eqb-true m.id id f
    by false f e more = more e

pub each-found : (n : ℕ) (lives : List Life) → IdsRise n lives → AllByRecursion (λ l. life_at l.id lives ≡ Some l) lives
each-found n [] r = tt
each-found n (l ∷ lives) r = (
  ap (λ b. cond b (Some l) (life_at l.id lives)) (eq-eqb l.id l.id refl),
  each-both (λ m. l.id + 1 ≤ m.id) (λ m. life_at m.id lives ≡ Some m)
      (λ m. life_at m.id (l ∷ lives) ≡ Some m) later lives
      (from (l.id + 1) lives r.1) (each-found (l.id + 1) lives r.1),
)
  where
    from : (k : ℕ) (ms : List Life) → IdsRise k ms → AllByRecursion (λ m. k ≤ m.id) ms
    from k [] h = tt
    from k (m ∷ ms) h =
        let low = h.0 in
        (h.0, each-more (λ x. m.id + 1 ≤ x.id) (λ x. k ≤ x.id) (λ x g. omega arith) ms (from (m.id + 1) ms h.1))

    later : (m : Life) → l.id + 1 ≤ m.id → life_at m.id lives ≡ Some m
        → cond (l.id == m.id) (Some l) (life_at m.id lives) ≡ Some m
    later m low e =
        let other : (l.id == m.id) ≡ false = ne_eqb l.id m.id (λ e. absurd (omega arith)) in
        ap (λ b. cond b (Some l) (life_at m.id lives)) other ∙ e

-- ---- keys of one life among those of all

-- each key that it gives a life is of that life
abbrev pub GivesOwn : (Life → List Key) → Type 0
GivesOwn f = (l : Life) → AllByRecursion (λ k. k.topic ≡ l.id) (f l)

filter-own : (id : ℕ) (xs : List Key) → AllByRecursion (λ k. k.topic ≡ id) xs → filter (is_of id) xs ≡ xs
filter-own id [] h = refl
filter-own id (x ∷ xs) h =
    ap (λ b. cond b (x ∷ filter (is_of id) xs) (filter (is_of id) xs)) (eq-eqb x.topic id h.0)
    ∙ ap (λ (w : List Key). x ∷ w) (filter-own id xs h.1)

filter-other : (id j : ℕ) (xs : List Key) → (j ≡ id → ⊥) → AllByRecursion (λ k. k.topic ≡ j) xs
    → filter (is_of id) xs ≡ []
filter-other id j [] n h = refl
filter-other id j (x ∷ xs) n h =
    ap (λ b. cond b (x ∷ filter (is_of id) xs) (filter (is_of id) xs)) (ne_eqb x.topic id (λ e. n (sym h.0 ∙ e)))
    ∙ filter-other id j xs n h.1

abbrev pub of_life : (Life → List Key) → Option Life → List Key
of_life f None = []
of_life f (Some l) = f l

flat-low : (f : Life → List Key) → GivesOwn f → (id n : ℕ) (lives : List Life) → IdsRise n lives → id < n
    → filter (is_of id) (flat_map f lives) ≡ []
flat-low f own id n [] r low = refl
flat-low f own id n (l ∷ lives) r low =
    let from = r.0 in
    filter-append (is_of id) (f l) (flat_map f lives)
    ∙ ap (λ (w : List Key). w ++ filter (is_of id) (flat_map f lives))
    (filter-other id l.id (f l) (λ e. absurd (omega arith)) (own l))
    ∙ flat-low f own id (l.id + 1) lives r.1 (omega arith)

pub flat-own : (f : Life → List Key) → GivesOwn f → (id n : ℕ) (lives : List Life) → IdsRise n lives
    → filter (is_of id) (flat_map f lives) ≡ of_life f (life_at id lives)
flat-own f own id n [] r = refl
flat-own f own id n (l ∷ lives) r =
    filter-append (is_of id) (f l) (flat_map f lives) ∙ by (l.id == id) refl (flat-own f own id (l.id + 1) lives r.1)
  where
    by : (b : Bool) → (l.id == id) ≡ b → filter (is_of id) (flat_map f lives) ≡ of_life f (life_at id lives)
        → filter (is_of id) (f l) ++ filter (is_of id) (flat_map f lives)
        ≡ of_life f (cond b (Some l) (life_at id lives))
    by true e more =
        let same : l.id ≡ id = eqb-true l.id id e in
        ap (λ (w : List Key). w ++ filter (is_of id) (flat_map f lives))
        (filter-own id (f l) (each-more (λ k. k.topic ≡ l.id) (λ k. k.topic ≡ id) (λ k h. h ∙ same) (f l) (own l)))
        ∙ ap (λ (w : List Key). f l ++ w) (flat-low f own id (l.id + 1) lives r.1 (omega arith))
        ∙ append-nil (f l)
    by false e more =
        ap (λ (w : List Key). w ++ filter (is_of id) (flat_map f lives))
        (filter-other id l.id (f l) (λ s. true≢false (sym (eq-eqb l.id id s) ∙ e)) (own l))
        ∙ more

-- of those that go on
abbrev pub if_living : (Life → List Key) → Life → List Key
if_living f l = cond (is_living l) (f l) []

flat-living : (f : Life → List Key) (lives : List Life)
    → flat_map f (filter is_living lives) ≡ flat_map (if_living f) lives
flat-living f [] = refl
flat-living f (l ∷ lives) = by (is_living l) (flat-living f lives)
  where
    by : (b : Bool) → flat_map f (filter is_living lives) ≡ flat_map (if_living f) lives
        → flat_map f (cond b (l ∷ filter is_living lives) (filter is_living lives))
        ≡ cond b (f l) [] ++ flat_map (if_living f) lives
    by true more = ap (λ (w : List Key). f l ++ w) more
    by false more = more

own-living : (f : Life → List Key) → GivesOwn f → GivesOwn (if_living f)
own-living f own l = by (is_living l)
  where
    by : (b : Bool) → AllByRecursion (λ k. k.topic ≡ l.id) (cond b (f l) [])
    by true = own l
    by false = tt

living-own : (f : Life → List Key) → GivesOwn f → (id n : ℕ) (lives : List Life) → IdsRise n lives
    → filter (is_of id) (flat_map f (filter is_living lives)) ≡ of_life (if_living f) (life_at id lives)
living-own f own id n lives r =
    ap (filter (is_of id)) (flat-living f lives) ∙ flat-own (if_living f) (own-living f own) id n lives r

-- ---- what is owed

pub ends-own : (a : Account) → GivesOwn (end_keys a)
ends-own a l = each-map _ (end_key l.id) (option_items (owed_end a l))
    (each-all _ (λ place. refl) (option_items (owed_end a l)))

pub replies-own : (a : Account) (conn : ℕ) → GivesOwn (reply_keys a conn)
replies-own a conn l =
    each-append _ (map (λ p. publish_key l.id p.place) (owed_publishes a conn l))
    (map (λ s. setting_key l.id s.place) (owed_settings a l))
    (each-map _ (λ p. publish_key l.id p.place) (owed_publishes a conn l)
    (each-all _ (λ p. refl) (owed_publishes a conn l)))
    (each-map _ (λ s. setting_key l.id s.place) (owed_settings a l) (each-all _ (λ s. refl) (owed_settings a l)))

pub topics-own : (a : Account) (conn : ℕ) (wish : Life → Wanted) → GivesOwn (λ l. topic_keys a conn (wish l) l)
topics-own a conn wish l = by (is_wish (wish l) && not (is_announced a l.id) && is_empty (owed_publishes a conn l))
  where
    by : (b : Bool) → AllByRecursion (λ (k : Key). k.topic ≡ l.id) (cond b (topic_key l.id ∷ []) [])
    by true = (refl, tt)
    by false = tt

pub values-own : (a : Account) (wish : Life → Wanted) (since : Life → ℕ)
    → GivesOwn (λ l. value_keys a (wish l) (since l) l)
values-own a wish since l =
    each-map _ (λ p. value_key l.id p.place) (owed_values a (wish l) (since l) l)
    (each-all _ (λ p. refl) (owed_values a (wish l) (since l) l))

pub newest-own : (a : Account) (wish : Life → Wanted) → GivesOwn (λ l. newest_keys a (wish l) l)
newest-own a wish l =
    each-map _ (value_key l.id) (option_items (owed_newest a (wish l) l))
    (each-all _ (λ p. refl) (option_items (owed_newest a (wish l) l)))

-- all ends that are owed, and all else, texts before values
abbrev pub ends_owed : Account → List Life → List Key
ends_owed a lives = in_order (flat_map (end_keys a) lives)

abbrev pub news_owed : Account → ℕ → (Life → Wanted) → List Life → List Key
news_owed a conn wish lives =
    in_order (flat_map (reply_keys a conn) (filter is_living lives)) ++ flat_map (λ l. topic_keys a conn (wish l) l)
    (filter is_living lives)

abbrev pub values_owed : Account → (Life → Wanted) → (Life → ℕ) → List Life → List Key
values_owed a wish since lives =
    in_order (flat_map (λ l. value_keys a (wish l) (since l) l) (filter is_living lives))
    ++ flat_map (λ l. newest_keys a (wish l) l) (filter is_living lives)

abbrev pub rest_owed : Account → ℕ → (Life → Wanted) → (Life → ℕ) → List Life → List Key
rest_owed a conn wish since lives = news_owed a conn wish lives ++ values_owed a wish since lives

parts : (e r t v n : List Key) → ((((e ++ r) ++ t) ++ v) ++ n) ≡ e ++ ((r ++ t) ++ (v ++ n))
parts e r t v n =
    append_assoc ((e ++ r) ++ t) v n ∙ ap (λ (w : List Key). w ++ (v ++ n)) (append_assoc e r t)
    ∙ append_assoc e (r ++ t) (v ++ n)

pub owed-parts : (a : Account) (conn : ℕ) (wish : Life → Wanted) (since : Life → ℕ) (lives : List Life)
    → keys_owed a conn wish since lives ≡ ends_owed a lives ++ rest_owed a conn wish since lives
owed-parts a conn wish since lives =
    parts (in_order (flat_map (end_keys a) lives)) (in_order (flat_map (reply_keys a conn) (filter is_living lives)))
    (flat_map (λ l. topic_keys a conn (wish l) l) (filter is_living lives))
    (in_order (flat_map (λ l. value_keys a (wish l) (since l) l) (filter is_living lives)))
    (flat_map (λ l. newest_keys a (wish l) l) (filter is_living lives))

-- what is owed of one life that goes on
abbrev pub living_keys : Account → ℕ → Wanted → ℕ → Life → List Key
living_keys a conn wish since l =
    (in_order (reply_keys a conn l) ++ topic_keys a conn wish l)
    ++ (in_order (value_keys a wish since l) ++ newest_keys a wish l)

in_order-few : (id : ℕ) (o : Option ℕ)
    → in_order (map (end_key id) (option_items o)) ≡ map (end_key id) (option_items o)
in_order-few id None = refl
in_order-few id (Some p) = refl

pub own-ends : (a : Account) (id n : ℕ) (lives : List Life) → IdsRise n lives
    → filter (is_of id) (ends_owed a lives) ≡ of_life (end_keys a) (life_at id lives)
own-ends a id n lives r =
    filter-in_order (is_of id) (flat_map (end_keys a) lives)
    ∙ ap in_order (flat-own (end_keys a) (ends-own a) id n lives r)
    ∙ by (life_at id lives)
  where
    by : (o : Option Life) → in_order (of_life (end_keys a) o) ≡ of_life (end_keys a) o
    by None = refl
    by (Some l) = in_order-few l.id (owed_end a l)

pub own-rest : (a : Account) (conn : ℕ) (wish : Life → Wanted) (since : Life → ℕ) (id n : ℕ) (lives : List Life)
    → IdsRise n lives
    → filter (is_of id) (rest_owed a conn wish since lives)
    ≡ of_life (if_living (λ l. living_keys a conn (wish l) (since l) l)) (life_at id lives)
own-rest a conn wish since id n lives r =
    filter-append (is_of id) (R ++ T) (V ++ N)
    ∙ joined (filter-append (is_of id) R T
    ∙ joined (filter-in_order (is_of id) _
    ∙ ap in_order (living-own (reply_keys a conn) (replies-own a conn) id n lives r))
    (living-own (λ l. topic_keys a conn (wish l) l) (topics-own a conn wish) id n lives r))
    (filter-append (is_of id) V N ∙ joined
    (filter-in_order (is_of id) _ ∙ ap in_order
    (living-own (λ l. value_keys a (wish l) (since l) l) (values-own a wish since) id n lives r))
    (living-own (λ l. newest_keys a (wish l) l) (newest-own a wish) id n lives r))
    ∙ by (life_at id lives)
  where
    living : List Life
    living = filter is_living lives

    R : List Key
    R = in_order (flat_map (reply_keys a conn) living)

    T : List Key
    T = flat_map (λ l. topic_keys a conn (wish l) l) living

    V : List Key
    V = in_order (flat_map (λ l. value_keys a (wish l) (since l) l) living)

    N : List Key
    N = flat_map (λ l. newest_keys a (wish l) l) living

    joined : {v w v' w' : List Key} → v ≡ v' → w ≡ w' → v ++ w ≡ v' ++ w'
    joined e f = λ i. e i ++ f i

    F : Life → List Key
    F l = living_keys a conn (wish l) (since l) l

    both : (l : Life) (b : Bool)
        → (in_order (cond b (reply_keys a conn l) []) ++ cond b (topic_keys a conn (wish l) l) [])
        ++ (in_order (cond b (value_keys a (wish l) (since l) l) []) ++ cond b (newest_keys a (wish l) l) [])
        ≡ cond b (F l) []
    both l true = refl
    both l false = refl

    by : (o : Option Life)
        → (in_order (of_life (if_living (reply_keys a conn)) o) ++ of_life
        (if_living (λ l. topic_keys a conn (wish l) l)) o)
        ++ (in_order (of_life (if_living (λ l. value_keys a (wish l) (since l) l)) o) ++ of_life
        (if_living (λ l. newest_keys a (wish l) l)) o)
        ≡ of_life (if_living F) o
    by None = refl
    by (Some l) = both l (is_living l)

-- ---- each key that is owed is of a life

-- the life of a key goes on
abbrev pub OfLiving : List Life → Key → Type 0
OfLiving lives k = (l : Life) × (life_at k.topic lives ≡ Some l) × (is_living l ≡ true)

pub rest-living : (a : Account) (conn : ℕ) (wish : Life → Wanted) (since : Life → ℕ) (n : ℕ) (lives : List Life)
    → IdsRise n lives
    → AllByRecursion (OfLiving lives) (rest_owed a conn wish since lives)
rest-living a conn wish since n lives r =
    each-append (OfLiving lives) (news_owed a conn wish lives) (values_owed a wish since lives)
    (each-append (OfLiving lives) _ _ (each-in_order (OfLiving lives) _ (each (reply_keys a conn) (replies-own a conn)))
    (each (λ l. topic_keys a conn (wish l) l) (topics-own a conn wish)))
    (each-append (OfLiving lives) _ _
    (each-in_order (OfLiving lives) _ (each (λ l. value_keys a (wish l) (since l) l) (values-own a wish since)))
    (each (λ l. newest_keys a (wish l) l) (newest-own a wish)))
  where
    each : (f : Life → List Key) → GivesOwn f → AllByRecursion (OfLiving lives) (flat_map f (filter is_living lives))
    each f own =
        each-flat (OfLiving lives) f (filter is_living lives)
        (each-both (λ l. life_at l.id lives ≡ Some l) (λ l. is_living l ≡ true)
        (λ l. AllByRecursion (OfLiving lives) (f l))
        (λ l found living.
        each-more (λ k. k.topic ≡ l.id) (OfLiving lives) (λ k e. (l, ap (λ i. life_at i lives) e ∙ found, living))
        (f l) (own l))
        (filter is_living lives) (each-filter _ is_living lives (each-found n lives r)) (each-passes is_living lives))

-- ---- kinds

abbrev pub IsEnd : Key → Type 0
IsEnd k = k.kind ≡ Of_end

pub ends-end : (a : Account) (lives : List Life) → AllByRecursion IsEnd (ends_owed a lives)
ends-end a lives =
    each-in_order IsEnd _
    (each-flat IsEnd (end_keys a) lives
    (each-all _ (λ l. each-map IsEnd (end_key l.id) (option_items (owed_end a l))
    (each-all _ (λ place. refl) (option_items (owed_end a l)))) lives))

pub ends-texts : (a : Account) (lives : List Life) → AllByRecursion (λ k. is_value k ≡ false) (ends_owed a lives)
ends-texts a lives = each-more IsEnd (λ k. is_value k ≡ false) (λ k e. ap (λ kind. is_kind kind Of_value) e)
    (ends_owed a lives) (ends-end a lives)

pub news-texts : (a : Account) (conn : ℕ) (wish : Life → Wanted) (lives : List Life)
    → AllByRecursion (λ k. is_value k ≡ false) (news_owed a conn wish lives)
news-texts a conn wish lives =
    each-append P _ _
    (each-in_order P _ (each-flat P (reply_keys a conn) living (each-all _ replies living)))
    (each-flat P (λ l. topic_keys a conn (wish l) l) living (each-all _ topics living))
  where
    P : Key → Type 0
    P k = is_value k ≡ false

    living : List Life
    living = filter is_living lives

    replies : (l : Life) → AllByRecursion P (reply_keys a conn l)
    replies l =
        each-append P (map (λ p. publish_key l.id p.place) (owed_publishes a conn l))
        (map (λ s. setting_key l.id s.place) (owed_settings a l))
        (each-map P (λ p. publish_key l.id p.place) (owed_publishes a conn l)
        (each-all _ (λ p. refl) (owed_publishes a conn l)))
        (each-map P (λ s. setting_key l.id s.place) (owed_settings a l) (each-all _ (λ s. refl) (owed_settings a l)))

    topics : (l : Life) → AllByRecursion P (topic_keys a conn (wish l) l)
    topics l = by (is_wish (wish l) && not (is_announced a l.id) && is_empty (owed_publishes a conn l))
      where
        by : (b : Bool) → AllByRecursion P (cond b (topic_key l.id ∷ []) [])
        by true = (refl, tt)
        by false = tt

pub values-values : (a : Account) (wish : Life → Wanted) (since : Life → ℕ) (lives : List Life)
    → AllByRecursion (λ k. is_value k ≡ true) (values_owed a wish since lives)
values-values a wish since lives =
    each-append P _ _
    (each-in_order P _ (each-flat P (λ l. value_keys a (wish l) (since l) l) living (each-all _ values living)))
    (each-flat P (λ l. newest_keys a (wish l) l) living (each-all _ newest living))
  where
    P : Key → Type 0
    P k = is_value k ≡ true

    living : List Life
    living = filter is_living lives

    values : (l : Life) → AllByRecursion P (value_keys a (wish l) (since l) l)
    values l =
        each-map P (λ p. value_key l.id p.place) (owed_values a (wish l) (since l) l)
        (each-all _ (λ p. refl) (owed_values a (wish l) (since l) l))

    newest : (l : Life) → AllByRecursion P (newest_keys a (wish l) l)
    newest l =
        each-map P (value_key l.id) (option_items (owed_newest a (wish l) l))
        (each-all _ (λ p. refl) (option_items (owed_newest a (wish l) l)))
