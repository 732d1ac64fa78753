-- Keys that are handed leave of each mark what the account after them says.
use Rattle.std.proofs.Common.{◌≡◌, ◌≤◌, ◌+◌, ◌&&◌, ◌||◌, ◌==◌, ℕ, Bool, true, false, cond, not, leb, ltb, max, min}
use Rattle.std.proofs.Common.{List, [], ◌∷◌, ◌++◌, Option, Some, None, option_map, is_some, map, filter, reverse}
use Rattle.std.proofs.Common.{refl, sym, ◌∙◌, ap, subst, arith, inl, inr, ◌⊎◌, ⊎_elim}
use Rattle.std.specs.List.{AllByRecursion, list_any}
use Rattle.std.proofs.lemmas.Bool.Decides.{nat_tests}
use Rattle.std.proofs.lemmas.List.{append-nil, reverse-append}
use Rattle.std.proofs.lemmas.List.Elements.{filter-append}
use Rattle.std.proofs.lemmas.List.Folds.{list_any-append}
use Rattle.nt_topics.specs.Properties.{is_cached}
use Rattle.nt_subs.specs.declared.wish.Wanted.{Wanted}
use Rattle.nt_subs.specs.declared.wish.Wanted.TheVariants.{No, TopicOnly, Newest, All}
use Rattle.nt_rules.specs.topics.Puts.{Put}
use Rattle.nt_rules.specs.outbox.Marks.{Mark}
use Rattle.nt_rules.specs.declared.waiting.Placed.{Placed}
use Rattle.nt_rules.specs.declared.waiting.Setting as marked
use Rattle.nt_rules.specs.declared.waiting.Publish.{Publish}
use Rattle.nt_rules.specs.outbox.Keys.{Kind, Of_end, Of_publish, Of_setting, Of_topic, Of_value, Key, is_kind, is_key}
use Rattle.nt_rules.specs.outbox.Keys.{is_in, end_key, publish_key, setting_key, is_value, announces, next_value}
use Rattle.nt_rules.specs.outbox.Marks.{is_blank, is_meta, is_valued, fresh, handed, handed_all, without, place_from}
use Rattle.nt_rules.specs.history.Lives.{Life, is_living, taken_since_turn}
use Rattle.nt_rules.specs.history.Owed.{Account, is_announced, owed_end, owed_end_at, owed_publishes, owed_settings}
use Rattle.nt_rules.specs.history.Owed.{owed_cached, owed_uncached, owed_values, owed_newest, newest_for, newest_from}
use Rattle.nt_rules.specs.history.Owed.{place_by}
use Rattle.nt_rules.specs.history.Marks.{waiting_publish, waiting_setting, waiting_put, topic_mark, meta_mark}
use Rattle.nt_rules.specs.history.Marks.{end_mark, mark_of, marks_by}
use Rattle.nt_laws.proofs.marks.MarksById.{blank-fresh}
use Rattle.nt_laws.proofs.marks.KeysOwed.{unplaced, mark-id}
use Rattle.nt_laws.proofs.marks.OwnKeys.{OfLife}

-- ---- lists

filter-map : {X Y : Type 0} (p : Y → Bool) (f : X → Y) (xs : List X)
    → filter p (map f xs) ≡ map f (filter (λ x. p (f x)) xs)
filter-map p f [] = refl
filter-map {X} p f (x ∷ xs) = by (filter-map p f xs) (p (f x))
  where
    by : filter p (map f xs) ≡ map f (filter (λ x. p (f x)) xs) → (b : Bool)
        → cond b (f x ∷ filter p (map f xs)) (filter p (map f xs))
        ≡ map f (cond b (x ∷ filter (λ x. p (f x)) xs) (filter (λ x. p (f x)) xs))
    by more true = ap (λ ys. f x ∷ ys) more
    by more false = more

reverse-cons : {X : Type 0} (x : X) (xs : List X) → reverse (x ∷ xs) ≡ reverse xs ++ x ∷ []
reverse-cons x xs = reverse-append (x ∷ []) xs

pub filter-reverse : {X : Type 0} (p : X → Bool) (xs : List X) → filter p (reverse xs) ≡ reverse (filter p xs)
filter-reverse p [] = refl
filter-reverse {X} p (x ∷ xs) =
    ap (filter p) (reverse-cons x xs)
    ∙ filter-append p (reverse xs) (x ∷ [])
    ∙ ap (λ ys. ys ++ filter p (x ∷ [])) (filter-reverse p xs)
    ∙ by (p x)
  where
    by : (b : Bool)
        → reverse (filter p xs) ++ cond b (x ∷ []) [] ≡ reverse (cond b (x ∷ filter p xs) (filter p xs))
    by true = sym (reverse-cons x (filter p xs))
    by false = append-nil (reverse (filter p xs))

filter-both : {X : Type 0} (p q r : X → Bool) → ((x : X) → p x ≡ (r x && q x)) → (xs : List X)
    → filter p xs ≡ filter q (filter r xs)
filter-both p q r same [] = refl
filter-both {X} p q r same (x ∷ xs) =
    ap (λ b. cond b (x ∷ filter p xs) (filter p xs)) (same x) ∙ by (filter-both p q r same xs) (r x)
  where
    by : filter p xs ≡ filter q (filter r xs) → (b : Bool)
        → cond (b && q x) (x ∷ filter p xs) (filter p xs) ≡ filter q (cond b (x ∷ filter r xs) (filter r xs))
    by more true = ap (λ ys. cond (q x) (x ∷ ys) ys) more
    by more false = more

-- ---- keys as an outbox has them

unplaced-kind : (k : Key) → (unplaced k).kind ≡ k.kind
unplaced-kind k = by (is_value k && is_meta k.topic)
  where
    by : (b : Bool) → (cond b (record k { place = 0 }) k).kind ≡ k.kind
    by true = refl
    by false = refl

unplaced-topic : (k : Key) → (unplaced k).topic ≡ k.topic
unplaced-topic k = by (is_value k && is_meta k.topic)
  where
    by : (b : Bool) → (cond b (record k { place = 0 }) k).topic ≡ k.topic
    by true = refl
    by false = refl

pub value-unplaced : (k : Key) → is_value (unplaced k) ≡ is_value k
value-unplaced k = ap (λ x. is_kind x Of_value) (unplaced-kind k)

announces-unplaced : (id : ℕ) (ks : List Key)
    → list_any (announces id) (map unplaced ks) ≡ list_any (announces id) ks
announces-unplaced id [] = refl
announces-unplaced id (k ∷ ks) =
    ap (λ b. b || list_any (announces id) (map unplaced ks)) one
    ∙ ap (λ b. announces id k || b) (announces-unplaced id ks)
  where
    one : announces id (unplaced k) ≡ announces id k
    one =
        ap (λ x. (is_kind x Of_publish || is_kind x Of_topic) && ((unplaced k).topic == id)) (unplaced-kind k)
        ∙ ap (λ n. (is_kind k.kind Of_publish || is_kind k.kind Of_topic) && (n == id)) (unplaced-topic k)

-- a key that is no value is among them as it is among those
other-kind : (x y : Kind) → is_kind x Of_value ≡ false → is_kind y Of_value ≡ true → is_kind x y ≡ false
other-kind x Of_end e f = cc
other-kind x Of_publish e f = cc
other-kind x Of_setting e f = cc
other-kind x Of_topic e f = cc
other-kind x Of_value e f = e

in-unplaced : (q : Key) → is_value q ≡ false → (ks : List Key) → is_in (map unplaced ks) q ≡ is_in ks q
in-unplaced q e [] = refl
in-unplaced q e (k ∷ ks) =
    ap (λ b. b || is_in (map unplaced ks) q) (by (is_value k) refl (is_meta k.topic))
    ∙ ap (λ b. is_key q k || b) (in-unplaced q e ks)
  where
    by : (b : Bool) → is_value k ≡ b → (c : Bool)
        → is_key q (cond (b && c) (record k { place = 0 }) k) ≡ is_key q k
    by false f c = refl
    by true f false = refl
    by true f true =
        let apart : is_kind q.kind k.kind ≡ false = other-kind q.kind k.kind e f in
        ap (λ b. b && (q.topic == k.topic) && (q.place == 0)) apart
        ∙ sym (ap (λ b. b && (q.topic == k.topic) && (q.place == k.place)) apart)

-- the next place of a topic's values is the same, and of a meta topic's 1 where a value is among them
next-unplaced : (id : ℕ) → is_meta id ≡ false → (ks : List Key)
    → next_value (map unplaced ks) id ≡ next_value ks id
next-unplaced id e [] = refl
next-unplaced id e (k ∷ ks) = by (next-unplaced id e ks) (is_value k) refl (k.topic == id) refl
  where
    n : ℕ
    n = next_value (map unplaced ks) id

    by : n ≡ next_value ks id → (v : Bool) → is_value k ≡ v → (b : Bool) → (k.topic == id) ≡ b
        → next_value (unplaced k ∷ map unplaced ks) id ≡ next_value (k ∷ ks) id
    by more true f true g =
        let same : k.topic ≡ id = grind (arith, nat_tests) in
        let whole : unplaced k ≡ k =
        ap (λ b. cond (is_value k && b) (record k { place = 0 }) k) (ap is_meta same ∙ e)
        ∙ ap (λ b. cond (b && false) (record k { place = 0 }) k) f in
        ap (λ x. next_value (x ∷ map unplaced ks) id) whole
        ∙ ap (λ n. cond (is_value k && (k.topic == id)) (max (k.place + 1) n) n) more
    by more true f false g =
        let t : (is_value (unplaced k) && ((unplaced k).topic == id)) ≡ false =
        ap (λ m. is_value (unplaced k) && (m == id)) (unplaced-topic k)
        ∙ ap (λ b. is_value (unplaced k) && b) g ∙ ap (λ b. b && false) (value-unplaced k ∙ f) in
        let u : (is_value k && (k.topic == id)) ≡ false =
        ap (λ b. is_value k && b) g ∙ ap (λ b. b && false) f in
        ap (λ b. cond b (max ((unplaced k).place + 1) n) n) t ∙ more
        ∙ sym (ap (λ b. cond b (max (k.place + 1) (next_value ks id)) (next_value ks id)) u)
    by more false f b g =
        let whole : unplaced k ≡ k = ap (λ b. cond (b && is_meta k.topic) (record k { place = 0 }) k) f in
        ap (λ x. next_value (x ∷ map unplaced ks) id) whole
        ∙ ap (λ n. cond (is_value k && (k.topic == id)) (max (k.place + 1) n) n) more

next-meta : (id : ℕ) → is_meta id ≡ true → (ks : List Key)
    → next_value (map unplaced ks) id ≡ min 1 (next_value ks id)
next-meta id e [] = refl
next-meta id e (k ∷ ks) = by (next-meta id e ks) (is_value k) refl (k.topic == id) refl
  where
    n : ℕ
    n = next_value (map unplaced ks) id

    by : n ≡ min 1 (next_value ks id) → (v : Bool) → is_value k ≡ v → (b : Bool) → (k.topic == id) ≡ b
        → next_value (unplaced k ∷ map unplaced ks) id ≡ min 1 (next_value (k ∷ ks) id)
    by more true f true g =
        let same : k.topic ≡ id = grind (arith, nat_tests) in
        let whole : unplaced k ≡ record k { place = 0 } =
        ap (λ b. cond (is_value k && b) (record k { place = 0 }) k) (ap is_meta same ∙ e)
        ∙ ap (λ b. cond (b && true) (record k { place = 0 }) k) f in
        let t : (is_value k && (k.topic == id)) ≡ true =
        ap (λ b. is_value k && b) g ∙ ap (λ b. b && true) f in
        let left : next_value (unplaced k ∷ map unplaced ks) id ≡ max (0 + 1) n =
        ap (λ x. next_value (x ∷ map unplaced ks) id) whole ∙ ap (λ b. cond b (max (0 + 1) n) n) t in
        let right : next_value (k ∷ ks) id ≡ max (k.place + 1) (next_value ks id) =
        ap (λ b. cond b (max (k.place + 1) (next_value ks id)) (next_value ks id)) t in
        omega arith
    by more true f false g =
        let t : (is_value (unplaced k) && ((unplaced k).topic == id)) ≡ false =
        ap (λ m. is_value (unplaced k) && (m == id)) (unplaced-topic k)
        ∙ ap (λ b. is_value (unplaced k) && b) g ∙ ap (λ b. b && false) (value-unplaced k ∙ f) in
        let u : (is_value k && (k.topic == id)) ≡ false =
        ap (λ b. is_value k && b) g ∙ ap (λ b. b && false) f in
        ap (λ b. cond b (max ((unplaced k).place + 1) n) n) t ∙ more
        ∙ sym (ap (λ b. min 1 (cond b (max (k.place + 1) (next_value ks id)) (next_value ks id))) u)
    by more false f b g =
        let t : (is_value (unplaced k) && ((unplaced k).topic == id)) ≡ false =
        ap (λ b. b && ((unplaced k).topic == id)) (value-unplaced k ∙ f) in
        let u : (is_value k && (k.topic == id)) ≡ false = ap (λ b. b && (k.topic == id)) f in
        ap (λ b. cond b (max ((unplaced k).place + 1) n) n) t ∙ more
        ∙ sym (ap (λ b. min 1 (cond b (max (k.place + 1) (next_value ks id)) (next_value ks id))) u)

-- ---- what keys say of a life

-- none announces it, and none has a value of it
abbrev pub IsOut : ℕ → List Key → Type 0
IsOut id ks = (list_any (announces id) ks ≡ false) × (next_value ks id ≡ 0)

-- none has a value of it, or the last that was taken was reached
abbrev pub IsReached : ℕ → List Put → Type 0
IsReached n ts = (n ≡ 0) ⊎ ((1 ≤ n) × (newest_from n ts ≡ None))

pub record Fits (a : Account) (conn : ℕ) (wish : Life → Wanted) (since : Life → ℕ) (ks : List Key)
    (l : Life) : Type 0 where
  pub if_over : is_living l ≡ false → IsOut l.id ks
  pub if_blank : is_blank (mark_of a conn wish since l) ≡ true → IsOut l.id ks
  pub if_meta : is_living l ≡ true → is_meta l.id ≡ true → IsReached (next_value ks l.id) (taken_since_turn l)

pub out-of : (id : ℕ) (ks : List Key) → AllByRecursion (OfLife id (λ k. is_kind k.kind Of_end ≡ true)) ks
    → IsOut id ks
out-of id [] h = (refl, refl)
out-of id (k ∷ ks) h = by k.kind (k.topic == id) h.0 (out-of id ks h.1)
  where
    by : (x : Kind) (b : Bool) → (b ≡ true → is_kind x Of_end ≡ true) → IsOut id ks
        → (((is_kind x Of_publish || is_kind x Of_topic) && b || list_any (announces id) ks) ≡ false)
        × (cond (is_kind x Of_value && b) (max (k.place + 1) (next_value ks id)) (next_value ks id) ≡ 0)
    by Of_end b e more = more
    by Of_setting false e more = more
    by Of_setting true e more = more
    by Of_publish false e more = more
    by Of_topic false e more = more
    by Of_value false e more = more
    by Of_publish true e more = absurd (let f = e refl in cc)
    by Of_topic true e more = absurd (let f = e refl in cc)
    by Of_value true e more = absurd (let f = e refl in cc)

leb-max : (a b n : ℕ) → leb (max a b) n ≡ (leb a n && leb b n)
leb-max a b n = grind (arith, nat_tests)

-- past a place where there is none there is none later
none-later : (m n : ℕ) (ts : List Put) → newest_from m ts ≡ None → newest_from (max m n) ts ≡ None
none-later m n [] e = refl
none-later m n (p ∷ ts) e = ap (λ b. cond b (Some p.place) None) (leb-max m n p.place) ∙ by (leb m p.place) e
  where
    by : (b : Bool) → cond b (Some p.place) None ≡ None → cond (b && leb n p.place) (Some p.place) None ≡ None
    by true e = cc
    by false e = refl

pub reached-of : (id : ℕ) (ts : List Put) (ks : List Key)
    → AllByRecursion (OfLife id (λ k. is_value k ≡ true → newest_from (k.place + 1) ts ≡ None)) ks
    → IsReached (next_value ks id) ts
reached-of id ts [] h = inl refl
reached-of id ts (k ∷ ks) h = by (is_value k) refl (k.topic == id) refl (reached-of id ts ks h.1)
  where
    by : (v : Bool) → is_value k ≡ v → (b : Bool) → (k.topic == id) ≡ b → IsReached (next_value ks id) ts
        → IsReached (cond (v && b) (max (k.place + 1) (next_value ks id)) (next_value ks id)) ts
    by true e true f more = inr (omega arith, none-later (k.place + 1) (next_value ks id) ts (h.0 f e))
    by true e false f more = more
    by false e b f more = more

-- ---- one mark

next-append : (given ks : List Key) (id : ℕ)
    → next_value (given ++ ks) id ≡ max (next_value given id) (next_value ks id)
next-append [] ks id = omega arith
next-append (k ∷ given) ks id = by (next-append given ks id) (is_value k && (k.topic == id))
  where
    by : next_value (given ++ ks) id ≡ max (next_value given id) (next_value ks id) → (b : Bool)
        → cond b (max (k.place + 1) (next_value (given ++ ks) id)) (next_value (given ++ ks) id)
        ≡ max (cond b (max (k.place + 1) (next_value given id)) (next_value given id)) (next_value ks id)
    by more true = ap (λ n. max (k.place + 1) n) more ∙ omega arith
    by more false = more

-- not among either
not-in : (given ks : List Key) (q : Key) → is_value q ≡ false
    → not (is_in (given ++ ks) q) ≡ (not (is_in given q) && not (is_in (map unplaced ks) q))
not-in given ks q e =
    ap not (list_any-append (is_key q) given ks)
    ∙ ap (λ b. not (is_in given q || b)) (sym (in-unplaced q e ks)) ∙ by (is_in given q)
  where
    by : (b : Bool) → not (b || is_in (map unplaced ks) q) ≡ (not b && not (is_in (map unplaced ks) q))
    by true = refl
    by false = refl

-- the account with more keys given
abbrev pub with_given : Account → List Key → Account
with_given a ks = record a { given = a.given ++ ks }

announced-more : (a : Account) (ks : List Key) (id : ℕ)
    → is_announced (with_given a ks) id ≡ (is_announced a id || list_any (announces id) (map unplaced ks))
announced-more a ks id =
    list_any-append (announces id) a.given ks
    ∙ ap (λ b. is_announced a id || b) (sym (announces-unplaced id ks))

-- of these puts those whose place the keys given reached and another test passes, oldest first
puts-handed : (given ks : List Key) (id : ℕ) (test : ℕ → Bool) (ps : List Put)
    → reverse (filter (λ p. leb (next_value (given ++ ks) id) p.place && test p.place) ps)
    ≡ filter (λ p. leb (next_value ks id) p.place)
    (reverse (filter (λ p. leb (next_value given id) p.place && test p.place) ps))
puts-handed given ks id test ps =
    ap (λ n. reverse (filter (λ (p : Put). leb n p.place && test p.place) ps)) (next-append given ks id)
    ∙ ap reverse
    (filter-both _ (λ p. leb (next_value ks id) p.place)
    (λ p. leb (next_value given id) p.place && test p.place) (λ p. same p.place (test p.place)) ps)
    ∙ sym (filter-reverse (λ p. leb (next_value ks id) p.place)
    (filter (λ p. leb (next_value given id) p.place && test p.place) ps))
  where
    same : (n : ℕ) (c : Bool)
        → (leb (max (next_value given id) (next_value ks id)) n && c)
        ≡ ((leb (next_value given id) n && c) && leb (next_value ks id) n)
    same n c =
        ap (λ d. d && c) (leb-max (next_value given id) (next_value ks id) n)
        ∙ swap (leb (next_value given id) n) (leb (next_value ks id) n) c
      where
        swap : (x y c : Bool) → ((x && y) && c) ≡ ((x && c) && y)
        swap true true true = refl
        swap true true false = refl
        swap true false true = refl
        swap true false false = refl
        swap false y c = refl

cached-handed : (a : Account) (ks : List Key) (wish : Wanted) (since : ℕ) (l : Life)
    → owed_cached (with_given a ks) wish since l
    ≡ filter (λ p. leb (next_value ks l.id) p.place) (owed_cached a wish since l)
cached-handed a ks No since l = refl
cached-handed a ks TopicOnly since l = refl
cached-handed a ks Newest since l = refl
cached-handed a ks All since l =
    puts-handed a.given ks l.id (λ place. leb (place_by since (taken_since_turn l)) place) (taken_since_turn l)

uncached-handed : (a : Account) (ks : List Key) (wish : Wanted) (since : ℕ) (l : Life)
    → owed_uncached (with_given a ks) wish since l
    ≡ filter (λ p. leb (next_value ks l.id) p.place) (owed_uncached a wish since l)
uncached-handed a ks wish since l = by (is_valued wish)
  where
    after : List Put
    after = owed_uncached (with_given a ks) All since l

    before : List Put
    before = owed_uncached a All since l

    by : (b : Bool) → cond b after [] ≡ filter (λ p. leb (next_value ks l.id) p.place) (cond b before [])
    by true = puts-handed a.given ks l.id (λ place. ltb since place) (taken_since_turn l)
    by false = refl

values-handed : (a : Account) (ks : List Key) (wish : Wanted) (since : ℕ) (l : Life)
    → owed_values (with_given a ks) wish since l
    ≡ filter (λ p. leb (next_value ks l.id) p.place) (owed_values a wish since l)
values-handed a ks wish since l = by (is_cached l.props)
  where
    by : (b : Bool)
        → cond b (owed_cached (with_given a ks) wish since l) (owed_uncached (with_given a ks) wish since l)
        ≡ filter (λ p. leb (next_value ks l.id) p.place)
        (cond b (owed_cached a wish since l) (owed_uncached a wish since l))
    by true = cached-handed a ks wish since l
    by false = uncached-handed a ks wish since l

from-handed : (m n : ℕ) (ts : List Put) → newest_from (max m n) ts ≡ place_from n (newest_from m ts)
from-handed m n [] = refl
from-handed m n (p ∷ ts) = ap (λ b. cond b (Some p.place) None) (leb-max m n p.place) ∙ by (leb m p.place)
  where
    by : (b : Bool)
        → cond (b && leb n p.place) (Some p.place) None ≡ place_from n (cond b (Some p.place) None)
    by true = refl
    by false = refl

newest-handed : (a : Account) (ks : List Key) (wish : Wanted) (l : Life)
    → owed_newest (with_given a ks) wish l ≡ place_from (next_value ks l.id) (owed_newest a wish l)
newest-handed a ks wish l = by (is_cached l.props)
  where
    on : (w : Wanted) → newest_for (with_given a ks) w l ≡ place_from (next_value ks l.id) (newest_for a w l)
    on No = refl
    on TopicOnly = refl
    on All = refl
    on Newest =
        ap (λ n. newest_from n (taken_since_turn l)) (next-append a.given ks l.id)
        ∙ from-handed (next_value a.given l.id) (next_value ks l.id) (taken_since_turn l)

    by : (b : Bool) → cond b (newest_for (with_given a ks) wish l) None
        ≡ place_from (next_value ks l.id) (cond b (newest_for a wish l) None)
    by true = on wish
    by false = refl

-- the mark of a life with these parts
abbrev mark_with : Life → Bool → Option ℕ → List Publish → List marked.Setting → ℕ → Wanted → List Placed
    → Option ℕ
    → Mark
mark_with l announced over publishes settings next wish values newest =
    record {
      id = l.id;
      name = l.name;
      is_announced = announced;
      over = over;
      publishes = publishes;
      settings = settings;
      next = next;
      wish = wish;
      values = values;
      newest = newest;
    }

made : (l : Life) (b c : Bool) (o p : Option ℕ) (ps qs : List Publish) (ss ts : List marked.Setting)
    (m n : ℕ) (w : Wanted) (us vs : List Placed) (x y : Option ℕ)
    → b ≡ c → o ≡ p → ps ≡ qs → ss ≡ ts → m ≡ n → us ≡ vs → x ≡ y
    → mark_with l b o ps ss m w us x ≡ mark_with l c p qs ts n w vs y
made l b c o p ps qs ss ts m n w us vs x y e1 e2 e3 e4 e5 e6 e7 = cc

topic-handed : (a : Account) (ks : List Key) (conn : ℕ) (wish : Wanted) (since : ℕ) (l : Life)
    → is_meta l.id ≡ false
    → topic_mark (with_given a ks) conn wish since l
    ≡ handed (map unplaced ks) (topic_mark a conn wish since l)
topic-handed a ks conn wish since l f =
    made l _ _ None None _ _ _ _ _ _ wish _ _ _ _
    (announced-more a ks l.id)
    refl
    (ap (map waiting_publish)
    (filter-both _ (λ p. not (is_in (map unplaced ks) (publish_key l.id p.place)))
    (λ p. not (is_in a.given (publish_key l.id p.place)))
    (λ p. not-in a.given ks (publish_key l.id p.place) refl) (filter (λ p. p.conn == conn) l.publishings))
    ∙ sym (filter-map (λ p. not (is_in (map unplaced ks) (publish_key l.id p.place))) waiting_publish
    (owed_publishes a conn l)))
    (ap (map (waiting_setting conn))
    (filter-both _ (λ s. not (is_in (map unplaced ks) (setting_key l.id s.place)))
    (λ s. not (is_in a.given (setting_key l.id s.place)))
    (λ s. not-in a.given ks (setting_key l.id s.place) refl)
    (filter (λ s. list_any (λ place. place == s.place) a.told_settings) l.settings))
    ∙ sym (filter-map (λ s. not (is_in (map unplaced ks) (setting_key l.id s.place))) (waiting_setting conn)
    (owed_settings a l)))
    (next-append a.given ks l.id ∙ ap (λ n. max (next_value a.given l.id) n) (sym (next-unplaced l.id f ks)))
    (ap (map waiting_put) (values-handed a ks wish since l)
    ∙ ap (λ n. map waiting_put (filter (λ (p : Put). leb n p.place) (owed_values a wish since l)))
    (sym (next-unplaced l.id f ks))
    ∙ sym (filter-map (λ p. leb (next_value (map unplaced ks) l.id) p.place) waiting_put
    (owed_values a wish since l)))
    (newest-handed a ks wish l
    ∙ ap (λ n. place_from n (owed_newest a wish l)) (sym (next-unplaced l.id f ks)))

meta-handed : (a : Account) (ks : List Key) (wish : Wanted) (l : Life) → is_meta l.id ≡ true
    → IsReached (next_value ks l.id) (taken_since_turn l)
    → meta_mark (with_given a ks) wish l ≡ handed (map unplaced ks) (meta_mark a wish l)
meta-handed a ks wish l f reached =
    made l _ _ None None [] [] [] [] _ _ wish [] [] _ _ (announced-more a ks l.id) refl refl refl next refl
    (newest wish)
  where
    n : ℕ
    n = next_value ks l.id

    ts : List Put
    ts = taken_since_turn l

    past : ℕ
    past = next_value a.given l.id

    later : newest_from (next_value (a.given ++ ks) l.id) ts ≡ newest_from (max past n) ts
    later = ap (λ m. newest_from m ts) (next-append a.given ks l.id)

    -- where a value of it is handed, nothing is left of it
    none : newest_from n ts ≡ None → newest_from (max past n) ts ≡ None
    none e = ap (λ m. newest_from m ts) (let swap : max past n ≡ max n past = omega arith in swap)
        ∙ none-later n past ts e

    same : n ≡ 0 → newest_from (max past n) ts ≡ newest_from past ts
    same e = ap (λ m. newest_from m ts) (let still : max past n ≡ past = omega arith in still)

    small : ℕ → Option ℕ → ℕ
    small x o = max (cond (is_some o) 0 1) x

    next : cond (is_some (newest_from (next_value (a.given ++ ks) l.id) ts)) 0 1
        ≡ max (cond (is_some (newest_from past ts)) 0 1) (next_value (map unplaced ks) l.id)
    next =
        ap (λ o. cond (is_some o) 0 1) later
        ∙ ⊎_elim
        (λ e. ap (λ o. cond (is_some o) 0 1) (same e) ∙ zero_next (newest_from past ts) e)
        (λ e. ap (λ o. cond (is_some o) 0 1) (none e.1) ∙ one_next (newest_from past ts) e.0)
        reached
        ∙ ap (λ m. max (cond (is_some (newest_from past ts)) 0 1) m) (sym (next-meta l.id f ks))
      where
        zero_next : (o : Option ℕ) → n ≡ 0 → cond (is_some o) 0 1 ≡ max (cond (is_some o) 0 1) (min 1 n)
        zero_next None e = omega arith
        zero_next (Some p) e = omega arith

        one_next : (o : Option ℕ) → 1 ≤ n → 1 ≡ max (cond (is_some o) 0 1) (min 1 n)
        one_next None e = omega arith
        one_next (Some p) e = omega arith

    on : (w : Wanted) → option_map (λ place. 0) (newest_for (with_given a ks) w l)
        ≡ place_from (next_value (map unplaced ks) l.id) (option_map (λ place. 0) (newest_for a w l))
    on No = refl
    on TopicOnly = refl
    on All = refl
    on Newest =
        ap (option_map (λ place. 0)) later
        ∙ ⊎_elim
        (λ e. ap (option_map (λ place. 0)) (same e) ∙ zero_newest (newest_from past ts) e)
        (λ e. ap (option_map (λ place. 0)) (none e.1) ∙ one_newest (newest_from past ts) e.0)
        reached
        ∙ ap (λ m. place_from m (option_map (λ place. 0) (newest_from past ts))) (sym (next-meta l.id f ks))
      where
        zero_newest : (o : Option ℕ) → n ≡ 0
            → option_map (λ place. 0) o ≡ place_from (min 1 n) (option_map (λ place. 0) o)
        zero_newest None e = refl
        zero_newest (Some p) e =
            let low : leb (min 1 n) 0 ≡ true = grind (arith, nat_tests) in
            sym (ap (λ b. cond b (Some 0) None) low)

        one_newest : (o : Option ℕ) → 1 ≤ n → None ≡ place_from (min 1 n) (option_map (λ place. 0) o)
        one_newest None e = refl
        one_newest (Some p) e =
            let high : leb (min 1 n) 0 ≡ false = grind (arith, nat_tests) in
            sym (ap (λ b. cond b (Some 0) None) high)

    newest : (w : Wanted) → option_map (λ place. 0) (owed_newest (with_given a ks) w l)
        ≡ place_from (next_value (map unplaced ks) l.id) (option_map (λ place. 0) (owed_newest a w l))
    newest w = by (is_cached l.props)
      where
        by : (b : Bool) → option_map (λ place. 0) (cond b (newest_for (with_given a ks) w l) None)
            ≡ place_from (next_value (map unplaced ks) l.id)
            (option_map (λ place. 0) (cond b (newest_for a w l) None))
        by true = on w
        by false = refl

end-handed : (a : Account) (ks : List Key) (l : Life) → IsOut l.id ks → IsOut l.id (map unplaced ks)
    → end_mark (with_given a ks) l ≡ handed (map unplaced ks) (end_mark a l)
end-handed a ks l out out' =
    made l false _ _ _ [] [] [] [] 0 _ No [] [] None None (sym out'.0) over refl refl
    (sym (ap (λ n. max 0 n) out'.1)) refl refl
  where
    still : is_announced (with_given a ks) l.id ≡ is_announced a l.id
    still = list_any-append (announces l.id) a.given ks ∙ ap (λ b. is_announced a l.id || b) out.0
        ∙ nothing (is_announced a l.id)
      where
        nothing : (b : Bool) → (b || false) ≡ b
        nothing true = refl
        nothing false = refl

    over : owed_end (with_given a ks) l ≡ without (map unplaced ks) (owed_end a l) l.id
    over = ap (λ b. cond b (owed_end_at (with_given a ks) l.id l.over) None) still
        ∙ by (is_announced a l.id) l.over
      where
        test : (place : ℕ) (b : Bool)
            → cond (b || is_in ks (end_key l.id place)) None (Some place)
            ≡ without (map unplaced ks) (cond b None (Some place)) l.id
        test place true = refl
        test place false = ap (λ b. cond b None (Some place)) (sym (in-unplaced (end_key l.id place) refl ks))

        by : (b : Bool) (o : Option ℕ)
            → cond b (owed_end_at (with_given a ks) l.id o) None
            ≡ without (map unplaced ks) (cond b (owed_end_at a l.id o) None) l.id
        by false o = refl
        by true None = refl
        by true (Some place) =
            ap (λ b. cond b None (Some place)) (list_any-append (is_key (end_key l.id place)) a.given ks)
            ∙ test place (is_in a.given (end_key l.id place))

out-unplaced : (id : ℕ) (ks : List Key) → IsOut id ks → IsOut id (map unplaced ks)
out-unplaced id ks out = (announces-unplaced id ks ∙ out.0, by (is_meta id) refl)
  where
    by : (b : Bool) → is_meta id ≡ b → next_value (map unplaced ks) id ≡ 0
    by true e = next-meta id e ks ∙ ap (λ n. min 1 n) out.1
    by false e = next-unplaced id e ks ∙ out.1

pub mark-handed : (a : Account) (ks : List Key) (conn : ℕ) (wish : Life → Wanted) (since : Life → ℕ)
    (l : Life) → Fits a conn wish since ks l
    → mark_of (with_given a ks) conn wish since l ≡ handed (map unplaced ks) (mark_of a conn wish since l)
mark-handed a ks conn wish since l fits = by (is_living l) refl (is_meta l.id) refl
  where
    by : (b : Bool) → is_living l ≡ b → (c : Bool) → is_meta l.id ≡ c
        → cond (not b) (end_mark (with_given a ks) l)
        (cond c (meta_mark (with_given a ks) (wish l) l)
        (topic_mark (with_given a ks) conn (wish l) (since l) l))
        ≡ handed (map unplaced ks)
        (cond (not b) (end_mark a l)
        (cond c (meta_mark a (wish l) l) (topic_mark a conn (wish l) (since l) l)))
    by false e c f = end-handed a ks l (fits.if_over e) (out-unplaced l.id ks (fits.if_over e))
    by true e true f = meta-handed a ks (wish l) l f (fits.if_meta e f)
    by true e false f = topic-handed a ks conn (wish l) (since l) l f

-- ---- all marks

-- a blank mark that no key names stays blank
blank-handed : (ks : List Key) (m : Mark) → is_blank m ≡ true → IsOut m.id ks
    → handed ks m ≡ fresh m.id m.name
blank-handed ks m blank out =
    ap (handed ks) (blank-fresh m blank)
    ∙ ap (λ b. record (handed ks (fresh m.id m.name)) { is_announced = b }) out.0
    ∙ ap (λ n. record (fresh m.id m.name) { next = max 0 n }) out.1

pub marks-handed : (a : Account) (ks : List Key) (conn : ℕ) (wish : Life → Wanted) (since : Life → ℕ)
    (lives : List Life)
    → AllByRecursion (Fits a conn wish since ks) lives
    → marks_by (with_given a ks) conn wish since lives
    ≡ handed_all (map unplaced ks) (marks_by a conn wish since lives)
marks-handed a ks conn wish since [] h = refl
marks-handed a ks conn wish since (l ∷ lives) h =
    ap (λ (x : Mark). cond (not (is_blank x)) (x ∷ rest') rest') (mark-handed a ks conn wish since l h.0)
    ∙ by (is_blank m) refl (marks-handed a ks conn wish since lives h.1)
  where
    m : Mark
    m = mark_of a conn wish since l

    rest : List Mark
    rest = marks_by a conn wish since lives

    rest' : List Mark
    rest' = marks_by (with_given a ks) conn wish since lives

    by : (b : Bool) → is_blank m ≡ b → rest' ≡ handed_all (map unplaced ks) rest
        → cond (not (is_blank (handed (map unplaced ks) m))) (handed (map unplaced ks) m ∷ rest') rest'
        ≡ handed_all (map unplaced ks) (cond (not b) (m ∷ rest) rest)
    by false e more =
        ap (λ ms. cond (not (is_blank (handed (map unplaced ks) m)))
        (handed (map unplaced ks) m ∷ ms) ms) more
    by true e more =
        let out : IsOut m.id ks =
        subst (λ id. IsOut id ks) (sym (mark-id a conn wish since l)) (h.0.if_blank e) in
        ap (λ (x : Mark). cond (not (is_blank x)) (x ∷ rest') rest')
        (blank-handed (map unplaced ks) m e (out-unplaced m.id ks out)) ∙ more
