-- Where a connection changes topics, the others stay, and so do the rows of the publishers of other connections.
use Rattle.std.proofs.Common.{◌≡◌, ◌||◌, ◌==◌, not, ℕ, ℤ, Bool, true, false, cond, List, [], ◌∷◌, ◌++◌, Option}
use Rattle.std.proofs.Common.{Some, None, map, filter, length, refl, sym, ◌∙◌, ap, arith, ltb}
use Rattle.std.specs.List.{AllByRecursion, list_any, flat_map, cons_option}
use Rattle.std.specs.Ordering.{int_eq}
use Rattle.std.proofs.lemmas.Bool.{and_parts}
use Rattle.std.proofs.lemmas.Bool.Decides.{nat_tests}
use Rattle.std.proofs.lemmas.Slice.Eq.{bytes_eq-Decides}
use Rattle.serde_json.specs.Data.{Data}
use Rattle.nt_rules.specs.declared.topic.Pub.{Pub}
use Rattle.nt_rules.specs.declared.topic.Topic.{Topic}
use Rattle.nt_rules.specs.topics.Topics.{is_of, is_publisher, has_publisher, has_conn, is_named, lives_on, if_it_lives_on}
use Rattle.nt_rules.specs.topics.Topics.{change_first, with_publisher, new_topic, published, without_publisher, unpublished}
use Rattle.nt_rules.specs.topics.Topics.{without_conn, outlives, dropped, with_update, with_props}
use Rattle.nt_rules.specs.meta.Order.{insert_all, pub_below}
use Rattle.nt_rules.specs.history.Metas.{pub_row, pub_rows}
use Rattle.nt_laws.proofs.histories.Publishers.{AreOthers}
use Rattle.nt_laws.proofs.metas.PlainRosters.{rows, no-rows}
use Rattle.nt_laws.proofs.metas.UntouchedMetas.{Touches, ChangesTopics, filter-others, filter-pushed}
use Rattle.nt_laws.proofs.topics.ItemFacts.{each-all, each-map, each-more, each-passes}
use Rattle.nt_laws.proofs.topics.OneName.{or-false}

-- ---- the first item that passes a test, changed

filter-change : {X : Type 0} (p test : X → Bool) (g : X → Option X)
    → ((x : X) → p x ≡ false → (ys : List X) → filter p (cons_option (g x) ys) ≡ filter p ys)
    → (xs : List X) → AllByRecursion (λ x. test x ≡ true → p x ≡ false) xs
    → filter p (change_first test g xs) ≡ filter p xs
filter-change p test g gone [] h = refl
filter-change {X} p test g gone (x ∷ xs) h = by (test x) refl (filter-change p test g gone xs h.1)
  where
    by : (b : Bool) → test x ≡ b → filter p (change_first test g xs) ≡ filter p xs
        → filter p (cond b (cons_option (g x) xs) (x ∷ change_first test g xs))
        ≡ cond (p x) (x ∷ filter p xs) (filter p xs)
    by true e more =
        gone x (h.0 e) xs ∙ sym (ap (λ b. cond b (x ∷ filter p xs) (filter p xs)) (h.0 e))
    by false e more = ap (λ ys. cond (p x) (x ∷ ys) ys) more

flat-change : {X Y : Type 0} (h : X → List Y) (test : X → Bool) (g : X → Option X)
    → ((x : X) (ys : List X) → flat_map h (cons_option (g x) ys) ≡ h x ++ flat_map h ys)
    → (xs : List X) → flat_map h (change_first test g xs) ≡ flat_map h xs
flat-change h test g same [] = refl
flat-change {X} h test g same (x ∷ xs) = by (test x) (flat-change h test g same xs)
  where
    by : (b : Bool) → flat_map h (change_first test g xs) ≡ flat_map h xs
        → flat_map h (cond b (cons_option (g x) xs) (x ∷ change_first test g xs)) ≡ h x ++ flat_map h xs
    by true more = same x xs
    by false more = ap (λ ys. h x ++ ys) more

flat-pushed : {X Y : Type 0} (h : X → List Y) (xs : List X) (y : X) → h y ≡ []
    → flat_map h (xs ++ y ∷ []) ≡ flat_map h xs
flat-pushed h [] y e = ap (λ ys. ys ++ []) e
flat-pushed h (x ∷ xs) y e = ap (λ ys. h x ++ ys) (flat-pushed h xs y e)

-- ---- what is left of a topic

-- where its name doesn't pass, neither does what is left
left-named : (b : List ℕ → Bool) (t : Topic) → b t.name ≡ false → (ys : List Topic)
    → filter (λ (t : Topic). b t.name) (cons_option (if_it_lives_on t) ys) ≡ filter (λ (t : Topic). b t.name) ys
left-named b t e ys = by (lives_on t)
  where
    by : (c : Bool) → filter (λ (t : Topic). b t.name) (cons_option (cond c (Some t) None) ys)
        ≡ filter (λ (t : Topic). b t.name) ys
    by true =
        ap (λ c. cond c (t ∷ filter (λ (t : Topic). b t.name) ys) (filter (λ (t : Topic). b t.name) ys)) e
    by false = refl

-- one that ends has no publishers left
ended-rows : (number : ℕ) (t : Topic) → lives_on t ≡ false → rows number t ≡ []
ended-rows number t e = by t.pubs (or-false (ltb 0 (length t.pubs)) _ e).0
  where
    by : (ps : List Pub) → ltb 0 (length ps) ≡ false → map (pub_row t) (filter (is_of number) ps) ≡ []
    by [] f = refl
    by (p ∷ ps) f = absurd (grind (arith, nat_tests))

left-rows : (number : ℕ) (t : Topic) (ys : List Topic)
    → flat_map (rows number) (cons_option (if_it_lives_on t) ys) ≡ rows number t ++ flat_map (rows number) ys
left-rows number t ys = by (lives_on t) refl
  where
    by : (c : Bool) → lives_on t ≡ c
        → flat_map (rows number) (cons_option (cond c (Some t) None) ys)
        ≡ rows number t ++ flat_map (rows number) ys
    by true e = refl
    by false e = sym (ap (λ rs. rs ++ flat_map (rows number) ys) (ended-rows number t e))

-- ---- publishers of other connections

other-of : (number conn : ℕ) (p : Pub) → (number == conn) ≡ false → (p.conn == conn) ≡ true
    → is_of number p ≡ false
other-of number conn p apart e = grind (arith, nat_tests)

not-of : (number conn : ℕ) → (number == conn) ≡ false → (conn == number) ≡ false
not-of number conn apart = grind (arith, nat_tests)

-- the publishers of one connection are left where some of another go
fewer-rows : (number : ℕ) (t : Topic) (test : Pub → Bool)
    → ((p : Pub) → test p ≡ true → is_of number p ≡ false)
    → rows number (record t { pubs = filter (λ p. not (test p)) t.pubs }) ≡ rows number t
fewer-rows number t test apart =
    ap (map (pub_row t)) (filter-others (is_of number) test t.pubs
    (each-all (λ (p : Pub). test p ≡ true → is_of number p ≡ false) apart t.pubs))

-- ---- publish, unpublish, a change of properties

named-is : (name : List ℕ) (b : List ℕ → Bool) → b name ≡ false → (t : Topic) → is_named name t ≡ true
    → b t.name ≡ false
named-is name b e t f = ap b ((bytes_eq-Decides t.name name).0 f) ∙ e

module _ (names : List (List ℕ)) (conn : ℕ) (ts : List Topic) where
  pub publish-changes : (next : ℕ) (name typ : List ℕ) (props : Data) (p : Pub) → p.conn ≡ conn
      → Touches names name → ChangesTopics names conn ts (published ts next name typ props p)
  publish-changes next name typ props p its touches =
      record {
        same_named = λ b other. named b (other name touches) (list_any (is_named name) ts);
        same_rows = λ number apart.
            ap (λ rs. insert_all pub_below [] rs) (told number apart (list_any (is_named name) ts));
      }
    where
      new : Topic
      new = new_topic next name typ props (p ∷ [])

      named : (b : List ℕ → Bool) → b name ≡ false → (c : Bool)
          → filter (λ (t : Topic). b t.name)
          (cond c (change_first (is_named name) (λ t. Some (with_publisher p t)) ts) (ts ++ new ∷ []))
          ≡ filter (λ (t : Topic). b t.name) ts
      named b e true =
          filter-change (λ (t : Topic). b t.name) (is_named name) (λ t. Some (with_publisher p t))
          (λ t f ys. ap (λ c. cond c (with_publisher p t ∷ filter (λ (t : Topic). b t.name) ys)
          (filter (λ (t : Topic). b t.name) ys)) f) ts
          (each-all (λ (t : Topic). is_named name t ≡ true → b t.name ≡ false) (named-is name b e) ts)
      named b e false = filter-pushed (λ (t : Topic). b t.name) ts new e

      its-rows : (number : ℕ) → (number == conn) ≡ false → is_of number p ≡ false
      its-rows number apart = ap (λ k. k == number) its ∙ not-of number conn apart

      told : (number : ℕ) → (number == conn) ≡ false → (c : Bool)
          → flat_map (rows number)
          (cond c (change_first (is_named name) (λ t. Some (with_publisher p t)) ts) (ts ++ new ∷ []))
          ≡ flat_map (rows number) ts
      told number apart true =
          flat-change (rows number) (is_named name) (λ t. Some (with_publisher p t))
          (λ t ys. ap (λ ps. map (pub_row t) ps ++ flat_map (rows number) ys)
          (filter-pushed (is_of number) t.pubs p (its-rows number apart))) ts
      told number apart false =
          flat-pushed (rows number) ts new
          (ap (λ c. map (pub_row new) (cond c (p ∷ []) [])) (its-rows number apart))

  pub unpublish-changes : (uid : ℤ)
      → AllByRecursion (λ (t : Topic). has_publisher conn uid t ≡ true → Touches names t.name) ts
      → ChangesTopics names conn ts (unpublished ts conn uid)
  unpublish-changes uid touches =
      record {
        same_named = λ b other.
            filter-change (λ (t : Topic). b t.name) (has_publisher conn uid)
            (λ t. if_it_lives_on (without_publisher conn uid t))
            (λ t f ys. left-named b (without_publisher conn uid t) f ys) ts
            (each-more (λ (t : Topic). has_publisher conn uid t ≡ true → Touches names t.name)
            (λ (t : Topic). has_publisher conn uid t ≡ true → b t.name ≡ false)
            (λ t touched e. other t.name (touched e)) ts touches);
        same_rows = λ number apart.
            ap (λ rs. insert_all pub_below [] rs)
            (flat-change (rows number) (has_publisher conn uid)
            (λ t. if_it_lives_on (without_publisher conn uid t))
            (λ t ys. left-rows number (without_publisher conn uid t) ys
            ∙ ap (λ rs. rs ++ flat_map (rows number) ys)
            (fewer-rows number t (is_publisher conn uid)
            (λ p e. other-of number conn p apart (and_parts (p.conn == conn) (int_eq p.uid uid) e).0))) ts);
      }

  pub update-changes : (name : List ℕ) (u : Data) → Touches names name
      → ChangesTopics names conn ts (with_props ts name u)
  update-changes name u touches =
      record {
        same_named = λ b other.
            filter-change (λ (t : Topic). b t.name) (is_named name) (λ t. if_it_lives_on (with_update u t))
            (λ t f ys. left-named b (with_update u t) f ys) ts
            (each-all (λ (t : Topic). is_named name t ≡ true → b t.name ≡ false)
            (named-is name b (other name touches)) ts);
        same_rows = λ number apart.
            ap (λ rs. insert_all pub_below [] rs)
            (flat-change (rows number) (is_named name) (λ t. if_it_lives_on (with_update u t))
            (λ t ys. left-rows number (with_update u t) ys) ts);
      }

-- ---- the end of a connection

none-dropped : (conn : ℕ) (ps : List Pub) → list_any (is_of conn) ps ≡ false
    → filter (λ p. not (is_of conn p)) ps ≡ ps
none-dropped conn [] e = refl
none-dropped conn (p ∷ ps) e =
    let both = or-false (is_of conn p) (list_any (is_of conn) ps) e in
    ap (λ b. cond (not b) (p ∷ filter (λ p. not (is_of conn p)) ps) (filter (λ p. not (is_of conn p)) ps)) both.0
    ∙ ap (λ qs. p ∷ qs) (none-dropped conn ps both.1)

dropped-named : (conn : ℕ) (b : List ℕ → Bool) (ts : List Topic)
    → AllByRecursion (λ (t : Topic). has_conn conn t ≡ true → b t.name ≡ false) ts
    → filter (λ (t : Topic). b t.name) (dropped ts conn) ≡ filter (λ (t : Topic). b t.name) ts
dropped-named conn b [] h = refl
dropped-named conn b (t ∷ ts) h =
    by (has_conn conn t) refl (lives_on (without_conn conn t)) (dropped-named conn b ts h.1)
  where
    left : List Topic
    left = filter (λ (t : Topic). b t.name) (dropped ts conn)

    by : (has : Bool) → has_conn conn t ≡ has → (lives : Bool)
        → left ≡ filter (λ (t : Topic). b t.name) ts
        → filter (λ (t : Topic). b t.name)
        (map (without_conn conn) (cond (not has || lives) (t ∷ filter (outlives conn) ts) (filter (outlives conn) ts)))
        ≡ cond (b t.name) (t ∷ filter (λ (t : Topic). b t.name) ts) (filter (λ (t : Topic). b t.name) ts)
    by true e true more =
        ap (λ c. cond c (without_conn conn t ∷ left) left) (h.0 e) ∙ more
        ∙ sym (ap (λ c. cond c (t ∷ filter (λ (t : Topic). b t.name) ts) (filter (λ (t : Topic). b t.name) ts)) (h.0 e))
    by true e false more =
        more
        ∙ sym (ap (λ c. cond c (t ∷ filter (λ (t : Topic). b t.name) ts) (filter (λ (t : Topic). b t.name) ts)) (h.0 e))
    by false e lives more =
        ap (λ ps. cond (b t.name) (record t { pubs = ps } ∷ left) left) (none-dropped conn t.pubs e)
        ∙ ap (λ ys. cond (b t.name) (t ∷ ys) ys) more

dropped-rows : (conn number : ℕ) → (number == conn) ≡ false → (ts : List Topic)
    → flat_map (rows number) (dropped ts conn) ≡ flat_map (rows number) ts
dropped-rows conn number apart [] = refl
dropped-rows conn number apart (t ∷ ts) =
    by (has_conn conn t) (lives_on (without_conn conn t)) refl (dropped-rows conn number apart ts)
  where
    same : rows number (without_conn conn t) ≡ rows number t
    same = fewer-rows number t (is_of conn) (λ p e. other-of number conn p apart e)

    kept : flat_map (rows number) (dropped ts conn) ≡ flat_map (rows number) ts
        → rows number (without_conn conn t) ++ flat_map (rows number) (dropped ts conn)
        ≡ rows number t ++ flat_map (rows number) ts
    kept more =
        ap (λ rs. rs ++ flat_map (rows number) (dropped ts conn)) same ∙ ap (λ rs. rows number t ++ rs) more

    by : (has lives : Bool) → lives_on (without_conn conn t) ≡ lives
        → flat_map (rows number) (dropped ts conn) ≡ flat_map (rows number) ts
        → flat_map (rows number)
        (map (without_conn conn) (cond (not has || lives) (t ∷ filter (outlives conn) ts) (filter (outlives conn) ts)))
        ≡ rows number t ++ flat_map (rows number) ts
    by false lives e more = kept more
    by true true e more = kept more
    by true false e more =
        more
        ∙ sym (ap (λ rs. rs ++ flat_map (rows number) ts)
        (sym same ∙ ended-rows number (without_conn conn t) e))

-- the connection then publishes nothing
pub dropped-none : (conn : ℕ) (ts : List Topic) → pub_rows conn (dropped ts conn) ≡ []
dropped-none conn ts =
    no-rows conn (dropped ts conn)
    (each-map (λ (t : Topic). AreOthers conn t.pubs) (without_conn conn) (filter (outlives conn) ts)
    (each-all (λ (t : Topic). AreOthers conn (without_conn conn t).pubs)
    (λ t. each-more (λ (p : Pub). not (is_of conn p) ≡ true) (λ (p : Pub). is_of conn p ≡ false)
    (λ p e. not-so (is_of conn p) e) _ (each-passes (λ p. not (is_of conn p)) t.pubs)) _))
  where
    not-so : (b : Bool) → not b ≡ true → b ≡ false
    not-so true e = absurd (cc)
    not-so false e = refl

pub close-changes : (names : List (List ℕ)) (conn : ℕ) (ts : List Topic)
    → AllByRecursion (λ (t : Topic). has_conn conn t ≡ true → Touches names t.name) ts
    → ChangesTopics names conn ts (dropped ts conn)
close-changes names conn ts touches =
    record {
      same_named = λ b other. dropped-named conn b ts
          (each-more (λ (t : Topic). has_conn conn t ≡ true → Touches names t.name)
          (λ (t : Topic). has_conn conn t ≡ true → b t.name ≡ false)
          (λ t touched e. other t.name (touched e)) ts touches);
      same_rows = λ number apart.
          ap (λ rs. insert_all pub_below [] rs) (dropped-rows conn number apart ts);
    }
