-- What was handed is owed no more, and handing makes nothing owed.
use Rattle.std.proofs.Common.{◌≡◌, ◌≤◌, ◌+◌, ◌&&◌, ◌||◌, ◌++◌, ℕ, Bool, true, false, cond, not, leb, eqb, max, List, []}
use Rattle.std.proofs.Common.{◌∷◌, Option, Some, None, map, filter, refl, sym, ap, ◌∙◌, subst, arith}
use Rattle.std.specs.List.{list_any, flat_map}
use Rattle.std.proofs.lemmas.Bool.Decides.{nat_tests}
use Rattle.nt_rules.specs.declared.waiting.Publish.{Publish}
use Rattle.nt_rules.specs.declared.waiting.Setting.{Setting}
use Rattle.nt_rules.specs.declared.waiting.Placed.{Placed}
use Rattle.nt_rules.specs.outbox.Marks.{Mark}
use Rattle.nt_rules.specs.outbox.Keys.{Kind, Of_end, Of_publish, Of_setting, Of_topic, Of_value, Key, is_kind, is_key}
use Rattle.nt_rules.specs.outbox.Keys.{is_in, end_key, publish_key, setting_key, topic_key, value_key, is_value}
use Rattle.nt_rules.specs.outbox.Keys.{announces, next_value, is_before, insert_key, in_order}
use Rattle.nt_rules.specs.outbox.Marks.{is_blank, is_empty, is_wish, without, handed, handed_all, option_items}
use Rattle.nt_rules.specs.outbox.Marks.{place_from, end_keys, reply_keys, topic_keys, value_keys, newest_keys, keys}
use Rattle.nt_rules.specs.outbox.Calls.{OutboxState, behind, unless_behind, keys_of, handed_keys, drained}

-- ---- tests on keys

both : (a b : Bool) → (a && b) ≡ true → (a ≡ true) × (b ≡ true)
both true true h = (refl, refl)
both true false h = absurd (cc)
both false b h = absurd (cc)

same-kind : (a b : Kind) → is_kind a b ≡ true → a ≡ b
same-kind Of_end Of_end h = refl
same-kind Of_publish Of_publish h = refl
same-kind Of_setting Of_setting h = refl
same-kind Of_topic Of_topic h = refl
same-kind Of_value Of_value h = refl
same-kind a b h = absurd (cc)

same-number : (a b : ℕ) → eqb a b ≡ true → a ≡ b
same-number a b h = grind (arith, nat_tests)

-- a key is known by its parts
same-key : (a b : Key) → is_key a b ≡ true → a ≡ b
same-key a b h =
    let first = both (is_kind a.kind b.kind && eqb a.topic b.topic) (eqb a.place b.place) h in
    let second = both (is_kind a.kind b.kind) (eqb a.topic b.topic) first.0 in
    let kind = same-kind a.kind b.kind second.0 in
    let topic = same-number a.topic b.topic second.1 in
    let place = same-number a.place b.place first.1 in
    λ i. record { kind = kind i; topic = topic i; place = place i }

-- ---- keys of topics together

pub in-append : (k : Key) (xs ys : List Key) → is_in (xs ++ ys) k ≡ (is_in xs k || is_in ys k)
in-append k [] ys = refl
in-append k (x ∷ xs) ys = by (is_key k x) (in-append k xs ys)
  where
    by : (b : Bool) → is_in (xs ++ ys) k ≡ (is_in xs k || is_in ys k)
        → (b || is_in (xs ++ ys) k) ≡ ((b || is_in xs k) || is_in ys k)
    by true h = refl
    by false h = h

in-insert : (k x : Key) (xs : List Key) → is_in (insert_key x xs) k ≡ (is_key k x || is_in xs k)
in-insert k x [] = refl
in-insert k x (y ∷ ys) = by (is_before x y) (in-insert k x ys)
  where
    swap : (a b c : Bool) → (b || (a || c)) ≡ (a || (b || c))
    swap true true c = refl
    swap true false c = refl
    swap false b c = refl

    by : (b : Bool) → is_in (insert_key x ys) k ≡ (is_key k x || is_in ys k)
        → is_in (cond b (x ∷ y ∷ ys) (y ∷ insert_key x ys)) k ≡ (is_key k x || is_in (y ∷ ys) k)
    by true h = refl
    by false h = ap (λ b. is_key k y || b) h ∙ swap (is_key k x) (is_key k y) (is_in ys k)

pub in-in_order : (k : Key) (xs : List Key) → is_in (in_order xs) k ≡ is_in xs k
in-in_order k [] = refl
in-in_order k (x ∷ xs) = in-insert k x (in_order xs) ∙ ap (λ b. is_key k x || b) (in-in_order k xs)

-- the key is owed of this topic
abbrev owes : Key → Mark → Bool
owes k m =
    is_in (end_keys m) k || (is_in (reply_keys m) k || (is_in (topic_keys m) k || (is_in
    (value_keys m) k || is_in (newest_keys m) k)))

any-or : (p q : Mark → Bool) (ms : List Mark)
    → list_any (λ m. p m || q m) ms ≡ (list_any p ms || list_any q ms)
any-or p q [] = refl
any-or p q (m ∷ ms) = by (p m) (q m) (list_any p ms) (list_any q ms) (any-or p q ms)
  where
    by : (a b c d : Bool) → list_any (λ m. p m || q m) ms ≡ (c || d)
        → ((a || b) || list_any (λ m. p m || q m) ms) ≡ ((a || c) || (b || d))
    by true b c d h = refl
    by false true true d h = refl
    by false true false d h = refl
    by false false c d h = h

in-flat_map : (k : Key) (f : Mark → List Key) (ms : List Mark)
    → is_in (flat_map f ms) k ≡ list_any (λ m. is_in (f m) k) ms
in-flat_map k f [] = refl
in-flat_map k f (m ∷ ms) = in-append k (f m) (flat_map f ms)
    ∙ ap (λ b. is_in (f m) k || b) (in-flat_map k f ms)

-- a key is owed where one of the topics owes it
in-keys : (k : Key) (ms : List Mark) → is_in (keys ms) k ≡ list_any (owes k) ms
in-keys k ms =
    let a = in-in_order k (flat_map end_keys ms) ∙ in-flat_map k end_keys ms in
    let b = in-in_order k (flat_map reply_keys ms) ∙ in-flat_map k reply_keys ms in
    let c = in-flat_map k topic_keys ms in
    let d = in-in_order k (flat_map value_keys ms) ∙ in-flat_map k value_keys ms in
    let e = in-flat_map k newest_keys ms in
    split (in_order (flat_map end_keys ms)) (in_order (flat_map reply_keys ms)) (flat_map topic_keys ms)
    (in_order (flat_map value_keys ms)) (flat_map newest_keys ms)
    ∙ (λ i. a i || (b i || (c i || (d i || e i))))
    ∙ sym (any-or (λ m. is_in (end_keys m) k) (λ m. is_in (reply_keys m) k || (is_in (topic_keys m) k ||
    (is_in (value_keys m) k || is_in (newest_keys m) k))) ms
    ∙ ap (λ b. list_any (λ m. is_in (end_keys m) k) ms || b)
    (any-or (λ m. is_in (reply_keys m) k) (λ m. is_in (topic_keys m) k || (is_in (value_keys m) k || is_in
    (newest_keys m) k)) ms
    ∙ ap (λ b. list_any (λ m. is_in (reply_keys m) k) ms || b)
    (any-or (λ m. is_in (topic_keys m) k) (λ m. is_in (value_keys m) k || is_in (newest_keys m) k) ms
    ∙ ap (λ b. list_any (λ m. is_in (topic_keys m) k) ms || b)
    (any-or (λ m. is_in (value_keys m) k) (λ m. is_in (newest_keys m) k) ms))))
  where
    or-assoc : (a b c : Bool) → ((a || b) || c) ≡ (a || (b || c))
    or-assoc true b c = refl
    or-assoc false b c = refl

    split : (v w x y z : List Key) → is_in ((((v ++ w) ++ x) ++ y) ++ z) k
        ≡ (is_in v k || (is_in w k || (is_in x k || (is_in y k || is_in z k))))
    split v w x y z =
        in-append k (((v ++ w) ++ x) ++ y) z
        ∙ ap (λ b. b || is_in z k) (in-append k ((v ++ w) ++ x) y
        ∙ ap (λ b. b || is_in y k) (in-append k (v ++ w) x ∙ ap (λ b. b || is_in x k) (in-append k v w)))
        ∙ or-assoc ((is_in v k || is_in w k) || is_in x k) (is_in y k) (is_in z k)
        ∙ or-assoc (is_in v k || is_in w k) (is_in x k) (is_in y k || is_in z k)
        ∙ or-assoc (is_in v k) (is_in w k) (is_in x k || (is_in y k || is_in z k))

-- ---- what is left of a topic

-- the key was owed, and isn't among those handed
record IsLeft (ks : List Key) (k : Key) (before : Bool) : Type 0 where
  pub was : before ≡ true
  pub kept : is_in ks k ≡ false

one : (b : Bool) → (b || false) ≡ true → b ≡ true
one true h = refl
one false h = h

left-ends : (ks : List Key) (k : Key) (m : Mark) → is_in (end_keys (handed ks m)) k ≡ true
    → IsLeft ks k (is_in (end_keys m) k)
left-ends ks k m = by m.over
  where
    here : (place : ℕ) (b : Bool) → is_in ks (end_key m.id place) ≡ b
        → is_in (map (end_key m.id) (option_items (cond b None (Some place)))) k ≡ true
        → IsLeft ks k (is_in (map (end_key m.id) (option_items (Some place))) k)
    here place true e h = absurd (cc)
    here place false e h =
        record {
          was = h;
          kept = ap (is_in ks) (same-key k (end_key m.id place) (one (is_key k
              (end_key m.id place)) h)) ∙ e;
        }

    by : (o : Option ℕ) → is_in (map (end_key m.id) (option_items (without ks o m.id))) k ≡ true
        → IsLeft ks k (is_in (map (end_key m.id) (option_items o)) k)
    by None h = absurd (cc)
    by (Some place) h = here place (is_in ks (end_key m.id place)) refl h

-- those of which the key isn't among those handed
left-items : {X : Type 0} (ks : List Key) (k : Key) (f : X → Key) (test : X → Bool)
    → ((x : X) → test x ≡ true → is_in ks (f x) ≡ false) → (xs : List X)
    → is_in (map f (filter test xs)) k ≡ true → IsLeft ks k (is_in (map f xs) k)
left-items ks k f test keeps [] h = absurd (cc)
left-items {X} ks k f test keeps (x ∷ xs) h = by (λ h. left-items ks k f test keeps xs h) (test x) refl
    (is_key k (f x)) refl h
  where
    by : (is_in (map f (filter test xs)) k ≡ true → IsLeft ks k (is_in (map f xs) k))
        → (b : Bool) → test x ≡ b → (c : Bool) → is_key k (f x) ≡ c
        → is_in (map f (cond b (x ∷ filter test xs) (filter test xs))) k ≡ true
        → IsLeft ks k (c || is_in (map f xs) k)
    by more true t true e h = record { was = refl; kept = ap (is_in ks) (same-key k (f x) e) ∙ keeps x t }
    by more true t false e h = more (ap (λ b. b || is_in (map f (filter test xs)) k) (sym e) ∙ h)
    by more false t true e h = record { was = refl; kept = (more h).kept }
    by more false t false e h = more h

-- one of two
left-either : (ks : List Key) (k : Key) (a b c d : Bool) → (a ≡ true → IsLeft ks k c) → (b ≡ true
    → IsLeft ks k d)
    → (a || b) ≡ true → IsLeft ks k (c || d)
left-either ks k true b c d f g h = let l = f refl in record { was = ap (λ x. x || d) l.was; kept = l.kept }
left-either ks k false b true d f g h = let l = g h in record { was = refl; kept = l.kept }
left-either ks k false b false d f g h = g h

not-true : (b : Bool) → not b ≡ true → b ≡ false
not-true true h = absurd (cc)
not-true false h = refl

left-replies : (ks : List Key) (k : Key) (m : Mark) → is_in (reply_keys (handed ks m)) k ≡ true
    → IsLeft ks k (is_in (reply_keys m) k)
left-replies ks k m h =
    let publish : Publish → Key = λ p. publish_key m.id p.place in
    let setting : Setting → Key = λ s. setting_key m.id s.place in
    let publishes = filter (λ (p : Publish). not (is_in ks (publish_key m.id p.place))) m.publishes in
    let settings = filter (λ (s : Setting). not (is_in ks (setting_key m.id s.place))) m.settings in
    subst (IsLeft ks k) (sym (in-append k (map publish m.publishes) (map setting m.settings)))
    (left-either ks k (is_in (map publish publishes) k) (is_in (map setting settings) k)
    (is_in (map publish m.publishes) k) (is_in (map setting m.settings) k)
    (left-items ks k publish (λ p. not (is_in ks (publish p))) (λ p e. not-true (is_in ks
    (publish p)) e) m.publishes)
    (left-items ks k setting (λ s. not (is_in ks (setting s))) (λ s e. not-true (is_in ks
    (setting s)) e) m.settings)
    (sym (in-append k (map publish publishes) (map setting settings)) ∙ h))

-- a key that announces a topic, among those handed
announced-by : (ks : List Key) (id : ℕ) (k : Key) → announces id k ≡ true → list_any (announces id) ks ≡ false
    → is_in ks k ≡ false
announced-by [] id k a h = refl
announced-by (x ∷ xs) id k a h = by (is_key k x) refl (announces id x) refl h (λ h. announced-by xs id k a h)
  where
    by : (b : Bool) → is_key k x ≡ b → (c : Bool) → announces id x ≡ c
        → (c || list_any (announces id) xs) ≡ false
        → (list_any (announces id) xs ≡ false → is_in xs k ≡ false) → (b || is_in xs k) ≡ false
    by b e true f h more = absurd (cc)
    by true e false f h more = let same = ap (announces id) (same-key k x e) in absurd (cc)
    by false e false f h more = more h

pub eqb-self : (n : ℕ) → eqb n n ≡ true
eqb-self n = grind (arith, nat_tests)

-- where no key announces it, each answer to a publish is left
pub all-left : (ks : List Key) (id : ℕ) (publishes : List Publish) → list_any (announces id) ks ≡ false
    → filter (λ (p : Publish). not (is_in ks (publish_key id p.place))) publishes ≡ publishes
all-left ks id [] h = refl
all-left ks id (p ∷ ps) h =
    let kept = announced-by ks id (publish_key id p.place) (eqb-self id) h in
    let rest = filter (λ (p : Publish). not (is_in ks (publish_key id p.place))) ps in
    ap (λ b. cond (not b) (p ∷ rest) rest) kept ∙ ap (λ xs. p ∷ xs) (all-left ks id ps h)

left-topics : (ks : List Key) (k : Key) (m : Mark) → is_in (topic_keys (handed ks m)) k ≡ true
    → IsLeft ks k (is_in (topic_keys m) k)
left-topics ks k m = by (is_wish m.wish) m.is_announced (list_any (announces m.id) ks) refl
  where
    last : (b : Bool) → list_any (announces m.id) ks ≡ false
        → is_in (cond b (topic_key m.id ∷ []) []) k ≡ true
        → IsLeft ks k (is_in (cond b (topic_key m.id ∷ []) []) k)
    last true none h = record {
      was = h;
      kept = ap (is_in ks) (same-key k (topic_key m.id) (one (is_key k (topic_key m.id)) h))
          ∙ announced-by ks m.id (topic_key m.id) (eqb-self m.id) none;
    }
    last false none h = absurd (cc)

    by : (w a n : Bool) → list_any (announces m.id) ks ≡ n
        → is_in (cond (w && not (a || n) && is_empty (filter (λ (p : Publish). not (is_in ks
        (publish_key m.id p.place))) m.publishes)) (topic_key m.id ∷ []) []) k ≡ true
        → IsLeft ks k (is_in (cond (w && not a && is_empty m.publishes) (topic_key m.id ∷ []) []) k)
    by false a n e h = absurd (cc)
    by true true n e h = absurd (cc)
    by true false true e h = absurd (cc)
    by true false false e h =
        last (is_empty m.publishes) e (sym (ap (λ ps. is_in (cond (is_empty ps)
        (topic_key m.id ∷ []) []) k) (all-left ks m.id m.publishes e)) ∙ h)

-- a value among those handed stands before the next place
value-handed : (ks : List Key) (id place : ℕ) → next_value ks id ≤ place
    → is_in ks (value_key id place) ≡ false
value-handed [] id place le = refl
value-handed (x ∷ xs) id place le =
    by (λ le. value-handed xs id place le) (is_key (value_key id place) x) refl
    (is_value x && eqb x.topic id) refl le
  where
    past : (c : Bool) → c ≡ true → place ≡ x.place
        → cond c (max (x.place + 1) (next_value xs id)) (next_value xs id) ≤ place
        → (true || is_in xs (value_key id place)) ≡ false
    past true t at le = absurd (omega arith)
    past false t at le = absurd (cc)

    by : (next_value xs id ≤ place → is_in xs (value_key id place) ≡ false) → (b : Bool)
        → is_key (value_key id place) x ≡ b
        → (c : Bool) → (is_value x && eqb x.topic id) ≡ c
        → cond c (max (x.place + 1) (next_value xs id)) (next_value xs id) ≤ place
        → (b || is_in xs (value_key id place)) ≡ false
    by more true e c f le =
        let same = same-key (value_key id place) x e in
        let yes : (is_value x && eqb x.topic id) ≡ true =
        subst (λ (y : Key). (is_value y && eqb y.topic id) ≡ true) same (eqb-self id) in
        let at : place ≡ x.place = ap (λ (y : Key). y.place) same in
        past c (sym f ∙ yes) at le
    by more false e true f le = more (omega arith)
    by more false e false f le = more le

value-left : (ks : List Key) (id place : ℕ) → leb (next_value ks id) place ≡ true
    → is_in ks (value_key id place) ≡ false
value-left ks id place e = value-handed ks id place (grind (arith, nat_tests))

left-values : (ks : List Key) (k : Key) (m : Mark) → is_in (value_keys (handed ks m)) k ≡ true
    → IsLeft ks k (is_in (value_keys m) k)
left-values ks k m =
    left-items ks k (λ (p : Placed). value_key m.id p.place) (λ p. leb (next_value ks m.id) p.place)
    (λ p e. value-left ks m.id p.place e) m.values

left-newest : (ks : List Key) (k : Key) (m : Mark) → is_in (newest_keys (handed ks m)) k ≡ true
    → IsLeft ks k (is_in (newest_keys m) k)
left-newest ks k m = by m.newest
  where
    here : (place : ℕ) (b : Bool) → leb (next_value ks m.id) place ≡ b
        → is_in (map (value_key m.id) (option_items (cond b (Some place) None))) k ≡ true
        → IsLeft ks k (is_in (map (value_key m.id) (option_items (Some place))) k)
    here place true e h = record {
      was = h;
      kept = ap (is_in ks) (same-key k (value_key m.id place) (one (is_key k (value_key m.id place)) h))
          ∙ value-left ks m.id place e;
    }
    here place false e h = absurd (cc)

    by : (o : Option ℕ) → is_in (map (value_key m.id) (option_items (place_from
        (next_value ks m.id) o))) k ≡ true
        → IsLeft ks k (is_in (map (value_key m.id) (option_items o)) k)
    by None h = absurd (cc)
    by (Some place) h = here place (leb (next_value ks m.id) place) refl h

left-mark : (ks : List Key) (k : Key) (m : Mark) → owes k (handed ks m) ≡ true → IsLeft ks k (owes k m)
left-mark ks k m =
    left-either ks k (is_in (end_keys (handed ks m)) k)
    (is_in (reply_keys (handed ks m)) k || (is_in (topic_keys (handed ks m)) k || (is_in (value_keys
    (handed ks m)) k || is_in (newest_keys (handed ks m)) k)))
    (is_in (end_keys m) k)
    (is_in (reply_keys m) k || (is_in (topic_keys m) k || (is_in (value_keys m) k || is_in
    (newest_keys m) k)))
    (left-ends ks k m)
    (left-either ks k (is_in (reply_keys (handed ks m)) k)
    (is_in (topic_keys (handed ks m)) k || (is_in (value_keys (handed ks m)) k || is_in (newest_keys
    (handed ks m)) k))
    (is_in (reply_keys m) k) (is_in (topic_keys m) k || (is_in (value_keys m) k || is_in (newest_keys m) k))
    (left-replies ks k m)
    (left-either ks k (is_in (topic_keys (handed ks m)) k)
    (is_in (value_keys (handed ks m)) k || is_in (newest_keys (handed ks m)) k)
    (is_in (topic_keys m) k) (is_in (value_keys m) k || is_in (newest_keys m) k)
    (left-topics ks k m)
    (left-either ks k (is_in (value_keys (handed ks m)) k) (is_in (newest_keys (handed ks m)) k)
    (is_in (value_keys m) k) (is_in (newest_keys m) k) (left-values ks k m) (left-newest ks k m))))

-- ---- what is left of all

left-all : (ks : List Key) (k : Key) (ms : List Mark) → list_any (owes k) (handed_all ks ms) ≡ true
    → IsLeft ks k (list_any (owes k) ms)
left-all ks k [] h = absurd (cc)
left-all ks k (m ∷ ms) h = by (not (is_blank (handed ks m))) h (λ h. left-all ks k ms h)
  where
    by : (b : Bool) → list_any (owes k) (cond b (handed ks m ∷ handed_all ks ms) (handed_all ks ms)) ≡ true
        → (list_any (owes k) (handed_all ks ms) ≡ true → IsLeft ks k (list_any (owes k) ms))
        → IsLeft ks k (owes k m || list_any (owes k) ms)
    by true h more =
        left-either ks k (owes k (handed ks m)) (list_any (owes k) (handed_all ks ms)) (owes k m) (list_any
        (owes k) ms)
        (left-mark ks k m) more h
    by false h more = left-either ks k false (list_any (owes k) (handed_all ks ms)) (owes k m) (list_any
        (owes k) ms) (λ e. absurd (cc)) more h

pub left-keys : (ks : List Key) (k : Key) (ms : List Mark) → is_in (keys (handed_all ks ms)) k ≡ true
    → (is_in (keys ms) k ≡ true) × (is_in ks k ≡ false)
left-keys ks k ms h =
    let l = left-all ks k ms (sym (in-keys k (handed_all ks ms)) ∙ h) in
    (in-keys k ms ∙ l.was, l.kept)

-- after a drain of an outbox that isn't behind
pub left-drained : (n : ℕ) (b : OutboxState) (k : Key) → behind b ≡ None → is_in (keys_of (drained n b)) k ≡ true
    → (is_in (keys_of b) k ≡ true) × (is_in (handed_keys n b) k ≡ false)
left-drained n b k none h =
    let l = left-keys (handed_keys n b) k b.marks (by (behind (drained n b)) h) in
    (subst (λ o. is_in (keys (unless_behind o b.marks)) k ≡ true) (sym none) l.0, l.1)
  where
    by : (o : Option ℕ) → is_in (keys (unless_behind o (handed_all (handed_keys n b) b.marks))) k ≡ true
        → is_in (keys (handed_all (handed_keys n b) b.marks)) k ≡ true
    by None h = h
    by (Some w) h = absurd (cc)
