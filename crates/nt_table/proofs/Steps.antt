-- An index stays right: each call's change of the topics, beside what it notes and forgets.
use Rattle.std.proofs.Common.{◌≡◌, ◌≤◌, ◌<◌, ◌+◌, ◌&&◌, ◌||◌, ◌++◌, ◌==◌, ℕ, ℤ, zero, suc, Bool, true, false, cond, ltb, nat_eq, List, [], ◌∷◌, Option, Some, None, Result, Ok, Err, OnOk, length, get_or, refl, sym, ◌∙◌, ap, subst, arith}
use Rattle.std.specs.List.{list_any, position}
use Rattle.std.specs.Option.{is_some}
use Rattle.std.specs.Result.{is_err}
use Rattle.std.specs.Str.{bytes_eq}
use Rattle.std.specs.HashMap.{get, get_by_text}
use Rattle.std.proofs.lemmas.Bool.Decides.{nat_tests, Decides-eqb}
use Rattle.serde_json.specs.Data.{Data}
use Rattle.nt_values.specs.declared.value.Value.{Value}
use Rattle.nt_topics.specs.Properties.{is_persistent, is_retained, is_cached}
use Rattle.nt_table.specs.declared.index.Index.{Index}
use Rattle.nt_rules.specs.declared.topic.Topic.{Topic}
use Rattle.nt_rules.specs.declared.topic.Pub.{Pub}
use Rattle.nt_rules.specs.declared.topic.Saved.{Saved}
use Rattle.nt_rules.specs.declared.topic.Cause.{Cause}
use Rattle.nt_rules.specs.declared.topic.Cause.TheVariants.{NoSuchUid}
use Rattle.nt_rules.specs.topics.Topics.{without_publisher, is_publisher, is_of, is_named, has_publisher, publishers_of, change_first, if_counts, if_it_lives_on, with_publisher, new_topic, published, next_after, unpublish_cause, unpublished, dropped, with_update, with_props, with_value, with_put, restored, restored_topic}
use Rattle.nt_table.specs.Index.{one, number, total, is_at, id_named, id_in, id_of, count_in, count_of, IsRising, IsFiled, IsIndexed}
use Rattle.nt_rules.proofs.Positions.{change-none, first-position}
use Rattle.nt_table.proofs.Numbers.{any-none, any-some, number-push, number-empty, is-of, of-publisher, is_key, key-same, key-apart, total-publishers, total-push, number_left, total-kept, total-added, unpublished-others, unpublished-those, unpublished-gone, dropped-others, dropped-own}
use Rattle.nt_table.proofs.Filed.{at-id, position-agree, not-at, KeepsId, left-id, filed-says, rising-changed, rising-dropped, agree-name, agree-publisher, rising-push, refiled, FiledLeft, filed-changed, filed-unless, filed-push, filed-unpublished, filed-closed, unjoined, joined, filed-joined, named-other, named-own}

-- ---- what is found

-- some topic has a publisher that is counted, and none has one that isn't
any-total : (test : Pub → Bool) (ts : List Topic) (b : Bool) → total test ts ≡ one b
    → list_any (λ t. list_any test t.pubs) ts ≡ b
any-total test ts true h = some ts (omega arith)
  where
    some : (ts : List Topic) → 1 ≤ total test ts → list_any (λ t. list_any test t.pubs) ts ≡ true
    some [] h = absurd (omega arith)
    some (t ∷ ts) h = by (number test t.pubs) refl (λ k. some ts k)
      where
        by : (n : ℕ) → number test t.pubs ≡ n → (1 ≤ total test ts → list_any (λ t. list_any test t.pubs) ts ≡ true)
            → (list_any test t.pubs || list_any (λ t. list_any test t.pubs) ts) ≡ true
        by zero e more = ap (λ b. b || list_any (λ t. list_any test t.pubs) ts) (any-none test t.pubs e)
            ∙ more (omega (arith, h))
        by (suc n) e more = ap (λ b. b || list_any (λ t. list_any test t.pubs) ts) (any-some test t.pubs (omega arith))
any-total test ts false h = none ts h
  where
    none : (ts : List Topic) → total test ts ≡ 0 → list_any (λ t. list_any test t.pubs) ts ≡ false
    none [] h = refl
    none (t ∷ ts) h =
        ap (λ b. b || list_any (λ t. list_any test t.pubs) ts) (any-none test t.pubs (omega arith))
        ∙ none ts (omega arith)

module _ (ix : Index) (ts : List Topic) (next : ℕ) (h : IsIndexed ix ts next) where
  pub position-named : (name : List ℕ) → position (is_at (id_named ix name)) ts ≡ position (is_named name) ts
  position-named name = sym (position-agree (is_named name) (is_at (id_named ix name)) ts
      (agree-name (id_named ix) (id_of ix) next name ts h.filed))

  pub position-publisher : (conn : ℕ) (uid : ℤ)
      → position (is_at (id_of ix conn uid)) ts ≡ position (has_publisher conn uid) ts
  position-publisher conn uid =
      sym (position-agree (has_publisher conn uid) (is_at (id_of ix conn uid)) ts
      (agree-publisher (id_named ix) (id_of ix) next conn uid ts h.filed))

  pub any-publisher : (conn : ℕ) (uid : ℤ) → list_any (has_publisher conn uid) ts ≡ is_some (id_of ix conn uid)
  any-publisher conn uid = any-total (is_publisher conn uid) ts (is_some (id_of ix conn uid)) (h.held conn uid)

  -- a publisher that no topic has is said to be nowhere
  pub nowhere-said : (conn : ℕ) (uid : ℤ) → list_any (has_publisher conn uid) ts ≡ false → id_of ix conn uid ≡ None
  nowhere-said conn uid none = by (id_of ix conn uid) (sym (any-publisher conn uid) ∙ none)
    where
      by : (o : Option ℕ) → is_some o ≡ false → o ≡ None
      by None e = refl
      by (Some id) e = absurd (cc)

  -- the id that a name is said to have is that of the topic found
  pub said-named : (name : List ℕ) (i : ℕ) (t : Topic) → Some i ≡ position (is_named name) ts → t ≡ get_or ts i t
      → id_named ix name ≡ Some t.id
  said-named name i t at item =
      let first =
      first-position (is_at (id_named ix name)) ts ts i t refl (at ∙ sym (position-named name)) item in
      at-id (id_named ix name) t first.passes

  -- ---- topics that keep their ids, names and publishers, or go with none

  abbrev pub Keeps : Topic → Option Topic → Type 0
  Keeps t None = length t.pubs ≡ 0
  Keeps t (Some u) = (u.id ≡ t.id) × (u.name ≡ t.name) × (u.pubs ≡ t.pubs)

  keeps-id : (t : Topic) (o : Option Topic) → Keeps t o → KeepsId t o
  keeps-id t None k = tt
  keeps-id t (Some u) k = k.0

  keeps-number : (test : Pub → Bool) (t : Topic) (o : Option Topic) → Keeps t o
      → number_left test o ≡ number test t.pubs
  keeps-number test t None k = sym (number-empty test t.pubs k)
  keeps-number test t (Some u) k = ap (number test) k.2

  keeps-filed : (t : Topic) (o : Option Topic) → Keeps t o → IsFiled (id_named ix) (id_of ix) next t
      → FiledLeft (id_named ix) (id_of ix) next (id_named ix) (id_of ix) next o
  keeps-filed t None k f = tt
  keeps-filed t (Some u) k f = refiled (id_named ix) (id_of ix) next t u k.0 k.1 k.2 f

  pub indexed-kept : (first : Topic → Bool) (f : Topic → Option Topic) → ((t : Topic) → Keeps t (f t))
      → IsIndexed ix (change_first first f ts) next
  indexed-kept first f keeps = record {
    rising = rising-changed 0 first f ts (λ t. keeps-id t (f t) (keeps t)) h.rising;
    filed =
        filed-changed (id_named ix) (id_of ix) next (id_named ix) (id_of ix) next first f ts 0 (λ t k e. k)
        (λ t s k e less g. g)
        (λ t k e. keeps-filed t (f t) (keeps t) k) h.rising h.filed;
    names_below = h.names_below;
    ids_below = h.ids_below;
    held = λ conn uid. total-kept (is_publisher conn uid) first f ts
        (λ t. keeps-number (is_publisher conn uid) t (f t) (keeps t)) ∙ h.held conn uid;
    counted = λ conn. h.counted conn ∙ sym (total-publishers conn ts)
        ∙ sym (total-kept (is_of conn) first f ts (λ t. keeps-number (is_of conn) t (f t) (keeps t)))
        ∙ total-publishers conn (change_first first f ts);
  }

  -- what a call leaves, by the cause that refuses it
  pub indexed-counts : (cause : Option Cause) (after : List Topic) → IsIndexed ix after next
      → IsIndexed ix (if_counts cause after ts) next
  indexed-counts None after k = k
  indexed-counts (Some cause) after k = h

  pub indexed-put : (conn : ℕ) (uid : ℤ) (time : ℕ) (value : Value) (cause : Option Cause)
      → IsIndexed ix (if_counts cause (with_put ts conn uid time value) ts) next
  indexed-put conn uid time value cause =
      indexed-counts cause (with_put ts conn uid time value)
      (indexed-kept (has_publisher conn uid) (λ t. Some (with_value time value t)) (λ t. by t (is_cached t.props)))
    where
      by : (t : Topic) (b : Bool)
          → Keeps t (Some (cond b (record t { value = Some (record { time = time; value = value }) }) t))
      by t true = (refl, refl, refl)
      by t false = (refl, refl, refl)

  pub indexed-props : (name : List ℕ) (u : Data) (cause : Option Cause)
      → IsIndexed ix (if_counts cause (with_props ts name u) ts) next
  indexed-props name u cause =
      indexed-counts cause (with_props ts name u)
      (indexed-kept (is_named name) (λ t. if_it_lives_on (with_update u t))
      (λ t. left t (with_update u t) refl refl refl))
    where
      left : (t s : Topic) → s.id ≡ t.id → s.name ≡ t.name → s.pubs ≡ t.pubs → Keeps t (if_it_lives_on s)
      left t s i n p = by (ltb 0 (length s.pubs)) (is_persistent s.props || is_retained s.props) refl
        where
          by : (b flag : Bool) → ltb 0 (length s.pubs) ≡ b → Keeps t (cond (b || flag) (Some s) None)
          by true flag e = (i, n, p)
          by false true e = (i, n, p)
          by false false e = sym (ap length p) ∙ grind (arith, nat_tests)

  -- ---- a publisher that goes

  module _ (ix-2 : Index) (conn : ℕ) (uid : ℤ)
      (ids : (c : ℕ) (u : ℤ) → id_of ix-2 c u ≡ cond (is_key conn uid c u) None (id_of ix c u))
      (counts : (c : ℕ) → count_of ix-2 c + one ((conn == c) && is_some (id_of ix conn uid)) ≡ count_of ix c)
      (names : ix-2.names ≡ ix.names) where
    once : (b : Bool) → one b ≤ 1
    once true = omega arith
    once false = omega arith

    gone : total (is_publisher conn uid) (unpublished ts conn uid) ≡ 0
    gone = unpublished-gone conn uid ts (let e = h.held conn uid in let l = once (is_some (id_of ix conn uid)) in
        omega arith)

    held-without : (c : ℕ) (u : ℤ) → total (is_publisher c u) (unpublished ts conn uid) ≡ one (is_some (id_of ix-2 c u))
    held-without c u = by (is_key conn uid c u) refl
      where
        by : (b : Bool) → is_key conn uid c u ≡ b
            → total (is_publisher c u) (unpublished ts conn uid) ≡ one (is_some (id_of ix-2 c u))
        by true e =
            let same = key-same conn uid c u e in
            ap (λ k. total (is_publisher k u) (unpublished ts conn uid)) (sym same.0)
            ∙ ap (λ v. total (is_publisher conn v) (unpublished ts conn uid)) (sym same.1) ∙ gone
            ∙ sym (ap (λ o. one (is_some o)) (ids c u ∙ ap (λ b. cond b None (id_of ix c u)) e))
        by false e =
            unpublished-others conn uid (is_publisher c u) ts (λ p k. key-apart conn uid c u p e k) ∙ h.held c u
            ∙ sym (ap (λ o. one (is_some o)) (ids c u ∙ ap (λ b. cond b None (id_of ix c u)) e))

    counted-without : (c : ℕ) → count_of ix-2 c ≡ publishers_of c (unpublished ts conn uid)
    counted-without c = by (conn == c) refl (counts c) ∙ total-publishers c (unpublished ts conn uid)
      where
        before : count_of ix c ≡ total (is_of c) ts
        before = h.counted c ∙ sym (total-publishers c ts)

        by : (b : Bool) → (conn == c) ≡ b → count_of ix-2 c + one (b && is_some (id_of ix conn uid)) ≡ count_of ix c
            → count_of ix-2 c ≡ total (is_of c) (unpublished ts conn uid)
        by true e n =
            let same : conn ≡ c = (Decides-eqb conn c).0 e in
            let those =
            unpublished-those conn uid (is_of c) ts (λ p k. ap (λ m. is_of m p) (sym same) ∙ is-of conn uid p k) in
            let was = h.held conn uid in
            omega (arith, n, those, was, gone, before)
        by false e n =
            let others =
            unpublished-others conn uid (is_of c) ts (λ p k. apart p k (is_publisher conn uid p) refl) in
            omega (arith, n, others, before)
          where
            apart : (p : Pub) → is_of c p ≡ true → (b : Bool) → is_publisher conn uid p ≡ b → b ≡ false
            apart p k false g = refl
            apart p k true g =
                absurd (let here : (conn == c) ≡ true = ap (λ m. m == c) (sym (of-publisher conn uid p g).0) ∙ k in cc)

    pub indexed-without : IsIndexed ix-2 (unpublished ts conn uid) next
    indexed-without = record {
      rising =
          rising-changed 0 (has_publisher conn uid) (λ t. if_it_lives_on (without_publisher conn uid t)) ts
          (λ t. left-id t (without_publisher conn uid t) refl) h.rising;
      filed =
          filed-says (id_named ix) (id_of ix-2) next (id_named ix-2) (id_of ix-2) (unpublished ts conn uid)
          (λ name. ap (λ m. get_by_text m name) names) (λ c u. refl)
          (filed-unpublished (id_named ix) (id_of ix) next (id_of ix-2) conn uid ids ts 0 h.rising h.filed);
      names_below = λ name id e. h.names_below name id (ap (λ m. get_by_text m name) (sym names) ∙ e);
      ids_below = λ c u id e. below c u id (is_key conn uid c u) (sym (ids c u) ∙ e);
      held = held-without;
      counted = counted-without;
    }
      where
        below : (c : ℕ) (u : ℤ) (id : ℕ) (b : Bool) → cond b None (id_of ix c u) ≡ Some id → id < next
        below c u id true e = absurd (cc)
        below c u id false e = h.ids_below c u id e

  -- ---- a connection that goes

  module _ (ix-2 : Index) (conn : ℕ)
      (ids : (c : ℕ) (u : ℤ) → id_of ix-2 c u ≡ cond (conn == c) None (id_of ix c u))
      (counts : (c : ℕ) → count_of ix-2 c ≡ cond (conn == c) 0 (count_of ix c))
      (names : ix-2.names ≡ ix.names) where
    other-of : (c : ℕ) → (conn == c) ≡ false → (p : Pub) → is_of c p ≡ true → is_of conn p ≡ false
    other-of c e p k = by (is_of conn p) refl
      where
        by : (b : Bool) → is_of conn p ≡ b → b ≡ false
        by false g = refl
        by true g =
            absurd (let here : (conn == c) ≡ true = ap (λ m. m == c) (sym ((Decides-eqb p.conn conn).0 g)) ∙ k in cc)

    same-of : (c : ℕ) → (conn == c) ≡ true → (p : Pub) → is_of c p ≡ true → is_of conn p ≡ true
    same-of c e p k = ap (λ m. is_of m p) ((Decides-eqb conn c).0 e) ∙ k

    held-closed : (c : ℕ) (u : ℤ) → total (is_publisher c u) (dropped ts conn) ≡ one (is_some (id_of ix-2 c u))
    held-closed c u = by (conn == c) refl
      where
        by : (b : Bool) → (conn == c) ≡ b → total (is_publisher c u) (dropped ts conn) ≡ one (is_some (id_of ix-2 c u))
        by true e =
            dropped-own (is_publisher c u) ts conn (λ p k. same-of c e p (is-of c u p k))
            ∙ sym (ap (λ o. one (is_some o)) (ids c u ∙ ap (λ b. cond b None (id_of ix c u)) e))
        by false e =
            dropped-others (is_publisher c u) ts conn (λ p k. other-of c e p (is-of c u p k)) ∙ h.held c u
            ∙ sym (ap (λ o. one (is_some o)) (ids c u ∙ ap (λ b. cond b None (id_of ix c u)) e))

    counted-closed : (c : ℕ) → count_of ix-2 c ≡ total (is_of c) (dropped ts conn)
    counted-closed c = counts c ∙ by (conn == c) refl
      where
        by : (b : Bool) → (conn == c) ≡ b → cond b 0 (count_of ix c) ≡ total (is_of c) (dropped ts conn)
        by true e = sym (dropped-own (is_of c) ts conn (same-of c e))
        by false e =
            h.counted c ∙ sym (total-publishers c ts) ∙ sym (dropped-others (is_of c) ts conn (other-of c e))

    pub indexed-closed : IsIndexed ix-2 (dropped ts conn) next
    indexed-closed = record {
      rising = rising-dropped 0 conn ts h.rising;
      filed =
          filed-says (id_named ix) (id_of ix-2) next (id_named ix-2) (id_of ix-2) (dropped ts conn)
          (λ name. ap (λ m. get_by_text m name) names) (λ c u. refl)
          (filed-closed (id_named ix) (id_of ix) next (id_of ix-2) conn ids ts h.filed);
      names_below = λ name id e. h.names_below name id (ap (λ m. get_by_text m name) (sym names) ∙ e);
      ids_below = λ c u id e. below c u id (conn == c) (sym (ids c u) ∙ e);
      held = held-closed;
      counted = λ c. counted-closed c ∙ total-publishers c (dropped ts conn);
    }
      where
        below : (c : ℕ) (u : ℤ) (id : ℕ) (b : Bool) → cond b None (id_of ix c u) ≡ Some id → id < next
        below c u id true e = absurd (cc)
        below c u id false e = h.ids_below c u id e

  -- ---- a publisher that comes

  module _ (ix-2 : Index) (p : Pub) (id : ℕ)
      (ids : (c : ℕ) (u : ℤ) → id_of ix-2 c u ≡ cond (is_key p.conn p.uid c u) (Some id) (id_of ix c u))
      (counts : (c : ℕ) → count_of ix-2 c ≡ count_of ix c + one (p.conn == c))
      (fresh : id_of ix p.conn p.uid ≡ None) where
    -- with it, one more is counted
    held-with : (c : ℕ) (u : ℤ) → total (is_publisher c u) ts + one (is_publisher c u p)
        ≡ one (is_some (id_of ix-2 c u))
    held-with c u = by (is_key p.conn p.uid c u) refl
      where
        by : (b : Bool) → is_key p.conn p.uid c u ≡ b
            → total (is_publisher c u) ts + one b ≡ one (is_some (id_of ix-2 c u))
        by true e =
            let same = key-same p.conn p.uid c u e in
            let none : id_of ix c u ≡ None =
            ap (λ n. id_of ix n u) (sym same.0) ∙ ap (λ v. id_of ix p.conn v) (sym same.1) ∙ fresh in
            let was : total (is_publisher c u) ts ≡ 0 = h.held c u ∙ ap (λ o. one (is_some o)) none in
            let is : one (is_some (id_of ix-2 c u)) ≡ 1 =
            ap (λ o. one (is_some o)) (ids c u ∙ ap (λ b. cond b (Some id) (id_of ix c u)) e) in
            omega (arith, was, is)
        by false e =
            let was = h.held c u in
            let is : one (is_some (id_of ix-2 c u)) ≡ one (is_some (id_of ix c u)) =
            ap (λ o. one (is_some o)) (ids c u ∙ ap (λ b. cond b (Some id) (id_of ix c u)) e) in
            omega (arith, was, is)

    counted-with : (c : ℕ) → count_of ix-2 c ≡ total (is_of c) ts + one (is_of c p)
    counted-with c =
        let was : count_of ix c ≡ total (is_of c) ts = h.counted c ∙ sym (total-publishers c ts) in
        let is = counts c in
        omega (arith, was, is)

    ids-below-with : (next-2 : ℕ) → next ≤ next-2 → id < next-2 → (c : ℕ) (u : ℤ) (k : ℕ) → id_of ix-2 c u ≡ Some k
        → k < next-2
    ids-below-with next-2 more less c u k e = by (is_key p.conn p.uid c u) (sym (ids c u) ∙ e)
      where
        by : (b : Bool) → cond b (Some id) (id_of ix c u) ≡ Some k → k < next-2
        by true e = let same : id ≡ k = cc in omega (arith, same, less)
        by false e = let l = h.ids_below c u k e in omega (arith, l, more)

    -- to a topic that lives
    pub indexed-joined : (name : List ℕ) → id_named ix name ≡ Some id → list_any (is_named name) ts ≡ true
        → ix-2.names ≡ ix.names
        → IsIndexed ix-2 (change_first (is_named name) (λ t. Some (with_publisher p t)) ts) next
    indexed-joined name at any names = record {
      rising = rising-changed 0 (is_named name) (λ t. Some (with_publisher p t)) ts (λ t. refl) h.rising;
      filed =
          filed-says (id_named ix) (id_of ix-2) next (id_named ix-2) (id_of ix-2)
          (change_first (is_named name) (λ t. Some (with_publisher p t)) ts)
          (λ name. ap (λ m. get_by_text m name) names) (λ c u. refl)
          (filed-joined (id_named ix) (id_of ix) next (id_of ix-2) p id ids fresh name ts 0 at h.rising h.filed);
      names_below = λ name id e. h.names_below name id (ap (λ m. get_by_text m name) (sym names) ∙ e);
      ids_below = ids-below-with next (omega arith) (h.names_below name id at);
      held = λ c u. added (is_publisher c u) ∙ held-with c u;
      counted = λ c. counted-with c ∙ sym (added (is_of c))
          ∙ total-publishers c (change_first (is_named name) (λ t. Some (with_publisher p t)) ts);
    }
      where
        added : (test : Pub → Bool) → total test (change_first (is_named name) (λ t. Some (with_publisher p t)) ts)
            ≡ total test ts + one (test p)
        added test =
            total-added test (is_named name) (λ t. Some (with_publisher p t)) (one (test p)) ts
            (λ t. number-push test t.pubs p) any

    pub published-joined : (name typ : List ℕ) (props : Data) → id_named ix name ≡ Some id
        → list_any (is_named name) ts ≡ true
        → ix-2.names ≡ ix.names → IsIndexed ix-2 (published ts next name typ props p) (next_after ts next name)
    published-joined name typ props at any names =
        subst
        (λ b. IsIndexed ix-2 (cond b (change_first (is_named name) (λ t. Some (with_publisher p t)) ts)
        (ts ++ new_topic next name typ props (p ∷ []) ∷ [])) (cond b next (next + 1)))
        (sym any) (indexed-joined name at any names)

    -- to a new one
    pub indexed-begun : (name typ : List ℕ) (props : Data) → id ≡ next
        → ((n : List ℕ) → id_named ix-2 n ≡ cond (bytes_eq name n) (Some next) (id_named ix n))
        → list_any (is_named name) ts ≡ false
        → IsIndexed ix-2 (ts ++ new_topic next name typ props (p ∷ []) ∷ []) (next + 1)
    indexed-begun name typ props is names none = record {
      rising = rising-push (id_named ix) (id_of ix) next 0 ts new refl (omega arith) h.filed h.rising;
      filed =
          filed-push (id_named ix) (id_of ix) next (id_named ix-2) (id_of ix-2) (next + 1) ts new
          (filed-unless (id_named ix) (id_of ix) next (id_named ix-2) (id_of ix-2) (next + 1) (is_named name) ts none
          old h.filed)
          (record {
            below = omega arith;
            named =
                named-own (id_named ix) (id_named ix-2) name (Some next) names new refl ((Decides-eqb next next).1 refl)
                (λ n. not-at (id_named ix n) new (λ k e same. let l = h.names_below n k e in omega (arith, same, l)));
            published =
                joined (id_named ix) (id_of ix) next (id_of ix-2) p id ids fresh (new_topic next name typ props []) new
                ((Decides-eqb id next).1 is) refl refl
                (λ c u. sym (ap one (not-at (id_of ix c u) (new_topic next name typ props [])
                (λ k e same. let l = h.ids_below c u k e in omega (arith, same, l)))));
          });
      names_below = λ n k e. below n k (bytes_eq name n) (sym (names n) ∙ e);
      ids_below = ids-below-with (next + 1) (omega arith) (omega (arith, is));
      held = λ c u. total-push (is_publisher c u) ts new ∙ pushed (is_publisher c u) ∙ held-with c u;
      counted = λ c. counted-with c ∙ sym (pushed (is_of c)) ∙ sym (total-push (is_of c) ts new)
          ∙ total-publishers c (ts ++ new ∷ []);
    }
      where
        new : Topic
        new = new_topic next name typ props (p ∷ [])

        pushed : (test : Pub → Bool) → total test ts + number test (p ∷ []) ≡ total test ts + one (test p)
        pushed test = omega arith

        below : (n : List ℕ) (k : ℕ) (b : Bool) → cond b (Some next) (id_named ix n) ≡ Some k → k < next + 1
        below n k true e = let same : next ≡ k = cc in omega (arith, same)
        below n k false e = let l = h.names_below n k e in omega (arith, l)

        apart : (t : Topic) → IsFiled (id_named ix) (id_of ix) next t → (m : ℕ) → m ≡ next → is_at (Some m) t ≡ false
        apart t f m e = not-at (Some m) t (λ k s same. let l = f.below in let at : m ≡ k = cc in
            omega (arith, same, l, at, e))

        old : (t : Topic) → is_named name t ≡ false → IsFiled (id_named ix) (id_of ix) next t
            → IsFiled (id_named ix-2) (id_of ix-2) (next + 1) t
        old t other f = record {
          below = let l = f.below in omega (arith, l);
          named = named-other (id_named ix) (id_named ix-2) name (Some next) names t other (apart t f next refl)
              f.named;
          published = unjoined (id_named ix) (id_of ix) next (id_of ix-2) p id ids fresh t (apart t f id is)
              f.published;
        }

    pub published-begun : (name typ : List ℕ) (props : Data) → id ≡ next
        → ((n : List ℕ) → id_named ix-2 n ≡ cond (bytes_eq name n) (Some next) (id_named ix n))
        → list_any (is_named name) ts ≡ false
        → IsIndexed ix-2 (published ts next name typ props p) (next_after ts next name)
    published-begun name typ props is names none =
        subst
        (λ b. IsIndexed ix-2 (cond b (change_first (is_named name) (λ t. Some (with_publisher p t)) ts)
        (ts ++ new_topic next name typ props (p ∷ []) ∷ [])) (cond b next (next + 1)))
        (sym none) (indexed-begun name typ props is names none)

  -- ---- a topic that begins with no publisher

  pub indexed-restored : (ix-2 : Index) (saved : Saved)
      → ((n : List ℕ) → id_named ix-2 n ≡ cond (bytes_eq saved.name n) (Some next) (id_named ix n))
      → ix-2.conns ≡ ix.conns
      → list_any (is_named saved.name) ts ≡ false → IsIndexed ix-2 (restored ts next saved) (next + 1)
  indexed-restored ix-2 saved names conns none = record {
    rising = rising-push (id_named ix) (id_of ix) next 0 ts new refl (omega arith) h.filed h.rising;
    filed =
        filed-push (id_named ix) (id_of ix) next (id_named ix-2) (id_of ix-2) (next + 1) ts new
        (filed-unless (id_named ix) (id_of ix) next (id_named ix-2) (id_of ix-2) (next + 1) (is_named saved.name) ts
        none old h.filed)
        (record {
          below = omega arith;
          named =
              named-own (id_named ix) (id_named ix-2) saved.name (Some next) names new refl
              ((Decides-eqb next next).1 refl)
              (λ n. not-at (id_named ix n) new (λ k e same. let l = h.names_below n k e in omega (arith, same, l)));
          published = λ c u.
              sym (ap one (ap (λ o. is_at o new) (says c u)
              ∙ not-at (id_of ix c u) new (λ k e same. let l = h.ids_below c u k e in omega (arith, same, l))));
        });
    names_below = λ n k e. below n k (bytes_eq saved.name n) (sym (names n) ∙ e);
    ids_below = λ c u k e. let l = h.ids_below c u k (sym (says c u) ∙ e) in omega (arith, l);
    held = λ c u. total-push (is_publisher c u) ts new ∙ pushed (is_publisher c u) ∙ h.held c u
        ∙ sym (ap (λ o. one (is_some o)) (says c u));
    counted = λ c. ap (λ m. count_in (get nat_eq m c)) conns ∙ h.counted c ∙ sym (total-publishers c ts)
        ∙ sym (pushed (is_of c))
        ∙ sym (total-push (is_of c) ts new) ∙ total-publishers c (ts ++ new ∷ []);
  }
    where
      new : Topic
      new = restored_topic next saved

      says : (c : ℕ) (u : ℤ) → id_of ix-2 c u ≡ id_of ix c u
      says c u = ap (λ m. id_in (get nat_eq m c) u) conns

      pushed : (test : Pub → Bool) → total test ts + 0 ≡ total test ts
      pushed test = omega arith

      below : (n : List ℕ) (k : ℕ) (b : Bool) → cond b (Some next) (id_named ix n) ≡ Some k → k < next + 1
      below n k true e = let same : next ≡ k = cc in omega (arith, same)
      below n k false e = let l = h.names_below n k e in omega (arith, l)

      old : (t : Topic) → is_named saved.name t ≡ false → IsFiled (id_named ix) (id_of ix) next t
          → IsFiled (id_named ix-2) (id_of ix-2) (next + 1) t
      old t other f = record {
        below = let l = f.below in omega (arith, l);
        named =
            named-other (id_named ix) (id_named ix-2) saved.name (Some next) names t other
            (not-at (Some next) t (λ k s same. let l = f.below in let at : next ≡ k = cc in omega (arith, same, l, at)))
            f.named;
        published = λ c u. f.published c u ∙ sym (ap (λ o. one (is_at o t)) (says c u));
      }

  -- ---- a name that goes, where no topic is at what it says

  pub indexed-forgotten : (ix-2 : Index) (name : List ℕ)
      → ((n : List ℕ) → id_named ix-2 n ≡ cond (bytes_eq name n) None (id_named ix n)) → ix-2.conns ≡ ix.conns
      → list_any (is_at (id_named ix name)) ts ≡ false → IsIndexed ix-2 ts next
  indexed-forgotten ix-2 name names conns none = record {
    rising = h.rising;
    filed =
        filed-unless (id_named ix) (id_of ix) next (id_named ix-2) (id_of ix-2) next (is_at (id_named ix name)) ts none
        (λ t apart f. record {
          below = f.below;
          named = named-other (id_named ix) (id_named ix-2) name None names t (f.named name ∙ apart) refl f.named;
          published = λ c u. f.published c u ∙ sym (ap (λ o. one (is_at o t)) (says c u));
        }) h.filed;
    names_below = λ n k e. below n k (bytes_eq name n) (sym (names n) ∙ e);
    ids_below = λ c u k e. h.ids_below c u k (sym (says c u) ∙ e);
    held = λ c u. h.held c u ∙ sym (ap (λ o. one (is_some o)) (says c u));
    counted = λ c. ap (λ m. count_in (get nat_eq m c)) conns ∙ h.counted c;
  }
    where
      says : (c : ℕ) (u : ℤ) → id_of ix-2 c u ≡ id_of ix c u
      says c u = ap (λ m. id_in (get nat_eq m c) u) conns

      below : (n : List ℕ) (k : ℕ) (b : Bool) → cond b None (id_named ix n) ≡ Some k → k < next
      below n k true e = absurd (cc)
      below n k false e = h.names_below n k e

-- ---- ids that rise after a call

pub rising-counts : (cause : Option Cause) (after before : List Topic) → IsRising 0 after → IsRising 0 before
    → IsRising 0 (if_counts cause after before)
rising-counts None after before r s = r
rising-counts (Some cause) after before r s = s

pub rising-unpublished : (ts : List Topic) (conn : ℕ) (uid : ℤ) (cause : Option Cause) → IsRising 0 ts
    → IsRising 0 (if_counts cause (unpublished ts conn uid) ts)
rising-unpublished ts conn uid cause r =
    rising-counts cause (unpublished ts conn uid) ts
    (rising-changed 0 (has_publisher conn uid) (λ t. if_it_lives_on (without_publisher conn uid t)) ts
    (λ t. left-id t (without_publisher conn uid t) refl) r) r

pub rising-props : (ts : List Topic) (name : List ℕ) (u : Data) (cause : Option Cause) → IsRising 0 ts
    → IsRising 0 (if_counts cause (with_props ts name u) ts)
rising-props ts name u cause r =
    rising-counts cause (with_props ts name u) ts
    (rising-changed 0 (is_named name) (λ t. if_it_lives_on (with_update u t)) ts (λ t. left-id t (with_update u t) refl)
    r) r

-- an unpublish that is refused takes none out
pub unpublished-either : (ts : List Topic) (conn : ℕ) (uid : ℤ)
    → if_counts (unpublish_cause ts conn uid) (unpublished ts conn uid) ts ≡ unpublished ts conn uid
unpublished-either ts conn uid = by (list_any (has_publisher conn uid) ts) refl
  where
    by : (b : Bool) → list_any (has_publisher conn uid) ts ≡ b
        → if_counts (cond b None (Some NoSuchUid)) (unpublished ts conn uid) ts ≡ unpublished ts conn uid
    by true e = refl
    by false e = sym (change-none (has_publisher conn uid) (λ t. if_it_lives_on (without_publisher conn uid t)) ts e)

-- ---- at a call, whose arguments are equal

pub publisher-passed : (ix : Index) (ts us : List Topic) (conn : ℕ) (uid u : ℤ) → ts ≡ us → uid ≡ u
    → position (is_at (id_of ix conn uid)) ts ≡ position (has_publisher conn uid) ts
    → position (is_at (id_of ix conn u)) us ≡ position (has_publisher conn u) us
publisher-passed ix ts us conn uid u e f h =
    subst (λ us. position (is_at (id_of ix conn u)) us ≡ position (has_publisher conn u) us) e
    (subst (λ u. position (is_at (id_of ix conn u)) ts ≡ position (has_publisher conn u) ts) f h)

pub name-passed : (ix : Index) (ts us : List Topic) (name n : List ℕ) → ts ≡ us → name ≡ n
    → position (is_at (id_named ix name)) ts ≡ position (is_named name) ts
    → position (is_at (id_named ix n)) us ≡ position (is_named n) us
name-passed ix ts us name n e f h =
    subst (λ us. position (is_at (id_named ix n)) us ≡ position (is_named n) us) e
    (subst (λ n. position (is_at (id_named ix n)) ts ≡ position (is_named n) ts) f h)

-- ---- at a call that answered Ok

pub if-ok : {A E P : Type 0} (r : Result A E) → OnOk r P → is_err r ≡ false → P
if-ok (Ok x) h e = h
if-ok (Err x) h e = absurd (cc)
