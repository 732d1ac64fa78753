-- Topics that an index says all of: where they are found, and what changes of the topics do to it.
use Rattle.std.proofs.Common.{◌≡◌, ◌≤◌, ◌<◌, ◌+◌, ◌||◌, ◌++◌, ◌==◌, ℕ, ℤ, Bool, true, false, not, cond, ltb, List, [], ◌∷◌, Option, Some, None, filter, map, length, refl, sym, ◌∙◌, ap, subst, arith}
use Rattle.std.specs.List.{list_any, cons_option, position, position_or_len}
use Rattle.std.specs.Str.{bytes_eq}
use Rattle.std.proofs.lemmas.Bool.Decides.{Decides-eqb}
use Rattle.std.proofs.lemmas.Slice.Eq.{bytes_eq-Decides}
use Rattle.nt_rules.specs.declared.topic.Topic.{Topic}
use Rattle.nt_rules.specs.declared.topic.Pub.{Pub}
use Rattle.nt_rules.specs.topics.Topics.{is_publisher, is_of, is_named, has_publisher, change_first, if_it_lives_on, lives_on, without_publisher, without_conn, with_publisher, outlives, dropped, unpublished}
use Rattle.nt_rules.specs.topics.Changes.{drop_changes, ended}
use Rattle.nt_table.specs.Index.{one, number, total, is_at, IsRising, IsFiled, AreFiled}
use Rattle.nt_table.proofs.Numbers.{number-none, number-same, number-push, any-none, any-number, none-counted, is-of, is_key, key-same, key-apart, not-true, not-false, of-publisher}

-- ---- tests that agree on a list

abbrev pub Agree : (Topic → Bool) → (Topic → Bool) → List Topic → Type 0
Agree p q [] = Unit {0}
Agree p q (t ∷ ts) = (p t ≡ q t) × Agree p q ts

pub any-agree : (p q : Topic → Bool) (ts : List Topic) → Agree p q ts → list_any p ts ≡ list_any q ts
any-agree p q [] h = refl
any-agree p q (t ∷ ts) h = ap (λ b. b || list_any p ts) h.0 ∙ ap (λ b. q t || b) (any-agree p q ts h.1)

pub position-agree : (p q : Topic → Bool) (ts : List Topic) → Agree p q ts → position p ts ≡ position q ts
position-agree p q ts h = ap (λ n. cond (ltb n (length ts)) (Some n) None) (indexes ts h)
  where
    indexes : (ts : List Topic) → Agree p q ts → position_or_len p ts ≡ position_or_len q ts
    indexes [] h = refl
    indexes (t ∷ ts) h =
        ap (λ b. cond (not b) (1 + position_or_len p ts) 0) h.0
        ∙ ap (λ n. cond (not (q t)) (1 + n) 0) (indexes ts h.1)

-- ---- ids that rise

-- topics with the same id are at the same
pub at-same : (o : Option ℕ) (t u : Topic) → u.id ≡ t.id → is_at o u ≡ is_at o t
at-same None t u e = refl
at-same (Some id) t u e = ap (λ n. id == n) e

-- an id isn't that of a topic with another
pub not-at : (o : Option ℕ) (t : Topic) → ((id : ℕ) → o ≡ Some id → (id ≡ t.id → ⊥)) → is_at o t ≡ false
not-at None t h = refl
not-at (Some id) t h = by (id == t.id) (Decides-eqb id t.id).0
  where
    by : (b : Bool) → (b ≡ true → id ≡ t.id) → b ≡ false
    by true f = absurd (h id refl (f refl))
    by false f = refl

pub at-id : (o : Option ℕ) (t : Topic) → is_at o t ≡ true → o ≡ Some t.id
at-id None t h = absurd (cc)
at-id (Some id) t h = ap Some ((Decides-eqb id t.id).0 h)

-- what is at one topic isn't at one with a greater id
pub at-one : (o : Option ℕ) (t s : Topic) → t.id < s.id → is_at o t ≡ true → is_at o s ≡ false
at-one o t s less h =
    not-at o s (λ id e same. let there : Some id ≡ Some t.id = sym e ∙ at-id o t h in
    let is : id ≡ t.id = cc in omega (arith, same))

-- a topic that is left keeps its id
abbrev pub KeepsId : Topic → Option Topic → Type 0
KeepsId t None = Unit {0}
KeepsId t (Some u) = u.id ≡ t.id

-- what is left of a topic keeps its id
pub left-id : (t s : Topic) → s.id ≡ t.id → KeepsId t (if_it_lives_on s)
left-id t s e = by (lives_on s)
  where
    by : (b : Bool) → KeepsId t (cond b (Some s) None)
    by true = e
    by false = tt

rising-less : (least most : ℕ) (ts : List Topic) → least ≤ most → IsRising most ts → IsRising least ts
rising-less least most [] h r = tt
rising-less least most (t ∷ ts) h r = let less : most ≤ t.id = r.0 in (omega arith, r.1)

pub rising-changed : (least : ℕ) (first : Topic → Bool) (f : Topic → Option Topic) (ts : List Topic)
    → ((t : Topic) → KeepsId t (f t))
    → IsRising least ts → IsRising least (change_first first f ts)
rising-changed least first f [] h r = tt
rising-changed least first f (t ∷ ts) h r = by (first t) (f t) (h t) (rising-changed (t.id + 1) first f ts h r.1)
  where
    by : (b : Bool) (o : Option Topic) → KeepsId t o → IsRising (t.id + 1) (change_first first f ts)
        → IsRising least (cond b (cons_option o ts) (t ∷ change_first first f ts))
    by true None k rest = let less : least ≤ t.id = r.0 in rising-less least (t.id + 1) ts (omega arith) r.1
    by true (Some u) k rest =
        let less : least ≤ t.id = r.0 in (omega (arith, k), subst (λ n. IsRising (n + 1) ts) (sym k) r.1)
    by false o k rest = (r.0, rest)

pub rising-dropped : (least conn : ℕ) (ts : List Topic) → IsRising least ts → IsRising least (dropped ts conn)
rising-dropped least conn [] r = tt
rising-dropped least conn (t ∷ ts) r = by (outlives conn t) (rising-dropped (t.id + 1) conn ts r.1)
  where
    by : (b : Bool) → IsRising (t.id + 1) (dropped ts conn)
        → IsRising least (map (without_conn conn) (cond b (t ∷ filter (outlives conn) ts) (filter (outlives conn) ts)))
    by true rest = (r.0, rest)
    by false rest = let less : least ≤ t.id = r.0 in rising-less least (t.id + 1) (dropped ts conn) (omega arith) rest

-- ---- what an index says of the topics

module _ (names : List ℕ → Option ℕ) (ids : ℕ → ℤ → Option ℕ) (next : ℕ) where
  pub agree-name : (name : List ℕ) (ts : List Topic) → AreFiled names ids next ts
      → Agree (is_named name) (is_at (names name)) ts
  agree-name name [] h = tt
  agree-name name (t ∷ ts) h = let first = h.0 in (first.named name, agree-name name ts h.1)

  pub has-at : (conn : ℕ) (uid : ℤ) (t : Topic) → IsFiled names ids next t
      → has_publisher conn uid t ≡ is_at (ids conn uid) t
  has-at conn uid t h = any-number (is_publisher conn uid) t.pubs (is_at (ids conn uid) t) (h.published conn uid)

  pub agree-publisher : (conn : ℕ) (uid : ℤ) (ts : List Topic) → AreFiled names ids next ts
      → Agree (has_publisher conn uid) (is_at (ids conn uid)) ts
  agree-publisher conn uid [] h = tt
  agree-publisher conn uid (t ∷ ts) h = (has-at conn uid t h.0, agree-publisher conn uid ts h.1)

  pub rising-push : (least : ℕ) (ts : List Topic) (t : Topic) → t.id ≡ next → least ≤ next → AreFiled names ids next ts
      → IsRising least ts
      → IsRising least (ts ++ t ∷ [])
  rising-push least [] t e h f r = (omega (arith, e), tt)
  rising-push least (s ∷ ts) t e h f r =
      let first = f.0 in let below : s.id < next = first.below in
      (r.0, rising-push (s.id + 1) ts t e (omega arith) f.1 r.1)

  -- an index that says the same
  pub filed-says : (names-2 : List ℕ → Option ℕ) (ids-2 : ℕ → ℤ → Option ℕ) (ts : List Topic)
      → ((name : List ℕ) → names-2 name ≡ names name) → ((conn : ℕ) (uid : ℤ) → ids-2 conn uid ≡ ids conn uid)
      → AreFiled names ids next ts → AreFiled names-2 ids-2 next ts
  filed-says names-2 ids-2 [] n i h = tt
  filed-says names-2 ids-2 (t ∷ ts) n i h =
      let first = h.0 in (
        record {
          below = first.below;
          named = λ name. first.named name ∙ sym (ap (λ o. is_at o t) (n name));
          published = λ conn uid. first.published conn uid ∙ sym (ap (λ o. one (is_at o t)) (i conn uid));
        },
        filed-says names-2 ids-2 ts n i h.1,
      )

  -- a topic with the same id, name and publishers
  pub refiled : (t u : Topic) → u.id ≡ t.id → u.name ≡ t.name → u.pubs ≡ t.pubs → IsFiled names ids next t
      → IsFiled names ids next u
  refiled t u i n p h = record {
    below = let b : t.id < next = h.below in omega (arith, i);
    named = λ name. ap (λ m. bytes_eq m name) n ∙ h.named name ∙ sym (at-same (names name) t u i);
    published = λ conn uid.
        ap (number (is_publisher conn uid)) p ∙ h.published conn uid ∙ sym (ap one (at-same (ids conn uid) t u i));
  }

-- ---- from what one index says to what another does

module _ (names : List ℕ → Option ℕ) (ids : ℕ → ℤ → Option ℕ) (next : ℕ) (names-2 : List ℕ → Option ℕ)
    (ids-2 : ℕ → ℤ → Option ℕ) (next-2 : ℕ) where
  -- of what is left of a topic
  abbrev pub FiledLeft : Option Topic → Type 0
  FiledLeft None = Unit {0}
  FiledLeft (Some t) = IsFiled names-2 ids-2 next-2 t

  -- the topics after one
  filed-after : (t : Topic) (ts : List Topic)
      → ((s : Topic) → t.id < s.id → IsFiled names ids next s → IsFiled names-2 ids-2 next-2 s)
      → (least : ℕ) → t.id < least → IsRising least ts → AreFiled names ids next ts → AreFiled names-2 ids-2 next-2 ts
  filed-after t [] f least h r k = tt
  filed-after t (s ∷ ts) f least h r k =
      let from : least ≤ s.id = r.0 in
      (f s (omega arith) k.0, filed-after t ts f (s.id + 1) (omega arith) r.1 k.1)

  -- a change of the first that passes
  pub filed-changed : (first : Topic → Bool) (f : Topic → Option Topic) (ts : List Topic) (least : ℕ)
      → ((t : Topic) → IsFiled names ids next t → first t ≡ false → IsFiled names-2 ids-2 next-2 t)
      → ((t s : Topic) → IsFiled names ids next t → first t ≡ true → t.id < s.id → IsFiled names ids next s
      → IsFiled names-2 ids-2 next-2 s)
      → ((t : Topic) → IsFiled names ids next t → first t ≡ true → FiledLeft (f t))
      → IsRising least ts → AreFiled names ids next ts → AreFiled names-2 ids-2 next-2 (change_first first f ts)
  filed-changed first f [] least other after here r k = tt
  filed-changed first f (t ∷ ts) least other after here r k =
      by (first t) refl (f t) (here t k.0) (filed-changed first f ts (t.id + 1) other after here r.1 k.1)
    where
      by : (b : Bool) → first t ≡ b → (o : Option Topic) → (first t ≡ true → FiledLeft o)
          → AreFiled names-2 ids-2 next-2 (change_first first f ts)
          → AreFiled names-2 ids-2 next-2 (cond b (cons_option o ts) (t ∷ change_first first f ts))
      by true e None left rest = filed-after t ts (λ s less h. after t s k.0 e less h) (t.id + 1) (omega arith) r.1 k.1
      by true e (Some u) left rest = (
        left e,
        filed-after t ts (λ s less h. after t s k.0 e less h) (t.id + 1)
            (omega arith) r.1 k.1,
      )
      by false e o left rest = (other t k.0 e, rest)

  -- what a connection leaves
  pub filed-dropped : (conn : ℕ) (ts : List Topic)
      → ((t : Topic) → IsFiled names ids next t → IsFiled names-2 ids-2 next-2 (without_conn conn t))
      → AreFiled names ids next ts → AreFiled names-2 ids-2 next-2 (dropped ts conn)
  filed-dropped conn [] f k = tt
  filed-dropped conn (t ∷ ts) f k = by (outlives conn t) (filed-dropped conn ts f k.1)
    where
      by : (b : Bool) → AreFiled names-2 ids-2 next-2 (dropped ts conn)
          → AreFiled names-2 ids-2 next-2
          (map (without_conn conn) (cond b (t ∷ filter (outlives conn) ts) (filter (outlives conn) ts)))
      by true rest = (f t k.0, rest)
      by false rest = rest

  -- topics of which none passes, and one after them
  pub filed-unless : (test : Topic → Bool) (ts : List Topic) → list_any test ts ≡ false
      → ((t : Topic) → test t ≡ false → IsFiled names ids next t → IsFiled names-2 ids-2 next-2 t)
      → AreFiled names ids next ts → AreFiled names-2 ids-2 next-2 ts
  filed-unless test [] none f k = tt
  filed-unless test (t ∷ ts) none f k = by (test t) refl none (λ more. filed-unless test ts more f k.1)
    where
      by : (b : Bool) → test t ≡ b → (b || list_any test ts) ≡ false
          → (list_any test ts ≡ false → AreFiled names-2 ids-2 next-2 ts) → AreFiled names-2 ids-2 next-2 (t ∷ ts)
      by true e none rest = absurd (cc)
      by false e none rest = (f t e k.0, rest none)

  pub filed-push : (ts : List Topic) (t : Topic) → AreFiled names-2 ids-2 next-2 ts → IsFiled names-2 ids-2 next-2 t
      → AreFiled names-2 ids-2 next-2 (ts ++ t ∷ [])
  filed-push [] t k h = (h, tt)
  filed-push (s ∷ ts) t k h = (k.0, filed-push ts t k.1 h)

-- ---- a publisher that goes

module _ (names : List ℕ → Option ℕ) (ids : ℕ → ℤ → Option ℕ) (next : ℕ) (ids-2 : ℕ → ℤ → Option ℕ) (conn : ℕ) (uid : ℤ)
    (says : (c : ℕ) (u : ℤ) → ids-2 c u ≡ cond (is_key conn uid c u) None (ids c u)) where
  -- a topic without it
  still : (t : Topic) → IsFiled names ids next t → number (is_publisher conn uid) t.pubs ≡ 0
      → IsFiled names ids-2 next t
  still t h none = record {
    below = h.below;
    named = h.named;
    published = λ c u. by c u (is_key conn uid c u) refl;
  }
    where
      by : (c : ℕ) (u : ℤ) (b : Bool) → is_key conn uid c u ≡ b
          → number (is_publisher c u) t.pubs ≡ one (is_at (ids-2 c u) t)
      by c u true e =
          let same = key-same conn uid c u e in
          ap (λ k. number (is_publisher k u) t.pubs) (sym same.0)
          ∙ ap (λ v. number (is_publisher conn v) t.pubs) (sym same.1) ∙ none
          ∙ sym (ap (λ o. one (is_at o t)) (says c u ∙ ap (λ b. cond b None (ids c u)) e))
      by c u false e = h.published c u ∙ sym (ap (λ o. one (is_at o t)) (says c u ∙ ap (λ b. cond b None (ids c u)) e))

  -- the topic that loses it
  lost : (t : Topic) → IsFiled names ids next t → IsFiled names ids-2 next (without_publisher conn uid t)
  lost t h = record {
    below = h.below;
    named = λ name. h.named name ∙ sym (at-same (names name) t (without_publisher conn uid t) refl);
    published = λ c u. by c u (is_key conn uid c u) refl;
  }
    where
      by : (c : ℕ) (u : ℤ) (b : Bool) → is_key conn uid c u ≡ b
          → number (is_publisher c u) (filter (λ p. not (is_publisher conn uid p)) t.pubs)
          ≡ one (is_at (ids-2 c u) (without_publisher conn uid t))
      by c u true e =
          let same = key-same conn uid c u e in
          number-none (is_publisher c u) (λ p. not (is_publisher conn uid p)) t.pubs
          (λ p k. not-true (is_publisher conn uid p)
          (ap (λ m. is_publisher m uid p) same.0 ∙ ap (λ v. is_publisher c v p) same.1 ∙ k))
          ∙ sym (ap (λ o. one (is_at o (without_publisher conn uid t))) (says c u ∙ ap (λ b. cond b None (ids c u)) e))
      by c u false e =
          number-same (is_publisher c u) (λ p. not (is_publisher conn uid p)) t.pubs
          (λ p k. not-false (is_publisher conn uid p) (key-apart conn uid c u p e k))
          ∙ h.published c u ∙ sym (ap one (at-same (ids c u) t (without_publisher conn uid t) refl))
          ∙ sym (ap (λ o. one (is_at o (without_publisher conn uid t))) (says c u ∙ ap (λ b. cond b None (ids c u)) e))

  left-filed : (t : Topic) → IsFiled names ids-2 next t → FiledLeft names ids next names ids-2 next (if_it_lives_on t)
  left-filed t h = by (lives_on t)
    where
      by : (b : Bool) → FiledLeft names ids next names ids-2 next (cond b (Some t) None)
      by true = h
      by false = tt

  pub filed-unpublished : (ts : List Topic) (least : ℕ) → IsRising least ts → AreFiled names ids next ts
      → AreFiled names ids-2 next (unpublished ts conn uid)
  filed-unpublished ts least r k =
      filed-changed names ids next names ids-2 next (has_publisher conn uid)
      (λ t. if_it_lives_on (without_publisher conn uid t)) ts least
      (λ t h e. still t h (none-counted (is_publisher conn uid) t.pubs e))
      (λ t s h e less g. still s g (g.published conn uid
      ∙ ap one (at-one (ids conn uid) t s less (sym (has-at names ids next conn uid t h) ∙ e))))
      (λ t h e. left-filed (without_publisher conn uid t) (lost t h))
      r k

-- ---- a connection that goes

module _ (names : List ℕ → Option ℕ) (ids : ℕ → ℤ → Option ℕ) (next : ℕ) (ids-2 : ℕ → ℤ → Option ℕ) (conn : ℕ)
    (says : (c : ℕ) (u : ℤ) → ids-2 c u ≡ cond (conn == c) None (ids c u)) where
  left-conn : (t : Topic) → IsFiled names ids next t → IsFiled names ids-2 next (without_conn conn t)
  left-conn t h = record {
    below = h.below;
    named = λ name. h.named name ∙ sym (at-same (names name) t (without_conn conn t) refl);
    published = λ c u. by c u (conn == c) refl;
  }
    where
      by : (c : ℕ) (u : ℤ) (b : Bool) → (conn == c) ≡ b
          → number (is_publisher c u) (filter (λ p. not (is_of conn p)) t.pubs)
          ≡ one (is_at (ids-2 c u) (without_conn conn t))
      by c u true e =
          number-none (is_publisher c u) (λ p. not (is_of conn p)) t.pubs
          (λ p k. not-true (is_of conn p) (ap (λ m. is_of m p) ((Decides-eqb conn c).0 e) ∙ is-of c u p k))
          ∙ sym (ap (λ o. one (is_at o (without_conn conn t))) (says c u ∙ ap (λ b. cond b None (ids c u)) e))
      by c u false e =
          number-same (is_publisher c u) (λ p. not (is_of conn p)) t.pubs
          (λ p k. not-false (is_of conn p) (apart p (of-publisher c u p k).0))
          ∙ h.published c u ∙ sym (ap one (at-same (ids c u) t (without_conn conn t) refl))
          ∙ sym (ap (λ o. one (is_at o (without_conn conn t))) (says c u ∙ ap (λ b. cond b None (ids c u)) e))
        where
          apart : (p : Pub) → p.conn ≡ c → is_of conn p ≡ false
          apart p at = on (p.conn == conn) (Decides-eqb p.conn conn).0
            where
              on : (b : Bool) → (b ≡ true → p.conn ≡ conn) → b ≡ false
              on true f = absurd (let same : (conn == c) ≡ true = (Decides-eqb conn c).1 (sym (f refl) ∙ at) in cc)
              on false f = refl

  pub filed-closed : (ts : List Topic) → AreFiled names ids next ts → AreFiled names ids-2 next (dropped ts conn)
  filed-closed ts k = filed-dropped names ids next names ids-2 next conn ts left-conn k

-- ---- a publisher that comes

module _ (names : List ℕ → Option ℕ) (ids : ℕ → ℤ → Option ℕ) (next : ℕ) (ids-2 : ℕ → ℤ → Option ℕ) (p : Pub) (id : ℕ)
    (says : (c : ℕ) (u : ℤ) → ids-2 c u ≡ cond (is_key p.conn p.uid c u) (Some id) (ids c u))
    (fresh : ids p.conn p.uid ≡ None) where
  says-same : (c : ℕ) (u : ℤ) → is_key p.conn p.uid c u ≡ true → (ids-2 c u ≡ Some id) × (ids c u ≡ None)
  says-same c u e =
      let same = key-same p.conn p.uid c u e in (
        says c u ∙ ap (λ b. cond b (Some id) (ids c u)) e,
        ap (λ n. ids n u) (sym same.0)
            ∙ ap (λ v. ids p.conn v) (sym same.1) ∙ fresh,
      )

  says-other : (c : ℕ) (u : ℤ) → is_key p.conn p.uid c u ≡ false → ids-2 c u ≡ ids c u
  says-other c u e = says c u ∙ ap (λ b. cond b (Some id) (ids c u)) e

  -- publishers of a topic that it doesn't join
  pub unjoined : (t : Topic) → is_at (Some id) t ≡ false
      → ((c : ℕ) (u : ℤ) → number (is_publisher c u) t.pubs ≡ one (is_at (ids c u) t))
      → (c : ℕ) (u : ℤ) → number (is_publisher c u) t.pubs ≡ one (is_at (ids-2 c u) t)
  unjoined t apart h c u = by (is_key p.conn p.uid c u) refl
    where
      by : (b : Bool) → is_key p.conn p.uid c u ≡ b → number (is_publisher c u) t.pubs ≡ one (is_at (ids-2 c u) t)
      by true e =
          let s = says-same c u e in
          h c u ∙ ap (λ o. one (is_at o t)) s.1 ∙ sym (ap one apart) ∙ sym (ap (λ o. one (is_at o t)) s.0)
      by false e = h c u ∙ sym (ap (λ o. one (is_at o t)) (says-other c u e))

  -- publishers of the topic that it joins
  pub joined : (t u : Topic) → is_at (Some id) u ≡ true → u.id ≡ t.id → u.pubs ≡ t.pubs ++ p ∷ []
      → ((c : ℕ) (u : ℤ) → number (is_publisher c u) t.pubs ≡ one (is_at (ids c u) t))
      → (c : ℕ) (v : ℤ) → number (is_publisher c v) u.pubs ≡ one (is_at (ids-2 c v) u)
  joined t u here i e h c v =
      ap (number (is_publisher c v)) e ∙ number-push (is_publisher c v) t.pubs p ∙ by (is_key p.conn p.uid c v) refl
    where
      by : (b : Bool) → is_key p.conn p.uid c v ≡ b
          → number (is_publisher c v) t.pubs + one b ≡ one (is_at (ids-2 c v) u)
      by true e =
          let s = says-same c v e in
          let none : number (is_publisher c v) t.pubs ≡ 0 = h c v ∙ ap (λ o. one (is_at o t)) s.1 in
          let one-here : one (is_at (ids-2 c v) u) ≡ 1 = ap (λ o. one (is_at o u)) s.0 ∙ ap one here in
          omega arith
      by false e =
          let old : number (is_publisher c v) t.pubs ≡ one (is_at (ids-2 c v) u) =
          h c v ∙ sym (ap one (at-same (ids c v) t u i)) ∙ sym (ap (λ o. one (is_at o u)) (says-other c v e)) in
          omega arith

  -- a topic that lives is joined
  pub filed-joined : (name : List ℕ) (ts : List Topic) (least : ℕ) → names name ≡ Some id → IsRising least ts
      → AreFiled names ids next ts
      → AreFiled names ids-2 next (change_first (is_named name) (λ t. Some (with_publisher p t)) ts)
  filed-joined name ts least at r k =
      filed-changed names ids next names ids-2 next (is_named name) (λ t. Some (with_publisher p t)) ts least
      (λ t h e. apart t h (sym (there t h) ∙ e))
      (λ t s h e less g. apart s g (at-one (Some id) t s less (sym (there t h) ∙ e)))
      (λ t h e. record {
        below = h.below;
        named = λ n. h.named n ∙ sym (at-same (names n) t (with_publisher p t) refl);
        published = joined t (with_publisher p t) (at-same (Some id) t (with_publisher p t) refl ∙ sym (there t h) ∙ e)
            refl refl h.published;
      })
      r k
    where
      there : (t : Topic) → IsFiled names ids next t → is_named name t ≡ is_at (Some id) t
      there t h = h.named name ∙ ap (λ o. is_at o t) at

      apart : (t : Topic) → IsFiled names ids next t → is_at (Some id) t ≡ false → IsFiled names ids-2 next t
      apart t h e = record { below = h.below; named = h.named; published = unjoined t e h.published }

-- ---- a name that comes or goes

module _ (names names-2 : List ℕ → Option ℕ) (name : List ℕ) (o : Option ℕ)
    (says : (n : List ℕ) → names-2 n ≡ cond (bytes_eq name n) o (names n)) where
  -- a topic of another name that isn't at what is said
  pub named-other : (t : Topic) → is_named name t ≡ false → is_at o t ≡ false
      → ((n : List ℕ) → is_named n t ≡ is_at (names n) t)
      → (n : List ℕ) → is_named n t ≡ is_at (names-2 n) t
  named-other t apart not h n = by (bytes_eq name n) refl
    where
      by : (b : Bool) → bytes_eq name n ≡ b → is_named n t ≡ is_at (names-2 n) t
      by true e =
          let same : name ≡ n = (bytes_eq-Decides name n).0 e in
          ap (λ m. is_named m t) (sym same) ∙ apart ∙ sym not
          ∙ sym (ap (λ o. is_at o t) (says n ∙ ap (λ b. cond b o (names n)) e))
      by false e = h n ∙ sym (ap (λ o. is_at o t) (says n ∙ ap (λ b. cond b o (names n)) e))

  -- the topic of this name
  pub named-own : (t : Topic) → t.name ≡ name → is_at o t ≡ true → ((n : List ℕ) → is_at (names n) t ≡ false)
      → (n : List ℕ) → is_named n t ≡ is_at (names-2 n) t
  named-own t own here h n = ap (λ m. bytes_eq m n) own ∙ by (bytes_eq name n) refl
    where
      by : (b : Bool) → bytes_eq name n ≡ b → b ≡ is_at (names-2 n) t
      by true e = sym here ∙ sym (ap (λ o. is_at o t) (says n ∙ ap (λ b. cond b o (names n)) e))
      by false e = sym (h n) ∙ sym (ap (λ o. is_at o t) (says n ∙ ap (λ b. cond b o (names n)) e))

-- ---- a connection with no publishers

module _ (conn : ℕ) where
  pub none-filtered : (ps : List Pub) → number (is_of conn) ps ≡ 0 → filter (λ p. not (is_of conn p)) ps ≡ ps
  none-filtered [] h = refl
  none-filtered (p ∷ ps) h = by (λ k. none-filtered ps k) (is_of conn p) h
    where
      by : (number (is_of conn) ps ≡ 0 → filter (λ p. not (is_of conn p)) ps ≡ ps) → (b : Bool)
          → one b + number (is_of conn) ps ≡ 0
          → cond (not b) (p ∷ filter (λ p. not (is_of conn p)) ps) (filter (λ p. not (is_of conn p)) ps) ≡ p ∷ ps
      by more true h = absurd (omega arith)
      by more false h = ap (λ qs. p ∷ qs) (more (omega arith))

  -- every topic outlives it
  outlives-none : (t : Topic) → number (is_of conn) t.pubs ≡ 0 → outlives conn t ≡ true
  outlives-none t h = ap (λ b. not b || lives_on (without_conn conn t)) (any-none (is_of conn) t.pubs h)

  -- it changes no topic
  pub dropped-none : (ts : List Topic) → total (is_of conn) ts ≡ 0 → ts ≡ dropped ts conn
  dropped-none [] h = refl
  dropped-none (t ∷ ts) h =
      sym (ap (λ b. map (without_conn conn) (cond b (t ∷ filter (outlives conn) ts) (filter (outlives conn) ts)))
      (outlives-none t (omega arith))
      ∙ ap (λ ps. record t { pubs = ps } ∷ dropped ts conn) (none-filtered t.pubs (omega arith))
      ∙ ap (λ us. t ∷ us) (sym (dropped-none ts (omega arith))))

  -- and tells nothing
  pub nothing-dropped : (ts : List Topic) → total (is_of conn) ts ≡ 0 → [] ≡ drop_changes ts conn
  nothing-dropped [] h = refl
  nothing-dropped (t ∷ ts) h =
      nothing-dropped ts (omega arith)
      ∙ sym (ap (λ b. map ended (cond (not b) (t ∷ filter (λ t. not (outlives conn t)) ts)
      (filter (λ t. not (outlives conn t)) ts))) (outlives-none t (omega arith)))
