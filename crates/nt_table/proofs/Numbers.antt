-- How many publishers pass a test, in one topic and in all, and what changes of the topics do to it.
use Rattle.std.proofs.Common.{◌≡◌, ◌≤◌, ◌+◌, ◌&&◌, ◌||◌, ◌++◌, ◌==◌, ℕ, ℤ, zero, suc, Bool, true, false, not, cond, ltb, List, [], ◌∷◌, Option, Some, None, filter, map, length, refl, sym, ◌∙◌, ap, arith}
use Rattle.std.specs.List.{list_any, cons_option, count_by}
use Rattle.std.specs.Ordering.{int_eq}
use Rattle.std.proofs.lemmas.Bool.Decides.{nat_tests, Decides-eqb, Decides-int_eq}
use Rattle.std.proofs.lemmas.List.Recursion.{is_count_by}
use Rattle.nt_topics.specs.Properties.{is_persistent, is_retained}
use Rattle.nt_rules.specs.declared.topic.Topic.{Topic}
use Rattle.nt_rules.specs.declared.topic.Pub.{Pub}
use Rattle.nt_rules.specs.topics.Topics.{is_publisher, is_of, has_publisher, publishers_of, change_first, if_it_lives_on, without_publisher, without_conn, outlives, dropped, unpublished}
use Rattle.nt_table.specs.Index.{one, number, total}

-- ---- the publishers of one topic

-- a filter, publisher by publisher
kept-first : (test : Pub → Bool) (p : Pub) (ps : List Pub) (k : Bool)
    → number test (cond k (p ∷ ps) ps) ≡ cond k (one (test p)) 0 + number test ps
kept-first test p ps true = refl
kept-first test p ps false = omega arith

-- where none that passes is kept, none is left
pub number-none : (test keep : Pub → Bool) (ps : List Pub) → ((p : Pub) → test p ≡ true → keep p ≡ false)
    → number test (filter keep ps) ≡ 0
number-none test keep [] h = refl
number-none test keep (p ∷ ps) h =
    let rest : number test (filter keep ps) ≡ 0 = number-none test keep ps h in
    let first = kept-first test p (filter keep ps) (keep p) in
    let here : cond (keep p) (one (test p)) 0 ≡ 0 = by (keep p) (test p) (h p) in
    omega arith
  where
    by : (k b : Bool) → (b ≡ true → k ≡ false) → cond k (one b) 0 ≡ 0
    by true true h = absurd (let e : true ≡ false = h refl in cc)
    by true false h = refl
    by false b h = refl

-- where all that pass are kept, as many are left
pub number-same : (test keep : Pub → Bool) (ps : List Pub) → ((p : Pub) → test p ≡ true → keep p ≡ true)
    → number test (filter keep ps) ≡ number test ps
number-same test keep [] h = refl
number-same test keep (p ∷ ps) h =
    let rest : number test (filter keep ps) ≡ number test ps = number-same test keep ps h in
    let first = kept-first test p (filter keep ps) (keep p) in
    let here : cond (keep p) (one (test p)) 0 ≡ one (test p) = by (keep p) (test p) (h p) in
    omega arith
  where
    by : (k b : Bool) → (b ≡ true → k ≡ true) → cond k (one b) 0 ≡ one b
    by true b h = refl
    by false true h = absurd (let e : false ≡ true = h refl in cc)
    by false false h = refl

-- where some of those that pass go, they and those that are left are all
pub number-split : (test gone : Pub → Bool) (ps : List Pub) → ((p : Pub) → gone p ≡ true → test p ≡ true)
    → number test (filter (λ p. not (gone p)) ps) + number gone ps ≡ number test ps
number-split test gone [] h = refl
number-split test gone (p ∷ ps) h =
    let rest : number test (filter (λ p. not (gone p)) ps) + number gone ps ≡ number test ps =
    number-split test gone ps h in
    let first = kept-first test p (filter (λ p. not (gone p)) ps) (not (gone p)) in
    let here : cond (not (gone p)) (one (test p)) 0 + one (gone p) ≡ one (test p) = by (gone p) (test p) (h p) in
    omega arith
  where
    by : (g b : Bool) → (g ≡ true → b ≡ true) → cond (not g) (one b) 0 + one g ≡ one b
    by true true h = refl
    by true false h = absurd (let e : false ≡ true = h refl in cc)
    by false b h = omega arith

pub number-push : (test : Pub → Bool) (ps : List Pub) (p : Pub)
    → number test (ps ++ p ∷ []) ≡ number test ps + one (test p)
number-push test [] p = omega arith
number-push test (q ∷ ps) p = let rest = number-push test ps p in omega arith

-- where none passes, none is counted
pub any-none : (test : Pub → Bool) (ps : List Pub) → number test ps ≡ 0 → list_any test ps ≡ false
any-none test [] h = refl
any-none test (p ∷ ps) h = by (λ k. any-none test ps k) (test p) h
  where
    by : (number test ps ≡ 0 → list_any test ps ≡ false) → (b : Bool) → one b + number test ps ≡ 0
        → (b || list_any test ps) ≡ false
    by more true h = absurd (omega arith)
    by more false h = more (omega arith)

-- where one passes, it is counted
pub any-some : (test : Pub → Bool) (ps : List Pub) → 1 ≤ number test ps → list_any test ps ≡ true
any-some test [] h = absurd (omega arith)
any-some test (p ∷ ps) h = by (λ k. any-some test ps k) (test p) h
  where
    by : (1 ≤ number test ps → list_any test ps ≡ true) → (b : Bool) → 1 ≤ one b + number test ps
        → (b || list_any test ps) ≡ true
    by more true h = refl
    by more false h = more (omega arith)

pub any-number : (test : Pub → Bool) (ps : List Pub) (b : Bool) → number test ps ≡ one b → list_any test ps ≡ b
any-number test ps true h = any-some test ps (omega arith)
any-number test ps false h = any-none test ps h

pub some-counted : (test : Pub → Bool) (ps : List Pub) → list_any test ps ≡ true → 1 ≤ number test ps
some-counted test ps h = by (number test ps) refl
  where
    by : (n : ℕ) → number test ps ≡ n → 1 ≤ number test ps
    by zero e = absurd (let f : list_any test ps ≡ false = any-none test ps e in cc)
    by (suc n) e = omega arith

pub none-counted : (test : Pub → Bool) (ps : List Pub) → list_any test ps ≡ false → number test ps ≡ 0
none-counted test ps h = by (number test ps) refl
  where
    by : (n : ℕ) → number test ps ≡ n → number test ps ≡ 0
    by zero e = e
    by (suc n) e = absurd (let f : list_any test ps ≡ true = any-some test ps (omega arith) in cc)

-- a list with no publishers counts none
pub number-empty : (test : Pub → Bool) (ps : List Pub) → length ps ≡ 0 → number test ps ≡ 0
number-empty test [] h = refl
number-empty test (p ∷ ps) h = absurd (omega arith)

-- ---- publishers by connection and uid

pub of-publisher : (conn : ℕ) (uid : ℤ) (p : Pub) → is_publisher conn uid p ≡ true → (p.conn ≡ conn) × (p.uid ≡ uid)
of-publisher conn uid p h = by (p.conn == conn) (int_eq p.uid uid) (Decides-eqb p.conn conn).0
    (Decides-int_eq p.uid uid).0 h
  where
    by : (a b : Bool) → (a ≡ true → p.conn ≡ conn) → (b ≡ true → p.uid ≡ uid) → (a && b) ≡ true
        → (p.conn ≡ conn) × (p.uid ≡ uid)
    by true true f g h = (f refl, g refl)
    by true false f g h = absurd (cc)
    by false b f g h = absurd (cc)

-- a connection's publisher is of it
pub is-of : (conn : ℕ) (uid : ℤ) (p : Pub) → is_publisher conn uid p ≡ true → is_of conn p ≡ true
is-of conn uid p h = (Decides-eqb p.conn conn).1 (of-publisher conn uid p h).0

-- whether two publishers are the same
abbrev pub is_key : ℕ → ℤ → ℕ → ℤ → Bool
is_key conn uid c u = (conn == c) && int_eq uid u

pub key-same : (conn : ℕ) (uid : ℤ) (c : ℕ) (u : ℤ) → is_key conn uid c u ≡ true → (conn ≡ c) × (uid ≡ u)
key-same conn uid c u h = by (conn == c) (int_eq uid u) (Decides-eqb conn c).0 (Decides-int_eq uid u).0 h
  where
    by : (a b : Bool) → (a ≡ true → conn ≡ c) → (b ≡ true → uid ≡ u) → (a && b) ≡ true → (conn ≡ c) × (uid ≡ u)
    by true true f g h = (f refl, g refl)
    by true false f g h = absurd (cc)
    by false b f g h = absurd (cc)

-- a publisher with other numbers is another
pub key-apart : (conn : ℕ) (uid : ℤ) (c : ℕ) (u : ℤ) (p : Pub) → is_key conn uid c u ≡ false
    → is_publisher c u p ≡ true → is_publisher conn uid p ≡ false
key-apart conn uid c u p apart h = by (is_publisher conn uid p) refl
  where
    by : (b : Bool) → is_publisher conn uid p ≡ b → b ≡ false
    by false e = refl
    by true e =
        let at = of-publisher c u p h in
        let here = of-publisher conn uid p e in
        let same : is_key conn uid c u ≡ true =
        ap (λ n. (n == c) && int_eq uid u) (sym here.0 ∙ at.0) ∙ ap (λ n. (c == c) && int_eq n u) (sym here.1 ∙ at.1)
        ∙ ap (λ b. b && int_eq u u) ((Decides-eqb c c).1 refl) ∙ (Decides-int_eq u u).1 refl in
        absurd (cc)

-- ---- the publishers of all topics

-- they are counted alike
number-count : (test : Pub → Bool) (ps : List Pub) → number test ps ≡ count_by test ps
number-count test ps = is_count_by (number test) test refl (λ p qs. by (test p) qs) ps
  where
    by : (b : Bool) (qs : List Pub) → one b + number test qs ≡ cond b (1 + number test qs) (number test qs)
    by true qs = refl
    by false qs = omega arith

pub total-publishers : (conn : ℕ) (ts : List Topic) → total (is_of conn) ts ≡ publishers_of conn ts
total-publishers conn [] = refl
total-publishers conn (t ∷ ts) =
    let here = number-count (is_of conn) t.pubs in let rest = total-publishers conn ts in omega arith

pub total-push : (test : Pub → Bool) (ts : List Topic) (t : Topic)
    → total test (ts ++ t ∷ []) ≡ total test ts + number test t.pubs
total-push test [] t = omega arith
total-push test (s ∷ ts) t = let rest = total-push test ts t in omega arith

-- what is counted of what is left of a topic
abbrev pub number_left : (Pub → Bool) → Option Topic → ℕ
number_left test None = 0
number_left test (Some t) = number test t.pubs

total-left : (test : Pub → Bool) (o : Option Topic) (ts : List Topic)
    → total test (cons_option o ts) ≡ number_left test o + total test ts
total-left test None ts = omega arith
total-left test (Some t) ts = refl

-- a topic that doesn't live on has no publishers
pub left-number : (test : Pub → Bool) (t : Topic) → number_left test (if_it_lives_on t) ≡ number test t.pubs
left-number test t = by (ltb 0 (length t.pubs)) (is_persistent t.props || is_retained t.props) refl
  where
    by : (b flag : Bool) → ltb 0 (length t.pubs) ≡ b
        → number_left test (cond (b || flag) (Some t) None) ≡ number test t.pubs
    by true flag e = refl
    by false true e = refl
    by false false e = sym (number-empty test t.pubs (grind (arith, nat_tests)))

-- a change of the first that passes
total-changed : (test : Pub → Bool) (first : Topic → Bool) (f : Topic → Option Topic) (t : Topic) (ts : List Topic)
    → total test (change_first first f (t ∷ ts))
    ≡ cond (first t) (number_left test (f t) + total test ts)
    (number test t.pubs + total test (change_first first f ts))
total-changed test first f t ts = by (first t)
  where
    by : (b : Bool) → total test (cond b (cons_option (f t) ts) (t ∷ change_first first f ts))
        ≡ cond b (number_left test (f t) + total test ts) (number test t.pubs + total test (change_first first f ts))
    by true = total-left test (f t) ts
    by false = refl

-- one that keeps the number in each topic keeps it in all
pub total-kept : (test : Pub → Bool) (first : Topic → Bool) (f : Topic → Option Topic) (ts : List Topic)
    → ((t : Topic) → number_left test (f t) ≡ number test t.pubs) → total test (change_first first f ts) ≡ total test ts
total-kept test first f [] h = refl
total-kept test first f (t ∷ ts) h =
    total-changed test first f t ts ∙ by (first t) (total-kept test first f ts h)
  where
    by : (b : Bool) → total test (change_first first f ts) ≡ total test ts
        → cond b (number_left test (f t) + total test ts) (number test t.pubs + total test (change_first first f ts))
        ≡ number test t.pubs + total test ts
    by true rest = let here = h t in omega arith
    by false rest = omega arith

-- one that adds to the first adds to all
pub total-added : (test : Pub → Bool) (first : Topic → Bool) (f : Topic → Option Topic) (n : ℕ) (ts : List Topic)
    → ((t : Topic) → number_left test (f t) ≡ number test t.pubs + n) → list_any first ts ≡ true
    → total test (change_first first f ts) ≡ total test ts + n
total-added test first f n [] h any = absurd (cc)
total-added test first f n (t ∷ ts) h any =
    total-changed test first f t ts ∙ by (first t) any (λ k. total-added test first f n ts h k)
  where
    by : (b : Bool) → (b || list_any first ts) ≡ true
        → (list_any first ts ≡ true → total test (change_first first f ts) ≡ total test ts + n)
        → cond b (number_left test (f t) + total test ts) (number test t.pubs + total test (change_first first f ts))
        ≡ number test t.pubs + total test ts + n
    by true any more = let here = h t in omega arith
    by false any more = let rest : total test (change_first first f ts) ≡ total test ts + n = more any in omega arith

-- ---- unpublish

pub not-false : (b : Bool) → b ≡ false → not b ≡ true
not-false true h = absurd (cc)
not-false false h = refl

pub not-true : (b : Bool) → b ≡ true → not b ≡ false
not-true true h = refl
not-true false h = absurd (cc)

module _ (conn : ℕ) (uid : ℤ) where
  left-without : (test : Pub → Bool) (t : Topic)
      → number_left test (if_it_lives_on (without_publisher conn uid t))
      ≡ number test (filter (λ p. not (is_publisher conn uid p)) t.pubs)
  left-without test t = left-number test (without_publisher conn uid t)

  -- publishers other than the one that goes stay
  pub unpublished-others : (test : Pub → Bool) (ts : List Topic)
      → ((p : Pub) → test p ≡ true → is_publisher conn uid p ≡ false)
      → total test (unpublished ts conn uid) ≡ total test ts
  unpublished-others test ts h =
      total-kept test (has_publisher conn uid) (λ t. if_it_lives_on (without_publisher conn uid t)) ts
      (λ t. left-without test t ∙ number-same test (λ p. not (is_publisher conn uid p)) t.pubs
      (λ p k. not-false (is_publisher conn uid p) (h p k)))

  -- of those that pass as it does, as many go as it is counted less
  pub unpublished-those : (test : Pub → Bool) (ts : List Topic)
      → ((p : Pub) → is_publisher conn uid p ≡ true → test p ≡ true)
      → total test (unpublished ts conn uid) + total (is_publisher conn uid) ts
      ≡ total test ts + total (is_publisher conn uid) (unpublished ts conn uid)
  unpublished-those test [] h = refl
  unpublished-those test (t ∷ ts) h =
      let a = total-changed test (has_publisher conn uid) (λ t. if_it_lives_on (without_publisher conn uid t)) t ts in
      let b = total-changed (is_publisher conn uid) (has_publisher conn uid)
      (λ t. if_it_lives_on (without_publisher conn uid t)) t ts in
      by (has_publisher conn uid t) a b (unpublished-those test ts h)
    where
      by : (b : Bool)
          → total test (unpublished (t ∷ ts) conn uid)
          ≡ cond b (number_left test (if_it_lives_on (without_publisher conn uid t)) + total test ts)
          (number test t.pubs + total test (unpublished ts conn uid))
          → total (is_publisher conn uid) (unpublished (t ∷ ts) conn uid)
          ≡ cond b (number_left (is_publisher conn uid) (if_it_lives_on (without_publisher conn uid t)) + total
          (is_publisher conn uid) ts)
          (number (is_publisher conn uid) t.pubs + total (is_publisher conn uid) (unpublished ts conn uid))
          → total test (unpublished ts conn uid) + total (is_publisher conn uid) ts
          ≡ total test ts + total (is_publisher conn uid) (unpublished ts conn uid)
          → total test (unpublished (t ∷ ts) conn uid) +
          (number (is_publisher conn uid) t.pubs + total (is_publisher conn uid) ts)
          ≡ (number test t.pubs + total test ts) + total (is_publisher conn uid) (unpublished (t ∷ ts) conn uid)
      by true a b rest =
          let left = left-without test t in
          let none = left-without (is_publisher conn uid) t in
          let split = number-split test (is_publisher conn uid) t.pubs h in
          let gone =
          number-none (is_publisher conn uid) (λ p. not (is_publisher conn uid p)) t.pubs
          (λ p k. not-true (is_publisher conn uid p) k) in
          omega arith
      by false a b rest = omega arith

  -- where it was counted once, it is counted no more
  pub unpublished-gone : (ts : List Topic) → total (is_publisher conn uid) ts ≤ 1
      → total (is_publisher conn uid) (unpublished ts conn uid) ≡ 0
  unpublished-gone [] h = refl
  unpublished-gone (t ∷ ts) h =
      total-changed (is_publisher conn uid) (has_publisher conn uid)
      (λ t. if_it_lives_on (without_publisher conn uid t)) t ts
      ∙ by (has_publisher conn uid t) refl (λ k. unpublished-gone ts k)
    where
      by : (b : Bool) → has_publisher conn uid t ≡ b
          → (total (is_publisher conn uid) ts ≤ 1 → total (is_publisher conn uid) (unpublished ts conn uid) ≡ 0)
          → cond b (number_left (is_publisher conn uid) (if_it_lives_on (without_publisher conn uid t)) + total
          (is_publisher conn uid) ts)
          (number (is_publisher conn uid) t.pubs + total (is_publisher conn uid) (unpublished ts conn uid)) ≡ 0
      by true e more =
          let none = left-without (is_publisher conn uid) t in
          let gone =
          number-none (is_publisher conn uid) (λ p. not (is_publisher conn uid p)) t.pubs
          (λ p k. not-true (is_publisher conn uid p) k) in
          let some = some-counted (is_publisher conn uid) t.pubs e in
          omega arith
      by false e more =
          let none = none-counted (is_publisher conn uid) t.pubs e in
          let rest : total (is_publisher conn uid) (unpublished ts conn uid) ≡ 0 = more (omega arith) in
          omega arith

-- ---- the end of a connection

-- what is counted of a topic is what is counted of what the connection leaves of it
dropped-total : (test : Pub → Bool) (ts : List Topic) (conn : ℕ) (n : Topic → ℕ)
    → ((t : Topic) → number test (filter (λ p. not (is_of conn p)) t.pubs) ≡ n t)
    → ((t : Topic) → outlives conn t ≡ false → n t ≡ 0)
    → (m : List Topic → ℕ) → m [] ≡ 0 → ((t : Topic) (ts : List Topic) → m (t ∷ ts) ≡ n t + m ts)
    → total test (dropped ts conn) ≡ m ts
dropped-total test [] conn n here gone m start step = sym start
dropped-total test (t ∷ ts) conn n here gone m start step =
    by (outlives conn t) refl (dropped-total test ts conn n here gone m start step)
  where
    by : (b : Bool) → outlives conn t ≡ b → total test (dropped ts conn) ≡ m ts
        → total test (map (without_conn conn) (cond b (t ∷ filter (outlives conn) ts) (filter (outlives conn) ts)))
        ≡ m (t ∷ ts)
    by true e rest = let h = here t in let s = step t ts in omega arith
    by false e rest = let h = gone t e in let s = step t ts in omega arith

-- a topic that doesn't outlive a connection has no other publishers
pub gone-others : (conn : ℕ) (t : Topic) (test : Pub → Bool) → outlives conn t ≡ false
    → number test (filter (λ p. not (is_of conn p)) t.pubs) ≡ 0
gone-others conn t test h =
    by (list_any (is_of conn) t.pubs) (ltb 0 (length (without_conn conn t).pubs))
    (is_persistent t.props || is_retained t.props) refl h
  where
    by : (a b flag : Bool) → ltb 0 (length (without_conn conn t).pubs) ≡ b → (not a || (b || flag)) ≡ false
        → number test (filter (λ p. not (is_of conn p)) t.pubs) ≡ 0
    by false b flag e h = absurd (cc)
    by true true flag e h = absurd (cc)
    by true false flag e h = number-empty test (without_conn conn t).pubs (grind (arith, nat_tests))

-- publishers of other connections stay
pub dropped-others : (test : Pub → Bool) (ts : List Topic) (conn : ℕ)
    → ((p : Pub) → test p ≡ true → is_of conn p ≡ false)
    → total test (dropped ts conn) ≡ total test ts
dropped-others test ts conn h =
    dropped-total test ts conn (λ t. number test t.pubs) same
    (λ t gone. sym (same t) ∙ gone-others conn t test gone) (total test) refl (λ t ts. refl)
  where
    same : (t : Topic) → number test (filter (λ p. not (is_of conn p)) t.pubs) ≡ number test t.pubs
    same t = number-same test (λ p. not (is_of conn p)) t.pubs (λ p k. not-false (is_of conn p) (h p k))

-- its own go
pub dropped-own : (test : Pub → Bool) (ts : List Topic) (conn : ℕ) → ((p : Pub) → test p ≡ true → is_of conn p ≡ true)
    → total test (dropped ts conn) ≡ 0
dropped-own test ts conn h =
    dropped-total test ts conn (λ t. 0)
    (λ t. number-none test (λ p. not (is_of conn p)) t.pubs (λ p k. not-true (is_of conn p) (h p k)))
    (λ t gone. refl) (λ ts. 0) refl (λ t ts. refl)
