-- The roster of a lawful history is in order, so that its meta topics have the values that the roster has under their
-- names.
use Rattle.std.proofs.Common.{◌≡◌, ◌≢◌, ◌<◌, ◌≤◌, ◌+◌, ◌<ℤ◌, ℕ, ℤ, suc, Bool, true, false, cond, List, [], ◌∷◌, ◌++◌}
use Rattle.std.proofs.Common.{Some, None, map, filter, length, option_map, Less, refl, sym}
use Rattle.std.proofs.Common.{◌∙◌, ap, subst, arith, int_lt}
use Rattle.std.proofs.lemmas.Int.{ints}
use Rattle.std.proofs.lemmas.Bool.Decides.{nat_tests}
use Rattle.std.specs.List.{AllByRecursion, All, flat_map, cons_option}
use Rattle.std.specs.List.Sorted.{IsStrictlySortedBy}
use Rattle.std.specs.Map.{keys_of}
use Rattle.std.specs.Ordering.{int_cmp}
use Rattle.std.specs.Str.{bytes_eq}
use Rattle.std.proofs.lemmas.Cmp.{int_ranked}
use Rattle.std.proofs.lemmas.List.Elements.{All-nil, All-cons, filter-append}
use Rattle.std.proofs.lemmas.Map.Keys.{sorted_head, sorted_tail}
use Rattle.std.proofs.lemmas.Slice.Eq.{bytes_eq-Decides}
use Rattle.nt_subs.specs.Subscriptions.{Subs, AreByUid}
use Rattle.nt_rules.specs.Limits.{last_connection, last_id}
use Rattle.nt_rules.specs.declared.act.Entry.{Entry}
use Rattle.nt_rules.specs.declared.roster.ConnRow.{ConnRow}
use Rattle.nt_rules.specs.declared.roster.LifeRow.{LifeRow}
use Rattle.nt_rules.specs.declared.roster.Roster.{Roster}
use Rattle.nt_rules.specs.declared.roster.PubRow.{PubRow}
use Rattle.nt_rules.specs.declared.roster.SubRow.{SubRow}
use Rattle.nt_rules.specs.declared.start.Start.{Start}
use Rattle.nt_rules.specs.declared.topic.Topic.{Topic}
use Rattle.nt_rules.specs.topics.Apart.{AreApart}
use Rattle.nt_rules.specs.topics.Topics.{is_of}
use Rattle.nt_rules.specs.meta.Meta.{metas, named_in}
use Rattle.nt_rules.specs.meta.Rosters.{Pairwise, IsRoster, IsInOrder, HaveTheirValues}
use Rattle.nt_rules.specs.history.Answer.{Legal, is_used, names_of}
use Rattle.nt_rules.specs.history.Lives.{Life, topic_of, topics, is_living}
use Rattle.nt_rules.specs.meta.Order.{insert_after, insert_all, pub_below}
use Rattle.nt_rules.specs.history.Metas.{pub_row, pub_rows, sub_row, conn_row, life_row, roster_now}
use Rattle.nt_rules.specs.history.Now.{Now, Connection, opened, is_open, is_conn, open_ones, now_of}
use Rattle.nt_rules.specs.history.Saved.{IsSavedSet}
use Rattle.nt_laws.proofs.histories.Facts.{IsNumberedConnections, IsNumberedLives, connections-numbered, lives-numbered}
use Rattle.nt_laws.proofs.histories.Facts.{lives-few}
use Rattle.nt_laws.proofs.histories.Histories.{KeepsByUid, connections-keep}
use Rattle.nt_laws.proofs.metas.MetaNames.{metas-found}
use Rattle.nt_laws.proofs.metas.MetaOrder.{connections-few}
use Rattle.nt_laws.proofs.metas.RowOrder.{rows-stay}
use Rattle.nt_laws.proofs.topics.ItemFacts.{each-all, each-append, each-filter, each-map, each-more}
use Rattle.nt_laws.proofs.topics.OneName.{or-false}
use Rattle.nt_laws.proofs.topics.OwnUids.{own-uids, rows-differ}
use Rattle.nt_laws.proofs.topics.Pairs.{pairs-map, pairs-push}
use Rattle.nt_laws.proofs.topics.TopicOrder.{topics-apart}

-- ---- numbers of open connections

numbers-above : (k n : ℕ) (cs : List Connection) → k < n → IsNumberedConnections n cs
    → AllByRecursion (λ (c : Connection). k < c.number) (open_ones cs)
numbers-above k n [] less h = tt
numbers-above k n (c ∷ cs) less h = by (is_open c) (numbers-above k (suc n) cs (omega arith) h.1)
  where
    by : (b : Bool) → AllByRecursion (λ (c : Connection). k < c.number) (open_ones cs)
        → AllByRecursion (λ (c : Connection). k < c.number) (cond b (c ∷ open_ones cs) (open_ones cs))
    by true more = (let same = h.0 in omega arith, more)
    by false more = more

numbers-rise : (n : ℕ) (cs : List Connection) → IsNumberedConnections n cs
    → Pairwise (λ (a b : Connection). a.number < b.number) (open_ones cs)
numbers-rise n [] h = tt
numbers-rise n (c ∷ cs) h = by (is_open c) (numbers-rise (suc n) cs h.1)
  where
    by : (b : Bool) → Pairwise (λ (a b : Connection). a.number < b.number) (open_ones cs)
        → Pairwise (λ (a b : Connection). a.number < b.number) (cond b (c ∷ open_ones cs) (open_ones cs))
    by true more = (numbers-above c.number (suc n) cs (let same = h.0 in omega arith) h.1, more)
    by false more = more

numbers-small : (n last : ℕ) (cs : List Connection) → IsNumberedConnections n cs → n + length cs ≤ last + 1
    → AllByRecursion (λ (c : Connection). c.number ≤ last) cs
numbers-small n last [] h le = tt
numbers-small n last (c ∷ cs) h le =
    let same = h.0 in
    let room : n + suc (length cs) ≤ last + 1 = le in
    (omega arith, numbers-small (suc n) last cs h.1 (omega arith))

ids-small : (n last : ℕ) (lives : List Life) → IsNumberedLives n lives → n + length lives ≤ last + 1
    → AllByRecursion (λ (t : Topic). t.id ≤ last) (topics lives)
ids-small n last [] h le = tt
ids-small n last (l ∷ lives) h le =
    let room : n + suc (length lives) ≤ last + 1 = le in
    by (is_living l) (ids-small (suc n) last lives h.1 (omega arith))
  where
    by : (b : Bool) → AllByRecursion (λ (t : Topic). t.id ≤ last) (topics lives)
        → AllByRecursion (λ (t : Topic). t.id ≤ last)
        (cons_option (cond b (Some (topic_of l)) None) (topics lives))
    by true more =
        let same = h.0 in
        let room : n + suc (length lives) ≤ last + 1 = le in
        (omega arith, more)
    by false more = more

all-of : {X : Type 0} (P : X → Type 0) (xs : List X) → AllByRecursion P xs → All P xs
all-of P [] h = All-nil P
all-of P (x ∷ xs) h = All-cons P x xs h.0 (all-of P xs h.1)

-- ---- names of open connections

-- a change that keeps the name, and opens no connection that was closed
record Narrows (f : Connection → Connection) : Type 0 where
  same_name : (c : Connection) → (f c).name ≡ c.name
  still : (c : Connection) → is_open (f c) ≡ true → is_open c ≡ true

rest-of : (P : Connection → Type 0) (b : Bool) (c : Connection) (cs : List Connection)
    → AllByRecursion P (cond b (c ∷ cs) cs) → AllByRecursion P cs
rest-of P true c cs h = h.1
rest-of P false c cs h = h

first-of : (P : Connection → Type 0) (b : Bool) (c : Connection) (cs : List Connection) → b ≡ true
    → AllByRecursion P (cond b (c ∷ cs) cs) → P c
first-of P true c cs e h = h.0
first-of P false c cs e h = absurd (cc)

pairs-rest : (R : Connection → Connection → Type 0) (b : Bool) (c : Connection) (cs : List Connection)
    → Pairwise R (cond b (c ∷ cs) cs) → Pairwise R cs
pairs-rest R true c cs h = h.1
pairs-rest R false c cs h = h

pairs-first : (R : Connection → Connection → Type 0) (b : Bool) (c : Connection) (cs : List Connection)
    → b ≡ true → Pairwise R (cond b (c ∷ cs) cs) → AllByRecursion (R c) cs
pairs-first R true c cs e h = h.0
pairs-first R false c cs e h = absurd (cc)

abbrev NotNamed : List ℕ → List Connection → Type 0
NotNamed name cs = AllByRecursion (λ (c : Connection). name ≢ c.name) cs

abbrev HaveOtherNames : List Connection → Type 0
HaveOtherNames cs = Pairwise (λ (a b : Connection). a.name ≢ b.name) cs

module _ (f : Connection → Connection) (narrows : Narrows f) where
  not-named-map : (name : List ℕ) (cs : List Connection) → NotNamed name (open_ones cs)
      → NotNamed name (open_ones (map f cs))
  not-named-map name [] h = tt
  not-named-map name (c ∷ cs) h =
      by (is_open (f c)) refl
      (not-named-map name cs
      (rest-of (λ (c : Connection). name ≢ c.name) (is_open c) c (open_ones cs) h))
    where
      by : (b : Bool) → is_open (f c) ≡ b → NotNamed name (open_ones (map f cs))
          → NotNamed name (cond b (f c ∷ open_ones (map f cs)) (open_ones (map f cs)))
      by true e more = (
        subst (λ n. name ≢ n) (sym (narrows.same_name c))
            (first-of (λ (c : Connection). name ≢ c.name) (is_open c) c (open_ones cs) (narrows.still c e) h),
        more,
      )
      by false e more = more

  other-names-map : (cs : List Connection) → HaveOtherNames (open_ones cs)
      → HaveOtherNames (open_ones (map f cs))
  other-names-map [] h = tt
  other-names-map (c ∷ cs) h =
      by (is_open (f c)) refl
      (other-names-map cs
      (pairs-rest (λ (a b : Connection). a.name ≢ b.name) (is_open c) c (open_ones cs) h))
    where
      by : (b : Bool) → is_open (f c) ≡ b → HaveOtherNames (open_ones (map f cs))
          → HaveOtherNames (cond b (f c ∷ open_ones (map f cs)) (open_ones (map f cs)))
      by true e more = (
        subst (λ n. NotNamed n (open_ones (map f cs))) (sym (narrows.same_name c))
            (not-named-map c.name cs
            (pairs-first (λ (a b : Connection). a.name ≢ b.name) (is_open c) c (open_ones cs)
            (narrows.still c e) h)),
        more,
      )
      by false e more = more

-- a name that none uses
unused-other : (name : List ℕ) (cs : List Connection) → is_used (names_of cs) name ≡ false
    → AllByRecursion (λ (c : Connection). c.name ≢ name) cs
unused-other name [] e = tt
unused-other name (c ∷ cs) e =
    let both = or-false (bytes_eq c.name name) (is_used (names_of cs) name) e in
    let here : bytes_eq c.name name ≡ false = both.0 in (
      λ same. let yes : bytes_eq c.name name ≡ true = (bytes_eq-Decides c.name name).1 same in cc,
      unused-other name cs both.1,
    )

-- open connections have different names
pub clients-differ : (start : Start) (past : List Entry) → Legal start past
    → HaveOtherNames (open_ones (now_of start past).connections)
clients-differ start =
    connections-keep (λ k cs. HaveOtherNames (open_ones cs))
    (record {
      later = λ k cs h. h;
      subscribed = λ k conn f cs keeps. other-names-map _ (resubscribed conn f) cs;
      opened = λ k worker name cs free h. added worker (length cs + 1) name cs free h;
      closed = λ k conn cs. other-names-map _ (ended k conn) cs;
    })
    start tt
  where
    resubscribed : (conn : ℕ) (f : Subs → Subs)
        → Narrows (λ c. cond (is_conn conn c) (record c { subs = f c.subs }) c)
    resubscribed conn f =
        record { same_name = λ c. name c (is_conn conn c); still = λ c. still c (is_conn conn c) }
      where
        name : (c : Connection) (b : Bool) → (cond b (record c { subs = f c.subs }) c).name ≡ c.name
        name c true = refl
        name c false = refl

        still : (c : Connection) (b : Bool) → is_open (cond b (record c { subs = f c.subs }) c) ≡ true
            → is_open c ≡ true
        still c true e = e
        still c false e = e

    ended : (k conn : ℕ) → Narrows (λ c. cond (is_conn conn c) (record c { over = Some (k + 1) }) c)
    ended k conn =
        record { same_name = λ c. name c (is_conn conn c); still = λ c. still c (is_conn conn c) }
      where
        name : (c : Connection) (b : Bool) → (cond b (record c { over = Some (k + 1) }) c).name ≡ c.name
        name c true = refl
        name c false = refl

        still : (c : Connection) (b : Bool) → is_open (cond b (record c { over = Some (k + 1) }) c) ≡ true
            → is_open c ≡ true
        still c true e = absurd (cc)
        still c false e = e

    added : (worker number : ℕ) (name : List ℕ) (cs : List Connection)
        → is_used (names_of (open_ones cs)) name ≡ false → HaveOtherNames (open_ones cs)
        → HaveOtherNames (open_ones (cs ++ opened worker number name ∷ []))
    added worker number name cs free h =
        subst (λ ds. HaveOtherNames ds) (sym (filter-append is_open cs (opened worker number name ∷ [])))
        (pairs-push (λ (a b : Connection). a.name ≢ b.name) (open_ones cs) (opened worker number name)
        (unused-other name (open_ones cs) free) h)

-- ---- subscriptions by uid

abbrev HasByUid : Connection → Type 0
HasByUid c = AreByUid c.subs

no-subs : AreByUid []
unfolding IsStrictlySortedBy
no-subs = tt

pub subs-by-uid : (start : Start) (past : List Entry) → Legal start past
    → AllByRecursion HasByUid (now_of start past).connections
subs-by-uid start =
    connections-keep (λ k cs. AllByRecursion HasByUid cs)
    (record {
      later = λ k cs h. h;
      subscribed = λ k conn f cs keeps h. each-map HasByUid _ cs
          (each-more HasByUid (λ c. HasByUid (cond (is_conn conn c) (record c { subs = f c.subs }) c))
          (λ c. resubscribed f keeps c (is_conn conn c)) cs h);
      opened = λ k worker name cs free h. each-append HasByUid cs
          (opened worker (length cs + 1) name ∷ []) h (no-subs, tt);
      closed = λ k conn cs h. each-map HasByUid _ cs
          (each-more HasByUid (λ c. HasByUid (cond (is_conn conn c) (record c { over = Some (k + 1) }) c))
          (λ c. ended k c (is_conn conn c)) cs h);
    })
    start tt
  where
    resubscribed : (f : Subs → Subs) → KeepsByUid f → (c : Connection) (b : Bool) → HasByUid c
        → HasByUid (cond b (record c { subs = f c.subs }) c)
    resubscribed f keeps c true h = keeps c.subs h
    resubscribed f keeps c false h = h

    ended : (k : ℕ) (c : Connection) (b : Bool) → HasByUid c
        → HasByUid (cond b (record c { over = Some (k + 1) }) c)
    ended k c true h = h
    ended k c false h = h

subs-above : (uid : ℤ) (subs : Subs) → AllByRecursion (λ y. int_cmp uid y ≡ Less) (keys_of subs)
    → AllByRecursion (λ (r : SubRow). uid <ℤ r.uid) (map sub_row subs)
subs-above uid [] h = tt
subs-above uid (s ∷ subs) h = (int_ranked uid s.0 Less (sym h.0), subs-above uid subs h.1)

subs-rise : (subs : Subs) → AreByUid subs
    → Pairwise (λ (a b : SubRow). a.uid <ℤ b.uid) (map sub_row subs)
subs-rise [] h = tt
subs-rise (s ∷ subs) h = (
  subs-above s.0 subs (sorted_head int_cmp s.0 (keys_of subs) h),
  subs-rise subs (sorted_tail int_cmp s.0 (keys_of subs) h),
)

-- ---- publishers by uid

lt-is : (a b : ℤ) → int_lt a b ≡ true → a <ℤ b
lt-is a b e = grind (arith, ints, nat_tests)

lt-else : (a b : ℤ) → int_lt a b ≡ false → b ≢ a → b <ℤ a
lt-else a b e ne = grind (arith, ints, nat_tests)

lt-more : (a b c : ℤ) → a <ℤ b → b <ℤ c → a <ℤ c
lt-more a b c ab bc = grind (arith, ints)

abbrev IsBelow : PubRow → PubRow → Type 0
IsBelow a b = a.uid <ℤ b.uid

pub each-inserted : (P : PubRow → Type 0) (r : PubRow) (xs : List PubRow) → P r → AllByRecursion P xs
    → AllByRecursion P (insert_after pub_below r xs)
each-inserted P r [] here h = (here, tt)
each-inserted P r (x ∷ xs) here h = by (pub_below r x) (each-inserted P r xs here h.1)
  where
    by : (b : Bool) → AllByRecursion P (insert_after pub_below r xs)
        → AllByRecursion P (cond b (r ∷ x ∷ xs) (x ∷ insert_after pub_below r xs))
    by true more = (here, h)
    by false more = (h.0, more)

inserted-rises : (r : PubRow) (xs : List PubRow) → AllByRecursion (λ (x : PubRow). x.uid ≢ r.uid) xs
    → Pairwise IsBelow xs → Pairwise IsBelow (insert_after pub_below r xs)
inserted-rises r [] ne h = (tt, tt)
inserted-rises r (x ∷ xs) ne h = by (pub_below r x) refl (inserted-rises r xs ne.1 h.1)
  where
    by : (b : Bool) → pub_below r x ≡ b → Pairwise IsBelow (insert_after pub_below r xs)
        → Pairwise IsBelow (cond b (r ∷ x ∷ xs) (x ∷ insert_after pub_below r xs))
    by true e more = (
      (
        lt-is r.uid x.uid e,
        each-more (IsBelow x) (IsBelow r) (λ y k. lt-more r.uid x.uid y.uid (lt-is r.uid x.uid e) k) xs h.0,
      ),
      h,
    )
    by false e more = (each-inserted (IsBelow x) r xs (lt-else r.uid x.uid e ne.0) h.0, more)

-- each of these rows has another uid than each of those
abbrev Differ : List PubRow → List PubRow → Type 0
Differ xs rs = AllByRecursion (λ (s : PubRow). AllByRecursion (λ (x : PubRow). x.uid ≢ s.uid) xs) rs

differ-more : (r : PubRow) (xs rs : List PubRow) → AllByRecursion (λ (s : PubRow). r.uid ≢ s.uid) rs → Differ xs rs
    → Differ (insert_after pub_below r xs) rs
differ-more r xs [] ne h = tt
differ-more r xs (s ∷ rs) ne h =
    (each-inserted (λ (x : PubRow). x.uid ≢ s.uid) r xs ne.0 h.0, differ-more r xs rs ne.1 h.1)

all-rise : (xs rs : List PubRow) → Pairwise IsBelow xs → Pairwise (λ (a b : PubRow). a.uid ≢ b.uid) rs → Differ xs rs
    → Pairwise IsBelow (insert_all pub_below xs rs)
all-rise xs [] h ne differ = h
all-rise xs (r ∷ rs) h ne differ =
    all-rise (insert_after pub_below r xs) rs (inserted-rises r xs differ.0 h) ne.1 (differ-more r xs rs ne.0 differ.1)

differ-none : (rs : List PubRow) → Differ [] rs
differ-none [] = tt
differ-none (r ∷ rs) = (tt, differ-none rs)

by-uid-rises : (rows : List PubRow) → Pairwise (λ (a b : PubRow). a.uid ≢ b.uid) rows
    → Pairwise IsBelow (insert_all pub_below [] rows)
by-uid-rises rows ne = all-rise [] rows tt ne (differ-none rows)

-- where rows are in order the value of each meta topic is the one that the roster has under its name
have-values : (r : Roster) → IsRoster r → IsInOrder r → HaveTheirValues r
have-values r is_one order =
    each-more _ _
    (λ m found. ap (λ k. option_map (λ m. m.bytes) (named_in k m.name)) (rows-stay r order)
    ∙ ap (λ o. option_map (λ m. m.bytes) o) found)
    (metas r) (metas-found r is_one)

-- ---- the roster

module _ (start : Start) (past : List Entry) (saved : IsSavedSet start.saved) (legal : Legal start past) where
  abbrev now : Now
  now = now_of start past

  abbrev cs : List Connection
  cs = open_ones now.connections

  abbrev ts : List Topic
  ts = topics now.lives

  conns-small : AllByRecursion (λ (c : Connection). c.number ≤ last_connection) cs
  conns-small =
      let few = connections-few start past legal in
      each-filter (λ (c : Connection). c.number ≤ last_connection) is_open now.connections
      (numbers-small 1 last_connection now.connections (connections-numbered start past legal) (omega arith))

  topics-small : AllByRecursion (λ (t : Topic). t.id ≤ last_id) ts
  topics-small =
      let room = saved.few in
      let few = lives-few start past (omega arith) in
      ids-small 1 last_id now.lives (lives-numbered start past) (omega arith)

  -- connections stand by rising number and topics by rising id, and their names differ
  pub roster-is : IsRoster (roster_now now)
  roster-is =
      let apart : AreApart ts = topics-apart start past saved in
      record {
        numbered = record {
          conns = all-of (λ (r : ConnRow). r.conn ≤ last_connection) (map (conn_row ts) cs)
              (each-map (λ (r : ConnRow). r.conn ≤ last_connection) (conn_row ts) cs conns-small);
          topics = all-of (λ (r : LifeRow). r.id ≤ last_id) (map life_row ts)
              (each-map (λ (r : LifeRow). r.id ≤ last_id) life_row ts topics-small);
        };
        by_number = pairs-map (λ (a b : ConnRow). a.conn < b.conn) (conn_row ts) cs
            (numbers-rise 1 now.connections (connections-numbered start past legal));
        by_id = pairs-map (λ (a b : LifeRow). a.id < b.id) life_row ts apart.by_id;
        clients_differ = pairs-map (λ (a b : ConnRow). a.name ≢ b.name) (conn_row ts) cs
            (clients-differ start past legal);
        topics_differ = pairs-map (λ (a b : LifeRow). a.name ≢ b.name) life_row ts apart.names_differ;
      }

  -- and the publishers and the subscriptions of each connection by rising uid
  pub roster-in-order : IsInOrder (roster_now now)
  roster-in-order =
      record {
        conns = roster-is.by_number;
        pubs = each-map (λ (r : ConnRow). Pairwise (λ a b. a.uid <ℤ b.uid) r.pubs) (conn_row ts) cs
            (each-all (λ (c : Connection). Pairwise (λ (a b : PubRow). a.uid <ℤ b.uid) (pub_rows c.number ts))
            (λ c.
            (by-uid-rises (flat_map (λ t. map (pub_row t) (filter (is_of c.number) t.pubs)) ts)
            (rows-differ c.number now.lives (own-uids start past)))) cs);
        subs = each-map (λ (r : ConnRow). Pairwise (λ a b. a.uid <ℤ b.uid) r.subs) (conn_row ts) cs
            (each-more HasByUid
            (λ (c : Connection). Pairwise (λ (a b : SubRow). a.uid <ℤ b.uid) (map sub_row c.subs))
            (λ c h. subs-rise c.subs h) cs
            (each-filter HasByUid is_open now.connections (subs-by-uid start past legal)));
      }

  -- so the value of each meta topic is the one that the roster has under its name
  pub roster-values : HaveTheirValues (roster_now now)
  roster-values = have-values (roster_now now) roster-is roster-in-order
