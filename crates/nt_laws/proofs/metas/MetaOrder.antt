-- The ids of all lives rise: topics have theirs below those of meta topics, and these by kinds.
use Rattle.std.proofs.Common.{◌≡◌, ◌<◌, ◌≤◌, ◌+◌, ◌==◌, ◌++◌, ◌||◌, ℕ, suc, Bool, true, false, cond, leb, List, [], ◌∷◌}
use Rattle.std.proofs.Common.{Some, None, option_map, map, length, length-append, codes, refl, sym, ◌∙◌, ap, subst}
use Rattle.std.proofs.Common.{arith}
use Rattle.std.specs.Option.{option_or}
use Rattle.std.proofs.lemmas.List.{map-append, length-map}
use Rattle.std.proofs.lemmas.List.Folds.{find-append}
use Rattle.std.proofs.lemmas.Option.{none-some}
use Rattle.std.proofs.lemmas.Bool.Decides.{nat_tests}
use Rattle.nt_control.specs.declared.message.ClientMsg.TheVariants.{Publish, Unpublish, SetProps, Subscribe}
use Rattle.nt_control.specs.declared.message.ClientMsg.TheVariants.{Unsubscribe}
use Rattle.nt_rules.specs.Limits.{first_meta, last_connection, last_id}
use Rattle.nt_rules.specs.declared.act.Msg.{Msg}
use Rattle.nt_rules.specs.declared.act.Msg.TheVariants as msg
use Rattle.nt_rules.specs.declared.act.Deed.{Deed}
use Rattle.nt_rules.specs.declared.act.Deed.TheVariants.{Opened, NotOpened, Said, Drained, Closed, Permitted, NoPermit}
use Rattle.nt_rules.specs.declared.act.Deed.TheVariants.{Shut}
use Rattle.nt_rules.specs.declared.act.Entry.{Entry}
use Rattle.nt_rules.specs.history.Lives.{Life, closed_for}
use Rattle.nt_rules.specs.declared.start.Start.{Start}
use Rattle.nt_rules.specs.history.Now.{Now, Connection, opened, closed, is_open_for, cause_of, is_traced}
use Rattle.nt_rules.specs.history.Now.{connections_after, lives_after, after_deed, now_of}
use Rattle.nt_rules.specs.history.Metas.{meta_lives, all_lives, of_topic_publishers, of_topic_subscriptions}
use Rattle.nt_rules.specs.history.Metas.{of_client_publishers, of_client_subscriptions, of_server}
use Rattle.nt_rules.specs.history.Owed.{life_at}
use Rattle.nt_rules.specs.history.Answer.{IsLawful, Legal}
use Rattle.nt_laws.proofs.histories.Facts.{IsNumberedLives, IsNumberedConnections, lives-numbered, connections-numbered}
use Rattle.nt_laws.proofs.histories.Facts.{lives-few}
use Rattle.nt_laws.proofs.metas.MetaGrowth.{has_row, rows_of}
use Rattle.nt_laws.proofs.metas.AllLives.{IsNumbered}
use Rattle.nt_laws.proofs.marks.MarksById.{LivesAbove, AreRising}
use Rattle.nt_laws.proofs.metas.MetaRows.{Row, row_of_life, row_of_conn, raised, server_rows, topic_pubs, topic_subs}
use Rattle.nt_laws.proofs.metas.MetaRows.{client_pubs, client_subs, rows_by, meta_rows, life_of, meta-lives}
use Rattle.nt_laws.proofs.metas.MetaRows.{meta-life-at, row_at, RowsAbove, RowsRise}

-- ---- ids between bounds

-- the ids rise from the first bound on, and stay below the second
abbrev RowsWithin : ℕ → ℕ → List Row → Type 0
RowsWithin low high [] = Unit {0}
RowsWithin low high (r ∷ rows) = (low ≤ r.id) × (r.id < high) × RowsWithin (suc r.id) high rows

within-more : (a b high : ℕ) (rows : List Row) → a ≤ b → RowsWithin b high rows → RowsWithin a high rows
within-more a b high [] le h = tt
within-more a b high (r ∷ rows) le h = let low = h.0 in (omega arith, h.1, h.2)

within-append : (low mid high : ℕ) (xs ys : List Row) → low ≤ mid → mid ≤ high → RowsWithin low mid xs
    → RowsWithin mid high ys
    → RowsWithin low high (xs ++ ys)
within-append low mid high [] ys l m h k = within-more low mid high ys l k
within-append low mid high (x ∷ xs) ys l m h k =
    let less = h.1 in (h.0, omega arith, within-append (suc x.id) mid high xs ys (omega arith) m h.2 k)

rows-above : (n high : ℕ) (rows : List Row) → RowsWithin (suc n) high rows → RowsAbove n rows
rows-above n high [] h = tt
rows-above n high (r ∷ rows) h =
    let low = h.0 in (
      omega arith,
      rows-above n high rows
          (within-more (suc n) (suc r.id) high rows (omega arith) h.2),
    )

rows-rise-within : (low high : ℕ) (rows : List Row) → RowsWithin low high rows → RowsRise rows
rows-rise-within low high [] h = tt
rows-rise-within low high (r ∷ rows) h =
    (rows-above r.id high rows h.2, rows-rise-within (suc r.id) high rows h.2)

-- ---- numbered rows

abbrev RowsNumbered : ℕ → List Row → Type 0
RowsNumbered k [] = Unit {0}
RowsNumbered k (r ∷ rows) = (r.id ≡ k) × RowsNumbered (suc k) rows

lives-numbered-rows : (k : ℕ) (lives : List Life) → IsNumberedLives k lives
    → RowsNumbered k (map row_of_life lives)
lives-numbered-rows k [] h = tt
lives-numbered-rows k (l ∷ lives) h = (h.0, lives-numbered-rows (suc k) lives h.1)

conns-numbered-rows : (k : ℕ) (cs : List Connection) → IsNumberedConnections k cs
    → RowsNumbered k (map row_of_conn cs)
conns-numbered-rows k [] h = tt
conns-numbered-rows k (c ∷ cs) h = (h.0, conns-numbered-rows (suc k) cs h.1)

numbered-within : (base k high : ℕ) (prefix : List ℕ) (rows : List Row) → RowsNumbered k rows
    → base + k + length rows ≤ high
    → RowsWithin (base + k) high (map (raised base prefix) rows)
numbered-within base k high prefix [] h le = tt
numbered-within base k high prefix (r ∷ rows) h le =
    let same = h.0 in
    let room : base + k + suc (length rows) ≤ high = le in
    let next : suc (base + r.id) ≡ base + suc k = omega arith in (
      omega arith,
      omega arith,
      subst (λ n. RowsWithin n high (map (raised base prefix) rows)) (sym next)
          (numbered-within base (suc k) high prefix rows h.1 (omega arith)),
    )

client-within : (k high : ℕ) (rows : List Row) → RowsNumbered k rows → k + length rows ≤ high
    → RowsWithin k high rows
client-within k high [] h le = tt
client-within k high (r ∷ rows) h le =
    let same = h.0 in
    let room : k + suc (length rows) ≤ high = le in
    let next : suc r.id ≡ suc k = omega arith in (
      omega arith,
      omega arith,
      subst (λ n. RowsWithin n high rows) (sym next)
          (client-within (suc k) high rows h.1 (omega arith)),
    )

rows-within : (ts cs : List Row) → RowsNumbered 1 ts → RowsNumbered 1 cs → length ts ≤ last_id
    → length cs ≤ last_connection
    → RowsWithin first_meta 1610612740 (rows_by ts cs)
rows-within ts cs t c few least =
    within-append first_meta of_topic_subscriptions 1610612740 (topic_pubs ts) _ (omega arith) (omega arith)
    (within-more first_meta (of_topic_publishers + 1) of_topic_subscriptions (topic_pubs ts) (omega arith)
    (numbered-within of_topic_publishers 1 of_topic_subscriptions (codes "$pub$") ts t (omega arith)))
    (within-append of_topic_subscriptions of_client_publishers 1610612740 (topic_subs ts) _ (omega arith)
    (omega arith)
    (within-more of_topic_subscriptions (of_topic_subscriptions + 1) of_client_publishers (topic_subs ts)
    (omega arith)
    (numbered-within of_topic_subscriptions 1 of_client_publishers (codes "$sub$") ts t (omega arith)))
    (within-append of_client_publishers of_client_subscriptions 1610612740 (client_pubs cs) _ (omega arith)
    (omega arith)
    (within-more of_client_publishers (of_client_publishers + 1) of_client_subscriptions (client_pubs cs)
    (omega arith)
    (numbered-within of_client_publishers 1 of_client_subscriptions (codes "$client_pub$") cs c
    (omega arith)))
    (within-append of_client_subscriptions of_server 1610612740 (client_subs cs) server_rows (omega arith)
    (omega arith)
    (within-more of_client_subscriptions (of_client_subscriptions + 1) of_server (client_subs cs)
    (omega arith)
    (numbered-within of_client_subscriptions 1 of_server (codes "$client_sub$") cs c (omega arith)))
    (omega arith, omega arith, (omega arith, omega arith, (omega arith, omega arith, tt))))))

-- ---- how many connections there are

-- how many connections a deed opens
abbrev pub opens : Deed → ℕ
opens (Opened name) = 1
opens d = 0

pub connections-length : (n : Now) (worker conn : ℕ) (d : Deed)
    → length (after_deed n worker conn d).connections ≡ length n.connections + opens d
connections-length n worker conn d = by d
  where
    same : (m : Msg) → length (connections_after n.connections conn m) ≡ length n.connections + 0
    same (msg.Control (Publish name uid typ props)) = omega arith
    same (msg.Control (Unpublish uid)) = omega arith
    same (msg.Control (SetProps name update)) = omega arith
    same (msg.Control (Subscribe uid sub)) = length-map n.connections _ ∙ omega arith
    same (msg.Control (Unsubscribe uid)) = length-map n.connections _ ∙ omega arith
    same (msg.Put v) = omega arith

    told : (m : Msg) (b : Bool)
        → length (cond b (record n {
          connections = connections_after n.connections conn m;
          lives =
              lives_after (n.place + 1) n.lives conn m;
        }) n).connections
        ≡ length n.connections + 0
    told m true = same m
    told m false = omega arith

    shut : (b : Bool)
        → length (cond b (record n {
          connections = closed (n.place + 1) conn n.connections;
          lives =
              map (closed_for (n.place + 1) conn) n.lives;
        }) n).connections
        ≡ length n.connections + 0
    shut true = length-map n.connections _ ∙ omega arith
    shut false = omega arith

    by : (d : Deed) → length (after_deed n worker conn d).connections ≡ length n.connections + opens d
    by (Opened name) = length-append n.connections (opened worker conn name ∷ [])
    by NotOpened = omega arith
    by (Said m) = told m (is_traced m (cause_of n worker conn m))
    by (Drained batch) = omega arith
    by Closed = shut (is_open_for n.connections worker conn)
    by Permitted = omega arith
    by NoPermit = omega arith
    by Shut = omega arith

pub connections-few : (start : Start) (past : List Entry) → Legal start past
    → length (now_of start past).connections ≤ last_connection
connections-few start [] legal = omega arith
connections-few start (e ∷ past) legal =
    by (connections-few start past legal.2) e.deed legal.0
    (connections-length (now_of start past) e.worker e.conn e.deed)
  where
    by : length (now_of start past).connections ≤ last_connection → (d : Deed)
        → IsLawful start past e.worker e.conn e.now d
        → length (after_deed (now_of start past) e.worker e.conn d).connections
        ≡ length (now_of start past).connections + opens d
        → length (after_deed (now_of start past) e.worker e.conn d).connections ≤ last_connection
    by few (Opened name) lawful same =
        let unspent : leb last_connection (length (now_of start past).connections) ≡ false = lawful.0 in
        grind (arith, nat_tests)
    by few NotOpened lawful same = omega arith
    by few (Said m) lawful same = omega arith
    by few (Drained batch) lawful same = omega arith
    by few Closed lawful same = omega arith
    by few Permitted lawful same = omega arith
    by few NoPermit lawful same = omega arith
    by few Shut lawful same = omega arith

-- ---- lives by their rows

rising-by-rows : (lives : List Life) → RowsRise (map row_of_life lives) → AreRising lives
rising-by-rows [] h = tt
rising-by-rows (l ∷ lives) h = (above l.id lives h.0, rising-by-rows lives h.1)
  where
    above : (n : ℕ) (lives : List Life) → RowsAbove n (map row_of_life lives) → LivesAbove n lives
    above n [] h = tt
    above n (l ∷ lives) h = (h.0, above n lives h.1)

rows-of-lives : (start : Start) (past : List Entry) (rows : List Row)
    → map row_of_life (map (life_of start past) rows) ≡ rows
rows-of-lives start past [] = refl
rows-of-lives start past (r ∷ rows) = ap (λ rows. r ∷ rows) (rows-of-lives start past rows)

-- the rows of all lives
pub all-rows : (start : Start) (past : List Entry)
    → map row_of_life (all_lives start past) ≡ map row_of_life (now_of start past).lives
    ++ meta_rows (now_of start past)
all-rows start past =
    map-append row_of_life (now_of start past).lives (meta_lives start past)
    ∙ ap (λ rows. map row_of_life (now_of start past).lives ++ rows)
    (ap (map row_of_life) (meta-lives start past) ∙ rows-of-lives start past (meta_rows (now_of start past)))

no-client : (k low : ℕ) (lives : List Life) → first_meta ≤ k
    → RowsWithin low first_meta (map row_of_life lives) → life_at k lives ≡ None
no-client k low [] le h = refl
no-client k low (l ∷ lives) le h =
    let less = h.1 in
    let other : (l.id == k) ≡ false = grind (arith, nat_tests) in
    ap (λ b. cond b (Some l) (life_at k lives)) other ∙ no-client k (suc l.id) lives le h.2

no-client-row : (k low : ℕ) (lives : List Life) → first_meta ≤ k
    → RowsWithin low first_meta (map row_of_life lives)
    → has_row k (map row_of_life lives) ≡ false
no-client-row k low [] le h = refl
no-client-row k low (l ∷ lives) le h =
    let less = h.1 in
    let other : (l.id == k) ≡ false = grind (arith, nat_tests) in
    ap (λ b. b || has_row k (map row_of_life lives)) other ∙ no-client-row k (suc l.id) lives le h.2

none-below : (k low high : ℕ) (rows : List Row) → k < low → RowsWithin low high rows → row_at k rows ≡ None
none-below k low high [] less h = refl
none-below k low high (r ∷ rows) less h =
    let from = h.0 in
    let other : (r.id == k) ≡ false = grind (arith, nat_tests) in
    ap (λ b. cond b (Some r) (row_at k rows)) other ∙ none-below k (suc r.id) high rows (omega arith) h.2

none-has : (k : ℕ) (rows : List Row) → row_at k rows ≡ None → has_row k rows ≡ false
none-has k [] e = refl
none-has k (r ∷ rows) e = by (r.id == k) (λ f. none-has k rows f) e
  where
    by : (b : Bool) → (row_at k rows ≡ None → has_row k rows ≡ false) → cond b (Some r) (row_at k rows) ≡ None
        → (b || has_row k rows) ≡ false
    by true more f = absurd (none-some r (sym f))
    by false more f = more f

has-append : (k : ℕ) (xs ys : List Row) → has_row k xs ≡ false → has_row k ys ≡ false → has_row k (xs ++ ys)
    ≡ false
has-append k [] ys e f = f
has-append k (x ∷ xs) ys e f = by (x.id == k) (λ g. has-append k xs ys g f) e
  where
    by : (b : Bool) → (has_row k xs ≡ false → has_row k (xs ++ ys) ≡ false) → (b || has_row k xs) ≡ false
        → (b || has_row k (xs ++ ys)) ≡ false
    by true more g = absurd (cc)
    by false more g = more g

-- ---- in every history

-- not more topics were saved than may have an id
abbrev pub FewSaved : Start → Type 0
FewSaved start = length start.saved ≤ last_id

pub is-numbered : (start : Start) (past : List Entry) → FewSaved start → Legal start past
    → IsNumbered start past
is-numbered start past few legal =
    record {
      lives_numbered = lives-numbered start past;
      lives_few = lives-few start past few;
      connections_numbered = connections-numbered start past legal;
      connections_few = connections-few start past legal;
    }

module _ (start : Start) (past : List Entry) (numbered : IsNumbered start past) where
  abbrev ts : List Row
  ts = map row_of_life (now_of start past).lives

  abbrev cs : List Row
  cs = map row_of_conn (now_of start past).connections

  metas-within : RowsWithin first_meta 1610612740 (meta_rows (now_of start past))
  metas-within =
      rows-within ts cs (lives-numbered-rows 1 (now_of start past).lives numbered.lives_numbered)
      (conns-numbered-rows 1 (now_of start past).connections numbered.connections_numbered)
      (subst (λ k. k ≤ last_id) (sym (length-map (now_of start past).lives row_of_life)) numbered.lives_few)
      (subst (λ k. k ≤ last_connection) (sym (length-map (now_of start past).connections row_of_conn))
      numbered.connections_few)

  -- the ids of meta topics rise
  pub meta-rows-rise : RowsRise (meta_rows (now_of start past))
  meta-rows-rise = rows-rise-within first_meta 1610612740 (meta_rows (now_of start past)) metas-within

  lives-within : RowsWithin 1 first_meta (map row_of_life (now_of start past).lives)
  lives-within =
      client-within 1 first_meta ts (lives-numbered-rows 1 (now_of start past).lives numbered.lives_numbered)
      (let few-lives = numbered.lives_few in let same = length-map (now_of start past).lives row_of_life
      in omega arith)

  -- the ids of all lives rise
  pub lives-rise : AreRising (all_lives start past)
  lives-rise =
      rising-by-rows (all_lives start past)
      (subst (λ rows. RowsRise rows) (sym (all-rows start past))
      (rows-rise-within 1 1610612740 (ts ++ meta_rows (now_of start past))
      (within-append 1 first_meta 1610612740 ts (meta_rows (now_of start past)) (omega arith) (omega arith)
      lives-within metas-within)))

  -- the life at an id of a meta topic
  pub meta-life : (k : ℕ) → first_meta ≤ k
      → life_at k (all_lives start past)
      ≡ option_map (life_of start past) (row_at k (meta_rows (now_of start past)))
  meta-life k le =
      find-append (λ l. l.id == k) (now_of start past).lives (meta_lives start past)
      ∙ ap (λ o. option_or o (life_at k (meta_lives start past)))
      (no-client k 1 (now_of start past).lives le lives-within)
      ∙ meta-life-at start past k

  -- an id of a meta topic that none has is one that nothing has
  pub unknown-row : (k : ℕ) → first_meta ≤ k → row_at k (meta_rows (now_of start past)) ≡ None
      → has_row k (rows_of (now_of start past)) ≡ false
  unknown-row k le none =
      has-append k ts (meta_rows (now_of start past))
      (no-client-row k 1 (now_of start past).lives le lives-within)
      (none-has k (meta_rows (now_of start past)) none)

  -- below the first of their ids there are none
  pub meta-none : (k : ℕ) → k < first_meta → row_at k (meta_rows (now_of start past)) ≡ None
  meta-none k less = none-below k first_meta 1610612740 (meta_rows (now_of start past)) less metas-within
