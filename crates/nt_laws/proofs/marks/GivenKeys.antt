-- The keys that were given stand at places of the past, and name lives of the history.
use Rattle.std.proofs.Common.{◌≡◌, ◌<◌, ◌≤◌, ◌+◌, ◌==◌, ◌&&◌, ◌||◌, not, ℕ, suc, Bool, true, false, cond, leb, ltb}
use Rattle.std.proofs.Common.{max, List, [], ◌∷◌, Option, Some, None, map, filter, reverse, length, codes, refl, sym}
use Rattle.std.proofs.Common.{◌∙◌, ap, subst, arith}
use Rattle.std.specs.Prelude.{is_none}
use Rattle.std.specs.List.{AllByRecursion, list_any}
use Rattle.std.proofs.lemmas.Bool.Decides.{nat_tests}
use Rattle.nt_topics.specs.Properties.{is_cached}
use Rattle.nt_subs.specs.declared.wish.Wanted.{Wanted}
use Rattle.nt_subs.specs.declared.wish.Wanted.TheVariants.{No, TopicOnly, Newest, All}
use Rattle.nt_rules.specs.topics.Puts.{Put}
use Rattle.nt_rules.specs.outbox.Keys.{Key, Of_publish, Of_topic, is_kind, is_in, end_key, publish_key, setting_key}
use Rattle.nt_rules.specs.outbox.Keys.{topic_key, value_key, is_value, announces, next_value}
use Rattle.nt_rules.specs.outbox.Marks.{is_empty, is_wish, is_valued, option_items}
use Rattle.nt_rules.specs.declared.act.Deed.{Deed}
use Rattle.nt_rules.specs.declared.act.Deed.TheVariants.{Opened, NotOpened, Said, Drained, Closed, Permitted, NoPermit}
use Rattle.nt_rules.specs.declared.act.Deed.TheVariants.{Shut}
use Rattle.nt_rules.specs.declared.act.Entry.{Entry}
use Rattle.nt_rules.specs.history.Lives.{Life, taken_since_turn}
use Rattle.nt_rules.specs.declared.start.Start.{Start}
use Rattle.nt_rules.specs.history.Now.{Connection, is_there, is_open_for, now_of}
use Rattle.nt_rules.specs.history.Metas.{same_bytes, meta_at, metas_now, meta_place, meta_lives, all_lives}
use Rattle.nt_rules.specs.history.Owed.{Account, is_announced, owed_end_at, owed_publishes, owed_settings, owed_cached}
use Rattle.nt_rules.specs.history.Owed.{owed_uncached, newest_for, newest_from, place_by, end_keys, reply_keys}
use Rattle.nt_rules.specs.history.Owed.{topic_keys, value_keys, newest_keys, keys_owed, wish_for, wish_on, since_for}
use Rattle.nt_rules.specs.history.Owed.{owed_by, given_after, account}
use Rattle.nt_rules.specs.history.Answer.{Legal}
use Rattle.nt_laws.proofs.histories.Facts.{place-is, AllBefore, IsRising, IsOverBy, IsPlaced, ArePlaced, lives-placed}
use Rattle.nt_laws.proofs.histories.Facts.{before-since, AreOverBy, connections-over}
use Rattle.nt_laws.proofs.topics.ItemFacts.{each-more, each-both, each-append, each-filter, each-map, each-take}
use Rattle.nt_laws.proofs.topics.ItemFacts.{each-reverse}
use Rattle.nt_laws.proofs.marks.OwnKeys.{OwnKeys, each-owed}
use Rattle.nt_laws.proofs.metas.MetaRows.{Row, row_of_life, row_of_conn, raised, server_rows, topic_pubs, topic_subs}
use Rattle.nt_laws.proofs.metas.MetaRows.{client_pubs, client_subs, rows_by, meta_rows, life_of, meta-lives}
use Rattle.nt_laws.proofs.metas.MetaGrowth.{has_row, has-grown, rows_of, rows-grow}
use Rattle.nt_laws.proofs.metas.MetaOrder.{all-rows}

-- ---- places of all lives

-- the bytes of a meta topic changed last at a place of the past
pub meta-place-past : (start : Start) (past : List Entry) (k : ℕ) → meta_place start past k ≤ length past
meta-place-past start [] k = omega arith
meta-place-past start (e ∷ past) k =
    by (same_bytes (meta_at k (metas_now (now_of start past)))
    (meta_at k (metas_now (now_of start (e ∷ past))))) (meta-place-past start past k)
  where
    by : (b : Bool) → meta_place start past k ≤ length past
        → cond b (meta_place start past k) (length past + 1) ≤ length (e ∷ past)
    by true low = omega arith
    by false low = omega arith

abbrev IsOver : ℕ → Row → Type 0
IsOver n r = IsOverBy n r.over

overs-of : (n base : ℕ) (prefix : List ℕ) (rows : List Row) → AllByRecursion (IsOver n) rows
    → AllByRecursion (IsOver n) (map (raised base prefix) rows)
overs-of n base prefix [] h = tt
overs-of n base prefix (r ∷ rows) h = (h.0, overs-of n base prefix rows h.1)

overs-by : (n : ℕ) (ts cs : List Row) → AllByRecursion (IsOver n) ts → AllByRecursion (IsOver n) cs
    → AllByRecursion (IsOver n) (rows_by ts cs)
overs-by n ts cs h k =
    each-append (IsOver n) (topic_pubs ts) _ (overs-of n _ (codes "$pub$") ts h)
    (each-append (IsOver n) (topic_subs ts) _ (overs-of n _ (codes "$sub$") ts h)
    (each-append (IsOver n) (client_pubs cs) _ (overs-of n _ (codes "$client_pub$") cs k)
    (each-append (IsOver n) (client_subs cs) server_rows (overs-of n _ (codes "$client_sub$") cs k)
    (tt, (tt, (tt, tt))))))

metas-placed : (start : Start) (past : List Entry) (n : ℕ) → length past ≤ n → (rows : List Row)
    → AllByRecursion (IsOver n) rows
    → AllByRecursion (IsPlaced n) (map (life_of start past) rows)
metas-placed start past n le [] h = tt
metas-placed start past n le (r ∷ rows) h =
    let low = meta-place-past start past r.id in (
      record {
        puts_before = (omega arith, tt);
        puts_fall = (tt, tt);
        puts_after = (λ real. absurd (omega arith), tt);
        turn_by = omega arith;
        taken_earlier = tt;
        taken_fall = tt;
        publishings_rise = tt;
        settings_rise = tt;
        is_over_by = h.0;
      },
      metas-placed start past n le rows h.1,
    )

overs-of-lives : (n : ℕ) (lives : List Life) → ArePlaced n lives
    → AllByRecursion (IsOver n) (map row_of_life lives)
overs-of-lives n [] h = tt
overs-of-lives n (l ∷ lives) h = (h.0.is_over_by, overs-of-lives n lives h.1)

overs-of-conns : (n : ℕ) (cs : List Connection) → AreOverBy n cs
    → AllByRecursion (IsOver n) (map row_of_conn cs)
overs-of-conns n [] h = tt
overs-of-conns n (c ∷ cs) h = (h.0, overs-of-conns n cs h.1)

each-placed : (n : ℕ) (lives : List Life) → ArePlaced n lives → AllByRecursion (IsPlaced n) lives
each-placed n [] h = tt
each-placed n (l ∷ lives) h = (h.0, each-placed n lives h.1)

-- all places of all lives are of the past
pub all-placed : (start : Start) (past : List Entry) → Legal start past
    → AllByRecursion (IsPlaced (length past)) (all_lives start past)
all-placed start past legal =
    let n = now_of start past in
    let lives : ArePlaced (length past) (now_of start past).lives =
    subst (λ k. ArePlaced k (now_of start past).lives) (place-is start past) (lives-placed start past)
    in
    let conns : AreOverBy (length past) (now_of start past).connections =
    subst (λ k. AreOverBy k (now_of start past).connections) (place-is start past)
    (connections-over start past legal)
    in
    let rows = overs-by (length past) (map row_of_life n.lives) (map row_of_conn n.connections)
    (overs-of-lives (length past) n.lives lives) (overs-of-conns (length past) n.connections conns) in
    each-append (IsPlaced (length past)) (now_of start past).lives (meta_lives start past)
    (each-placed (length past) (now_of start past).lives lives)
    (subst (λ ls. AllByRecursion (IsPlaced (length past)) ls) (sym (meta-lives start past))
    (metas-placed start past (length past) (omega arith) (meta_rows (now_of start past)) rows))

-- ---- the keys of a life

-- a key of the past: its place, and that its topic has a life
pub record IsPast (n : ℕ) (rows : List Row) (k : Key) : Type 0 where
  pub not_later : k.place ≤ n
  pub has_lived : has_row k.topic rows ≡ true

each-before : (n : ℕ) (ps : List Put) → AllBefore (n + 1) ps → AllByRecursion (λ p. p.place ≤ n) ps
each-before n [] h = tt
each-before n (p ∷ ps) h = let less = h.0 in (omega arith, each-before n ps h.1)

each-upto : {X : Type 0} (place : X → ℕ) (from n : ℕ) (xs : List X) → IsRising place from n xs
    → AllByRecursion (λ x. place x ≤ n) xs
each-upto place from n [] h = tt
each-upto place from n (x ∷ xs) h = (h.1, each-upto place (suc (place x)) n xs h.2)

module _ (n : ℕ) (rows : List Row) (a : Account) (conn : ℕ) (w : Wanted) (since : ℕ) (l : Life)
    (placed : IsPlaced n l) (lived : has_row l.id rows ≡ true) where
  ends-past : AllByRecursion (IsPast n rows) (end_keys a l)
  ends-past = by (is_announced a l.id) l.over placed.is_over_by
    where
      given : (place : ℕ) → place ≤ n → (b : Bool)
          → AllByRecursion (IsPast n rows) (map (end_key l.id) (option_items (cond b None (Some place))))
      given place low true = tt
      given place low false = (record { not_later = low; has_lived = lived }, tt)

      by : (b : Bool) (over : Option ℕ) → IsOverBy n over
          → AllByRecursion (IsPast n rows)
          (map (end_key l.id) (option_items (cond b (owed_end_at a l.id over) None)))
      by true None h = tt
      by true (Some place) h = given place h.1 (is_in a.given (end_key l.id place))
      by false over h = tt

  replies-past : AllByRecursion (IsPast n rows) (reply_keys a conn l)
  replies-past =
      each-append (IsPast n rows) (map (λ p. publish_key l.id p.place) (owed_publishes a conn l))
      (map (λ s. setting_key l.id s.place) (owed_settings a l))
      (each-map (IsPast n rows) (λ p. publish_key l.id p.place) (owed_publishes a conn l)
      (each-more (λ p. p.place ≤ n) (λ p. IsPast n rows (publish_key l.id p.place))
      (λ p low. record { not_later = low; has_lived = lived }) (owed_publishes a conn l)
      (each-filter (λ p. p.place ≤ n) (λ p. not (is_in a.given (publish_key l.id p.place)))
      (filter (λ p. p.conn == conn) l.publishings)
      (each-filter (λ p. p.place ≤ n) (λ p. p.conn == conn) l.publishings
      (each-upto (λ p. p.place) 1 n l.publishings placed.publishings_rise)))))
      (each-map (IsPast n rows) (λ s. setting_key l.id s.place) (owed_settings a l)
      (each-more (λ s. s.place ≤ n) (λ s. IsPast n rows (setting_key l.id s.place))
      (λ s low. record { not_later = low; has_lived = lived }) (owed_settings a l)
      (each-filter (λ s. s.place ≤ n) (λ s. not (is_in a.given (setting_key l.id s.place)))
      (filter (λ s. list_any (λ place. place == s.place) a.told_settings) l.settings)
      (each-filter (λ s. s.place ≤ n) (λ s. list_any (λ place. place == s.place) a.told_settings) l.settings
      (each-upto (λ s. s.place) 1 n l.settings placed.settings_rise)))))

  news-past : AllByRecursion (IsPast n rows) (topic_keys a conn w l)
  news-past = by (is_wish w && not (is_announced a l.id) && is_empty (owed_publishes a conn l))
    where
      by : (b : Bool) → AllByRecursion (IsPast n rows) (cond b (topic_key l.id ∷ []) [])
      by true = (record { not_later = omega arith; has_lived = lived }, tt)
      by false = tt

  puts-past : AllByRecursion (λ p. p.place ≤ n) (taken_since_turn l)
  puts-past = each-before n (taken_since_turn l) (before-since (n + 1) l placed.puts_before)

  values-past : AllByRecursion (IsPast n rows) (value_keys a w since l)
  values-past = by (is_cached l.props)
    where
      passed : (Put → Bool) → List Put
      passed test = reverse (filter test (taken_since_turn l))

      keys : List Put → List Key
      keys ps = map (λ p. value_key l.id p.place) ps

      from : (test : Put → Bool) → AllByRecursion (IsPast n rows) (keys (passed test))
      from test =
          each-map (IsPast n rows) (λ p. value_key l.id p.place) (passed test)
          (each-more (λ p. p.place ≤ n) (λ p. IsPast n rows (value_key l.id p.place))
          (λ p low. record { not_later = low; has_lived = lived }) (passed test)
          (each-reverse (λ p. p.place ≤ n) (filter test (taken_since_turn l))
          (each-filter (λ p. p.place ≤ n) test (taken_since_turn l) puts-past)))

      cached : (w : Wanted) → AllByRecursion (IsPast n rows) (keys (owed_cached a w since l))
      cached No = tt
      cached TopicOnly = tt
      cached Newest = tt
      cached All =
          from (λ p. leb (next_value a.given l.id) p.place && leb (place_by since (taken_since_turn l)) p.place)

      uncached : (b : Bool) → AllByRecursion (IsPast n rows) (keys (cond b (owed_uncached a All since l) []))
      uncached true = from (λ p. leb (next_value a.given l.id) p.place && ltb since p.place)
      uncached false = tt

      by : (b : Bool)
          → AllByRecursion (IsPast n rows) (keys (cond b (owed_cached a w since l) (owed_uncached a w since l)))
      by true = cached w
      by false = uncached (is_valued w)

  newest-past : AllByRecursion (IsPast n rows) (newest_keys a w l)
  newest-past = by (is_cached l.props)
    where
      from : (ps : List Put) → AllByRecursion (λ p. p.place ≤ n) ps
          → AllByRecursion (IsPast n rows)
          (map (value_key l.id) (option_items (newest_from (next_value a.given l.id) ps)))
      from [] h = tt
      from (p ∷ ps) h = one (leb (next_value a.given l.id) p.place)
        where
          one : (b : Bool) → AllByRecursion (IsPast n rows)
              (map (value_key l.id) (option_items (cond b (Some p.place) None)))
          one true = (record { not_later = h.0; has_lived = lived }, tt)
          one false = tt

      cached : (w : Wanted)
          → AllByRecursion (IsPast n rows) (map (value_key l.id) (option_items (newest_for a w l)))
      cached No = tt
      cached TopicOnly = tt
      cached All = tt
      cached Newest = from (taken_since_turn l) puts-past

      by : (b : Bool)
          → AllByRecursion (IsPast n rows) (map (value_key l.id) (option_items (cond b (newest_for a w l) None)))
      by true = cached w
      by false = tt

  own-past : OwnKeys (IsPast n rows) a conn w since l
  own-past =
      record {
        ends = ends-past;
        replies = λ e. replies-past;
        news = λ e. news-past;
        values =
            λ e. values-past;
        newest = λ e. newest-past;
      }

-- ---- what is owed and given

each-known : (lives : List Life) → AllByRecursion (λ l. has_row l.id (map row_of_life lives) ≡ true) lives
each-known [] = tt
each-known (l ∷ lives) =
    let itself : (l.id == l.id) ≡ true = grind (arith, nat_tests) in (
      ap (λ b. b || has_row l.id (map row_of_life lives)) itself,
      each-more (λ m. has_row m.id (map row_of_life lives) ≡ true)
          (λ m. has_row m.id (map row_of_life (l ∷ lives)) ≡ true)
          (λ m h. later (l.id == m.id) (has_row m.id (map row_of_life lives)) h) lives (each-known lives),
    )
  where
    later : (b c : Bool) → c ≡ true → (b || c) ≡ true
    later true c h = refl
    later false c h = h

abbrev pub PastOf : Start → List Entry → Key → Type 0
PastOf start past k = IsPast (length past) (rows_of (now_of start past)) k

owed-past : (a : Account) (start : Start) (past : List Entry) (conn : ℕ) → Legal start past
    → AllByRecursion (PastOf start past) (owed_by a start past conn)
owed-past a start past conn legal = by (is_there (now_of start past).connections conn && is_none a.fell)
  where
    wish : Life → Wanted
    wish l = wish_on (wish_for start past conn) l

    since : Life → ℕ
    since = since_for start past conn

    known : AllByRecursion (λ l. has_row l.id (rows_of (now_of start past)) ≡ true) (all_lives start past)
    known =
        subst (λ rows. AllByRecursion (λ l. has_row l.id rows ≡ true) (all_lives start past))
        (all-rows start past)
        (each-known (all_lives start past))

    keys : AllByRecursion (PastOf start past) (keys_owed a conn wish since (all_lives start past))
    keys =
        each-owed (PastOf start past) a conn wish since (all_lives start past)
        (each-both (IsPlaced (length past)) (λ l. has_row l.id (rows_of (now_of start past)) ≡ true)
        (λ l. OwnKeys (PastOf start past) a conn (wish l) (since l) l)
        (λ l placed lived. own-past (length past) (rows_of (now_of start past)) a conn (wish l) (since l) l
        placed lived)
        (all_lives start past) (all-placed start past legal) known)

    by : (b : Bool) → AllByRecursion (PastOf start past)
        (cond b (keys_owed a conn wish since (all_lives start past)) [])
    by true = keys
    by false = tt

-- the keys that were given are of the past
pub given-past : (start : Start) (past : List Entry) (conn : ℕ) → Legal start past
    → AllByRecursion (PastOf start past) (account start past conn).given
given-past start [] conn legal = tt
given-past start (e ∷ past) conn legal =
    by (given-past start past conn legal.2) e.deed
    ((e.conn == conn) && is_open_for (now_of start past).connections e.worker conn)
  where
    before : Account
    before = account start past conn

    more : (ks : List Key) → AllByRecursion (PastOf start past) ks
        → AllByRecursion (PastOf start (e ∷ past)) ks
    more ks h =
        each-more (PastOf start past) (PastOf start (e ∷ past))
        (λ k p. let low = p.not_later in
        record {
          not_later = omega arith;
          has_lived =
              has-grown ((now_of start past).place + 1) k.topic (rows_of (now_of start past)) _
              (rows-grow (now_of start past) e) p.has_lived;
        })
        ks h

    by : AllByRecursion (PastOf start past) before.given → (d : Deed) (own : Bool)
        → AllByRecursion (PastOf start (e ∷ past))
        (given_after d own before.given (owed_by before start past conn))
    by h (Opened name) own = more before.given h
    by h NotOpened own = more before.given h
    by h (Said m) own = more before.given h
    by h (Drained batch) true =
        each-append (PastOf start (e ∷ past)) before.given _ (more before.given h)
        (each-take (PastOf start (e ∷ past)) (length batch.texts + length batch.values)
        (owed_by before start past conn)
        (more (owed_by before start past conn) (owed-past before start past conn legal.2)))
    by h (Drained batch) false = more before.given h
    by h Closed own = more before.given h
    by h Permitted own = more before.given h
    by h NoPermit own = more before.given h
    by h Shut own = more before.given h

-- ---- what that says

-- a key of the present isn't given
pub not-given : (n : ℕ) (rows : List Row) (given : List Key) (k : Key) → AllByRecursion (IsPast n rows) given
    → n < k.place
    → is_in given k ≡ false
not-given n rows [] k h less = refl
not-given n rows (g ∷ given) k h less =
    let low = h.0.not_later in
    let other : (k.place == g.place) ≡ false = grind (arith, nat_tests) in
    ap (λ b. b || is_in given k) (ap (λ b. is_kind k.kind g.kind && (k.topic == g.topic) && b) other
    ∙ none (is_kind k.kind g.kind && (k.topic == g.topic)))
    ∙ not-given n rows given k h.1 less
  where
    none : (b : Bool) → (b && false) ≡ false
    none true = refl
    none false = refl

-- the next value to be given may stand at the present
pub next-past : (n id : ℕ) (rows : List Row) (given : List Key) → AllByRecursion (IsPast n rows) given
    → next_value given id ≤ n + 1
next-past n id rows [] h = omega arith
next-past n id rows (g ∷ given) h = by (is_value g && (g.topic == id)) (next-past n id rows given h.1)
  where
    by : (b : Bool) → next_value given id ≤ n + 1
        → cond b (max (g.place + 1) (next_value given id)) (next_value given id) ≤ n + 1
    by true more = let low = h.0.not_later in omega arith
    by false more = more

-- of what had no life nothing was given
other-topic : (n id : ℕ) (rows : List Row) (g : Key) → IsPast n rows g → has_row id rows ≡ false
    → (g.topic == id) ≡ false
other-topic n id rows g h none = by (g.topic == id) refl
  where
    by : (b : Bool) → (g.topic == id) ≡ b → b ≡ false
    by true e =
        let same : g.topic ≡ id = grind (arith, nat_tests) in
        let both : true ≡ false = sym h.has_lived ∙ ap (λ k. has_row k rows) same ∙ none in
        absurd (cc)
    by false e = refl

pub unknown-announced : (n id : ℕ) (rows : List Row) (given : List Key) → AllByRecursion (IsPast n rows) given
    → has_row id rows ≡ false
    → list_any (announces id) given ≡ false
unknown-announced n id rows [] h none = refl
unknown-announced n id rows (g ∷ given) h none =
    ap (λ b. b || list_any (announces id) given)
    (ap (λ b. (is_kind g.kind Of_publish || is_kind g.kind Of_topic) && b)
    (other-topic n id rows g h.0 none)
    ∙ none-left (is_kind g.kind Of_publish || is_kind g.kind Of_topic))
    ∙ unknown-announced n id rows given h.1 none
  where
    none-left : (b : Bool) → (b && false) ≡ false
    none-left true = refl
    none-left false = refl

pub unknown-next : (n id : ℕ) (rows : List Row) (given : List Key) → AllByRecursion (IsPast n rows) given
    → has_row id rows ≡ false
    → next_value given id ≡ 0
unknown-next n id rows [] h none = refl
unknown-next n id rows (g ∷ given) h none =
    ap (λ b. cond (is_value g && b) (max (g.place + 1) (next_value given id)) (next_value given id))
    (other-topic n id rows g h.0 none)
    ∙ by (is_value g) ∙ unknown-next n id rows given h.1 none
  where
    by : (b : Bool) → cond (b && false) (max (g.place + 1) (next_value given id)) (next_value given id)
        ≡ next_value given id
    by true = refl
    by false = refl
