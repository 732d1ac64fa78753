-- The messages that an outbox makes of keys, by what a server keeps, are those that the history says.
use Rattle.std.proofs.Common.{◌≡◌, ◌&&◌, ◌==◌, ℕ, ℤ, Bool, true, false, cond, not, leb, ltb, pos, List, [], ◌∷◌, ◌++◌}
use Rattle.std.proofs.Common.{Option, Some, None, option_map, option_and_then, unwrap_or, is_some, map, filter, reverse}
use Rattle.std.proofs.Common.{find, codes, refl, sym, ◌∙◌, ap, subst, arith, ◌⊎◌, ⊎_elim}
use Rattle.std.specs.List.{AllByRecursion, list_any}
use Rattle.std.proofs.lemmas.Bool.Decides.{nat_tests}
use Rattle.serde_json.specs.Data.{object, no_members}
use Rattle.nt_values.specs.declared.value.Value.TheVariants.{Bytes}
use Rattle.nt_topics.specs.Properties.{is_cached}
use Rattle.nt_frames.specs.declared.message.ValueMsg.{ValueMsg}
use Rattle.nt_control.specs.declared.message.ServerMsg.{ServerMsg}
use Rattle.nt_control.specs.declared.message.ServerMsg.TheVariants.{Announce, Unannounce}
use Rattle.nt_subs.specs.declared.wish.Wanted.{Wanted}
use Rattle.nt_subs.specs.declared.wish.Wanted.TheVariants.{No, TopicOnly, Newest, All}
use Rattle.nt_rules.specs.declared.meta.MetaNow.{MetaNow}
use Rattle.nt_rules.specs.declared.topic.Topic.{Topic}
use Rattle.nt_rules.specs.topics.Puts.{Put, taken, newest, timed}
use Rattle.nt_rules.specs.topics.Topics.{is_named}
use Rattle.nt_rules.specs.outbox.Marks.{Mark}
use Rattle.nt_rules.specs.declared.batch.Batch.{Batch}
use Rattle.nt_rules.specs.declared.waiting.Placed.{Placed}
use Rattle.nt_rules.specs.outbox.Keys.{Kind, Of_end, Of_publish, Of_setting, Of_topic, Of_value, Key, is_kind, is_in}
use Rattle.nt_rules.specs.outbox.Keys.{next_value, publish_key, setting_key, value_key, is_value}
use Rattle.nt_rules.specs.outbox.Marks.{is_blank, is_meta, is_valued, option_items}
use Rattle.nt_rules.specs.outbox.Messages as outbox
use Rattle.nt_rules.specs.outbox.Messages.{Living, batch_of, mark_at, announced, held_value, placed_value, value_by}
use Rattle.nt_rules.specs.outbox.Messages.{text_by, text_of, value_of}
use Rattle.nt_rules.specs.history.Lives.{Life, Publishing, Setting, is_living, taken_since_turn, topic_of}
use Rattle.nt_rules.specs.history.Metas.{meta_at}
use Rattle.nt_rules.specs.history.Owed as history
use Rattle.nt_rules.specs.history.Owed.{Account, owed_publishes, owed_settings, owed_cached, owed_uncached}
use Rattle.nt_rules.specs.history.Owed.{owed_values, newest_for, newest_from, place_by, end_keys, reply_keys}
use Rattle.nt_rules.specs.history.Owed.{topic_keys, value_keys, newest_keys, keys_owed, life_at, messages, put_value}
use Rattle.nt_rules.specs.history.Marks.{waiting_publish, waiting_setting, waiting_put, topic_mark, meta_mark}
use Rattle.nt_rules.specs.history.Marks.{end_mark, mark_of, marks_by}
use Rattle.nt_laws.proofs.histories.Facts.{IsPlaced, IsRising}
use Rattle.nt_laws.proofs.topics.TakenPuts.{since-head}
use Rattle.nt_laws.proofs.topics.ItemFacts.{each-both, each-append, each-filter, each-map, each-reverse}
use Rattle.nt_laws.proofs.topics.FoundItems.{place-found, rising-filter, find-map, each-since, since-rise, put-found}
use Rattle.nt_laws.proofs.marks.KeysOwed.{unplaced, IsOrdinary, mark-id, mark-name, no-values, no-publishes}
use Rattle.nt_laws.proofs.marks.KeysOwed.{no-settings}
use Rattle.nt_laws.proofs.marks.OwnKeys.{OwnKeys, each-owed, ends-have, news-have, blank-none}
use Rattle.nt_laws.proofs.marks.HandedMarks.{value-unplaced, filter-reverse}

-- ---- what is known of each life

-- the life of a client's topic: its places, and its topic by its name
pub record IsClient (n : ℕ) (ts : List Topic) (l : Life) : Type 0 where
  pub is_client : is_meta l.id ≡ false
  pub placed : IsPlaced n l
  pub named : is_living l ≡ true → find (is_named l.name) ts ≡ Some (topic_of l)

-- the life of a meta topic, which is among those that live
pub record IsMeta (ms : List MetaNow) (l : Life) : Type 0 where
  pub is_meta_id : is_meta l.id ≡ true
  pub typ_is : l.typ ≡ codes "msgpack"
  pub props_are : l.props ≡ object no_members
  pub put_place : ℕ
  pub puts_are : l.puts
      ≡ record { place = put_place; time = 0; value = Bytes (unwrap_or (meta_at l.id ms) []) } ∷ []
  pub lives : is_living l ≡ true → is_some (meta_at l.id ms) ≡ true

abbrev pub IsKnown : ℕ → Living → Life → Type 0
IsKnown n living l = IsClient n living.topics l ⊎ IsMeta living.metas l

-- ---- the mark of a life is found

mark-found : (a : Account) (conn : ℕ) (wish : Life → Wanted) (since : Life → ℕ) (lives : List Life) (l : Life)
    → life_at l.id lives ≡ Some l → is_blank (mark_of a conn wish since l) ≡ false
    → mark_at l.id (marks_by a conn wish since lives) ≡ Some (mark_of a conn wish since l)
mark-found a conn wish since [] l e blank = cc
mark-found a conn wish since (k ∷ lives) l e blank =
    by (λ h. mark-found a conn wish since lives l h blank) (k.id == l.id) refl (is_blank m) refl e
  where
    m : Mark
    m = mark_of a conn wish since k

    rest : List Mark
    rest = marks_by a conn wish since lives

    by : (life_at l.id lives ≡ Some l → mark_at l.id rest ≡ Some (mark_of a conn wish since l)) → (b : Bool)
        → (k.id == l.id) ≡ b
        → (c : Bool) → is_blank m ≡ c → cond b (Some k) (life_at l.id lives) ≡ Some l
        → mark_at l.id (cond (not c) (m ∷ rest) rest) ≡ Some (mark_of a conn wish since l)
    by more true f true g e = let same : k ≡ l =
        cc in absurd (let blank' = ap (λ (x : Life). is_blank (mark_of a conn wish since x)) same in cc)
    by more true f false g e =
        let same : k ≡ l = cc in
        let here : (m.id == l.id) ≡ true = ap (λ id. id == l.id) (mark-id a conn wish since k) ∙ f in
        ap (λ b. cond b (Some m) (mark_at l.id rest)) here
        ∙ ap (λ (x : Life). Some (mark_of a conn wish since x)) same
    by more false f true g e = more e
    by more false f false g e =
        let other : (m.id == l.id) ≡ false = ap (λ id. id == l.id) (mark-id a conn wish since k) ∙ f in
        ap (λ b. cond b (Some m) (mark_at l.id rest)) other ∙ more e

-- ---- one key

-- the message of a key, by the marks and by the history
pub record IsSaid (living : Living) (moment conn : ℕ) (marks : List Mark) (lives : List Life)
    (k : Key) : Type 0 where
  pub text_is : is_value k ≡ false
      → text_of living marks (unplaced k) ≡ history.text_of conn k (life_at k.topic lives)
  pub value_is : is_value k ≡ true
      → value_of living moment marks (unplaced k) ≡ history.value_of moment k (life_at k.topic lives)

module _ (living : Living) (moment conn n : ℕ) (a : Account) (wish : Life → Wanted) (since : Life → ℕ)
    (lives : List Life) (l : Life) (here : life_at l.id lives ≡ Some l)
    (found : mark_at l.id (marks_by a conn wish since lives) ≡ Some (mark_of a conn wish since l)) where
  abbrev marks : List Mark
  marks = marks_by a conn wish since lives

  abbrev mark : Mark
  mark = mark_of a conn wish since l

  abbrev topic : Mark
  topic = topic_mark a conn (wish l) (since l) l

  abbrev Said : Key → Type 0
  Said k = IsSaid living moment conn marks lives k

  text-said : (kind : Kind) (place : ℕ) → is_kind kind Of_value ≡ false
      → text_by living mark kind place ≡ history.text_by kind conn l place
      → Said (record { kind = kind; topic = l.id; place = place })
  text-said kind place v same = record {
    text_is = λ e. ap (text_of living marks) whole
        ∙ ap (λ o. unwrap_or (option_map (λ m. text_by living m kind place) o)
        (Unannounce [] (pos l.id))) found
        ∙ same
        ∙ sym (ap (history.text_of conn k) here);
    value_is = λ e. absurd (cc);
  }
    where
      k : Key
      k = record { kind = kind; topic = l.id; place = place }

      whole : unplaced k ≡ k
      whole = ap (λ b. cond (b && is_meta l.id) (record k { place = 0 }) k) v

  value-said : (place kept : ℕ) → unplaced (value_key l.id place) ≡ value_key l.id kept
      → value_by living moment mark kept ≡ put_value moment l.id (find (λ p. p.place == place) l.puts)
      → Said (value_key l.id place)
  value-said place kept represents same = record {
    text_is = λ e. absurd (cc);
    value_is = λ e. ap (value_of living moment marks) represents
        ∙ ap (λ o. unwrap_or (option_map (λ m. value_by living moment m kept) o) (outbox.no_value l.id)) found
        ∙ same
        ∙ sym (ap (history.value_of moment (value_key l.id place)) here);
  }

  -- the end of any life
  ends-said : AllByRecursion Said (end_keys a l)
  ends-said =
      ends-have Said a l (λ place. text-said Of_end place refl
      (ap (λ name. Unannounce name (pos mark.id)) (mark-name a conn wish since l)
      ∙ ap (λ id. Unannounce l.name (pos id)) (mark-id a conn wish since l)))

  -- ---- of a client's topic that goes on

  topic-is : is_living l ≡ true → is_meta l.id ≡ false → mark ≡ topic
  topic-is e f =
      ap (λ b. cond (not b) (end_mark a l) (cond (is_meta l.id) (meta_mark a (wish l) l) topic)) e
      ∙ ap (λ b. cond b (meta_mark a (wish l) l) topic) f

  announced-is : is_living l ≡ true → IsClient n living.topics l → (uid : Option ℤ)
      → announced living topic uid ≡ Announce l.name (pos l.id) l.typ uid l.props
  announced-is e c uid =
      ap (λ b. cond b (outbox.announced_meta topic uid)
      (outbox.announced_topic topic uid (find (is_named l.name) living.topics))) c.is_client
      ∙ ap (λ o. outbox.announced_topic topic uid o) (c.named e)

  publishes-said : is_living l ≡ true → IsClient n living.topics l
      → AllByRecursion (λ p. Said (publish_key l.id p.place)) (owed_publishes a conn l)
  publishes-said e c =
      each-both (λ p. find (λ q. q.place == p.place) l.publishings ≡ Some p)
      (λ p. find (λ q. q.place == p.place) (owed_publishes a conn l) ≡ Some p) _ one
      (owed_publishes a conn l)
      (each-filter _ given_not (filter own l.publishings)
      (each-filter _ own l.publishings
      (place-found (λ p. p.place) 1 n l.publishings c.placed.publishings_rise)))
      (place-found (λ p. p.place) 1 n (owed_publishes a conn l)
      (rising-filter (λ p. p.place) given_not 1 n (filter own l.publishings)
      (rising-filter (λ p. p.place) own 1 n l.publishings c.placed.publishings_rise)))
    where
      own : Publishing → Bool
      own p = p.conn == conn

      given_not : Publishing → Bool
      given_not p = not (is_in a.given (publish_key l.id p.place))

      one : (p : Publishing) → find (λ q. q.place == p.place) l.publishings ≡ Some p
          → find (λ q. q.place == p.place) (owed_publishes a conn l) ≡ Some p
          → Said (publish_key l.id p.place)
      one p all kept =
          text-said Of_publish p.place refl
          (ap (λ m. text_by living m Of_publish p.place) (topic-is e c.is_client)
          ∙ announced-is e c (outbox.uid_at p.place (map waiting_publish (owed_publishes a conn l)))
          ∙ ap (λ o. Announce l.name (pos l.id) l.typ (option_map (λ q. q.uid) o) l.props)
          (find-map (λ q. q.place == p.place) waiting_publish (owed_publishes a conn l)
          ∙ ap (option_map waiting_publish) kept)
          ∙ sym (ap
          (λ o. Announce l.name (pos l.id) l.typ (option_map (λ (q : Publishing). q.uid) o) l.props) all))

  settings-said : is_living l ≡ true → IsClient n living.topics l
      → AllByRecursion (λ s. Said (setting_key l.id s.place)) (owed_settings a l)
  settings-said e c =
      each-both (λ s. find (λ r. r.place == s.place) l.settings ≡ Some s)
      (λ s. find (λ r. r.place == s.place) (owed_settings a l) ≡ Some s) _ one (owed_settings a l)
      (each-filter _ given_not (filter told l.settings)
      (each-filter _ told l.settings (place-found (λ s. s.place) 1 n l.settings c.placed.settings_rise)))
      (place-found (λ s. s.place) 1 n (owed_settings a l)
      (rising-filter (λ s. s.place) given_not 1 n (filter told l.settings)
      (rising-filter (λ s. s.place) told 1 n l.settings c.placed.settings_rise)))
    where
      told : Setting → Bool
      told s = list_any (λ place. place == s.place) a.told_settings

      given_not : Setting → Bool
      given_not s = not (is_in a.given (setting_key l.id s.place))

      one : (s : Setting) → find (λ r. r.place == s.place) l.settings ≡ Some s
          → find (λ r. r.place == s.place) (owed_settings a l) ≡ Some s
          → Said (setting_key l.id s.place)
      one s all kept =
          text-said Of_setting s.place refl
          (ap (λ m. text_by living m Of_setting s.place) (topic-is e c.is_client)
          ∙ ap (λ o. outbox.properties topic o)
          (find-map (λ r. r.place == s.place) (waiting_setting conn) (owed_settings a l)
          ∙ ap (option_map (waiting_setting conn)) kept)
          ∙ sym (ap (λ o. history.properties_text conn l.name o) all))

  news-said : is_living l ≡ true → IsClient n living.topics l
      → AllByRecursion Said (topic_keys a conn (wish l) l)
  news-said e c =
      news-have Said a conn (wish l) l (text-said Of_topic 0 refl
      (ap (λ m. text_by living m Of_topic 0) (topic-is e c.is_client) ∙ announced-is e c None))

  -- ---- values of a client's topic that goes on

  represents : (place : ℕ) → is_meta l.id ≡ false → unplaced (value_key l.id place) ≡ value_key l.id place
  represents place f = ap (λ b. cond b (value_key l.id 0) (value_key l.id place)) f

  value-is : is_living l ≡ true → IsClient n living.topics l → (place : ℕ) (o : Option Placed)
      → find (λ p. p.place == place) (map waiting_put (owed_values a (wish l) (since l) l)) ≡ o
      → value_by living moment mark place ≡ placed_value living topic o
  value-is e c place o kept =
      ap (λ m. value_by living moment m place) (topic-is e c.is_client)
      ∙ ap (λ b. cond b (outbox.meta_value moment l.id (find (λ t. t.id == l.id) living.metas))
      (placed_value living topic (find (λ p. p.place == place) topic.values))) c.is_client
      ∙ ap (λ o. placed_value living topic o) kept

  -- a put of a client's topic tells its time
  put-is : is_meta l.id ≡ false → (place : ℕ) (p : Put) → find (λ q. q.place == place) l.puts ≡ Some p
      → put_value moment l.id (find (λ q. q.place == place) l.puts)
      ≡ record { id = pos l.id; time = p.time; value = p.value }
  put-is f place p all =
      ap (λ o. put_value moment l.id o) all ∙ ap (λ b. told (cond b moment p.time)) f
    where
      told : ℕ → ValueMsg
      told t = record { id = pos l.id; time = t; value = p.value }

  -- each put that was taken since the turn is found by its place
  since-found : IsClient n living.topics l
      → AllByRecursion (λ p. find (λ q. q.place == p.place) l.puts ≡ Some p) (taken_since_turn l)
  since-found c =
      each-since (λ p. find (λ q. q.place == p.place) l.puts ≡ Some p) l (put-found l.puts c.placed.puts_fall)

  values-said : is_living l ≡ true → IsClient n living.topics l
      → AllByRecursion Said (value_keys a (wish l) (since l) l)
  values-said e c =
      each-map Said (λ p. value_key l.id p.place) owes (by (is_cached l.props) refl)
    where
      owes : List Put
      owes = owed_values a (wish l) (since l) l

      Tells : Put → Type 0
      Tells p = Said (value_key l.id p.place)

      one : (p : Put) → find (λ q. q.place == p.place) l.puts ≡ Some p
          → find (λ q. q.place == p.place) owes ≡ Some p
          → Said (value_key l.id p.place)
      one p all kept =
          value-said p.place p.place (represents p.place c.is_client)
          (value-is e c p.place (Some (waiting_put p))
          (find-map (λ q. q.place == p.place) waiting_put owes
          ∙ ap (option_map waiting_put) kept)
          ∙ sym (put-is c.is_client p.place p all))

      passing : List Put
      passing = owed_uncached a (wish l) (since l) l

      none : owes ≡ [] → AllByRecursion Tells owes
      none h = subst (λ ps. AllByRecursion Tells ps) (sym h) tt

      -- of those taken since the turn the ones that pass a test, oldest first
      some : (test : Put → Bool) → owes ≡ reverse (filter test (taken_since_turn l)) → AllByRecursion Tells owes
      some test h =
          each-both (λ p. find (λ q. q.place == p.place) l.puts ≡ Some p)
          (λ p. find (λ q. q.place == p.place) owes ≡ Some p) Tells one owes
          (subst (λ ps. AllByRecursion (λ p. find (λ q. q.place == p.place) l.puts ≡ Some p) ps) (sym h)
          (each-reverse _ (filter test (taken_since_turn l))
          (each-filter _ test (taken_since_turn l) (since-found c))))
          (place-found (λ p. p.place) 0 n owes
          (subst (λ ps. IsRising (λ p. p.place) 0 n ps)
          (filter-reverse test (taken_since_turn l) ∙ sym h)
          (rising-filter (λ p. p.place) test 0 n (reverse (taken_since_turn l))
          (since-rise n l c.placed.puts_before c.placed.puts_fall))))

      cached : (w : Wanted) → owes ≡ owed_cached a w (since l) l → AllByRecursion Tells owes
      cached No h = none h
      cached TopicOnly h = none h
      cached Newest h = none h
      cached All h =
          some
          (λ p. leb (next_value a.given l.id) p.place && leb (place_by (since l) (taken_since_turn l)) p.place) h

      uncached : (b : Bool) → owes ≡ cond b (owed_uncached a All (since l) l) [] → AllByRecursion Tells owes
      uncached true h = some (λ p. leb (next_value a.given l.id) p.place && ltb (since l) p.place) h
      uncached false h = none h

      by : (b : Bool) → is_cached l.props ≡ b → AllByRecursion Tells owes
      by true h = cached (wish l) (ap (λ b. cond b (owed_cached a (wish l) (since l) l) passing) h)
      by false h =
          uncached (is_valued (wish l)) (ap (λ b. cond b (owed_cached a (wish l) (since l) l) passing) h)

  newest-said : is_living l ≡ true → IsClient n living.topics l
      → AllByRecursion Said (newest_keys a (wish l) l)
  newest-said e c = by (is_cached l.props) refl
    where
      keys : Option ℕ → List Key
      keys o = map (value_key l.id) (option_items o)

      one : (p : Put) (ps : List Put) → is_cached l.props ≡ true → wish l ≡ Newest → taken_since_turn l ≡ p ∷ ps
          → Said (value_key l.id p.place)
      one p ps is h t =
          value-said p.place p.place (represents p.place c.is_client)
          (value-is e c p.place None
          (ap (λ w. find (λ q. q.place == p.place) (map waiting_put (owed_values a w (since l) l))) h
          ∙ ap (λ b. find (λ q. q.place == p.place)
          (map waiting_put (cond b [] (owed_uncached a Newest (since l) l)))) is)
          ∙ ap (λ o. held_value l.id (option_and_then (λ (t : Topic). t.value) o)) (c.named e)
          ∙ ap (λ o. held_value l.id (option_map timed o)) (sym (since-head l is) ∙ ap newest t)
          ∙ sym (put-is c.is_client p.place p among))
        where
          among : find (λ q. q.place == p.place) l.puts ≡ Some p
          among =
              (subst (λ qs. AllByRecursion (λ (r : Put). find (λ q. q.place == r.place) l.puts ≡ Some r) qs) t
              (since-found c)).0

      from : (p : Put) (b : Bool) → Said (value_key l.id p.place)
          → AllByRecursion Said (keys (cond b (Some p.place) None))
      from p true s = (s, tt)
      from p false s = tt

      cached : is_cached l.props ≡ true → (w : Wanted) → wish l ≡ w → (ps : List Put) → taken_since_turn l ≡ ps
          → AllByRecursion Said (keys (newest_for a w l))
      cached is No h ps t = tt
      cached is TopicOnly h ps t = tt
      cached is All h ps t = tt
      cached is Newest h [] t =
          subst (λ qs. AllByRecursion Said (keys (newest_from (next_value a.given l.id) qs))) (sym t) tt
      cached is Newest h (p ∷ ps) t =
          subst (λ qs. AllByRecursion Said (keys (newest_from (next_value a.given l.id) qs))) (sym t)
          (from p (leb (next_value a.given l.id) p.place) (one p ps is h t))

      by : (b : Bool) → is_cached l.props ≡ b
          → AllByRecursion Said (keys (cond b (newest_for a (wish l) l) None))
      by true is = cached is (wish l) refl (taken_since_turn l) refl
      by false is = tt

  -- ---- of a meta topic that goes on

  meta-mark-is : is_living l ≡ true → is_meta l.id ≡ true → mark ≡ meta_mark a (wish l) l
  meta-mark-is e f =
      ap (λ b. cond (not b) (end_mark a l) (cond (is_meta l.id) (meta_mark a (wish l) l) topic)) e
      ∙ ap (λ b. cond b (meta_mark a (wish l) l) topic) f

  no-replies : IsOrdinary (wish l) l → is_meta l.id ≡ true → reply_keys a conn l ≡ []
  no-replies o f =
      ap (λ ps. map (λ p. publish_key l.id p.place) ps
      ++ map (λ s. setting_key l.id s.place) (owed_settings a l)) (no-publishes a conn (wish l) l o f)
      ∙ ap (λ ss. map (λ s. setting_key l.id s.place) ss) (no-settings a (wish l) l o f)

  meta-news-said : is_living l ≡ true → IsMeta living.metas l
      → AllByRecursion Said (topic_keys a conn (wish l) l)
  meta-news-said e h =
      news-have Said a conn (wish l) l (text-said Of_topic 0 refl
      (ap (λ m. text_by living m Of_topic 0) (meta-mark-is e h.is_meta_id)
      ∙ ap (λ b. cond b (outbox.announced_meta mm None)
      (outbox.announced_topic mm None (find (is_named l.name) living.topics))) h.is_meta_id
      ∙ sym (ap (λ typ. Announce l.name (pos l.id) typ None l.props) h.typ_is
      ∙ ap (λ props. Announce l.name (pos l.id) (codes "msgpack") None props) h.props_are)))
    where
      mm : Mark
      mm = meta_mark a (wish l) l

  meta-value-said : is_living l ≡ true → (h : IsMeta living.metas l) → Said (value_key l.id h.put_place)
  meta-value-said e h =
      value-said h.put_place 0 (ap (λ b. cond b (value_key l.id 0) (value_key l.id h.put_place)) h.is_meta_id)
      (ap (λ m. value_by living moment m 0) (meta-mark-is e h.is_meta_id)
      ∙ ap (λ b. cond b (outbox.meta_value moment l.id (find (λ t. t.id == l.id) living.metas))
      (placed_value living mm (find (λ p. p.place == 0) mm.values))) h.is_meta_id
      ∙ by (find (λ t. t.id == l.id) living.metas) (h.lives e)
      ∙ sym (ap (λ ps. put_value moment l.id (find (λ p. p.place == h.put_place) ps)) h.puts_are
      ∙ ap (λ b. put_value moment l.id (cond b (Some put) None)) itself
      ∙ ap (λ b. told (cond b moment 0) (meta_at l.id living.metas)) h.is_meta_id))
    where
      mm : Mark
      mm = meta_mark a (wish l) l

      put : Put
      put = record { place = h.put_place; time = 0; value = Bytes (unwrap_or (meta_at l.id living.metas) []) }

      itself : (h.put_place == h.put_place) ≡ true
      itself = grind (arith, nat_tests)

      told : ℕ → Option (List ℕ) → ValueMsg
      told t o = record { id = pos l.id; time = t; value = Bytes (unwrap_or o []) }

      by : (o : Option MetaNow) → is_some (option_map (λ (m : MetaNow). m.bytes) o) ≡ true
          → outbox.meta_value moment l.id o ≡ told moment (option_map (λ (m : MetaNow). m.bytes) o)
      by None s = cc
      by (Some m) s = refl

  meta-newest-said : is_living l ≡ true → (h : IsMeta living.metas l)
      → AllByRecursion Said (newest_keys a (wish l) l)
  meta-newest-said e h = by (is_cached l.props)
    where
      put : Put
      put = record { place = h.put_place; time = 0; value = Bytes (unwrap_or (meta_at l.id living.metas) []) }

      one : (b : Bool)
          → AllByRecursion Said (map (value_key l.id) (option_items (cond b (Some h.put_place) None)))
      one true = (meta-value-said e h, tt)
      one false = tt

      since_turn : taken_since_turn l ≡ put ∷ []
      since_turn =
          ap (λ props. cond (is_cached props) (taken l.puts) l.puts) h.props_are ∙ ap taken h.puts_are

      cached : (w : Wanted) → AllByRecursion Said (map (value_key l.id) (option_items (newest_for a w l)))
      cached No = tt
      cached TopicOnly = tt
      cached All = tt
      cached Newest =
          subst (λ ps. AllByRecursion Said
          (map (value_key l.id) (option_items (newest_from (next_value a.given l.id) ps))))
          (sym since_turn)
          (one (leb (next_value a.given l.id) h.put_place))

      by : (b : Bool)
          → AllByRecursion Said (map (value_key l.id) (option_items (cond b (newest_for a (wish l) l) None)))
      by true = cached (wish l)
      by false = tt

  -- ---- of any life

  own-said : IsOrdinary (wish l) l → IsKnown n living l → OwnKeys Said a conn (wish l) (since l) l
  own-said o known = record {
    ends = ends-said;
    replies = λ e. ⊎_elim
        (λ c. each-append Said (map (λ p. publish_key l.id p.place) (owed_publishes a conn l))
        (map (λ s. setting_key l.id s.place) (owed_settings a l))
        (each-map Said (λ p. publish_key l.id p.place) (owed_publishes a conn l) (publishes-said e c))
        (each-map Said (λ s. setting_key l.id s.place) (owed_settings a l) (settings-said e c)))
        (λ h. subst (λ ks. AllByRecursion Said ks) (sym (no-replies o h.is_meta_id)) tt)
        known;
    news = λ e. ⊎_elim (λ c. news-said e c) (λ h. meta-news-said e h) known;
    values = λ e. ⊎_elim
        (λ c. values-said e c)
        (λ h. subst (λ ps. AllByRecursion Said (map (λ p. value_key l.id p.place) ps))
        (sym (no-values a (wish l) (since l) l o h.is_meta_id)) tt)
        known;
    newest = λ e. ⊎_elim (λ c. newest-said e c) (λ h. meta-newest-said e h) known;
  }

-- ---- all keys

-- each key that is owed has one message, by the marks and by the history
pub all-said : (living : Living) (moment conn n : ℕ) (a : Account) (wish : Life → Wanted) (since : Life → ℕ)
    (lives : List Life)
    → AllByRecursion (λ l. life_at l.id lives ≡ Some l) lives
    → AllByRecursion (λ l. IsOrdinary (wish l) l) lives
    → AllByRecursion (IsKnown n living) lives
    → AllByRecursion (IsSaid living moment conn (marks_by a conn wish since lives) lives)
    (keys_owed a conn wish since lives)
all-said living moment conn n a wish since lives found ordinary known =
    each-owed Said a conn wish since lives
    (each-both Fine (IsKnown n living) (λ l. OwnKeys Said a conn (wish l) (since l) l) one lives
    (each-both (λ l. life_at l.id lives ≡ Some l) (λ l. IsOrdinary (wish l) l) Fine
    (λ l e o. (e, o)) lives found ordinary) known)
  where
    Said : Key → Type 0
    Said k = IsSaid living moment conn (marks_by a conn wish since lives) lives k

    Fine : Life → Type 0
    Fine l = (life_at l.id lives ≡ Some l) × IsOrdinary (wish l) l

    one : (l : Life) → Fine l → IsKnown n living l → OwnKeys Said a conn (wish l) (since l) l
    one l f k = by (is_blank (mark_of a conn wish since l)) refl
      where
        by : (b : Bool) → is_blank (mark_of a conn wish since l) ≡ b
            → OwnKeys Said a conn (wish l) (since l) l
        by true e = blank-none Said a conn wish since l f.1 e
        by false e =
            own-said living moment conn n a wish since lives l f.0
            (mark-found a conn wish since lives l f.0 e) f.1 k

texts-said : (living : Living) (moment conn : ℕ) (kept : List Mark) (lives : List Life) (ks : List Key)
    → AllByRecursion (IsSaid living moment conn kept lives) ks
    → map (text_of living kept) (filter (λ k. not (is_value k)) (map unplaced ks))
    ≡ map (λ k. history.text_of conn k (life_at k.topic lives)) (filter (λ k. not (is_value k)) ks)
texts-said living moment conn kept lives [] h = refl
texts-said living moment conn kept lives (k ∷ ks) h =
    ap (λ b. map (text_of living kept) (cond (not b) (unplaced k ∷ rest) rest)) (value-unplaced k)
    ∙ by (is_value k) refl (texts-said living moment conn kept lives ks h.1)
  where
    rest : List Key
    rest = filter (λ k. not (is_value k)) (map unplaced ks)

    said : List Key → List ServerMsg
    said qs = map (λ k. history.text_of conn k (life_at k.topic lives)) qs

    by : (b : Bool) → is_value k ≡ b
        → map (text_of living kept) rest ≡ said (filter (λ k. not (is_value k)) ks)
        → map (text_of living kept) (cond (not b) (unplaced k ∷ rest) rest)
        ≡ said (cond (not b) (k ∷ filter (λ k. not (is_value k)) ks) (filter (λ k. not (is_value k)) ks))
    by true e more = more
    by false e more =
        ap (λ m. m ∷ map (text_of living kept) rest) (h.0.text_is e)
        ∙ ap (λ ms. history.text_of conn k (life_at k.topic lives) ∷ ms) more

values-said-all : (living : Living) (moment conn : ℕ) (kept : List Mark) (lives : List Life) (ks : List Key)
    → AllByRecursion (IsSaid living moment conn kept lives) ks
    → map (value_of living moment kept) (filter is_value (map unplaced ks))
    ≡ map (λ k. history.value_of moment k (life_at k.topic lives)) (filter is_value ks)
values-said-all living moment conn kept lives [] h = refl
values-said-all living moment conn kept lives (k ∷ ks) h =
    ap (λ b. map (value_of living moment kept) (cond b (unplaced k ∷ rest) rest)) (value-unplaced k)
    ∙ by (is_value k) refl (values-said-all living moment conn kept lives ks h.1)
  where
    rest : List Key
    rest = filter is_value (map unplaced ks)

    said : List Key → List ValueMsg
    said qs = map (λ k. history.value_of moment k (life_at k.topic lives)) qs

    by : (b : Bool) → is_value k ≡ b → map (value_of living moment kept) rest ≡ said (filter is_value ks)
        → map (value_of living moment kept) (cond b (unplaced k ∷ rest) rest)
        ≡ said (cond b (k ∷ filter is_value ks) (filter is_value ks))
    by false e more = more
    by true e more =
        ap (λ m. m ∷ map (value_of living moment kept) rest) (h.0.value_is e)
        ∙ ap (λ ms. history.value_of moment k (life_at k.topic lives) ∷ ms) more

-- keys that are said so have one batch
pub batch-said : (living : Living) (moment conn : ℕ) (kept : List Mark) (lives : List Life) (ks : List Key)
    → AllByRecursion (IsSaid living moment conn kept lives) ks
    → batch_of living moment kept (map unplaced ks) ≡ messages lives moment conn ks
batch-said living moment conn kept lives ks h =
    ap (λ ts. batch ts (map (value_of living moment kept) (filter is_value (map unplaced ks))))
    (texts-said living moment conn kept lives ks h)
    ∙ ap (λ vs. batch
    (map (λ k. history.text_of conn k (life_at k.topic lives)) (filter (λ k. not (is_value k)) ks)) vs)
    (values-said-all living moment conn kept lives ks h)
  where
    batch : List ServerMsg → List ValueMsg → Batch
    batch ts vs = record { texts = ts; values = vs }
