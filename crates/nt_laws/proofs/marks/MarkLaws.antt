-- What an entry does to what is kept of a life is what the call of the outbox does to it.
use Rattle.std.proofs.Common.{◌≡◌, ◌<◌, ◌≤◌, ◌==◌, ◌&&◌, not, ℕ, suc, Bool, true, false, cond, leb, ltb, List, []}
use Rattle.std.proofs.Common.{◌∷◌, ◌++◌, Option, Some, None, map, filter, append-nil, refl, sym, ◌∙◌, ap, arith}
use Rattle.std.specs.Prelude.{reverse}
use Rattle.std.specs.List.{list_any}
use Rattle.std.proofs.lemmas.Bool.Decides.{nat_tests}
use Rattle.std.proofs.lemmas.List.{map-append, reverse-append}
use Rattle.std.proofs.lemmas.List.Elements.{filter-append}
use Rattle.serde_json.specs.Data.{Data}
use Rattle.nt_topics.specs.Properties.{updated, is_cached}
use Rattle.nt_subs.specs.declared.wish.Wanted.{Wanted}
use Rattle.nt_subs.specs.declared.wish.Wanted.TheVariants.{No, TopicOnly, Newest, All}
use Rattle.nt_rules.specs.declared.topic.Pub.{Pub}
use Rattle.nt_rules.specs.topics.Puts.{Put, taken, newest}
use Rattle.nt_rules.specs.topics.Topics.{is_turned}
use Rattle.nt_rules.specs.outbox.Marks.{Mark}
use Rattle.nt_rules.specs.declared.waiting.Setting as marked
use Rattle.nt_rules.specs.declared.waiting.Placed.{Placed}
use Rattle.nt_rules.specs.outbox.Keys.{Key, is_in, announces, end_key, publish_key, setting_key, next_value}
use Rattle.nt_rules.specs.outbox.Marks.{fresh, is_valued, queued, started, noted_value, turned, ended}
use Rattle.nt_rules.specs.outbox.Marks.{replied_publish}
use Rattle.nt_rules.specs.outbox.Marks.{rewanted}
use Rattle.nt_rules.specs.history.Lives.{Life, Publishing, Setting, taken_since_turn, taken_of, born}
use Rattle.nt_rules.specs.history.Lives.{turned_at, with_publishing, with_setting, with_a_put}
use Rattle.nt_rules.specs.history.Owed.{Account, is_announced, owed_publishes, owed_settings, owed_cached}
use Rattle.nt_rules.specs.history.Owed.{owed_uncached}
use Rattle.nt_rules.specs.history.Owed.{owed_values, newest_for, owed_newest, owed_end_at, place_by, newest_from}
use Rattle.nt_rules.specs.history.Owed.{is_all}
use Rattle.nt_rules.specs.history.Marks.{waiting_publish, waiting_setting, waiting_put, topic_mark, end_mark}
use Rattle.nt_laws.proofs.histories.Facts.{AllBefore, IsRising}
use Rattle.nt_laws.proofs.topics.Turns.{unturned}
use Rattle.nt_laws.proofs.marks.QueuedItems.{queued-last, publishes-earlier, settings-earlier, values-earlier}

-- ---- accounts that agree on what happened up to a place

-- a change of properties at this place is told
abbrev pub is_told : Account → ℕ → Bool
is_told a s = list_any (λ place. place == s) a.told_settings

pub record Agree (n : ℕ) (a b : Account) : Type 0 where
  pub given_are : b.given ≡ a.given
  pub told_are : (s : ℕ) → s ≤ n → is_told b s ≡ is_told a s

told-same : (n from : ℕ) (a b : Account) → Agree n a b → (ss : List Setting)
    → IsRising (λ s. s.place) from n ss
    → filter (λ s. is_told b s.place) ss ≡ filter (λ s. is_told a s.place) ss
told-same n from a b agree [] h = refl
told-same n from a b agree (s ∷ ss) h =
    ap (λ t. cond t (s ∷ filter (λ s. is_told b s.place) ss) (filter (λ s. is_told b s.place) ss))
    (agree.told_are s.place h.1)
    ∙ ap (λ ts. cond (is_told a s.place) (s ∷ ts) ts) (told-same n (suc s.place) a b agree ss h.2)

pub settings-same : (n : ℕ) (a b : Account) → Agree n a b → (l : Life) → IsRising (λ s. s.place) 1 n l.settings
    → owed_settings b l ≡ owed_settings a l
settings-same n a b agree l h =
    ap (λ g. filter (λ s. not (is_in g (setting_key l.id s.place)))
    (filter (λ s. is_told b s.place) l.settings)) agree.given_are
    ∙ ap (λ ss. filter (λ s. not (is_in a.given (setting_key l.id s.place))) ss)
    (told-same n 1 a b agree l.settings h)

-- whether the place of a wish counts, for a topic that is cached or not
abbrev pub counts : Bool → Wanted → Bool
counts cached wish = cond cached (is_all wish) (is_valued wish)

-- of taken puts, the newest of which stands first, those from these places on, oldest first
abbrev pub all_from : ℕ → ℕ → List Put → List Put
all_from next low ts = reverse (filter (λ p. leb next p.place && leb low p.place) ts)

-- and those after a place
abbrev pub all_after : ℕ → ℕ → List Put → List Put
all_after next since ts = reverse (filter (λ p. leb next p.place && ltb since p.place) ts)

pub values-same : (a b : Account) → b.given ≡ a.given → (w : Wanted) (since now : ℕ) (l m : Life)
    → (counts (is_cached l.props) w ≡ true → now ≡ since) → m.id ≡ l.id → is_cached m.props ≡ is_cached l.props
    → taken_since_turn m ≡ taken_since_turn l
    → owed_values b w now m ≡ owed_values a w since l
values-same a b given w since now l m same id flag e =
    ap (λ c. cond c (owed_cached b w now m) (owed_uncached b w now m)) flag ∙ by (is_cached l.props) same
  where
    ts : List Put
    ts = taken_since_turn l

    cached : (w : Wanted) → (is_all w ≡ true → now ≡ since) → owed_cached b w now m ≡ owed_cached a w since l
    cached No same = refl
    cached TopicOnly same = refl
    cached Newest same = refl
    cached All same =
        ap (λ ts. all_from (next_value b.given m.id) (place_by now ts) ts) e
        ∙ ap (λ n. all_from (next_value b.given m.id) (place_by n ts) ts) (same refl)
        ∙ ap (λ i. all_from (next_value b.given i) (place_by since ts) ts) id
        ∙ ap (λ g. all_from (next_value g l.id) (place_by since ts) ts) given

    uncached : (v : Bool) → (v ≡ true → now ≡ since)
        → cond v (all_after (next_value b.given m.id) now (taken_since_turn m)) []
        ≡ cond v (all_after (next_value a.given l.id) since ts) []
    uncached false same = refl
    uncached true same =
        ap (λ ts. all_after (next_value b.given m.id) now ts) e
        ∙ ap (λ n. all_after (next_value b.given m.id) n ts) (same refl)
        ∙ ap (λ i. all_after (next_value b.given i) since ts) id
        ∙ ap (λ g. all_after (next_value g l.id) since ts) given

    by : (c : Bool) → (counts c w ≡ true → now ≡ since)
        → cond c (owed_cached b w now m) (owed_uncached b w now m)
        ≡ cond c (owed_cached a w since l) (owed_uncached a w since l)
    by true same = cached w same
    by false same = uncached (is_valued w) same

pub newest-same : (a b : Account) → b.given ≡ a.given → (w : Wanted) (l m : Life) → m.id ≡ l.id
    → is_cached m.props ≡ is_cached l.props → taken_since_turn m ≡ taken_since_turn l
    → owed_newest b w m ≡ owed_newest a w l
newest-same a b given w l m id flag e =
    ap (λ c. cond c (newest_for b w m) None) flag ∙ ap (λ o. cond (is_cached l.props) o None) (by w)
  where
    by : (w : Wanted) → newest_for b w m ≡ newest_for a w l
    by No = refl
    by TopicOnly = refl
    by All = refl
    by Newest =
        ap (λ ts. newest_from (next_value b.given m.id) ts) e
        ∙ ap (λ i. newest_from (next_value b.given i) (taken_since_turn l)) id
        ∙ ap (λ g. newest_from (next_value g l.id) (taken_since_turn l)) given

-- a life with other publishers or puts, of which the same are taken, under the same wish
pub mark-same : (n : ℕ) (a b : Account) → Agree n a b → (conn : ℕ) (w : Wanted) (since now : ℕ) (l : Life)
    → (counts (is_cached l.props) w ≡ true → now ≡ since)
    → IsRising (λ s. s.place) 1 n l.settings
    → (pubs : List Pub) (puts : List Put)
    → taken_since_turn (record l { pubs = pubs; puts = puts }) ≡ taken_since_turn l
    → topic_mark b conn w now (record l { pubs = pubs; puts = puts }) ≡ topic_mark a conn w since l
mark-same n a b agree conn w since now l same h pubs puts e =
    let m : Life = record l { pubs = pubs; puts = puts } in
    let e1 : is_announced b l.id ≡ is_announced a l.id =
    ap (λ g. list_any (announces l.id) g) agree.given_are in
    let e2 : owed_publishes b conn m ≡ owed_publishes a conn l =
    ap (λ g. filter (λ p. not (is_in g (publish_key l.id p.place)))
    (filter (λ p. p.conn == conn) l.publishings)) agree.given_are
    in
    let e3 : owed_settings b m ≡ owed_settings a l = settings-same n a b agree l h in
    let e4 : next_value b.given l.id ≡ next_value a.given l.id =
    ap (λ g. next_value g l.id) agree.given_are in
    let e5 : owed_values b w now m ≡ owed_values a w since l =
    values-same a b agree.given_are w since now l m same refl refl e in
    let e6 : owed_newest b w m ≡ owed_newest a w l = newest-same a b agree.given_are w l m refl refl e in
    cc

-- the end of a life that was over
pub end-same : (a b : Account) → b.given ≡ a.given
    → (l : Life) (pubs : List Pub) (props : Data) (puts : List Put)
    → end_mark b (record l { pubs = pubs; props = props; puts = puts }) ≡ end_mark a l
end-same a b given l pubs props puts = by l.over
  where
    by : (over : Option ℕ) → end_mark b (record l { pubs = pubs; props = props; puts = puts; over = over })
        ≡ end_mark a (record l { over = over })
    by None = cc
    by (Some place) = cc

-- ---- a value is taken

place-by-later : (since : ℕ) (p : Put) (ts : List Put) → since < p.place → place_by since (p ∷ ts)
    ≡ place_by since ts
place-by-later since p ts less =
    let after : leb p.place since ≡ false = grind (arith, nat_tests) in
    ap (λ b. cond b p.place (place_by since ts)) after

pushed : (test : Put → Bool) (p : Put) (ts : List Put) → test p ≡ true
    → reverse (filter test (p ∷ ts)) ≡ reverse (filter test ts) ++ p ∷ []
pushed test p ts t =
    ap (λ b. reverse (cond b (p ∷ filter test ts) (filter test ts))) t
    ∙ reverse-append (p ∷ []) (filter test ts)

pub mark-put : (a : Account) (conn : ℕ) (w : Wanted) (since : ℕ) (l : Life) (p : Put)
    → next_value a.given l.id ≤ p.place → since < p.place
    → taken_since_turn (with_a_put p l) ≡ p ∷ taken_since_turn l
    → place_by since (taken_since_turn l) ≤ p.place → AllBefore p.place l.puts
    → topic_mark a conn w since (with_a_put p l)
    ≡ noted_value (waiting_put p) (is_cached l.props) w (topic_mark a conn w since l)
mark-put a conn w since l p h k e low later = by (is_cached l.props)
  where
    ts : List Put
    ts = taken_since_turn l

    next : ℕ
    next = next_value a.given l.id

    -- its mark, where it is cached or not
    mark_at : Bool → Wanted → Life → Mark
    mark_at c w m =
        record (topic_mark a conn w since m) {
          values = map waiting_put (cond c (owed_cached a w since m) (owed_uncached a w since m));
          newest = cond c (newest_for a w m) None;
        }

    from : leb next p.place ≡ true
    from = grind (arith, nat_tests)

    last : newest_from next (taken_since_turn (with_a_put p l)) ≡ Some p.place
    last = ap (λ ts. newest_from next ts) e ∙ ap (λ b. cond b (Some p.place) None) from

    queues : (test : Put → Bool) → test p ≡ true
        → map waiting_put (reverse (filter test (taken_since_turn (with_a_put p l))))
        ≡ queued (λ q. q.place) (waiting_put p) (map waiting_put (reverse (filter test ts)))
    queues test t =
        ap (λ ts. map waiting_put (reverse (filter test ts))) e
        ∙ ap (λ ps. map waiting_put ps) (pushed test p ts t)
        ∙ map-append waiting_put (reverse (filter test ts)) (p ∷ [])
        ∙ sym (queued-last (λ q. q.place) (waiting_put p) (map waiting_put (reverse (filter test ts)))
        (values-earlier a l test p.place later))

    cached : (w : Wanted) → mark_at true w (with_a_put p l) ≡ noted_value (waiting_put p) true w (mark_at true w l)
    cached No = refl
    cached TopicOnly = refl
    cached Newest = ap (λ o. record (mark_at true Newest l) { newest = o }) last
    cached All =
        let above : (leb next p.place && leb (place_by since ts) p.place) ≡ true = grind (arith, nat_tests) in
        ap (λ vs. record (mark_at true All l) { values = vs })
        (ap (λ ts. map waiting_put (all_from next (place_by since ts) (taken_since_turn (with_a_put p l)))) e
        ∙ ap (λ n. map waiting_put (all_from next n (taken_since_turn (with_a_put p l)))) (place-by-later since p ts k)
        ∙ queues (λ q. leb next q.place && leb (place_by since ts) q.place) above)

    uncached : (v : Bool)
        → record (mark_at false w l) {
          values = map waiting_put (cond v (all_after next since (taken_since_turn (with_a_put p l))) []);
        }
        ≡ record (mark_at false w l) {
          values = cond v
              (queued (λ q. q.place) (waiting_put p) (map waiting_put (cond v (all_after next since ts) [])))
              (map waiting_put (cond v (all_after next since ts) []));
        }
    uncached false = refl
    uncached true =
        let above : (leb next p.place && ltb since p.place) ≡ true = grind (arith, nat_tests) in
        ap (λ vs. record (mark_at false w l) { values = vs })
        (queues (λ q. leb next q.place && ltb since q.place) above)

    by : (c : Bool) → mark_at c w (with_a_put p l) ≡ noted_value (waiting_put p) c w (mark_at c w l)
    by true = cached w
    by false = uncached (is_valued w)

-- ---- a publish

publishes-pushed : (a : Account) (conn : ℕ) (l : Life) (place : ℕ) (p : Pub)
    → is_in a.given (publish_key l.id place) ≡ false
    → owed_publishes a conn (with_publishing place p l)
    ≡ owed_publishes a conn l
    ++ cond (p.conn == conn) (record { place = place; conn = p.conn; uid = p.uid } ∷ []) []
publishes-pushed a conn l place p new =
    ap (λ ps. filter open_now ps) (filter-append own l.publishings (q ∷ []))
    ∙ filter-append open_now (filter own l.publishings) (cond (p.conn == conn) (q ∷ []) [])
    ∙ ap (λ ps. owed_publishes a conn l ++ ps) (by (p.conn == conn))
  where
    q : Publishing
    q = record { place = place; conn = p.conn; uid = p.uid }

    own : Publishing → Bool
    own q = q.conn == conn

    open_now : Publishing → Bool
    open_now q = not (is_in a.given (publish_key l.id q.place))

    by : (b : Bool) → filter open_now (cond b (q ∷ []) []) ≡ cond b (q ∷ []) []
    by true = ap (λ t. cond (not t) (q ∷ []) []) new
    by false = refl

pub mark-published : (a : Account) (conn : ℕ) (w : Wanted) (since : ℕ) (l : Life) (place : ℕ) (p : Pub)
    → is_in a.given (publish_key l.id place) ≡ false → (p.conn == conn) ≡ true
    → (n : ℕ) → n < place → IsRising (λ q. q.place) 1 n l.publishings
    → topic_mark a conn w since (with_publishing place p l)
    ≡ replied_publish (record { place = place; uid = p.uid }) (topic_mark a conn w since l)
mark-published a conn w since l place p new own n later rise =
    let q : Publishing = record { place = place; conn = p.conn; uid = p.uid } in
    let e : map waiting_publish (owed_publishes a conn (with_publishing place p l))
    ≡ queued (λ r. r.place) (waiting_publish q) (map waiting_publish (owed_publishes a conn l)) =
    ap (λ ps. map waiting_publish ps)
    (publishes-pushed a conn l place p new ∙ ap (λ b. owed_publishes a conn l ++ cond b (q ∷ []) []) own)
    ∙ map-append waiting_publish (owed_publishes a conn l) (q ∷ [])
    ∙ sym (queued-last (λ r. r.place) (waiting_publish q) (map waiting_publish (owed_publishes a conn l))
    (publishes-earlier a l conn n place later rise))
    in
    let v = values-same a a refl w since since l (with_publishing place p l) (λ x. refl) refl refl refl in
    let m = newest-same a a refl w l (with_publishing place p l) refl refl refl in
    cc

-- another connection's
pub mark-joined : (a : Account) (conn : ℕ) (w : Wanted) (since : ℕ) (l : Life) (place : ℕ) (p : Pub)
    → is_in a.given (publish_key l.id place) ≡ false → (p.conn == conn) ≡ false
    → topic_mark a conn w since (with_publishing place p l) ≡ topic_mark a conn w since l
mark-joined a conn w since l place p new own =
    let q : Publishing = record { place = place; conn = p.conn; uid = p.uid } in
    let e : owed_publishes a conn (with_publishing place p l) ≡ owed_publishes a conn l =
    publishes-pushed a conn l place p new ∙ ap (λ b. owed_publishes a conn l ++ cond b (q ∷ []) []) own
    ∙ append-nil (owed_publishes a conn l)
    in
    let v = values-same a a refl w since since l (with_publishing place p l) (λ x. refl) refl refl refl in
    let n = newest-same a a refl w l (with_publishing place p l) refl refl refl in
    cc

-- ---- a change of properties

-- a life after a change of properties, field by field
abbrev pub set_by : Bool → ℕ → ℕ → Data → Life → Life
set_by turns place conn u l =
    record l {
      props = updated l.props u;
      settings = l.settings ++ record { place = place; conn = conn; update = u } ∷ [];
      turn = cond turns place l.turn;
      puts = cond turns [] l.puts;
      taken_before = cond turns (taken_of l) l.taken_before;
    }

abbrev pub set_as : ℕ → ℕ → Data → Life → Life
set_as place conn u l = set_by (is_turned l.props (updated l.props u)) place conn u l

pub set-is : (place conn : ℕ) (u : Data) (l : Life) → with_setting place conn u l ≡ set_as place conn u l
set-is place conn u l = by (is_turned l.props (updated l.props u))
  where
    by : (turns : Bool)
        → record (cond turns (turned_at place l) l) {
          props = updated l.props u;
          settings = l.settings ++ record { place = place; conn = conn; update = u } ∷ [];
        }
        ≡ set_by turns place conn u l
    by true = refl
    by false = refl

settings-pushed : (n : ℕ) (a b : Account) → Agree n a b → (l : Life) → IsRising (λ s. s.place) 1 n l.settings
    → (turns : Bool) (place sender : ℕ) (u : Data) → is_in a.given (setting_key l.id place) ≡ false
    → owed_settings b (set_by turns place sender u l)
    ≡ owed_settings a l
    ++ cond (is_told b place) (record { place = place; conn = sender; update = u } ∷ []) []
settings-pushed n a b agree l h turns place sender u new =
    ap (λ ss. filter (open_by b.given) ss) (filter-append told l.settings (s ∷ []))
    ∙ filter-append (open_by b.given) (filter told l.settings) (cond (is_told b place) (s ∷ []) [])
    ∙ ap (λ ss. ss ++ filter (open_by b.given) (cond (is_told b place) (s ∷ []) []))
    (settings-same n a b agree l h)
    ∙ ap (λ ss. owed_settings a l ++ ss) (by (is_told b place))
  where
    s : Setting
    s = record { place = place; conn = sender; update = u }

    told : Setting → Bool
    told s = is_told b s.place

    open_by : List Key → Setting → Bool
    open_by given s = not (is_in given (setting_key l.id s.place))

    by : (t : Bool) → filter (open_by b.given) (cond t (s ∷ []) []) ≡ cond t (s ∷ []) []
    by true = ap (λ g. cond (open_by g s) (s ∷ []) []) agree.given_are
        ∙ ap (λ t. cond (not t) (s ∷ []) []) new
    by false = refl

abbrev pub setting_pushed : Bool → ℕ → ℕ → ℕ → Data → Mark → Mark
setting_pushed told conn place sender u m =
    record m {
      settings = cond told
          (queued (λ s. s.place) (record { place = place; is_own = sender == conn; update = u }) m.settings)
          m.settings;
    }

abbrev pub turned_where : Bool → Mark → Mark
turned_where turns m = cond turns (turned m) m

-- without puts nothing is owed of values
no-values : (a : Account) (w : Wanted) (since : ℕ) (l : Life) → owed_values a w since (record l { puts = [] }) ≡ []
no-values a w since l = by (is_cached l.props)
  where
    none : (c : Bool) → cond c (taken []) [] ≡ []
    none true = refl
    none false = refl

    cached : (w : Wanted) → owed_cached a w since (record l { puts = [] }) ≡ []
    cached No = refl
    cached TopicOnly = refl
    cached Newest = refl
    cached All =
        ap (λ ts. all_from (next_value a.given l.id) (place_by since ts) ts) (none (is_cached l.props))

    uncached : (v : Bool)
        → cond v (all_after (next_value a.given l.id) since (taken_since_turn (record l { puts = [] }))) [] ≡ []
    uncached true = ap (λ ts. all_after (next_value a.given l.id) since ts) (none (is_cached l.props))
    uncached false = refl

    by : (c : Bool)
        → cond c (owed_cached a w since (record l { puts = [] })) (owed_uncached a w since (record l { puts = [] }))
        ≡ []
    by true = cached w
    by false = uncached (is_valued w)

no-newest : (a : Account) (w : Wanted) (l : Life) → owed_newest a w (record l { puts = [] }) ≡ None
no-newest a w l = by (is_cached l.props) w
  where
    none : (c : Bool) → cond c (taken []) [] ≡ []
    none true = refl
    none false = refl

    by : (c : Bool) (w : Wanted) → cond c (newest_for a w (record l { puts = [] })) None ≡ None
    by false w = refl
    by true No = refl
    by true TopicOnly = refl
    by true All = refl
    by true Newest = ap (λ ts. newest_from (next_value a.given l.id) ts) (none (is_cached l.props))

pub mark-set : (n : ℕ) (a b : Account) → Agree n a b → (conn : ℕ) (w : Wanted) (since now : ℕ)
    → (l : Life) → IsRising (λ s. s.place) 1 n l.settings → (place sender : ℕ) (u : Data)
    → (is_turned l.props (updated l.props u) ≡ false → counts (is_cached l.props) w ≡ true → now ≡ since)
    → is_in a.given (setting_key l.id place) ≡ false → n < place
    → topic_mark b conn w now (set_as place sender u l)
    ≡ setting_pushed (is_told b place) conn place sender u
    (turned_where (is_turned l.props (updated l.props u)) (topic_mark a conn w since l))
mark-set n a b agree conn w since now l h place sender u same new later =
    on (is_turned l.props (updated l.props u)) refl
  where
    s : Setting
    s = record { place = place; conn = sender; update = u }

    e1 : is_announced b l.id ≡ is_announced a l.id
    e1 = ap (λ g. list_any (announces l.id) g) agree.given_are

    e2 : owed_publishes b conn l ≡ owed_publishes a conn l
    e2 = ap (λ g. filter (λ p. not (is_in g (publish_key l.id p.place)))
        (filter (λ p. p.conn == conn) l.publishings)) agree.given_are

    e4 : next_value b.given l.id ≡ next_value a.given l.id
    e4 = ap (λ g. next_value g l.id) agree.given_are

    e3 : (turns : Bool)
        → map (waiting_setting conn) (owed_settings b (set_by turns place sender u l))
        ≡ cond (is_told b place)
        (queued (λ r. r.place) (waiting_setting conn s) (map (waiting_setting conn) (owed_settings a l)))
        (map (waiting_setting conn) (owed_settings a l))
    e3 turns =
        ap (λ ss. map (waiting_setting conn) ss) (settings-pushed n a b agree l h turns place sender u new)
        ∙ by (is_told b place)
        ∙ ap (λ ss. cond (is_told b place) ss (map (waiting_setting conn) (owed_settings a l)))
        (sym (queued-last (λ r. r.place) (waiting_setting conn s) (map (waiting_setting conn) (owed_settings a l))
        (settings-earlier a l conn n place later h)))
      where
        by : (t : Bool)
            → map (waiting_setting conn)
            (owed_settings a l ++ cond t (record { place = place; conn = sender; update = u } ∷ []) [])
            ≡ cond t
            (map (waiting_setting conn) (owed_settings a l)
            ++ waiting_setting conn (record { place = place; conn = sender; update = u }) ∷ []) (map
            (waiting_setting conn) (owed_settings a l))
        by true = map-append (waiting_setting conn) (owed_settings a l)
            (record { place = place; conn = sender; update = u } ∷ [])
        by false = ap (λ ss. map (waiting_setting conn) ss) (append-nil (owed_settings a l))

    -- the mark with these values
    with_values : List Placed → Option ℕ → Mark
    with_values vs newest =
        record (setting_pushed (is_told b place) conn place sender u (topic_mark a conn w since l)) {
          values = vs;
          newest = newest;
        }

    fields : Bool → Bool → List Publishing → List marked.Setting → ℕ → Mark
    fields turns announced publishings settings next =
        record (topic_mark b conn w now (set_by turns place sender u l)) {
          is_announced = announced;
          publishes = map waiting_publish publishings;
          settings = settings;
          next = next;
        }

    joined : (turns : Bool)
        → topic_mark b conn w now (set_by turns place sender u l)
        ≡ with_values (map waiting_put (owed_values b w now (set_by turns place sender u l)))
        (owed_newest b w (set_by turns place sender u l))
    joined turns =
        ap (λ t. fields turns t (owed_publishes b conn l) settings (next_value b.given l.id)) e1
        ∙ ap (λ ps. fields turns (is_announced a l.id) ps settings (next_value b.given l.id)) e2
        ∙ ap (λ ss. fields turns (is_announced a l.id) (owed_publishes a conn l) ss (next_value b.given l.id))
        (e3 turns)
        ∙ ap (λ next. fields turns (is_announced a l.id) (owed_publishes a conn l) settings_after next) e4
      where
        settings : List marked.Setting
        settings = map (waiting_setting conn) (owed_settings b (set_by turns place sender u l))

        settings_after : List marked.Setting
        settings_after =
            cond (is_told b place)
            (queued (λ r. r.place) (waiting_setting conn s) (map (waiting_setting conn) (owed_settings a l)))
            (map (waiting_setting conn) (owed_settings a l))

    on : (turns : Bool) → is_turned l.props (updated l.props u) ≡ turns
        → topic_mark b conn w now (set_by turns place sender u l)
        ≡ setting_pushed (is_told b place) conn place sender u (turned_where turns (topic_mark a conn w since l))
    on true e =
        joined true
        ∙ ap (λ vs. with_values (map waiting_put vs) (owed_newest b w (set_by true place sender u l)))
        (no-values b w now (set_by true place sender u l))
        ∙ ap (λ o. with_values [] o) (no-newest b w (set_by true place sender u l))
    on false e =
        let flag : is_cached (updated l.props u) ≡ is_cached l.props = unturned l.props (updated l.props u) e in
        let taken_are : taken_since_turn (set_by false place sender u l) ≡ taken_since_turn l =
        ap (λ c. cond c (taken l.puts) l.puts) flag in
        joined false
        ∙ ap (λ vs. with_values (map waiting_put vs) (owed_newest b w (set_by false place sender u l)))
        (values-same a b agree.given_are w since now l (set_by false place sender u l) (same e) refl flag taken_are)
        ∙ ap (λ o. with_values (map waiting_put (owed_values a w since l)) o)
        (newest-same a b agree.given_are w l (set_by false place sender u l) refl flag taken_are)

-- ---- an end

pub mark-ended : (a b : Account) → b.given ≡ a.given
    → (conn : ℕ) (w : Wanted) (since : ℕ) (l m : Life) (place : ℕ)
    → m.id ≡ l.id → m.name ≡ l.name → m.over ≡ Some place → is_in a.given (end_key l.id place) ≡ false
    → end_mark b m ≡ ended place (topic_mark a conn w since l)
mark-ended a b given conn w since l m place id name over new =
    let e : end_mark b m ≡ end_mark a (record l { over = Some place }) = by_given in
    e ∙ by (is_announced a l.id)
  where
    by_given : end_mark b m ≡ end_mark a (record l { over = Some place })
    by_given =
        ap (λ o. record
        (fresh m.id m.name) { over = cond (is_announced b m.id) (owed_at b.given m.id o) None }) over
        ∙ ap (λ g. record
        (fresh m.id m.name) {
          over = cond (list_any (announces m.id) g)
              (owed_at g m.id (Some place)) None;
        }) given
        ∙ ap (λ i. record
        (fresh i m.name) { over = cond (is_announced a i) (owed_at a.given i (Some place)) None }) id
        ∙ ap (λ nm. record
        (fresh l.id nm) { over = cond (is_announced a l.id) (owed_at a.given l.id (Some place)) None }) name
      where
        owed_at : List Key → ℕ → Option ℕ → Option ℕ
        owed_at given id o = owed_end_at (record { given = given; told_settings = []; fell = None }) id o

    by : (t : Bool)
        → record
        (fresh l.id l.name) {
          over = cond t
              (cond (is_in a.given (end_key l.id place)) None (Some place)) None;
        }
        ≡ record (fresh l.id l.name) { over = cond t (Some place) None }
    by true = ap (λ b. record (fresh l.id l.name) { over = cond b None (Some place) }) new
    by false = refl

-- ---- a birth

-- no key of this topic was given
pub record IsUnheard (id : ℕ) (a : Account) : Type 0 where
  pub not_announced : is_announced a id ≡ false
  pub no_value : next_value a.given id ≡ 0

-- a life that begins has no puts
values-born : (a : Account) (w : Wanted) (since place id : ℕ) (name typ : List ℕ) (props : Data) (p : Pub)
    → owed_values a w since (born place id name typ props p) ≡ []
values-born a w since place id name typ props p = no-values a w since (born place id name typ props p)

newest-born : (a : Account) (w : Wanted) (place id : ℕ) (name typ : List ℕ) (props : Data) (p : Pub)
    → owed_newest a w (born place id name typ props p) ≡ None
newest-born a w place id name typ props p = no-newest a w (born place id name typ props p)

pub mark-born : (a : Account) (conn : ℕ) (w : Wanted) (since place id : ℕ) (name typ : List ℕ)
    (props : Data) (p : Pub) → IsUnheard id a
    → (p.conn == conn) ≡ false
    → topic_mark a conn w since (born place id name typ props p) ≡ started w (fresh id name)
mark-born a conn w since place id name typ props p h other =
    let l : Life = born place id name typ props p in
    let e1 = h.not_announced in
    let e2 : owed_publishes a conn l ≡ [] =
    ap (λ b. filter (λ p. not (is_in a.given (publish_key id p.place)))
    (cond b (record { place = place; conn = p.conn; uid = p.uid } ∷ []) [])) other
    in
    let e4 = h.no_value in
    let e5 : owed_values a w since l ≡ [] = values-born a w since place id name typ props p in
    let e6 : owed_newest a w l ≡ None = newest-born a w place id name typ props p in
    cc

-- the connection's own
pub mark-born-own : (a : Account) (conn : ℕ) (w : Wanted) (since place id : ℕ) (name typ : List ℕ)
    (props : Data) (p : Pub) → IsUnheard id a
    → (p.conn == conn) ≡ true → is_in a.given (publish_key id place) ≡ false
    → topic_mark a conn w since (born place id name typ props p)
    ≡ rewanted (is_cached props) None No w (replied_publish (record { place = place; uid = p.uid }) (fresh id name))
mark-born-own a conn w since place id name typ props p h own new = whole ∙ by w (is_cached props)
  where
    l : Life
    l = born place id name typ props p

    q : Publishing
    q = record { place = place; conn = p.conn; uid = p.uid }

    m : Mark
    m = record (fresh id name) { publishes = record { place = place; uid = p.uid } ∷ [] }

    whole : topic_mark a conn w since l ≡ record m { wish = w }
    whole =
        let e1 = h.not_announced in
        let e2 : owed_publishes a conn l ≡ q ∷ [] =
        ap (λ b. filter (λ p. not (is_in a.given (publish_key id p.place))) (cond b (q ∷ []) [])) own
        ∙ ap (λ b. cond (not b) (q ∷ []) []) new
        in
        let e4 = h.no_value in
        let e5 : owed_values a w since l ≡ [] = values-born a w since place id name typ props p in
        let e6 : owed_newest a w l ≡ None = newest-born a w place id name typ props p in
        cc

    by : (w : Wanted) (cached : Bool) → record m { wish = w } ≡ rewanted cached None No w m
    by No cached = refl
    by TopicOnly true = refl
    by TopicOnly false = refl
    by Newest true = refl
    by Newest false = refl
    by All true = refl
    by All false = refl
