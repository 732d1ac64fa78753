-- The lives of topics and of meta topics stand by rising id, and each is of its kind.
use Rattle.std.proofs.Common.{◌≡◌, ◌≤◌, ◌+◌, ℕ, suc, true, false, cond, List, [], ◌∷◌, ◌++◌, Option, Some, None, map}
use Rattle.std.proofs.Common.{length, codes, refl, sym, ◌∙◌, ap, subst, arith}
use Rattle.std.specs.List.{AllByRecursion}
use Rattle.std.proofs.lemmas.Bool.Decides.{nat_tests}
use Rattle.nt_topics.specs.Properties.{is_cached}
use Rattle.nt_subs.specs.declared.wish.Wanted.{Wanted}
use Rattle.nt_subs.specs.declared.wish.Wanted.TheVariants.{No, TopicOnly, Newest, All}
use Rattle.nt_rules.specs.Limits.{first_meta, last_connection, last_id}
use Rattle.nt_rules.specs.outbox.Marks.{is_meta, meta_wish}
use Rattle.nt_rules.specs.declared.act.Entry.{Entry}
use Rattle.nt_rules.specs.history.Lives.{Life}
use Rattle.nt_rules.specs.declared.start.Start.{Start}
use Rattle.nt_rules.specs.history.Now.{Connection, now_of}
use Rattle.nt_rules.specs.history.Metas.{meta_life, meta_lives, all_lives, of_topic_publishers, of_topic_subscriptions}
use Rattle.nt_rules.specs.history.Metas.{of_client_publishers, of_client_subscriptions, of_server}
use Rattle.nt_rules.specs.history.Owed.{is_all, wish_on, life_at}
use Rattle.nt_laws.proofs.histories.Facts.{IsNumberedLives, IsRising, IsNumberedConnections}
use Rattle.nt_rules.specs.history.Saved.{HasDistinctNames, IsSavedSet}
use Rattle.nt_laws.proofs.topics.FoundItems.{rising-from, rising-append, place-found}
use Rattle.nt_laws.proofs.topics.ItemFacts.{each-more, each-all, each-append, each-map}
use Rattle.nt_laws.proofs.marks.KeysOwed.{IsOrdinary, AreOrdinary}

-- ---- ids

numbered-rise : (base k n : ℕ) (f : Life → Life) → ((l : Life) → (f l).id ≡ base + l.id)
    → (lives : List Life) → IsNumberedLives k lives
    → base + k + length lives ≤ suc n → IsRising (λ l. l.id) (base + k) n (map f lives)
numbered-rise base k n f same [] h room = tt
numbered-rise base k n f same (l ∷ lives) h room =
    let id = h.0 in
    let e = same l in
    let next : suc (f l).id ≡ base + suc k = omega arith in (
      omega arith,
      omega arith,
      subst (λ m. IsRising (λ l. l.id) m n (map f lives)) (sym next)
          (numbered-rise base (suc k) n f same lives h.1 (omega arith)),
    )

numbered-rise-conns : (base k n : ℕ) (f : Connection → Life)
    → ((c : Connection) → (f c).id ≡ base + c.number) → (cs : List Connection)
    → IsNumberedConnections k cs → base + k + length cs ≤ suc n → IsRising (λ l. l.id) (base + k) n (map f cs)
numbered-rise-conns base k n f same [] h room = tt
numbered-rise-conns base k n f same (c ∷ cs) h room =
    let id = h.0 in
    let e = same c in
    let next : suc (f c).id ≡ base + suc k = omega arith in (
      omega arith,
      omega arith,
      subst (λ m. IsRising (λ l. l.id) m n (map f cs)) (sym next)
          (numbered-rise-conns base (suc k) n f same cs h.1 (omega arith)),
    )

lives-rise : (k n : ℕ) (lives : List Life) → IsNumberedLives k lives → k + length lives ≤ suc n
    → IsRising (λ l. l.id) k n lives
lives-rise k n [] h room = tt
lives-rise k n (l ∷ lives) h room =
    let id = h.0 in
    let next : suc l.id ≡ suc k = omega arith in (
      omega arith,
      omega arith,
      subst (λ m. IsRising (λ l. l.id) m n lives) (sym next)
          (lives-rise (suc k) n lives h.1 (omega arith)),
    )

-- a start whose topics fit the ids, and have different names
pub record IsFitStart (start : Start) : Type 0 where
  pub few : length start.saved ≤ last_id
  pub distinct : HasDistinctNames start.saved

-- topics that can be restored are few, and their names are different
pub saved-fit : (start : Start) → IsSavedSet start.saved → IsFitStart start
saved-fit start saved = record { few = omega (arith, saved.few); distinct = saved.names }

-- a history with few lives and connections, numbered
pub record IsNumbered (start : Start) (past : List Entry) : Type 0 where
  pub lives_numbered : IsNumberedLives 1 (now_of start past).lives
  pub lives_few : length (now_of start past).lives ≤ last_id
  pub connections_numbered : IsNumberedConnections 1 (now_of start past).connections
  pub connections_few : length (now_of start past).connections ≤ last_connection

pub all-rise : (start : Start) (past : List Entry) → IsNumbered start past
    → IsRising (λ l. l.id) 1 1610612739 (all_lives start past)
all-rise start past h =
    let few = h.lives_few in
    let few_conns = h.connections_few in
    rising-append (λ l. l.id) 1 last_id 1610612739 lives (meta_lives start past) (omega arith) (omega arith)
    (lives-rise 1 last_id lives h.lives_numbered (omega arith))
    (rising-append (λ l. l.id) (suc last_id) 1610612736 1610612739
    (pubs ++ subs ++ conn_pubs ++ conn_subs) _ (omega arith) (omega arith)
    (rising-append (λ l. l.id) (suc last_id) 1342177280 1610612736 (pubs ++ subs ++ conn_pubs) conn_subs
    (omega arith) (omega arith)
    (rising-append (λ l. l.id) (suc last_id) 1073741824 1342177280 (pubs ++ subs) conn_pubs (omega arith)
    (omega arith)
    (rising-append (λ l. l.id) (suc last_id) 805306368 1073741824 pubs subs (omega arith) (omega arith)
    (rising-from (λ l. l.id) (suc last_id) (of_topic_publishers + 1) 805306368 pubs (omega arith)
    (numbered-rise of_topic_publishers 1 805306368 _ (λ l. refl) lives h.lives_numbered (omega arith)))
    (numbered-rise of_topic_subscriptions 1 1073741824 _ (λ l. refl) lives h.lives_numbered (omega arith)))
    (numbered-rise-conns of_client_publishers 1 1342177280 _ (λ c. refl) conns h.connections_numbered
    (omega arith)))
    (numbered-rise-conns of_client_subscriptions 1 1610612736 _ (λ c. refl) conns h.connections_numbered
    (omega arith)))
    (omega arith, omega arith, (omega arith, omega arith, (omega arith, omega arith, tt))))
  where
    lives : List Life
    lives = (now_of start past).lives

    conns : List Connection
    conns = (now_of start past).connections

    pubs : List Life
    pubs = map (λ l. meta_life start past (of_topic_publishers + l.id) (codes "$pub$" ++ l.name) l.over) lives

    subs : List Life
    subs = map
        (λ l. meta_life start past (of_topic_subscriptions + l.id) (codes "$sub$" ++ l.name) l.over) lives

    conn_pubs : List Life
    conn_pubs =
        map (λ c. meta_life start past (of_client_publishers + c.number)
        (codes "$client_pub$" ++ c.name) c.over) conns

    conn_subs : List Life
    conn_subs =
        map (λ c. meta_life start past (of_client_subscriptions + c.number)
        (codes "$client_sub$" ++ c.name) c.over) conns

-- each life is the one that its id finds
pub all-found : (start : Start) (past : List Entry) → IsNumbered start past
    → AllByRecursion (λ l. life_at l.id (all_lives start past) ≡ Some l) (all_lives start past)
all-found start past h = place-found (λ l. l.id) 1 1610612739 (all_lives start past) (all-rise start past h)

-- ---- kinds

-- the life of a client's topic
pub clients-below : (k : ℕ) (lives : List Life) → IsNumberedLives k lives → k + length lives ≤ first_meta
    → AllByRecursion (λ l. is_meta l.id ≡ false) lives
clients-below k [] h room = tt
clients-below k (l ∷ lives) h room =
    let id = h.0 in
    let below : is_meta l.id ≡ false = grind (arith, nat_tests) in
    (below, clients-below (suc k) lives h.1 (omega arith))

-- the life of a meta topic
pub record IsMetaLife (start : Start) (past : List Entry) (l : Life) : Type 0 where
  pub is_one : is_meta l.id ≡ true
  pub life_is : l ≡ meta_life start past l.id l.name l.over

meta-is : (start : Start) (past : List Entry) (base n : ℕ) (name : List ℕ) (over : Option ℕ)
    → first_meta ≤ base
    → IsMetaLife start past (meta_life start past (base + n) name over)
meta-is start past base n name over h = record { is_one = grind (arith, nat_tests); life_is = refl }

pub metas-are : (start : Start) (past : List Entry)
    → AllByRecursion (IsMetaLife start past) (meta_lives start past)
metas-are start past =
    each-append P (map pubs lives ++ map subs lives ++ map conn_pubs conns ++ map conn_subs conns) _
    (each-append P (map pubs lives ++ map subs lives ++ map conn_pubs conns) (map conn_subs conns)
    (each-append P (map pubs lives ++ map subs lives) (map conn_pubs conns)
    (each-append P (map pubs lives) (map subs lives)
    (each-map P pubs lives
    (each-all (λ l. P (pubs l))
    (λ l. meta-is start past of_topic_publishers l.id (codes "$pub$" ++ l.name) l.over (omega arith)) lives))
    (each-map P subs lives
    (each-all (λ l. P (subs l))
    (λ l. meta-is start past of_topic_subscriptions l.id (codes "$sub$" ++ l.name) l.over
    (omega arith)) lives)))
    (each-map P conn_pubs conns
    (each-all (λ c. P (conn_pubs c))
    (λ c. meta-is start past of_client_publishers c.number (codes "$client_pub$" ++ c.name) c.over
    (omega arith)) conns)))
    (each-map P conn_subs conns
    (each-all (λ c. P (conn_subs c))
    (λ c. meta-is start past of_client_subscriptions c.number (codes "$client_sub$" ++ c.name) c.over
    (omega arith)) conns))) (
      meta-is start past of_server 1 (codes "$clients") None (omega arith),
      (
        meta-is start past of_server 2 (codes "$server_pub") None (omega arith),
        (meta-is start past of_server 3 (codes "$server_sub") None (omega arith), tt),
      ),
    )
  where
    P : Life → Type 0
    P l = IsMetaLife start past l

    lives : List Life
    lives = (now_of start past).lives

    conns : List Connection
    conns = (now_of start past).connections

    pubs : Life → Life
    pubs l = meta_life start past (of_topic_publishers + l.id) (codes "$pub$" ++ l.name) l.over

    subs : Life → Life
    subs l = meta_life start past (of_topic_subscriptions + l.id) (codes "$sub$" ++ l.name) l.over

    conn_pubs : Connection → Life
    conn_pubs c =
        meta_life start past (of_client_publishers + c.number) (codes "$client_pub$" ++ c.name) c.over

    conn_subs : Connection → Life
    conn_subs c =
        meta_life start past (of_client_subscriptions + c.number) (codes "$client_sub$" ++ c.name) c.over

-- ---- each life owes by its kind

pub never-all : (w : Wanted) → is_all (meta_wish w) ≡ false
never-all No = refl
never-all TopicOnly = refl
never-all Newest = refl
never-all All = refl

pub meta-ordinary : (start : Start) (past : List Entry) (wish : List ℕ → Wanted) (l : Life)
    → IsMetaLife start past l
    → IsOrdinary (wish_on wish l) l
meta-ordinary start past wish l h = record {
  no_publishings = λ f. ap (λ (m : Life). m.publishings) h.life_is;
  no_settings = λ f. ap (λ (m : Life). m.settings) h.life_is;
  cached = λ f. ap (λ (m : Life). is_cached m.props) h.life_is;
  not_all = λ f. ap (λ b. is_all (cond b (meta_wish (wish l.name)) (wish l.name))) f
      ∙ never-all (wish l.name);
}

client-ordinary : (wish : Wanted) (l : Life) → is_meta l.id ≡ false → IsOrdinary wish l
client-ordinary wish l e =
    record { no_publishings = λ f. cc; no_settings = λ f. cc; cached = λ f. cc; not_all = λ f. cc }

pub all-ordinary : (start : Start) (past : List Entry) (wish : List ℕ → Wanted) → IsNumbered start past
    → AreOrdinary (wish_on wish) (all_lives start past)
all-ordinary start past wish h =
    let few = h.lives_few in
    each-append (λ l. IsOrdinary (wish_on wish l) l) (now_of start past).lives (meta_lives start past)
    (each-more (λ l. is_meta l.id ≡ false) (λ l. IsOrdinary (wish_on wish l) l)
    (λ l e. client-ordinary (wish_on wish l) l e) (now_of start past).lives
    (clients-below 1 (now_of start past).lives h.lives_numbered (omega arith)))
    (each-more (IsMetaLife start past) (λ l. IsOrdinary (wish_on wish l) l)
    (λ l m. meta-ordinary start past wish l m) (meta_lives start past) (metas-are start past))
