-- An entry leaves the meta topics as they were, ends some, and begins others.
use Rattle.std.proofs.Common.{◌≡◌, ◌<◌, ◌≤◌, ◌+◌, ◌==◌, ◌++◌, ◌&&◌, ◌||◌, ◌⊎◌, ℕ, Bool, true, false, cond, List, []}
use Rattle.std.proofs.Common.{◌∷◌, Option, Some, None, map, length, codes, inl, inr, refl, sym, ap, subst, arith}
use Rattle.std.specs.Prelude.{is_none}
use Rattle.std.specs.List.{list_any}
use Rattle.std.proofs.lemmas.Bool.Decides.{nat_tests}
use Rattle.nt_control.specs.declared.message.ClientMsg.TheVariants.{Publish, Unpublish, SetProps, Subscribe}
use Rattle.nt_control.specs.declared.message.ClientMsg.TheVariants.{Unsubscribe}
use Rattle.nt_subs.specs.Subscriptions.{Subs, with_sub, without_sub}
use Rattle.nt_rules.specs.declared.topic.Pub.{Pub}
use Rattle.nt_rules.specs.declared.topic.Topic.{Topic}
use Rattle.nt_rules.specs.topics.Topics.{lives_on, has_conn, is_named, has_publisher}
use Rattle.nt_rules.specs.declared.act.Msg.{Msg}
use Rattle.nt_rules.specs.declared.act.Msg.TheVariants as msg
use Rattle.nt_rules.specs.declared.act.Deed.{Deed}
use Rattle.nt_rules.specs.declared.act.Deed.TheVariants.{Opened, NotOpened, Said, Drained, Closed, Permitted, NoPermit}
use Rattle.nt_rules.specs.declared.act.Deed.TheVariants.{Shut}
use Rattle.nt_rules.specs.declared.act.Entry.{Entry}
use Rattle.nt_rules.specs.history.Lives.{Life, topics, topic_of, is_living, at_living, or_ended, with_publishing, born}
use Rattle.nt_rules.specs.history.Lives.{without_publisher, without_conn, with_setting, with_a_put, closed_for}
use Rattle.nt_rules.specs.history.Now.{Now, Connection, is_conn, is_open_for, with_subs, closed, opened, cause_of}
use Rattle.nt_rules.specs.history.Now.{is_traced, connections_after, lives_after, after_deed, after}
use Rattle.nt_laws.proofs.metas.MetaRows.{Row, row_of_life, row_of_conn, raised, server_rows, topic_pubs, topic_subs}
use Rattle.nt_laws.proofs.metas.MetaRows.{client_pubs, client_subs, rows_by, meta_rows, row_at, RowsAbove, RowsRise}
use Rattle.nt_laws.proofs.topics.Turns.{setting-by}
use Rattle.nt_laws.proofs.metas.MetaRows.{row-above}

-- ---- rows that grow

-- a row stays, or what it tells of ends at a place
abbrev pub Goes : ℕ → Row → Row → Type 0
Goes place r s = (s ≡ r) ⊎ ((r.over ≡ None) × (s ≡ record r { over = Some place }))

-- each row goes on, and there are new ones of what doesn't end
abbrev pub RowsGrow : ℕ → List Row → List Row → Type 0
RowsGrow place [] [] = Unit {0}
RowsGrow place (r ∷ rows) [] = ⊥
RowsGrow place [] (s ∷ after) = (s.over ≡ None) × RowsGrow place [] after
RowsGrow place (r ∷ rows) (s ∷ after) =
    (Goes place r s × RowsGrow place rows after) ⊎ ((s.over ≡ None) × RowsGrow place (r ∷ rows) after)

grow-new : (place : ℕ) (s : Row) (rows after : List Row) → s.over ≡ None → RowsGrow place rows after
    → RowsGrow place rows (s ∷ after)
grow-new place s [] after e h = (e, h)
grow-new place s (r ∷ rows) after e h = inr (e, h)

grow-same : (place : ℕ) (rows : List Row) → RowsGrow place rows rows
grow-same place [] = tt
grow-same place (r ∷ rows) = inl (inl refl, grow-same place rows)

grow-push : (place : ℕ) (rows : List Row) (s : Row) → s.over ≡ None → RowsGrow place rows (rows ++ s ∷ [])
grow-push place [] s e = (e, tt)
grow-push place (r ∷ rows) s e = inl (inl refl, grow-push place rows s e)

grow-append : (place : ℕ) (xs xs' ys ys' : List Row) → RowsGrow place xs xs' → RowsGrow place ys ys'
    → RowsGrow place (xs ++ ys) (xs' ++ ys')
grow-append place [] [] ys ys' g h = h
grow-append place (x ∷ xs) [] ys ys' g h = absurd g
grow-append place [] (s ∷ xs') ys ys' g h =
    grow-new place s ys (xs' ++ ys') g.0 (grow-append place [] xs' ys ys' g.1 h)
grow-append place (x ∷ xs) (s ∷ xs') ys ys' (inl g) h = inl (g.0, grow-append place xs xs' ys ys' g.1 h)
grow-append place (x ∷ xs) (s ∷ xs') ys ys' (inr g) h = inr (g.0, grow-append place (x ∷ xs) xs' ys ys' g.1 h)

grow-raised : (place base : ℕ) (prefix : List ℕ) (rows after : List Row) → RowsGrow place rows after
    → RowsGrow place (map (raised base prefix) rows) (map (raised base prefix) after)
grow-raised place base prefix [] [] g = tt
grow-raised place base prefix (r ∷ rows) [] g = absurd g
grow-raised place base prefix [] (s ∷ after) g = (g.0, grow-raised place base prefix [] after g.1)
grow-raised place base prefix (r ∷ rows) (s ∷ after) (inl g) =
    inl (goes g.0, grow-raised place base prefix rows after g.1)
  where
    goes : Goes place r s → Goes place (raised base prefix r) (raised base prefix s)
    goes (inl e) = inl (ap (raised base prefix) e)
    goes (inr e) = inr (e.0, ap (raised base prefix) e.1)
grow-raised place base prefix (r ∷ rows) (s ∷ after) (inr g) =
    inr (g.0, grow-raised place base prefix (r ∷ rows) after g.1)

-- the meta topics grow with the topics and the connections
grow-by : (place : ℕ) (ts ts' cs cs' : List Row) → RowsGrow place ts ts' → RowsGrow place cs cs'
    → RowsGrow place (rows_by ts cs) (rows_by ts' cs')
grow-by place ts ts' cs cs' g h =
    grow-append place (topic_pubs ts) (topic_pubs ts') _ _ (grow-raised place _ (codes "$pub$") ts ts' g)
    (grow-append place (topic_subs ts) (topic_subs ts') _ _ (grow-raised place _ (codes "$sub$") ts ts' g)
    (grow-append place (client_pubs cs) (client_pubs cs') _ _
    (grow-raised place _ (codes "$client_pub$") cs cs' h)
    (grow-append place (client_subs cs) (client_subs cs') server_rows server_rows
    (grow-raised place _ (codes "$client_sub$") cs cs' h)
    (grow-same place server_rows))))

-- ---- lives

goes-on : (place : ℕ) (l m : Life) → is_living l ≡ true → row_of_life m ≡ row_of_life l
    → Goes place (row_of_life l) (row_of_life (or_ended place m))
goes-on place l m living same = by (lives_on (topic_of m))
  where
    open-end : (o : Option ℕ) → is_none o ≡ true → o ≡ None
    open-end None e = refl
    open-end (Some n) e = absurd (cc)

    by : (b : Bool) → Goes place (row_of_life l) (row_of_life (cond b m (record m { over = Some place })))
    by true = inl same
    by false = inr (open-end l.over living, ap (λ (r : Row). record r { over = Some place }) same)

grow-at : (place : ℕ) (test : Topic → Bool) (f : Life → Life)
    → ((l : Life) → is_living l ≡ true → Goes place (row_of_life l) (row_of_life (f l)))
    → (lives : List Life) → RowsGrow place (map row_of_life lives) (map row_of_life (at_living test f lives))
grow-at place test f goes [] = tt
grow-at place test f goes (l ∷ lives) =
    by (grow-at place test f goes lives) (is_living l) refl (test (topic_of l))
  where
    by : RowsGrow place (map row_of_life lives) (map row_of_life (at_living test f lives)) → (b : Bool)
        → is_living l ≡ b → (c : Bool)
        → RowsGrow place (map row_of_life (l ∷ lives))
        (map row_of_life (cond (b && c) (f l ∷ lives) (l ∷ at_living test f lives)))
    by more true e true = inl (goes l e, grow-same place (map row_of_life lives))
    by more true e false = inl (inl refl, more)
    by more false e c = inl (inl refl, more)

grow-closed : (place conn : ℕ) (lives : List Life)
    → RowsGrow place (map row_of_life lives) (map row_of_life (map (closed_for place conn) lives))
grow-closed place conn [] = tt
grow-closed place conn (l ∷ lives) =
    inl (by (is_living l) refl (has_conn conn (topic_of l)), grow-closed place conn lives)
  where
    by : (b : Bool) → is_living l ≡ b → (c : Bool)
        → Goes place (row_of_life l)
        (row_of_life (cond (b && c) (or_ended place (without_conn conn l)) (without_conn conn l)))
    by true e true = goes-on place l (without_conn conn l) e refl
    by true e false = inl refl
    by false e c = inl refl

grow-push-life : (place : ℕ) (lives : List Life) (l : Life) → l.over ≡ None
    → RowsGrow place (map row_of_life lives) (map row_of_life (lives ++ l ∷ []))
grow-push-life place [] l e = (e, tt)
grow-push-life place (m ∷ lives) l e = inl (inl refl, grow-push-life place lives l e)

lives-said : (place : ℕ) (lives : List Life) (conn : ℕ) (m : Msg)
    → RowsGrow place (map row_of_life lives) (map row_of_life (lives_after place lives conn m))
lives-said place lives conn (msg.Control (Publish name uid typ props)) =
    by (list_any (is_named name) (topics lives))
  where
    p : Pub
    p = record { conn = conn; uid = uid; typ = typ }

    by : (b : Bool) → RowsGrow place (map row_of_life lives)
        (map row_of_life (cond b (at_living (is_named name) (with_publishing place p) lives)
        (lives ++ born place (length lives + 1) name typ props p ∷ [])))
    by true = grow-at place (is_named name) (with_publishing place p) (λ l e. inl refl) lives
    by false = grow-push-life place lives (born place (length lives + 1) name typ props p) refl
lives-said place lives conn (msg.Control (Unpublish uid)) =
    grow-at place (has_publisher conn uid) (λ l. or_ended place (without_publisher conn uid l))
    (λ l e. goes-on place l (without_publisher conn uid l) e refl) lives
lives-said place lives conn (msg.Control (SetProps name update)) =
    grow-at place (is_named name) (λ l. or_ended place (with_setting place conn update l))
    (λ l e. goes-on place l (with_setting place conn update l) e
    (setting-by place conn update l (λ m. row_of_life m ≡ row_of_life l) refl refl)) lives
lives-said place lives conn (msg.Control (Subscribe uid sub)) = grow-same place (map row_of_life lives)
lives-said place lives conn (msg.Control (Unsubscribe uid)) = grow-same place (map row_of_life lives)
lives-said place lives conn (msg.Put v) =
    grow-at place (has_publisher conn v.id)
    (with_a_put (record { place = place; time = v.time; value = v.value })) (λ l e. inl refl) lives

-- ---- connections

grow-subs : (place conn : ℕ) (f : Subs → Subs) (cs : List Connection)
    → RowsGrow place (map row_of_conn cs) (map row_of_conn (with_subs conn f cs))
grow-subs place conn f [] = tt
grow-subs place conn f (c ∷ cs) = inl (inl (by (is_conn conn c)), grow-subs place conn f cs)
  where
    by : (b : Bool) → row_of_conn (cond b (record c { subs = f c.subs }) c) ≡ row_of_conn c
    by true = refl
    by false = refl

grow-shut : (place conn : ℕ) (cs : List Connection)
    → RowsGrow place (map row_of_conn cs) (map row_of_conn (closed place conn cs))
grow-shut place conn [] = tt
grow-shut place conn (c ∷ cs) = inl (by c.over refl (c.number == conn), grow-shut place conn cs)
  where
    by : (o : Option ℕ) → c.over ≡ o → (b : Bool)
        → Goes place (row_of_conn c) (row_of_conn (cond (is_none o && b) (record c { over = Some place }) c))
    by None e true = inr (e, refl)
    by None e false = inl refl
    by (Some n) e b = inl refl

grow-push-conn : (place : ℕ) (cs : List Connection) (c : Connection) → c.over ≡ None
    → RowsGrow place (map row_of_conn cs) (map row_of_conn (cs ++ c ∷ []))
grow-push-conn place [] c e = (e, tt)
grow-push-conn place (d ∷ cs) c e = inl (inl refl, grow-push-conn place cs c e)

connections-said : (place : ℕ) (cs : List Connection) (conn : ℕ) (m : Msg)
    → RowsGrow place (map row_of_conn cs) (map row_of_conn (connections_after cs conn m))
connections-said place cs conn (msg.Control (Publish name uid typ props)) =
    grow-same place (map row_of_conn cs)
connections-said place cs conn (msg.Control (Unpublish uid)) = grow-same place (map row_of_conn cs)
connections-said place cs conn (msg.Control (SetProps name update)) = grow-same place (map row_of_conn cs)
connections-said place cs conn (msg.Control (Subscribe uid sub)) = grow-subs place conn (with_sub uid sub) cs
connections-said place cs conn (msg.Control (Unsubscribe uid)) = grow-subs place conn (without_sub uid) cs
connections-said place cs conn (msg.Put v) = grow-same place (map row_of_conn cs)

-- ---- entries

-- the lives and the connections of the present grow
record GrowsTo (n after : Now) : Type 0 where
  lives : RowsGrow (n.place + 1) (map row_of_life n.lives) (map row_of_life after.lives)
  connections : RowsGrow (n.place + 1) (map row_of_conn n.connections) (map row_of_conn after.connections)

deed-grows : (n : Now) (worker conn : ℕ) (d : Deed) → GrowsTo n (after_deed n worker conn d)
deed-grows n worker conn d = by d
  where
    same-lives : RowsGrow (n.place + 1) (map row_of_life n.lives) (map row_of_life n.lives)
    same-lives = grow-same (n.place + 1) (map row_of_life n.lives)

    same-conns : RowsGrow (n.place + 1) (map row_of_conn n.connections) (map row_of_conn n.connections)
    same-conns = grow-same (n.place + 1) (map row_of_conn n.connections)

    said : (m : Msg) (b : Bool)
        → GrowsTo n (cond b (record n {
          connections = connections_after n.connections conn m;
          lives =
              lives_after (n.place + 1) n.lives conn m;
        }) n)
    said m true =
        record {
          lives = lives-said (n.place + 1) n.lives conn m;
          connections =
              connections-said (n.place + 1) n.connections conn m;
        }
    said m false = record { lives = same-lives; connections = same-conns }

    shut : (b : Bool)
        → GrowsTo n (cond b (record n {
          connections = closed (n.place + 1) conn n.connections;
          lives =
              map (closed_for (n.place + 1) conn) n.lives;
        }) n)
    shut true = record {
      lives = grow-closed (n.place + 1) conn n.lives;
      connections =
          grow-shut (n.place + 1) conn n.connections;
    }
    shut false = record { lives = same-lives; connections = same-conns }

    by : (d : Deed) → GrowsTo n (after_deed n worker conn d)
    by (Opened name) =
        record {
          lives = same-lives;
          connections =
              grow-push-conn (n.place + 1) n.connections (opened worker conn name) refl;
        }
    by NotOpened = record { lives = same-lives; connections = same-conns }
    by (Said m) = said m (is_traced m (cause_of n worker conn m))
    by (Drained batch) = record { lives = same-lives; connections = same-conns }
    by Closed = shut (is_open_for n.connections worker conn)
    by Permitted = record { lives = same-lives; connections = same-conns }
    by NoPermit = record { lives = same-lives; connections = same-conns }
    by Shut = record { lives = same-lives; connections = same-conns }

-- the meta topics grow
pub metas-grow : (n : Now) (e : Entry) → RowsGrow (n.place + 1) (meta_rows n) (meta_rows (after n e))
metas-grow n e =
    let g = deed-grows n e.worker e.conn e.deed in
    grow-by (n.place + 1) (map row_of_life n.lives) _ (map row_of_conn n.connections) _ g.lives g.connections

-- all rows, of topics and of meta topics
abbrev pub rows_of : Now → List Row
rows_of n = map row_of_life n.lives ++ meta_rows n

pub rows-grow : (n : Now) (e : Entry) → RowsGrow (n.place + 1) (rows_of n) (rows_of (after n e))
rows-grow n e =
    grow-append (n.place + 1) (map row_of_life n.lives) (map row_of_life (after n e).lives) (meta_rows n)
    (meta_rows (after n e))
    (deed-grows n e.worker e.conn e.deed).lives (metas-grow n e)

-- an id that a row has stays one that a row has
abbrev pub has_row : ℕ → List Row → Bool
has_row k rows = list_any (λ r. r.id == k) rows

-- ---- what is found at an id

-- none before and none after; a new one, which doesn't end; one that stays or ends
abbrev pub Grown : ℕ → Option Row → Option Row → Type 0
Grown place None None = Unit {0}
Grown place None (Some s) = s.over ≡ None
Grown place (Some r) None = ⊥
Grown place (Some r) (Some s) = Goes place r s

same-id : (place : ℕ) (r s : Row) → Goes place r s → s.id ≡ r.id
same-id place r s (inl e) = ap (λ (r : Row). r.id) e
same-id place r s (inr e) = ap (λ (r : Row). r.id) e.1

above-before : (place n : ℕ) (rows after : List Row) → RowsAbove n after → RowsGrow place rows after
    → RowsAbove n rows
above-before place n [] after h g = tt
above-before place n (r ∷ rows) [] h g = absurd g
above-before place n (r ∷ rows) (s ∷ after) h (inl g) =
    (subst (λ k. n < k) (same-id place r s g.0) h.0, above-before place n rows after h.1 g.1)
above-before place n (r ∷ rows) (s ∷ after) h (inr g) = above-before place n (r ∷ rows) after h.1 g.1

pub has-grown : (place k : ℕ) (rows after : List Row) → RowsGrow place rows after → has_row k rows ≡ true
    → has_row k after ≡ true
has-grown place k [] after g h = absurd (cc)
has-grown place k (r ∷ rows) [] g h = absurd g
has-grown place k (r ∷ rows) (s ∷ after) (inl g) h =
    by (s.id == k) (r.id == k) (ap (λ n. n == k) (same-id place r s g.0))
    (λ h. has-grown place k rows after g.1 h) h
  where
    by : (b c : Bool) → b ≡ c → (has_row k rows ≡ true → has_row k after ≡ true) → (c || has_row k rows)
        ≡ true
        → (b || has_row k after) ≡ true
    by true c e more h = refl
    by false true e more h = absurd (cc)
    by false false e more h = more h
has-grown place k (r ∷ rows) (s ∷ after) (inr g) h = by (s.id == k) (has-grown place k (r ∷ rows) after g.1 h)
  where
    by : (b : Bool) → has_row k after ≡ true → (b || has_row k after) ≡ true
    by true more = refl
    by false more = more

pub grown-at : (place k : ℕ) (rows after : List Row) → RowsRise after → RowsGrow place rows after
    → Grown place (row_at k rows) (row_at k after)
grown-at place k [] [] h g = tt
grown-at place k (r ∷ rows) [] h g = absurd g
grown-at place k [] (s ∷ after) h g = by (s.id == k) (grown-at place k [] after h.1 g.1)
  where
    by : (b : Bool) → Grown place None (row_at k after) → Grown place None (cond b (Some s) (row_at k after))
    by true more = g.0
    by false more = more
grown-at place k (r ∷ rows) (s ∷ after) h (inl g) =
    by (s.id == k) (r.id == k) (ap (λ n. n == k) (same-id place r s g.0))
    (grown-at place k rows after h.1 g.1)
  where
    by : (b c : Bool) → b ≡ c → Grown place (row_at k rows) (row_at k after)
        → Grown place (cond c (Some r) (row_at k rows)) (cond b (Some s) (row_at k after))
    by true true e more = g.0
    by true false e more = absurd (cc)
    by false true e more = absurd (cc)
    by false false e more = more
grown-at place k (r ∷ rows) (s ∷ after) h (inr g) =
    by (s.id == k) refl (grown-at place k (r ∷ rows) after h.1 g.1)
  where
    by : (b : Bool) → (s.id == k) ≡ b → Grown place (row_at k (r ∷ rows)) (row_at k after)
        → Grown place (row_at k (r ∷ rows)) (cond b (Some s) (row_at k after))
    by true e more =
        let le : k ≤ s.id = grind (arith, nat_tests) in
        subst (λ o. Grown place o (Some s))
        (sym (row-above k s.id (r ∷ rows) le (above-before place s.id (r ∷ rows) after h.0 g.1))) g.0
    by false e more = more
