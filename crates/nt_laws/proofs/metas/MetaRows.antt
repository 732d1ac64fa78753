-- The meta topics of a history by their rows: which there are, which of them live, and how they grow.
use Rattle.std.proofs.Common.{◌≡◌, ◌<◌, ◌≤◌, ◌+◌, ◌==◌, ◌++◌, ℕ, Bool, true, false, cond, List, [], ◌∷◌, Option, Some}
use Rattle.std.proofs.Common.{None, option_map, map, filter, codes, refl, sym, subst, append_assoc, ◌∙◌, ap, arith}
use Rattle.std.specs.Prelude.{is_none}
use Rattle.std.specs.List.{find, cons_option}
use Rattle.std.proofs.lemmas.List.{map-append}
use Rattle.std.proofs.lemmas.List.Elements.{filter-append}
use Rattle.std.proofs.lemmas.Bool.Decides.{nat_tests}
use Rattle.nt_rules.specs.declared.topic.Topic.{Topic}
use Rattle.nt_rules.specs.declared.roster.ConnRow.{ConnRow}
use Rattle.nt_rules.specs.declared.roster.LifeRow.{LifeRow}
use Rattle.nt_rules.specs.declared.roster.Roster.{Roster}
use Rattle.nt_rules.specs.declared.meta.MetaNow.{MetaNow}
use Rattle.nt_rules.specs.meta.Meta.{topic_pub, topic_sub, client_pub, client_sub}
use Rattle.nt_rules.specs.declared.act.Entry.{Entry}
use Rattle.nt_rules.specs.history.Lives.{Life, topics, topic_of}
use Rattle.nt_rules.specs.declared.start.Start.{Start}
use Rattle.nt_rules.specs.history.Now.{Now, Connection, open_ones, now_of}
use Rattle.nt_rules.specs.history.Metas.{conn_row, life_row, roster_of, metas_now, meta_life, meta_lives}
use Rattle.nt_rules.specs.history.Metas.{of_topic_publishers, of_topic_subscriptions, of_client_publishers}
use Rattle.nt_rules.specs.history.Metas.{of_client_subscriptions, of_server}
use Rattle.nt_rules.specs.history.Owed.{life_at}
use Rattle.nt_laws.proofs.metas.Differences.{meta_of, MetasAbove, MetasRise}

-- ---- rows

-- what lives for a time: its id, its name, and the place of its end
pub record Row : Type 0 where
  pub id : ℕ
  pub name : List ℕ
  pub over : Option ℕ

abbrev pub row_of_life : Life → Row
row_of_life l = record { id = l.id; name = l.name; over = l.over }

abbrev pub row_of_conn : Connection → Row
row_of_conn c = record { id = c.number; name = c.name; over = c.over }

-- the row of a meta topic of what has this row
abbrev pub raised : ℕ → List ℕ → Row → Row
raised base prefix r = record { id = base + r.id; name = prefix ++ r.name; over = r.over }

abbrev pub server_row : ℕ → List ℕ → Row
server_row number name = record { id = of_server + number; name = name; over = None }

abbrev pub server_rows : List Row
server_rows = server_row 1 (codes "$clients") ∷ server_row 2 (codes "$server_pub") ∷ server_row 3
    (codes "$server_sub") ∷ []

-- of topics and of connections with these rows
abbrev pub topic_pubs : List Row → List Row
topic_pubs ts = map (raised of_topic_publishers (codes "$pub$")) ts

abbrev pub topic_subs : List Row → List Row
topic_subs ts = map (raised of_topic_subscriptions (codes "$sub$")) ts

abbrev pub client_pubs : List Row → List Row
client_pubs cs = map (raised of_client_publishers (codes "$client_pub$")) cs

abbrev pub client_subs : List Row → List Row
client_subs cs = map (raised of_client_subscriptions (codes "$client_sub$")) cs

abbrev pub rows_by : List Row → List Row → List Row
rows_by ts cs = topic_pubs ts ++ (topic_subs ts ++ (client_pubs cs ++ (client_subs cs ++ server_rows)))

abbrev pub meta_rows : Now → List Row
meta_rows n = rows_by (map row_of_life n.lives) (map row_of_conn n.connections)

abbrev pub row_at : ℕ → List Row → Option Row
row_at k rows = find (λ r. r.id == k) rows

regrouped : (a b c d e : List Row) → (((a ++ b) ++ c) ++ d) ++ e ≡ a ++ (b ++ (c ++ (d ++ e)))
regrouped a b c d e = simp append_assoc

-- ---- their lives

abbrev pub life_of : Start → List Entry → Row → Life
life_of start past r = meta_life start past r.id r.name r.over

map-three : {X A B C : Type 0} (f : B → C) (g : A → B) (h : X → A) (k : X → C) → ((x : X) → k x ≡ f (g (h x)))
    → (xs : List X)
    → map k xs ≡ map f (map g (map h xs))
map-three f g h k same [] = refl
map-three f g h k same (x ∷ xs) = ap (λ y. y ∷ map k xs) (same x)
    ∙ ap (λ ys. f (g (h x)) ∷ ys) (map-three f g h k same xs)

-- what is joined from equal parts
joined : {X Y : Type 0} (f : X → Y) (us vs : List Y) (xs ys : List X) → us ≡ map f xs → vs ≡ map f ys
    → us ++ vs ≡ map f (xs ++ ys)
joined f us vs xs ys e e' = ap (λ zs. zs ++ vs) e ∙ ap (λ zs. map f xs ++ zs) e' ∙ sym (map-append f xs ys)

pub meta-lives : (start : Start) (past : List Entry) → meta_lives start past
    ≡ map (life_of start past) (meta_rows (now_of start past))
meta-lives start past =
    joined f _ _ (((topic_pubs ts ++ topic_subs ts) ++ client_pubs cs) ++ client_subs cs) server_rows
    (joined f _ _ ((topic_pubs ts ++ topic_subs ts) ++ client_pubs cs) (client_subs cs)
    (joined f _ _ (topic_pubs ts ++ topic_subs ts) (client_pubs cs)
    (joined f _ _ (topic_pubs ts) (topic_subs ts) (of-lives of_topic_publishers (codes "$pub$"))
    (of-lives of_topic_subscriptions (codes "$sub$")))
    (of-conns of_client_publishers (codes "$client_pub$")))
    (of-conns of_client_subscriptions (codes "$client_sub$")))
    refl
    ∙ ap (map f) (regrouped (topic_pubs ts) (topic_subs ts) (client_pubs cs) (client_subs cs) server_rows)
  where
    f : Row → Life
    f r = life_of start past r

    ts : List Row
    ts = map row_of_life (now_of start past).lives

    cs : List Row
    cs = map row_of_conn (now_of start past).connections

    of-lives : (base : ℕ) (prefix : List ℕ)
        → map (λ l. meta_life start past (base + l.id) (prefix ++ l.name) l.over) (now_of start past).lives
        ≡ map f (map (raised base prefix) (map row_of_life (now_of start past).lives))
    of-lives base prefix = map-three f (raised base prefix) row_of_life _ (λ l. refl)
        (now_of start past).lives

    of-conns : (base : ℕ) (prefix : List ℕ)
        → map (λ c. meta_life start past (base + c.number) (prefix ++ c.name) c.over)
        (now_of start past).connections
        ≡ map f (map (raised base prefix) (map row_of_conn (now_of start past).connections))
    of-conns base prefix = map-three f (raised base prefix) row_of_conn _ (λ c. refl)
        (now_of start past).connections

life-of-row : (start : Start) (past : List Entry) (k : ℕ) (rows : List Row)
    → life_at k (map (life_of start past) rows) ≡ option_map (life_of start past) (row_at k rows)
life-of-row start past k [] = refl
life-of-row start past k (r ∷ rows) = by (life-of-row start past k rows) (r.id == k)
  where
    by : life_at k (map (life_of start past) rows) ≡ option_map (life_of start past) (row_at k rows)
        → (b : Bool)
        → cond b (Some (life_of start past r)) (life_at k (map (life_of start past) rows))
        ≡ option_map (life_of start past) (cond b (Some r) (row_at k rows))
    by more true = refl
    by more false = more

-- the life of the meta topic with an id
pub meta-life-at : (start : Start) (past : List Entry) (k : ℕ)
    → life_at k (meta_lives start past)
    ≡ option_map (life_of start past) (row_at k (meta_rows (now_of start past)))
meta-life-at start past k = ap (λ lives. life_at k lives) (meta-lives start past)
    ∙ life-of-row start past k (meta_rows (now_of start past))

-- ---- those that live

abbrev pub row_lives : Row → Bool
row_lives r = is_none r.over

abbrev pub row_of_meta : MetaNow → Row
row_of_meta m = record { id = m.id; name = m.name; over = None }

-- what lives of two parts
parted : (ms ms' : List MetaNow) (rows rows' : List Row) → map row_of_meta ms ≡ filter row_lives rows
    → map row_of_meta ms' ≡ filter row_lives rows'
    → map row_of_meta (ms ++ ms') ≡ filter row_lives (rows ++ rows')
parted ms ms' rows rows' e e' =
    map-append row_of_meta ms ms' ∙ ap (λ zs. zs ++ map row_of_meta ms') e
    ∙ ap (λ zs. filter row_lives rows ++ zs) e'
    ∙ sym (filter-append row_lives rows rows')

-- the meta topics that live are those whose rows don't end
pub meta-rows : (n : Now) → map row_of_meta (metas_now n) ≡ filter row_lives (meta_rows n)
meta-rows n =
    parted _ _ (topic_pubs rows)
    (topic_subs rows ++ (client_pubs conns ++ (client_subs conns ++ server_rows)))
    (of-topics (topic_pub roster) of_topic_publishers (codes "$pub$") (λ t. refl) n.lives)
    (parted _ _ (topic_subs rows) (client_pubs conns ++ (client_subs conns ++ server_rows))
    (of-topics (topic_sub roster) of_topic_subscriptions (codes "$sub$") (λ t. refl) n.lives)
    (parted _ _ (client_pubs conns) (client_subs conns ++ server_rows)
    (of-conns client_pub of_client_publishers (codes "$client_pub$") (λ t. refl) n.connections)
    (parted _ _ (client_subs conns) server_rows
    (of-conns client_sub of_client_subscriptions (codes "$client_sub$") (λ t. refl) n.connections) refl)))
  where
    ts : List Topic
    ts = topics n.lives

    roster : Roster
    roster = roster_of (open_ones n.connections) ts

    rows : List Row
    rows = map row_of_life n.lives

    conns : List Row
    conns = map row_of_conn n.connections

    of-topics : (f : LifeRow → MetaNow) (base : ℕ) (prefix : List ℕ)
        → ((t : LifeRow) → row_of_meta (f t)
        ≡ record { id = base + t.id; name = prefix ++ t.name; over = None }) → (lives : List Life)
        → map row_of_meta (map f (map life_row (topics lives)))
        ≡ filter row_lives (map (raised base prefix) (map row_of_life lives))
    of-topics f base prefix same [] = refl
    of-topics f base prefix same (l ∷ lives) = by (of-topics f base prefix same lives) l.over
      where
        by : map row_of_meta (map f (map life_row (topics lives)))
            ≡ filter row_lives (map (raised base prefix) (map row_of_life lives))
            → (over : Option ℕ)
            → map row_of_meta (map f
            (map life_row (cons_option (cond (is_none over) (Some (topic_of l)) None) (topics lives))))
            ≡ filter row_lives (record { id = base + l.id; name = prefix ++ l.name; over = over } ∷ map
            (raised base prefix) (map row_of_life lives))
        by more None =
            ap (λ r. r ∷ map row_of_meta (map f (map life_row (topics lives)))) (same (life_row (topic_of l)))
            ∙ ap (λ rows. record { id = base + l.id; name = prefix ++ l.name; over = None } ∷ rows) more
        by more (Some place) = more

    of-conns : (f : ConnRow → MetaNow) (base : ℕ) (prefix : List ℕ)
        → ((c : ConnRow) → row_of_meta (f c)
        ≡ record { id = base + c.conn; name = prefix ++ c.name; over = None }) → (conns : List Connection)
        → map row_of_meta (map f (map (conn_row ts) (open_ones conns)))
        ≡ filter row_lives (map (raised base prefix) (map row_of_conn conns))
    of-conns f base prefix same [] = refl
    of-conns f base prefix same (c ∷ conns) = by (of-conns f base prefix same conns) c.over
      where
        by : map row_of_meta (map f (map (conn_row ts) (open_ones conns)))
            ≡ filter row_lives (map (raised base prefix) (map row_of_conn conns))
            → (over : Option ℕ)
            → map row_of_meta (map f
            (map (conn_row ts) (cond (is_none over) (c ∷ open_ones conns) (open_ones conns))))
            ≡ filter row_lives (record { id = base + c.number; name = prefix ++ c.name; over = over } ∷ map
            (raised base prefix) (map row_of_conn conns))
        by more None =
            ap (λ r. r ∷ map row_of_meta (map f (map (conn_row ts) (open_ones conns)))) (same (conn_row ts c))
            ∙ ap (λ rows. record { id = base + c.number; name = prefix ++ c.name; over = None } ∷ rows) more
        by more (Some place) = more

-- ---- rows by rising id

abbrev pub RowsAbove : ℕ → List Row → Type 0
RowsAbove n [] = Unit {0}
RowsAbove n (r ∷ rows) = (n < r.id) × RowsAbove n rows

abbrev pub RowsRise : List Row → Type 0
RowsRise [] = Unit {0}
RowsRise (r ∷ rows) = RowsAbove r.id rows × RowsRise rows

pub row-above : (k n : ℕ) (rows : List Row) → k ≤ n → RowsAbove n rows → row_at k rows ≡ None
row-above k n [] le h = refl
row-above k n (r ∷ rows) le h =
    let less = h.0 in
    let other : (r.id == k) ≡ false = grind (arith, nat_tests) in
    ap (λ b. cond b (Some r) (row_at k rows)) other ∙ row-above k n rows le h.1

rows-above-living : (n : ℕ) (rows : List Row) → RowsAbove n rows → RowsAbove n (filter row_lives rows)
rows-above-living n [] h = tt
rows-above-living n (r ∷ rows) h = by (rows-above-living n rows h.1) (row_lives r)
  where
    by : RowsAbove n (filter row_lives rows) → (b : Bool)
        → RowsAbove n (cond b (r ∷ filter row_lives rows) (filter row_lives rows))
    by more true = (h.0, more)
    by more false = more

rows-rise-living : (rows : List Row) → RowsRise rows → RowsRise (filter row_lives rows)
rows-rise-living [] h = tt
rows-rise-living (r ∷ rows) h = by (rows-rise-living rows h.1) (row_lives r)
  where
    by : RowsRise (filter row_lives rows) → (b : Bool)
        → RowsRise (cond b (r ∷ filter row_lives rows) (filter row_lives rows))
    by more true = (rows-above-living r.id rows h.0, more)
    by more false = more

metas-above : (n : ℕ) (ms : List MetaNow) → RowsAbove n (map row_of_meta ms) → MetasAbove n ms
metas-above n [] h = tt
metas-above n (m ∷ ms) h = (h.0, metas-above n ms h.1)

metas-rise-by : (ms : List MetaNow) → RowsRise (map row_of_meta ms) → MetasRise ms
metas-rise-by [] h = tt
metas-rise-by (m ∷ ms) h = (metas-above m.id ms h.0, metas-rise-by ms h.1)

pub metas-rise : (n : Now) → RowsRise (meta_rows n) → MetasRise (metas_now n)
metas-rise n h = metas-rise-by (metas_now n)
    (subst (λ rows. RowsRise rows) (sym (meta-rows n)) (rows-rise-living (meta_rows n) h))

-- ---- what is found

-- a row that doesn't end
abbrev pub living_row : Option Row → Option Row
living_row None = None
living_row (Some r) = cond (row_lives r) (Some r) None

meta-row : (k : ℕ) (ms : List MetaNow) → option_map row_of_meta (meta_of k ms) ≡ row_at k (map row_of_meta ms)
meta-row k [] = refl
meta-row k (m ∷ ms) = by (meta-row k ms) (m.id == k)
  where
    by : option_map row_of_meta (meta_of k ms) ≡ row_at k (map row_of_meta ms) → (b : Bool)
        → option_map row_of_meta (cond b (Some m) (meta_of k ms))
        ≡ cond b (Some (row_of_meta m)) (row_at k (map row_of_meta ms))
    by more true = refl
    by more false = more

row-living : (k : ℕ) (rows : List Row) → RowsRise rows → row_at k (filter row_lives rows)
    ≡ living_row (row_at k rows)
row-living k [] h = refl
row-living k (r ∷ rows) h = by (row-living k rows h.1) (row_lives r) refl (r.id == k) refl
  where
    by : row_at k (filter row_lives rows) ≡ living_row (row_at k rows) → (b : Bool) → row_lives r ≡ b
        → (c : Bool) → (r.id == k) ≡ c
        → row_at k (cond b (r ∷ filter row_lives rows) (filter row_lives rows))
        ≡ living_row (cond c (Some r) (row_at k rows))
    by more true e true f =
        ap (λ c. cond c (Some r) (row_at k (filter row_lives rows))) f
        ∙ sym (ap (λ b. cond b (Some r) None) e)
    by more true e false f = ap (λ c. cond c (Some r) (row_at k (filter row_lives rows))) f ∙ more
    by more false e true f =
        let le : k ≤ r.id = grind (arith, nat_tests) in
        row-above k r.id (filter row_lives rows) le (rows-above-living r.id rows h.0)
        ∙ sym (ap (λ b. cond b (Some r) None) e)
    by more false e false f = more

-- the meta topic that lives with an id has the name in its row
pub meta-found : (n : Now) → RowsRise (meta_rows n) → (k : ℕ)
    → option_map row_of_meta (meta_of k (metas_now n)) ≡ living_row (row_at k (meta_rows n))
meta-found n h k =
    meta-row k (metas_now n) ∙ ap (λ rows. row_at k rows) (meta-rows n) ∙ row-living k (meta_rows n) h
