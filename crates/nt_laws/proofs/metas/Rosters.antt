-- The roster that a server keeps is that of the history, and which entries leave it as it was.
use Rattle.std.proofs.Common.{◌≡◌, ◌+◌, ◌&&◌, ◌++◌, ℕ, Bool, true, false, cond, List, [], ◌∷◌, Some, None, map, filter}
use Rattle.std.proofs.Common.{refl, sym, ◌∙◌, ap}
use Rattle.std.specs.List.{flat_map, cons_option}
use Rattle.nt_rules.specs.declared.topic.Topic.{Topic}
use Rattle.nt_rules.specs.declared.topic.Pub.{Pub}
use Rattle.nt_rules.specs.topics.Puts.{Put}
use Rattle.nt_rules.specs.topics.Topics.{is_of, has_publisher}
use Rattle.nt_rules.specs.declared.roster.ConnRow.{ConnRow}
use Rattle.nt_rules.specs.declared.roster.PubRow.{PubRow}
use Rattle.nt_rules.specs.declared.roster.LifeRow.{LifeRow}
use Rattle.nt_rules.specs.meta.Meta.{metas}
use Rattle.nt_rules.specs.declared.act.Msg.{Msg}
use Rattle.nt_rules.specs.declared.act.Msg.TheVariants as msg
use Rattle.nt_rules.specs.declared.act.Deed.{Deed}
use Rattle.nt_rules.specs.declared.act.Deed.TheVariants.{Opened, NotOpened, Said, Drained, Closed, Permitted, NoPermit}
use Rattle.nt_rules.specs.declared.act.Deed.TheVariants.{Shut}
use Rattle.nt_rules.specs.declared.act.Entry.{Entry}
use Rattle.nt_rules.specs.history.State.{Open}
use Rattle.nt_rules.specs.history.Lives.{Life, topics, topic_of, is_living, at_living, with_a_put, closed_for}
use Rattle.nt_rules.specs.history.Now.{Now, Connection, open_ones, is_open_for, cause_of, is_traced, after, after_deed}
use Rattle.nt_rules.specs.history.Now.{lives_after, connections_after, closed}
use Rattle.nt_rules.specs.history.Metas.{pub_rows, pub_row, sub_row, conn_row, life_row, roster_of, metas_now}
use Rattle.nt_rules.specs.meta.Order.{insert_all, pub_below}
use Rattle.nt_rules.specs.history.State.{State, open_row, open_roster, open_metas}
use Rattle.nt_rules.specs.history.Step.{Plain, plain, plain_of, Core, core, core_of}

-- ---- the roster that is kept

-- the row of an open connection
abbrev pub row_of : List Topic → Plain → ConnRow
row_of ts p = record {
  conn = p.number;
  name = p.name;
  pubs = pub_rows p.number ts;
  subs =
      map sub_row p.subs;
}

rows-kept : (ts : List Topic) (opens : List Open) → map (open_row ts) opens
    ≡ map (row_of ts) (map plain opens)
rows-kept ts [] = refl
rows-kept ts (o ∷ opens) = ap (λ rows. open_row ts o ∷ rows) (rows-kept ts opens)

pub rows-said : (ts : List Topic) (conns : List Connection) → map (conn_row ts) conns
    ≡ map (row_of ts) (map plain_of conns)
rows-said ts [] = refl
rows-said ts (c ∷ conns) = ap (λ rows. conn_row ts c ∷ rows) (rows-said ts conns)

pub roster-kept : (opens : List Open) (conns : List Connection) (ts : List Topic) → map plain opens
    ≡ map plain_of conns
    → open_roster opens ts ≡ roster_of conns ts
roster-kept opens conns ts same =
    let rows : map (open_row ts) opens ≡ map (conn_row ts) conns =
    rows-kept ts opens ∙ ap (λ ps. map (row_of ts) ps) same ∙ sym (rows-said ts conns)
    in
    cc

-- where a server's state is kept of a history, its meta topics are those of the history
pub metas-kept : (s : State) (n : Now) → core s ≡ core_of n → map plain s.opens
    ≡ map plain_of (open_ones n.connections)
    → open_metas s.opens s.topics ≡ metas_now n
unfolding open_metas
metas-kept s n kept same =
    ap (λ ts. metas (open_roster s.opens ts)) (ap (λ (c : Core). c.topics) kept)
    ∙ ap (λ r. metas r) (roster-kept s.opens (open_ones n.connections) (topics n.lives) same)

-- ---- what a roster tells of topics

-- a topic without what the roster doesn't tell
record Bare : Type 0 where
  id : ℕ
  name : List ℕ
  pubs : List Pub

abbrev bare : Topic → Bare
bare t = record { id = t.id; name = t.name; pubs = t.pubs }

abbrev bare_row : Bare → LifeRow
bare_row b = record { id = b.id; name = b.name }

abbrev bare_pubs : ℕ → Bare → List PubRow
bare_pubs conn b = map (λ p. record { uid = p.uid; topic = b.name }) (filter (is_of conn) b.pubs)

rows-bare : (ts : List Topic) → map life_row ts ≡ map bare_row (map bare ts)
rows-bare [] = refl
rows-bare (t ∷ ts) = ap (λ rows. life_row t ∷ rows) (rows-bare ts)

pubs-bare : (conn : ℕ) (ts : List Topic)
    → flat_map (λ t. map (pub_row t) (filter (is_of conn) t.pubs)) ts
    ≡ flat_map (bare_pubs conn) (map bare ts)
pubs-bare conn [] = refl
pubs-bare conn (t ∷ ts) = ap (λ rows. map (pub_row t) (filter (is_of conn) t.pubs) ++ rows)
    (pubs-bare conn ts)

rows-alike : (ts us : List Topic) (conns : List Connection) → map bare ts ≡ map bare us
    → map (conn_row ts) conns ≡ map (conn_row us) conns
rows-alike ts us [] same = refl
rows-alike ts us (c ∷ conns) same =
    let pubs : pub_rows c.number ts ≡ pub_rows c.number us =
    ap (insert_all pub_below [])
    (pubs-bare c.number ts ∙ ap (flat_map (bare_pubs c.number)) same ∙ sym (pubs-bare c.number us))
    in
    let more = rows-alike ts us conns same in
    cc

roster-alike : (conns : List Connection) (ts us : List Topic) → map bare ts ≡ map bare us → roster_of conns ts
    ≡ roster_of conns us
roster-alike conns ts us same =
    let conns-alike = rows-alike ts us conns same in
    let topics-alike : map life_row ts ≡ map life_row us = rows-bare ts ∙ ap (map bare_row) same
    ∙ sym (rows-bare us) in
    cc

-- a put changes values alone
bare-put : (test : Topic → Bool) (p : Put) (lives : List Life)
    → map bare (topics (at_living test (with_a_put p) lives)) ≡ map bare (topics lives)
bare-put test p [] = refl
bare-put test p (l ∷ lives) = by (bare-put test p lives) (is_living l && test (topic_of l))
  where
    here : (b : Bool)
        → map bare (cons_option (cond b (Some (topic_of (with_a_put p l))) None) (topics lives))
        ≡ map bare (cons_option (cond b (Some (topic_of l)) None) (topics lives))
    here true = refl
    here false = refl

    later : map bare (topics (at_living test (with_a_put p) lives)) ≡ map bare (topics lives) → (b : Bool)
        → map bare (cons_option (cond b (Some (topic_of l)) None)
        (topics (at_living test (with_a_put p) lives)))
        ≡ map bare (cons_option (cond b (Some (topic_of l)) None) (topics lives))
    later more true = ap (λ bs. bare (topic_of l) ∷ bs) more
    later more false = more

    by : map bare (topics (at_living test (with_a_put p) lives)) ≡ map bare (topics lives) → (b : Bool)
        → map bare (topics (cond b (with_a_put p l ∷ lives) (l ∷ at_living test (with_a_put p) lives)))
        ≡ map bare (topics (l ∷ lives))
    by more true = here (is_living l)
    by more false = later more (is_living l)

-- ---- entries that change no roster

-- whether an entry may change the meta topics: a control message that counts, an opening, a close that counts
abbrev pub tells : Now → ℕ → ℕ → Deed → Bool
tells n worker conn (Opened name) = true
tells n worker conn (Said m) = tells_said m
  where
    tells_said : Msg → Bool
    tells_said (msg.Control c) = is_traced (msg.Control c) (cause_of n worker conn (msg.Control c))
    tells_said (msg.Put v) = false
tells n worker conn Closed = is_open_for n.connections worker conn
tells n worker conn deed = false

module _ (n : Now) (e : Entry) where
  pub metas-stay : tells n e.worker e.conn e.deed ≡ false → metas_now (after n e) ≡ metas_now n
  metas-stay h = by e.deed h
    where
      put : (v : _) (b : Bool)
          → metas_now (record (cond b
          (record n { lives = lives_after (n.place + 1) n.lives e.conn (msg.Put v) }) n)
          { place = n.place + 1; moment = e.now })
          ≡ metas_now n
      put v true = ap (λ r. metas r)
          (roster-alike (open_ones n.connections) _ _ (bare-put (has_publisher e.conn v.id) _ n.lives))
      put v false = refl

      by : (deed : Deed) → tells n e.worker e.conn deed ≡ false
          → metas_now (record (after_deed n e.worker e.conn deed) { place = n.place + 1; moment = e.now })
          ≡ metas_now n
      by (Opened name) h = absurd (cc)
      by NotOpened h = refl
      by (Said (msg.Control m)) h =
          ap (λ b. metas_now (record
          (cond b (record n {
            connections =
                connections_after n.connections e.conn (msg.Control m);
            lives =
                lives_after (n.place + 1) n.lives e.conn (msg.Control m);
          }) n)
          { place = n.place + 1; moment = e.now })) h
      by (Said (msg.Put v)) h = put v (is_traced (msg.Put v) (cause_of n e.worker e.conn (msg.Put v)))
      by (Drained batch) h = refl
      by Closed h = ap (λ b. metas_now
          (record (cond b (record n {
            connections = closed (n.place + 1) e.conn n.connections;
            lives =
                map (closed_for (n.place + 1) e.conn) n.lives;
          }) n) { place = n.place + 1; moment = e.now })) h
      by Permitted h = refl
      by NoPermit h = refl
      by Shut h = refl
