-- The rows that the meta topics tell of, and what changes nothing of them.
use Rattle.std.proofs.Common.{◌≡◌, ℕ, ℤ, Bool, true, false, cond, List, [], ◌∷◌, ◌++◌, Option, Some, None, filter, map, refl, sym, ◌∙◌, ap}
use Rattle.std.specs.List.{flat_map}
use Rattle.nt_values.specs.declared.value.Value.{Value}
use Rattle.nt_topics.specs.Properties.{is_cached}
use Rattle.nt_control.specs.declared.message.ClientMsg.TheVariants.{Publish, Unpublish, SetProps, Subscribe, Unsubscribe}
use Rattle.nt_subs.specs.Subscriptions.{Subs}
use Rattle.nt_subs.specs.Wishes.{wanted}
use Rattle.nt_rules.specs.declared.topic.Topic.{Topic}
use Rattle.nt_rules.specs.declared.topic.Change.{Change}
use Rattle.nt_rules.specs.topics.Topics.{has_publisher, is_of, change_first, with_value, with_put}
use Rattle.nt_rules.specs.declared.roster.ConnRow.{ConnRow}
use Rattle.nt_rules.specs.declared.roster.PubRow.{PubRow}
use Rattle.nt_rules.specs.declared.roster.LifeRow.{LifeRow}
use Rattle.nt_rules.specs.declared.meta.MetaNow.{MetaNow}
use Rattle.nt_rules.specs.meta.Meta.{metas}
use Rattle.nt_rules.specs.outbox.Calls.{OutboxState, reached}
use Rattle.nt_rules.specs.declared.act.Msg.{Msg}
use Rattle.nt_rules.specs.declared.act.Msg.TheVariants.{Control, Put}
use Rattle.nt_rules.specs.history.State.{Open}
use Rattle.nt_rules.specs.declared.taken.Taken.{Taken}
use Rattle.nt_rules.specs.meta.Order.{insert_after, insert_all, pub_below}
use Rattle.nt_rules.specs.history.Metas.{life_row, sub_row, pub_row}
use Rattle.nt_server.specs.Connections.{Connections}
use Rattle.nt_rules.specs.history.State.{is_number, with_outbox, open_row, open_metas, differences, noted_differences, refreshed, rewanted_all, meta_rewanted_all, rewanting, changes_noted, sender_noted, message_noted, turn_noted, drained_by, drained_from}

-- rows of two lists are put there one list after the other
pub rows_more : {X : Type 0} (below : X → X → Bool) (rows a b : List X)
    → insert_all below rows (a ++ b) ≡ insert_all below (insert_all below rows a) b
rows_more below rows [] b = refl
rows_more below rows (r ∷ a) b = rows_more below (insert_after below r rows) a b

-- a change of each connection that its row doesn't tell of
rows_same : (ts : List Topic) (f : Open → Open) → ((o : Open) → open_row ts (f o) ≡ open_row ts o)
    → (opens : List Open) → map (open_row ts) (map f opens) ≡ map (open_row ts) opens
rows_same ts f same [] = refl
rows_same ts f same (o ∷ opens) =
    ap (λ r. r ∷ map (open_row ts) (map f opens)) (same o)
    ∙ ap (λ rs. open_row ts o ∷ rs) (rows_same ts f same opens)

pub metas_same : (ts : List Topic) (f : Open → Open) → ((o : Open) → open_row ts (f o) ≡ open_row ts o)
    → (opens : List Open) → open_metas (map f opens) ts ≡ open_metas opens ts
unfolding open_metas
metas_same ts f same opens =
    ap (λ (rs : List ConnRow). metas (record { conns = rs; topics = map life_row ts }))
    (rows_same ts f same opens)

-- other outboxes
pub metas_told : (ts : List Topic) (f : Open → OutboxState) (opens : List Open)
    → open_metas (map (λ o. with_outbox (f o) o) opens) ts ≡ open_metas opens ts
metas_told ts f opens = metas_same ts (λ o. with_outbox (f o) o) (λ o. refl) opens

-- a connection is told of its other subscriptions
metas_rewanting : (place : ℕ) (taken : List Taken) (ts : List Topic) (ms : List MetaNow) (conn : ℕ)
    (old : Subs) (opens : List Open)
    → open_metas (rewanting place taken ts ms conn old opens) ts ≡ open_metas opens ts
metas_rewanting place taken ts ms conn old opens = metas_same ts _ (λ o. by o (is_number conn o)) opens
  where
    told : Open → Open
    told o =
        with_outbox (meta_rewanted_all place (wanted old) (wanted o.subs) ms
        (rewanted_all place taken (wanted old) (wanted o.subs) ts o.outbox)) o

    by : (o : Open) (b : Bool) → open_row ts (cond b (told o) o) ≡ open_row ts o
    by o true = refl
    by o false = refl

-- the connections after one of them, which had these subscriptions, has other ones, and after all were told
-- what is different of the meta topics
pub record IsRenewed (place : ℕ) (before : List MetaNow) (taken : List Taken) (ts : List Topic) (conn : ℕ)
    (old : Subs) (opens : List Open) (after : List MetaNow) (told : List Open) : Type 0 where
  pub opens_are : told
      ≡ refreshed place before ts (rewanting place taken ts (open_metas opens ts) conn old opens)
  pub metas_are : after ≡ open_metas told ts

pub renewed : (place : ℕ) (before : List MetaNow) (taken : List Taken) (ts : List Topic) (conn : ℕ)
    (old : Subs) (opens : List Open) (after : List MetaNow) (wanting told : List Open)
    → after ≡ open_metas opens ts
    → wanting ≡ rewanting place taken ts after conn old opens
    → told ≡ map (λ o. with_outbox
    (noted_differences place (wanted o.subs) (differences before after) (reached place o.outbox)) o) wanting
    → IsRenewed place before taken ts conn old opens after told
renewed place before taken ts conn old opens after wanting told a w t =
    record {
      opens_are = all ∙ ap (λ ms. map (tell ms) others) (a ∙ sym same);
      metas_are =
          a
          ∙ sym same
          ∙ sym (metas_told ts (box after) others)
          ∙ sym (ap (λ (os : List Open). open_metas os ts) all);
    }
  where
    others : List Open
    others = rewanting place taken ts (open_metas opens ts) conn old opens

    box : List MetaNow → Open → OutboxState
    box ms o = noted_differences place (wanted o.subs) (differences before ms) (reached place o.outbox)

    tell : List MetaNow → Open → Open
    tell ms o = with_outbox (box ms o) o

    same : open_metas others ts ≡ open_metas opens ts
    same = metas_rewanting place taken ts (open_metas opens ts) conn old opens

    all : told ≡ map (tell after) others
    all = t ∙ ap (map (tell after)) (w ∙ ap (λ ms. rewanting place taken ts ms conn old opens) a)

-- a message that counted, told to a connection
told_row : (us : List Topic) (place : ℕ) (ts : List Topic) (conn : ℕ) (m : Msg) (changes : List Change)
    (o : Open) → open_row us (message_noted place ts conn m changes o) ≡ open_row us o
told_row us place ts conn m changes o = by (is_number conn o)
  where
    sender : (m : Msg) → open_row us (sender_noted place ts m changes o) ≡ open_row us o
    sender (Control (Publish name uid typ props)) = refl
    sender (Control (Unpublish uid)) = refl
    sender (Control (SetProps name update)) = refl
    sender (Control (Subscribe uid sub)) = refl
    sender (Control (Unsubscribe uid)) = refl
    sender (Put v) = refl

    by : (b : Bool)
        → open_row us (cond b (sender_noted place ts m changes o) (changes_noted place ts changes o))
        ≡ open_row us o
    by true = sender m
    by false = refl

-- and before that a turn
turned_row : (us : List Topic) (place : ℕ) (id : Option ℕ) (o : Open)
    → open_row us (turn_noted place id o) ≡ open_row us o
turned_row us place None o = refl
turned_row us place (Some id) o = refl

pub said_row : (us : List Topic) (place : ℕ) (ts : List Topic) (conn : ℕ) (m : Msg) (changes : List Change)
    (id : Option ℕ) (o : Open)
    → open_row us (message_noted place ts conn m changes (turn_noted place id o)) ≡ open_row us o
said_row us place ts conn m changes id o =
    told_row us place ts conn m changes (turn_noted place id o) ∙ turned_row us place id o

pub metas_said : (us : List Topic) (place : ℕ) (ts : List Topic) (conn : ℕ) (m : Msg) (changes : List Change)
    (id : Option ℕ) (opens : List Open)
    → open_metas (map (λ o. message_noted place ts conn m changes (turn_noted place id o)) opens) us
    ≡ open_metas opens us
metas_said us place ts conn m changes id opens =
    metas_same us (λ o. message_noted place ts conn m changes (turn_noted place id o))
    (said_row us place ts conn m changes id) opens

-- a drain
drained_row : (us : List Topic) (conn budget : ℕ) (o : Open)
    → open_row us (drained_from conn budget o) ≡ open_row us o
drained_row us conn budget o = by (is_number conn o)
  where
    by : (b : Bool) → open_row us (cond b (with_outbox (drained_by budget o.outbox) o) o) ≡ open_row us o
    by true = refl
    by false = refl

pub metas_drained : (us : List Topic) (conn budget : ℕ) (opens : List Open)
    → open_metas (map (drained_from conn budget) opens) us ≡ open_metas opens us
metas_drained us conn budget opens =
    metas_same us (drained_from conn budget) (drained_row us conn budget) opens

pub drained-metas : (us : List Topic) (k : Connections) (conn budget : ℕ) (b : Bool)
    → open_metas (cond b (record k {
      opens = map (drained_from conn budget) k.opens;
    }) k).opens us ≡ open_metas k.opens us
drained-metas us k conn budget true = metas_drained us conn budget k.opens
drained-metas us k conn budget false = refl

-- ---- a put

pubs_put : (c : ℕ) (test : Topic → Bool) (time : ℕ) (value : Value) (ts : List Topic)
    → flat_map (λ t. map (pub_row t) (filter (is_of c) t.pubs))
    (change_first test (λ t. Some (with_value time value t)) ts)
    ≡ flat_map (λ t. map (pub_row t) (filter (is_of c) t.pubs)) ts
pubs_put c test time value [] = refl
pubs_put c test time value (t ∷ ts) = by (test t) (pubs_put c test time value ts)
  where
    rows : Topic → List PubRow
    rows t = map (pub_row t) (filter (is_of c) t.pubs)

    put : List Topic → List Topic
    put ts = change_first test (λ t. Some (with_value time value t)) ts

    held : (b : Bool) → rows (cond b (record t { value = Some (record { time = time; value = value }) }) t) ≡ rows t
    held true = refl
    held false = refl

    by : (b : Bool) → flat_map rows (put ts) ≡ flat_map rows ts
        → flat_map rows (cond b (with_value time value t ∷ ts) (t ∷ put ts)) ≡ flat_map rows (t ∷ ts)
    by true h = ap (λ rs. rs ++ flat_map rows ts) (held (is_cached t.props))
    by false h = ap (λ rs. rows t ++ rs) h

lives_put : (test : Topic → Bool) (time : ℕ) (value : Value) (ts : List Topic)
    → map life_row (change_first test (λ t. Some (with_value time value t)) ts) ≡ map life_row ts
lives_put test time value [] = refl
lives_put test time value (t ∷ ts) = by (test t) (lives_put test time value ts)
  where
    put : List Topic → List Topic
    put ts = change_first test (λ t. Some (with_value time value t)) ts

    held : (b : Bool)
        → life_row (cond b (record t { value = Some (record { time = time; value = value }) }) t) ≡ life_row t
    held true = refl
    held false = refl

    by : (b : Bool) → map life_row (put ts) ≡ map life_row ts
        → map life_row (cond b (with_value time value t ∷ ts) (t ∷ put ts)) ≡ map life_row (t ∷ ts)
    by true h = ap (λ r. r ∷ map life_row ts) (held (is_cached t.props))
    by false h = ap (λ rs. life_row t ∷ rs) h

rows_put : (conn : ℕ) (uid : ℤ) (time : ℕ) (value : Value) (ts : List Topic) (opens : List Open)
    → map (open_row (with_put ts conn uid time value)) opens ≡ map (open_row ts) opens
rows_put conn uid time value ts [] = refl
rows_put conn uid time value ts (o ∷ opens) =
    ap (λ r. r ∷ map (open_row (with_put ts conn uid time value)) opens)
    (ap (λ (ps : List PubRow). row (insert_all pub_below [] ps))
    (pubs_put o.conn (has_publisher conn uid) time value ts))
    ∙ ap (λ rs. open_row ts o ∷ rs) (rows_put conn uid time value ts opens)
  where
    row : List PubRow → ConnRow
    row ps = record { conn = o.conn; name = o.name; pubs = ps; subs = map sub_row o.subs }

pub metas_put : (conn : ℕ) (uid : ℤ) (time : ℕ) (value : Value) (ts : List Topic) (opens : List Open)
    → open_metas opens (with_put ts conn uid time value) ≡ open_metas opens ts
unfolding open_metas
metas_put conn uid time value ts opens =
    ap (λ (rs : List ConnRow). metas
    (record { conns = rs; topics = map life_row (with_put ts conn uid time value) }))
    (rows_put conn uid time value ts opens)
    ∙ ap (λ (ls : List LifeRow). metas (record { conns = map (open_row ts) opens; topics = ls }))
    (lives_put (has_publisher conn uid) time value ts)
