-- The open connections that a server keeps, without their outboxes, are those of the history.
use Rattle.std.proofs.Common.{◌≡◌, ◌<◌, ◌&&◌, ◌||◌, ◌==◌, not, ℕ, suc, Bool, true, false, cond, List, [], ◌∷◌, ◌++◌}
use Rattle.std.proofs.Common.{Option, Some, None, map, filter, refl, sym, ◌∙◌, ap, arith}
use Rattle.std.specs.List.{list_any}
use Rattle.std.proofs.lemmas.List.{map-append}
use Rattle.std.proofs.lemmas.Bool.Decides.{nat_tests}
use Rattle.nt_subs.specs.Subscriptions.{Subs}
use Rattle.nt_rules.specs.declared.topic.Topic.{Topic}
use Rattle.nt_rules.specs.declared.topic.Change.{Change}
use Rattle.nt_rules.specs.declared.meta.MetaNow.{MetaNow}
use Rattle.nt_rules.specs.outbox.Calls.{OutboxState}
use Rattle.nt_rules.specs.history.State.{Open}
use Rattle.nt_rules.specs.declared.taken.Taken.{Taken}
use Rattle.nt_rules.specs.declared.act.Msg.{Msg}
use Rattle.nt_rules.specs.declared.act.Msg.TheVariants.{Control, Put}
use Rattle.nt_control.specs.declared.message.ClientMsg.TheVariants.{Publish, Unpublish, SetProps, Subscribe}
use Rattle.nt_control.specs.declared.message.ClientMsg.TheVariants.{Unsubscribe}
use Rattle.nt_rules.specs.history.Now.{Connection, is_open, is_conn, is_open_for, open_ones, subs_of, with_subs, closed}
use Rattle.nt_rules.specs.history.Answer.{names_of}
use Rattle.nt_rules.specs.history.State.{is_number, serves, subs_at, given_names, refreshed, message_noted}
use Rattle.nt_rules.specs.history.State.{sender_noted, changes_noted, turn_noted, with_outbox, with_subs_of, rewanting}
use Rattle.nt_rules.specs.history.State.{drained_from}
use Rattle.nt_rules.specs.history.Step.{Plain, plain, plain_of}
use Rattle.nt_laws.proofs.histories.Facts.{IsNumberedConnections}

-- ---- tests of plain connections

abbrev pub is_numbered : ℕ → Plain → Bool
is_numbered conn p = p.number == conn

abbrev pub serves_plain : List Plain → ℕ → ℕ → Bool
serves_plain ps worker conn = list_any (λ p. is_numbered conn p && (p.worker == worker)) ps

abbrev pub subs_plain : List Plain → ℕ → Subs
subs_plain [] conn = []
subs_plain (p ∷ ps) conn = cond (is_numbered conn p) p.subs (subs_plain ps conn)

abbrev pub names_plain : List Plain → List (List ℕ)
names_plain [] = []
names_plain (p ∷ ps) = p.name ∷ names_plain ps

abbrev pub plain_opens : List Connection → List Plain
plain_opens connections = map plain_of (open_ones connections)

serves-plain : (opens : List Open) (worker conn : ℕ) → serves opens worker conn
    ≡ serves_plain (map plain opens) worker conn
serves-plain [] worker conn = refl
serves-plain (o ∷ opens) worker conn =
    ap (λ b. (is_number conn o && (o.worker == worker)) || b) (serves-plain opens worker conn)

subs-plain : (opens : List Open) (conn : ℕ) → subs_at opens conn ≡ subs_plain (map plain opens) conn
subs-plain [] conn = refl
subs-plain (o ∷ opens) conn = ap (λ subs. cond (is_number conn o) o.subs subs) (subs-plain opens conn)

names-plain : (opens : List Open) → given_names opens ≡ names_plain (map plain opens)
names-plain [] = refl
names-plain (o ∷ opens) = ap (λ names. o.name ∷ names) (names-plain opens)

open-plain : (cs : List Connection) (worker conn : ℕ) → is_open_for cs worker conn
    ≡ serves_plain (plain_opens cs) worker conn
open-plain [] worker conn = refl
open-plain (c ∷ cs) worker conn =
    ap (λ b. (is_conn conn c && (c.worker == worker)) || b) (open-plain cs worker conn) ∙ by (is_open c)
  where
    by : (b : Bool)
        → (((b && (c.number == conn)) && (c.worker == worker)) || serves_plain (plain_opens cs) worker conn)
        ≡ serves_plain (map plain_of (cond b (c ∷ open_ones cs) (open_ones cs))) worker conn
    by true = refl
    by false = refl

subs_of-plain : (cs : List Connection) (conn : ℕ) → subs_of cs conn ≡ subs_plain (plain_opens cs) conn
subs_of-plain [] conn = refl
subs_of-plain (c ∷ cs) conn =
    ap (λ subs. cond (is_conn conn c) c.subs subs) (subs_of-plain cs conn) ∙ by (is_open c)
  where
    by : (b : Bool) → cond (b && (c.number == conn)) c.subs (subs_plain (plain_opens cs) conn)
        ≡ subs_plain (map plain_of (cond b (c ∷ open_ones cs) (open_ones cs))) conn
    by true = refl
    by false = refl

names_of-plain : (cs : List Connection) → names_of cs ≡ names_plain (map plain_of cs)
names_of-plain [] = refl
names_of-plain (c ∷ cs) = ap (λ names. c.name ∷ names) (names_of-plain cs)

-- each test of what is kept is the one of the history
module _ (opens : List Open) (cs : List Connection)
    (same : map plain opens ≡ map plain_of (open_ones cs)) where
  pub serves-is : (worker conn : ℕ) → serves opens worker conn ≡ is_open_for cs worker conn
  serves-is worker conn =
      serves-plain opens worker conn ∙ ap (λ ps. serves_plain ps worker conn) same
      ∙ sym (open-plain cs worker conn)

  pub subs-are : (conn : ℕ) → subs_at opens conn ≡ subs_of cs conn
  subs-are conn = subs-plain opens conn ∙ ap (λ ps. subs_plain ps conn) same ∙ sym (subs_of-plain cs conn)

  pub names-are : given_names opens ≡ names_of (open_ones cs)
  names-are = names-plain opens ∙ ap names_plain same ∙ sym (names_of-plain (open_ones cs))

-- ---- what outboxes are told changes nothing else

map-plain : (f : Open → Open) → ((o : Open) → plain (f o) ≡ plain o) → (opens : List Open)
    → map plain (map f opens) ≡ map plain opens
map-plain f same [] = refl
map-plain f same (o ∷ opens) =
    ap (λ p. p ∷ map plain (map f opens)) (same o) ∙ ap (λ ps. plain o ∷ ps) (map-plain f same opens)

pub plain-refreshed : (place : ℕ) (before : List MetaNow) (ts : List Topic) (opens : List Open)
    → map plain (refreshed place before ts opens) ≡ map plain opens
plain-refreshed place before ts opens = map-plain _ (λ o. refl) opens

pub plain-told : (place : ℕ) (ts : List Topic) (changes : List Change) (opens : List Open)
    → map plain (map (changes_noted place ts changes) opens) ≡ map plain opens
plain-told place ts changes opens = map-plain (changes_noted place ts changes) (λ o. refl) opens

plain-turn : (place : ℕ) (id : Option ℕ) (o : Open) → plain (turn_noted place id o) ≡ plain o
plain-turn place None o = refl
plain-turn place (Some id) o = refl

plain-sender : (place : ℕ) (ts : List Topic) (m : Msg) (changes : List Change) (o : Open)
    → plain (sender_noted place ts m changes o) ≡ plain o
plain-sender place ts (Control (Publish name uid typ props)) changes o = refl
plain-sender place ts (Control (Unpublish uid)) changes o = refl
plain-sender place ts (Control (SetProps name update)) changes o = refl
plain-sender place ts (Control (Subscribe uid sub)) changes o = refl
plain-sender place ts (Control (Unsubscribe uid)) changes o = refl
plain-sender place ts (Put v) changes o = refl

-- of a message, and of the turn that it makes
pub plain-said : (place : ℕ) (ts : List Topic) (id : Option ℕ) (conn : ℕ) (m : Msg) (changes : List Change)
    (opens : List Open)
    → map plain (map (λ o. message_noted place ts conn m changes (turn_noted place id o)) opens)
    ≡ map plain opens
plain-said place ts id conn m changes opens =
    map-plain (λ o. message_noted place ts conn m changes (turn_noted place id o))
    (λ o. by (turn_noted place id o) (is_number conn (turn_noted place id o)) ∙ plain-turn place id o) opens
  where
    by : (o : Open) (b : Bool)
        → plain (cond b (sender_noted place ts m changes o) (changes_noted place ts changes o)) ≡ plain o
    by o true = plain-sender place ts m changes o
    by o false = refl

pub plain-rewanting : (place : ℕ) (taken : List Taken) (ts : List Topic) (ms : List MetaNow) (conn : ℕ)
    (old : Subs) (opens : List Open)
    → map plain (rewanting place taken ts ms conn old opens) ≡ map plain opens
plain-rewanting place taken ts ms conn old opens = map-plain _ (λ o. by o _ (is_number conn o)) opens
  where
    by : (o : Open) (box : OutboxState) (b : Bool) → plain (cond b (with_outbox box o) o) ≡ plain o
    by o box true = refl
    by o box false = refl

pub plain-drained : (conn budget : ℕ) (opens : List Open) → map plain (map (drained_from conn budget) opens)
    ≡ map plain opens
plain-drained conn budget opens = map-plain (drained_from conn budget) (λ o. by o _ (is_number conn o)) opens
  where
    by : (o : Open) (box : OutboxState) (b : Bool) → plain (cond b (with_outbox box o) o) ≡ plain o
    by o box true = refl
    by o box false = refl

-- ---- closing

abbrev pub others : ℕ → List Plain → List Plain
others conn ps = filter (λ p. not (is_numbered conn p)) ps

plain-others : (conn : ℕ) (opens : List Open) → map plain (filter (λ o. not (is_number conn o)) opens)
    ≡ others conn (map plain opens)
plain-others conn [] = refl
plain-others conn (o ∷ opens) = by (plain-others conn opens) (is_number conn o)
  where
    by : map plain (filter (λ o. not (is_number conn o)) opens) ≡ others conn (map plain opens) → (b : Bool)
        → map plain
        (cond (not b) (o ∷ filter (λ o. not (is_number conn o)) opens)
        (filter (λ o. not (is_number conn o)) opens))
        ≡ cond (not b) (plain o ∷ others conn (map plain opens)) (others conn (map plain opens))
    by more true = more
    by more false = ap (λ ps. plain o ∷ ps) more

pub closed-others : (place conn : ℕ) (cs : List Connection) → plain_opens (closed place conn cs)
    ≡ others conn (plain_opens cs)
closed-others place conn [] = refl
closed-others place conn (c ∷ cs) = by (is_open c) refl (closed-others place conn cs)
  where
    rest : List Connection
    rest = closed place conn cs

    on : is_open c ≡ true → plain_opens rest ≡ others conn (plain_opens cs) → (d : Bool)
        → plain_opens (cond d (record c { over = Some place }) c ∷ rest)
        ≡ cond (not d) (plain_of c ∷ others conn (plain_opens cs)) (others conn (plain_opens cs))
    on e more true = more
    on e more false = ap (λ b. map plain_of (cond b (c ∷ open_ones rest) (open_ones rest))) e
        ∙ ap (λ ps. plain_of c ∷ ps) more

    by : (b : Bool) → is_open c ≡ b → plain_opens rest ≡ others conn (plain_opens cs)
        → plain_opens (cond (b && (c.number == conn)) (record c { over = Some place }) c ∷ rest)
        ≡ others conn (map plain_of (cond b (c ∷ open_ones cs) (open_ones cs)))
    by true e more = on e more (c.number == conn)
    by false e more = ap (λ b. map plain_of (cond b (c ∷ open_ones rest) (open_ones rest))) e ∙ more

pub plain-closed : (place conn : ℕ) (opens : List Open) (cs : List Connection) → map plain opens
    ≡ map plain_of (open_ones cs)
    → map plain (filter (λ o. not (is_number conn o)) opens) ≡ map plain_of (open_ones (closed place conn cs))
plain-closed place conn opens cs same =
    plain-others conn opens ∙ ap (others conn) same ∙ sym (closed-others place conn cs)

-- ---- opening

pub plain-opened : (o : Open) (c : Connection) (opens : List Open) (cs : List Connection) → map plain opens
    ≡ map plain_of (open_ones cs)
    → plain o ≡ plain_of c → is_open c ≡ true → map plain (opens ++ o ∷ [])
    ≡ map plain_of (open_ones (cs ++ c ∷ []))
plain-opened o c opens cs same item there =
    map-append plain opens (o ∷ []) ∙ ap (λ ps. ps ++ plain o ∷ []) same
    ∙ ap (λ p. plain_opens cs ++ p ∷ []) item ∙ pushed cs
  where
    pushed : (cs : List Connection) → plain_opens cs ++ plain_of c ∷ [] ≡ plain_opens (cs ++ c ∷ [])
    pushed [] = sym (ap (λ b. map plain_of (cond b (c ∷ []) [])) there)
    pushed (d ∷ cs) = by (pushed cs) (is_open d)
      where
        by : plain_opens cs ++ plain_of c ∷ [] ≡ plain_opens (cs ++ c ∷ []) → (b : Bool)
            → map plain_of (cond b (d ∷ open_ones cs) (open_ones cs)) ++ plain_of c ∷ []
            ≡ map plain_of (cond b (d ∷ open_ones (cs ++ c ∷ [])) (open_ones (cs ++ c ∷ [])))
        by more true = ap (λ ps. plain_of d ∷ ps) more
        by more false = more

-- ---- subscriptions

-- the subscriptions of all of this number
abbrev set_plain : ℕ → Subs → List Plain → List Plain
set_plain conn subs ps = map (λ p. cond (is_numbered conn p) (record p { subs = subs }) p) ps

plain-with : (conn : ℕ) (subs : Subs) (opens : List Open) → map plain (with_subs_of conn subs opens)
    ≡ set_plain conn subs (map plain opens)
plain-with conn subs [] = refl
plain-with conn subs (o ∷ opens) =
    ap (λ p. p ∷ map plain (with_subs_of conn subs opens)) (by (is_number conn o))
    ∙ ap (λ ps. cond (is_number conn o) (record (plain o) { subs = subs }) (plain o) ∷ ps)
    (plain-with conn subs opens)
  where
    by : (b : Bool) → plain (cond b (record o { subs = subs }) o)
        ≡ cond b (record (plain o) { subs = subs }) (plain o)
    by true = refl
    by false = refl

-- no connection of a greater number has this one
none-numbered : (conn k : ℕ) (f : Subs → Subs) (subs : Subs) (cs : List Connection) → conn < k
    → IsNumberedConnections k cs
    → plain_opens (with_subs conn f cs) ≡ set_plain conn subs (plain_opens cs)
none-numbered conn k f subs [] less n = refl
none-numbered conn k f subs (c ∷ cs) less n =
    by (is_open c) refl (none-numbered conn (suc k) f subs cs (omega arith) n.1)
  where
    number : c.number ≡ k
    number = n.0

    other : (c.number == conn) ≡ false
    other = grind (arith, nat_tests)

    rest : List Connection
    rest = with_subs conn f cs

    on : is_open c ≡ true → plain_opens rest ≡ set_plain conn subs (plain_opens cs) → (d : Bool) → d ≡ false
        → plain_opens (cond d (record c { subs = f c.subs }) c ∷ rest)
        ≡ cond d (record (plain_of c) { subs = subs }) (plain_of c) ∷ set_plain conn subs (plain_opens cs)
    on e more true h = absurd (cc)
    on e more false h = ap (λ b. map plain_of (cond b (c ∷ open_ones rest) (open_ones rest))) e
        ∙ ap (λ ps. plain_of c ∷ ps) more

    by : (b : Bool) → is_open c ≡ b → plain_opens rest ≡ set_plain conn subs (plain_opens cs)
        → plain_opens (cond (b && (c.number == conn)) (record c { subs = f c.subs }) c ∷ rest)
        ≡ set_plain conn subs (map plain_of (cond b (c ∷ open_ones cs) (open_ones cs)))
    by true e more = on e more (c.number == conn) other
    by false e more = ap (λ b. map plain_of (cond b (c ∷ open_ones rest) (open_ones rest))) e ∙ more

with-plain : (conn k : ℕ) (f : Subs → Subs) (cs : List Connection) → IsNumberedConnections k cs
    → plain_opens (with_subs conn f cs) ≡ set_plain conn (f (subs_of cs conn)) (plain_opens cs)
with-plain conn k f [] n = refl
with-plain conn k f (c ∷ cs) n = by (is_open c) refl (with-plain conn (suc k) f cs n.1)
  where
    number : c.number ≡ k
    number = n.0

    rest : List Connection
    rest = with_subs conn f cs

    on : is_open c ≡ true → plain_opens rest ≡ set_plain conn (f (subs_of cs conn)) (plain_opens cs)
        → (d : Bool)
        → (c.number == conn) ≡ d
        → plain_opens (cond d (record c { subs = f c.subs }) c ∷ rest)
        ≡ cond d (record (plain_of c) { subs = f (cond d c.subs (subs_of cs conn)) })
        (plain_of c) ∷ set_plain conn (f (cond d c.subs (subs_of cs conn))) (plain_opens cs)
    on e more true h =
        let same : c.number ≡ conn = grind (arith, nat_tests) in
        ap (λ b. map plain_of (cond b (record c { subs = f c.subs } ∷ open_ones rest) (open_ones rest))) e
        ∙ ap (λ ps. plain_of (record c { subs = f c.subs }) ∷ ps)
        (none-numbered conn (suc k) f (f c.subs) cs (omega arith) n.1)
    on e more false h = ap (λ b. map plain_of (cond b (c ∷ open_ones rest) (open_ones rest))) e
        ∙ ap (λ ps. plain_of c ∷ ps) more

    by : (b : Bool) → is_open c ≡ b → plain_opens rest ≡ set_plain conn (f (subs_of cs conn)) (plain_opens cs)
        → plain_opens (cond (b && (c.number == conn)) (record c { subs = f c.subs }) c ∷ rest)
        ≡ set_plain conn (f (cond (b && (c.number == conn)) c.subs (subs_of cs conn)))
        (map plain_of (cond b (c ∷ open_ones cs) (open_ones cs)))
    by true e more = on e more (c.number == conn) refl
    by false e more = ap (λ b. map plain_of (cond b (c ∷ open_ones rest) (open_ones rest))) e ∙ more

-- other subscriptions of one
pub plain-with-subs : (conn : ℕ) (f : Subs → Subs) (opens : List Open) (cs : List Connection)
    → IsNumberedConnections 1 cs
    → map plain opens ≡ map plain_of (open_ones cs)
    → map plain (with_subs_of conn (f (subs_at opens conn)) opens)
    ≡ map plain_of (open_ones (with_subs conn f cs))
plain-with-subs conn f opens cs n same =
    plain-with conn (f (subs_at opens conn)) opens
    ∙ ap (λ ps. set_plain conn (f (subs_at opens conn)) ps) same
    ∙ ap (λ subs. set_plain conn (f subs) (plain_opens cs)) (subs-are opens cs same conn)
    ∙ sym (with-plain conn 1 f cs n)
