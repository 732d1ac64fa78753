-- Connections that want no meta topic, and what they are told.
use Rattle.std.proofs.Common.{◌≡◌, ◌<◌, ℕ, Bool, true, false, cond, List, [], ◌∷◌, ◌++◌, Option, Some, None, map, filter, refl, sym, ◌∙◌, ap, subst}
use Rattle.std.specs.List.{AllByRecursion, find}
use Rattle.std.specs.Prelude.{unwrap_or}
use Rattle.nt_topics.specs.Properties.{is_cached}
use Rattle.nt_rules.specs.topics.Topics.{is_named}
use Rattle.nt_subs.specs.Subscriptions.{Subs}
use Rattle.nt_subs.specs.Wishes.{wanted}
use Rattle.nt_rules.specs.declared.meta.MetaNow.{MetaNow}
use Rattle.nt_rules.specs.declared.taken.Taken.{Taken}
use Rattle.nt_rules.specs.declared.topic.Change.{Change}
use Rattle.nt_rules.specs.declared.topic.Topic.{Topic}
use Rattle.nt_control.specs.declared.message.ClientMsg.TheVariants.{Publish, Unpublish, SetProps, Subscribe, Unsubscribe}
use Rattle.nt_rules.specs.Limits.{first_meta}
use Rattle.nt_rules.specs.declared.act.Msg.{Msg}
use Rattle.nt_rules.specs.declared.act.Msg.TheVariants.{Control, Put}
use Rattle.nt_rules.specs.declared.act.StepOut.TheVariants as out
use Rattle.nt_rules.specs.declared.topic.Cause.TheVariants.{NoConn}
use Rattle.nt_rules.specs.history.Answer.{drained_out}
use Rattle.nt_rules.specs.outbox.Calls.{OutboxState, behind, drained_batch, nothing_owed, reached, turned_to}
use Rattle.nt_rules.specs.history.State.{Open, is_number, subs_at, outbox_at, sender_noted, drained_by, with_outbox, with_subs_of, open_metas, differences, noted_differences, meta_rewanted_all, rewanted_all, rewanting, refreshed, changes_noted, message_noted, turn_noted, drained_from}
use Rattle.nt_laws.specs.Ids.{AreLow, AreLowTopics, AreLowChanges}
use Rattle.nt_laws.proofs.topics.ItemFacts.{each-append, each-filter, each-more, map-same}
use Rattle.nt_laws.proofs.metas.Quiet.{AreMeta, wants-none, open-metas-meta, differences-meta, quiet-differences, quiet-rewanted, quiet-rewanted-below}
use Rattle.nt_laws.proofs.outboxes.QuietDrains.{quiet-batch}
use Rattle.nt_laws.proofs.outboxes.LowIds.{low-reached, low-told, low-changes-noted, low-rewanted-all, low-drained}
use Rattle.nt_server.specs.Connections.{Connections, resubscribed, reached_all}
use Rattle.nt_server.specs.View.{turned_one, turned_since}
use Rattle.nt_server.specs.MetaWishes.{give_special, WantsNoMeta, WereKept, AreKept, MayBeWanted, known}
use Rattle.nt_server.proofs.RosterRows.{metas_drained, metas_said}

abbrev pub WantNone : List Open → Type 0
WantNone opens = AllByRecursion WantsNoMeta opens

-- the outbox of one of them
pub low-outbox : (opens : List Open) (conn : ℕ) → AllByRecursion WantsNoMeta opens → AreLow (outbox_at opens conn).marks
low-outbox [] conn h = tt
low-outbox (o ∷ opens) conn h = by (is_number conn o) (low-outbox opens conn h.1)
  where
    by : (b : Bool) → AreLow (outbox_at opens conn).marks → AreLow (cond b o.outbox (outbox_at opens conn)).marks
    by true more = h.0.marks
    by false more = more

-- a change of each that leaves its subscriptions and keeps nothing more of meta topics
pub none-mapped : (f : Open → Open) → ((o : Open) → (f o).subs ≡ o.subs)
    → ((o : Open) → AreLow o.outbox.marks → AreLow (f o).outbox.marks)
    → (opens : List Open) → WantNone opens → WantNone (map f opens)
none-mapped f same low [] h = tt
none-mapped f same low (o ∷ opens) h =
    (record { plain = ap give_special (same o) ∙ h.0.plain; marks = low o h.0.marks }, none-mapped f same low opens h.1)

pub none-reached : (place : ℕ) (opens : List Open) → WantNone opens → WantNone (reached_all place opens)
none-reached place opens h =
    none-mapped (λ o. with_outbox (reached place o.outbox) o) (λ o. refl) (λ o low. low-reached place o.outbox low) opens h

-- all that are told what is different of meta topics come to the place, and no more
pub none-refreshed : (place : ℕ) (os : List Open) (us ts : List Topic) (opens : List Open) → WantNone opens
    → refreshed place (open_metas os us) ts opens ≡ reached_all place opens
none-refreshed place os us ts opens h =
    map-same
    (λ o. with_outbox (noted_differences place (wanted o.subs) (differences (open_metas os us) (open_metas opens ts))
    (reached place o.outbox)) o)
    (λ o. with_outbox (reached place o.outbox) o) opens
    (each-more WantsNoMeta
    (λ o. with_outbox (noted_differences place (wanted o.subs) (differences (open_metas os us) (open_metas opens ts))
    (reached place o.outbox)) o
    ≡ with_outbox (reached place o.outbox) o)
    (λ o w. ap (λ b. with_outbox b o)
    (quiet-differences place (wanted o.subs) (differences (open_metas os us) (open_metas opens ts)) o.outbox
    (wants-none o.subs w.plain)
    (differences-meta (open_metas os us) (open_metas opens ts) (open-metas-meta os us) (open-metas-meta opens ts))
    w.marks))
    opens h)

-- those of a message, with the topic that it turned
pub none-told : (place : ℕ) (ts : List Topic) (conn : ℕ) (m : Msg) (changes : List Change) (turned : Option ℕ)
    → AreLowTopics ts → AreLowChanges changes → ((id : ℕ) → turned ≡ Some id → id < first_meta)
    → (opens : List Open) → WantNone opens
    → WantNone (map (λ o. message_noted place ts conn m changes (turn_noted place turned o)) opens)
none-told place ts conn m changes turned topics low turns opens h =
    none-mapped (λ o. message_noted place ts conn m changes (turn_noted place turned o)) (same turned)
    (λ o marks. low-told place ts conn m changes turned o topics low turns marks) opens h
  where
    noted : (o : Open) → (message_noted place ts conn m changes o).subs ≡ o.subs
    noted o = by (is_number conn o) m
      where
        sender : (m : Msg) → (sender_noted place ts m changes o).subs ≡ o.subs
        sender (Control (Publish name uid typ props)) = refl
        sender (Control (Unpublish uid)) = refl
        sender (Control (SetProps name update)) = refl
        sender (Control (Subscribe uid sub)) = refl
        sender (Control (Unsubscribe uid)) = refl
        sender (Put v) = refl

        by : (b : Bool) (m : Msg)
            → (cond b (sender_noted place ts m changes o) (changes_noted place ts changes o)).subs ≡ o.subs
        by true m = sender m
        by false m = refl

    same : (turned : Option ℕ) (o : Open)
        → (message_noted place ts conn m changes (turn_noted place turned o)).subs ≡ o.subs
    same None o = noted o
    same (Some id) o = noted (with_outbox (turned_to place id o.outbox) o)

pub none-ended : (place : ℕ) (ts : List Topic) (changes : List Change) → AreLowChanges changes
    → (opens : List Open) → WantNone opens → WantNone (map (changes_noted place ts changes) opens)
none-ended place ts changes low opens h =
    none-mapped (changes_noted place ts changes) (λ o. refl)
    (λ o marks. low-changes-noted place ts changes o low marks) opens h

pub none-drained : (conn budget : ℕ) (opens : List Open) → WantNone opens
    → WantNone (map (drained_from conn budget) opens)
none-drained conn budget opens h =
    none-mapped (drained_from conn budget) same (λ o marks. low-drained conn budget o marks) opens h
  where
    same : (o : Open) → (drained_from conn budget o).subs ≡ o.subs
    same o = by (is_number conn o)
      where
        by : (b : Bool) → (cond b (with_outbox (drained_by budget o.outbox) o) o).subs ≡ o.subs
        by true = refl
        by false = refl

-- ---- other subscriptions

-- one that gave no special name and gives none
none-given : (conn : ℕ) (subs : Subs) → give_special subs ≡ false → (opens : List Open) → WantNone opens
    → WantNone (with_subs_of conn subs opens)
none-given conn subs plain [] h = tt
none-given conn subs plain (o ∷ opens) h = (one (is_number conn o), none-given conn subs plain opens h.1)
  where
    one : (b : Bool) → WantsNoMeta (cond b (record o { subs = subs }) o)
    one true = record { plain = plain; marks = h.0.marks }
    one false = h.0

subs-plain : (conn : ℕ) (opens : List Open) → WantNone opens → give_special (subs_at opens conn) ≡ false
subs-plain conn [] h = refl
subs-plain conn (o ∷ opens) h = by (is_number conn o) (subs-plain conn opens h.1)
  where
    by : (b : Bool) → give_special (subs_at opens conn) ≡ false → give_special (cond b o.subs (subs_at opens conn)) ≡ false
    by true more = h.0.plain
    by false more = more

-- it is told of topics alone
abbrev rewanted_from : ℕ → List Taken → List Topic → List MetaNow → ℕ → Subs → Open → Open
rewanted_from place taken ts ms conn old o =
    cond (is_number conn o)
    (with_outbox (meta_rewanted_all place (wanted old) (wanted o.subs) ms
    (rewanted_all place taken (wanted old) (wanted o.subs) ts o.outbox)) o) o

reached-rewanting : (place : ℕ) (taken : List Taken) (ts : List Topic) (ms : List MetaNow) (conn : ℕ) (old : Subs)
    → AreMeta ms → give_special old ≡ false → AreLowTopics ts → (opens : List Open) → WantNone opens
    → reached_all place (rewanting place taken ts ms conn old opens)
    ≡ reached_all place (rewanting place taken ts [] conn old opens)
reached-rewanting place taken ts ms conn old all plain low [] h = refl
reached-rewanting place taken ts ms conn old all plain low (o ∷ opens) h =
    ap (λ p. p ∷ reached_all place (rewanting place taken ts ms conn old opens)) (one (is_number conn o))
    ∙ ap (λ ps. reach (rewanted_from place taken ts [] conn old o) ∷ ps)
    (reached-rewanting place taken ts ms conn old all plain low opens h.1)
  where
    reach : Open → Open
    reach o = with_outbox (reached place o.outbox) o

    one : (b : Bool)
        → reach (cond b
        (with_outbox (meta_rewanted_all place (wanted old) (wanted o.subs) ms
        (rewanted_all place taken (wanted old) (wanted o.subs) ts o.outbox)) o) o)
        ≡ reach (cond b
        (with_outbox (rewanted_all place taken (wanted old) (wanted o.subs) ts o.outbox) o) o)
    one true =
        ap (λ b. with_outbox b o)
        (quiet-rewanted place (wanted old) (wanted o.subs) ms
        (rewanted_all place taken (wanted old) (wanted o.subs) ts o.outbox) (wants-none old plain)
        (wants-none o.subs h.0.plain) all
        (low-rewanted-all place taken (wanted old) (wanted o.subs) ts o.outbox low h.0.marks))
    one false = refl

low-rewanting : (place : ℕ) (taken : List Taken) (ts : List Topic) (ms : List MetaNow) (conn : ℕ) (old : Subs)
    → AreMeta ms → give_special old ≡ false → AreLowTopics ts → (opens : List Open) → WantNone opens
    → WantNone (rewanting place taken ts ms conn old opens)
low-rewanting place taken ts ms conn old all plain low [] h = tt
low-rewanting place taken ts ms conn old all plain low (o ∷ opens) h =
    (one (is_number conn o), low-rewanting place taken ts ms conn old all plain low opens h.1)
  where
    one : (b : Bool)
        → WantsNoMeta (cond b
        (with_outbox (meta_rewanted_all place (wanted old) (wanted o.subs) ms
        (rewanted_all place taken (wanted old) (wanted o.subs) ts o.outbox)) o) o)
    one true =
        record {
          plain = h.0.plain;
          marks =
              quiet-rewanted-below place (wanted old) (wanted o.subs) ms
              (rewanted_all place taken (wanted old) (wanted o.subs) ts o.outbox) (wants-none old plain)
              (wants-none o.subs h.0.plain) all
              (low-rewanted-all place taken (wanted old) (wanted o.subs) ts o.outbox low h.0.marks);
        }
    one false = h.0

-- where none wants a meta topic, before and after, one that has other subscriptions is told of topics alone
pub none-resubscribed : (place : ℕ) (taken : List Taken) (ts : List Topic) (conn : ℕ) (subs : Subs)
    (opens : List Open) → AreLowTopics ts → give_special subs ≡ false → WantNone opens
    → reached_all place (rewanting place taken ts [] conn (subs_at opens conn) (with_subs_of conn subs opens))
    ≡ resubscribed place (open_metas opens ts) taken ts conn subs opens
none-resubscribed place taken ts conn subs opens low plain h =
    sym (reached-rewanting place taken ts metas conn old all was low others given)
    ∙ sym (none-refreshed place opens ts ts (rewanting place taken ts metas conn old others)
    (low-rewanting place taken ts metas conn old all was low others given))
  where
    others : List Open
    others = with_subs_of conn subs opens

    old : Subs
    old = subs_at opens conn

    metas : List MetaNow
    metas = open_metas others ts

    all : AreMeta metas
    all = open-metas-meta others ts

    was : give_special old ≡ false
    was = subs-plain conn opens h

    given : WantNone others
    given = none-given conn subs plain opens h

pub none-after : (place : ℕ) (taken : List Taken) (ts : List Topic) (conn : ℕ) (subs : Subs)
    (opens : List Open) → AreLowTopics ts → give_special subs ≡ false → WantNone opens
    → WantNone (reached_all place (rewanting place taken ts [] conn (subs_at opens conn) (with_subs_of conn subs opens)))
none-after place taken ts conn subs opens low plain h =
    none-reached place (rewanting place taken ts [] conn (subs_at opens conn) (with_subs_of conn subs opens))
    (low-rewanting place taken ts [] conn (subs_at opens conn) tt (subs-plain conn opens h) low
    (with_subs_of conn subs opens) (none-given conn subs plain opens h))

-- what is kept of the meta topics says at least that
pub may-be-wanted : (kept : Option (List MetaNow)) (before : List MetaNow) (opens : List Open)
    → WereKept kept before opens → MayBeWanted kept opens
may-be-wanted (Some ms) before opens h = tt
may-be-wanted None before opens h = h

-- ---- drains

-- what is handed by the meta topics as far as they are kept is what is handed by all
pub known-batch : (kept : Option (List MetaNow)) (opens : List Open) (ts : List Topic) (serves : Bool)
    (conn moment budget : ℕ) (ms : List MetaNow) → ms ≡ known kept → AreKept kept opens ts
    → cond serves (drained_out (behind (outbox_at opens conn))
    (drained_batch (record { topics = ts; metas = ms }) moment budget (outbox_at opens conn))) (out.Ignored NoConn)
    ≡ cond serves (drained_out (behind (outbox_at opens conn))
    (drained_batch (record { topics = ts; metas = open_metas opens ts }) moment budget (outbox_at opens conn)))
    (out.Ignored NoConn)
known-batch (Some list) opens ts serves conn moment budget ms is kept =
    ap (λ ms. cond serves (drained_out (behind (outbox_at opens conn))
    (drained_batch (record { topics = ts; metas = ms }) moment budget (outbox_at opens conn))) (out.Ignored NoConn))
    (is ∙ kept)
known-batch None opens ts serves conn moment budget ms is kept =
    ap (λ b. cond serves (drained_out (behind (outbox_at opens conn)) b) (out.Ignored NoConn))
    (quiet-batch ts ms (open_metas opens ts) moment budget (outbox_at opens conn) (low-outbox opens conn kept))

pub kept-drained : (kept : Option (List MetaNow)) (ts : List Topic) (old new : Connections) (conn budget : ℕ) (serves : Bool)
    → new ≡ cond serves (record old { opens = map (drained_from conn budget) old.opens }) old
    → AreKept kept old.opens ts → AreKept kept new.opens ts
kept-drained kept ts old new conn budget serves is h =
    subst (λ (k : Connections). AreKept kept k.opens ts) (sym is) (by serves)
  where
    mapped : (kept : Option (List MetaNow)) → AreKept kept old.opens ts
        → AreKept kept (map (drained_from conn budget) old.opens) ts
    mapped (Some ms) h = h ∙ sym (metas_drained ts conn budget old.opens)
    mapped None h = none-drained conn budget old.opens h

    by : (serves : Bool) → AreKept kept (cond serves (record old { opens = map (drained_from conn budget) old.opens }) old).opens ts
    by true = mapped kept h
    by false = h

-- ---- what is kept, while connections are told

pub were-told : (kept : Option (List MetaNow)) (before : List MetaNow) (opens told : List Open)
    → (WantNone opens → WantNone told) → WereKept kept before opens → WereKept kept before told
were-told (Some ms) before opens told tells h = h
were-told None before opens told tells h = tells h

-- some that they were before
pub some-before : (kept : Option (List MetaNow)) (opens : List Open) → MayBeWanted kept opens
    → (before : List MetaNow) × WereKept kept before opens
some-before (Some ms) opens h = (ms, refl)
some-before None opens h = ([], h)

may-told : (kept : Option (List MetaNow)) (opens told : List Open) → (WantNone opens → WantNone told)
    → MayBeWanted kept opens → MayBeWanted kept told
may-told (Some ms) opens told tells h = tt
may-told None opens told tells h = tells h

pub before-told : (kept : Option (List MetaNow)) (opens told : List Open) → (WantNone opens → WantNone told)
    → MayBeWanted kept opens → (before : List MetaNow) × WereKept kept before told
before-told kept opens told tells h = some-before kept told (may-told kept opens told tells h)

-- the topic that a message turned is one of the topics
low-named : (test : Topic → Bool) (ts : List Topic) (t : Topic) → AreLowTopics ts → find test ts ≡ Some t
    → t.id < first_meta
low-named test [] t low e = absurd (cc)
low-named test (u ∷ ts) t low e = by (test u) e (λ e. low-named test ts t low.1 e)
  where
    by : (b : Bool) → cond b (Some u) (find test ts) ≡ Some t → (find test ts ≡ Some t → t.id < first_meta)
        → t.id < first_meta
    by true e more = subst (λ (x : Topic). x.id < first_meta) (ap (λ o. unwrap_or o u) e) low.0
    by false e more = more e

low-one : (cached : Option Bool) (found : Option Topic) (id : ℕ)
    → ((t : Topic) → found ≡ Some t → t.id < first_meta) → turned_one cached found ≡ Some id → id < first_meta
low-one (Some true) (Some t) id low e = by (is_cached t.props) e
  where
    by : (b : Bool) → cond b None (Some t.id) ≡ Some id → id < first_meta
    by true e = absurd (cc)
    by false e = subst (λ n. n < first_meta) (ap (λ o. unwrap_or o t.id) e) (low t refl)
low-one (Some false) (Some t) id low e = by (is_cached t.props) e
  where
    by : (b : Bool) → cond b (Some t.id) None ≡ Some id → id < first_meta
    by true e = subst (λ n. n < first_meta) (ap (λ o. unwrap_or o t.id) e) (low t refl)
    by false e = absurd (cc)
low-one None (Some t) id low e = absurd (cc)
low-one None None id low e = absurd (cc)
low-one (Some true) None id low e = absurd (cc)
low-one (Some false) None id low e = absurd (cc)

pub low-since : (cached : Option Bool) (ts : List Topic) (m : Msg) (id : ℕ) → AreLowTopics ts
    → turned_since cached ts m ≡ Some id → id < first_meta
low-since cached ts (Control (SetProps name update)) id low e =
    low-one cached (find (is_named name) ts) id (λ t f. low-named (is_named name) ts t low f) e
low-since cached ts (Control (Publish name uid typ props)) id low e = absurd (cc)
low-since cached ts (Control (Unpublish uid)) id low e = absurd (cc)
low-since cached ts (Control (Subscribe uid sub)) id low e = absurd (cc)
low-since cached ts (Control (Unsubscribe uid)) id low e = absurd (cc)
low-since cached ts (Put v) id low e = absurd (cc)

-- one more that opens
pub none-pushed : (opens : List Open) (o : Open) → o.subs ≡ [] → o.outbox ≡ nothing_owed → WantNone opens
    → WantNone (opens ++ o ∷ [])
none-pushed opens o subs outbox h =
    each-append WantsNoMeta opens (o ∷ []) h (
      record {
        plain = ap give_special subs;
        marks = subst (λ (b : OutboxState). AreLow b.marks) (sym outbox) tt;
      },
      tt,
    )

pub none-without : (test : Open → Bool) (opens : List Open) → WantNone opens → WantNone (filter test opens)
none-without test opens h = each-filter WantsNoMeta test opens h

-- a put leaves what the meta topics tell
pub kept-said : (kept : Option (List MetaNow)) (opens : List Open) (place : ℕ) (ts : List Topic) (conn : ℕ) (m : Msg)
    (changes : List Change) (turned : Option ℕ) → AreLowTopics ts → AreLowChanges changes
    → ((id : ℕ) → turned ≡ Some id → id < first_meta) → AreKept kept opens ts
    → AreKept kept (map (λ o. message_noted place ts conn m changes (turn_noted place turned o)) opens) ts
kept-said (Some ms) opens place ts conn m changes turned low told turns h =
    h ∙ sym (metas_said ts place ts conn m changes turned opens)
kept-said None opens place ts conn m changes turned low told turns h =
    none-told place ts conn m changes turned low told turns opens h
