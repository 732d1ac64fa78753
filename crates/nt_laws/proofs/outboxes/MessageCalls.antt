-- What a message that counts tells an outbox of client topics, as a list of changes, and what these do at an
-- id.
use Rattle.std.proofs.Common.{◌≡◌, ◌<◌, ◌+◌, ◌==◌, ◌&&◌, not, ℕ, pos, Bool, true, false, cond, List, [], ◌∷◌, ◌++◌}
use Rattle.std.proofs.Common.{Option, Some, None, filter, length, refl, sym, ◌∙◌, ap}
use Rattle.std.specs.Prelude.{option_map, unwrap_or, bytes_eq}
use Rattle.std.specs.List.{list_any, find}
use Rattle.std.proofs.lemmas.Bool.{and_parts}
use Rattle.std.proofs.lemmas.Option.{none-some}
use Rattle.std.proofs.lemmas.Slice.Eq.{bytes_eq-Decides}
use Rattle.nt_topics.specs.Properties.{is_cached}
use Rattle.nt_subs.specs.declared.wish.Wanted.{Wanted}
use Rattle.nt_subs.specs.Wishes.{wanted}
use Rattle.nt_subs.specs.Subscriptions.{Subs}
use Rattle.nt_control.specs.declared.message.ClientMsg.TheVariants.{Publish, Unpublish, SetProps, Subscribe}
use Rattle.nt_control.specs.declared.message.ClientMsg.TheVariants.{Unsubscribe}
use Rattle.nt_rules.specs.Limits.{first_meta}
use Rattle.nt_rules.proofs.Positions.{find-none}
use Rattle.nt_rules.specs.declared.topic.Pub.{Pub}
use Rattle.nt_rules.specs.declared.topic.Topic.{Topic}
use Rattle.nt_rules.specs.declared.topic.Change.{Change}
use Rattle.nt_rules.specs.declared.topic.Change.TheVariants as change
use Rattle.nt_rules.specs.topics.Puts.{Put}
use Rattle.nt_rules.specs.topics.Topics.{is_named, has_publisher}
use Rattle.nt_rules.specs.outbox.Marks.{is_empty}
use Rattle.nt_rules.specs.declared.act.Msg.{Msg}
use Rattle.nt_rules.specs.declared.act.Msg.TheVariants as msg
use Rattle.nt_rules.specs.history.State.{Open}
use Rattle.nt_rules.specs.history.Lives.{Life, is_living, topic_of, topics, at_first, at_living, with_publishing}
use Rattle.nt_rules.specs.history.Lives.{with_a_put, born}
use Rattle.nt_rules.specs.history.Now.{said_cause, lives_after}
use Rattle.nt_rules.specs.history.Owed.{Account}
use Rattle.nt_rules.specs.history.State.{is_end, is_number, cached_in, changes_said, noted_all, sender_noted}
use Rattle.nt_rules.specs.history.State.{message_noted, changes_noted, turned_id, turn_noted}
use Rattle.nt_laws.proofs.topics.OneName.{is_called, HasOneName}
use Rattle.nt_laws.proofs.topics.FoundLives.{found-passes, find-topics}
use Rattle.nt_laws.proofs.outboxes.OutboxCalls.{Op, run_at, called_all, called-append, KeepIds, keep-append}
use Rattle.nt_laws.proofs.outboxes.OutboxCalls.{change_ops}
use Rattle.nt_laws.proofs.outboxes.OutboxCalls.{noted-calls, keep-changes, publish_ops, published-calls, keep-publish}
use Rattle.nt_laws.proofs.outboxes.OutboxCalls.{setting_ops, set-calls, keep-setting, turn_ops, turn-calls, keep-turn}
use Rattle.nt_laws.proofs.marks.ClientMarksById.{client_at, Scene, SameSince, client-put, client-unpublished}
use Rattle.nt_laws.proofs.marks.ClientChanges.{ToldWhere, client-joined, client-joined-own, client-born}
use Rattle.nt_laws.proofs.marks.ClientChanges.{client-born-own, client-set, client-set-own}

-- ---- the calls

-- what the sender is told, over the topics after its message, whether they are cached, and its changes
abbrev sender_ops : ℕ → (List ℕ → Bool) → (List ℕ → Wanted) → List Topic → Msg → List Change → List Op
sender_ops place cached wish after (msg.Control (Publish name uid typ props)) changes =
    publish_ops place (find (is_named name) after) uid (not (is_empty changes)) wish
sender_ops place cached wish after (msg.Control (SetProps name update)) changes =
    setting_ops place (find (is_named name) after) update
    ++ change_ops place cached wish (filter is_end changes)
sender_ops place cached wish after m changes = change_ops place cached wish changes

abbrev pub message_ops : ℕ → (List ℕ → Bool) → (List ℕ → Wanted) → List Topic → List Change → Bool → Msg → List Op
message_ops place cached wish after changes true m = sender_ops place cached wish after m changes
message_ops place cached wish after changes false m = change_ops place cached wish changes

-- what the sender, or another connection, is told of a message of this connection, over the topics before it and those
-- after it: first the turn
abbrev pub said_ops : ℕ → (List ℕ → Wanted) → List Topic → List Topic → List Change → Bool → Msg → List Op
said_ops place wish before after changes own m =
    turn_ops (turned_id before after m) ++ message_ops place (cached_in after) wish after changes own m

sender-calls : (place : ℕ) (after : List Topic) (m : Msg) (changes : List Change) (o : Open)
    → (sender_noted place after m changes o).outbox
    ≡ called_all place (sender_ops place (cached_in after) (wanted o.subs) after m changes) o.outbox
sender-calls place after (msg.Control (Publish name uid typ props)) changes o =
    published-calls place (find (is_named name) after) uid (not (is_empty changes)) (wanted o.subs) o.outbox
sender-calls place after (msg.Control (SetProps name update)) changes o =
    ap (λ b. noted_all place after (wanted o.subs) (filter is_end changes) b)
    (set-calls place (find (is_named name) after) name update o.outbox)
    ∙ noted-calls place after (wanted o.subs) (filter is_end changes) _
    ∙ sym (called-append place (setting_ops place (find (is_named name) after) update)
    (change_ops place (cached_in after) (wanted o.subs) (filter is_end changes)) o.outbox)
sender-calls place after (msg.Control (Unpublish uid)) changes o =
    noted-calls place after (wanted o.subs) changes o.outbox
sender-calls place after (msg.Control (Subscribe uid sub)) changes o =
    noted-calls place after (wanted o.subs) changes o.outbox
sender-calls place after (msg.Control (Unsubscribe uid)) changes o =
    noted-calls place after (wanted o.subs) changes o.outbox
sender-calls place after (msg.Put v) changes o = noted-calls place after (wanted o.subs) changes o.outbox

message-calls : (place : ℕ) (after : List Topic) (conn : ℕ) (m : Msg) (changes : List Change) (o : Open)
    → (message_noted place after conn m changes o).outbox
    ≡ called_all place (message_ops place (cached_in after) (wanted o.subs) after changes (is_number conn o) m) o.outbox
message-calls place after conn m changes o = by (is_number conn o)
  where
    by : (b : Bool) → (cond b (sender_noted place after m changes o) (changes_noted place after changes o)).outbox
        ≡ called_all place (message_ops place (cached_in after) (wanted o.subs) after changes b m) o.outbox
    by true = sender-calls place after m changes o
    by false = noted-calls place after (wanted o.subs) changes o.outbox

-- the connection, its subscriptions and the rest of it stay
message-still : (place : ℕ) (after : List Topic) (conn : ℕ) (m : Msg) (changes : List Change) (o : Open)
    → message_noted place after conn m changes o
    ≡ record o {
      outbox = called_all place
          (message_ops place (cached_in after) (wanted o.subs) after changes (is_number conn o) m) o.outbox;
    }
message-still place after conn m changes o =
    whole (is_number conn o) ∙ ap (λ b. record o { outbox = b }) (message-calls place after conn m changes o)
  where
    sender : (m : Msg) → sender_noted place after m changes o
        ≡ record o { outbox = (sender_noted place after m changes o).outbox }
    sender (msg.Control (Publish name uid typ props)) = refl
    sender (msg.Control (SetProps name update)) = refl
    sender (msg.Control (Unpublish uid)) = refl
    sender (msg.Control (Subscribe uid sub)) = refl
    sender (msg.Control (Unsubscribe uid)) = refl
    sender (msg.Put v) = refl

    whole : (b : Bool) → cond b (sender_noted place after m changes o) (changes_noted place after changes o)
        ≡ record o {
          outbox =
              (cond b (sender_noted place after m changes o) (changes_noted place after changes o)).outbox;
        }
    whole true = sender m
    whole false = refl

pub said-still : (place : ℕ) (before after : List Topic) (conn : ℕ) (m : Msg) (changes : List Change) (o : Open)
    → message_noted place after conn m changes (turn_noted place (turned_id before after m) o)
    ≡ record o {
      outbox = called_all place
          (said_ops place (wanted o.subs) before after changes (is_number conn o) m) o.outbox;
    }
said-still place before after conn m changes o =
    ap (λ x. message_noted place after conn m changes x) (turn-calls place (turned_id before after m) o)
    ∙ message-still place after conn m changes
    (record o { outbox = called_all place (turn_ops (turned_id before after m)) o.outbox })
    ∙ ap (λ b. record o { outbox = b })
    (sym (called-append place (turn_ops (turned_id before after m))
    (message_ops place (cached_in after) (wanted o.subs) after changes (is_number conn o) m) o.outbox))

keep-message : (place : ℕ) (cached : List ℕ → Bool) (wish : List ℕ → Wanted) (after : List Topic)
    (changes : List Change) (own : Bool) (m : Msg)
    → KeepIds (message_ops place cached wish after changes own m)
keep-message place cached wish after changes false m = keep-changes place cached wish changes
keep-message place cached wish after changes true (msg.Control (Publish name uid typ props)) =
    keep-publish place (find (is_named name) after) uid (not (is_empty changes)) wish
keep-message place cached wish after changes true (msg.Control (SetProps name update)) =
    keep-append (setting_ops place (find (is_named name) after) update)
    (change_ops place cached wish (filter is_end changes))
    (keep-setting place (find (is_named name) after) update)
    (keep-changes place cached wish (filter is_end changes))
keep-message place cached wish after changes true (msg.Control (Unpublish uid)) =
    keep-changes place cached wish changes
keep-message place cached wish after changes true (msg.Control (Subscribe uid sub)) =
    keep-changes place cached wish changes
keep-message place cached wish after changes true (msg.Control (Unsubscribe uid)) =
    keep-changes place cached wish changes
keep-message place cached wish after changes true (msg.Put v) = keep-changes place cached wish changes

pub keep-said : (place : ℕ) (wish : List ℕ → Wanted) (before after : List Topic) (changes : List Change)
    (own : Bool) (m : Msg)
    → KeepIds (said_ops place wish before after changes own m)
keep-said place wish before after changes own m =
    keep-append (turn_ops (turned_id before after m)) (message_ops place (cached_in after) wish after changes own m)
    (keep-turn (turned_id before after m)) (keep-message place (cached_in after) wish after changes own m)

-- ---- what they do

-- a message that says nothing of subscriptions
abbrev pub SaysTopics : Msg → Type 0
SaysTopics (msg.Control (Subscribe uid sub)) = ⊥
SaysTopics (msg.Control (Unsubscribe uid)) = ⊥
SaysTopics m = Unit {0}

-- a change of properties is told where it should be
abbrev pub TellsSet : ℕ → Account → Account → ℕ → ℕ → List Life → Msg → Type 0
TellsSet place a b conn sender lives (msg.Control (SetProps name update)) =
    ToldWhere place a b conn sender name lives
TellsSet place a b conn sender lives m = Unit {0}

-- ---- whether the topic of a put is cached after it

-- one that goes on is the one under its name
one-called : (test : Life → Bool) (lives : List Life) (m : Life) → HasOneName lives → find test lives ≡ Some m
    → is_living m ≡ true → find (is_called m.name) lives ≡ Some m
one-called test [] m one found living = cc
one-called test (l ∷ lives) m one found living =
    by (λ h. one-called test lives m one.1 h living) (test l) found
  where
    itself : bytes_eq m.name m.name ≡ true
    itself = (bytes_eq-Decides m.name m.name).1 refl

    first : l ≡ m → cond (is_called m.name l) (Some l) (find (is_called m.name) lives) ≡ Some m
    first same =
        ap (λ (x : Life). cond (is_called m.name x) (Some x) (find (is_called m.name) lives)) same
        ∙ ap (λ b. cond (b && bytes_eq m.name m.name) (Some m) (find (is_called m.name) lives)) living
        ∙ ap (λ b. cond b (Some m) (find (is_called m.name) lives)) itself

    -- the first isn't it
    later : find (is_called m.name) lives ≡ Some m → (b : Bool) → is_called m.name l ≡ b
        → cond b (Some l) (find (is_called m.name) lives) ≡ Some m
    later found false e = found
    later found true e =
        let parts = and_parts (is_living l) (bytes_eq l.name m.name) e in
        let same : l.name ≡ m.name = (bytes_eq-Decides l.name m.name).0 parts.1 in
        let alone : find (is_called m.name) lives ≡ None =
        find-none (is_called m.name) lives (ap (λ nm. list_any (is_called nm) lives) (sym same) ∙ one.0 parts.0) in
        absurd (none-some m (sym alone ∙ found))

    by : (find test lives ≡ Some m → find (is_called m.name) lives ≡ Some m) → (b : Bool)
        → cond b (Some l) (find test lives) ≡ Some m
        → cond (is_called m.name l) (Some l) (find (is_called m.name) lives) ≡ Some m
    by more true e = let same : l ≡ m = cc in first same
    by more false e = later (more e) (is_called m.name l) refl

-- a put leaves it so
cached-put : (p : Put) (test : Topic → Bool) (lives : List Life) (m : Life) → HasOneName lives
    → find (λ l. is_living l && test (topic_of l)) lives ≡ Some m
    → cached_in (topics (at_living test (with_a_put p) lives)) m.name ≡ is_cached m.props
cached-put p test lives m one found =
    ap (λ o. flag (option_map (λ t. is_cached t.props) o))
    (find-topics (is_named m.name) (at_first passes (with_a_put p) lives))
    ∙ ap flag (flags lives)
    ∙ ap (λ o. flag (option_map (λ (l : Life). is_cached l.props) o)) (one-called passes lives m one found living)
  where
    passes : Life → Bool
    passes l = is_living l && test (topic_of l)

    living : is_living m ≡ true
    living = (and_parts (is_living m) (test (topic_of m)) (found-passes passes lives m found)).0

    flag : Option Bool → Bool
    flag o = unwrap_or o true

    flags : (lives : List Life)
        → option_map (λ t. is_cached t.props)
        (option_map topic_of (find (is_called m.name) (at_first passes (with_a_put p) lives)))
        ≡ option_map (λ (l : Life). is_cached l.props) (find (is_called m.name) lives)
    flags [] = refl
    flags (l ∷ lives) = by (passes l) (flags lives)
      where
        put : Option Life
        put = find (is_called m.name) (at_first passes (with_a_put p) lives)

        rest : (o : Option Life) → option_map (λ t. is_cached t.props) (option_map topic_of o)
            ≡ option_map (λ (l : Life). is_cached l.props) o
        rest None = refl
        rest (Some l) = refl

        here : (c : Bool)
            → option_map (λ t. is_cached t.props)
            (option_map topic_of (cond c (Some (with_a_put p l)) (find (is_called m.name) lives)))
            ≡ option_map (λ (l : Life). is_cached l.props) (cond c (Some l) (find (is_called m.name) lives))
        here true = refl
        here false = rest (find (is_called m.name) lives)

        later : (c : Bool)
            → option_map (λ t. is_cached t.props) (option_map topic_of put)
            ≡ option_map (λ (l : Life). is_cached l.props) (find (is_called m.name) lives)
            → option_map (λ t. is_cached t.props) (option_map topic_of (cond c (Some l) put))
            ≡ option_map (λ (l : Life). is_cached l.props) (cond c (Some l) (find (is_called m.name) lives))
        later true more = refl
        later false more = more

        by : (b : Bool)
            → option_map (λ t. is_cached t.props) (option_map topic_of put)
            ≡ option_map (λ (l : Life). is_cached l.props) (find (is_called m.name) lives)
            → option_map (λ t. is_cached t.props)
            (option_map topic_of
            (find (is_called m.name) (cond b (with_a_put p l ∷ lives) (l ∷ at_first passes (with_a_put p) lives))))
            ≡ option_map (λ (l : Life). is_cached l.props) (find (is_called m.name) (l ∷ lives))
        by true more = here (is_called m.name l)
        by false more = later (is_called m.name l) more

pub client-said : (n : ℕ) (a b : Account) (conn : ℕ) (wish : List ℕ → Wanted) (since now : Bool → List ℕ → ℕ)
    (lives : List Life)
    → Scene n a b since lives → SameSince wish since now → HasOneName lives → (k : ℕ) → k < first_meta
    → (sender : ℕ) (subs : Subs) (m : Msg) → SaysTopics m
    → said_cause (topics lives) (length lives + 1) subs sender m ≡ None
    → TellsSet (n + 1) a b conn sender lives m → (own : Bool) → (sender == conn) ≡ own
    → run_at k
    (said_ops (n + 1) wish (topics lives) (topics (lives_after (n + 1) lives sender m))
    (changes_said (topics lives) (length lives + 1) sender m) own m)
    (client_at a conn wish since k lives)
    ≡ client_at b conn wish now k (lives_after (n + 1) lives sender m)
client-said n a b conn wish since now lives scene same one k low sender subs
    (msg.Control (Publish name uid typ props)) says counts tells own e =
    by (list_any (is_named name) (topics lives)) refl own e
  where
    p : Pub
    p = record { conn = sender; uid = uid; typ = typ }

    new : Life
    new = born (n + 1) (length lives + 1) name typ props p

    after : Bool → List Life
    after there = cond there (at_living (is_named name) (with_publishing (n + 1) p) lives) (lives ++ new ∷ [])

    changes : Bool → List Change
    changes there = cond there [] (change.Started (pos (length lives + 1)) name typ props ∷ [])

    by : (there : Bool) → list_any (is_named name) (topics lives) ≡ there → (own : Bool) → (sender == conn)
        ≡ own
        → run_at k
        (said_ops (n + 1) wish (topics lives) (topics (after there)) (changes there) own
        (msg.Control (Publish name uid typ props))) (client_at a conn wish since k lives)
        ≡ client_at b conn wish now k (after there)
    by true there true e = client-joined-own n a b conn wish since now lives scene same k name p e
    by true there false e = client-joined n a b conn wish since now lives scene same k name p e
    by false there true e =
        client-born-own n a b conn wish since now lives scene same k low name typ props p e there
    by false there false e =
        client-born n a b conn wish since now lives scene same k low name typ props p e
        (cached_in (topics (after false)))
client-said n a b conn wish since now lives scene same one k low sender subs
    (msg.Control (SetProps name update)) says counts tells true e =
    client-set-own n a b conn wish since now lives scene same one k low sender name update e tells
    (cached_in (topics (lives_after (n + 1) lives sender (msg.Control (SetProps name update)))))
client-said n a b conn wish since now lives scene same one k low sender subs
    (msg.Control (SetProps name update)) says counts tells false e =
    client-set n a b conn wish since now lives scene same one k low sender name update e tells
    (cached_in (topics (lives_after (n + 1) lives sender (msg.Control (SetProps name update)))))
client-said n a b conn wish since now lives scene same one k low sender subs
    (msg.Control (Unpublish uid)) says counts tells true e =
    client-unpublished n a b conn wish since now lives scene same k low sender uid
    (cached_in (topics (lives_after (n + 1) lives sender (msg.Control (Unpublish uid)))))
client-said n a b conn wish since now lives scene same one k low sender subs
    (msg.Control (Unpublish uid)) says counts tells false e =
    client-unpublished n a b conn wish since now lives scene same k low sender uid
    (cached_in (topics (lives_after (n + 1) lives sender (msg.Control (Unpublish uid)))))
client-said n a b conn wish since now lives scene same one k low sender subs
    (msg.Control (Subscribe uid sub)) says counts tells own e = absurd says
client-said n a b conn wish since now lives scene same one k low sender subs
    (msg.Control (Unsubscribe uid)) says counts tells own e = absurd says
client-said n a b conn wish since now lives scene same one k low sender subs
    (msg.Put v) says counts tells true e =
    client-put n a b conn wish since now lives scene same k low sender v.id v.time v.value counts
    (cached_in (topics (lives_after (n + 1) lives sender (msg.Put v))))
    (λ l found. cached-put (record { place = n + 1; time = v.time; value = v.value })
    (has_publisher sender v.id) lives l one found)
client-said n a b conn wish since now lives scene same one k low sender subs
    (msg.Put v) says counts tells false e =
    client-put n a b conn wish since now lives scene same k low sender v.id v.time v.value counts
    (cached_in (topics (lives_after (n + 1) lives sender (msg.Put v))))
    (λ l found. cached-put (record { place = n + 1; time = v.time; value = v.value })
    (has_publisher sender v.id) lives l one found)
