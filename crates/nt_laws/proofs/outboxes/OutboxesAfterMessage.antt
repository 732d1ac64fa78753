-- An outbox after a message: what it is told of it leaves it holding what is owed.
use Rattle.std.proofs.Common.{◌≡◌, ◌<◌, ◌≤◌, ◌+◌, ◌==◌, ◌&&◌, ◌||◌, not, ℕ, Bool, true, false, cond, List, [], ◌∷◌}
use Rattle.std.proofs.Common.{◌++◌, Option, Some, None, map, length, refl, sym, ◌∙◌, ap, subst, arith}
use Rattle.std.specs.Prelude.{is_none, option_map, bytes_eq}
use Rattle.std.specs.List.{list_any, find}
use Rattle.std.proofs.lemmas.Bool.{and_parts}
use Rattle.std.proofs.lemmas.Bool.Decides.{nat_tests}
use Rattle.std.proofs.lemmas.Option.{none-some}
use Rattle.nt_subs.specs.Subscriptions.{Subs}
use Rattle.nt_subs.specs.Wishes.{wanted}
use Rattle.nt_control.specs.declared.message.ClientMsg.TheVariants.{Publish, Unpublish, SetProps, Subscribe}
use Rattle.nt_control.specs.declared.message.ClientMsg.TheVariants.{Unsubscribe}
use Rattle.nt_rules.specs.Limits.{first_meta}
use Rattle.nt_rules.specs.declared.topic.Topic.{Topic}
use Rattle.nt_rules.specs.declared.topic.Change.{Change}
use Rattle.nt_rules.specs.declared.topic.Cause.{Cause}
use Rattle.nt_rules.specs.declared.topic.Cause.TheVariants.{NoConn}
use Rattle.nt_rules.specs.topics.Topics.{is_named}
use Rattle.nt_rules.specs.outbox.Keys.{Key, sets}
use Rattle.nt_rules.specs.outbox.Marks.{is_empty}
use Rattle.nt_rules.specs.outbox.Calls.{OutboxState}
use Rattle.nt_rules.specs.declared.act.Msg.{Msg}
use Rattle.nt_rules.specs.declared.act.Msg.TheVariants as msg
use Rattle.nt_rules.specs.declared.act.Deed.TheVariants.{Said}
use Rattle.nt_rules.specs.declared.act.Entry.{Entry}
use Rattle.nt_rules.specs.history.Lives.{Life, is_living, topics, topic_of}
use Rattle.nt_rules.specs.history.Answer.{Legal}
use Rattle.nt_rules.specs.declared.start.Start.{Start}
use Rattle.nt_rules.specs.history.Now.{Now, is_open_for, is_there, subs_of, said_cause, cause_of, is_traced}
use Rattle.nt_rules.specs.history.Now.{lives_after, connections_after, now_of}
use Rattle.nt_rules.specs.history.Metas.{all_lives, metas_now}
use Rattle.nt_rules.specs.history.Owed.{Account, account, owed_by, keys_owed, settings_after, set_on, is_announced}
use Rattle.nt_rules.specs.history.Owed.{owed_settings, life_at, wish_for, wish_on, since_for}
use Rattle.nt_rules.specs.history.Marks.{marks_owed}
use Rattle.nt_rules.specs.history.State.{differences, changes_said}
use Rattle.nt_rules.specs.history.Step.{Owes}
use Rattle.nt_laws.proofs.histories.Facts.{place-is}
use Rattle.nt_laws.proofs.topics.OneName.{is_called, HasOneName}
use Rattle.nt_laws.proofs.metas.AllLives.{IsNumbered}
use Rattle.nt_laws.proofs.metas.MetaOrder.{lives-rise}
use Rattle.nt_laws.proofs.metas.MetasOwed.{metas-told, metas-still, metas-told-below}
use Rattle.nt_laws.proofs.marks.WishChanges.{wish-stays}
use Rattle.nt_laws.proofs.marks.MarksById.{look}
use Rattle.nt_laws.proofs.outboxes.OutboxCalls.{Op, run_at, called_all, difference_op, keep-differences}
use Rattle.nt_laws.proofs.marks.MarkLaws.{is_told}
use Rattle.nt_laws.proofs.topics.FoundLives.{rising-numbered, found-passes, found-at, find-topics}
use Rattle.nt_laws.proofs.marks.ClientMarksById.{client_at, Scene, SameSince}
use Rattle.nt_laws.proofs.marks.ClientChanges.{ToldWhere}
use Rattle.nt_laws.proofs.marks.ClientMarks.{since_by, client-life, scene, same-since, told-low}
use Rattle.nt_laws.proofs.outboxes.MessageCalls.{said_ops, keep-said, SaysTopics, TellsSet, client-said}
use Rattle.nt_laws.proofs.marks.ClientIds.{AreLow, low-topics, low-one, low-said}
use Rattle.nt_laws.proofs.marks.SettingsOwed.{owed-sets}
use Rattle.nt_laws.proofs.outboxes.OpenConnections.{owes-told}

-- ---- the present after a message

abbrev pub said_entry : ℕ → ℕ → ℕ → Msg → Entry
said_entry worker moment sender m = record { worker = worker; conn = sender; now = moment; deed = Said m }

traced-none : (m : Msg) → is_traced m None ≡ true
traced-none m = refl

-- what a message that leaves a trace makes of lives and connections
pub lives-said : (start : Start) (past : List Entry) (worker moment sender : ℕ) (m : Msg)
    → is_traced m (cause_of (now_of start past) worker sender m) ≡ true
    → (now_of start (said_entry worker moment sender m ∷ past)).lives
    ≡ lives_after (length past + 1) (now_of start past).lives sender m
lives-said start past worker moment sender m traced =
    ap (λ b.
    (cond b (record n {
      connections = connections_after n.connections sender m;
      lives = lives_after
          (n.place + 1) n.lives sender m;
    }) n).lives) traced
    ∙ ap (λ p. lives_after (p + 1) n.lives sender m) (place-is start past)
  where
    n : Now
    n = now_of start past

pub connections-said : (start : Start) (past : List Entry) (worker moment sender : ℕ) (m : Msg)
    → is_traced m (cause_of (now_of start past) worker sender m) ≡ true
    → (now_of start (said_entry worker moment sender m ∷ past)).connections
    ≡ connections_after (now_of start past).connections sender m
connections-said start past worker moment sender m traced =
    ap (λ b.
    (cond b (record n {
      connections = connections_after n.connections sender m;
      lives = lives_after
          (n.place + 1) n.lives sender m;
    }) n).connections) traced
  where
    n : Now
    n = now_of start past

-- the cause of one whose connection is open
pub cause-said : (n : Now) (worker sender : ℕ) (m : Msg) (c : Option Cause) → cause_of n worker sender m ≡ c
    → (c ≡ Some NoConn → ⊥)
    → said_cause (topics n.lives) (length n.lives + 1) (subs_of n.connections sender) sender m ≡ c
cause-said n worker sender m c e other = by (is_open_for n.connections worker sender) e
  where
    by : (b : Bool)
        → cond b (said_cause (topics n.lives) (length n.lives + 1) (subs_of n.connections sender) sender m)
        (Some NoConn) ≡ c
        → said_cause (topics n.lives) (length n.lives + 1) (subs_of n.connections sender) sender m ≡ c
    by true e = e
    by false e = absurd (other (sym e))

-- ---- one message, one connection

module _ (start : Start) (past : List Entry) (worker moment sender : ℕ) (m : Msg) (conn : ℕ)
    (legal : Legal start past)
    (before : IsNumbered start past)
    (later : IsNumbered start (said_entry worker moment sender m ∷ past)) where
  abbrev e : Entry
  e = said_entry worker moment sender m

  abbrev n : Now
  n = now_of start past

  abbrev n' : Now
  n' = now_of start (e ∷ past)

  abbrev place : ℕ
  place = length past + 1

  abbrev a : Account
  a = account start past conn

  abbrev a' : Account
  a' = account start (e ∷ past) conn

  abbrev since : Bool → List ℕ → ℕ
  since = since_by start past conn

  abbrev now : Bool → List ℕ → ℕ
  now = since_by start (e ∷ past) conn

  abbrev owed_before : List Key
  owed_before = owed_by a start past conn

  scene_is : Scene (length past) a a' since n.lives
  scene_is = scene start past e conn before legal tt

  gives : a'.given ≡ a.given
  gives = refl

  low_before : AreLow (topics n.lives)
  low_before = let few = before.lives_few in low-topics 1 n.lives before.lives_numbered (omega arith)

  low_next : length n.lives + 1 < first_meta
  low_next = let few = before.lives_few in omega arith

  -- of a life that goes on a change of properties is owed where its mark has one
  owes-setting : a.fell ≡ None → is_there n.connections conn ≡ true → (name : List ℕ) (life : Life)
      → find (is_called name) n.lives ≡ Some life
      → list_any (sets life.id) owed_before ≡ not (is_empty (owed_settings a life))
  owes-setting well there name life found =
      ap (λ t. list_any (sets life.id) (cond (t && is_none a.fell) keys [])) there
      ∙ ap (λ f. list_any (sets life.id) (cond (is_none f) keys [])) well
      ∙ owed-sets a conn (wish_on (wish_for start past conn)) (since_for start past conn) (all_lives start past) life.id
      life (lives-rise start past before) at living
    where
      keys : List Key
      keys =
          keys_owed a conn (wish_on (wish_for start past conn)) (since_for start past conn) (all_lives start past)

      living : is_living life ≡ true
      living =
          (and_parts (is_living life) (bytes_eq life.name name)
          (found-passes (is_called name) n.lives life found)).0

      low : life.id < first_meta
      low =
          low-one (is_named name) (topics n.lives) low_before (topic_of life)
          (find-topics (is_named name) n.lives ∙ ap (λ o. option_map topic_of o) found)

      at : life_at life.id (all_lives start past) ≡ Some life
      at =
          client-life start past life.id low
          ∙ found-at (is_called name) n.lives life (rising-numbered 1 n.lives before.lives_numbered) found

  -- of a change of properties that counts it is told where it sent it, where the topic was announced, and where an
  -- earlier one is owed
  tells-set : a.fell ≡ None → is_there n.connections conn ≡ true → cause_of n worker sender m ≡ None
      → TellsSet place a a' conn sender n.lives m
  tells-set well there counts = by m refl counts
    where
      by : (c : Msg) → m ≡ c → cause_of n worker sender m ≡ None → TellsSet place a a' conn sender n.lives c
      by (msg.Control (Publish name uid typ props)) same counts = tt
      by (msg.Control (Unpublish uid)) same counts = tt
      by (msg.Control (Subscribe uid sub)) same counts = tt
      by (msg.Control (Unsubscribe uid)) same counts = tt
      by (msg.Put v) same counts = tt
      by (msg.Control (SetProps name update)) same counts = told
        where
          told : ToldWhere place a a' conn sender name n.lives
          told life found =
              ap (λ c. list_any (λ p. p == place)
              (settings_after a owed_before conn (n.place + 1) sender (set_on n worker sender (Said c)))) same
              ∙ ap (λ o. list_any (λ p. p == place) (settings_after a owed_before conn (n.place + 1) sender o)) sets_id
              ∙ on ((sender == conn) || (is_announced a life.id || list_any (sets life.id) owed_before))
              ∙ ap (λ t. (sender == conn) || (is_announced a life.id || t)) (owes-setting well there name life found)
            where
              sets_id : set_on n worker sender (Said (msg.Control (SetProps name update))) ≡ Some life.id
              sets_id =
                  ap (λ c. cond (is_none c)
                  (option_map (λ t. t.id) (find (is_named name) (topics n.lives))) None) (ap
                  (cause_of n worker sender) (sym same) ∙ counts)
                  ∙ ap (λ o. option_map (λ t. t.id) o)
                  (find-topics (is_named name) n.lives ∙ ap (λ o. option_map topic_of o) found)

              on : (b : Bool)
                  → list_any (λ p. p == place) (cond b ((n.place + 1) ∷ a.told_settings) a.told_settings) ≡ b
              on true =
                  let at = place-is start past in
                  let here : ((n.place + 1) == place) ≡ true = grind (arith, nat_tests) in
                  ap (λ b. b || is_told a place) here
              on false = told-low start past conn place (omega arith)

  -- the wishes of one with these subscriptions
  module _ (subs : Subs) (had : subs_of n.connections conn ≡ subs)
      (has : subs_of n'.connections conn ≡ subs) where
    wishes : (name : List ℕ) → wish_for start (e ∷ past) conn name ≡ wish_for start past conn name
    wishes = wish-stays start past e conn (has ∙ sym had)

    same_is : SameSince (wanted subs) since now
    same_is = subst (λ s. SameSince (wanted s) since now) had (same-since start past e conn)

    -- what is told of client topics, where it leads from what was kept to what is over the lives after it
    clients-by : (ts : List Op) (lives : List Life) → n'.lives ≡ lives
        → ((k : ℕ) → k < first_meta → run_at k ts (client_at a conn (wanted subs) since k n.lives)
        ≡ client_at a' conn (wanted subs) now k lives)
        → (k : ℕ) → k < first_meta
        → run_at k ts (client_at a conn (wish_for start past conn) since k n.lives)
        ≡ client_at a' conn (wish_for start (e ∷ past) conn) now k n'.lives
    clients-by ts lives after each k low =
        ap (λ s. run_at k ts (client_at a conn (wanted s) since k n.lives)) had
        ∙ each k low
        ∙ sym (ap (λ ls. client_at a' conn (wanted subs) now k ls) after)
        ∙ sym (ap (λ s. client_at a' conn (wanted s) now k n'.lives) has)

    metas-by : (k : ℕ) → first_meta ≤ k
        → run_at k (map (difference_op place (wanted subs)) (differences (metas_now n) (metas_now n')))
        (look k (marks_owed start past conn))
        ≡ look k (marks_owed start (e ∷ past) conn)
    metas-by k high =
        ap (λ s. run_at k (map (difference_op place (wanted s)) (differences (metas_now n) (metas_now n')))
        (look k (marks_owed start past conn))) (sym has)
        ∙ metas-told start past e conn legal before later gives wishes k high

    clients-said : a.fell ≡ None → is_there n.connections conn ≡ true → HasOneName n.lives → SaysTopics m
        → cause_of n worker sender m ≡ None → (own : Bool)
        → (sender == conn) ≡ own
        → (k : ℕ) → k < first_meta
        → run_at k
        (said_ops place (wanted subs) (topics n.lives) (topics (lives_after place n.lives sender m))
        (changes_said (topics n.lives) (length n.lives + 1) sender m) own m)
        (client_at a conn (wish_for start past conn) since k n.lives)
        ≡ client_at a' conn (wish_for start (e ∷ past) conn) now k n'.lives
    clients-said well was one says counts own same =
        clients-by
        (said_ops place (wanted subs) (topics n.lives) (topics (lives_after place n.lives sender m))
        (changes_said (topics n.lives) (length n.lives + 1) sender m) own m)
        (lives_after place n.lives sender m) after
        (λ k low. client-said (length past) a a' conn
        (wanted subs) since now n.lives scene_is same_is one k low sender
        (subs_of n.connections sender) m says
        (cause-said n worker sender m None counts (λ h. none-some NoConn h)) (tells-set well was counts) own same)
      where
        after : n'.lives ≡ lives_after place n.lives sender m
        after = lives-said start past worker moment sender m (ap (λ c. is_traced m c) counts ∙ traced-none m)

    low-after : cause_of n worker sender m ≡ None → AreLow (topics (lives_after place n.lives sender m))
    low-after counts =
        subst (λ ls. AreLow (topics ls))
        (lives-said start past worker moment sender m (ap (λ c. is_traced m c) counts ∙ traced-none m))
        (let few = later.lives_few in low-topics 1 n'.lives later.lives_numbered (omega arith))

    -- a control message that counts and says nothing of subscriptions
    pub owes-said : HasOneName n.lives → SaysTopics m → cause_of n worker sender m ≡ None
        → is_there n.connections conn ≡ true → is_there n'.connections conn ≡ true
        → (own : Bool) → (sender == conn) ≡ own → (b : OutboxState) → Owes start past conn b
        → Owes start (e ∷ past) conn (called_all place
        (said_ops place (wanted subs) (topics n.lives) (topics (lives_after place n.lives sender m))
        (changes_said (topics n.lives) (length n.lives + 1) sender m) own m
        ++ map (difference_op place (wanted subs)) (differences (metas_now n) (metas_now n'))) b)
    owes-said one says counts was there own same b owes =
        owes-told start past e conn b before later owes there ops metas
        (keep-said place (wanted subs) (topics n.lives) after changes own m)
        (keep-differences place (wanted subs) (differences (metas_now n) (metas_now n')))
        (low-said place (wanted subs) (topics n.lives) after low_before (low-after counts)
        (length n.lives + 1) low_next sender m own)
        (λ well. clients-said well was one says counts own same)
        (metas-told-below start past e conn legal before later gives place (wanted subs))
        metas-by
      where
        after : List Topic
        after = topics (lives_after place n.lives sender m)

        changes : List Change
        changes = changes_said (topics n.lives) (length n.lives + 1) sender m

        ops : List Op
        ops = said_ops place (wanted subs) (topics n.lives) after changes own m

        metas : List Op
        metas = map (difference_op place (wanted subs)) (differences (metas_now n) (metas_now n'))

    -- a message that counts and tells nothing of meta topics
    pub owes-put : HasOneName n.lives → SaysTopics m → cause_of n worker sender m ≡ None → metas_now n'
        ≡ metas_now n
        → is_there n.connections conn ≡ true → is_there n'.connections conn ≡ true
        → (own : Bool) → (sender == conn) ≡ own → (b : OutboxState) → Owes start past conn b
        → Owes start (e ∷ past) conn (called_all place
        (said_ops place (wanted subs) (topics n.lives) (topics (lives_after place n.lives sender m))
        (changes_said (topics n.lives) (length n.lives + 1) sender m) own m ++ []) b)
    owes-put one says counts still was there own same b owes =
        owes-told start past e conn b before later owes there ops []
        (keep-said place (wanted subs) (topics n.lives) after changes own m) tt
        (low-said place (wanted subs) (topics n.lives) after low_before (low-after counts)
        (length n.lives + 1) low_next sender m own)
        (λ well. clients-said well was one says counts own same)
        (λ k low found. refl)
        (λ k high. metas-still start past e conn legal before later gives wishes still k high)
      where
        after : List Topic
        after = topics (lives_after place n.lives sender m)

        changes : List Change
        changes = changes_said (topics n.lives) (length n.lives + 1) sender m

        ops : List Op
        ops = said_ops place (wanted subs) (topics n.lives) after changes own m
