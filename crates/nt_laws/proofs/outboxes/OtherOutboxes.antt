-- An outbox after other entries: older puts, subscriptions, and connections that come and go.
use Rattle.std.proofs.Common.{◌≡◌, ◌<◌, ◌≤◌, ◌+◌, ◌==◌, ◌&&◌, ℕ, Bool, true, cond, List, [], ◌∷◌, ◌++◌, Option, Some}
use Rattle.std.proofs.Common.{map}
use Rattle.std.proofs.Common.{length, refl, sym, ◌∙◌, ap, subst, arith}
use Rattle.std.specs.List.{filter_map}
use Rattle.nt_subs.specs.Subscriptions.{Subs}
use Rattle.nt_subs.specs.Wishes.{wanted}
use Rattle.nt_frames.specs.declared.message.ValueMsg.{ValueMsg}
use Rattle.nt_rules.specs.Limits.{first_meta}
use Rattle.nt_rules.specs.declared.topic.Cause.{Cause}
use Rattle.nt_rules.specs.declared.topic.Cause.TheVariants.{NoConn, Older}
use Rattle.nt_rules.specs.topics.Changes.{drop_changes}
use Rattle.nt_rules.specs.outbox.Calls.{OutboxState}
use Rattle.nt_rules.specs.declared.act.Msg.TheVariants as msg
use Rattle.nt_rules.specs.declared.act.Entry.{Entry}
use Rattle.nt_rules.specs.history.Lives.{Life, topics, closed_for}
use Rattle.nt_rules.specs.history.Answer.{Legal}
use Rattle.nt_rules.specs.declared.start.Start.{Start}
use Rattle.nt_rules.specs.history.Now.{Now, is_open_for, is_there, subs_of, cause_of, is_traced, lives_after, now_of}
use Rattle.nt_rules.specs.history.Metas.{metas_now}
use Rattle.nt_rules.specs.history.Owed.{Account, account, owed_by, wish_for}
use Rattle.nt_rules.specs.history.Marks.{marks_owed, held_place}
use Rattle.nt_rules.specs.history.State.{differences}
use Rattle.nt_rules.specs.history.Step.{Owes}
use Rattle.nt_laws.proofs.metas.AllLives.{IsNumbered}
use Rattle.nt_laws.proofs.metas.MetaRows.{meta_rows}
use Rattle.nt_laws.proofs.metas.MetasOwed.{metas-told, metas-still, metas-rewanted, metas-told-below}
use Rattle.nt_laws.proofs.metas.MetasOwed.{metas-rewanted-below}
use Rattle.nt_laws.proofs.marks.WishChanges.{wish-stays}
use Rattle.nt_laws.proofs.marks.MarksById.{look}
use Rattle.nt_laws.proofs.outboxes.OutboxCalls.{Op, run_at, run_at-append, called_all, KeepIds, keep-append}
use Rattle.nt_laws.proofs.outboxes.OutboxCalls.{difference_op, keep-differences, meta_op, keep-meta, rewanted_op}
use Rattle.nt_laws.proofs.outboxes.OutboxCalls.{keep-rewanted, change_ops, keep-changes}
use Rattle.nt_laws.proofs.marks.ClientMarksById.{client_at, Scene, SameSince, client-older, client-stays}
use Rattle.nt_laws.proofs.marks.ClientWishes.{client-rewanted, client-closed}
use Rattle.nt_laws.proofs.marks.ClientMarks.{since_by, scene, since-after, same-since, HandsNothing}
use Rattle.nt_laws.proofs.marks.ClientMarks.{given-stays}
use Rattle.nt_laws.proofs.marks.MarkLaws.{counts}
use Rattle.nt_laws.proofs.marks.ClientIds.{AreClient, AreLow, low-topics, low-dropped, low-rewanted}
use Rattle.nt_laws.proofs.outboxes.OpenConnections.{owes-told}
use Rattle.nt_laws.proofs.outboxes.OutboxesAfterMessage.{said_entry, lives-said, cause-said}

module _ (start : Start) (past : List Entry) (e : Entry) (conn : ℕ) (legal : Legal start past)
    (before : IsNumbered start past)
    (later : IsNumbered start (e ∷ past)) (hands : HandsNothing e.deed) where
  abbrev n : Now
  n = now_of start past

  abbrev n' : Now
  n' = now_of start (e ∷ past)

  abbrev place : ℕ
  place = length past + 1

  abbrev a : Account
  a = account start past conn

  abbrev a' : Account
  a' = account start (e ∷ past) conn

  abbrev since : Bool → List ℕ → ℕ
  since = since_by start past conn

  abbrev now : Bool → List ℕ → ℕ
  now = since_by start (e ∷ past) conn

  scene_is : Scene (length past) a a' since n.lives
  scene_is = scene start past e conn before legal hands

  gives : a'.given ≡ a.given
  gives = given-stays e.deed hands ((e.conn == conn) && is_open_for n.connections e.worker conn) a.given
      (owed_by a start past conn)

  low_before : AreLow (topics n.lives)
  low_before = let few = before.lives_few in low-topics 1 n.lives before.lives_numbered (omega arith)

  -- one that has these subscriptions before it and after it
  module _ (subs : Subs) (had : subs_of n.connections conn ≡ subs)
      (has : subs_of n'.connections conn ≡ subs) (there : is_there n'.connections conn ≡ true) where
    wishes : (name : List ℕ) → wish_for start (e ∷ past) conn name ≡ wish_for start past conn name
    wishes = wish-stays start past e conn (has ∙ sym had)

    same_is : SameSince (wanted subs) since now
    same_is = subst (λ s. SameSince (wanted s) since now) had (same-since start past e conn)

    clients-by : (ts : List Op) (lives : List Life) → n'.lives ≡ lives
        → ((k : ℕ) → k < first_meta → run_at k ts (client_at a conn (wanted subs) since k n.lives)
        ≡ client_at a' conn (wanted subs) now k lives)
        → (k : ℕ) → k < first_meta
        → run_at k ts (client_at a conn (wish_for start past conn) since k n.lives)
        ≡ client_at a' conn (wish_for start (e ∷ past) conn) now k n'.lives
    clients-by ts lives after each k low =
        ap (λ s. run_at k ts (client_at a conn (wanted s) since k n.lives)) had
        ∙ each k low
        ∙ sym (ap (λ ls. client_at a' conn (wanted subs) now k ls) after)
        ∙ sym (ap (λ s. client_at a' conn (wanted s) now k n'.lives) has)

    -- what is told of client topics, and what is different of meta topics
    pub owes-lives : (ts : List Op) → KeepIds ts → AreClient ts → (lives : List Life) → n'.lives ≡ lives
        → ((k : ℕ) → k < first_meta → run_at k ts (client_at a conn (wanted subs) since k n.lives)
        ≡ client_at a' conn (wanted subs) now k lives)
        → (b : OutboxState) → Owes start past conn b
        → Owes start (e ∷ past) conn
        (called_all place
        (ts ++ map (difference_op place (wanted subs)) (differences (metas_now n) (metas_now n'))) b)
    owes-lives ts keep client lives after each b owes =
        owes-told start past e conn b before later owes there ts metas keep
        (keep-differences place (wanted subs) (differences (metas_now n) (metas_now n'))) client
        (λ well. clients-by ts lives after each)
        (metas-told-below start past e conn legal before later gives place (wanted subs))
        (λ k high. ap
        (λ s. run_at k (map (difference_op place (wanted s)) (differences (metas_now n) (metas_now n')))
        (look k (marks_owed start past conn))) (sym has)
        ∙ metas-told start past e conn legal before later gives wishes k high)
      where
        metas : List Op
        metas = map (difference_op place (wanted subs)) (differences (metas_now n) (metas_now n'))

    -- where the lives stay, what is different of meta topics is all that is told
    pub owes-metas : n'.lives ≡ n.lives → (b : OutboxState) → Owes start past conn b
        → Owes start (e ∷ past) conn
        (called_all place
        (map (difference_op place (wanted subs)) (differences (metas_now n) (metas_now n'))) b)
    owes-metas still b owes =
        owes-lives [] tt tt n.lives still
        (λ k low. client-stays (length past) a a' conn
        (wanted subs) since now n.lives scene_is same_is k) b owes

    -- the end of another connection
    pub owes-closed : (sender : ℕ) (cached : List ℕ → Bool) → n'.lives ≡ map (closed_for place sender) n.lives
        → (b : OutboxState)
        → Owes start past conn b
        → Owes start (e ∷ past) conn
        (called_all place (change_ops place cached (wanted subs) (drop_changes (topics n.lives) sender)
        ++ map (difference_op place (wanted subs)) (differences (metas_now n) (metas_now n'))) b)
    owes-closed sender cached after b owes =
        owes-lives (change_ops place cached (wanted subs) (drop_changes (topics n.lives) sender))
        (keep-changes place cached (wanted subs) (drop_changes (topics n.lives) sender))
        (low-dropped place cached (wanted subs) (topics n.lives) low_before sender)
        (map (closed_for place sender) n.lives) after
        (λ k low. client-closed (length past) a a' conn
        (wanted subs) since now n.lives scene_is same_is k low sender cached) b owes

    -- an entry that leaves what is kept of client topics, and the meta topics
    pub owes-kept : (lives : List Life) → n'.lives ≡ lives → metas_now n' ≡ metas_now n
        → ((k : ℕ) → k < first_meta → client_at a conn (wanted subs) since k n.lives
        ≡ client_at a' conn (wanted subs) now k lives)
        → (b : OutboxState) → Owes start past conn b → Owes start (e ∷ past) conn b
    owes-kept lives after still each b owes =
        owes-told start past e conn b before later owes there [] [] tt tt tt
        (λ well. clients-by [] lives after each) (λ k low found. refl)
        (λ k high. metas-still start past e conn legal before later gives wishes still k high)

    pub scene-kept : Scene (length past) a a' since n.lives
    scene-kept = scene_is

    pub since-kept : SameSince (wanted subs) since now
    since-kept = same_is

  -- the sender of a subscription, whose wishes change
  pub owes-rewanted : (old subs : Subs) → subs_of n.connections conn ≡ old → subs_of n'.connections conn
      ≡ subs → is_there n'.connections conn ≡ true
      → n'.lives ≡ n.lives → meta_rows n' ≡ meta_rows n → (b : OutboxState) → Owes start past conn b
      → Owes start (e ∷ past) conn
      (called_all place
      (map (rewanted_op (filter_map held_place n.lives) (wanted old) (wanted subs)) (topics n.lives)
      ++ (map (meta_op (wanted old) (wanted subs)) (metas_now n')
      ++ map (difference_op place (wanted subs)) (differences (metas_now n) (metas_now n')))) b)
  owes-rewanted old subs had has there still rows b owes =
      owes-told start past e conn b before later owes there ts (ms ++ ds)
      (keep-rewanted (filter_map held_place n.lives) (wanted old) (wanted subs) (topics n.lives))
      (keep-append ms ds (keep-meta (wanted old) (wanted subs) (metas_now n'))
      (keep-differences place (wanted subs) (differences (metas_now n) (metas_now n'))))
      (low-rewanted (filter_map held_place n.lives) (wanted old) (wanted subs) (topics n.lives) low_before)
      (λ well. clients)
      (λ k low found. run_at-append k ms ds found
      ∙ ap (λ x. run_at k ds x)
      (metas-rewanted-below start past e conn legal before later gives (wanted old) (wanted subs) k low found)
      ∙ metas-told-below start past e conn legal before later gives place (wanted subs) k low found)
      metas
    where
      ts : List Op
      ts = map (rewanted_op (filter_map held_place n.lives) (wanted old) (wanted subs)) (topics n.lives)

      ms : List Op
      ms = map (meta_op (wanted old) (wanted subs)) (metas_now n')

      ds : List Op
      ds = map (difference_op place (wanted subs)) (differences (metas_now n) (metas_now n'))

      turns : (cached : Bool) (name : List ℕ)
          → now cached name ≡ cond (counts cached (wanted old name)) (since cached name) (length past + 1)
      turns cached name =
          since-after start past e conn cached name
          ∙ ap (λ s. cond (counts cached (wanted s name)) (since cached name) (length past + 1)) had

      clients : (k : ℕ) → k < first_meta
          → run_at k ts (client_at a conn (wish_for start past conn) since k n.lives)
          ≡ client_at a' conn (wish_for start (e ∷ past) conn) now k n'.lives
      clients k low =
          ap (λ s. run_at k ts (client_at a conn (wanted s) since k n.lives)) had
          ∙ client-rewanted (length past) a a' conn (wanted old)
          (wanted subs) since now n.lives scene_is turns k
          ∙ sym (ap (λ ls. client_at a' conn (wanted subs) now k ls) still)
          ∙ sym (ap (λ s. client_at a' conn (wanted s) now k n'.lives) has)

      metas : (k : ℕ) → first_meta ≤ k → run_at k (ms ++ ds) (look k (marks_owed start past conn))
          ≡ look k (marks_owed start (e ∷ past) conn)
      metas k high =
          ap (λ s. run_at k (map (meta_op (wanted s) (wanted subs)) (metas_now n') ++ ds)
          (look k (marks_owed start past conn))) (sym had)
          ∙ ap (λ s. run_at k
          (map (meta_op (wish_for start past conn) (wanted s)) (metas_now n')
          ++ map (difference_op place (wanted s)) (differences (metas_now n) (metas_now n'))) (look k
          (marks_owed start past conn))) (sym has)
          ∙ metas-rewanted start past e conn legal before later gives rows k high

-- ---- an older put

pub owes-older : (start : Start) (past : List Entry) (worker moment sender : ℕ) (v : ValueMsg) (conn : ℕ)
    → Legal start past → IsNumbered start past
    → IsNumbered start (said_entry worker moment sender (msg.Put v) ∷ past)
    → (subs : Subs) → subs_of (now_of start past).connections conn ≡ subs
    → subs_of (now_of start (said_entry worker moment sender (msg.Put v) ∷ past)).connections conn ≡ subs
    → is_there (now_of start (said_entry worker moment sender (msg.Put v) ∷ past)).connections conn ≡ true
    → cause_of (now_of start past) worker sender (msg.Put v) ≡ Some Older
    → metas_now (now_of start (said_entry worker moment sender (msg.Put v) ∷ past))
    ≡ metas_now (now_of start past)
    → (b : OutboxState) → Owes start past conn b
    → Owes start (said_entry worker moment sender (msg.Put v) ∷ past) conn b
owes-older start past worker moment sender v conn legal before later subs had has there older still b owes =
    owes-kept start past e conn legal before later tt subs had has there
    (lives_after (length past + 1) (now_of start past).lives sender (msg.Put v))
    (lives-said start past worker moment sender (msg.Put v) (ap (λ c. is_traced (msg.Put v) c) older)) still
    (λ k low. client-older (length past) (account start past conn) (account start (e ∷ past) conn) conn
    (wanted subs) (since_by start past conn) (since_by start (e ∷ past) conn) (now_of start past).lives
    (scene-kept start past e conn legal before later tt subs had has there)
    (since-kept start past e conn legal before later tt subs had has there) k sender v.id v.time v.value
    (cause-said (now_of start past) worker sender (msg.Put v) (Some Older) older apart))
    b owes
  where
    e : Entry
    e = said_entry worker moment sender (msg.Put v)

    apart : ◌≡◌ {A = Option Cause} (Some Older) (Some NoConn) → ⊥
    apart h = cc
