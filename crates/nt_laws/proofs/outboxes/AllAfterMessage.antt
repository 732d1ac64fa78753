-- All outboxes after a message.
use Rattle.std.proofs.Common.{◌≡◌, ◌≤◌, ◌+◌, ◌==◌, ℕ, Bool, true, false, cond, List, [], ◌∷◌, ◌++◌, None, map, length}
use Rattle.std.proofs.Common.{append-nil, refl, sym, ◌∙◌, ap, subst, arith}
use Rattle.std.specs.List.{AllByRecursion, filter_map}
use Rattle.std.proofs.lemmas.Bool.Decides.{nat_tests}
use Rattle.std.proofs.lemmas.List.{append_assoc}
use Rattle.nt_subs.specs.Subscriptions.{Subs}
use Rattle.nt_subs.specs.Wishes.{wanted}
use Rattle.nt_rules.specs.declared.topic.Topic.{Topic}
use Rattle.nt_rules.specs.declared.topic.Change.{Change}
use Rattle.nt_rules.specs.declared.meta.MetaNow.{MetaNow}
use Rattle.nt_rules.specs.declared.act.Act.TheVariants as act
use Rattle.nt_rules.specs.declared.act.Msg.{Msg}
use Rattle.nt_rules.specs.declared.act.Entry.{Entry}
use Rattle.nt_rules.specs.history.State.{Open}
use Rattle.nt_rules.specs.declared.taken.Taken.{Taken}
use Rattle.nt_rules.specs.history.Lives.{Life, topics}
use Rattle.nt_rules.specs.history.Answer.{Legal, moment_of}
use Rattle.nt_rules.specs.declared.start.Start.{Start}
use Rattle.nt_rules.specs.history.Now.{Now, open_ones, is_there, subs_of, with_subs, said_cause, cause_of, is_traced}
use Rattle.nt_rules.specs.history.Now.{lives_after, now_of}
use Rattle.nt_rules.specs.history.Metas.{metas_now}
use Rattle.nt_rules.specs.history.Marks.{held_place}
use Rattle.nt_rules.specs.declared.meta.Difference.{Difference}
use Rattle.nt_rules.specs.history.State.{State, differences, is_number, subs_at, open_metas, refreshed, topics_said}
use Rattle.nt_rules.specs.history.State.{changes_said, message_noted, with_outbox, rewanted_all, meta_rewanted_all}
use Rattle.nt_rules.specs.history.State.{turned_id, turn_noted, with_subs_of, rewanting, subscribed}
use Rattle.nt_rules.specs.history.Step.{Core, plain, plain_of, Owes, AllOwe}
use Rattle.nt_laws.proofs.histories.Facts.{place-is}
use Rattle.nt_laws.proofs.topics.OneName.{HasOneName, lives-named}
use Rattle.nt_laws.proofs.topics.ItemFacts.{each-all}
use Rattle.nt_laws.proofs.metas.AllLives.{IsFitStart, IsNumbered}
use Rattle.nt_laws.proofs.metas.MetaRows.{meta_rows}
use Rattle.nt_laws.proofs.metas.MetaOrder.{is-numbered}
use Rattle.nt_laws.proofs.marks.WishChanges.{subs-with}
use Rattle.nt_laws.proofs.histories.ConnectionLaws.{plain-said, plain-rewanting, plain-with-subs}
use Rattle.nt_laws.proofs.histories.CoreLaws.{IsKeptOf, topics-are, next-is, place-kept, subs-kept}
use Rattle.nt_laws.proofs.topics.TopicLaws.{topics-said-are}
use Rattle.nt_laws.proofs.histories.Lawful.{answered}
use Rattle.nt_laws.proofs.outboxes.OutboxCalls.{Op, called_all, called-append, difference_op, meta_op, meta-calls}
use Rattle.nt_laws.proofs.outboxes.OutboxCalls.{rewanted_op, rewanted-calls}
use Rattle.nt_laws.proofs.outboxes.MessageCalls.{said_ops, said-still, SaysTopics}
use Rattle.nt_laws.proofs.outboxes.OpenConnections.{IsOpenIn, opens-in, all-owe}
use Rattle.nt_laws.proofs.outboxes.OutboxesAfterMessage.{said_entry, lives-said, cause-said, owes-said, owes-put}
use Rattle.nt_laws.proofs.outboxes.OtherOutboxes.{owes-metas, owes-rewanted}
use Rattle.nt_laws.proofs.outboxes.RefreshedOutboxes.{metas-kept-by, with_calls, told-owe, refreshed-owe}

flip : (a b : ℕ) → (a == b) ≡ (b == a)
flip a b = by (b == a) refl
  where
    by : (t : Bool) → (b == a) ≡ t → (a == b) ≡ t
    by true e = grind (arith, nat_tests)
    by false e = grind (arith, nat_tests)

-- one message after a history that a server keeps
module _ (start : Start) (past : List Entry) (s : State) (worker now sender : ℕ) (m : Msg)
    (fit : IsFitStart start) (legal : Legal start past)
    (lawful : Legal start (answered start past worker now (act.Said sender m) ∷ past))
    (kept : IsKeptOf s (now_of start past)) (owe : AllOwe start past s.opens) where
  abbrev n : Now
  n = now_of start past

  abbrev moment : ℕ
  moment = moment_of n now

  abbrev e : Entry
  e = said_entry worker moment sender m

  abbrev n' : Now
  n' = now_of start (e ∷ past)

  abbrev place : ℕ
  place = length past + 1

  pub before : IsNumbered start past
  before = is-numbered start past fit.few legal

  pub later : IsNumbered start (e ∷ past)
  later = is-numbered start (e ∷ past) fit.few lawful

  one_name : HasOneName n.lives
  one_name = lives-named start past fit.distinct

  place_is : s.place + 1 ≡ place
  place_is = ap (λ p. p + 1) (place-kept s n kept ∙ place-is start past)

  within : place ≤ length (e ∷ past)
  within = omega arith

  metas_are : open_metas s.opens s.topics ≡ metas_now n
  metas_are = metas-kept-by s.opens s.topics n kept.opens_are (topics-are s n kept)

  -- connections that are open after it as before it
  module _ (still : n'.connections ≡ n.connections) where
    same_opens : map plain s.opens ≡ map plain_of (open_ones n'.connections)
    same_opens = kept.opens_are ∙ ap (λ cs. map plain_of (open_ones cs)) (sym still)

    all_open : AllByRecursion (IsOpenIn n'.connections) s.opens
    all_open = opens-in s.opens n'.connections same_opens later.connections_numbered

    pub had : (o : Open) → IsOpenIn n'.connections o → subs_of n.connections o.conn ≡ o.subs
    had o h = ap (λ cs. subs_of cs o.conn) (sym still) ∙ h.subs_are

    was : (o : Open) → IsOpenIn n'.connections o → is_there n.connections o.conn ≡ true
    was o h = ap (λ cs. is_there cs o.conn) (sym still) ∙ h.there

    -- where nothing is told
    pub all_still :
        ((o : Open) → IsOpenIn n'.connections o → Owes start past o.conn o.outbox
        → Owes start (e ∷ past) o.conn o.outbox)
        → AllOwe start (e ∷ past) s.opens
    all_still each = by s.opens all_open owe
      where
        by : (opens : List Open) → AllByRecursion (IsOpenIn n'.connections) opens → AllOwe start past opens
            → AllOwe start (e ∷ past) opens
        by [] h owe = tt
        by (o ∷ opens) h owe = (each o h.0 owe.0, by opens h.1 owe.1)

    -- a message that counts and says nothing of subscriptions
    module _ (says : SaysTopics m) (counts : cause_of n worker sender m ≡ None) where
      abbrev lives : List Life
      lives = lives_after place n.lives sender m

      abbrev changes : List Change
      changes = changes_said (topics n.lives) (length n.lives + 1) sender m

      lives_are : n'.lives ≡ lives
      lives_are = lives-said start past worker moment sender m (ap (λ c. is_traced m c) counts)

      cause_is : said_cause (topics n.lives) (length n.lives + 1) (subs_of n.connections sender) sender m
          ≡ None
      cause_is = cause-said n worker sender m None counts (λ h. cc)

      abbrev ops : Open → List Op
      ops o = said_ops place (wanted o.subs) (topics n.lives) (topics lives) changes (is_number sender o) m

      -- a turn, and then the changes
      abbrev noted : ℕ → List Topic → List Topic → List Change → Open → Open
      noted p before after changes o =
          message_noted p after sender m changes (turn_noted p (turned_id before after m) o)

      abbrev refresh : List MetaNow → ℕ → List Topic → ℕ → List Open
      refresh ms p ts next =
          refreshed p ms (topics_said ts next sender m)
          (map (noted p ts (topics_said ts next sender m) (changes_said ts next sender m)) s.opens)

      -- they are told of topics and of meta topics
      pub control-owe : AllOwe start (e ∷ past)
          (refresh (open_metas s.opens s.topics) (s.place + 1) s.topics s.next)
      control-owe =
          subst (λ ms. AllOwe start (e ∷ past) (refresh ms (s.place + 1) s.topics s.next)) (sym metas_are)
          (subst (λ p. AllOwe start (e ∷ past) (refresh (metas_now n) p s.topics s.next)) (sym place_is)
          (subst (λ ts. AllOwe start (e ∷ past) (refresh (metas_now n) place ts s.next))
          (sym (topics-are s n kept))
          (subst (λ next. AllOwe start (e ∷ past) (refresh (metas_now n) place (topics n.lives) next))
          (sym (next-is s n kept))
          (subst (λ after. AllOwe start (e ∷ past)
          (refreshed place (metas_now n) after (map (noted place (topics n.lives) after changes) s.opens)))
          (topics-said-are place n.lives (subs_of n.connections sender) sender m cause_is)
          (refreshed-owe start past (e ∷ past) place within (metas_now n) (topics lives)
          (noted place (topics n.lives) (topics lives) changes) ops
          (said-still place (topics n.lives) (topics lives) sender m changes)
          (differences (metas_now n) (metas_now n')) s.opens differ
          (IsOpenIn n'.connections) one all_open owe)))))
        where
          differ : differences (metas_now n)
              (open_metas (map (noted place (topics n.lives) (topics lives) changes) s.opens) (topics lives))
              ≡ differences (metas_now n) (metas_now n')
          differ =
              ap (λ ms. differences (metas_now n) ms)
              (metas-kept-by (map (noted place (topics n.lives) (topics lives) changes) s.opens) (topics lives) n'
              (plain-said place (topics lives) (turned_id (topics n.lives) (topics lives) m) sender m changes s.opens
              ∙ same_opens)
              (ap topics (sym lives_are)))

          one : (o : Open) → IsOpenIn n'.connections o → Owes start past o.conn o.outbox
              → Owes start (e ∷ past) o.conn
              (called_all place
              (ops o ++ map (difference_op place (wanted o.subs))
              (differences (metas_now n) (metas_now n'))) o.outbox)
          one o h owes =
              owes-said start past worker moment sender m o.conn legal before later o.subs
              (had o h) h.subs_are one_name says counts (was o h) h.there
              (is_number sender o) (flip sender o.conn) o.outbox owes

      abbrev tell : ℕ → List Topic → ℕ → List Open
      tell p ts next =
          map (noted p ts (topics_said ts next sender m) (changes_said ts next sender m)) s.opens

      -- they are told of topics alone
      pub put-owe : metas_now n' ≡ metas_now n → AllOwe start (e ∷ past) (tell (s.place + 1) s.topics s.next)
      put-owe same =
          subst (λ p. AllOwe start (e ∷ past) (tell p s.topics s.next)) (sym place_is)
          (subst (λ ts. AllOwe start (e ∷ past) (tell place ts s.next)) (sym (topics-are s n kept))
          (subst (λ next. AllOwe start (e ∷ past) (tell place (topics n.lives) next)) (sym (next-is s n kept))
          (subst (λ after. AllOwe start (e ∷ past) (map (noted place (topics n.lives) after changes) s.opens))
          (topics-said-are place n.lives (subs_of n.connections sender) sender m cause_is)
          (told-owe start past (e ∷ past) place (noted place (topics n.lives) (topics lives) changes) ops
          (said-still place (topics n.lives) (topics lives) sender m changes)
          (IsOpenIn n'.connections) one s.opens all_open owe))))
        where
          one : (o : Open) → IsOpenIn n'.connections o → Owes start past o.conn o.outbox
              → Owes start (e ∷ past) o.conn (called_all place (ops o) o.outbox)
          one o h owes =
              subst (λ ops. Owes start (e ∷ past) o.conn (called_all place ops o.outbox)) (append-nil (ops o))
              (owes-put start past worker moment sender m o.conn legal before later o.subs
              (had o h) h.subs_are one_name says counts same (was o h) h.there
              (is_number sender o) (flip sender o.conn) o.outbox owes)

  -- a subscription or its end
  module _ (f : Subs → Subs) (resubscribed : n'.connections ≡ with_subs sender f n.connections)
      (still : n'.lives ≡ n.lives) (rows : meta_rows n' ≡ meta_rows n) where
    abbrev opens : List Open
    opens = with_subs_of sender (f (subs_at s.opens sender)) s.opens

    opens_are : map plain opens ≡ map plain_of (open_ones n'.connections)
    opens_are =
        plain-with-subs sender f s.opens n.connections before.connections_numbered kept.opens_are
        ∙ ap (λ cs. map plain_of (open_ones cs)) (sym resubscribed)

    opens_open : AllByRecursion (IsOpenIn n'.connections) opens
    opens_open = opens-in opens n'.connections opens_are later.connections_numbered

    opens_owe : AllOwe start past opens
    opens_owe =
        all-owe start past past (λ o. Unit {0}) _ (λ o h owes. by o (is_number sender o) owes) s.opens
        (each-all (λ o. Unit {0}) (λ o. tt) s.opens) owe
      where
        by : (o : Open) (b : Bool) → Owes start past o.conn o.outbox
            → Owes start past (cond b (record o { subs = f (subs_at s.opens sender) }) o).conn
            (cond b (record o { subs = f (subs_at s.opens sender) }) o).outbox
        by o true owes = owes
        by o false owes = owes

    metas_after : open_metas opens s.topics ≡ metas_now n'
    metas_after = metas-kept-by opens s.topics n' opens_are (topics-are s n kept ∙ ap topics (sym still))

    abbrev taken : List Taken
    taken = filter_map held_place n.lives

    abbrev old : Subs
    old = subs_of n.connections sender

    abbrev ds : List Difference
    ds = differences (metas_now n) (metas_now n')

    -- the calls of its own wishes
    abbrev sub_ops : Open → List Op
    sub_ops o =
        cond (is_number sender o)
        (map (rewanted_op taken (wanted old) (wanted o.subs)) (topics n.lives)
        ++ map (meta_op (wanted old) (wanted o.subs)) (metas_now n')) []

    abbrev sub_told : Open → Open
    sub_told o =
        cond (is_number sender o)
        (with_outbox
        (meta_rewanted_all place (wanted old) (wanted o.subs) (metas_now n')
        (rewanted_all place taken (wanted old) (wanted o.subs) (topics n.lives) o.outbox)) o) o

    sub_does : (o : Open) → sub_told o ≡ with_calls place sub_ops o
    sub_does o = by (is_number sender o)
      where
        topic_ops : List Op
        topic_ops = map (rewanted_op taken (wanted old) (wanted o.subs)) (topics n.lives)

        meta_ops : List Op
        meta_ops = map (meta_op (wanted old) (wanted o.subs)) (metas_now n')

        by : (b : Bool)
            → cond b
            (with_outbox
            (meta_rewanted_all place (wanted old) (wanted o.subs) (metas_now n')
            (rewanted_all place taken (wanted old) (wanted o.subs) (topics n.lives) o.outbox)) o) o
            ≡ record o { outbox = called_all place (cond b (topic_ops ++ meta_ops) []) o.outbox }
        by true =
            ap (λ b. record o { outbox = b })
            (ap (λ b. meta_rewanted_all place (wanted old) (wanted o.subs) (metas_now n') b)
            (rewanted-calls place taken (wanted old) (wanted o.subs) (topics n.lives) o.outbox)
            ∙ meta-calls place (wanted old) (wanted o.subs) (metas_now n')
            (called_all place topic_ops o.outbox)
            ∙ sym (called-append place topic_ops meta_ops o.outbox))
        by false = refl

    sub_one : (o : Open) → IsOpenIn n'.connections o → Owes start past o.conn o.outbox
        → Owes start (e ∷ past) o.conn
        (called_all place (sub_ops o ++ map (difference_op place (wanted o.subs)) ds) o.outbox)
    sub_one o h owes = by (is_number sender o) refl
      where
        topic_ops : List Op
        topic_ops = map (rewanted_op taken (wanted old) (wanted o.subs)) (topics n.lives)

        meta_ops : List Op
        meta_ops = map (meta_op (wanted old) (wanted o.subs)) (metas_now n')

        told : List Op
        told = map (difference_op place (wanted o.subs)) ds

        by : (b : Bool) → is_number sender o ≡ b
            → Owes start (e ∷ past) o.conn
            (called_all place (cond b (topic_ops ++ meta_ops) [] ++ told) o.outbox)
        by true own =
            let same : o.conn ≡ sender = grind (arith, nat_tests) in
            subst (λ ops. Owes start (e ∷ past) o.conn (called_all place ops o.outbox))
            (sym (append_assoc topic_ops meta_ops told))
            (owes-rewanted start past e o.conn legal before later tt old o.subs
            (ap (λ c. subs_of n.connections c) same) h.subs_are h.there still rows o.outbox owes)
        by false own =
            owes-metas start past e o.conn legal before later tt o.subs
            (sym (ap (λ cs. subs_of cs o.conn) resubscribed
            ∙ subs-with sender o.conn f n.connections (flip sender o.conn ∙ own)) ∙ h.subs_are)
            h.subs_are h.there still o.outbox owes

    abbrev subscribe : ℕ → List Taken → List Topic → List MetaNow → List MetaNow → Subs → List Open
    subscribe p tk ts ms after had = refreshed p ms ts (rewanting p tk ts after sender had opens)

    pub subscribed-owe : AllOwe start (e ∷ past)
        (subscribed s (s.place + 1) sender (f (subs_at s.opens sender))).opens
    subscribed-owe =
        subst (λ ms. AllOwe start (e ∷ past)
        (subscribe (s.place + 1) s.taken s.topics ms (open_metas opens s.topics)
        (subs_at s.opens sender))) (sym metas_are)
        (subst (λ ms. AllOwe start (e ∷ past)
        (subscribe (s.place + 1) s.taken s.topics (metas_now n) ms (subs_at s.opens sender)))
        (sym metas_after)
        (subst (λ p. AllOwe start (e ∷ past)
        (subscribe p s.taken s.topics (metas_now n) (metas_now n') (subs_at s.opens sender))) (sym place_is)
        (subst (λ tk. AllOwe start (e ∷ past)
        (subscribe place tk s.topics (metas_now n) (metas_now n') (subs_at s.opens sender))) (sym
        (ap (λ (c : Core). c.taken) kept.core_is))
        (subst (λ ts. AllOwe start (e ∷ past)
        (subscribe place taken ts (metas_now n) (metas_now n') (subs_at s.opens sender))) (sym
        (topics-are s n kept))
        (subst (λ subs. AllOwe start (e ∷ past)
        (subscribe place taken (topics n.lives) (metas_now n) (metas_now n') subs)) (sym
        (subs-kept s n kept sender))
        (refreshed-owe start past (e ∷ past) place within (metas_now n)
        (topics n.lives) sub_told sub_ops sub_does ds opens differ
        (IsOpenIn n'.connections) sub_one opens_open opens_owe))))))
      where
        differ : differences (metas_now n) (open_metas (map sub_told opens) (topics n.lives)) ≡ ds
        differ =
            ap (λ ms. differences (metas_now n) ms)
            (metas-kept-by (map sub_told opens) (topics n.lives) n'
            (plain-rewanting place taken (topics n.lives) (metas_now n') sender old opens ∙ opens_are)
            (ap topics (sym still)))
