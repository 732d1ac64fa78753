-- What an entry does to lives, it does to their topics.
use Rattle.std.proofs.Common.{◌≡◌, ◌+◌, ◌&&◌, ◌||◌, not, ℕ, ℤ, Bool, true, false, cond, List, [], ◌∷◌, ◌++◌, Option}
use Rattle.std.proofs.Common.{Some, None, map, filter, length, refl, sym, ◌∙◌, ap, arith, length-append}
use Rattle.std.specs.Prelude.{option_map, IfSome}
use Rattle.std.specs.List.{cons_option, list_any, find}
use Rattle.nt_control.specs.declared.message.ClientMsg.TheVariants.{Publish, Unpublish, SetProps, Subscribe}
use Rattle.nt_control.specs.declared.message.ClientMsg.TheVariants.{Unsubscribe}
use Rattle.nt_subs.specs.Subscriptions.{Subs}
use Rattle.nt_topics.specs.Properties.{is_cached}
use Rattle.nt_values.specs.declared.value.Value.{Value}
use Rattle.nt_rules.specs.declared.topic.Pub.{Pub}
use Rattle.nt_rules.specs.declared.topic.Saved.{Saved}
use Rattle.nt_rules.specs.declared.topic.Topic.{Topic}
use Rattle.nt_rules.specs.declared.topic.Cause.TheVariants.{OtherType, Older}
use Rattle.nt_rules.specs.topics.Puts.{Put, greatest, timed}
use Rattle.nt_rules.specs.topics.Topics.{change_first, if_it_lives_on, lives_on, has_conn, has_publisher, is_named}
use Rattle.nt_rules.specs.topics.Topics.{with_publisher, without_publisher as topic_without_publisher}
use Rattle.nt_rules.specs.topics.Topics.{without_conn as topic_without_conn, with_update, with_value, outlives, dropped}
use Rattle.nt_rules.specs.topics.Topics.{is_older, is_fit, put_cause, put_cause_at, new_topic, with_put}
use Rattle.nt_rules.specs.topics.Topics.{at_zero, restored_topic}
use Rattle.nt_rules.specs.declared.act.Msg.{Msg}
use Rattle.nt_rules.specs.declared.act.Msg.TheVariants as msg
use Rattle.nt_rules.specs.history.Lives.{Life, living_topic, topics, topic_of, is_living, at_living, or_ended}
use Rattle.nt_rules.specs.history.Lives.{with_publishing, born, without_publisher, without_conn, with_setting}
use Rattle.nt_rules.specs.history.Lives.{with_a_put, closed_for, restored_life, restored_put}
use Rattle.nt_rules.specs.history.Now.{said_cause, lives_after}
use Rattle.nt_rules.specs.history.State.{topics_said, next_said}
use Rattle.nt_laws.proofs.histories.Facts.{length-at_first}
use Rattle.nt_laws.proofs.topics.TakenPuts.{put-topic, held-older}
use Rattle.nt_laws.proofs.topics.Turns.{held-none, setting-topic, setting-living}

pub seen-living : (l : Life) → is_living l ≡ true → living_topic l ≡ Some (topic_of l)
seen-living l e = ap (λ b. cond b (Some (topic_of l)) None) e

pub seen-over : (l : Life) → is_living l ≡ false → living_topic l ≡ None
seen-over l e = ap (λ b. cond b (Some (topic_of l)) None) e

-- a change of the first life that goes on and passes is one of the first topic that does. What is known of
-- that topic may be used
pub topics-at : (test : Topic → Bool) (f : Life → Life) (g : Topic → Option Topic) (P : Option Topic → Type 0)
    → ((l : Life) → is_living l ≡ true → P (Some (topic_of l)) → g (topic_of l) ≡ living_topic (f l))
    → (lives : List Life)
    → P (find test (topics lives)) → topics (at_living test f lives) ≡ change_first test g (topics lives)
topics-at test f g P same [] h = refl
topics-at test f g P same (l ∷ lives) h = by (λ k. topics-at test f g P same lives k) (is_living l) refl h
  where
    on : (P (find test (topics lives)) → topics (at_living test f lives) ≡ change_first test g (topics lives))
        → is_living l ≡ true → (b : Bool) → P (cond b (Some (topic_of l)) (find test (topics lives)))
        → topics (cond b (f l ∷ lives) (l ∷ at_living test f lives))
        ≡ cond b (cons_option (g (topic_of l)) (topics lives))
        (topic_of l ∷ change_first test g (topics lives))
    on more e true h = ap (λ o. cons_option o (topics lives)) (sym (same l e h))
    on more e false h =
        ap (λ o. cons_option o (topics (at_living test f lives))) (seen-living l e)
        ∙ ap (λ ts. topic_of l ∷ ts) (more h)

    by : (P (find test (topics lives)) → topics (at_living test f lives) ≡ change_first test g (topics lives))
        → (living : Bool) → is_living l ≡ living
        → P (find test (cons_option (cond living (Some (topic_of l)) None) (topics lives)))
        → topics (cond (living && test (topic_of l)) (f l ∷ lives) (l ∷ at_living test f lives))
        ≡ change_first test g (cons_option (cond living (Some (topic_of l)) None) (topics lives))
    by more true e h = on more e (test (topic_of l)) h
    by more false e h = ap (λ o. cons_option o (topics (at_living test f lives))) (seen-over l e) ∙ more h

-- a life at the end is a topic at the end
topics-push : (l : Life) → is_living l ≡ true → (lives : List Life) → topics (lives ++ l ∷ [])
    ≡ topics lives ++ topic_of l ∷ []
topics-push l e [] = ap (λ o. cons_option o []) (seen-living l e)
topics-push l e (m ∷ lives) = ap (λ ts. cons_option (living_topic m) ts) (topics-push l e lives) ∙ by (living_topic m)
  where
    by : (o : Option Topic) → cons_option o (topics lives ++ topic_of l ∷ [])
        ≡ cons_option o (topics lives) ++ topic_of l ∷ []
    by None = refl
    by (Some t) = refl

-- of a restored life the topic is the restored one, where a value that isn't cached wasn't saved
pub topic-restored : (id : ℕ) (s : Saved) → IfSome s.value (λ v. is_cached s.props ≡ true)
    → topic_of (restored_life id s) ≡ restored_topic id s
topic-restored id s held =
    ap (λ v. record { id = id; name = s.name; typ = s.typ; props = s.props; value = v; pubs = [] }) (by s.value held)
  where
    none : (b : Bool) → option_map timed (cond b (greatest []) None) ≡ None
    none true = refl
    none false = refl

    by : (v : Option Value) → IfSome v (λ v. is_cached s.props ≡ true)
        → option_map timed (cond (is_cached s.props) (greatest (restored_put v)) None) ≡ option_map at_zero v
    by None held = none (is_cached s.props)
    by (Some v) held = ap (λ b. option_map timed (cond b (greatest (restored_put (Some v))) None)) held

-- what is left where a life ends unless its topic lives on
seen-or_ended : (place : ℕ) (l : Life) → is_living l ≡ true
    → if_it_lives_on (topic_of l) ≡ living_topic (or_ended place l)
seen-or_ended place l e = by (lives_on (topic_of l))
  where
    by : (b : Bool) → cond b (Some (topic_of l)) None ≡ living_topic (cond b l (record l { over = Some place }))
    by true = sym (seen-living l e)
    by false = refl

-- the end of a connection
pub topics-closed : (place conn : ℕ) (lives : List Life)
    → topics (map (closed_for place conn) lives) ≡ dropped (topics lives) conn
topics-closed place conn [] = refl
topics-closed place conn (l ∷ lives) =
    ap (λ ts. cons_option (living_topic (closed_for place conn l)) ts) (topics-closed place conn lives)
    ∙ by (is_living l) refl
  where
    gone : Life
    gone = without_conn conn l

    on : is_living l ≡ true → (has lives : Bool) → has ≡ has_conn conn (topic_of l) → (ts : List Topic)
        → cons_option (living_topic (cond has (cond lives gone (record gone { over = Some place })) gone))
        (dropped ts conn)
        ≡ map (topic_without_conn conn)
        (cond (not has || lives) (topic_of l ∷ filter (outlives conn) ts) (filter (outlives conn) ts))
    on e true true h ts = ap (λ o. cons_option o (dropped ts conn)) (seen-living gone e)
    on e true false h ts = refl
    on e false lives h ts = ap (λ o. cons_option o (dropped ts conn)) (seen-living gone e)

    by : (living : Bool) → is_living l ≡ living
        → cons_option (living_topic (cond (living && has_conn conn (topic_of l)) (or_ended place gone) gone))
        (dropped (topics lives) conn)
        ≡ dropped (cons_option (living_topic l) (topics lives)) conn
    by true e =
        on e (has_conn conn (topic_of l)) (lives_on (topic_of gone)) refl (topics lives)
        ∙ sym (ap (λ o. dropped (cons_option o (topics lives)) conn) (seen-living l e))
    by false e =
        ap (λ o. cons_option o (dropped (topics lives) conn)) (seen-over gone e)
        ∙ sym (ap (λ o. dropped (cons_option o (topics lives)) conn) (seen-over l e))

-- ---- puts

-- a put that counts isn't older than what its topic holds
pub counts-newer : (conn : ℕ) (uid : ℤ) (time : ℕ) (value : Value) (t : Topic)
    → put_cause_at conn uid time value (Some t) ≡ None → is_older time t.value ≡ false
counts-newer conn uid time value t e = by (is_fit conn uid value t) (is_older time t.value) e
  where
    by : (fits older : Bool) → cond fits (cond older (Some Older) None) (Some OtherType) ≡ None → older
        ≡ false
    by true true e = absurd (cc)
    by true false e = refl
    by false older e = absurd (cc)

pub refused-older : (conn : ℕ) (uid : ℤ) (time : ℕ) (value : Value) (t : Topic)
    → put_cause_at conn uid time value (Some t) ≡ Some Older → is_older time t.value ≡ true
refused-older conn uid time value t e = by (is_fit conn uid value t) (is_older time t.value) e
  where
    by : (fits older : Bool) → cond fits (cond older (Some Older) None) (Some OtherType) ≡ Some Older → older
        ≡ true
    by true true e = refl
    by true false e = absurd (cc)
    by false older e = absurd (cc)

-- what is seen of a life after a put, by the topic that it then is
seen-put : (p : Put) (l : Life) (t : Topic) → is_living l ≡ true → topic_of (with_a_put p l) ≡ t
    → Some t ≡ living_topic (with_a_put p l)
seen-put p l t living e = sym (seen-living (with_a_put p l) living ∙ ap Some e)

-- one that counts is then held, where its topic is cached
pub topics-put : (conn : ℕ) (uid : ℤ) (p : Put) (lives : List Life)
    → put_cause (topics lives) conn uid p.time p.value ≡ None
    → topics (at_living (has_publisher conn uid) (with_a_put p) lives)
    ≡ with_put (topics lives) conn uid p.time p.value
topics-put conn uid p lives e =
    topics-at (has_publisher conn uid) (with_a_put p) (λ t. Some (with_value p.time p.value t))
    (λ o. put_cause_at conn uid p.time p.value o ≡ None)
    (λ l living counts.
    seen-put p l (with_value p.time p.value (topic_of l)) living
    (put-topic p l (counts-newer conn uid p.time p.value (topic_of l) counts)))
    lives e

change-same : (test : Topic → Bool) (ts : List Topic) → change_first test (λ t. Some t) ts ≡ ts
change-same test [] = refl
change-same test (t ∷ ts) = by (change-same test ts) (test t)
  where
    by : change_first test (λ t. Some t) ts ≡ ts → (b : Bool)
        → cond b (t ∷ ts) (t ∷ change_first test (λ t. Some t) ts) ≡ t ∷ ts
    by more true = refl
    by more false = ap (λ us. t ∷ us) more

-- an older one changes nothing
pub topics-older : (conn : ℕ) (uid : ℤ) (p : Put) (lives : List Life)
    → put_cause (topics lives) conn uid p.time p.value ≡ Some Older
    → topics (at_living (has_publisher conn uid) (with_a_put p) lives) ≡ topics lives
topics-older conn uid p lives e =
    topics-at (has_publisher conn uid) (with_a_put p) (λ t. Some t)
    (λ o. put_cause_at conn uid p.time p.value o ≡ Some Older)
    (λ l living older.
    seen-put p l (topic_of l) living
    (ap (λ h. record (topic_of l) { value = option_map timed h })
    (held-older p l (refused-older conn uid p.time p.value (topic_of l) older))))
    lives e
    ∙ change-same (has_publisher conn uid) (topics lives)

-- ---- messages that count

-- they do to lives what they do to topics
pub topics-said-are : (place : ℕ) (lives : List Life) (subs : Subs) (conn : ℕ) (m : Msg)
    → said_cause (topics lives) (length lives + 1) subs conn m ≡ None
    → topics (lives_after place lives conn m) ≡ topics_said (topics lives) (length lives + 1) conn m
topics-said-are place lives subs conn (msg.Control (Publish name uid typ props)) e =
    by (list_any (is_named name) (topics lives))
  where
    p : Pub
    p = record { conn = conn; uid = uid; typ = typ }

    new : Life
    new = born place (length lives + 1) name typ props p

    by : (b : Bool)
        → topics (cond b (at_living (is_named name) (with_publishing place p) lives) (lives ++ new ∷ []))
        ≡ cond b (change_first (is_named name) (λ t. Some (with_publisher p t)) (topics lives))
        (topics lives ++ new_topic (length lives + 1) name typ props (p ∷ []) ∷ [])
    by true =
        topics-at (is_named name) (with_publishing place p) (λ t. Some (with_publisher p t)) (λ o. Unit {0})
        (λ l e h. sym (seen-living (with_publishing place p l) e)) lives tt
    by false =
        topics-push new refl lives
        ∙ ap (λ h. topics lives ++ record (topic_of new) { value = option_map timed h } ∷ []) (held-none new refl)
topics-said-are place lives subs conn (msg.Control (Unpublish uid)) e =
    topics-at (has_publisher conn uid) (λ l. or_ended place (without_publisher conn uid l))
    (λ t. if_it_lives_on (topic_without_publisher conn uid t)) (λ o. Unit {0})
    (λ l e h. seen-or_ended place (without_publisher conn uid l) e) lives tt
topics-said-are place lives subs conn (msg.Control (SetProps name update)) e =
    topics-at (is_named name) (λ l. or_ended place (with_setting place conn update l))
    (λ t. if_it_lives_on (with_update update t)) (λ o. Unit {0})
    (λ l e h. ap if_it_lives_on (sym (setting-topic place conn update l))
    ∙ seen-or_ended place (with_setting place conn update l) (setting-living place conn update l ∙ e)) lives tt
topics-said-are place lives subs conn (msg.Control (Subscribe uid sub)) e = refl
topics-said-are place lives subs conn (msg.Control (Unsubscribe uid)) e = refl
topics-said-are place lives subs conn (msg.Put v) e =
    topics-put conn v.id (record { place = place; time = v.time; value = v.value }) lives e

-- and begin as many lives as the next id rises
pub next-said-is : (place : ℕ) (lives : List Life) (conn : ℕ) (m : Msg)
    → length (lives_after place lives conn m) + 1 ≡ next_said (topics lives) (length lives + 1) m
next-said-is place lives conn (msg.Control (Publish name uid typ props)) =
    by (list_any (is_named name) (topics lives))
  where
    p : Pub
    p = record { conn = conn; uid = uid; typ = typ }

    new : Life
    new = born place (length lives + 1) name typ props p

    by : (b : Bool)
        → length (cond b (at_living (is_named name) (with_publishing place p) lives) (lives ++ new ∷ [])) + 1
        ≡ cond b (length lives + 1) (length lives + 1 + 1)
    by true =
        ap (λ n. n + 1)
        (length-at_first (λ l. is_living l && is_named name (topic_of l)) (with_publishing place p) lives)
    by false = omega (arith, length-append lives (new ∷ []))
next-said-is place lives conn (msg.Control (Unpublish uid)) = ap (λ n. n + 1) (length-at_first _ _ lives)
next-said-is place lives conn (msg.Control (SetProps name update)) =
    ap (λ n. n + 1) (length-at_first _ _ lives)
next-said-is place lives conn (msg.Control (Subscribe uid sub)) = refl
next-said-is place lives conn (msg.Control (Unsubscribe uid)) = refl
next-said-is place lives conn (msg.Put v) = ap (λ n. n + 1) (length-at_first _ _ lives)
