-- A connection that wasn't opened yet publishes no living topic.
use Rattle.std.proofs.Common.{◌≡◌, ◌+◌, ◌&&◌, ◌==◌, ℕ, Bool, true, false, cond, List, [], ◌∷◌, ◌++◌, Some, None}
use Rattle.std.proofs.Common.{length}
use Rattle.std.specs.List.{AllByRecursion, cons_option}
use Rattle.nt_rules.specs.declared.topic.Pub.{Pub}
use Rattle.nt_rules.specs.declared.topic.Saved.{Saved}
use Rattle.nt_rules.specs.declared.topic.Topic.{Topic}
use Rattle.nt_rules.specs.topics.Topics.{is_of, has_conn, lives_on}
use Rattle.nt_rules.specs.declared.act.Entry.{Entry}
use Rattle.nt_rules.specs.declared.start.Start.{Start}
use Rattle.nt_rules.specs.history.Lives.{Life, topics, topic_of, is_living, at_first, or_ended, with_publishing, born}
use Rattle.nt_rules.specs.history.Lives.{without_publisher, without_conn, with_setting, with_a_put, closed_for, restored}
use Rattle.nt_rules.specs.history.Now.{now_of}
use Rattle.nt_rules.specs.history.Answer.{Legal}
use Rattle.nt_laws.proofs.histories.Histories.{lives-keep}
use Rattle.nt_laws.proofs.histories.Newcomer.{IsNew, OthersPublish, others-publish}
use Rattle.nt_laws.proofs.topics.ItemFacts.{each-more, each-both, each-append, each-filter, each-map}
use Rattle.nt_laws.proofs.topics.Turns.{setting-by}

-- none of these publishers is the connection's
abbrev pub AreOthers : ℕ → List Pub → Type 0
AreOthers conn pubs = AllByRecursion (λ (p : Pub). is_of conn p ≡ false) pubs

-- each publisher of a life is of a connection that published it
abbrev ArePublished : Life → Type 0
ArePublished l = (conn : ℕ) → OthersPublish conn l → AreOthers conn l.pubs

published-at : (test : Life → Bool) (f : Life → Life) → ((l : Life) → ArePublished l → ArePublished (f l))
    → (lives : List Life) → AllByRecursion ArePublished lives
    → AllByRecursion ArePublished (at_first test f lives)
published-at test f keeps [] h = tt
published-at test f keeps (l ∷ lives) h = by (test l) (published-at test f keeps lives h.1)
  where
    by : (b : Bool) → AllByRecursion ArePublished (at_first test f lives)
        → AllByRecursion ArePublished (cond b (f l ∷ lives) (l ∷ at_first test f lives))
    by true more = (keeps l h.0, h.1)
    by false more = (h.0, more)

published-ended : (place : ℕ) (l : Life) → ArePublished l → ArePublished (or_ended place l)
published-ended place l h = by (lives_on (topic_of l))
  where
    by : (b : Bool) → ArePublished (cond b l (record l { over = Some place }))
    by true = h
    by false = h

published-closed : (place conn : ℕ) (l : Life) → ArePublished l → ArePublished (closed_for place conn l)
published-closed place conn l h = by (is_living l && has_conn conn (topic_of l)) fewer
  where
    fewer : ArePublished (without_conn conn l)
    fewer c others = each-filter (λ (p : Pub). is_of c p ≡ false) _ l.pubs (h c others)

    by : (b : Bool) → ArePublished (without_conn conn l)
        → ArePublished (cond b (or_ended place (without_conn conn l)) (without_conn conn l))
    by true fewer = published-ended place (without_conn conn l) fewer
    by false fewer = fewer

front : {X : Type 0} (P : X → Type 0) (xs : List X) (y : X) → AllByRecursion P (xs ++ y ∷ [])
    → AllByRecursion P xs
front P [] y h = tt
front P (x ∷ xs) y h = (h.0, front P xs y h.1)

last : {X : Type 0} (P : X → Type 0) (xs : List X) (y : X) → AllByRecursion P (xs ++ y ∷ []) → P y
last P [] y h = h.0
last P (x ∷ xs) y h = last P xs y h.1

published-restored : (id : ℕ) (saved : List Saved) → AllByRecursion ArePublished (restored id saved)
published-restored id [] = tt
published-restored id (s ∷ saved) = (λ conn others. tt, published-restored (id + 1) saved)

are-published : (start : Start) (past : List Entry) → AllByRecursion ArePublished (now_of start past).lives
are-published start past =
    lives-keep (λ k lives. AllByRecursion ArePublished lives)
    (record {
      later = λ k lives h. h;
      joined = λ k name p lives free h.
          published-at _ (with_publishing (k + 1) p)
          (λ l told conn others.
          each-append (λ (q : Pub). is_of conn q ≡ false) l.pubs (p ∷ [])
          (told conn (front (λ q. (q.conn == conn) ≡ false) l.publishings _ others))
          (last (λ q. (q.conn == conn) ≡ false) l.publishings _ others, tt)) lives h;
      began = λ k name typ props p lives free e few h.
          each-append ArePublished lives (born (k + 1) (length lives + 1) name typ props p ∷ []) h
          (λ conn others. (others.0, tt), tt);
      left = λ k conn uid lives h.
          published-at _ _
          (λ l told. published-ended (k + 1) (without_publisher conn uid l)
          (λ c others. each-filter (λ (p : Pub). is_of c p ≡ false) _ l.pubs (told c others))) lives h;
      updated = λ k conn name u lives h.
          published-at _ _
          (λ l told. published-ended (k + 1) (with_setting (k + 1) conn u l)
          (setting-by (k + 1) conn u l ArePublished told told)) lives h;
      put = λ k conn uid time value lives h.
          published-at _ (with_a_put (record { place = k + 1; time = time; value = value })) (λ l told. told)
          lives h;
      dropped = λ k conn lives h.
          each-map ArePublished (closed_for (k + 1) conn) lives
          (each-more ArePublished (λ l. ArePublished (closed_for (k + 1) conn l))
          (λ l told. published-closed (k + 1) conn l told) lives h);
    })
    start (published-restored 1 start.saved) past

others-topics : (conn : ℕ) (lives : List Life) → AllByRecursion (λ (l : Life). AreOthers conn l.pubs) lives
    → AllByRecursion (λ (t : Topic). AreOthers conn t.pubs) (topics lives)
others-topics conn [] h = tt
others-topics conn (l ∷ lives) h = by (is_living l) (others-topics conn lives h.1)
  where
    by : (b : Bool) → AllByRecursion (λ (t : Topic). AreOthers conn t.pubs) (topics lives)
        → AllByRecursion (λ (t : Topic). AreOthers conn t.pubs)
        (cons_option (cond b (Some (topic_of l)) None) (topics lives))
    by true more = (h.0, more)
    by false more = more

-- a number that no connection has yet is that of no publisher
pub unpublished : (start : Start) (past : List Entry) (conn : ℕ) → Legal start past → IsNew start past conn
    → AllByRecursion (λ (t : Topic). AreOthers conn t.pubs) (topics (now_of start past).lives)
unpublished start past conn legal new =
    others-topics conn (now_of start past).lives
    (each-both ArePublished (OthersPublish conn) (λ (l : Life). AreOthers conn l.pubs)
    (λ l told others. told conn others) (now_of start past).lives
    (are-published start past) (others-publish start past conn legal new))
