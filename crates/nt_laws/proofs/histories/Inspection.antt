-- What a server that stands for a history says of a connection, and of the changes of an act.
use Rattle.std.proofs.Common.{◌≡◌, ◌&&◌, ◌||◌, ◌==◌, ℕ, Bool, true, false, cond, List, [], ◌∷◌, None, is_none, map}
use Rattle.std.proofs.Common.{length, refl, sym, ◌∙◌, ap, subst}
use Rattle.std.specs.List.{list_any}
use Rattle.std.proofs.lemmas.Bool.Decides.{Decides-eqb}
use Rattle.nt_rules.specs.outbox.Calls as box
use Rattle.nt_rules.specs.outbox.Calls.{nothing_owed, keys_of, weight_of}
use Rattle.nt_rules.specs.topics.Changes.{drop_changes}
use Rattle.nt_rules.specs.declared.act.Act.{Act}
use Rattle.nt_rules.specs.declared.act.Act.TheVariants as act
use Rattle.nt_rules.specs.declared.act.Entry.{Entry}
use Rattle.nt_rules.specs.declared.act.StepOut.{StepOut}
use Rattle.nt_rules.specs.declared.act.StepOut.TheVariants as out
use Rattle.nt_rules.specs.history.State.{Open}
use Rattle.nt_rules.specs.history.Lives.{topics}
use Rattle.nt_rules.specs.history.Metas.{all_lives}
use Rattle.nt_rules.specs.declared.start.Start.{Start}
use Rattle.nt_rules.specs.history.Now.{Now, Connection, is_open, is_there, is_open_for, open_ones, now_of, cause_of}
use Rattle.nt_rules.specs.history.Owed as history
use Rattle.nt_rules.specs.history.Owed.{account, keys_owed, lives_weight, owed, queued, wish_for, wish_on, since_for}
use Rattle.nt_rules.specs.history.Answer.{entry, opened_deed, opened_conn, permit_deed}
use Rattle.nt_rules.specs.history.Changes.{deed_changes, added_changes}
use Rattle.nt_rules.specs.history.State.{State, is_number, outbox_at, changes_by, changes_said, if_counted}
use Rattle.nt_rules.specs.history.Step.{Plain, ServerState, Represents, Owes, AllOwe, plain, plain_of}
use Rattle.nt_laws.proofs.metas.AllLives.{IsNumbered, IsFitStart, saved-fit}
use Rattle.nt_laws.proofs.outboxes.OutboxKeys.{owes-behind, owes-pending, owes-queued}
use Rattle.nt_laws.proofs.histories.CoreLaws.{IsKeptOf, open-is, cause-is, topics-are, next-is}
use Rattle.nt_laws.proofs.metas.MetaOrder.{is-numbered}
use Rattle.nt_laws.proofs.histories.StepLaw.{kept-of}

-- ---- the connection's outbox

plain-any : (conn : ℕ) (opens : List Open)
    → list_any (is_number conn) opens ≡ list_any (λ (p : Plain). p.number == conn) (map plain opens)
plain-any conn [] = refl
plain-any conn (o ∷ opens) = ap (λ b. (o.conn == conn) || b) (plain-any conn opens)

open-any : (conn : ℕ) (cs : List Connection)
    → list_any (λ (p : Plain). p.number == conn) (map plain_of (open_ones cs)) ≡ is_there cs conn
open-any conn [] = refl
open-any conn (c ∷ cs) = by (open-any conn cs) (is_open c)
  where
    by : list_any (λ (p : Plain). p.number == conn) (map plain_of (open_ones cs)) ≡ is_there cs conn → (b : Bool)
        → list_any (λ (p : Plain). p.number == conn) (map plain_of (cond b (c ∷ open_ones cs) (open_ones cs)))
        ≡ (b && (c.number == conn) || is_there cs conn)
    by more true = ap (λ b. (c.number == conn) || b) more
    by more false = more

number-there : (server : ServerState) (start : Start) (past : List Entry) (conn : ℕ) → Represents server start past
    → list_any (is_number conn) server.state.opens ≡ is_there (now_of start past).connections conn
number-there server start past conn represents =
    plain-any conn server.state.opens
    ∙ ap (λ ps. list_any (λ (p : Plain). p.number == conn) ps) represents.opens_are
    ∙ open-any conn (now_of start past).connections

outbox-there : (start : Start) (past : List Entry) (conn : ℕ) (opens : List Open)
    → list_any (is_number conn) opens ≡ true → AllOwe start past opens → Owes start past conn (outbox_at opens conn)
outbox-there start past conn [] e owes = absurd (cc)
outbox-there start past conn (o ∷ opens) e owes =
    by (o.conn == conn) (Decides-eqb o.conn conn).0 (λ h. outbox-there start past conn opens h owes.1) e
  where
    by : (b : Bool) → (b ≡ true → o.conn ≡ conn)
        → (list_any (is_number conn) opens ≡ true → Owes start past conn (outbox_at opens conn))
        → (b || list_any (is_number conn) opens) ≡ true → Owes start past conn (cond b o.outbox (outbox_at opens conn))
    by true same more e = subst (λ c. Owes start past c o.outbox) (same refl) owes.0
    by false same more e = more e

outbox-none : (conn : ℕ) (opens : List Open) → list_any (is_number conn) opens ≡ false
    → outbox_at opens conn ≡ nothing_owed
outbox-none conn [] e = refl
outbox-none conn (o ∷ opens) e = by (o.conn == conn) (λ h. outbox-none conn opens h) e
  where
    by : (b : Bool) → (list_any (is_number conn) opens ≡ false → outbox_at opens conn ≡ nothing_owed)
        → (b || list_any (is_number conn) opens) ≡ false → cond b o.outbox (outbox_at opens conn) ≡ nothing_owed
    by true more e = absurd (cc)
    by false more e = more e

module _ (server : ServerState) (start : Start) (past : List Entry) (conn : ℕ)
    (represents : Represents server start past) where
  fit : IsFitStart start
  fit = saved-fit start represents.start_is

  numbered : IsNumbered start past
  numbered = is-numbered start past fit.few represents.legal

  holds : is_there (now_of start past).connections conn ≡ true
      → Owes start past conn (outbox_at server.state.opens conn)
  holds there =
      outbox-there start past conn server.state.opens
      (number-there server start past conn represents ∙ there) represents.outboxes_owe

  empty : is_there (now_of start past).connections conn ≡ false → outbox_at server.state.opens conn ≡ nothing_owed
  empty none = outbox-none conn server.state.opens (number-there server start past conn represents ∙ none)

  -- how many messages it is owed
  pub looked-pending : length (keys_of (outbox_at server.state.opens conn)) ≡ length (owed start past conn)
  looked-pending = by (is_there (now_of start past).connections conn) refl
    where
      by : (b : Bool) → is_there (now_of start past).connections conn ≡ b
          → length (keys_of (outbox_at server.state.opens conn)) ≡ length (owed start past conn)
      by true there = owes-pending start past conn (outbox_at server.state.opens conn) numbered there (holds there)
      by false none =
          ap (λ b. length (keys_of b)) (empty none)
          ∙ ap (λ t. length (cond (t && is_none (account start past conn).fell)
          (keys_owed (account start past conn) conn (wish_on (wish_for start past conn)) (since_for start past conn)
          (all_lives start past)) [])) (sym none)

  -- what is queued for it weighs
  pub looked-queued : weight_of (outbox_at server.state.opens conn) ≡ queued start past conn
  looked-queued = by (is_there (now_of start past).connections conn) refl
    where
      by : (b : Bool) → is_there (now_of start past).connections conn ≡ b
          → weight_of (outbox_at server.state.opens conn) ≡ queued start past conn
      by true there = owes-queued start past conn (outbox_at server.state.opens conn) numbered there (holds there)
      by false none =
          ap weight_of (empty none)
          ∙ ap (λ t. cond (t && is_none (account start past conn).fell)
          (lives_weight (account start past conn) conn (wish_on (wish_for start past conn)) (since_for start past conn)
          (all_lives start past)) 0) (sym none)

  -- whether it fell behind
  pub looked-behind : box.behind (outbox_at server.state.opens conn) ≡ history.behind start past conn
  looked-behind = by (is_there (now_of start past).connections conn) refl
    where
      by : (b : Bool) → is_there (now_of start past).connections conn ≡ b
          → box.behind (outbox_at server.state.opens conn) ≡ history.behind start past conn
      by true there = owes-behind start past conn (outbox_at server.state.opens conn) there (holds there)
      by false none =
          ap box.behind (empty none) ∙ ap (λ t. cond t (account start past conn).fell None) (sym none)

-- ---- changes

opened-none : (n : Now) (worker conn : ℕ) (o : StepOut) → [] ≡ deed_changes n worker conn (opened_deed o)
opened-none n worker conn (out.Opened c name) = refl
opened-none n worker conn out.Done = refl
opened-none n worker conn (out.Ignored cause) = refl
opened-none n worker conn (out.Drained batch) = refl
opened-none n worker conn out.Closed = refl
opened-none n worker conn out.Permitted = refl
opened-none n worker conn out.NoPermit = refl
opened-none n worker conn out.Shut = refl

permit-none : (n : Now) (worker conn : ℕ) (o : StepOut) → [] ≡ deed_changes n worker conn (permit_deed o)
permit-none n worker conn (out.Opened c name) = refl
permit-none n worker conn out.Done = refl
permit-none n worker conn (out.Ignored cause) = refl
permit-none n worker conn (out.Drained batch) = refl
permit-none n worker conn out.Closed = refl
permit-none n worker conn out.Permitted = refl
permit-none n worker conn out.NoPermit = refl
permit-none n worker conn out.Shut = refl

-- the changes of an act are those that its entry adds
changes-are : (s : State) (n : Now) (worker moment : ℕ) (a : Act) (o : StepOut) → IsKeptOf s n
    → changes_by s worker a
    ≡ deed_changes n (entry worker moment a o).worker (entry worker moment a o).conn (entry worker moment a o).deed
changes-are s n worker moment (act.Open name version) o kept = opened-none n worker (opened_conn o) o
changes-are s n worker moment (act.Said conn m) o kept =
    ap (λ c. if_counted c (changes_said s.topics s.next conn m)) (cause-is s n kept worker conn m)
    ∙ ap (λ ts. if_counted (cause_of n worker conn m) (changes_said ts s.next conn m)) (topics-are s n kept)
    ∙ ap (λ next. if_counted (cause_of n worker conn m) (changes_said (topics n.lives) next conn m)) (next-is s n kept)
changes-are s n worker moment (act.Drain conn budget) o kept = refl
changes-are s n worker moment (act.Close conn) o kept =
    ap (λ b. cond b (drop_changes s.topics conn) []) (open-is s n kept worker conn)
    ∙ ap (λ ts. cond (is_open_for n.connections worker conn) (drop_changes ts conn) []) (topics-are s n kept)
changes-are s n worker moment act.Permit o kept = permit-none n worker 0 o
changes-are s n worker moment act.Shut o kept = refl

pub looked-changes : (server : ServerState) (start : Start) (past : List Entry) (worker moment : ℕ) (a : Act)
    (o : StepOut)
    (e : Entry)
    → Represents server start past → e ≡ entry worker moment a o
    → changes_by server.state worker a ≡ added_changes start past e
looked-changes server start past worker moment a o e represents is =
    changes-are server.state (now_of start past) worker moment a o (kept-of server start past represents)
    ∙ ap (λ e. added_changes start past e) (sym is)
