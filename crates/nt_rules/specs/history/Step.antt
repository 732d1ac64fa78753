-- A server and the history for which it stands.
use Rattle.std.specs.Prelude.{◌≡◌, ◌≤◌, ◌<◌, ℕ, Bool, false, List, [], ◌∷◌, map, length, ◌+◌, ◌^◌}
use Rattle.std.specs.List.{filter_map}
use Rattle.nt_values.specs.Types.{size_of}
use Rattle.nt_subs.specs.Subscriptions.{Subs}
use Rattle.nt_rules.specs.Limits.{most_value}
use Rattle.nt_rules.specs.declared.topic.Topic.{Topic}
use Rattle.nt_rules.specs.outbox.Calls.{OutboxState, behind, unless_behind}
use Rattle.nt_rules.specs.declared.act.Act.{Act}
use Rattle.nt_rules.specs.declared.act.Act.TheVariants as act
use Rattle.nt_rules.specs.declared.act.Msg.{Msg}
use Rattle.nt_rules.specs.declared.act.Msg.TheVariants.{Control, Put}
use Rattle.nt_rules.specs.declared.act.Deed.{Deed}
use Rattle.nt_rules.specs.declared.act.Deed.TheVariants.{Said}
use Rattle.nt_rules.specs.declared.act.StepOut.{StepOut}
use Rattle.nt_rules.specs.declared.act.Entry.{Entry}
use Rattle.nt_rules.specs.history.State.{Open}
use Rattle.nt_rules.specs.declared.taken.Taken.{Taken}
use Rattle.nt_rules.specs.history.Lives.{topics}
use Rattle.nt_rules.specs.declared.start.Start.{Start}
use Rattle.nt_rules.specs.history.Now.{Now, Connection, open_ones, now_of}
use Rattle.nt_rules.specs.history.Owed.{account}
use Rattle.nt_rules.specs.history.Answer.{answer, entry, Legal, moment_of}
use Rattle.nt_rules.specs.history.Marks.{marks_owed, held_place}
use Rattle.nt_rules.specs.history.State.{State}
use Rattle.nt_rules.specs.history.Saved.{IsSavedSet}
use Rattle.nt_rules.specs.history.Trees.{AreTrees}

-- a server: whether it met want of memory, and what it keeps
pub record ServerState : Type 0 where
  pub failed : Bool
  pub state : State

-- ---- what is kept of a history, but for connections

pub record Core : Type 0 where
  pub permits : ℕ
  pub granted : ℕ
  pub shut : Bool
  pub moment : ℕ
  pub place : ℕ
  pub opened : ℕ
  pub topics : List Topic
  pub next : ℕ
  pub taken : List Taken

abbrev pub core : State → Core
core s =
    record {
      permits = s.permits;
      granted = s.granted;
      shut = s.shut;
      moment = s.moment;
      place = s.place;
      opened = s.opened;
      topics = s.topics;
      next = s.next;
      taken = s.taken;
    }

abbrev pub core_of : Now → Core
core_of n =
    record {
      permits = n.permits;
      granted = n.granted;
      shut = n.shut;
      moment = n.moment;
      place = n.place;
      opened = length n.connections;
      topics = topics n.lives;
      next = length n.lives + 1;
      taken = filter_map held_place n.lives;
    }

-- ---- connections

-- an open connection without its outbox
pub record Plain : Type 0 where
  pub number : ℕ
  pub worker : ℕ
  pub name : List ℕ
  pub subs : Subs

abbrev pub plain : Open → Plain
plain o = record { number = o.conn; worker = o.worker; name = o.name; subs = o.subs }

abbrev pub plain_of : Connection → Plain
plain_of c = record { number = c.number; worker = c.worker; name = c.name; subs = c.subs }

-- an outbox holds what the connection is owed
pub record Owes (start : Start) (past : List Entry) (conn : ℕ) (b : OutboxState) : Type 0 where
  pub is_well : b.failed ≡ false
  pub not_later : b.place ≤ length past
  pub behind_is : behind b ≡ (account start past conn).fell
  pub marks_are : unless_behind (behind b) b.marks ≡ unless_behind (behind b) (marks_owed start past conn)

abbrev pub AllOwe : Start → List Entry → List Open → Type 0
AllOwe start past [] = Unit {0}
AllOwe start past (o ∷ opens) = Owes start past o.conn o.outbox × AllOwe start past opens

-- ---- the conditions of a step

-- a value is put at a time below 2^63, and has a size of at most 131,072
abbrev pub IsPut : Msg → Type 0
IsPut (Control m) = Unit {0}
IsPut (Put v) = (v.time < 2 ^ 63) × (size_of v.value ≤ most_value)

-- a drain's budget is at least 1, and a put is one that may be made
abbrev pub MayAct : Act → Type 0
MayAct (act.Said conn m) = IsPut m
MayAct (act.Drain conn budget) = 1 ≤ budget
MayAct a = Unit {0}

-- ---- the entries of a history

-- a value that was said is one that may be put
abbrev pub IsPutIn : Deed → Type 0
IsPutIn (Said m) = IsPut m
IsPutIn deed = Unit {0}

-- moments are below 2^63, and so are the times of values, which have a size of at most 131,072
abbrev pub AreWithin : List Entry → Type 0
AreWithin [] = Unit {0}
AreWithin (e ∷ past) = (e.now < 2 ^ 63) × IsPutIn e.deed × AreWithin past

-- ---- the server

-- the server stands for the history: it begins with topics that can be restored, it is lawful, the keys of its
-- properties rise, and what the server keeps is what it says
pub record Represents (server : ServerState) (start : Start) (past : List Entry) : Type 0 where
  pub start_is : IsSavedSet start.saved
  pub within : AreWithin past
  pub legal : Legal start past
  pub trees : AreTrees start past
  pub is_well : server.failed ≡ false
  pub core_is : core server.state ≡ core_of (now_of start past)
  pub opens_are : map plain server.state.opens ≡ map plain_of (open_ones (now_of start past).connections)
  pub outboxes_owe : AllOwe start past server.state.opens

-- the step answers what the definitions say and makes the act's entry, and the server then stands for the history with
-- it
pub record Steps (start : Start) (past : List Entry) (worker now : ℕ) (a : Act) (o : StepOut) (e : Entry)
    (server : ServerState) : Type 0 where
  pub out_is : o ≡ answer start past worker now a
  pub entry_is : e ≡ entry worker (moment_of (now_of start past) now) a o
  pub represents : Represents server start (e ∷ past)

-- the entry of the act, at a moment that isn't before the one handed in
pub record IsEntryOf (worker now : ℕ) (a : Act) (o : StepOut) (e : Entry) : Type 0 where
  pub moment : ℕ
  pub not_before : now ≤ moment
  pub entry_is : e ≡ entry worker moment a o
