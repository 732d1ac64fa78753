-- What the fields of a server say.
use Rattle.std.specs.Prelude.{◌+◌, ℕ, Bool, true, false, List, [], Option, Some, None, option_map, length, map, if◌then◌else◌}
use Rattle.std.specs.List.{find}
use Rattle.nt_topics.specs.Properties.{is_cached}
use Rattle.nt_control.specs.declared.message.ClientMsg.TheVariants.{SetProps}
use Rattle.nt_rules.specs.declared.topic.Saved.{Saved}
use Rattle.nt_rules.specs.declared.topic.Topic.{Topic}
use Rattle.nt_rules.specs.declared.topic.Change.{Change}
use Rattle.nt_rules.specs.declared.topic.Outcome.{Outcome}
use Rattle.nt_rules.specs.declared.topic.Outcome.TheVariants.{Done, Ignored}
use Rattle.nt_rules.specs.declared.act.Msg.{Msg}
use Rattle.nt_rules.specs.declared.act.Msg.TheVariants.{Control, Put}
use Rattle.nt_server.specs.declared.inner.Inner.{Inner}
use Rattle.nt_rules.specs.topics.Topics.{is_named}
use Rattle.nt_rules.specs.history.Lives.{topics, restored}
use Rattle.nt_rules.specs.declared.meta.MetaNow.{MetaNow}
use Rattle.nt_rules.specs.history.State.{State, if_structural, message_noted, turn_noted, taken_after}
use Rattle.nt_laws.specs.Ids.{HaveLowIds, AreLowChanges}
use Rattle.nt_server.specs.MetaWishes.{AreKept, MayBeWanted}

-- the state that the fields hold
abbrev pub state_of : Inner → State
state_of i =
    record {
      permits = i.permits;
      granted = i.granted;
      shut = i.shut;
      moment = i.moment;
      place = i.place;
      opened = i.connections.opened;
      opens = i.connections.opens;
      topics = i.table.topics;
      next = i.table.next;
      taken = i.taken;
    }

-- the state at the beginning, where so many permits are granted and these topics were saved
abbrev pub begun : ℕ → List Saved → State
begun permits saved =
    record {
      permits = permits;
      granted = 0;
      shut = false;
      moment = 0;
      place = 0;
      opened = 0;
      opens = [];
      topics = topics (restored 1 saved);
      next = length saved + 1;
      taken = [];
    }

-- the ids of topics are low, and the meta topics that are kept are those of the open connections and the living topics
pub record IsKept (i : Inner) : Type 0 where
  pub ids : HaveLowIds i.table.topics i.table.next
  pub metas : AreKept i.metas i.connections.opens i.table.topics

-- where a message counted, the meta topics that are kept may be those before it, but for a put
abbrev pub AreKeptAfter : Msg → Outcome → Inner → Type 0
AreKeptAfter (Control m) (Done changes) i = MayBeWanted i.metas i.connections.opens
AreKeptAfter (Control m) (Ignored cause) i = AreKept i.metas i.connections.opens i.table.topics
AreKeptAfter (Put v) outcome i = AreKept i.metas i.connections.opens i.table.topics

abbrev pub changes_of : Outcome → List Change
changes_of (Done changes) = changes
changes_of (Ignored cause) = []

-- what holds of what is kept once the table took a message
pub record IsKeptAfter (m : Msg) (outcome : Outcome) (i : Inner) : Type 0 where
  pub ids : HaveLowIds i.table.topics i.table.next
  pub changes : AreLowChanges (changes_of outcome)
  pub metas : AreKeptAfter m outcome i

-- whether the topic whose properties a message sets is cached, where it is there
abbrev pub cached_of : List Topic → Msg → Option Bool
cached_of ts (Control (SetProps name update)) = option_map (λ t. is_cached t.props) (find (is_named name) ts)
cached_of ts m = None

-- the topic that a message turned, of which it is known whether it was cached before
abbrev pub turned_one : Option Bool → Option Topic → Option ℕ
turned_one (Some true) (Some t) = if is_cached t.props then None else Some t.id
turned_one (Some false) (Some t) = if is_cached t.props then Some t.id else None
turned_one cached t = None

-- its id, over the topics after the message
abbrev pub turned_since : Option Bool → List Topic → Msg → Option ℕ
turned_since cached ts (Control (SetProps name update)) = turned_one cached (find (is_named name) ts)
turned_since cached ts m = None

-- the state after a message to a topic was told, over the topics after it, where the meta topics were these before, and
-- the topic whose properties it set was cached or not
abbrev pub settled : List MetaNow → Option Bool → ℕ → ℕ → Msg → Outcome → State → State
settled before cached place conn m (Done changes) s =
    record s {
      opens = if_structural m place before s.topics
          (map (λ o. message_noted place s.topics conn m changes (turn_noted place (turned_since cached s.topics m) o))
          s.opens);
      taken = taken_after place s.topics changes s.taken;
    }
settled before cached place conn m (Ignored cause) s = s
