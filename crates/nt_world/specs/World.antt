-- A world: a server that starts empty, and clients, each with a wire up to the server and a wire down from it, which
-- carry frames in their order. Its history is the list of the entries that its steps made.
use Rattle.std.specs.Prelude.{◌≡◌, ◌≤◌, ◌<◌, ◌^◌, ℕ, zero, suc, Bool, false, ◌+◌, ◌-◌, List, [], ◌∷◌, ◌++◌, length, replicate, slice_get, slice_set, Option, None, Some, is_some, is_none, codes, decimal, if◌then◌else◌}
use Rattle.nt_topics.specs.declared.version.Version.TheVariants.{V41}
use Rattle.nt_link.specs.declared.frame.Frame.{Frame}
use Rattle.nt_session.specs.Laid.{frames_in}
use Rattle.nt_rules.specs.declared.act.Act.{Act}
use Rattle.nt_rules.specs.declared.act.Act.TheVariants as act
use Rattle.nt_rules.specs.declared.act.StepOut.{StepOut}
use Rattle.nt_rules.specs.declared.act.StepOut.TheVariants as out
use Rattle.nt_rules.specs.declared.act.Msg.{Msg}
use Rattle.nt_rules.specs.declared.act.Entry.{Entry}
use Rattle.nt_rules.specs.declared.start.Start.{Start}
use Rattle.nt_rules.specs.telling.Told.{told_from}
use Rattle.nt_rules.specs.history.Now.{now_of}
use Rattle.nt_rules.specs.history.Answer.{answer, entry, drained_batch}
use Rattle.nt_rules.specs.history.Step.{ServerState, Represents}
use Rattle.nt_client.specs.Calls.{State, fresh, lost, rejoined, publish_fault, published, unpublish_fault, unpublished, set_fault, valued, subscribed, unsubscribe_fault, unsubscribed}
use Rattle.nt_client.specs.Outgoing.{frames_of}
use Rattle.nt_client.specs.declared.fault.ClientFault.{ClientFault}
use Rattle.nt_world.specs.declared.step.ClientAct.{ClientAct}
use Rattle.nt_world.specs.declared.step.ClientAct.TheVariants as call
use Rattle.nt_world.specs.declared.step.WorldStep.{WorldStep}
use Rattle.nt_world.specs.declared.step.WorldStep.TheVariants as step
use Rattle.nt_world.specs.Frames.{Decoding, said_by, is_question, told_by}

-- a client, the number of its open connection where it is joined, and the frames on its two wires, the oldest first
pub record Peer : Type 0 where
  pub client : State
  pub conn : Option ℕ
  pub up : List Frame
  pub down : List Frame

-- the entries so far, the newest first, and the clients, which are numbered from 1
pub record Scene : Type 0 where
  pub past : List Entry
  pub peers : List Peer

-- ---- the history

-- it starts without topics and grants no permits
abbrev pub start : Start
start = record { permits = 0; saved = [] }

-- the moment of the next entry is its place
abbrev pub next_place : List Entry → ℕ
next_place past = length past + 1

-- what an act of a worker is answered
abbrev pub answered : ℕ → Act → List Entry → StepOut
answered worker a past = answer start past worker (next_place past) a

-- the history with its entry
abbrev pub with_act : ℕ → Act → List Entry → List Entry
with_act worker a past = entry worker (next_place past) a (answered worker a past) ∷ past

-- ---- what one step does to the history and to its client. A client acts as the worker of its number

pub record Turn : Type 0 where
  pub past : List Entry
  pub peer : Peer

-- what waits in the client goes on its wire
abbrev pub sent : Peer → Peer
sent p = record p { client = record p.client { queue = [] }; up = p.up ++ frames_of p.client.queue }

-- a call of the client, and the fault with which it is refused
abbrev pub call_fault : ClientAct → State → Option ClientFault
call_fault (call.Publish uid name typ props) c = publish_fault uid c
call_fault (call.Unpublish uid) c = unpublish_fault uid c
call_fault (call.Put uid time value) c = set_fault uid value c
call_fault (call.Subscribe uid sub) c = None
call_fault (call.Unsubscribe uid) c = unsubscribe_fault uid c

abbrev pub called : ClientAct → State → State
called (call.Publish uid name typ props) c = published uid name typ props c
called (call.Unpublish uid) c = unpublished uid c
called (call.Put uid time value) c = valued uid (record { time = time; value = value }) c
called (call.Subscribe uid sub) c = subscribed uid sub c
called (call.Unsubscribe uid) c = unsubscribed uid c

-- where it is joined, what it says goes on its wire. A call that is refused does nothing
abbrev pub sent_if_joined : Peer → Peer
sent_if_joined p = if is_some p.conn then sent p else p

abbrev pub acted : ClientAct → Peer → Peer
acted a p =
    if is_none (call_fault a p.client) then sent_if_joined (record p { client = called a p.client }) else p

-- one entry for each message of a frame that came up, but for questions for the time, whatever it is answered
abbrev pub with_message : ℕ → ℕ → Msg → List Entry → List Entry
with_message worker conn m past = if is_question m then past else with_act worker (act.Said conn m) past

abbrev pub with_messages : ℕ → ℕ → List Msg → List Entry → List Entry
with_messages worker conn [] past = past
with_messages worker conn (m ∷ msgs) past = with_messages worker conn msgs (with_message worker conn m past)

-- the oldest frame on the wire up comes to the server
abbrev pub after_up : Decoding → ℕ → Option ℕ → List Frame → List Entry → Peer → Turn
after_up decode worker (Some conn) (frame ∷ up) past p =
    record { past = with_messages worker conn (said_by decode frame) past; peer = record p { up = up } }
after_up decode worker conn up past p = record { past = past; peer = p }

-- the oldest frame on the wire down comes to the client
abbrev pub after_down : Decoding → List Frame → Peer → Peer
after_down decode [] p = p
after_down decode (frame ∷ down) p =
    record p { client = record p.client { held = told_from p.client.held (told_by decode frame) }; down = down }

-- the frames of the batch that a drain hands go on the wire down
abbrev pub after_drain : ℕ → ℕ → Option ℕ → List Entry → Peer → Turn
after_drain worker budget None past p = record { past = past; peer = p }
after_drain worker budget (Some conn) past p =
    let a = act.Drain conn budget in
    record {
      past = with_act worker a past;
      peer = record p { down = p.down ++ frames_in (drained_batch (answered worker a past)) };
    }

-- what is on the wires is lost, and the connection closes
abbrev pub after_cut : ℕ → Option ℕ → List Entry → Peer → Turn
after_cut worker None past p = record { past = past; peer = p }
after_cut worker (Some conn) past p =
    record {
      past = with_act worker (act.Close conn) past;
      peer = record { client = lost p.client; conn = None; up = []; down = [] };
    }

-- `client1`, `client2` and so on
abbrev pub name_of : ℕ → List ℕ
name_of worker = codes "client" ++ decimal worker

-- a connection opens, and the client says all anew on it
abbrev pub opened_by : StepOut → Peer → Peer
opened_by (out.Opened conn name) p = sent (record p { client = rejoined p.client; conn = Some conn })
opened_by o p = p

abbrev pub after_join : ℕ → Option ℕ → List Entry → Peer → Turn
after_join worker (Some conn) past p = record { past = past; peer = p }
after_join worker None past p =
    let a = act.Open (name_of worker) V41 in
    record { past = with_act worker a past; peer = opened_by (answered worker a past) p }

-- by the kind of the step. One that doesn't apply does nothing
abbrev pub turned : Decoding → WorldStep → List Entry → Peer → Turn
turned decode (step.Act worker a) past p = record { past = past; peer = acted a p }
turned decode (step.Up worker) past p = after_up decode worker p.conn p.up past p
turned decode (step.Drain worker budget) past p = after_drain worker budget p.conn past p
turned decode (step.Down worker) past p = record { past = past; peer = after_down decode p.down p }
turned decode (step.Cut worker) past p = after_cut worker p.conn past p
turned decode (step.Join worker) past p = after_join worker p.conn past p

-- ---- steps of the world

abbrev pub client_of : WorldStep → ℕ
client_of (step.Act c a) = c
client_of (step.Up c) = c
client_of (step.Drain c budget) = c
client_of (step.Down c) = c
client_of (step.Cut c) = c
client_of (step.Join c) = c

-- clients are numbered from 1
abbrev pub peer_of : ℕ → List Peer → Option Peer
peer_of zero peers = None
peer_of (suc c) peers = slice_get peers c

abbrev pub with_turn : ℕ → List Peer → Turn → Scene
with_turn c peers t = record { past = t.past; peers = slice_set peers (c - 1) t.peer }

-- a step of a client that isn't there does nothing
abbrev pub step_by : Decoding → WorldStep → Scene → Option Peer → Scene
step_by decode s scene None = scene
step_by decode s scene (Some p) = with_turn (client_of s) scene.peers (turned decode s scene.past p)

abbrev pub with_step : Decoding → WorldStep → Scene → Scene
with_step decode s scene = step_by decode s scene (peer_of (client_of s) scene.peers)

abbrev pub with_steps : Decoding → List WorldStep → Scene → Scene
with_steps decode [] scene = scene
with_steps decode (s ∷ steps) scene = with_steps decode steps (with_step decode s scene)

-- the beginning: clients that hold and say nothing, and aren't joined
abbrev pub new_peer : Peer
new_peer = record { client = fresh; conn = None; up = []; down = [] }

abbrev pub beginning : ℕ → Scene
beginning clients = record { past = []; peers = replicate clients new_peer }

-- ---- conditions of steps

abbrev pub MayCall : ClientAct → Type 0
MayCall (call.Put uid time value) = time < 2 ^ 63
MayCall a = Unit {0}

-- a drain's budget is at least 1, and the times of values are below 2^63
abbrev pub MayStep : WorldStep → Type 0
MayStep (step.Drain c budget) = 1 ≤ budget
MayStep (step.Act c a) = MayCall a
MayStep s = Unit {0}

-- ---- the world that stands for all this

-- the server stands for the history, the entries of which are counted, each with its place as its moment
pub record Hosts (server : ServerState) (entries : ℕ) (past : List Entry) : Type 0 where
  pub represents : Represents server start past
  pub entries_are : entries ≡ length past
  pub moment_is : (now_of start past).moment ≡ length past

-- it stands for the history, and its client for the client, after a turn
pub record Stands (server : ServerState) (entries : ℕ) (p : Peer) (t : Turn) : Type 0 where
  pub hosts : Hosts server entries t.past
  pub peer_is : p ≡ t.peer

-- a server and clients, as they stand in a scene
pub record Runs (server : ServerState) (entries : ℕ) (peers : List Peer) (scene : Scene) : Type 0 where
  pub hosts : Hosts server entries scene.past
  pub peers_are : peers ≡ scene.peers

-- what contracts see of a world: whether it met want of memory, its server, how many entries it made, and its clients
pub record WorldState : Type 0 where
  pub failed : Bool
  pub server : ServerState
  pub entries : ℕ
  pub peers : List Peer

pub record StandsFor (world : WorldState) (scene : Scene) : Type 0 where
  pub is_well : world.failed ≡ false
  pub runs : Runs world.server world.entries world.peers scene
