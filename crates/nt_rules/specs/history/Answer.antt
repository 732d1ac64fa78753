-- What the server answers after a history, the entry that an act makes, and which histories are lawful.
use Rattle.std.specs.Prelude.{◌≡◌, ◌≢◌, ◌≤◌, ℕ, zero, suc, Bool, true, false, max, List, [], ◌∷◌, ◌++◌, Option, Some, None, length, take, not, ◌&&◌, nat_lt, nat_le, ◌+◌, if◌then◌else◌, bytes_eq, codes, decimal}
use Rattle.std.specs.List.{list_any}
use Rattle.nt_rules.specs.declared.topic.Cause.{Cause}
use Rattle.nt_rules.specs.declared.topic.Cause.TheVariants.{NoConn, ConnsSpent, Behind}
use Rattle.nt_rules.specs.declared.batch.Batch.{Batch}
use Rattle.nt_rules.specs.outbox.Keys.{Key}
use Rattle.nt_rules.specs.declared.act.Act.{Act}
use Rattle.nt_rules.specs.declared.act.Act.TheVariants as act
use Rattle.nt_rules.specs.declared.act.StepOut.{StepOut}
use Rattle.nt_rules.specs.declared.act.StepOut.TheVariants as out
use Rattle.nt_rules.specs.declared.act.Deed.{Deed}
use Rattle.nt_rules.specs.declared.act.Deed.TheVariants as deed
use Rattle.nt_rules.specs.declared.act.Entry.{Entry}
use Rattle.nt_rules.specs.history.Lives.{Life}
use Rattle.nt_rules.specs.declared.start.Start.{Start}
use Rattle.nt_rules.specs.history.Now.{Now, Connection, is_open_for, open_ones, cause_of, now_of}
use Rattle.nt_rules.specs.history.Metas.{all_lives}
use Rattle.nt_rules.specs.history.Owed.{owed, behind, messages}
use Rattle.nt_rules.specs.Limits.{last_connection}

-- ---- the name that a connection is given

-- the names of the open connections
abbrev pub names_of : List Connection → List (List ℕ)
names_of [] = []
names_of (c ∷ connections) = c.name ∷ names_of connections

abbrev pub is_used : List (List ℕ) → List ℕ → Bool
is_used names name = list_any (λ used. bytes_eq used name) names

-- `name`, `name@1`, `name@2` and so on
abbrev pub numbered : List ℕ → ℕ → List ℕ
numbered name zero = name
numbered name (suc k) = name ++ (codes "@" ++ decimal (suc k))

-- the first of them, from a number on, that isn't used. One of as many as there are names, and one more, is free
abbrev pub free_name : List (List ℕ) → List (List ℕ) → ℕ → List ℕ → List ℕ
free_name names [] k name = numbered name k
free_name names (n ∷ ns) k name =
    if is_used names (numbered name k) then free_name names ns (k + 1) name else numbered name k

abbrev pub given_name : List (List ℕ) → List ℕ → List ℕ
given_name names name = free_name names names 0 name

-- ---- numbers and permits

abbrev pub are_spent : Now → Bool
are_spent n = nat_le last_connection (length n.connections)

abbrev pub may_permit : Now → Bool
may_permit n = nat_lt n.granted n.permits && not n.shut

-- the moment of an entry: moments never fall
abbrev pub moment_of : Now → ℕ → ℕ
moment_of n now = max n.moment now

-- ---- answers

abbrev pub said_out : Option Cause → StepOut
said_out None = out.Done
said_out (Some cause) = out.Ignored cause

abbrev pub drained_out : Option ℕ → Batch → StepOut
drained_out None batch = out.Drained batch
drained_out (Some weight) batch = out.Ignored Behind

abbrev pub answer : Start → List Entry → ℕ → ℕ → Act → StepOut
answer start past worker now (act.Open name version) =
    let n = now_of start past in
    if are_spent n
    then out.Ignored ConnsSpent
    else out.Opened (length n.connections + 1) (given_name (names_of (open_ones n.connections)) name)
answer start past worker now (act.Said conn msg) = said_out (cause_of (now_of start past) worker conn msg)
answer start past worker now (act.Drain conn budget) =
    let n = now_of start past in
    if is_open_for n.connections worker conn
    then drained_out (behind start past conn)
    (messages (all_lives start past) (moment_of n now) conn (take budget (owed start past conn)))
    else out.Ignored NoConn
answer start past worker now (act.Close conn) =
    if is_open_for (now_of start past).connections worker conn then out.Closed else out.Ignored NoConn
answer start past worker now act.Permit = if may_permit (now_of start past) then out.Permitted else out.NoPermit
answer start past worker now act.Shut = out.Shut

-- ---- entries

abbrev pub no_messages : Batch
no_messages = record { texts = []; values = [] }

abbrev pub opened_deed : StepOut → Deed
opened_deed (out.Opened conn name) = deed.Opened name
opened_deed o = deed.NotOpened

abbrev pub opened_conn : StepOut → ℕ
opened_conn (out.Opened conn name) = conn
opened_conn o = 0

abbrev pub drained_batch : StepOut → Batch
drained_batch (out.Drained batch) = batch
drained_batch o = no_messages

abbrev pub permit_deed : StepOut → Deed
permit_deed out.Permitted = deed.Permitted
permit_deed o = deed.NoPermit

-- the entry of an act of a worker that was answered so, at this moment
abbrev pub entry : ℕ → ℕ → Act → StepOut → Entry
entry worker moment (act.Open name version) o =
    record { worker = worker; conn = opened_conn o; now = moment; deed = opened_deed o }
entry worker moment (act.Said conn msg) o = record { worker = worker; conn = conn; now = moment; deed = deed.Said msg }
entry worker moment (act.Drain conn budget) o =
    record { worker = worker; conn = conn; now = moment; deed = deed.Drained (drained_batch o) }
entry worker moment (act.Close conn) o = record { worker = worker; conn = conn; now = moment; deed = deed.Closed }
entry worker moment act.Permit o = record { worker = worker; conn = 0; now = moment; deed = permit_deed o }
entry worker moment act.Shut o = record { worker = worker; conn = 0; now = moment; deed = deed.Shut }

-- ---- lawful histories

-- a batch hands the messages of a prefix of what is owed, and is empty only where nothing is
abbrev pub IsPrefix : List Life → ℕ → ℕ → List Key → Batch → Type 0
IsPrefix lives moment conn keys batch =
    (k : ℕ) × (k ≤ length keys) × (batch ≡ messages lives moment conn (take k keys)) × (keys ≢ [] → k ≢ 0)

abbrev pub IsBatch : Bool → List Life → ℕ → ℕ → List Key → Batch → Type 0
IsBatch true lives moment conn keys batch = IsPrefix lives moment conn keys batch
IsBatch false lives moment conn keys batch = batch ≡ no_messages

-- whether a deed may stand after a history, at a moment
abbrev pub IsLawful : Start → List Entry → ℕ → ℕ → ℕ → Deed → Type 0
IsLawful start past worker conn moment (deed.Opened name) =
    let n = now_of start past in
    (are_spent n ≡ false) × (conn ≡ length n.connections + 1)
    × (is_used (names_of (open_ones n.connections)) name ≡ false)
IsLawful start past worker conn moment deed.NotOpened = (are_spent (now_of start past) ≡ true) × (conn ≡ 0)
IsLawful start past worker conn moment (deed.Said msg) = Unit {0}
IsLawful start past worker conn moment (deed.Drained batch) =
    IsBatch (is_open_for (now_of start past).connections worker conn) (all_lives start past) moment conn
    (owed start past conn) batch
IsLawful start past worker conn moment deed.Closed = Unit {0}
IsLawful start past worker conn moment deed.Permitted = (may_permit (now_of start past) ≡ true) × (conn ≡ 0)
IsLawful start past worker conn moment deed.NoPermit = (may_permit (now_of start past) ≡ false) × (conn ≡ 0)
IsLawful start past worker conn moment deed.Shut = conn ≡ 0

-- each entry is lawful after those before it, and moments never fall
abbrev pub Legal : Start → List Entry → Type 0
Legal start [] = Unit {0}
Legal start (e ∷ past) =
    IsLawful start past e.worker e.conn e.now e.deed × ((now_of start past).moment ≤ e.now) × Legal start past
