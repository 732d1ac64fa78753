-- What a handshake reads and writes.
use Rattle.std.specs.Prelude.{◌≡◌, ℕ, ◌<◌, ◌≤◌, List, [], length, take, Result, Ok, Err, ◌⊎◌, ⊤}
use Rattle.std.specs.declared.option.Option.{Option}
use Rattle.std.specs.Io.KnownBytes.{Consumes, Appends}
use Rattle.nt_link.specs.Causes.{Rose, StaysAtEnd}
use Rattle.nt_topics.specs.declared.version.Version.{Version}
use Rattle.nt_ws.specs.Ends.{most_bytes, IsHead, BringsNone}
use Rattle.nt_ws.specs.Heads.{SaysRequest, SaysResponse}
use Rattle.nt_ws.specs.Written.{answer_of, request_of, refusal_of, base64}
use Rattle.nt_ws.specs.declared.fault.HeadFault.{HeadFault}
use Rattle.nt_ws.specs.declared.fault.HeadFault.TheVariants.{Read, Write, TooLong, NotHttp, NotUpgrade, BadPath, NoProtocol, BadKey, Memory}
use Rattle.nt_ws.specs.declared.request.Request.{Request}

-- bytes were taken of a source, which now has this left, and answered so: they are a head, or bring none
abbrev pub Says : {T : Type 0} → (List ℕ → Result T HeadFault → Type 0) → List ℕ → Option (List ℕ)
    → Result T HeadFault → Type 0
Says P taken left result =
    (IsHead taken × (length taken ≤ most_bytes) × P taken result)
    ⊎ ((fault : HeadFault) × BringsNone fault taken left × (result ≡ Err fault))

-- a head was read of a source, and no byte more, and was answered so by P
pub record ReadsHead {T : Type 0} (P : List ℕ → Result T HeadFault
    → Type 0) (before now : Option (List ℕ)) (result : Result T HeadFault) : Type 0 where
  pub taken : List ℕ
  pub consumed : Consumes before now taken
  pub says : Says P taken now result

-- what a sink took before and now, and its faults before and now
pub record Taken : Type 0 where
  pub before : Option (List ℕ)
  pub now : Option (List ℕ)
  pub faults_before : ℕ
  pub faults_now : ℕ

-- a count of faults later: it hasn't fallen, and stays at its end
pub record Counts (before now : ℕ) : Type 0 where
  pub later : before ≤ now
  pub end : StaysAtEnd before now

-- a write of these bytes failed: the sink took so many of them, and not all
pub record Fails (sink : Taken) (bytes : List ℕ) : Type 0 where
  pub written : ℕ
  pub short : written < length bytes
  pub appended : Appends sink.before sink.now (take written bytes)
  pub rose : Rose sink.faults_before sink.faults_now

-- these bytes were written, or the write failed
abbrev pub Tells : Taken → List ℕ → Type 0
Tells sink bytes = Appends sink.before sink.now bytes ⊎ Fails sink bytes

-- the bytes were written where the call answered Ok, and else the write failed, which is the fault
abbrev pub TellsBy : Taken → List ℕ → Result ⊤ HeadFault → Type 0
TellsBy sink bytes (Ok done) = Appends sink.before sink.now bytes
TellsBy sink bytes (Err fault) = (fault ≡ Write) × Fails sink bytes

-- a request was read, and its answer written
pub record Welcomes (before now : Option (List ℕ)) (sink : Taken) (name : List ℕ) (version : Version) : Type 0 where
  pub request : Request
  pub read : ReadsHead SaysRequest before now (Ok request)
  pub name_is : name ≡ request.name
  pub version_is : version ≡ request.version
  pub written : Appends sink.before sink.now (answer_of request)

-- a request was read, and the write of its answer failed
pub record FailsToAnswer (before now : Option (List ℕ)) (sink : Taken) : Type 0 where
  pub request : Request
  pub read : ReadsHead SaysRequest before now (Ok request)
  pub fails : Fails sink (answer_of request)

-- no request was read, for this cause, of which the peer was told. Where that couldn't be written, the cause is the
-- same
pub record Refuses (before now : Option (List ℕ)) (sink : Taken) (fault : HeadFault) : Type 0 where
  pub read : ReadsHead SaysRequest before now (Err fault)
  pub told : Tells sink (refusal_of fault)

abbrev pub RefusesBy : Option (List ℕ) → Option (List ℕ) → Taken → HeadFault → Type 0
RefusesBy before now sink Write = FailsToAnswer before now sink
RefusesBy before now sink Read = Refuses before now sink Read
RefusesBy before now sink TooLong = Refuses before now sink TooLong
RefusesBy before now sink NotHttp = Refuses before now sink NotHttp
RefusesBy before now sink NotUpgrade = Refuses before now sink NotUpgrade
RefusesBy before now sink BadPath = Refuses before now sink BadPath
RefusesBy before now sink NoProtocol = Refuses before now sink NoProtocol
RefusesBy before now sink BadKey = Refuses before now sink BadKey
RefusesBy before now sink Memory = Refuses before now sink Memory

-- what a server read and wrote, and what it answered
abbrev pub Greets : Option (List ℕ) → Option (List ℕ) → Taken → Result (List ℕ × Version) HeadFault → Type 0
Greets before now sink (Ok peer) = Welcomes before now sink peer.0 peer.1
Greets before now sink (Err fault) = RefusesBy before now sink fault

-- what a client writes to this host, and the key of its request
pub record Asking : Type 0 where
  pub host : List ℕ
  pub name : List ℕ
  pub nonce : List ℕ

abbrev pub request_by : Asking → List ℕ
request_by asking = request_of asking.host asking.name asking.nonce

-- a client wrote its request, and read this answer
pub record Hears (asking : Asking) (before now : Option (List ℕ)) (sink : Taken)
    (result : Result Version HeadFault) : Type 0 where
  pub written : Appends sink.before sink.now (request_by asking)
  pub read : ReadsHead (SaysResponse (base64 asking.nonce)) before now result

-- nothing was read and nothing written
pub record DoesNothing (before now : Option (List ℕ)) (sink : Taken) : Type 0 where
  pub written : Appends sink.before sink.now []
  pub read : Consumes before now []

-- the write of the request failed, and nothing was read
pub record FailsToAsk (asking : Asking) (before now : Option (List ℕ)) (sink : Taken) : Type 0 where
  pub fails : Fails sink (request_by asking)
  pub read : Consumes before now []

-- what a client wrote and read, and what it answered
abbrev pub JoinsBy : Asking → Option (List ℕ) → Option (List ℕ) → Taken → HeadFault → Type 0
JoinsBy asking before now sink Write = FailsToAsk asking before now sink
JoinsBy asking before now sink Memory = DoesNothing before now sink ⊎ Hears asking before now sink (Err Memory)
JoinsBy asking before now sink Read = Hears asking before now sink (Err Read)
JoinsBy asking before now sink TooLong = Hears asking before now sink (Err TooLong)
JoinsBy asking before now sink NotHttp = Hears asking before now sink (Err NotHttp)
JoinsBy asking before now sink NotUpgrade = Hears asking before now sink (Err NotUpgrade)
JoinsBy asking before now sink BadPath = Hears asking before now sink (Err BadPath)
JoinsBy asking before now sink NoProtocol = Hears asking before now sink (Err NoProtocol)
JoinsBy asking before now sink BadKey = Hears asking before now sink (Err BadKey)

abbrev pub Joins : Asking → Option (List ℕ) → Option (List ℕ) → Taken → Result Version HeadFault → Type 0
Joins asking before now sink (Ok version) = Hears asking before now sink (Ok version)
Joins asking before now sink (Err fault) = JoinsBy asking before now sink fault
