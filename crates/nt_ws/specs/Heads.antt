-- What the head of an upgrade says (RFC 6455, section 4), and what is wrong with it.
use Rattle.std.specs.Prelude.{◌≡◌, ◌≢◌, ℕ, ◌≤◌, Bool, false, not, ◌&&◌, ◌==◌, List, [], length, map, codes, bytes_eq, Option, None, Some, Result, Ok, Err, if◌then◌else◌, ◌⊎◌}
use Rattle.base64.specs.Engines.{standard}
use Rattle.base64.specs.GeneralPurpose.{decode_of}
use Rattle.base64.specs.declared.decode.DecodeError.{DecodeError}
use Rattle.httparse.specs.Grammar.{RequestHead, ReadsRequest, ResponseHead, ReadsResponse, status_code}
use Rattle.httparse.specs.Spans.{name_and_value}
use Rattle.nt_topics.specs.Paths.{path_name}
use Rattle.nt_topics.specs.declared.path.PathFault.{PathFault}
use Rattle.nt_topics.specs.declared.path.PathFault.TheVariants as Path
use Rattle.nt_topics.specs.declared.version.Version.{Version}
use Rattle.nt_topics.specs.declared.version.Version.TheVariants.{V41}
use Rattle.nt_ws.specs.Fields.{Field, list_word, list_member, only_value, is_only}
use Rattle.nt_ws.specs.Written.{protocol_of, accept_of}
use Rattle.nt_ws.specs.declared.fault.HeadFault.{HeadFault}
use Rattle.nt_ws.specs.declared.fault.HeadFault.TheVariants.{NotHttp, NotUpgrade, BadPath, NoProtocol, BadKey, Memory}
use Rattle.nt_ws.specs.declared.request.Request.{Request}

-- the most field lines of a head
abbrev pub most_fields : ℕ
most_fields = 64

-- a call that should answer so answered this. Want of memory may come in place of any answer
abbrev pub Gives : {T : Type 0} → Result T HeadFault → Result T HeadFault → Type 0
Gives expected (Ok value) = expected ≡ Ok value
Gives expected (Err fault) = fault ≢ Memory → expected ≡ Err fault

-- why a target names no client
abbrev pub fault_of : PathFault → HeadFault
fault_of Path.NotNt = BadPath
fault_of Path.NotText = BadPath
fault_of Path.Empty = BadPath
fault_of Path.TooLong = BadPath
fault_of Path.Memory = Memory

-- the fields ask for an upgrade to a WebSocket (section 4.2.1, items 3 and 4)
abbrev pub is_upgrade : List Field → Bool
is_upgrade fields =
    list_word (codes "upgrade") (codes "websocket") fields
    && list_word (codes "connection") (codes "upgrade") fields

-- a request asks for an upgrade to a WebSocket of version 13 (items 1, 3, 4 and 6)
abbrev pub asks_upgrade : List ℕ → ℕ → List Field → Bool
asks_upgrade method minor fields =
    bytes_eq method (codes "GET")
    && ((minor == 1) && (is_upgrade fields && is_only (codes "sec-websocket-version") (codes "13") fields))

-- the version that is picked of those that are offered
abbrev pub picked : List Field → Option Version
picked fields = if list_member (codes "sec-websocket-protocol") (protocol_of V41) fields then Some V41 else None

-- these are 16 bytes
abbrev pub are_sixteen : Result (List ℕ) DecodeError → Bool
are_sixteen (Ok bytes) = length bytes == 16
are_sixteen (Err fault) = false

-- a key is 16 bytes in base64 (item 5). That encoding is strict: the bits behind the last byte are 0
unfoldable pub is_key : List ℕ → Bool
is_key text = are_sixteen (decode_of standard text)

-- the one value that the fields have as a key
abbrev pub key_in : Option (List ℕ) → Result (List ℕ) HeadFault
key_in None = Err BadKey
key_in (Some text) = if is_key text then Ok text else Err BadKey

-- the key of these fields
abbrev pub key_of : List Field → Result (List ℕ) HeadFault
key_of fields = key_in (only_value (codes "sec-websocket-key") fields)

-- what a request of this name and version asks, by its key
abbrev pub with_key : List ℕ → Version → Result (List ℕ) HeadFault → Result Request HeadFault
with_key name version (Ok key) = Ok (record { name = name; version = version; key = key })
with_key name version (Err fault) = Err fault

-- the same by the version that is picked, and by the name in its target
abbrev pub with_version : List ℕ → List Field → Option Version → Result Request HeadFault
with_version name fields None = Err NoProtocol
with_version name fields (Some version) = with_key name version (key_of fields)

abbrev pub with_name : List Field → Result (List ℕ) PathFault → Result Request HeadFault
with_name fields (Err fault) = Err (fault_of fault)
with_name fields (Ok name) = with_version name fields (picked fields)

-- what a request asks, or the first of its faults
abbrev pub asked : List ℕ → List ℕ → ℕ → List Field → Result Request HeadFault
asked method target minor fields =
    if asks_upgrade method minor fields then with_name fields (path_name target) else Err NotUpgrade

-- the bytes are one head of a request (RFC 9112, section 3), with at most 64 fields
pub record IsRequest (bytes : List ℕ) (head : RequestHead) : Type 0 where
  pub reads : ReadsRequest bytes head []
  pub few : length head.fields ≤ most_fields

-- what the head of a request asks
abbrev pub asked_by : RequestHead → Result Request HeadFault
asked_by head = asked head.method head.target head.minor (map name_and_value head.fields)

-- these bytes, read as the head of a request, were answered so
abbrev pub SaysRequest : List ℕ → Result Request HeadFault → Type 0
SaysRequest bytes result =
    ((head : RequestHead) × IsRequest bytes head × Gives (asked_by head) result)
    ⊎ (((head : RequestHead) → IsRequest bytes head → ⊥) × Gives (Err NotHttp) result)

-- an answer takes the upgrade (section 4.1, items 1 to 3)
abbrev pub takes_upgrade : ℕ → List Field → Bool
takes_upgrade status fields = (status == 101) && is_upgrade fields

-- the version to which an answer agrees, or the first of its faults (items 4 and 6)
abbrev pub agreed : List ℕ → ℕ → List Field → Result Version HeadFault
agreed key status fields =
    if not (takes_upgrade status fields) then Err NotUpgrade
    else (if not (is_only (codes "sec-websocket-accept") (accept_of key) fields) then Err BadKey
    else (if not (is_only (codes "sec-websocket-protocol") (protocol_of V41) fields) then Err NoProtocol
    else Ok V41))

-- the bytes are one head of a response (RFC 9112, section 4), with at most 64 fields
pub record IsResponse (bytes : List ℕ) (head : ResponseHead) : Type 0 where
  pub reads : ReadsResponse bytes head []
  pub few : length head.fields ≤ most_fields

-- the version to which a response agrees, where the key of the request was this text
abbrev pub agreed_by : List ℕ → ResponseHead → Result Version HeadFault
agreed_by key head = agreed key (status_code head) (map name_and_value head.fields)

-- these bytes, read as the head of a response to that key, were answered so
abbrev pub SaysResponse : List ℕ → List ℕ → Result Version HeadFault → Type 0
SaysResponse key bytes result =
    ((head : ResponseHead) × IsResponse bytes head × Gives (agreed_by key head) result)
    ⊎ (((head : ResponseHead) → IsResponse bytes head → ⊥) × Gives (Err NotHttp) result)
