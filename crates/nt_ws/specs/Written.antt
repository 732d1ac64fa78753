-- The bytes of requests, answers and refusals (RFC 6455, sections 1.3, 4.1 and 4.2.2).
use Rattle.std.specs.Prelude.{ℕ, Bool, ◌||◌, ◌==◌, List, [], ◌∷◌, ◌++◌, codes, flat_map, if◌then◌else◌}
use Rattle.std.specs.Char.{is_ascii_alphanumeric}
use Rattle.base64.specs.Engines.{standard}
use Rattle.base64.specs.GeneralPurpose.{encode_of}
use Rattle.percent_encoding.specs.Percent.{percent_encode_byte}
use Rattle.sha1.specs.Sha1.{sha1}
use Rattle.nt_topics.specs.declared.version.Version.{Version}
use Rattle.nt_topics.specs.declared.version.Version.TheVariants.{V41}
use Rattle.nt_ws.specs.declared.fault.HeadFault.{HeadFault}
use Rattle.nt_ws.specs.declared.fault.HeadFault.TheVariants.{Read, Write, TooLong, NotHttp, NotUpgrade, BadPath, NoProtocol, BadKey, Memory}
use Rattle.nt_ws.specs.declared.request.Request.{Request}

-- the name of a version, as a subprotocol (NetworkTables 4.1, "WebSocket Connection")
abbrev pub protocol_of : Version → List ℕ
protocol_of V41 = codes "v4.1.networktables.first.wpi.edu"

-- bytes in base64 (RFC 4648, section 4)
unfoldable pub base64 : List ℕ → List ℕ
base64 bytes = encode_of standard bytes

-- the value by which a server shows that it read the key (section 4.2.2, item 5.4)
unfoldable pub accept_of : List ℕ → List ℕ
accept_of key = base64 (sha1 (key ++ codes "258EAFA5-E914-47DA-95CA-C5AB0DC85B11"))

-- the end of a line
abbrev pub crlf : List ℕ
crlf = codes "\r\n"

-- a field line
abbrev pub field_line : List ℕ → List ℕ → List ℕ
field_line name value = name ++ codes ": " ++ value ++ crlf

-- the two fields of an upgrade
abbrev pub upgrade_lines : List ℕ
upgrade_lines = field_line (codes "Upgrade") (codes "websocket") ++ field_line (codes "Connection") (codes "Upgrade")

-- the answer to a request
abbrev pub answer_of : Request → List ℕ
answer_of request =
    codes "HTTP/1.1 101 Switching Protocols" ++ crlf
    ++ upgrade_lines
    ++ field_line (codes "Sec-WebSocket-Accept") (accept_of request.key)
    ++ field_line (codes "Sec-WebSocket-Protocol") (protocol_of request.version)
    ++ crlf

-- a byte that stands for itself in a target (RFC 3986, section 2.3): a letter, a digit, or one of `-`, `_`, `.`, `~`
abbrev pub is_unreserved : ℕ → Bool
is_unreserved b = is_ascii_alphanumeric b || (b == 45 || (b == 95 || (b == 46 || b == 126)))

-- a name in a target: each other byte is `%` and its two hexadecimal digits
abbrev pub escaped : List ℕ → List ℕ
escaped name = flat_map (λ b. if is_unreserved b then b ∷ [] else percent_encode_byte b) name

-- the request of a client of this name to this host, with this nonce
abbrev pub request_of : List ℕ → List ℕ → List ℕ → List ℕ
request_of host name nonce =
    codes "GET /nt/" ++ escaped name ++ codes " HTTP/1.1\r\n"
    ++ field_line (codes "Host") host
    ++ upgrade_lines
    ++ field_line (codes "Sec-WebSocket-Key") (base64 nonce)
    ++ field_line (codes "Sec-WebSocket-Version") (codes "13")
    ++ field_line (codes "Sec-WebSocket-Protocol") (protocol_of V41)
    ++ crlf

-- a refusal with this status line
abbrev pub refusal_with : List ℕ → List ℕ
refusal_with status =
    status ++ crlf ++ field_line (codes "Connection") (codes "close")
    ++ field_line (codes "Content-Length") (codes "0") ++ crlf

-- a path that isn't there is told apart from any other wrong head
abbrev pub not_found : List ℕ
not_found = refusal_with (codes "HTTP/1.1 404 Not Found")

abbrev pub bad_request : List ℕ
bad_request = refusal_with (codes "HTTP/1.1 400 Bad Request")

-- what a peer is told of a fault
abbrev pub refusal_of : HeadFault → List ℕ
refusal_of Read = []
refusal_of Write = []
refusal_of Memory = []
refusal_of BadPath = not_found
refusal_of TooLong = bad_request
refusal_of NotHttp = bad_request
refusal_of NotUpgrade = bad_request
refusal_of NoProtocol = bad_request
refusal_of BadKey = bad_request
