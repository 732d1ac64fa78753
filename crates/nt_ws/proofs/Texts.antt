-- The text of a request, piece by piece.
use Rattle.std.proofs.Common.{◌≡◌, ℕ, List, ◌++◌}
use Rattle.std.specs.Prelude.{codes}
use Rattle.nt_topics.specs.declared.version.Version.TheVariants.{V41}
use Rattle.nt_ws.specs.Written.{protocol_of, base64, field_line, upgrade_lines, escaped, request_of}

pub whole-request : (host name nonce t0 t1 t2 t3 t4 t5 t6 t7 t8 : List ℕ) → t0 ≡ codes "GET /nt/"
    → t1 ≡ t0 ++ escaped name → t2 ≡ t1 ++ codes " HTTP/1.1\r\n"
    → t3 ≡ t2 ++ field_line (codes "Host") host → t4 ≡ t3 ++ upgrade_lines
    → t5 ≡ t4 ++ field_line (codes "Sec-WebSocket-Key") (base64 nonce)
    → t6 ≡ t5 ++ field_line (codes "Sec-WebSocket-Version") (codes "13")
    → t7 ≡ t6 ++ field_line (codes "Sec-WebSocket-Protocol") (protocol_of V41)
    → t8 ≡ t7 ++ codes "\r\n" → t8 ≡ request_of host name nonce
whole-request host name nonce t0 t1 t2 t3 t4 t5 t6 t7 t8 p0 p1 p2 p3 p4 p5 p6 p7 p8 = rw
    (p8, p7, p6, p5, p4, p3, p2, p1, p0)
