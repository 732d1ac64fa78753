use Rattle.std.proofs.Common.{◌≡◌, ℕ, ◌++◌, List, subst, ap, ◌∙◌}
use Rattle.std.specs.Prelude.{IfOk, codes, string_bytes}
use Rattle.nt_ws.specs.Written.{escaped, field_line, request_of}
use Rattle.nt_ws.proofs.Texts.{whole-request}
use Rattle.nt_ws.proofs.text.request_bytes.Goals as goal

pub returns : goal.returns
returns c =
    let name = c.as_bytes.ensures.value ∙ c.as_str.ensures.text in
    let key = c.as_str-2.ensures.value ∙ c.in_ok-key.ensures in
    let whole : c.as_bytes-2.result.now ≡ request_of c.args.host.now c.args.name.now c.args.key.now =
    c.as_bytes-2.ensures.value ∙ whole-request c.args.host.now c.args.name.now c.args.key.now _ _ _ _ _ _ _ _ _
    c.in_ok-text.ensures.ok
    (c.in_ok-put_escaped.ensures ∙ ap (λ (n : List ℕ). string_bytes c.in_ok-text.text ++ escaped n) name)
    c.in_ok-push_str.ensures.bytes c.in_ok-put_field.ensures c.in_ok-put_upgrade.ensures
    (c.in_ok-put_field-2.ensures
    ∙ ap (λ (k : List ℕ). string_bytes c.put_upgrade.new.text ++ field_line (codes "Sec-WebSocket-Key") k) key)
    c.in_ok-put_field-3.ensures
    (c.in_ok-put_field-4.ensures
    ∙ ap (λ (p : List ℕ). string_bytes c.put_field-3.new.text ++ field_line
    (codes "Sec-WebSocket-Protocol") p) c.protocol_of.ensures)
    c.in_ok-push_str-2.ensures.bytes in
    subst (λ (t : List ℕ). IfOk c.of.result (λ bytes. bytes ≡ t)) whole c.of.ensures
