use Rattle.std.proofs.Common.{refl, sym, ap, ◌∙◌}
use Rattle.base64.specs.Engines.{standard}
use Rattle.base64.specs.GeneralPurpose.{IsStrict}
use Rattle.nt_ws.specs.Written.{base64}
use Rattle.nt_ws.proofs.Asking.{key-taken, key-of-other-length, key-of-no-bytes}
use Rattle.nt_ws.proofs.request.key_in.Goals as goal

strict : IsStrict standard
strict = (refl, refl)

pub returns-then-len-ne16 : goal.returns-then-len-ne16
returns-then-len-ne16 c =
    λ other. key-of-other-length c.args.text.now c.in-Ok.nonce.items c.in-Ok.ensures.ok
    (λ e. c.if-len-ne16.true (c.len.ensures ∙ c.in-Ok.nonce.ok.0 ∙ e))

pub returns-in_ok-text-in-Ok : goal.returns-in_ok-text-in-Ok
returns-in_ok-text-in-Ok c =
    key-taken c.args.text.now c.in-Ok.nonce.items c.of_text.result c.in-Ok.ensures.ok
    (sym c.in-Ok.nonce.ok.0 ∙ sym c.len.ensures ∙ c.if-len-ne16.false)
    (c.in-Ok.ensures.exact strict)
    (c.of_text.ensures ∙ c.of_string.ensures ∙ c.in_ok-text-in-Ok.ensures ∙ ap base64 c.deref.ensures.value)

pub returns-in-Err-DecodeError : goal.returns-in-Err-DecodeError
returns-in-Err-DecodeError c =
    let failed = rw (c.in-Err-DecodeError.field-0-is) at c.in-Err-DecodeError.ensures.err in
    λ other. key-of-no-bytes c.args.text.now _ failed
