use Rattle.std.proofs.Common.{◌≡◌, ◌++◌, List, ℕ, subst}
use Rattle.std.specs.Prelude.{IfOk, codes, string_bytes}
use Rattle.sha1.specs.Sha1.{sha1}
use Rattle.nt_ws.specs.Written.{base64, accept_of}
use Rattle.nt_ws.proofs.text.accept_of.Goals as goal

pub returns : goal.returns
unfolding accept_of
returns c =
    let digest : c.finalize.result ≡ sha1 (c.args.key.now ++ codes "258EAFA5-E914-47DA-95CA-C5AB0DC85B11") =
    c.finalize.ensures _ (c.update-2.ensures _ (c.update.ensures _ c.new-hasher.ensures)) in
    subst (λ (d : List ℕ). IfOk c.base64.result (λ text. string_bytes text ≡ base64 d)) digest c.base64.ensures
