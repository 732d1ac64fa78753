use Rattle.std.proofs.Common.{◌≡◌, ℕ, List, ap, rules}
use Rattle.nt_link.specs.declared.frame.Frame.TheVariants.{Text, Binary}
use Rattle.nt_serve.proofs.Moving.{moves-quiet, moves-received}
use Rattle.nt_serve.proofs.Hearing.{heard-none, heard-frame, cut-quiet, cut-frame}
use Rattle.nt_serve.proofs.rounds.hear.Goals as goal

pub returns-in_err-text-clause-cut : goal.returns-in_err-text-clause-cut
returns-in_err-text-clause-cut g c =
    cut-quiet c.from_residual.result c.in_err-text.field-0.0 _ _ c.args.conn c.from_residual.ensures.1
    (moves-quiet _ _ _ _ _ _ _ _ c.in_err-text.ensures.coming c.in_err-text.ensures.received
    c.in_err-text.ensures.sent)

pub returns-in_err-take_text-in-Text-clause-cut : goal.returns-in_err-take_text-in-Text-clause-cut
returns-in_err-take_text-in-Text-clause-cut g c =
    let same : c.as_bytes-text.result.now ≡ c.in-Text.text = search rules in
    cut-frame c.from_residual-in_err-take_text-in-Text.result c.in_err-take_text-in-Text.field-0.0 _ _ _ c.args.conn
    (Text c.in-Text.text) (Text c.as_bytes-text.result.now) (ap (λ (l : List ℕ). Text l) same)
    c.from_residual-in_err-take_text-in-Text.ensures.1
    (moves-received _ _ _ _ _ _ _ _ (Text c.in-Text.text) (rw c.in-Text.is at c.in_ok-text.ensures.coming)
    (rw c.in-Text.is at c.in_ok-text.ensures.received) c.in_ok-text.ensures.sent)
    c.in_err-take_text-in-Text.ensures.cut

pub returns-in_err-take_binary-in-Binary-clause-cut : goal.returns-in_err-take_binary-in-Binary-clause-cut
returns-in_err-take_binary-in-Binary-clause-cut g c =
    let same : c.as_bytes-bytes.result.now ≡ c.in-Binary.bytes = search rules in
    cut-frame c.from_residual-in_err-take_binary-in-Binary.result c.in_err-take_binary-in-Binary.field-0.0 _ _ _
    c.args.conn (Binary c.in-Binary.bytes) (Binary c.as_bytes-bytes.result.now) (ap (λ (l : List ℕ). Binary l) same)
    c.from_residual-in_err-take_binary-in-Binary.ensures.1
    (moves-received _ _ _ _ _ _ _ _ (Binary c.in-Binary.bytes) (rw c.in-Binary.is at c.in_ok-text.ensures.coming)
    (rw c.in-Binary.is at c.in_ok-text.ensures.received) c.in_ok-text.ensures.sent)
    c.in_err-take_binary-in-Binary.ensures.cut

pub returns-in_ok-take_text-in-Text-clause-heard : goal.returns-in_ok-take_text-in-Text-clause-heard
returns-in_ok-take_text-in-Text-clause-heard g c =
    let same : c.as_bytes-text.result.now ≡ c.in-Text.text = search rules in
    heard-frame _ _ _ c.args.conn (Text c.in-Text.text) (Text c.as_bytes-text.result.now)
    (ap (λ (l : List ℕ). Text l) same)
    (moves-received _ _ _ _ _ _ _ _ (Text c.in-Text.text) (rw c.in-Text.is at c.in_ok-text.ensures.coming)
    (rw c.in-Text.is at c.in_ok-text.ensures.received) c.in_ok-text.ensures.sent)
    c.in_ok-take_text-in-Text.ensures.taken

pub returns-in_ok-take_binary-in-Binary-clause-heard : goal.returns-in_ok-take_binary-in-Binary-clause-heard
returns-in_ok-take_binary-in-Binary-clause-heard g c =
    let same : c.as_bytes-bytes.result.now ≡ c.in-Binary.bytes = search rules in
    heard-frame _ _ _ c.args.conn (Binary c.in-Binary.bytes) (Binary c.as_bytes-bytes.result.now)
    (ap (λ (l : List ℕ). Binary l) same)
    (moves-received _ _ _ _ _ _ _ _ (Binary c.in-Binary.bytes) (rw c.in-Binary.is at c.in_ok-text.ensures.coming)
    (rw c.in-Binary.is at c.in_ok-text.ensures.received) c.in_ok-text.ensures.sent)
    c.in_ok-take_binary-in-Binary.ensures.taken

pub returns-in-Quiet-clause-heard : goal.returns-in-Quiet-clause-heard
returns-in-Quiet-clause-heard g c =
    heard-none _ _ c.args.conn (moves-quiet _ _ _ _ _ _ _ _ (rw c.in-Quiet.is at c.in_ok-text.ensures.coming)
    (rw c.in-Quiet.is at c.in_ok-text.ensures.received) c.in_ok-text.ensures.sent)
