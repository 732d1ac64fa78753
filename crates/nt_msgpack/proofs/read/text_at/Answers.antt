use Rattle.std.proofs.Common.{ℕ, ◌+◌, ◌≤◌, List, length, drop, sym, ap, ◌∙◌, arith}
use Rattle.std.proofs.lemmas.List.{length-drop}
use Rattle.nt_msgpack.specs.Atoms.{text}
use Rattle.nt_msgpack.specs.Reading.{got}
use Rattle.nt_msgpack.proofs.Forms.{fixed_at-text, fixed_at-no_text}
use Rattle.nt_msgpack.proofs.read.text_at.Goals as goal

-- bytes that are there after those of the length
after : (bytes : List ℕ) (at len : ℕ) → at + len ≤ length bytes → len ≤ length (drop at bytes)
after bytes at len h = omega (arith, length-drop at bytes)

pub returns-in-Ok : goal.returns-in-Ok
returns-in-Ok c =
    let body = c.in_ok-body.ensures in
    let is = c.in-Ok.ensures.cases in
    c.got.ensures ∙ ap (λ (w : List ℕ). got (text w) (1 + c.args.at + c.args.len)) is.0
    ∙ sym (fixed_at-text _ _ _ _ _ (after _ _ _ body.0) body.1 is.1)

pub returns-in-Err : goal.returns-in-Err
returns-in-Err c =
    let body = c.in_ok-body.ensures in
    sym (fixed_at-no_text _ _ _ _ _ (after _ _ _ body.0) body.1 c.in-Err.ensures.cases.0)
