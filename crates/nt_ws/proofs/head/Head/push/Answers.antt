use Rattle.std.proofs.Common.{◌≡◌, ◌&&◌, ◌++◌, [], ◌∷◌, drop, ap, ◌∙◌}
use Rattle.std.proofs.lemmas.List.{take_rest}
use Rattle.nt_ws.specs.Ends.{is_empty_line}
use Rattle.nt_ws.proofs.Lines.{feed-is, byte-is}
use Rattle.nt_ws.proofs.head.Head.push.Goals.{then-self, else-self}
use Rattle.nt_ws.proofs.head.Head.push.Goals as goal

pub returns-then-byte-ne10 : goal.returns-then-byte-ne10
returns-then-byte-ne10 c =
    let items : c.push.new.self.items ≡ c.args.self.now.bytes.items ++ c.args.byte ∷ [] = c.in_ok-push.ensures.items in
    (items, byte-is _ _ _ _ _ c.requires c.if-byte-ne10.true items)

pub returns : goal.returns
returns c =
    let place = c.args.self.now.line in
    let items : c.push.new.self.items ≡ c.args.self.now.bytes.items ++ c.args.byte ∷ [] = c.in_ok-push.ensures.items in
    let line = take_rest c.deref.result.now place ∙ ap (drop place) c.deref.ensures.value in
    let empty : c.is_empty_line-is_empty.result ≡ is_empty_line
    (drop place c.args.self.now.bytes.items) = c.is_empty_line-is_empty.ensures ∙ ap is_empty_line line in
    let whole : c.if-self.is_whole ≡ (c.args.self.now.begun && c.is_empty_line-is_empty.result) =
    elim c.if-self.branch [
      | then-self w ↦ rw (w.is_whole-is, w.if-self.true)
      | else-self w ↦ rw
          (w.is_whole-is, w.if-self.false)
    ] in (
      items,
      feed-is _ _ _ _ _ _ _ _ c.requires c.if-byte-ne10.false empty items (c.len-self.ensures
          ∙ c.push.new.self.ok.0) whole,
    )
