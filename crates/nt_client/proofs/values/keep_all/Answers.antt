use Rattle.std.proofs.Common.{◌≡◌, List, ◌∷◌, map, sym, ◌∙◌, ap}
use Rattle.std.specs.Vec.Iter.{into_iter_items}
use Rattle.nt_frames.specs.declared.message.ValueMsg.{ValueMsg}
use Rattle.nt_rules.specs.declared.held.Held.{Held}
use Rattle.nt_rules.specs.telling.Told.{Value, told_from, with_message}
use Rattle.nt_client.specs.Kept.{outline}
use Rattle.nt_client.proofs.Keeping.{rise-outline}
use Rattle.nt_client.proofs.ValueSteps.{outlines-stay}
use Rattle.nt_client.proofs.values.keep_all.Goals as goal

pub loop-msg-preserved : goal.loop-msg-preserved
loop-msg-preserved c =
    let at = c.loop-msg in
    let rest : List ValueMsg = into_iter_items c.next.new.self in
    let steps : into_iter_items at.msg-iterator ≡ c.in-Some.msg ∷ rest = c.in-Some.ensures.steps.0 in
    let items : c.keep.new.held.items ≡ map (with_message c.in-Some.msg) at.held.items = c.keep.ensures in
    let same : map outline c.keep.new.held.items ≡ map outline at.held.items =
    ap (map outline) items ∙ outlines-stay c.in-Some.msg at.held.items in
    record {
      rising = rise-outline at.held.items c.keep.new.held.items (sym same) at.invariant.rising;
      outlines = same ∙ at.invariant.outlines;
      held = ap (λ (hs : List Held). told_from hs (map Value rest)) items
          ∙ ap (λ (ms : List ValueMsg). told_from at.held.items (map Value ms)) (sym steps)
          ∙ at.invariant.held;
    }
