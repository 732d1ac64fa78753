-- A line with its place tells both.
use Rattle.std.proofs.Common.{◌≡◌, ℕ, ◌<◌, ◌^◌, [], ◌∷◌, ◌++◌, refl}
use Rattle.std.specs.Fmt.{decimal}
use Rattle.std.proofs.lemmas.List.{append_cancel_right}
use Rattle.wpilog_write.specs.declared.item.LogItem.{LogItem}
use Rattle.wpilog_read.specs.declared.item_at.ItemAt.{ItemAt}
use Rattle.nt_lines.specs.ItemLines.{item_line, FitsItsTypes}
use Rattle.nt_lines.proofs.TellLines.{number-split, line-one}
use Rattle.nt_log_tools.specs.ItemLines.{placed_line}

-- items with the same place are equal if they are without
same-placed : (m n : ℕ) (x y : LogItem) → m ≡ n → x ≡ y → ◌≡◌ {A = ItemAt} (record { at = m; item = x }) (record {
  at = n;
  item = y;
})
same-placed m n x y at_is item_is = rw (at_is, item_is) refl

-- and with their places
pub placed-one : (a b : ItemAt) → a.at < 2 ^ 64 → b.at < 2 ^ 64 → FitsItsTypes a.item → FitsItsTypes b.item
    → placed_line a ≡ placed_line b → a ≡ b
placed-one a b at_a at_b p q e =
    let tail : decimal a.at ++ 32 ∷ (item_line a.item ++ 10 ∷ []) ≡ decimal b.at ++ 32 ∷ (item_line b.item ++ 10 ∷ []) =
    cc in
    let first = number-split a.at b.at (item_line a.item ++ 10 ∷ []) (item_line b.item ++ 10 ∷ []) at_a at_b tail in
    let at_is : a.at ≡ b.at = first.0 in
    let item_is : a.item ≡ b.item = line-one a.item b.item p q
    (append_cancel_right (item_line a.item) (item_line b.item) (10 ∷ []) first.1) in
    same-placed a.at b.at a.item b.item at_is item_is
