use Rattle.std.proofs.Common.{◌≡◌, ℕ, List, Bool, true, false, Option, Some, None, Vec, Global, map, option_map, refl, ap, sym, ◌∙◌}
use Rattle.std.specs.Str.{IsUtf8, is_utf8}
use Rattle.std.proofs.lemmas.Str.{IsUtf8-from_is_utf8, is_utf8-from_IsUtf8}
use Rattle.serde_json.specs.Data.{Data}
use Rattle.serde_json.specs.Read.{read}
use Rattle.serde_json.specs.View.{view, items_view}
use Rattle.serde_json.specs.declared.value.Value.{Value}
use Rattle.nt_control.specs.Elements.{listed, tree_in, elements_of}
use Rattle.nt_control.proofs.Arrays.{listed-items_of}
use Rattle.nt_control.proofs.frame.elements.Goals as goal

-- the trees of the items that an array has
listed_or : (items : Option (Vec Value Global))
    → option_map (λ list. map view list.items) items
    ≡ option_map listed (option_map (λ list. items_view list.items) items)
listed_or None = refl
listed_or (Some list) = ap Some (sym (listed-items_of (map view list.items)))

-- a text that is refused has no tree
refused : (text : List ℕ) → (IsUtf8 text → read text ≡ None) → None ≡ tree_in text
refused text none = by (is_utf8 text) refl
  where
    by : (b : Bool) → is_utf8 text ≡ b → None ≡ tree_in text
    by true is = rw is (sym (none (IsUtf8-from_is_utf8 text is)))
    by false is = rw is refl

-- a text that is read has the tree that was read
had : (text : List ℕ) (tree : Data) → IsUtf8 text → read text ≡ Some tree → Some tree ≡ tree_in text
had text tree valid is = rw (is_utf8-from_IsUtf8 _ valid) (sym is)

pub returns-in-Ok : goal.returns-in-Ok
returns-in-Ok c =
    listed_or c.into_items.result ∙ ap (option_map listed) c.into_items.ensures
    ∙ ap elements_of (had _ _ c.in-Ok.ensures.ok.0 c.in-Ok.ensures.ok.1)

pub returns-else-is_memory : goal.returns-else-is_memory
returns-else-is_memory c =
    ap elements_of (refused _ (c.in-Err.ensures.err (λ m. let is = c.if-is_memory.ensures.1 m in absurd (cc))))
