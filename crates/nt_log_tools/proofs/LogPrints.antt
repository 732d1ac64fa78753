-- What a tool that reads a log has printed of its items.
use Rattle.std.proofs.Common.{◌≡◌, ℕ, ◌+◌, List, [], ◌∷◌, ◌++◌, refl, sym, ap, subst, ◌∙◌, append-nil, length-append}
use Rattle.std.specs.declared.option.Option.{Option}
use Rattle.std.proofs.lemmas.Grind.{flat_map-append}
use Rattle.wpilog_read.specs.declared.item_at.ItemAt.{ItemAt}
use Rattle.wpilog_read.specs.Run.{Reading, Stands}
use Rattle.nt_log_tools.specs.declared.command.LogTool.{LogTool}
use Rattle.nt_log_tools.specs.declared.command.LogTool.TheVariants.{Check, Show}
use Rattle.nt_tools.specs.declared.status.ToolFault.{ToolFault}
use Rattle.nt_tools.specs.declared.status.ToolFault.TheVariants.{Write}
use Rattle.nt_log_tools.specs.ItemLines.{placed_line}
use Rattle.nt_log_tools.specs.LogTools.{lines_of}
use Rattle.nt_log_tools.specs.LogRun.{line_of, HasFound, StopsAt}
use Rattle.nt_tools.specs.Printing.{HasPrinted, HasStopped}
use Rattle.nt_tools.proofs.Printing.{printed-more, stopped-other}

-- ---- lines

-- the lines of one item more
pub lines-more : (tool : LogTool) (items : List ItemAt) (x : ItemAt)
    → lines_of tool (items ++ x ∷ []) ≡ lines_of tool items ++ line_of tool x
lines-more Check items x = refl
lines-more Show items x = flat_map-append placed_line items (x ∷ []) ∙ ap (λ (w : List ℕ). lines_of Show items ++ w)
    (append-nil (placed_line x))

-- the lines of more items
pub lines-append : (tool : LogTool) (items more : List ItemAt)
    → lines_of tool (items ++ more) ≡ lines_of tool items ++ lines_of tool more
lines-append Check items more = refl
lines-append Show items more = flat_map-append placed_line items more

-- the lines of one item more
pub items-more : (tool : LogTool) (items : List ItemAt) (x : ItemAt) (rest left : List ℕ)
    (before mid now : Option (List ℕ)) → HasPrinted (lines_of tool items) rest before mid
    → HasPrinted (rest ++ line_of tool x) left mid now
    → HasPrinted (lines_of tool (items ++ x ∷ [])) left before now
items-more tool items x rest left before mid now p q =
    subst (λ (w : List ℕ). HasPrinted w left before now) (sym (lines-more tool items x))
    (printed-more (lines_of tool items) rest (line_of tool x) left before mid now p q)

-- ---- the items so far

-- one item more
pub found-more : (tool : LogTool) (bytes : List ℕ) (old new : Reading) (x : ItemAt) (count : ℕ) (rest left : List ℕ)
    (before mid now : Option (List ℕ)) (f : HasFound tool bytes old count rest before mid)
    → Stands bytes (f.items ++ x ∷ []) new → HasPrinted (rest ++ line_of tool x) left mid now
    → HasFound tool bytes new (count + 1) left before now
found-more tool bytes old new x count rest left before mid now f stands p = record {
  items = f.items ++ x ∷ [];
  stands = stands;
  count_is = length-append f.items (x ∷ []) ∙ ap (λ (n : ℕ). n + 1) f.count_is;
  printed = items-more tool f.items x rest left before mid now f.printed p;
}

-- and where printing it stopped
pub found-stopped : (tool : LogTool) (bytes : List ℕ) (old new : Reading) (x : ItemAt) (count : ℕ) (rest : List ℕ)
    (e : ToolFault) (before mid now : Option (List ℕ)) (f : HasFound tool bytes old count rest before mid)
    → Stands bytes (f.items ++ x ∷ []) new → HasStopped (rest ++ line_of tool x) e mid now
    → StopsAt tool bytes e before now
found-stopped tool bytes old new x count rest e before mid now f stands s = record {
  items = f.items ++ x ∷ [];
  reader = new;
  stands = stands;
  stopped = record {
    rest = s.rest;
    left = s.left;
    printed = items-more tool f.items x rest s.rest before mid now f.printed s.printed;
  };
}

-- where it stopped between items
pub found-other : (tool : LogTool) (bytes : List ℕ) (reader : Reading) (count : ℕ) (rest : List ℕ) (e : ToolFault)
    (before now : Option (List ℕ)) → (e ≡ Write → ⊥) → HasFound tool bytes reader count rest before now
    → StopsAt tool bytes e before now
found-other tool bytes reader count rest e before now other f = record {
  items = f.items;
  reader = reader;
  stands = f.stands;
  stopped = stopped-other (lines_of tool f.items) rest e before now other f.printed;
}

-- the same items where more bytes came
pub found-fed : (tool : LogTool) (bytes fed : List ℕ) (old new : Reading) (count : ℕ) (rest : List ℕ)
    (before now : Option (List ℕ))
    → ((all : List ℕ) (items : List ItemAt) → Stands all items old → Stands (all ++ fed) items new)
    → HasFound tool bytes old count rest before now → HasFound tool (bytes ++ fed) new count rest before now
found-fed tool bytes fed old new count rest before now feeds f = record {
  items = f.items;
  stands = feeds bytes f.items f.stands;
  count_is = f.count_is;
  printed = f.printed;
}

-- the same items where nothing follows
pub found-none : (tool : LogTool) (bytes : List ℕ) (old new : Reading) (count : ℕ) (rest : List ℕ)
    (before now : Option (List ℕ)) (f : HasFound tool bytes old count rest before now)
    → Stands bytes (f.items ++ []) new → HasFound tool bytes new count rest before now
found-none tool bytes old new count rest before now f stands = record {
  items = f.items;
  stands = subst (λ (w : List ItemAt). Stands bytes w new) (append-nil f.items) stands;
  count_is = f.count_is;
  printed = f.printed;
}
