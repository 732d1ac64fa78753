-- Topics after a message: kept, and leading back.
use Rattle.std.proofs.Common.{◌≡◌, ℕ, ℤ, List, map, sym, subst}
use Rattle.std.specs.Prelude.{insert, remove}
use Rattle.nt_rules.specs.declared.held.Held.{Held}
use Rattle.nt_client.specs.declared.topics.Topics.{Topics}
use Rattle.nt_client.specs.declared.undo.Undo.{Undo}
use Rattle.nt_client.specs.Sorted.{IsFoundAt, IsMissedAt}
use Rattle.nt_client.specs.Names.{AreInOrder, IsNoted, OthersStayNoted, StaysNoted}
use Rattle.nt_client.specs.Kept.{GoesOn, IsKept, LeadsBack, id_of, outline}
use Rattle.nt_client.proofs.Keeping.{kept-insert, kept-more, kept-outline, kept-remove}
use Rattle.nt_client.proofs.Calling.{kept-but, nowhere-removed}

-- ids and names are those that were
pub goes-outline : (t t-2 : Topics) (log log-2 : List Undo) → IsKept t.names t.held.items
    → StaysNoted t.names t-2.names → AreInOrder t-2.names → map outline t-2.held.items ≡ map outline t.held.items
    → LeadsBack t.held log t-2.held log-2 → GoesOn t log t-2 log-2
goes-outline t t-2 log log-2 kept stays order same leads = record {
  kept = kept-outline t-2.names t.held.items t-2.held.items same
      (kept-more t.names t-2.names t.held.items stays order kept);
  leads = leads;
}

-- a topic was added
pub goes-insert : (t t-2 : Topics) (log log-2 : List Undo) (i : ℕ) (h : Held) → IsKept t.names t.held.items
    → StaysNoted t.names t-2.names → AreInOrder t-2.names → IsNoted t-2.names h.name h.id
    → IsMissedAt id_of h.id t.held.items i → t-2.held.items ≡ insert t.held.items i h
    → LeadsBack t.held log t-2.held log-2 → GoesOn t log t-2 log-2
goes-insert t t-2 log log-2 i h kept stays order here missed items leads = record {
  kept = subst (λ (hs : List Held). IsKept t-2.names hs) (sym items)
      (kept-insert t-2.names t.held.items i h here missed
      (kept-more t.names t-2.names t.held.items stays order kept));
  leads = leads;
}

-- a topic was taken out, and its name forgotten
pub goes-remove : (t t-2 : Topics) (log log-2 : List Undo) (i : ℕ) (id : ℤ) (name : List ℕ)
    → IsKept t.names t.held.items → IsFoundAt id_of id t.held.items i → OthersStayNoted name id t.names t-2.names
    → AreInOrder t-2.names → t-2.held.items ≡ remove t.held.items i → LeadsBack t.held log t-2.held log-2
    → GoesOn t log t-2 log-2
goes-remove t t-2 log log-2 i id name kept found others order items leads = record {
  kept = subst (λ (hs : List Held). IsKept t-2.names hs) (sym items)
      (kept-but id name t.names t-2.names (remove t.held.items i) (nowhere-removed id name t.held.items i found) others
      order (kept-remove t.names t.held.items i kept));
  leads = leads;
}
