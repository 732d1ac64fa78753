-- Topics as they are stored between frames, with their names or without.
use Rattle.std.proofs.Common.{◌≡◌, ◌<◌, ◌+◌, ℕ, suc, ℤ, true, false, List, [], ◌∷◌, add-one, drop, drop-cons, length, get_or, sym, ◌∙◌, ap, subst}
use Rattle.nt_rules.specs.declared.held.Held.{Held}
use Rattle.nt_client.specs.declared.names.Names.{Names}
use Rattle.nt_client.specs.declared.topics.Topics.{Topics}
use Rattle.nt_client.specs.Sorted.{Rise}
use Rattle.nt_client.specs.Names.{AreInOrder, IsNoted, ids_at, itself}
use Rattle.nt_client.specs.Kept.{AreNoted, IsKept, IsStored, id_of}

pub none-in-order : (names : Names) → ((name : List ℕ) → ids_at names name ≡ []) → AreInOrder names
none-in-order names none name = subst (λ (ids : List ℤ). Rise itself ids) (sym (none name)) tt

-- none is held
pub stored-none : (t : Topics) → t.held.items ≡ [] → ((name : List ℕ) → ids_at t.names name ≡ []) → IsStored t
stored-none t empty none = record {
  rising = subst (λ (hs : List Held). Rise id_of hs) (sym empty) tt;
  noted = λ is. subst (λ (hs : List Held). AreNoted t.names hs) (sym empty) tt;
  in_order = none-in-order t.names none;
}

-- each is noted
pub stored-kept : (t : Topics) → IsKept t.names t.held.items → IsStored t
stored-kept t k = record { rising = k.rising; noted = λ is. k.noted; in_order = k.in_order }

pub kept-stored : (t : Topics) → t.is_noted ≡ true → IsStored t → IsKept t.names t.held.items
kept-stored t all s = record { rising = s.rising; noted = s.noted all; in_order = s.in_order }

-- it isn't said that each is noted
pub stored-unsaid : (t : Topics) → t.is_noted ≡ false → Rise id_of t.held.items → AreInOrder t.names → IsStored t
stored-unsaid t unsaid rising order = record { rising = rising; noted = λ is. absurd (cc); in_order = order }

-- one at an index is noted, and those behind it
pub noted-next : (names : Names) (held : List Held) (i : ℕ) (h : Held) → i < length held → h ≡ get_or held i h
    → IsNoted names h.name h.id → AreNoted names (drop (i + 1) held) → AreNoted names (drop i held)
noted-next names held i h lt e here rest =
    subst (λ (hs : List Held). AreNoted names hs) (sym first) (here, rest)
  where
    first : drop i held ≡ h ∷ drop (i + 1) held
    first = rw (add-one) (drop-cons held i h lt ∙ ap (λ z. z ∷ drop (suc i) held) (sym e))
