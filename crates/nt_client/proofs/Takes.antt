-- Messages that are taken one by one.
use Rattle.std.proofs.Common.{◌≡◌, ◌<◌, ◌+◌, ◌-◌, ◌^◌, ℕ, Bool, true, false, cond, min, List, [], ◌∷◌, ◌++◌, filter, append_assoc, refl, sym, ◌∙◌, ap, subst, arith}
use Rattle.nt_frames.specs.declared.message.ValueMsg.{ValueMsg}
use Rattle.nt_rules.specs.declared.topic.Change.{Change}
use Rattle.nt_rules.specs.declared.held.Held.{Held}
use Rattle.nt_rules.specs.telling.Told.{Message, after_message, told_from}
use Rattle.nt_client.specs.declared.topics.Topics.{Topics}
use Rattle.nt_client.specs.declared.undo.Undo.{Undo}
use Rattle.nt_client.specs.Sorted.{Rise}
use Rattle.nt_client.specs.Kept.{GoesOn, IsKept, before, id_of}
use Rattle.nt_client.specs.Taking.{changes_by, changes_from, ignored_from, is_clock, is_known, unknown_from}
use Rattle.nt_client.proofs.Back.{leads-twice}

-- nothing was done yet
pub goes-first : (t : Topics) (log : List Undo) → IsKept t.names t.held.items → GoesOn t log t log
goes-first t log kept =
    record { kept = kept; leads = record { back = refl; way = λ can. can } }

pub goes-twice : (t t-2 t-3 : Topics) (log log-2 log-3 : List Undo) → GoesOn t log t-2 log-2
    → GoesOn t-2 log-2 t-3 log-3
    → GoesOn t log t-3 log-3
goes-twice t t-2 t-3 log log-2 log-3 one two = record {
  kept = two.kept;
  leads = leads-twice t.held t-2.held t-3.held log log-2 log-3 one.leads two.leads;
}

-- what was taken so far, and what is left of the messages
pub record TakesOn (t-0 : Topics) (log-0 : List Undo) (changes-0 : List Change) (count-0 : ℕ) (all : List Message)
    (t : Topics) (log : List Undo) (changes : List Change) (count : ℕ) (rest : List Message) : Type 0 where
  pub goes_on : GoesOn t-0 log-0 t log
  pub held : told_from t.held.items rest ≡ told_from t-0.held.items all
  pub told : changes ++ changes_from t.held.items rest ≡ changes-0 ++ changes_from t-0.held.items all
  pub small : count < 2 ^ 32
  pub ignored : ignored_from t.held.items rest count ≡ ignored_from t-0.held.items all count-0

pub takes-first : (t : Topics) (log : List Undo) (changes : List Change) (count : ℕ) (all : List Message)
    → IsKept t.names t.held.items → count < 2 ^ 32 → TakesOn t log changes count all t log changes count all
takes-first t log changes count all kept small =
    record { goes_on = goes-first t log kept; held = refl; told = refl; small = small; ignored = refl }

-- how many are ignored after one more
one-more : (known : Bool) (count count-2 n : ℕ) → count < 2 ^ 32
    → count-2 ≡ cond known count (min (count + 1) (2 ^ 32 - 1))
    → min (count-2 + n) (2 ^ 32 - 1) ≡ min (count + (cond known 0 1 + n)) (2 ^ 32 - 1)
one-more true count count-2 n small e = omega arith
one-more false count count-2 n small e = omega arith

pub takes-step : (t-0 : Topics) (log-0 : List Undo) (changes-0 : List Change) (count-0 : ℕ) (all : List Message)
    (t : Topics) (log : List Undo) (changes : List Change) (count : ℕ) (m : Message) (rest : List Message)
    (t-2 : Topics) (log-2 : List Undo) (changes-2 : List Change) (count-2 : ℕ) (known : Bool)
    → TakesOn t-0 log-0 changes-0 count-0 all t log changes count (m ∷ rest)
    → GoesOn t log t-2 log-2
    → t-2.held.items ≡ after_message m t.held.items
    → changes-2 ≡ changes ++ changes_by m t.held.items
    → known ≡ is_known m t.held.items
    → count-2 ≡ cond known count (min (count + 1) (2 ^ 32 - 1))
    → TakesOn t-0 log-0 changes-0 count-0 all t-2 log-2 changes-2 count-2 rest
takes-step t-0 log-0 changes-0 count-0 all t log changes count m rest t-2 log-2 changes-2 count-2 known h on held told
    is counted =
    let now : List Held = t.held.items in
    let after : List Held = after_message m now in
    record {
      goes_on = goes-twice t-0 t t-2 log-0 log log-2 h.goes_on on;
      held = ap (λ hs. told_from hs rest) held ∙ h.held;
      told = ap (λ hs. changes-2 ++ changes_from hs rest) held
          ∙ ap (λ cs. cs ++ changes_from after rest) told
          ∙ append_assoc changes (changes_by m now) (changes_from after rest)
          ∙ h.told;
      small = small known counted;
      ignored = ap (λ hs. min (count-2 + unknown_from hs rest) (2 ^ 32 - 1)) held
          ∙ one-more known count count-2 (unknown_from after rest) h.small counted
          ∙ ap (λ b. min (count + (cond b 0 1 + unknown_from after rest)) (2 ^ 32 - 1)) is
          ∙ h.ignored;
    }
  where
    small : (b : Bool) → count-2 ≡ cond b count (min (count + 1) (2 ^ 32 - 1)) → count-2 < 2 ^ 32
    small true e = let lt = h.small in omega arith
    small false e = omega arith

-- nothing is left
pub takes-held : (t-0 : Topics) (log-0 : List Undo) (changes-0 : List Change) (count-0 : ℕ) (all : List Message)
    (t : Topics) (log : List Undo) (changes : List Change) (count : ℕ)
    → TakesOn t-0 log-0 changes-0 count-0 all t log changes count [] → t.held.items ≡ told_from t-0.held.items all
takes-held t-0 log-0 changes-0 count-0 all t log changes count h = h.held

append-none : (xs : List Change) → xs ++ [] ≡ xs
append-none [] = refl
append-none (x ∷ xs) = ap (λ ys. x ∷ ys) (append-none xs)

pub takes-told : (t-0 : Topics) (log-0 : List Undo) (changes-0 : List Change) (count-0 : ℕ) (all : List Message)
    (t : Topics) (log : List Undo) (changes : List Change) (count : ℕ)
    → TakesOn t-0 log-0 changes-0 count-0 all t log changes count []
    → changes ≡ changes-0 ++ changes_from t-0.held.items all
takes-told t-0 log-0 changes-0 count-0 all t log changes count h = sym (append-none changes) ∙ h.told

pub takes-ignored : (t-0 : Topics) (log-0 : List Undo) (changes-0 : List Change) (count-0 : ℕ) (all : List Message)
    (t : Topics) (log : List Undo) (changes : List Change) (count : ℕ)
    → TakesOn t-0 log-0 changes-0 count-0 all t log changes count []
    → count ≡ ignored_from t-0.held.items all count-0
takes-ignored t-0 log-0 changes-0 count-0 all t log changes count h =
    whole ∙ h.ignored
  where
    whole : count ≡ min (count + 0) (2 ^ 32 - 1)
    whole = let lt = h.small in omega arith

-- what the clock answered, after one more value
pub clock-step : (v : ValueMsg) (rest clock clock-2 : List ValueMsg) (b : Bool) → is_clock v ≡ b
    → clock-2 ≡ cond b (clock ++ v ∷ []) clock → clock-2 ++ filter is_clock rest ≡ clock ++ filter is_clock (v ∷ rest)
clock-step v rest clock clock-2 true is e =
    ap (λ l. l ++ filter is_clock rest) e
    ∙ append_assoc clock (v ∷ []) (filter is_clock rest)
    ∙ ap (λ b. clock ++ cond b (v ∷ filter is_clock rest) (filter is_clock rest)) (sym is)
clock-step v rest clock clock-2 false is e =
    ap (λ l. l ++ filter is_clock rest) e
    ∙ ap (λ b. clock ++ cond b (v ∷ filter is_clock rest) (filter is_clock rest)) (sym is)

-- ---- a frame is refused: the topics are as they were

pub held-back : (t t-2 : Topics) (log : List Undo) → GoesOn t [] t-2 log → before log t-2.held.items ≡ t.held.items
held-back t t-2 log on = on.leads.back

pub rising-back : (t t-2 : Topics) (log : List Undo) → IsKept t.names t.held.items → GoesOn t [] t-2 log
    → Rise id_of (before log t-2.held.items)
rising-back t t-2 log kept on = subst (λ (hs : List Held). Rise id_of hs) (sym on.leads.back) kept.rising
