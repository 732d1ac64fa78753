-- The way back from changes of topics.
use Rattle.std.proofs.Common.{◌≡◌, ◌≤◌, ◌<◌, ◌+◌, ◌-◌, ℕ, zero, suc, List, [], ◌∷◌, ◌++◌, Option, Some, length, get_or, slice_get, refl, sym, ◌∙◌, ap, subst, arith}
use Rattle.std.specs.Prelude.{insert, remove, reverse, vec_len, vec_capacity}
use Rattle.std.specs.Prelude.{Vec}
use Rattle.std.proofs.lemmas.List.{reverse-append}
use Rattle.serde_json.specs.Data.{Data}
use Rattle.nt_rules.specs.declared.held.Held.{Held}
use Rattle.nt_rules.specs.declared.topic.Timed.{Timed}
use Rattle.nt_client.specs.declared.undo.Undo.{Undo}
use Rattle.nt_client.specs.declared.undo.Undo.TheVariants.{Added, Removed, Props, Value}
use Rattle.nt_client.specs.Kept.{CanUndo, LeadsBack, at_index, before, undo, undone}
use Rattle.nt_client.proofs.Keeping.{at-back, at-twice}

-- the newest change is undone first
pub newest-first : (log : List Undo) (u : Undo) → reverse (log ++ u ∷ []) ≡ u ∷ reverse log
newest-first log u = reverse-append log (u ∷ [])

pub before-more : (log : List Undo) (u : Undo) (held : List Held) → before (log ++ u ∷ []) held
    ≡ before log (undo u held)
before-more log u held = ap (λ l. undone l held) (newest-first log u)

-- with more room all can still be undone
can-more : (room more n : ℕ) (changes : List Undo) → room ≤ more → CanUndo room n changes → CanUndo more n changes
can-more room more n [] le can = tt
can-more room more n (Added i ∷ changes) le can = (can.0, can-more room more (n - 1) changes le can.1)
can-more room more n (Removed i h ∷ changes) le can =
    (can.0, (let lt = can.1 in omega arith), can-more room more (n + 1) changes le can.2)
can-more room more n (Props i props ∷ changes) le can = (can.0, can-more room more n changes le can.1)
can-more room more n (Value i value ∷ changes) le can = (can.0, can-more room more n changes le can.1)

-- nothing changed
pub leads-same : {Z : Type 0} (held held-2 : Vec Held Z) (log log-2 : List Undo) → log-2 ≡ log
    → held-2.items ≡ held.items → vec_len held-2 ≡ vec_len held → vec_capacity held ≤ vec_capacity held-2
    → LeadsBack held log held-2 log-2
leads-same held held-2 log log-2 same items len room = record {
  back = ap (λ l. before l held-2.items) same ∙ ap (before log) items;
  way = λ can. subst (λ (l : List Undo). CanUndo (vec_capacity held-2) (vec_len held-2) (reverse l)) (sym same)
      (subst (λ (n : ℕ). CanUndo (vec_capacity held-2) n (reverse log)) (sym len)
      (can-more (vec_capacity held) (vec_capacity held-2) (vec_len held) (reverse log) room can));
}

-- one change was made, and noted
leads-more : {Z : Type 0} (held held-2 : Vec Held Z) (log log-2 : List Undo) (u : Undo) → log-2 ≡ log ++ u ∷ []
    → undo u held-2.items ≡ held.items
    → (CanUndo (vec_capacity held) (vec_len held) (reverse log)
    → CanUndo (vec_capacity held-2) (vec_len held-2) (u ∷ reverse log))
    → LeadsBack held log held-2 log-2
leads-more held held-2 log log-2 u noted undoes way = record {
  back = ap (λ l. before l held-2.items) noted ∙ before-more log u held-2.items ∙ ap (before log) undoes;
  way = λ can. subst (λ (l : List Undo). CanUndo (vec_capacity held-2) (vec_len held-2) l)
      (sym (ap reverse noted ∙ newest-first log u)) (way can);
}

pub leads-twice : {Z : Type 0} (held held-2 held-3 : Vec Held Z) (log log-2 log-3 : List Undo)
    → LeadsBack held log held-2 log-2 → LeadsBack held-2 log-2 held-3 log-3 → LeadsBack held log held-3 log-3
leads-twice held held-2 held-3 log log-2 log-3 one two =
    record { back = two.back ∙ one.back; way = λ can. two.way (one.way can) }

-- ---- each kind of change

remove-insert : (xs : List Held) (i : ℕ) (y : Held) → i ≤ length xs → remove (insert xs i y) i ≡ xs
remove-insert [] zero y le = refl
remove-insert [] (suc i) y le = absurd (omega arith)
remove-insert (x ∷ xs) zero y le = refl
remove-insert (x ∷ xs) (suc i) y le = ap (λ ys. x ∷ ys) (remove-insert xs i y (omega arith))

insert-remove : (xs : List Held) (i : ℕ) (y : Held) → i < length xs → y ≡ get_or xs i y → insert (remove xs i) i y ≡ xs
insert-remove [] i y lt e = absurd (omega arith)
insert-remove (x ∷ xs) zero y lt e = ap (λ z. z ∷ xs) e
insert-remove (x ∷ xs) (suc i) y lt e = ap (λ ys. x ∷ ys) (insert-remove xs i y (omega arith) e)

pub leads-added : {Z : Type 0} (held held-2 : Vec Held Z) (log log-2 : List Undo) (i : ℕ) (h : Held)
    → log-2 ≡ log ++ Added i ∷ [] → held-2.items ≡ insert held.items i h → i ≤ vec_len held
    → vec_len held-2 ≡ vec_len held + 1 → vec_capacity held ≤ vec_capacity held-2 → LeadsBack held log held-2 log-2
leads-added held held-2 log log-2 i h noted items le len room =
    let within : i ≤ length held.items = subst (λ (n : ℕ). i ≤ n) held.ok.0 le in
    leads-more held held-2 log log-2 (Added i) noted
    (ap (λ xs. remove xs i) items ∙ remove-insert held.items i h within)
    (λ can. (
      (omega arith),
      subst (λ (n : ℕ). CanUndo (vec_capacity held-2) n (reverse log)) (let e = len in omega arith)
          (can-more (vec_capacity held) (vec_capacity held-2) (vec_len held) (reverse log) room can),
    ))

pub leads-removed : {Z : Type 0} (held held-2 : Vec Held Z) (log log-2 : List Undo) (i : ℕ) (h : Held)
    → log-2 ≡ log ++ Removed i h ∷ [] → held-2.items ≡ remove held.items i → i < vec_len held
    → h ≡ get_or held.items i h → vec_len held-2 + 1 ≡ vec_len held → vec_capacity held-2 ≡ vec_capacity held
    → LeadsBack held log held-2 log-2
leads-removed held held-2 log log-2 i h noted items lt here len room =
    let within : i < length held.items = subst (λ (n : ℕ). i < n) held.ok.0 lt in
    let fits : vec_len held ≤ vec_capacity held = held.ok.1 in
    leads-more held held-2 log log-2 (Removed i h) noted
    (ap (λ xs. insert xs i h) items ∙ insert-remove held.items i h within here)
    (λ can. (
      (omega arith),
      (omega arith),
      subst (λ (n : ℕ). CanUndo (vec_capacity held-2) n (reverse log)) (sym len)
          (can-more (vec_capacity held) (vec_capacity held-2) (vec_len held) (reverse log) (omega arith) can),
    ))

pub leads-props : {Z : Type 0} (held held-2 : Vec Held Z) (log log-2 : List Undo) (i : ℕ) (h : Held) (props : Data)
    → log-2 ≡ log ++ Props i h.props ∷ [] → held-2.items ≡ at_index (λ x. record x { props = props }) i held.items
    → i < vec_len held → h ≡ get_or held.items i h → vec_len held-2 ≡ vec_len held
    → vec_capacity held-2 ≡ vec_capacity held → LeadsBack held log held-2 log-2
leads-props held held-2 log log-2 i h props noted items lt here len room =
    leads-more held held-2 log log-2 (Props i h.props) noted
    (ap (λ xs. at_index (λ x. record x { props = h.props }) i xs) items
    ∙ at-back (λ x. record x { props = props }) (λ x. record x { props = h.props }) i held.items h here refl)
    (λ can. (
      (omega arith),
      subst (λ (n : ℕ). CanUndo (vec_capacity held-2) n (reverse log)) (sym len)
          (can-more (vec_capacity held) (vec_capacity held-2) (vec_len held) (reverse log) (omega arith) can),
    ))

pub leads-value : {Z : Type 0} (held held-2 : Vec Held Z) (log log-2 : List Undo) (i : ℕ) (h : Held)
    (value : Option Timed) → log-2 ≡ log ++ Value i h.value ∷ []
    → held-2.items ≡ at_index (λ x. record x { value = value }) i held.items
    → i < vec_len held → h ≡ get_or held.items i h → vec_len held-2 ≡ vec_len held
    → vec_capacity held-2 ≡ vec_capacity held → LeadsBack held log held-2 log-2
leads-value held held-2 log log-2 i h value noted items lt here len room =
    leads-more held held-2 log log-2 (Value i h.value) noted
    (ap (λ xs. at_index (λ x. record x { value = h.value }) i xs) items
    ∙ at-back (λ x. record x { value = value }) (λ x. record x { value = h.value }) i held.items h here refl)
    (λ can. (
      (omega arith),
      subst (λ (n : ℕ). CanUndo (vec_capacity held-2) n (reverse log)) (sym len)
          (can-more (vec_capacity held) (vec_capacity held-2) (vec_len held) (reverse log) (omega arith) can),
    ))

-- the newest alone
pub can-one : (room n : ℕ) (u : Undo) (changes : List Undo) → CanUndo room n (u ∷ changes) → CanUndo room n (u ∷ [])
can-one room n (Added i) changes can = (can.0, tt)
can-one room n (Removed i h) changes can = (can.0, can.1, tt)
can-one room n (Props i props) changes can = (can.0, tt)
can-one room n (Value i value) changes can = (can.0, tt)

-- ---- properties that were noted already

ends-with : (log : List Undo) (u : Undo) → slice_get log (length log - 1) ≡ Some u
    → (front : List Undo) × (log ≡ front ++ u ∷ [])
ends-with [] u e = absurd (cc)
ends-with (x ∷ []) u e = ([], (let same : x ≡ u = cc in ap (λ y. y ∷ []) same))
ends-with (x ∷ y ∷ log) u e =
    let less : length (x ∷ y ∷ log) - 1 ≡ suc (length (y ∷ log) - 1) = omega arith in
    let rest = ends-with (y ∷ log) u (subst (λ (n : ℕ). slice_get (x ∷ y ∷ log) n ≡ Some u) less e) in
    (x ∷ rest.0, ap (λ l. x ∷ l) rest.1)

pub leads-again : {Z : Type 0} (held held-2 : Vec Held Z) (log : List Undo) (i : ℕ) (old props : Data)
    → slice_get log (length log - 1) ≡ Some (Props i old)
    → held-2.items ≡ at_index (λ x. record x { props = props }) i held.items
    → vec_len held-2 ≡ vec_len held → vec_capacity held-2 ≡ vec_capacity held → LeadsBack held log held-2 log
leads-again held held-2 log i old props last items len room =
    let ends = ends-with log (Props i old) last in
    let front : List Undo = ends.0 in
    record {
      back = ap (λ l. before l held-2.items) ends.1
          ∙ before-more front (Props i old) held-2.items
          ∙ ap (before front) (ap (λ xs. at_index (λ x. record x { props = old }) i xs) items
          ∙ at-twice (λ x. record x { props = props }) (λ x. record x { props = old }) i held.items)
          ∙ sym (before-more front (Props i old) held.items)
          ∙ ap (λ l. before l held.items) (sym ends.1);
      way = λ can. subst (λ (n : ℕ). CanUndo (vec_capacity held-2) n (reverse log)) (sym len)
          (can-more (vec_capacity held) (vec_capacity held-2) (vec_len held) (reverse log) (omega arith) can);
    }
