-- What is queued, and an item more.
use Rattle.std.proofs.Common.{◌≡◌, ◌==◌, ◌+◌, ◌∙◌, ℕ, true, false, cond, List, [], ◌∷◌, ◌++◌, length, Result, Ok, Err, IfOk, OnOk, ap, sym}
use Rattle.serde_json.specs.Written.{compact_text}
use Rattle.nt_values.specs.Types.{size_of}
use Rattle.nt_rules.specs.declared.waiting.Placed.{Placed}
use Rattle.nt_rules.specs.declared.waiting.Setting.{Setting}
use Rattle.nt_rules.specs.outbox.Marks.{queued, settings_weight, values_weight}
use Rattle.nt_outbox.proofs.Weights.{settings_weight_push, values_weight_push}

-- a fact that always holds does so on an Ok
pub ok-always : {A E P : Type 0} (r : Result A E) → P → OnOk r P
ok-always (Ok x) p = p
ok-always (Err e) p = tt

-- a fact of what is answered leads to another
pub if-ok : {A E : Type 0} (P Q : A → Type 0) (r : Result A E) → ((x : A) → P x → Q x) → IfOk r P → IfOk r Q
if-ok P Q (Ok x) f h = f x h
if-ok P Q (Err e) f h = h

-- one at the place of the last one stands for it
pub queued-same : {X : Type 0} (place : X → ℕ) (x y : X) (ys : List X) → (place y == place x) ≡ true
    → queued place x (ys ++ y ∷ []) ≡ ys ++ x ∷ []
queued-same place x y [] e = ap (λ b. cond b (x ∷ []) (y ∷ x ∷ [])) e
queued-same place x y (z ∷ []) e = ap (λ xs. z ∷ xs) (queued-same place x y [] e)
queued-same place x y (z ∷ w ∷ ys) e = ap (λ xs. z ∷ xs) (queued-same place x y (w ∷ ys) e)

-- one at another place stands after it
pub queued-other : {X : Type 0} (place : X → ℕ) (x y : X) (ys : List X) → (place y == place x) ≡ false
    → queued place x (ys ++ y ∷ []) ≡ (ys ++ y ∷ []) ++ x ∷ []
queued-other place x y [] e = ap (λ b. cond b (x ∷ []) (y ∷ x ∷ [])) e
queued-other place x y (z ∷ []) e = ap (λ xs. z ∷ xs) (queued-other place x y [] e)
queued-other place x y (z ∷ w ∷ ys) e = ap (λ xs. z ∷ xs) (queued-other place x y (w ∷ ys) e)

-- the same, where the last item was taken out, and an item was put in
pub put-same : {X : Type 0} (place : X → ℕ) (x y : X) (old rest now : List X) → old ≡ rest ++ y ∷ []
    → (place y == place x) ≡ true → now ≡ rest ++ x ∷ [] → now ≡ queued place x old
put-same place x y old rest now e t n =
    n ∙ sym (queued-same place x y rest t) ∙ sym (ap (λ xs. queued place x xs) e)

pub put-other : {X : Type 0} (place : X → ℕ) (x y : X) (old rest now : List X) → old ≡ rest ++ y ∷ []
    → (place y == place x) ≡ false → now ≡ (rest ++ y ∷ []) ++ x ∷ [] → now ≡ queued place x old
put-other place x y old rest now e t n =
    n ∙ sym (queued-other place x y rest t) ∙ sym (ap (λ xs. queued place x xs) e)

pub put-first : {X : Type 0} (place : X → ℕ) (x : X) (old now : List X) → old ≡ [] → now ≡ x ∷ []
    → now ≡ queued place x old
put-first place x old now e n = n ∙ sym (ap (λ xs. queued place x xs) e)

-- ---- what they weigh then

pub last-value : (old rest : List Placed) (y : Placed) → old ≡ rest ++ y ∷ []
    → values_weight old ≡ values_weight rest + (64 + size_of y.value)
last-value old rest y e = ap values_weight e ∙ values_weight_push rest y

pub last-setting : (old rest : List Setting) (y : Setting) → old ≡ rest ++ y ∷ []
    → settings_weight old ≡ settings_weight rest + (64 + length (compact_text y.update))
last-setting old rest y e = ap settings_weight e ∙ settings_weight_push rest y
