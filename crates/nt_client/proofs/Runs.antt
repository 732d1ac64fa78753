-- Longest runs of messages, and a message that is added behind them.
use Rattle.std.proofs.Common.{◌≡◌, ◌≤◌, ℕ, zero, suc, List, [], ◌∷◌, ◌++◌, Result, Ok, Err, length, get_or, set, map, append_assoc, refl, sym, ◌∙◌, ap, arith}
use Rattle.std.specs.Prelude.{OnOk, OnErr}
use Rattle.nt_rules.specs.declared.act.Msg.{Msg}
use Rattle.nt_rules.specs.declared.act.Msg.TheVariants.{Control, Put}
use Rattle.nt_client.specs.declared.queue.Run.{Run}
use Rattle.nt_client.specs.declared.queue.Run.TheVariants.{Controls, Values}
use Rattle.nt_client.specs.Outgoing.{with_first, runs_of, said_in, messages_in}

-- a message behind the last run: it joins it where that is of its kind
abbrev pub last-with : Run → Msg → List Run
last-with (Controls ms) (Control m) = Controls (ms ++ m ∷ []) ∷ []
last-with (Controls ms) (Put v) = Controls ms ∷ Values (v ∷ []) ∷ []
last-with (Values vs) (Control m) = Values vs ∷ Controls (m ∷ []) ∷ []
last-with (Values vs) (Put v) = Values (vs ++ v ∷ []) ∷ []

abbrev pub added : Msg → List Run → List Run
added m [] = with_first m []
added m (r ∷ []) = last-with r m
added m (r ∷ q ∷ runs) = r ∷ added m (q ∷ runs)

first-added : (x m : Msg) (runs : List Run) → with_first x (added m runs) ≡ added m (with_first x runs)
first-added (Control x) (Control m) [] = refl
first-added (Control x) (Put m) [] = refl
first-added (Put x) (Control m) [] = refl
first-added (Put x) (Put m) [] = refl
first-added (Control x) (Control m) (Controls ms ∷ []) = refl
first-added (Control x) (Put m) (Controls ms ∷ []) = refl
first-added (Put x) (Control m) (Controls ms ∷ []) = refl
first-added (Put x) (Put m) (Controls ms ∷ []) = refl
first-added (Control x) (Control m) (Values vs ∷ []) = refl
first-added (Control x) (Put m) (Values vs ∷ []) = refl
first-added (Put x) (Control m) (Values vs ∷ []) = refl
first-added (Put x) (Put m) (Values vs ∷ []) = refl
first-added (Control x) m (Controls ms ∷ q ∷ runs) = refl
first-added (Put x) m (Controls ms ∷ q ∷ runs) = refl
first-added (Control x) m (Values vs ∷ q ∷ runs) = refl
first-added (Put x) m (Values vs ∷ q ∷ runs) = refl

pub runs-added : (messages : List Msg) (m : Msg) → runs_of (messages ++ m ∷ []) ≡ added m (runs_of messages)
runs-added [] m = refl
runs-added (x ∷ messages) m = ap (with_first x) (runs-added messages m) ∙ first-added x m (runs_of messages)

map-more : {X Y : Type 0} (f : X → Y) (xs : List X) (x : X) → map f (xs ++ x ∷ []) ≡ map f xs ++ f x ∷ []
map-more f [] x = refl
map-more f (y ∷ xs) x = ap (λ ys. f y ∷ ys) (map-more f xs x)

pub append-none : {X : Type 0} (xs : List X) → xs ++ [] ≡ xs
append-none [] = refl
append-none (x ∷ xs) = ap (λ ys. x ∷ ys) (append-none xs)

said-last : (r : Run) (m : Msg) → messages_in (last-with r m) ≡ said_in r ++ m ∷ []
said-last (Controls ms) (Control m) = append-none (map Control (ms ++ m ∷ [])) ∙ map-more Control ms m
said-last (Controls ms) (Put v) = refl
said-last (Values vs) (Control m) = refl
said-last (Values vs) (Put v) = append-none (map Put (vs ++ v ∷ [])) ∙ map-more Put vs v

said-first : (m : Msg) → messages_in (with_first m []) ≡ m ∷ []
said-first (Control m) = refl
said-first (Put v) = refl

pub said-added : (runs : List Run) (m : Msg) → messages_in (added m runs) ≡ messages_in runs ++ m ∷ []
said-added [] m = said-first m
said-added (r ∷ []) m = said-last r m ∙ ap (λ xs. xs ++ m ∷ []) (sym (append-none (said_in r)))
said-added (r ∷ q ∷ runs) m =
    ap (λ xs. said_in r ++ xs) (said-added (q ∷ runs) m) ∙ sym (append_assoc (said_in r) (messages_in (q ∷ runs)) (m ∷ []))

-- the runs that are kept with a message more are those of the messages and it
pub kept-added : (runs runs-2 : List Run) (m : Msg) → runs ≡ runs_of (messages_in runs) → runs-2 ≡ added m runs
    → runs-2 ≡ runs_of (messages_in runs-2)
kept-added runs runs-2 m kept is =
    is ∙ ap (added m) kept ∙ sym (runs-added (messages_in runs) m)
    ∙ ap runs_of (sym (ap messages_in is ∙ said-added runs m))

-- ---- the last run

pub added-last : (runs : List Run) (n : ℕ) (m : Msg) (r y : Run) → length runs ≡ suc n → r ≡ get_or runs n r
    → last-with r m ≡ y ∷ [] → added m runs ≡ set runs n y
added-last [] n m r y len e joins = absurd (omega arith)
added-last (x ∷ []) zero m r y len e joins = sym (ap (λ z. last-with z m) e) ∙ joins
added-last (x ∷ []) (suc n) m r y len e joins = absurd (omega arith)
added-last (x ∷ q ∷ runs) zero m r y len e joins = absurd (omega arith)
added-last (x ∷ q ∷ runs) (suc n) m r y len e joins =
    ap (λ zs. x ∷ zs) (added-last (q ∷ runs) n m r y (omega arith) e joins)

pub added-behind : (runs : List Run) (n : ℕ) (m : Msg) (r z : Run) → length runs ≡ suc n → r ≡ get_or runs n r
    → last-with r m ≡ r ∷ z ∷ [] → added m runs ≡ runs ++ z ∷ []
added-behind [] n m r z len e joins = absurd (omega arith)
added-behind (x ∷ []) zero m r z len e joins = sym (ap (λ y. last-with y m) e) ∙ joins ∙ ap (λ y. y ∷ z ∷ []) e
added-behind (x ∷ []) (suc n) m r z len e joins = absurd (omega arith)
added-behind (x ∷ q ∷ runs) zero m r z len e joins = absurd (omega arith)
added-behind (x ∷ q ∷ runs) (suc n) m r z len e joins =
    ap (λ ys. x ∷ ys) (added-behind (q ∷ runs) n m r z (omega arith) e joins)

set-same : (runs : List Run) (n : ℕ) (r : Run) → r ≡ get_or runs n r → set runs n r ≡ runs
set-same [] n r e = refl
set-same (x ∷ runs) zero r e = ap (λ y. y ∷ runs) e
set-same (x ∷ runs) (suc n) r e = ap (λ ys. x ∷ ys) (set-same runs n r e)

-- a message that joins the last run, or for want of memory doesn't
pub kept-joined : {A E : Type 0} (runs : List Run) (n : ℕ) (m : Msg) (r y z : Run) (done : Result A E)
    → length runs ≡ suc n → r ≡ get_or runs n r → last-with r m ≡ y ∷ [] → runs ≡ runs_of (messages_in runs)
    → OnOk done (z ≡ y) → OnErr done (z ≡ r) → set runs n z ≡ runs_of (messages_in (set runs n z))
kept-joined runs n m r y z (Ok a) len e joins kept ok err =
    kept-added runs (set runs n z) m kept (ap (set runs n) ok ∙ sym (added-last runs n m r y len e joins))
kept-joined runs n m r y z (Err f) len e joins kept ok err =
    let same : set runs n z ≡ runs = ap (set runs n) err ∙ set-same runs n r e in
    same ∙ kept ∙ ap (λ rs. runs_of (messages_in rs)) (sym same)

pub said-joined : (runs : List Run) (n : ℕ) (m : Msg) (r y z : Run) → length runs ≡ suc n → r ≡ get_or runs n r
    → last-with r m ≡ y ∷ [] → z ≡ y → messages_in (set runs n z) ≡ messages_in runs ++ m ∷ []
said-joined runs n m r y z len e joins is =
    ap messages_in (ap (set runs n) is ∙ sym (added-last runs n m r y len e joins)) ∙ said-added runs m

-- a message behind the last run, and one alone
pub is-behind : (runs runs-2 runs-3 : List Run) (n : ℕ) (m : Msg) (r z : Run) → length runs ≡ suc n
    → r ≡ get_or runs n r → last-with r m ≡ r ∷ z ∷ [] → runs-2 ≡ set runs n r → runs-3 ≡ runs-2 ++ z ∷ []
    → runs-3 ≡ added m runs
is-behind runs runs-2 runs-3 n m r z len e joins back is =
    is ∙ ap (λ rs. rs ++ z ∷ []) (back ∙ set-same runs n r e) ∙ sym (added-behind runs n m r z len e joins)

pub is-alone : (runs runs-2 runs-3 : List Run) (m : Msg) (z : Run) → length runs ≤ 0 → with_first m [] ≡ z ∷ []
    → runs-2 ≡ runs → runs-3 ≡ runs-2 ++ z ∷ [] → runs-3 ≡ added m runs
is-alone [] runs-2 runs-3 m z len alone back is = is ∙ ap (λ rs. rs ++ z ∷ []) back ∙ sym alone
is-alone (r ∷ runs) runs-2 runs-3 m z len alone back is = absurd (omega arith)

pub said-of-added : (runs runs-2 : List Run) (m : Msg) → runs-2 ≡ added m runs
    → messages_in runs-2 ≡ messages_in runs ++ m ∷ []
said-of-added runs runs-2 m is = ap messages_in is ∙ said-added runs m
