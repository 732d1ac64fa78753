-- Messages that are said one after another.
use Rattle.std.proofs.Common.{◌≡◌, Result, Ok, Err, List, [], ◌∷◌, ◌++◌, map, append_assoc, sym, ◌∙◌, ap}
use Rattle.std.specs.Prelude.{OnErr}
use Rattle.std.specs.List.{flat_map}
use Rattle.nt_subs.specs.Subscriptions.{Subs}
use Rattle.nt_rules.specs.declared.act.Msg.{Msg}
use Rattle.nt_rules.specs.declared.held.Held.{Held}
use Rattle.nt_client.specs.Calls.{Publishers, State}
use Rattle.nt_client.proofs.Runs.{append-none}

-- one of those that are left
pub said-one : {X : Type 0} (f : X → Msg) (queue queue-2 all : List Msg) (x : X) (rest left : List X)
    → rest ≡ x ∷ left → queue-2 ≡ queue ++ f x ∷ [] → queue ++ map f rest ≡ all → queue-2 ++ map f left ≡ all
said-one f queue queue-2 all x rest left steps said is =
    ap (λ q. q ++ map f left) said
    ∙ append_assoc queue (f x ∷ []) (map f left)
    ∙ ap (λ xs. queue ++ map f xs) (sym steps)
    ∙ is

-- nothing is left
pub said-all : {X : Type 0} (f : X → Msg) (queue all : List Msg) (rest : List X) → rest ≡ []
    → queue ++ map f rest ≡ all → queue ≡ all
said-all f queue all rest none is = sym (append-none queue) ∙ ap (λ xs. queue ++ map f xs) (sym none) ∙ is

-- the same where each may say some
pub said-some : {X : Type 0} (f : X → List Msg) (queue queue-2 all : List Msg) (x : X) (rest left : List X)
    → rest ≡ x ∷ left → queue-2 ≡ queue ++ f x → queue ++ flat_map f rest ≡ all → queue-2 ++ flat_map f left ≡ all
said-some f queue queue-2 all x rest left steps said is =
    ap (λ q. q ++ flat_map f left) said
    ∙ append_assoc queue (f x) (flat_map f left)
    ∙ ap (λ xs. queue ++ flat_map f xs) (sym steps)
    ∙ is

pub said-none : {X : Type 0} (f : X → List Msg) (queue all : List Msg) (x : X) (rest left : List X)
    → rest ≡ x ∷ left → f x ≡ [] → queue ++ flat_map f rest ≡ all → queue ++ flat_map f left ≡ all
said-none f queue all x rest left steps none is =
    said-some f queue queue all x rest left steps (sym (ap (λ ms. queue ++ ms) none ∙ append-none queue)) is

pub said-each : {X : Type 0} (f : X → List Msg) (queue all : List Msg) (rest : List X) → rest ≡ []
    → queue ++ flat_map f rest ≡ all → queue ≡ all
said-each f queue all rest none is = sym (append-none queue) ∙ ap (λ xs. queue ++ flat_map f xs) (sym none) ∙ is

-- three in turn
pub said-thrice : (q q-2 q-3 q-4 a b c : List Msg) → q-2 ≡ q ++ a → q-3 ≡ q-2 ++ b → q-4 ≡ q-3 ++ c
    → q-4 ≡ q ++ (a ++ (b ++ c))
said-thrice q q-2 q-3 q-4 a b c one two three =
    three ∙ ap (λ ms. ms ++ c) (two ∙ ap (λ ms. ms ++ b) one ∙ append_assoc q a b)
    ∙ append_assoc q (a ++ b) c
    ∙ ap (λ ms. q ++ ms) (append_assoc a b c)

-- ---- a client by its parts

abbrev pub state-of : List Held → Publishers → Subs → List Msg → State
state-of held ps subs queue =
    record { held = held; publishers = ps; subscriptions = subs; queue = queue }

pub state-is : (held held-2 : List Held) (ps ps-2 : Publishers) (subs subs-2 : Subs) (queue queue-2 : List Msg)
    → held ≡ held-2 → ps ≡ ps-2 → subs ≡ subs-2 → queue ≡ queue-2
    → state-of held ps subs queue ≡ state-of held-2 ps-2 subs-2 queue-2
state-is held held-2 ps ps-2 subs subs-2 queue queue-2 a b c d =
    ap (λ (x : List Held). state-of x ps subs queue) a
    ∙ ap (λ (x : Publishers). state-of held-2 x subs queue) b
    ∙ ap (λ (x : Subs). state-of held-2 ps-2 x queue) c
    ∙ ap (λ (x : List Msg). state-of held-2 ps-2 subs-2 x) d

-- what holds at an error
pub at-err : {X E Q : Type 0} (done : Result X E) → Q → OnErr done Q
at-err (Ok x) q = tt
at-err (Err e) q = q
