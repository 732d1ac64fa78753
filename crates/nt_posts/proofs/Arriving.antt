-- The next of a list of things that are to come.
use Rattle.std.proofs.Common.{◌≡◌, ℕ, ◌+◌, List, [], ◌∷◌, ◌++◌, sym, ap, ◌∙◌, subst, take, drop}
use Rattle.std.proofs.lemmas.List.{drop-drop}
use Rattle.std.proofs.Math.Seq.{take-add}
use Rattle.nt_link.specs.Causes.{next_count}
use Rattle.nt_posts.specs.declared.acceptor.Caller.{Caller}
use Rattle.nt_posts.specs.Memory.{MemArrivals, Gives}

pub drop-next : {X : Type 0} (n : ℕ) (all rest : List X) (x : X) → drop n all ≡ x ∷ rest → drop (n + 1) all ≡ rest
drop-next n all rest x e = sym (drop-drop 1 n all) ∙ ap (drop 1) e

pub take-next : {X : Type 0} (n : ℕ) (all rest : List X) (x : X) → drop n all ≡ x ∷ rest
    → take (n + 1) all ≡ take n all ++ x ∷ []
take-next {X = X} n all rest x e = take-add n 1 all ∙ ap (λ (z : List X). take n all ++ take 1 z) e

gives-now : {L : Type 0} (v : MemArrivals L) (rest arrived : List (Caller L)) (came : ℕ) (caller : Caller L)
    → v.coming ≡ caller ∷ rest → arrived ≡ v.arrived ++ caller ∷ [] → came ≡ next_count v.came
    → Gives v (record v { coming = rest; arrived = arrived; came = came }) caller
gives-now {L = L} v rest arrived came caller coming more count =
    record {
      coming_is = coming;
      now_is = ap (λ (l : List (Caller L)). record v { coming = rest; arrived = l; came = came }) more
          ∙ ap (λ (n : ℕ). record v { coming = rest; arrived = v.arrived ++ caller ∷ []; came = n }) count;
    }

-- the next connection, of an acceptor that is seen so
pub gives-from : {L : Type 0} (a v : MemArrivals L) (rest arrived : List (Caller L)) (came : ℕ) (caller : Caller L)
    → v ≡ a → v.coming ≡ caller ∷ rest → arrived ≡ v.arrived ++ caller ∷ [] → came ≡ next_count v.came
    → Gives a (record v { coming = rest; arrived = arrived; came = came }) caller
gives-from {L = L} a v rest arrived came caller is coming more count =
    subst (λ (x : MemArrivals L). Gives x (record v { coming = rest; arrived = arrived; came = came }) caller) is
    (gives-now v rest arrived came caller coming more count)
