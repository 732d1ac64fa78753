-- What calls on an acceptor do to the connections that it tells.
use Rattle.std.specs.Prelude.{◌≡◌, ℕ, List, [], ◌∷◌, ◌++◌, Option, Some, None, Result, Ok, Err, IfSome}
use Rattle.nt_link.specs.Causes.{next_count}
use Rattle.nt_posts.specs.declared.acceptor.Caller.{Caller}
use Rattle.nt_posts.specs.declared.acceptor.Arrival.{Arrival}
use Rattle.nt_posts.specs.declared.acceptor.Arrival.TheVariants.{Came, Refused, Quiet}
use Rattle.nt_wire.specs.declared.link.LinkFault.{LinkFault}

-- what is told, and then these
abbrev pub followed : {X : Type 0} → Option (List X) → List X → Option (List X)
followed None xs = None
followed (Some told) xs = Some (told ++ xs)

-- the connection that came, if one did
abbrev pub callers_in : {L : Type 0} → Result (Arrival L) LinkFault → List (Caller L)
callers_in (Ok (Came caller)) = caller ∷ []
callers_in (Ok Refused) = []
callers_in (Ok Quiet) = []
callers_in (Err fault) = []

-- the count of those that came
abbrev pub came_after : {L : Type 0} → ℕ → Result (Arrival L) LinkFault → ℕ
came_after before (Ok (Came caller)) = next_count before
came_after before (Ok Refused) = before
came_after before (Ok Quiet) = before
came_after before (Err fault) = before

-- what is told goes on from what was told, with this link last, or nothing is told
abbrev pub GoesOn : {L : Type 0} → Option (List L) → L → Option (List L) → Type 0
GoesOn {L = L} before link told =
    IfSome told (λ list. (first : List L) × (before ≡ Some first) × (list ≡ first ++ link ∷ []))
