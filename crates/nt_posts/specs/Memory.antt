-- What the memory forms are seen as.
use Rattle.std.specs.Prelude.{◌≡◌, ℕ, List, [], ◌∷◌, ◌++◌, Option, Some, None, Bool, true, false}
use Rattle.nt_link.specs.Causes.{next_count}
use Rattle.nt_posts.specs.declared.acceptor.Caller.{Caller}

-- An acceptor in memory: the connections that are still to come, those that came, and the links that were finished, while
-- there was room for them; the numbers, from 0, of the calls that fail, that refuse a connection, and at which none comes;
-- and how many calls there were, how many connections came and were refused, how often none came, and how many failed.
pub record MemArrivals (L : Type 0) : Type 0 where
  pub coming : List (Caller L)
  pub arrived : List (Caller L)
  pub finished : Option (List L)
  pub failing : List ℕ
  pub refused : List ℕ
  pub quiet : List ℕ
  pub accepts : ℕ
  pub came : ℕ
  pub refusals : ℕ
  pub quiets : ℕ
  pub faults : ℕ

-- the next of those that are to come did
pub record Gives {L : Type 0} (before now : MemArrivals L) (caller : Caller L) : Type 0 where
  pub coming_is : before.coming ≡ caller ∷ now.coming
  pub now_is : now ≡ record before {
    coming = now.coming;
    arrived = before.arrived ++ caller ∷ [];
    came = next_count before.came;
  }

-- the links that were finished, if none is lost
abbrev pub kept_links : {L : Type 0} → Bool → List L → Option (List L)
kept_links true links = None
kept_links false links = Some links

-- a keeper in memory: the bytes that it keeps, if any; the numbers, from 0, of the calls of either kind that fail; and how
-- many calls there were of either kind, and how many failed
pub record MemKept : Type 0 where
  pub kept : Option (List ℕ)
  pub failing_loads : List ℕ
  pub failing_saves : List ℕ
  pub loads : ℕ
  pub saves : ℕ
  pub faults : ℕ
