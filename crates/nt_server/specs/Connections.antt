-- The open connections and how many were opened.
use Rattle.std.specs.Prelude.{◌≡◌, ◌<◌, ◌+◌, ℕ, zero, suc, Bool, true, false, List, [], ◌∷◌, ◌++◌, length, map, nat_le, if◌then◌else◌}
use Rattle.nt_subs.specs.Subscriptions.{Subs}
use Rattle.nt_subs.specs.Wishes.{wanted}
use Rattle.nt_rules.specs.Limits.{last_connection}
use Rattle.nt_rules.specs.Sorted.{RisesFrom, AreBelow, IsFoundAt}
use Rattle.nt_rules.specs.declared.meta.MetaNow.{MetaNow}
use Rattle.nt_rules.specs.declared.taken.Taken.{Taken}
use Rattle.nt_rules.specs.declared.topic.Topic.{Topic}
use Rattle.nt_rules.specs.outbox.Calls.{nothing_owed, reached}
use Rattle.nt_rules.specs.history.Answer.{given_name}
use Rattle.nt_rules.specs.history.State.{Open, serves, subs_at, given_names, open_metas, with_subs_of, with_outbox, differences, noted_differences, rewanting, refreshed}

pub record Connections : Type 0 where
  pub opened : ℕ
  pub opens : List Open

abbrev pub number : Open → ℕ
number o = o.conn

-- the number of the connection at this index
abbrev pub number_at : List Open → ℕ → ℕ
number_at [] i = 0
number_at (o ∷ opens) zero = o.conn
number_at (o ∷ opens) (suc i) = number_at opens i

-- numbers rise, and each was given
pub record AreNumbered (opened : ℕ) (opens : List Open) : Type 0 where
  pub rising : RisesFrom number 0 opens
  pub given : AreBelow number (opened + 1) opens

-- the connection stands at this index
pub record IsOpenAt (conn : ℕ) (opens : List Open) (i : ℕ) : Type 0 where
  pub within : i < length opens
  pub found : IsFoundAt number conn opens i

-- and is open for the worker
pub record IsServedAt (worker conn : ℕ) (opens : List Open) (i : ℕ) : Type 0 where
  pub within : i < length opens
  pub number_is : number_at opens i ≡ conn
  pub served : serves opens worker conn ≡ true

-- all numbers are spent, and nothing changes
pub record AreSpent (before after : Connections) : Type 0 where
  pub spent : nat_le last_connection before.opened ≡ true
  pub same : after ≡ before

-- a connection was opened under the next number and a name that none has
pub record IsOpened (before : Connections) (worker : ℕ) (name : List ℕ) (after : Connections) (given : ℕ × List ℕ) :
    Type 0 where
  pub room : nat_le last_connection before.opened ≡ false
  pub number_is : given.0 ≡ before.opened + 1
  pub name_is : given.1 ≡ given_name (given_names before.opens) name
  pub after_is : after ≡ record {
    opened = before.opened + 1;
    opens = before.opens ++ record {
      conn = before.opened + 1;
      worker = worker;
      name = given_name (given_names before.opens) name;
      subs = [];
      outbox = nothing_owed;
    } ∷ [];
  }

-- the connections after one of them has other subscriptions, and all were told of it
abbrev pub resubscribed : ℕ → List MetaNow → List Taken → List Topic → ℕ → Subs → List Open → List Open
resubscribed place before taken ts conn subs opens =
    let others = with_subs_of conn subs opens in
    refreshed place before ts (rewanting place taken ts (open_metas others ts) conn (subs_at opens conn) others)

-- ---- meta topics

-- each outbox comes to a place
abbrev pub reached_all : ℕ → List Open → List Open
reached_all place opens = map (λ o. with_outbox (reached place o.outbox) o) opens

-- and is then told what is different of the meta topics
abbrev pub told_metas : ℕ → List MetaNow → List MetaNow → List Open → List Open
told_metas place before after opens =
    map (λ o. with_outbox (noted_differences place (wanted o.subs) (differences before after) (reached place o.outbox)) o)
    opens

-- the meta topics, where they are to be made
abbrev pub metas_if : Bool → List Open → List Topic → List MetaNow
metas_if makes opens ts = if makes then open_metas opens ts else []
