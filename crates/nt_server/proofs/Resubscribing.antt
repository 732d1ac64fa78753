-- A connection that has other subscriptions.
use Rattle.std.proofs.Common.{◌≡◌, ℕ, Bool, List, get_or, set, sym, ◌∙◌, ap}
use Rattle.nt_subs.specs.Subscriptions.{Subs}
use Rattle.nt_subs.specs.Wishes.{wanted}
use Rattle.nt_rules.specs.Sorted.{IsFoundAt}
use Rattle.nt_rules.proofs.Search.{key-found}
use Rattle.nt_rules.specs.declared.meta.MetaNow.{MetaNow}
use Rattle.nt_rules.specs.declared.taken.Taken.{Taken}
use Rattle.nt_rules.specs.declared.topic.Topic.{Topic}
use Rattle.nt_rules.specs.history.State.{Open, subs_at, with_outbox, with_subs_of, rewanted_all, meta_rewanted_all, rewanting}
use Rattle.nt_server.specs.Connections.{number, metas_if}
use Rattle.nt_server.proofs.Numbers.{subs_found, set-mapped, found-set}

-- one that had these subscriptions, and is told how much all is wanted now
abbrev pub retold : ℕ → List Taken → List Topic → List MetaNow → Subs → Open → Open
retold place taken ts ms old o =
    with_outbox (meta_rewanted_all place (wanted old) (wanted o.subs) ms
    (rewanted_all place taken (wanted old) (wanted o.subs) ts o.outbox)) o

-- what a connection is after each of these steps
pub record AreSteps (place conn i : ℕ) (makes : Bool) (after ms : List MetaNow) (taken : List Taken) (ts : List Topic)
    (subs old : Subs) (os : List Open) (o p q r : Open) : Type 0 where
  pub found : IsFoundAt number conn os i
  pub at : o ≡ get_or os i o
  pub given : p ≡ record o { subs = subs }
  pub had : old ≡ o.subs
  pub after_is : after ≡ metas_if makes (set os i p) ts
  pub handed : ms ≡ after
  pub there : q ≡ get_or (set os i p) i q
  pub retold_is : r ≡ retold place taken ts ms old q

pub record IsRewanted (place conn : ℕ) (makes : Bool) (after : List MetaNow) (taken : List Taken) (ts : List Topic)
    (subs : Subs) (os new : List Open) : Type 0 where
  pub metas_are : after ≡ metas_if makes (with_subs_of conn subs os) ts
  pub opens_are : new ≡ rewanting place taken ts after conn (subs_at os conn) (with_subs_of conn subs os)

pub rewanted : (place conn i : ℕ) (makes : Bool) (after ms : List MetaNow) (taken : List Taken)
    (ts : List Topic) (subs old : Subs) (os : List Open) (o p q r : Open)
    → AreSteps place conn i makes after ms taken ts subs old os o p q r
    → IsRewanted place conn makes after taken ts subs os (set (set os i p) i r)
rewanted place conn i makes after ms taken ts subs old os o p q r h =
    record {
      metas_are = h.after_is ∙ ap (λ (os : List Open). metas_if makes os ts) changed;
      opens_are = wanting;
    }
  where
    others : List Open
    others = with_subs_of conn subs os

    changed : set os i p ≡ others
    changed = set-mapped conn i os (λ o. record o { subs = subs }) o p h.found h.at h.given

    here : p.conn ≡ conn
    here = ap (λ (o : Open). o.conn) h.given ∙ ap (λ (o : Open). o.conn) h.at ∙ key-found number conn os i o h.found

    same : old ≡ subs_at os conn
    same = h.had ∙ ap (λ (o : Open). o.subs) h.at ∙ sym (subs_found conn i os o h.found)

    wanting : set (set os i p) i r ≡ rewanting place taken ts after conn (subs_at os conn) others
    wanting =
        set-mapped conn i (set os i p) (retold place taken ts ms old) q r (found-set conn i os p h.found here) h.there
        h.retold_is
        ∙ ap (λ (ms : List MetaNow). rewanting place taken ts ms conn old (set os i p)) h.handed
        ∙ ap (λ (old : Subs). rewanting place taken ts after conn old (set os i p)) same
        ∙ ap (λ (os-2 : List Open). rewanting place taken ts after conn (subs_at os conn) os-2) changed
