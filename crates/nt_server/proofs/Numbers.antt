-- The open connections by their numbers.
use Rattle.std.proofs.Common.{◌≡◌, ◌≤◌, ◌<◌, ◌+◌, ◌==◌, ℕ, zero, suc, Bool, true, false, cond, not, eqb, ◌||◌, ◌&&◌, List, [], ◌∷◌, ◌++◌, Option, Some, None, Result, Ok, Err, length, get_or, set, map, nat_cmp, refl, sym, ◌∙◌, ap, subst, arith, tests}
use Rattle.std.specs.Prelude.{remove, MatchResult}
use Rattle.std.specs.List.{list_any}
use Rattle.std.specs.List.Sorted.{IsBinarySearchResult, IsSearchInRange}
use Rattle.std.proofs.lemmas.Bool.Decides.{nat_tests}
use Rattle.nt_rules.specs.outbox.Calls.{OutboxState, nothing_owed, behind, drained}
use Rattle.nt_rules.specs.Sorted.{RisesFrom, AreBelow, IsFoundAt, IsMissedAt}
use Rattle.nt_rules.proofs.Search.{searched, within-found, any-missed, filter-found, map-found, rises-append, rises-filter, rises-map, below-weaker, below-append, below-filter, below-map}
use Rattle.nt_rules.proofs.Positions.{set-change}
use Rattle.nt_rules.specs.history.State.{Open, is_number, serves, subs_at, outbox_at, with_outbox, drained_by, drained_from}
use Rattle.nt_rules.specs.declared.batch.Batch.{Batch}
use Rattle.nt_rules.specs.declared.act.StepOut.TheVariants as out
use Rattle.nt_rules.specs.history.Answer.{drained_out}
use Rattle.nt_server.specs.Connections.{number, number_at, IsOpenAt, IsServedAt, AreNumbered}

-- ---- numbers by their index

number-above : (n i : ℕ) (os : List Open) → RisesFrom number n os → i < length os → n ≤ number_at os i
number-above n i [] h lt = absurd (omega arith)
number-above n zero (o ∷ os) h lt = h.0
number-above n (suc i) (o ∷ os) h lt =
    let first = h.0 in let later = number-above (o.conn + 1) i os h.1 (omega arith) in omega arith

-- each is found under its number
pub found_there : (n i : ℕ) (os : List Open) → RisesFrom number n os → i < length os
    → IsFoundAt number (number_at os i) os i
found_there n i [] h lt = absurd (omega arith)
found_there n zero (o ∷ os) h lt = (refl, h.1)
found_there n (suc i) (o ∷ os) h lt =
    let later = number-above (o.conn + 1) i os h.1 (omega arith) in
    (omega arith, found_there (o.conn + 1) i os h.1 (omega arith))

pub number_found : (conn i : ℕ) (os : List Open) → IsFoundAt number conn os i → number_at os i ≡ conn
number_found conn i [] h = absurd h
number_found conn zero (o ∷ os) h = h.0
number_found conn (suc i) (o ∷ os) h = number_found conn i os h.1

pub number-get : (i : ℕ) (os : List Open) (d : Open) → i < length os → (get_or os i d).conn ≡ number_at os i
number-get i [] d lt = absurd (omega arith)
number-get zero (o ∷ os) d lt = refl
number-get (suc i) (o ∷ os) d lt = number-get i os d (omega arith)

-- what a search by number answers
pub searched-opens : (conn : ℕ) (os : List Open) (r : Result ℕ ℕ) → RisesFrom number 0 os
    → IsSearchInRange r (length os) → IsBinarySearchResult (λ (o : Open). nat_cmp o.conn conn) os r
    → MatchResult r (IsOpenAt conn os) (IsMissedAt number conn os)
searched-opens conn os r h within at = by r (searched number conn 0 os r h within at)
  where
    by : (r : Result ℕ ℕ) → MatchResult r (IsFoundAt number conn os) (IsMissedAt number conn os)
        → MatchResult r (IsOpenAt conn os) (IsMissedAt number conn os)
    by (Ok i) f = record { within = within-found number conn os i f; found = f }
    by (Err i) m = m

-- ---- what is found under a number

is-same : (a b : ℕ) → a ≡ b → eqb a b ≡ true
is-same a b e = grind (arith, tests, nat_tests)

is-other : (a b : ℕ) → a < b → eqb a b ≡ false
is-other a b lt = grind (arith, tests, nat_tests)

pub subs_found : (conn i : ℕ) (os : List Open) (d : Open) → IsFoundAt number conn os i
    → subs_at os conn ≡ (get_or os i d).subs
subs_found conn i [] d h = absurd h
subs_found conn zero (o ∷ os) d h = rw (is-same o.conn conn h.0) refl
subs_found conn (suc i) (o ∷ os) d h = rw (is-other o.conn conn h.0) (subs_found conn i os d h.1)

pub outbox_found : (conn i : ℕ) (os : List Open) (d : Open) → IsFoundAt number conn os i
    → outbox_at os conn ≡ (get_or os i d).outbox
outbox_found conn i [] d h = absurd h
outbox_found conn zero (o ∷ os) d h = rw (is-same o.conn conn h.0) refl
outbox_found conn (suc i) (o ∷ os) d h = rw (is-other o.conn conn h.0) (outbox_found conn i os d h.1)

outbox-none : (conn : ℕ) (os : List Open) → list_any (is_number conn) os ≡ false → outbox_at os conn ≡ nothing_owed
outbox-none conn [] h = refl
outbox-none conn (o ∷ os) h = by (is_number conn o) (λ k. outbox-none conn os k) h
  where
    by : (b : Bool) → (list_any (is_number conn) os ≡ false → outbox_at os conn ≡ nothing_owed)
        → (b || list_any (is_number conn) os) ≡ false → cond b o.outbox (outbox_at os conn) ≡ nothing_owed
    by true more h = absurd (cc)
    by false more h = more h

pub outbox_missed : (conn i : ℕ) (os : List Open) → IsMissedAt number conn os i → outbox_at os conn ≡ nothing_owed
outbox_missed conn i os h = outbox-none conn os (any-missed number conn os i h)

-- none serves a number that isn't open
serves-none : (worker conn : ℕ) (os : List Open) → list_any (is_number conn) os ≡ false → serves os worker conn ≡ false
serves-none worker conn [] h = refl
serves-none worker conn (o ∷ os) h = by (is_number conn o) (o.worker == worker) (λ k. serves-none worker conn os k) h
  where
    by : (b c : Bool) → (list_any (is_number conn) os ≡ false → serves os worker conn ≡ false)
        → (b || list_any (is_number conn) os) ≡ false → ((b && c) || serves os worker conn) ≡ false
    by true c more h = absurd (cc)
    by false c more h = more h

pub serves_missed : (worker conn i : ℕ) (os : List Open) → IsMissedAt number conn os i → serves os worker conn ≡ false
serves_missed worker conn i os h = serves-none worker conn os (any-missed number conn os i h)

missed-above : (conn : ℕ) (os : List Open) → RisesFrom number (conn + 1) os → IsMissedAt number conn os 0
missed-above conn [] h = tt
missed-above conn (o ∷ os) h = h

pub serves_found : (worker conn i : ℕ) (os : List Open) (d : Open) → IsFoundAt number conn os i
    → serves os worker conn ≡ ((get_or os i d).worker == worker)
serves_found worker conn i [] d h = absurd h
serves_found worker conn zero (o ∷ os) d h =
    ap (λ b. (b && (o.worker == worker)) || serves os worker conn) (is-same o.conn conn h.0)
    ∙ ap (λ b. (o.worker == worker) || b) (serves_missed worker conn 0 os (missed-above conn os h.1))
    ∙ alone (o.worker == worker)
  where
    alone : (b : Bool) → (b || false) ≡ b
    alone true = refl
    alone false = refl
serves_found worker conn (suc i) (o ∷ os) d h =
    ap (λ b. (b && (o.worker == worker)) || serves os worker conn) (is-other o.conn conn h.0)
    ∙ serves_found worker conn i os d h.1

is-not : (a b : ℕ) → (a ≡ b → ⊥) → eqb a b ≡ false
is-not a b h = by (eqb a b) refl
  where
    by : (c : Bool) → eqb a b ≡ c → c ≡ false
    by true e = absurd (h (grind (arith, tests, nat_tests)))
    by false e = refl

-- one that stands under a number is open for its worker alone
pub served-at : (worker conn i : ℕ) (os : List Open) (o : Open) → IsOpenAt conn os i → o ≡ get_or os i o
    → o.worker ≡ worker → IsServedAt worker conn os i
served-at worker conn i os o h at e =
    record {
      within = h.within;
      number_is = number_found conn i os h.found;
      served =
          serves_found worker conn i os o h.found
          ∙ ap (λ (p : Open). p.worker == worker) (sym at)
          ∙ is-same o.worker worker e;
    }

pub not-served : (worker conn i : ℕ) (os : List Open) (o : Open) → IsOpenAt conn os i → o ≡ get_or os i o
    → (o.worker ≡ worker → ⊥) → serves os worker conn ≡ false
not-served worker conn i os o h at e =
    serves_found worker conn i os o h.found
    ∙ ap (λ (p : Open). p.worker == worker) (sym at)
    ∙ is-not o.worker worker e

-- one that is open for a worker is found under its number
pub found-served : (opened worker conn i : ℕ) (os : List Open) → AreNumbered opened os → IsServedAt worker conn os i
    → IsFoundAt number conn os i
found-served opened worker conn i os h s =
    subst (λ n. IsFoundAt number n os i) s.number_is (found_there 0 i os h.rising s.within)

pub outbox-there : (opened worker conn i : ℕ) (os : List Open) (o : Open) → AreNumbered opened os
    → IsServedAt worker conn os i → o ≡ get_or os i o → outbox_at os conn ≡ o.outbox
outbox-there opened worker conn i os o h s at =
    outbox_found conn i os o (found-served opened worker conn i os h s) ∙ ap (λ (p : Open). p.outbox) (sym at)

-- ---- a change of one of them

-- one that is changed is changed by its number
pub set-mapped : (conn i : ℕ) (os : List Open) (f : Open → Open) (o p : Open) → IsFoundAt number conn os i
    → o ≡ get_or os i o → p ≡ f o → set os i p ≡ map (λ o. cond (is_number conn o) (f o) o) os
set-mapped conn i os f o p h at e =
    set-change (λ o. Some (f o)) os i o p at (ap Some (sym e)) ∙ sym (map-found number conn f os i h)

pub found-set : (conn i : ℕ) (os : List Open) (p : Open) → IsFoundAt number conn os i → p.conn ≡ conn
    → IsFoundAt number conn (set os i p) i
found-set conn i [] p h e = absurd h
found-set conn zero (o ∷ os) p h e = (e, h.1)
found-set conn (suc i) (o ∷ os) p h e = (h.0, found-set conn i os p h.1 e)

-- ---- numbers go on rising

rises-set : (n i : ℕ) (os : List Open) (p : Open) → RisesFrom number n os → p.conn ≡ number_at os i
    → RisesFrom number n (set os i p)
rises-set n i [] p h e = tt
rises-set n zero (o ∷ os) p h e =
    (subst (λ m. n ≤ m) (sym e) h.0, subst (λ m. RisesFrom number (m + 1) os) (sym e) h.1)
rises-set n (suc i) (o ∷ os) p h e = (h.0, rises-set (o.conn + 1) i os p h.1 e)

below-set : (n i : ℕ) (os : List Open) (p : Open) → AreBelow number n os → p.conn ≡ number_at os i
    → AreBelow number n (set os i p)
below-set n i [] p h e = tt
below-set n zero (o ∷ os) p h e = (subst (λ m. m < n) (sym e) h.0, h.1)
below-set n (suc i) (o ∷ os) p h e = (h.0, below-set n i os p h.1 e)

pub numbered_set : (opened i : ℕ) (os : List Open) (p : Open) → AreNumbered opened os → p.conn ≡ number_at os i
    → AreNumbered opened (set os i p)
numbered_set opened i os p h e =
    record { rising = rises-set 0 i os p h.rising e; given = below-set (opened + 1) i os p h.given e }

-- one is written over by another of its number
pub numbered-write : (opened i : ℕ) (os : List Open) (o p : Open) → AreNumbered opened os → i < length os
    → o ≡ get_or os i o → p.conn ≡ o.conn → AreNumbered opened (set os i p)
numbered-write opened i os o p h lt at e =
    numbered_set opened i os p h (e ∙ ap (λ (q : Open). q.conn) at ∙ number-get i os o lt)

length-set : (i : ℕ) (os : List Open) (p : Open) → length (set os i p) ≡ length os
length-set i [] p = refl
length-set zero (o ∷ os) p = refl
length-set (suc i) (o ∷ os) p = ap suc (length-set i os p)

-- and then again
pub numbered-twice : (opened i : ℕ) (os : List Open) (o p q r : Open) → AreNumbered opened os → i < length os
    → o ≡ get_or os i o → p.conn ≡ o.conn → q ≡ get_or (set os i p) i q → r.conn ≡ q.conn
    → AreNumbered opened (set (set os i p) i r)
numbered-twice opened i os o p q r h lt at e at-2 e-2 =
    numbered-write opened i (set os i p) q r (numbered-write opened i os o p h lt at e)
    (subst (λ n. i < n) (sym (length-set i os p)) lt) at-2 e-2

pub numbered_map : (opened : ℕ) (f : Open → Open) (os : List Open) → ((o : Open) → (f o).conn ≡ o.conn)
    → AreNumbered opened os → AreNumbered opened (map f os)
numbered_map opened f os same h =
    record {
      rising = rises-map number number 0 f os same h.rising;
      given = below-map number number (opened + 1) f os same h.given;
    }

pub numbered_without : (opened i : ℕ) (os : List Open) → i < length os → AreNumbered opened os
    → AreNumbered opened (remove os i)
numbered_without opened i os lt h =
    subst (AreNumbered opened)
    (filter-found number (number_at os i) os i (found_there 0 i os h.rising lt))
    (record {
      rising = rises-filter number 0 (λ o. not (o.conn == number_at os i)) os h.rising;
      given = below-filter number (opened + 1) (λ o. not (o.conn == number_at os i)) os h.given;
    })

pub numbered_push : (opened : ℕ) (os : List Open) (o : Open) → o.conn ≡ opened + 1 → AreNumbered opened os
    → AreNumbered (opened + 1) (os ++ o ∷ [])
numbered_push opened os o e h =
    record {
      rising = rises-append number 0 os o h.rising (omega arith) (subst (λ n. AreBelow number n os) (sym e) h.given);
      given = below-append number (opened + 1 + 1) os o
          (below-weaker number (opened + 1) (opened + 1 + 1) os (omega arith) h.given) (omega arith);
    }

-- ---- a drain

same-there : (i : ℕ) (os : List Open) (o : Open) → o ≡ get_or os i o → set os i o ≡ os
same-there i [] o at = refl
same-there zero (p ∷ os) o at = ap (λ (q : Open). q ∷ os) at
same-there (suc i) (p ∷ os) o at = ap (λ qs. p ∷ qs) (same-there i os o at)

-- one that fell behind is handed nothing, and none changes
pub drained-behind : (conn budget weight i : ℕ) (os : List Open) (o : Open) → IsFoundAt number conn os i
    → o ≡ get_or os i o → behind o.outbox ≡ Some weight → map (drained_from conn budget) os ≡ os
drained-behind conn budget weight i os o h at e =
    sym (set-mapped conn i os (λ p. with_outbox (drained_by budget p.outbox) p) o o h at (rw e refl))
    ∙ same-there i os o at

handed : (budget : ℕ) (b d : OutboxState) → behind b ≡ None → d ≡ drained budget b → drained_by budget b ≡ d
handed budget b d none e = rw none (sym e)

-- and another is handed what it is owed first
pub drained-there : (conn budget i : ℕ) (os : List Open) (o p : Open) → IsFoundAt number conn os i
    → o ≡ get_or os i o → behind o.outbox ≡ None → p ≡ with_outbox (drained budget o.outbox) o
    → set os i p ≡ map (drained_from conn budget) os
drained-there conn budget i os o p h at none e =
    set-mapped conn i os (λ p. with_outbox (drained_by budget p.outbox) p) o p h at
    (e ∙ ap (λ (b : OutboxState). with_outbox b o) (sym (handed budget o.outbox (drained budget o.outbox) none refl)))

pub drained-out : (fell : Option ℕ) (batch owed : Batch) → fell ≡ None → batch ≡ owed
    → out.Drained batch ≡ drained_out fell owed
drained-out fell batch owed none e = rw none (ap out.Drained e)
