-- All that is owed is owed of the topics of which something is.
use Rattle.std.proofs.Common.{◌≡◌, ◌≤◌, ◌<◌, ◌+◌, ◌∙◌, ℕ, Bool, true, false, cond, eqb, ltb, List, [], ◌∷◌, ◌++◌, Option, Some, None, length, get_or, drop, map, filter, refl, sym, ap, subst, append_assoc, arith, add-one}
use Rattle.std.specs.List.{flat_map}
use Rattle.std.proofs.Common.{drop-cons}
use Rattle.std.proofs.lemmas.Bool.Decides.{nat_tests}
use Rattle.nt_rules.specs.outbox.Keys.{Key, end_key, publish_key, setting_key, value_key}
use Rattle.nt_rules.specs.outbox.Marks.{Mark, option_items, end_keys, reply_keys, topic_keys, value_keys, newest_keys}
use Rattle.nt_rules.specs.outbox.Messages.{mark_at}
use Rattle.nt_outbox.specs.Owing.{RiseIds}
use Rattle.nt_outbox.specs.Steps.{RiseFrom, owes, mark_count, owing_ids}
use Rattle.nt_outbox.proofs.Changes.{owing-rise}

-- the topics of these ids
abbrev pub marks_of : List ℕ → List Mark → List Mark
marks_of [] ms = []
marks_of (id ∷ ids) ms = option_items (mark_at id ms) ++ marks_of ids ms

-- ---- the topics of which something is owed

skip-first : (n : ℕ) (m : Mark) (ms : List Mark) (ids : List ℕ) → RiseIds n ids → m.id < n
    → marks_of ids (m ∷ ms) ≡ marks_of ids ms
skip-first n m ms [] h lt = refl
skip-first n m ms (id ∷ ids) h lt =
    let first = h.0 in
    let other : eqb m.id id ≡ false = grind (arith, nat_tests) in
    ap (λ b. option_items (cond b (Some m) (mark_at id ms)) ++ marks_of ids (m ∷ ms)) other
    ∙ ap (λ xs. option_items (mark_at id ms) ++ xs) (skip-first (id + 1) m ms ids h.1 (omega arith))

owing-found : (n : ℕ) (ms : List Mark) → RiseFrom n ms → marks_of (owing_ids ms) ms ≡ filter owes ms
owing-found n [] h = refl
owing-found n (m ∷ ms) h = by (owes m) (owing-found (m.id + 1) ms h.1)
  where
    rest : marks_of (owing_ids ms) (m ∷ ms) ≡ marks_of (owing_ids ms) ms
    rest = skip-first (m.id + 1) m ms (owing_ids ms) (owing-rise (m.id + 1) ms h.1) (omega arith)

    by : (b : Bool) → marks_of (owing_ids ms) ms ≡ filter owes ms
        → marks_of (cond b (m.id ∷ owing_ids ms) (owing_ids ms)) (m ∷ ms) ≡ cond b (m ∷ filter owes ms) (filter owes ms)
    by true more =
        let here : eqb m.id m.id ≡ true = grind (arith, nat_tests) in
        ap (λ b. option_items (cond b (Some m) (mark_at m.id ms)) ++ marks_of (owing_ids ms) (m ∷ ms)) here
        ∙ ap (λ xs. m ∷ xs) (rest ∙ more)
    by false more = rest ∙ more

-- ---- nothing is owed of the others

no-keys : {X : Type 0} (f : X → Key) (xs : List X) → length xs ≡ 0 → map f xs ≡ []
no-keys f [] e = refl
no-keys f (x ∷ xs) e = absurd (omega arith)

empty-keys : (ks : List Key) → length ks ≡ 0 → ks ≡ []
empty-keys [] e = refl
empty-keys (k ∷ ks) e = absurd (omega arith)

none-owed : (m : Mark) → owes m ≡ false → mark_count m ≡ 0
none-owed m e = zero-of (mark_count m) e
  where
    zero-of : (n : ℕ) → ltb 0 n ≡ false → n ≡ 0
    zero-of n e = grind (arith, nat_tests)

-- no key of this kind is of a topic of which nothing is owed
abbrev IsOwed : (Mark → List Key) → Type 0
IsOwed f = (m : Mark) → owes m ≡ false → f m ≡ []

ends-owed : IsOwed end_keys
ends-owed m e = let none = none-owed m e in no-keys (end_key m.id) (option_items m.over) (omega arith)

replies-owed : IsOwed reply_keys
replies-owed m e =
    let none = none-owed m e in
    ap (λ ks. ks ++ map (λ s. setting_key m.id s.place) m.settings)
    (no-keys (λ p. publish_key m.id p.place) m.publishes (omega arith))
    ∙ no-keys (λ s. setting_key m.id s.place) m.settings (omega arith)

topics-owed : IsOwed topic_keys
topics-owed m e = let none = none-owed m e in empty-keys (topic_keys m) (omega arith)

values-owed : IsOwed value_keys
values-owed m e = let none = none-owed m e in no-keys (λ p. value_key m.id p.place) m.values (omega arith)

newest-owed : IsOwed newest_keys
newest-owed m e = let none = none-owed m e in no-keys (value_key m.id) (option_items m.newest) (omega arith)

owed-alone : (f : Mark → List Key) (ms : List Mark) → IsOwed f → flat_map f (filter owes ms) ≡ flat_map f ms
owed-alone f [] none = refl
owed-alone f (m ∷ ms) none = by (owes m) refl (owed-alone f ms none)
  where
    by : (b : Bool) → owes m ≡ b → flat_map f (filter owes ms) ≡ flat_map f ms
        → flat_map f (cond b (m ∷ filter owes ms) (filter owes ms)) ≡ f m ++ flat_map f ms
    by true e more = ap (λ ks. f m ++ ks) more
    by false e more = more ∙ sym (ap (λ ks. ks ++ flat_map f ms) (none m e))

owed-of : (f : Mark → List Key) (ids : List ℕ) (ms : List Mark) → IsOwed f → RiseFrom 0 ms → ids ≡ owing_ids ms
    → flat_map f (marks_of ids ms) ≡ flat_map f ms
owed-of f ids ms none h e =
    ap (λ is. flat_map f (marks_of is ms)) e ∙ ap (flat_map f) (owing-found 0 ms h) ∙ owed-alone f ms none

-- the keys of the topics of some ids are all that are owed of this kind
pub record AreAll (ids : List ℕ) (ms : List Mark) : Type 0 where
  pub ends : flat_map end_keys (marks_of ids ms) ≡ flat_map end_keys ms
  pub replies : flat_map reply_keys (marks_of ids ms) ≡ flat_map reply_keys ms
  pub announces : flat_map topic_keys (marks_of ids ms) ≡ flat_map topic_keys ms
  pub values : flat_map value_keys (marks_of ids ms) ≡ flat_map value_keys ms
  pub newest : flat_map newest_keys (marks_of ids ms) ≡ flat_map newest_keys ms

pub all-owed : (ids : List ℕ) (ms : List Mark) → RiseFrom 0 ms → ids ≡ owing_ids ms → AreAll ids ms
all-owed ids ms h e = record {
  ends = owed-of end_keys ids ms ends-owed h e;
  replies = owed-of reply_keys ids ms replies-owed h e;
  announces = owed-of topic_keys ids ms topics-owed h e;
  values = owed-of value_keys ids ms values-owed h e;
  newest = owed-of newest_keys ids ms newest-owed h e;
}

-- ---- a walk over ids

pub next-keys : (f : Mark → List Key) (ids : List ℕ) (ms : List Mark) (i : ℕ) (m : Mark) (sofar now all : List Key)
    → i < length ids → mark_at (get_or ids i 0) ms ≡ Some m → now ≡ sofar ++ f m
    → sofar ++ flat_map f (marks_of (drop i ids) ms) ≡ all → now ++ flat_map f (marks_of (drop (i + 1) ids) ms) ≡ all
next-keys f ids ms i m sofar now all lt at e h =
    ap (λ ks. ks ++ flat_map f (marks_of (drop (i + 1) ids) ms)) e
    ∙ append_assoc sofar (f m) (flat_map f (marks_of (drop (i + 1) ids) ms))
    ∙ sym (ap (λ o. sofar ++ flat_map f (option_items o ++ marks_of (drop (i + 1) ids) ms)) at)
    ∙ sym (ap (λ is. sofar ++ flat_map f (marks_of is ms)) (drop-at ids i lt)) ∙ h
  where
    drop-at : (ids : List ℕ) (i : ℕ) → i < length ids → drop i ids ≡ get_or ids i 0 ∷ drop (i + 1) ids
    drop-at ids i lt = rw (add-one, drop-cons ids i 0)

pub no-more-keys : (f : Mark → List Key) (ids : List ℕ) (ms : List Mark) (i : ℕ) (sofar all : List Key)
    → i < length ids → mark_at (get_or ids i 0) ms ≡ None
    → sofar ++ flat_map f (marks_of (drop i ids) ms) ≡ all
    → sofar ++ flat_map f (marks_of (drop (i + 1) ids) ms) ≡ all
no-more-keys f ids ms i sofar all lt at h =
    sym (ap (λ o. sofar ++ flat_map f (option_items o ++ marks_of (drop (i + 1) ids) ms)) at)
    ∙ sym (ap (λ is. sofar ++ flat_map f (marks_of is ms)) (drop-at ids i lt)) ∙ h
  where
    drop-at : (ids : List ℕ) (i : ℕ) → i < length ids → drop i ids ≡ get_or ids i 0 ∷ drop (i + 1) ids
    drop-at ids i lt = rw (add-one, drop-cons ids i 0)
