-- Handing the first keys of what is owed leaves fewer keys owed.
use Rattle.std.proofs.Common.{◌≡◌, ◌≤◌, ◌<◌, ◌+◌, ◌-◌, ◌&&◌, ◌||◌, ◌++◌, ℕ, zero, suc, Bool, true, false, cond}
use Rattle.std.proofs.Common.{not, leb, List, [], ◌∷◌, Option, Some, None, map, filter, length, take, refl, sym}
use Rattle.std.proofs.Common.{ap, ◌∙◌, subst, arith, length-append}
use Rattle.std.specs.List.{list_any, flat_map}
use Rattle.nt_rules.specs.declared.waiting.Publish.{Publish}
use Rattle.nt_rules.specs.declared.waiting.Setting.{Setting}
use Rattle.nt_rules.specs.declared.waiting.Placed.{Placed}
use Rattle.nt_rules.specs.outbox.Marks.{Mark}
use Rattle.nt_rules.specs.outbox.Keys.{Kind, Of_end, Of_publish, Of_setting, Of_topic, Of_value, Key, is_kind, is_key}
use Rattle.nt_rules.specs.outbox.Keys.{is_in, end_key, publish_key, setting_key, topic_key, value_key, announces}
use Rattle.nt_rules.specs.outbox.Keys.{next_value, is_before, insert_key, in_order}
use Rattle.nt_rules.specs.outbox.Marks.{is_blank, is_empty, is_wish, without, handed, handed_all, option_items}
use Rattle.nt_rules.specs.outbox.Marks.{place_from, end_keys, reply_keys, topic_keys, value_keys, newest_keys, keys}
use Rattle.nt_laws.proofs.marks.HandedKeys.{in-append, in-in_order, eqb-self, all-left, left-keys}

-- ---- lists of keys that lose some

-- the keys after are no more than those before, and are fewer where this one was among those before and isn't any more
record Shrinks (k : Key) (after before : List Key) : Type 0 where
  no_longer : length after ≤ length before
  shorter : is_in before k ≡ true → is_in after k ≡ false → length after < length before

shrinks-none : (k : Key) (ks : List Key) → Shrinks k [] ks
shrinks-none k [] = record { no_longer = omega arith; shorter = λ h g. absurd (cc) }
shrinks-none k (x ∷ xs) = record { no_longer = omega arith; shorter = λ h g. omega arith }

shrinks-same : (k : Key) (ks : List Key) → Shrinks k ks ks
shrinks-same k ks = record { no_longer = omega arith; shorter = λ h g. absurd (cc) }

shrinks-append : (k : Key) (a b c d : List Key) → Shrinks k a b → Shrinks k c d → Shrinks k (a ++ c) (b ++ d)
shrinks-append k a b c d first second =
    let x = length-append a c in
    let y = length-append b d in
    let one = first.no_longer in
    let two = second.no_longer in
    record {
      no_longer = omega arith;
      shorter = λ h g. by (is_in b k) refl (is_in a k) refl (is_in c k) refl
          (sym (in-append k b d) ∙ h) (sym (in-append k a c) ∙ g);
    }
  where
    by : (p : Bool) → is_in b k ≡ p → (q : Bool) → is_in a k ≡ q → (r : Bool) → is_in c k ≡ r
        → (p || is_in d k) ≡ true → (q || r) ≡ false → length (a ++ c) < length (b ++ d)
    by p e true f r g was gone = absurd (cc)
    by p e false f true g was gone = absurd (cc)
    by true e false f false g was gone =
        let x = length-append a c in
        let y = length-append b d in
        let one = first.shorter e f in
        let two = second.no_longer in
        omega arith
    by false e false f false g was gone =
        let x = length-append a c in
        let y = length-append b d in
        let one = first.no_longer in
        let two = second.shorter was g in
        omega arith

-- of items that lose some
shrinks-filter : {X : Type 0} (k : Key) (f : X → Key) (test : X → Bool) (xs : List X)
    → Shrinks k (map f (filter test xs)) (map f xs)
shrinks-filter k f test [] = shrinks-same k []
shrinks-filter {X} k f test (x ∷ xs) = by (shrinks-filter k f test xs) (test x)
  where
    by : Shrinks k (map f (filter test xs)) (map f xs) → (b : Bool)
        → Shrinks k (map f (cond b (x ∷ filter test xs) (filter test xs))) (map f (x ∷ xs))
    by more true =
        shrinks-append k (f x ∷ []) (f x ∷ []) (map f (filter test xs)) (map f xs)
        (shrinks-same k (f x ∷ [])) more
    by more false =
        shrinks-append k [] (f x ∷ []) (map f (filter test xs)) (map f xs) (shrinks-none k (f x ∷ [])) more

-- in their order
length-insert : (k : Key) (ks : List Key) → length (insert_key k ks) ≡ length ks + 1
length-insert k [] = omega arith
length-insert k (x ∷ xs) = by (length-insert k xs) (is_before k x)
  where
    by : length (insert_key k xs) ≡ length xs + 1 → (b : Bool)
        → length (cond b (k ∷ x ∷ xs) (x ∷ insert_key k xs)) ≡ length (x ∷ xs) + 1
    by more true = omega arith
    by more false = omega arith

length-in_order : (ks : List Key) → length (in_order ks) ≡ length ks
length-in_order [] = refl
length-in_order (k ∷ ks) = let more = length-in_order ks in omega (arith, length-insert k (in_order ks))

shrinks-in_order : (k : Key) (a b : List Key) → Shrinks k a b → Shrinks k (in_order a) (in_order b)
shrinks-in_order k a b h =
    let x = length-in_order a in
    let y = length-in_order b in
    let less = h.no_longer in
    record {
      no_longer = omega arith;
      shorter = λ was gone.
          let fewer = h.shorter (sym (in-in_order k b) ∙ was) (sym (in-in_order k a) ∙ gone) in omega arith;
    }

-- ---- the parts of a topic after keys were handed

ends-shrink : (ks : List Key) (k : Key) (m : Mark) → Shrinks k (end_keys (handed ks m)) (end_keys m)
ends-shrink ks k m = by m.over
  where
    here : (place : ℕ) (b : Bool)
        → Shrinks k (map (end_key m.id) (option_items (cond b None (Some place)))) (end_key m.id place ∷ [])
    here place true = shrinks-none k (end_key m.id place ∷ [])
    here place false = shrinks-same k (end_key m.id place ∷ [])

    by : (o : Option ℕ)
        → Shrinks k (map (end_key m.id) (option_items (without ks o m.id))) (map (end_key m.id) (option_items o))
    by None = shrinks-same k []
    by (Some place) = here place (is_in ks (end_key m.id place))

replies-shrink : (ks : List Key) (k : Key) (m : Mark) → Shrinks k (reply_keys (handed ks m)) (reply_keys m)
replies-shrink ks k m =
    let publish : Publish → Key = λ p. publish_key m.id p.place in
    let setting : Setting → Key = λ s. setting_key m.id s.place in
    let publishes = filter (λ (p : Publish). not (is_in ks (publish_key m.id p.place))) m.publishes in
    let settings = filter (λ (s : Setting). not (is_in ks (setting_key m.id s.place))) m.settings in
    shrinks-append k (map publish publishes) (map publish m.publishes)
    (map setting settings) (map setting m.settings)
    (shrinks-filter k publish (λ p. not (is_in ks (publish p))) m.publishes)
    (shrinks-filter k setting (λ s. not (is_in ks (setting s))) m.settings)

-- where no key announces it, its publishes are left, so that an announce that is owed was owed before
topics-shrink : (ks : List Key) (k : Key) (m : Mark) → Shrinks k (topic_keys (handed ks m)) (topic_keys m)
topics-shrink ks k m = by (is_wish m.wish) m.is_announced (list_any (announces m.id) ks) refl
  where
    owed : Bool → List Key
    owed b = cond b (topic_key m.id ∷ []) []

    by : (w a n : Bool) → list_any (announces m.id) ks ≡ n
        → Shrinks k (owed (w && not (a || n) && is_empty (filter (λ (p : Publish). not (is_in ks
        (publish_key m.id p.place))) m.publishes)))
        (owed (w && not a && is_empty m.publishes))
    by false a n e = shrinks-same k []
    by true true n e = shrinks-same k []
    by true false true e = shrinks-none k (owed (is_empty m.publishes))
    by true false false e =
        subst (λ ps. Shrinks k (owed (is_empty ps)) (owed (is_empty m.publishes)))
        (sym (all-left ks m.id m.publishes e)) (shrinks-same k (owed (is_empty m.publishes)))

values-shrink : (ks : List Key) (k : Key) (m : Mark) → Shrinks k (value_keys (handed ks m)) (value_keys m)
values-shrink ks k m =
    shrinks-filter k (λ (p : Placed). value_key m.id p.place) (λ p. leb (next_value ks m.id) p.place) m.values

newest-shrink : (ks : List Key) (k : Key) (m : Mark) → Shrinks k (newest_keys (handed ks m)) (newest_keys m)
newest-shrink ks k m = by m.newest
  where
    here : (place : ℕ) (b : Bool)
        → Shrinks k (map (value_key m.id) (option_items (cond b (Some place) None))) (value_key m.id place ∷ [])
    here place true = shrinks-same k (value_key m.id place ∷ [])
    here place false = shrinks-none k (value_key m.id place ∷ [])

    by : (o : Option ℕ)
        → Shrinks k (map (value_key m.id) (option_items (place_from (next_value ks m.id) o)))
        (map (value_key m.id) (option_items o))
    by None = shrinks-same k []
    by (Some place) = here place (leb (next_value ks m.id) place)

-- ---- all topics

flat-shrink : (ks : List Key) (k : Key) (f : Mark → List Key) → ((m : Mark) → Shrinks k (f (handed ks m)) (f m))
    → (ms : List Mark) → Shrinks k (flat_map f (handed_all ks ms)) (flat_map f ms)
flat-shrink ks k f one [] = shrinks-same k []
flat-shrink ks k f one (m ∷ ms) = by (not (is_blank (handed ks m))) (flat-shrink ks k f one ms)
  where
    by : (b : Bool) → Shrinks k (flat_map f (handed_all ks ms)) (flat_map f ms)
        → Shrinks k (flat_map f (cond b (handed ks m ∷ handed_all ks ms) (handed_all ks ms)))
        (f m ++ flat_map f ms)
    by true more =
        shrinks-append k (f (handed ks m)) (f m) (flat_map f (handed_all ks ms)) (flat_map f ms) (one m) more
    by false more =
        shrinks-append k [] (f m) (flat_map f (handed_all ks ms)) (flat_map f ms) (shrinks-none k (f m)) more

keys-shrink : (ks : List Key) (k : Key) (ms : List Mark) → Shrinks k (keys (handed_all ks ms)) (keys ms)
keys-shrink ks k ms =
    let rest = handed_all ks ms in
    shrinks-append k _ _ (flat_map newest_keys rest) (flat_map newest_keys ms)
    (shrinks-append k _ _ (in_order (flat_map value_keys rest)) (in_order (flat_map value_keys ms))
    (shrinks-append k _ _ (flat_map topic_keys rest) (flat_map topic_keys ms)
    (shrinks-append k (in_order (flat_map end_keys rest)) (in_order (flat_map end_keys ms))
    (in_order (flat_map reply_keys rest)) (in_order (flat_map reply_keys ms))
    (shrinks-in_order k (flat_map end_keys rest) (flat_map end_keys ms)
    (flat-shrink ks k end_keys (ends-shrink ks k) ms))
    (shrinks-in_order k (flat_map reply_keys rest) (flat_map reply_keys ms)
    (flat-shrink ks k reply_keys (replies-shrink ks k) ms)))
    (flat-shrink ks k topic_keys (topics-shrink ks k) ms))
    (shrinks-in_order k (flat_map value_keys rest) (flat_map value_keys ms)
    (flat-shrink ks k value_keys (values-shrink ks k) ms)))
    (flat-shrink ks k newest_keys (newest-shrink ks k) ms)

-- ---- the first keys are handed

kind-self : (a : Kind) → is_kind a a ≡ true
kind-self Of_end = refl
kind-self Of_publish = refl
kind-self Of_setting = refl
kind-self Of_topic = refl
kind-self Of_value = refl

key-self : (k : Key) → is_key k k ≡ true
key-self k = rw (kind-self k.kind, eqb-self k.topic, eqb-self k.place) refl

-- the first is among the first
first-in : (k : Key) (ks : List Key) → is_in (k ∷ ks) k ≡ true
first-in k ks = ap (λ b. b || is_in ks k) (key-self k)

-- what is handed is left no more
first-gone : (k : Key) (ks : List Key) (ms : List Mark) → is_in (keys (handed_all (k ∷ ks) ms)) k ≡ false
first-gone k ks ms = by (is_in (keys (handed_all (k ∷ ks) ms)) k) refl
  where
    by : (b : Bool) → is_in (keys (handed_all (k ∷ ks) ms)) k ≡ b
        → is_in (keys (handed_all (k ∷ ks) ms)) k ≡ false
    by true h =
        let left = (left-keys (k ∷ ks) k ms h).1 in
        let first = first-in k ks in
        absurd (cc)
    by false h = h

-- where some are owed fewer are left, and where none is none is left
pub fewer-keys : (budget : ℕ) (ms : List Mark) → 1 ≤ budget
    → length (keys (handed_all (take budget (keys ms)) ms)) ≤ length (keys ms) - 1
fewer-keys budget ms some = by budget some (keys ms) refl
  where
    by : (n : ℕ) → 1 ≤ n → (all : List Key) → keys ms ≡ all
        → length (keys (handed_all (take n all) ms)) ≤ length all - 1
    by zero some all e = absurd (omega arith)
    by (suc n) some [] e =
        let same = ap length e in
        let less = (keys-shrink [] (topic_key 0) ms).no_longer in
        omega arith
    by (suc n) some (k ∷ rest) e =
        let same = ap length e in
        let less =
        (keys-shrink (k ∷ take n rest) k ms).shorter
        (ap (λ qs. is_in qs k) e ∙ first-in k rest) (first-gone k (take n rest) ms) in
        omega arith
