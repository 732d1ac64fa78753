-- As many messages are owed as the topics leave. A number of 64 bits counts them.
use Rattle.std.proofs.Common.{◌≡◌, ◌≤◌, ◌<◌, ◌+◌, ◌*◌, ◌^◌, ℕ, Bool, true, false, cond, not, ◌&&◌, List, [], ◌∷◌, Option, Some, None, map, length, refl, arith, length-append}
use Rattle.std.specs.List.{flat_map}
use Rattle.nt_rules.specs.declared.waiting.Placed.{Placed}
use Rattle.nt_rules.specs.declared.waiting.Setting.{Setting}
use Rattle.nt_rules.specs.outbox.Marks.{Mark}
use Rattle.nt_rules.specs.outbox.Keys.{Key, is_before, insert_key, in_order, end_key, publish_key, setting_key, topic_key, value_key}
use Rattle.nt_rules.specs.outbox.Marks.{end_keys, reply_keys, topic_keys, value_keys, newest_keys, keys, option_items, settings_weight, values_weight, mark_weight, weight, is_wish, is_empty}
use Rattle.nt_outbox.specs.Steps.{mark_count, count, RiseFrom}

length-mapped : {X : Type 0} (f : X → Key) (xs : List X) → length (map f xs) ≡ length xs
length-mapped f [] = refl
length-mapped f (x ∷ xs) = let more = length-mapped f xs in omega arith

length-insert : (k : Key) (ks : List Key) → length (insert_key k ks) ≡ length ks + 1
length-insert k [] = omega arith
length-insert k (x ∷ xs) = by (length-insert k xs) (is_before k x)
  where
    by : length (insert_key k xs) ≡ length xs + 1 → (b : Bool)
        → length (cond b (k ∷ x ∷ xs) (x ∷ insert_key k xs)) ≡ length (x ∷ xs) + 1
    by more true = omega arith
    by more false = omega arith

length-in_order : (ks : List Key) → length (in_order ks) ≡ length ks
length-in_order [] = refl
length-in_order (k ∷ ks) = let more = length-in_order ks in omega (arith, length-insert k (in_order ks))

-- the sum of lengths
abbrev lengths : (Mark → List Key) → List Mark → ℕ
lengths f [] = 0
lengths f (m ∷ ms) = length (f m) + lengths f ms

length-flat_map : (f : Mark → List Key) (ms : List Mark) → length (flat_map f ms) ≡ lengths f ms
length-flat_map f [] = refl
length-flat_map f (m ∷ ms) =
    let more = length-flat_map f ms in omega (arith, length-append (f m) (flat_map f ms))

parts : (ms : List Mark)
    → lengths end_keys ms + lengths reply_keys ms + lengths topic_keys ms + lengths value_keys ms
    + lengths newest_keys ms ≡ count ms
parts [] = omega arith
parts (m ∷ ms) =
    let more = parts ms in
    let ends = length-mapped (end_key m.id) (option_items m.over) in
    let replies =
    length-append (map (λ p. publish_key m.id p.place) m.publishes) (map
    (λ s. setting_key m.id s.place) m.settings) in
    let publishes = length-mapped (λ p. publish_key m.id p.place) m.publishes in
    let settings = length-mapped (λ s. setting_key m.id s.place) m.settings in
    let values = length-mapped (λ p. value_key m.id p.place) m.values in
    let newest = length-mapped (value_key m.id) (option_items m.newest) in
    omega arith

pub length-keys : (ms : List Mark) → length (keys ms) ≡ count ms
length-keys ms =
    let all = parts ms in
    let a = length-flat_map end_keys ms in
    let b = length-flat_map reply_keys ms in
    let c = length-flat_map topic_keys ms in
    let d = length-flat_map value_keys ms in
    let e = length-flat_map newest_keys ms in
    let x = length-in_order (flat_map end_keys ms) in
    let y = length-in_order (flat_map reply_keys ms) in
    let z = length-in_order (flat_map value_keys ms) in
    simp length-append (omega arith)

-- ---- how many there can be

settings-weigh : (settings : List Setting) → 64 * length settings ≤ settings_weight settings
settings-weigh [] = omega arith
settings-weigh (s ∷ settings) = let more = settings-weigh settings in omega arith

values-weigh : (values : List Placed) → 64 * length values ≤ values_weight values
values-weigh [] = omega arith
values-weigh (p ∷ values) = let more = values-weigh values in omega arith

one-item : (o : Option ℕ) → length (option_items o) ≤ 1
one-item None = omega arith
one-item (Some x) = omega arith

one-topic : (m : Mark) → length (topic_keys m) ≤ 1
one-topic m = by (is_wish m.wish && not m.is_announced && is_empty m.publishes)
  where
    by : (b : Bool) → length (cond b (topic_key m.id ∷ []) []) ≤ 1
    by true = omega arith
    by false = omega arith

-- each message weighs 64 at least, but for an announce and the newest value of a cached topic
mark-weighs : (m : Mark) → 64 * mark_count m ≤ mark_weight m + 128
mark-weighs m =
    let settings = settings-weigh m.settings in
    let values = values-weigh m.values in
    let topic = one-topic m in
    let newest = one-item m.newest in
    omega arith

all-weigh : (ms : List Mark) → 64 * count ms ≤ weight ms + 128 * length ms
all-weigh [] = omega arith
all-weigh (m ∷ ms) = let first = mark-weighs m in let more = all-weigh ms in omega arith

-- there are no more topics than ids
few : (n : ℕ) (ms : List Mark) → RiseFrom n ms → n + length ms ≤ 2 ^ 32
few n [] h = omega arith
few n (m ∷ ms) h = let first = h.0 in let more = few (m.id + 1) ms h.1 in omega arith

-- where their weight fits 64 bits, so does their number
pub counts-fit : (ms : List Mark) → RiseFrom 0 ms → weight ms < 2 ^ 64 → count ms < 2 ^ 60
counts-fit ms rising light =
    let all = all-weigh ms in
    let topics = few 0 ms rising in
    omega arith
