-- What a drain hands, where nothing of a meta topic is kept: whatever the meta topics are, it is the same.
use Rattle.std.proofs.Common.{◌≡◌, ◌<◌, ◌==◌, ℕ, Bool, true, false, cond, leb, List, [], ◌∷◌, Option, Some}
use Rattle.std.proofs.Common.{filter, refl, sym, ◌∙◌, ap, arith}
use Rattle.std.specs.Prelude.{option_map, unwrap_or}
use Rattle.std.specs.List.{find}
use Rattle.std.proofs.lemmas.Bool.Decides.{nat_tests}
use Rattle.nt_frames.specs.declared.message.ValueMsg.{ValueMsg}
use Rattle.nt_rules.specs.Limits.{first_meta}
use Rattle.nt_rules.specs.declared.meta.MetaNow.{MetaNow}
use Rattle.nt_rules.specs.declared.topic.Topic.{Topic}
use Rattle.nt_rules.specs.outbox.Keys.{Key, is_value}
use Rattle.nt_rules.specs.outbox.Marks.{Mark}
use Rattle.nt_rules.specs.outbox.Messages.{Living, meta_value, placed_value, value_by, value_of, no_value, mark_at}
use Rattle.nt_rules.specs.outbox.Calls.{OutboxState, handed_keys, drained_batch}
use Rattle.nt_laws.specs.Ids.{AreLow}
use Rattle.nt_laws.proofs.topics.ItemFacts.{map-same, each-all}

abbrev living : List Topic → List MetaNow → Living
living ts ms = record { topics = ts; metas = ms }

quiet-value : (ts : List Topic) (ms ms-2 : List MetaNow) (now : ℕ) (m : Mark) (place : ℕ) → m.id < first_meta
    → value_by (living ts ms) now m place ≡ value_by (living ts ms-2) now m place
quiet-value ts ms ms-2 now m place less =
    let low : leb first_meta m.id ≡ false = grind (arith, nat_tests) in
    ap (λ b. cond b (meta_value now m.id (find (λ t. t.id == m.id) ms))
    (placed_value (living ts ms) m (find (λ p. p.place == place) m.values))) low
    ∙ sym (ap (λ b. cond b (meta_value now m.id (find (λ t. t.id == m.id) ms-2))
    (placed_value (living ts ms) m (find (λ p. p.place == place) m.values))) low)

quiet-key : (ts : List Topic) (ms ms-2 : List MetaNow) (now : ℕ) (marks : List Mark) (k : Key) → AreLow marks
    → value_of (living ts ms) now marks k ≡ value_of (living ts ms-2) now marks k
quiet-key ts ms ms-2 now [] k low = refl
quiet-key ts ms ms-2 now (m ∷ marks) k low =
    by (m.id == k.topic) (quiet-key ts ms ms-2 now marks k low.1)
  where
    told_by : List MetaNow → Option Mark → ValueMsg
    told_by ms found = unwrap_or (option_map (λ m. value_by (living ts ms) now m k.place) found) (no_value k.topic)

    by : (b : Bool) → told_by ms (mark_at k.topic marks) ≡ told_by ms-2 (mark_at k.topic marks)
        → told_by ms (cond b (Some m) (mark_at k.topic marks)) ≡ told_by ms-2 (cond b (Some m) (mark_at k.topic marks))
    by true more = quiet-value ts ms ms-2 now m k.place low.0
    by false more = more

pub quiet-batch : (ts : List Topic) (ms ms-2 : List MetaNow) (now budget : ℕ) (b : OutboxState) → AreLow b.marks
    → drained_batch (record { topics = ts; metas = ms }) now budget b
    ≡ drained_batch (record { topics = ts; metas = ms-2 }) now budget b
quiet-batch ts ms ms-2 now budget b low =
    ap (λ values. record (drained_batch (living ts ms) now budget b) { values = values })
    (map-same (value_of (living ts ms) now b.marks) (value_of (living ts ms-2) now b.marks) values
    (each-all (λ k. value_of (living ts ms) now b.marks k ≡ value_of (living ts ms-2) now b.marks k)
    (λ k. quiet-key ts ms ms-2 now b.marks k low) values))
  where
    values : List Key
    values = filter is_value (handed_keys budget b)
