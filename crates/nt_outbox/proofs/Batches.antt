-- A batch is empty exactly where nothing is owed.
use Rattle.std.proofs.Common.{◌≡◌, ◌≤◌, ◌↔◌, ℕ, zero, suc, Bool, true, false, cond, not, List, [], ◌∷◌, map, filter, take, refl, ap, ◌∙◌, arith}
use Rattle.nt_control.specs.declared.message.ServerMsg.{ServerMsg}
use Rattle.nt_frames.specs.declared.message.ValueMsg.{ValueMsg}
use Rattle.nt_rules.specs.outbox.Marks.{Mark}
use Rattle.nt_rules.specs.declared.batch.Batch.{Batch}
use Rattle.nt_rules.specs.outbox.Keys.{Key, is_value}
use Rattle.nt_rules.specs.outbox.Messages.{Living, text_of, value_of, batch_of}

none-taken : (n : ℕ) (ks : List Key) → 1 ≤ n → take n ks ≡ [] → ks ≡ []
none-taken zero ks le e = absurd (omega arith)
none-taken (suc n) [] le e = refl
none-taken (suc n) (k ∷ ks) le e = absurd (cc)

no-messages : (f : Key → ServerMsg) (g : Key → ValueMsg) (ks : List Key)
    → map f (filter (λ k. not (is_value k)) ks) ≡ [] → map g (filter is_value ks) ≡ [] → ks ≡ []
no-messages f g [] t v = refl
no-messages f g (k ∷ ks) t v = by (is_value k) t v
  where
    by : (b : Bool) → map f (cond (not b) (k ∷ filter (λ k. not (is_value k)) ks)
        (filter (λ k. not (is_value k)) ks)) ≡ []
        → map g (cond b (k ∷ filter is_value ks) (filter is_value ks)) ≡ [] → k ∷ ks ≡ []
    by true t v = absurd (cc)
    by false t v = absurd (cc)

pub empty-batch : (living : Living) (now : ℕ) (marks : List Mark) (n : ℕ) (ks : List Key) (b : Batch) → 1 ≤ n
    → b ≡ batch_of living now marks (take n ks) → ((b.texts ≡ []) × (b.values ≡ [])) ↔ (ks ≡ [])
empty-batch living now marks n ks b le e = (
  λ h. none-taken n ks le (no-messages (text_of living marks) (value_of living now marks) (take n ks)
      (let t = h.0 in let s = ap (λ (b : Batch). b.texts) e in cc)
      (let v = h.1 in let s = ap (λ (b : Batch). b.values) e in cc)),
  λ h. let none : take n ks ≡ [] = rw h (empty n) in (
    ap (λ (b : Batch). b.texts) e
        ∙ ap (λ ks. map (text_of living marks) (filter (λ k. not (is_value k)) ks)) none,
    ap (λ (b : Batch). b.values) e ∙ ap (λ ks. map (value_of living now marks) (filter is_value ks)) none,
  ),
)
  where
    empty : (n : ℕ) → take {A = Key} n [] ≡ []
    empty zero = refl
    empty (suc n) = refl
