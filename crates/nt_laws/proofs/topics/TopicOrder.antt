-- In every history living topics stand by rising id, and their names differ.
use Rattle.std.proofs.Common.{◌≡◌, ◌≢◌, ◌<◌, ℕ, suc, Bool, true, false, cond, List, [], ◌∷◌, Some, None, refl, sym, ◌∙◌}
use Rattle.std.proofs.Common.{arith}
use Rattle.std.specs.List.{AllByRecursion, list_any, cons_option}
use Rattle.std.proofs.lemmas.Slice.Eq.{bytes_eq-Decides}
use Rattle.nt_rules.specs.declared.topic.Topic.{Topic}
use Rattle.nt_rules.specs.topics.Topics.{is_named}
use Rattle.nt_rules.specs.topics.Apart.{AreApart}
use Rattle.nt_rules.specs.meta.Rosters.{Pairwise}
use Rattle.nt_rules.specs.declared.act.Entry.{Entry}
use Rattle.nt_rules.specs.declared.start.Start.{Start}
use Rattle.nt_rules.specs.history.Lives.{Life, topic_of, topics, is_living}
use Rattle.nt_rules.specs.history.Now.{now_of}
use Rattle.nt_rules.specs.history.Saved.{IsSavedSet}
use Rattle.nt_laws.proofs.histories.Facts.{IsNumberedLives, lives-numbered}
use Rattle.nt_laws.proofs.topics.OneName.{HasOneName, or-false, called-topics, lives-named}

-- ---- ids

ids-above : (k n : ℕ) (lives : List Life) → k < n → IsNumberedLives n lives
    → AllByRecursion (λ (t : Topic). k < t.id) (topics lives)
ids-above k n [] less h = tt
ids-above k n (l ∷ lives) less h = by (is_living l) (ids-above k (suc n) lives (omega arith) h.1)
  where
    by : (b : Bool) → AllByRecursion (λ (t : Topic). k < t.id) (topics lives)
        → AllByRecursion (λ (t : Topic). k < t.id)
        (cons_option (cond b (Some (topic_of l)) None) (topics lives))
    by true more = (let same = h.0 in omega arith, more)
    by false more = more

pub ids-rise : (n : ℕ) (lives : List Life) → IsNumberedLives n lives
    → Pairwise (λ (a b : Topic). a.id < b.id) (topics lives)
ids-rise n [] h = tt
ids-rise n (l ∷ lives) h = by (is_living l) (ids-rise (suc n) lives h.1)
  where
    by : (b : Bool) → Pairwise (λ (a b : Topic). a.id < b.id) (topics lives)
        → Pairwise (λ (a b : Topic). a.id < b.id)
        (cons_option (cond b (Some (topic_of l)) None) (topics lives))
    by true more = (ids-above l.id (suc n) lives (let same = h.0 in omega arith) h.1, more)
    by false more = more

-- ---- names

unnamed-differ : (name : List ℕ) (ts : List Topic) → list_any (is_named name) ts ≡ false
    → AllByRecursion (λ (t : Topic). name ≢ t.name) ts
unnamed-differ name [] e = tt
unnamed-differ name (t ∷ ts) e =
    let both = or-false (is_named name t) (list_any (is_named name) ts) e in
    let here : is_named name t ≡ false = both.0 in (
      λ same. let yes : is_named name t ≡ true = (bytes_eq-Decides t.name name).1 (sym same) in cc,
      unnamed-differ name ts both.1,
    )

pub names-apart : (lives : List Life) → HasOneName lives
    → Pairwise (λ (a b : Topic). a.name ≢ b.name) (topics lives)
names-apart [] h = tt
names-apart (l ∷ lives) h = by (is_living l) refl (names-apart lives h.1)
  where
    by : (b : Bool) → is_living l ≡ b → Pairwise (λ (a b : Topic). a.name ≢ b.name) (topics lives)
        → Pairwise (λ (a b : Topic). a.name ≢ b.name)
        (cons_option (cond b (Some (topic_of l)) None) (topics lives))
    by true living more =
        (unnamed-differ l.name (topics lives) (sym (called-topics l.name lives) ∙ h.0 living), more)
    by false living more = more

-- ---- in every history

pub topics-apart : (start : Start) (past : List Entry) → IsSavedSet start.saved
    → AreApart (topics (now_of start past).lives)
topics-apart start past saved =
    record {
      by_id = ids-rise 1 (now_of start past).lives (lives-numbered start past);
      names_differ = names-apart (now_of start past).lives (lives-named start past saved.names);
    }
