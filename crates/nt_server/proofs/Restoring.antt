-- A saved set is restored topic by topic, and none is refused.
use Rattle.std.proofs.Common.{◌≡◌, ◌≤◌, ◌+◌, ℕ, Bool, true, false, ◌||◌, List, [], ◌∷◌, ◌++◌, length, length-append, refl, sym, ◌∙◌, ap, append_assoc, bytes_eq, arith}
use Rattle.std.specs.List.{list_any, AllByRecursion}
use Rattle.std.proofs.lemmas.List.Folds.{list_any-append}
use Rattle.std.proofs.lemmas.Cmp.{nat_list_eq_equiv}
use Rattle.nt_rules.specs.declared.topic.Topic.{Topic}
use Rattle.nt_rules.specs.declared.topic.Saved.{Saved}
use Rattle.nt_rules.specs.topics.Topics.{is_named, restored_topic, restored as restored_in}
use Rattle.nt_rules.specs.history.Lives.{topics, restored}
use Rattle.nt_rules.specs.history.Saved.{HasDistinctNames, IsRestorable, IsSavedSet}
use Rattle.nt_rules.specs.history.Trees.{HaveTrees}
use Rattle.nt_topics.specs.Trees.{IsOrdered}
use Rattle.nt_laws.proofs.topics.TopicLaws.{topic-restored}

-- the topics so far and those that follow are all that were saved, and the keys of those so far rise
pub record IsRestoring (ts : List Topic) (next : ℕ) (rest saved : List Saved) : Type 0 where
  pub topics_are : ts ++ topics (restored next rest) ≡ topics (restored 1 saved)
  pub next_is : next + length rest ≡ length saved + 1
  pub count_is : length ts + 1 ≡ next
  pub few : length saved ≤ 16384
  pub unnamed : AllByRecursion (λ s. list_any (is_named s.name) ts ≡ false) rest
  pub names : HasDistinctNames rest
  pub each : AllByRecursion IsRestorable rest
  pub trees : HaveTrees rest → HaveTrees saved

none_named : (saved : List Saved) → AllByRecursion (λ s. list_any (is_named s.name) [] ≡ false) saved
none_named [] = tt
none_named (s ∷ saved) = (refl, none_named saved)

pub restoring-start : (saved : List Saved) → IsSavedSet saved → IsRestoring [] 1 saved saved
restoring-start saved h =
    record {
      topics_are = refl;
      next_is = omega arith;
      count_is = refl;
      few = h.few;
      unnamed = none_named saved;
      names = h.names;
      each = h.each;
      trees = λ t. t;
    }

neither : (a b : Bool) → (a || b) ≡ false → (a ≡ false) × (b ≡ false)
neither false b e = (refl, e)
neither true b e = absurd (cc)

-- the topics with one more have none of the other names
still_unnamed : (ts : List Topic) (id : ℕ) (s : Saved) (rest : List Saved)
    → list_any (λ r. bytes_eq r.name s.name) rest ≡ false
    → AllByRecursion (λ r. list_any (is_named r.name) ts ≡ false) rest
    → AllByRecursion (λ r. list_any (is_named r.name) (ts ++ restored_topic id s ∷ []) ≡ false) rest
still_unnamed ts id s [] d h = tt
still_unnamed ts id s (r ∷ rest) d h =
    let other : (bytes_eq r.name s.name ≡ false) × (list_any (λ r. bytes_eq r.name s.name) rest ≡ false) =
    neither (bytes_eq r.name s.name) (list_any (λ r. bytes_eq r.name s.name) rest) d in (
      list_any-append (is_named r.name) ts (restored_topic id s ∷ [])
          ∙ ap (λ b. b || (bytes_eq s.name r.name || false)) h.0
          ∙ ap (λ b. b || false) (nat_list_eq_equiv.symm s.name r.name ∙ other.0),
      still_unnamed ts id s rest other.1 h.1,
    )

pub restoring-more : (ts : List Topic) (next : ℕ) (s : Saved) (rest saved : List Saved)
    → IsOrdered s.props → IsRestoring ts next (s ∷ rest) saved
    → IsRestoring (restored_in ts next s) (next + 1) rest saved
restoring-more ts next s rest saved ordered h =
    record {
      topics_are =
          append_assoc ts (restored_topic next s ∷ []) (topics (restored (next + 1) rest))
          ∙ ap (λ t. ts ++ t ∷ topics (restored (next + 1) rest)) (sym (topic-restored next s h.each.0.held))
          ∙ h.topics_are;
      next_is = let k : next + length (s ∷ rest) ≡ length saved + 1 = h.next_is in omega arith;
      count_is = omega (arith, length-append ts (restored_topic next s ∷ []), h.count_is);
      few = h.few;
      unnamed = still_unnamed ts next s rest h.names.0 h.unnamed.1;
      names = h.names.1;
      each = h.each.1;
      trees = λ t. h.trees (ordered, t);
    }
