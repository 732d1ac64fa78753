-- Topics that are saved.
use Rattle.std.proofs.Common.{◌≡◌, Bool, true, false, cond, List, [], ◌∷◌, ◌++◌, filter, map, refl}
use Rattle.nt_topics.specs.Properties.{is_persistent}
use Rattle.nt_rules.specs.declared.topic.Topic.{Topic}
use Rattle.nt_rules.specs.history.Saved.{saved_topic, persistent_ones}

-- one topic, and then others
pub saved_more : (t : Topic) (ts : List Topic)
    → persistent_ones (t ∷ []) ++ persistent_ones ts ≡ persistent_ones (t ∷ ts)
saved_more t ts = by (is_persistent t.props)
  where
    kept : List Topic → List Topic
    kept ts = filter (λ t. is_persistent t.props) ts

    by : (b : Bool) → map saved_topic (cond b (t ∷ []) []) ++ map saved_topic (kept ts)
        ≡ map saved_topic (cond b (t ∷ kept ts) (kept ts))
    by true = refl
    by false = refl
