-- What a server began with is read off it before its first entry.
use Rattle.std.proofs.Common.{◌≡◌, ℕ, ◌+◌, List, [], ◌∷◌, Option, Some, None, option_map, map, refl, ap, ◌∙◌}
use Rattle.std.specs.List.{AllByRecursion}
use Rattle.nt_values.specs.declared.value.Value.{Value}
use Rattle.nt_rules.specs.declared.topic.Saved.{Saved}
use Rattle.nt_rules.specs.declared.topic.Topic.{Topic}
use Rattle.nt_rules.specs.declared.start.Start.{Start}
use Rattle.nt_rules.specs.topics.Topics.{at_zero}
use Rattle.nt_rules.specs.history.Lives.{topics, restored}
use Rattle.nt_rules.specs.history.Order.{origin_in}
use Rattle.nt_rules.specs.history.Saved.{IsRestorable, saved_topic}
use Rattle.nt_rules.specs.history.Step.{Core, ServerState, Represents}
use Rattle.nt_laws.proofs.topics.TopicLaws.{topic-restored}

-- a restored value is the one that was saved
value-again : (o : Option Value) → option_map (λ v. v.value) (option_map at_zero o) ≡ o
value-again None = refl
value-again (Some v) = refl

-- what is restored and saved again is the same
pub saved_again : (id : ℕ) (saved : List Saved) → AllByRecursion IsRestorable saved
    → map saved_topic (topics (restored id saved)) ≡ saved
saved_again id [] each = refl
saved_again id (s ∷ saved) each =
    ap (λ (t : Topic). saved_topic t ∷ map saved_topic (topics (restored (id + 1) saved)))
    (topic-restored id s each.0.held)
    ∙ ap (λ (v : Option Value). record s { value = v } ∷ map saved_topic (topics (restored (id + 1) saved)))
    (value-again s.value)
    ∙ ap (λ (rest : List Saved). s ∷ rest) (saved_again (id + 1) saved each.1)

abbrev start_from : Core → Start
start_from c = record { permits = c.permits; saved = map saved_topic c.topics }

-- of a server that represents a start with no entries its permits and its topics are those of the start
pub origin_is : (server : ServerState) (start : Start) → Represents server start [] → origin_in server ≡ start
origin_is server start h =
    ap start_from h.core_is
    ∙ ap (λ (saved : List Saved). record start { saved = saved }) (saved_again 1 start.saved h.start_is.each)
