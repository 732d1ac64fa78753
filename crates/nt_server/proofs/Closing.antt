-- A connection that closes.
use Rattle.std.proofs.Common.{◌≡◌, ℕ, true, cond, List, map, filter, not, ◌∙◌, ap}
use Rattle.nt_rules.specs.declared.taken.Taken.{Taken}
use Rattle.nt_rules.specs.declared.topic.Topic.{Topic}
use Rattle.nt_rules.specs.topics.Topics.{TableState, dropped}
use Rattle.nt_rules.specs.topics.Changes.{drop_changes}
use Rattle.nt_rules.specs.history.State.{Open, State, is_number, serves, changes_noted, open_metas, refreshed, taken_after, closed_by}
use Rattle.nt_server.specs.Connections.{Connections}

-- the others, told of the topics that end with it
abbrev pub others_told : ℕ → ℕ → List Topic → List Open → List Open
others_told place conn ts opens =
    map (changes_noted place (dropped ts conn) (drop_changes ts conn)) (filter (λ o. not (is_number conn o)) opens)

pub closed-state : (s : State) (place worker conn : ℕ) (t : TableState) (told new : Connections) (taken : List Taken)
    → true ≡ serves s.opens worker conn
    → told ≡ record { opened = s.opened; opens = others_told place conn s.topics s.opens }
    → new ≡ record told { opens = refreshed place (open_metas s.opens s.topics) t.topics told.opens }
    → t.topics ≡ dropped s.topics conn → t.next ≡ s.next
    → taken ≡ taken_after place (dropped s.topics conn) (drop_changes s.topics conn) s.taken
    → record s { opened = new.opened; opens = new.opens; topics = t.topics; next = t.next; taken = taken }
    ≡ cond (serves s.opens worker conn) (closed_by s place conn) s
closed-state s place worker conn t told new taken served told_is new_is topics_are next_is taken_is =
    ap (λ (k : Connections). with k t.topics t.next taken) new_is
    ∙ ap (λ (k : Connections). with (record k {
      opens = refreshed place (open_metas s.opens s.topics) t.topics k.opens;
    }) t.topics t.next taken) told_is
    ∙ ap (λ ts. with (record {
      opened = s.opened;
      opens = refreshed place (open_metas s.opens s.topics) ts (others_told place conn s.topics s.opens);
    }) ts t.next taken) topics_are
    ∙ ap (λ n. with all (dropped s.topics conn) n taken) next_is
    ∙ ap (λ (t : List Taken). with all (dropped s.topics conn) s.next t) taken_is
    ∙ ap (λ b. cond b (closed_by s place conn) s) served
  where
    with : Connections → List Topic → ℕ → List Taken → State
    with k ts n taken = record s { opened = k.opened; opens = k.opens; topics = ts; next = n; taken = taken }

    all : Connections
    all =
        record {
          opened = s.opened;
          opens = refreshed place (open_metas s.opens s.topics) (dropped s.topics conn)
              (others_told place conn s.topics s.opens);
        }
