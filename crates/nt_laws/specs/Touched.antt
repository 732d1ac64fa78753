-- The meta topics that an entry touches, by their names (NetworkTables 4.1, "Server-Published Meta Topics"): no other
-- one begins or ends with it, or has another value after it.
use Rattle.std.specs.Prelude.{ℕ, Bool, List, [], ◌∷◌, ◌++◌, map, filter, codes, is_none, not, ◌||◌, ◌==◌, nat_le, if◌then◌else◌}
use Rattle.std.specs.List.{list_any, flat_map}
use Rattle.nt_control.specs.declared.message.ClientMsg.{ClientMsg}
use Rattle.nt_control.specs.declared.message.ClientMsg.TheVariants.{Publish, Unpublish, SetProps, Subscribe, Unsubscribe}
use Rattle.nt_subs.specs.Subscriptions.{Subs, with_sub, without_sub}
use Rattle.nt_subs.specs.Wishes.{is_matched}
use Rattle.nt_rules.specs.Limits.{last_connection}
use Rattle.nt_rules.specs.declared.topic.Topic.{Topic}
use Rattle.nt_rules.specs.topics.Topics.{has_publisher, has_conn}
use Rattle.nt_rules.specs.declared.meta.MetaNow.{MetaNow}
use Rattle.nt_rules.specs.declared.act.Act.{Act}
use Rattle.nt_rules.specs.declared.act.Act.TheVariants as act
use Rattle.nt_rules.specs.declared.act.Msg.TheVariants.{Control}
use Rattle.nt_rules.specs.declared.act.Deed.{Deed}
use Rattle.nt_rules.specs.declared.act.Deed.TheVariants.{Opened, Said, Closed}
use Rattle.nt_rules.specs.declared.act.Entry.{Entry}
use Rattle.nt_rules.specs.history.Lives.{topics}
use Rattle.nt_rules.specs.history.Now.{Now, open_ones, is_open_for, cause_of}
use Rattle.nt_rules.specs.history.Answer.{given_name, is_used}
use Rattle.nt_rules.specs.history.State.{State, serves, cause_at, given_names}
use Rattle.nt_rules.specs.history.Step.{Plain, plain, plain_of}

-- ---- names

-- of the two meta topics of a connection, and of the two of a topic
abbrev pub client_metas : List ℕ → List (List ℕ)
client_metas name = (codes "$client_pub$" ++ name) ∷ (codes "$client_sub$" ++ name) ∷ []

abbrev pub topic_metas : List ℕ → List (List ℕ)
topic_metas name = (codes "$pub$" ++ name) ∷ (codes "$sub$" ++ name) ∷ []

-- ---- by what a connection does, where it counts

-- whether one of these subscriptions matches the name
abbrev pub are_matching : Subs → List ℕ → Bool
are_matching subs name = list_any (λ s. is_matched s.1 name) subs

-- it opens under this name
abbrev pub touched_by_open : List ℕ → List (List ℕ)
touched_by_open name = codes "$clients" ∷ client_metas name

-- it closes: also those of each topic that it publishes, or that its subscriptions match
abbrev pub touched_by_close : List Topic → Plain → List (List ℕ)
touched_by_close ts o =
    codes "$clients" ∷ client_metas o.name
    ++ flat_map (λ t. topic_metas t.name) (filter (λ t. has_conn o.number t || are_matching o.subs t.name) ts)

-- it publishes a topic, does so no longer, or changes its properties
abbrev pub touched_by_publisher : Plain → List ℕ → List (List ℕ)
touched_by_publisher o name = (codes "$client_pub$" ++ o.name) ∷ topic_metas name

-- it has these subscriptions after: also those of each topic that its subscriptions match before or after
abbrev pub touched_by_subscriber : List Topic → Subs → Plain → List (List ℕ)
touched_by_subscriber ts after o =
    (codes "$client_sub$" ++ o.name) ∷ map (λ t. codes "$sub$" ++ t.name)
    (filter (λ t. are_matching o.subs t.name || are_matching after t.name) ts)

-- it says this
abbrev pub touched_by_message : ClientMsg → List Topic → Plain → List (List ℕ)
touched_by_message (Publish name uid typ props) ts o = touched_by_publisher o name
touched_by_message (Unpublish uid) ts o =
    flat_map (λ t. touched_by_publisher o t.name) (filter (has_publisher o.number uid) ts)
touched_by_message (SetProps name update) ts o = touched_by_publisher o name
touched_by_message (Subscribe uid sub) ts o = touched_by_subscriber ts (with_sub uid sub o.subs) o
touched_by_message (Unsubscribe uid) ts o = touched_by_subscriber ts (without_sub uid o.subs) o

-- what is touched by the open connection of this number
abbrev pub of_connection : ℕ → (Plain → List (List ℕ)) → List Plain → List (List ℕ)
of_connection conn touches opens = flat_map touches (filter (λ o. o.number == conn) opens)

-- ---- by an entry after a history

-- the open connections
abbrev pub opens_now : Now → List Plain
opens_now n = map plain_of (open_ones n.connections)

-- what is ignored touches none, and neither does anything but an opening, a close and a control message
abbrev pub touched_by_deed : Now → ℕ → ℕ → Deed → List (List ℕ)
touched_by_deed n worker conn (Opened name) = touched_by_open name
touched_by_deed n worker conn (Said (Control m)) =
    if is_none (cause_of n worker conn (Control m))
    then of_connection conn (touched_by_message m (topics n.lives)) (opens_now n)
    else []
touched_by_deed n worker conn Closed =
    if is_open_for n.connections worker conn
    then of_connection conn (touched_by_close (topics n.lives)) (opens_now n)
    else []
touched_by_deed n worker conn deed = []

abbrev pub touched : Now → Entry → List (List ℕ)
touched n e = touched_by_deed n e.worker e.conn e.deed

-- ---- by an act, over what a server keeps

abbrev pub touched_by_act : State → ℕ → Act → List (List ℕ)
touched_by_act s worker (act.Open name version) =
    if nat_le last_connection s.opened then [] else touched_by_open (given_name (given_names s.opens) name)
touched_by_act s worker (act.Said conn (Control m)) =
    if is_none (cause_at s worker conn (Control m))
    then of_connection conn (touched_by_message m s.topics) (map plain s.opens)
    else []
touched_by_act s worker (act.Close conn) =
    if serves s.opens worker conn then of_connection conn (touched_by_close s.topics) (map plain s.opens) else []
touched_by_act s worker a = []

-- ---- the others

-- those of these meta topics that have none of these names
abbrev pub untouched : List (List ℕ) → List MetaNow → List MetaNow
untouched names metas = filter (λ m. not (is_used names m.name)) metas
