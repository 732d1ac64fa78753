-- Histories in the order in which they are told, and what a server began with.
use Rattle.std.specs.Prelude.{List, map, reverse}
use Rattle.nt_rules.specs.declared.act.Entry.{Entry}
use Rattle.nt_rules.specs.declared.start.Start.{Start}
use Rattle.nt_rules.specs.history.Saved.{saved_topic}
use Rattle.nt_rules.specs.history.Step.{ServerState}

-- the history of these entries, the newest of which stands last: in a history the newest stands first
abbrev pub past_of : List Entry → List Entry
past_of told = reverse told

-- what a server without entries began with: its permits, and its topics as they would be saved
abbrev pub origin_in : ServerState → Start
origin_in server =
    record { permits = server.state.permits; saved = map saved_topic server.state.topics }
