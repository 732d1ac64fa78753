-- What a board tells.
use Rattle.std.specs.Prelude.{ℕ, [], None}
use Rattle.nt_rules.specs.declared.act.Entry.{Entry}
use Rattle.nt_rules.specs.declared.act.Deed.TheVariants.{Permitted}
use Rattle.nt_lock.specs.declared.view.Note.{Note}
use Rattle.nt_lock.specs.declared.view.Note.TheVariants as note
use Rattle.nt_lock.specs.declared.view.Origin.{Origin}
use Rattle.nt_lock_rows.specs.declared.board.Last.{Last}
use Rattle.nt_lock_rows.specs.declared.board.Last.TheVariants.{Made, Refused, Looked}

-- the entry of a worker
abbrev pub entry_of : ℕ → Entry
entry_of worker = record { worker = worker; conn = 0; now = 0; deed = Permitted }

-- what the last turn did
abbrev pub note_of : Last → Note
note_of (Made worker) = note.Made (entry_of worker)
note_of Refused = note.Refused
note_of (Looked failed) = note.Looked failed

-- a board opens with nothing
abbrev pub nothing : Origin
nothing = record { start = record { permits = 0; saved = [] }; taken = None; faults = 0 }
