-- What is seen of the value in the lock, and what one turn does to it.
use Rattle.std.specs.Prelude.{◌≡◌, ℕ, List, [], ◌∷◌, ◌++◌, Option, Some, None, Bool, false, Vec, Result, Ok, Err, IfSome, MatchResult}
use Rattle.nt_rules.specs.declared.act.Act.{Act}
use Rattle.nt_rules.specs.declared.act.StepOut.{StepOut}
use Rattle.nt_rules.specs.declared.act.Entry.{Entry}
use Rattle.nt_rules.specs.declared.topic.Saved.{Saved}
use Rattle.nt_rules.specs.declared.start.Start.{Start}
use Rattle.nt_rules.specs.history.Step.{ServerState, IsEntryOf}
use Rattle.nt_lock.specs.declared.view.Kept.{Kept}
use Rattle.nt_lock.specs.declared.view.Note.{Note}
use Rattle.nt_lock.specs.declared.view.Note.TheVariants as note
use Rattle.nt_record.specs.Recording.{Recording}
use Rattle.nt_record.specs.declared.recorder.RecState.TheVariants.{Off}
use Rattle.nt_hall.specs.declared.locked.Last.{Last}
use Rattle.nt_hall.specs.declared.locked.Last.TheVariants.{Made, Refused, Looked, Unmarked}
use Rattle.nt_hall.specs.declared.work.Looked as looked
use Rattle.nt_hall.specs.Histories.{IsHistory, StandsFor, IsNext, IsLook, IsSaved}

-- what it tells of its history, what its last turn did, and its recorder
pub record LockedView (S : Type 0) : Type 0 where
  pub kept : Kept
  pub last : Note
  pub recorder : Recording S

-- what the last turn did
abbrev pub note_of : Last → Note
note_of (Made entry) = note.Made entry.value
note_of Refused = note.Refused
note_of (Looked failed) = note.Looked failed
note_of Unmarked = note.Unmarked

-- What the type keeps: the journal counts as many entries; while it tells them and no turn was refused, the server
-- stands for them; and a recorder that was off is as it was.
pub record IsKeeping {S : Type 0} (server : ServerState) (start : Start) (told : Option (List Entry))
    (counted count : ℕ) (failed : Bool) (opened recorder : Recording S) : Type 0 where
  pub count_is : counted ≡ count
  pub stands : failed ≡ false → IfSome told (StandsFor server start)
  pub recorded : opened.state ≡ Off → recorder ≡ opened

-- ---- what one turn does

-- an act that is answered: what it was answered and its entry are those of the list that was told
pub record IsActed {S : Type 0} (worker now : ℕ) (act : Act) (out : StepOut) (found left : LockedView S)
    : Type 0 where
  pub well : found.kept.failed ≡ false
  pub entry : Entry
  pub last_is : left.last ≡ note.Made entry
  pub entry_is : IsEntryOf worker now act out entry
  pub next : IfSome found.kept.told (λ list. IsNext found.kept.origin.start list worker now act out entry)
  pub before : IfSome found.kept.told (IsHistory found.kept.origin.start)
  pub after : IfSome left.kept.told (IsHistory found.kept.origin.start)

abbrev pub DidAct : {S E : Type 0} → ℕ → Act → ℕ → LockedView S → Result StepOut E → LockedView S → Type 0
DidAct now act worker found reply left =
    MatchResult reply (λ out. IsActed worker now act out found left) (λ _. left.last ≡ note.Refused)

-- a look: it tells whether a turn was refused, and else what the list says
pub record DidLook {S : Type 0} (conn : ℕ) (found : LockedView S) (reply : looked.Looked) (left : LockedView S)
    : Type 0 where
  pub failed : reply.failed ≡ found.kept.failed
  pub last_is : left.last ≡ note.Looked reply.failed
  pub value : reply.failed ≡ false
      → IfSome found.kept.told (λ list. IsLook found.kept.origin.start list conn reply)

-- what a saving answers, where it does
abbrev pub saved_list : {Y E : Type 0} → Result (Vec Saved Y) E → Option (List Saved)
saved_list (Ok saved) = Some saved.items
saved_list (Err e) = None

-- a saving: where it is answered no turn was refused, and what is saved is what the list says
pub record DidSave {S : Type 0} (found : LockedView S) (reply : Option (List Saved)) (left : LockedView S)
    : Type 0 where
  pub last_is : left.last ≡ note.Unmarked
  pub well : IfSome reply (λ saved. found.kept.failed ≡ false)
  pub value : IfSome reply (λ saved. IfSome found.kept.told (λ list. IsSaved found.kept.origin.start list saved))
