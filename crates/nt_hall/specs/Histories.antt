-- Histories as they are told, the newest entry last: which may be, for which a server stands, and what is answered of
-- them.
use Rattle.std.specs.Prelude.{◌≡◌, ℕ, List, length}
use Rattle.nt_rules.specs.declared.act.Act.{Act}
use Rattle.nt_rules.specs.declared.act.StepOut.{StepOut}
use Rattle.nt_rules.specs.declared.act.Entry.{Entry}
use Rattle.nt_rules.specs.declared.start.Start.{Start}
use Rattle.nt_rules.specs.declared.topic.Saved.{Saved}
use Rattle.nt_rules.specs.history.Lives.{topics}
use Rattle.nt_rules.specs.history.Now.{now_of}
use Rattle.nt_rules.specs.history.Answer as history
use Rattle.nt_rules.specs.history.Owed as owes
use Rattle.nt_rules.specs.history.Saved.{IsSavedSet, AreSaved}
use Rattle.nt_rules.specs.history.Order.{past_of}
use Rattle.nt_rules.specs.history.Step.{AreWithin, ServerState, Represents}
use Rattle.nt_rules.specs.history.Trees.{AreTrees}
use Rattle.nt_hall.specs.declared.work.Looked.{Looked}

-- A history that may be: it begins with topics that can be restored, its moments, times and sizes are within their
-- limits, each entry is lawful after those before it, and the keys of its properties rise.
pub record IsHistory (start : Start) (list : List Entry) : Type 0 where
  pub start_is : IsSavedSet start.saved
  pub within : AreWithin (past_of list)
  pub legal : history.Legal start (past_of list)
  pub trees : AreTrees start (past_of list)

-- the server stands for the list
abbrev pub StandsFor : ServerState → Start → List Entry → Type 0
StandsFor server start list = Represents server start (past_of list)

-- the act is answered as the list says, and the entry is that of the act
pub record IsNext (start : Start) (list : List Entry) (worker now : ℕ) (act : Act) (out : StepOut) (e : Entry)
    : Type 0 where
  pub out_is : out ≡ history.answer start (past_of list) worker now act
  pub entry_is : e
      ≡ history.entry worker (history.moment_of (now_of start (past_of list)) now) act out

-- what a look at a connection tells is what the list says
pub record IsLook (start : Start) (list : List Entry) (conn : ℕ) (look : Looked) : Type 0 where
  pub lawful : IsHistory start list
  pub pending : look.pending ≡ length (owes.owed start (past_of list) conn)
  pub behind : look.behind ≡ owes.behind start (past_of list) conn
  pub shut : look.shut ≡ (now_of start (past_of list)).shut

-- what is saved is what the list says
pub record IsSaved (start : Start) (list : List Entry) (saved : List Saved) : Type 0 where
  pub lawful : IsHistory start list
  pub saved_are : AreSaved (topics (now_of start (past_of list)).lives) saved
