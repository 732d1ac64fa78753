-- The changes of topics that a history makes.
use Rattle.std.specs.Prelude.{ℕ, List, [], ◌∷◌, ◌++◌, map, length, ◌+◌, if◌then◌else◌}
use Rattle.nt_rules.specs.declared.topic.Change.{Change}
use Rattle.nt_rules.specs.declared.topic.Saved.{Saved}
use Rattle.nt_rules.specs.topics.Changes.{drop_changes, restore_changes}
use Rattle.nt_rules.specs.declared.act.Deed.{Deed}
use Rattle.nt_rules.specs.declared.act.Deed.TheVariants.{Said, Closed}
use Rattle.nt_rules.specs.declared.act.Entry.{Entry}
use Rattle.nt_rules.specs.history.Lives.{topics}
use Rattle.nt_rules.specs.declared.start.Start.{Start}
use Rattle.nt_rules.specs.history.Now.{Now, is_open_for, cause_of, now_of}
use Rattle.nt_rules.specs.history.State.{changes_said, if_counted}

-- what a deed changes: a message that counts does as the table does, and a close ends topics by rising id
abbrev pub deed_changes : Now → ℕ → ℕ → Deed → List Change
deed_changes n worker conn (Said m) =
    if_counted (cause_of n worker conn m) (changes_said (topics n.lives) (length n.lives + 1) conn m)
deed_changes n worker conn Closed =
    if is_open_for n.connections worker conn then drop_changes (topics n.lives) conn else []
deed_changes n worker conn deed = []

-- the changes that an entry adds to those of the history before it
abbrev pub added_changes : Start → List Entry → Entry → List Change
added_changes start past e = deed_changes (now_of start past) e.worker e.conn e.deed

-- a change with the moment of its entry
pub record Dated : Type 0 where
  pub moment : ℕ
  pub change : Change

abbrev pub dated : ℕ → List Change → List Dated
dated moment changes = map (λ c. record { moment = moment; change = c }) changes

-- topics that were saved begin at the moment 0, one after another by rising id
abbrev pub restored_changes : ℕ → List Saved → List Change
restored_changes id [] = []
restored_changes id (s ∷ saved) = restore_changes id s ++ restored_changes (id + 1) saved

-- all changes of a history, in the order of its entries
abbrev pub changes_of : Start → List Entry → List Dated
changes_of start [] = dated 0 (restored_changes 1 start.saved)
changes_of start (e ∷ past) = changes_of start past ++ dated e.now (added_changes start past e)
