-- Moments and values of a history stay within their bounds, and the keys of its properties rise.
use Rattle.std.proofs.Common.{◌<◌, ◌^◌, ℕ, List, [], ◌∷◌, arith}
use Rattle.nt_rules.specs.declared.act.Act.{Act}
use Rattle.nt_rules.specs.declared.act.Act.TheVariants as act
use Rattle.nt_rules.specs.declared.act.StepOut.{StepOut}
use Rattle.nt_rules.specs.declared.act.StepOut.TheVariants as out
use Rattle.nt_rules.specs.declared.act.Entry.{Entry}
use Rattle.nt_rules.specs.declared.start.Start.{Start}
use Rattle.nt_rules.specs.history.Now.{now_of}
use Rattle.nt_rules.specs.history.Answer.{entry, moment_of, opened_deed, permit_deed}
use Rattle.nt_rules.specs.history.Step.{MayAct, IsPutIn, AreWithin}
use Rattle.nt_rules.specs.history.Trees.{BringsTree, HasTreeIn, AreTrees}
use Rattle.nt_laws.proofs.histories.Lawful.{entry-now}

-- the last moment is
moment-within : (start : Start) (past : List Entry) → AreWithin past → (now_of start past).moment < 2 ^ 63
moment-within start [] within = omega arith
moment-within start (e ∷ past) within = within.0

opened-put : (o : StepOut) → IsPutIn (opened_deed o)
opened-put (out.Opened c name) = tt
opened-put out.Done = tt
opened-put (out.Ignored cause) = tt
opened-put (out.Drained batch) = tt
opened-put out.Closed = tt
opened-put out.Permitted = tt
opened-put out.NoPermit = tt
opened-put out.Shut = tt

permit-put : (o : StepOut) → IsPutIn (permit_deed o)
permit-put (out.Opened c name) = tt
permit-put out.Done = tt
permit-put (out.Ignored cause) = tt
permit-put (out.Drained batch) = tt
permit-put out.Closed = tt
permit-put out.Permitted = tt
permit-put out.NoPermit = tt
permit-put out.Shut = tt

-- what an act enters is a value that may be put, where it is one
act-put : (worker moment : ℕ) (a : Act) (o : StepOut) → MayAct a → IsPutIn (entry worker moment a o).deed
act-put worker moment (act.Open name version) o may = opened-put o
act-put worker moment (act.Said conn m) o may = may
act-put worker moment (act.Drain conn budget) o may = tt
act-put worker moment (act.Close conn) o may = tt
act-put worker moment act.Permit o may = permit-put o
act-put worker moment act.Shut o may = tt

-- so is the entry of an act at such a moment
pub entry-within : (start : Start) (past : List Entry) (worker now : ℕ) (a : Act) (o : StepOut) → MayAct a
    → now < 2 ^ 63 → AreWithin past
    → AreWithin (entry worker (moment_of (now_of start past) now) a o ∷ past)
entry-within start past worker now a o may small within =
    let before : (now_of start past).moment < 2 ^ 63 = moment-within start past within in (
      rw (entry-now worker (moment_of (now_of start past) now) a o) (omega arith),
      act-put worker (moment_of (now_of start past) now) a o may,
      within,
    )

opened-tree : (o : StepOut) → HasTreeIn (opened_deed o)
opened-tree (out.Opened c name) = tt
opened-tree out.Done = tt
opened-tree (out.Ignored cause) = tt
opened-tree (out.Drained batch) = tt
opened-tree out.Closed = tt
opened-tree out.Permitted = tt
opened-tree out.NoPermit = tt
opened-tree out.Shut = tt

permit-tree : (o : StepOut) → HasTreeIn (permit_deed o)
permit-tree (out.Opened c name) = tt
permit-tree out.Done = tt
permit-tree (out.Ignored cause) = tt
permit-tree (out.Drained batch) = tt
permit-tree out.Closed = tt
permit-tree out.Permitted = tt
permit-tree out.NoPermit = tt
permit-tree out.Shut = tt

-- what an act enters has a tree with rising keys, where it publishes one
act-tree : (worker moment : ℕ) (a : Act) (o : StepOut) → BringsTree a → HasTreeIn (entry worker moment a o).deed
act-tree worker moment (act.Open name version) o brings = opened-tree o
act-tree worker moment (act.Said conn m) o brings = brings
act-tree worker moment (act.Drain conn budget) o brings = tt
act-tree worker moment (act.Close conn) o brings = tt
act-tree worker moment act.Permit o brings = permit-tree o
act-tree worker moment act.Shut o brings = tt

pub entry-trees : (start : Start) (past : List Entry) (worker moment : ℕ) (a : Act) (o : StepOut) → BringsTree a
    → AreTrees start past → AreTrees start (entry worker moment a o ∷ past)
entry-trees start past worker moment a o brings trees =
    record { saved = trees.saved; published = (act-tree worker moment a o brings, trees.published) }
