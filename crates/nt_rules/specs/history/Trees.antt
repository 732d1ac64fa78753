-- Histories whose properties are trees with rising keys.
use Rattle.std.specs.Prelude.{List, [], ◌∷◌}
use Rattle.std.specs.List.{AllByRecursion}
use Rattle.nt_topics.specs.Trees.{IsOrdered}
use Rattle.nt_control.specs.declared.message.ClientMsg.TheVariants.{Publish}
use Rattle.nt_rules.specs.declared.topic.Saved.{Saved}
use Rattle.nt_rules.specs.declared.act.Act.{Act}
use Rattle.nt_rules.specs.declared.act.Act.TheVariants as act
use Rattle.nt_rules.specs.declared.act.Msg.{Msg}
use Rattle.nt_rules.specs.declared.act.Msg.TheVariants.{Control}
use Rattle.nt_rules.specs.declared.act.Deed.{Deed}
use Rattle.nt_rules.specs.declared.act.Deed.TheVariants.{Said}
use Rattle.nt_rules.specs.declared.act.Entry.{Entry}
use Rattle.nt_rules.specs.declared.start.Start.{Start}

-- where a message publishes, the keys of the properties rise
abbrev pub HasTree : Msg → Type 0
HasTree (Control (Publish name uid typ props)) = IsOrdered props
HasTree m = Unit {0}

-- the same of what an act says
abbrev pub BringsTree : Act → Type 0
BringsTree (act.Said conn m) = HasTree m
BringsTree a = Unit {0}

-- and of what was said
abbrev pub HasTreeIn : Deed → Type 0
HasTreeIn (Said m) = HasTree m
HasTreeIn deed = Unit {0}

abbrev pub HaveTreesIn : List Entry → Type 0
HaveTreesIn [] = Unit {0}
HaveTreesIn (e ∷ past) = HasTreeIn e.deed × HaveTreesIn past

-- the keys of the properties of saved topics rise
abbrev pub HaveTrees : List Saved → Type 0
HaveTrees saved = AllByRecursion (λ (s : Saved). IsOrdered s.props) saved

-- the keys of the properties of saved topics rise, and of those that were published
pub record AreTrees (start : Start) (past : List Entry) : Type 0 where
  pub saved : HaveTrees start.saved
  pub published : HaveTreesIn past
