-- What a server keeps that stands for a history is in order: its topics, and its roster.
use Rattle.std.proofs.Common.{◌≡◌, List, sym, ◌∙◌, ap, subst}
use Rattle.nt_rules.specs.declared.act.Entry.{Entry}
use Rattle.nt_rules.specs.declared.roster.Roster.{Roster}
use Rattle.nt_rules.specs.declared.start.Start.{Start}
use Rattle.nt_rules.specs.history.Lives.{topics}
use Rattle.nt_rules.specs.history.Metas.{roster_now}
use Rattle.nt_rules.specs.history.Now.{Now, now_of, open_ones}
use Rattle.nt_rules.specs.history.State.{open_roster}
use Rattle.nt_rules.specs.history.Step.{ServerState, Represents}
use Rattle.nt_rules.specs.meta.Rosters.{IsRoster, IsInOrder, HaveTheirValues}
use Rattle.nt_rules.specs.topics.Apart.{AreApart}
use Rattle.nt_laws.proofs.histories.CoreLaws.{topics-are}
use Rattle.nt_laws.proofs.histories.StepLaw.{kept-of}
use Rattle.nt_laws.proofs.metas.RosterOrder.{roster-is, roster-in-order, roster-values}
use Rattle.nt_laws.proofs.metas.Rosters.{roster-kept}
use Rattle.nt_laws.proofs.topics.TopicOrder.{topics-apart}

module _ (server : ServerState) (start : Start) (past : List Entry) (stands : Represents server start past) where
  abbrev now : Now
  now = now_of start past

  abbrev roster : Roster
  roster = open_roster server.state.opens server.state.topics

  same-topics : server.state.topics ≡ topics now.lives
  same-topics = topics-are server.state now (kept-of server start past stands)

  same-roster : roster_now now ≡ roster
  same-roster =
      sym (ap (λ ts. open_roster server.state.opens ts) same-topics
      ∙ roster-kept server.state.opens (open_ones now.connections) (topics now.lives) stands.opens_are)

  -- its topics stand by rising id, and their names differ
  pub kept-apart : AreApart server.state.topics
  kept-apart = subst AreApart (sym same-topics) (topics-apart start past stands.start_is)

  -- so its roster is one
  pub kept-roster : IsRoster roster
  kept-roster = subst IsRoster same-roster (roster-is start past stands.start_is stands.legal)

  -- and in order, so that the meta topics have the values that it has under their names
  pub kept-in-order : IsInOrder roster
  kept-in-order = subst IsInOrder same-roster (roster-in-order start past stands.start_is stands.legal)

  pub kept-values : HaveTheirValues roster
  kept-values = subst HaveTheirValues same-roster (roster-values start past stands.start_is stands.legal)
