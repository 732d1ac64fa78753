-- Connections that want no meta topic. While all are so, a server keeps no meta topics.
use Rattle.std.specs.Prelude.{◌≡◌, ℤ, Bool, false, List, [], Option, Some, None}
use Rattle.std.specs.List.{AllByRecursion, list_any}
use Rattle.nt_topics.specs.Names.{is_special}
use Rattle.nt_subs.specs.declared.sub.Sub.{Sub}
use Rattle.nt_subs.specs.Subscriptions.{Subs}
use Rattle.nt_rules.specs.declared.meta.MetaNow.{MetaNow}
use Rattle.nt_rules.specs.declared.topic.Topic.{Topic}
use Rattle.nt_rules.specs.history.State.{Open, open_metas}
use Rattle.nt_laws.specs.Ids.{AreLow}

-- a subscription that gives a special name, and a set of which one does: no other means a meta topic
abbrev pub gives_special : (ℤ × Sub) → Bool
gives_special entry = list_any is_special entry.1.names

abbrev pub give_special : Subs → Bool
give_special subs = list_any gives_special subs

-- the connection gives no special name, and nothing of a meta topic is kept for it
pub record WantsNoMeta (o : Open) : Type 0 where
  pub plain : give_special o.subs ≡ false
  pub marks : AreLow o.outbox.marks

-- what is kept of the meta topics is what they were before an act. Where none are kept, no connection wants one
abbrev pub WereKept : Option (List MetaNow) → List MetaNow → List Open → Type 0
WereKept (Some kept) before opens = kept ≡ before
WereKept None before opens = AllByRecursion WantsNoMeta opens

-- and is what they are
abbrev pub AreKept : Option (List MetaNow) → List Open → List Topic → Type 0
AreKept kept opens ts = WereKept kept (open_metas opens ts) opens

-- where none are kept, no connection wants one
abbrev pub MayBeWanted : Option (List MetaNow) → List Open → Type 0
MayBeWanted (Some kept) opens = Unit {0}
MayBeWanted None opens = AllByRecursion WantsNoMeta opens

-- the meta topics, as far as they are kept
abbrev pub known : Option (List MetaNow) → List MetaNow
known (Some kept) = kept
known None = []
