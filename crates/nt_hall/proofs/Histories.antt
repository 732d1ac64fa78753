-- Histories with the newest entry last, and what a step of the server makes of them.
--     past-more           one entry more, at the end
--     is-history          a history for which a server stands may be
--     entry-worker        the entry of an act is the worker's
--     stands-after, next-is, before-is, after-is      after a step
--     goes-on             what a journal tells, as a turn tells it
use Rattle.std.proofs.Common.{◌≡◌, ℕ, List, [], ◌∷◌, ◌++◌, sym, refl, ap, ◌∙◌, subst}
use Rattle.std.proofs.lemmas.List.{reverse-append}
use Rattle.std.specs.Prelude.{Option, Some, None, IfSome}
use Rattle.nt_rules.specs.declared.act.Act.{Act}
use Rattle.nt_rules.specs.declared.act.Act.TheVariants as act
use Rattle.nt_rules.specs.declared.act.StepOut.{StepOut}
use Rattle.nt_rules.specs.declared.act.Entry.{Entry}
use Rattle.nt_rules.specs.declared.start.Start.{Start}
use Rattle.nt_rules.specs.history.Answer.{entry}
use Rattle.nt_rules.specs.history.Order.{past_of}
use Rattle.nt_rules.specs.history.Step.{ServerState, Represents, Steps, IsEntryOf}
use Rattle.nt_lock.specs.declared.view.Note.TheVariants.{Made}
use Rattle.nt_lock.specs.Notes.{grown}
use Rattle.nt_lock.proofs.Lists.{if-some}
use Rattle.nt_hall.specs.Journals.{GoesOn}
use Rattle.nt_hall.specs.Histories.{IsHistory, StandsFor, IsNext}

pub past-more : (list : List Entry) (e : Entry) → past_of (list ++ e ∷ []) ≡ e ∷ past_of list
past-more list e = reverse-append list (e ∷ [])

pub is-history : (server : ServerState) (start : Start) (list : List Entry) → StandsFor server start list
    → IsHistory start list
is-history server start list s =
    record { start_is = s.start_is; within = s.within; legal = s.legal; trees = s.trees }

worker-of : (worker moment : ℕ) (a : Act) (out : StepOut) → (entry worker moment a out).worker ≡ worker
worker-of worker moment (act.Open name version) out = refl
worker-of worker moment (act.Said conn msg) out = refl
worker-of worker moment (act.Drain conn budget) out = refl
worker-of worker moment (act.Close conn) out = refl
worker-of worker moment act.Permit out = refl
worker-of worker moment act.Shut out = refl

pub entry-worker : (worker now : ℕ) (a : Act) (out : StepOut) (e : Entry) → IsEntryOf worker now a out e
    → e.worker ≡ worker
entry-worker worker now a out e is =
    ap (λ (e : Entry). e.worker) is.entry_is ∙ worker-of worker is.moment a out

pub goes-on : (before told : Option (List Entry)) (e : Entry) → GoesOn before e told
    → IfSome told (λ list. grown (Made e) before ≡ Some list)
goes-on before told e on =
    if-some told on (λ list _ g. ap (grown (Made e)) g.1 ∙ ap Some (sym g.2))

module _ (server server' : ServerState) (start : Start) (worker now : ℕ) (a : Act) (out : StepOut) (e : Entry)
    (steps : (start : Start) (past : List Entry) → Represents server start past
    → Steps start past worker now a out e server') where
  pub stands-after : (before told : Option (List Entry)) → IfSome before (StandsFor server start)
      → GoesOn before e told → IfSome told (StandsFor server' start)
  stands-after before told was on =
      if-some told on
      (λ list _ g.
      subst (StandsFor server' start) (sym g.2)
      (subst (Represents server' start) (sym (past-more g.0 e))
      (steps start (past_of g.0) (subst (λ o. IfSome o (StandsFor server start)) g.1 was)).represents))

  pub next-is : (before : Option (List Entry)) → IfSome before (StandsFor server start)
      → IfSome before (λ list. IsNext start list worker now a out e)
  next-is before was =
      if-some before was
      (λ list _ s.
      let t = steps start (past_of list) s in
      record { out_is = t.out_is; entry_is = t.entry_is })

  pub before-is : (before : Option (List Entry)) → IfSome before (StandsFor server start)
      → IfSome before (IsHistory start)
  before-is before was = if-some before was (λ list _ s. is-history server start list s)

  pub after-is : (before told : Option (List Entry)) → IfSome before (StandsFor server start) → GoesOn before e told
      → IfSome told (IsHistory start)
  after-is before told was on =
      if-some told (stands-after before told was on) (λ list _ s. is-history server' start list s)
