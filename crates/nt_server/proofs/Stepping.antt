-- What a step answers, by what its arms do to what is kept.
use Rattle.std.proofs.Common.{◌≡◌, ◌<◌, ◌+◌, ◌^◌, ℕ, Bool, false, max, List, [], Result, Ok, Err, IfOk, OnOk, length, refl, sym, ap, subst, ◌∙◌}
use Rattle.std.specs.Result.{is_err}
use Rattle.nt_rules.specs.declared.act.Act.{Act}
use Rattle.nt_rules.specs.declared.act.Entry.{Entry}
use Rattle.nt_server.specs.declared.acts.Stepped.{Stepped}
use Rattle.nt_rules.specs.declared.topic.Topic.{Topic}
use Rattle.nt_rules.specs.declared.topic.Saved.{Saved}
use Rattle.nt_rules.specs.history.Lives.{topics, restored}
use Rattle.nt_rules.specs.declared.start.Start.{Start}
use Rattle.nt_rules.specs.history.Now.{beginning}
use Rattle.nt_rules.specs.history.Saved.{IsSavedSet}
use Rattle.nt_rules.specs.history.Trees.{HaveTrees, BringsTree}
use Rattle.nt_server.specs.View.{begun}
use Rattle.nt_rules.specs.history.Answer.{entry}
use Rattle.nt_rules.specs.history.Changes.{added_changes}
use Rattle.nt_rules.specs.history.State.{reply, acted, changes_by}
use Rattle.nt_rules.specs.history.Step.{ServerState, Core, Represents, Steps, MayAct, core_of}
use Rattle.nt_laws.proofs.histories.CoreLaws.{core-begun}
use Rattle.nt_laws.proofs.histories.StepLaw.{represents-begun}
use Rattle.nt_laws.proofs.histories.Inspection.{looked-changes}
use Rattle.nt_laws.proofs.outboxes.OutboxesAfterAct.{step-acted}

-- a server over restored topics stands for no entries
pub represents-over : (permits : ℕ) (saved : List Saved) (ts : List Topic) (next : ℕ) (k : ServerState)
    → IsSavedSet saved → HaveTrees saved
    → k ≡ record { failed = false; state = record (begun permits []) { topics = ts; next = next } }
    → ts ≡ topics (restored 1 saved) → next ≡ length saved + 1
    → Represents k (record { permits = permits; saved = saved }) []
represents-over permits saved ts next k set trees is topics_are next_is =
    subst (λ (k : ServerState). Represents k start []) (sym is)
    (represents-begun (record { failed = false; state = record (begun permits []) { topics = ts; next = next } }) start
    set trees refl core_is refl)
  where
    start : Start
    start = record { permits = permits; saved = saved }

    core_with : List Topic → ℕ → Core
    core_with ts next =
        record {
          permits = permits;
          granted = 0;
          shut = false;
          moment = 0;
          place = 0;
          opened = 0;
          topics = ts;
          next = next;
          taken = [];
        }

    core_is : core_with ts next ≡ core_of (beginning start)
    core_is =
        ap (λ ts. core_with ts next) topics_are
        ∙ ap (λ n. core_with (topics (restored 1 saved)) n) next_is
        ∙ sym (core-begun start)

-- a server fails where its arms do
pub well-after : {X E : Type 0} (r : Result X E) (b : Bool) → b ≡ is_err r → OnOk r (b ≡ false)
well-after (Ok s) b e = e
well-after (Err error) b e = tt

module _ {E : Type 0} (old : ServerState) (worker now : ℕ) (a : Act) where
  pub step-steps : (r : Result Stepped E) (new : ServerState) → MayAct a → BringsTree a → now < 2 ^ 63
      → IfOk r (λ s. s.out ≡ reply old.state worker now a)
      → IfOk r (λ s. s.entry ≡ entry worker (max old.state.moment now) a s.out)
      → OnOk r (new.state ≡ acted old.state worker now a) → OnOk r (new.failed ≡ false)
      → IfOk r (λ s. (start : Start) (past : List Entry) → Represents old start past
      → Steps start past worker now a s.out s.entry new)
  step-steps (Ok s) new may brings small out_is entry_is state_is well =
      λ start past represents.
      step-acted start past old worker now a s.out s.entry new may brings small represents well out_is entry_is state_is
  step-steps (Err error) new may brings small out_is entry_is state_is well = tt

  pub step-changes : (r : Result Stepped E)
      → IfOk r (λ s. s.entry ≡ entry worker (max old.state.moment now) a s.out)
      → IfOk r (λ s. s.changes ≡ changes_by old.state worker a)
      → IfOk r (λ s. (start : Start) (past : List Entry) → Represents old start past
      → s.changes ≡ added_changes start past s.entry)
  step-changes (Ok s) entry_is changes_are =
      λ start past represents.
      changes_are ∙ looked-changes old start past worker (max old.state.moment now) a s.out s.entry represents entry_is
  step-changes (Err error) entry_is changes_are = tt
