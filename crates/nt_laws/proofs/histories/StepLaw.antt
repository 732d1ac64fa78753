-- A step over what is kept is a step of the history.
use Rattle.std.proofs.Common.{◌≡◌, ◌≤◌, ◌<◌, ◌^◌, ℕ, false, max, List, [], ◌∷◌, map, length, sym, ◌∙◌, ap, subst}
use Rattle.nt_rules.specs.Limits.{last_id}
use Rattle.nt_rules.specs.declared.act.Act.{Act}
use Rattle.nt_rules.specs.declared.act.StepOut.{StepOut}
use Rattle.nt_rules.specs.declared.act.Entry.{Entry}
use Rattle.nt_rules.specs.declared.start.Start.{Start}
use Rattle.nt_rules.specs.history.Now.{beginning, now_of}
use Rattle.nt_rules.specs.history.Answer.{answer, entry, Legal, moment_of}
use Rattle.nt_rules.specs.history.Saved.{IsSavedSet}
use Rattle.nt_rules.specs.history.State.{reply, acted}
use Rattle.nt_rules.specs.history.Step.{core, core_of, plain, ServerState, Represents, Steps, AllOwe, AreWithin, MayAct}
use Rattle.nt_rules.specs.history.Trees.{BringsTree, HaveTrees, AreTrees}
use Rattle.nt_laws.proofs.histories.CoreLaws.{IsKeptOf, orderly, kept-acted, moment-kept}
use Rattle.nt_laws.proofs.histories.Lawful.{answered, legal-answered}
use Rattle.nt_laws.proofs.histories.Within.{entry-within, entry-trees}

-- what a server that stands for a history keeps is what the history says
pub kept-of : (server : ServerState) (start : Start) (past : List Entry) → Represents server start past
    → IsKeptOf server.state (now_of start past)
kept-of server start past represents = record { core_is = represents.core_is; opens_are = represents.opens_are }

-- a server that keeps what is kept of no entries stands for none
pub represents-begun : (server : ServerState) (start : Start) → IsSavedSet start.saved → HaveTrees start.saved
    → server.failed ≡ false
    → core server.state
    ≡ core_of (beginning start)
    → server.state.opens ≡ [] → Represents server start []
represents-begun server start saved trees well core_is none = record {
  start_is = saved;
  within = tt;
  legal = tt;
  trees = record { saved = trees; published = tt };
  is_well = well;
  core_is = core_is;
  opens_are = ap (λ opens. map plain opens) none;
  outboxes_owe = subst (λ opens. AllOwe start [] opens) (sym none) tt;
}

-- a server that answers and keeps what its state says, and whose outboxes then hold what the history with the
-- act's entry owes, makes a step of the history
pub step-law : (start : Start) (past : List Entry) (old : ServerState) (worker now : ℕ) (a : Act)
    (o : StepOut) (e : Entry) (new : ServerState)
    → length start.saved ≤ last_id → MayAct a → BringsTree a → now < 2 ^ 63 → Represents old start past
    → new.failed ≡ false
    → o ≡ reply old.state worker now a → e ≡ entry worker (max old.state.moment now) a o → new.state
    ≡ acted old.state worker now a
    → reply old.state worker now a ≡ answer start past worker now a → AllOwe start (e ∷ past) new.state.opens
    → Steps start past worker now a o e new
step-law start past old worker now a o e new few may brings small represents well out_is entry_is state_is answers owes =
    record {
      out_is = said;
      entry_is = entered;
      represents = record {
        start_is = represents.start_is;
        within =
            subst (λ e. AreWithin (e ∷ past)) (sym entered)
            (entry-within start past worker now a o may small represents.within);
        legal =
            subst (λ e. Legal start (e ∷ past)) (sym whole)
            (legal-answered start past worker now a may represents.legal);
        trees =
            subst (λ e. AreTrees start (e ∷ past)) (sym entered)
            (entry-trees start past worker (moment_of (now_of start past) now) a o brings represents.trees);
        is_well = well;
        core_is = kept.core_is;
        opens_are = kept.opens_are;
        outboxes_owe = owes;
      };
    }
  where
    said : o ≡ answer start past worker now a
    said = out_is ∙ answers

    entered : e ≡ entry worker (moment_of (now_of start past) now) a o
    entered =
        entry_is
        ∙ ap (λ moment. entry worker (max moment now) a o)
        (moment-kept old.state (now_of start past) (kept-of old start past represents))

    whole : e ≡ answered start past worker now a
    whole = entered ∙ ap (λ k. entry worker (moment_of (now_of start past) now) a k) said

    replied : Entry
    replied = entry worker (moment_of (now_of start past) now) a (reply old.state worker now a)

    acts : IsKeptOf (acted old.state worker now a) (now_of start (replied ∷ past))
    acts =
        kept-acted old.state (now_of start past) worker now a
        (orderly start past few represents.start_is.names represents.legal)
        (kept-of old start past represents)

    kept : IsKeptOf new.state (now_of start (e ∷ past))
    kept =
        subst (λ e. IsKeptOf new.state (now_of start (e ∷ past)))
        (sym (entered ∙ ap (λ k. entry worker (moment_of (now_of start past) now) a k) out_is))
        (subst (λ s. IsKeptOf s (now_of start (replied ∷ past))) (sym state_is) acts)
