-- All outboxes after an act hold what is owed.
use Rattle.std.proofs.Common.{◌≡◌, ◌+◌, ◌<◌, ◌^◌, ℕ, Bool, true, false, cond, max, List, ◌∷◌, Option, Some, None, refl}
use Rattle.std.proofs.Common.{sym, ◌∙◌, ap, subst}
use Rattle.nt_subs.specs.Subscriptions.{with_sub, without_sub}
use Rattle.nt_control.specs.declared.message.ClientMsg.TheVariants.{Publish, Unpublish, SetProps, Subscribe}
use Rattle.nt_control.specs.declared.message.ClientMsg.TheVariants.{Unsubscribe}
use Rattle.nt_rules.specs.declared.topic.Cause.{Cause}
use Rattle.nt_rules.specs.declared.topic.Cause.TheVariants.{Older}
use Rattle.nt_rules.specs.declared.act.Act.{Act}
use Rattle.nt_rules.specs.declared.act.Act.TheVariants as act
use Rattle.nt_rules.specs.declared.act.Msg.{Msg}
use Rattle.nt_rules.specs.declared.act.Msg.TheVariants as msg
use Rattle.nt_rules.specs.declared.act.Deed.TheVariants.{Said}
use Rattle.nt_rules.specs.declared.act.Entry.{Entry}
use Rattle.nt_rules.specs.declared.act.StepOut.{StepOut}
use Rattle.nt_rules.specs.history.Answer.{Legal, answer, entry, moment_of}
use Rattle.nt_rules.specs.declared.start.Start.{Start}
use Rattle.nt_rules.specs.history.Now.{Now, is_traced, cause_of, now_of, connections_after, lives_after}
use Rattle.nt_rules.specs.history.State.{State, said_to, if_taken, reply, acted}
use Rattle.nt_rules.specs.history.Step.{ServerState, Represents, Steps, AllOwe, MayAct}
use Rattle.nt_rules.specs.history.Trees.{BringsTree}
use Rattle.nt_laws.proofs.metas.AllLives.{IsFitStart, saved-fit}
use Rattle.nt_laws.proofs.metas.Rosters.{metas-stay}
use Rattle.nt_laws.proofs.marks.WishChanges.{rows-subscribed}
use Rattle.nt_laws.proofs.outboxes.UnchangedPresent.{owes-idle}
use Rattle.nt_laws.proofs.histories.CoreLaws.{IsKeptOf, cause-is, moment-kept, reply-answer}
use Rattle.nt_laws.proofs.histories.Lawful.{answered, legal-answered}
use Rattle.nt_laws.proofs.outboxes.Drains.{reply-drain, owes-drain}
use Rattle.nt_laws.proofs.outboxes.AllAfterOpening.{owes-open, owes-close, owes-permit, owes-shut}
use Rattle.nt_laws.proofs.histories.StepLaw.{kept-of, step-law}
use Rattle.nt_laws.proofs.outboxes.OutboxesAfterMessage.{said_entry, lives-said, connections-said}
use Rattle.nt_laws.proofs.outboxes.OtherOutboxes.{owes-older}
use Rattle.nt_laws.proofs.outboxes.AllAfterMessage.{before, later, had, all_still, control-owe, put-owe, subscribed-owe}

-- ---- messages

module _ (start : Start) (past : List Entry) (s : State) (worker now sender : ℕ) (fit : IsFitStart start)
    (legal : Legal start past)
    (kept : IsKeptOf s (now_of start past)) (owe : AllOwe start past s.opens) where
  abbrev n : Now
  n = now_of start past

  abbrev moment : ℕ
  moment = moment_of n now

  -- one that counts
  counts-owe : (m : Msg) → Legal start (answered start past worker now (act.Said sender m) ∷ past)
      → cause_of n worker sender m ≡ None
      → AllOwe start (said_entry worker moment sender m ∷ past) (said_to s (s.place + 1) sender m).opens
  counts-owe (msg.Control (Publish name uid typ props)) lawful counts =
      control-owe start past s worker now sender
      (msg.Control (Publish name uid typ props)) fit legal lawful kept owe
      (connections-said start past worker moment sender (msg.Control (Publish name uid typ props))
      (ap (λ c. is_traced (msg.Control (Publish name uid typ props)) c) counts)) tt counts
  counts-owe (msg.Control (Unpublish uid)) lawful counts =
      control-owe start past s worker now sender (msg.Control (Unpublish uid)) fit legal lawful kept owe
      (connections-said start past worker moment sender (msg.Control (Unpublish uid))
      (ap (λ c. is_traced (msg.Control (Unpublish uid)) c) counts)) tt counts
  counts-owe (msg.Control (SetProps name update)) lawful counts =
      control-owe start past s worker now sender
      (msg.Control (SetProps name update)) fit legal lawful kept owe
      (connections-said start past worker moment sender (msg.Control (SetProps name update))
      (ap (λ c. is_traced (msg.Control (SetProps name update)) c) counts)) tt counts
  counts-owe (msg.Control (Subscribe uid sub)) lawful counts =
      let traced = ap (λ c. is_traced (msg.Control (Subscribe uid sub)) c) counts in
      subscribed-owe start past s worker now sender
      (msg.Control (Subscribe uid sub)) fit legal lawful kept owe (with_sub uid sub)
      (connections-said start past worker moment sender (msg.Control (Subscribe uid sub)) traced)
      (lives-said start past worker moment sender (msg.Control (Subscribe uid sub)) traced)
      (rows-subscribed n worker sender (Said (msg.Control (Subscribe uid sub))) refl)
  counts-owe (msg.Control (Unsubscribe uid)) lawful counts =
      let traced = ap (λ c. is_traced (msg.Control (Unsubscribe uid)) c) counts in
      subscribed-owe start past s worker now sender
      (msg.Control (Unsubscribe uid)) fit legal lawful kept owe (without_sub uid)
      (connections-said start past worker moment sender (msg.Control (Unsubscribe uid)) traced)
      (lives-said start past worker moment sender (msg.Control (Unsubscribe uid)) traced)
      (rows-subscribed n worker sender (Said (msg.Control (Unsubscribe uid))) refl)
  counts-owe (msg.Put v) lawful counts =
      put-owe start past s worker now sender (msg.Put v) fit legal lawful kept owe
      (connections-said start past worker moment sender (msg.Put v)
      (ap (λ c. is_traced (msg.Put v) c) counts)) tt counts
      (metas-stay n (said_entry worker moment sender (msg.Put v)) refl)

  -- one that leaves no trace
  idle-owe : (m : Msg) → Legal start (answered start past worker now (act.Said sender m) ∷ past)
      → is_traced m (cause_of n worker sender m) ≡ false
      → AllOwe start (said_entry worker moment sender m ∷ past) s.opens
  idle-owe m lawful idle =
      all_still start past s worker now sender m fit legal lawful kept owe
      (ap (λ b.
      (cond b (record n {
        connections = connections_after n.connections sender m;
        lives = lives_after
            (n.place + 1) n.lives sender m;
      }) n).connections) idle)
      (λ o h owes. owes-idle start past (said_entry worker moment sender m) o.conn o.outbox
      (later start past s worker now sender m fit legal lawful kept owe) h.there idle owes)

  -- a put that is older
  older-owe : (m : Msg) → Legal start (answered start past worker now (act.Said sender m) ∷ past)
      → (cause : Cause) → cause_of n worker sender m ≡ Some cause
      → is_traced m (Some cause) ≡ true → AllOwe start (said_entry worker moment sender m ∷ past) s.opens
  older-owe (msg.Control m) lawful cause refused traced = absurd (cc)
  older-owe (msg.Put v) lawful Older refused traced =
      let still =
      connections-said start past worker moment sender (msg.Put v)
      (ap (λ c. is_traced (msg.Put v) c) refused) in
      all_still start past s worker now sender (msg.Put v) fit legal lawful kept owe still
      (λ o h owes. owes-older start past worker moment sender v o.conn legal
      (before start past s worker now sender (msg.Put v) fit legal lawful kept owe)
      (later start past s worker now sender (msg.Put v) fit legal lawful kept owe) o.subs
      (had start past s worker now sender
      (msg.Put v) fit legal lawful kept owe still o h) h.subs_are h.there refused
      (metas-stay n (said_entry worker moment sender (msg.Put v)) refl) o.outbox owes)
  older-owe (msg.Put v) lawful cause refused traced = absurd (cc)

  pub owes-said-act : (m : Msg) → Legal start (answered start past worker now (act.Said sender m) ∷ past)
      → AllOwe start (answered start past worker now (act.Said sender m) ∷ past)
      (acted s worker now (act.Said sender m)).opens
  owes-said-act m lawful =
      subst (λ c. AllOwe start (said_entry worker moment sender m ∷ past)
      (if_taken c (said_to s (s.place + 1) sender m) s).opens)
      (sym (cause-is s n kept worker sender m)) (by (cause_of n worker sender m) refl)
    where
      refused : (cause : Cause) → cause_of n worker sender m ≡ Some cause → (b : Bool)
          → is_traced m (Some cause) ≡ b
          → AllOwe start (said_entry worker moment sender m ∷ past) s.opens
      refused cause e true traced = older-owe m lawful cause e traced
      refused cause e false idle = idle-owe m lawful (ap (λ c. is_traced m c) e ∙ idle)

      by : (c : Option Cause) → cause_of n worker sender m ≡ c
          → AllOwe start (said_entry worker moment sender m ∷ past)
          (if_taken c (said_to s (s.place + 1) sender m) s).opens
      by None counts = counts-owe m lawful counts
      by (Some cause) e = refused cause e (is_traced m (Some cause)) refl

-- ---- all acts

-- after an act that is answered as the history says each outbox holds what is owed
pub owes-acted : (start : Start) (past : List Entry) (s : State) (worker now : ℕ) (a : Act)
    → IsFitStart start → MayAct a → Legal start past
    → IsKeptOf s (now_of start past) → AllOwe start past s.opens
    → AllOwe start (answered start past worker now a ∷ past) (acted s worker now a).opens
owes-acted start past s worker now (act.Open name version) fit may legal kept owe =
    owes-open start past s worker now fit legal kept owe name version
owes-acted start past s worker now (act.Said conn m) fit may legal kept owe =
    owes-said-act start past s worker now conn fit legal kept owe m
    (legal-answered start past worker now (act.Said conn m) may legal)
owes-acted start past s worker now (act.Drain conn budget) fit may legal kept owe =
    owes-drain start past s worker now conn budget fit legal kept owe
owes-acted start past s worker now (act.Close conn) fit may legal kept owe =
    owes-close start past s worker now fit legal kept owe conn
owes-acted start past s worker now act.Permit fit may legal kept owe =
    owes-permit start past s worker now fit legal kept owe
owes-acted start past s worker now act.Shut fit may legal kept owe =
    owes-shut start past s worker now fit legal kept owe

-- what is answered by what is kept is the answer
pub reply-acted : (start : Start) (past : List Entry) (s : State) (worker now : ℕ) (a : Act)
    → IsFitStart start → Legal start past
    → IsKeptOf s (now_of start past) → AllOwe start past s.opens → reply s worker now a
    ≡ answer start past worker now a
reply-acted start past s worker now (act.Open name version) fit legal kept owe =
    reply-answer s start past worker now (act.Open name version) tt kept
reply-acted start past s worker now (act.Said conn m) fit legal kept owe =
    reply-answer s start past worker now (act.Said conn m) tt kept
reply-acted start past s worker now (act.Drain conn budget) fit legal kept owe =
    reply-drain start past s worker now conn budget fit legal kept owe
reply-acted start past s worker now (act.Close conn) fit legal kept owe =
    reply-answer s start past worker now (act.Close conn) tt kept
reply-acted start past s worker now act.Permit fit legal kept owe =
    reply-answer s start past worker now act.Permit tt kept
reply-acted start past s worker now act.Shut fit legal kept owe =
    reply-answer s start past worker now act.Shut tt kept

-- ---- a step

-- a server that answers and keeps what its state says makes a step of the history for which it stood
pub step-acted : (start : Start) (past : List Entry) (old : ServerState) (worker now : ℕ) (a : Act) (o : StepOut)
    (e : Entry) (new : ServerState)
    → MayAct a → BringsTree a → now < 2 ^ 63 → Represents old start past → new.failed ≡ false
    → o ≡ reply old.state worker now a → e ≡ entry worker (max old.state.moment now) a o → new.state
    ≡ acted old.state worker now a
    → Steps start past worker now a o e new
step-acted start past old worker now a o e new may brings small represents well out_is entry_is state_is =
    step-law start past old worker now a o e new fit.few may brings small represents well out_is entry_is state_is
    answers owes
  where
    fit : IsFitStart start
    fit = saved-fit start represents.start_is

    kept : IsKeptOf old.state (now_of start past)
    kept = kept-of old start past represents

    answers : reply old.state worker now a ≡ answer start past worker now a
    answers = reply-acted start past old.state worker now a fit represents.legal kept represents.outboxes_owe

    whole : e ≡ answered start past worker now a
    whole =
        entry_is
        ∙ ap (λ moment. entry worker (max moment now) a o) (moment-kept old.state (now_of start past) kept)
        ∙ ap (λ k. entry worker (moment_of (now_of start past) now) a k) (out_is ∙ answers)

    owes : AllOwe start (e ∷ past) new.state.opens
    owes =
        subst (λ e. AllOwe start (e ∷ past) new.state.opens) (sym whole)
        (subst (λ s. AllOwe start (answered start past worker now a ∷ past) s.opens) (sym state_is)
        (owes-acted start past old.state worker now a fit may represents.legal kept represents.outboxes_owe))
