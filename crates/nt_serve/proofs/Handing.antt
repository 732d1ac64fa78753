-- Frames sent one after another.
use Rattle.std.proofs.Common.{◌≡◌, ℕ, ◌+◌, ◌-◌, ◌^◌, min, List, [], ◌∷◌, ◌++◌, map, refl, sym, ap, ◌∙◌, append_assoc, append-nil, subst, arith}
use Rattle.std.specs.Prelude.{Option, Result, Ok, Err, IfErr, IsErrAnd}
use Rattle.std.proofs.lemmas.List.{map-append}
use Rattle.nt_rules.specs.declared.act.Act.TheVariants.{Drain}
use Rattle.nt_rules.specs.declared.act.StepOut.{StepOut}
use Rattle.nt_rules.specs.declared.act.StepOut.TheVariants.{Done}
use Rattle.nt_rules.specs.history.Answer.{drained_batch}
use Rattle.nt_session.specs.Laid.{frames_in}
use Rattle.nt_lock.specs.Seats.{SeatView}
use Rattle.nt_hall.specs.Turns.{Acted}
use Rattle.nt_wire.specs.declared.link.LinkFault.{LinkFault}
use Rattle.nt_serve.specs.declared.served.Break.{Break}
use Rattle.nt_serve.specs.declared.served.Break.TheVariants as broken
use Rattle.nt_serve.specs.Steps.{Step, acts, fails, sends, GoesOn, received, sent as sent_in, ignored, at, Standing, Moves, Reaches}
use Rattle.nt_serve.specs.Rounds.{IsDrained, budget}
use Rattle.nt_serve.specs.Sessions.{last_turn, break_of, IsCut}
use Rattle.nt_serve.proofs.Taking.{no-turn}
use Rattle.nt_link.specs.declared.frame.Frame.{Frame}
use Rattle.nt_wire.specs.Frames.{in_front, behind}
use Rattle.nt_serve.specs.Handing.{Sends, SendsSome}
use Rattle.nt_serve.proofs.Moving.{standing, behind-append, behind-nil, front-nil, none-more, moves-append}

-- the frames that are left are still to be sent
pub record Sending {L : Type 0} (coming received sent : L → Option (List Frame)) (frames left : List Frame) (a b : L)
    : Type 0 where
  pub front : List Frame
  pub frames_are : frames ≡ front ++ left
  pub sends : Sends coming received sent front a b

pub sending-start : {L : Type 0} (coming received sent : L → Option (List Frame)) (frames left : List Frame) (a : L)
    → left ≡ frames → Sending coming received sent frames left a a
sending-start coming received sent frames left a e =
    record {
      front = [];
      frames_are = sym e;
      sends = record { coming_is = refl; received_is = refl; sent_is = behind-nil (sent a) };
    }

pub sending-next : {L : Type 0} (coming received sent : L → Option (List Frame)) (frames items rest : List Frame)
    (f : Frame) (a b z : L) → items ≡ f ∷ rest → Sending coming received sent frames items a b
    → coming z ≡ coming b → received z ≡ received b → sent z ≡ behind (sent b) (f ∷ [])
    → Sending coming received sent frames rest a z
sending-next coming received sent frames items rest f a b z e p x y w =
    record {
      front = p.front ++ f ∷ [];
      frames_are = p.frames_are ∙ ap (λ (l : List Frame). p.front ++ l) e ∙ sym (append_assoc p.front (f ∷ []) rest);
      sends = record {
        coming_is = x ∙ p.sends.coming_is;
        received_is = y ∙ p.sends.received_is;
        sent_is = w ∙ ap (λ (o : Option (List Frame)). behind o (f ∷ [])) p.sends.sent_is
            ∙ behind-append (sent a) p.front (f ∷ []);
      };
    }

pub sending-all : {L : Type 0} (coming received sent : L → Option (List Frame)) (frames left : List Frame) (a b : L)
    → left ≡ [] → Sending coming received sent frames left a b → Sends coming received sent frames a b
sending-all {L} coming received sent frames left a b e p =
    subst (λ (l : List Frame). Sends coming received sent l a b)
    (sym (p.frames_are ∙ ap (λ (l : List Frame). p.front ++ l) e ∙ append-nil p.front)) p.sends

-- nothing more is sent than a front
pub sending-some : {L : Type 0} (coming received sent : L → Option (List Frame)) (frames left : List Frame)
    (a b z : L) → Sending coming received sent frames left a b → coming z ≡ coming b → received z ≡ received b
    → sent z ≡ behind (sent b) [] → SendsSome coming received sent frames a z
sending-some coming received sent frames left a b z p x y w =
    record {
      front = p.front;
      rest = left;
      frames_are = p.frames_are;
      sends = record {
        coming_is = x ∙ p.sends.coming_is;
        received_is = y ∙ p.sends.received_is;
        sent_is = w ∙ sym (behind-nil (sent b)) ∙ p.sends.sent_is;
      };
    }

-- ---- as steps

goes-sent : (s : SeatView) (fs : List Frame) → GoesOn s (map sends fs) s
goes-sent s [] = refl
goes-sent s (f ∷ fs) = (s, refl, goes-sent s fs)

received-sent : (fs : List Frame) → received (map sends fs) ≡ []
received-sent [] = refl
received-sent (f ∷ fs) = received-sent fs

sent-sent : (fs : List Frame) → sent_in (map sends fs) ≡ fs
sent-sent [] = refl
sent-sent (f ∷ fs) = ap (λ (l : List Frame). f ∷ l) (sent-sent fs)

ignored-sent : (fs : List Frame) → ignored (map sends fs) ≡ 0
ignored-sent [] = refl
ignored-sent (f ∷ fs) = let h = ignored-sent fs in omega (arith, h)

pub moves-all : {L : Type 0} (coming received sent : L → Option (List Frame)) (frames : List Frame) (a b : L)
    (s : SeatView) (i : ℕ) → Sends coming received sent frames a b
    → Moves (at coming received sent s a i) (at coming received sent s b i) (map sends frames)
moves-all coming received-by sent-by frames a b s i p =
    record {
      goes = goes-sent s frames;
      coming_is = sym p.coming_is ∙ front-nil (coming b)
          ∙ ap (λ (l : List Frame). in_front l (coming b)) (sym (received-sent frames));
      received_is = p.received_is ∙ behind-nil (received-by a)
          ∙ ap (λ (l : List Frame). behind (received-by a) l) (sym (received-sent frames));
      sent_is = p.sent_is ∙ ap (λ (l : List Frame). behind (sent-by a) l) (sym (sent-sent frames));
      ignored_is = none-more i ∙ ap (λ (n : ℕ). min (i + n) (2 ^ 64 - 1)) (sym (ignored-sent frames));
    }

none-said : (i : ℕ) → min i (2 ^ 64 - 1) ≡ min (i + (0 + 0)) (2 ^ 64 - 1)
none-said i = omega arith

pub moves-drain : (s t : SeatView) (c r d : Option (List Frame)) (i conn now : ℕ) (out : StepOut)
    → Acted s t now (Drain conn budget) out
    → Moves (standing s c r d i) (standing t c r d i) (acts now (Drain conn budget) out ∷ [])
moves-drain s t c r d i conn now out a =
    record {
      goes = (t, a, refl);
      coming_is = front-nil c;
      received_is = behind-nil r;
      sent_is = behind-nil d;
      ignored_is = none-said i;
    }

-- ---- a drain

drained-as : (conn now : ℕ) (out : StepOut) (frames : List Frame) → frames ≡ frames_in (drained_batch out)
    → IsDrained conn (acts now (Drain conn budget) out ∷ map sends frames)
drained-as conn now out frames e =
    record {
      now = now;
      out = out;
      steps_are = ap (λ (l : List Frame). acts now (Drain conn budget) out ∷ map sends l) e;
    }

pub drain-done : (a m z : Standing) (conn now : ℕ) (out : StepOut) (frames : List Frame)
    → frames ≡ frames_in (drained_batch out) → Moves a m (acts now (Drain conn budget) out ∷ [])
    → Moves m z (map sends frames) → Reaches a z (IsDrained conn)
drain-done a m z conn now out frames e p q =
    record {
      steps = acts now (Drain conn budget) out ∷ map sends frames;
      moves = moves-append a m z (acts now (Drain conn budget) out ∷ []) (map sends frames) p q;
      such = drained-as conn now out frames e;
    }

pub cut-unlaid : {U : Type 0} (r : Result U Break) (a b : Standing) (conn now : ℕ) (out : StepOut)
    → IsErrAnd r (λ e. e ≡ broken.Memory) → Moves a b (acts now (Drain conn budget) out ∷ [])
    → IfErr r (λ e. Reaches a b (IsCut e (IsDrained conn)))
cut-unlaid (Ok x) a b conn now out h m = absurd h
cut-unlaid (Err e) a b conn now out h m =
    record {
      steps = acts now (Drain conn budget) out ∷ [];
      moves = m;
      such = record {
        front = acts now (Drain conn budget) out ∷ [];
        rest = map sends (frames_in (drained_batch out));
        whole = drained-as conn now out (frames_in (drained_batch out)) refl;
        steps_are = ap (λ (w : Break). acts now (Drain conn budget) out ∷ last_turn w) (sym h);
      };
    }

pub cut-unsent : {U L : Type 0} (r : Result U Break) (fault : LinkFault)
    (coming received sent : L → Option (List Frame)) (a : Standing) (x y : L) (s : SeatView) (i conn now : ℕ)
    (out : StepOut) (frames : List Frame) → frames ≡ frames_in (drained_batch out)
    → IsErrAnd r (λ e. e ≡ break_of fault)
    → Moves a (at coming received sent s x i) (acts now (Drain conn budget) out ∷ [])
    → SendsSome coming received sent frames x y
    → IfErr r (λ e. Reaches a (at coming received sent s y i) (IsCut e (IsDrained conn)))
cut-unsent (Ok u) fault coming received-by sent-by a x y s i conn now out frames same h m p = absurd h
cut-unsent (Err e) fault coming received-by sent-by a x y s i conn now out frames same h m p =
    record {
      steps = acts now (Drain conn budget) out ∷ map sends p.front;
      moves = moves-append a (at coming received-by sent-by s x i) (at coming received-by sent-by s y i)
          (acts now (Drain conn budget) out ∷ []) (map sends p.front) m
          (moves-all coming received-by sent-by p.front x y s i p.sends);
      such = record {
        front = acts now (Drain conn budget) out ∷ map sends p.front;
        rest = map sends p.rest;
        whole = subst (λ (l : List Step). IsDrained conn (acts now (Drain conn budget) out ∷ l))
            (ap (λ (l : List Frame). map sends l) p.frames_are ∙ map-append sends p.front p.rest)
            (drained-as conn now out frames same);
        steps_are = sym (append-nil (acts now (Drain conn budget) out ∷ map sends p.front))
            ∙ ap (λ (l : List Step). (acts now (Drain conn budget) out ∷ map sends p.front) ++ l)
            (sym (ap last_turn h ∙ no-turn fault));
      };
    }

pub cut-undrained : (a b : Standing) (conn : ℕ) → Moves a b (fails ∷ [])
    → Reaches a b (IsCut broken.Failed (IsDrained conn))
cut-undrained a b conn m =
    record {
      steps = fails ∷ [];
      moves = m;
      such = record {
        front = [];
        rest = acts 0 (Drain conn budget) Done ∷ map sends (frames_in (drained_batch Done));
        whole = drained-as conn 0 Done (frames_in (drained_batch Done)) refl;
        steps_are = refl;
      };
    }
