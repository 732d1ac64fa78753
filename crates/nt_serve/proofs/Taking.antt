-- Messages taken, one by one.
use Rattle.std.proofs.Common.{◌≡◌, ℕ, ◌+◌, ◌-◌, ◌^◌, min, List, [], ◌∷◌, ◌++◌, refl, sym, ap, subst, ◌∙◌, append_assoc, append-nil, map}
use Rattle.std.specs.Prelude.{Option, Some, None, Result, Ok, Err, IfErr, IsErrAnd, true}
use Rattle.std.specs.List.{AllZip, AllByRecursion}
use Rattle.std.proofs.lemmas.Bool.{ltb-true}
use Rattle.nt_link.specs.declared.frame.Frame.{Frame}
use Rattle.nt_link.specs.declared.frame.Frame.TheVariants as frames
use Rattle.nt_frames.specs.declared.message.ValueMsg.{ValueMsg}
use Rattle.nt_frames.specs.declared.message.FrameFault.{FrameFault}
use Rattle.nt_frames.specs.Frames.{IsFrame, Means}
use Rattle.nt_rules.specs.Limits.{most_value}
use Rattle.nt_rules.specs.history.Step.{IsPut}
use Rattle.nt_control.specs.declared.message.ClientMsg.{ClientMsg}
use Rattle.nt_control.specs.Frame.{said_in, ignored_in}
use Rattle.nt_rules.specs.declared.act.Act.TheVariants.{Said}
use Rattle.nt_rules.specs.declared.act.Msg.{Msg}
use Rattle.nt_rules.specs.declared.act.Msg.TheVariants.{Control, Put}
use Rattle.nt_rules.specs.declared.act.StepOut.{StepOut}
use Rattle.nt_rules.specs.declared.act.StepOut.TheVariants.{Done}
use Rattle.nt_lock.specs.Seats.{SeatView}
use Rattle.nt_wire.specs.declared.link.LinkFault.{LinkFault}
use Rattle.nt_wire.specs.declared.link.LinkFault.TheVariants as link
use Rattle.nt_serve.specs.declared.served.Break.{Break}
use Rattle.nt_serve.specs.declared.served.Break.TheVariants as broken
use Rattle.nt_serve.specs.Steps.{Step, acts, fails, skips, sends, Standing, Moves, Reaches}
use Rattle.nt_serve.specs.Rounds.{Says, faults_in, reply_to, step_for, IsStepOf, IsOneStep, IsTaken}
use Rattle.nt_serve.specs.Sessions.{last_turn, break_of, IsLastTurn, IsCut}
use Rattle.nt_serve.proofs.Moving.{standing, moves-nil, moves-skipped, reach-then}

-- ---- what cuts

pub no-turn : (fault : LinkFault) → last_turn (break_of fault) ≡ []
no-turn link.Failed = refl
no-turn link.Memory = refl

cut : {U : Type 0} (r : Result U Break) (a b : Standing) (Q : Break → Type 0) → IsErrAnd r Q
    → ((e : Break) → Q e → last_turn e ≡ []) → Moves a b [] → IfErr r (λ e. Reaches a b (IsLastTurn e))
cut (Ok x) a b Q h f m = absurd h
cut (Err e) a b Q h f m = record { steps = []; moves = m; such = sym (f e h) }

pub cut-memory : {U : Type 0} (r : Result U Break) (a : Standing) → IsErrAnd r (λ e. e ≡ broken.Memory)
    → IfErr r (λ e. Reaches a a (IsLastTurn e))
cut-memory r a h = cut r a a (λ e. e ≡ broken.Memory) h (λ e q. ap last_turn q) (moves-nil a)

pub cut-link : {U : Type 0} (r : Result U Break) (fault : LinkFault) (a b : Standing)
    → IsErrAnd r (λ e. e ≡ break_of fault) → Moves a b [] → IfErr r (λ e. Reaches a b (IsLastTurn e))
cut-link r fault a b h m = cut r a b (λ e. e ≡ break_of fault) h (λ e q. ap last_turn q ∙ no-turn fault) m

pub cut-failed : (a b : Standing) → Moves a b (fails ∷ []) → Reaches a b (IsLastTurn broken.Failed)
cut-failed a b m = record { steps = fails ∷ []; moves = m; such = refl }

-- ---- a message

pub reply-taken : (a b : Standing) (conn now : ℕ) (msg : Msg) (answer : Frame) → Some answer ≡ reply_to now msg
    → Moves a b (sends answer ∷ []) → Reaches a b (IsOneStep conn msg)
reply-taken a b conn now msg answer e m =
    record {
      steps = sends answer ∷ [];
      moves = m;
      such = record {
        step = sends answer;
        is_step = record {
          now = now;
          out = Done;
          step_is = ap (λ (o : Option Frame). step_for o conn now msg Done) e;
        };
        steps_are = refl;
      };
    }

pub said-taken : (a b : Standing) (conn now : ℕ) (msg : Msg) (out : StepOut) → None ≡ reply_to now msg
    → Moves a b (acts now (Said conn msg) out ∷ []) → Reaches a b (IsOneStep conn msg)
said-taken a b conn now msg out e m =
    record {
      steps = acts now (Said conn msg) out ∷ [];
      moves = m;
      such = record {
        step = acts now (Said conn msg) out;
        is_step = record {
          now = now;
          out = out;
          step_is = ap (λ (o : Option Frame). step_for o conn now msg out) e;
        };
        steps_are = refl;
      };
    }

-- ---- the messages of a frame, when some are left

pub record IsPartly (conn : ℕ) (frame : Frame) (left : List Msg) (steps : List Step) : Type 0 where
  pub done : List Msg
  pub skipped : ℕ
  pub says : Says frame (done ++ left) skipped
  pub said : List Step
  pub each : AllZip (IsStepOf conn) done said
  pub steps_are : steps ≡ skips skipped ∷ said

zip-append : (conn : ℕ) (ms : List Msg) (xs : List Step) (ns : List Msg) (ys : List Step)
    → AllZip (IsStepOf conn) ms xs → AllZip (IsStepOf conn) ns ys → AllZip (IsStepOf conn) (ms ++ ns) (xs ++ ys)
zip-append conn [] [] ns ys a b = b
zip-append conn (m ∷ ms) (x ∷ xs) ns ys a b = (a.0, zip-append conn ms xs ns ys a.1 b)
zip-append conn [] (x ∷ xs) ns ys a b = absurd a
zip-append conn (m ∷ ms) [] ns ys a b = absurd a

pub partly-start : (conn : ℕ) (frame : Frame) (msgs : List Msg) (skipped : ℕ) → Says frame msgs skipped
    → IsPartly conn frame msgs (skips skipped ∷ [])
partly-start conn frame msgs skipped h =
    record { done = []; skipped = skipped; says = h; said = []; each = tt; steps_are = refl }

pub partly-step : (conn : ℕ) (frame : Frame) (m : Msg) (left : List Msg) (xs ys : List Step)
    → IsPartly conn frame (m ∷ left) xs → IsOneStep conn m ys → IsPartly conn frame left (xs ++ ys)
partly-step conn frame m left xs ys p o =
    record {
      done = p.done ++ m ∷ [];
      skipped = p.skipped;
      says = subst (λ (z : List Msg). Says frame z p.skipped) (sym (append_assoc p.done (m ∷ []) left)) p.says;
      said = p.said ++ o.step ∷ [];
      each = zip-append conn p.done p.said (m ∷ []) (o.step ∷ []) p.each (o.is_step, tt);
      steps_are = ap (λ (z : List Step). z ++ ys) p.steps_are
          ∙ ap (λ (z : List Step). skips p.skipped ∷ (p.said ++ z)) o.steps_are;
    }

pub partly-all : (conn : ℕ) (frame : Frame) (xs : List Step) → IsPartly conn frame [] xs → IsTaken conn frame xs
partly-all conn frame xs p =
    record {
      msgs = p.done;
      skipped = p.skipped;
      says = subst (λ (z : List Msg). Says frame z p.skipped) (append-nil p.done) p.says;
      said = p.said;
      each = p.each;
      steps_are = p.steps_are;
    }

-- some step for each message that is left
any-steps : (conn : ℕ) (ms : List Msg) → (xs : List Step) × AllZip (IsStepOf conn) ms xs
any-steps conn [] = ([], tt)
any-steps conn (m ∷ ms) =
    let h = any-steps conn ms in
    (step_for (reply_to 0 m) conn 0 m Done ∷ h.0, (record { now = 0; out = Done; step_is = refl }, h.1))

pub partly-cut : (b : Break) (conn : ℕ) (frame : Frame) (left : List Msg) (xs : List Step)
    → IsPartly conn frame left xs → IsCut b (IsTaken conn frame) (xs ++ last_turn b)
partly-cut b conn frame left xs p =
    let h = any-steps conn left in
    record {
      front = xs;
      rest = h.0;
      whole = record {
        msgs = p.done ++ left;
        skipped = p.skipped;
        says = p.says;
        said = p.said ++ h.0;
        each = zip-append conn p.done p.said left h.0 p.each h.1;
        steps_are = ap (λ (z : List Step). z ++ h.0) p.steps_are;
      };
      steps_are = refl;
    }

pub taken-none : (b : Break) (conn : ℕ) (frame : Frame) (msgs : List Msg) (skipped : ℕ) → Says frame msgs skipped
    → last_turn b ≡ [] → IsCut b (IsTaken conn frame) []
taken-none b conn frame msgs skipped says e =
    let h = any-steps conn msgs in
    record {
      front = [];
      rest = skips skipped ∷ h.0;
      whole = record { msgs = msgs; skipped = skipped; says = says; said = h.0; each = h.1; steps_are = refl };
      steps_are = sym e;
    }

-- a frame that was read no further for want of memory
pub cut-unread : {U : Type 0} (r : Result U Break) (a : Standing) (conn : ℕ) (frame : Frame) (msgs : List Msg)
    (skipped : ℕ) → Says frame msgs skipped → IsErrAnd r (λ e. e ≡ broken.Memory)
    → IfErr r (λ e. Reaches a a (IsCut e (IsTaken conn frame)))
cut-unread (Ok x) a conn frame msgs skipped says h = absurd h
cut-unread (Err e) a conn frame msgs skipped says h =
    record { steps = []; moves = moves-nil a; such = taken-none e conn frame msgs skipped says (ap last_turn h) }

-- a message that was cut
pub cut-partly : (b : Break) (a m z : Standing) (conn : ℕ) (frame : Frame) (left : List Msg)
    → Reaches a m (IsPartly conn frame left) → Reaches m z (IsLastTurn b)
    → Reaches a z (IsCut b (IsTaken conn frame))
cut-partly b a m z conn frame left p q =
    reach-then a m z (IsPartly conn frame left) (IsLastTurn b) (IsCut b (IsTaken conn frame))
    (λ xs ys h e. subst (λ (w : List Step). IsCut b (IsTaken conn frame) (xs ++ w)) (sym e)
    (partly-cut b conn frame left xs h)) p q

-- ---- in a loop over the items of a frame

pub partly-next : {X : Type 0} (a m z : Standing) (conn : ℕ) (frame : Frame) (make : X → Msg) (items rest : List X)
    (x : X) → items ≡ x ∷ rest → Reaches a m (IsPartly conn frame (map make items))
    → Reaches m z (IsOneStep conn (make x)) → Reaches a z (IsPartly conn frame (map make rest))
partly-next {X} a m z conn frame make items rest x e p q =
    reach-then a m z (IsPartly conn frame (make x ∷ map make rest)) (IsOneStep conn (make x))
    (IsPartly conn frame (map make rest)) (partly-step conn frame (make x) (map make rest))
    (subst (λ (l : List X). Reaches a m (IsPartly conn frame (map make l))) e p) q

pub cut-loop : {U : Type 0} (r : Result U Break) (b : Break) (a m z : Standing) (conn : ℕ) (frame : Frame)
    (left : List Msg) → IsErrAnd r (λ e. e ≡ b) → Reaches a m (IsPartly conn frame left)
    → Reaches m z (IsLastTurn b) → IfErr r (λ e. Reaches a z (IsCut e (IsTaken conn frame)))
cut-loop (Ok x) b a m z conn frame left h p q = absurd h
cut-loop (Err e) b a m z conn frame left h p q =
    cut-partly e a m z conn frame left p
    (subst (λ (w : Break). Reaches m z (IsLastTurn w)) (sym h) q)

pub partly-begun : (s : SeatView) (c r d : Option (List Frame)) (i j n conn : ℕ) (frame : Frame) (msgs : List Msg)
    → Says frame msgs n → j ≡ min (i + n) (2 ^ 64 - 1)
    → Reaches (standing s c r d i) (standing s c r d j) (IsPartly conn frame msgs)
partly-begun s c r d i j n conn frame msgs says h =
    record {
      steps = skips n ∷ [];
      moves = moves-skipped s c r d i j n h;
      such = partly-start conn frame msgs n says;
    }

pub text-says : (text : List ℕ) (msgs : List ClientMsg) → msgs ≡ said_in text
    → Says (frames.Text text) (map Control msgs) (ignored_in text)
text-says text msgs e = (ap (λ (l : List ClientMsg). map Control l) e, refl)

pub binary-says : (bytes : List ℕ) (msgs values : List ValueMsg) (fault : Option FrameFault)
    → Means most_value bytes values fault → msgs ≡ values
    → Says (frames.Binary bytes) (map Put msgs) (faults_in fault)
binary-says bytes msgs values fault m e =
    (values, fault, m, ap (λ (l : List ValueMsg). map Put l) e, refl)

-- ---- the values of a frame are small and lie below the greatest time

frame-puts : (ms : List ValueMsg) (bytes : List ℕ) → IsFrame most_value ms bytes → AllByRecursion IsPut (map Put ms)
frame-puts [] bytes f = tt
frame-puts (m ∷ ms) bytes f =
    ((ltb-true m.time (2 ^ 63) f.3.lawful.time_is, f.4), frame-puts ms f.1 f.5)

means-puts : (bytes : List ℕ) (ms : List ValueMsg) (fault : Option FrameFault) → Means most_value bytes ms fault
    → AllByRecursion IsPut (map Put ms)
means-puts bytes ms None m = frame-puts ms bytes m
means-puts bytes ms (Some fault) m = frame-puts ms m.0 m.3

pub binary-puts : (bytes : List ℕ) (msgs values : List ValueMsg) (fault : Option FrameFault)
    → Means most_value bytes values fault → msgs ≡ values → AllByRecursion IsPut (map Put msgs)
binary-puts bytes msgs values fault m e =
    subst (λ (l : List ValueMsg). AllByRecursion IsPut (map Put l)) (sym e) (means-puts bytes values fault m)

along : (items rest : List ValueMsg) (m : ValueMsg) → items ≡ m ∷ rest → AllByRecursion IsPut (map Put items)
    → AllByRecursion IsPut (map Put (m ∷ rest))
along items rest m e h = subst (λ (l : List ValueMsg). AllByRecursion IsPut (map Put l)) e h

pub first-put : (items rest : List ValueMsg) (m : ValueMsg) → items ≡ m ∷ rest
    → AllByRecursion IsPut (map Put items) → IsPut (Put m)
first-put items rest m e h = (along items rest m e h).0

pub rest-put : (items rest : List ValueMsg) (m : ValueMsg) → items ≡ m ∷ rest
    → AllByRecursion IsPut (map Put items) → AllByRecursion IsPut (map Put rest)
rest-put items rest m e h = (along items rest m e h).1
