-- Steps lead on.
use Rattle.std.proofs.Common.{◌≡◌, ℕ, ◌+◌, ◌-◌, ◌^◌, min, List, [], ◌∷◌, ◌++◌, refl, sym, ap, ◌∙◌, subst, append_assoc, append-nil, arith}
use Rattle.std.specs.Prelude.{Option, Some, None, ◌⊎◌, true}
use Rattle.std.proofs.lemmas.Grind.{flat_map-append}
use Rattle.nt_link.specs.declared.frame.Frame.{Frame}
use Rattle.nt_rules.specs.declared.act.Act.{Act}
use Rattle.nt_rules.specs.declared.act.StepOut.{StepOut}
use Rattle.nt_lock.specs.declared.view.Note.TheVariants as note
use Rattle.nt_lock.specs.Seats.{SeatView}
use Rattle.nt_hall.specs.Turns.{HasTurn, Acted}
use Rattle.nt_wire.specs.Frames.{in_front, behind}
use Rattle.nt_serve.specs.Steps.{Step, acts, fails, receives, skips, sends, GoesOn, frames_in, frames_out, received, sent, ignored_act, ignored, Standing, Moves, Reaches}

pub goes-append : (s t u : SeatView) (xs ys : List Step) → GoesOn s xs t → GoesOn t ys u → GoesOn s (xs ++ ys) u
goes-append s t u [] ys a b = subst (λ (z : SeatView). GoesOn z ys u) a b
goes-append s t u (x ∷ xs) ys a b = (a.0, a.1, goes-append a.0 t u xs ys a.2 b)

front-append : (xs ys : List Frame) (o : Option (List Frame)) → in_front xs (in_front ys o) ≡ in_front (xs ++ ys) o
front-append xs ys None = refl
front-append xs ys (Some l) = ap (λ (z : List Frame). Some z) (sym (append_assoc xs ys l))

pub behind-append : (o : Option (List Frame)) (xs ys : List Frame) → behind (behind o xs) ys ≡ behind o (xs ++ ys)
behind-append None xs ys = refl
behind-append (Some l) xs ys = ap (λ (z : List Frame). Some z) (append_assoc l xs ys)

pub front-nil : (o : Option (List Frame)) → o ≡ in_front [] o
front-nil None = refl
front-nil (Some l) = refl

pub behind-nil : (o : Option (List Frame)) → o ≡ behind o []
behind-nil None = refl
behind-nil (Some l) = ap (λ (z : List Frame). Some z) (sym (append-nil l))

ignored-append : (xs ys : List Step) → ignored (xs ++ ys) ≡ ignored xs + ignored ys
ignored-append [] ys = omega arith
ignored-append (x ∷ xs) ys = let h = ignored-append xs ys in omega (arith, h)

summed : (a b c m n k : ℕ) → min b (2 ^ 64 - 1) ≡ min (a + m) (2 ^ 64 - 1)
    → min c (2 ^ 64 - 1) ≡ min (b + n) (2 ^ 64 - 1) → k ≡ m + n → min c (2 ^ 64 - 1) ≡ min (a + k) (2 ^ 64 - 1)
summed a b c m n k h j e = omega arith

pub moves-append : (a b c : Standing) (xs ys : List Step) → Moves a b xs → Moves b c ys → Moves a c (xs ++ ys)
moves-append a b c xs ys p q =
    record {
      goes = goes-append a.seat b.seat c.seat xs ys p.goes q.goes;
      coming_is = p.coming_is ∙ ap (λ (z : Option (List Frame)). in_front (received xs) z) q.coming_is
          ∙ front-append (received xs) (received ys) c.coming
          ∙ ap (λ (z : List Frame). in_front z c.coming) (sym (flat_map-append frames_in xs ys));
      received_is = q.received_is ∙ ap (λ (z : Option (List Frame)). behind z (received ys)) p.received_is
          ∙ behind-append a.received (received xs) (received ys)
          ∙ ap (λ (z : List Frame). behind a.received z) (sym (flat_map-append frames_in xs ys));
      sent_is = q.sent_is ∙ ap (λ (z : Option (List Frame)). behind z (sent ys)) p.sent_is
          ∙ behind-append a.sent (sent xs) (sent ys)
          ∙ ap (λ (z : List Frame). behind a.sent z) (sym (flat_map-append frames_out xs ys));
      ignored_is = summed a.ignored b.ignored c.ignored (ignored xs) (ignored ys) (ignored (xs ++ ys)) p.ignored_is
          q.ignored_is (ignored-append xs ys);
    }

pub none-more : (a : ℕ) → min a (2 ^ 64 - 1) ≡ min (a + 0) (2 ^ 64 - 1)
none-more a = omega arith

pub moves-nil : (a : Standing) → Moves a a []
moves-nil a =
    record {
      goes = refl;
      coming_is = front-nil a.coming;
      received_is = behind-nil a.received;
      sent_is = behind-nil a.sent;
      ignored_is = none-more a.ignored;
    }

-- ---- steps that are such

pub reach-then : (a b c : Standing) (P Q R : List Step → Type 0)
    → ((xs ys : List Step) → P xs → Q ys → R (xs ++ ys)) → Reaches a b P → Reaches b c Q → Reaches a c R
reach-then a b c P Q R f p q =
    record {
      steps = p.steps ++ q.steps;
      moves = moves-append a b c p.steps q.steps p.moves q.moves;
      such = f p.steps q.steps p.such q.such;
    }

pub reach-as : (a b : Standing) (P Q : List Step → Type 0) → ((xs : List Step) → P xs → Q xs) → Reaches a b P
    → Reaches a b Q
reach-as a b P Q f p = record { steps = p.steps; moves = p.moves; such = f p.steps p.such }

-- ---- single steps

abbrev pub standing : SeatView → Option (List Frame) → Option (List Frame) → Option (List Frame) → ℕ → Standing
standing s c r d i = record { seat = s; coming = c; received = r; sent = d; ignored = i }

-- nothing happens but that a link fails
pub moves-none : (s : SeatView) (c c2 r r2 d d2 : Option (List Frame)) (i : ℕ) → c2 ≡ c → r2 ≡ r → d2 ≡ behind d []
    → Moves (standing s c r d i) (standing s c2 r2 d2 i) []
moves-none s c c2 r r2 d d2 i x y z =
    record {
      goes = refl;
      coming_is = sym x ∙ front-nil c2;
      received_is = y ∙ behind-nil r;
      sent_is = z;
      ignored_is = none-more i;
    }

pub moves-sent : (s : SeatView) (c c2 r r2 d d2 : Option (List Frame)) (i : ℕ) (f : Frame) → c2 ≡ c → r2 ≡ r
    → d2 ≡ behind d (f ∷ []) → Moves (standing s c r d i) (standing s c2 r2 d2 i) (sends f ∷ [])
moves-sent s c c2 r r2 d d2 i f x y z =
    record {
      goes = (s, refl, refl);
      coming_is = sym x ∙ front-nil c2;
      received_is = y ∙ behind-nil r;
      sent_is = z;
      ignored_is = none-more i;
    }

one-more : (i j n : ℕ) → j ≡ min (i + n) (2 ^ 64 - 1) → min j (2 ^ 64 - 1) ≡ min (i + (n + 0)) (2 ^ 64 - 1)
one-more i j n h = omega arith

pub moves-acted : (s t : SeatView) (c r d : Option (List Frame)) (i j now : ℕ) (act : Act) (out : StepOut)
    → Acted s t now act out → j ≡ min (i + ignored_act act out) (2 ^ 64 - 1)
    → Moves (standing s c r d i) (standing t c r d j) (acts now act out ∷ [])
moves-acted s t c r d i j now act out a h =
    record {
      goes = (t, a, refl);
      coming_is = front-nil c;
      received_is = behind-nil r;
      sent_is = behind-nil d;
      ignored_is = one-more i j (ignored_act act out) h;
    }

pub moves-failed : (s t : SeatView) (c r d : Option (List Frame)) (i : ℕ)
    → HasTurn s t note.Refused ⊎ HasTurn s t (note.Looked true)
    → Moves (standing s c r d i) (standing t c r d i) (fails ∷ [])
moves-failed s t c r d i h =
    record {
      goes = (t, h, refl);
      coming_is = front-nil c;
      received_is = behind-nil r;
      sent_is = behind-nil d;
      ignored_is = none-more i;
    }

pub moves-skipped : (s : SeatView) (c r d : Option (List Frame)) (i j n : ℕ) → j ≡ min (i + n) (2 ^ 64 - 1)
    → Moves (standing s c r d i) (standing s c r d j) (skips n ∷ [])
moves-skipped s c r d i j n h =
    record {
      goes = (s, refl, refl);
      coming_is = front-nil c;
      received_is = behind-nil r;
      sent_is = behind-nil d;
      ignored_is = one-more i j n h;
    }

-- a link gives nothing
pub moves-quiet : (s : SeatView) (c c2 r r2 d d2 : Option (List Frame)) (i : ℕ) → c ≡ in_front [] c2
    → r2 ≡ behind r [] → d2 ≡ d → Moves (standing s c r d i) (standing s c2 r2 d2 i) []
moves-quiet s c c2 r r2 d d2 i x y z =
    record { goes = refl; coming_is = x; received_is = y; sent_is = z ∙ behind-nil d; ignored_is = none-more i }

pub moves-received : (s : SeatView) (c c2 r r2 d d2 : Option (List Frame)) (i : ℕ) (f : Frame)
    → c ≡ in_front (f ∷ []) c2 → r2 ≡ behind r (f ∷ []) → d2 ≡ d
    → Moves (standing s c r d i) (standing s c2 r2 d2 i) (receives f ∷ [])
moves-received s c c2 r r2 d d2 i f x y z =
    record {
      goes = (s, refl, refl);
      coming_is = x;
      received_is = y;
      sent_is = z ∙ behind-nil d;
      ignored_is = none-more i;
    }
