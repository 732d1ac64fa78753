-- Sessions, from the opening to the close.
use Rattle.std.proofs.Common.{◌≡◌, ℕ, ◌+◌, ◌-◌, ◌^◌, ◌<◌, min, List, [], ◌∷◌, ◌++◌, refl, sym, ap, subst, ◌∙◌, append_assoc, append-nil, inl, inr, arith}
use Rattle.std.specs.Prelude.{Option, Some, None}
use Rattle.std.specs.List.{flat_map}
use Rattle.nt_link.specs.declared.frame.Frame.{Frame}
use Rattle.nt_topics.specs.declared.version.Version.{Version}
use Rattle.nt_rules.specs.declared.act.Act.TheVariants.{Open, Close}
use Rattle.nt_rules.specs.declared.act.StepOut.{StepOut}
use Rattle.nt_rules.specs.declared.act.StepOut.TheVariants.{Opened}
use Rattle.nt_lock.specs.declared.view.Note.TheVariants as note
use Rattle.nt_lock.specs.Seats.{SeatView}
use Rattle.nt_hall.specs.Turns.{HasTurn, Acted}
use Rattle.nt_serve.specs.declared.served.Break.TheVariants as broken
use Rattle.nt_serve.specs.declared.served.Served.{Served}
use Rattle.nt_serve.specs.declared.served.ServedEnd.{ServedEnd}
use Rattle.nt_serve.specs.declared.served.ServedEnd.TheVariants.{Ended, LinkFault as link_fault, Behind, Shut, NotOpened, Memory}
use Rattle.nt_serve.specs.Steps.{Step, acts, fails, ignored, Standing, Moves, Reaches}
use Rattle.nt_serve.specs.Rounds.{IsAnyRound}
use Rattle.nt_serve.specs.Sessions.{IsCut, IsLast, IsLastOf, AreRounds, IsOpened, IsUnopened, IsSession, IsBroken, IsServed, Serves}
use Rattle.nt_serve.proofs.Moving.{standing, front-nil, behind-nil, moves-nil, moves-failed, moves-acted, reach-then}
use Rattle.nt_serve.proofs.Turning.{any-round}

abbrev told : ℕ → ℕ → ServedEnd → Served
told conn i end = record { conn = conn; ignored = i; end = end }

-- what is counted, up to the greatest number
counted : (i n : ℕ) → i < 2 ^ 64 → min i (2 ^ 64 - 1) ≡ min (0 + n) (2 ^ 64 - 1) → i ≡ min n (2 ^ 64 - 1)
counted i n h e = omega arith

-- what was done, and what is told of it
serves : (s t : SeatView) (c r d c2 r2 d2 : Option (List Frame)) (name : List ℕ) (version : Version) (conn i : ℕ)
    (end : ServedEnd) (served : Served) → served ≡ told conn i end → served.ignored < 2 ^ 64
    → Reaches (standing s c r d 0) (standing t c2 r2 d2 i) (IsServed name version conn end)
    → Serves (standing s c r d 0) (standing t c2 r2 d2 served.ignored) name version served
serves s t c r d c2 r2 d2 name version conn i end served e h p =
    subst (λ (v : Served). Serves (standing s c r d 0) (standing t c2 r2 d2 v.ignored) name version v) (sym e)
    (record {
      steps = p.steps;
      moves = p.moves;
      session = p.such;
      ignored_is = counted i (ignored p.steps) (subst (λ (v : Served). v.ignored < 2 ^ 64) e h) p.moves.ignored_is;
    })

-- ---- not opened

pub unopened-nothing : (s : SeatView) (c r d : Option (List Frame)) (name : List ℕ) (version : Version)
    (served : Served) → served ≡ told 0 0 Memory → served.ignored < 2 ^ 64
    → Serves (standing s c r d 0) (standing s c r d served.ignored) name version served
unopened-nothing s c r d name version served e h =
    serves s s c r d c r d name version 0 0 Memory served e h
    (record { steps = []; moves = moves-nil (standing s c r d 0); such = inl (refl, inl refl) })

pub unopened-failed : (s t : SeatView) (c r d : Option (List Frame)) (name : List ℕ) (version : Version)
    (served : Served) → served ≡ told 0 0 Memory → served.ignored < 2 ^ 64 → HasTurn s t note.Refused
    → Serves (standing s c r d 0) (standing t c r d served.ignored) name version served
unopened-failed s t c r d name version served e h turn =
    serves s t c r d c r d name version 0 0 Memory served e h
    (record { steps = fails ∷ []; moves = moves-failed s t c r d 0 (inl turn); such = inl (refl, inr refl) })

moves-opened : (s t : SeatView) (c r d : Option (List Frame)) (now : ℕ) (name : List ℕ) (version : Version)
    (out : StepOut) → Acted s t now (Open name version) out
    → Moves (standing s c r d 0) (standing t c r d 0) (acts now (Open name version) out ∷ [])
moves-opened s t c r d now name version out a =
    moves-acted s t c r d 0 0 now (Open name version) out a (omega arith)

pub unopened-refused : (s t : SeatView) (c r d : Option (List Frame)) (name copy : List ℕ) (version : Version)
    (now : ℕ) (out : StepOut) (served : Served) → served ≡ told 0 0 NotOpened → served.ignored < 2 ^ 64
    → copy ≡ name → Acted s t now (Open copy version) out → IsUnopened out
    → Serves (standing s c r d 0) (standing t c r d served.ignored) name version served
unopened-refused s t c r d name copy version now out served e h same a u =
    subst (λ (l : List ℕ). Serves (standing s c r d 0) (standing t c r d served.ignored) l version served) same
    (serves s t c r d c r d copy version 0 0 NotOpened served e h
    (record {
      steps = acts now (Open copy version) out ∷ [];
      moves = moves-opened s t c r d now copy version out a;
      such = (refl, record { now = now; out = out; refused = u; steps_are = refl });
    }))

-- ---- opened

pub record IsBegun (name : List ℕ) (version : Version) (conn : ℕ) (steps : List Step) : Type 0 where
  pub given : List ℕ
  pub opened_at : ℕ
  pub steps_are : steps ≡ acts opened_at (Open name version) (Opened conn given) ∷ []

pub begun : (s t : SeatView) (c r d : Option (List Frame)) (name copy : List ℕ) (version : Version) (conn now : ℕ)
    (out : StepOut) → copy ≡ name → Acted s t now (Open copy version) out → IsOpened out conn
    → Reaches (standing s c r d 0) (standing t c r d 0) (IsBegun name version conn)
begun s t c r d name copy version conn now out same a o =
    record {
      steps = acts now (Open copy version) out ∷ [];
      moves = moves-opened s t c r d now copy version out a;
      such = record {
        given = o.0;
        opened_at = now;
        steps_are = ap (λ (l : List ℕ). acts now (Open l version) out ∷ []) same
            ∙ ap (λ (x : StepOut). acts now (Open name version) x ∷ []) o.1;
      };
    }

-- rounds of which another thing is said of the last
rounds-as : (P Q : List Step → Type 0) (conn : ℕ) (xs : List Step) → ((ys : List Step) → P ys → Q ys)
    → AreRounds P conn xs → AreRounds Q conn xs
rounds-as P Q conn xs f w =
    record {
      rounds = w.rounds;
      final = w.final;
      each = w.each;
      last_is = f w.final w.last_is;
      steps_are = w.steps_are;
    }

broken-of : (name : List ℕ) (version : Version) (conn : ℕ) (xs ys : List Step) → IsBegun name version conn xs
    → AreRounds (IsLastOf None conn) conn ys → IsBroken name version conn (xs ++ ys)
broken-of name version conn xs ys b w =
    record {
      given = b.given;
      opened_at = b.opened_at;
      rounds = ys;
      rounds_are = rounds-as (IsLastOf None conn) (IsCut broken.Failed (IsAnyRound conn)) conn ys (λ zs h. h) w;
      steps_are = ap (λ (l : List Step). l ++ ys) b.steps_are;
    }

-- the hall failed in a round
pub serves-broken : (s t : SeatView) (c r d c2 r2 d2 : Option (List Frame)) (m : Standing) (name : List ℕ)
    (version : Version) (conn i : ℕ) (served : Served) → served ≡ told conn i Memory → served.ignored < 2 ^ 64
    → Reaches (standing s c r d 0) m (IsBegun name version conn)
    → Reaches m (standing t c2 r2 d2 i) (AreRounds (IsLastOf None conn) conn)
    → Serves (standing s c r d 0) (standing t c2 r2 d2 served.ignored) name version served
serves-broken s t c r d c2 r2 d2 m name version conn i served e h p q =
    serves s t c r d c2 r2 d2 name version conn i Memory served e h
    (reach-then (standing s c r d 0) m (standing t c2 r2 d2 i) (IsBegun name version conn)
    (AreRounds (IsLastOf None conn) conn) (IsServed name version conn Memory)
    (λ xs ys b w. inr (inr (broken-of name version conn xs ys b w))) p q)

-- ---- closed

served-session : (name : List ℕ) (version : Version) (conn : ℕ) (end : ServedEnd) (steps : List Step)
    → IsSession name version conn end steps → IsServed name version conn end steps
served-session name version conn Ended steps w = w
served-session name version conn link_fault steps w = w
served-session name version conn (Behind weight) steps w = w
served-session name version conn Shut steps w = w
served-session name version conn NotOpened steps w = absurd w.rounds_are.last_is
served-session name version conn Memory steps w = inr (inl w)

-- a close
pub record IsClose (conn : ℕ) (steps : List Step) : Type 0 where
  pub closed_at : ℕ
  pub closed : StepOut
  pub steps_are : steps ≡ acts closed_at (Close conn) closed ∷ []

none-said : (i : ℕ) → min i (2 ^ 64 - 1) ≡ min (i + (0 + 0)) (2 ^ 64 - 1)
none-said i = omega arith

pub closes : (s t : SeatView) (c r d : Option (List Frame)) (i conn now : ℕ) (out : StepOut)
    → Acted s t now (Close conn) out → Reaches (standing s c r d i) (standing t c r d i) (IsClose conn)
closes s t c r d i conn now out a =
    record {
      steps = acts now (Close conn) out ∷ [];
      moves = record {
        goes = (t, a, refl);
        coming_is = front-nil c;
        received_is = behind-nil r;
        sent_is = behind-nil d;
        ignored_is = none-said i;
      };
      such = record { closed_at = now; closed = out; steps_are = refl };
    }

session-of : (name : List ℕ) (version : Version) (conn : ℕ) (end : ServedEnd) (xs ys zs : List Step)
    → IsBegun name version conn xs → AreRounds (IsLastOf (Some end) conn) conn ys → IsClose conn zs
    → IsSession name version conn end (xs ++ (ys ++ zs))
session-of name version conn end xs ys zs b w z =
    record {
      given = b.given;
      opened_at = b.opened_at;
      rounds = ys;
      closed_at = z.closed_at;
      closed = z.closed;
      rounds_are = rounds-as (IsLastOf (Some end) conn) (IsLast conn end) conn ys (λ us h. h) w;
      steps_are = ap (λ (l : List Step). l ++ (ys ++ zs)) b.steps_are
          ∙ ap (λ (l : List Step). acts b.opened_at (Open name version) (Opened conn b.given) ∷ ys ++ l) z.steps_are;
    }

pub record AreClosed (conn : ℕ) (end : ServedEnd) (steps : List Step) : Type 0 where
  pub rounds : List Step
  pub close : List Step
  pub rounds_are : AreRounds (IsLastOf (Some end) conn) conn rounds
  pub close_is : IsClose conn close
  pub steps_are : steps ≡ rounds ++ close

pub serves-session : (s t : SeatView) (c r d c2 r2 d2 : Option (List Frame)) (m n : Standing) (name : List ℕ)
    (version : Version) (conn i : ℕ) (end : ServedEnd) (served : Served) → served ≡ told conn i end
    → served.ignored < 2 ^ 64 → Reaches (standing s c r d 0) m (IsBegun name version conn)
    → Reaches m n (AreRounds (IsLastOf (Some end) conn) conn)
    → Reaches n (standing t c2 r2 d2 i) (IsClose conn)
    → Serves (standing s c r d 0) (standing t c2 r2 d2 served.ignored) name version served
serves-session s t c r d c2 r2 d2 m n name version conn i end served e h p q z =
    serves s t c r d c2 r2 d2 name version conn i end served e h
    (reach-then (standing s c r d 0) m (standing t c2 r2 d2 i) (IsBegun name version conn) (AreClosed conn end)
    (IsServed name version conn end)
    (λ xs ys b w. served-session name version conn end (xs ++ ys)
    (subst (λ (l : List Step). IsSession name version conn end (xs ++ l)) (sym w.steps_are)
    (session-of name version conn end xs w.rounds w.close b w.rounds_are w.close_is))) p
    (reach-then m n (standing t c2 r2 d2 i) (AreRounds (IsLastOf (Some end) conn) conn) (IsClose conn)
    (AreClosed conn end)
    (λ ys zs w u. record { rounds = ys; close = zs; rounds_are = w; close_is = u; steps_are = refl }) q z))

-- ---- the hall failed as the connection was to be closed

cut-further : (conn : ℕ) (front rest xs : List Step) → IsAnyRound conn (front ++ rest) → xs ≡ front ++ []
    → IsCut broken.Failed (IsAnyRound conn) (xs ++ fails ∷ [])
cut-further conn front rest xs w e =
    record {
      front = front;
      rest = rest;
      whole = w;
      steps_are = ap (λ (l : List Step). l ++ fails ∷ []) (e ∙ append-nil front);
    }

after-round : (conn : ℕ) (xs : List Step) → IsAnyRound conn xs
    → IsCut broken.Failed (IsAnyRound conn) (xs ++ fails ∷ [])
after-round conn xs w =
    cut-further conn xs [] xs (subst (λ (l : List Step). IsAnyRound conn l) (sym (append-nil xs)) w)
    (sym (append-nil xs))

last-broken : (conn : ℕ) (end : ServedEnd) (xs : List Step) → IsLast conn end xs
    → IsCut broken.Failed (IsAnyRound conn) (xs ++ fails ∷ [])
last-broken conn Ended xs w = cut-further conn [] _ xs (any-round conn [] (record { either = inl refl })) w
last-broken conn link_fault xs w = cut-further conn w.front w.rest xs w.whole w.steps_are
last-broken conn (Behind weight) xs w = after-round conn xs (record { look = w.0; round = w.2 })
last-broken conn Shut xs w = after-round conn xs (record { look = w.0; round = w.2 })
last-broken conn NotOpened xs w = absurd w
last-broken conn Memory xs w = cut-further conn w.front w.rest xs w.whole w.steps_are

rounds-broken : (conn : ℕ) (end : ServedEnd) (xs ys : List Step) → AreRounds (IsLastOf (Some end) conn) conn xs
    → ys ≡ fails ∷ [] → AreRounds (IsLastOf None conn) conn (xs ++ ys)
rounds-broken conn end xs ys w e =
    record {
      rounds = w.rounds;
      final = w.final ++ fails ∷ [];
      each = w.each;
      last_is = last-broken conn end w.final w.last_is;
      steps_are = ap (λ (l : List Step). l ++ ys) w.steps_are
          ∙ ap (λ (l : List Step). (flat_map (λ (x : List Step). x) w.rounds ++ w.final) ++ l) e
          ∙ append_assoc (flat_map (λ (x : List Step). x) w.rounds) w.final (fails ∷ []);
    }

pub unclosed : (m n z : Standing) (conn : ℕ) (end : ServedEnd)
    → Reaches m n (AreRounds (IsLastOf (Some end) conn) conn) → Moves n z (fails ∷ [])
    → Reaches m z (AreRounds (IsLastOf None conn) conn)
unclosed m n z conn end p q =
    reach-then m n z (AreRounds (IsLastOf (Some end) conn) conn) (λ l. l ≡ fails ∷ [])
    (AreRounds (IsLastOf None conn) conn) (rounds-broken conn end) p
    (record { steps = fails ∷ []; moves = q; such = refl })
