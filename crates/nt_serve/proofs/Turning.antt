-- Rounds, one after another.
use Rattle.std.proofs.Common.{◌≡◌, ◌<◌, ◌≤◌, ℕ, List, [], ◌∷◌, ◌++◌, refl, sym, ap, subst, ◌∙◌, append_assoc, append-nil}
use Rattle.std.specs.Prelude.{Option, Some, None, Result, Ok, Err, IfErr, IfSome, IsErrAnd, Bool, true, false, not, ◌&&◌, nat_lt, is_none, MatchBool}
use Rattle.std.specs.List.{AllByRecursion, flat_map}
use Rattle.std.proofs.lemmas.Bool.{lt-ltb, le-ltb}
use Rattle.std.proofs.lemmas.Grind.{flat_map-append}
use Rattle.nt_link.specs.declared.frame.Frame.{Frame}
use Rattle.nt_lock.specs.declared.view.Note.TheVariants as note
use Rattle.nt_lock.specs.Seats.{SeatView}
use Rattle.nt_hall.specs.declared.work.Looked.{Looked}
use Rattle.nt_hall.specs.Histories.{IsLook}
use Rattle.nt_hall.specs.Turns.{HasTurn}
use Rattle.nt_serve.specs.declared.served.Break.{Break}
use Rattle.nt_serve.specs.declared.served.Break.TheVariants as broken
use Rattle.nt_serve.specs.declared.served.ServedEnd.{ServedEnd}
use Rattle.nt_serve.specs.declared.served.ServedEnd.TheVariants.{Behind, Shut}
use Rattle.nt_serve.specs.Steps.{Step, looks, fails, Standing, Moves, Reaches}
use Rattle.nt_serve.specs.Rounds.{IsHeard, IsHeardAs, IsDrained, is_fine, is_owed, IsTail, IsRound, IsWhole, IsAnyRound}
use Rattle.nt_serve.specs.Sessions.{last_turn, IsCut, IsLastOf, IsRoundAs, end_of, AreRounds}
use Rattle.nt_serve.proofs.Moving.{standing, front-nil, behind-nil, none-more, moves-nil, reach-then, reach-as}

-- ---- a look

pub moves-looked : (s t : SeatView) (c r d : Option (List Frame)) (i conn : ℕ) (look : Looked)
    → HasTurn s t (note.Looked look.failed) → look.failed ≡ false
    → (look.failed ≡ false → IfSome t.seen (λ list. IsLook s.origin.start list conn look))
    → Moves (standing s c r d i) (standing t c r d i) (looks conn look ∷ [])
moves-looked s t c r d i conn look turn well says =
    record {
      goes = (
        t,
        record {
          turn = subst (λ (b : Bool). HasTurn s t (note.Looked b)) well turn;
          well = well;
          says = says well;
        },
        refl,
      );
      coming_is = front-nil c;
      received_is = behind-nil r;
      sent_is = behind-nil d;
      ignored_is = none-more i;
    }

pub failed-looked : (s t : SeatView) (look : Looked) → HasTurn s t (note.Looked look.failed) → look.failed ≡ true
    → HasTurn s t (note.Looked true)
failed-looked s t look turn failed = subst (λ (b : Bool). HasTurn s t (note.Looked b)) failed turn

-- where nothing is handed
tail-alone : (conn : ℕ) (look : Looked) → is_owed look ≡ false → IsTail conn look (looks conn look ∷ [])
tail-alone conn look e =
    record {
      drained = [];
      drained_are = subst (λ (b : Bool). MatchBool b (IsDrained conn []) (◌≡◌ {A = List Step} [] [])) (sym e) refl;
      steps_are = refl;
    }

tail-drained : (conn : ℕ) (look : Looked) (drained : List Step) → is_owed look ≡ true → IsDrained conn drained
    → IsTail conn look (looks conn look ∷ drained)
tail-drained conn look drained e h =
    record {
      drained = drained;
      drained_are = subst (λ (b : Bool). MatchBool b (IsDrained conn drained) (drained ≡ [])) (sym e) h;
      steps_are = refl;
    }

round-of : (conn : ℕ) (look : Looked) (xs ys : List Step) → IsHeard conn xs → IsTail conn look ys
    → IsRound conn look (xs ++ ys)
round-of conn look xs ys h t = record { heard = xs; tail = ys; heard_are = h; tail_are = t; steps_are = refl }

-- ---- cut

pub cut-by : {U : Type 0} (r : Result U Break) (b : Break) (a z : Standing) (conn : ℕ)
    → IsErrAnd r (λ e. e ≡ b) → Reaches a z (IsCut b (IsAnyRound conn))
    → IfErr r (λ e. Reaches a z (IsCut e (IsAnyRound conn)))
cut-by (Ok x) b a z conn h p = absurd h
cut-by (Err e) b a z conn h p = subst (λ (w : Break). Reaches a z (IsCut w (IsAnyRound conn))) (sym h) p

-- a frame was taken, or none came
pub heard-more : (a z : Standing) (conn : ℕ) (more : Bool) → more ≡ true → Reaches a z (IsHeardAs more conn)
    → Reaches a z (IsHeard conn)
heard-more a z conn more e p =
    reach-as a z (IsHeardAs more conn) (IsHeard conn)
    (λ xs h. subst (λ (b : Bool). IsHeardAs b conn xs) e h) p

-- a look that finds nothing
abbrev nothing : Looked
nothing = record { pending = 0; behind = None; shut = false; failed = false }

pub any-round : (conn : ℕ) (xs : List Step) → IsHeard conn xs → IsAnyRound conn (xs ++ looks conn nothing ∷ [])
any-round conn xs h =
    record {
      look = nothing;
      round = round-of conn nothing xs (looks conn nothing ∷ []) h (tail-alone conn nothing refl);
    }

cut-in-heard : (b : Break) (conn : ℕ) (xs : List Step) → IsCut b (IsHeard conn) xs → IsCut b (IsAnyRound conn) xs
cut-in-heard b conn xs p =
    record {
      front = p.front;
      rest = p.rest ++ looks conn nothing ∷ [];
      whole = subst (λ (l : List Step). IsAnyRound conn l) (append_assoc p.front p.rest (looks conn nothing ∷ []))
          (any-round conn (p.front ++ p.rest) p.whole);
      steps_are = p.steps_are;
    }

pub cut-heard : (b : Break) (a z : Standing) (conn : ℕ) → Reaches a z (IsCut b (IsHeard conn))
    → Reaches a z (IsCut b (IsAnyRound conn))
cut-heard b a z conn p = reach-as a z (IsCut b (IsHeard conn)) (IsCut b (IsAnyRound conn)) (cut-in-heard b conn) p

-- the look found that the hall has failed
pub cut-looked : (a m z : Standing) (conn : ℕ) → Reaches a m (IsHeard conn) → Moves m z (fails ∷ [])
    → Reaches a z (IsCut broken.Failed (IsAnyRound conn))
cut-looked a m z conn p q =
    reach-then a m z (IsHeard conn) (λ ys. ys ≡ fails ∷ []) (IsCut broken.Failed (IsAnyRound conn))
    (λ xs ys h e. record {
      front = xs;
      rest = looks conn nothing ∷ [];
      whole = any-round conn xs h;
      steps_are = ap (λ (l : List Step). xs ++ l) e;
    }) p (record { steps = fails ∷ []; moves = q; such = refl })

cut-in-drain : (b : Break) (conn : ℕ) (look : Looked) (xs ys : List Step) → is_owed look ≡ true → IsHeard conn xs
    → IsCut b (IsDrained conn) ys → IsCut b (IsAnyRound conn) (xs ++ looks conn look ∷ ys)
cut-in-drain b conn look xs ys e h p =
    record {
      front = xs ++ looks conn look ∷ p.front;
      rest = p.rest;
      whole = record {
        look = look;
        round = subst (λ (l : List Step). IsRound conn look l)
            (sym (append_assoc xs (looks conn look ∷ p.front) p.rest))
            (round-of conn look xs (looks conn look ∷ (p.front ++ p.rest)) h
            (tail-drained conn look (p.front ++ p.rest) e p.whole));
      };
      steps_are = ap (λ (l : List Step). xs ++ looks conn look ∷ l) p.steps_are
          ∙ sym (append_assoc xs (looks conn look ∷ p.front) (last_turn b));
    }

-- ---- a look that found nothing wrong

is-fine : (look : Looked) → look.shut ≡ false → look.behind ≡ None → is_fine look ≡ true
is-fine look e n =
    ap (λ (b : Bool). not b && is_none look.behind) e ∙ ap (λ (o : Option ℕ). is_none o) n

some-pending : (n : ℕ) → 0 < n → nat_lt 0 n ≡ true
some-pending n h = lt-ltb 0 n h

none-pending : (n : ℕ) → n ≤ 0 → nat_lt 0 n ≡ false
none-pending n h = le-ltb 0 n h

is-owed : (look : Looked) → look.shut ≡ false → look.behind ≡ None → 0 < look.pending → is_owed look ≡ true
is-owed look e n p =
    ap (λ (b : Bool). b && nat_lt 0 look.pending) (is-fine look e n) ∙ some-pending look.pending p

isnt-owed : (look : Looked) → look.shut ≡ false → look.behind ≡ None → look.pending ≤ 0 → is_owed look ≡ false
isnt-owed look e n p =
    ap (λ (b : Bool). b && nat_lt 0 look.pending) (is-fine look e n) ∙ none-pending look.pending p

pub cut-drain : (b : Break) (a m n z : Standing) (conn : ℕ) (look : Looked) → look.shut ≡ false
    → look.behind ≡ None → 0 < look.pending → Reaches a m (IsHeard conn)
    → Moves m n (looks conn look ∷ []) → Reaches n z (IsCut b (IsDrained conn))
    → Reaches a z (IsCut b (IsAnyRound conn))
cut-drain b a m n z conn look e none some p q d =
    reach-then a m z (IsHeard conn)
    (λ ys. (ds : List Step) × (ys ≡ looks conn look ∷ ds) × IsCut b (IsDrained conn) ds)
    (IsCut b (IsAnyRound conn))
    (λ xs ys h w. subst (λ (l : List Step). IsCut b (IsAnyRound conn) (xs ++ l)) (sym w.1)
    (cut-in-drain b conn look xs w.0 (is-owed look e none some) h w.2))
    p
    (reach-then m n z (λ l. l ≡ looks conn look ∷ []) (IsCut b (IsDrained conn))
    (λ ys. (ds : List Step) × (ys ≡ looks conn look ∷ ds) × IsCut b (IsDrained conn) ds)
    (λ us ds w k. (ds, ap (λ (l : List Step). l ++ ds) w, k))
    (record { steps = looks conn look ∷ []; moves = q; such = refl }) d)

pub whole-drained : (a m n z : Standing) (conn : ℕ) (look : Looked) → look.shut ≡ false → look.behind ≡ None
    → 0 < look.pending → Reaches a m (IsHeard conn) → Moves m n (looks conn look ∷ [])
    → Reaches n z (IsDrained conn) → Reaches a z (IsRoundAs None conn)
whole-drained a m n z conn look e none some p q d =
    reach-then a m z (IsHeard conn) (IsTail conn look) (IsRoundAs None conn)
    (λ xs ys h t. record { look = look; fine = is-fine look e none; round = round-of conn look xs ys h t })
    p
    (reach-then m n z (λ l. l ≡ looks conn look ∷ []) (IsDrained conn) (IsTail conn look)
    (λ us ds w k. subst (λ (l : List Step). IsTail conn look (l ++ ds)) (sym w)
    (tail-drained conn look ds (is-owed look e none some) k))
    (record { steps = looks conn look ∷ []; moves = q; such = refl }) d)

-- a round that ends with its look
ends-looked : (a m z : Standing) (conn : ℕ) (look : Looked) → is_owed look ≡ false → Reaches a m (IsHeard conn)
    → Moves m z (looks conn look ∷ []) → Reaches a z (IsRound conn look)
ends-looked a m z conn look e p q =
    reach-then a m z (IsHeard conn) (λ l. l ≡ looks conn look ∷ []) (IsRound conn look)
    (λ xs ys h w. subst (λ (l : List Step). IsRound conn look (xs ++ l)) (sym w)
    (round-of conn look xs (looks conn look ∷ []) h (tail-alone conn look e)))
    p (record { steps = looks conn look ∷ []; moves = q; such = refl })

pub whole-looked : (a m z : Standing) (conn : ℕ) (look : Looked) → look.shut ≡ false → look.behind ≡ None
    → look.pending ≤ 0 → Reaches a m (IsHeard conn) → Moves m z (looks conn look ∷ [])
    → Reaches a z (IsRoundAs None conn)
whole-looked a m z conn look e none few p q =
    reach-as a z (IsRound conn look) (IsRoundAs None conn)
    (λ xs r. record { look = look; fine = is-fine look e none; round = r })
    (ends-looked a m z conn look (isnt-owed look e none few) p q)

pub ends-shut : (a m z : Standing) (conn : ℕ) (look : Looked) → look.shut ≡ true → Reaches a m (IsHeard conn)
    → Moves m z (looks conn look ∷ []) → Reaches a z (IsRoundAs (Some Shut) conn)
ends-shut a m z conn look e p q =
    reach-as a z (IsRound conn look) (IsRoundAs (Some Shut) conn) (λ xs r. (look, e, r))
    (ends-looked a m z conn look
    (ap (λ (b : Bool). (not b && is_none look.behind) && nat_lt 0 look.pending) e) p q)

pub ends-behind : (a m z : Standing) (conn weight : ℕ) (look : Looked) → look.shut ≡ false
    → look.behind ≡ Some weight → Reaches a m (IsHeard conn) → Moves m z (looks conn look ∷ [])
    → Reaches a z (IsRoundAs (Some (Behind weight)) conn)
ends-behind a m z conn weight look e some p q =
    reach-as a z (IsRound conn look) (IsRoundAs (Some (Behind weight)) conn)
    (λ xs r. (look, record { unshut = e; behind = some }, r))
    (ends-looked a m z conn look
    (ap (λ (b : Bool). (not b && is_none look.behind) && nat_lt 0 look.pending) e
    ∙ ap (λ (o : Option ℕ). is_none o && nat_lt 0 look.pending) some) p q)

-- ---- whole rounds

pub record AreWhole (conn : ℕ) (steps : List Step) : Type 0 where
  pub rounds : List (List Step)
  pub each : AllByRecursion (IsWhole conn) rounds
  pub steps_are : steps ≡ flat_map (λ round. round) rounds

all-more : (conn : ℕ) (rounds : List (List Step)) (ys : List Step) → AllByRecursion (IsWhole conn) rounds
    → IsWhole conn ys → AllByRecursion (IsWhole conn) (rounds ++ ys ∷ [])
all-more conn [] ys h w = (w, tt)
all-more conn (x ∷ rounds) ys h w = (h.0, all-more conn rounds ys h.1 w)

pub whole-start : (a : Standing) (conn : ℕ) → Reaches a a (AreWhole conn)
whole-start a conn =
    record { steps = []; moves = moves-nil a; such = record { rounds = []; each = tt; steps_are = refl } }

more-rounds : (conn : ℕ) (xs ys : List Step) → AreWhole conn xs → IsWhole conn ys → AreWhole conn (xs ++ ys)
more-rounds conn xs ys p w =
    record {
      rounds = p.rounds ++ ys ∷ [];
      each = all-more conn p.rounds ys p.each w;
      steps_are = ap (λ (l : List Step). l ++ ys) p.steps_are
          ∙ ap (λ (l : List Step). flat_map (λ (r : List Step). r) p.rounds ++ l) (sym (append-nil ys))
          ∙ sym (flat_map-append (λ (r : List Step). r) p.rounds (ys ∷ []));
    }

pub whole-more : (a m z : Standing) (conn : ℕ) (end : Option ServedEnd) → end ≡ None
    → Reaches a m (AreWhole conn) → Reaches m z (IsRoundAs end conn) → Reaches a z (AreWhole conn)
whole-more a m z conn end e p q =
    reach-then a m z (AreWhole conn) (IsRoundAs end conn) (AreWhole conn)
    (λ xs ys w r. more-rounds conn xs ys w (subst (λ (o : Option ServedEnd). IsRoundAs o conn ys) e r)) p q

-- the last round follows
rounds-last : (a m z : Standing) (conn : ℕ) (last : List Step → Type 0) → Reaches a m (AreWhole conn)
    → Reaches m z last → Reaches a z (AreRounds last conn)
rounds-last a m z conn last p q =
    reach-then a m z (AreWhole conn) last (AreRounds last conn)
    (λ xs ys w h. record {
      rounds = w.rounds;
      final = ys;
      each = w.each;
      last_is = h;
      steps_are = ap (λ (l : List Step). l ++ ys) w.steps_are;
    }) p q

pub rounds-end : (a m z : Standing) (conn : ℕ) (found : Option ServedEnd) (end : ServedEnd) → found ≡ Some end
    → Reaches a m (AreWhole conn) → Reaches m z (IsRoundAs found conn)
    → Reaches a z (AreRounds (IsLastOf (Some end) conn) conn)
rounds-end a m z conn found end e p q =
    rounds-last a m z conn (IsLastOf (Some end) conn) p
    (reach-as m z (IsRoundAs found conn) (IsLastOf (Some end) conn)
    (λ xs r. subst (λ (o : Option ServedEnd). IsRoundAs o conn xs) e r) q)

last-cut : (b : Break) (conn : ℕ) (xs : List Step) → IsCut b (IsAnyRound conn) xs → IsLastOf (end_of b) conn xs
last-cut broken.Link conn xs h = h
last-cut broken.Memory conn xs h = h
last-cut broken.Failed conn xs h = h

pub rounds-cut : (a m z : Standing) (conn : ℕ) (b : Break) (end : Option ServedEnd) → end ≡ end_of b
    → Reaches a m (AreWhole conn) → Reaches m z (IsCut b (IsAnyRound conn))
    → Reaches a z (AreRounds (IsLastOf end conn) conn)
rounds-cut a m z conn b end e p q =
    rounds-last a m z conn (IsLastOf end conn) p
    (reach-as m z (IsCut b (IsAnyRound conn)) (IsLastOf end conn)
    (λ xs h. subst (λ (o : Option ServedEnd). IsLastOf o conn xs) (sym e) (last-cut b conn xs h)) q)
