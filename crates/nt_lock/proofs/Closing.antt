-- The lock as it closes.
--     gathers-first, gathers      the pass takes in the seats in their order
--     first-here, next-here       each seat that it takes is of this lock
--     some-hands                  it has hands
--     closes-all                  what the value tells, once it has taken in all
use Rattle.std.proofs.Common.{◌≡◌, ◌≢◌, ◌⊎◌, ℕ, zero, suc, ◌<◌, ◌≤◌, inl, inr, List, [], ◌∷◌, ◌++◌, length, map, reverse, get_or, sym, refl, ap, ◌∙◌, subst, arith, sum_by, append-nil, append_assoc, length-append, Bool, true, false, ◌||◌, lt_of_not-le}
use Rattle.std.proofs.lemmas.List.{reverse-append, reverse-reverse}
use Rattle.std.specs.Prelude.{IfSome}
use Rattle.std.specs.List.{AllByRecursion}
use mathlib.Core.Logic.{dite}
use mathlib.Core.List.{map-append}
use mathlib.Core.Option.{some, some-ne-none}
use native.Mathlib.Decide.{ℕ_discrete, dec_le}
use lib.ListN.{get_elem?}
use Rattle.atomic_table.specs.Table.{State, Me, Final, Seen}
use Rattle.atomic_table.specs.Seated.{TableId}
use Rattle.atomic_table.proofs.Lists.{at_map}
use Rattle.nt_lock.specs.declared.view.Kept.{Kept}
use Rattle.nt_lock.specs.declared.view.Note.{Note}
use Rattle.nt_lock.specs.declared.view.Stage.TheVariants.{Idle, Entered}
use Rattle.nt_lock.specs.declared.view.Hand.{Hand}
use Rattle.nt_lock.specs.declared.view.Known.{Known}
use Rattle.nt_lock.specs.declared.view.Origin.{Origin}
use Rattle.nt_lock.specs.declared.view.View.{View}
use Rattle.nt_lock.specs.Turns.{is_refused, found_failed, any_turn, any_hand, times}
use Rattle.nt_lock.specs.Tickets.{inside}
use Rattle.nt_lock.specs.Knowledge.{Agrees, IsPast, times_in, Flagged, Named}
use Rattle.nt_lock.specs.Rule.{stage_of, known_in, IsPlaced, LockRule}
use Rattle.nt_lock.specs.Steps.{merged}
use Rattle.nt_lock.specs.Seats.{SeatView, seat_hand, AreAll, any_seat, IsOfWorkers, Closes}
use Rattle.nt_lock.specs.Passes.{idle_pass, Gathers}
use Rattle.nt_lock.proofs.Lists.{same-at, at-middle, at-map-back, total-has, total-has-two, none-is-not-some, if-some, false-is-not-true}
use Rattle.nt_lock.proofs.Hands.{stands-once}

-- ---- one seat has the hands of all workers

module _ (ks : List Known) (id : ℕ) (k : Known) (at : get_elem? ks id ≡ some k) (opens : 0 < k.opened)
    (all : (w : ℕ) → 0 < w → w ≤ k.opened → 1 ≤ times w k.hands) (named : Named ks) where
  -- so no other seat has hands
  no-hands : (j : ℕ) (x : Known) → get_elem? ks j ≡ some x → j ≢ id → x.hands ≡ []
  no-hands j x there other = go x.hands refl
    where
      not-past : (w : ℕ) → (length ks < w → ⊥) → w ≤ length ks
      not-past w f = dite (dec_le w (length ks)) (λ h. h) (λ h. absurd (f (lt_of_not-le h)))

      go : (l : List Hand) → x.hands ≡ l → x.hands ≡ []
      go [] is = is
      go (h ∷ hs) is =
          let w : ℕ = h.worker in
          let once = named.once w in
          let here = stands-once x.hands 0 h w (ap (λ l. get_elem? l 0) is) refl in
          let two = total-has-two (times_in w) ks id j k x at there other in
          let sum = total-has (times_in w) ks j x there in
          let n = (named.counts id k at opens).1 in
          let not-zero : w ≢ 0 =
          λ e.
          let z = named.no_zero in
          let s = ap (λ (w : ℕ). sum_by (times_in w) ks) e in
          omega arith in
          let inside : w ≤ length ks = not-past w (λ past. let z = named.none_above w past in omega arith) in
          let mine = all w (omega arith) (omega arith) in
          absurd (omega arith)

  -- so it has failed exactly where one of its turns was refused
  only-flags : (failed : Bool) → Flagged ks failed → failed ≡ any_hand is_refused k.hands
  only-flags failed f =
      both failed (any_hand is_refused k.hands)
      (λ e.
      let was = f.why e in
      dite (ℕ_discrete was.0 id)
      (λ is.
      ap (λ (x : Known). any_hand is_refused x.hands)
      (same-at ks id k was.1 at (ap (get_elem? ks) (sym is) ∙ was.2))
      ∙ was.3)
      (λ other.
      absurd (false-is-not-true
      (ap (any_hand is_refused) (sym (no-hands was.0 was.1 was.2 other)) ∙ was.3))))
      (f.refused id k at)
    where
      both : (a b : Bool) → (a ≡ true → b ≡ true) → (b ≡ true → a ≡ true) → a ≡ b
      both true b f g = sym (f refl)
      both false true f g = g refl
      both false false f g = refl

  -- and there is no other worker
  no-others : (w : ℕ) → (w ≡ 0) ⊎ (k.opened < w) → sum_by (times_in w) ks ≡ 0
  no-others w (inl is) = ap (λ (w : ℕ). sum_by (times_in w) ks) is ∙ named.no_zero
  no-others w (inr past) = let n = (named.counts id k at opens).1 in named.none_above w (omega arith)

-- what is known then
pub record AtClose {L : Type 0} (kept : L → Kept) (v : View) (slots : List L) : Type 0 where
  pub value : L
  pub there : get_elem? slots 0 ≡ some value
  pub long : IfSome (kept value).told (λ list. length list ≡ (kept value).count)
  pub agrees : IfSome (kept value).told (λ list. AllByRecursion (Agrees list) v.known.hands)
  pub workers : IfSome (kept value).told (IsOfWorkers v.known.opened)
  pub past : AllByRecursion (IsPast (kept value).count) v.known.hands
  pub failed : (kept value).failed ≡ any_hand is_refused v.known.hands
  pub found : any_hand found_failed v.known.hands ≡ true → (kept value).failed ≡ true
  pub origin : v.known.hands ≢ [] → v.origin ≡ (kept value).origin

at-close : {L : Type 0} (kept : L → Kept) (o : Origin) (id : ℕ) (v : View) (ws : List ℕ) (slots : List L)
    → v.stage ≡ Idle → 0 < v.known.opened
    → ((w : ℕ) → 0 < w → w ≤ v.known.opened → 1 ≤ times w v.known.hands)
    → Final (Seen (LockRule kept o) id v) ws slots → AtClose kept v slots
at-close {L} kept o id v ws slots idle opens all f = go f.1.0.slot
  where
    s : State L View
    s = f.0

    r : LockRule kept o s
    r = f.1.0

    ks : List Known
    ks = map known_in s.views

    there : get_elem? ks id ≡ some v.known
    there = at_map known_in s.views id v f.1.1

    go : IsPlaced kept o r.now (get_or s.words 2 0) s.homes (map stage_of s.views) ks → AtClose kept v slots
    go (inl h) =
        record {
          value = h.value;
          there = f.4 0 h.value (ap (λ homes. get_elem? homes 0) h.here);
          long = h.fits.long;
          agrees = if-some (kept h.value).told h.fits.agree (λ list _ a. a.each id v.known there);
          workers = if-some (kept h.value).told h.fits.agree (λ list _ a w other.
              a.others w (no-others ks id v.known there opens all r.named w other));
          past = h.fits.past id v.known there;
          failed = only-flags ks id v.known there opens all r.named (kept h.value).failed h.fits.flagged;
          found = h.fits.flagged.found id v.known there;
          origin = λ some-hands. r.origins id v f.1.1 some-hands ∙ sym h.origin;
        }
    go (inr a) =
        let b = at-map-back stage_of s.views a.seat (Entered r.now a.keeps) a.there in
        dite (ℕ_discrete a.seat id)
        (λ is.
        absurd (none-is-not-some a.keeps
        (ap inside
        (sym idle
        ∙ (ap stage_of (same-at s.views id v b.0 f.1.1 (ap (get_elem? s.views) (sym is) ∙ b.1)) ∙ b.2)))))
        (λ other.
        absurd (none-is-not-some a.keeps
        (ap inside
        (sym (r.spent a.seat b.0 b.1
        (no-hands ks id v.known there opens all r.named a.seat b.0.known (at_map known_in s.views a.seat b.0 b.1)
        other))
        ∙ b.2))))

-- ---- the seats are taken in

pub first-here : (all : List SeatView) (lock : TableId) (left : List SeatView) (s : SeatView) → AreAll lock all
    → reverse all ≡ left ++ s ∷ [] → s.lock ≡ lock
first-here all lock left s are popped =
    let parts : all ≡ s ∷ reverse left =
    sym (reverse-reverse all) ∙ (ap reverse popped ∙ reverse-append left (s ∷ [])) in
    (are.each 0 s (ap (λ l. get_elem? l 0) parts)).0

module _ {L : Type 0} (all : List SeatView) where
  pub gathers-first : (lock : TableId) (left : List SeatView) (s : SeatView) (m : Me L View) → AreAll lock all
      → reverse all ≡ left ++ s ∷ [] → m ≡ idle_pass s → Gathers all left m
  gathers-first lock left s m are popped is =
      let parts : all ≡ s ∷ reverse left =
      sym (reverse-reverse all) ∙ (ap reverse popped ∙ reverse-append left (s ∷ [])) in
      let here : get_elem? all 0 ≡ some s = ap (λ l. get_elem? l 0) parts in
      record {
        taken = s ∷ [];
        parts = parts;
        some_taken = omega arith;
        stage = ap (λ (m : Me L View). m.0.stage) is;
        slot = ap (λ (m : Me L View). m.1) is;
        hands = ap (λ (m : Me L View). m.0.known.hands) is;
        opened = ap (λ (m : Me L View). m.0.known.opened) is ∙ are.first s here;
        origin = λ y e.
            ap (λ (z : SeatView). z.origin) (same-at all 0 y s e here)
            ∙ sym (ap (λ (m : Me L View). m.0.origin) is);
      }

  module _ (left left' : List SeatView) (s : SeatView) (m : Me L View) (popped : left ≡ left' ++ s ∷ [])
      (g : Gathers all left m) where
    parted : all ≡ g.taken ++ s ∷ reverse left'
    parted = g.parts ∙ ap (λ l. g.taken ++ l) (ap reverse popped ∙ reverse-append left' (s ∷ []))

    pub gathers : (n m' : Me L View) → n ≡ idle_pass s → m' ≡ (merged m.0 n.0, m.1) → Gathers all left' m'
    gathers n m' seat is =
        record {
          taken = g.taken ++ s ∷ [];
          parts = parted ∙ sym (append_assoc g.taken (s ∷ []) (reverse left'));
          some_taken = let n = length-append g.taken (s ∷ []) in omega arith;
          stage = ap (λ (m : Me L View). m.0.stage) is ∙ g.stage;
          slot = ap (λ (m : Me L View). m.1) is ∙ g.slot;
          hands =
              ap (λ (m : Me L View). m.0.known.hands) is
              ∙ ((λ i. g.hands i ++ (seat i).0.known.hands) ∙ sym (map-append seat_hand g.taken (s ∷ [])));
          opened = ap (λ (m : Me L View). m.0.known.opened) is ∙ g.opened;
          origin = λ y e. g.origin y e ∙ sym (ap (λ (m : Me L View). m.0.origin) is);
        }

    pub next-here : (lock : TableId) → AreAll lock all → s.lock ≡ lock
    next-here lock are =
        (are.each (length g.taken) s
        (ap (λ l. get_elem? l (length g.taken)) parted ∙ at-middle g.taken s (reverse left'))).0

  pub some-hands : (left : List SeatView) (m : Me L View) → Gathers all left m → m.0.known.hands ≢ []
  some-hands left m g none = go g.taken g.some_taken (sym g.hands ∙ none)
    where
      go : (taken : List SeatView) → 0 < length taken → map seat_hand taken ≡ [] → ⊥
      go [] pos e = absurd (omega arith)
      go (s ∷ taken) pos e = some-ne-none (seat_hand s) (ap (λ l. get_elem? l 0) e)

-- ---- all have come back

of-seats : (P : Hand → Type 0) (seats : List SeatView) → AllByRecursion P (map seat_hand seats)
    → AllByRecursion (λ s. P (seat_hand s)) seats
of-seats P [] h = tt
of-seats P (s ∷ seats) h = (h.0, of-seats P seats h.1)

any-of-seats : (f : Note → Bool) (seats : List SeatView) → any_hand f (map seat_hand seats) ≡ any_seat f seats
any-of-seats f [] = refl
any-of-seats f (s ∷ seats) = ap (λ b. any_turn f s.turns || b) (any-of-seats f seats)

pub closes-all : {L : Type 0} (kept : L → Kept) (o : Origin) (lock : TableId) (all : List SeatView) (id : ℕ)
    (m : Me L View) (ws : List ℕ) (slots : List L) → AreAll lock all → Gathers all [] m
    → Final (Seen (LockRule kept o) id m.0) ws slots
    → (value : L) × (get_elem? slots 0 ≡ some value) × Closes all (kept value)
closes-all {L} kept o lock all id m ws slots are g f =
    let n = are.some_seat in
    let op = g.opened in
    let a = at-close kept o id m.0 ws slots g.stage (omega arith) each f in (
      a.value,
      a.there,
      record {
        origin = λ s e. g.origin s e ∙ a.origin (some-hands all [] m g);
        long = a.long;
        agrees = if-some (kept a.value).told a.agrees (λ list _ h.
            of-seats (Agrees list) all (subst (AllByRecursion (Agrees list)) hands h));
        workers = subst (λ (n : ℕ). IfSome (kept a.value).told (IsOfWorkers n)) op a.workers;
        past = of-seats (IsPast (kept a.value).count) all
            (subst (AllByRecursion (IsPast (kept a.value).count)) hands a.past);
        failed = a.failed ∙ (ap (any_hand is_refused) hands ∙ any-of-seats is_refused all);
        found = λ h. a.found (ap (any_hand found_failed) hands ∙ (any-of-seats found_failed all ∙ h));
      },
    )
  where
    hands : m.0.known.hands ≡ map seat_hand all
    hands = g.hands ∙ ap (map seat_hand) (sym (g.parts ∙ append-nil g.taken))

    there : (l : List SeatView) (w : ℕ) → w < length l → (s : SeatView) × (get_elem? l w ≡ some s)
    there [] w h = absurd (omega arith)
    there (x ∷ xs) zero h = (x, refl)
    there (x ∷ xs) (suc w) h = there xs w (omega arith)

    each : (w : ℕ) → 0 < w → w ≤ m.0.known.opened → 1 ≤ times w m.0.known.hands
    each zero pos small = absurd (omega arith)
    each (suc w) pos small =
        let o = g.opened in
        let s = there all w (omega arith) in
        let is = (are.each w s.0 s.1).1 in
        stands-once m.0.known.hands w (seat_hand s.0) (suc w)
        (ap (λ l. get_elem? l w) hands ∙ at_map seat_hand all w s.0 s.1)
        (omega arith)
