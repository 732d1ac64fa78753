-- Each step of a turn keeps the rule of the lock, and tells what it says.
--     draws, enters, counts, leaves
use Rattle.std.proofs.Common.{◌≡◌, ℕ, ◌+◌, ◌%◌, ◌^◌, ◌<◌, ◌≤◌, inl, inr, List, [], ◌∷◌, map, get_or, set, sym, refl, ap, ◌∙◌, subst, arith, mod-eq_of_lt, length-set, get_or-set_other, get_or-set_same, true}
use Rattle.std.proofs.Math.Nat.{mod-add-mod}
use Rattle.std.specs.Prelude.{Some, None}
use mathlib.Core.Logic.{dite}
use mathlib.Core.Option as maybe
use mathlib.Core.Option.{some}
use native.Mathlib.Decide.{ℕ_discrete}
use lib.ListN.{get_elem?}
use lib.Seq.{set-get_or, map-set}
use Rattle.atomic_table.specs.Table.{Me, step, Act, keeps, takes, gives, put_back, carried_after, Valid, stepped, Allows}
use Rattle.atomic_table.proofs.Lists.{set_again, set_else, set_here, at_map}
use Rattle.nt_lock.specs.declared.view.Kept.{Kept}
use Rattle.nt_lock.specs.declared.view.Note.{Note}
use Rattle.nt_lock.specs.declared.view.Turn.{Turn}
use Rattle.nt_lock.specs.declared.view.Stage.{Stage}
use Rattle.nt_lock.specs.declared.view.Stage.TheVariants.{Idle, Waiting, Entered}
use Rattle.nt_lock.specs.declared.view.Hand.{Hand}
use Rattle.nt_lock.specs.declared.view.Known.{Known}
use Rattle.nt_lock.specs.declared.view.Origin.{Origin}
use Rattle.nt_lock.specs.declared.view.View.{View}
use Rattle.nt_lock.specs.Turns.{turn}
use Rattle.nt_lock.specs.Notes.{is_made, more, after, MayNote, Tells}
use Rattle.nt_lock.specs.Tickets.{number, inside, Queue}
use Rattle.nt_lock.specs.Knowledge.{Fits, Named}
use Rattle.nt_lock.specs.Rule.{stage_of, known_in, Shows, IsIdleIfSpent, IsPlaced, LockRule}
use Rattle.nt_lock.specs.Steps.{view_of, turned, turned_hand, turned_hands, drawn, entered, Notes, counted, left}
use Rattle.nt_lock.proofs.Lists.{stay, same-at, at-inside, some-injective, none-is-not-some, if-some}
use Rattle.nt_lock.proofs.Tickets.{draws-ticket, keeps-ticket, leaves-ticket, is-served}
use Rattle.nt_lock.proofs.Notes.{few-more, some-more}
use Rattle.nt_lock.proofs.Knowledge.{turn-fits, turn-named, tells-fits, finds}

abbrev is-cons : List Hand → Type 0
is-cons [] = ⊥
is-cons (h ∷ hs) = Unit {0}

pub cons-is-not-nil : (h : Hand) (hs : List Hand) → h ∷ hs ≡ [] → ⊥
cons-is-not-nil h hs e = subst is-cons e tt

-- ---- stages

waiting-is : (a b : ℕ) → Waiting a ≡ Waiting b → a ≡ b
waiting-is a b e = some-injective a b (ap number e)

waiting-not-idle : (n : ℕ) → Waiting n ≡ Idle → ⊥
waiting-not-idle n e = none-is-not-some n (sym (ap number e))

waiting-not-entered : (n m : ℕ) (k : Kept) → Waiting n ≡ Entered m k → ⊥
waiting-not-entered n m k e = none-is-not-some k (ap inside e)

abbrev number-in : Stage → ℕ
number-in (Entered n k) = n
number-in (Waiting n) = n
number-in Idle = 0

abbrev kept-in : Kept → Stage → Kept
kept-in other (Entered n k) = k
kept-in other (Waiting n) = other
kept-in other Idle = other

-- ---- a view that changes

-- what seats know stays, where a seat's stage alone changes
same-known : (views : List View) (me : ℕ) (v w : View) → get_elem? views me ≡ some v → w.known ≡ v.known
    → map known_in (set views me w) ≡ map known_in views
same-known views me v w at e =
    map-set known_in views me w
    ∙ (ap (set (map known_in views) me) e
    ∙ set_again (map known_in views) me v.known (at_map known_in views me v at))

module _ {L : Type 0} where
  abbrev value-in : L → List (ℕ × L) → L
  value-in other [] = other
  value-in other (c ∷ cs) = c.1

  module _ (kept : L → Kept) (o : Origin) where
    abbrev M : Type 0
    M = Me L View

    -- who has its turn is the seat with the ticket that is served
    is-seat : (next now me : ℕ) (l : List Stage) (x : Stage) (seat : ℕ) (k : Kept) → Queue next now l
        → get_elem? l me ≡ some x → number x ≡ Some now → get_elem? l seat ≡ some (Entered now k) → me ≡ seat
    is-seat next now me l x seat k q at is there = q.apart me seat now x (Entered now k) at there is refl

    -- and the locked value is away with it
    holder : (next now c : ℕ) (homes : List (maybe.Option L)) (l : List Stage) (ks : List Known) (id n : ℕ) (k : Kept)
        → Queue next now l → get_elem? l id ≡ some (Entered n k) → IsPlaced kept o now c homes l ks
        → (n ≡ now) × (homes ≡ maybe.none ∷ []) × Fits ks c k × (k.origin ≡ o)
    holder next now c homes l ks id n k q at (inl h) = absurd (none-is-not-some k (sym (h.nobody id (Entered n k) at)))
    holder next now c homes l ks id n k q at (inr a) =
        let is = q.serves id (Entered n k) k at refl in
        let num : n ≡ now = some-injective n now (ap number is) in
        let me = is-seat next now id l (Entered n k) a.seat a.keeps q at (ap number is) a.there in
        let same : Entered n k ≡ Entered now a.keeps =
        same-at l id (Entered n k) (Entered now a.keeps) at (ap (get_elem? l) me ∙ a.there) in
        let is-k = some-injective a.keeps k (sym (ap inside same)) in
        (num, a.gone, subst (Fits ks c) is-k a.fits, ap (λ (z : Kept). z.origin) (sym is-k) ∙ a.origin)

    -- ---- a seat draws a ticket

    still-placed : (now c : ℕ) (homes : List (maybe.Option L)) (l : List Stage) (ks : List Known) (id next : ℕ)
        → get_elem? l id ≡ some Idle → IsPlaced kept o now c homes l ks
        → IsPlaced kept o now c homes (set l id (Waiting next)) ks
    still-placed now c homes l ks id next at (inl h) =
        inl record {
          value = h.value;
          here = h.here;
          origin = h.origin;
          nobody = λ j x e. stay (λ _ x. inside x ≡ None) l id (Waiting next) refl (λ j x _ a. h.nobody j x a) j x e;
          fits = h.fits;
        }
    still-placed now c homes l ks id next at (inr a) =
        inr record {
          seat = a.seat;
          keeps = a.keeps;
          gone = a.gone;
          origin = a.origin;
          there =
              set_else l id a.seat (Waiting next)
              (λ e.
              none-is-not-some now
              (ap number (same-at l id Idle (Entered now a.keeps) at (ap (get_elem? l) (sym e) ∙ a.there))))
              ∙ a.there;
          fits = a.fits;
        }

    pub draws : (slots id : ℕ) (me : M) (h : Hand) (hs : List Hand) → me.0.known.hands ≡ h ∷ hs → me.0.stage ≡ Idle
        → Allows (LockRule kept o) slots id me 0 (λ n. (n + 1) % 2 ^ 64) (drawn (step slots 0 1 0 maybe.none) me)
    draws slots id me h hs hand idle s r wide at small =
        let w : View = view_of me.0.origin (Waiting r.next) me.0.known in
        let at' : get_elem? (map stage_of s.views) id ≡ some Idle = at_map stage_of s.views id me.0 at ∙ ap some idle in
        let n : ℕ = get_or s.words 0 0 in
        let new : ℕ = (n + 1) % 2 ^ 64 in
        let long = r.wide in
        let stages = map-set stage_of s.views id w in
        let knowns = same-known s.views id me.0 w at refl in (
          w,
          keeps,
          tt,
          record {
            next = r.next + 1;
            now = r.now;
            wide = length-set s.words 0 new ∙ r.wide;
            ticket =
                get_or-set_same s.words 0 new 0 (omega arith)
                ∙ (ap (λ (z : ℕ). (z + 1) % 2 ^ 64) r.ticket ∙ mod-add-mod r.next (2 ^ 64) 1);
            serving = get_or-set_other s.words 0 1 new 0 (λ e. omega arith) ∙ r.serving;
            queue = subst (Queue (r.next + 1) r.now) (sym stages)
                (draws-ticket r.next r.now (map stage_of s.views) id r.queue at');
            named = subst Named (sym knowns) r.named;
            spent = λ j v e. stay (λ _ (v : View). IsIdleIfSpent v) s.views id w
                (λ is. absurd (cons-is-not-nil h hs (sym hand ∙ is)))
                (λ j v _ a. r.spent j v a)
                j v e;
            origins = λ j v e. stay (λ _ (v : View). Shows o v) s.views id w
                (r.origins id me.0 at)
                (λ j v _ a. r.origins j v a)
                j v e;
            slot =
                subst (λ (c : ℕ). IsPlaced kept o r.now c s.homes (map stage_of (set s.views id w))
                (map known_in (set s.views id w)))
                (sym (get_or-set_other s.words 0 2 new 0 (λ e. omega arith)))
                (subst (IsPlaced kept o r.now (get_or s.words 2 0) s.homes (map stage_of (set s.views id w)))
                (sym knowns)
                (subst (λ l. IsPlaced kept o r.now (get_or s.words 2 0) s.homes l (map known_in s.views)) (sym stages)
                (still-placed r.now (get_or s.words 2 0) s.homes (map stage_of s.views) (map known_in s.views) id r.next
                at' r.slot)));
          },
          (r.next, r.ticket, refl),
        )

    -- ---- a seat looks whether its ticket is served

    pub enters : (slots id : ℕ) (me : M) (n : ℕ) → me.0.stage ≡ Waiting n
        → Allows (LockRule kept o) slots id me 1 (λ c. c) (entered kept (step slots 1 0 0 maybe.none) me)
    enters slots id me n waits s r wide at small =
        let found : ℕ = get_or s.words 1 0 in
        dite (ℕ_discrete found (n % 2 ^ 64))
        (λ hit.
        let is : r.now ≡ n =
        is-served r.next r.now n (map stage_of s.views) id (Waiting n) r.queue at' refl (sym r.serving ∙ hit) in
        come hit is r.slot)
        (λ miss. (
          me.0,
          keeps,
          tt,
          subst (LockRule kept o)
              (λ i. record {
                words = sym (set-get_or s.words 1 0) i;
                homes = s.homes;
                views = sym (set_again s.views id me.0 at) i;
              })
              r,
          λ n' e. (
            (λ hit'.
                absurd (miss (hit' ∙ ap (λ (z : ℕ). z % 2 ^ 64) (sym (waiting-is n n' (sym waits ∙ e)))))),
            λ _. refl,
          ),
        ))
      where
        at' : get_elem? (map stage_of s.views) id ≡ some (Waiting n)
        at' = at_map stage_of s.views id me.0 at ∙ ap some waits

        not-spent : me.0.known.hands ≡ [] → ⊥
        not-spent is = waiting-not-idle n (sym waits ∙ r.spent id me.0 at is)

        come : get_or s.words 1 0 ≡ n % 2 ^ 64 → r.now ≡ n
            → IsPlaced kept o r.now (get_or s.words 2 0) s.homes (map stage_of s.views) (map known_in s.views)
            → (w : View) × (a : Act L) × Valid s.homes me.1 a
            × LockRule kept o (stepped s 1 (get_or s.words 1 0) id me.1 w a)
            × entered kept (step slots 1 0 0 maybe.none) me (get_or s.words 1 0) (w, carried_after me.1 a)
        come hit is (inr a) =
            absurd (waiting-not-entered n r.now a.keeps
            (same-at (map stage_of s.views) id (Waiting n) (Entered r.now a.keeps) at'
            (ap (get_elem? (map stage_of s.views))
            (is-seat r.next r.now id (map stage_of s.views) (Waiting n) a.seat a.keeps r.queue at' (ap Some (sym is))
            a.there)
            ∙ a.there)))
        come hit is (inl h) =
            let x : L = h.value in
            let w : View = view_of me.0.origin (Entered n (kept x)) me.0.known in
            let stages = map-set stage_of s.views id w in
            let knowns = same-known s.views id me.0 w at refl in
            let l : List Stage = map stage_of s.views in
            let ks : List Known = map known_in s.views in (
              w,
              takes 0 x,
              ap (λ homes. get_elem? homes 0) h.here,
              subst
                  (λ ws. LockRule kept o record {
                    words = ws;
                    homes = set s.homes 0 maybe.none;
                    views = set s.views id w;
                  })
                  (sym (set-get_or s.words 1 0))
                  record {
                    next = r.next;
                    now = r.now;
                    wide = r.wide;
                    ticket = r.ticket;
                    serving = r.serving;
                    queue = subst (Queue r.next r.now) (sym stages)
                        (keeps-ticket r.next r.now l id (Waiting n) (Entered n (kept x)) r.queue at' refl refl
                        (λ k e. λ i. Entered (sym is i) (some-injective (kept x) k e i)));
                    named = subst Named (sym knowns) r.named;
                    spent = λ j v e. stay (λ _ (v : View). IsIdleIfSpent v) s.views id w
                        (λ is. absurd (not-spent is))
                        (λ j v _ a. r.spent j v a)
                        j v e;
                    origins = λ j v e. stay (λ _ (v : View). Shows o v) s.views id w
                        (r.origins id me.0 at)
                        (λ j v _ a. r.origins j v a)
                        j v e;
                    slot = inr record {
                      seat = id;
                      keeps = kept x;
                      gone = ap (λ homes. set homes 0 maybe.none) h.here;
                      origin = h.origin;
                      there =
                          ap (λ l. get_elem? l id) stages
                          ∙ (set_here l id (Entered n (kept x)) (at-inside l id (Waiting n) at')
                          ∙ (λ i. some (Entered (sym is i) (kept x))));
                      fits = subst (λ ks. Fits ks (get_or s.words 2 0) (kept x)) (sym knowns) h.fits;
                    };
                  },
              λ n' e. (
                (λ _. record {
                  value = x;
                  now_is = λ i. (
                    view_of me.0.origin (Entered (waiting-is n n' (sym waits ∙ e) i) (kept x)) me.0.known,
                    (0, x) ∷ me.1,
                  );
                  origin = h.origin ∙ sym (r.origins id me.0 at not-spent);
                  finds = finds ks (get_or s.words 2 0) (kept x) id me.0.known (at_map known_in s.views id me.0 at)
                      h.fits;
                }),
                λ miss.
                    absurd (miss (hit ∙ ap (λ (z : ℕ). z % 2 ^ 64) (waiting-is n n' (sym waits ∙ e)))),
              ),
            )

    -- ---- a seat ends its turn

    pub leaves : (slots id : ℕ) (me : M) (n : ℕ) (k : Kept) (x : L) → me.0.stage ≡ Entered n k → me.1 ≡ (0, x) ∷ []
        → Tells k (kept x)
        → Allows (LockRule kept o) slots id me 1 (λ c. (c + 1) % 2 ^ 64) (left (step slots 1 1 0 maybe.none) me)
    leaves slots id me n k x is holds tells s r wide at small =
        let w : View = view_of me.0.origin Idle me.0.known in
        let l : List Stage = map stage_of s.views in
        let ks : List Known = map known_in s.views in
        let at' : get_elem? l id ≡ some (Entered n k) = at_map stage_of s.views id me.0 at ∙ ap some is in
        let own = holder r.next r.now (get_or s.words 2 0) s.homes l ks id n k r.queue at' r.slot in
        let old : ℕ = get_or s.words 1 0 in
        let new : ℕ = (old + 1) % 2 ^ 64 in
        let long = r.wide in
        let stages = map-set stage_of s.views id w in
        let knowns = same-known s.views id me.0 w at refl in
        let gone = leaves-ticket r.next r.now l id k r.queue (at' ∙ (λ i. some (Entered (own.0 i) k))) in (
          w,
          gives,
          tt,
          record {
            next = r.next;
            now = r.now + 1;
            wide = length-set s.words 1 new ∙ r.wide;
            ticket = get_or-set_other s.words 1 0 new 0 (λ e. omega arith) ∙ r.ticket;
            serving =
                get_or-set_same s.words 1 new 0 (omega arith)
                ∙ (ap (λ (z : ℕ). (z + 1) % 2 ^ 64) r.serving ∙ mod-add-mod r.now (2 ^ 64) 1);
            queue = subst (Queue r.next (r.now + 1)) (sym stages) gone.0;
            named = subst Named (sym knowns) r.named;
            spent = λ j v e. stay (λ _ (v : View). IsIdleIfSpent v) s.views id w
                (λ _. refl)
                (λ j v _ a. r.spent j v a)
                j v e;
            origins = λ j v e. stay (λ _ (v : View). Shows o v) s.views id w
                (r.origins id me.0 at)
                (λ j v _ a. r.origins j v a)
                j v e;
            slot = inl record {
              value = x;
              here = λ i. put_back (own.1 i) (holds i);
              origin = tells.origin ∙ own.3;
              nobody = subst (λ l. (j : ℕ) (y : Stage) → get_elem? l j ≡ some y → inside y ≡ None) (sym stages) gone.1;
              fits =
                  subst (λ (c : ℕ). Fits (map known_in (set s.views id w)) c (kept x))
                  (sym (get_or-set_other s.words 1 2 new 0 (λ e. omega arith)))
                  (subst (λ ks. Fits ks (get_or s.words 2 0) (kept x)) (sym knowns)
                  (tells-fits ks (get_or s.words 2 0) k (kept x) tells own.2));
            };
          },
          refl,
        )

    -- ---- a seat counts its entry, or none

    module _ (last : L → Note) where
      pub counts : (slots id : ℕ) (me : M) (n : ℕ) (k : Kept) (x : L) (d : ℕ) (h : Hand) (hs : List Hand)
          → me.0.known.hands ≡ h ∷ hs → me.0.stage ≡ Entered n k → me.1 ≡ (0, x) ∷ [] → d ≡ more (last x)
          → Tells (after (last x) k) (kept x) → MayNote h.worker k.failed (last x)
          → (is_made (last x) ≡ true → k.count < 2 ^ 63)
          → Allows (LockRule kept o) slots id me 2 (λ c. (c + d) % 2 ^ 64)
          (counted kept last (step slots 2 d 0 maybe.none) me)
      counts slots id me n k x d h hs hand is holds by tells may room s r wide at small =
          let note : Note = last x in
          let known : Known = me.0.known in
          let t : Turn = turn (k.count + more note) note in
          let next : Known = turned note k (kept x).told known in
          let w : View = view_of me.0.origin (Entered n (kept x)) next in
          let l : List Stage = map stage_of s.views in
          let ks : List Known = map known_in s.views in
          let at' : get_elem? l id ≡ some (Entered n k) = at_map stage_of s.views id me.0 at ∙ ap some is in
          let there : get_elem? ks id ≡ some known = at_map known_in s.views id me.0 at in
          let own = holder r.next r.now (get_or s.words 2 0) s.homes l ks id n k r.queue at' r.slot in
          let old : ℕ = get_or s.words 2 0 in
          let new : ℕ = (old + d) % 2 ^ 64 in
          let long = r.wide in
          let stages = map-set stage_of s.views id w in
          let knowns = map-set known_in s.views id w in
          let counted-is : k.count ≡ old = own.2.count in
          let few : more note ≤ 1 = few-more note in
          let sum : new ≡ old + more note =
          ap (λ (z : ℕ). (old + z) % 2 ^ 64) by
          ∙ mod-eq_of_lt (dite (ℕ_discrete (more note) 0)
          (λ z. omega arith)
          (λ some-made. let room = room (some-more note (omega arith)) in omega arith)) in
          let fits = turn-fits ks id known h hs there hand note k (kept x) old r.named may tells own.2 in
          let not-spent : next.hands ≡ [] → ⊥ =
          λ z. cons-is-not-nil (turned_hand t (kept x).told h) hs (sym (ap (turned_hands t (kept x).told) hand) ∙ z) in (
            w,
            keeps,
            tt,
            record {
              next = r.next;
              now = r.now;
              wide = length-set s.words 2 new ∙ r.wide;
              ticket = get_or-set_other s.words 2 0 new 0 (λ e. omega arith) ∙ r.ticket;
              serving = get_or-set_other s.words 2 1 new 0 (λ e. omega arith) ∙ r.serving;
              queue = subst (Queue r.next r.now) (sym stages)
                  (keeps-ticket r.next r.now l id (Entered n k) (Entered n (kept x)) r.queue at' refl refl
                  (λ c e. λ i. Entered (own.0 i) (some-injective (kept x) c e i)));
              named = subst Named (sym knowns) (turn-named ks id known h hs there hand t (kept x).told r.named);
              spent = λ j v e. stay (λ _ (v : View). IsIdleIfSpent v) s.views id w
                  (λ z. absurd (not-spent z))
                  (λ j v _ a. r.spent j v a)
                  j v e;
              origins = λ j v e. stay (λ _ (v : View). Shows o v) s.views id w
                  (λ _. r.origins id me.0 at (λ z. cons-is-not-nil h hs (sym hand ∙ z)))
                  (λ j v _ a. r.origins j v a)
                  j v e;
              slot = inr record {
                seat = id;
                keeps = kept x;
                gone = own.1;
                origin = tells.origin ∙ own.3;
                there =
                    ap (λ l. get_elem? l id) stages
                    ∙ (set_here l id (Entered n (kept x)) (at-inside l id (Entered n k) at')
                    ∙ (λ i. some (Entered (own.0 i) (kept x))));
                fits =
                    subst (λ (c : ℕ). Fits (map known_in (set s.views id w)) c (kept x))
                    (sym (get_or-set_same s.words 2 new 0 (omega arith) ∙ sum))
                    (subst (λ ks. Fits ks (old + more note) (kept x)) (sym knowns) fits);
              };
            },
            λ n' k' x' is' holds'.
                let same = sym is ∙ is' in
                let carried = sym holds ∙ holds' in
                subst
                (λ (z : Stage × List (ℕ × L)).
                Notes kept last (number-in z.0) (kept-in k z.0) (value-in x z.1) me (w, me.1))
                (λ i. (same i, carried i))
                record {
                  now_is = refl;
                  long = if-some (kept x).told fits.long (λ l _ e. e ∙ tells.count);
                  agrees = if-some (kept x).told fits.agree (λ l _ all.
                      all.each id next (set_here ks id next (at-inside ks id known there)));
                },
          )
