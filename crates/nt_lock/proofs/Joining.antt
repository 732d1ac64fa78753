-- A seat takes in another as the lock closes.
--     closes        the rule is kept
use Rattle.std.proofs.Common.{◌≡◌, ◌≢◌, ℕ, ◌<◌, inl, inr, List, [], ◌∷◌, ◌++◌, length, map, get_or, set, sym, refl, ap, ◌∙◌, subst, arith, length-set, sum_by, Bool, true}
use Rattle.std.specs.List.{AllByRecursion}
use mathlib.Core.Logic.{dite}
use mathlib.Core.Option as maybe
use mathlib.Core.Option.{some}
use native.Mathlib.Decide.{ℕ_discrete}
use lib.ListN.{get_elem?}
use lib.Seq.{map-set}
use Rattle.atomic_table.specs.Table.{Joins}
use Rattle.atomic_table.proofs.Lists.{set_again, set_here, set_else, at_map}
use Rattle.nt_rules.specs.declared.act.Entry.{Entry}
use Rattle.nt_lock.specs.declared.view.Kept.{Kept}
use Rattle.nt_lock.specs.declared.view.Note.{Note}
use Rattle.nt_lock.specs.declared.view.Stage.{Stage}
use Rattle.nt_lock.specs.declared.view.Stage.TheVariants.{Idle}
use Rattle.nt_lock.specs.declared.view.Hand.{Hand}
use Rattle.nt_lock.specs.declared.view.Known.{Known}
use Rattle.nt_lock.specs.declared.view.Origin.{Origin}
use Rattle.nt_lock.specs.declared.view.View.{View}
use Rattle.nt_lock.specs.Turns.{is_refused, found_failed, any_hand}
use Rattle.nt_lock.specs.Tickets.{Queue}
use Rattle.nt_lock.specs.Knowledge.{Agrees, IsPast, times_in, AllAgree, Flagged, Fits, Named}
use Rattle.nt_lock.specs.Rule.{stage_of, known_in, Shows, IsIdleIfSpent, IsPlaced, LockRule}
use Rattle.nt_lock.specs.Steps.{known_of, merged, spent}
use Rattle.nt_lock.proofs.Lists.{stay, total-set, at-inside, same-at, if-some, false-is-not-true, or-left, or-right, either-true}
use Rattle.nt_lock.proofs.Hands.{all-more, times-more, any-hands}
use Rattle.nt_lock.proofs.Steps.{cons-is-not-nil}

-- what the seat knows then
abbrev both-of : Known → Known → Known
both-of k m = known_of k.opened (k.hands ++ m.hands)

-- and what the seat that was taken in does
abbrev nobody : Known
nobody = known_of 0 []

module _ (ks : List Known) (id other : ℕ) (k m : Known) (at : get_elem? ks id ≡ some k) (apart : other ≢ id)
    (there : get_elem? (set ks id (both-of k m)) other ≡ some m) where
  abbrev joined : List Known
  joined = set ks id (both-of k m)

  abbrev after-join : List Known
  after-join = set joined other nobody

  was-there : get_elem? ks other ≡ some m
  was-there = sym (set_else ks id other (both-of k m) apart) ∙ there

  join-length : length after-join ≡ length ks
  join-length = length-set joined other nobody ∙ length-set ks id (both-of k m)

  join-total : (w : ℕ) → sum_by (times_in w) after-join ≡ sum_by (times_in w) ks
  join-total w =
      let t = total-set (times_in w) ks id k (both-of k m) at in
      let u = total-set (times_in w) joined other m nobody there in
      let a = times-more w k.hands m.hands in
      omega arith

  -- what holds of each seat before, and of the two, holds of each
  each-at : (P : ℕ → Known → Type 0) → P id (both-of k m) → P other nobody
      → ((j : ℕ) (x : Known) → get_elem? ks j ≡ some x → P j x)
      → (j : ℕ) (x : Known) → get_elem? after-join j ≡ some x → P j x
  each-at P mine none-left before j x e =
      stay P joined other nobody none-left
      (λ j x _ a. stay P ks id (both-of k m) mine (λ j x _ a. before j x a) j x a)
      j x e

  each-join : (P : List Hand → Type 0) → P (k.hands ++ m.hands) → P []
      → ((j : ℕ) (x : Known) → get_elem? ks j ≡ some x → P x.hands)
      → (j : ℕ) (x : Known) → get_elem? after-join j ≡ some x → P x.hands
  each-join P mine none-left before = each-at (λ _ x. P x.hands) mine none-left before

  join-named : Named ks → Named after-join
  join-named named =
      record {
        once = λ w. let s = join-total w in let o = named.once w in omega arith;
        no_zero = let s = join-total 0 in let z = named.no_zero in omega arith;
        none_above = λ w past.
            let s = join-total w in
            let n = join-length in
            let z = named.none_above w (omega arith) in
            omega arith;
        counts = each-at (λ j x. 0 < x.opened → (j ≡ 0) × (x.opened ≡ length after-join))
            (λ p. let c = named.counts id k at p in (c.0, c.1 ∙ sym join-length))
            (λ p. absurd (omega arith))
            (λ j x a p. let c = named.counts j x a p in (c.0, c.1 ∙ sym join-length));
      }

  join-agrees : (list : List Entry) → AllAgree ks list → AllAgree after-join list
  join-agrees list all =
      record {
        each = each-join (AllByRecursion (Agrees list))
            (all-more (Agrees list) k.hands m.hands (all.each id k at) (all.each other m was-there))
            tt all.each;
        others = λ w none. all.others w (sym (join-total w) ∙ none);
      }

  join-flags : (failed : Bool) → Flagged ks failed → Flagged after-join failed
  join-flags failed f =
      record {
        why = λ e.
            let was = f.why e in
            dite (ℕ_discrete was.0 id)
            (λ is. (
              id,
              both-of k m,
              kept-there,
              any-hands is_refused k.hands m.hands
                  ∙ or-left (any_hand is_refused k.hands) (any_hand is_refused m.hands)
                  (ap (λ (z : Known). any_hand is_refused z.hands)
                  (same-at ks id k was.1 at (ap (get_elem? ks) (sym is) ∙ was.2))
                  ∙ was.3),
            ))
            (λ not-first. dite (ℕ_discrete was.0 other)
            (λ is. (
              id,
              both-of k m,
              kept-there,
              any-hands is_refused k.hands m.hands
                  ∙ or-right (any_hand is_refused k.hands) (any_hand is_refused m.hands)
                  (ap (λ (z : Known). any_hand is_refused z.hands)
                  (same-at ks other m was.1 was-there (ap (get_elem? ks) (sym is) ∙ was.2))
                  ∙ was.3),
            ))
            (λ not-other. (
              was.0,
              was.1,
              set_else joined other was.0 nobody not-other ∙ (set_else ks id was.0 (both-of k m) not-first ∙ was.2),
              was.3,
            )));
        refused = flag is_refused f.refused;
        found = flag found_failed f.found;
      }
    where
      kept-there : get_elem? after-join id ≡ some (both-of k m)
      kept-there =
          set_else joined other id nobody (λ e. apart (sym e)) ∙ set_here ks id (both-of k m) (at-inside ks id k at)

      flag : (g : Note → Bool)
          → ((j : ℕ) (x : Known) → get_elem? ks j ≡ some x → any_hand g x.hands ≡ true → failed ≡ true)
          → (j : ℕ) (x : Known) → get_elem? after-join j ≡ some x → any_hand g x.hands ≡ true → failed ≡ true
      flag g f =
          each-join (λ hands. any_hand g hands ≡ true → failed ≡ true)
          (λ h.
          either-true (any_hand g k.hands) (any_hand g m.hands) (sym (any-hands g k.hands m.hands) ∙ h) (f id k at)
          (f other m was-there))
          (λ h. absurd (false-is-not-true h))
          f

  join-fits : (c : ℕ) (kept : Kept) → Fits ks c kept → Fits after-join c kept
  join-fits c kept f =
      record {
        count = f.count;
        long = f.long;
        agree = if-some kept.told f.agree (λ list _ all. join-agrees list all);
        past = each-join (AllByRecursion (IsPast kept.count))
            (all-more (IsPast kept.count) k.hands m.hands (f.past id k at) (f.past other m was-there))
            tt f.past;
        flagged = join-flags kept.failed f.flagged;
      }

nil-before : (a b : List Hand) → a ++ b ≡ [] → a ≡ []
nil-before [] b e = refl
nil-before (h ∷ hs) b e = absurd (cons-is-not-nil h (hs ++ b) e)

module _ {L : Type 0} (kept : L → Kept) (o : Origin) where
  same-placed : (now c : ℕ) (homes : List (maybe.Option L)) (l : List Stage) (ks ks' : List Known)
      → ((k : Kept) → Fits ks c k → Fits ks' c k) → IsPlaced kept o now c homes l ks
      → IsPlaced kept o now c homes l ks'
  same-placed now c homes l ks ks' fits (inl h) =
      inl record {
        value = h.value;
        here = h.here;
        origin = h.origin;
        nobody = h.nobody;
        fits = fits (kept h.value) h.fits;
      }
  same-placed now c homes l ks ks' fits (inr a) =
      inr record {
        seat = a.seat;
        keeps = a.keeps;
        gone = a.gone;
        origin = a.origin;
        there = a.there;
        fits = fits a.keeps a.fits;
      }

  pub closes : (id other : ℕ) (v w : View) → w.stage ≡ Idle → v.known.hands ≢ []
      → Joins (LockRule kept o) id v other w (merged v w) spent
  closes id other v w idle some-hand s r at apart there =
      let l : List Stage = map stage_of s.views in
      let ks : List Known = map known_in s.views in
      let mine : get_elem? ks id ≡ some v.known = at_map known_in s.views id v at in
      let views : List View = set s.views id (merged v w) in
      let same : map known_in views ≡ set ks id (both-of v.known w.known) = map-set known_in s.views id (merged v w) in
      let yours : get_elem? (set ks id (both-of v.known w.known)) other ≡ some w.known =
      ap (λ z. get_elem? z other) (sym same) ∙ at_map known_in views other w there in
      let first : map stage_of views ≡ l =
      map-set stage_of s.views id (merged v w) ∙ set_again l id v.stage (at_map stage_of s.views id v at) in
      let stages : map stage_of (set views other spent) ≡ l =
      map-set stage_of views other spent
      ∙ (ap (λ z. set z other Idle) first
      ∙ set_again l other Idle
      (ap (λ z. get_elem? z other) (sym first) ∙ (at_map stage_of views other w there ∙ ap some idle))) in
      let knowns : map known_in (set views other spent) ≡ after-join ks id other v.known w.known mine apart yours =
      map-set known_in views other spent ∙ ap (λ z. set z other nobody) same in
      let c : ℕ = get_or s.words 2 0 in
      record {
        next = r.next;
        now = r.now;
        wide = r.wide;
        ticket = r.ticket;
        serving = r.serving;
        queue = subst (Queue r.next r.now) (sym stages) r.queue;
        named = subst Named (sym knowns) (join-named ks id other v.known w.known mine apart yours r.named);
        spent = λ j x e. stay (λ _ (x : View). IsIdleIfSpent x) views other spent
            (λ _. refl)
            (λ j x _ a. stay (λ _ (x : View). IsIdleIfSpent x) s.views id (merged v w)
            (λ is. r.spent id v at (nil-before v.known.hands w.known.hands is))
            (λ j x _ a. r.spent j x a)
            j x a)
            j x e;
        origins = λ j x e. stay (λ _ (x : View). Shows o x) views other spent
            (λ not. absurd (not refl))
            (λ j x _ a. stay (λ _ (x : View). Shows o x) s.views id (merged v w)
            (λ _. r.origins id v at some-hand)
            (λ j x _ a. r.origins j x a)
            j x a)
            j x e;
        slot =
            subst (λ z. IsPlaced kept o r.now c s.homes z (map known_in (set views other spent))) (sym stages)
            (subst (IsPlaced kept o r.now c s.homes l) (sym knowns)
            (same-placed r.now c s.homes l ks _ (join-fits ks id other v.known w.known mine apart yours c) r.slot));
      }
