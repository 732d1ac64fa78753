-- The first seat makes one more.
--     opens        the rule is kept
use Rattle.std.proofs.Common.{◌≡◌, ◌≢◌, ℕ, ◌+◌, ◌<◌, inl, inr, ⊎_elim, List, [], ◌∷◌, ◌++◌, length, map, get_or, set, sym, ap, ◌∙◌, subst, arith, length-set, length-append, sum_by, Bool, true}
use Rattle.std.proofs.lemmas.List.Sums.{sum_by_push}
use Rattle.std.specs.List.{AllByRecursion}
use mathlib.Core.Logic.{dite}
use mathlib.Core.Option as maybe
use mathlib.Core.Option.{some}
use mathlib.Core.List.{map-append}
use native.Mathlib.Decide.{ℕ_discrete}
use lib.ListN.{get_elem?, length-map}
use lib.Seq.{map-set}
use Rattle.atomic_table.specs.Table.{Splits}
use Rattle.atomic_table.proofs.Lists.{set_again, set_here, set_else, at_map, at_snoc, at_longer}
use Rattle.nt_rules.specs.declared.act.Entry.{Entry}
use Rattle.nt_lock.specs.declared.view.Kept.{Kept}
use Rattle.nt_lock.specs.declared.view.Stage.{Stage}
use Rattle.nt_lock.specs.declared.view.Stage.TheVariants.{Idle, Entered}
use Rattle.nt_lock.specs.declared.view.Hand.{Hand}
use Rattle.nt_lock.specs.declared.view.Known.{Known}
use Rattle.nt_lock.specs.declared.view.Origin.{Origin}
use Rattle.nt_lock.specs.declared.view.View.{View}
use Rattle.nt_lock.specs.Turns.{is_refused, found_failed, any_hand}
use Rattle.nt_lock.specs.Tickets.{inside, Queue}
use Rattle.nt_lock.specs.Knowledge.{Agrees, IsPast, times_in, AllAgree, Flagged, Fits, Named}
use Rattle.nt_lock.specs.Rule.{stage_of, known_in, Shows, IsIdleIfSpent, IsPlaced, LockRule}
use Rattle.nt_lock.specs.Steps.{known_of, new_hand, opener_after, newcomer}
use Rattle.nt_lock.proofs.Lists.{stay, total-set, at-inside, same-at, if-some, false-is-not-true}
use Rattle.nt_lock.proofs.Growth.{begins-none}
use Rattle.nt_lock.proofs.Hands.{counts-one, counts-none}
use Rattle.nt_lock.proofs.Steps.{cons-is-not-nil}
use Rattle.nt_lock.proofs.Tickets.{comes-without}

-- what the first seat knows then
abbrev one-more : Known → Known
one-more k = known_of (k.opened + 1) k.hands

-- and what the new one does, after n others
abbrev fresh : ℕ → Known
fresh n = known_of 0 (new_hand (n + 1) ∷ [])

fresh-other : (n w : ℕ) → w ≢ n + 1 → times_in w (fresh n) ≡ 0
fresh-other n w other =
    let c = counts-none w (new_hand (n + 1)) (λ e. other (sym e)) in
    omega arith

fresh-own : (n w : ℕ) → w ≡ n + 1 → times_in w (fresh n) ≡ 1
fresh-own n w is = let c = counts-one w (new_hand (n + 1)) (sym is) in omega arith

module _ (ks : List Known) (id : ℕ) (k : Known) (at : get_elem? ks id ≡ some k) (opens : 0 < k.opened)
    (named : Named ks) where
  abbrev after-split : List Known
  after-split = set ks id (one-more k) ++ fresh k.opened ∷ []

  all-made : k.opened ≡ length ks
  all-made = (named.counts id k at opens).1

  split-length : length after-split ≡ length ks + 1
  split-length =
      let n = length-append (set ks id (one-more k)) (fresh k.opened ∷ []) in
      let m = length-set ks id (one-more k) in
      omega arith

  split-total : (w : ℕ) → sum_by (times_in w) after-split ≡ sum_by (times_in w) ks + times_in w (fresh k.opened)
  split-total w =
      let t = total-set (times_in w) ks id k (one-more k) at in
      let p = sum_by_push (times_in w) (set ks id (one-more k)) (fresh k.opened) in
      omega arith

  split-named : Named after-split
  split-named =
      record {
        once = λ w.
            let s = split-total w in
            let m = all-made in
            dite (ℕ_discrete w (k.opened + 1))
            (λ is.
            let z = named.none_above w (omega arith) in
            let f = fresh-own k.opened w is in
            omega arith)
            (λ other.
            let o = named.once w in
            let f = fresh-other k.opened w other in
            omega arith);
        no_zero =
            let s = split-total 0 in
            let z = named.no_zero in
            let f = fresh-other k.opened 0 (λ e. omega arith) in
            omega arith;
        none_above = λ w past.
            let s = split-total w in
            let m = all-made in
            let n = split-length in
            let z = named.none_above w (omega arith) in
            let f = fresh-other k.opened w (λ e. omega arith) in
            omega arith;
        counts = λ j x e p. ⊎_elim
            (λ a. stay (λ j (x : Known). 0 < x.opened → (j ≡ 0) × (x.opened ≡ length after-split)) ks id (one-more k)
            (λ _.
            let c = named.counts id k at opens in
            let n = split-length in
            let m = c.1 in
            (c.0, omega arith))
            (λ j x other a p.
            let c = named.counts j x a p in
            let d = named.counts id k at opens in
            absurd (other (c.0 ∙ sym d.0)))
            j x a p)
            (λ (t : fresh k.opened ≡ x).
            let z : x.opened ≡ 0 = ap (λ (y : Known). y.opened) (sym t) in
            absurd (omega arith))
            (at_snoc (set ks id (one-more k)) (fresh k.opened) x j e);
      }

  -- what holds of the hands before, and of the new one, holds of all
  each-split : (P : List Hand → Type 0) → P (new_hand (k.opened + 1) ∷ [])
      → ((j : ℕ) (x : Known) → get_elem? ks j ≡ some x → P x.hands)
      → (j : ℕ) (x : Known) → get_elem? after-split j ≡ some x → P x.hands
  each-split P new before j x e =
      ⊎_elim
      (λ a. stay (λ _ (x : Known). P x.hands) ks id (one-more k) (before id k at) (λ j x _ a. before j x a) j x a)
      (λ (t : fresh k.opened ≡ x). subst (λ (x : Known). P x.hands) t new)
      (at_snoc (set ks id (one-more k)) (fresh k.opened) x j e)

  split-agrees : (list : List Entry) → AllAgree ks list → AllAgree after-split list
  split-agrees list all =
      let m = all-made in
      record {
        each = each-split (AllByRecursion (Agrees list))
            ((begins-none list, all.others (k.opened + 1) (named.none_above (k.opened + 1) (omega arith))), tt)
            all.each;
        others = λ w none. let s = split-total w in all.others w (omega arith);
      }

  split-flags : (failed : Bool) → Flagged ks failed → Flagged after-split failed
  split-flags failed f =
      record {
        why = λ e.
            let was = f.why e in
            dite (ℕ_discrete was.0 id)
            (λ is. (
              id,
              one-more k,
              at_longer (set ks id (one-more k)) (fresh k.opened ∷ []) id (one-more k)
                  (set_here ks id (one-more k) (at-inside ks id k at)),
              ap (λ (z : Known). any_hand is_refused z.hands)
                  (same-at ks id k was.1 at (ap (get_elem? ks) (sym is) ∙ was.2))
                  ∙ was.3,
            ))
            (λ other. (
              was.0,
              was.1,
              at_longer (set ks id (one-more k)) (fresh k.opened ∷ []) was.0 was.1
                  (set_else ks id was.0 (one-more k) other ∙ was.2),
              was.3,
            ));
        refused = each-split (λ hands. any_hand is_refused hands ≡ true → failed ≡ true)
            (λ h. absurd (false-is-not-true h))
            f.refused;
        found = each-split (λ hands. any_hand found_failed hands ≡ true → failed ≡ true)
            (λ h. absurd (false-is-not-true h))
            f.found;
      }

  split-fits : (c : ℕ) (kept : Kept) → Fits ks c kept → Fits after-split c kept
  split-fits c kept f =
      record {
        count = f.count;
        long = f.long;
        agree = if-some kept.told f.agree (λ list _ all. split-agrees list all);
        past = each-split (AllByRecursion (IsPast kept.count)) (tt, tt) f.past;
        flagged = split-flags kept.failed f.flagged;
      }

module _ {L : Type 0} (kept : L → Kept) (o : Origin) where
  -- one more seat without a ticket
  idle-placed : (now c : ℕ) (homes : List (maybe.Option L)) (l : List Stage) (ks ks' : List Known)
      → ((k : Kept) → Fits ks c k → Fits ks' c k) → IsPlaced kept o now c homes l ks
      → IsPlaced kept o now c homes (l ++ Idle ∷ []) ks'
  idle-placed now c homes l ks ks' fits (inl h) =
      inl record {
        value = h.value;
        here = h.here;
        origin = h.origin;
        nobody = λ j x e. ⊎_elim (h.nobody j x) (λ (t : Idle ≡ x). ap inside (sym t)) (at_snoc l Idle x j e);
        fits = fits (kept h.value) h.fits;
      }
  idle-placed now c homes l ks ks' fits (inr a) =
      inr record {
        seat = a.seat;
        keeps = a.keeps;
        gone = a.gone;
        origin = a.origin;
        there = at_longer l (Idle ∷ []) a.seat (Entered now a.keeps) a.there;
        fits = fits a.keeps a.fits;
      }

  pub opens : (id : ℕ) (v : View) (h : Hand) (hs : List Hand) → v.known.hands ≡ h ∷ hs → 0 < v.known.opened
      → v.known.opened < 64 → Splits (LockRule kept o) id v (opener_after v) (newcomer v)
  opens id v h hs hand some-made few s r at =
      let l : List Stage = map stage_of s.views in
      let ks : List Known = map known_in s.views in
      let there : get_elem? ks id ≡ some v.known = at_map known_in s.views id v at in
      let views : List View = set s.views id (opener_after v) in
      let stages : map stage_of (views ++ newcomer v ∷ []) ≡ l ++ Idle ∷ [] =
      map-append stage_of views (newcomer v ∷ [])
      ∙ ap (λ z. z ++ Idle ∷ [])
      (map-set stage_of s.views id (opener_after v) ∙ set_again l id v.stage (at_map stage_of s.views id v at)) in
      let knowns : map known_in (views ++ newcomer v ∷ []) ≡ after-split ks id v.known there some-made r.named =
      map-append known_in views (newcomer v ∷ [])
      ∙ ap (λ z. z ++ fresh v.known.opened ∷ []) (map-set known_in s.views id (opener_after v)) in
      let n = (r.named.counts id v.known there some-made).1 in
      let a = length-map s.views known_in in
      let b = length-map s.views stage_of in
      record {
        next = r.next;
        now = r.now;
        wide = r.wide;
        ticket = r.ticket;
        serving = r.serving;
        queue = subst (Queue r.next r.now) (sym stages) (comes-without r.next r.now l r.queue (omega arith));
        named = subst Named (sym knowns) (split-named ks id v.known there some-made r.named);
        spent = λ j x e. ⊎_elim
            (λ a. stay (λ _ (x : View). IsIdleIfSpent x) s.views id (opener_after v) (r.spent id v at)
            (λ j x _ a. r.spent j x a)
            j x a)
            (λ (t : newcomer v ≡ x) _. ap stage_of (sym t))
            (at_snoc views (newcomer v) x j e);
        origins = λ j x e. ⊎_elim
            (λ a. stay (λ _ (x : View). Shows o x) s.views id (opener_after v) (r.origins id v at)
            (λ j x _ a. r.origins j x a)
            j x a)
            (λ (t : newcomer v ≡ x).
            subst (Shows o) t (λ _. r.origins id v at (λ z. cons-is-not-nil h hs (sym hand ∙ z))))
            (at_snoc views (newcomer v) x j e);
        slot =
            subst
            (λ z. IsPlaced kept o r.now (get_or s.words 2 0) s.homes z (map known_in (views ++ newcomer v ∷ [])))
            (sym stages)
            (subst (IsPlaced kept o r.now (get_or s.words 2 0) s.homes (l ++ Idle ∷ [])) (sym knowns)
            (idle-placed r.now (get_or s.words 2 0) s.homes l ks _
            (split-fits ks id v.known there some-made r.named (get_or s.words 2 0)) r.slot));
      }
