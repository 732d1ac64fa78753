-- Where a topic stands among those that are kept, and what stands there after a change.
use Rattle.std.proofs.Common.{◌≡◌, ◌≤◌, ◌<◌, ◌+◌, ◌^◌, ℕ, zero, suc, Bool, true, false, cond, not, ltb, eqb, List, [], ◌∷◌, Some, None, Result, Ok, Err, length, get_or, map, filter, Less, Equal, Greater, nat_cmp, refl, sym, ap, ◌∙◌, subst, arith, tests}
use Rattle.std.specs.Prelude.{insert, MatchResult}
use Rattle.std.specs.List.{cons_option}
use Rattle.std.specs.Ordering.{ordering_index}
use Rattle.std.specs.List.Sorted.{IsBinarySearchResult, IsSearchInRange}
use Rattle.std.proofs.lemmas.Bool.Decides.{nat_tests}
use Rattle.nt_rules.specs.topics.Topics.{change_at}
use Rattle.nt_rules.specs.outbox.Marks.{Mark}
use Rattle.nt_outbox.specs.declared.step.Step.{Step}
use Rattle.nt_outbox.specs.declared.step.Step.TheVariants as step
use Rattle.nt_rules.specs.outbox.Marks.{is_blank, fresh, turned, unless_blank, at_id, handed, handed_all}
use Rattle.nt_rules.specs.outbox.Keys.{Key}
use Rattle.nt_rules.specs.outbox.Messages.{mark_at}
use Rattle.nt_outbox.specs.Steps.{after, left_of, next_index, position_of, RiseFrom}

-- ---- ids that rise

pub rise-weaker : (n k : ℕ) (ms : List Mark) → k ≤ n → RiseFrom n ms → RiseFrom k ms
rise-weaker n k [] le h = omega arith
rise-weaker n k (m ∷ ms) le h = (let first = h.0 in omega arith, h.1)

-- an id that stands at a position
rise-at : (n i : ℕ) (ms : List Mark) (d : Mark) → RiseFrom n ms → i < length ms → n ≤ (get_or ms i d).id
rise-at n i [] d h lt = absurd (omega arith)
rise-at n zero (m ∷ ms) d h lt = h.0
rise-at n (suc i) (m ∷ ms) d h lt =
    let first = h.0 in let later = rise-at (m.id + 1) i ms d h.1 (omega arith) in omega arith

rise-up : (n i j : ℕ) (ms : List Mark) (d : Mark) → RiseFrom n ms → i ≤ j → j < length ms
    → (get_or ms i d).id ≤ (get_or ms j d).id
rise-up n i j [] d h le lt = absurd (omega arith)
rise-up n zero zero (m ∷ ms) d h le lt = omega arith
rise-up n zero (suc j) (m ∷ ms) d h le lt = let later = rise-at (m.id + 1) j ms d h.1
    (omega arith) in omega arith
rise-up n (suc i) zero (m ∷ ms) d h le lt = absurd (omega arith)
rise-up n (suc i) (suc j) (m ∷ ms) d h le lt = rise-up (m.id + 1) i j ms d h.1 (omega arith) (omega arith)

-- ---- the position that a search finds

position-here : (id : ℕ) (m : Mark) (ms : List Mark) → m.id ≡ id → position_of id (m ∷ ms) ≡ Ok 0
position-here id m ms e =
    let t : eqb m.id id ≡ true = grind (arith, nat_tests) in
    ap (λ b. cond b (Ok 0) (cond (ltb id m.id) (Err 0) (next_index (position_of id ms)))) t

position-before : (id : ℕ) (m : Mark) (ms : List Mark) → id < m.id → position_of id (m ∷ ms) ≡ Err 0
position-before id m ms lt =
    let t : eqb m.id id ≡ false = grind (arith, nat_tests) in
    let u : ltb id m.id ≡ true = grind (arith, nat_tests) in
    ap (λ b. cond b (Ok 0) (cond (ltb id m.id) (Err 0) (next_index (position_of id ms)))) t
    ∙ ap (λ b. cond b (Err 0) (next_index (position_of id ms))) u

position-after : (id : ℕ) (m : Mark) (ms : List Mark) → m.id < id
    → position_of id (m ∷ ms) ≡ next_index (position_of id ms)
position-after id m ms lt =
    let t : eqb m.id id ≡ false = grind (arith, nat_tests) in
    let u : ltb id m.id ≡ false = grind (arith, nat_tests) in
    ap (λ b. cond b (Ok 0) (cond (ltb id m.id) (Err 0) (next_index (position_of id ms)))) t
    ∙ ap (λ b. cond b (Err 0) (next_index (position_of id ms))) u

found : (id n i : ℕ) (ms : List Mark) → RiseFrom n ms → i < length ms → ((d : Mark) → (get_or ms i d).id ≡ id)
    → Ok i ≡ position_of id ms
found id n i [] h lt at = absurd (omega arith)
found id n zero (m ∷ ms) h lt at = sym (position-here id m ms (at m))
found id n (suc i) (m ∷ ms) h lt at =
    let later = rise-at (m.id + 1) i ms m h.1 (omega arith) in
    let same = at m in
    ap next_index (found id (m.id + 1) i ms h.1 (omega arith) at) ∙ sym (position-after id m ms (omega arith))

missing : (id n i : ℕ) (ms : List Mark) → RiseFrom n ms → i ≤ length ms
    → ((k : ℕ) (d : Mark) → k < i → (get_or ms k d).id < id)
    → ((k : ℕ) (d : Mark) → i ≤ k → k < length ms → id < (get_or ms k d).id)
    → Err i ≡ position_of id ms
missing id n zero [] h le below above = refl
missing id n (suc i) [] h le below above = absurd (omega arith)
missing id n zero (m ∷ ms) h le below above = sym (position-before id m ms (above 0 m (omega arith)
    (omega arith)))
missing id n (suc i) (m ∷ ms) h le below above =
    ap next_index (missing id (m.id + 1) i ms h.1 (omega arith) (λ k d lt. below (suc k) d (omega arith))
    (λ k d le lt. above (suc k) d (omega arith) (omega arith)))
    ∙ sym (position-after id m ms (below 0 m (omega arith)))

cmp-less : (a b : ℕ) → nat_cmp a b ≡ Less → a < b
cmp-less a b h = grind (arith, tests, nat_tests)

cmp-equal : (a b : ℕ) → nat_cmp a b ≡ Equal → a ≡ b
cmp-equal a b h = grind (arith, tests, nat_tests)

cmp-greater : (a b : ℕ) → nat_cmp a b ≡ Greater → b < a
cmp-greater a b h = grind (arith, tests, nat_tests)

higher : (a b c : ℕ) → a ≤ b → ordering_index (nat_cmp a c) ≤ ordering_index (nat_cmp b c)
higher a b c le = grind (arith, tests)

-- what a binary search by id answers
pub searched : (id : ℕ) (ms : List Mark) (r : Result ℕ ℕ) → RiseFrom 0 ms → IsSearchInRange r (length ms)
    → IsBinarySearchResult (λ (m : Mark). nat_cmp m.id id) ms r → r ≡ position_of id ms
searched id ms (Ok i) h within at = found id 0 i ms h within (λ d. cmp-equal (get_or ms i d).id id (at d))
searched id ms (Err i) h within at =
    let parted = at (λ a b d le lt. higher (get_or ms a d).id (get_or ms b d).id id
    (rise-up 0 a b ms d h le lt)) in
    missing id 0 i ms h within
    (λ k d lt. cmp-less (get_or ms k d).id id (parted.0 k d (omega arith) lt))
    (λ k d le lt. cmp-greater (get_or ms k d).id id (parted.1 k d le lt))

-- ---- a change at a position

-- what stands at this position, and is changed there
pub record IsAt (id : ℕ) (ms : List Mark) (i : ℕ) : Type 0 where
  pub within : i < length ms
  pub changed : (name : List ℕ) (f : Mark → Mark) → at_id id name f ms ≡ change_at (λ m. left_of (f m)) i ms

-- it stands nowhere, and would stand at this position
pub record IsGap (id : ℕ) (ms : List Mark) (i : ℕ) : Type 0 where
  pub within : i ≤ length ms
  pub put : (name : List ℕ) (f : Mark → Mark)
      → at_id id name f ms ≡ cond (is_blank (f (fresh id name))) ms (insert ms i (f (fresh id name)))

kept-left : (m : Mark) (ms : List Mark) → unless_blank m ms ≡ change_at left_of 0 (m ∷ ms)
kept-left m ms = by (is_blank m)
  where
    by : (b : Bool) → cond b ms (m ∷ ms) ≡ cons_option (cond b None (Some m)) ms
    by true = refl
    by false = refl

kept-prefix : (m : Mark) (ms : List Mark) → unless_blank m ms ≡ cond (is_blank m) ms (insert ms 0 m)
kept-prefix m ms = refl

next-at : (id : ℕ) (m : Mark) (ms : List Mark) (i : ℕ) → eqb m.id id ≡ false → ltb id m.id ≡ false
    → IsAt id ms i
    → IsAt id (m ∷ ms) (suc i)
next-at id m ms i e l h = record {
  within = let w = h.within in omega arith;
  changed = λ name f. rw (e, l) (ap (λ xs. m ∷ xs) (h.changed name f));
}

next-gap : (id : ℕ) (m : Mark) (ms : List Mark) (i : ℕ) → eqb m.id id ≡ false → ltb id m.id ≡ false
    → IsGap id ms i
    → IsGap id (m ∷ ms) (suc i)
next-gap id m ms i e l h = record {
  within = let w = h.within in omega arith;
  put = λ name f. rw (e, l) (ap (λ xs. m ∷ xs) (h.put name f)
      ∙ by (f (fresh id name)) (is_blank (f (fresh id name))));
}
  where
    by : (y : Mark) (b : Bool) → m ∷ cond b ms (insert ms i y) ≡ cond b (m ∷ ms) (insert (m ∷ ms) (suc i) y)
    by y true = refl
    by y false = refl

-- the position of an id
pub placed : (id : ℕ) (ms : List Mark) → MatchResult (position_of id ms) (IsAt id ms) (IsGap id ms)
placed id [] = record { within = omega arith; put = λ name f. refl }
placed id (m ∷ ms) = by (eqb m.id id) refl (ltb id m.id) refl (placed id ms)
  where
    next : (r : Result ℕ ℕ) → eqb m.id id ≡ false → ltb id m.id ≡ false
        → MatchResult r (IsAt id ms) (IsGap id ms)
        → MatchResult (next_index r) (IsAt id (m ∷ ms)) (IsGap id (m ∷ ms))
    next (Ok i) e l h = next-at id m ms i e l h
    next (Err i) e l h = next-gap id m ms i e l h

    by : (b : Bool) → eqb m.id id ≡ b → (c : Bool) → ltb id m.id ≡ c
        → MatchResult (position_of id ms) (IsAt id ms) (IsGap id ms)
        → MatchResult (cond b (Ok 0) (cond c (Err 0) (next_index (position_of id ms)))) (IsAt id (m ∷ ms))
        (IsGap id (m ∷ ms))
    by true e c l h = record {
      within = omega arith;
      changed = λ name f. rw e (kept-left (f m) ms);
    }
    by false e true l h = record { within = omega arith; put = λ name f. rw (e, l) }
    by false e false l h = next (position_of id ms) e l h

pub stands : (id : ℕ) (ms : List Mark) (i : ℕ) → position_of id ms ≡ Ok i → IsAt id ms i
stands id ms i e = subst (λ r. MatchResult r (IsAt id ms) (IsGap id ms)) e (placed id ms)

pub gap : (id : ℕ) (ms : List Mark) (i : ℕ) → position_of id ms ≡ Err i → IsGap id ms i
gap id ms i e = subst (λ r. MatchResult r (IsAt id ms) (IsGap id ms)) e (placed id ms)

-- ---- ids stay, and rise

pub after-id : (s : Step) (m : Mark) → (after s m).id ≡ m.id
after-id (step.Wish wish) m = refl
after-id (step.Value p wish) m = refl
after-id (step.NewestAt place) m = refl
after-id (step.Told s wish) m = refl
after-id (step.Ended place) m = refl
after-id (step.Published p) m = refl
after-id (step.OwnSetting s) m = refl
after-id (step.Rewant wish held place) m = refl
after-id (step.Keep wish) m = refl
after-id (step.MetaRewant wish) m = refl
after-id (step.MetaChanged wish) m = refl
after-id step.Nothing m = refl

rise-kept : (n : ℕ) (m : Mark) (ms : List Mark) → n ≤ m.id → RiseFrom (m.id + 1) ms → RiseFrom n (unless_blank m ms)
rise-kept n m ms le h = by (is_blank m)
  where
    by : (b : Bool) → RiseFrom n (cond b ms (m ∷ ms))
    by true = rise-weaker (m.id + 1) n ms (omega arith) h
    by false = (le, h)

pub rise-at_id : (n id : ℕ) (name : List ℕ) (f : Mark → Mark) (ms : List Mark)
    → ((m : Mark) → (f m).id ≡ m.id)
    → n ≤ id → id < 2 ^ 32 → RiseFrom n ms → RiseFrom n (at_id id name f ms)
rise-at_id n id name f [] same le fits h =
    let e = same (fresh id name) in rise-kept n (f (fresh id name)) [] (omega arith) (omega arith)
rise-at_id n id name f (m ∷ ms) same le fits h =
    by (eqb m.id id) refl (ltb id m.id) refl (λ more. rise-at_id (m.id + 1) id name f ms same more fits h.1)
  where
    here : RiseFrom n (unless_blank (f m) ms)
    here = let e = same m in let first = h.0 in
        rise-kept n (f m) ms (omega arith) (subst (λ i. RiseFrom (i + 1) ms) (sym e) h.1)

    before : id < m.id → RiseFrom n (unless_blank (f (fresh id name)) (m ∷ ms))
    before lt = let e = same (fresh id name) in
        rise-kept n (f (fresh id name)) (m ∷ ms) (omega arith)
        (let first : (f (fresh id name)).id + 1 ≤ m.id = omega arith in (first, h.1))

    by : (b : Bool) → eqb m.id id ≡ b → (c : Bool) → ltb id m.id ≡ c
        → (m.id + 1 ≤ id → RiseFrom (m.id + 1) (at_id id name f ms))
        → RiseFrom n (cond b (unless_blank (f m) ms) (cond c (unless_blank (f (fresh id name)) (m ∷ ms))
        (m ∷ at_id id name f ms)))
    by true e c l more = here
    by false e true l more = before (grind (arith, nat_tests))
    by false e false l more = (h.0, more (grind (arith, nat_tests)))

pub rise-turned : (id : ℕ) (ms : List Mark) → id < 2 ^ 32 → RiseFrom 0 ms → RiseFrom 0 (at_id id [] turned ms)
rise-turned id ms fits h = rise-at_id 0 id [] turned ms (λ m. refl) (omega arith) fits h

-- ---- the topic of an id

pub mark-found : (id : ℕ) (ms : List Mark) (i : ℕ) (x : Mark) → position_of id ms ≡ Ok i → x ≡ get_or ms i x
    → mark_at id ms ≡ Some x
mark-found id [] i x e h = absurd (cc)
mark-found id (m ∷ ms) i x e h = by (eqb m.id id) (ltb id m.id) e (λ j e h. mark-found id ms j x e h)
  where
    next : (r : Result ℕ ℕ) → r ≡ position_of id ms → next_index r ≡ Ok i
        → ((j : ℕ) → position_of id ms ≡ Ok j → x ≡ get_or ms j x → mark_at id ms ≡ Some x)
        → mark_at id ms ≡ Some x
    next (Ok j) r e more = let same : suc j ≡ i = cc in more j (sym r) (h
        ∙ ap (λ k. get_or (m ∷ ms) k x) (sym same))
    next (Err j) r e more = absurd (cc)

    by : (b c : Bool) → cond b (Ok 0) (cond c (Err 0) (next_index (position_of id ms))) ≡ Ok i
        → ((j : ℕ) → position_of id ms ≡ Ok j → x ≡ get_or ms j x → mark_at id ms ≡ Some x)
        → cond b (Some m) (mark_at id ms) ≡ Some x
    by true c e more = let same : 0 ≡ i = cc in ap Some (sym (h ∙ ap (λ k. get_or (m ∷ ms) k x) (sym same)))
    by false true e more = absurd (cc)
    by false false e more = next (position_of id ms) refl e more

pub below-none : (id n : ℕ) (ms : List Mark) → RiseFrom n ms → id < n → mark_at id ms ≡ None
below-none id n [] h lt = refl
below-none id n (m ∷ ms) h lt =
    let first = h.0 in
    let other : eqb m.id id ≡ false = grind (arith, nat_tests) in
    ap (λ b. cond b (Some m) (mark_at id ms)) other ∙ below-none id (m.id + 1) ms h.1 (omega arith)

pub mark-missing : (id n : ℕ) (ms : List Mark) (i : ℕ) → RiseFrom n ms → position_of id ms ≡ Err i
    → mark_at id ms ≡ None
mark-missing id n [] i h e = refl
mark-missing id n (m ∷ ms) i h e =
    by (eqb m.id id) (ltb id m.id) refl e (λ j e. mark-missing id (m.id + 1) ms j h.1 e)
  where
    next : (r : Result ℕ ℕ) → r ≡ position_of id ms → next_index r ≡ Err i
        → ((j : ℕ) → position_of id ms ≡ Err j → mark_at id ms ≡ None) → mark_at id ms ≡ None
    next (Ok j) r e more = absurd (cc)
    next (Err j) r e more = more j (sym r)

    by : (b c : Bool) → ltb id m.id ≡ c
        → cond b (Ok 0) (cond c (Err 0) (next_index (position_of id ms))) ≡ Err i
        → ((j : ℕ) → position_of id ms ≡ Err j → mark_at id ms ≡ None)
        → cond b (Some m) (mark_at id ms) ≡ None
    by true c l e more = absurd (cc)
    by false true l e more = below-none id (m.id + 1) ms h.1 (let less : id < m.id = grind
        (arith, nat_tests) in omega arith)
    by false false l e more = next (position_of id ms) refl e more

-- ---- topics of which keys were handed

pub rise-filter : (n : ℕ) (p : Mark → Bool) (ms : List Mark) → RiseFrom n ms → RiseFrom n (filter p ms)
rise-filter n p [] h = h
rise-filter n p (m ∷ ms) h = by (p m) (rise-filter (m.id + 1) p ms h.1)
  where
    by : (b : Bool) → RiseFrom (m.id + 1) (filter p ms) → RiseFrom n (cond b (m ∷ filter p ms) (filter p ms))
    by true rest = (h.0, rest)
    by false rest = let first = h.0 in rise-weaker (m.id + 1) n (filter p ms) (omega arith) rest

pub rise-handed : (n : ℕ) (ks : List Key) (ms : List Mark) → RiseFrom n ms → RiseFrom n (map (handed ks) ms)
rise-handed n ks [] h = h
rise-handed n ks (m ∷ ms) h = (h.0, rise-handed (m.id + 1) ks ms h.1)

pub rise-handed_all : (n : ℕ) (ks : List Key) (ms : List Mark) → RiseFrom n ms → RiseFrom n (handed_all ks ms)
rise-handed_all n ks ms h = rise-filter n (λ m. not (is_blank m)) (map (handed ks) ms) (rise-handed n ks ms h)
