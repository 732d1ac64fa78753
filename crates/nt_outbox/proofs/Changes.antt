-- What is told of the topics as a whole, after one of them is changed.
use Rattle.std.proofs.Common.{◌≡◌, ◌≤◌, ◌<◌, ◌+◌, ◌∙◌, ℕ, Bool, true, false, cond, eqb, ltb, List, [], ◌∷◌, Option, Some, None, map, refl, sym, ap, arith}
use Rattle.std.specs.List.{cons_option}
use Rattle.std.proofs.lemmas.Bool.Decides.{nat_tests}
use Rattle.nt_rules.specs.outbox.Messages.{mark_at}
use Rattle.nt_rules.specs.outbox.Marks.{Mark, is_blank, fresh, unless_blank, at_id}
use Rattle.nt_outbox.specs.Owing.{RiseIds, with_id, without_id}
use Rattle.nt_outbox.specs.Steps.{RiseFrom, left_of, owes, mark_count, count, count_in, count_at, owing_ids}
use Rattle.nt_outbox.proofs.Ids.{ids-weaker, with-here, with-after, with-low, without-here, without-after, without-low}
use Rattle.nt_outbox.proofs.Places.{below-none}

-- ---- a topic in place of what stood there

-- the topics with this one, or none, in place of that of an id
abbrev put_at : ℕ → Option Mark → List Mark → List Mark
put_at id o [] = cons_option o []
put_at id o (m ∷ ms) =
    cond (eqb m.id id) (cons_option o ms) (cond (ltb id m.id) (cons_option o (m ∷ ms)) (m ∷ put_at id o ms))

-- it is the topic of this id, where there is one
abbrev IsOf : ℕ → Option Mark → Type 0
IsOf id None = Unit {0}
IsOf id (Some m) = m.id ≡ id

-- the topic of this id alone is changed, put in or taken out
pub record IsChange (id : ℕ) (ms now : List Mark) : Type 0 where
  pub to : Option Mark
  pub is : now ≡ put_at id to ms
  pub named : IsOf id to

-- ---- how many messages are owed

count-cons : (o : Option Mark) (ms : List Mark) → count (cons_option o ms) ≡ count_in o + count ms
count-cons None ms = omega arith
count-cons (Some m) ms = refl

count-put : (id n : ℕ) (o : Option Mark) (ms : List Mark) → RiseFrom n ms
    → count (put_at id o ms) + count_at id ms ≡ count ms + count_in o
count-put id n o [] h = let all = count-cons o [] in omega arith
count-put id n o (m ∷ ms) h = by (eqb m.id id) (ltb id m.id) refl (count-put id (m.id + 1) o ms h.1)
  where
    by : (b c : Bool) → ltb id m.id ≡ c → count (put_at id o ms) + count_at id ms ≡ count ms + count_in o
        → count (cond b (cons_option o ms) (cond c (cons_option o (m ∷ ms)) (m ∷ put_at id o ms)))
        + count_in (cond b (Some m) (mark_at id ms))
        ≡ count (m ∷ ms) + count_in o
    by true c e more = let all = count-cons o ms in omega arith
    by false true e more =
        let all = count-cons o (m ∷ ms) in
        let less : id < m.id = grind (arith, nat_tests) in
        let none : count_at id ms ≡ 0 = ap count_in (below-none id (m.id + 1) ms h.1 (omega arith)) in omega arith
    by false false e more = omega arith

at-cons : (id : ℕ) (o : Option Mark) (ms : List Mark) → IsOf id o → mark_at id ms ≡ None
    → mark_at id (cons_option o ms) ≡ o
at-cons id None ms e none = none
at-cons id (Some m) ms e none =
    let t : eqb m.id id ≡ true = grind (arith, nat_tests) in ap (λ b. cond b (Some m) (mark_at id ms)) t

at-put : (id n : ℕ) (o : Option Mark) (ms : List Mark) → RiseFrom n ms → IsOf id o → mark_at id (put_at id o ms) ≡ o
at-put id n o [] h e = at-cons id o [] e refl
at-put id n o (m ∷ ms) h e =
    by (eqb m.id id) refl (ltb id m.id) refl (at-put id (m.id + 1) o ms h.1 e)
  where
    by : (b : Bool) → eqb m.id id ≡ b → (c : Bool) → ltb id m.id ≡ c → mark_at id (put_at id o ms) ≡ o
        → mark_at id (cond b (cons_option o ms) (cond c (cons_option o (m ∷ ms)) (m ∷ put_at id o ms))) ≡ o
    by true t c u more =
        let same : m.id ≡ id = grind (arith, nat_tests) in
        at-cons id o ms e (below-none id (m.id + 1) ms h.1 (omega arith))
    by false t true u more =
        let less : id < m.id = grind (arith, nat_tests) in
        at-cons id o (m ∷ ms) e (ap (λ b. cond b (Some m) (mark_at id ms)) t
        ∙ below-none id (m.id + 1) ms h.1 (omega arith))
    by false t false u more = ap (λ b. cond b (Some m) (mark_at id (put_at id o ms))) t ∙ more

pub counted : (id : ℕ) (ms now : List Mark) → RiseFrom 0 ms → IsChange id ms now
    → count now + count_at id ms ≡ count ms + count_at id now
counted id ms now h c =
    let is = ap count c.is in
    let put = count-put id 0 c.to ms h in
    let at = ap count_in (ap (mark_at id) c.is ∙ at-put id 0 c.to ms h c.named) in
    omega arith

-- no topic has more than all
pub part-count : (id : ℕ) (ms : List Mark) → count_at id ms ≤ count ms
part-count id [] = omega arith
part-count id (m ∷ ms) = by (eqb m.id id) (part-count id ms)
  where
    by : (b : Bool) → count_at id ms ≤ count ms → count_in (cond b (Some m) (mark_at id ms)) ≤ count (m ∷ ms)
    by true more = omega arith
    by false more = omega arith

-- ---- of which topics some are owed

abbrev noted : Bool → ℕ → List ℕ → List ℕ
noted b id xs = cond b (with_id id xs) (without_id id xs)

noted-low : (b : Bool) (id n : ℕ) (xs : List ℕ) → RiseIds n xs → id < n → noted b id xs ≡ cond b (id ∷ xs) xs
noted-low true id n xs h lt = with-low id n xs h lt
noted-low false id n xs h lt = without-low id n xs h lt

noted-here : (b : Bool) (id x : ℕ) (xs : List ℕ) → x ≡ id → noted b id (x ∷ xs) ≡ cond b (id ∷ xs) xs
noted-here true id x xs e = with-here id x xs e ∙ ap (λ y. y ∷ xs) e
noted-here false id x xs e = without-here id x xs e

noted-after : (b : Bool) (id x : ℕ) (xs : List ℕ) → x < id → noted b id (x ∷ xs) ≡ x ∷ noted b id xs
noted-after true id x xs lt = with-after id x xs lt
noted-after false id x xs lt = without-after id x xs lt

pub owing-rise : (n : ℕ) (ms : List Mark) → RiseFrom n ms → RiseIds n (owing_ids ms)
owing-rise n [] h = tt
owing-rise n (m ∷ ms) h = by (owes m) (owing-rise (m.id + 1) ms h.1)
  where
    by : (b : Bool) → RiseIds (m.id + 1) (owing_ids ms) → RiseIds n (cond b (m.id ∷ owing_ids ms) (owing_ids ms))
    by true more = (h.0, more)
    by false more = let first = h.0 in ids-weaker (m.id + 1) n (owing_ids ms) (omega arith) more

owing-cons : (id : ℕ) (o : Option Mark) (ms : List Mark) → IsOf id o
    → owing_ids (cons_option o ms) ≡ cond (ltb 0 (count_in o)) (id ∷ owing_ids ms) (owing_ids ms)
owing-cons id None ms e = refl
owing-cons id (Some m) ms e = ap (λ i. cond (owes m) (i ∷ owing_ids ms) (owing_ids ms)) e

owing-put : (id n : ℕ) (o : Option Mark) (ms : List Mark) → RiseFrom n ms → IsOf id o
    → owing_ids (put_at id o ms) ≡ noted (ltb 0 (count_in o)) id (owing_ids ms)
owing-put id n o [] h e = owing-cons id o [] e ∙ sym (noted-low (ltb 0 (count_in o)) id (id + 1) [] tt (omega arith))
owing-put id n o (m ∷ ms) h e =
    by (eqb m.id id) refl (ltb id m.id) refl (owing-put id (m.id + 1) o ms h.1 e)
  where
    here : m.id ≡ id → (b : Bool) → cond (ltb 0 (count_in o)) (id ∷ owing_ids ms) (owing_ids ms)
        ≡ noted (ltb 0 (count_in o)) id (cond b (m.id ∷ owing_ids ms) (owing_ids ms))
    here same true = sym (noted-here (ltb 0 (count_in o)) id m.id (owing_ids ms) same)
    here same false =
        sym (noted-low (ltb 0 (count_in o)) id (m.id + 1) (owing_ids ms) (owing-rise (m.id + 1) ms h.1) (omega arith))

    later : m.id < id → (b : Bool) → owing_ids (put_at id o ms) ≡ noted (ltb 0 (count_in o)) id (owing_ids ms)
        → cond b (m.id ∷ owing_ids (put_at id o ms)) (owing_ids (put_at id o ms))
        ≡ noted (ltb 0 (count_in o)) id (cond b (m.id ∷ owing_ids ms) (owing_ids ms))
    later lt true more =
        ap (λ xs. m.id ∷ xs) more ∙ sym (noted-after (ltb 0 (count_in o)) id m.id (owing_ids ms) lt)
    later lt false more = more

    by : (b : Bool) → eqb m.id id ≡ b → (c : Bool) → ltb id m.id ≡ c
        → owing_ids (put_at id o ms) ≡ noted (ltb 0 (count_in o)) id (owing_ids ms)
        → owing_ids (cond b (cons_option o ms) (cond c (cons_option o (m ∷ ms)) (m ∷ put_at id o ms)))
        ≡ noted (ltb 0 (count_in o)) id (owing_ids (m ∷ ms))
    by true t c u more =
        owing-cons id o ms e ∙ here (grind (arith, nat_tests)) (owes m)
    by false t true u more =
        owing-cons id o (m ∷ ms) e
        ∙ sym (noted-low (ltb 0 (count_in o)) id m.id (owing_ids (m ∷ ms))
        (owing-rise m.id (m ∷ ms) (let le : m.id ≤ m.id = omega arith in (le, h.1))) (grind (arith, nat_tests)))
    by false t false u more = later (grind (arith, nat_tests)) (owes m) more

pub named : (id : ℕ) (ms now : List Mark) → RiseFrom 0 ms → IsChange id ms now
    → owing_ids now ≡ cond (ltb 0 (count_at id now)) (with_id id (owing_ids ms)) (without_id id (owing_ids ms))
named id ms now h c =
    let at : count_in c.to ≡ count_at id now =
    sym (ap count_in (ap (mark_at id) c.is ∙ at-put id 0 c.to ms h c.named)) in
    ap owing_ids c.is ∙ owing-put id 0 c.to ms h c.named
    ∙ ap (λ n. cond (ltb 0 n) (with_id id (owing_ids ms)) (without_id id (owing_ids ms))) at

-- where some messages were owed and still are, the ids are the same
pub still-named : (id n : ℕ) (ms : List Mark) → RiseFrom n ms → 0 < count_at id ms
    → with_id id (owing_ids ms) ≡ owing_ids ms
still-named id n [] h lt = absurd (omega arith)
still-named id n (m ∷ ms) h lt =
    by (eqb m.id id) refl (owes m) refl lt (still-named id (m.id + 1) ms h.1)
  where
    by : (b : Bool) → eqb m.id id ≡ b → (c : Bool) → ltb 0 (mark_count m) ≡ c
        → 0 < count_in (cond b (Some m) (mark_at id ms))
        → (0 < count_at id ms → with_id id (owing_ids ms) ≡ owing_ids ms)
        → with_id id (cond c (m.id ∷ owing_ids ms) (owing_ids ms)) ≡ cond c (m.id ∷ owing_ids ms) (owing_ids ms)
    by true t true u lt more = with-here id m.id (owing_ids ms) (grind (arith, nat_tests))
    by true t false u lt more = absurd (grind (arith, nat_tests))
    by false t false u lt more = more lt
    by false t true u lt more =
        let above : m.id < id = over (ltb m.id id) refl in
        with-after id m.id (owing_ids ms) above ∙ ap (λ xs. m.id ∷ xs) (more lt)
      where
        over : (d : Bool) → ltb m.id id ≡ d → m.id < id
        over true v = grind (arith, nat_tests)
        over false v =
            let none : count_at id ms ≡ 0 = ap count_in (below-none id (m.id + 1) ms h.1 (grind (arith, nat_tests))) in
            absurd (omega arith)

-- ---- changes

kept-cons : (x : Mark) (ms : List Mark) → unless_blank x ms ≡ cons_option (left_of x) ms
kept-cons x ms = by (is_blank x)
  where
    by : (b : Bool) → cond b ms (x ∷ ms) ≡ cons_option (cond b None (Some x)) ms
    by true = refl
    by false = refl

left-of : (id : ℕ) (x : Mark) → x.id ≡ id → IsOf id (left_of x)
left-of id x e = by (is_blank x)
  where
    by : (b : Bool) → IsOf id (cond b None (Some x))
    by true = tt
    by false = e

pub change-at_id : (id : ℕ) (name : List ℕ) (f : Mark → Mark) (ms : List Mark) → ((m : Mark) → (f m).id ≡ m.id)
    → IsChange id ms (at_id id name f ms)
change-at_id id name f [] same = record {
  to = left_of (f (fresh id name));
  is = kept-cons (f (fresh id name)) [];
  named = left-of id (f (fresh id name)) (same (fresh id name));
}
change-at_id id name f (m ∷ ms) same =
    by (eqb m.id id) refl (ltb id m.id) refl (change-at_id id name f ms same)
  where
    by : (b : Bool) → eqb m.id id ≡ b → (c : Bool) → ltb id m.id ≡ c → IsChange id ms (at_id id name f ms)
        → IsChange id (m ∷ ms) (cond b (unless_blank (f m) ms)
        (cond c (unless_blank (f (fresh id name)) (m ∷ ms)) (m ∷ at_id id name f ms)))
    by true t c u more = record {
      to = left_of (f m);
      is = rw t (kept-cons (f m) ms);
      named = left-of id (f m) (same m ∙ (grind (arith, nat_tests)));
    }
    by false t true u more = record {
      to = left_of (f (fresh id name));
      is = rw (t, u) (kept-cons (f (fresh id name)) (m ∷ ms));
      named = left-of id (f (fresh id name)) (same (fresh id name));
    }
    by false t false u more = record {
      to = more.to;
      is = rw (t, u) (ap (λ xs. m ∷ xs) more.is);
      named = more.named;
    }

pub others-same : (id n : ℕ) (g : Mark → Mark) (ms : List Mark) → ((m : Mark) → eqb m.id id ≡ false → g m ≡ m)
    → RiseFrom n ms → id < n → map g ms ≡ ms
others-same id n g [] other h lt = refl
others-same id n g (m ∷ ms) other h lt =
    let first = h.0 in
    ap (λ x. x ∷ map g ms) (other m (grind (arith, nat_tests)))
    ∙ ap (λ xs. m ∷ xs) (others-same id (m.id + 1) g ms other h.1 (omega arith))

pub change-mapped : (id n : ℕ) (g : Mark → Mark) (ms : List Mark) → ((m : Mark) → (g m).id ≡ m.id)
    → ((m : Mark) → eqb m.id id ≡ false → g m ≡ m) → RiseFrom n ms → IsChange id ms (map g ms)
change-mapped id n g [] same other h = record { to = None; is = refl; named = tt }
change-mapped id n g (m ∷ ms) same other h =
    by (eqb m.id id) refl (ltb id m.id) refl (change-mapped id (m.id + 1) g ms same other h.1)
  where
    by : (b : Bool) → eqb m.id id ≡ b → (c : Bool) → ltb id m.id ≡ c → IsChange id ms (map g ms)
        → IsChange id (m ∷ ms) (g m ∷ map g ms)
    by true t c u more =
        let here : m.id ≡ id = grind (arith, nat_tests) in record {
          to = Some (g m);
          is = rw t (ap (λ xs. g m ∷ xs) (others-same id (m.id + 1) g ms other h.1 (omega arith)));
          named = same m ∙ here;
        }
    by false t true u more =
        let less : id < m.id = grind (arith, nat_tests) in record {
          to = None;
          is = rw (t, u) (ap (λ x. x ∷ map g ms) (other m t)
              ∙ ap (λ xs. m ∷ xs) (others-same id (m.id + 1) g ms other h.1 (omega arith)));
          named = tt;
        }
    by false t false u more = record {
      to = more.to;
      is = rw (t, u) (ap (λ x. x ∷ map g ms) (other m t) ∙ ap (λ xs. m ∷ xs) more.is);
      named = more.named;
    }
