-- Marks by their ids: what is found at an id says all of a list of marks by rising id.
use Rattle.std.proofs.Common.{◌≡◌, ◌<◌, ◌≤◌, ◌==◌, not, ℕ, Bool, true, false, cond, ltb, List, [], ◌∷◌, Option, Some}
use Rattle.std.proofs.Common.{None, map, filter, refl, sym, ◌∙◌, ap, subst, arith}
use Rattle.std.specs.Prelude.{is_none}
use Rattle.std.specs.List.{find}
use Rattle.std.proofs.lemmas.Bool.Decides.{nat_tests}
use Rattle.std.proofs.lemmas.Bool.{and_parts}
use Rattle.std.proofs.lemmas.Option.{none-some, same_Some}
use Rattle.nt_subs.specs.declared.wish.Wanted.{Wanted}
use Rattle.nt_subs.specs.declared.wish.Wanted.TheVariants.{No, TopicOnly, Newest, All}
use Rattle.nt_rules.specs.outbox.Marks.{Mark}
use Rattle.nt_rules.specs.declared.waiting.Publish.{Publish}
use Rattle.nt_rules.specs.declared.waiting.Setting as marked
use Rattle.nt_rules.specs.declared.waiting.Placed.{Placed}
use Rattle.nt_rules.specs.outbox.Marks.{fresh, is_empty, is_wish, is_blank, is_meta, unless_blank, at_id}
use Rattle.nt_rules.specs.history.Lives.{Life, is_living}
use Rattle.nt_rules.specs.history.Owed.{Account, life_at}
use Rattle.nt_rules.specs.history.Marks.{mark_of, end_mark, meta_mark, topic_mark, marks_by}

-- ---- looks

-- the mark at an id
abbrev pub look : ℕ → List Mark → Option Mark
look k marks = find (λ m. m.id == k) marks

-- a mark where something has to be kept
abbrev pub keep_opt : Mark → Option Mark
keep_opt m = cond (is_blank m) None (Some m)

abbrev pub or_fresh : ℕ → List ℕ → Option Mark → Mark
or_fresh id name None = fresh id name
or_fresh id name (Some m) = m

-- all ids are above this one
abbrev pub AllAbove : ℕ → List Mark → Type 0
AllAbove n [] = Unit {0}
AllAbove n (m ∷ marks) = (n < m.id) × AllAbove n marks

-- by rising id
abbrev pub IsRising : List Mark → Type 0
IsRising [] = Unit {0}
IsRising (m ∷ marks) = AllAbove m.id marks × IsRising marks

-- a change that keeps ids
abbrev pub KeepsId : (Mark → Mark) → Type 0
KeepsId f = (m : Mark) → (f m).id ≡ m.id

pub above-more : (a b : ℕ) (marks : List Mark) → a ≤ b → AllAbove b marks → AllAbove a marks
above-more a b [] le h = tt
above-more a b (m ∷ marks) le h = let less = h.0 in (omega arith, above-more a b marks le h.1)

-- below the first id nothing is found
pub look-above : (k n : ℕ) (marks : List Mark) → k ≤ n → AllAbove n marks → look k marks ≡ None
look-above k n [] le h = refl
look-above k n (m ∷ marks) le h =
    let less = h.0 in
    let other : (m.id == k) ≡ false = grind (arith, nat_tests) in
    ap (λ b. cond b (Some m) (look k marks)) other ∙ look-above k n marks le h.1

-- a mark that is kept, before others of which none has its id
look-kept : (k : ℕ) (m : Mark) (marks : List Mark) → look m.id marks ≡ None
    → look k (unless_blank m marks) ≡ cond (k == m.id) (keep_opt m) (look k marks)
look-kept k m marks none = by (is_blank m) (m.id == k) refl (k == m.id) refl
  where
    by : (blank : Bool) → (b : Bool) → (m.id == k) ≡ b → (d : Bool) → (k == m.id) ≡ d
        → look k (cond blank marks (m ∷ marks)) ≡ cond d (cond blank None (Some m)) (look k marks)
    by true b e true f = let same : k ≡ m.id = grind (arith, nat_tests) in ap (λ n. look n marks) same ∙ none
    by true b e false f = refl
    by false true e true f = ap (λ b. cond b (Some m) (look k marks)) e
    by false true e false f = absurd (grind (arith, nat_tests))
    by false false e true f = absurd (grind (arith, nat_tests))
    by false false e false f = ap (λ b. cond b (Some m) (look k marks)) e

-- a change at an id changes what is found there alone
pub look-at : (k id : ℕ) (name : List ℕ) (f : Mark → Mark) → KeepsId f → (marks : List Mark) → IsRising marks
    → look k (at_id id name f marks)
    ≡ cond (k == id) (keep_opt (f (or_fresh id name (look id marks)))) (look k marks)
look-at k id name f keeps [] rising = here (keeps (fresh id name))
  where
    here : (f (fresh id name)).id ≡ id
        → look k (unless_blank (f (fresh id name)) []) ≡ cond (k == id) (keep_opt (f (fresh id name))) None
    here e =
        look-kept k (f (fresh id name)) [] refl
        ∙ ap (λ n. cond (k == n) (keep_opt (f (fresh id name))) None) e
look-at k id name f keeps (m ∷ marks) rising =
    by (look-at k id name f keeps marks rising.1) (m.id == id) refl (ltb id m.id) refl
  where
    Goal : List Mark → Option Mark → Type 0
    Goal after found =
        look k after ≡ cond (k == id) (keep_opt (f (or_fresh id name found))) (look k (m ∷ marks))

    -- it is the first
    first : m.id ≡ id → look k (unless_blank (f m) marks) ≡ cond (k == id) (keep_opt (f m)) (look k (m ∷ marks))
    first same =
        look-kept k (f m) marks
        (ap (λ n. look n marks) (keeps m) ∙ look-above m.id m.id marks (omega arith) rising.0)
        ∙ ap (λ n. cond (k == n) (keep_opt (f m)) (look k marks)) (keeps m ∙ same)
        ∙ pass (k == id) refl
      where
        pass : (b : Bool) → (k == id) ≡ b → cond b (keep_opt (f m)) (look k marks)
            ≡ cond b (keep_opt (f m)) (look k (m ∷ marks))
        pass true e = refl
        pass false e =
            let other : (m.id == k) ≡ false = grind (arith, nat_tests) in
            sym (ap (λ b. cond b (Some m) (look k marks)) other)

    -- it stands before the first
    before : id < m.id → Goal (unless_blank (f (fresh id name)) (m ∷ marks)) None
    before less =
        look-kept k (f (fresh id name)) (m ∷ marks)
        (ap (λ n. look n (m ∷ marks)) (keeps (fresh id name))
        ∙ look-above id id (m ∷ marks) (omega arith)
        (less, above-more id m.id marks (omega arith) rising.0))
        ∙ ap (λ n. cond (k == n) (keep_opt (f (fresh id name))) (look k (m ∷ marks))) (keeps (fresh id name))

    -- it comes after the first
    after : m.id < id → look k (at_id id name f marks)
        ≡ cond (k == id) (keep_opt (f (or_fresh id name (look id marks)))) (look k marks)
        → Goal (m ∷ at_id id name f marks) (look id marks)
    after less more = at (m.id == k) refl
      where
        at : (b : Bool) → (m.id == k) ≡ b → cond b (Some m) (look k (at_id id name f marks))
            ≡ cond (k == id) (keep_opt (f (or_fresh id name (look id marks))))
            (cond b (Some m) (look k marks))
        at true e =
            let other : (k == id) ≡ false = grind (arith, nat_tests) in
            sym (ap (λ b. cond b (keep_opt (f (or_fresh id name (look id marks)))) (Some m)) other)
        at false e = more

    by : look k (at_id id name f marks)
        ≡ cond (k == id) (keep_opt (f (or_fresh id name (look id marks)))) (look k marks)
        → (b : Bool) → (m.id == id) ≡ b → (d : Bool) → ltb id m.id ≡ d
        → Goal (cond b (unless_blank (f m) marks)
        (cond d (unless_blank (f (fresh id name)) (m ∷ marks)) (m ∷ at_id id name f marks))) (cond b (Some m)
        (look id marks))
    by more true e d g = first (grind (arith, nat_tests))
    by more false e true g =
        let less : id < m.id = grind (arith, nat_tests) in
        subst (λ found. Goal (unless_blank (f (fresh id name)) (m ∷ marks)) found)
        (sym (look-above id m.id marks (omega arith) rising.0)) (before less)
    by more false e false g = after (grind (arith, nat_tests)) more

-- ---- changes keep the order

above-kept : (n : ℕ) (m : Mark) (marks : List Mark) → n < m.id → AllAbove n marks → AllAbove n (unless_blank m marks)
above-kept n m marks less h = by (is_blank m)
  where
    by : (b : Bool) → AllAbove n (cond b marks (m ∷ marks))
    by true = h
    by false = (less, h)

above-at : (n id : ℕ) (name : List ℕ) (f : Mark → Mark) → KeepsId f → n < id → (marks : List Mark)
    → AllAbove n marks
    → AllAbove n (at_id id name f marks)
above-at n id name f keeps less [] h =
    above-kept n (f (fresh id name)) [] (subst (λ k. n < k) (sym (keeps (fresh id name))) less) tt
above-at n id name f keeps less (m ∷ marks) h =
    by (above-at n id name f keeps less marks h.1) (m.id == id) (ltb id m.id)
  where
    by : AllAbove n (at_id id name f marks) → (b d : Bool)
        → AllAbove n
        (cond b (unless_blank (f m) marks)
        (cond d (unless_blank (f (fresh id name)) (m ∷ marks)) (m ∷ at_id id name f marks)))
    by more true d = above-kept n (f m) marks (subst (λ k. n < k) (sym (keeps m)) h.0) h.1
    by more false true =
        above-kept n (f (fresh id name)) (m ∷ marks) (subst (λ k. n < k) (sym (keeps (fresh id name))) less) h
    by more false false = (h.0, more)

rising-kept : (m : Mark) (marks : List Mark) → AllAbove m.id marks → IsRising marks → IsRising (unless_blank m marks)
rising-kept m marks above h = by (is_blank m)
  where
    by : (b : Bool) → IsRising (cond b marks (m ∷ marks))
    by true = h
    by false = (above, h)

pub rising-at : (id : ℕ) (name : List ℕ) (f : Mark → Mark) → KeepsId f → (marks : List Mark) → IsRising marks
    → IsRising (at_id id name f marks)
rising-at id name f keeps [] h = rising-kept (f (fresh id name)) [] tt tt
rising-at id name f keeps (m ∷ marks) h =
    by (rising-at id name f keeps marks h.1) (m.id == id) (ltb id m.id) refl refl
  where
    by : IsRising (at_id id name f marks) → (b d : Bool) → (m.id == id) ≡ b → ltb id m.id ≡ d
        → IsRising
        (cond b (unless_blank (f m) marks)
        (cond d (unless_blank (f (fresh id name)) (m ∷ marks)) (m ∷ at_id id name f marks)))
    by more true d e g = rising-kept (f m) marks (subst (λ k. AllAbove k marks) (sym (keeps m)) h.0) h.1
    by more false true e g =
        let less : id < m.id = grind (arith, nat_tests) in
        rising-kept (f (fresh id name)) (m ∷ marks)
        (subst (λ k. AllAbove k (m ∷ marks)) (sym (keeps (fresh id name)))
        (less, above-more id m.id marks (omega arith) h.0)) h
    by more false false e g =
        let less : m.id < id = grind (arith, nat_tests) in
        (above-at m.id id name f keeps less marks h.0, more)

-- no mark of the list is blank
abbrev pub AreKept : List Mark → Type 0
AreKept [] = Unit {0}
AreKept (m ∷ marks) = (is_blank m ≡ false) × AreKept marks

are-kept : (m : Mark) (marks : List Mark) → AreKept marks → AreKept (unless_blank m marks)
are-kept m marks h = by (is_blank m) refl
  where
    by : (b : Bool) → is_blank m ≡ b → AreKept (cond b marks (m ∷ marks))
    by true e = h
    by false e = (e, h)

pub kept-at : (id : ℕ) (name : List ℕ) (f : Mark → Mark) (marks : List Mark) → AreKept marks
    → AreKept (at_id id name f marks)
kept-at id name f [] h = are-kept (f (fresh id name)) [] tt
kept-at id name f (m ∷ marks) h = by (kept-at id name f marks h.1) (m.id == id) (ltb id m.id)
  where
    by : AreKept (at_id id name f marks) → (b d : Bool)
        → AreKept
        (cond b (unless_blank (f m) marks)
        (cond d (unless_blank (f (fresh id name)) (m ∷ marks)) (m ∷ at_id id name f marks)))
    by more true d = are-kept (f m) marks h.1
    by more false true = are-kept (f (fresh id name)) (m ∷ marks) h
    by more false false = (h.0, more)

-- ---- equal looks

look-first : (m : Mark) (marks : List Mark) → look m.id (m ∷ marks) ≡ Some m
look-first m marks =
    let here : (m.id == m.id) ≡ true = grind (arith, nat_tests) in
    ap (λ b. cond b (Some m) (look m.id marks)) here

look-later : (k : ℕ) (m : Mark) (marks : List Mark) → (m.id == k) ≡ false → look k (m ∷ marks) ≡ look k marks
look-later k m marks e = ap (λ b. cond b (Some m) (look k marks)) e

-- lists by rising id in which the same is found at each id are the same
pub same-looks : (xs ys : List Mark) → IsRising xs → IsRising ys → ((k : ℕ) → look k xs ≡ look k ys) → xs ≡ ys
same-looks [] [] p q same = refl
same-looks [] (y ∷ ys) p q same = absurd (none-some y (same y.id ∙ look-first y ys))
same-looks (x ∷ xs) [] p q same = absurd (none-some x (sym (same x.id) ∙ look-first x xs))
same-looks (x ∷ xs) (y ∷ ys) p q same =
    by (λ h. same-looks xs ys p.1 q.1 h) (x.id == y.id) refl (ltb x.id y.id) refl
  where
    rest : x ≡ y → (k : ℕ) → look k xs ≡ look k ys
    rest e k = on (x.id == k) refl
      where
        on : (b : Bool) → (x.id == k) ≡ b → look k xs ≡ look k ys
        on true t =
            let low : k ≤ x.id = grind (arith, nat_tests) in
            let also : k ≤ y.id = subst (λ (z : Mark). k ≤ z.id) e low in
            look-above k x.id xs low p.0 ∙ sym (look-above k y.id ys also q.0)
        on false t =
            let other : (y.id == k) ≡ false = subst (λ (z : Mark). (z.id == k) ≡ false) e t in
            sym (look-later k x xs t) ∙ same k ∙ look-later k y ys other

    by : (((k : ℕ) → look k xs ≡ look k ys) → xs ≡ ys) → (b : Bool) → (x.id == y.id) ≡ b → (d : Bool)
        → ltb x.id y.id ≡ d
        → (x ∷ xs) ≡ (y ∷ ys)
    by more true t d g =
        let back : (y.id == x.id) ≡ true = grind (arith, nat_tests) in
        let e : x ≡ y =
        same_Some x y
        (sym (look-first x xs) ∙ same x.id ∙ ap (λ b. cond b (Some y) (look x.id ys)) back) in
        let tail = more (rest e) in
        cc
    by more false t true g =
        let less : x.id < y.id = grind (arith, nat_tests) in
        absurd (none-some x
        (sym (look-above x.id x.id (y ∷ ys) (omega arith)
        (less, above-more x.id y.id ys (omega arith) q.0)) ∙ sym (same x.id) ∙ look-first x xs))
    by more false t false g =
        let less : y.id < x.id = grind (arith, nat_tests) in
        absurd (none-some y
        (sym (look-above y.id y.id (x ∷ xs) (omega arith)
        (less, above-more y.id x.id xs (omega arith) p.0)) ∙ same y.id ∙ look-first y ys))

-- ---- blank marks

empty-is : {X : Type 0} (xs : List X) → is_empty xs ≡ true → xs ≡ []
empty-is [] e = refl
empty-is (x ∷ xs) e = cc

none-is : {X : Type 0} (o : Option X) → is_none o ≡ true → o ≡ None
none-is None e = refl
none-is (Some x) e = cc

no-wish : (w : Wanted) → not (is_wish w) ≡ true → w ≡ No
no-wish No e = refl
no-wish TopicOnly e = cc
no-wish Newest e = cc
no-wish All e = cc

-- ---- the marks of lives

-- lives by rising id
abbrev pub LivesAbove : ℕ → List Life → Type 0
LivesAbove n [] = Unit {0}
LivesAbove n (l ∷ lives) = (n < l.id) × LivesAbove n lives

abbrev pub AreRising : List Life → Type 0
AreRising [] = Unit {0}
AreRising (l ∷ lives) = LivesAbove l.id lives × AreRising lives

id-mark : (a : Account) (conn : ℕ) (wish : Life → Wanted) (since : Life → ℕ) (l : Life)
    → (mark_of a conn wish since l).id ≡ l.id
id-mark a conn wish since l = by (is_living l) (is_meta l.id)
  where
    by : (living meta : Bool)
        → (cond (not living) (end_mark a l)
        (cond meta (meta_mark a (wish l) l) (topic_mark a conn (wish l) (since l) l))).id ≡ l.id
    by false meta = refl
    by true true = refl
    by true false = refl

-- what is kept of a life
abbrev pub kept_of : (Life → Mark) → Option Life → Option Mark
kept_of f None = None
kept_of f (Some l) = keep_opt (f l)

-- what is kept of lives by a mark of each
abbrev pub kept_all : (Life → Mark) → List Life → List Mark
kept_all f lives = filter (λ m. not (is_blank m)) (map f lives)

above-all : (f : Life → Mark) → ((l : Life) → (f l).id ≡ l.id) → (n : ℕ) (lives : List Life)
    → LivesAbove n lives
    → AllAbove n (kept_all f lives)
above-all f ids n [] h = tt
above-all f ids n (l ∷ lives) h = by (above-all f ids n lives h.1) (not (is_blank (f l)))
  where
    by : AllAbove n (kept_all f lives) → (b : Bool)
        → AllAbove n (cond b (f l ∷ kept_all f lives) (kept_all f lives))
    by more true = (subst (λ k. n < k) (sym (ids l)) h.0, more)
    by more false = more

rising-all : (f : Life → Mark) → ((l : Life) → (f l).id ≡ l.id) → (lives : List Life) → AreRising lives
    → IsRising (kept_all f lives)
rising-all f ids [] h = tt
rising-all f ids (l ∷ lives) h = by (rising-all f ids lives h.1) (not (is_blank (f l)))
  where
    by : IsRising (kept_all f lives) → (b : Bool)
        → IsRising (cond b (f l ∷ kept_all f lives) (kept_all f lives))
    by more true =
        (subst (λ k. AllAbove k (kept_all f lives)) (sym (ids l)) (above-all f ids l.id lives h.0), more)
    by more false = more

all-kept : (f : Life → Mark) (lives : List Life) → AreKept (kept_all f lives)
all-kept f [] = tt
all-kept f (l ∷ lives) = by (all-kept f lives) (is_blank (f l)) refl
  where
    by : AreKept (kept_all f lives) → (b : Bool) → is_blank (f l) ≡ b
        → AreKept (cond (not b) (f l ∷ kept_all f lives) (kept_all f lives))
    by more true e = more
    by more false e = (e, more)

look-all : (f : Life → Mark) → ((l : Life) → (f l).id ≡ l.id) → (k : ℕ) (lives : List Life) → AreRising lives
    → look k (kept_all f lives) ≡ kept_of f (life_at k lives)
look-all f ids k [] h = refl
look-all f ids k (l ∷ lives) h = by (look-all f ids k lives h.1) (is_blank (f l)) refl (l.id == k) refl
  where
    same : (b : Bool) → (l.id == k) ≡ b → ((f l).id == k) ≡ b
    same b e = ap (λ n. n == k) (ids l) ∙ e

    here : (blank : Bool) → is_blank (f l) ≡ blank → cond blank None (Some (f l)) ≡ keep_opt (f l)
    here blank e = sym (ap (λ b. cond b None (Some (f l))) e)

    by : look k (kept_all f lives) ≡ kept_of f (life_at k lives) → (blank : Bool) → is_blank (f l) ≡ blank
        → (b : Bool) → (l.id == k) ≡ b
        → look k (cond (not blank) (f l ∷ kept_all f lives) (kept_all f lives))
        ≡ kept_of f (cond b (Some l) (life_at k lives))
    by more true g true e =
        look-above k l.id (kept_all f lives) (grind (arith, nat_tests)) (above-all f ids l.id lives h.0)
        ∙ here true g
    by more true g false e = more
    by more false g true e =
        ap (λ b. cond b (Some (f l)) (look k (kept_all f lives))) (same true e) ∙ here false g
    by more false g false e = ap (λ b. cond b (Some (f l)) (look k (kept_all f lives))) (same false e) ∙ more

-- what is found at an id is what is kept of the life with this id
pub look-marks_by : (k : ℕ) (a : Account) (conn : ℕ) (wish : Life → Wanted) (since : Life → ℕ)
    (lives : List Life) → AreRising lives
    → look k (marks_by a conn wish since lives) ≡ kept_of (mark_of a conn wish since) (life_at k lives)
look-marks_by k a conn wish since lives h =
    look-all (mark_of a conn wish since) (id-mark a conn wish since) k lives h

pub rising-marks_by : (a : Account) (conn : ℕ) (wish : Life → Wanted) (since : Life → ℕ) (lives : List Life)
    → AreRising lives
    → IsRising (marks_by a conn wish since lives)
rising-marks_by a conn wish since lives h =
    rising-all (mark_of a conn wish since) (id-mark a conn wish since) lives h

pub kept-marks_by : (a : Account) (conn : ℕ) (wish : Life → Wanted) (since : Life → ℕ) (lives : List Life)
    → AreKept (marks_by a conn wish since lives)
kept-marks_by a conn wish since lives = all-kept (mark_of a conn wish since) lives

-- a life of which nothing is kept has a blank mark
pub blank-fresh : (m : Mark) → is_blank m ≡ true → m ≡ fresh m.id m.name
blank-fresh m e =
    let p7 = and_parts _ _ e in
    let p6 = and_parts _ _ p7.0 in
    let p5 = and_parts _ _ p6.0 in
    let p4 = and_parts _ _ p5.0 in
    let p3 = and_parts _ _ p4.0 in
    let p2 = and_parts _ _ p3.0 in
    let p1 = and_parts _ _ p2.0 in
    let e0 : m.is_announced ≡ false = not-true m.is_announced p1.0 in
    let e1 : m.over ≡ None = none-is m.over p1.1 in
    let e2 : m.publishes ≡ [] = empty-is m.publishes p2.1 in
    let e3 : m.settings ≡ [] = empty-is m.settings p3.1 in
    let e4 : m.next ≡ 0 = zero-is m.next p4.1 in
    let e5 : m.wish ≡ No = no-wish m.wish p5.1 in
    let e6 : m.values ≡ [] = empty-is m.values p6.1 in
    let e7 : m.newest ≡ None = none-is m.newest p7.1 in
    same m.is_announced m.over m.publishes m.settings m.next m.wish m.values m.newest e0 e1 e2 e3 e4 e5 e6 e7
  where
    not-true : (b : Bool) → not b ≡ true → b ≡ false
    not-true true h = cc
    not-true false h = refl

    zero-is : (n : ℕ) → (n == 0) ≡ true → n ≡ 0
    zero-is n h = grind (arith, nat_tests)

    same : (b : Bool) (over : Option ℕ) (ps : List Publish) (ss : List marked.Setting) (n : ℕ) (w : Wanted)
        (vs : List Placed) (newest : Option ℕ)
        → b ≡ false → over ≡ None → ps ≡ [] → ss ≡ [] → n ≡ 0 → w ≡ No → vs ≡ [] → newest ≡ None
        → record m {
          is_announced = b;
          over = over;
          publishes = ps;
          settings = ss;
          next = n;
          wish = w;
          values = vs;
          newest = newest;
        }
        ≡ fresh m.id m.name
    same b over ps ss n w vs newest e0 e1 e2 e3 e4 e5 e6 e7 = cc
