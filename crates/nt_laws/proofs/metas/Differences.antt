-- What is different between two lists of meta topics, seen from one id.
use Rattle.std.proofs.Common.{◌≡◌, ◌<◌, ◌≤◌, ◌==◌, ◌++◌, ℕ, Bool, true, false, cond, ltb, List, [], ◌∷◌, Option, Some}
use Rattle.std.proofs.Common.{None, map, filter, refl, sym, ◌∙◌, ap, arith}
use Rattle.std.specs.Prelude.{bytes_eq}
use Rattle.std.specs.List.{find}
use Rattle.std.proofs.lemmas.List.{append-nil}
use Rattle.std.proofs.lemmas.List.Elements.{filter-append}
use Rattle.std.proofs.lemmas.Bool.Decides.{nat_tests}
use Rattle.nt_rules.specs.declared.meta.MetaNow.{MetaNow}
use Rattle.nt_rules.specs.declared.meta.Difference.{Difference}
use Rattle.nt_rules.specs.declared.meta.Difference.TheVariants.{Began, Changed, Ended}
use Rattle.nt_rules.specs.history.State.{difference_of, differences_from, differences}

-- ---- meta topics by rising id

-- the meta topic at an id
abbrev pub meta_of : ℕ → List MetaNow → Option MetaNow
meta_of k ms = find (λ m. m.id == k) ms

-- all ids are above this one
abbrev pub MetasAbove : ℕ → List MetaNow → Type 0
MetasAbove n [] = Unit {0}
MetasAbove n (m ∷ ms) = (n < m.id) × MetasAbove n ms

-- by rising id
abbrev pub MetasRise : List MetaNow → Type 0
MetasRise [] = Unit {0}
MetasRise (m ∷ ms) = MetasAbove m.id ms × MetasRise ms

-- below the first id nothing is found
pub meta-above : (k n : ℕ) (ms : List MetaNow) → k ≤ n → MetasAbove n ms → meta_of k ms ≡ None
meta-above k n [] le h = refl
meta-above k n (m ∷ ms) le h =
    let less = h.0 in
    let other : (m.id == k) ≡ false = grind (arith, nat_tests) in
    ap (λ b. cond b (Some m) (meta_of k ms)) other ∙ meta-above k n ms le h.1

-- ---- differences

-- the id of the meta topic of a difference
abbrev pub differs_at : Difference → ℕ
differs_at (Began m) = m.id
differs_at (Changed m) = m.id
differs_at (Ended id) = id

-- what is different between what was found at an id and what is found there
abbrev pub difference_between : Option MetaNow → Option MetaNow → List Difference
difference_between None None = []
difference_between None (Some m) = Began m ∷ []
difference_between (Some m) None = Ended m.id ∷ []
difference_between (Some m) (Some k) = difference_of m k

-- the differences at an id
abbrev pub differences_at : ℕ → List Difference → List Difference
differences_at k ds = filter (λ d. differs_at d == k) ds

at-append : (k : ℕ) (xs ys : List Difference)
    → differences_at k (xs ++ ys) ≡ differences_at k xs ++ differences_at k ys
at-append k xs ys = filter-append (λ d. differs_at d == k) xs ys

-- what is different between two is at the id of the second
pair-at : (k : ℕ) (m x : MetaNow) (b : Bool) → (x.id == k) ≡ b
    → differences_at k (difference_of m x) ≡ cond b (difference_of m x) []
pair-at k m x b e = by (bytes_eq m.bytes x.bytes) b e
  where
    by : (same b : Bool) → (x.id == k) ≡ b
        → differences_at k (cond same [] (Changed x ∷ [])) ≡ cond b (cond same [] (Changed x ∷ [])) []
    by true true e = refl
    by true false e = refl
    by false b e = ap (λ c. cond c (Changed x ∷ []) []) e ∙ one b
      where
        one : (b : Bool) → cond b (Changed x ∷ []) [] ≡ cond b (Changed x ∷ []) []
        one b = refl

-- where nothing was before, all that there is began
all-began : (k : ℕ) (after : List MetaNow) → MetasRise after
    → differences_at k (map Began after) ≡ difference_between None (meta_of k after)
all-began k [] rise = refl
all-began k (x ∷ after) rise = by (λ h. all-began k after h) (x.id == k) refl
  where
    by : (MetasRise after → differences_at k (map Began after) ≡ difference_between None (meta_of k after))
        → (b : Bool) → (x.id == k) ≡ b
        → cond b (Began x ∷ differences_at k (map Began after)) (differences_at k (map Began after))
        ≡ difference_between None (cond b (Some x) (meta_of k after))
    by more true e =
        let le : k ≤ x.id = grind (arith, nat_tests) in
        ap (λ ds. Began x ∷ ds) (more rise.1
        ∙ ap (λ o. difference_between None o) (meta-above k x.id after le rise.0))
    by more false e = more rise.1

-- the differences at an id are what is different between what was and what is found there: at most one
pub differences-at : (k : ℕ) (before after : List MetaNow) → MetasRise before → MetasRise after
    → differences_at k (differences before after) ≡ difference_between (meta_of k before) (meta_of k after)
differences-at k [] after rise risen = all-began k after risen
differences-at k (m ∷ before) after rise risen =
    from (λ after risen. differences-at k before after rise.1 risen) after risen
  where
    Here : List MetaNow → Type 0
    Here after = differences_at k (differences before after)
        ≡ difference_between (meta_of k before) (meta_of k after)

    from : ((after : List MetaNow) → MetasRise after → Here after) → (after : List MetaNow) → MetasRise after
        → differences_at k (differences_from (λ after. differences before after) m after)
        ≡ difference_between (meta_of k (m ∷ before)) (meta_of k after)
    from more [] risen = by (m.id == k) refl
      where
        by : (b : Bool) → (m.id == k) ≡ b
            → cond b (Ended m.id ∷ differences_at k (differences before []))
            (differences_at k (differences before []))
            ≡ difference_between (cond b (Some m) (meta_of k before)) None
        by true e =
            let le : k ≤ m.id = grind (arith, nat_tests) in
            ap (λ ds. Ended m.id ∷ ds)
            (more [] tt ∙ ap (λ o. difference_between o None) (meta-above k m.id before le rise.0))
        by false e = more [] tt
    from more (x ∷ after) risen = by (from more after risen.1) (m.id == x.id) refl (ltb m.id x.id) refl
        (m.id == k) refl (x.id == k) refl
      where
        by : differences_at k (differences_from (λ after. differences before after) m after)
            ≡ difference_between (meta_of k (m ∷ before)) (meta_of k after)
            → (same : Bool) → (m.id == x.id) ≡ same → (less : Bool) → ltb m.id x.id ≡ less
            → (b : Bool) → (m.id == k) ≡ b → (c : Bool) → (x.id == k) ≡ c
            → differences_at k (cond same (difference_of m x ++ differences before after)
            (cond less (Ended m.id ∷ differences before (x ∷ after))
            (Began x ∷ differences_from (λ after. differences before after) m after)))
            ≡ difference_between (cond b (Some m) (meta_of k before)) (cond c (Some x) (meta_of k after))
        by inner true s less l true e true f =
            let le : k ≤ m.id = grind (arith, nat_tests) in
            let lx : k ≤ x.id = grind (arith, nat_tests) in
            let gone : differences_at k (differences before after) ≡ [] =
            more after risen.1
            ∙ ap (λ o. difference_between o (meta_of k after)) (meta-above k m.id before le rise.0)
            ∙ ap (λ o. difference_between None o) (meta-above k x.id after lx risen.0)
            in
            at-append k (difference_of m x) (differences before after)
            ∙ ap (λ ds. ds ++ differences_at k (differences before after)) (pair-at k m x true f)
            ∙ ap (λ ds. difference_of m x ++ ds) gone ∙ append-nil (difference_of m x)
        by inner true s less l true e false f = absurd (grind (arith, nat_tests))
        by inner true s less l false e true f = absurd (grind (arith, nat_tests))
        by inner true s less l false e false f =
            at-append k (difference_of m x) (differences before after)
            ∙ ap (λ ds. ds ++ differences_at k (differences before after)) (pair-at k m x false f)
            ∙ more after risen.1
        by inner false s true l true e true f = absurd (grind (arith, nat_tests))
        by inner false s true l true e false f =
            let le : k ≤ m.id = grind (arith, nat_tests) in
            let lx : k ≤ x.id = grind (arith, nat_tests) in
            ap (λ b. cond b (Ended m.id ∷ differences_at k (differences before (x ∷ after)))
            (differences_at k (differences before (x ∷ after)))) e
            ∙ ap (λ ds. Ended m.id ∷ ds) (more (x ∷ after) risen
            ∙ ap (λ o. difference_between o (meta_of k (x ∷ after))) (meta-above k m.id before le rise.0)
            ∙ ap (λ b. difference_between None (cond b (Some x) (meta_of k after))) f
            ∙ ap (λ o. difference_between None o) (meta-above k x.id after lx risen.0))
            ∙ ap (λ o. difference_between (Some m) o) (sym (meta-above k x.id after lx risen.0))
        by inner false s true l false e c f =
            ap (λ b. cond b (Ended m.id ∷ differences_at k (differences before (x ∷ after)))
            (differences_at k (differences before (x ∷ after)))) e
            ∙ more (x ∷ after) risen
            ∙ ap (λ b. difference_between (meta_of k before) (cond b (Some x) (meta_of k after))) f
        by inner false s false l true e true f = absurd (grind (arith, nat_tests))
        by inner false s false l false e true f =
            let lm : k ≤ m.id = grind (arith, nat_tests) in
            let lx : k ≤ x.id = grind (arith, nat_tests) in
            ap (λ b. cond b (Began x ∷ differences_at k
            (differences_from (λ after. differences before after) m after))
            (differences_at k (differences_from (λ after. differences before after) m after))) f
            ∙ ap (λ ds. Began x ∷ ds) (inner
            ∙ ap (λ b. difference_between (cond b (Some m) (meta_of k before)) (meta_of k after)) e
            ∙ ap (λ o. difference_between o (meta_of k after)) (meta-above k m.id before lm rise.0)
            ∙ ap (λ o. difference_between None o) (meta-above k x.id after lx risen.0))
            ∙ ap (λ o. difference_between o (Some x)) (sym (meta-above k m.id before lm rise.0))
        by inner false s false l b e false f =
            ap (λ c. cond c (Began x ∷ differences_at k
            (differences_from (λ after. differences before after) m after))
            (differences_at k (differences_from (λ after. differences before after) m after))) f
            ∙ inner
            ∙ ap (λ b. difference_between (cond b (Some m) (meta_of k before)) (meta_of k after)) e
