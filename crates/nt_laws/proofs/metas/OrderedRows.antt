-- Of rows that are put in order those that pass a test are put in order too.
use Rattle.std.proofs.Common.{◌≡◌, ℤ, Bool, true, false, cond, List, [], ◌∷◌, filter, refl, sym, ◌∙◌, ap, arith, int_lt}
use Rattle.std.specs.List.{AllByRecursion}
use Rattle.std.proofs.lemmas.Int.{ints}
use Rattle.std.proofs.lemmas.Bool.Decides.{nat_tests}
use Rattle.nt_rules.specs.declared.roster.PubRow.{PubRow}
use Rattle.nt_rules.specs.meta.Order.{insert_after, insert_all, pub_below}
use Rattle.nt_rules.specs.meta.Rosters.{Pairwise}
use Rattle.nt_laws.proofs.metas.RosterOrder.{each-inserted}
use Rattle.nt_laws.proofs.topics.ItemFacts.{each-more, each-filter}

lt-other : (a b : ℤ) → int_lt a b ≡ true → int_lt b a ≡ false
lt-other a b e = grind (arith, ints, nat_tests)

-- where c isn't below b, which is above a
lt-below : (a b c : ℤ) → int_lt a b ≡ true → int_lt c b ≡ false → int_lt a c ≡ true
lt-below a b c e f = grind (arith, ints, nat_tests)

lt-above : (a b c : ℤ) → int_lt a b ≡ true → int_lt c b ≡ false → int_lt c a ≡ false
lt-above a b c e f = grind (arith, ints, nat_tests)

-- none is below one before it
abbrev AreInOrder : List PubRow → Type 0
AreInOrder rows = Pairwise (λ (a b : PubRow). pub_below b a ≡ false) rows

order-inserted : (r : PubRow) (xs : List PubRow) → AreInOrder xs → AreInOrder (insert_after pub_below r xs)
order-inserted r [] h = (tt, tt)
order-inserted r (x ∷ xs) h = by (pub_below r x) refl (order-inserted r xs h.1)
  where
    by : (b : Bool) → pub_below r x ≡ b → AreInOrder (insert_after pub_below r xs)
        → AreInOrder (cond b (r ∷ x ∷ xs) (x ∷ insert_after pub_below r xs))
    by true e more = (
      (
        lt-other r.uid x.uid e,
        each-more (λ (y : PubRow). pub_below y x ≡ false) (λ (y : PubRow). pub_below y r ≡ false)
            (λ y k. lt-above r.uid x.uid y.uid e k) xs h.0,
      ),
      h,
    )
    by false e more = (each-inserted (λ (y : PubRow). pub_below y x ≡ false) r xs e h.0, more)

-- a row below all others stands first
first-inserted : (r : PubRow) (xs : List PubRow) → AllByRecursion (λ (x : PubRow). pub_below r x ≡ true) xs
    → insert_after pub_below r xs ≡ r ∷ xs
first-inserted r [] h = refl
first-inserted r (x ∷ xs) h = ap (λ b. cond b (r ∷ x ∷ xs) (x ∷ insert_after pub_below r xs)) h.0

module _ (test : PubRow → Bool) where
  filter-inserted : (r : PubRow) (xs : List PubRow) → AreInOrder xs
      → filter test (insert_after pub_below r xs)
      ≡ cond (test r) (insert_after pub_below r (filter test xs)) (filter test xs)
  filter-inserted r [] h = refl
  filter-inserted r (x ∷ xs) h = by (pub_below r x) refl (filter-inserted r xs h.1)
    where
      rest : List PubRow
      rest = filter test xs

      kept : Bool → List PubRow
      kept b = cond b (x ∷ rest) rest

      above : pub_below r x ≡ true → AllByRecursion (λ (y : PubRow). pub_below r y ≡ true) (x ∷ xs)
      above e = (
        e,
        each-more (λ (y : PubRow). pub_below y x ≡ false) (λ (y : PubRow). pub_below r y ≡ true)
            (λ y k. lt-below r.uid x.uid y.uid e k) xs h.0,
      )

      behind : pub_below r x ≡ false → (b d : Bool)
          → filter test (insert_after pub_below r xs) ≡ cond b (insert_after pub_below r rest) rest
          → cond d (x ∷ filter test (insert_after pub_below r xs)) (filter test (insert_after pub_below r xs))
          ≡ cond b (insert_after pub_below r (kept d)) (kept d)
      behind e true true more =
          ap (λ rows. x ∷ rows) more
          ∙ sym (ap (λ b. cond b (r ∷ x ∷ rest) (x ∷ insert_after pub_below r rest)) e)
      behind e false true more = ap (λ rows. x ∷ rows) more
      behind e true false more = more
      behind e false false more = more

      by : (b : Bool) → pub_below r x ≡ b
          → filter test (insert_after pub_below r xs) ≡ cond (test r) (insert_after pub_below r rest) rest
          → filter test (cond b (r ∷ x ∷ xs) (x ∷ insert_after pub_below r xs))
          ≡ cond (test r) (insert_after pub_below r (kept (test x))) (kept (test x))
      by true e more =
          ap (λ rows. cond (test r) rows (kept (test x)))
          (sym (first-inserted r (kept (test x))
          (each-filter (λ (y : PubRow). pub_below r y ≡ true) test (x ∷ xs) (above e))))
      by false e more = behind e (test r) (test x) more

  filter-all : (rows rs : List PubRow) → AreInOrder rows
      → filter test (insert_all pub_below rows rs) ≡ insert_all pub_below (filter test rows) (filter test rs)
  filter-all rows [] h = refl
  filter-all rows (r ∷ rs) h =
      filter-all (insert_after pub_below r rows) rs (order-inserted r rows h)
      ∙ ap (λ z. insert_all pub_below z (filter test rs)) (filter-inserted r rows h) ∙ by (test r)
    where
      by : (b : Bool)
          → insert_all pub_below (cond b (insert_after pub_below r (filter test rows)) (filter test rows))
          (filter test rs)
          ≡ insert_all pub_below (filter test rows) (cond b (r ∷ filter test rs) (filter test rs))
      by true = refl
      by false = refl

  pub filter-ordered : (rows : List PubRow)
      → filter test (insert_all pub_below [] rows) ≡ insert_all pub_below [] (filter test rows)
  filter-ordered rows = filter-all [] rows tt
