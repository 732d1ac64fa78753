-- A client that is handed a front of what it is owed.
use Rattle.std.proofs.Common.{◌≡◌, ℕ, pos, zero, suc, is_some, is_none, ◌||◌, ◌&&◌, ◌==◌, Bool, true, false, cond, List}
use Rattle.std.proofs.Common.{[], ◌∷◌, ◌++◌, map, filter, take, length, Option, Some, None, refl, sym, ap, subst, ◌∙◌}
use Rattle.std.proofs.Common.{◌⊎◌, inl, inr, append-nil}
use Rattle.std.specs.List.{list_any, AllByRecursion}
use Rattle.std.specs.Ordering.{int_eq}
use Rattle.std.proofs.lemmas.Bool.{eq-eqb, ne_eqb, eqb-false, or_left}
use Rattle.std.proofs.lemmas.List.{map-append}
use Rattle.std.proofs.lemmas.List.Folds.{list_any-append}
use Rattle.std.proofs.lemmas.List.Elements.{filter-append}
use Rattle.nt_subs.specs.declared.wish.Wanted.{Wanted}
use Rattle.nt_rules.specs.declared.held.Held.{Held}
use Rattle.nt_rules.specs.outbox.Keys.{Kind, Of_end, Of_publish, Of_setting, Of_topic, Of_value, Key, is_key, is_in}
use Rattle.nt_rules.specs.outbox.Keys.{end_key, announces, next_value, is_kind}
use Rattle.nt_rules.specs.outbox.Marks.{option_items}
use Rattle.nt_rules.specs.history.Lives.{Life, is_living}
use Rattle.nt_rules.specs.history.Owed.{Account, is_announced, owed_end, owed_end_at, end_keys, keys_owed, life_at}
use Rattle.nt_rules.specs.telling.Told.{told_from}
use Rattle.nt_topics.specs.Trees.{IsOrdered}
use Rattle.nt_telling.proofs.Lists.{take-parts, take-nil}
use Rattle.nt_telling.proofs.Lists.{take-all, filter-take, found-has}
use Rattle.nt_telling.proofs.LifeKeys.{is_of, IdsRise, life-id, of_life, if_living, living_keys, ends_owed, rest_owed}
use Rattle.nt_telling.proofs.LifeKeys.{owed-parts, own-ends, own-rest, OfLiving, rest-living, IsEnd, ends-end}
use Rattle.nt_telling.proofs.Holding.{look, RiseById, Above, id-is, is-id, rise-told, told-append, look-above}
use Rattle.nt_telling.proofs.Messages.{message_of, FoundAs, runs, runs_of, IsFound, Reach, reach-append, run-keys}
use Rattle.nt_telling.proofs.Messages.{EachHeld, OfLife, OfLivingLife, lives-many, AreNamedOnce, living-reach}
use Rattle.nt_telling.proofs.Messages.{ends-reach, living-many}
use Rattle.nt_telling.proofs.Living.{State, noted, notes, FineAt, FineAll, fine-take, ShownOk, IsBounded, own-run}
use Rattle.nt_telling.proofs.Living.{bounded-run}
use Rattle.nt_telling.proofs.Given.{own-are, any-own, state_of, with_given, state-given}
use Rattle.nt_telling.proofs.Owing.{HasPlaces, own-fine}
use Rattle.nt_laws.proofs.topics.ItemFacts.{each-append, each-both, each-filter, each-more, each-take}

-- ---- what stands for each life

-- of a life that goes on its state is what is held; one that is over isn't held, or its end is owed
abbrev pub LifeOk : Option ℕ → Life → Account → Option Held → Type 0
LifeOk None l a s = IsOrdered l.props × ShownOk l (state_of a l) s × IsBounded l (next_value a.given l.id)
LifeOk (Some place) l a s = (s ≡ None) ⊎ ((is_announced a l.id ≡ true) × (is_in a.given (end_key l.id place) ≡ false))

pub record Stands (lives : List Life) (a : Account) (hs : List Held) : Type 0 where
  pub rise : RiseById hs
  pub of_lives : EachHeld (OfLife lives) hs
  pub each : (k : ℕ) (l : Life) → life_at k lives ≡ Some l → LifeOk l.over l a (look (pos k) hs)

-- what is known of the lives
pub record AreGood (lives : List Life) : Type 0 where
  pub ids : IdsRise 0 lives
  pub once : AreNamedOnce lives
  pub places : AllByRecursion HasPlaces lives

-- ---- lists, by the items of each id

each-by-life : (P : Key → Type 0) (xs : List Key) → ((k : ℕ) → AllByRecursion P (filter (is_of k) xs))
    → AllByRecursion P xs
each-by-life P [] h = tt
each-by-life P (x ∷ xs) h = (first (h x.topic), each-by-life P xs (λ k. rest k (h k)))
  where
    first : AllByRecursion P (filter (is_of x.topic) (x ∷ xs)) → P x
    first g =
        (subst (λ b. AllByRecursion P (cond b (x ∷ filter (is_of x.topic) xs) (filter (is_of x.topic) xs)))
        (eq-eqb x.topic x.topic refl) g).0

    rest : (k : ℕ) → AllByRecursion P (filter (is_of k) (x ∷ xs)) → AllByRecursion P (filter (is_of k) xs)
    rest k g = by (x.topic == k) g
      where
        by : (b : Bool) → AllByRecursion P (cond b (x ∷ filter (is_of k) xs) (filter (is_of k) xs))
            → AllByRecursion P (filter (is_of k) xs)
        by true g = g.1
        by false g = g

fine-found : (l : Life) (m : State) (xs : List Key) → FineAll l m xs → AllByRecursion (λ x. FoundAs x.kind l x.place) xs
fine-found l m [] f = tt
fine-found l m (x ∷ xs) f = (at x.kind f.0, fine-found l (noted m x) xs f.1)
  where
    at : (kind : Kind) → FineAt kind l x.place m → FoundAs kind l x.place
    at Of_end f = absurd f
    at Of_publish f = tt
    at Of_setting f = ap is_some f.4
    at Of_topic f = tt
    at Of_value f = ap is_some f.1

module _ (lives : List Life) (good : AreGood lives) (a : Account) (conn : ℕ) (wish : Life → Wanted)
    (since : Life → ℕ) where
  abbrev ends : List Key
  ends = ends_owed a lives

  abbrev rest : List Key
  rest = rest_owed a conn wish since lives

  placed : (k : ℕ) (l : Life) → life_at k lives ≡ Some l → HasPlaces l
  placed k l e = found-has HasPlaces (λ m. m.id == k) lives l good.places e

  -- the keys of a life among those
  ends-of : (k : ℕ) (l : Life) → life_at k lives ≡ Some l → filter (is_of k) ends ≡ end_keys a l
  ends-of k l e = own-ends a k 0 lives good.ids ∙ ap (of_life (end_keys a)) e

  rest-of : (k : ℕ) (l : Life) → life_at k lives ≡ Some l
      → filter (is_of k) rest ≡ cond (is_living l) (living_keys a conn (wish l) (since l) l) []
  rest-of k l e = own-rest a conn wish since k 0 lives good.ids
      ∙ ap (of_life (if_living (λ l. living_keys a conn (wish l) (since l) l))) e

  -- ---- each key is found

  found-of : (k : ℕ) (xs : List Key) (l : Life) → life_at k lives ≡ Some l
      → AllByRecursion (λ x. FoundAs x.kind l x.place) (filter (is_of k) xs)
      → AllByRecursion (IsFound lives) (filter (is_of k) xs)
  found-of k xs l e f =
      each-both (λ x. x.topic ≡ k) (λ x. FoundAs x.kind l x.place) (IsFound lives)
      (λ x t g. (l, ap (λ i. life_at i lives) t ∙ e, g)) (filter (is_of k) xs) (own-are k xs) f

  ends-found : AllByRecursion (IsFound lives) ends
  ends-found = each-by-life (IsFound lives) ends (λ k. by k (life_at k lives) refl)
    where
      by : (k : ℕ) (o : Option Life) → life_at k lives ≡ o → AllByRecursion (IsFound lives) (filter (is_of k) ends)
      by k None e =
          subst (AllByRecursion (IsFound lives)) (sym (own-ends a k 0 lives good.ids ∙ ap (of_life (end_keys a)) e)) tt
      by k (Some l) e =
          found-of k ends l e
          (each-more IsEnd (λ x. FoundAs x.kind l x.place) (λ x h. subst (λ kind. FoundAs kind l x.place) (sym h) tt) _
          (each-filter IsEnd (is_of k) ends (ends-end a lives)))

  rest-found : AllByRecursion (IsFound lives) rest
  rest-found = each-by-life (IsFound lives) rest (λ k. by k (life_at k lives) refl)
    where
      by : (k : ℕ) (o : Option Life) → life_at k lives ≡ o → AllByRecursion (IsFound lives) (filter (is_of k) rest)
      by k None e =
          subst (AllByRecursion (IsFound lives))
          (sym (own-rest a conn wish since k 0 lives good.ids
          ∙ ap (of_life (if_living (λ l. living_keys a conn (wish l) (since l) l))) e)) tt
      by k (Some l) e =
          found-of k rest l e
          (subst (AllByRecursion (λ x. FoundAs x.kind l x.place)) (sym (rest-of k l e)) (alive (is_living l)))
        where
          alive : (b : Bool) → AllByRecursion (λ x. FoundAs x.kind l x.place)
              (cond b (living_keys a conn (wish l) (since l) l) [])
          alive true = fine-found l (state_of a l) _ (own-fine a conn (wish l) (since l) l (placed k l e))
          alive false = tt

  rest-alive : AllByRecursion (λ x. (l : Life) → life_at x.topic lives ≡ Some l → is_living l ≡ true) rest
  rest-alive =
      each-more (OfLiving lives) (λ x. (l : Life) → life_at x.topic lives ≡ Some l → is_living l ≡ true)
      (λ x h l e. let both : Some h.0 ≡ Some l = sym h.1
      ∙ e in let same : h.0 ≡ l = cc in subst (λ (m : Life). is_living m ≡ true) same h.2)
      rest (rest-living a conn wish since 0 lives good.ids)

  -- ---- one life, by its keys

  -- the end of a life is owed, or isn't held
  over-run : (moment place m : ℕ) (l : Life) (s : Option Held) → l.over ≡ Some place → LifeOk (Some place) l a s
      → runs moment l (end_keys a l) s ≡ None
  over-run moment place m l s over (inl e) = by (owed_end a l)
    where
      by : (o : Option ℕ) → runs moment l (map (end_key l.id) (option_items o)) s ≡ None
      by None = e
      by (Some p) = refl
  over-run moment place m l s over (inr h) =
      ap (λ o. runs moment l (map (end_key l.id) (option_items o)) s) owes
    where
      owes : owed_end a l ≡ Some place
      owes =
          ap (λ b. cond b (owed_end_at a l.id l.over) None) h.0 ∙ ap (owed_end_at a l.id) over
          ∙ ap (λ b. cond b None (Some place)) h.1

  -- a life that goes on has no end
  no-end : (l : Life) → l.over ≡ None → end_keys a l ≡ []
  no-end l over = ap (λ o. map (end_key l.id) (option_items (cond (is_announced a l.id) (owed_end_at a l.id o) None)))
      over ∙ by (is_announced a l.id)
    where
      by : (b : Bool) → map (end_key l.id) (option_items (cond b None None)) ≡ []
      by true = refl
      by false = refl

  living-is : (l : Life) → l.over ≡ None → is_living l ≡ true
  living-is l over = ap is_none over

  over-is : (l : Life) (place : ℕ) → l.over ≡ Some place → is_living l ≡ false
  over-is l place over = ap is_none over

  -- all the keys of a life that goes on
  pub all-keys : (k : ℕ) (l : Life) → life_at k lives ≡ Some l → l.over ≡ None
      → filter (is_of k) (ends_owed a lives ++ take (length (rest_owed a conn wish since lives))
      (rest_owed a conn wish since lives))
      ≡ living_keys a conn (wish l) (since l) l
  all-keys k l e over =
      ap (λ ks. filter (is_of k) (ends_owed a lives ++ ks)) (take-all (rest_owed a conn wish since lives))
      ∙ filter-append (is_of k) (ends_owed a lives) (rest_owed a conn wish since lives)
      ∙ (λ i. (ends-of k l e ∙ no-end l over) i
      ++ (rest-of k l e ∙ ap (λ b. cond b (living_keys a conn (wish l) (since l) l) []) (living-is l over)) i)

  -- after its own keys, a front of what it is owed
  living-after : (moment k j : ℕ) (ks : List Key) (l : Life) (s : Option Held) → life_at k lives ≡ Some l
      → filter (is_of k) ks ≡ take j (living_keys a conn (wish l) (since l) l) → LifeOk None l a s
      → LifeOk None l (with_given a ks) (runs moment l (filter (is_of k) ks) s)
  living-after moment k j ks l s e own h = (
    h.0,
    subst (λ m. ShownOk l m (runs moment l (filter (is_of k) ks) s)) same shown,
    subst
        (λ (m : State). IsBounded l m.next) same bounded,
  )
    where
      id : l.id ≡ k
      id = life-id k lives l e

      fine : FineAll l (state_of a l) (filter (is_of k) ks)
      fine =
          subst (FineAll l (state_of a l)) (sym own)
          (fine-take l (state_of a l) j _ (own-fine a conn (wish l) (since l) l (placed k l e)))

      same : notes (state_of a l) (filter (is_of k) ks) ≡ state_of (with_given a ks) l
      same =
          ap (λ i. notes (state_of a l) (filter (is_of i) ks)) (sym id)
          ∙ state-given a l ks (placed k l e).settings_rise
          (subst (λ i. FineAll l (state_of a l) (filter (is_of i) ks)) (sym id) fine)

      shown : ShownOk l (notes (state_of a l) (filter (is_of k) ks)) (runs moment l (filter (is_of k) ks) s)
      shown = own-run moment l (state_of a l) (filter (is_of k) ks) s h.0 fine h.1

      bounded : IsBounded l (notes (state_of a l) (filter (is_of k) ks)).next
      bounded = bounded-run l (state_of a l) (filter (is_of k) ks) fine h.2

  -- ---- ends alone

  end-off : (id place : ℕ) (x : Key) → (x.topic == id) ≡ false → is_key (end_key id place) x ≡ false
  end-off id place x e = by (is_kind Of_end x.kind)
    where
      other : (id == x.topic) ≡ false
      other = ne_eqb id x.topic (λ s. eqb-false x.topic id e (sym s))

      by : (k : Bool) → (k && (id == x.topic) && (place == x.place)) ≡ false
      by false = refl
      by true = ap (λ b. b && (place == x.place)) other

  over-front : (moment k j place : ℕ) (ks : List Key) (l : Life) (s : Option Held) → life_at k lives ≡ Some l
      → l.over ≡ Some place
      → filter (is_of k) ks ≡ take j (end_keys a l) → LifeOk (Some place) l a s
      → LifeOk (Some place) l (with_given a ks) (runs moment l (filter (is_of k) ks) s)
  over-front moment k j place ks l s e over own h =
      subst (λ xs. LifeOk (Some place) l (with_given a ks) (runs moment l xs s)) (sym own) (by j (owed_end a l) own h)
    where
      id : l.id ≡ k
      id = life-id k lives l e

      nothing : filter (is_of k) ks ≡ [] → LifeOk (Some place) l a s → LifeOk (Some place) l (with_given a ks) s
      nothing none (inl x) = inl x
      nothing none (inr x) = inr (
        list_any-append (announces l.id) a.given ks ∙ or_left (is_announced a l.id) (list_any (announces l.id) ks) x.0,
        list_any-append (is_key (end_key l.id place)) a.given ks
            ∙ ap (λ b. b || list_any (is_key (end_key l.id place)) ks) x.1
            ∙ any-own l.id (is_key (end_key l.id place)) (end-off l.id place) ks
            ∙ ap (λ i. list_any (is_key (end_key l.id place)) (filter (is_of i) ks)) id
            ∙ ap (list_any (is_key (end_key l.id place))) none,
      )

      by : (j : ℕ) (o : Option ℕ) → filter (is_of k) ks ≡ take j (map (end_key l.id) (option_items o))
          → LifeOk (Some place) l a s
          → LifeOk (Some place) l (with_given a ks) (runs moment l (take j (map (end_key l.id) (option_items o))) s)
      by zero o f h = nothing f h
      by (suc j) None f h = nothing f h
      by (suc j) (Some p) f h =
          inl (ap (λ xs. runs moment l (end_key l.id p ∷ xs) s) (take-nil j))

  module _ (moment : ℕ) (hs : List Held) (st : Stands lives a hs) where
    abbrev told : List Key → List Held
    told ks = told_from hs (map (message_of lives moment conn) ks)

    look-told : (ks : List Key) → AllByRecursion (IsFound lives) ks → Reach lives moment conn hs ks
        → (k : ℕ) (l : Life) → life_at k lives ≡ Some l
        → look (pos k) (told ks) ≡ runs moment l (filter (is_of k) ks) (look (pos k) hs)
    look-told ks f r k l e =
        run-keys lives moment conn k hs ks st.rise f r
        ∙ ap (λ o. runs_of moment o (filter (is_of k) ks) (look (pos k) hs)) e

    -- a front of the ends
    ends-front : (n : ℕ) → Stands lives (with_given a (take n ends)) (told (take n ends))
    ends-front n = record {
      rise = rise-told hs (map (message_of lives moment conn) ks) st.rise;
      of_lives = lives-many lives moment conn hs ks found st.of_lives;
      each = λ k l e. subst (LifeOk l.over l (with_given a ks)) (sym (look-told ks found reach k l e))
          (by k l e l.over refl (st.each k l e));
    }
      where
        ks : List Key
        ks = take n ends

        found : AllByRecursion (IsFound lives) ks
        found = each-take (IsFound lives) n ends ends-found

        reach : Reach lives moment conn hs ks
        reach = ends-reach lives moment conn hs ks (each-take IsEnd n ends (ends-end a lives))

        by : (k : ℕ) (l : Life) → life_at k lives ≡ Some l → (o : Option ℕ) → l.over ≡ o
            → LifeOk o l a (look (pos k) hs)
            → LifeOk o l (with_given a ks) (runs moment l (filter (is_of k) ks) (look (pos k) hs))
        by k l e None over h =
            let t = filter-take (is_of k) n ends in
            living-after moment k 0 ks l (look (pos k) hs) e
            (t.1 ∙ ap (take t.0) (ends-of k l e ∙ no-end l over) ∙ take-nil t.0) h
        by k l e (Some place) over h =
            let t = filter-take (is_of k) n ends in
            over-front moment k t.0 place ks l (look (pos k) hs) e over (t.1 ∙ ap (take t.0) (ends-of k l e)) h

    -- ---- all ends, and a front of the rest

    abbrev after-ends : List Held
    after-ends = told ends

    ends-told : (k : ℕ) (l : Life) → life_at k lives ≡ Some l
        → look (pos k) after-ends ≡ runs moment l (end_keys a l) (look (pos k) hs)
    ends-told k l e =
        look-told ends ends-found (ends-reach lives moment conn hs ends (ends-end a lives)) k l e
        ∙ ap (λ xs. runs moment l xs (look (pos k) hs)) (ends-of k l e)

    -- what holds of each topic that is looked up holds of each
    each-looked : (P : Held → Type 0) (xs : List Held) → RiseById xs → ((h : Held) → look h.id xs ≡ Some h → P h)
        → AllByRecursion P xs
    each-looked P [] r f = tt
    each-looked P (x ∷ xs) r f = (
      f x (ap (λ b. cond b (Some x) (look x.id xs)) (is-id x.id x.id refl)),
      each-looked P xs r.1 (λ h e. f h (later h e (other h e (int_eq x.id h.id) refl))),
    )
      where
        later : (h : Held) → look h.id xs ≡ Some h → int_eq x.id h.id ≡ false
            → cond (int_eq x.id h.id) (Some x) (look h.id xs) ≡ Some h
        later h e f = ap (λ b. cond b (Some x) (look h.id xs)) f ∙ e

        other : (h : Held) → look h.id xs ≡ Some h → (b : Bool) → int_eq x.id h.id ≡ b → int_eq x.id h.id ≡ false
        other h e false g = g
        other h e true g =
            let same = id-is x.id h.id g in
            let none : look h.id xs ≡ None = look-above h.id xs (subst (λ i. Above i xs) same r.0) in
            absurd (cc)

    -- then each held topic is of a life that goes on
    ends-living : EachHeld (OfLivingLife lives) after-ends
    ends-living =
        each-both (λ h. OfLife lives h.id h.name) (λ h. look h.id after-ends ≡ Some h)
        (λ h. OfLivingLife lives h.id h.name) one after-ends
        (lives-many lives moment conn hs ends ends-found st.of_lives)
        (each-looked (λ h. look h.id after-ends ≡ Some h) after-ends
        (rise-told hs (map (message_of lives moment conn) ends) st.rise) (λ h e. e))
      where
        one : (h : Held) → OfLife lives h.id h.name → look h.id after-ends ≡ Some h → OfLivingLife lives h.id h.name
        one h o e = (o.0, o.1, o.2, o.3, by o.0.over refl (st.each o.0.id o.0 o.3))
          where
            gone : look (pos o.0.id) after-ends ≡ None → ⊥
            gone none = let some = ap (λ i. look i after-ends) (sym o.1) ∙ e in cc

            by : (w : Option ℕ) → o.0.over ≡ w → LifeOk w o.0 a (look (pos o.0.id) hs) → is_living o.0 ≡ true
            by None over k = ap is_none over
            by (Some place) over k =
                absurd (gone (ends-told o.0.id o.0 o.3 ∙ over-run moment place 0 o.0 (look (pos o.0.id) hs) over k))

    module _ (j : ℕ) where
      abbrev all : List Key
      all = ends ++ take j rest

      all-found : AllByRecursion (IsFound lives) all
      all-found = each-append (IsFound lives) ends (take j rest) ends-found
          (each-take (IsFound lives) j rest rest-found)

      all-reach : Reach lives moment conn hs all
      all-reach =
          reach-append lives moment conn hs ends (take j rest) (ends-reach lives moment conn hs ends (ends-end a lives))
          (living-reach lives moment conn after-ends (take j rest) good.once
          (each-take (IsFound lives) j rest rest-found)
          (each-take _ j rest rest-alive) ends-living)

      pub rest-living-after : EachHeld (OfLivingLife lives) (told all)
      rest-living-after =
          subst (EachHeld (OfLivingLife lives))
          (sym (ap (told_from hs) (map-append (message_of lives moment conn) ends (take j rest))
          ∙ told-append hs (map (message_of lives moment conn) ends)
          (map (message_of lives moment conn) (take j rest))))
          (living-many lives moment conn after-ends (take j rest) (each-take (IsFound lives) j rest rest-found)
          (each-take _ j rest rest-alive) ends-living)

      -- the keys of a life among these
      all-of : (k : ℕ) (l : Life) → life_at k lives ≡ Some l
          → (i : ℕ) × (filter (is_of k) all
          ≡ end_keys a l ++ take i (cond (is_living l) (living_keys a conn (wish l) (since l) l) []))
      all-of k l e =
          let t = filter-take (is_of k) j rest in (
            t.0,
            filter-append (is_of k) ends (take j rest)
                ∙ (λ i. ends-of k l e i ++ (t.1 ∙ ap (take t.0) (rest-of k l e)) i),
          )

      pub look-all : (k : ℕ) (l : Life) → life_at k lives ≡ Some l
          → look (pos k) (told all) ≡ runs moment l (filter (is_of k) all) (look (pos k) hs)
      look-all k l e = look-told all all-found all-reach k l e

      pub all-front : Stands lives (with_given a all) (told all)
      all-front = record {
        rise = rise-told hs (map (message_of lives moment conn) all) st.rise;
        of_lives = lives-many lives moment conn hs all all-found st.of_lives;
        each = λ k l e. subst (LifeOk l.over l (with_given a all)) (sym (look-all k l e))
            (by k l e l.over refl (st.each k l e));
      }
        where
          by : (k : ℕ) (l : Life) → life_at k lives ≡ Some l → (o : Option ℕ) → l.over ≡ o
              → LifeOk o l a (look (pos k) hs)
              → LifeOk o l (with_given a all) (runs moment l (filter (is_of k) all) (look (pos k) hs))
          by k l e None over h =
              let t = all-of k l e in
              living-after moment k t.0 all l (look (pos k) hs) e
              (t.1 ∙ ap (λ xs. xs ++ take t.0 (cond (is_living l) (living_keys a conn (wish l) (since l) l) []))
              (no-end l over)
              ∙ ap (λ b. take t.0 (cond b (living_keys a conn (wish l) (since l) l) [])) (living-is l over)) h
          by k l e (Some place) over h =
              let t = all-of k l e in
              inl (ap (λ xs. runs moment l xs (look (pos k) hs))
              (t.1 ∙ ap (λ b. end_keys a l ++ take t.0 (cond b (living_keys a conn (wish l) (since l) l) []))
              (over-is l place over)
              ∙ ap (λ xs. end_keys a l ++ xs) (take-nil t.0) ∙ append-nil (end_keys a l))
              ∙ over-run moment place 0 l (look (pos k) hs) over h)

  -- ---- a front of all that is owed

  pub handed-stands : (moment n : ℕ) (hs : List Held) → Stands lives a hs
      → Stands lives (with_given a (take n (keys_owed a conn wish since lives)))
      (told_from hs (map (message_of lives moment conn) (take n (keys_owed a conn wish since lives))))
  handed-stands moment n hs st =
      subst (λ ks. Stands lives (with_given a ks) (told_from hs (map (message_of lives moment conn) ks)))
      (sym (ap (take n) (owed-parts a conn wish since lives))) (by (take-parts n ends rest))
    where
      by : (take n (ends ++ rest) ≡ take n ends) ⊎ ((j : ℕ) × (take n (ends ++ rest) ≡ ends ++ take j rest))
          → Stands lives (with_given a (take n (ends ++ rest)))
          (told_from hs (map (message_of lives moment conn) (take n (ends ++ rest))))
      by (inl e) =
          subst (λ ks. Stands lives (with_given a ks) (told_from hs (map (message_of lives moment conn) ks))) (sym e)
          (ends-front moment hs st n)
      by (inr e) =
          subst (λ ks. Stands lives (with_given a ks) (told_from hs (map (message_of lives moment conn) ks))) (sym e.1)
          (all-front moment hs st e.0)
