-- What stands for each life goes on standing after an entry.
use Rattle.std.proofs.Common.{◌≡◌, ℕ, ℤ, pos, ◌+◌, ◌≤◌, ◌<◌, ◌&&◌, ◌||◌, ◌==◌, not, is_none, Bool, true, false, cond}
use Rattle.std.proofs.Common.{List, [], ◌∷◌, ◌++◌, map, filter, Option, Some, None, refl, sym, ap, subst, ◌∙◌, ◌⊎◌, inl}
use Rattle.std.proofs.Common.{inr, append-nil, arith}
use Rattle.std.specs.List.{list_any, AllByRecursion}
use Rattle.std.proofs.lemmas.Bool.{true≢false, eq-eqb, ne_eqb, or_parts, and_right}
use Rattle.std.proofs.lemmas.List.Folds.{list_any-append}
use Rattle.std.proofs.lemmas.List.Elements.{filter-append}
use Rattle.serde_json.specs.Data.{Data}
use Rattle.nt_subs.specs.declared.wish.Wanted.{Wanted}
use Rattle.nt_rules.specs.declared.held.Held.{Held}
use Rattle.nt_rules.specs.outbox.Keys.{Of_setting, Key, is_kind, is_in, end_key, publish_key, setting_key, announces}
use Rattle.nt_rules.specs.outbox.Keys.{sets, next_value, in_order}
use Rattle.nt_rules.specs.history.Lives.{Life, Setting, is_living, with_setting}
use Rattle.nt_rules.specs.history.Owed.{Account, is_announced, owed_publishes, owed_settings, reply_keys, topic_keys}
use Rattle.nt_rules.specs.history.Owed.{value_keys, newest_keys, keys_owed, life_at, settings_after}
use Rattle.nt_laws.proofs.topics.Turns.{setting-id, setting-name, setting-over}
use Rattle.nt_topics.specs.Trees.{IsOrdered}
use Rattle.nt_telling.proofs.LifeKeys.{is_of, life-id, living_keys, ends_owed, rest_owed, owed-parts, own-rest, of_life}
use Rattle.nt_telling.proofs.LifeKeys.{if_living}
use Rattle.std.specs.Ordering.{int_eq}
use Rattle.nt_telling.proofs.Holding.{look, look-id, pos-same}
use Rattle.nt_telling.proofs.Messages.{EachHeld, OfLife}
use Rattle.nt_telling.proofs.Living.{State, ShownBy, ShownOk, IsBounded, updates}
use Rattle.nt_telling.proofs.Given.{state_of, any-own, filter-same}
use Rattle.nt_telling.proofs.Growing.{Stays, shown-stays, shown-born, shown-set, shown-unset, bounded-zero, bounded-set}
use Rattle.nt_telling.proofs.Growing.{ordered-set}
use Rattle.nt_telling.proofs.Handing.{LifeOk, Stands, AreGood}
use Rattle.nt_telling.proofs.Entries.{CameTo, IsBorn}
use Rattle.nt_laws.proofs.topics.ItemFacts.{each-more}
use Rattle.nt_telling.proofs.InOrder.{any-in_order}

-- ---- changes of properties that are to come are owed

none-left : (p : Key → Bool) (xs ys : List Key) → list_any p (xs ++ ys) ≡ false → list_any p xs ≡ false
none-left p xs ys e = (or_parts (list_any p xs) (list_any p ys) (sym (list_any-append p xs ys) ∙ e)).0

none-right : (p : Key → Bool) (xs ys : List Key) → list_any p (xs ++ ys) ≡ false → list_any p ys ≡ false
none-right p xs ys e = (or_parts (list_any p xs) (list_any p ys) (sym (list_any-append p xs ys) ∙ e)).1

sets-off : (id : ℕ) (x : Key) → (x.topic == id) ≡ false → sets id x ≡ false
sets-off id x e = and_right (is_kind x.kind Of_setting) (x.topic == id) e

pub none-pending : (lives : List Life) (good : AreGood lives) (a : Account) (conn : ℕ) (wish : Life → Wanted)
    (since : Life → ℕ) (k : ℕ) (l : Life)
    → life_at k lives ≡ Some l → is_living l ≡ true → list_any (sets l.id) (keys_owed a conn wish since lives) ≡ false
    → owed_settings a l ≡ []
none-pending lives good a conn wish since k l e living none = by (owed_settings a l) mine
  where
    id : l.id ≡ k
    id = life-id k lives l e

    own : filter (is_of l.id) (rest_owed a conn wish since lives) ≡ living_keys a conn (wish l) (since l) l
    own =
        ap (λ i. filter (is_of i) (rest_owed a conn wish since lives)) id
        ∙ own-rest a conn wish since k 0 lives good.ids
        ∙ ap (of_life (if_living (λ m. living_keys a conn (wish m) (since m) m))) e
        ∙ ap (λ b. cond b (living_keys a conn (wish l) (since l) l) []) living

    all-mine : list_any (sets l.id) (living_keys a conn (wish l) (since l) l) ≡ false
    all-mine =
        ap (list_any (sets l.id)) (sym own)
        ∙ sym (any-own l.id (sets l.id) (sets-off l.id) (rest_owed a conn wish since lives))
        ∙ none-right (sets l.id) (ends_owed a lives) (rest_owed a conn wish since lives)
        (ap (list_any (sets l.id)) (sym (owed-parts a conn wish since lives)) ∙ none)

    mine : list_any (sets l.id) (map (λ s. setting_key l.id s.place) (owed_settings a l)) ≡ false
    mine =
        none-right (sets l.id) (map (λ p. publish_key l.id p.place) (owed_publishes a conn l))
        (map (λ s. setting_key l.id s.place) (owed_settings a l))
        (sym (any-in_order (sets l.id) (reply_keys a conn l))
        ∙ none-left (sets l.id) (in_order (reply_keys a conn l)) (topic_keys a conn (wish l) l)
        (none-left (sets l.id) (in_order (reply_keys a conn l) ++ topic_keys a conn (wish l) l)
        (in_order (value_keys a (wish l) (since l) l) ++ newest_keys a (wish l) l) all-mine))

    by : (ss : List Setting) → list_any (sets l.id) (map (λ s. setting_key l.id s.place) ss) ≡ false → ss ≡ []
    by [] f = refl
    by (s ∷ ss) f =
        absurd (true≢false (sym (ap (λ b. b || list_any (sets l.id) (map (λ s. setting_key l.id s.place) ss))
        (eq-eqb l.id l.id refl)) ∙ f))

-- ---- keys and places of the past

pub not-in : (n : ℕ) (k : Key) (given : List Key) → AllByRecursion (λ g. g.place ≤ n) given → n < k.place
    → is_in given k ≡ false
not-in n k [] h less = refl
not-in n k (g ∷ given) h less =
    let low = h.0 in
    let other : (k.place == g.place) ≡ false = ne_eqb k.place g.place (λ f. absurd (omega arith)) in
    ap (λ b. b || is_in given k) (and_right (is_kind k.kind g.kind && (k.topic == g.topic)) (k.place == g.place) other)
    ∙ not-in n k given h.1 less

not-told : (n place : ℕ) (told : List ℕ) → AllByRecursion (λ p. p ≤ n) told → n < place
    → list_any (λ p. p == place) told ≡ false
not-told n place [] h less = refl
not-told n place (p ∷ told) h less =
    let low = h.0 in
    ap (λ b. b || list_any (λ q. q == place) told) (ne_eqb p place (λ f. absurd (omega arith)))
    ∙ not-told n place told h.1 less

-- ---- what is to come of a life

-- what is to come, by the keys that were given and the places that are told
abbrev pub to_come : ℕ → List Key → List ℕ → List Setting → List Setting
to_come id given told ss = filter (λ s. not (is_in given (setting_key id s.place)))
    (filter (λ s. list_any (λ place. place == s.place) told) ss)

-- one place more, behind all of them, changes nothing
told-more : (n place : ℕ) (told : List ℕ) (ss : List Setting) → AllByRecursion (λ s. s.place ≤ n) ss → n < place
    → filter (λ s. list_any (λ p. p == s.place) (place ∷ told)) ss ≡ filter (λ s. list_any (λ p. p == s.place) told) ss
told-more n place told ss h less =
    filter-same (λ s. list_any (λ p. p == s.place) (place ∷ told)) (λ s. list_any (λ p. p == s.place) told) ss
    (each-more (λ s. s.place ≤ n) _
    (λ s low. ap (λ b. b || list_any (λ p. p == s.place) told) (ne_eqb place s.place (λ f. absurd (omega arith)))) ss h)

-- a further change of properties of which the client is told
come-told : (n id : ℕ) (given : List Key) (told : List ℕ) (ss : List Setting) (s : Setting)
    → AllByRecursion (λ g. g.place ≤ n) given → AllByRecursion (λ t. t.place ≤ n) ss → n < s.place
    → to_come id given (s.place ∷ told) (ss ++ s ∷ []) ≡ to_come id given told ss ++ s ∷ []
come-told n id given told ss s g h less =
    ap (filter kept) (filter-append now ss (s ∷ [])
    ∙ (λ i. told-more n s.place told ss h less i ++ cond
    (ap (λ b. b || list_any (λ p. p == s.place) told) (eq-eqb s.place s.place refl) i) (s ∷ []) []))
    ∙ filter-append kept (filter (λ t. list_any (λ p. p == t.place) told) ss) (s ∷ [])
    ∙ ap (λ b. to_come id given told ss ++ cond (not b) (s ∷ []) []) (not-in n (setting_key id s.place) given g less)
  where
    kept : Setting → Bool
    kept t = not (is_in given (setting_key id t.place))

    now : Setting → Bool
    now t = list_any (λ p. p == t.place) (s.place ∷ told)

-- and one of which it isn't
come-untold : (n id : ℕ) (given : List Key) (told : List ℕ) (ss : List Setting) (s : Setting)
    → AllByRecursion (λ p. p ≤ n) told → n < s.place
    → to_come id given told (ss ++ s ∷ []) ≡ to_come id given told ss
come-untold n id given told ss s h less =
    ap (filter (λ t. not (is_in given (setting_key id t.place))))
    (filter-append now ss (s ∷ [])
    ∙ ap (λ b. filter (λ t. list_any (λ p. p == t.place) told) ss ++ cond b (s ∷ []) [])
    (not-told n s.place told h less)
    ∙ append-nil (filter (λ t. list_any (λ p. p == t.place) told) ss))
  where
    now : Setting → Bool
    now t = list_any (λ p. p == t.place) told

-- ---- the step

same-state : (m n : State) → m.shown ≡ n.shown → m.next ≡ n.next → m.pend ≡ n.pend → m ≡ n
same-state m n a b c = λ i. record { shown = a i; next = b i; pend = c i }

-- what is known of the lives and of the account before the entry
pub record IsPastOf (n : ℕ) (lives : List Life) (a : Account) : Type 0 where
  pub given_low : AllByRecursion (λ g. g.place ≤ n) a.given
  pub told_low : AllByRecursion (λ p. p ≤ n) a.told_settings
  pub next_low : (id : ℕ) → next_value a.given id ≤ n + 1
  pub settings_low : (k : ℕ) (l : Life) → life_at k lives ≡ Some l → AllByRecursion (λ s. s.place ≤ n) l.settings
  pub unknown : (k : ℕ) → life_at k lives ≡ None → (is_announced a k ≡ false) × (next_value a.given k ≡ 0)

module _ (n : ℕ) (conn sender : ℕ) (set : Option ℕ) (lives lives' : List Life) (a a' : Account) (owed : List Key)
    (hs : List Held)
    (known : IsPastOf n lives a)
    (came : (k : ℕ) → CameTo (n + 1) sender set (life_at k lives) (life_at k lives'))
    (given_is : a'.given ≡ a.given)
    (told_is : a'.told_settings ≡ settings_after a owed conn (n + 1) sender set)
    (owes : (k : ℕ) (l : Life) → life_at k lives ≡ Some l → is_living l ≡ true → set ≡ Some l.id
    → list_any (sets l.id) owed ≡ false → owed_settings a l ≡ [])
    (st : Stands lives a hs) where
  announced-is : (i j : ℕ) → i ≡ j → is_announced a' i ≡ is_announced a j
  announced-is i j e = (λ t. list_any (announces (e t)) (given_is t))

  next-is : (i j : ℕ) → i ≡ j → next_value a'.given i ≡ next_value a.given j
  next-is i j e = (λ t. next_value (given_is t) (e t))

  -- of which places it is told
  told-by : (a'.told_settings ≡ a.told_settings) ⊎ (a'.told_settings ≡ (n + 1) ∷ a.told_settings)
  told-by = by set told_is
    where
      by : (o : Option ℕ) → a'.told_settings ≡ settings_after a owed conn (n + 1) sender o
          → (a'.told_settings ≡ a.told_settings) ⊎ (a'.told_settings ≡ (n + 1) ∷ a.told_settings)
      by None e = inl e
      by (Some id) e = at ((sender == conn) || (is_announced a id || list_any (sets id) owed)) e
        where
          at : (b : Bool) → a'.told_settings ≡ cond b ((n + 1) ∷ a.told_settings) a.told_settings
              → (a'.told_settings ≡ a.told_settings) ⊎ (a'.told_settings ≡ (n + 1) ∷ a.told_settings)
          at true e = inr e
          at false e = inl e

  -- a life whose properties aren't changed has to come what it had
  come-same : (l l' : Life) → l'.id ≡ l.id → l'.settings ≡ l.settings → AllByRecursion (λ s. s.place ≤ n) l.settings
      → owed_settings a' l' ≡ owed_settings a l
  come-same l l' ids settings low =
      (λ i. to_come (ids i) (given_is i) a'.told_settings (settings i))
      ∙ by told-by
    where
      by : (a'.told_settings ≡ a.told_settings) ⊎ (a'.told_settings ≡ (n + 1) ∷ a.told_settings)
          → to_come l.id a.given a'.told_settings l.settings ≡ owed_settings a l
      by (inl e) = ap (λ told. to_come l.id a.given told l.settings) e
      by (inr e) =
          ap (λ told. to_come l.id a.given told l.settings) e
          ∙ ap (filter (λ s. not (is_in a.given (setting_key l.id s.place))))
          (told-more n (n + 1) a.told_settings l.settings low (omega arith))

  state-same : (l l' : Life) → l'.id ≡ l.id → owed_settings a' l' ≡ owed_settings a l → state_of a l ≡ state_of a' l'
  state-same l l' ids pend =
      same-state (state_of a l) (state_of a' l') (sym (announced-is l'.id l.id ids)) (sym (next-is l'.id l.id ids))
      (sym pend)

  -- a life that stays
  stays-ok : (k : ℕ) (l l' : Life) → life_at k lives ≡ Some l → Stays (n + 1) l l' → (o : Option ℕ)
      → LifeOk o l a (look (pos k) hs)
      → LifeOk o l' a' (look (pos k) hs)
  stays-ok k l l' e s None h = (
    subst IsOrdered (sym s.props_is) h.0,
    subst (λ m. ShownOk l' m (look (pos k) hs))
        (state-same l l' s.id_is (come-same l l' s.id_is s.settings_is (known.settings_low k l e)))
        (shown-stays (n + 1) l l' (state_of a l) (look (pos k) hs) s (known.next_low l.id) h.1),
    subst (IsBounded l') (sym (next-is l'.id l.id s.id_is))
        (s.bounded (next_value a.given l.id) (known.next_low l.id) h.2),
  )
  stays-ok k l l' e s (Some place) (inl h) = inl h
  stays-ok k l l' e s (Some place) (inr h) =
      inr (announced-is l'.id l.id s.id_is ∙ h.0, (λ i. is_in (given_is i) (end_key (s.id_is i) place)) ∙ h.1)

  -- one that ends
  ends-ok : (k : ℕ) (l l' : Life) → l'.id ≡ l.id → LifeOk None l a (look (pos k) hs)
      → LifeOk (Some (n + 1)) l' a' (look (pos k) hs)
  ends-ok k l l' ids h = by (is_announced a l.id) refl h.1
    where
      by : (b : Bool) → is_announced a l.id ≡ b
          → ShownBy b l (next_value a.given l.id) (updates (owed_settings a l)) (look (pos k) hs)
          → LifeOk (Some (n + 1)) l' a' (look (pos k) hs)
      by true e s =
          inr (
            announced-is l'.id l.id ids ∙ e,
            ap (λ given. is_in given (end_key l'.id (n + 1))) given_is
                ∙ not-in n (end_key l'.id (n + 1)) a.given known.given_low (omega arith),
          )
      by false e s = inl s.0

  -- one whose properties are changed
  set-ok : (k : ℕ) (l : Life) (u : Data) → life_at k lives ≡ Some l → l.over ≡ None → set ≡ Some l.id
      → LifeOk None l a (look (pos k) hs)
      → LifeOk None (with_setting (n + 1) sender u l) a' (look (pos k) hs)
  set-ok k l u e over is h = (
    ordered-set (n + 1) sender u l h.0,
    by ((sender == conn) || (is_announced a l.id || list_any (sets l.id) owed)) refl
        (told_is ∙ ap (settings_after a owed conn (n + 1) sender) is),
    subst (IsBounded (with_setting (n + 1) sender u l)) (sym (next-is (with_setting (n + 1) sender u l).id l.id ids))
        (bounded-set (n + 1) sender u l (next_value a.given l.id) (known.next_low l.id) h.2),
  )
    where
      l' : Life
      l' = with_setting (n + 1) sender u l

      s : Setting
      s = record { place = n + 1; conn = sender; update = u }

      ids : l'.id ≡ l.id
      ids = setting-id (n + 1) sender u l

      low : AllByRecursion (λ t. t.place ≤ n) l.settings
      low = known.settings_low k l e

      pend : (told : List ℕ) → a'.told_settings ≡ told
          → owed_settings a' l'
          ≡ to_come l.id a.given told (l.settings ++ s ∷ [])
      pend told t =
          (λ i. to_come (ids i) (given_is i) (t i)
          (l.settings ++ s ∷ []))

      by : (b : Bool) → ((sender == conn) || (is_announced a l.id || list_any (sets l.id) owed)) ≡ b
          → a'.told_settings ≡ cond ((sender == conn) || (is_announced a l.id || list_any (sets l.id) owed))
          ((n + 1) ∷ a.told_settings) a.told_settings
          → ShownOk l' (state_of a' l') (look (pos k) hs)
      by true t told =
          let is_told = told ∙ ap (λ b. cond b ((n + 1) ∷ a.told_settings) a.told_settings) t in
          let pend_is = pend ((n + 1) ∷ a.told_settings) is_told
          ∙ come-told n l.id a.given a.told_settings l.settings
          s known.given_low low (omega arith) in
          subst (λ m. ShownOk l' m (look (pos k) hs))
          (same-state (record (state_of a l)
          { pend = owed_settings a l ++ s ∷ [] })
          (state_of a' l')
          (sym (announced-is l'.id l.id ids))
          (sym (next-is l'.id l.id ids)) (sym pend_is))
          (shown-set (n + 1) sender u l (state_of a l) (look (pos k) hs) (known.next_low l.id) h.1)
      by false t told =
          let is_told = told ∙ ap (λ b. cond b ((n + 1) ∷ a.told_settings) a.told_settings) t in
          let pend_is = pend a.told_settings is_told
          ∙ come-untold n l.id a.given a.told_settings l.settings
          s known.told_low (omega arith) in
          let off = (or_parts (sender == conn) (is_announced a l.id || list_any (sets l.id) owed) t).1 in
          let parts = or_parts (is_announced a l.id) (list_any (sets l.id) owed) off in
          subst (λ m. ShownOk l' m (look (pos k) hs))
          (state-same l l' ids pend_is)
          (shown-unset (n + 1) sender u l (state_of a l) (look (pos k) hs) h.0 parts.0
          (owes k l e (ap is_none over) is parts.1) h.1)

  -- a topic of an id that no life has isn't held
  unheld : (k : ℕ) → life_at k lives ≡ None → look (pos k) hs ≡ None
  unheld k e = by (look (pos k) hs) refl
    where
      held-of : (xs : List Held) (h : Held) → look (pos k) xs ≡ Some h → EachHeld (OfLife lives) xs
          → OfLife lives h.id h.name
      held-of [] h f g = cc
      held-of (x ∷ xs) h f g = at (int_eq x.id (pos k)) f (λ f. held-of xs h f g.1)
        where
          at : (b : Bool) → cond b (Some x) (look (pos k) xs) ≡ Some h
              → (look (pos k) xs ≡ Some h → OfLife lives h.id h.name) → OfLife lives h.id h.name
          at true f more = let same : x ≡ h = cc in subst (λ (y : Held). OfLife lives y.id y.name) same g.0
          at false f more = more f

      none-some : (l : Life) → None ≡ Some l → ⊥
      none-some l g = cc

      never : (h : Held) → look (pos k) hs ≡ Some h → OfLife lives h.id h.name → ⊥
      never h f o =
          let id : o.0.id ≡ k = pos-same o.0.id k (sym o.1 ∙ look-id (pos k) hs h f) in
          none-some o.0 (sym e ∙ ap (λ i. life_at i lives) (sym id) ∙ o.3)

      by : (o : Option Held) → look (pos k) hs ≡ o → o ≡ None
      by None f = refl
      by (Some h) f = absurd (never h f (held-of hs h f st.of_lives))

  -- a life that began
  born-ok : (k : ℕ) (l' : Life) → life_at k lives ≡ None → life_at k lives' ≡ Some l' → IsBorn l'
      → LifeOk None l' a' (look (pos k) hs)
  born-ok k l' e e' b =
      let ids : l'.id ≡ k = life-id k lives' l' e' in
      let none = known.unknown k e in
      let next : next_value a'.given l'.id ≡ 0 = next-is l'.id k ids ∙ none.1 in (
        b.ordered,
        shown-born l' (state_of a' l') (look (pos k) hs) (announced-is l'.id k ids ∙ none.0) next
            (ap (to_come l'.id a'.given a'.told_settings) b.settings_none) (unheld k e) b.ordered,
        subst (IsBounded l') (sym next) (bounded-zero l'),
      )

  life-ok : (k : ℕ) (l' : Life) → life_at k lives' ≡ Some l' → LifeOk l'.over l' a' (look (pos k) hs)
  life-ok k l' e' = by (life_at k lives) refl (subst (CameTo (n + 1) sender set (life_at k lives)) e' (came k))
    where
      by : (o : Option Life) → life_at k lives ≡ o → CameTo (n + 1) sender set o (Some l')
          → LifeOk l'.over l' a' (look (pos k) hs)
      by None e b = subst (λ o. LifeOk o l' a' (look (pos k) hs)) (sym b.living) (born-ok k l' e e' b)
      by (Some l) e (inl c) =
          subst (λ o. LifeOk o l' a' (look (pos k) hs)) (sym c.1) (stays-ok k l l' e c.0 l.over (st.each k l e))
      by (Some l) e (inr (inl c)) =
          subst (λ o. LifeOk o l' a' (look (pos k) hs)) (sym c.1)
          (ends-ok k l l' c.2 (subst (λ o. LifeOk o l a (look (pos k) hs)) c.0 (st.each k l e)))
      by (Some l) e (inr (inr c)) =
          subst (λ (x : Life). LifeOk x.over x a' (look (pos k) hs)) (sym c.3)
          (subst (λ o. LifeOk o (with_setting (n + 1) sender c.0 l) a' (look (pos k) hs))
          (sym (setting-over (n + 1) sender c.0 l ∙ c.2))
          (set-ok k l c.0 e c.2 c.1 (subst (λ o. LifeOk o l a (look (pos k) hs)) c.2 (st.each k l e))))

  -- a held topic is of the life that came of its own
  of-life : (id : ℤ) (name : List ℕ) → OfLife lives id name → OfLife lives' id name
  of-life id name o = by (life_at o.0.id lives') refl
      (subst (λ x. CameTo (n + 1) sender set x (life_at o.0.id lives')) o.3 (came o.0.id))
    where
      its : (l' : Life) → life_at o.0.id lives' ≡ Some l' → l'.name ≡ o.0.name → OfLife lives' id name
      its l' e name_is =
          let ids : l'.id ≡ o.0.id = life-id o.0.id lives' l' e in
          (l', o.1 ∙ ap pos (sym ids), o.2 ∙ sym name_is, ap (λ i. life_at i lives') ids ∙ e)

      by : (x : Option Life) → life_at o.0.id lives' ≡ x → CameTo (n + 1) sender set (Some o.0) x
          → OfLife lives' id name
      by None e c = absurd c
      by (Some l') e (inl c) = its l' e c.0.name_is
      by (Some l') e (inr (inl c)) = its l' e c.3
      by (Some l') e (inr (inr c)) =
          its l' e (ap (λ (x : Life). x.name) c.3 ∙ setting-name (n + 1) sender c.0 o.0)

  pub step-stands : Stands lives' a' hs
  step-stands = record {
    rise = st.rise;
    of_lives = each-more (λ h. OfLife lives h.id h.name) (λ h. OfLife lives' h.id h.name)
        (λ h. of-life h.id h.name) hs st.of_lives;
    each = life-ok;
  }

-- ---- before anything was handed

pub stands-new : (lives : List Life) (a : Account) → a.given ≡ [] → a.told_settings ≡ []
    → ((k : ℕ) (l : Life) → life_at k lives ≡ Some l → l.over ≡ None → IsOrdered l.props) → Stands lives a []
stands-new lives a given told ordered = record { rise = tt; of_lives = tt; each = λ k l e. by k l e l.over refl }
  where
    none : (ss : List Setting) → filter (λ s. list_any (λ place. place == s.place) []) ss ≡ []
    none [] = refl
    none (s ∷ ss) = none ss

    pend : (l : Life) → owed_settings a l ≡ []
    pend l = ap (λ ps. to_come l.id a.given ps l.settings) told
        ∙ ap (filter (λ s. not (is_in a.given (setting_key l.id s.place)))) (none l.settings)

    by : (k : ℕ) (l : Life) → life_at k lives ≡ Some l → (o : Option ℕ) → l.over ≡ o → LifeOk o l a None
    by k l e None over =
        let next : next_value a.given l.id ≡ 0 = ap (λ ks. next_value ks l.id) given in (
          ordered k l e over,
          shown-born l (state_of a l) None (ap (list_any (announces l.id)) given) next (pend l) refl
              (ordered k l e over),
          subst (IsBounded l) (sym next) (bounded-zero l),
        )
    by k l e (Some place) over = inl refl
