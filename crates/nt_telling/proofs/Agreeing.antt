-- Once all that is owed was handed, what a client holds is what it should hold.
use Rattle.std.proofs.Common.{◌≡◌, ℕ, pos, ◌+◌, ◌≤◌, ◌<◌, ◌<ℤ◌, ◌&&◌, ◌==◌, not, nat_lt, Bool, true, false}
use Rattle.std.proofs.Common.{cond, List, [], ◌∷◌, map, filter, Option, Some, None, option_map, refl, sym, ap, subst}
use Rattle.std.proofs.Common.{◌∙◌, ◌⊎◌, inl, inr, arith}
use Rattle.std.specs.List.{AllByRecursion}
use Rattle.std.specs.Ordering.{int_eq}
use Rattle.std.proofs.lemmas.Bool.{eqb-true, eqb-false, eq-eqb, ne_eqb, cases_Bool, and_from, and_right, lt-ltb}
use Rattle.std.proofs.lemmas.Bool.Decides.{nat_tests}
use Rattle.nt_topics.specs.Properties.{is_cached}
use Rattle.nt_subs.specs.declared.wish.Wanted.{Wanted}
use Rattle.nt_rules.specs.declared.held.Held.{Held}
use Rattle.nt_rules.specs.declared.topic.Timed.{Timed}
use Rattle.nt_rules.specs.topics.Puts.{Put, greatest, taken, newest, timed}
use Rattle.nt_rules.specs.outbox.Marks.{is_meta, is_valued, is_wish}
use Rattle.nt_rules.specs.history.Lives.{Life, is_living, held_of, taken_since_turn}
use Rattle.nt_rules.specs.history.Owed.{life_at}
use Rattle.nt_rules.specs.telling.Due.{Due, due_of, due_value, IsDue, IsDueValue, AreDue, Exactly, AtAnyTime, Anything}
use Rattle.nt_telling.proofs.LifeKeys.{IdsRise, life-low}
use Rattle.nt_telling.proofs.Holding.{look, RiseById, Above, is-id, lt-more, pos-below, below-pos, look-above}
use Rattle.nt_telling.proofs.Messages.{EachHeld, OfLivingLife, id-eq}
use Rattle.nt_telling.proofs.Living.{State, BoundBy, IsBounded, FitsPut, is_now, HeldOk, ShownBy, ShownOk, updates}
use Rattle.nt_telling.proofs.Owing.{HasPlaces, IsPutOf, puts-of, each-since, IsDone}
use Rattle.nt_laws.proofs.topics.Puts.{last-taken}

-- ---- one life

none-left : (o : Option Timed) → (o ≡ None) ⊎ ⊥ → o ≡ None
none-left o (inl e) = e
none-left o (inr e) = absurd e

-- what is held of it is its value
pub value-due : (wish : Wanted) (l : Life) (m : State) (h : Held) → HasPlaces l → HeldOk l m.next [] h
    → IsBounded l m.next
    → (is_valued wish ≡ true → is_cached l.props ≡ true → (p : Put) (ps : List Put) → taken_since_turn l ≡ p ∷ ps
    → p.place + 1 ≤ m.next)
    → IsDueValue (due_value wish l) h.value
value-due wish l m h places ok bounded reached = by_wish (is_valued wish) refl
  where
    -- by kinds of topics
    by_kind : FitsPut (is_meta l.id) (held_of l) h.value → (held_of l ≡ None → h.value ≡ None)
        → IsDueValue (cond (is_meta l.id) (AtAnyTime (option_map (λ p. p.value) (held_of l)))
        (Exactly (option_map timed (held_of l)))) h.value
    by_kind f none = at (is_meta l.id) (held_of l) f none
      where
        at : (b : Bool) (o : Option Put) → FitsPut b o h.value → (o ≡ None → h.value ≡ None)
            → IsDueValue (cond b (AtAnyTime (option_map (λ p. p.value) o)) (Exactly (option_map timed o))) h.value
        at true None f n = ap (option_map (λ (t : Timed). t.value)) (n refl)
        at false None f n = n refl
        at true (Some p) f n = f
        at false (Some p) f n = f

    no-value : is_now l m.next ≡ false → h.value ≡ None
    no-value e = none-left h.value (ok.value_ok.not_now e)

    fits-none : (b : Bool) → FitsPut b None h.value
    fits-none b = tt

    off : is_cached l.props ≡ false → FitsPut (is_meta l.id) (held_of l) h.value × (held_of l ≡ None → h.value ≡ None)
    off e =
        let none : held_of l ≡ None = ap (λ b. cond b (greatest l.puts) None) e in (
          subst (λ o. FitsPut (is_meta l.id) o h.value) (sym none) (fits-none (is_meta l.id)),
          λ f. no-value (ap (λ b. b && nat_lt l.turn m.next) e),
        )

    held-newest : is_cached l.props ≡ true → newest (taken_since_turn l) ≡ held_of l
    held-newest e =
        ap (λ b. newest (cond b (taken l.puts) l.puts)) e ∙ last-taken l.puts
        ∙ sym (ap (λ b. cond b (greatest l.puts) None) e)

    on : is_valued wish ≡ true → is_cached l.props ≡ true → (ps : List Put) → taken_since_turn l ≡ ps
        → FitsPut (is_meta l.id) (held_of l) h.value × (held_of l ≡ None → h.value ≡ None)
    on w e [] t =
        let none : held_of l ≡ None = sym (held-newest e) ∙ ap newest t in
        let low : m.next ≤ l.turn = subst (BoundBy l.turn m.next) t bounded in
        let past : nat_lt l.turn m.next ≡ false = grind (arith, nat_tests) in (
          subst (λ o. FitsPut (is_meta l.id) o h.value) (sym none) (fits-none (is_meta l.id)),
          λ f. no-value (and_right (is_cached l.props) (nat_lt l.turn m.next) past),
        )
    on w e (p ∷ ps) t =
        let some : held_of l ≡ Some p = sym (held-newest e) ∙ ap newest t in
        let high : p.place + 1 ≤ m.next = reached w e p ps t in
        let low : m.next ≤ p.place + 1 = subst (BoundBy l.turn m.next) t bounded in
        let put : IsPutOf l p = (subst (AllByRecursion (IsPutOf l)) t (each-since (IsPutOf l) l (puts-of l places))).0
        in
        let from : l.turn ≤ p.place = put.1 in
        let now : is_now l m.next ≡ true =
        and_from (is_cached l.props) (nat_lt l.turn m.next) e (lt-ltb l.turn m.next (omega arith)) in
        let n = ok.value_ok.is_now now in (
          subst (λ o. FitsPut (is_meta l.id) o h.value) (put.0 ∙ sym some) (n.0 p.place (omega arith)),
          λ f. absurd (none-some (sym some ∙ f)),
        )
      where
        none-some : Some p ≡ None → ⊥
        none-some f = cc

    by_cached : is_valued wish ≡ true → (is_cached l.props ≡ true) ⊎ (is_cached l.props ≡ false)
        → IsDueValue (cond (is_meta l.id) (AtAnyTime (option_map (λ p. p.value) (held_of l)))
        (Exactly (option_map timed (held_of l)))) h.value
    by_cached w (inl e) = let r = on w e (taken_since_turn l) refl in by_kind r.0 r.1
    by_cached w (inr e) = let r = off e in by_kind r.0 r.1

    by_wish : (b : Bool) → is_valued wish ≡ b
        → IsDueValue (cond (not b) Anything
        (cond (is_meta l.id) (AtAnyTime (option_map (λ p. p.value) (held_of l)))
        (Exactly (option_map timed (held_of l)))))
        h.value
    by_wish false w = tt
    by_wish true w = by_cached w (cases_Bool (is_cached l.props))

-- the whole of it
pub life-due : (wish : Wanted) (name_wish : Wanted) (l : Life) (m : State) (s : Option Held) → HasPlaces l
    → is_wish wish ≡ true
    → is_valued name_wish ≡ is_valued wish → IsDone wish l m → ShownOk l m s → IsBounded l m.next
    → (h : Held) × (s ≡ Some h) × IsDue (due_of name_wish l) h
life-due wish name_wish l m s places w same done shown bounded = (
  k.0,
  k.1,
  record {
    id_is = k.2.id_is;
    name_is = k.2.name_is;
    typ_is = k.2.typ_is;
    props_is = k.2.follows;
    value_is = value-due name_wish l m k.0 places k.2 bounded (λ v. done.reached (sym same ∙ v));
  },
)
  where
    k : ShownBy true l m.next [] s
    k = subst (λ ss. ShownBy true l m.next (updates ss) s) done.pend
        (subst (λ b. ShownBy b l m.next (updates m.pend) s) (done.shown w) shown)

-- ---- all of them

module _ (w : List ℕ → Wanted) where
  abbrev wanted_life : Life → Bool
  wanted_life l = is_living l && is_wish (w l.name)

  abbrev wanted_held : Held → Bool
  wanted_held h = is_wish (w h.name)

  -- each life that is wanted is held as it is due
  abbrev pub EachDue : List Life → List Held → Type 0
  EachDue lives hs =
      (l : Life) → life_at l.id lives ≡ Some l → is_living l ≡ true → is_wish (w l.name) ≡ true
      → (h : Held) × (look (pos l.id) hs ≡ Some h) × IsDue (due_of (w l.name) l) h

  abbrev dues : List Life → List Due
  dues lives = map (λ l. due_of (w l.name) l) (filter wanted_life lives)

  -- a life of the rest
  tail-life : (l : Life) (lives : List Life) (m : Life) → IdsRise (l.id + 1) lives → life_at m.id lives ≡ Some m
      → (l.id < m.id) × (life_at m.id (l ∷ lives) ≡ Some m)
  tail-life l lives m r e = (
    above,
    ap (λ b. cond b (Some l) (life_at m.id lives))
        (ne_eqb l.id m.id (λ f. let up : l.id < m.id = above in absurd (omega arith))) ∙ e,
  )
    where
      above : l.id < m.id
      above = by (nat_lt l.id m.id) refl
        where
          by : (b : Bool) → nat_lt l.id m.id ≡ b → l.id < m.id
          by true f = grind (arith, nat_tests)
          by false f =
              let low : m.id < l.id + 1 = grind (arith, nat_tests) in
              let none = life-low m.id (l.id + 1) lives r low in
              absurd (cc)

  -- a life that isn't the first is of the rest
  not-first : (l : Life) (lives : List Life) (m : Life) → (m.id ≡ l.id → ⊥) → life_at m.id (l ∷ lives) ≡ Some m
      → life_at m.id lives ≡ Some m
  not-first l lives m n e = sym (ap (λ b. cond b (Some l) (life_at m.id lives)) (ne_eqb l.id m.id (λ f. n (sym f)))) ∙ e

  first-is : (l : Life) (lives : List Life) (m : Life) → m.id ≡ l.id → life_at m.id (l ∷ lives) ≡ Some m → m ≡ l
  first-is l lives m same e =
      let here : Some l ≡ Some m = sym (ap (λ b. cond b (Some l) (life_at m.id lives)) (eq-eqb l.id m.id (sym same)))
      ∙ e in
      cc

  above-pos : (a b : ℕ) (hs : List Held) → a < b → Above (pos b) hs → Above (pos a) hs
  above-pos a b [] l h = tt
  above-pos a b (x ∷ hs) l h = (lt-more (pos a) (pos b) x.id (pos-below a b l) h.0, above-pos a b hs l h.1)

  -- a life without a held topic isn't wanted
  unheld : (l : Life) (lives : List Life) (hs : List Held) → EachDue (l ∷ lives) hs → look (pos l.id) hs ≡ None
      → wanted_life l ≡ false
  unheld l lives hs b none = by (is_living l) refl (is_wish (w l.name)) refl
    where
      by : (x : Bool) → is_living l ≡ x → (y : Bool) → is_wish (w l.name) ≡ y → (x && y) ≡ false
      by false e y f = refl
      by true e false f = refl
      by true e true f =
          let d = b l (ap (λ t. cond t (Some l) (life_at l.id lives)) (eq-eqb l.id l.id refl)) e f in
          let some = sym none ∙ d.1 in
          absurd (cc)

  pub all-due : (n : ℕ) (lives : List Life) (hs : List Held) → IdsRise n lives → RiseById hs
      → EachHeld (OfLivingLife lives) hs
      → EachDue lives hs → AreDue (dues lives) (filter wanted_held hs)
  all-due n [] [] r s a b = tt
  all-due n [] (h ∷ hs) r s a b = absurd (none-some a.0.0 a.0.3)
    where
      none-some : (l : Life) → None ≡ Some l → ⊥
      none-some l e = cc
  all-due n (l ∷ lives) [] r s a b =
      subst (λ t. AreDue (map (λ l. due_of (w l.name) l)
      (cond t (l ∷ filter wanted_life lives) (filter wanted_life lives))) [])
      (sym (unheld l lives [] b refl))
      (all-due (l.id + 1) lives [] r.1 tt tt (λ m e. b m (tail-life l lives m r.1 e).1))
  all-due n (l ∷ lives) (h ∷ hs) r s a b =
      by (a.0.0.id == l.id) refl (all-due (l.id + 1) lives hs r.1 s.1) (all-due (l.id + 1) lives (h ∷ hs) r.1 s)
    where
      m : Life
      m = a.0.0

      rest : List Due
      rest = dues lives

      -- the others are of the rest
      later-of : (k : ℕ) → h.id ≡ pos k → l.id ≤ k → (xs : List Held) → Above h.id xs
          → EachHeld (OfLivingLife (l ∷ lives)) xs → EachHeld (OfLivingLife lives) xs
      later-of k at low [] ab e = tt
      later-of k at low (x ∷ xs) ab e = (
        (e.0.0, e.0.1, e.0.2, not-first l lives e.0.0 (λ f. apart f) e.0.3, e.0.4),
        later-of k at low xs ab.1 e.1,
      )
        where
          apart : e.0.0.id ≡ l.id → ⊥
          apart f =
              let less : k < e.0.0.id = below-pos k e.0.0.id
              (subst (λ i. i <ℤ pos e.0.0.id) at (subst (λ i. h.id <ℤ i) e.0.1 ab.0)) in
              absurd (omega arith)

      by : (t : Bool) → (m.id == l.id) ≡ t
          → (EachHeld (OfLivingLife lives) hs → EachDue lives hs → AreDue rest (filter wanted_held hs))
          → (EachHeld (OfLivingLife lives) (h ∷ hs) → EachDue lives (h ∷ hs)
          → AreDue rest (filter wanted_held (h ∷ hs)))
          → AreDue (map (λ l. due_of (w l.name) l)
          (cond (wanted_life l) (l ∷ filter wanted_life lives) (filter wanted_life lives)))
          (cond (wanted_held h) (h ∷ filter wanted_held hs) (filter wanted_held hs))
      by true e here there =
          let ids : m.id ≡ l.id = eqb-true m.id l.id e in
          let same : m ≡ l = first-is l lives m ids a.0.3 in
          let id : h.id ≡ pos l.id = a.0.1 ∙ ap pos ids in
          let name : h.name ≡ l.name = a.0.2 ∙ ap (λ (x : Life). x.name) same in
          let living : is_living l ≡ true = subst (λ (x : Life). is_living x ≡ true) same a.0.4 in
          let others = later-of l.id id (omega arith) hs s.0 a.1 in
          let more = here others (λ k f g v. let d =
          b k (tail-life l lives k r.1 f).1 g v in (d.0, sym (skip k (tail-life l lives k r.1 f).0 id) ∙ d.1, d.2))
          in
          found id name living more (is_wish (w l.name)) refl
        where
          skip : (k : Life) → l.id < k.id → h.id ≡ pos l.id → look (pos k.id) (h ∷ hs) ≡ look (pos k.id) hs
          skip k less id =
              ap (λ i. cond (int_eq i (pos k.id)) (Some h) (look (pos k.id) hs)) id
              ∙ ap (λ t. cond t (Some h) (look (pos k.id) hs))
              (id-eq l.id k.id ∙ ne_eqb l.id k.id (λ f. absurd (omega arith)))

          found : h.id ≡ pos l.id → h.name ≡ l.name → is_living l ≡ true → AreDue rest (filter wanted_held hs)
              → (t : Bool) → is_wish (w l.name) ≡ t
              → AreDue (map (λ l. due_of (w l.name) l)
              (cond (wanted_life l) (l ∷ filter wanted_life lives) (filter wanted_life lives)))
              (cond (wanted_held h) (h ∷ filter wanted_held hs) (filter wanted_held hs))
          found id name living more true f =
              let d = b l (ap (λ t. cond t (Some l) (life_at l.id lives)) (eq-eqb l.id l.id refl)) living f in
              let first : look (pos l.id) (h ∷ hs) ≡ Some h =
              ap (λ t. cond t (Some h) (look (pos l.id) hs)) (is-id h.id (pos l.id) id) in
              let both : Some h ≡ Some d.0 = sym first ∙ d.1 in
              let its : h ≡ d.0 = cc in
              let held : wanted_held h ≡ true = ap (λ x. is_wish (w x)) name ∙ f in
              subst (λ t. AreDue (map (λ l. due_of (w l.name) l)
              (cond t (l ∷ filter wanted_life lives) (filter wanted_life lives)))
              (cond (wanted_held h) (h ∷ filter wanted_held hs) (filter wanted_held hs)))
              (sym (and_from (is_living l) (is_wish (w l.name)) living f))
              (subst (λ t. AreDue (due_of (w l.name) l ∷ rest)
              (cond t (h ∷ filter wanted_held hs) (filter wanted_held hs))) (sym held)
              (subst (IsDue (due_of (w l.name) l)) (sym its) d.2, more))
          found id name living more false f =
              let held : wanted_held h ≡ false = ap (λ x. is_wish (w x)) name ∙ f in
              subst (λ t. AreDue (map (λ l. due_of (w l.name) l)
              (cond t (l ∷ filter wanted_life lives) (filter wanted_life lives)))
              (cond (wanted_held h) (h ∷ filter wanted_held hs) (filter wanted_held hs)))
              (sym (and_right (is_living l) (is_wish (w l.name)) f))
              (subst (λ t. AreDue rest (cond t (h ∷ filter wanted_held hs) (filter wanted_held hs))) (sym held) more)
      by false e here there =
          let other : m.id ≡ l.id → ⊥ = eqb-false m.id l.id e in
          let m_rest = not-first l lives m other a.0.3 in
          let less : l.id < m.id = (tail-life l lives m r.1 m_rest).0 in
          let others = later-of m.id a.0.1 (omega arith) hs s.0 a.1 in
          let high : Above (pos m.id) hs = subst (λ i. Above i hs) a.0.1 s.0 in
          let none : look (pos l.id) (h ∷ hs) ≡ None =
          ap (λ i. cond (int_eq i (pos l.id)) (Some h) (look (pos l.id) hs)) a.0.1
          ∙ ap (λ t. cond t (Some h) (look (pos l.id) hs)) (id-eq m.id l.id ∙ e)
          ∙ look-above (pos l.id) hs (above-pos l.id m.id hs less high) in
          subst (λ t. AreDue (map (λ l. due_of (w l.name) l)
          (cond t (l ∷ filter wanted_life lives) (filter wanted_life lives)))
          (cond (wanted_held h) (h ∷ filter wanted_held hs) (filter wanted_held hs)))
          (sym (unheld l lives (h ∷ hs) b none))
          (there ((m, a.0.1, a.0.2, m_rest, a.0.4), others) (λ k f g v. b k (tail-life l lives k r.1 f).1 g v))
