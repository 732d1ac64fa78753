-- What is known of all lives of a lawful history, and of what was given.
use Rattle.std.proofs.Common.{◌≡◌, ℕ, ◌+◌, ◌≤◌, ◌<◌, ◌||◌, ◌==◌, suc, nat_le, Bool, true, false, cond, List, [], ◌∷◌}
use Rattle.std.proofs.Common.{map, length, Option, Some, None, refl, sym, ap, subst, ◌∙◌, inl, inr, arith}
use Rattle.std.specs.List.{list_any, AllByRecursion}
use Rattle.std.proofs.lemmas.Bool.{true≢false, eqb-true, and_from, or_left}
use Rattle.std.proofs.lemmas.Bool.Decides.{nat_tests}
use Rattle.std.proofs.lemmas.Slice.Eq.{bytes_eq-Decides}
use Rattle.nt_topics.specs.Names.{is_special}
use Rattle.nt_rules.specs.Limits.{first_meta}
use Rattle.nt_rules.specs.topics.Puts.{Put}
use Rattle.nt_rules.specs.outbox.Keys.{sets}
use Rattle.nt_rules.specs.outbox.Marks.{is_meta}
use Rattle.nt_rules.specs.declared.topic.Saved.{Saved}
use Rattle.nt_rules.specs.declared.act.Entry.{Entry}
use Rattle.nt_rules.specs.declared.start.Start.{Start}
use Rattle.nt_rules.specs.history.Lives.{Life, Setting, is_living, restored}
use Rattle.nt_rules.specs.history.Now.{now_of}
use Rattle.nt_rules.specs.history.Metas.{meta_lives, all_lives}
use Rattle.nt_rules.specs.history.Answer.{Legal}
use Rattle.nt_rules.specs.history.Saved.{IsSavedSet, IsRestorable}
use Rattle.nt_rules.specs.history.Owed.{account, is_announced, life_at, set_on, settings_after, owed_by}
use Rattle.nt_laws.proofs.histories.Facts.{IsRising, AllBefore, Falling, AllAfter, IsPlaced, place-is}
use Rattle.nt_laws.proofs.topics.OneName.{is_called, HasOneName, lives-named}
use Rattle.nt_laws.proofs.metas.AllLives.{IsNumbered, IsMetaLife, all-rise, clients-below, metas-are, saved-fit}
use Rattle.nt_laws.proofs.metas.MetaRows.{Row, row_of_life, row_of_conn, life_of, meta_rows, rows_by, topic_pubs}
use Rattle.nt_laws.proofs.metas.MetaRows.{topic_subs, client_pubs, client_subs, server_rows, meta-lives}
use Rattle.nt_laws.proofs.metas.MetaGrowth.{has_row, rows_of}
use Rattle.nt_laws.proofs.metas.MetaOrder.{is-numbered, all-rows}
use Rattle.nt_laws.proofs.marks.ClientMarks.{client-life}
use Rattle.nt_laws.proofs.marks.GivenKeys.{IsPast, all-placed, given-past, next-past, unknown-announced, unknown-next}
use Rattle.nt_topics.specs.Trees.{IsOrdered}
use Rattle.nt_rules.specs.history.Trees.{HaveTreesIn, AreTrees}
use Rattle.nt_telling.proofs.Lists.{found-has}
use Rattle.nt_telling.proofs.LifeKeys.{IdsRise}
use Rattle.nt_telling.proofs.Messages.{AreNamedOnce}
use Rattle.nt_telling.proofs.Given.{SettingsRise}
use Rattle.nt_telling.proofs.Growing.{ordered-set}
use Rattle.nt_telling.proofs.Owing.{PutsFall, HasPlaces}
use Rattle.nt_telling.proofs.Handing.{AreGood}
use Rattle.nt_telling.proofs.Entries.{CameTo}
use Rattle.nt_telling.proofs.MetaEntries.{came}
use Rattle.nt_telling.proofs.Stepping.{IsPastOf}
use Rattle.nt_laws.proofs.topics.Turns.{setting-id, setting-name}
use Rattle.nt_laws.proofs.topics.ItemFacts.{each-all, each-append, each-both, each-map, each-more}

-- ---- ids

ids-rise : (from low n : ℕ) (lives : List Life) → low ≤ from → IsRising (λ l. l.id) from n lives → IdsRise low lives
ids-rise from low n [] h r = tt
ids-rise from low n (l ∷ lives) h r = let first =
    r.0 in (omega arith, ids-rise (suc l.id) (l.id + 1) n lives (omega arith) r.2)

-- ---- places

settings-from : (from n : ℕ) (ss : List Setting) → IsRising (λ s. s.place) from n ss
    → AllByRecursion (λ s. from ≤ s.place) ss
settings-from from n [] h = tt
settings-from from n (s ∷ ss) h =
    let low = h.0 in (
      h.0,
      each-more (λ t. suc s.place ≤ t.place) (λ t. from ≤ t.place) (λ t k. omega arith) ss
          (settings-from (suc s.place) n ss h.2),
    )

settings-rise : (from n : ℕ) (ss : List Setting) → IsRising (λ s. s.place) from n ss → SettingsRise ss
settings-rise from n [] h = tt
settings-rise from n (s ∷ ss) h = (
  each-more (λ t. suc s.place ≤ t.place) (λ t. s.place < t.place) (λ t k. omega arith) ss
      (settings-from (suc s.place) n ss h.2),
  settings-rise (suc s.place) n ss h.2,
)

settings-low : (from n : ℕ) (ss : List Setting) → IsRising (λ s. s.place) from n ss
    → AllByRecursion (λ s. s.place ≤ n) ss
settings-low from n [] h = tt
settings-low from n (s ∷ ss) h = (h.1, settings-low (suc s.place) n ss h.2)

puts-before : (n : ℕ) (ps : List Put) → AllBefore n ps → AllByRecursion (λ p. p.place < n) ps
puts-before n [] h = tt
puts-before n (p ∷ ps) h = (h.0, puts-before n ps h.1)

puts-fall : (ps : List Put) → Falling ps → PutsFall ps
puts-fall [] h = tt
puts-fall (p ∷ ps) h = (puts-before p.place ps h.0, puts-fall ps h.1)

puts-from : (turn : ℕ) (ps : List Put) → AllAfter turn ps → AllByRecursion (λ p. turn ≤ p.place) ps
puts-from turn [] h = tt
puts-from turn (p ∷ ps) h = (from turn h.0, puts-from turn ps h.1)
  where
    from : (t : ℕ) → (1 ≤ t → t < p.place) → t ≤ p.place
    from t f = by (nat_le 1 t) refl
      where
        by : (b : Bool) → nat_le 1 t ≡ b → t ≤ p.place
        by true e = let less : t < p.place = f (grind (arith, nat_tests)) in omega arith
        by false e = grind (arith, nat_tests)

has-places : (n : ℕ) (l : Life) → IsPlaced n l → HasPlaces l
has-places n l h = record {
  settings_rise = settings-rise 1 n l.settings h.settings_rise;
  puts_fall = puts-fall l.puts h.puts_fall;
  puts_from = puts-from l.turn l.puts h.puts_after;
}

-- ---- names

-- the names of meta topics are special
special-rows : (ts cs : List Row) → AllByRecursion (λ r. is_special r.name ≡ true) (rows_by ts cs)
special-rows ts cs =
    each-append _ (topic_pubs ts) _ (each-map _ _ ts (each-all _ (λ r. refl) ts))
    (each-append _ (topic_subs ts) _ (each-map _ _ ts (each-all _ (λ r. refl) ts))
    (each-append _ (client_pubs cs) _ (each-map _ _ cs (each-all _ (λ r. refl) cs))
    (each-append _ (client_subs cs) server_rows (each-map _ _ cs (each-all _ (λ r. refl) cs))
    (refl, (refl, (refl, tt))))))

special-metas : (start : Start) (past : List Entry)
    → AllByRecursion (λ l. is_special l.name ≡ true) (meta_lives start past)
special-metas start past =
    subst (AllByRecursion (λ (l : Life). is_special l.name ≡ true)) (sym (meta-lives start past))
    (each-map _ (life_of start past) (meta_rows (now_of start past))
    (special-rows (map row_of_life (now_of start past).lives) (map row_of_conn (now_of start past).connections)))

-- what is known of a life by its id: a meta topic has no changes of properties and a special name
record IsKind (l : Life) : Type 0 where
  no_settings : is_meta l.id ≡ true → l.settings ≡ []
  special : is_meta l.id ≡ true → is_special l.name ≡ true

module _ (start : Start) (past : List Entry) (numbered : IsNumbered start past) where
  kinds : AllByRecursion IsKind (all_lives start past)
  kinds =
      let few = numbered.lives_few in
      each-append IsKind (now_of start past).lives (meta_lives start past)
      (each-more (λ l. is_meta l.id ≡ false) IsKind
      (λ l e. record {
        no_settings = λ f. absurd (true≢false (sym f ∙ e));
        special = λ f.
            absurd (true≢false (sym f ∙ e));
      })
      (now_of start past).lives (clients-below 1 (now_of start past).lives numbered.lives_numbered (omega arith)))
      (each-both (IsMetaLife start past) (λ l. is_special l.name ≡ true) IsKind
      (λ l m s. record { no_settings = λ f. ap (λ (x : Life). x.settings) m.life_is; special = λ f. s })
      (meta_lives start past) (metas-are start past) (special-metas start past))

-- a life that is found passes
any-found : (test : Life → Bool) (k : ℕ) (lives : List Life) (m : Life) → life_at k lives ≡ Some m → test m ≡ true
    → list_any test lives ≡ true
any-found test k [] m e t = cc
any-found test k (x ∷ lives) m e t = by (x.id == k) e (λ f. any-found test k lives m f t)
  where
    by : (b : Bool) → cond b (Some x) (life_at k lives) ≡ Some m
        → (life_at k lives ≡ Some m → list_any test lives ≡ true)
        → (test x || list_any test lives) ≡ true
    by true f more = let same : x ≡ m = cc in or_left (test x) (list_any test lives) (ap test same ∙ t)
    by false f more = ap (λ b. test x || b) (more f) ∙ all (test x)
      where
        all : (b : Bool) → (b || true) ≡ true
        all true = refl
        all false = refl

one-life : (lives : List Life) (l m : Life) → HasOneName lives → life_at l.id lives ≡ Some l
    → life_at m.id lives ≡ Some m
    → is_living l ≡ true → is_living m ≡ true → m.name ≡ l.name → m.id ≡ l.id
one-life [] l m h e f a b n = cc
one-life (x ∷ lives) l m h e f a b n =
    by (x.id == l.id) refl e (x.id == m.id) refl f (λ e f. one-life lives l m h.1 e f a b n)
  where
    -- two of one name
    two : (y z : Life) → x ≡ y → is_living y ≡ true → is_living z ≡ true → z.name ≡ y.name
        → life_at z.id lives ≡ Some z → ⊥
    two y z same live live' names found =
        true≢false (sym (any-found (is_called x.name) z.id lives z found
        (and_from (is_living z) _ live'
        ((bytes_eq-Decides z.name x.name).1 (names ∙ ap (λ (w : Life). w.name) (sym same)))))
        ∙ h.0 (ap is_living same ∙ live))

    by : (s : Bool) → (x.id == l.id) ≡ s → cond s (Some x) (life_at l.id lives) ≡ Some l
        → (t : Bool) → (x.id == m.id) ≡ t → cond t (Some x) (life_at m.id lives) ≡ Some m
        → (life_at l.id lives ≡ Some l → life_at m.id lives ≡ Some m → m.id ≡ l.id) → m.id ≡ l.id
    by true se e true te f more = sym (eqb-true x.id m.id te) ∙ eqb-true x.id l.id se
    by true se e false te f more = let same : x ≡ l = cc in absurd (two l m same a b n f)
    by false se e true te f more = let same : x ≡ m = cc in absurd (two m l same b a (sym n) e)
    by false se e false te f more = more e f

-- ---- properties and names of each life

pub record IsProper (l : Life) : Type 0 where
  pub ordered : l.over ≡ None → IsOrdered l.props
  pub plain : is_meta l.id ≡ false → is_special l.name ≡ false

restored-proper : (id : ℕ) (saved : List Saved) → AllByRecursion (λ (s : Saved). IsOrdered s.props) saved
    → AllByRecursion IsRestorable saved
    → AllByRecursion IsProper (restored id saved)
restored-proper id [] h k = tt
restored-proper id (s ∷ saved) h k =
    (record { ordered = λ e. h.0; plain = λ e. k.0.plain }, restored-proper (id + 1) saved h.1 k.1)

no-place : (p : ℕ) → Some p ≡ None → ⊥
no-place p e = cc

module _ (start : Start) (saved : IsSavedSet start.saved) where
  pub all-proper : (past : List Entry) → AllByRecursion (λ (s : Saved). IsOrdered s.props) start.saved
      → HaveTreesIn past → Legal start past
      → (k : ℕ) (l : Life) → life_at k (all_lives start past) ≡ Some l → IsProper l
  all-proper [] trees published legal k l e =
      found-has IsProper (λ m. m.id == k) (all_lives start []) l
      (each-append IsProper (restored 1 start.saved) (meta_lives start [])
      (restored-proper 1 start.saved trees saved.each)
      (each-more (IsMetaLife start []) IsProper
      (λ m h. record {
        ordered = λ f. subst (λ (x : Life). IsOrdered x.props) (sym h.life_is) tt;
        plain = λ f.
            absurd (true≢false (sym h.is_one ∙ f));
      })
      (meta_lives start []) (metas-are start []))) e
  all-proper (e ∷ past) trees published legal k l' is' =
      by (life_at k (all_lives start past)) refl (all-proper past trees published.1 legal.2 k)
      (subst (CameTo (length past + 1) e.conn (set_on (now_of start past) e.worker e.conn e.deed)
      (life_at k (all_lives start past))) is'
      (came start past e (saved-fit start saved).few legal published.0 k))
    where
      by : (o : Option Life) → life_at k (all_lives start past) ≡ o → ((l : Life) → o ≡ Some l → IsProper l)
          → CameTo (length past + 1) e.conn (set_on (now_of start past) e.worker e.conn e.deed) o (Some l')
          → IsProper l'
      by None is more b = record { ordered = λ f. b.ordered; plain = b.plain }
      by (Some l) is more (inl c) =
          let p = more l refl in
          record {
            ordered = λ f. subst IsOrdered (sym c.0.props_is) (p.ordered (sym c.1 ∙ f));
            plain = λ f. ap is_special c.0.name_is ∙ p.plain (ap is_meta (sym c.0.id_is) ∙ f);
          }
      by (Some l) is more (inr (inl c)) =
          let p = more l refl in
          record {
            ordered = λ f. absurd (no-place (length past + 1) (sym c.1 ∙ f));
            plain = λ f. ap is_special c.3 ∙ p.plain (ap is_meta (sym c.2) ∙ f);
          }
      by (Some l) is more (inr (inr c)) =
          let p = more l refl in
          subst IsProper (sym c.3)
          (record {
            ordered = λ f. ordered-set (length past + 1) e.conn c.0 l (p.ordered c.2);
            plain = λ f.
                ap is_special (setting-name (length past + 1) e.conn c.0 l)
                ∙ p.plain (ap is_meta (sym (setting-id (length past + 1) e.conn c.0 l)) ∙ f);
          })

  module _ (past : List Entry) (trees : AreTrees start past) (legal : Legal start past) where
    numbered : IsNumbered start past
    numbered = is-numbered start past (saved-fit start saved).few legal

    proper : (k : ℕ) (l : Life) → life_at k (all_lives start past) ≡ Some l → IsProper l
    proper = all-proper past trees.saved trees.published legal

    kind-of : (l : Life) → life_at l.id (all_lives start past) ≡ Some l → IsKind l
    kind-of l e = found-has IsKind (λ m. m.id == l.id) (all_lives start past) l (kinds start past numbered) e

    client-of : (l : Life) → is_meta l.id ≡ false → life_at l.id (all_lives start past) ≡ Some l
        → life_at l.id (now_of start past).lives ≡ Some l
    client-of l f e = sym (client-life start past l.id (low l.id f)) ∙ e
      where
        low : (i : ℕ) → is_meta i ≡ false → i < first_meta
        low i g = grind (arith, nat_tests)

    once : AreNamedOnce (all_lives start past)
    once l m e f a b some names = by (is_meta l.id) refl (is_meta m.id) refl
      where
        by : (s : Bool) → is_meta l.id ≡ s → (t : Bool) → is_meta m.id ≡ t → m.id ≡ l.id
        by true g t h = let k = kind-of l e in absurd (some (k.no_settings g))
        by false g true h =
            let k = kind-of m f in
            let p = proper l.id l e in
            absurd (true≢false (sym (k.special h) ∙ ap is_special names ∙ p.plain g))
        by false g false h =
            one-life (now_of start past).lives l m (lives-named start past saved.names) (client-of l g e)
            (client-of m h f) a b names

    pub all-good : AreGood (all_lives start past)
    all-good = record {
      ids = ids-rise 1 0 1610612739 (all_lives start past) (omega arith) (all-rise start past numbered);
      once = once;
      places = each-more (IsPlaced (length past)) HasPlaces (has-places (length past)) (all_lives start past)
          (all-placed start past legal);
    }

    -- ---- what was given

    -- an id without a life has no row
    no-row : (k : ℕ) (lives : List Life) → life_at k lives ≡ None → has_row k (map row_of_life lives) ≡ false
    no-row k [] e = refl
    no-row k (l ∷ lives) e = by (l.id == k) e (no-row k lives)
      where
        by : (b : Bool) → cond b (Some l) (life_at k lives) ≡ None
            → (life_at k lives ≡ None → has_row k (map row_of_life lives) ≡ false)
            → (b || has_row k (map row_of_life lives)) ≡ false
        by true f more = cc
        by false f more = more f

    unknown-row : (k : ℕ) → life_at k (all_lives start past) ≡ None → has_row k (rows_of (now_of start past)) ≡ false
    unknown-row k e = ap (has_row k) (sym (all-rows start past)) ∙ no-row k (all_lives start past) e

-- the places of the changes of properties that a connection is told of are of the past
told-low : (start : Start) (past : List Entry) (conn : ℕ)
    → AllByRecursion (λ p. p ≤ length past) (account start past conn).told_settings
told-low start [] conn = tt
told-low start (e ∷ past) conn = by (set_on (now_of start past) e.worker e.conn e.deed) (told-low start past conn)
  where
    more : (ps : List ℕ) → AllByRecursion (λ p. p ≤ length past) ps → AllByRecursion (λ p. p ≤ suc (length past)) ps
    more ps h = each-more (λ p. p ≤ length past) (λ p. p ≤ suc (length past)) (λ p k. omega arith) ps h

    by : (set : Option ℕ) → AllByRecursion (λ p. p ≤ length past) (account start past conn).told_settings
        → AllByRecursion (λ p. p ≤ suc (length past))
        (settings_after (account start past conn) (owed_by (account start past conn) start past conn) conn
        ((now_of start past).place + 1) e.conn set)
    by None h = more _ h
    by (Some id) h =
        at ((e.conn == conn) || (is_announced (account start past conn) id || list_any (sets id)
        (owed_by (account start past conn) start past conn)))
      where
        at : (b : Bool) → AllByRecursion (λ p. p ≤ suc (length past))
            (cond b (((now_of start past).place + 1) ∷ (account start past conn).told_settings)
            (account start past conn).told_settings)
        at true = (let place = place-is start past in omega arith, more _ h)
        at false = more _ h

pub past-of : (start : Start) (saved : IsSavedSet start.saved) (past : List Entry) (trees : AreTrees start past)
    (legal : Legal start past) (conn : ℕ)
    → IsPastOf (length past) (all_lives start past) (account start past conn)
past-of start saved past trees legal conn =
    let given = given-past start past conn legal in
    record {
      given_low = each-more (IsPast (length past) (rows_of (now_of start past))) (λ g. g.place ≤ length past)
          (λ g h. h.not_later) _ given;
      told_low = told-low start past conn;
      next_low = λ id. next-past (length past) id (rows_of (now_of start past)) (account start past conn).given given;
      settings_low = λ k l e.
          let placed = found-has (IsPlaced (length past)) (λ m. m.id == k) (all_lives start past) l
          (all-placed start past legal) e in
          settings-low 1 (length past) l.settings placed.settings_rise;
      unknown = λ k e.
          let none = unknown-row start saved past trees legal k e in (
            unknown-announced (length past) k (rows_of (now_of start past)) (account start past conn).given given none,
            unknown-next (length past) k (rows_of (now_of start past)) (account start past conn).given given none,
          );
    }
