-- What is kept of meta topics after an entry is what the entry's calls make of what was kept before it.
use Rattle.std.proofs.Common.{◌≡◌, ◌≤◌, ◌==◌, ℕ, Bool, true, false, cond, leb, List, [], ◌∷◌, Option, Some, None}
use Rattle.std.proofs.Common.{option_map, map, inl, inr, refl, sym, ◌∙◌, ap, subst, arith}
use Rattle.std.specs.Prelude.{is_none, is_some, bytes_eq}
use Rattle.std.specs.List.{list_any}
use Rattle.std.proofs.lemmas.Bool.Decides.{nat_tests}
use Rattle.std.proofs.lemmas.Option.{same_Some, none-some}
use Rattle.nt_subs.specs.declared.wish.Wanted.{Wanted}
use Rattle.nt_subs.specs.declared.wish.Wanted.TheVariants.{No, TopicOnly, Newest, All}
use Rattle.nt_rules.specs.Limits.{first_meta}
use Rattle.nt_rules.specs.declared.meta.MetaNow.{MetaNow}
use Rattle.nt_rules.specs.outbox.Marks.{Mark}
use Rattle.nt_rules.specs.outbox.Keys.{Key, is_in, announces, end_key, next_value}
use Rattle.nt_rules.specs.outbox.Marks.{fresh, ended, is_meta, meta_wish, changed_meta, rewanted_meta, option_items}
use Rattle.nt_rules.specs.declared.act.Entry.{Entry}
use Rattle.nt_rules.specs.history.Lives.{Life}
use Rattle.nt_rules.specs.declared.start.Start.{Start}
use Rattle.nt_rules.specs.history.Now.{Now, now_of}
use Rattle.nt_rules.specs.history.Metas.{same_bytes, metas_now, meta_place, all_lives}
use Rattle.nt_rules.specs.history.Owed.{Account, account, is_announced, wish_for, wish_on, since_for}
use Rattle.nt_rules.specs.history.Marks.{mark_of, meta_mark, topic_mark, marks_owed}
use Rattle.nt_rules.specs.declared.meta.Difference.TheVariants.{Changed}
use Rattle.nt_laws.proofs.metas.AllLives.{IsNumbered}
use Rattle.nt_laws.proofs.marks.MarksById.{look, keep_opt, or_fresh, kept_of, look-marks_by}
use Rattle.nt_laws.proofs.outboxes.OutboxCalls.{run_at, meta_op, difference_op}
use Rattle.nt_laws.proofs.metas.Differences.{meta_of, difference_between}
use Rattle.nt_laws.proofs.metas.MetaRows.{Row, row_of_meta, meta_rows, row_at, life_of, living_row, RowsRise}
use Rattle.nt_laws.proofs.metas.MetaRows.{meta-found}
use Rattle.nt_laws.proofs.metas.MetaGrowth.{Grown}
use Rattle.nt_laws.proofs.metas.MetaOrder.{lives-rise, meta-life}
use Rattle.nt_laws.proofs.metas.MetaSteps.{live, dead, began-step, changed-step, rewanted-step, ended-step}

-- ---- what is kept of a row

-- the mark of a meta topic with this id, whose bytes changed last at a place
abbrev pub row_mark : List Key → (List ℕ → Wanted) → ℕ → ℕ → List ℕ → Option ℕ → Mark
row_mark given wish place k name None =
    live k name (list_any (announces k) given) (leb (next_value given k) place) (meta_wish (wish name))
row_mark given wish place k name (Some end) =
    dead k name (cond (list_any (announces k) given) (cond (is_in given (end_key k end)) None (Some end))
    None)

abbrev pub kept_row : List Key → (List ℕ → Wanted) → ℕ → ℕ → Option Row → Option Mark
kept_row given wish place k None = None
kept_row given wish place k (Some r) = keep_opt (row_mark given wish place k r.name r.over)

-- the row has this id
abbrev pub RowHas : ℕ → Option Row → Type 0
RowHas k None = Unit {0}
RowHas k (Some r) = r.id ≡ k

row-has : (k : ℕ) (rows : List Row) → RowHas k (row_at k rows)
row-has k [] = tt
row-has k (r ∷ rows) = by (r.id == k) refl (row-has k rows)
  where
    by : (b : Bool) → (r.id == k) ≡ b → RowHas k (row_at k rows) → RowHas k (cond b (Some r) (row_at k rows))
    by true e more = grind (arith, nat_tests)
    by false e more = more

-- the mark of a meta topic that goes on
live-is : (a : Account) (start : Start) (past : List Entry) (r : Row) (w : Wanted)
    → meta_mark a w (life_of start past r)
    ≡ live r.id r.name (is_announced a r.id) (leb (next_value a.given r.id) (meta_place start past r.id)) w
live-is a start past r w = same w ∙ by (leb (next_value a.given r.id) (meta_place start past r.id)) w
  where
    newest_by : Wanted → Option ℕ → Option ℕ
    newest_by Newest o = o
    newest_by w o = None

    made : Wanted → Bool → Mark
    made w b =
        let o = cond b (Some (meta_place start past r.id)) None in
        record (fresh r.id r.name) {
          is_announced = is_announced a r.id;
          next = cond (is_some o) 0 1;
          wish = w;
          newest = option_map (λ place. 0) (newest_by w o);
        }

    same : (w : Wanted)
        → meta_mark a w (life_of start past r)
        ≡ made w (leb (next_value a.given r.id) (meta_place start past r.id))
    same No = refl
    same TopicOnly = refl
    same Newest = refl
    same All = refl

    by : (b : Bool) (w : Wanted) → made w b ≡ live r.id r.name (is_announced a r.id) b w
    by true No = refl
    by true TopicOnly = refl
    by true Newest = refl
    by true All = refl
    by false No = refl
    by false TopicOnly = refl
    by false Newest = refl
    by false All = refl

mark-is : (a : Account) (conn : ℕ) (wish : List ℕ → Wanted) (since : Life → ℕ) (start : Start)
    (past : List Entry) (k : ℕ) (r : Row)
    → is_meta k ≡ true → r.id ≡ k
    → mark_of a conn (wish_on wish) since (life_of start past r)
    ≡ row_mark a.given wish (meta_place start past k) k r.name r.over
mark-is a conn wish since start past k r meta same =
    subst (λ k. is_meta k ≡ true → mark_of a conn (wish_on wish) since (life_of start past r)
    ≡ row_mark a.given wish (meta_place start past k) k r.name r.over)
    same (λ m. by m r.over refl) meta
  where
    by : is_meta r.id ≡ true → (over : Option ℕ) → r.over ≡ over
        → mark_of a conn (wish_on wish) since (life_of start past r)
        ≡ row_mark a.given wish (meta_place start past r.id) r.id r.name over
    by m None e =
        ap (λ o. mark_of a conn (wish_on wish) since (life_of start past (record r { over = o }))) e
        ∙ ap (λ b. cond b (meta_mark a (cond b (meta_wish (wish r.name)) (wish r.name))
        (life_of start past (record r { over = None })))
        (topic_mark a conn (cond b (meta_wish (wish r.name)) (wish r.name))
        (since (life_of start past (record r { over = None })))
        (life_of start past (record r { over = None })))) m
        ∙ live-is a start past (record r { over = None }) (meta_wish (wish r.name))
    by m (Some end) e = ap (λ o. mark_of a conn (wish_on wish) since
        (life_of start past (record r { over = o }))) e

-- what is found of a history at the id of a meta topic
pub meta-look : (start : Start) (past : List Entry) (conn : ℕ) → IsNumbered start past → (k : ℕ)
    → first_meta ≤ k
    → look k (marks_owed start past conn)
    ≡ kept_row (account start past conn).given (wish_for start past conn) (meta_place start past k) k
    (row_at k (meta_rows (now_of start past)))
meta-look start past conn numbered k le =
    look-marks_by k a conn (wish_on wish) since (all_lives start past) (lives-rise start past numbered)
    ∙ ap (kept_of (mark_of a conn (wish_on wish) since)) (meta-life start past numbered k le)
    ∙ by (row_at k (meta_rows (now_of start past))) (row-has k (meta_rows (now_of start past)))
  where
    a : Account
    a = account start past conn

    wish : List ℕ → Wanted
    wish name = wish_for start past conn name

    since : Life → ℕ
    since = since_for start past conn

    by : (o : Option Row) → RowHas k o
        → kept_of (mark_of a conn (wish_on wish) since) (option_map (life_of start past) o)
        ≡ kept_row a.given wish (meta_place start past k) k o
    by None h = refl
    by (Some r) h = ap keep_opt (mark-is a conn wish since start past k r (grind (arith, nat_tests)) h)

-- equal wishes keep the same
pub kept-alike : (v w : List ℕ → Wanted) (given : List Key) (place k : ℕ) (o : Option Row)
    → ((name : List ℕ) → v name ≡ w name)
    → kept_row given v place k o ≡ kept_row given w place k o
kept-alike v w given place k None same = refl
kept-alike v w given place k (Some r) same = by r.over
  where
    by : (over : Option ℕ) → keep_opt (row_mark given v place k r.name over)
        ≡ keep_opt (row_mark given w place k r.name over)
    by None = ap (λ x. keep_opt
        (live k r.name (list_any (announces k) given) (leb (next_value given k) place) (meta_wish x)))
        (same r.name)
    by (Some end) = refl

-- ---- rows and what is told of them

-- the meta topic that lives with an id is that of the row there, where it doesn't end
abbrev pub Tells : ℕ → Option MetaNow → Option Row → Type 0
Tells k None None = Unit {0}
Tells k None (Some r) = is_none r.over ≡ false
Tells k (Some m) None = ⊥
Tells k (Some m) (Some r) = (m.id ≡ k) × (m.name ≡ r.name) × (is_none r.over ≡ true)

tells-by : (k : ℕ) (mo : Option MetaNow) (o : Option Row) → RowHas k o → option_map row_of_meta mo
    ≡ living_row o → Tells k mo o
tells-by k None None h e = tt
tells-by k None (Some r) h e = by (is_none r.over) e
  where
    by : (b : Bool) → None ≡ cond b (Some r) None → b ≡ false
    by true e = absurd (none-some r e)
    by false e = refl
tells-by k (Some m) None h e = none-some (row_of_meta m) (sym e)
tells-by k (Some m) (Some r) h e = by (is_none r.over) refl e
  where
    by : (b : Bool) → is_none r.over ≡ b → Some (row_of_meta m) ≡ cond b (Some r) None
        → (m.id ≡ k) × (m.name ≡ r.name) × (is_none r.over ≡ true)
    by true f e =
        let same : row_of_meta m ≡ r = same_Some (row_of_meta m) r e in
        (ap (λ (r : Row). r.id) same ∙ h, ap (λ (r : Row). r.name) same, f)
    by false f e = absurd (none-some (row_of_meta m) (sym e))

pub tells-at : (n : Now) → RowsRise (meta_rows n) → (k : ℕ)
    → Tells k (meta_of k (metas_now n)) (row_at k (meta_rows n))
tells-at n rise k =
    tells-by k (meta_of k (metas_now n)) (row_at k (meta_rows n)) (row-has k (meta_rows n))
    (meta-found n rise k)

not-over : (o : Option ℕ) → is_none o ≡ true → o ≡ None
not-over None e = refl
not-over (Some p) e = absurd (cc)

-- one call at its id
step-here : (k id : ℕ) (name : List ℕ) (f : Mark → Mark) (found : Option Mark) → id ≡ k
    → run_at k (record { id = Some id; name = name; f = f } ∷ []) found ≡ keep_opt (f (or_fresh k name found))
step-here k id name f found same =
    let here : (k == id) ≡ true = grind (arith, nat_tests) in
    ap (λ b. cond b (keep_opt (f (or_fresh k name found))) found) here

-- another wish
pub rewanted-row : (k : ℕ) (old wish : List ℕ → Wanted) (given : List Key) (place : ℕ) (mo : Option MetaNow)
    (o : Option Row) → Tells k mo o
    → run_at k (map (meta_op old wish) (option_items mo)) (kept_row given old place k o)
    ≡ kept_row given wish place k o
rewanted-row k old wish given place None None t = refl
rewanted-row k old wish given place None (Some r) t = by r.over t
  where
    by : (over : Option ℕ) → is_none over ≡ false
        → keep_opt (row_mark given old place k r.name over)
        ≡ keep_opt (row_mark given wish place k r.name over)
    by None e = absurd (cc)
    by (Some end) e = refl
rewanted-row k old wish given place (Some m) None t = absurd t
rewanted-row k old wish given place (Some m) (Some r) t =
    step-here k m.id m.name (rewanted_meta (old m.name) (wish m.name)) (kept_row given old place k (Some r))
    t.0
    ∙ ap (λ over. keep_opt (rewanted_meta (old m.name) (wish m.name)
    (or_fresh k m.name (keep_opt (row_mark given old place k r.name over))))) (not-over r.over t.2)
    ∙ ap (λ name. keep_opt (rewanted_meta (old name) (wish name)
    (or_fresh k name (keep_opt (row_mark given old place k r.name None))))) t.1
    ∙ rewanted-step k r.name (list_any (announces k) given) (leb (next_value given k) place) (old r.name)
    (wish r.name)
    ∙ sym (ap (λ over. keep_opt (row_mark given wish place k r.name over)) (not-over r.over t.2))

-- what holds of the keys that were given, of one id and the present place
pub record IsFresh (k place : ℕ) (given : List Key) : Type 0 where
  pub next_low : next_value given k ≤ place
  pub no_end : is_in given (end_key k place) ≡ false

-- nothing of this id was given
pub record IsUnknown (k : ℕ) (given : List Key) : Type 0 where
  pub unannounced : list_any (announces k) given ≡ false
  pub no_value : next_value given k ≡ 0

-- the bytes of a meta topic
abbrev bytes_of : Option MetaNow → Option (List ℕ)
bytes_of mo = option_map (λ m. m.bytes) mo

module _ (k now : ℕ) (wish : List ℕ → Wanted) (given : List Key) (place next : ℕ)
    (fresh_is : IsFresh k now given) where
  -- what is different between two meta topics of this id leads from what is kept of a row to what is kept of
  -- another
  abbrev Told : Option MetaNow → Option MetaNow → Option Row → Option Row → Type 0
  Told mo mo' o o' =
      run_at k (map (difference_op now wish) (difference_between mo mo')) (kept_row given wish place k o)
      ≡ kept_row given wish next k o'

  -- the value is due at the present
  due : (n : ℕ) → n ≡ now → leb (next_value given k) n ≡ true
  due n e = let low = fresh_is.next_low in grind (arith, nat_tests)

  told-began : (m : MetaNow) (s : Row) → Tells k (Some m) (Some s) → IsUnknown k given → next ≡ now
      → Told None (Some m) None (Some s)
  told-began m s t unknown e =
      step-here k m.id m.name (rewanted_meta No (wish m.name)) None t.0
      ∙ ap (λ name. keep_opt (rewanted_meta No (wish name) (fresh k name))) t.1
      ∙ began-step k s.name (wish s.name)
      ∙ sym (ap (λ over. keep_opt (row_mark given wish next k s.name over)) (not-over s.over t.2)
      ∙ ap (λ b. keep_opt (live k s.name b (leb (next_value given k) next) (meta_wish (wish s.name))))
      unknown.unannounced
      ∙ ap (λ b. keep_opt (live k s.name false b (meta_wish (wish s.name)))) (due next e))

  told-changed : (m m' : MetaNow) (r : Row) → Tells k (Some m) (Some r) → Tells k (Some m') (Some r)
      → (b : Bool) → bytes_eq m.bytes m'.bytes ≡ b → next ≡ cond b place now
      → Told (Some m) (Some m') (Some r) (Some r)
  told-changed m m' r t t' true f e =
      ap (λ b. run_at k (map (difference_op now wish) (cond b [] (Changed m' ∷ [])))
      (kept_row given wish place k (Some r))) f
      ∙ ap (λ n. kept_row given wish n k (Some r)) (sym e)
  told-changed m m' r t t' false f e =
      ap (λ b. run_at k (map (difference_op now wish) (cond b [] (Changed m' ∷ [])))
      (kept_row given wish place k (Some r))) f
      ∙ step-here k m'.id m'.name (changed_meta (wish m'.name)) (kept_row given wish place k (Some r)) t'.0
      ∙ ap (λ over. keep_opt (changed_meta (wish m'.name)
      (or_fresh k m'.name (keep_opt (row_mark given wish place k r.name over))))) (not-over r.over t.2)
      ∙ ap (λ name. keep_opt (changed_meta (wish name)
      (or_fresh k name (keep_opt (row_mark given wish place k r.name None))))) t'.1
      ∙ changed-step k r.name (list_any (announces k) given) (leb (next_value given k) place)
      (meta_wish (wish r.name)) (wish r.name)
      ∙ sym (ap (λ over. keep_opt (row_mark given wish next k r.name over)) (not-over r.over t.2)
      ∙ ap (λ b. keep_opt (live k r.name (list_any (announces k) given) b (meta_wish (wish r.name))))
      (due next e))

  told-ended : (m : MetaNow) (r : Row) → Tells k (Some m) (Some r)
      → Told (Some m) None (Some r) (Some (record r { over = Some now }))
  told-ended m r t =
      step-here k m.id [] (ended now) (kept_row given wish place k (Some r)) t.0
      ∙ ap (λ over. keep_opt (ended now (or_fresh k [] (keep_opt (row_mark given wish place k r.name over)))))
      (not-over r.over t.2)
      ∙ ended-step k r.name (list_any (announces k) given) (leb (next_value given k) place)
      (meta_wish (wish r.name)) now
      ∙ ap (λ b. keep_opt (dead k r.name (cond (list_any (announces k) given) (cond b None (Some now)) None)))
      (sym fresh_is.no_end)

  told-over : (r : Row) → is_none r.over ≡ false → Told None None (Some r) (Some r)
  told-over r e = by r.over e
    where
      by : (over : Option ℕ) → is_none over ≡ false
          → keep_opt (row_mark given wish place k r.name over)
          ≡ keep_opt (row_mark given wish next k r.name over)
      by None e = absurd (cc)
      by (Some end) e = refl

  told-stays : (mo mo' : Option MetaNow) (r : Row) → Tells k mo (Some r) → Tells k mo' (Some r)
      → next ≡ cond (same_bytes (bytes_of mo) (bytes_of mo')) place now → Told mo mo' (Some r) (Some r)
  told-stays None None r t t' e = told-over r t
  told-stays None (Some m') r t t' e = let f = t'.2 in absurd (cc)
  told-stays (Some m) None r t t' e = let f = t.2 in absurd (cc)
  told-stays (Some m) (Some m') r t t' e = told-changed m m' r t t' (bytes_eq m.bytes m'.bytes) refl e

  told-ends : (mo mo' : Option MetaNow) (r : Row) → r.over ≡ None → Tells k mo (Some r)
      → Tells k mo' (Some (record r { over = Some now }))
      → Told mo mo' (Some r) (Some (record r { over = Some now }))
  told-ends None mo' r over t t' = let f : true ≡ false = ap is_none (sym over) ∙ t in absurd (cc)
  told-ends (Some m) None r over t t' = told-ended m r t
  told-ends (Some m) (Some m') r over t t' = let f = t'.2 in absurd (cc)

  pub told-row : (mo mo' : Option MetaNow) (o o' : Option Row) → Tells k mo o → Tells k mo' o'
      → Grown now o o'
      → (o ≡ None → IsUnknown k given) → next ≡ cond (same_bytes (bytes_of mo) (bytes_of mo')) place now
      → Told mo mo' o o'
  told-row None None None None t t' g unknown e = refl
  told-row None (Some m') None None t t' g unknown e = absurd t'
  told-row None None None (Some s) t t' g unknown e = let f : true ≡ false = ap is_none (sym g) ∙ t'
      in absurd (cc)
  told-row None (Some m') None (Some s) t t' g unknown e = told-began m' s t' (unknown refl) e
  told-row (Some m) mo' None o' t t' g unknown e = absurd t
  told-row mo mo' (Some r) None t t' g unknown e = absurd g
  told-row mo mo' (Some r) (Some s) t t' (inl same) unknown e =
      subst (λ s. Tells k mo' (Some s) → Told mo mo' (Some r) (Some s)) (sym same)
      (λ t'. told-stays mo mo' r t t' e) t'
  told-row mo mo' (Some r) (Some s) t t' (inr ends) unknown e =
      subst (λ s. Tells k mo' (Some s) → Told mo mo' (Some r) (Some s)) (sym ends.1)
      (λ t'. told-ends mo mo' r ends.0 t t') t'
