-- What an outbox is told of meta topics makes of what a history keeps of them what it keeps after the entry.
use Rattle.std.proofs.Common.{◌≡◌, ◌≤◌, ◌<◌, ◌+◌, ◌++◌, ℕ, true, cond, List, [], ◌∷◌, Option, Some, None, map, length}
use Rattle.std.proofs.Common.{refl, sym, ◌∙◌, ap, subst, arith}
use Rattle.std.specs.Str.{bytes_eq}
use Rattle.std.specs.List.{AllByRecursion}
use Rattle.std.proofs.lemmas.Option.{none-some}
use Rattle.std.proofs.lemmas.Slice.Eq.{bytes_eq-Decides}
use Rattle.nt_subs.specs.declared.wish.Wanted.{Wanted}
use Rattle.nt_rules.specs.Limits.{first_meta}
use Rattle.nt_rules.specs.declared.meta.MetaNow.{MetaNow}
use Rattle.nt_rules.specs.outbox.Marks.{Mark}
use Rattle.nt_rules.specs.outbox.Keys.{Key, end_key}
use Rattle.nt_rules.specs.outbox.Marks.{option_items}
use Rattle.nt_rules.specs.declared.act.Entry.{Entry}
use Rattle.nt_rules.specs.declared.start.Start.{Start}
use Rattle.nt_rules.specs.history.Now.{Now, now_of}
use Rattle.nt_rules.specs.history.Metas.{metas_now, meta_place}
use Rattle.nt_rules.specs.history.Owed.{account, wish_for}
use Rattle.nt_rules.specs.history.Marks.{marks_owed}
use Rattle.nt_rules.specs.history.Answer.{Legal}
use Rattle.nt_rules.specs.declared.meta.Difference.TheVariants.{Changed}
use Rattle.nt_rules.specs.history.State.{differences}
use Rattle.nt_laws.proofs.histories.Facts.{place-is}
use Rattle.nt_laws.proofs.metas.AllLives.{IsNumbered}
use Rattle.nt_laws.proofs.marks.MarksById.{look}
use Rattle.nt_laws.proofs.outboxes.OutboxCalls.{Op, run_at, run_at-append, meta_op, difference_op}
use Rattle.nt_laws.proofs.metas.Differences.{meta_of, MetasRise, difference_between}
use Rattle.nt_laws.proofs.marks.GivenKeys.{PastOf, given-past, not-given, next-past, unknown-announced, unknown-next}
use Rattle.nt_laws.proofs.metas.MetaRows.{Row, meta_rows, row_at, metas-rise}
use Rattle.nt_laws.proofs.metas.MetaGrowth.{Grown, RowsGrow, rows_of, metas-grow, grown-at}
use Rattle.nt_laws.proofs.metas.MetaOrder.{meta-rows-rise, unknown-row, meta-none}
use Rattle.nt_laws.proofs.metas.MetaSteps.{told-alone, rewanted-alone}
use Rattle.nt_laws.proofs.metas.MetaMarks.{kept_row, meta-look, kept-alike, Tells, tells-at, IsFresh, IsUnknown}
use Rattle.nt_laws.proofs.metas.MetaMarks.{rewanted-row, told-row}

-- the meta topics of one present differ in nothing
same-difference : (mo : Option MetaNow) → difference_between mo mo ≡ []
same-difference None = refl
same-difference (Some m) =
    let same : bytes_eq m.bytes m.bytes ≡ true = (bytes_eq-Decides m.bytes m.bytes).1 refl in
    ap (λ b. cond b [] (Changed m ∷ [])) same

-- one entry after a history, where ids are numbered as ever, and a connection that is handed nothing
module _ (start : Start) (past : List Entry) (e : Entry) (conn : ℕ) (legal : Legal start past)
    (before : IsNumbered start past) (later : IsNumbered start (e ∷ past))
    (kept_given : (account start (e ∷ past) conn).given ≡ (account start past conn).given) where
  abbrev n : Now
  n = now_of start past

  abbrev n' : Now
  n' = now_of start (e ∷ past)

  abbrev now : ℕ
  now = length past + 1

  abbrev given : List Key
  given = (account start past conn).given

  abbrev wish : List ℕ → Wanted
  wish = wish_for start (e ∷ past) conn

  rise : MetasRise (metas_now n)
  rise = metas-rise n (meta-rows-rise start past before)

  risen : MetasRise (metas_now n')
  risen = metas-rise n' (meta-rows-rise start (e ∷ past) later)

  -- what is told of differences
  told-after : (k : ℕ) → first_meta ≤ k
      → run_at k (map (difference_op now wish) (differences (metas_now n) (metas_now n')))
      (kept_row given wish (meta_place start past k) k (row_at k (meta_rows n)))
      ≡ look k (marks_owed start (e ∷ past) conn)
  told-after k le =
      told-alone k now wish (metas_now n) (metas_now n')
      (kept_row given wish (meta_place start past k) k (row_at k (meta_rows n))) rise risen
      ∙ told-row k now wish given (meta_place start past k) (meta_place start (e ∷ past) k) fresh
      (meta_of k (metas_now n)) (meta_of k (metas_now n'))
      (row_at k (meta_rows n)) (row_at k (meta_rows n'))
      (tells-at n (meta-rows-rise start past before) k)
      (tells-at n' (meta-rows-rise start (e ∷ past) later) k) grown unknown refl
      ∙ ap (λ g. kept_row g wish (meta_place start (e ∷ past) k) k (row_at k (meta_rows n'))) (sym kept_given)
      ∙ sym (meta-look start (e ∷ past) conn later k le)
    where
      all : AllByRecursion (PastOf start past) given
      all = given-past start past conn legal

      fresh : IsFresh k now given
      fresh =
          record {
            next_low = next-past (length past) k (rows_of n) given all;
            no_end = not-given (length past) (rows_of n) given (end_key k now) all (omega arith);
          }

      grown : Grown now (row_at k (meta_rows n)) (row_at k (meta_rows n'))
      grown =
          grown-at now k (meta_rows n) (meta_rows n') (meta-rows-rise start (e ∷ past) later)
          (subst (λ place. RowsGrow (place + 1) (meta_rows n) (meta_rows n')) (place-is start past)
          (metas-grow n e))

      unknown : row_at k (meta_rows n) ≡ None → IsUnknown k given
      unknown none =
          let no_row = unknown-row start past before k le none in
          record {
            unannounced = unknown-announced (length past) k (rows_of n) given all no_row;
            no_value = unknown-next (length past) k (rows_of n) given all no_row;
          }

  -- an entry that leaves the wishes of the connection as they were
  pub metas-told : ((name : List ℕ) → wish_for start (e ∷ past) conn name ≡ wish_for start past conn name)
      → (k : ℕ) → first_meta ≤ k
      → run_at k (map (difference_op (length past + 1) (wish_for start (e ∷ past) conn))
      (differences (metas_now (now_of start past)) (metas_now (now_of start (e ∷ past)))))
      (look k (marks_owed start past conn))
      ≡ look k (marks_owed start (e ∷ past) conn)
  metas-told same k le =
      ap (λ found. run_at k (map (difference_op now wish) (differences (metas_now n) (metas_now n'))) found)
      (meta-look start past conn before k le
      ∙ kept-alike (wish_for start past conn) wish given (meta_place start past k) k (row_at k (meta_rows n))
      (λ name. sym (same name)))
      ∙ told-after k le

  -- one that leaves the meta topics as they were, too
  pub metas-still : ((name : List ℕ) → wish_for start (e ∷ past) conn name ≡ wish_for start past conn name)
      → metas_now (now_of start (e ∷ past)) ≡ metas_now (now_of start past) → (k : ℕ) → first_meta ≤ k
      → look k (marks_owed start past conn) ≡ look k (marks_owed start (e ∷ past) conn)
  metas-still same still k le =
      sym (told-alone k now wish (metas_now n) (metas_now n') (look k (marks_owed start past conn)) rise risen
      ∙ ap (λ ms. run_at k (map (difference_op now wish)
      (difference_between (meta_of k (metas_now n)) (meta_of k ms)))
      (look k (marks_owed start past conn))) still
      ∙ ap (λ ds. run_at k (map (difference_op now wish) ds) (look k (marks_owed start past conn)))
      (same-difference (meta_of k (metas_now n))))
      ∙ metas-told same k le

  -- another wish of the connection, by an entry that begins and ends nothing
  pub metas-rewanted : meta_rows (now_of start (e ∷ past)) ≡ meta_rows (now_of start past) → (k : ℕ)
      → first_meta ≤ k
      → run_at k (map (meta_op (wish_for start past conn) (wish_for start (e ∷ past) conn))
      (metas_now (now_of start (e ∷ past)))
      ++ map (difference_op (length past + 1) (wish_for start (e ∷ past) conn))
      (differences (metas_now (now_of start past)) (metas_now (now_of start (e ∷ past)))))
      (look k (marks_owed start past conn))
      ≡ look k (marks_owed start (e ∷ past) conn)
  metas-rewanted same k le =
      run_at-append k (map (meta_op old wish) (metas_now n')) told (look k (marks_owed start past conn))
      ∙ ap (λ found. run_at k told (run_at k (map (meta_op old wish) (metas_now n')) found))
      (meta-look start past conn before k le)
      ∙ ap (λ found. run_at k told found)
      (rewanted-alone k old wish (metas_now n')
      (kept_row given old (meta_place start past k) k (row_at k (meta_rows n))) risen
      ∙ rewanted-row k old wish given (meta_place start past k) (meta_of k (metas_now n'))
      (row_at k (meta_rows n))
      (subst (λ rows. Tells k (meta_of k (metas_now n')) (row_at k rows)) same
      (tells-at n' (meta-rows-rise start (e ∷ past) later) k)))
      ∙ told-after k le
    where
      old : List ℕ → Wanted
      old name = wish_for start past conn name

      told : List Op
      told = map (difference_op now wish) (differences (metas_now n) (metas_now n'))

  -- what is told of meta topics is told of no other
  no-meta : (k : ℕ) → k < first_meta → (m : Now) (mo : Option MetaNow) (o : Option Row) → Tells k mo o → o
      ≡ None → mo ≡ None
  no-meta k less m None o t e = refl
  no-meta k less m (Some x) None t e = absurd t
  no-meta k less m (Some x) (Some r) t e = absurd (none-some r (sym e))

  none-before : (k : ℕ) → k < first_meta → meta_of k (metas_now (now_of start past)) ≡ None
  none-before k less =
      no-meta k less n (meta_of k (metas_now n)) (row_at k (meta_rows n))
      (tells-at n (meta-rows-rise start past before) k) (meta-none start past before k less)

  none-after : (k : ℕ) → k < first_meta → meta_of k (metas_now (now_of start (e ∷ past))) ≡ None
  none-after k less =
      no-meta k less n' (meta_of k (metas_now n')) (row_at k (meta_rows n'))
      (tells-at n' (meta-rows-rise start (e ∷ past) later) k) (meta-none start (e ∷ past) later k less)

  pub metas-told-below : (place : ℕ) (w : List ℕ → Wanted) (k : ℕ) → k < first_meta → (found : Option Mark)
      → run_at k (map (difference_op place w)
      (differences (metas_now (now_of start past)) (metas_now (now_of start (e ∷ past))))) found ≡ found
  metas-told-below place w k less found =
      told-alone k place w (metas_now n) (metas_now n') found rise risen
      ∙ ap (λ mo. run_at k (map (difference_op place w) (difference_between mo (meta_of k (metas_now n'))))
      found) (none-before k less)
      ∙ ap (λ mo. run_at k (map (difference_op place w) (difference_between None mo)) found)
      (none-after k less)

  pub metas-rewanted-below : (old w : List ℕ → Wanted) (k : ℕ) → k < first_meta → (found : Option Mark)
      → run_at k (map (meta_op old w) (metas_now (now_of start (e ∷ past)))) found ≡ found
  metas-rewanted-below old w k less found =
      rewanted-alone k old w (metas_now n') found risen
      ∙ ap (λ mo. run_at k (map (meta_op old w) (option_items mo)) found) (none-after k less)
