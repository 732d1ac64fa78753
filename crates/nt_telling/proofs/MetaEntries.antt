-- What an entry makes of the life of each id, meta topics among them.
use Rattle.std.proofs.Common.{◌≡◌, ℕ, ◌+◌, ◌≤◌, ◌<◌, ◌==◌, Bool, true, false, cond, List, [], ◌∷◌, length, Option, Some}
use Rattle.std.proofs.Common.{None, option_map, unwrap_or, nat_le, refl, sym, ap, subst, ◌∙◌, ◌⊎◌, inl, inr, arith}
use Rattle.std.proofs.lemmas.Bool.{true≢false, eqb-true, ne_eqb}
use Rattle.std.proofs.lemmas.Bool.Decides.{nat_tests}
use Rattle.std.proofs.lemmas.Slice.Eq.{bytes_eq-Decides}
use Rattle.nt_values.specs.declared.value.Value.TheVariants.{Bytes}
use Rattle.nt_rules.specs.Limits.{first_meta}
use Rattle.nt_rules.specs.outbox.Marks.{is_meta}
use Rattle.nt_rules.specs.declared.act.Entry.{Entry}
use Rattle.nt_rules.specs.declared.start.Start.{Start}
use Rattle.nt_rules.specs.history.Lives.{Life}
use Rattle.nt_rules.specs.history.Now.{now_of}
use Rattle.nt_rules.specs.history.Metas.{meta_life, meta_place, meta_at, metas_now, same_bytes, all_lives}
use Rattle.nt_rules.specs.history.Answer.{Legal}
use Rattle.nt_rules.specs.history.Owed.{life_at, set_on}
use Rattle.nt_laws.proofs.histories.Facts.{place-is}
use Rattle.nt_laws.proofs.topics.FoundLives.{life-past}
use Rattle.nt_laws.proofs.metas.AllLives.{IsNumbered}
use Rattle.nt_laws.proofs.metas.MetaRows.{Row, life_of, meta_rows, row_at}
use Rattle.nt_laws.proofs.metas.MetaGrowth.{Grown, grown-at, metas-grow}
use Rattle.nt_laws.proofs.metas.MetaOrder.{FewSaved, is-numbered, meta-life, meta-rows-rise}
use Rattle.nt_laws.proofs.marks.ClientMarks.{client-life}
use Rattle.nt_rules.specs.history.Trees.{HasTreeIn}
use Rattle.nt_telling.proofs.Messages.{put_at}
use Rattle.nt_telling.proofs.Growing.{Stays}
use Rattle.nt_telling.proofs.Entries.{Came, CameTo, client-came, set-found}

-- ---- a meta topic

same-bytes : (a b : Option (List ℕ)) → same_bytes a b ≡ true → a ≡ b
same-bytes None None e = refl
same-bytes (Some a) (Some b) e = ap (λ (x : List ℕ). Some x) ((bytes_eq-Decides a b).0 e)
same-bytes None (Some b) e = absurd (true≢false (sym e))
same-bytes (Some a) None e = absurd (true≢false (sym e))

-- its value stays, or was taken at the place of the entry
meta-stays : (start : Start) (past : List Entry) (e : Entry) (id : ℕ) (name : List ℕ) (over over' : Option ℕ)
    → Stays (length past + 1) (meta_life start past id name over) (meta_life start (e ∷ past) id name over')
meta-stays start past e id name over over' = record {
  id_is = refl;
  name_is = refl;
  typ_is = refl;
  props_is = refl;
  turn_is = refl;
  settings_is = refl;
  puts_are = λ q low. puts q low (same_bytes before now) refl;
  bounded = λ next low h. bound next low h (same_bytes before now);
}
  where
    before : Option (List ℕ)
    before = meta_at id (metas_now (now_of start past))

    now : Option (List ℕ)
    now = meta_at id (metas_now (now_of start (e ∷ past)))

    puts : (q : ℕ) → q < length past + 1 → (b : Bool)
        → same_bytes (meta_at id (metas_now (now_of start past))) (meta_at id (metas_now (now_of start (e ∷ past)))) ≡ b
        → (put_at q (meta_life start (e ∷ past) id name over') ≡ put_at q (meta_life start past id name over))
        ⊎ (put_at q (meta_life start (e ∷ past) id name over') ≡ None)
    puts q low true s =
        let bytes = same-bytes (meta_at id (metas_now (now_of start past)))
        (meta_at id (metas_now (now_of start (e ∷ past)))) s in
        inl ((λ i. cond ((cond (s i) (meta_place start past id) (length past + 1)) == q)
        (Some (record {
          place = cond (s i) (meta_place start past id) (length past + 1);
          time = 0;
          value = Bytes (unwrap_or (meta_at id (metas_now (now_of start (e ∷ past)))) []);
        })) None)
        ∙ (λ i. cond (meta_place start past id == q)
        (Some (record { place = meta_place start past id; time = 0; value = Bytes (unwrap_or (sym bytes i) []) }))
        None))
    puts q low false s =
        inr ((λ i. cond ((cond (s i) (meta_place start past id) (length past + 1)) == q)
        (Some (record {
          place = cond (s i) (meta_place start past id) (length past + 1);
          time = 0;
          value = Bytes (unwrap_or (meta_at id (metas_now (now_of start (e ∷ past)))) []);
        })) None)
        ∙ ap (λ t. cond t (Some (record {
          place = length past + 1;
          time = 0;
          value =
              Bytes (unwrap_or (meta_at id (metas_now (now_of start (e ∷ past)))) []);
        })) None)
        (ne_eqb (length past + 1) q (λ f. absurd (omega arith))))

    bound : (next : ℕ) → next ≤ length past + 1 → next ≤ meta_place start past id + 1 → (b : Bool)
        → next ≤ cond b (meta_place start past id) (length past + 1) + 1
    bound next low h true = h
    bound next low h false = omega arith

-- the names of meta topics are special
-- ---- the life of each id

module _ (start : Start) (past : List Entry) (e : Entry) (few : FewSaved start) (legal : Legal start (e ∷ past)) where
  numbered : IsNumbered start past
  numbered = is-numbered start past few legal.2

  numbered' : IsNumbered start (e ∷ past)
  numbered' = is-numbered start (e ∷ past) few legal

  place : (now_of start past).place + 1 ≡ length past + 1
  place = ap (λ p. p + 1) (place-is start past)

  -- none of the changes of properties is of a meta topic
  meta-unset : (k : ℕ) → first_meta ≤ k → set_on (now_of start past) e.worker e.conn e.deed ≡ Some k → ⊥
  meta-unset k high s =
      let found = set-found (now_of start past) e.worker e.conn numbered.lives_numbered e.deed k s in
      let few-lives = numbered.lives_few in
      let none : life_at k (now_of start past).lives ≡ None =
      life-past 1 k (now_of start past).lives numbered.lives_numbered (omega arith) in
      none-some found.0 (sym none ∙ found.1)
    where
      none-some : (l : Life) → None ≡ Some l → ⊥
      none-some l f = cc

  meta-came : (k : ℕ) → first_meta ≤ k → (r s : Option Row)
      → ((x : Row) → r ≡ Some x → x.id ≡ k) → ((x : Row) → s ≡ Some x → x.id ≡ k)
      → Grown ((now_of start past).place + 1) r s
      → CameTo (length past + 1) e.conn (set_on (now_of start past) e.worker e.conn e.deed)
      (option_map (life_of start past) r) (option_map (life_of start (e ∷ past)) s)
  meta-came k high None None ids ids' g = tt
  meta-came k high None (Some s) ids ids' g =
      record {
        living = g;
        settings_none = refl;
        ordered = tt;
        plain = λ f. absurd (true≢false (sym (is_one s.id (subst (λ i. first_meta ≤ i) (sym (ids' s refl)) high)) ∙ f));
      }
    where
      is_one : (i : ℕ) → first_meta ≤ i → is_meta i ≡ true
      is_one i h = grind (arith, nat_tests)
  meta-came k high (Some r) None ids ids' g = absurd g
  meta-came k high (Some r) (Some s) ids ids' (inl same) =
      subst (λ (x : Row). Came (length past + 1) e.conn (set_on (now_of start past) e.worker e.conn e.deed)
      (life_of start past r) (life_of start (e ∷ past) x)) (sym same)
      (inl (
        meta-stays start past e r.id r.name r.over r.over,
        refl,
        λ f.
            meta-unset k high (f ∙ ap (λ i. Some i) (ids r refl)),
      ))
  meta-came k high (Some r) (Some s) ids ids' (inr ended) =
      subst (λ (x : Row). Came (length past + 1) e.conn (set_on (now_of start past) e.worker e.conn e.deed)
      (life_of start past r) (life_of start (e ∷ past) x)) (sym ended.1)
      (inr (inl (ended.0, ap (λ p. Some p) place, refl, refl)))

  row-id : (k : ℕ) (rows : List Row) (x : Row) → row_at k rows ≡ Some x → x.id ≡ k
  row-id k [] x f = cc
  row-id k (r ∷ rows) x f = by (r.id == k) refl f (row-id k rows x)
    where
      by : (b : Bool) → (r.id == k) ≡ b → cond b (Some r) (row_at k rows) ≡ Some x
          → (row_at k rows ≡ Some x → x.id ≡ k) → x.id ≡ k
      by true g f more = let same : r ≡ x = cc in ap (λ (y : Row). y.id) (sym same) ∙ eqb-true r.id k g
      by false g f more = more f

  pub came : HasTreeIn e.deed → (k : ℕ)
      → CameTo (length past + 1) e.conn (set_on (now_of start past) e.worker e.conn e.deed)
      (life_at k (all_lives start past)) (life_at k (all_lives start (e ∷ past)))
  came tree k = by (nat_le first_meta k) refl
    where
      by : (b : Bool) → nat_le first_meta k ≡ b
          → CameTo (length past + 1) e.conn (set_on (now_of start past) e.worker e.conn e.deed)
          (life_at k (all_lives start past)) (life_at k (all_lives start (e ∷ past)))
      by true h =
          let high : first_meta ≤ k = grind (arith, nat_tests) in
          subst (λ o. CameTo (length past + 1) e.conn (set_on (now_of start past) e.worker e.conn e.deed) o
          (life_at k (all_lives start (e ∷ past))))
          (sym (meta-life start past numbered k high))
          (subst (CameTo (length past + 1) e.conn (set_on (now_of start past) e.worker e.conn e.deed)
          (option_map (life_of start past) (row_at k (meta_rows (now_of start past)))))
          (sym (meta-life start (e ∷ past) numbered' k high))
          (meta-came k high (row_at k (meta_rows (now_of start past))) (row_at k (meta_rows (now_of start (e ∷ past))))
          (row-id k (meta_rows (now_of start past))) (row-id k (meta_rows (now_of start (e ∷ past))))
          (grown-at ((now_of start past).place + 1) k (meta_rows (now_of start past))
          (meta_rows (now_of start (e ∷ past)))
          (meta-rows-rise start (e ∷ past) numbered') (metas-grow (now_of start past) e))))
      by false h =
          let low : k < first_meta = grind (arith, nat_tests) in
          subst (λ o. CameTo (length past + 1) e.conn (set_on (now_of start past) e.worker e.conn e.deed) o
          (life_at k (all_lives start (e ∷ past))))
          (sym (client-life start past k low))
          (subst (CameTo (length past + 1) e.conn (set_on (now_of start past) e.worker e.conn e.deed)
          (life_at k (now_of start past).lives))
          (sym (client-life start (e ∷ past) k low))
          (subst (λ p. CameTo p e.conn (set_on (now_of start past) e.worker e.conn e.deed)
          (life_at k (now_of start past).lives) (life_at k (now_of start (e ∷ past)).lives)) place
          (client-came (now_of start past) e.worker e.conn numbered.lives_numbered e.deed tree k)))
