-- Topics of which nothing has to be kept are no part of what is told of all.
use Rattle.std.proofs.Common.{◌≡◌, ◌+◌, ◌==◌, ◌&&◌, ◌∙◌, ℕ, zero, suc, Bool, true, false, cond, eqb, ltb, not, List, [], ◌∷◌, Option, Some, None, is_none, length, set, map, filter, refl, sym, ap, subst, arith}
use Rattle.nt_rules.specs.declared.waiting.Placed.{Placed}
use Rattle.nt_rules.specs.declared.waiting.Setting.{Setting}
use Rattle.nt_rules.specs.declared.waiting.Publish.{Publish}
use Rattle.nt_rules.specs.outbox.Keys.{Key, topic_key}
use Rattle.nt_rules.specs.outbox.Marks.{Mark, is_blank, is_empty, is_wish, fresh, unless_blank, at_id, option_items, mark_weight, weight, handed, handed_all}
use Rattle.nt_outbox.specs.Steps.{owes, mark_count, count, owing_ids, IsSound, HasNoBlank}
use Rattle.nt_outbox.proofs.Places.{rise-filter}
use Rattle.nt_outbox.proofs.Weights.{blank-weight}

-- ---- none is blank

pub no-blank-at_id : (id : ℕ) (name : List ℕ) (f : Mark → Mark) (ms : List Mark) → HasNoBlank ms
    → HasNoBlank (at_id id name f ms)
no-blank-at_id id name f [] h = kept (f (fresh id name)) [] tt
  where
    kept : (x : Mark) (xs : List Mark) → HasNoBlank xs → HasNoBlank (unless_blank x xs)
    kept x xs all = by (is_blank x) refl
      where
        by : (b : Bool) → is_blank x ≡ b → HasNoBlank (cond b xs (x ∷ xs))
        by true e = all
        by false e = (e, all)
no-blank-at_id id name f (m ∷ ms) h = by (eqb m.id id) (ltb id m.id) (no-blank-at_id id name f ms h.1)
  where
    kept : (x : Mark) (xs : List Mark) → HasNoBlank xs → HasNoBlank (unless_blank x xs)
    kept x xs all = by (is_blank x) refl
      where
        by : (b : Bool) → is_blank x ≡ b → HasNoBlank (cond b xs (x ∷ xs))
        by true e = all
        by false e = (e, all)

    by : (b c : Bool) → HasNoBlank (at_id id name f ms)
        → HasNoBlank (cond b (unless_blank (f m) ms)
        (cond c (unless_blank (f (fresh id name)) (m ∷ ms)) (m ∷ at_id id name f ms)))
    by true c more = kept (f m) ms h.1
    by false true more = kept (f (fresh id name)) (m ∷ ms) h
    by false false more = (h.0, more)

pub no-blank-filter : (ms : List Mark) → HasNoBlank (filter (λ m. not (is_blank m)) ms)
no-blank-filter [] = tt
no-blank-filter (m ∷ ms) = by (is_blank m) refl (no-blank-filter ms)
  where
    by : (b : Bool) → is_blank m ≡ b → HasNoBlank (filter (λ m. not (is_blank m)) ms)
        → HasNoBlank (cond (not b) (m ∷ filter (λ m. not (is_blank m)) ms) (filter (λ m. not (is_blank m)) ms))
    by true e more = more
    by false e more = (e, more)

pub no-blank-same : (ms : List Mark) → HasNoBlank ms → filter (λ m. not (is_blank m)) ms ≡ ms
no-blank-same [] h = refl
no-blank-same (m ∷ ms) h =
    ap (λ b. cond (not b) (m ∷ filter (λ m. not (is_blank m)) ms) (filter (λ m. not (is_blank m)) ms)) h.0
    ∙ ap (λ xs. m ∷ xs) (no-blank-same ms h.1)

pub no-blank-set : (ms : List Mark) (i : ℕ) (y : Mark) → is_blank y ≡ false → HasNoBlank ms → HasNoBlank (set ms i y)
no-blank-set [] i y e h = tt
no-blank-set (m ∷ ms) zero y e h = (e, h.1)
no-blank-set (m ∷ ms) (suc i) y e h = (h.0, no-blank-set ms i y e h.1)

-- ---- sums without those that are

blank-counts : (o : Option ℕ) (publishes : List Publish) (settings : List Setting) (values : List Placed)
    (newest : Option ℕ) (id : ℕ) (a b w : Bool)
    → (a && is_none o && is_empty publishes && is_empty settings && b && not w && is_empty values && is_none newest)
    ≡ true
    → length (option_items o) + (length publishes + length settings)
    + length (cond (w && a && is_empty publishes) (topic_key id ∷ []) [])
    + (length values + length (option_items newest)) ≡ 0
blank-counts None [] [] [] None id a b false h = omega arith
blank-counts None [] [] [] None id true true true h = absurd (cc)
blank-counts None [] [] [] None id true false true h = absurd (cc)
blank-counts None [] [] [] None id false b true h = absurd (cc)
blank-counts None [] [] [] (Some n) id true true true h = absurd (cc)
blank-counts None [] [] [] (Some n) id true true false h = absurd (cc)
blank-counts None [] [] [] (Some n) id true false w h = absurd (cc)
blank-counts None [] [] [] (Some n) id false b w h = absurd (cc)
blank-counts None [] [] (p ∷ ps) newest id true true true h = absurd (cc)
blank-counts None [] [] (p ∷ ps) newest id true true false h = absurd (cc)
blank-counts None [] [] (p ∷ ps) newest id true false w h = absurd (cc)
blank-counts None [] [] (p ∷ ps) newest id false b w h = absurd (cc)
blank-counts None [] (s ∷ ss) values newest id true b w h = absurd (cc)
blank-counts None [] (s ∷ ss) values newest id false b w h = absurd (cc)
blank-counts None (p ∷ ps) settings values newest id true b w h = absurd (cc)
blank-counts None (p ∷ ps) settings values newest id false b w h = absurd (cc)
blank-counts (Some o) publishes settings values newest id true b w h = absurd (cc)
blank-counts (Some o) publishes settings values newest id false b w h = absurd (cc)

blank-count : (m : Mark) → is_blank m ≡ true → mark_count m ≡ 0
blank-count m h =
    blank-counts m.over m.publishes m.settings m.values m.newest m.id (not m.is_announced) (m.next == 0)
    (is_wish m.wish) h

weight-kept : (ms : List Mark) → weight (filter (λ m. not (is_blank m)) ms) ≡ weight ms
weight-kept [] = refl
weight-kept (m ∷ ms) = by (is_blank m) refl (weight-kept ms)
  where
    by : (b : Bool) → is_blank m ≡ b → weight (filter (λ m. not (is_blank m)) ms) ≡ weight ms
        → weight (cond (not b) (m ∷ filter (λ m. not (is_blank m)) ms) (filter (λ m. not (is_blank m)) ms))
        ≡ mark_weight m + weight ms
    by true e more = let none = blank-weight m e in omega arith
    by false e more = omega arith

count-kept : (ms : List Mark) → count (filter (λ m. not (is_blank m)) ms) ≡ count ms
count-kept [] = refl
count-kept (m ∷ ms) = by (is_blank m) refl (count-kept ms)
  where
    by : (b : Bool) → is_blank m ≡ b → count (filter (λ m. not (is_blank m)) ms) ≡ count ms
        → count (cond (not b) (m ∷ filter (λ m. not (is_blank m)) ms) (filter (λ m. not (is_blank m)) ms))
        ≡ mark_count m + count ms
    by true e more = let none = blank-count m e in omega arith
    by false e more = omega arith

owing-kept : (ms : List Mark) → owing_ids (filter (λ m. not (is_blank m)) ms) ≡ owing_ids ms
owing-kept [] = refl
owing-kept (m ∷ ms) = by (is_blank m) refl (owing-kept ms)
  where
    by : (b : Bool) → is_blank m ≡ b → owing_ids (filter (λ m. not (is_blank m)) ms) ≡ owing_ids ms
        → owing_ids (cond (not b) (m ∷ filter (λ m. not (is_blank m)) ms) (filter (λ m. not (is_blank m)) ms))
        ≡ owing_ids (m ∷ ms)
    by true e more =
        let none : owes m ≡ false = ap (λ n. ltb 0 n) (blank-count m e) in
        more ∙ sym (ap (λ b. cond b (m.id ∷ owing_ids ms) (owing_ids ms)) none)
    by false e more = ap (λ xs. cond (owes m) (m.id ∷ xs) xs) more

pub sound-kept : (ms now : List Mark) (owing : List ℕ) (queued owed : ℕ)
    → now ≡ filter (λ m. not (is_blank m)) ms → IsSound ms owing queued owed → IsSound now owing queued owed
sound-kept ms now owing queued owed e h = subst (λ xs. IsSound xs owing queued owed) (sym e) (record {
  rising = rise-filter 0 (λ m. not (is_blank m)) ms h.rising;
  named = h.named ∙ sym (owing-kept ms);
  weighed = h.weighed ∙ sym (weight-kept ms);
  counted = h.counted ∙ sym (count-kept ms);
})

pub no-blank-changed : (id : ℕ) (name : List ℕ) (f : Mark → Mark) (ms now : List Mark) → now ≡ at_id id name f ms
    → HasNoBlank ms → HasNoBlank now
no-blank-changed id name f ms now e h = subst HasNoBlank (sym e) (no-blank-at_id id name f ms h)

pub no-blank-handed : (ks : List Key) (ms now : List Mark) → now ≡ handed_all ks ms → HasNoBlank now
no-blank-handed ks ms now e = subst HasNoBlank (sym e) (no-blank-filter (map (handed ks) ms))
