-- What holds of the keys of each life, and what that says of a prefix of all keys.
use Rattle.std.proofs.Common.{◌≡◌, ◌+◌, ◌&&◌, ◌==◌, ℕ, Bool, true, false, cond, not, leb, List, [], ◌∷◌, ◌++◌, Some}
use Rattle.std.proofs.Common.{None, map, filter, flat_map, refl, sym, ◌∙◌, ap, subst, arith}
use Rattle.std.specs.List.{AllByRecursion}
use Rattle.std.proofs.lemmas.Bool.Decides.{nat_tests}
use Rattle.nt_topics.specs.Properties.{is_cached}
use Rattle.nt_subs.specs.declared.wish.Wanted.{Wanted}
use Rattle.nt_subs.specs.declared.wish.Wanted.TheVariants.{No, TopicOnly, Newest, All}
use Rattle.nt_rules.specs.topics.Puts.{Put}
use Rattle.nt_rules.specs.outbox.Marks.{Mark}
use Rattle.nt_rules.specs.outbox.Keys.{Of_end, Key, is_kind, end_key, publish_key, setting_key, topic_key, value_key}
use Rattle.nt_rules.specs.outbox.Keys.{is_value, next_value, in_order}
use Rattle.nt_rules.specs.outbox.Marks as outbox
use Rattle.nt_rules.specs.outbox.Marks.{is_blank, is_empty, is_wish, is_meta, option_items}
use Rattle.nt_rules.specs.history.Lives.{Life, is_living, taken_since_turn}
use Rattle.nt_rules.specs.history.Owed.{Account, is_announced, owed_end, owed_publishes, owed_settings, owed_values}
use Rattle.nt_rules.specs.history.Owed.{owed_newest, newest_for, newest_from, end_keys, reply_keys, topic_keys}
use Rattle.nt_rules.specs.history.Owed.{value_keys, newest_keys, keys_owed, life_at}
use Rattle.nt_rules.specs.history.Marks.{mark_of}
use Rattle.nt_laws.proofs.topics.ItemFacts.{each-more, each-all, each-both, each-append, each-filter, each-passes}
use Rattle.nt_laws.proofs.topics.ItemFacts.{each-map, each-flat, each-in_order}
use Rattle.nt_laws.proofs.marks.MarksById.{blank-fresh}
use Rattle.nt_laws.proofs.marks.KeysOwed.{unplaced, IsOrdinary, if_living, life-ends, life-replies, life-topics}
use Rattle.nt_laws.proofs.marks.KeysOwed.{life-values, life-newest, no-values}

-- the keys of a life have this
pub record OwnKeys (P : Key → Type 0) (a : Account) (conn : ℕ) (wish : Wanted) (since : ℕ)
    (l : Life) : Type 0 where
  pub ends : AllByRecursion P (end_keys a l)
  pub replies : is_living l ≡ true → AllByRecursion P (reply_keys a conn l)
  pub news : is_living l ≡ true → AllByRecursion P (topic_keys a conn wish l)
  pub values : is_living l ≡ true → AllByRecursion P (value_keys a wish since l)
  pub newest : is_living l ≡ true → AllByRecursion P (newest_keys a wish l)

-- what the keys of each life have all keys have
pub each-owed : (P : Key → Type 0) (a : Account) (conn : ℕ) (wish : Life → Wanted) (since : Life → ℕ)
    (lives : List Life)
    → AllByRecursion (λ l. OwnKeys P a conn (wish l) (since l) l) lives
    → AllByRecursion P (keys_owed a conn wish since lives)
each-owed P a conn wish since lives h =
    each-append P (in_order ends ++ in_order replies ++ news ++ in_order values) newest
    (each-append P (in_order ends ++ in_order replies ++ news) (in_order values)
    (each-append P (in_order ends ++ in_order replies) news
    (each-append P (in_order ends) (in_order replies)
    (each-in_order P ends (each-flat P (end_keys a) lives (each-more Own _ (λ l o. o.ends) lives h)))
    (each-in_order P replies
    (each-flat P (reply_keys a conn) living (on (reply_keys a conn) (λ l o e. o.replies e)))))
    (each-flat P (λ l. topic_keys a conn (wish l) l) living
    (on (λ l. topic_keys a conn (wish l) l) (λ l o e. o.news e))))
    (each-in_order P values
    (each-flat P (λ l. value_keys a (wish l) (since l) l) living
    (on (λ l. value_keys a (wish l) (since l) l) (λ l o e. o.values e)))))
    (each-flat P (λ l. newest_keys a (wish l) l) living
    (on (λ l. newest_keys a (wish l) l) (λ l o e. o.newest e)))
  where
    Own : Life → Type 0
    Own l = OwnKeys P a conn (wish l) (since l) l

    living : List Life
    living = filter is_living lives

    ends : List Key
    ends = flat_map (end_keys a) lives

    replies : List Key
    replies = flat_map (reply_keys a conn) living

    news : List Key
    news = flat_map (λ l. topic_keys a conn (wish l) l) living

    values : List Key
    values = flat_map (λ l. value_keys a (wish l) (since l) l) living

    newest : List Key
    newest = flat_map (λ l. newest_keys a (wish l) l) living

    on : (f : Life → List Key) → ((l : Life) → Own l → is_living l ≡ true → AllByRecursion P (f l))
        → AllByRecursion (λ l. AllByRecursion P (f l)) living
    on f g =
        each-both Own (λ l. is_living l ≡ true) (λ l. AllByRecursion P (f l)) g living
        (each-filter Own is_living lives h) (each-passes is_living lives)

-- what its ends, its answers, its announce have
pub ends-have : (P : Key → Type 0) (a : Account) (l : Life) → ((place : ℕ) → P (end_key l.id place))
    → AllByRecursion P (end_keys a l)
ends-have P a l h =
    each-map P (end_key l.id) (option_items (owed_end a l))
    (each-all (λ place. P (end_key l.id place)) h (option_items (owed_end a l)))

pub replies-have : (P : Key → Type 0) (a : Account) (conn : ℕ) (l : Life)
    → ((place : ℕ) → P (publish_key l.id place))
    → ((place : ℕ) → P (setting_key l.id place)) → AllByRecursion P (reply_keys a conn l)
replies-have P a conn l h k =
    each-append P (map (λ p. publish_key l.id p.place) (owed_publishes a conn l))
    (map (λ s. setting_key l.id s.place) (owed_settings a l))
    (each-map P (λ p. publish_key l.id p.place) (owed_publishes a conn l)
    (each-all (λ p. P (publish_key l.id p.place)) (λ p. h p.place) (owed_publishes a conn l)))
    (each-map P (λ s. setting_key l.id s.place) (owed_settings a l)
    (each-all (λ s. P (setting_key l.id s.place)) (λ s. k s.place) (owed_settings a l)))

pub news-have : (P : Key → Type 0) (a : Account) (conn : ℕ) (wish : Wanted) (l : Life) → P (topic_key l.id)
    → AllByRecursion P (topic_keys a conn wish l)
news-have P a conn wish l h =
    one (is_wish wish && not (is_announced a l.id) && is_empty (owed_publishes a conn l))
  where
    one : (b : Bool) → AllByRecursion P (cond b (topic_key l.id ∷ []) [])
    one true = (h, tt)
    one false = tt

-- all its keys have
by-keys : (P : Key → Type 0) (a : Account) (conn : ℕ) (wish : Wanted) (since : ℕ) (l : Life)
    → ((place : ℕ) → P (end_key l.id place)) → ((place : ℕ) → P (publish_key l.id place))
    → ((place : ℕ) → P (setting_key l.id place))
    → P (topic_key l.id) → ((place : ℕ) → P (value_key l.id place))
    → OwnKeys P a conn wish since l
by-keys P a conn wish since l p1 p2 p3 p4 p5 = record {
  ends = ends-have P a l p1;
  replies = λ e. replies-have P a conn l p2 p3;
  news = λ e. news-have P a conn wish l p4;
  values = λ e. each-map P (λ p. value_key l.id p.place) (owed_values a wish since l)
      (each-all (λ p. P (value_key l.id p.place)) (λ p. p5 p.place) (owed_values a wish since l));
  newest = λ e. each-map P (value_key l.id) (option_items (owed_newest a wish l))
      (each-all (λ place. P (value_key l.id place)) p5 (option_items (owed_newest a wish l)));
}

own-more : (P Q : Key → Type 0) → ((k : Key) → P k → Q k)
    → (a : Account) (conn : ℕ) (wish : Wanted) (since : ℕ) (l : Life)
    → OwnKeys P a conn wish since l → OwnKeys Q a conn wish since l
own-more P Q f a conn wish since l o = record {
  ends = each-more P Q f (end_keys a l) o.ends;
  replies = λ e. each-more P Q f (reply_keys a conn l) (o.replies e);
  news = λ e. each-more P Q f (topic_keys a conn wish l) (o.news e);
  values = λ e. each-more P Q f (value_keys a wish since l) (o.values e);
  newest = λ e. each-more P Q f (newest_keys a wish l) (o.newest e);
}

-- ---- what the keys of one life have, those of all keys that name it have

abbrev pub OfLife : ℕ → (Key → Type 0) → Key → Type 0
OfLife id P k = (k.topic == id) ≡ true → P k

same-life : (lives : List Life) (l m : Life) → life_at l.id lives ≡ Some l → life_at m.id lives ≡ Some m
    → (m.id == l.id) ≡ true → m ≡ l
same-life lives l m hl hm e =
    let ids : m.id ≡ l.id = grind (arith, nat_tests) in
    let found : Some m ≡ Some l = sym hm ∙ ap (λ id. life_at id lives) ids ∙ hl in
    cc

pub of-life : (P : Key → Type 0) (a : Account) (conn : ℕ) (wish : Life → Wanted) (since : Life → ℕ)
    (lives : List Life)
    → AllByRecursion (λ l. life_at l.id lives ≡ Some l) lives → (l : Life) → life_at l.id lives ≡ Some l
    → OwnKeys P a conn (wish l) (since l) l
    → AllByRecursion (OfLife l.id P) (keys_owed a conn wish since lives)
of-life P a conn wish since lives found l here own =
    each-owed (OfLife l.id P) a conn wish since lives
    (each-more (λ m. life_at m.id lives ≡ Some m) (λ m. OwnKeys (OfLife l.id P) a conn (wish m) (since m) m)
    (λ m at. by m at (m.id == l.id) refl) lives found)
  where
    by : (m : Life) → life_at m.id lives ≡ Some m → (b : Bool) → (m.id == l.id) ≡ b
        → OwnKeys (OfLife l.id P) a conn (wish m) (since m) m
    by m at true e =
        subst (λ k. OwnKeys (OfLife l.id P) a conn (wish k) (since k) k) (sym (same-life lives l m here at e))
        (own-more P (OfLife l.id P) (λ k p f. p) a conn (wish l) (since l) l own)
    by m at false e =
        by-keys (OfLife l.id P) a conn (wish m) (since m) m (λ place f. absurd (apart f))
        (λ place f. absurd (apart f)) (λ place f. absurd (apart f)) (λ f. absurd (apart f))
        (λ place f. absurd (apart f))
      where
        apart : (m.id == l.id) ≡ true → ⊥
        apart f = cc

-- ---- which keys a life may have

-- of one that is over, its end
pub over-ends : (a : Account) (conn : ℕ) (wish : Wanted) (since : ℕ) (l : Life) → is_living l ≡ false
    → OwnKeys (λ k. is_kind k.kind Of_end ≡ true) a conn wish since l
over-ends a conn wish since l e = record {
  ends = each-map (λ k. is_kind k.kind Of_end ≡ true) (end_key l.id) (option_items (owed_end a l))
      (each-all _ (λ place. refl) (option_items (owed_end a l)));
  replies = λ f. cc;
  news = λ f. cc;
  values = λ f. cc;
  newest = λ f. cc;
}

-- of one with a blank mark, none
pub blank-none : (P : Key → Type 0) (a : Account) (conn : ℕ) (wish : Life → Wanted) (since : Life → ℕ)
    (l : Life) → IsOrdinary (wish l) l
    → is_blank (mark_of a conn wish since l) ≡ true → OwnKeys P a conn (wish l) (since l) l
blank-none P a conn wish since l h blank = record {
  ends = nothing (end_keys a l) (sym (life-ends a conn wish since l) ∙ ap outbox.end_keys fresh_is);
  replies = λ e. nothing (reply_keys a conn l)
      (on (reply_keys a conn l) e ∙ sym (life-replies a conn wish since l h) ∙ ap outbox.reply_keys fresh_is);
  news = λ e. nothing (topic_keys a conn (wish l) l)
      (on (topic_keys a conn (wish l) l) e ∙ sym (life-topics a conn wish since l h)
      ∙ ap outbox.topic_keys fresh_is);
  values = λ e. nothing (value_keys a (wish l) (since l) l)
      (on (value_keys a (wish l) (since l) l) e ∙ sym (life-values a conn wish since l h)
      ∙ ap outbox.value_keys fresh_is);
  newest = λ e. nothing (newest_keys a (wish l) l)
      (unmapped (newest_keys a (wish l) l)
      (on (map unplaced (newest_keys a (wish l) l)) e ∙ sym (life-newest a conn wish since l)
      ∙ ap outbox.newest_keys fresh_is));
}
  where
    m : Mark
    m = mark_of a conn wish since l

    fresh_is : m ≡ outbox.fresh m.id m.name
    fresh_is = blank-fresh m blank

    nothing : (ks : List Key) → ks ≡ [] → AllByRecursion P ks
    nothing ks e = subst (AllByRecursion P) (sym e) tt

    on : (ks : List Key) → is_living l ≡ true → ks ≡ if_living l ks
    on ks e = sym (ap (λ b. cond b ks []) e)

    unmapped : (ks : List Key) → map unplaced ks ≡ [] → ks ≡ []
    unmapped [] e = refl
    unmapped (k ∷ ks) e = cc

-- of a meta topic that goes on, as a value that of the last change
pub meta-last : (a : Account) (conn : ℕ) (wish : Wanted) (since : ℕ) (l : Life) → IsOrdinary wish l
    → is_meta l.id ≡ true
    → OwnKeys (λ k. is_value k ≡ true → newest_from (k.place + 1) (taken_since_turn l) ≡ None)
    a conn wish since l
meta-last a conn wish since l h meta = record {
  ends = ends-have P a l (λ place v. cc);
  replies = λ e. replies-have P a conn l (λ place v. cc) (λ place v. cc);
  news = λ e. news-have P a conn wish l (λ v. cc);
  values = λ e. subst (λ ps. AllByRecursion P (map (λ p. value_key l.id p.place) ps))
      (sym (no-values a wish since l h meta)) tt;
  newest = λ e. if_cached (is_cached l.props);
}
  where
    P : Key → Type 0
    P k = is_value k ≡ true → newest_from (k.place + 1) (taken_since_turn l) ≡ None

    from : (ps : List Put) → taken_since_turn l ≡ ps → (b : Bool) (place : ℕ) → newest_from (place + 1) ps ≡ None
        → AllByRecursion P (map (value_key l.id) (option_items (cond b (Some place) None)))
    from ps e true place none = ((λ v. ap (λ qs. newest_from (place + 1) qs) e ∙ none), tt)
    from ps e false place none = tt

    by : (w : Wanted) → (ps : List Put) → taken_since_turn l ≡ ps
        → AllByRecursion P (map (value_key l.id) (option_items (newest_for a w l)))
    by No ps e = tt
    by TopicOnly ps e = tt
    by All ps e = tt
    by Newest [] e =
        subst (λ qs. AllByRecursion P
        (map (value_key l.id) (option_items (newest_from (next_value a.given l.id) qs)))) (sym e) tt
    by Newest (p ∷ ps) e =
        let past : leb (p.place + 1) p.place ≡ false = grind (arith, nat_tests) in
        subst (λ qs. AllByRecursion P
        (map (value_key l.id) (option_items (newest_from (next_value a.given l.id) qs)))) (sym e)
        (from (p ∷ ps) e (leb (next_value a.given l.id) p.place) p.place
        (ap (λ b. cond b (Some p.place) None) past))

    if_cached : (b : Bool)
        → AllByRecursion P (map (value_key l.id) (option_items (cond b (newest_for a wish l) None)))
    if_cached true = by wish (taken_since_turn l) refl
    if_cached false = tt
