-- The keys that are owed, and what they weigh, by the marks that an outbox keeps.
use Rattle.std.proofs.Common.{◌≡◌, ◌+◌, ◌*◌, ◌&&◌, ℕ, Bool, true, false, cond, not, List, [], ◌∷◌, ◌++◌, Option, Some}
use Rattle.std.proofs.Common.{None, option_map, is_none, map, filter, length, flat_map, refl, sym, ◌∙◌, ap, subst}
use Rattle.std.proofs.Common.{arith}
use Rattle.std.specs.List.{AllByRecursion}
use Rattle.std.proofs.lemmas.List.{length-map, map-append}
use Rattle.serde_json.specs.Written.{compact_text}
use Rattle.nt_values.specs.Types.{size_of}
use Rattle.nt_topics.specs.Properties.{is_cached}
use Rattle.nt_subs.specs.declared.wish.Wanted.{Wanted}
use Rattle.nt_subs.specs.declared.wish.Wanted.TheVariants.{No, TopicOnly, Newest, All}
use Rattle.nt_rules.specs.topics.Puts.{Put}
use Rattle.nt_rules.specs.outbox.Marks.{Mark}
use Rattle.nt_rules.specs.declared.waiting.Publish.{Publish}
use Rattle.nt_rules.specs.outbox.Keys.{Key, end_key, publish_key, setting_key, topic_key, value_key, is_value, in_order}
use Rattle.nt_rules.specs.outbox.Marks as outbox
use Rattle.nt_rules.specs.outbox.Marks.{fresh, is_blank, is_empty, is_wish, is_meta, option_items, keys, weight}
use Rattle.nt_rules.specs.outbox.Marks.{mark_weight, values_weight}
use Rattle.nt_rules.specs.history.Lives.{Life, Setting, is_living}
use Rattle.nt_rules.specs.history.Owed.{Account, is_all, is_announced, owed_end, owed_end_at, owed_publishes}
use Rattle.nt_rules.specs.history.Owed.{owed_settings, owed_cached, owed_uncached, owed_values, owed_newest, end_keys}
use Rattle.nt_rules.specs.history.Owed.{reply_keys, topic_keys}
use Rattle.nt_rules.specs.history.Owed.{value_keys, newest_keys, keys_owed, settings_weight, puts_weight, living_weight}
use Rattle.nt_rules.specs.history.Owed.{life_weight, lives_weight}
use Rattle.nt_rules.specs.history.Marks.{waiting_publish, waiting_setting, waiting_put, topic_mark, meta_mark}
use Rattle.nt_rules.specs.history.Marks.{end_mark, mark_of, marks_by}
use Rattle.nt_laws.proofs.marks.MarksById.{blank-fresh}
use Rattle.nt_laws.proofs.topics.ItemFacts.{each-more, each-all, each-append, each-filter, each-map, each-flat}
use Rattle.nt_laws.proofs.topics.ItemFacts.{each-in_order, map-itself}

-- in an outbox the value of a meta topic stands at the place 0
abbrev pub unplaced : Key → Key
unplaced k = cond (is_value k && is_meta k.topic) (record k { place = 0 }) k

-- a meta topic has no publishings and no settings, is cached, and isn't wanted under All
pub record IsOrdinary (wish : Wanted) (l : Life) : Type 0 where
  pub no_publishings : is_meta l.id ≡ true → l.publishings ≡ []
  pub no_settings : is_meta l.id ≡ true → l.settings ≡ []
  pub cached : is_meta l.id ≡ true → is_cached l.props ≡ true
  pub not_all : is_meta l.id ≡ true → is_all wish ≡ false

abbrev pub AreOrdinary : (Life → Wanted) → List Life → Type 0
AreOrdinary wish lives = AllByRecursion (λ l. IsOrdinary (wish l) l) lives

-- ---- the mark of a life by its kind

pub by-kind : (P : Mark → Type 0) (a : Account) (conn : ℕ) (wish : Life → Wanted) (since : Life → ℕ)
    (l : Life)
    → (is_living l ≡ false → P (end_mark a l))
    → (is_living l ≡ true → is_meta l.id ≡ true → P (meta_mark a (wish l) l))
    → (is_living l ≡ true → is_meta l.id ≡ false → P (topic_mark a conn (wish l) (since l) l))
    → P (mark_of a conn wish since l)
by-kind P a conn wish since l over meta topic = by (is_living l) refl (is_meta l.id) refl
  where
    by : (b : Bool) → is_living l ≡ b → (c : Bool) → is_meta l.id ≡ c
        → P (cond (not b) (end_mark a l)
        (cond c (meta_mark a (wish l) l) (topic_mark a conn (wish l) (since l) l)))
    by false e c f = over e
    by true e true f = meta e f
    by true e false f = topic e f

pub mark-id : (a : Account) (conn : ℕ) (wish : Life → Wanted) (since : Life → ℕ) (l : Life)
    → (mark_of a conn wish since l).id ≡ l.id
mark-id a conn wish since l =
    by-kind (λ m. m.id ≡ l.id) a conn wish since l (λ e. refl) (λ e f. refl) (λ e f. refl)

pub mark-name : (a : Account) (conn : ℕ) (wish : Life → Wanted) (since : Life → ℕ) (l : Life)
    → (mark_of a conn wish since l).name ≡ l.name
mark-name a conn wish since l =
    by-kind (λ m. m.name ≡ l.name) a conn wish since l (λ e. refl) (λ e f. refl) (λ e f. refl)

-- a life that goes on owes no end
pub no-end : (a : Account) (l : Life) → is_living l ≡ true → owed_end a l ≡ None
no-end a l e = by l.over e (is_announced a l.id)
  where
    by : (o : Option ℕ) → is_none o ≡ true → (b : Bool) → cond b (owed_end_at a l.id o) None ≡ None
    by None e true = refl
    by None e false = refl
    by (Some place) e b = cc

-- a meta topic owes no values one by one
pub no-values : (a : Account) (wish : Wanted) (since : ℕ) (l : Life) → IsOrdinary wish l → is_meta l.id ≡ true
    → owed_values a wish since l ≡ []
no-values a wish since l h f =
    ap (λ b. cond b (owed_cached a wish since l) (owed_uncached a wish since l)) (h.cached f)
    ∙ by wish (h.not_all f)
  where
    by : (w : Wanted) → is_all w ≡ false → owed_cached a w since l ≡ []
    by No e = refl
    by TopicOnly e = refl
    by Newest e = refl
    by All e = cc

-- nor answers
pub no-publishes : (a : Account) (conn : ℕ) (wish : Wanted) (l : Life) → IsOrdinary wish l
    → is_meta l.id ≡ true
    → owed_publishes a conn l ≡ []
no-publishes a conn wish l h f =
    ap (λ ps. owed_publishes a conn (record l { publishings = ps })) (h.no_publishings f)

pub no-settings : (a : Account) (wish : Wanted) (l : Life) → IsOrdinary wish l → is_meta l.id ≡ true
    → owed_settings a l ≡ []
no-settings a wish l h f = ap (λ ss. owed_settings a (record l { settings = ss })) (h.no_settings f)

-- ---- the keys of one life

map-twice : {X Y Z : Type 0} (f : Y → Z) (g : X → Y) (xs : List X) → map f (map g xs) ≡ map (λ x. f (g x)) xs
map-twice f g [] = refl
map-twice f g (x ∷ xs) = ap (λ ys. f (g x) ∷ ys) (map-twice f g xs)

empty-map : {X Y : Type 0} (f : X → Y) (xs : List X) → is_empty (map f xs) ≡ is_empty xs
empty-map f [] = refl
empty-map f (x ∷ xs) = refl

-- the keys of a life that goes on
abbrev pub if_living : Life → List Key → List Key
if_living l ks = cond (is_living l) ks []

pub life-ends : (a : Account) (conn : ℕ) (wish : Life → Wanted) (since : Life → ℕ) (l : Life)
    → outbox.end_keys (mark_of a conn wish since l) ≡ end_keys a l
life-ends a conn wish since l =
    by-kind (λ m. outbox.end_keys m ≡ end_keys a l) a conn wish since l (λ e. refl) (λ e f. none e)
    (λ e f. none e)
  where
    none : is_living l ≡ true → [] ≡ end_keys a l
    none e = sym (ap (λ o. map (end_key l.id) (option_items o)) (no-end a l e))

pub life-replies : (a : Account) (conn : ℕ) (wish : Life → Wanted) (since : Life → ℕ) (l : Life)
    → IsOrdinary (wish l) l
    → outbox.reply_keys (mark_of a conn wish since l) ≡ if_living l (reply_keys a conn l)
life-replies a conn wish since l h =
    by-kind (λ m. outbox.reply_keys m ≡ if_living l (reply_keys a conn l)) a conn wish since l
    (λ e. sym (ap (λ b. cond b (reply_keys a conn l) []) e))
    (λ e f. meta f ∙ sym (ap (λ b. cond b (reply_keys a conn l) []) e))
    (λ e f. topic ∙ sym (ap (λ b. cond b (reply_keys a conn l) []) e))
  where
    meta : is_meta l.id ≡ true → [] ≡ reply_keys a conn l
    meta f =
        sym (ap (λ ps. map (λ p. publish_key l.id p.place) ps
        ++ map (λ s. setting_key l.id s.place) (owed_settings a l)) (no-publishes a conn (wish l) l h f)
        ∙ ap (λ ss. map (λ s. setting_key l.id s.place) ss) (no-settings a (wish l) l h f))

    topic : outbox.reply_keys (topic_mark a conn (wish l) (since l) l) ≡ reply_keys a conn l
    topic =
        ap (λ ks. ks ++ map (λ s. setting_key l.id s.place) (map (waiting_setting conn) (owed_settings a l)))
        (map-twice (λ p. publish_key l.id p.place) waiting_publish (owed_publishes a conn l))
        ∙ ap (λ ks. map (λ p. publish_key l.id p.place) (owed_publishes a conn l) ++ ks)
        (map-twice (λ s. setting_key l.id s.place) (waiting_setting conn) (owed_settings a l))

pub life-topics : (a : Account) (conn : ℕ) (wish : Life → Wanted) (since : Life → ℕ) (l : Life)
    → IsOrdinary (wish l) l
    → outbox.topic_keys (mark_of a conn wish since l) ≡ if_living l (topic_keys a conn (wish l) l)
life-topics a conn wish since l h =
    by-kind (λ m. outbox.topic_keys m ≡ if_living l (topic_keys a conn (wish l) l)) a conn wish since l
    (λ e. sym (ap (λ b. cond b (topic_keys a conn (wish l) l) []) e))
    (λ e f. same [] (sym (ap (λ ps. is_empty ps) (no-publishes a conn (wish l) l h f)))
    ∙ sym (ap (λ b. cond b (topic_keys a conn (wish l) l) []) e))
    (λ e f. same (map waiting_publish (owed_publishes a conn l))
    (empty-map waiting_publish (owed_publishes a conn l))
    ∙ sym (ap (λ b. cond b (topic_keys a conn (wish l) l) []) e))
  where
    same : (ps : List Publish) → is_empty ps ≡ is_empty (owed_publishes a conn l)
        → cond (is_wish (wish l) && not (is_announced a l.id) && is_empty ps) (topic_key l.id ∷ []) []
        ≡ topic_keys a conn (wish l) l
    same ps e = ap (λ b. cond (is_wish (wish l) && not (is_announced a l.id) && b) (topic_key l.id ∷ []) []) e

pub life-values : (a : Account) (conn : ℕ) (wish : Life → Wanted) (since : Life → ℕ) (l : Life)
    → IsOrdinary (wish l) l
    → outbox.value_keys (mark_of a conn wish since l) ≡ if_living l (value_keys a (wish l) (since l) l)
life-values a conn wish since l h =
    by-kind (λ m. outbox.value_keys m ≡ if_living l (value_keys a (wish l) (since l) l)) a conn wish since l
    (λ e. sym (ap (λ b. cond b (value_keys a (wish l) (since l) l) []) e))
    (λ e f. sym
    (ap (λ b. cond b (value_keys a (wish l) (since l) l) []) e
    ∙ ap (λ ps. map (λ p. value_key l.id p.place) ps) (no-values a (wish l) (since l) l h f)))
    (λ e f. map-twice (λ p. value_key l.id p.place) waiting_put (owed_values a (wish l) (since l) l)
    ∙ sym (ap (λ b. cond b (value_keys a (wish l) (since l) l) []) e))

pub life-newest : (a : Account) (conn : ℕ) (wish : Life → Wanted) (since : Life → ℕ) (l : Life)
    → outbox.newest_keys (mark_of a conn wish since l) ≡ if_living l (map unplaced (newest_keys a (wish l) l))
life-newest a conn wish since l =
    by-kind (λ m. outbox.newest_keys m
    ≡ if_living l (map unplaced (newest_keys a (wish l) l))) a conn wish since l
    (λ e. sym (ap (λ b. cond b (map unplaced (newest_keys a (wish l) l)) []) e))
    (λ e f. meta f (owed_newest a (wish l) l)
    ∙ sym (ap (λ b. cond b (map unplaced (newest_keys a (wish l) l)) []) e))
    (λ e f. topic f (owed_newest a (wish l) l)
    ∙ sym (ap (λ b. cond b (map unplaced (newest_keys a (wish l) l)) []) e))
  where
    meta : is_meta l.id ≡ true → (o : Option ℕ)
        → map (value_key l.id) (option_items (option_map (λ place. 0) o))
        ≡ map unplaced (map (value_key l.id) (option_items o))
    meta f None = refl
    meta f (Some place) = sym (ap (λ b. cond b (value_key l.id 0) (value_key l.id place) ∷ []) f)

    topic : is_meta l.id ≡ false → (o : Option ℕ)
        → map (value_key l.id) (option_items o) ≡ map unplaced (map (value_key l.id) (option_items o))
    topic f None = refl
    topic f (Some place) = sym (ap (λ b. cond b (value_key l.id 0) (value_key l.id place) ∷ []) f)

-- ---- all lives

-- what is told by a part of each mark, which is nothing for a blank one, is what is told by each life
flat-marks : (f : Mark → List Key) (g : Life → List Key) → ((id : ℕ) (name : List ℕ) → f (fresh id name) ≡ [])
    → (a : Account) (conn : ℕ) (wish : Life → Wanted) (since : Life → ℕ) (lives : List Life)
    → AllByRecursion (λ l. f (mark_of a conn wish since l) ≡ g l) lives
    → flat_map f (marks_by a conn wish since lives) ≡ flat_map g lives
flat-marks f g none a conn wish since [] h = refl
flat-marks f g none a conn wish since (l ∷ lives) h =
    by (is_blank m) refl (flat-marks f g none a conn wish since lives h.1)
  where
    m : Mark
    m = mark_of a conn wish since l

    rest : List Mark
    rest = marks_by a conn wish since lives

    by : (b : Bool) → is_blank m ≡ b → flat_map f rest ≡ flat_map g lives
        → flat_map f (cond (not b) (m ∷ rest) rest) ≡ g l ++ flat_map g lives
    by false e more = ap (λ ks. ks ++ flat_map f rest) h.0 ∙ ap (λ ks. g l ++ ks) more
    by true e more =
        let nothing : f m ≡ [] = ap f (blank-fresh m e) ∙ none m.id m.name in
        more ∙ ap (λ ks. ks ++ flat_map g lives) (sym nothing ∙ h.0)

-- of the lives that go on
flat-living : (g : Life → List Key) (lives : List Life)
    → flat_map (λ l. if_living l (g l)) lives ≡ flat_map g (filter is_living lives)
flat-living g [] = refl
flat-living g (l ∷ lives) = by (is_living l) (flat-living g lives)
  where
    by : (b : Bool) → flat_map (λ l. if_living l (g l)) lives ≡ flat_map g (filter is_living lives)
        → cond b (g l) [] ++ flat_map (λ l. if_living l (g l)) lives
        ≡ flat_map g (cond b (l ∷ filter is_living lives) (filter is_living lives))
    by true more = ap (λ ks. g l ++ ks) more
    by false more = more

map-flat : (f : Key → Key) (g : Life → List Key) (lives : List Life)
    → flat_map (λ l. map f (g l)) lives ≡ map f (flat_map g lives)
map-flat f g [] = refl
map-flat f g (l ∷ lives) =
    ap (λ ks. map f (g l) ++ ks) (map-flat f g lives) ∙ sym (map-append f (g l) (flat_map g lives))

-- ---- keys that stand as they are in an outbox

abbrev Stays : Key → Type 0
Stays k = unplaced k ≡ k

ends-stay : (a : Account) (l : Life) → AllByRecursion Stays (end_keys a l)
ends-stay a l =
    each-map Stays (end_key l.id) (option_items (owed_end a l))
    (each-all (λ place. Stays (end_key l.id place)) (λ place. refl) (option_items (owed_end a l)))

replies-stay : (a : Account) (conn : ℕ) (l : Life) → AllByRecursion Stays (reply_keys a conn l)
replies-stay a conn l =
    each-append Stays (map (λ p. publish_key l.id p.place) (owed_publishes a conn l))
    (map (λ s. setting_key l.id s.place) (owed_settings a l))
    (each-map Stays (λ p. publish_key l.id p.place) (owed_publishes a conn l)
    (each-all (λ p. Stays (publish_key l.id p.place)) (λ p. refl) (owed_publishes a conn l)))
    (each-map Stays (λ s. setting_key l.id s.place) (owed_settings a l)
    (each-all (λ s. Stays (setting_key l.id s.place)) (λ s. refl) (owed_settings a l)))

topics-stay : (a : Account) (conn : ℕ) (wish : Wanted) (l : Life)
    → AllByRecursion Stays (topic_keys a conn wish l)
topics-stay a conn wish l =
    by (is_wish wish && not (is_announced a l.id) && is_empty (owed_publishes a conn l))
  where
    by : (b : Bool) → AllByRecursion Stays (cond b (topic_key l.id ∷ []) [])
    by true = (refl, tt)
    by false = tt

values-stay : (a : Account) (wish : Wanted) (since : ℕ) (l : Life) → IsOrdinary wish l
    → AllByRecursion Stays (value_keys a wish since l)
values-stay a wish since l h = by (is_meta l.id) refl
  where
    by : (b : Bool) → is_meta l.id ≡ b → AllByRecursion Stays (value_keys a wish since l)
    by true f =
        subst (λ ps. AllByRecursion Stays (map (λ p. value_key l.id p.place) ps))
        (sym (no-values a wish since l h f)) tt
    by false f =
        each-map Stays (λ p. value_key l.id p.place) (owed_values a wish since l)
        (each-all (λ p. Stays (value_key l.id p.place))
        (λ p. ap (λ b. cond b (value_key l.id 0) (value_key l.id p.place)) f) (owed_values a wish since l))

-- ---- all keys

joined : (a b c d e a' b' c' d' e' : List Key) → a ≡ a' → b ≡ b' → c ≡ c' → d ≡ d' → e ≡ e'
    → a ++ b ++ c ++ d ++ e ≡ a' ++ b' ++ c' ++ d' ++ e'
joined a b c d e a' b' c' d' e' h1 h2 h3 h4 h5 = cc

pub keys-owed : (a : Account) (conn : ℕ) (wish : Life → Wanted) (since : Life → ℕ) (lives : List Life)
    → AreOrdinary wish lives
    → keys (marks_by a conn wish since lives) ≡ map unplaced (keys_owed a conn wish since lives)
keys-owed a conn wish since lives h =
    let e1 : flat_map outbox.end_keys marks ≡ ends =
    flat-marks outbox.end_keys (end_keys a) (λ id name. refl) a conn wish since lives
    (each-all _ (λ l. life-ends a conn wish since l) lives)
    in
    let e2 : flat_map outbox.reply_keys marks ≡ replies =
    flat-marks outbox.reply_keys (λ l. if_living l (reply_keys a conn l))
    (λ id name. refl) a conn wish since lives
    (each-more (λ l. IsOrdinary (wish l) l) _ (λ l o. life-replies a conn wish since l o) lives h)
    ∙ flat-living (reply_keys a conn) lives
    in
    let e3 : flat_map outbox.topic_keys marks ≡ news =
    flat-marks outbox.topic_keys (λ l. if_living l (topic_keys a conn (wish l) l))
    (λ id name. refl) a conn wish since lives
    (each-more (λ l. IsOrdinary (wish l) l) _ (λ l o. life-topics a conn wish since l o) lives h)
    ∙ flat-living (λ l. topic_keys a conn (wish l) l) lives
    in
    let e4 : flat_map outbox.value_keys marks ≡ values =
    flat-marks outbox.value_keys (λ l. if_living l (value_keys a (wish l) (since l) l))
    (λ id name. refl) a conn wish since lives
    (each-more (λ l. IsOrdinary (wish l) l) _ (λ l o. life-values a conn wish since l o) lives h)
    ∙ flat-living (λ l. value_keys a (wish l) (since l) l) lives
    in
    let e5 : flat_map outbox.newest_keys marks ≡ map unplaced newest =
    flat-marks outbox.newest_keys (λ l. if_living l (map unplaced (newest_keys a (wish l) l)))
    (λ id name. refl) a conn wish since lives
    (each-all _ (λ l. life-newest a conn wish since l) lives)
    ∙ flat-living (λ l. map unplaced (newest_keys a (wish l) l)) lives
    ∙ map-flat unplaced (λ l. newest_keys a (wish l) l) living
    in
    let f1 : map unplaced (in_order ends) ≡ in_order ends =
    map-itself unplaced (in_order ends)
    (each-in_order Stays ends
    (each-flat Stays (end_keys a) lives (each-all _ (λ l. ends-stay a l) lives)))
    in
    let f2 : map unplaced (in_order replies) ≡ in_order replies =
    map-itself unplaced (in_order replies)
    (each-in_order Stays replies
    (each-flat Stays (reply_keys a conn) living (each-all _ (λ l. replies-stay a conn l) living)))
    in
    let f3 : map unplaced news ≡ news =
    map-itself unplaced news
    (each-flat Stays (λ l. topic_keys a conn (wish l) l) living
    (each-all _ (λ l. topics-stay a conn (wish l) l) living))
    in
    let f4 : map unplaced (in_order values) ≡ in_order values =
    map-itself unplaced (in_order values)
    (each-in_order Stays values (each-flat Stays (λ l. value_keys a (wish l) (since l) l) living
    (each-more (λ l. IsOrdinary (wish l) l) _ (λ l o. values-stay a (wish l) (since l) l o) living
    (each-filter (λ l. IsOrdinary (wish l) l) is_living lives h))))
    in
    joined (in_order (flat_map outbox.end_keys marks)) (in_order (flat_map outbox.reply_keys marks))
    (flat_map outbox.topic_keys marks) (in_order (flat_map outbox.value_keys marks))
    (flat_map outbox.newest_keys marks) (in_order ends) (in_order replies) news (in_order values)
    (map unplaced newest) (ap in_order e1) (ap in_order e2) e3 (ap in_order e4) e5
    ∙ sym (map-append unplaced (in_order ends ++ in_order replies ++ news ++ in_order values) newest
    ∙ ap (λ ks. ks ++ map unplaced newest)
    (map-append unplaced (in_order ends ++ in_order replies ++ news) (in_order values))
    ∙ ap (λ ks. ks ++ map unplaced (in_order values) ++ map unplaced newest)
    (map-append unplaced (in_order ends ++ in_order replies) news)
    ∙ ap (λ ks. ks ++ map unplaced news ++ map unplaced (in_order values) ++ map unplaced newest)
    (map-append unplaced (in_order ends) (in_order replies))
    ∙ joined (map unplaced (in_order ends)) (map unplaced (in_order replies)) (map unplaced news)
    (map unplaced (in_order values)) (map unplaced newest) (in_order ends) (in_order replies) news
    (in_order values) (map unplaced newest) f1 f2 f3 f4 refl)
  where
    marks : List Mark
    marks = marks_by a conn wish since lives

    living : List Life
    living = filter is_living lives

    ends : List Key
    ends = flat_map (end_keys a) lives

    replies : List Key
    replies = flat_map (reply_keys a conn) living

    news : List Key
    news = flat_map (λ l. topic_keys a conn (wish l) l) living

    values : List Key
    values = flat_map (λ l. value_keys a (wish l) (since l) l) living

    newest : List Key
    newest = flat_map (λ l. newest_keys a (wish l) l) living

-- ---- weights

weight-settings : (conn : ℕ) (ss : List Setting)
    → outbox.settings_weight (map (waiting_setting conn) ss) ≡ settings_weight ss
weight-settings conn [] = refl
weight-settings conn (s ∷ ss) = ap (λ n. 64 + length (compact_text s.update) + n) (weight-settings conn ss)

weight-puts : (ps : List Put) → values_weight (map waiting_put ps) ≡ puts_weight ps
weight-puts [] = refl
weight-puts (p ∷ ps) = ap (λ n. 64 + size_of p.value + n) (weight-puts ps)

life-weight : (a : Account) (conn : ℕ) (wish : Life → Wanted) (since : Life → ℕ) (l : Life)
    → IsOrdinary (wish l) l
    → mark_weight (mark_of a conn wish since l) ≡ life_weight a conn (wish l) (since l) l
life-weight a conn wish since l h =
    by-kind (λ m. mark_weight m ≡ life_weight a conn (wish l) (since l) l) a conn wish since l over meta topic
  where
    weighs : ℕ
    weighs = living_weight a conn (wish l) (since l) l

    over : is_living l ≡ false → mark_weight (end_mark a l) ≡ life_weight a conn (wish l) (since l) l
    over e = let none = ap (λ b. cond b weighs 0) e in omega arith

    on : is_living l ≡ true → weighs ≡ life_weight a conn (wish l) (since l) l
    on e =
        let all = ap (λ b. cond b weighs 0) e in
        let none = ap (λ o. 64 * length (option_items o)) (no-end a l e) in
        omega arith

    meta : is_living l ≡ true → is_meta l.id ≡ true
        → mark_weight (meta_mark a (wish l) l) ≡ life_weight a conn (wish l) (since l) l
    meta e f =
        let e1 = ap (λ ps. 64 * length ps) (no-publishes a conn (wish l) l h f) in
        let e2 = ap settings_weight (no-settings a (wish l) l h f) in
        let e3 = ap puts_weight (no-values a (wish l) (since l) l h f) in
        let none : 0 ≡ weighs = omega arith in
        none ∙ on e

    topic : is_living l ≡ true → is_meta l.id ≡ false
        → mark_weight (topic_mark a conn (wish l) (since l) l) ≡ life_weight a conn (wish l) (since l) l
    topic e f =
        let e1 = length-map (owed_publishes a conn l) waiting_publish in
        let e2 = weight-settings conn (owed_settings a l) in
        let e3 = weight-puts (owed_values a (wish l) (since l) l) in
        let same : mark_weight (topic_mark a conn (wish l) (since l) l) ≡ weighs = omega arith in
        same ∙ on e

pub weight-owed : (a : Account) (conn : ℕ) (wish : Life → Wanted) (since : Life → ℕ) (lives : List Life)
    → AreOrdinary wish lives
    → weight (marks_by a conn wish since lives) ≡ lives_weight a conn wish since lives
weight-owed a conn wish since [] h = refl
weight-owed a conn wish since (l ∷ lives) h =
    by (is_blank m) refl (weight-owed a conn wish since lives h.1) (life-weight a conn wish since l h.0)
  where
    m : Mark
    m = mark_of a conn wish since l

    rest : List Mark
    rest = marks_by a conn wish since lives

    by : (b : Bool) → is_blank m ≡ b → weight rest ≡ lives_weight a conn wish since lives
        → mark_weight m ≡ life_weight a conn (wish l) (since l) l
        → weight (cond (not b) (m ∷ rest) rest) ≡ lives_weight a conn wish since (l ∷ lives)
    by false e more one = omega arith
    by true e more one =
        let nothing : mark_weight m ≡ 0 = ap mark_weight (blank-fresh m e) in
        omega arith
