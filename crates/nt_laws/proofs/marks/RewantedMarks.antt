-- How much a life is wanted changes: what that does to what is kept of it is what the call of the outbox does.
use Rattle.std.proofs.Common.{◌≡◌, ◌+◌, ◌==◌, ◌&&◌, not, ℕ, Bool, true, false, cond, leb, ltb, List, []}
use Rattle.std.proofs.Common.{◌∷◌, Option, None, map, filter, refl, sym, ◌∙◌, ap, subst, arith}
use Rattle.std.specs.Prelude.{option_map, reverse}
use Rattle.std.specs.List.{list_any}
use Rattle.std.proofs.lemmas.Bool.Decides.{nat_tests}
use Rattle.nt_topics.specs.Properties.{is_cached}
use Rattle.nt_subs.specs.declared.wish.Wanted.{Wanted}
use Rattle.nt_subs.specs.declared.wish.Wanted.TheVariants.{No, TopicOnly, Newest, All}
use Rattle.nt_rules.specs.topics.Puts.{Put, taken, greatest, newest}
use Rattle.nt_rules.specs.outbox.Marks.{Mark}
use Rattle.nt_rules.specs.declared.waiting.Placed.{Placed}
use Rattle.nt_rules.specs.outbox.Keys.{Key, is_in, announces, publish_key, next_value}
use Rattle.nt_rules.specs.outbox.Marks.{is_valued}
use Rattle.nt_rules.specs.outbox.Marks.{rewanted, still_queued, same_wish, all_of, newest_of, from_place, place_from}
use Rattle.nt_rules.specs.history.Lives.{Life, taken_since_turn, held_of}
use Rattle.nt_rules.specs.history.Owed.{Account, is_announced, owed_publishes, owed_settings, owed_cached}
use Rattle.nt_rules.specs.history.Owed.{owed_uncached}
use Rattle.nt_rules.specs.history.Owed.{owed_values, newest_for, owed_newest, place_by, newest_from, is_all}
use Rattle.nt_rules.specs.history.Marks.{waiting_put, topic_mark}
use Rattle.nt_laws.proofs.histories.Facts.{AllBefore, Falling, IsRising, before-taken, falling-taken}
use Rattle.nt_laws.proofs.topics.Puts.{last-taken}
use Rattle.nt_laws.proofs.marks.MarkLaws.{counts, Agree, all_from, all_after, settings-same, values-same, newest-same}
use Rattle.nt_laws.proofs.marks.MarkLaws.{mark-same}

-- none of those before a place is at it or later
none-after : (next n : ℕ) (ps : List Put) → AllBefore n ps
    → filter (λ p. leb next p.place && leb n p.place) ps ≡ []
none-after next n [] a = refl
none-after next n (p ∷ ps) a =
    let past : leb n p.place ≡ false = (let less = a.0 in grind (arith, nat_tests)) in
    ap (λ b. cond (leb next p.place && b) (p ∷ rest) rest) past ∙ by (leb next p.place)
    ∙ none-after next n ps a.1
  where
    rest : List Put
    rest = filter (λ q. leb next q.place && leb n q.place) ps

    by : (b : Bool) → cond (b && false) (p ∷ rest) rest ≡ rest
    by true = refl
    by false = refl

-- where the wish becomes All at a place after all puts, the held one alone is owed
all-held : (next since : ℕ) (ts : List Put) → AllBefore since ts → Falling ts
    → map waiting_put (all_from next (place_by since ts) ts) ≡ from_place next (option_map waiting_put (newest ts))
all-held next since [] a f = refl
all-held next since (p ∷ ts) a f =
    let by_now : leb p.place since ≡ true = (let less = a.0 in grind (arith, nat_tests)) in
    let low : place_by since (p ∷ ts) ≡ p.place = ap (λ b. cond b p.place (place_by since ts)) by_now in
    let here : leb p.place p.place ≡ true = grind (arith, nat_tests) in
    ap (λ n. map waiting_put (all_from next n (p ∷ ts))) low
    ∙ ap (λ b. map waiting_put (reverse (cond (leb next p.place && b) (p ∷ rest) rest))) here
    ∙ ap (λ qs. map waiting_put (reverse (cond (leb next p.place && true) (p ∷ qs) qs)))
    (none-after next p.place ts f.0)
    ∙ by (leb next p.place)
  where
    rest : List Put
    rest = filter (λ (q : Put). leb next q.place && leb p.place q.place) ts

    by : (b : Bool) → map waiting_put (reverse (cond (b && true) (p ∷ []) [])) ≡ cond b (waiting_put p ∷ []) []
    by true = refl
    by false = refl

newest-held : (next : ℕ) (ts : List Put)
    → newest_from next ts ≡ place_from next (option_map (λ p. p.place) (option_map waiting_put (newest ts)))
newest-held next [] = refl
newest-held next (p ∷ ts) = refl

same-wish : (old wish : Wanted) → same_wish old wish ≡ true → old ≡ wish
same-wish No No e = refl
same-wish No TopicOnly e = cc
same-wish No Newest e = cc
same-wish No All e = cc
same-wish TopicOnly No e = cc
same-wish TopicOnly TopicOnly e = refl
same-wish TopicOnly Newest e = cc
same-wish TopicOnly All e = cc
same-wish Newest No e = cc
same-wish Newest TopicOnly e = cc
same-wish Newest Newest e = refl
same-wish Newest All e = cc
same-wish All No e = cc
same-wish All TopicOnly e = cc
same-wish All Newest e = cc
same-wish All All e = refl

not-all : (old : Wanted) → same_wish old All ≡ false → is_all old ≡ false
not-all No e = refl
not-all TopicOnly e = refl
not-all Newest e = refl
not-all All e = cc

-- none of those before a place is after it
none-later : (next n : ℕ) (ps : List Put) → AllBefore n ps
    → filter (λ p. leb next p.place && ltb n p.place) ps ≡ []
none-later next n [] a = refl
none-later next n (p ∷ ps) a =
    let past : ltb n p.place ≡ false = (let less = a.0 in grind (arith, nat_tests)) in
    ap (λ b. cond (leb next p.place && b) (p ∷ rest) rest) past ∙ by (leb next p.place)
    ∙ none-later next n ps a.1
  where
    rest : List Put
    rest = filter (λ q. leb next q.place && ltb n q.place) ps

    by : (b : Bool) → cond (b && false) (p ∷ rest) rest ≡ rest
    by true = refl
    by false = refl

-- what was held, as it is placed
abbrev pub held_placed : Life → Option Placed
held_placed l = option_map waiting_put (held_of l)

-- what is owed under another wish of a cached topic, by what it holds
abbrev held_if : Life → Option Placed
held_if l = option_map waiting_put (greatest l.puts)

abbrev bare : List Key → Account
bare given = record { given = given; told_settings = []; fell = None }

values-rewanted : (given : List Key) (wish : Wanted) (now : ℕ) (l : Life) → taken_since_turn l ≡ taken l.puts
    → (wish ≡ All → AllBefore now l.puts) → Falling l.puts
    → map waiting_put (owed_cached (bare given) wish now l) ≡ all_of wish (next_value given l.id) (held_if l)
values-rewanted given No now l e before fall = refl
values-rewanted given TopicOnly now l e before fall = refl
values-rewanted given Newest now l e before fall = refl
values-rewanted given All now l e before fall =
    ap (λ ts. map waiting_put (all_from (next_value given l.id) (place_by now ts) ts)) e
    ∙ all-held (next_value given l.id) now (taken l.puts) (before-taken now l.puts (before refl))
    (falling-taken l.puts fall)
    ∙ ap (λ h. from_place (next_value given l.id) (option_map waiting_put h)) (last-taken l.puts)

newest-rewanted : (given : List Key) (wish : Wanted) (l : Life) → taken_since_turn l ≡ taken l.puts
    → newest_for (bare given) wish l
    ≡ newest_of wish (next_value given l.id) (option_map (λ p. p.place) (held_if l))
newest-rewanted given No l e = refl
newest-rewanted given TopicOnly l e = refl
newest-rewanted given All l e = refl
newest-rewanted given Newest l e =
    ap (λ ts. newest_from (next_value given l.id) ts) e
    ∙ newest-held (next_value given l.id) (taken l.puts)
    ∙ ap (λ h. place_from (next_value given l.id) (option_map (λ p. p.place) (option_map waiting_put h)))
    (last-taken l.puts)

-- of a topic that isn't cached what was queued stays where its values were wanted and are
queue-rewanted : (given : List Key) (old wish : Wanted) (n since now : ℕ) (l : Life)
    → now ≡ cond (is_valued old) since (n + 1) → taken_since_turn l ≡ l.puts → AllBefore (n + 1) l.puts
    → map waiting_put (owed_uncached (bare given) wish now l)
    ≡ still_queued old wish (map waiting_put (owed_uncached (bare given) old since l))
queue-rewanted given old wish n since now l at e before = by (is_valued wish) (is_valued old) at
  where
    next : ℕ
    next = next_value given l.id

    ts : List Put
    ts = taken_since_turn l

    by : (v was : Bool) → now ≡ cond was since (n + 1)
        → map waiting_put (cond v (all_after next now ts) [])
        ≡ cond (was && v) (map waiting_put (cond was (all_after next since ts) [])) []
    by false true at = refl
    by false false at = refl
    by true true at = ap (λ n. map waiting_put (all_after next n ts)) at
    by true false at =
        ap (λ n. map waiting_put (all_after next n ts)) at
        ∙ ap (λ ts. map waiting_put (all_after next (n + 1) ts)) e
        ∙ ap (λ ps. map waiting_put (reverse ps)) (none-later next (n + 1) l.puts before)

-- how much a life is wanted changes at a place after all its puts
pub mark-rewant : (n : ℕ) (a b : Account) → Agree n a b → (conn : ℕ) (old wish : Wanted) (since now : ℕ) (l : Life)
    → now ≡ cond (counts (is_cached l.props) old) since (n + 1)
    → IsRising (λ s. s.place) 1 n l.settings → AllBefore (n + 1) l.puts → Falling l.puts
    → topic_mark b conn wish now l
    ≡ rewanted (is_cached l.props) (held_placed l) old wish (topic_mark a conn old since l)
mark-rewant n a b agree conn old wish since now l at h before fall = by (same_wish old wish) refl
  where
    next : ℕ
    next = next_value a.given l.id

    -- the mark under the new wish, with these values
    with_values : List Placed → Option ℕ → Mark
    with_values vs newest =
        record (topic_mark a conn old since l) { wish = wish; values = vs; newest = newest }

    -- its mark after another wish, where it is cached or not
    other : Bool → Mark
    other c =
        cond c
        (with_values (all_of wish next (option_map waiting_put (cond c (greatest l.puts) None)))
        (newest_of wish next (option_map (λ p. p.place) (option_map waiting_put (cond c (greatest l.puts) None)))))
        (with_values
        (still_queued old wish
        (map waiting_put (cond c (owed_cached a old since l) (owed_uncached a old since l)))) None)

    -- the wish stays
    stays : same_wish old wish ≡ true → topic_mark b conn wish now l ≡ topic_mark a conn old since l
    stays e =
        ap (λ w. topic_mark b conn w now l) (sym (same-wish old wish e))
        ∙ mark-same n a b agree conn old since now l
        (λ c. at ∙ ap (λ b. cond b since (n + 1)) c) h l.pubs l.puts refl

    -- it is another one
    joined : topic_mark b conn wish now l
        ≡ with_values (map waiting_put (owed_values (bare a.given) wish now l)) (owed_newest (bare a.given) wish l)
    joined =
        let e1 : is_announced b l.id ≡ is_announced a l.id =
        ap (λ g. list_any (announces l.id) g) agree.given_are in
        let e2 : owed_publishes b conn l ≡ owed_publishes a conn l =
        ap (λ g. filter (λ p. not (is_in g (publish_key l.id p.place)))
        (filter (λ p. p.conn == conn) l.publishings)) agree.given_are
        in
        let e3 : owed_settings b l ≡ owed_settings a l = settings-same n a b agree l h in
        let e4 : next_value b.given l.id ≡ next_value a.given l.id =
        ap (λ g. next_value g l.id) agree.given_are in
        let e5 : owed_values b wish now l ≡ owed_values (bare a.given) wish now l =
        values-same (bare a.given) b agree.given_are wish now now l l (λ x. refl) refl refl refl in
        let e6 : owed_newest b wish l ≡ owed_newest (bare a.given) wish l =
        newest-same (bare a.given) b agree.given_are wish l l refl refl refl in
        cc

    taken_is : (c : Bool) → is_cached l.props ≡ c → taken_since_turn l ≡ cond c (taken l.puts) l.puts
    taken_is c e = ap (λ c. cond c (taken l.puts) l.puts) e

    values_are : same_wish old wish ≡ false → (c : Bool) → is_cached l.props ≡ c
        → now ≡ cond (counts c old) since (n + 1)
        → with_values
        (map waiting_put (cond c (owed_cached (bare a.given) wish now l) (owed_uncached (bare a.given) wish now l)))
        (cond c (newest_for (bare a.given) wish l) None)
        ≡ other c
    values_are e true f at =
        ap (λ vs. with_values vs (newest_for (bare a.given) wish l))
        (values-rewanted a.given wish now l (taken_is true f)
        (λ all. subst (λ m. AllBefore m l.puts)
        (sym (at ∙ ap (λ t. cond t since (n + 1)) (not-all old (ap (λ w. same_wish old w) (sym all) ∙ e)))) before)
        fall)
        ∙ ap (λ o. with_values (all_of wish next (held_if l)) o) (newest-rewanted a.given wish l (taken_is true f))
    values_are e false f at =
        ap (λ vs. with_values vs None) (queue-rewanted a.given old wish n since now l at (taken_is false f) before)

    by : (t : Bool) → same_wish old wish ≡ t → topic_mark b conn wish now l
        ≡ cond t (topic_mark a conn old since l) (other (is_cached l.props))
    by true e = stays e
    by false e = joined ∙ values_are e (is_cached l.props) refl at
