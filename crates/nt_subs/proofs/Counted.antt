-- How often names are given, one by one.
use Rattle.std.proofs.Common.{◌≡◌, ℕ, ◌+◌, ◌-◌, ◌<◌, ◌≤◌, Bool, true, false, cond, ltb, ltb-false, List, length, take, get_or, bytes_eq, refl, ap, ◌∙◌, arith}
use Rattle.std.proofs.lemmas.List.Sums.{count_by_more_yes, count_by_more_no, count_by-le-length}
use Rattle.std.specs.List.{count_by}
use Rattle.nt_subs.specs.Index.{none, count, more, less, strongest, is_asked, times_in}
use Rattle.nt_subs.specs.declared.counts.Counts.{Counts}
use Rattle.nt_subs.specs.declared.wish.Wanted.{Wanted}
use Rattle.nt_subs.specs.declared.wish.Wanted.TheVariants.{No, TopicOnly, Newest, All}

-- one name of a list, among how often they are given
abbrev pub one : Wanted → Wanted → Bool → ℕ
one wish given_with same = cond same (cond (is_asked wish given_with) 1 0) 0

count-more : (w wish : Wanted) (c : Counts) → count w (more wish c) ≡ count w c + cond (is_asked w wish) 1 0
count-more No No c = refl
count-more No TopicOnly c = refl
count-more No Newest c = refl
count-more No All c = refl
count-more TopicOnly No c = omega arith
count-more TopicOnly TopicOnly c = refl
count-more TopicOnly Newest c = omega arith
count-more TopicOnly All c = omega arith
count-more Newest No c = omega arith
count-more Newest TopicOnly c = omega arith
count-more Newest Newest c = refl
count-more Newest All c = omega arith
count-more All No c = omega arith
count-more All TopicOnly c = omega arith
count-more All Newest c = omega arith
count-more All All c = refl

count-less : (w wish : Wanted) (c : Counts) → count w (less wish c) ≡ count w c - cond (is_asked w wish) 1 0
count-less No No c = refl
count-less No TopicOnly c = refl
count-less No Newest c = refl
count-less No All c = refl
count-less TopicOnly No c = omega arith
count-less TopicOnly TopicOnly c = refl
count-less TopicOnly Newest c = omega arith
count-less TopicOnly All c = omega arith
count-less Newest No c = omega arith
count-less Newest TopicOnly c = omega arith
count-less Newest Newest c = refl
count-less Newest All c = omega arith
count-less All No c = omega arith
count-less All TopicOnly c = omega arith
count-less All Newest c = omega arith
count-less All All c = refl

-- what is said of a name, after one is noted
pub count-noted : (w wish : Wanted) (same : Bool) (c : Counts)
    → count w (cond same (more wish c) c) ≡ count w c + one w wish same
count-noted w wish true c = count-more w wish c
count-noted w wish false c = omega arith

-- and after one is forgotten
pub count-forgotten : (w wish : Wanted) (same : Bool) (c : Counts)
    → count w (cond same (less wish c) c) ≡ count w c - one w wish same
count-forgotten w wish true c = count-less w wish c
count-forgotten w wish false c = omega arith

-- one name more of a list
pub times_in-more : (w wish : Wanted) (n : List ℕ) (names : List (List ℕ)) (i : ℕ) (d : List ℕ) → i < length names
    → times_in w n wish (take (i + 1) names)
    ≡ times_in w n wish (take i names) + one w wish (bytes_eq (get_or names i d) n)
times_in-more w wish n names i d within = by (is_asked w wish) (bytes_eq (get_or names i d) n) refl
  where
    test : List ℕ → Bool
    test given = bytes_eq given n

    by : (asked same : Bool) → bytes_eq (get_or names i d) n ≡ same
        → cond asked (count_by (λ given. bytes_eq given n) (take (i + 1) names)) 0
        ≡ cond asked (count_by (λ given. bytes_eq given n) (take i names)) 0 + cond same (cond asked 1 0) 0
    by true true e = count_by_more_yes (λ given. bytes_eq given n) names i d within e
    by true false e =
        let more : count_by (λ given. bytes_eq given n) (take (i + 1) names)
        ≡ count_by (λ given. bytes_eq given n) (take i names) =
        count_by_more_no (λ given. bytes_eq given n) names i d within e in omega arith
    by false true e = refl
    by false false e = refl

-- a list has a name at most as often as it has names
pub times_in-length : (w wish : Wanted) (n : List ℕ) (names : List (List ℕ)) → times_in w n wish names ≤ length names
times_in-length w wish n names = by (is_asked w wish)
  where
    by : (asked : Bool) → cond asked (count_by (λ given. bytes_eq given n) names) 0 ≤ length names
    by true = count_by-le-length (λ given. bytes_eq given n) names
    by false = omega arith

-- a name that is given with no wish isn't given
pub nothing_left : (c : Counts) → strongest c ≡ No → c ≡ none
nothing_left c h = by (ltb 0 c.all) (ltb 0 c.newest) (ltb 0 c.topic_only) refl refl refl h
  where
    made : ℕ → ℕ → ℕ → Counts
    made t n a = record { topic_only = t; newest = n; all = a }

    by : (a n t : Bool) → ltb 0 c.all ≡ a → ltb 0 c.newest ≡ n → ltb 0 c.topic_only ≡ t
        → cond a All (cond n Newest (cond t TopicOnly No)) ≡ No → c ≡ none
    by true n t ea en et h = absurd (cc)
    by false true t ea en et h = absurd (cc)
    by false false true ea en et h = absurd (cc)
    by false false false ea en et h =
        let za : c.all ≡ 0 = let l = ltb-false 0 c.all ea in omega arith in
        let zn : c.newest ≡ 0 = let l = ltb-false 0 c.newest en in omega arith in
        let zt : c.topic_only ≡ 0 = let l = ltb-false 0 c.topic_only et in omega arith in
        record-path za zn zt
      where
        record-path : c.all ≡ 0 → c.newest ≡ 0 → c.topic_only ≡ 0 → c ≡ none
        record-path za zn zt =
            ap (λ a. made c.topic_only c.newest a) za ∙ ap (λ n. made c.topic_only n 0) zn ∙ ap (λ t. made t 0 0) zt
