-- What an index of subscriptions' names says, and when it is right.
use Rattle.std.specs.Prelude.{◌≡◌, ◌+◌, ◌-◌, ◌<◌, ◌^◌, ℕ, zero, suc, Bool, true, false, ◌&&◌, List, length, take, Option, Some, None, Vec, bytes_eq, nat_eq, nat_lt, sum_by, if◌then◌else◌}
use Rattle.std.specs.BTreeMap.{BTreeMap, get, get_by}
use Rattle.std.specs.Cmp.Lexicographic.{slice_cmp}
use Rattle.std.specs.List.{count_by}
use Rattle.std.specs.Map.{values_of}
use Rattle.std.specs.Ordering.{nat_cmp}
use Rattle.nt_topics.specs.Names.{is_special}
use Rattle.nt_subs.specs.Subscriptions.{Subs}
use Rattle.nt_subs.specs.Wishes.{greater, strength}
use Rattle.nt_subs.specs.declared.counts.Counts.{Counts}
use Rattle.nt_subs.specs.declared.given.Given.{Given}
use Rattle.nt_subs.specs.declared.index.Index.{Index}
use Rattle.nt_subs.specs.declared.sub.Sub.{Sub}
use Rattle.nt_subs.specs.declared.wish.Wanted.{Wanted}
use Rattle.nt_subs.specs.declared.wish.Wanted.TheVariants.{No, TopicOnly, Newest, All}

-- ---- how often a name is given

abbrev pub none : Counts
none = record { topic_only = 0; newest = 0; all = 0 }

-- how often with this wish
abbrev pub count : Wanted → Counts → ℕ
count No counts = 0
count TopicOnly counts = counts.topic_only
count Newest counts = counts.newest
count All counts = counts.all

-- once more with this wish
abbrev pub more : Wanted → Counts → Counts
more No counts = counts
more TopicOnly counts = record { topic_only = counts.topic_only + 1; newest = counts.newest; all = counts.all }
more Newest counts = record { topic_only = counts.topic_only; newest = counts.newest + 1; all = counts.all }
more All counts = record { topic_only = counts.topic_only; newest = counts.newest; all = counts.all + 1 }

-- once less
abbrev pub less : Wanted → Counts → Counts
less No counts = counts
less TopicOnly counts = record { topic_only = counts.topic_only - 1; newest = counts.newest; all = counts.all }
less Newest counts = record { topic_only = counts.topic_only; newest = counts.newest - 1; all = counts.all }
less All counts = record { topic_only = counts.topic_only; newest = counts.newest; all = counts.all - 1 }

-- the greatest wish with which it is given
abbrev pub strongest : Counts → Wanted
strongest counts =
    if nat_lt 0 counts.all then All
    else (if nat_lt 0 counts.newest then Newest else (if nat_lt 0 counts.topic_only then TopicOnly else No))

-- ---- look-ups

abbrev pub counts_or_none : Option Counts → Counts
counts_or_none None = none
counts_or_none (Some counts) = counts

-- what a map of names says of one
abbrev pub said_in : {Y : Type 0} → BTreeMap (Vec ℕ Y) Counts → List ℕ → Counts
said_in tally name = counts_or_none (get_by (λ k. slice_cmp nat_cmp name k.items) tally)

abbrev pub said_at : {Y : Type 0} → Option (BTreeMap (Vec ℕ Y) Counts) → List ℕ → Counts
said_at None name = none
said_at (Some tally) name = said_in tally name

-- what is said of a name
abbrev pub said : Given → List ℕ → Counts
said given name = said_at (get nat_cmp given.by_length (length name)) name

-- the greatest wish with which a name's first bytes are given as a prefix. A special name has no prefix of no bytes
abbrev pub head_wish : Given → List ℕ → ℕ → Wanted
head_wish given name n = if is_special name && nat_eq n 0 then No else strongest (said given (take n name))

-- the same of so many bytes, or fewer
abbrev pub heads_wish : Given → List ℕ → ℕ → Wanted
heads_wish given name zero = head_wish given name 0
heads_wish given name (suc n) = greater (head_wish given name (suc n)) (heads_wish given name n)

-- ---- an index that is right

-- two wishes are the same, and not that for nothing
abbrev pub is_asked : Wanted → Wanted → Bool
is_asked TopicOnly TopicOnly = true
is_asked Newest Newest = true
is_asked All All = true
is_asked wish other = false

-- how often a list of names has a name, where they are given with this wish
abbrev pub times_in : Wanted → List ℕ → Wanted → List (List ℕ) → ℕ
times_in wish name given_with names =
    if is_asked wish given_with then count_by (λ given. bytes_eq given name) names else 0

-- how often a subscription gives a name with a wish, as a prefix or not
abbrev pub given_by : Bool → Wanted → List ℕ → Sub → ℕ
given_by true wish name sub =
    if sub.options.prefix then times_in wish name (strength sub.options) sub.names else 0
given_by false wish name sub =
    if sub.options.prefix then 0 else times_in wish name (strength sub.options) sub.names

-- how often subscriptions do
abbrev pub given_in : Bool → Wanted → List ℕ → Subs → ℕ
given_in prefix wish name subs = sum_by (given_by prefix wish name) (values_of subs)

-- the part that speaks of prefixes, or of whole names
abbrev pub part : Bool → Index → Given
part prefix index = if prefix then index.prefixes else index.exact

-- how often an index says that a name is given with a wish, as a prefix or not
abbrev pub times : Bool → Wanted → List ℕ → Index → ℕ
times prefix wish name index = count wish (said (part prefix index) name)

-- it says what there is
abbrev pub IsIndexed : Index → Subs → Type 0
IsIndexed index subs = (prefix : Bool) (wish : Wanted) (name : List ℕ)
    → times prefix wish name index ≡ given_in prefix wish name subs

-- so many more times can be counted
abbrev pub HasRoom : ℕ → Given → Type 0
HasRoom n given = (wish : Wanted) (name : List ℕ) → count wish (said given name) + n < 2 ^ 64
