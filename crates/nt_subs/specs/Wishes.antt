-- How much a topic is wanted (NetworkTables 4.1, "Subscribe Message" and "Subscription Options").
use Rattle.std.specs.Prelude.{ℕ, ℤ, Bool, not, ◌&&◌, ◌||◌, List, [], ◌∷◌, bytes_eq, nat_eq, if◌then◌else◌}
use Rattle.std.specs.List.{list_any, starts_with}
use Rattle.nt_topics.specs.Names.{is_special}
use Rattle.nt_subs.specs.declared.sub.Options.{Options}
use Rattle.nt_subs.specs.declared.sub.Sub.{Sub}
use Rattle.nt_subs.specs.declared.wish.Wanted.{Wanted}
use Rattle.nt_subs.specs.declared.wish.Wanted.TheVariants.{No, TopicOnly, Newest, All}

-- the name is the one that a subscription gives, or begins with it where that is a prefix. A
-- special name begins only with a prefix that is special too
abbrev pub is_meant : Bool → List ℕ → List ℕ → Bool
is_meant prefix given name =
    if prefix then starts_with nat_eq name given && (not (is_special name) || is_special given)
    else bytes_eq given name

-- one of the subscription's names means it
abbrev pub is_matched : Sub → List ℕ → Bool
is_matched sub name = list_any (λ given. is_meant sub.options.prefix given name) sub.names

-- what the options ask for
abbrev pub strength : Options → Wanted
strength options = if options.topicsonly then TopicOnly else (if options.all then All else Newest)

-- how much a subscription wants a topic
abbrev pub wish : Sub → List ℕ → Wanted
wish sub name = if is_matched sub name then strength sub.options else No

-- the greater of two wishes
abbrev pub greater : Wanted → Wanted → Wanted
greater No other = other
greater All other = All
greater TopicOnly No = TopicOnly
greater TopicOnly other = other
greater Newest All = All
greater Newest other = Newest

-- how much a list of subscriptions wants a topic: the greatest wish of any
abbrev pub wanted : List (ℤ × Sub) → List ℕ → Wanted
wanted [] name = No
wanted (entry ∷ entries) name = greater (wish entry.1 name) (wanted entries name)
