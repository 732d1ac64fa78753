-- The values of a message's params, as they are read and as they are written. A number is whole where JSON spells it
-- without a fraction and an exponent, and it fits 64 bits.
use Rattle.std.specs.Prelude.{◌≡◌, ℕ, ℤ, List, [], ◌∷◌, codes, Bool, true, false, Option, Some, None, map, is_some, option_map, option_and_then, bytes_eq}
use Rattle.serde_json.specs.Data.{Data, boolean, number, string, array, object, Items, no_items, item, Members, no_members, member}
use Rattle.serde_json.specs.Find.{get_member, as_bool, as_str, as_number, as_i64, as_array, as_object, of_integer}
use Rattle.serde_json.specs.View.{items_of}
use Rattle.nt_topics.specs.Properties.{properties_of}
use Rattle.nt_subs.specs.declared.sub.Options.{Options}

-- ---- read

-- the text at a key
abbrev pub text_at : List ℕ → Members → Option (List ℕ)
text_at key params = option_and_then as_str (get_member key params)

-- a whole number from -2^63 to 2^63 - 1
abbrev pub integer_of : Data → Option ℤ
integer_of d = option_and_then as_i64 (as_number d)

-- the whole number at a key
abbrev pub integer_at : List ℕ → Members → Option ℤ
integer_at key params = option_and_then integer_of (get_member key params)

-- a whole number that may be absent
abbrev pub integer_if : Option Data → Option (Option ℤ)
integer_if None = Some None
integer_if (Some d) = option_map Some (integer_of d)

-- a flag that may be absent, and is then false
abbrev pub flag_if : Option Data → Option Bool
flag_if None = Some false
flag_if (Some d) = as_bool d

-- properties that may be absent, and are then none
abbrev pub properties_if : Option Data → Option Data
properties_if None = Some (object no_members)
properties_if (Some d) = properties_of d

-- whether a value is a number, where it isn't absent
abbrev pub is_number_if : Option Data → Bool
is_number_if None = true
is_number_if (Some d) = is_some (as_number d)

-- a text before other texts
abbrev pub text_before : Option (List ℕ) → Option (List (List ℕ)) → Option (List (List ℕ))
text_before (Some text) (Some texts) = Some (text ∷ texts)
text_before (Some text) None = None
text_before None texts = None

-- the texts of an array, where it holds no other item
abbrev pub texts_of : Items → Option (List (List ℕ))
texts_of no_items = Some []
texts_of (item d ds) = text_before (as_str d) (texts_of ds)

-- the texts at a key
abbrev pub texts_at : List ℕ → Members → Option (List (List ℕ))
texts_at key params = option_and_then texts_of (option_and_then as_array (get_member key params))

-- the options with these flags
abbrev pub options : Bool → Option Bool → Option Bool → Option Bool → Option Options
options true (Some all) (Some prefix) (Some topicsonly) =
    Some (record { all = all; topicsonly = topicsonly; prefix = prefix })
options _ _ _ _ = None

-- the options of a subscription. The period says nothing here, but it is a number
abbrev pub options_of : Members → Option Options
options_of members =
    options
    (is_number_if (get_member (codes "periodic") members))
    (flag_if (get_member (codes "all") members))
    (flag_if (get_member (codes "prefix") members))
    (flag_if (get_member (codes "topicsonly") members))

-- options that may be absent, and are then all false
abbrev pub options_if : Option Data → Option Options
options_if None = Some (record { all = false; topicsonly = false; prefix = false })
options_if (Some d) = option_and_then options_of (as_object d)

-- each key but this one has what it had
abbrev pub KeepsOthers : List ℕ → Members → Members → Type 0
KeepsOthers key old new =
    (other : List ℕ) → bytes_eq other key ≡ false → get_member other new ≡ get_member other old

-- ---- written

-- a whole number
abbrev pub whole : ℤ → Data
whole n = number (of_integer n)

-- a whole number before other members, where there is one
abbrev pub integer_member : List ℕ → Option ℤ → Members → Members
integer_member key None rest = rest
integer_member key (Some n) rest = member key (whole n) rest

-- a flag before other members, where it is true
abbrev pub flag_member : List ℕ → Bool → Members → Members
flag_member key true rest = member key (boolean true) rest
flag_member key false rest = rest

-- the array of these texts
abbrev pub text_items : List (List ℕ) → Data
text_items texts = array (items_of (map string texts))

-- the options that are true
abbrev pub option_members : Options → Members
option_members o =
    flag_member (codes "all") o.all
    (flag_member (codes "prefix") o.prefix
    (flag_member (codes "topicsonly") o.topicsonly no_members))
