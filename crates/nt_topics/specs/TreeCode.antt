-- A code for what a `serde_json` value is, by which a proof tells such values apart.
use Rattle.std.specs.Prelude.{◌≡◌, ◌==◌, ℕ, List, refl, cond}
use Rattle.std.specs.Coded.{Coded, coded_ℕ, coded_ℤ, coded_bool, coded_list}
use base.Stored.{Gv, gnil, gnum, gcons, num, coded_float}
use mathlib.Core.Path.{ap, ap₂, sym, ◌∙◌}
use native.Mathlib.Nat.{suc-ne-zero}
use Rattle.serde_json.specs.Data.{Num, unsigned, negative, float, Data, null, boolean, number, string, array, object, Items, no_items, item, Members, no_members, member}

abbrev left : Gv → Gv
left gnil = gnil
left (gnum n) = gnil
left (gcons a b) = a

abbrev right : Gv → Gv
right gnil = gnil
right (gnum n) = gnil
right (gcons a b) = b

-- 1 where the first part is this number
abbrev has_tag : ℕ → Gv → ℕ
has_tag n g = cond (num (left g) == n) 1 0

abbrev is_pair : Gv → ℕ
is_pair gnil = 0
is_pair (gnum n) = 0
is_pair (gcons a b) = 1

abbrev texts : Coded (List ℕ)
texts = coded_list coded_ℕ

abbrev num_code : Num → Gv
num_code (unsigned n) = gcons (gnum 0) (gnum n)
num_code (negative z) = gcons (gnum 1) (coded_ℤ.code z)
num_code (float x) = gcons (gnum 2) (coded_float.code x)

pub num_inj : (x y : Num) → num_code x ≡ num_code y → x ≡ y
num_inj (unsigned n) (unsigned m) p = ap unsigned (ap (λ g. num (right g)) p)
num_inj (negative n) (negative m) p = ap negative (coded_ℤ.inj n m (ap right p))
num_inj (float n) (float m) p = ap float (coded_float.inj n m (ap right p))
num_inj (unsigned n) (negative m) p = absurd (suc-ne-zero 0 (ap (has_tag 0) p))
num_inj (unsigned n) (float m) p = absurd (suc-ne-zero 0 (ap (has_tag 0) p))
num_inj (negative n) (unsigned m) p = absurd (suc-ne-zero 0 (ap (has_tag 1) p))
num_inj (negative n) (float m) p = absurd (suc-ne-zero 0 (ap (has_tag 1) p))
num_inj (float n) (unsigned m) p = absurd (suc-ne-zero 0 (ap (has_tag 2) p))
num_inj (float n) (negative m) p = absurd (suc-ne-zero 0 (ap (has_tag 2) p))

abbrev mutual
  data_code : Data → Gv
  data_code null = gcons (gnum 0) gnil
  data_code (boolean b) = gcons (gnum 1) (coded_bool.code b)
  data_code (number n) = gcons (gnum 2) (num_code n)
  data_code (string s) = gcons (gnum 3) (texts.code s)
  data_code (array ds) = gcons (gnum 4) (items_code ds)
  data_code (object ms) = gcons (gnum 5) (members_code ms)

  items_code : Items → Gv
  items_code no_items = gnil
  items_code (item d ds) = gcons (data_code d) (items_code ds)

  members_code : Members → Gv
  members_code no_members = gnil
  members_code (member k d ms) = gcons (texts.code k) (gcons (data_code d) (members_code ms))

mutual
  pub data_inj : (x y : Data) → data_code x ≡ data_code y → x ≡ y
  data_inj null null p = refl
  data_inj (boolean a) (boolean b) p = ap boolean (coded_bool.inj a b (ap right p))
  data_inj (number a) (number b) p = ap number (num_inj a b (ap right p))
  data_inj (string a) (string b) p = ap string (texts.inj a b (ap right p))
  data_inj (array a) (array b) p = ap array (items_inj a b (ap right p))
  data_inj (object a) (object b) p = ap object (members_inj a b (ap right p))
  data_inj null (boolean b) p = absurd (suc-ne-zero 0 (ap (has_tag 0) p))
  data_inj null (number b) p = absurd (suc-ne-zero 0 (ap (has_tag 0) p))
  data_inj null (string b) p = absurd (suc-ne-zero 0 (ap (has_tag 0) p))
  data_inj null (array b) p = absurd (suc-ne-zero 0 (ap (has_tag 0) p))
  data_inj null (object b) p = absurd (suc-ne-zero 0 (ap (has_tag 0) p))
  data_inj (boolean a) null p = absurd (suc-ne-zero 0 (ap (has_tag 1) p))
  data_inj (boolean a) (number b) p = absurd (suc-ne-zero 0 (ap (has_tag 1) p))
  data_inj (boolean a) (string b) p = absurd (suc-ne-zero 0 (ap (has_tag 1) p))
  data_inj (boolean a) (array b) p = absurd (suc-ne-zero 0 (ap (has_tag 1) p))
  data_inj (boolean a) (object b) p = absurd (suc-ne-zero 0 (ap (has_tag 1) p))
  data_inj (number a) null p = absurd (suc-ne-zero 0 (ap (has_tag 2) p))
  data_inj (number a) (boolean b) p = absurd (suc-ne-zero 0 (ap (has_tag 2) p))
  data_inj (number a) (string b) p = absurd (suc-ne-zero 0 (ap (has_tag 2) p))
  data_inj (number a) (array b) p = absurd (suc-ne-zero 0 (ap (has_tag 2) p))
  data_inj (number a) (object b) p = absurd (suc-ne-zero 0 (ap (has_tag 2) p))
  data_inj (string a) null p = absurd (suc-ne-zero 0 (ap (has_tag 3) p))
  data_inj (string a) (boolean b) p = absurd (suc-ne-zero 0 (ap (has_tag 3) p))
  data_inj (string a) (number b) p = absurd (suc-ne-zero 0 (ap (has_tag 3) p))
  data_inj (string a) (array b) p = absurd (suc-ne-zero 0 (ap (has_tag 3) p))
  data_inj (string a) (object b) p = absurd (suc-ne-zero 0 (ap (has_tag 3) p))
  data_inj (array a) null p = absurd (suc-ne-zero 0 (ap (has_tag 4) p))
  data_inj (array a) (boolean b) p = absurd (suc-ne-zero 0 (ap (has_tag 4) p))
  data_inj (array a) (number b) p = absurd (suc-ne-zero 0 (ap (has_tag 4) p))
  data_inj (array a) (string b) p = absurd (suc-ne-zero 0 (ap (has_tag 4) p))
  data_inj (array a) (object b) p = absurd (suc-ne-zero 0 (ap (has_tag 4) p))
  data_inj (object a) null p = absurd (suc-ne-zero 0 (ap (has_tag 5) p))
  data_inj (object a) (boolean b) p = absurd (suc-ne-zero 0 (ap (has_tag 5) p))
  data_inj (object a) (number b) p = absurd (suc-ne-zero 0 (ap (has_tag 5) p))
  data_inj (object a) (string b) p = absurd (suc-ne-zero 0 (ap (has_tag 5) p))
  data_inj (object a) (array b) p = absurd (suc-ne-zero 0 (ap (has_tag 5) p))

  pub items_inj : (x y : Items) → items_code x ≡ items_code y → x ≡ y
  items_inj no_items no_items p = refl
  items_inj (item a ax) (item b bs) p = ap₂ item (data_inj a b (ap left p)) (items_inj ax bs (ap right p))
  items_inj no_items (item b bs) p = absurd (suc-ne-zero 0 (sym (ap is_pair p)))
  items_inj (item a ax) no_items p = absurd (suc-ne-zero 0 (ap is_pair p))

  pub members_inj : (x y : Members) → members_code x ≡ members_code y → x ≡ y
  members_inj no_members no_members p = refl
  members_inj (member k a ax) (member l b bs) p =
      let keys = texts.inj k l (ap left p) in
      let values = data_inj a b (ap (λ g. left (right g)) p) in
      let rest = members_inj ax bs (ap (λ g. right (right g)) p) in
      ap (λ q. member q a ax) keys ∙ ap₂ (member l) values rest
  members_inj no_members (member l b bs) p = absurd (suc-ne-zero 0 (sym (ap is_pair p)))
  members_inj (member k a ax) no_members p = absurd (suc-ne-zero 0 (ap is_pair p))

-- the code of an object's members
abbrev pub members_coded : Coded Members
members_coded = record { code = members_code; inj = members_inj }

-- the code of a value
abbrev pub data_coded : Coded Data
data_coded = record { code = data_code; inj = data_inj }
