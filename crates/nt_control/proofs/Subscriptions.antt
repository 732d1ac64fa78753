-- The names and the options of a subscription, as they are written and read again.
use Rattle.std.proofs.Common.{◌≡◌, ℕ, List, [], ◌∷◌, Bool, true, false, Some, map, refl, ap}
use Rattle.serde_json.specs.Data.{string}
use Rattle.serde_json.specs.View.{items_of}
use Rattle.serde_json.specs.Written.{items_have_float, members_have_float}
use Rattle.nt_subs.specs.declared.sub.Options.{Options}
use Rattle.nt_control.specs.Params.{text_before, texts_of, options_of, option_members}

-- texts are read as themselves
pub texts_again : (texts : List (List ℕ)) → texts_of (items_of (map string texts)) ≡ Some texts
texts_again [] = refl
texts_again (t ∷ texts) = ap (text_before (Some t)) (texts_again texts)

-- texts are no floats
pub texts_whole : (texts : List (List ℕ)) → items_have_float (items_of (map string texts)) ≡ false
texts_whole [] = refl
texts_whole (t ∷ texts) = texts_whole texts

-- options of these flags
abbrev with_flags : Bool → Bool → Bool → Options
with_flags all prefix topicsonly = record { all = all; topicsonly = topicsonly; prefix = prefix }

-- options are read as themselves
pub options_again : (all prefix topicsonly : Bool)
    → options_of (option_members (with_flags all prefix topicsonly))
    ≡ Some (with_flags all prefix topicsonly)
options_again true true true = refl
options_again true true false = refl
options_again true false true = refl
options_again true false false = refl
options_again false true true = refl
options_again false true false = refl
options_again false false true = refl
options_again false false false = refl

-- flags are no floats
pub options_whole : (all prefix topicsonly : Bool)
    → members_have_float (option_members (with_flags all prefix topicsonly)) ≡ false
options_whole true true true = refl
options_whole true true false = refl
options_whole true false true = refl
options_whole true false false = refl
options_whole false true true = refl
options_whole false true false = refl
options_whole false false true = refl
options_whole false false false = refl
