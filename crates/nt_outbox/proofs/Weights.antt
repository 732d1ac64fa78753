-- What is queued weighs as much as its parts.
use Rattle.std.proofs.Common.{◌≡◌, ◌≤◌, ◌<◌, ◌+◌, ◌*◌, ◌==◌, ◌&&◌, ℕ, zero, suc, Bool, true, false, cond, not, List, [], ◌∷◌, ◌++◌, Option, Some, None, is_none, length, get_or, set, refl, ap, arith}
use Rattle.std.specs.Prelude.{insert}
use Rattle.std.specs.List.{cons_option}
use Rattle.serde_json.specs.Written.{compact_text}
use Rattle.nt_values.specs.Types.{size_of}
use Rattle.nt_rules.specs.declared.waiting.Placed.{Placed}
use Rattle.nt_rules.specs.declared.waiting.Setting.{Setting}
use Rattle.nt_rules.specs.declared.waiting.Publish.{Publish}
use Rattle.nt_rules.specs.outbox.Marks.{Mark}
use Rattle.nt_rules.specs.topics.Topics.{change_at}
use Rattle.nt_rules.specs.outbox.Marks.{values_weight, settings_weight, mark_weight, weight, is_blank, is_empty, is_wish, option_items}
use Rattle.nt_outbox.specs.Steps.{left_of}

-- a value more
pub values_weight_push : (values : List Placed) (p : Placed)
    → values_weight (values ++ p ∷ []) ≡ values_weight values + (64 + size_of p.value)
values_weight_push [] p = omega arith
values_weight_push (x ∷ xs) p = omega (arith, values_weight_push xs p)

-- a change of properties more
pub settings_weight_push : (settings : List Setting) (s : Setting)
    → settings_weight (settings ++ s ∷ []) ≡ settings_weight settings + (64 + length (compact_text s.update))
settings_weight_push [] s = omega arith
settings_weight_push (x ∷ xs) s = omega (arith, settings_weight_push xs s)

-- ---- topics

-- where nothing has to be kept, nothing is queued
blank-parts : (o : Option ℕ) (publishes : List Publish) (settings : List Setting) (values : List Placed)
    (a b c d : Bool)
    → (a && is_none o && is_empty publishes && is_empty settings && b && c && is_empty values && d) ≡ true
    → 64 * length (option_items o) + 64 * length publishes + settings_weight settings + values_weight values
    ≡ 0
blank-parts None [] [] [] a b c d h = omega arith
blank-parts None [] [] (p ∷ ps) true true true d h = absurd (cc)
blank-parts None [] [] (p ∷ ps) true true false d h = absurd (cc)
blank-parts None [] [] (p ∷ ps) true false c d h = absurd (cc)
blank-parts None [] [] (p ∷ ps) false b c d h = absurd (cc)
blank-parts None [] (s ∷ ss) values true b c d h = absurd (cc)
blank-parts None [] (s ∷ ss) values false b c d h = absurd (cc)
blank-parts None (p ∷ ps) settings values true b c d h = absurd (cc)
blank-parts None (p ∷ ps) settings values false b c d h = absurd (cc)
blank-parts (Some o) publishes settings values true b c d h = absurd (cc)
blank-parts (Some o) publishes settings values false b c d h = absurd (cc)

pub blank-weight : (m : Mark) → is_blank m ≡ true → mark_weight m ≡ 0
blank-weight m h =
    blank-parts m.over m.publishes m.settings m.values (not m.is_announced) (m.next == 0) (not
    (is_wish m.wish)) (is_none m.newest) h

-- a topic weighs no more than all
pub part-weight : (ms : List Mark) (i : ℕ) (x : Mark) → i < length ms → x ≡ get_or ms i x
    → mark_weight x ≤ weight ms
part-weight [] i x lt e = absurd (omega arith)
part-weight (m ∷ ms) zero x lt e = let same = ap mark_weight e in omega arith
part-weight (m ∷ ms) (suc i) x lt e = let rest = part-weight ms i x (omega arith) e in omega arith

-- the weight after a topic is changed
pub weight-set : (ms : List Mark) (i : ℕ) (x y : Mark) → i < length ms → x ≡ get_or ms i x
    → weight (set ms i y) + mark_weight x ≡ weight ms + mark_weight y
weight-set [] i x y lt e = absurd (omega arith)
weight-set (m ∷ ms) zero x y lt e = let same = ap mark_weight e in omega arith
weight-set (m ∷ ms) (suc i) x y lt e = let rest = weight-set ms i x y (omega arith) e in omega arith

-- taking out one of which nothing has to be kept
pub weight-settled : (ms : List Mark) (i : ℕ) → weight (change_at left_of i ms) ≡ weight ms
weight-settled [] i = refl
weight-settled (m ∷ ms) zero = by (is_blank m) refl
  where
    by : (b : Bool) → is_blank m ≡ b → weight (cons_option (cond b None (Some m)) ms) ≡ weight (m ∷ ms)
    by true e = let none = blank-weight m e in omega arith
    by false e = refl
weight-settled (m ∷ ms) (suc i) = let rest = weight-settled ms i in omega arith

-- putting one in
pub weight-insert : (ms : List Mark) (i : ℕ) (y : Mark) → weight (insert ms i y) ≡ weight ms + mark_weight y
weight-insert ms zero y = omega arith
weight-insert [] (suc i) y = omega arith
weight-insert (m ∷ ms) (suc i) y = let rest = weight-insert ms i y in omega arith
