-- What values tell and leave, by the ids and names of the topics that are held, which values don't change.
use Rattle.std.proofs.Common.{◌≡◌, ◌<◌, ◌+◌, ◌^◌, ◌-◌, ℕ, ℤ, Bool, true, false, cond, min, List, [], ◌∷◌, ◌++◌, ◌||◌, ◌&&◌, Option, Some, filter, map, append_assoc, refl, sym, ◌∙◌, ap, arith}
use Rattle.std.specs.List.{find, list_any}
use Rattle.std.specs.Ordering.{int_eq}
use Rattle.nt_frames.specs.declared.message.ValueMsg.{ValueMsg}
use Rattle.nt_topics.specs.Properties.{is_cached}
use Rattle.nt_rules.specs.declared.held.Held.{Held}
use Rattle.nt_rules.specs.declared.topic.Timed.{Timed}
use Rattle.nt_rules.specs.declared.topic.Change.{Change}
use Rattle.nt_rules.specs.declared.topic.Change.TheVariants.{Changed}
use Rattle.nt_rules.specs.telling.Told.{Value, with_message}
use Rattle.nt_client.specs.Kept.{outline}
use Rattle.nt_client.specs.Taking.{changes_from, has_id, if_held, ignored_from, is_clock, is_known, unknown_from, value_by}

-- ---- ids and names stay

outline-one : (b : Bool) (t : Option Timed) (h : Held) → outline (cond b (record h { value = t }) h) ≡ outline h
outline-one true t h = refl
outline-one false t h = refl

pub outlines-stay : (v : ValueMsg) (held : List Held) → map outline (map (with_message v) held) ≡ map outline held
outlines-stay v [] = refl
outlines-stay v (h ∷ held) =
    ap (λ o. o ∷ map outline (map (with_message v) held))
    (outline-one (int_eq h.id v.id && is_cached h.props) (Some (record { time = v.time; value = v.value })) h)
    ∙ ap (λ os. outline h ∷ os) (outlines-stay v held)

-- ---- what is told of a value

told-of : ValueMsg → List (ℤ × List ℕ) → List Change
told-of v [] = []
told-of v (o ∷ os) = cond (int_eq o.0 v.id) (Changed o.0 o.1 v.time v.value ∷ []) (told-of v os)

by-first : (b : Bool) (f : Held → Change) (h : Held) (rest : Option Held)
    → if_held f (cond b (Some h) rest) ≡ cond b (f h ∷ []) (if_held f rest)
by-first true f h rest = refl
by-first false f h rest = refl

told-by-outlines : (v : ValueMsg) (held : List Held) → value_by v held ≡ told-of v (map outline held)
unfolding told-of
told-by-outlines v [] = refl
told-by-outlines v (h ∷ held) =
    by-first (has_id v.id h) (λ x. Changed x.id x.name v.time v.value) h (find (has_id v.id) held)
    ∙ ap (λ cs. cond (int_eq h.id v.id) (Changed h.id h.name v.time v.value ∷ []) cs) (told-by-outlines v held)

any-by-outlines : (id : ℤ) (held : List Held)
    → list_any (has_id id) held ≡ list_any (λ (o : ℤ × List ℕ). int_eq o.0 id) (map outline held)
any-by-outlines id [] = refl
any-by-outlines id (h ∷ held) = ap (λ b. int_eq h.id id || b) (any-by-outlines id held)

same-told : (v : ValueMsg) (held held-2 : List Held) → map outline held ≡ map outline held-2
    → value_by v held ≡ value_by v held-2
same-told v held held-2 e =
    told-by-outlines v held ∙ ap (told-of v) e ∙ sym (told-by-outlines v held-2)

same-known : (v : ValueMsg) (held held-2 : List Held) → map outline held ≡ map outline held-2
    → is_known (Value v) held ≡ is_known (Value v) held-2
same-known v held held-2 e =
    ap (λ b. is_clock v || b)
    (any-by-outlines v.id held
    ∙ ap (λ os. list_any (λ (o : ℤ × List ℕ). int_eq o.0 v.id) os) e
    ∙ sym (any-by-outlines v.id held-2))

-- ---- what is told of many

same-after : (v : ValueMsg) (held held-2 : List Held) → map outline held ≡ map outline held-2
    → map outline (map (with_message v) held) ≡ map outline (map (with_message v) held-2)
same-after v held held-2 e = outlines-stay v held ∙ e ∙ sym (outlines-stay v held-2)

same-changes : (vs : List ValueMsg) (held held-2 : List Held) → map outline held ≡ map outline held-2
    → changes_from held (map Value vs) ≡ changes_from held-2 (map Value vs)
same-changes [] held held-2 e = refl
same-changes (v ∷ vs) held held-2 e =
    ap (λ cs. cs ++ changes_from (map (with_message v) held) (map Value vs)) (same-told v held held-2 e)
    ∙ ap (λ cs. value_by v held-2 ++ cs)
    (same-changes vs (map (with_message v) held) (map (with_message v) held-2) (same-after v held held-2 e))

same-unknown : (vs : List ValueMsg) (held held-2 : List Held) → map outline held ≡ map outline held-2
    → unknown_from held (map Value vs) ≡ unknown_from held-2 (map Value vs)
same-unknown [] held held-2 e = refl
same-unknown (v ∷ vs) held held-2 e =
    ap (λ b. cond b 0 1 + unknown_from (map (with_message v) held) (map Value vs)) (same-known v held held-2 e)
    ∙ ap (λ n. cond (is_known (Value v) held-2) 0 1 + n)
    (same-unknown vs (map (with_message v) held) (map (with_message v) held-2) (same-after v held held-2 e))

-- what was told so far, and what is left of the values
pub record TellsOn (held : List Held) (changes-0 : List Change) (count-0 : ℕ) (clock-0 all : List ValueMsg)
    (changes : List Change) (count : ℕ) (answered rest : List ValueMsg) : Type 0 where
  pub told : changes ++ changes_from held (map Value rest) ≡ changes-0 ++ changes_from held (map Value all)
  pub small : count < 2 ^ 32
  pub ignored : ignored_from held (map Value rest) count ≡ ignored_from held (map Value all) count-0
  pub clock : answered ++ filter is_clock rest ≡ clock-0 ++ filter is_clock all

pub tells-first : (held : List Held) (changes : List Change) (count : ℕ) (clock all : List ValueMsg) → count < 2 ^ 32
    → TellsOn held changes count clock all changes count clock all
tells-first held changes count clock all small =
    record { told = refl; small = small; ignored = refl; clock = refl }

-- how many are ignored after one more
one-more : (known : Bool) (count count-2 n : ℕ) → count < 2 ^ 32
    → count-2 ≡ cond known count (min (count + 1) (2 ^ 32 - 1))
    → min (count-2 + n) (2 ^ 32 - 1) ≡ min (count + (cond known 0 1 + n)) (2 ^ 32 - 1)
one-more true count count-2 n small e = omega arith
one-more false count count-2 n small e = omega arith

still-small : (known : Bool) (count count-2 : ℕ) → count < 2 ^ 32
    → count-2 ≡ cond known count (min (count + 1) (2 ^ 32 - 1)) → count-2 < 2 ^ 32
still-small true count count-2 small e = omega arith
still-small false count count-2 small e = omega arith

pub tells-step : (held : List Held) (changes-0 : List Change) (count-0 : ℕ) (clock-0 all : List ValueMsg)
    (changes : List Change) (count : ℕ) (clock : List ValueMsg) (v : ValueMsg) (rest : List ValueMsg)
    (changes-2 : List Change) (count-2 : ℕ) (clock-2 : List ValueMsg) (known : Bool)
    → TellsOn held changes-0 count-0 clock-0 all changes count clock (v ∷ rest)
    → changes-2 ≡ changes ++ value_by v held
    → known ≡ is_known (Value v) held
    → count-2 ≡ cond known count (min (count + 1) (2 ^ 32 - 1))
    → clock-2 ++ filter is_clock rest ≡ clock ++ filter is_clock (v ∷ rest)
    → TellsOn held changes-0 count-0 clock-0 all changes-2 count-2 clock-2 rest
tells-step held changes-0 count-0 clock-0 all changes count clock v rest changes-2 count-2 clock-2 known h told is
    counted answered =
    let after : List Held = map (with_message v) held in
    record {
      told = ap (λ cs. cs ++ changes_from held (map Value rest)) told
          ∙ append_assoc changes (value_by v held) (changes_from held (map Value rest))
          ∙ ap (λ cs. changes ++ (value_by v held ++ cs)) (same-changes rest held after (sym (outlines-stay v held)))
          ∙ h.told;
      small = still-small known count count-2 h.small counted;
      ignored = ap (λ n. min (count-2 + n) (2 ^ 32 - 1)) (same-unknown rest held after (sym (outlines-stay v held)))
          ∙ one-more known count count-2 (unknown_from after (map Value rest)) h.small counted
          ∙ ap (λ b. min (count + (cond b 0 1 + unknown_from after (map Value rest))) (2 ^ 32 - 1)) is
          ∙ h.ignored;
      clock = answered ∙ h.clock;
    }

append-none : {X : Type 0} (xs : List X) → xs ++ [] ≡ xs
append-none [] = refl
append-none (x ∷ xs) = ap (λ ys. x ∷ ys) (append-none xs)

-- nothing is left
pub tells-changes : (held : List Held) (changes-0 : List Change) (count-0 : ℕ) (clock-0 all : List ValueMsg)
    (changes : List Change) (count : ℕ) (clock : List ValueMsg)
    → TellsOn held changes-0 count-0 clock-0 all changes count clock []
    → changes ≡ changes-0 ++ changes_from held (map Value all)
tells-changes held changes-0 count-0 clock-0 all changes count clock h = sym (append-none changes) ∙ h.told

pub tells-clock : (held : List Held) (changes-0 : List Change) (count-0 : ℕ) (clock-0 all : List ValueMsg)
    (changes : List Change) (count : ℕ) (clock : List ValueMsg)
    → TellsOn held changes-0 count-0 clock-0 all changes count clock []
    → clock ≡ clock-0 ++ filter is_clock all
tells-clock held changes-0 count-0 clock-0 all changes count clock h = sym (append-none clock) ∙ h.clock

pub tells-ignored : (held : List Held) (changes-0 : List Change) (count-0 : ℕ) (clock-0 all : List ValueMsg)
    (changes : List Change) (count : ℕ) (clock : List ValueMsg)
    → TellsOn held changes-0 count-0 clock-0 all changes count clock []
    → count ≡ ignored_from held (map Value all) count-0
tells-ignored held changes-0 count-0 clock-0 all changes count clock h = whole ∙ h.ignored
  where
    whole : count ≡ min (count + 0) (2 ^ 32 - 1)
    whole = let lt = h.small in omega arith
