-- A value is noted, and another wish, as a step at its topic.
use Rattle.std.proofs.Common.{◌≡◌, ◌^◌, ◌∙◌, ℕ, ℤ, pos, negsuc, Bool, true, false, cond, nat_lt, List, [], Option, is_some, ap, sym, refl}
use Rattle.nt_values.specs.declared.value.Value.{Value}
use Rattle.nt_subs.specs.declared.wish.Wanted.{Wanted}
use Rattle.nt_rules.specs.declared.topic.Change.TheVariants.{Changed}
use Rattle.nt_rules.specs.declared.waiting.Placed.{Placed}
use Rattle.nt_rules.specs.outbox.Marks.{Mark, noted_value, rewanted, same_wish}
use Rattle.nt_rules.specs.outbox.Calls.{OutboxState, id_of, at_topic, at_place, with_call, noted}
use Rattle.nt_outbox.specs.declared.step.Step.{Step}
use Rattle.nt_outbox.specs.Steps.{after, at_known, rewanted_passing}

pub known : (id : ℤ) (name : List ℕ) (f : Mark → Mark) (marks : List Mark)
    → at_known (id_of id) name f marks ≡ at_topic id name f marks
known (pos n) name f marks = by (nat_lt n (2 ^ 32)) refl
  where
    by : (b : Bool) → nat_lt n (2 ^ 32) ≡ b
        → at_known (id_of (pos n)) name f marks ≡ at_topic (pos n) name f marks
    by true e = rw e
    by false e = rw e
known (negsuc n) name f marks = refl

pub noted-value : (place : ℕ) (id : ℤ) (name : List ℕ) (time : ℕ) (value : Value) (cached : Bool) (wish : Wanted)
    (b : OutboxState) (topic : Option ℕ) (text : List ℕ) (s : Step) → topic ≡ id_of id → text ≡ name
    → after s ≡ noted_value (record { place = place; time = time; value = value }) cached wish
    → with_call place (at_known topic text (after s)) b ≡ noted place (Changed id name time value) cached wish b
noted-value place id name time value cached wish b topic text s t n e =
    ap (λ (k : Option ℕ). with_call place (at_known k text (after s)) b) t
    ∙ ap (λ (cs : List ℕ). with_call place (at_known (id_of id) cs (after s)) b) n
    ∙ ap (λ (f : Mark → Mark). with_call place (at_known (id_of id) name f) b) e
    ∙ ap (λ (ms : List Mark). record (at_place place b) { marks = cond (is_some (at_place place b).fell) [] ms })
    (known id name (noted_value (record { place = place; time = time; value = value }) cached wish)
    (at_place place b).marks)

pub rewanted-passing : (cached : Bool) (held : Option Placed) (old wish : Wanted) (f : Mark → Mark)
    → same_wish old wish ≡ false → cached ≡ false → f ≡ rewanted_passing old wish → f ≡ rewanted cached held old wish
rewanted-passing true held old wish f s c e = absurd (cc)
rewanted-passing false held old wish f s c e =
    let by : Bool → Mark → Mark = λ same m. cond same m (rewanted_passing old wish m) in e ∙ sym (ap by s)
