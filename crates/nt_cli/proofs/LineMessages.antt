-- The messages of lines meet the conditions of a step, and frames are messages in one way.
use Rattle.std.proofs.Common.{◌≡◌, ◌^◌, ℕ, true, false, map, List, [], ◌∷◌, Option, Some, None, Result, Ok, Err, IfOk, sym, ap, ◌∙◌, subst}
use Rattle.std.specs.List.{AllByRecursion}
use Rattle.std.proofs.lemmas.Bool.{ltb-true}
use Rattle.nt_control.specs.declared.message.ClientMsg.{ClientMsg}
use Rattle.nt_control.specs.Frame.{said_in}
use Rattle.nt_frames.specs.declared.message.ValueMsg.{ValueMsg}
use Rattle.nt_frames.specs.declared.message.FrameFault.{FrameFault}
use Rattle.nt_frames.specs.Frames.{IsFrame, Means}
use Rattle.nt_rules.specs.declared.act.Msg.{Msg}
use Rattle.nt_rules.specs.declared.act.Msg.TheVariants.{Control, Put}
use Rattle.nt_rules.specs.history.Step.{IsPut}
use Rattle.nt_cli.specs.Hexadecimal.{is_binary, digits_in, hex_bytes}
use Rattle.nt_rules.specs.Limits.{most_value}
use Rattle.nt_cli.specs.Desk.{Decoding, IsDecoding, values_in, line_messages}

-- control messages have no conditions
pub controls-fit : (ms : List ClientMsg) → AllByRecursion IsPut (map Control ms)
controls-fit [] = tt
controls-fit (m ∷ ms) = (tt, controls-fit ms)

-- the values of a frame are small and lie below the greatest time
frame-fit : (ms : List ValueMsg) (bytes : List ℕ) → IsFrame most_value ms bytes → AllByRecursion IsPut (map Put ms)
frame-fit [] bytes f = tt
frame-fit (m ∷ ms) bytes f = ((ltb-true m.time (2 ^ 63) f.3.lawful.time_is, f.4), frame-fit ms f.1 f.5)

puts-fit : (bytes : List ℕ) (ms : List ValueMsg) (fault : Option FrameFault) → Means most_value bytes ms fault
    → AllByRecursion IsPut (map Put ms)
puts-fit bytes ms None m = frame-fit ms bytes m
puts-fit bytes ms (Some fault) m = frame-fit ms m.0 m.3

-- ---- what a line says

-- there is one is_decoding
pub decoded-values : {V E : Type 0} (of : V → List Msg) (r : Result V E) (decode : Decoding) (text bytes : List ℕ)
    (values : List ValueMsg) → IsDecoding decode → Some bytes ≡ hex_bytes text
    → ((ms : List ValueMsg) (fault : Option FrameFault) → Means most_value bytes ms fault → ms ≡ values)
    → IfOk r (λ v. of v ≡ map Put values) → IfOk r (λ v. of v ≡ map Put (values_in decode (hex_bytes text)))
decoded-values of (Ok v) decode text bytes values is_decoding spelled only h =
    let m = is_decoding bytes in
    h ∙ ap (λ (vs : List ValueMsg). map Put vs) (sym (only (decode bytes) m.0 m.1))
    ∙ ap (λ (o : Option (List ℕ)). map Put (values_in decode o)) spelled
decoded-values of (Err e) decode text bytes values is_decoding spelled only h = tt

pub values-fit : {V E : Type 0} (of : V → List Msg) (r : Result V E) (bytes : List ℕ) (values : List ValueMsg)
    (fault : Option FrameFault) → Means most_value bytes values fault
    → IfOk r (λ v. of v ≡ map Put values) → IfOk r (λ v. AllByRecursion IsPut (of v))
values-fit of (Ok v) bytes values fault means h = subst (λ (ms : List Msg). AllByRecursion IsPut ms) (sym h)
    (puts-fit bytes values fault means)
values-fit of (Err e) bytes values fault means h = tt

pub messages-binary : {V E : Type 0} (of : V → List Msg) (r : Result V E) (decode : Decoding) (line digits : List ℕ)
    → is_binary line ≡ true → digits ≡ digits_in line
    → IfOk r (λ v. of v ≡ map Put (values_in decode (hex_bytes digits)))
    → IfOk r (λ v. of v ≡ line_messages decode line)
unfolding line_messages
messages-binary of (Ok v) decode line digits is digits_are h =
    rw is (h ∙ ap (λ (l : List ℕ). map Put (values_in decode (hex_bytes l))) digits_are)
messages-binary of (Err e) decode line digits is digits_are h = tt

pub messages-text : {V E : Type 0} (of : V → List Msg) (r : Result V E) (decode : Decoding) (line : List ℕ)
    → is_binary line ≡ false
    → IfOk r (λ v. of v ≡ map Control (said_in line)) → IfOk r (λ v. of v ≡ line_messages decode line)
unfolding line_messages
messages-text of (Ok v) decode line is h = rw is h
messages-text of (Err e) decode line is h = tt
