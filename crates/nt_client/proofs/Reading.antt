-- What is taken of a frame, by what was read of it.
use Rattle.std.proofs.Common.{◌≡◌, ℕ, List, Option, Result, Ok, Err, map, sym, ◌∙◌, ap, subst}
use Rattle.std.specs.Prelude.{IfOk}
use Rattle.nt_frames.specs.declared.message.ValueMsg.{ValueMsg}
use Rattle.nt_frames.specs.declared.message.FrameFault.{FrameFault}
use Rattle.nt_frames.specs.Frames.{Means}
use Rattle.nt_control.specs.declared.message.ServerMsg.{ServerMsg}
use Rattle.nt_control.specs.Frame.{told_in, untold_in}
use Rattle.nt_link.specs.declared.frame.Frame.{Frame}
use Rattle.nt_link.specs.declared.frame.Frame.TheVariants as frames
use Rattle.nt_rules.specs.telling.Told.{Message, Text, Value}
use Rattle.nt_client.specs.Taking.{Says, faults, most_value}

-- what was read of a text frame is what it says
pub says-texts : (frame : Frame) (text bytes : List ℕ) (msgs : List ServerMsg) (ignored : ℕ) (messages : List Message) (parts : ℕ)
    → frame ≡ frames.Text text → bytes ≡ text → msgs ≡ told_in bytes → ignored ≡ untold_in bytes
    → Says frame messages parts → (messages ≡ map Text msgs) × (parts ≡ ignored)
says-texts frame text bytes msgs ignored messages parts is same read count says =
    let here : Says (frames.Text text) messages parts = subst (λ (f : Frame). Says f messages parts) is says in
    (here.0 ∙ ap (map Text) (sym (read ∙ ap told_in same)), here.1 ∙ sym (count ∙ ap untold_in same))

-- what was read of a binary frame is what it says, since no frame says two things
pub says-values : (frame : Frame) (binary bytes : List ℕ) (msgs : List ValueMsg) (fault : Option FrameFault) (messages : List Message)
    (parts : ℕ) → frame ≡ frames.Binary binary → bytes ≡ binary
    → ((ms : List ValueMsg) (f : Option FrameFault) → Means most_value bytes ms f → (ms ≡ msgs) × (f ≡ fault))
    → Says frame messages parts → (messages ≡ map Value msgs) × (parts ≡ faults fault)
says-values frame binary bytes msgs fault messages parts is same only says =
    let here : Says (frames.Binary binary) messages parts = subst (λ (f : Frame). Says f messages parts) is says in
    let means : Means most_value bytes here.0 here.1 =
    subst (λ (bs : List ℕ). Means most_value bs here.0 here.1) (sym same) here.2 in
    let read : (here.0 ≡ msgs) × (here.1 ≡ fault) = only here.0 here.1 means in
    (here.3 ∙ ap (map Value) read.0, here.4 ∙ ap faults read.1)

-- a part of a result, where it is there
pub part-is : {X Y E : Type 0} (done : Result X E) (part : X → Y) (a b : Y) → IfOk done (λ x. part x ≡ a) → a ≡ b
    → IfOk done (λ x. part x ≡ b)
part-is (Ok x) part a b is same = is ∙ same
part-is (Err e) part a b is same = tt
