-- Acts make the entries that the history goes on with.
use Rattle.std.proofs.Common.{◌≡◌, ◌+◌, ◌^◌, ℕ, true, false, List, [], ◌∷◌, ◌++◌, map, Option, Some, None, refl, sym, ap, ◌∙◌, subst, arith}
use Rattle.std.specs.List.{AllByRecursion}
use Rattle.std.proofs.lemmas.Bool.{ltb-true}
use Rattle.std.proofs.lemmas.List.{map_push}
use Rattle.nt_frames.specs.declared.message.ValueMsg.{ValueMsg}
use Rattle.nt_frames.specs.declared.message.FrameFault.{FrameFault}
use Rattle.nt_frames.specs.Frames.{IsFrame, Means}
use Rattle.nt_link.specs.declared.frame.Frame.{Frame}
use Rattle.nt_link.specs.declared.frame.Frame.TheVariants as frames
use Rattle.nt_rules.specs.Limits.{most_value}
use Rattle.nt_rules.specs.declared.act.Act.{Act}
use Rattle.nt_rules.specs.declared.act.Act.TheVariants as act
use Rattle.nt_rules.specs.declared.act.Msg.{Msg}
use Rattle.nt_rules.specs.declared.act.Msg.TheVariants.{Put}
use Rattle.nt_rules.specs.declared.act.StepOut.{StepOut}
use Rattle.nt_rules.specs.declared.act.Entry.{Entry}
use Rattle.nt_rules.specs.history.Now.{now_of}
use Rattle.nt_rules.specs.history.Answer.{answer, entry, moment_of}
use Rattle.nt_rules.specs.history.Step.{ServerState, Represents, Steps, IsPut}
use Rattle.nt_world.specs.Frames.{Decoding, IsDecoding, said_by, is_question}
use Rattle.nt_world.specs.World.{Hosts, start, next_place, answered, with_act, with_message, with_messages}

-- an entry has the moment of its act
entry-moment : (worker moment : ℕ) (a : Act) (o : StepOut) → (entry worker moment a o).now ≡ moment
entry-moment worker moment (act.Open name version) o = refl
entry-moment worker moment (act.Said conn m) o = refl
entry-moment worker moment (act.Drain conn budget) o = refl
entry-moment worker moment (act.Close conn) o = refl
entry-moment worker moment act.Permit o = refl
entry-moment worker moment act.Shut o = refl

-- an act at the moment of the next place
pub out-answered : (server after : ServerState) (entries : ℕ) (past : List Entry) (worker : ℕ) (a : Act) (o : StepOut)
    (e : Entry) → Hosts server entries past → Steps start past worker (entries + 1) a o e after
    → o ≡ answered worker a past
out-answered server after entries past worker a o e h s =
    let same : entries + 1 ≡ next_place past = ap (λ (n : ℕ). n + 1) h.entries_are in
    s.out_is ∙ ap (λ (n : ℕ). answer start past worker n a) same

pub hosts-acted : (server after : ServerState) (entries : ℕ) (past : List Entry) (worker : ℕ) (a : Act) (o : StepOut)
    (e : Entry) → Hosts server entries past → Steps start past worker (entries + 1) a o e after
    → Hosts after (entries + 1) (with_act worker a past)
hosts-acted server after entries past worker a o e h s =
    let count = h.entries_are in
    let moment = h.moment_is in
    let at : moment_of (now_of start past) (entries + 1) ≡ next_place past = omega arith in
    let same : e ≡ entry worker (next_place past) a (answered worker a past) =
    s.entry_is ∙ ap (λ (m : ℕ). entry worker m a o) at
    ∙ ap (λ (x : StepOut). entry worker (next_place past) a x)
    (out-answered server after entries past worker a o e h s) in
    record {
      represents = subst (λ (x : Entry). Represents after start (x ∷ past)) same s.represents;
      entries_are = omega arith;
      moment_is = entry-moment worker (next_place past) a (answered worker a past) ∙ omega arith;
    }

-- ---- messages

pub said-question : (server : ServerState) (entries : ℕ) (worker conn : ℕ) (m : Msg) (past : List Entry)
    → is_question m ≡ true → Hosts server entries past → Hosts server entries (with_message worker conn m past)
said-question server entries worker conn m past is h = rw is h

pub said-other : (server : ServerState) (entries : ℕ) (worker conn : ℕ) (m : Msg) (past : List Entry)
    → is_question m ≡ false → Hosts server entries (with_act worker (act.Said conn m) past)
    → Hosts server entries (with_message worker conn m past)
said-other server entries worker conn m past is h = rw is h

-- one more message
with_messages-push : (worker conn : ℕ) (ms : List Msg) (m : Msg) (past : List Entry)
    → with_messages worker conn (ms ++ m ∷ []) past ≡ with_message worker conn m (with_messages worker conn ms past)
with_messages-push worker conn [] m past = refl
with_messages-push worker conn (x ∷ ms) m past =
    with_messages-push worker conn ms m (with_message worker conn x past)

pub said-one-more : {X : Type 0} (of : X → Msg) (server : ServerState) (entries worker conn : ℕ) (xs : List X) (x : X)
    (past : List Entry)
    → Hosts server entries (with_message worker conn (of x) (with_messages worker conn (map of xs) past))
    → Hosts server entries (with_messages worker conn (map of (xs ++ x ∷ [])) past)
said-one-more of server entries worker conn xs x past h =
    subst (λ (p : List Entry). Hosts server entries p)
    (sym (with_messages-push worker conn (map of xs) (of x) past)
    ∙ ap (λ (ms : List Msg). with_messages worker conn ms past) (sym (map_push of xs x))) h

-- ---- values

-- the values of a frame are small and lie below the greatest time
frame-fit : (ms : List ValueMsg) (bytes : List ℕ) → IsFrame most_value ms bytes
    → AllByRecursion (λ (v : ValueMsg). IsPut (Put v)) ms
frame-fit [] bytes f = tt
frame-fit (m ∷ ms) bytes f = ((ltb-true m.time (2 ^ 63) f.3.lawful.time_is, f.4), frame-fit ms f.1 f.5)

pub values-fit : (bytes : List ℕ) (ms : List ValueMsg) (fault : Option FrameFault) → Means most_value bytes ms fault
    → AllByRecursion (λ (v : ValueMsg). IsPut (Put v)) ms
values-fit bytes ms None m = frame-fit ms bytes m
values-fit bytes ms (Some fault) m = frame-fit ms m.0 m.3

-- there is one decoding
pub values-decoded : (decode : Decoding) (frame : Frame) (bytes read : List ℕ) (values : List ValueMsg)
    → frame ≡ frames.Binary bytes → read ≡ bytes → IsDecoding decode
    → ((ms : List ValueMsg) (fault : Option FrameFault) → Means most_value read ms fault → ms ≡ values)
    → map Put values ≡ said_by decode frame
values-decoded decode frame bytes read values is same is_decoding only =
    let m = is_decoding most_value bytes in
    let at : decode most_value bytes ≡ values = only (decode most_value bytes) m.0
    (subst (λ (b : List ℕ). Means most_value b (decode most_value bytes) m.0) (sym same) m.1) in
    ap (λ (vs : List ValueMsg). map Put vs) (sym at) ∙ sym (ap (λ (f : Frame). said_by decode f) is)
