-- Steps of clients, by their numbers.
use Rattle.std.proofs.Common.{◌≡◌, ◌≤◌, ◌<◌, ◌+◌, ◌-◌, ℕ, zero, suc, List, [], ◌∷◌, ◌++◌, length, take, Bool, Option, Some, Result, Ok, Err, OnOk, refl, sym, ap, ◌∙◌, subst, arith, get_or}
use Rattle.std.specs.Prelude.{slice_get, slice_set, is_err}
use Rattle.std.proofs.lemmas.List.{take_more}
use Rattle.nt_control.specs.Frame.{untold_in}
use Rattle.nt_link.specs.declared.frame.Frame.{Frame}
use Rattle.nt_link.specs.declared.frame.Frame.TheVariants as frames
use Rattle.nt_rules.specs.declared.act.Entry.{Entry}
use Rattle.nt_rules.specs.history.Step.{ServerState}
use Rattle.nt_rules.specs.telling.Told.{told_from}
use Rattle.nt_client.specs.Calls.{State}
use Rattle.nt_client.specs.Taking.{Says, faults, most_value}
use Rattle.nt_world.specs.declared.step.WorldStep.{WorldStep}
use Rattle.nt_world.specs.Frames.{Decoding, IsDecoding, said_by, told_by}
use Rattle.nt_world.specs.World.{Peer, Scene, WorldState, Hosts, Stands, Runs, StandsFor, client_of, peer_of, turned, step_by, after_up, after_down, with_messages, with_step, with_steps}

-- ---- frames

-- what is decoded is what a frame says
pub says-decoded : (decode : Decoding) → IsDecoding decode → (frame : Frame)
    → (parts : ℕ) × Says frame (told_by decode frame) parts
says-decoded decode is (frames.Text text) = (untold_in text, (refl, refl))
says-decoded decode is (frames.Binary bytes) =
    let m = is most_value bytes in (faults m.0, (decode most_value bytes, m.0, m.1, refl, refl))

-- the oldest frame came down
pub came-down : (decode : Decoding) (p : Peer) (client after : State) (conn : Option ℕ) (up down rest : List Frame)
    (frame : Frame) → record { client = client; conn = conn; up = up; down = down } ≡ p → down ≡ frame ∷ rest
    → after ≡ record client { held = told_from client.held (told_by decode frame) }
    → record { client = after; conn = conn; up = up; down = rest } ≡ after_down decode p.down p
came-down decode p client after conn up down rest frame is first taken =
    let old : Peer = record { client = client; conn = conn; up = up; down = down } in
    let new : Peer = record { client = after; conn = conn; up = up; down = rest } in
    let here : new ≡ after_down decode (frame ∷ rest) old =
    ap (λ (c : State). let q : Peer = record { client = c; conn = conn; up = up; down = rest } in q) taken in
    subst (λ (q : Peer). new ≡ after_down decode q.down q) is
    (subst (λ (fs : List Frame). new ≡ after_down decode fs old) (sym first) here)

-- the oldest frame came up
pub went-up : (decode : Decoding) (worker : ℕ) (past : List Entry) (p : Peer) (client : State) (conn : Option ℕ)
    (up down rest : List Frame) (number : ℕ) (frame : Frame) (server : ServerState) (entries : ℕ)
    → record { client = client; conn = conn; up = up; down = down } ≡ p → conn ≡ Some number → up ≡ frame ∷ rest
    → Hosts server entries (with_messages worker number (said_by decode frame) past)
    → Stands server entries (record { client = client; conn = conn; up = rest; down = down })
    (after_up decode worker p.conn p.up past p)
went-up decode worker past p client conn up down rest number frame server entries is joined first h =
    let old : Peer = record { client = client; conn = conn; up = up; down = down } in
    let new : Peer = record { client = client; conn = conn; up = rest; down = down } in
    let here : Stands server entries new (after_up decode worker (Some number) (frame ∷ rest) past old) =
    record { hosts = h; peer_is = refl } in
    subst (λ (q : Peer). Stands server entries new (after_up decode worker q.conn q.up past q)) is
    (subst (λ (n : Option ℕ). Stands server entries new (after_up decode worker n up past old)) (sym joined)
    (subst (λ (fs : List Frame). Stands server entries new (after_up decode worker (Some number) fs past old))
    (sym first) here))

-- ---- one step of the world

slice-at : (ps : List Peer) (k : ℕ) (p : Peer) → k < length ps → p ≡ get_or ps k p → slice_get ps k ≡ Some p
slice-at [] k p there is = absurd (omega arith)
slice-at (x ∷ ps) zero p there is = ap (λ (q : Peer). Some q) (sym is)
slice-at (x ∷ ps) (suc k) p there is = slice-at ps k p (omega arith) is

peer-at : (c : ℕ) (ps : List Peer) (p : Peer) → 1 ≤ c → c ≤ length ps → p ≡ get_or ps (c - 1) p
    → peer_of c ps ≡ Some p
peer-at zero ps p some few is = absurd (omega arith)
peer-at (suc k) ps p some few is =
    let same : suc k - 1 ≡ k = omega arith in
    slice-at ps k p (omega arith) (is ∙ ap (λ (n : ℕ). get_or ps n p) same)

pub made : (decode : Decoding) (s : WorldStep) (scene : Scene) (c : ℕ) (p q : Peer) (peers : List Peer)
    (server after : ServerState) (entries count : ℕ) → c ≡ client_of s → 1 ≤ c → c ≤ length peers
    → p ≡ get_or peers (c - 1) p → Runs server entries peers scene
    → Stands after count q (turned decode s scene.past p)
    → Runs after count (slice_set peers (c - 1) q) (with_step decode s scene)
made decode s scene c p q peers server after entries count is some few at h t =
    let found : peer_of (client_of s) scene.peers ≡ Some p =
    ap (λ (n : ℕ). peer_of n scene.peers) (sym is) ∙ ap (λ (ps : List Peer). peer_of c ps) (sym h.peers_are)
    ∙ peer-at c peers p some few at in
    subst (λ (o : Option Peer). Runs after count (slice_set peers (c - 1) q) (step_by decode s scene o)) (sym found)
    (record {
      hosts = t.hosts;
      peers_are = ap (λ (ps : List Peer). slice_set ps (c - 1) q) h.peers_are
          ∙ ap (λ (n : ℕ). slice_set scene.peers (n - 1) q) is
          ∙ ap (λ (r : Peer). slice_set scene.peers (client_of s - 1) r) t.peer_is;
    })

-- ---- steps, one after another

with_steps-push : (decode : Decoding) (steps : List WorldStep) (s : WorldStep) (scene : Scene)
    → with_steps decode (steps ++ s ∷ []) scene ≡ with_step decode s (with_steps decode steps scene)
with_steps-push decode [] s scene = refl
with_steps-push decode (x ∷ steps) s scene = with_steps-push decode steps s (with_step decode x scene)

pub runs-more : (decode : Decoding) (steps : List WorldStep) (i : ℕ) (s : WorldStep) (scene : Scene)
    (server : ServerState) (entries : ℕ) (peers : List Peer) → i < length steps → s ≡ get_or steps i s
    → Runs server entries peers (with_step decode s (with_steps decode (take i steps) scene))
    → Runs server entries peers (with_steps decode (take (i + 1) steps) scene)
runs-more decode steps i s scene server entries peers there is h =
    let next : take (i + 1) steps ≡ take i steps ++ s ∷ [] =
    take_more steps i s there ∙ ap (λ (x : WorldStep). take i steps ++ x ∷ []) (sym is) in
    subst (λ (x : Scene). Runs server entries peers x)
    (sym (ap (λ (ss : List WorldStep). with_steps decode ss scene) next
    ∙ with_steps-push decode (take i steps) s scene)) h

-- a run that is answered leaves the world well
pub ran : {A E : Type 0} (r : Result A E) (failed was : Bool) (world : WorldState) (server after : ServerState)
    (entries count : ℕ) (peers now : List Peer) (steps : List WorldStep) → failed ≡ is_err r
    → record { failed = was; server = server; entries = entries; peers = peers } ≡ world
    → OnOk r ((decode : Decoding) → IsDecoding decode → (scene : Scene) → Runs server entries peers scene
    → Runs after count now (with_steps decode steps scene))
    → OnOk r ((decode : Decoding) → IsDecoding decode → (scene : Scene) → StandsFor world scene
    → StandsFor (record { failed = failed; server = after; entries = count; peers = now })
    (with_steps decode steps scene))
ran (Ok x) failed was world server after entries count peers now steps is view run = λ decode decodes scene h. record {
  is_well = is;
  runs = run decode decodes scene
      (subst (λ (w : WorldState). Runs w.server w.entries w.peers scene) (sym view) h.runs);
}
ran (Err e) failed was world server after entries count peers now steps is view run = tt
