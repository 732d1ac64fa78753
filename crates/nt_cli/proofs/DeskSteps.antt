-- What a desk's acts do to its history.
use Rattle.std.proofs.Common.{◌≡◌, ℕ, suc, zero, ◌+◌, ◌-◌, ◌<◌, Bool, true, false, ◌==◌, ◌&&◌, cond, List, [], ◌∷◌, ◌++◌, length, take, Option, None, Some, is_none, Result, Err, refl, sym, ap, ◌∙◌, subst, arith, append-nil, append_assoc, codes}
use Rattle.std.proofs.lemmas.List.Elements.{filter_map-append}
use Rattle.std.specs.Io.KnownBytes.{Appends}
use Rattle.std.proofs.KnownBytes.{Appends-nil, Appends-trans}
use Rattle.nt_topics.specs.declared.version.Version.TheVariants.{V41}
use Rattle.nt_link.specs.declared.frame.Frame.{Frame}
use Rattle.nt_session.specs.Laid.{frames_in}
use Rattle.nt_control.specs.declared.message.ClientMsg.TheVariants.{Publish, Unpublish, SetProps, Subscribe, Unsubscribe}
use Rattle.nt_subs.specs.Subscriptions.{Subs}
use Rattle.nt_rules.specs.declared.topic.Cause.TheVariants.{NoConn}
use Rattle.nt_rules.specs.declared.batch.Batch.{Batch}
use Rattle.nt_rules.specs.outbox.Keys.{Key}
use Rattle.nt_rules.specs.declared.act.Act.{Act}
use Rattle.nt_rules.specs.declared.act.Act.TheVariants as act
use Rattle.nt_rules.specs.declared.act.Msg.{Msg}
use Rattle.nt_rules.specs.declared.act.Msg.TheVariants.{Control, Put}
use Rattle.nt_rules.specs.declared.act.StepOut.{StepOut}
use Rattle.nt_rules.specs.declared.act.StepOut.TheVariants as out
use Rattle.nt_rules.specs.declared.act.Entry.{Entry}
use Rattle.nt_rules.specs.history.Lives.{Life}
use Rattle.nt_rules.specs.history.Now.{Now, Connection, now_of, is_conn, is_there, is_open_for, with_subs, connections_after, lives_after, is_traced, cause_of}
use Rattle.nt_rules.specs.history.Metas.{all_lives}
use Rattle.nt_rules.specs.history.Owed.{account, owed, behind as fell_behind, messages}
use Rattle.nt_rules.specs.history.Answer.{answer, entry, moment_of, drained_out}
use Rattle.nt_rules.specs.history.Step.{ServerState, Represents, Steps}
use Rattle.nt_tools.specs.declared.status.ToolFault.{ToolFault}
use Rattle.nt_cli.specs.Desk.{Decoding, is_empty, count_owed, start, worker, conn, budget, with_act, with_drain, opened, line_messages, answer_to, answers_to, with_message, with_messages, batch, batch_lines, lines_of, drained, after_drains, turn_text, last_text, after_turn}
use Rattle.nt_cli.specs.DeskRun.{IsConnected}
use Rattle.nt_tools.specs.Printing.{Prints}
use Rattle.nt_tools.proofs.Printing.{prints-after, prints-stopped}

-- a step's entry is the one that the history goes on with
entry-act : (past : List Entry) (now : ℕ) (a : Act) (o : StepOut) (e : Entry) (server : ServerState)
    → Steps start past worker now a o e server → Represents server start (with_act past now a)
unfolding with_act
entry-act past now a o e server s =
    let same : e ≡ entry worker (moment_of (now_of start past) now) a (answer start past worker now a)
    = s.entry_is ∙ ap (λ (x : StepOut). entry worker (moment_of (now_of start past) now) a x) s.out_is in
    subst (λ (x : Entry). Represents server start (x ∷ past)) same s.represents

-- ---- messages

-- subscriptions leave connections open
subs-test : (f : Subs → Subs) (w k : ℕ) (c : Connection) (b : Bool) → (is_conn k (cond b (record c {
  subs = f c.subs;
}) c) && ((cond b (record c { subs = f c.subs }) c).worker == w)) ≡ (is_conn k c && (c.worker == w))
subs-test f w k c true = refl
subs-test f w k c false = refl

subs-there : (f : Subs → Subs) (j w k : ℕ) (cs : List Connection)
    → is_open_for (with_subs j f cs) w k ≡ is_open_for cs w k
subs-there f j w k [] = refl
subs-there f j w k (c ∷ cs) = rw (subs-test f w k c (is_conn j c), subs-there f j w k cs) refl

after-there : (w k : ℕ) (cs : List Connection) (c : ℕ) (m : Msg)
    → is_open_for (connections_after cs c m) w k ≡ is_open_for cs w k
after-there w k cs c (Control (Publish name uid typ props)) = refl
after-there w k cs c (Control (Unpublish uid)) = refl
after-there w k cs c (Control (SetProps name update)) = refl
after-there w k cs c (Control (Subscribe uid sub)) = subs-there _ c w k cs
after-there w k cs c (Control (Unsubscribe uid)) = subs-there _ c w k cs
after-there w k cs c (Put v) = refl

traced-there : (w k : ℕ) (n : Now) (c : ℕ) (m : Msg) (lives : List Life) (b : Bool)
    → is_open_for (cond b (record n {
      connections = connections_after n.connections c m;
      lives = lives;
    }) n).connections w k ≡ is_open_for n.connections w k
traced-there w k n c m lives true = after-there w k n.connections c m
traced-there w k n c m lives false = refl

pub said-there : (past : List Entry) (now : ℕ) (m : Msg) → is_open_for
    (now_of start (with_act past now (act.Said conn m))).connections worker conn
    ≡ is_open_for (now_of start past).connections worker conn
unfolding with_act
said-there past now m =
    let n = now_of start past in traced-there worker conn n conn m (lives_after (n.place + 1) n.lives conn m)
    (is_traced m (cause_of n worker conn m))

-- a message that was said leaves the desk at its server
pub connected-said : (past : List Entry) (now : ℕ) (m : Msg) (before server : ServerState) (o : StepOut) (e : Entry)
    → None ≡ answer_to now m → IsConnected before past → Steps start past worker now (act.Said conn m) o e server
    → IsConnected server (with_message past now m)
unfolding with_message
connected-said past now m before server o e is connected s =
    subst (λ (a : Option Frame). IsConnected server (cond (is_none a) (with_act past now (act.Said conn m)) past)) is
    (record {
      represents = entry-act past now (act.Said conn m) o e server s;
      is_there = said-there past now m ∙ connected.is_there;
    })

-- and a question changes nothing
pub connected-asked : (past : List Entry) (now : ℕ) (m : Msg) (answer : Frame) (server : ServerState)
    → Some answer ≡ answer_to now m → IsConnected server past → IsConnected server (with_message past now m)
unfolding with_message
connected-asked past now m answer server is connected = subst
    (λ (a : Option Frame). IsConnected server (cond (is_none a) (with_act past now (act.Said conn m)) past)) is
    connected

-- the answers with one more message
pub answers-none : (now : ℕ) (m : Msg) → None ≡ answer_to now m → answers_to now (m ∷ []) ≡ []
answers-none now m is = rw (← is) refl

pub answers-some : (now : ℕ) (m : Msg) (answer : Frame) → Some answer ≡ answer_to now m
    → answers_to now (m ∷ []) ≡ answer ∷ []
answers-some now m answer is = rw (← is) refl

pub answers-push : (now : ℕ) (msgs : List Msg) (m : Msg) → answers_to now (msgs ++ m ∷ []) ≡ answers_to now msgs
    ++ answers_to now (m ∷ [])
answers-push now msgs m = filter_map-append (answer_to now) msgs (m ∷ [])

-- one more message
pub with_messages-push : (past : List Entry) (now : ℕ) (msgs : List Msg) (m : Msg)
    → with_messages past now (msgs ++ m ∷ []) ≡ with_message (with_messages past now msgs) now m
unfolding with_messages
with_messages-push past now [] m = refl
with_messages-push past now (x ∷ msgs) m = with_messages-push (with_message past now x) now msgs m

pub with_messages-none : (past : List Entry) (now : ℕ) → with_messages past now [] ≡ past
unfolding with_messages
with_messages-none past now = refl

-- ---- drains

drain-there : (past : List Entry) (now : ℕ) → (now_of start (with_drain past now)).connections
    ≡ (now_of start past).connections
unfolding with_act with_drain
drain-there past now = refl

pub connected-drain : (past : List Entry) (now : ℕ) (before server : ServerState) (o : StepOut) (e : Entry)
    → IsConnected before past → Steps start past worker now (act.Drain conn budget) o e server
    → IsConnected server (with_drain past now)
unfolding with_drain
connected-drain past now before server o e connected s = record {
  represents = entry-act past now (act.Drain conn budget) o e server s;
  is_there = ap (λ (cs : List Connection). is_open_for cs worker conn) (drain-there past now) ∙ connected.is_there;
}

-- what a drain answers
drain-out : (past : List Entry) (now : ℕ) (before server : ServerState) (o : StepOut) (e : Entry)
    → IsConnected before past → Steps start past worker now (act.Drain conn budget) o e server
    → o ≡ drained_out (fell_behind start past conn) (batch past now)
unfolding batch
drain-out past now before server o e connected s =
    s.out_is
    ∙ ap (λ (b : Bool). cond b (drained_out (fell_behind start past conn)
    (messages (all_lives start past) (moment_of (now_of start past) now) conn (take budget (owed start past conn))))
    (out.Ignored NoConn)) connected.is_there

drained-same : (w : Option ℕ) (x b : Batch) → drained_out w x ≡ out.Drained b → b ≡ x
drained-same None x b is = cc
drained-same (Some weight) x b is = absurd (cc)

-- the next batch is handed
drain-batch : (past : List Entry) (now : ℕ) (before server : ServerState) (b : Batch) (o : StepOut) (e : Entry)
    → IsConnected before past → Steps start past worker now (act.Drain conn budget) o e server → o ≡ out.Drained b
    → b ≡ batch past now
drain-batch past now before server b o e connected s is = drained-same (fell_behind start past conn) (batch past now) b
    (sym (drain-out past now before server o e connected s) ∙ is)

pub drain-lines : (past : List Entry) (now : ℕ) (before server : ServerState) (b : Batch) (o : StepOut) (e : Entry)
    (frames : List Frame) → IsConnected before past
    → Steps start past worker now (act.Drain conn budget) o e server → o ≡ out.Drained b → frames ≡ frames_in b
    → lines_of frames ≡ batch_lines (batch past now)
drain-lines past now before server b o e frames connected s is frames_are =
    ap lines_of frames_are ∙ ap batch_lines (drain-batch past now before server b o e connected s is)

-- or the connection fell behind, and nothing is owed
none-owed_fallen : (w : ℕ) (there : Bool) (fell : Option ℕ) (keys : List Key) → cond there fell None ≡ Some w
    → cond (there && is_none fell) keys [] ≡ []
none-owed_fallen w true None keys is = absurd (cc)
none-owed_fallen w true (Some x) keys is = refl
none-owed_fallen w false fell keys is = absurd (cc)

nothing-handed : (past : List Entry) (now : ℕ) → owed start past conn ≡ [] → batch_lines (batch past now) ≡ []
unfolding batch
nothing-handed past now none = ap (λ (keys : List Key). batch_lines
    (messages (all_lives start past) (moment_of (now_of start past) now) conn (take budget keys))) none

other-fallen : (w : Option ℕ) (x : Batch) (o : StepOut) → o ≡ drained_out w x → ((b : Batch) → o ≡ out.Drained b → ⊥)
    → (weight : ℕ) × (w ≡ Some weight)
other-fallen None x o is other = absurd (other x is)
other-fallen (Some weight) x o is other = (weight, refl)

pub drain-other : (past : List Entry) (now : ℕ) (before server : ServerState) (o : StepOut) (e : Entry)
    → IsConnected before past → Steps start past worker now (act.Drain conn budget) o e server
    → ((b : Batch) → o ≡ out.Drained b → ⊥) → batch_lines (batch past now) ≡ []
drain-other past now before server o e connected s other =
    let fell = other-fallen (fell_behind start past conn) (batch past now) o
    (drain-out past now before server o e connected s) other in
    nothing-handed past now (none-owed_fallen fell.0 (is_there (now_of start past).connections conn)
    (account start past conn).fell _ fell.1)

-- ---- drains until nothing is owed

-- how far a loop over drains came that began at this history, and may drain so many times more
pub record DrainsBy (moment most left : ℕ) (past : List Entry) (server : ServerState) (before now : Option (List ℕ)) :
    Type 0 where
  pub here : List Entry
  pub text : List ℕ
  pub connected : IsConnected server here
  pub printed : Appends before now text
  pub texts : drained most past moment ≡ text ++ drained left here moment
  pub after : after_drains most past moment ≡ after_drains left here moment

pub drains-none : (moment most : ℕ) (past : List Entry) (server : ServerState) (before : Option (List ℕ))
    → IsConnected server past → DrainsBy moment most (most - 0) past server before before
drains-none moment most past server before connected =
    let same : most ≡ most - 0 = omega arith in
    record {
      here = past;
      text = [];
      connected = connected;
      printed = Appends-nil before;
      texts = ap (λ (n : ℕ). drained n past moment) same;
      after = ap (λ (n : ℕ). after_drains n past moment) same;
    }

some-owed : {X : Type 0} (xs : List X) → (length xs ≡ 0 → ⊥) → is_empty xs ≡ false
some-owed [] some = absurd (some refl)
some-owed (x ∷ xs) some = refl

none-owed : {X : Type 0} (xs : List X) → length xs ≡ 0 → is_empty xs ≡ true
none-owed [] none = refl
none-owed (x ∷ xs) none = absurd (omega arith)

drained-some : (k : ℕ) (past : List Entry) (now : ℕ) → is_empty (owed start past conn) ≡ false
    → drained (suc k) past now ≡ batch_lines (batch past now) ++ drained k (with_drain past now) now
unfolding drained
drained-some k past now some = rw some refl

after-some : (k : ℕ) (past : List Entry) (now : ℕ) → is_empty (owed start past conn) ≡ false
    → after_drains (suc k) past now ≡ after_drains k (with_drain past now) now
unfolding after_drains
after-some k past now some = rw some refl

drained-none : (k : ℕ) (past : List Entry) (now : ℕ) → is_empty (owed start past conn) ≡ true → drained k past now ≡ []
unfolding drained
drained-none zero past now none = refl
drained-none (suc k) past now none = rw none refl

after-none : (k : ℕ) (past : List Entry) (now : ℕ) → is_empty (owed start past conn) ≡ true
    → after_drains k past now ≡ past
unfolding after_drains
after-none zero past now none = refl
after-none (suc k) past now none = rw none refl

drained-zero : (past : List Entry) (now : ℕ) → drained 0 past now ≡ []
unfolding drained
drained-zero past now = refl

after-zero : (past : List Entry) (now : ℕ) → after_drains 0 past now ≡ past
unfolding after_drains
after-zero past now = refl

-- one drain more
pub drains-more : (moment most at : ℕ) (past : List Entry) (old server : ServerState) (before mid now : Option (List ℕ))
    (d : DrainsBy moment most (most - at) past old before mid)
    → at < most → (length (owed start d.here conn) ≡ 0 → ⊥) → Appends mid now (batch_lines (batch d.here moment))
    → IsConnected server (with_drain d.here moment)
    → DrainsBy moment most (most - (at + 1)) past server before now
drains-more moment most at past old server before mid now d below some printed connected =
    let left : most - at ≡ suc (most - (at + 1)) = omega arith in
    let more : is_empty (owed start d.here conn) ≡ false = some-owed _ some in
    record {
      here = with_drain d.here moment;
      text = d.text ++ batch_lines (batch d.here moment);
      connected = connected;
      printed = Appends-trans before mid now d.text (batch_lines (batch d.here moment)) d.printed printed;
      texts =
          d.texts ∙ ap (λ (n : ℕ). d.text ++ drained n d.here moment) left
          ∙ ap (λ (l : List ℕ). d.text ++ l) (drained-some (most - (at + 1)) d.here moment more)
          ∙ sym (append_assoc d.text (batch_lines (batch d.here moment))
          (drained (most - (at + 1)) (with_drain d.here moment) moment));
      after = d.after ∙ ap (λ (n : ℕ). after_drains n d.here moment) left
          ∙ after-some (most - (at + 1)) d.here moment more;
    }

-- a drain that stopped
pub drains-stopped : (moment most at : ℕ) (past : List Entry) (old : ServerState) (before mid now : Option (List ℕ))
    (e : ToolFault) (d : DrainsBy moment most (most - at) past old before mid)
    → at < most → (length (owed start d.here conn) ≡ 0 → ⊥) → Prints (batch_lines (batch d.here moment)) mid now (Err e)
    → Prints (drained most past moment) before now (Err e)
drains-stopped moment most at past old before mid now e d below some stopped =
    let left : most - at ≡ suc (most - (at + 1)) = omega arith in
    let more : is_empty (owed start d.here conn) ≡ false = some-owed _ some in
    let texts : drained most past moment ≡ d.text ++ (batch_lines (batch d.here moment)
    ++ drained (most - (at + 1)) (with_drain d.here moment) moment)
    = d.texts ∙ ap (λ (n : ℕ). d.text ++ drained n d.here moment) left
    ∙ ap (λ (l : List ℕ). d.text ++ l) (drained-some (most - (at + 1)) d.here moment more) in
    let rest = drained (most - (at + 1)) (with_drain d.here moment) moment in
    subst (λ (l : List ℕ). Prints l before now (Err e)) (sym texts)
    (prints-after d.text (batch_lines (batch d.here moment) ++ rest) before mid now (Err e) d.printed
    (prints-stopped (batch_lines (batch d.here moment)) rest mid now e stopped))

-- the end: nothing is owed
pub drains-end : (moment most left : ℕ) (past : List Entry) (server : ServerState) (before now : Option (List ℕ))
    (d : DrainsBy moment most left past server before now)
    → length (owed start d.here conn) ≡ 0 → Appends before now (drained most past moment)
    × IsConnected server (after_drains most past moment)
drains-end moment most left past server before now d none_owed =
    let none : is_empty (owed start d.here conn) ≡ true = none-owed _ none_owed in
    let texts : drained most past moment ≡ d.text = d.texts ∙ ap (λ (l : List ℕ). d.text ++ l)
    (drained-none left d.here moment none) ∙ append-nil d.text in (
      subst (Appends before now) (sym texts) d.printed,
      subst (IsConnected server) (sym (d.after ∙ after-none left d.here moment none)) d.connected,
    )

-- or no drain is left
pub drains-last : (moment most left : ℕ) (past : List Entry) (server : ServerState) (before now : Option (List ℕ))
    (d : DrainsBy moment most left past server before now) → left ≡ 0
    → Appends before now (drained most past moment) × IsConnected server (after_drains most past moment)
drains-last moment most left past server before now d zero_is =
    let texts : drained most past moment ≡ d.text
    = d.texts ∙ ap (λ (n : ℕ). d.text ++ drained n d.here moment) zero_is
    ∙ ap (λ (l : List ℕ). d.text ++ l) (drained-zero d.here moment) ∙ append-nil d.text in (
      subst (Appends before now) (sym texts) d.printed,
      subst (IsConnected server) (sym (d.after ∙ ap (λ (n : ℕ). after_drains n d.here moment) zero_is
          ∙ after-zero d.here moment)) d.connected,
    )

-- ---- turns

-- the answers of a turn, and then its drains
pub text-prints : (decode : Decoding) (past : List Entry) (number : ℕ) (line : List ℕ) (msgs : List Msg)
    (answers : List Frame) (before mid now : Option (List ℕ)) (r : Result (Unit {0}) ToolFault)
    → msgs ≡ line_messages decode line → answers ≡ answers_to number msgs → Appends before mid (lines_of answers)
    → Prints (drained (count_owed (with_messages past number msgs)) (with_messages past number msgs) number) mid now r
    → Prints (turn_text decode past number line) before now r
unfolding turn_text
text-prints decode past number line msgs answers before mid now r is answers_is first p =
    let texts : List Msg → List ℕ = λ ms. lines_of (answers_to number ms)
    ++ drained (count_owed (with_messages past number ms)) (with_messages past number ms) number in
    let all : Prints (texts msgs) before now r = prints-after _ _ before mid now r
    (subst (λ (fs : List Frame). Appends before mid (lines_of fs)) answers_is first) p in
    subst (λ (ms : List Msg). Prints (texts ms) before now r) is all

pub text-stopped : (decode : Decoding) (past : List Entry) (number : ℕ) (line : List ℕ) (msgs : List Msg)
    (answers : List Frame) (before now : Option (List ℕ)) (e : ToolFault)
    → msgs ≡ line_messages decode line → answers ≡ answers_to number msgs → Prints (lines_of answers) before now (Err e)
    → Prints (turn_text decode past number line) before now (Err e)
unfolding turn_text
text-stopped decode past number line msgs answers before now e is answers_is p =
    let texts : List Msg → List ℕ = λ ms. lines_of (answers_to number ms)
    ++ drained (count_owed (with_messages past number ms)) (with_messages past number ms) number in
    let all : Prints (texts msgs) before now (Err e) = prints-stopped _ _ before now e
    (subst (λ (fs : List Frame). Prints (lines_of fs) before now (Err e)) answers_is p) in
    subst (λ (ms : List Msg). Prints (texts ms) before now (Err e)) is all

pub after_turn-is : (decode : Decoding) (past : List Entry) (number : ℕ) (line : List ℕ) (msgs : List Msg)
    → msgs ≡ line_messages decode line
    → after_drains (count_owed (with_messages past number msgs)) (with_messages past number msgs) number
    ≡ after_turn decode past number line
unfolding after_turn
after_turn-is decode past number line msgs is =
    let turned : List Msg → List Entry = λ ms. after_drains (count_owed (with_messages past number ms))
    (with_messages past number ms) number in ap turned is

-- what stands after the last line feed is a line where it has a byte
pub last-some : (decode : Decoding) (past : List Entry) (number : ℕ) (line : List ℕ) (before now : Option (List ℕ))
    (r : Result (Unit {0}) ToolFault) → (length line ≡ 0 → ⊥)
    → Prints (turn_text decode past number line) before now r → Prints (last_text decode past number line) before now r
last-some decode past number [] before now r some p = absurd (some refl)
last-some decode past number (b ∷ bytes) before now r some p = p

-- ---- the opening

opened-there : is_open_for (now_of start (with_act [] 0 (act.Open (codes "desk") V41))).connections worker conn ≡ true
unfolding with_act
opened-there = refl

-- a server that opened the connection has it open
pub connected-opened : (server : ServerState) (name : List ℕ) (o : StepOut) (e : Entry) → name ≡ codes "desk"
    → Steps start [] worker 0 (act.Open name V41) o e server → IsConnected server opened
unfolding opened
connected-opened server name o e is s =
    let named : Steps start [] worker 0 (act.Open (codes "desk") V41) o e server =
    subst (λ (n : List ℕ). Steps start [] worker 0 (act.Open n V41) o e server) is s in
    record { represents = entry-act [] 0 (act.Open (codes "desk") V41) o e server named; is_there = opened-there }
