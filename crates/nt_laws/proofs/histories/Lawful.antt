-- The entry of an act that is answered as the history says is lawful.
use Rattle.std.proofs.Common.{◌≡◌, ◌≢◌, ◌≤◌, ◌<◌, ◌+◌, ◌&&◌, ℕ, zero, suc, Bool, true, false, cond, not, List, [], ◌∷◌}
use Rattle.std.proofs.Common.{Option, Some, None, filter, length, take, refl, ◌∙◌, ap, arith}
use Rattle.std.specs.Prelude.{is_none}
use Rattle.std.proofs.lemmas.List.{length-map}
use Rattle.std.proofs.lemmas.Bool.Decides.{nat_tests}
use Rattle.nt_topics.specs.declared.version.Version.{Version}
use Rattle.nt_rules.specs.Limits.{last_connection}
use Rattle.nt_rules.specs.declared.topic.Cause.TheVariants.{NoConn, ConnsSpent}
use Rattle.nt_rules.specs.declared.batch.Batch.{Batch}
use Rattle.nt_rules.specs.outbox.Keys.{Key, is_value}
use Rattle.nt_rules.specs.declared.act.Act.{Act}
use Rattle.nt_rules.specs.declared.act.Act.TheVariants as act
use Rattle.nt_rules.specs.declared.act.StepOut.{StepOut}
use Rattle.nt_rules.specs.declared.act.StepOut.TheVariants as out
use Rattle.nt_rules.specs.declared.act.Entry.{Entry}
use Rattle.nt_rules.specs.history.Lives.{Life}
use Rattle.nt_rules.specs.declared.start.Start.{Start}
use Rattle.nt_rules.specs.history.Now.{Now, Connection, now_of, is_open, is_open_for, is_there, open_ones}
use Rattle.nt_rules.specs.history.Metas.{all_lives}
use Rattle.nt_rules.specs.history.Owed.{Account, account, owed_by, owed, behind, messages, keys_owed, wish_on, wish_for}
use Rattle.nt_rules.specs.history.Owed.{since_for}
use Rattle.nt_rules.specs.history.Answer.{answer, entry, moment_of, are_spent, may_permit, given_name, names_of}
use Rattle.nt_rules.specs.history.Answer.{drained_out, drained_batch, IsPrefix, IsBatch, IsLawful, Legal}
use Rattle.nt_rules.specs.history.Step.{MayAct, IsEntryOf}
use Rattle.nt_laws.proofs.histories.GivenNames.{given-unused}

-- ---- names

length-names_of : (cs : List Connection) → length (names_of cs) ≡ length cs
length-names_of [] = refl
length-names_of (c ∷ cs) = ap suc (length-names_of cs)

length-open_ones : (cs : List Connection) → length (open_ones cs) ≤ length cs
length-open_ones [] = omega arith
length-open_ones (c ∷ cs) = by (length-open_ones cs) (is_open c)
  where
    by : length (open_ones cs) ≤ length cs → (b : Bool)
        → length (cond b (c ∷ open_ones cs) (open_ones cs)) ≤ length (c ∷ cs)
    by h true = omega arith
    by h false = omega arith

unspent : (n : Now) → are_spent n ≡ false → length n.connections < last_connection
unspent n e = grind (arith, nat_tests)

-- ---- batches

both-filters : (p : Key → Bool) (ks : List Key) → length (filter (λ k. not (p k)) ks) + length (filter p ks)
    ≡ length ks
both-filters p [] = omega arith
both-filters p (k ∷ ks) = by (both-filters p ks) (p k)
  where
    by : length (filter (λ k. not (p k)) ks) + length (filter p ks) ≡ length ks → (b : Bool)
        → length (cond (not b) (k ∷ filter (λ k. not (p k)) ks) (filter (λ k. not (p k)) ks)) + length
        (cond b (k ∷ filter p ks) (filter p ks))
        ≡ length (k ∷ ks)
    by h true = omega arith
    by h false = omega arith

-- as many messages as keys
pub length-messages : (lives : List Life) (moment conn : ℕ) (ks : List Key)
    → length (messages lives moment conn ks).texts + length (messages lives moment conn ks).values ≡ length ks
length-messages lives moment conn ks = simp length-map (both-filters is_value ks)

-- so many keys at the prefix, as many as are there, and some where there are some and some were asked for
pub record IsTaken (budget : ℕ) (ks prefix : List Key) : Type 0 where
  pub count : ℕ
  pub within : count ≤ length ks
  pub prefix_is : prefix ≡ take count ks
  pub some : ks ≢ [] → 1 ≤ budget → count ≢ 0

take-within : (budget : ℕ) (ks : List Key) → IsTaken budget ks (take budget ks)
take-within zero ks =
    record { count = 0; within = omega arith; prefix_is = refl; some = λ ne h. absurd (omega arith) }
take-within (suc budget) [] =
    record { count = 0; within = omega arith; prefix_is = refl; some = λ ne h. absurd (ne refl) }
take-within (suc budget) (k ∷ ks) =
    let more = take-within budget ks in
    let within = more.within in
    record {
      count = suc more.count;
      within = omega arith;
      prefix_is = ap (λ xs. k ∷ xs) more.prefix_is;
      some = λ ne h e. cc;
    }

-- what is owed to a connection that fell behind is nothing
owed-behind : (a : Account) (start : Start) (past : List Entry) (conn w : ℕ) → a.fell ≡ Some w
    → owed_by a start past conn ≡ []
owed-behind a start past conn w e =
    ap (λ fell. cond (is_there (now_of start past).connections conn && is_none fell) keys []) e
    ∙ by (is_there (now_of start past).connections conn)
  where
    keys : List Key
    keys =
        keys_owed a conn (wish_on (wish_for start past conn)) (since_for start past conn) (all_lives start past)

    by : (b : Bool) → cond (b && false) keys [] ≡ []
    by true = refl
    by false = refl

behind-owes : (start : Start) (past : List Entry) (conn w : ℕ) → behind start past conn ≡ Some w
    → owed start past conn ≡ []
behind-owes start past conn w e = by (is_there (now_of start past).connections conn) e
  where
    by : (b : Bool) → cond b (account start past conn).fell None ≡ Some w → owed start past conn ≡ []
    by true e = owed-behind (account start past conn) start past conn w e
    by false e = absurd (cc)

module _ (start : Start) (past : List Entry) (worker moment conn budget : ℕ) (some : 1 ≤ budget) where
  abbrev lives : List Life
  lives = all_lives start past

  abbrev keys : List Key
  keys = owed start past conn

  abbrev handed : Batch
  handed = messages lives moment conn (take budget keys)

  prefix : IsTaken budget keys (take budget keys) → IsPrefix lives moment conn keys handed
  prefix h = (h.count, h.within, ap (messages lives moment conn) h.prefix_is, λ ne. h.some ne some)

  there : (w : Option ℕ) → behind start past conn ≡ w
      → IsPrefix lives moment conn keys (drained_batch (drained_out w handed))
  there None e = prefix (take-within budget keys)
  there (Some w) e = (0, omega arith, refl, λ ne. absurd (ne (behind-owes start past conn w e)))

  abbrev drained-by : Bool → Batch
  drained-by b = drained_batch (cond b (drained_out (behind start past conn) handed) (out.Ignored NoConn))

  lawful-by : (b : Bool) → IsBatch b lives moment conn keys (drained-by b)
  lawful-by true = there (behind start past conn) refl
  lawful-by false = refl

-- ---- entries

-- the entry of an act that is answered as the history says
abbrev pub answered : Start → List Entry → ℕ → ℕ → Act → Entry
answered start past worker now a =
    entry worker (moment_of (now_of start past) now) a (answer start past worker now a)

-- it may stand after the history
abbrev pub IsNext : Start → List Entry → Entry → Type 0
IsNext start past e = IsLawful start past e.worker e.conn e.now e.deed

lawful-open : (start : Start) (past : List Entry) (worker moment : ℕ) (name : List ℕ) (version : Version) (b : Bool)
    → are_spent (now_of start past) ≡ b
    → IsNext start past
    (entry worker moment (act.Open name version)
    (cond b (out.Ignored ConnsSpent)
    (out.Opened (length (now_of start past).connections + 1)
    (given_name (names_of (open_ones (now_of start past).connections)) name))))
lawful-open start past worker moment name version true e = (e, refl)
lawful-open start past worker moment name version false e =
    let connections = (now_of start past).connections in
    let less = unspent (now_of start past) e in
    let fewer = length-open_ones connections in
    let same = length-names_of (open_ones connections) in
    (e, refl, given-unused (names_of (open_ones connections)) name (omega arith))

lawful-permit : (start : Start) (past : List Entry) (worker moment : ℕ) (b : Bool)
    → may_permit (now_of start past) ≡ b
    → IsNext start past (entry worker moment act.Permit (cond b out.Permitted out.NoPermit))
lawful-permit start past worker moment true e = (e, refl)
lawful-permit start past worker moment false e = (e, refl)

pub lawful : (start : Start) (past : List Entry) (worker now : ℕ) (a : Act) → MayAct a
    → IsNext start past (answered start past worker now a)
lawful start past worker now (act.Open name version) may =
    lawful-open start past worker (moment_of (now_of start past) now) name version
    (are_spent (now_of start past)) refl
lawful start past worker now (act.Said conn m) may = tt
lawful start past worker now (act.Drain conn budget) may =
    lawful-by start past worker (moment_of (now_of start past) now) conn budget may
    (is_open_for (now_of start past).connections worker conn)
lawful start past worker now (act.Close conn) may = tt
lawful start past worker now act.Permit may =
    lawful-permit start past worker (moment_of (now_of start past) now) (may_permit (now_of start past)) refl
lawful start past worker now act.Shut may = refl

-- the moment of an entry
pub entry-now : (worker moment : ℕ) (a : Act) (o : StepOut) → (entry worker moment a o).now ≡ moment
entry-now worker moment (act.Open name version) o = refl
entry-now worker moment (act.Said conn m) o = refl
entry-now worker moment (act.Drain conn budget) o = refl
entry-now worker moment (act.Close conn) o = refl
entry-now worker moment act.Permit o = refl
entry-now worker moment act.Shut o = refl

-- the worker of an entry
pub entry-worker : (worker moment : ℕ) (a : Act) (o : StepOut) → (entry worker moment a o).worker ≡ worker
entry-worker worker moment (act.Open name version) o = refl
entry-worker worker moment (act.Said conn m) o = refl
entry-worker worker moment (act.Drain conn budget) o = refl
entry-worker worker moment (act.Close conn) o = refl
entry-worker worker moment act.Permit o = refl
entry-worker worker moment act.Shut o = refl

-- of an act's entry the worker is the one that acted, and the moment is that of the entry
pub worker-of : (worker now : ℕ) (a : Act) (o : StepOut) (e : Entry) → IsEntryOf worker now a o e
    → e.worker ≡ worker
worker-of worker now a o e h =
    ap (λ (e : Entry). e.worker) h.entry_is ∙ entry-worker worker h.moment a o

pub now-of : (worker now : ℕ) (a : Act) (o : StepOut) (e : Entry) → IsEntryOf worker now a o e → now ≤ e.now
now-of worker now a o e h =
    let same : e.now ≡ h.moment = ap (λ (e : Entry). e.now) h.entry_is ∙ entry-now worker h.moment a o in
    let least = h.not_before in
    omega arith

-- a lawful history with it is lawful
pub legal-answered : (start : Start) (past : List Entry) (worker now : ℕ) (a : Act) → MayAct a
    → Legal start past
    → Legal start (answered start past worker now a ∷ past)
legal-answered start past worker now a may legal =
    (lawful start past worker now a may, rw later (omega arith), legal)
  where
    later : (answered start past worker now a).now ≡ moment_of (now_of start past) now
    later = entry-now worker (moment_of (now_of start past) now) a (answer start past worker now a)
