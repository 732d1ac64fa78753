-- What the server tells an outbox at one place is a list of calls, each a change at an id.
use Rattle.std.proofs.Common.{◌≡◌, ◌<◌, ◌≤◌, ◌+◌, ◌==◌, ◌&&◌, ℕ, ℤ, Bool, true, false, cond, ltb, List, [], ◌∷◌, ◌++◌}
use Rattle.std.proofs.Common.{Option, Some, None, map, filter, length, refl, sym, ◌∙◌, ap, subst, arith}
use Rattle.std.specs.Prelude.{is_none, is_some, option_map}
use Rattle.std.proofs.lemmas.Bool.Decides.{nat_tests}
use Rattle.std.proofs.lemmas.Option.{none-some}
use Rattle.serde_json.specs.Data.{Data}
use Rattle.nt_topics.specs.Properties.{is_cached}
use Rattle.nt_subs.specs.declared.wish.Wanted.{Wanted}
use Rattle.nt_subs.specs.declared.wish.Wanted.TheVariants.{No, TopicOnly, Newest, All}
use Rattle.nt_rules.specs.declared.topic.Topic.{Topic}
use Rattle.nt_rules.specs.declared.topic.Change.{Change}
use Rattle.nt_rules.specs.declared.topic.Change.TheVariants as change
use Rattle.nt_control.specs.declared.message.ClientMsg.TheVariants.{SetProps}
use Rattle.nt_rules.specs.declared.meta.MetaNow.{MetaNow}
use Rattle.nt_rules.specs.outbox.Marks.{Mark}
use Rattle.nt_rules.specs.declared.waiting.Placed.{Placed}
use Rattle.nt_rules.specs.outbox.Marks.{started, noted_value, noted_setting, turned, ended, replied_publish}
use Rattle.nt_rules.specs.outbox.Marks.{replied_setting, rewanted, placed, same_wish, meta_wish, changed_meta}
use Rattle.nt_rules.specs.outbox.Marks.{rewanted_meta, weight}
use Rattle.nt_rules.specs.outbox.Marks.{at_id}
use Rattle.nt_rules.specs.outbox.Calls.{OutboxState, fallen, behind, unless_behind, at_place, with_call, id_of}
use Rattle.nt_rules.specs.outbox.Calls.{at_topic, noted_in}
use Rattle.nt_rules.specs.outbox.Calls.{noted}
use Rattle.nt_rules.specs.declared.act.Entry.{Entry}
use Rattle.nt_rules.specs.declared.taken.Taken.{Taken}
use Rattle.nt_rules.specs.history.Lives.{Life}
use Rattle.nt_rules.specs.declared.start.Start.{Start}
use Rattle.nt_rules.specs.history.Now.{is_there, now_of}
use Rattle.nt_rules.specs.history.Metas.{all_lives}
use Rattle.nt_rules.specs.history.Owed.{Account, account, accounted, owed_by, lives_weight, life_weight, weight_by}
use Rattle.nt_rules.specs.history.Owed.{wish_for, wish_on, since_for}
use Rattle.nt_rules.specs.history.Marks.{marks_owed}
use Rattle.nt_rules.specs.declared.meta.Difference.{Difference}
use Rattle.nt_rules.specs.declared.meta.Difference.TheVariants.{Began, Changed, Ended}
use Rattle.nt_rules.specs.history.State.{Open, noted_differences, name_in, cached_in, noted_all, published_to, set_to}
use Rattle.nt_rules.specs.history.State.{taken_at, turn_noted, rewanted_all, meta_rewanted_all}
use Rattle.nt_rules.specs.history.Step.{Owes}
use Rattle.nt_laws.proofs.marks.MarksById.{look, keep_opt, or_fresh, IsRising, KeepsId, look-at, rising-at}
use Rattle.nt_laws.proofs.marks.MarksById.{same-looks}

-- ---- calls as data

-- a change of the mark at an id, or of none
pub record Op : Type 0 where
  pub id : Option ℕ
  pub name : List ℕ
  pub f : Mark → Mark

abbrev at_some : Option ℕ → List ℕ → (Mark → Mark) → List Mark → List Mark
at_some None name f marks = marks
at_some (Some id) name f marks = at_id id name f marks

abbrev pub at_op : Op → List Mark → List Mark
at_op o marks = at_some o.id o.name o.f marks

-- the marks after these changes, one after the other
abbrev pub run : List Op → List Mark → List Mark
run [] marks = marks
run (o ∷ ops) marks = run ops (at_op o marks)

-- an outbox after a call for each of them, at one place
abbrev pub called_all : ℕ → List Op → OutboxState → OutboxState
called_all place [] b = b
called_all place (o ∷ ops) b = called_all place ops (with_call place (at_op o) b)

pub run-append : (xs ys : List Op) (marks : List Mark) → run (xs ++ ys) marks ≡ run ys (run xs marks)
run-append [] ys marks = refl
run-append (x ∷ xs) ys marks = run-append xs ys (at_op x marks)

pub called-append : (place : ℕ) (xs ys : List Op) (b : OutboxState) → called_all place (xs ++ ys) b
    ≡ called_all place ys (called_all place xs b)
called-append place [] ys b = refl
called-append place (x ∷ xs) ys b = called-append place xs ys (with_call place (at_op x) b)

-- calls that do the same to all marks
called-same : (place : ℕ) (f g : List Mark → List Mark) (b : OutboxState) → ((marks : List Mark) → f marks ≡ g marks)
    → with_call place f b ≡ with_call place g b
called-same place f g b same =
    ap (λ marks. record (at_place place b) { marks = cond (is_some (at_place place b).fell) [] marks })
    (same (at_place place b).marks)

-- ---- what the server tells, as calls

-- a change of a topic, by whether topics are cached and how much they are wanted
abbrev pub change_op : ℕ → (List ℕ → Bool) → (List ℕ → Wanted) → Change → Op
change_op place cached wish (change.Started id name typ props) =
    record { id = id_of id; name = name; f = started (wish name) }
change_op place cached wish (change.Changed id name time value) =
    record {
      id = id_of id;
      name = name;
      f = noted_value
          (record { place = place; time = time; value = value }) (cached name) (wish name);
    }
change_op place cached wish (change.Props id name update) =
    record {
      id = id_of id;
      name = name;
      f = noted_setting
          (record { place = place; is_own = false; update = update }) (wish name);
    }
change_op place cached wish (change.Ended id name) = record { id = id_of id; name = name; f = ended place }

abbrev pub change_ops : ℕ → (List ℕ → Bool) → (List ℕ → Wanted) → List Change → List Op
change_ops place cached wish changes = map (change_op place cached wish) changes

-- a change at a topic is one at its id
topic-some : (id : ℤ) (name : List ℕ) (f : Mark → Mark) (marks : List Mark) → at_topic id name f marks
    ≡ at_some (id_of id) name f marks
topic-some id name f marks = by (id_of id) refl
  where
    by : (o : Option ℕ) → id_of id ≡ o → at_topic id name f marks ≡ at_some (id_of id) name f marks
    by None e = rw e
    by (Some n) e = rw e

noted-op : (place : ℕ) (cached : List ℕ → Bool) (wish : List ℕ → Wanted) (c : Change) (b : OutboxState)
    → noted place c (cached (name_in c)) (wish (name_in c)) b
    ≡ with_call place (at_op (change_op place cached wish c)) b
noted-op place cached wish c b =
    called-same place (noted_in place c (cached (name_in c)) (wish (name_in c)))
    (at_op (change_op place cached wish c)) b
    (λ marks. same marks c)
  where
    same : (marks : List Mark) (c : Change) → noted_in place c (cached (name_in c)) (wish (name_in c)) marks
        ≡ at_op (change_op place cached wish c) marks
    same marks (change.Started id name typ props) = topic-some id name (started (wish name)) marks
    same marks (change.Changed id name time value) =
        topic-some id name
        (noted_value (record { place = place; time = time; value = value }) (cached name) (wish name)) marks
    same marks (change.Props id name update) =
        topic-some id name
        (noted_setting (record { place = place; is_own = false; update = update }) (wish name)) marks
    same marks (change.Ended id name) = topic-some id name (ended place) marks

pub noted-calls : (place : ℕ) (ts : List Topic) (wish : List ℕ → Wanted) (changes : List Change) (b : OutboxState)
    → noted_all place ts wish changes b ≡ called_all place (change_ops place (cached_in ts) wish changes) b
noted-calls place ts wish [] b = refl
noted-calls place ts wish (c ∷ changes) b =
    ap (λ b. noted_all place ts wish changes b) (noted-op place (cached_in ts) wish c b)
    ∙ noted-calls place ts wish changes (with_call place (at_op (change_op place (cached_in ts) wish c)) b)

-- a turn
abbrev pub turn_op : ℕ → Op
turn_op id = record { id = Some id; name = []; f = turned }

abbrev pub turn_ops : Option ℕ → List Op
turn_ops None = []
turn_ops (Some id) = turn_op id ∷ []

pub turn-calls : (place : ℕ) (turn : Option ℕ) (o : Open)
    → turn_noted place turn o ≡ record o { outbox = called_all place (turn_ops turn) o.outbox }
turn-calls place None o = refl
turn-calls place (Some id) o = refl

-- the answer to a publish, and the wish for a topic that it began
abbrev pub publish_ops : ℕ → Option Topic → ℤ → Bool → (List ℕ → Wanted) → List Op
publish_ops place None uid begins wish = []
publish_ops place (Some t) uid begins wish =
    record { id = Some t.id; name = t.name; f = replied_publish (record { place = place; uid = uid }) }
    ∷ cond begins
    (record {
      id = Some t.id;
      name = t.name;
      f = rewanted (is_cached t.props) (option_map (placed 0) t.value) No
          (wish t.name);
    } ∷ []) []

pub published-calls : (place : ℕ) (found : Option Topic) (uid : ℤ) (begins : Bool) (wish : List ℕ → Wanted)
    (b : OutboxState)
    → published_to place found uid begins wish b
    ≡ called_all place (publish_ops place found uid begins wish) b
published-calls place None uid begins wish b = refl
published-calls place (Some t) uid true wish b = refl
published-calls place (Some t) uid false wish b = refl

-- the answer to a change of properties
abbrev pub setting_ops : ℕ → Option Topic → Data → List Op
setting_ops place None update = []
setting_ops place (Some t) update =
    record {
      id = Some t.id;
      name = t.name;
      f = replied_setting
          (record { place = place; is_own = true; update = update });
    } ∷ []

pub set-calls : (place : ℕ) (found : Option Topic) (name : List ℕ) (update : Data) (b : OutboxState)
    → set_to place found (SetProps name update) b ≡ called_all place (setting_ops place found update) b
set-calls place None name update b = refl
set-calls place (Some t) name update b = refl

-- another wish for each topic
abbrev pub rewanted_op : List Taken → (List ℕ → Wanted) → (List ℕ → Wanted) → Topic → Op
rewanted_op taken old wish t =
    record {
      id = Some t.id;
      name = t.name;
      f = rewanted (is_cached t.props) (option_map (placed (taken_at t.id taken)) t.value)
          (old t.name) (wish t.name);
    }

pub rewanted-calls : (place : ℕ) (taken : List Taken) (old wish : List ℕ → Wanted) (ts : List Topic) (b : OutboxState)
    → rewanted_all place taken old wish ts b ≡ called_all place (map (rewanted_op taken old wish) ts) b
rewanted-calls place taken old wish [] b = refl
rewanted-calls place taken old wish (t ∷ ts) b =
    rewanted-calls place taken old wish ts (with_call place (at_op (rewanted_op taken old wish t)) b)

abbrev pub meta_op : (List ℕ → Wanted) → (List ℕ → Wanted) → MetaNow → Op
meta_op old wish m = record { id = Some m.id; name = m.name; f = rewanted_meta (old m.name) (wish m.name) }

pub meta-calls : (place : ℕ) (old wish : List ℕ → Wanted) (ms : List MetaNow) (b : OutboxState)
    → meta_rewanted_all place old wish ms b ≡ called_all place (map (meta_op old wish) ms) b
meta-calls place old wish [] b = refl
meta-calls place old wish (m ∷ ms) b =
    meta-calls place old wish ms (with_call place (at_op (meta_op old wish m)) b)

-- what is different of the meta topics
abbrev pub difference_op : ℕ → (List ℕ → Wanted) → Difference → Op
difference_op place wish (Began m) =
    record { id = Some m.id; name = m.name; f = rewanted_meta No (wish m.name) }
difference_op place wish (Changed m) =
    record { id = Some m.id; name = m.name; f = changed_meta (wish m.name) }
difference_op place wish (Ended id) = record { id = Some id; name = []; f = ended place }

pub told-calls : (place : ℕ) (wish : List ℕ → Wanted) (ds : List Difference) (b : OutboxState)
    → noted_differences place wish ds b ≡ called_all place (map (difference_op place wish) ds) b
told-calls place wish [] b = refl
told-calls place wish (Began m ∷ ds) b =
    told-calls place wish ds (with_call place (at_op (difference_op place wish (Began m))) b)
told-calls place wish (Changed m ∷ ds) b =
    told-calls place wish ds (with_call place (at_op (difference_op place wish (Changed m))) b)
told-calls place wish (Ended id ∷ ds) b =
    told-calls place wish ds (with_call place (at_op (difference_op place wish (Ended id))) b)

-- ---- they keep ids

abbrev pub KeepIds : List Op → Type 0
KeepIds [] = Unit {0}
KeepIds (o ∷ ops) = KeepsId o.f × KeepIds ops

pub keep-append : (xs ys : List Op) → KeepIds xs → KeepIds ys → KeepIds (xs ++ ys)
keep-append [] ys h k = k
keep-append (x ∷ xs) ys h k = (h.0, keep-append xs ys h.1 k)

noted-id : (p : Placed) (cached : Bool) (wish : Wanted) → KeepsId (noted_value p cached wish)
noted-id p false wish m = refl
noted-id p true No m = refl
noted-id p true TopicOnly m = refl
noted-id p true Newest m = refl
noted-id p true All m = refl

rewanted-id : (cached : Bool) (held : Option Placed) (old wish : Wanted) → KeepsId (rewanted cached held old wish)
rewanted-id cached held old wish m = by (same_wish old wish) cached m _ _ refl refl
  where
    by : (b c : Bool) (m n k : Mark) → n.id ≡ m.id → k.id ≡ m.id → (cond b m (cond c n k)).id ≡ m.id
    by true c m n k e f = refl
    by false true m n k e f = e
    by false false m n k e f = f

meta-id : (old wish : Wanted) → KeepsId (rewanted_meta old wish)
meta-id old wish m = by (same_wish (meta_wish old) (meta_wish wish)) m _ refl
  where
    by : (b : Bool) (m n : Mark) → n.id ≡ m.id → (cond b m n).id ≡ m.id
    by true m n e = refl
    by false m n e = e

pub keep-changes : (place : ℕ) (cached : List ℕ → Bool) (wish : List ℕ → Wanted) (changes : List Change)
    → KeepIds (change_ops place cached wish changes)
keep-changes place cached wish [] = tt
keep-changes place cached wish (c ∷ changes) = (by c, keep-changes place cached wish changes)
  where
    by : (c : Change) → KeepsId (change_op place cached wish c).f
    by (change.Started id name typ props) m = refl
    by (change.Changed id name time value) m = noted-id _ (cached name) (wish name) m
    by (change.Props id name update) m = refl
    by (change.Ended id name) m = refl

pub keep-turn : (turn : Option ℕ) → KeepIds (turn_ops turn)
keep-turn None = tt
keep-turn (Some id) = (λ m. refl, tt)

pub keep-publish : (place : ℕ) (found : Option Topic) (uid : ℤ) (begins : Bool) (wish : List ℕ → Wanted)
    → KeepIds (publish_ops place found uid begins wish)
keep-publish place None uid begins wish = tt
keep-publish place (Some t) uid true wish =
    (λ m. refl, (rewanted-id (is_cached t.props) (option_map (placed 0) t.value) No (wish t.name), tt))
keep-publish place (Some t) uid false wish = (λ m. refl, tt)

pub keep-setting : (place : ℕ) (found : Option Topic) (update : Data)
    → KeepIds (setting_ops place found update)
keep-setting place None update = tt
keep-setting place (Some t) update = (λ m. refl, tt)

pub keep-rewanted : (taken : List Taken) (old wish : List ℕ → Wanted) (ts : List Topic)
    → KeepIds (map (rewanted_op taken old wish) ts)
keep-rewanted taken old wish [] = tt
keep-rewanted taken old wish (t ∷ ts) = (
  rewanted-id (is_cached t.props) (option_map (placed (taken_at t.id taken)) t.value) (old t.name)
      (wish t.name),
  keep-rewanted taken old wish ts,
)

pub keep-meta : (old wish : List ℕ → Wanted) (ms : List MetaNow) → KeepIds (map (meta_op old wish) ms)
keep-meta old wish [] = tt
keep-meta old wish (m ∷ ms) = (meta-id (old m.name) (wish m.name), keep-meta old wish ms)

pub keep-differences : (place : ℕ) (wish : List ℕ → Wanted) (ds : List Difference)
    → KeepIds (map (difference_op place wish) ds)
keep-differences place wish [] = tt
keep-differences place wish (Began m ∷ ds) = (meta-id No (wish m.name), keep-differences place wish ds)
keep-differences place wish (Changed m ∷ ds) = (λ x. refl, keep-differences place wish ds)
keep-differences place wish (Ended id ∷ ds) = (λ x. refl, keep-differences place wish ds)

-- ---- what they do to what is found at an id

abbrev pub is_id : ℕ → Option ℕ → Bool
is_id k None = false
is_id k (Some id) = k == id

-- whether it is a change at this id
abbrev pub is_at : ℕ → Op → Bool
is_at k o = is_id k o.id

abbrev pub step_at : ℕ → Op → Option Mark → Option Mark
step_at k o found = cond (is_at k o) (keep_opt (o.f (or_fresh k o.name found))) found

abbrev pub run_at : ℕ → List Op → Option Mark → Option Mark
run_at k [] found = found
run_at k (o ∷ ops) found = run_at k ops (step_at k o found)

look-op : (k : ℕ) (o : Op) (marks : List Mark) → KeepsId o.f → IsRising marks → look k (at_op o marks)
    ≡ step_at k o (look k marks)
look-op k o marks keeps rising = by o.id
  where
    by : (id : Option ℕ) → look k (at_some id o.name o.f marks)
        ≡ cond (is_id k id) (keep_opt (o.f (or_fresh k o.name (look k marks)))) (look k marks)
    by None = refl
    by (Some id) = look-at k id o.name o.f keeps marks rising ∙ same (k == id) refl
      where
        same : (b : Bool) → (k == id) ≡ b
            → cond b (keep_opt (o.f (or_fresh id o.name (look id marks)))) (look k marks)
            ≡ cond b (keep_opt (o.f (or_fresh k o.name (look k marks)))) (look k marks)
        same true e =
            let here : id ≡ k = grind (arith, nat_tests) in
            ap (λ n. keep_opt (o.f (or_fresh n o.name (look n marks)))) here
        same false e = refl

pub rising-op : (o : Op) (marks : List Mark) → KeepsId o.f → IsRising marks → IsRising (at_op o marks)
rising-op o marks keeps rising = by o.id
  where
    by : (id : Option ℕ) → IsRising (at_some id o.name o.f marks)
    by None = rising
    by (Some id) = rising-at id o.name o.f keeps marks rising

pub rising-run : (ops : List Op) (marks : List Mark) → KeepIds ops → IsRising marks → IsRising (run ops marks)
rising-run [] marks keep rising = rising
rising-run (o ∷ ops) marks keep rising =
    rising-run ops (at_op o marks) keep.1 (rising-op o marks keep.0 rising)

-- what is found at an id after changes is what those at this id make of what was found before
pub look-run : (k : ℕ) (ops : List Op) (marks : List Mark) → KeepIds ops → IsRising marks
    → look k (run ops marks) ≡ run_at k ops (look k marks)
look-run k [] marks keep rising = refl
look-run k (o ∷ ops) marks keep rising =
    look-run k ops (at_op o marks) keep.1 (rising-op o marks keep.0 rising)
    ∙ ap (λ found. run_at k ops found) (look-op k o marks keep.0 rising)

pub run_at-append : (k : ℕ) (xs ys : List Op) (found : Option Mark) → run_at k (xs ++ ys) found
    ≡ run_at k ys (run_at k xs found)
run_at-append k [] ys found = refl
run_at-append k (x ∷ xs) ys found = run_at-append k xs ys (step_at k x found)

-- those at other ids drop out
pub run_at-filter : (k : ℕ) (ops : List Op) (found : Option Mark) → run_at k (filter (is_at k) ops) found
    ≡ run_at k ops found
run_at-filter k [] found = refl
run_at-filter k (o ∷ ops) found = by (λ x. run_at-filter k ops x) (is_at k o) refl
  where
    by : ((x : Option Mark) → run_at k (filter (is_at k) ops) x ≡ run_at k ops x) → (b : Bool) → is_at k o ≡ b
        → run_at k (cond b (o ∷ filter (is_at k) ops) (filter (is_at k) ops)) found
        ≡ run_at k ops (cond b (keep_opt (o.f (or_fresh k o.name found))) found)
    by more true e =
        ap (λ b. run_at k (filter (is_at k) ops) (cond b (keep_opt (o.f (or_fresh k o.name found))) found)) e
        ∙ more (keep_opt (o.f (or_fresh k o.name found)))
    by more false e = more found

-- no change is at this id
abbrev pub NoneAt : ℕ → List Op → Type 0
NoneAt k [] = Unit {0}
NoneAt k (o ∷ ops) = (is_at k o ≡ false) × NoneAt k ops

pub none-at : (k : ℕ) (ops : List Op) (found : Option Mark) → NoneAt k ops → run_at k ops found ≡ found
none-at k [] found h = refl
none-at k (o ∷ ops) found h =
    ap (λ b. run_at k ops (cond b (keep_opt (o.f (or_fresh k o.name found))) found)) h.0
    ∙ none-at k ops found h.1

-- changes lead from one list of marks to another where they do so at each id
pub marks-run : (ops : List Op) (xs ys : List Mark) → KeepIds ops → IsRising xs → IsRising ys
    → ((k : ℕ) → run_at k ops (look k xs) ≡ look k ys) → run ops xs ≡ ys
marks-run ops xs ys keep p q same =
    same-looks (run ops xs) ys (rising-run ops xs keep p) q (λ k. look-run k ops xs keep p ∙ same k)

-- ---- an outbox after the calls of one place

-- the first call of a place
moved-later : (place : ℕ) (f : List Mark → List Mark) (b : OutboxState) → ltb b.place place ≡ true
    → with_call place f b
    ≡ record b {
      place = place;
      fell = behind b;
      marks = cond (is_some (behind b)) []
          (f (unless_behind (behind b) b.marks));
    }
moved-later place f b later =
    ap (λ t. let m : OutboxState = cond t
    (record b { place = place; fell = behind b; marks = unless_behind (behind b) b.marks }) b in
    record m { marks = cond (is_some m.fell) [] (f m.marks) }) later

not-later : (place : ℕ) → ltb place place ≡ false
not-later place = grind (arith, nat_tests)

-- a further call of it
moved-here : (place : ℕ) (f : List Mark → List Mark) (failed : Bool) (fell : Option ℕ) (marks : List Mark)
    → with_call place f (record { failed = failed; place = place; fell = fell; marks = marks })
    ≡ record { failed = failed; place = place; fell = fell; marks = cond (is_some fell) [] (f marks) }
moved-here place f failed fell marks =
    ap (λ t. let b : OutboxState = record { failed = failed; place = place; fell = fell; marks = marks } in
    let m : OutboxState =
    cond t (record b { place = place; fell = behind b; marks = unless_behind (behind b) b.marks }) b in
    record m { marks = cond (is_some m.fell) [] (f m.marks) }) (not-later place)

calls-here : (place : ℕ) (ops : List Op) (failed : Bool) (marks : List Mark)
    → called_all place ops (record { failed = failed; place = place; fell = None; marks = marks })
    ≡ record { failed = failed; place = place; fell = None; marks = run ops marks }
calls-here place [] failed marks = refl
calls-here place (o ∷ ops) failed marks =
    ap (λ b. called_all place ops b) (moved-here place (at_op o) failed None marks)
    ∙ calls-here place ops failed (at_op o marks)

calls-behind : (place : ℕ) (ops : List Op) (failed : Bool) (w : ℕ)
    → called_all place ops (record { failed = failed; place = place; fell = Some w; marks = [] })
    ≡ record { failed = failed; place = place; fell = Some w; marks = [] }
calls-behind place [] failed w = refl
calls-behind place (o ∷ ops) failed w =
    ap (λ b. called_all place ops b) (moved-here place (at_op o) failed (Some w) [])
    ∙ calls-behind place ops failed w

-- one that isn't behind before the place does the changes
pub record Does (place : ℕ) (ops : List Op) (b after : OutboxState) : Type 0 where
  pub still_well : after.failed ≡ b.failed
  pub not_past : after.place ≤ place
  pub not_fell : after.fell ≡ None
  pub marks_are : after.marks ≡ run ops b.marks

pub calls-do : (place : ℕ) (ops : List Op) (b : OutboxState) → b.place < place → behind b ≡ None
    → Does place ops b (called_all place ops b)
calls-do place [] b less none =
    record { still_well = refl; not_past = omega arith; not_fell = unfallen b.fell none; marks_are = refl }
  where
    unfallen : (fell : Option ℕ) → fallen fell (weight b.marks) ≡ None → fell ≡ None
    unfallen None e = refl
    unfallen (Some w) e = e
calls-do place (o ∷ ops) b less none =
    let later : ltb b.place place ≡ true = grind (arith, nat_tests) in
    let first : with_call place (at_op o) b
    ≡ record { failed = b.failed; place = place; fell = None; marks = at_op o b.marks } =
    moved-later place (at_op o) b later
    ∙ ap (λ (w : Option ℕ). record b {
      place = place;
      fell = w;
      marks = cond (is_some w) []
          (at_op o (unless_behind w b.marks));
    }) none
    in
    let whole = ap (λ b. called_all place ops b) first ∙ calls-here place ops b.failed (at_op o b.marks) in
    subst (λ after. Does place (o ∷ ops) b after) (sym whole)
    (record { still_well = refl; not_past = omega arith; not_fell = refl; marks_are = refl })

-- one that is behind before the place stays so
pub record Stays (place : ℕ) (w : ℕ) (b after : OutboxState) : Type 0 where
  pub still_well : after.failed ≡ b.failed
  pub not_past : after.place ≤ place
  pub still_behind : behind after ≡ Some w

pub calls-stay : (place : ℕ) (ops : List Op) (b : OutboxState) (w : ℕ) → b.place < place → behind b ≡ Some w
    → Stays place w b (called_all place ops b)
calls-stay place [] b w less e = record { still_well = refl; not_past = omega arith; still_behind = e }
calls-stay place (o ∷ ops) b w less e =
    let later : ltb b.place place ≡ true = grind (arith, nat_tests) in
    let first : with_call place (at_op o) b
    ≡ record { failed = b.failed; place = place; fell = Some w; marks = [] } =
    moved-later place (at_op o) b later
    ∙ ap (λ (w : Option ℕ). record b {
      place = place;
      fell = w;
      marks = cond (is_some w) []
          (at_op o (unless_behind w b.marks));
    }) e
    in
    let whole = ap (λ b. called_all place ops b) first ∙ calls-behind place ops b.failed w in
    subst (λ after. Stays place w b after) (sym whole)
    (record { still_well = refl; not_past = omega arith; still_behind = refl })

-- ---- what an outbox owes after an entry

-- the weight with which it fell behind counts for nothing else
lives-weight-fell : (a : Account) (fell : Option ℕ) (conn : ℕ) (wish : Life → Wanted) (since : Life → ℕ)
    (lives : List Life)
    → lives_weight (record a { fell = fell }) conn wish since lives ≡ lives_weight a conn wish since lives
lives-weight-fell a fell conn wish since [] = refl
lives-weight-fell a fell conn wish since (l ∷ lives) =
    ap (λ n. life_weight a conn (wish l) (since l) l + n) (lives-weight-fell a fell conn wish since lives)

-- the weight of what is left of a history for an open connection that isn't behind
abbrev pub weight_left : Start → List Entry → ℕ → ℕ
weight_left start past conn =
    lives_weight (account start past conn) conn (wish_on (wish_for start past conn))
    (since_for start past conn) (all_lives start past)

-- the changes of an entry's calls make of the marks before it those after it, where it wasn't behind: so an outbox that
-- was told of them holds what is owed after it
pub owes-where : (start : Start) (past : List Entry) (e : Entry) (conn : ℕ) (ops : List Op) (b : OutboxState)
    → Owes start past conn b
    → is_there (now_of start (e ∷ past)).connections conn ≡ true
    → ((account start past conn).fell ≡ None → run ops (marks_owed start past conn) ≡ marks_owed start (e ∷ past) conn)
    → weight (marks_owed start (e ∷ past) conn) ≡ weight_left start (e ∷ past) conn
    → Owes start (e ∷ past) conn (called_all (length past + 1) ops b)
owes-where start past e conn ops b owes there marks weighs = by (behind b) refl
  where
    place : ℕ
    place = length past + 1

    before : Account
    before = account start past conn

    next : Account
    next = accounted before (owed_by before start past conn) (now_of start past) e conn

    after : OutboxState
    after = called_all place ops b

    less : b.place < place
    less = let le = owes.not_later in omega arith

    -- where it isn't behind, the account weighs all that is left
    all-weighed : before.fell ≡ None → fallen None (weight_left start (e ∷ past) conn)
        ≡ (account start (e ∷ past) conn).fell
    all-weighed none =
        ap (λ n. fallen None n)
        (lives-weight-fell next (account start (e ∷ past) conn).fell conn
        (wish_on (wish_for start (e ∷ past) conn)) (since_for start (e ∷ past) conn)
        (all_lives start (e ∷ past)))
        ∙ sym (open_weight (is_there (now_of start (e ∷ past)).connections conn) there before.fell none)
      where
        open_weight : (t : Bool) → t ≡ true → (fell : Option ℕ) → fell ≡ None
            → fallen fell
            (cond (t && is_none fell)
            (lives_weight next conn (wish_on (wish_for start (e ∷ past) conn))
            (since_for start (e ∷ past) conn) (all_lives start (e ∷ past))) 0)
            ≡ fallen None
            (lives_weight next conn (wish_on (wish_for start (e ∷ past) conn))
            (since_for start (e ∷ past) conn) (all_lives start (e ∷ past)))
        open_weight t h None none =
            ap (λ t. fallen None
            (cond (t && true)
            (lives_weight next conn (wish_on (wish_for start (e ∷ past) conn))
            (since_for start (e ∷ past) conn) (all_lives start (e ∷ past))) 0)) h
        open_weight t h (Some w) none = absurd (none-some w (sym none))

    by : (w : Option ℕ) → behind b ≡ w → Owes start (e ∷ past) conn after
    by None none =
        let d : Does place ops b after = calls-do place ops b less none in
        let held : b.marks ≡ marks_owed start past conn =
        sym (ap (λ w. unless_behind w b.marks) none) ∙ owes.marks_are
        ∙ ap (λ w. unless_behind w (marks_owed start past conn)) none
        in
        let now : after.marks ≡ marks_owed start (e ∷ past) conn =
        d.marks_are ∙ ap (λ ms. run ops ms) held ∙ marks (sym owes.behind_is ∙ none) in
        record {
          is_well = d.still_well ∙ owes.is_well;
          not_later = let le = d.not_past in omega arith;
          behind_is =
              ap (λ fell. fallen fell (weight after.marks)) d.not_fell
              ∙ ap (λ ms. fallen None (weight ms)) now ∙ ap (λ n. fallen None n) weighs
              ∙ all-weighed (sym owes.behind_is ∙ none);
          marks_are = ap (λ ms. unless_behind (behind after) ms) now;
        }
    by (Some w) some =
        let s : Stays place w b after = calls-stay place ops b w less some in
        record {
          is_well = s.still_well ∙ owes.is_well;
          not_later = let le = s.not_past in omega arith;
          behind_is =
              s.still_behind
              ∙ sym (ap (λ fell. fallen fell (weight_by next start (e ∷ past) conn))
              (sym owes.behind_is ∙ some));
          marks_are =
              ap (λ w. unless_behind w after.marks) s.still_behind
              ∙ sym (ap (λ w. unless_behind w (marks_owed start (e ∷ past) conn)) s.still_behind);
        }

pub owes-called : (start : Start) (past : List Entry) (e : Entry) (conn : ℕ) (ops : List Op) (b : OutboxState)
    → Owes start past conn b
    → is_there (now_of start (e ∷ past)).connections conn ≡ true
    → run ops (marks_owed start past conn) ≡ marks_owed start (e ∷ past) conn
    → weight (marks_owed start (e ∷ past) conn) ≡ weight_left start (e ∷ past) conn
    → Owes start (e ∷ past) conn (called_all (length past + 1) ops b)
owes-called start past e conn ops b owes there marks weighs =
    owes-where start past e conn ops b owes there (λ well. marks) weighs
