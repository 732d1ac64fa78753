-- What a subscriber should hold after a history: its matching topics, as they are now.
use Rattle.std.specs.Prelude.{◌≡◌, ℕ, ℤ, pos, Bool, true, List, [], ◌∷◌, ◌++◌, Option, Some, None, option_map, map, filter, not, ◌&&◌, ◌==◌, if◌then◌else◌}
use Rattle.serde_json.specs.Data.{Data}
use Rattle.nt_values.specs.declared.value.Value.{Value}
use Rattle.nt_subs.specs.declared.wish.Wanted.{Wanted}
use Rattle.nt_rules.specs.declared.act.Deed.{Deed}
use Rattle.nt_rules.specs.declared.act.Deed.TheVariants.{Drained}
use Rattle.nt_rules.specs.declared.act.Entry.{Entry}
use Rattle.nt_rules.specs.declared.held.Held.{Held}
use Rattle.nt_rules.specs.declared.start.Start.{Start}
use Rattle.nt_rules.specs.declared.topic.Timed.{Timed}
use Rattle.nt_rules.specs.topics.Puts.{timed}
use Rattle.nt_rules.specs.outbox.Marks.{is_meta, is_valued, is_wish}
use Rattle.nt_rules.specs.history.Lives.{Life, held_of, is_living}
use Rattle.nt_rules.specs.history.Metas.{all_lives}
use Rattle.nt_rules.specs.history.Now.{Now, is_open_for, now_of}
use Rattle.nt_rules.specs.history.Owed.{messages, owed, wish_for}
use Rattle.nt_rules.specs.telling.Told.{Message, messages_in, told}

-- ---- what is due

-- what a subscriber should hold of a topic's value: anything, where it wants the topic alone; the held value with its
-- time; of a meta topic its bytes, at whatever time
pub data DueValue : Type 0 where
  Anything : DueValue
  Exactly : Option Timed → DueValue
  AtAnyTime : Option Value → DueValue

pub record Due : Type 0 where
  pub id : ℤ
  pub name : List ℕ
  pub typ : List ℕ
  pub props : Data
  pub value : DueValue

abbrev pub due_value : Wanted → Life → DueValue
due_value wish l =
    if not (is_valued wish) then Anything
    else if is_meta l.id then AtAnyTime (option_map (λ p. p.value) (held_of l))
    else Exactly (option_map timed (held_of l))

abbrev pub due_of : Wanted → Life → Due
due_of wish l = record { id = pos l.id; name = l.name; typ = l.typ; props = l.props; value = due_value wish l }

-- of each living topic and meta topic that the connection wants
abbrev pub due : Start → List Entry → ℕ → List Due
due start past conn =
    map (λ l. due_of (wish_for start past conn l.name) l)
    (filter (λ l. is_living l && is_wish (wish_for start past conn l.name)) (all_lives start past))

-- ---- whether held topics are what is due

abbrev pub IsDueValue : DueValue → Option Timed → Type 0
IsDueValue Anything held = Unit {0}
IsDueValue (Exactly v) held = held ≡ v
IsDueValue (AtAnyTime v) held = option_map (λ (h : Timed). h.value) held ≡ v

pub record IsDue (d : Due) (h : Held) : Type 0 where
  pub id_is : h.id ≡ d.id
  pub name_is : h.name ≡ d.name
  pub typ_is : h.typ ≡ d.typ
  pub props_is : h.props ≡ d.props
  pub value_is : IsDueValue d.value h.value

-- one by one, and no other
abbrev pub AreDue : List Due → List Held → Type 0
AreDue [] [] = Unit {0}
AreDue (d ∷ ds) (h ∷ held) = IsDue d h × AreDue ds held
AreDue ds held = ⊥

-- those of the held topics whose names the connection wants are exactly what is due
abbrev pub Agrees : Start → List Entry → ℕ → List Held → Type 0
Agrees start past conn held =
    AreDue (due start past conn) (filter (λ (h : Held). is_wish (wish_for start past conn h.name)) held)

-- ---- what it was handed

-- by a deed, which is one of the connection or of another
abbrev pub handed_by : Bool → Deed → List Message
handed_by true (Drained batch) = messages_in batch
handed_by own deed = []

-- the messages that the connection was handed, the oldest first
abbrev pub handed : Start → List Entry → ℕ → List Message
handed start [] conn = []
handed start (e ∷ past) conn =
    handed start past conn
    ++ handed_by ((e.conn == conn) && is_open_for (now_of start past).connections e.worker conn) e.deed

-- these, and then all that it is owed
abbrev pub handed_and_owed : Start → List Entry → ℕ → List Message
handed_and_owed start past conn =
    handed start past conn
    ++ messages_in (messages (all_lives start past) (now_of start past).moment conn (owed start past conn))

-- what it holds behind all that it is owed
abbrev pub held_by : Start → List Entry → ℕ → List Held
held_by start past conn = told (handed_and_owed start past conn)
