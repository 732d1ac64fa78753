-- What an outbox keeps of a history: of each life a mark that is a function of the definitions.
use Rattle.std.specs.Prelude.{ℕ, List, Option, Some, None, option_map, is_some, map, filter, not, ◌==◌, nat_lt, if◌then◌else◌}
use Rattle.nt_subs.specs.declared.wish.Wanted.{Wanted}
use Rattle.nt_rules.specs.topics.Puts.{Put}
use Rattle.nt_rules.specs.outbox.Marks.{Mark}
use Rattle.nt_rules.specs.declared.waiting.Publish.{Publish}
use Rattle.nt_rules.specs.declared.waiting.Setting as marked
use Rattle.nt_rules.specs.declared.waiting.Placed.{Placed}
use Rattle.nt_rules.specs.outbox.Keys.{next_value}
use Rattle.nt_rules.specs.outbox.Marks.{fresh, is_blank, is_meta}
use Rattle.nt_rules.specs.declared.act.Entry.{Entry}
use Rattle.nt_rules.specs.declared.taken.Taken.{Taken}
use Rattle.nt_rules.specs.history.Lives.{Life, Publishing, Setting, is_living, taken_since_turn, held_of}
use Rattle.nt_rules.specs.declared.start.Start.{Start}
use Rattle.nt_rules.specs.history.Metas.{all_lives}
use Rattle.nt_rules.specs.history.Owed.{Account, account, is_announced, owed_end, owed_publishes, owed_settings, owed_values, owed_newest, newest_from, wish_for, wish_on, since_for}

-- where the held value of a life that goes on was taken, but for a restored one
abbrev pub held_place : Life → Option Taken
held_place l = if is_living l then by_put (held_of l) else None
  where
    by_put : Option Put → Option Taken
    by_put None = None
    by_put (Some p) = if nat_lt 0 p.place then Some (record { topic = l.id; place = p.place }) else None

abbrev pub waiting_publish : Publishing → Publish
waiting_publish p = record { place = p.place; uid = p.uid }

abbrev pub waiting_setting : ℕ → Setting → marked.Setting
waiting_setting conn s = record { place = s.place; is_own = s.conn == conn; update = s.update }

abbrev pub waiting_put : Put → Placed
waiting_put p = record { place = p.place; time = p.time; value = p.value }

-- of a topic that goes on, for an account, a wish and the place from which that counts
abbrev pub topic_mark : Account → ℕ → Wanted → ℕ → Life → Mark
topic_mark a conn wish since l =
    record {
      id = l.id;
      name = l.name;
      is_announced = is_announced a l.id;
      over = None;
      publishes = map waiting_publish (owed_publishes a conn l);
      settings = map (waiting_setting conn) (owed_settings a l);
      next = next_value a.given l.id;
      wish = wish;
      values = map waiting_put (owed_values a wish since l);
      newest = owed_newest a wish l;
    }

-- of a meta topic that goes on: its value stands at the place 0, which was reached where its bytes were handed and
-- didn't change since
abbrev pub meta_mark : Account → Wanted → Life → Mark
meta_mark a wish l =
    record (fresh l.id l.name) {
      is_announced = is_announced a l.id;
      next = if is_some (newest_from (next_value a.given l.id) (taken_since_turn l)) then 0 else 1;
      wish = wish;
      newest = option_map (λ place. 0) (owed_newest a wish l);
    }

-- of a life that is over its end, where that is owed
abbrev pub end_mark : Account → Life → Mark
end_mark a l = record (fresh l.id l.name) { over = owed_end a l }

abbrev pub mark_of : Account → ℕ → (Life → Wanted) → (Life → ℕ) → Life → Mark
mark_of a conn wish since l =
    if not (is_living l) then end_mark a l
    else if is_meta l.id then meta_mark a (wish l) l
    else topic_mark a conn (wish l) (since l) l

-- what is kept for an account
abbrev pub marks_by : Account → ℕ → (Life → Wanted) → (Life → ℕ) → List Life → List Mark
marks_by a conn wish since lives = filter (λ m. not (is_blank m)) (map (mark_of a conn wish since) lives)

-- what is kept of a history for a connection, by rising id
abbrev pub marks_owed : Start → List Entry → ℕ → List Mark
marks_owed start past conn =
    marks_by (account start past conn) conn (wish_on (wish_for start past conn)) (since_for start past conn)
    (all_lives start past)
