-- Puts, and which of them is held: the greatest by time, and of equal times the later.
use Rattle.std.specs.Prelude.{◌≡◌, ℕ, ℤ, List, [], ◌∷◌, Option, Some, None, option_map, map, filter, nat_lt, nat_le, if◌then◌else◌, ◌⊎◌}
use Rattle.std.specs.List.{list_all}
use Rattle.nt_values.specs.declared.value.Value.{Value}
use Rattle.nt_rules.specs.declared.topic.Timed.{Timed}
use Rattle.nt_rules.specs.declared.topic.Topic.{Topic}
use Rattle.nt_rules.specs.topics.Topics.{is_fit, put_cause_to, with_value, if_counts}

-- a put: its place in the order of arrival, its time and its value
pub record Put : Type 0 where
  pub place : ℕ
  pub time : ℕ
  pub value : Value

-- of two puts the one with the greater time; the later one, p, wins a tie
abbrev pub greater : Put → Option Put → Put
greater p None = p
greater p (Some q) = if nat_lt p.time q.time then q else p

-- of puts that stand newest first, the greatest by time, and then by place
abbrev pub greatest : List Put → Option Put
greatest [] = None
greatest (p ∷ ps) = Some (greater p (greatest ps))

-- of puts that stand newest first, those whose time isn't below that of any earlier one
abbrev pub taken : List Put → List Put
taken [] = []
taken (p ∷ ps) = if list_all (λ q. nat_le q.time p.time) ps then p ∷ taken ps else taken ps

-- the newest of puts that stand newest first
abbrev pub newest : List Put → Option Put
newest [] = None
newest (p ∷ ps) = Some p

-- a put as a topic holds it
abbrev pub timed : Put → Timed
timed p = record { time = p.time; value = p.value }

-- what is held after these puts
abbrev pub held : List Put → Option Timed
held ps = option_map timed (greatest ps)

-- ---- two lists of puts, in whatever order they arrived

-- one of these puts has this time and value. The place of a put is no part of it
abbrev pub IsIn : Timed → List Put → Type 0
IsIn v [] = ⊥
IsIn v (p ∷ ps) = (v ≡ timed p) ⊎ IsIn v ps

-- those with the same time have the same value
abbrev pub HasDifferentTimes : List Put → Type 0
HasDifferentTimes ps = (u v : Timed) → IsIn u ps → IsIn v ps → u.time ≡ v.time → u ≡ v

-- the same times with the same values
abbrev pub HasSameMembers : List Put → List Put → Type 0
HasSameMembers ps qs = (v : Timed) → (IsIn v ps → IsIn v qs) × (IsIn v qs → IsIn v ps)

-- ---- puts to one topic

-- a put that a publisher sent to its topic
pub record Sent : Type 0 where
  pub conn : ℕ
  pub uid : ℤ
  pub put : Put

-- what a put makes of its publisher's topic
abbrev pub put_to : Sent → Topic → Topic
put_to s t =
    if_counts (put_cause_to s.conn s.uid s.put.time s.put.value t) (with_value s.put.time s.put.value t) t

-- the topic after puts that stand newest first
abbrev pub after_puts : List Sent → Topic → Topic
after_puts [] t = t
after_puts (s ∷ sent) t = put_to s (after_puts sent t)

-- those of them that fit the topic
abbrev pub fitting : List Sent → Topic → List Put
fitting sent t = map (λ s. s.put) (filter (λ s. is_fit s.conn s.uid s.put.value t) sent)
