-- What happens to what is kept of a topic, as cases; and where a topic stands among those that are kept.
use Rattle.std.specs.Prelude.{ℕ, suc, Bool, false, List, [], ◌∷◌, length, Option, Some, None, Result, Ok, Err, ◌≡◌, ◌≤◌, ◌+◌, ◌^◌, ◌==◌, nat_lt, if◌then◌else◌}
use Rattle.std.specs.List.{AllByRecursion}
use Rattle.nt_subs.specs.declared.wish.Wanted.{Wanted}
use Rattle.nt_subs.specs.declared.wish.Wanted.TheVariants.{Newest}
use Rattle.nt_rules.specs.outbox.Marks.{Mark}
use Rattle.nt_rules.specs.outbox.Keys.{Key}
use Rattle.nt_rules.specs.outbox.Messages.{mark_at}
use Rattle.nt_outbox.specs.declared.step.Step.{Step}
use Rattle.nt_outbox.specs.declared.step.Step.TheVariants as step
use Rattle.nt_rules.specs.outbox.Marks.{started, queued, noted_setting, ended, still_queued, replied_publish, replied_setting, newest_of, from_place, is_blank, weight, at_id, option_items, topic_keys}

-- one more than the last place, and 0 where there is none
abbrev pub next_of : Option ℕ → ℕ
next_of None = 0
next_of (Some place) = place + 1

abbrev pub after : Step → Mark → Mark
after (step.Wish wish) m = started wish m
after (step.Value p wish) m = record m { wish = wish; values = queued (λ p. p.place) p m.values }
after (step.NewestAt place) m = record m { wish = Newest; newest = Some place }
after (step.Told s wish) m = noted_setting s wish m
after (step.Ended place) m = ended place m
after (step.Published p) m = replied_publish p m
after (step.OwnSetting s) m = replied_setting s m
after (step.Rewant wish held place) m =
    record m { wish = wish; values = from_place m.next held; newest = newest_of wish m.next place }
after (step.Keep wish) m = record m { wish = wish; newest = None }
after (step.MetaRewant wish) m = record m { wish = wish; newest = newest_of wish m.next (Some 0) }
after (step.MetaChanged wish) m = record m { wish = wish; next = 0; newest = newest_of wish 0 (Some 0) }
after step.Nothing m = m

-- another wish on a topic that isn't cached
abbrev pub rewanted_passing : Wanted → Wanted → Mark → Mark
rewanted_passing old wish m = record m { wish = wish; values = still_queued old wish m.values; newest = None }

-- what is left of a topic, and what is left of it after a step
abbrev pub left_of : Mark → Option Mark
left_of m = if is_blank m then None else Some m

abbrev pub left_after : Step → Mark → Option Mark
left_after s m = left_of (after s m)

-- the marks with that of this id changed, where there is an id
abbrev pub at_known : Option ℕ → List ℕ → (Mark → Mark) → List Mark → List Mark
at_known None name f marks = marks
at_known (Some id) name f marks = at_id id name f marks

-- ---- where a topic stands

abbrev pub next_index : Result ℕ ℕ → Result ℕ ℕ
next_index (Ok i) = Ok (suc i)
next_index (Err i) = Err (suc i)

-- the index of the topic of this id, or else the one where it would stand
abbrev pub position_of : ℕ → List Mark → Result ℕ ℕ
position_of id [] = Err 0
position_of id (m ∷ marks) =
    if m.id == id then Ok 0
    else if nat_lt id m.id then Err 0
    else next_index (position_of id marks)

-- the ids rise, from this number on, and are numbers of 32 bits
abbrev pub RiseFrom : ℕ → List Mark → Type 0
RiseFrom n [] = n ≤ 2 ^ 32
RiseFrom n (m ∷ marks) = (n ≤ m.id) × RiseFrom (m.id + 1) marks

-- how many messages are owed of a topic, and of all
abbrev pub mark_count : Mark → ℕ
mark_count m =
    length (option_items m.over) + (length m.publishes + length m.settings) + length (topic_keys m)
    + (length m.values + length (option_items m.newest))

abbrev pub count : List Mark → ℕ
count [] = 0
count (m ∷ marks) = mark_count m + count marks

-- the topics of which some message is owed, by their ids
abbrev pub owes : Mark → Bool
owes m = nat_lt 0 (mark_count m)

abbrev pub owing_ids : List Mark → List ℕ
owing_ids [] = []
owing_ids (m ∷ marks) = if owes m then m.id ∷ owing_ids marks else owing_ids marks

-- how many messages are owed of the topic of an id
abbrev pub count_in : Option Mark → ℕ
count_in None = 0
count_in (Some m) = mark_count m

abbrev pub count_at : ℕ → List Mark → ℕ
count_at id marks = count_in (mark_at id marks)

-- ---- what an outbox keeps

-- the ids rise, and all that is told of the topics as a whole is so
pub record IsSound (marks : List Mark) (owing : List ℕ) (queued owed : ℕ) : Type 0 where
  pub rising : RiseFrom 0 marks
  pub named : owing ≡ owing_ids marks
  pub weighed : queued ≡ weight marks
  pub counted : owed ≡ count marks

-- of each topic something has to be kept
abbrev pub HasNoBlank : List Mark → Type 0
HasNoBlank marks = AllByRecursion (λ m. is_blank m ≡ false) marks

-- the keys are of the topic of this id
abbrev pub AreOf : ℕ → List Key → Type 0
AreOf id keys = AllByRecursion (λ k. k.topic ≡ id) keys

-- how many of the first keys are
abbrev pub run_of : ℕ → List Key → ℕ
run_of id [] = 0
run_of id (k ∷ keys) = if k.topic == id then suc (run_of id keys) else 0
