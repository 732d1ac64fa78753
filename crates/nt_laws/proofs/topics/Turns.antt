-- What a change of properties leaves of a life, and how it turns one.
use Rattle.std.proofs.Common.{◌≡◌, ℕ, Bool, true, false, cond, not, [], ◌∷◌, ◌++◌, None, refl, ◌∙◌}
use Rattle.std.proofs.Common.{ap, ◌⊎◌, inl, inr}
use Rattle.std.specs.Prelude.{option_map}
use Rattle.serde_json.specs.Data.{Data}
use Rattle.nt_topics.specs.Properties.{updated, is_cached}
use Rattle.nt_rules.specs.topics.Puts.{greatest, taken, timed}
use Rattle.nt_rules.specs.topics.Topics.{is_turned, with_update}
use Rattle.nt_rules.specs.history.Lives.{Life, topic_of, held_of, taken_since_turn, taken_of, is_living, turned_at}
use Rattle.nt_rules.specs.history.Lives.{with_setting}

-- ---- whether properties turn

-- where they don't turn, it stays cached or not
pub unturned : (before after : Data) → is_turned before after ≡ false → is_cached after ≡ is_cached before
unturned before after e = by (is_cached before) (is_cached after) e
  where
    by : (b a : Bool) → cond b (not a) a ≡ false → a ≡ b
    by true true e = refl
    by true false e = absurd (cc)
    by false true e = absurd (cc)
    by false false e = refl

-- where they do, it becomes the other
pub turned-other : (before after : Data) → is_turned before after ≡ true → is_cached after ≡ not (is_cached before)
turned-other before after e = by (is_cached before) (is_cached after) e
  where
    by : (b a : Bool) → cond b (not a) a ≡ true → a ≡ not b
    by true true e = absurd (cc)
    by true false e = refl
    by false true e = refl
    by false false e = absurd (cc)

-- ---- what a life holds, by whether it is cached

pub held-cached : (l : Life) → is_cached l.props ≡ true → held_of l ≡ greatest l.puts
held-cached l e = ap (λ b. cond b (greatest l.puts) None) e

pub held-uncached : (l : Life) → is_cached l.props ≡ false → held_of l ≡ None
held-uncached l e = ap (λ b. cond b (greatest l.puts) None) e

pub since-cached : (l : Life) → is_cached l.props ≡ true → taken_since_turn l ≡ taken l.puts
since-cached l e = ap (λ b. cond b (taken l.puts) l.puts) e

pub since-uncached : (l : Life) → is_cached l.props ≡ false → taken_since_turn l ≡ l.puts
since-uncached l e = ap (λ b. cond b (taken l.puts) l.puts) e

-- a life without puts since its turn holds nothing, and none of it is taken
pub held-none : (l : Life) → l.puts ≡ [] → held_of l ≡ None
held-none l e = ap (λ ps. cond (is_cached l.props) (greatest ps) None) e ∙ by (is_cached l.props)
  where
    by : (b : Bool) → cond b (greatest []) None ≡ None
    by true = refl
    by false = refl

pub since-none : (l : Life) → l.puts ≡ [] → taken_since_turn l ≡ []
since-none l e = ap (λ ps. cond (is_cached l.props) (taken ps) ps) e ∙ by (is_cached l.props)
  where
    by : (b : Bool) → cond b (taken []) [] ≡ []
    by true = refl
    by false = refl

-- ---- what a change of properties leaves

module _ (place conn : ℕ) (u : Data) (l : Life) where
  -- a life with the change, but for its turn
  abbrev pub with_change : Life → Life
  with_change m =
      record m {
        props = updated l.props u;
        settings = l.settings ++ record { place = place; conn = conn; update = u } ∷ [];
      }

  -- what holds whether it turns or not
  pub setting-by : (P : Life → Type 0) → P (with_change (turned_at place l)) → P (with_change l)
      → P (with_setting place conn u l)
  setting-by P turns stays = by (is_turned l.props (updated l.props u))
    where
      by : (b : Bool) → P (with_change (cond b (turned_at place l) l))
      by true = turns
      by false = stays

  pub setting-id : (with_setting place conn u l).id ≡ l.id
  setting-id = setting-by (λ m. m.id ≡ l.id) refl refl

  pub setting-name : (with_setting place conn u l).name ≡ l.name
  setting-name = setting-by (λ m. m.name ≡ l.name) refl refl

  pub setting-typ : (with_setting place conn u l).typ ≡ l.typ
  setting-typ = setting-by (λ m. m.typ ≡ l.typ) refl refl

  pub setting-pubs : (with_setting place conn u l).pubs ≡ l.pubs
  setting-pubs = setting-by (λ m. m.pubs ≡ l.pubs) refl refl

  pub setting-over : (with_setting place conn u l).over ≡ l.over
  setting-over = setting-by (λ m. m.over ≡ l.over) refl refl

  pub setting-living : is_living (with_setting place conn u l) ≡ is_living l
  setting-living = setting-by (λ m. is_living m ≡ is_living l) refl refl

  pub setting-publishings : (with_setting place conn u l).publishings ≡ l.publishings
  setting-publishings = setting-by (λ m. m.publishings ≡ l.publishings) refl refl

  -- it turns, or it doesn't
  pub setting-turns : is_turned l.props (updated l.props u) ≡ true
      → with_setting place conn u l ≡ with_change (turned_at place l)
  setting-turns e = ap (λ b. with_change (cond b (turned_at place l) l)) e

  pub setting-stays : is_turned l.props (updated l.props u) ≡ false → with_setting place conn u l ≡ with_change l
  setting-stays e = ap (λ b. with_change (cond b (turned_at place l) l)) e

  -- what was taken since the turn: nothing where it turns, and else the same
  pub setting-since : taken_since_turn (with_setting place conn u l)
      ≡ cond (is_turned l.props (updated l.props u)) [] (taken_since_turn l)
  setting-since = by (is_turned l.props (updated l.props u)) refl
    where
      by : (b : Bool) → is_turned l.props (updated l.props u) ≡ b
          → taken_since_turn (with_change (cond b (turned_at place l) l)) ≡ cond b [] (taken_since_turn l)
      by true e = since-none (with_change (turned_at place l)) refl
      by false e = ap (λ b. cond b (taken l.puts) l.puts) (unturned l.props (updated l.props u) e)

  -- of all that was taken nothing is lost
  pub setting-taken : taken_of (with_setting place conn u l) ≡ taken_of l
  setting-taken = by (is_turned l.props (updated l.props u)) refl
    where
      by : (b : Bool) → is_turned l.props (updated l.props u) ≡ b
          → taken_of (with_change (cond b (turned_at place l) l)) ≡ taken_of l
      by true e = ap (λ ps. ps ++ taken_of l) (since-none (with_change (turned_at place l)) refl)
      by false e =
          ap (λ b. cond b (taken l.puts) l.puts ++ l.taken_before) (unturned l.props (updated l.props u) e)

  -- what is held
  pub setting-held : held_of (with_setting place conn u l)
      ≡ cond (is_turned l.props (updated l.props u)) None (held_of l)
  setting-held = by (is_turned l.props (updated l.props u)) refl
    where
      by : (b : Bool) → is_turned l.props (updated l.props u) ≡ b
          → held_of (with_change (cond b (turned_at place l) l)) ≡ cond b None (held_of l)
      by true e = held-none (with_change (turned_at place l)) refl
      by false e = ap (λ b. cond b (greatest l.puts) None) (unturned l.props (updated l.props u) e)

  pub setting-keeps : held_of (with_setting place conn u l) ≡ held_of l ⊎ held_of (with_setting place conn u l) ≡ None
  setting-keeps = by (is_turned l.props (updated l.props u)) setting-held
    where
      by : (b : Bool) → held_of (with_setting place conn u l) ≡ cond b None (held_of l)
          → held_of (with_setting place conn u l) ≡ held_of l ⊎ held_of (with_setting place conn u l) ≡ None
      by true e = inr e
      by false e = inl e

  -- and so its topic is updated
  pub setting-topic : topic_of (with_setting place conn u l) ≡ with_update u (topic_of l)
  setting-topic = by (is_turned l.props (updated l.props u)) refl
    where
      by : (b : Bool) → is_turned l.props (updated l.props u) ≡ b
          → topic_of (with_change (cond b (turned_at place l) l))
          ≡ record (topic_of l) {
            props = updated l.props u;
            value = cond b None (option_map timed (held_of l));
          }
      by true e =
          ap (λ h. record (topic_of l) { props = updated l.props u; value = option_map timed h })
          (held-none (with_change (turned_at place l)) refl)
      by false e =
          ap (λ b. record (topic_of l) {
            props = updated l.props u;
            value = option_map timed (cond b (greatest l.puts) None);
          })
          (unturned l.props (updated l.props u) e)
