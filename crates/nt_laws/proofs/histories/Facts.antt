-- Facts of every history: the place, how lives and connections are numbered, how many lives there are, and
-- where they begin, change and end.
use Rattle.std.proofs.Common.{◌≡◌, ◌≤◌, ◌<◌, ◌+◌, ◌&&◌, ℕ, suc, Bool, true, false, cond, leb, List, [], ◌∷◌, ◌++◌}
use Rattle.std.proofs.Common.{Option, Some, None, map, length, length-append, refl, ◌∙◌, ap, subst, arith}
use Rattle.std.specs.List.{find, list_all}
use Rattle.std.proofs.lemmas.List.{length-map}
use Rattle.serde_json.specs.Data.{Data}
use Rattle.nt_topics.specs.Properties.{is_cached}
use Rattle.nt_values.specs.declared.value.Value.{Value}
use Rattle.nt_subs.specs.Subscriptions.{Subs}
use Rattle.nt_rules.specs.Limits.{last_id}
use Rattle.nt_rules.specs.declared.topic.Pub.{Pub}
use Rattle.nt_rules.specs.declared.topic.Saved.{Saved}
use Rattle.nt_rules.specs.topics.Puts.{Put, taken}
use Rattle.nt_rules.specs.topics.Topics.{lives_on, has_conn}
use Rattle.nt_rules.specs.declared.act.Entry.{Entry}
use Rattle.nt_rules.specs.history.Lives.{Life, Publishing, Setting, topic_of, is_living, at_first, or_ended}
use Rattle.nt_rules.specs.history.Lives.{with_publishing, born, without_publisher, without_conn, with_setting}
use Rattle.nt_rules.specs.history.Lives.{with_a_put, closed_for, restored, restored_put, turned_at, taken_since_turn}
use Rattle.nt_rules.specs.history.Lives.{taken_of}
use Rattle.nt_rules.specs.history.Answer.{Legal}
use Rattle.nt_rules.specs.declared.start.Start.{Start}
use Rattle.nt_rules.specs.history.Now.{Connection, opened, is_conn, now_of}
use Rattle.nt_laws.proofs.histories.Histories.{lives-keep, connections-keep}
use Rattle.nt_laws.proofs.topics.Turns.{with_change, setting-by, setting-id}

-- ---- the place

-- there are as many places as entries
pub place-is : (start : Start) (past : List Entry) → (now_of start past).place ≡ length past
place-is start [] = refl
place-is start (e ∷ past) = let h = place-is start past in omega arith

-- ---- ids

abbrev pub IsNumberedLives : ℕ → List Life → Type 0
IsNumberedLives k [] = Unit {0}
IsNumberedLives k (l ∷ lives) = (l.id ≡ k) × IsNumberedLives (suc k) lives

pub id-or_ended : (place : ℕ) (l : Life) → (or_ended place l).id ≡ l.id
id-or_ended place l = by (lives_on (topic_of l))
  where
    by : (b : Bool) → (cond b l (record l { over = Some place })).id ≡ l.id
    by true = refl
    by false = refl

pub id-closed_for : (place conn : ℕ) (l : Life) → (closed_for place conn l).id ≡ l.id
id-closed_for place conn l = by (is_living l && has_conn conn (topic_of l))
  where
    by : (b : Bool) → (cond b (or_ended place (without_conn conn l)) (without_conn conn l)).id ≡ l.id
    by true = id-or_ended place (without_conn conn l)
    by false = refl

pub numbered-at : (test : Life → Bool) (f : Life → Life) → ((l : Life) → (f l).id ≡ l.id)
    → (k : ℕ) (lives : List Life)
    → IsNumberedLives k lives → IsNumberedLives k (at_first test f lives)
numbered-at test f same k [] h = tt
numbered-at test f same k (l ∷ lives) h = by (numbered-at test f same (suc k) lives h.1) (test l)
  where
    by : IsNumberedLives (suc k) (at_first test f lives) → (b : Bool)
        → IsNumberedLives k (cond b (f l ∷ lives) (l ∷ at_first test f lives))
    by more true = (same l ∙ h.0, h.1)
    by more false = (h.0, more)

numbered-map : (f : Life → Life) → ((l : Life) → (f l).id ≡ l.id) → (k : ℕ) (lives : List Life)
    → IsNumberedLives k lives → IsNumberedLives k (map f lives)
numbered-map f same k [] h = tt
numbered-map f same k (l ∷ lives) h = (same l ∙ h.0, numbered-map f same (suc k) lives h.1)

numbered-push : (k : ℕ) (lives : List Life) (l : Life) → l.id ≡ length lives + k → IsNumberedLives k lives
    → IsNumberedLives k (lives ++ l ∷ [])
numbered-push k [] l e h = (omega arith, tt)
numbered-push k (m ∷ lives) l e h = (h.0, numbered-push (suc k) lives l (omega arith) h.1)

numbered-restored : (id : ℕ) (saved : List Saved) → IsNumberedLives id (restored id saved)
numbered-restored id [] = tt
numbered-restored id (s ∷ saved) = (
  refl,
  subst (λ k. IsNumberedLives k (restored (id + 1) saved)) (omega arith)
      (numbered-restored (id + 1) saved),
)

-- lives are numbered 1, 2 and so on
pub lives-numbered : (start : Start) (past : List Entry) → IsNumberedLives 1 (now_of start past).lives
lives-numbered start =
    lives-keep (λ k lives. IsNumberedLives 1 lives)
    (record {
      later = λ k lives h. h;
      joined = λ k name p lives free h. numbered-at _ (with_publishing (k + 1) p) (λ l. refl) 1 lives h;
      began =
          λ k name typ props p lives free e few h. numbered-push 1 lives
          (born (k + 1) (length lives + 1) name typ props p) refl h;
      left =
          λ k conn uid lives h. numbered-at _ _
          (λ l. id-or_ended (k + 1) (without_publisher conn uid l)) 1 lives h;
      updated =
          λ k conn name u lives h. numbered-at _ _
          (λ l. id-or_ended (k + 1) (with_setting (k + 1) conn u l) ∙ setting-id (k + 1) conn u l) 1 lives h;
      put = λ k conn uid time value lives h. numbered-at _
          (with_a_put (record { place = k + 1; time = time; value = value })) (λ l. refl) 1 lives h;
      dropped =
          λ k conn lives h. numbered-map (closed_for (k + 1) conn) (id-closed_for (k + 1) conn) 1 lives h;
    })
    start (numbered-restored 1 start.saved)

-- ---- how many lives there are

pub length-at_first : {X : Type 0} (test : X → Bool) (f : X → X) (xs : List X) → length (at_first test f xs)
    ≡ length xs
length-at_first test f [] = refl
length-at_first test f (x ∷ xs) = by (length-at_first test f xs) (test x)
  where
    by : length (at_first test f xs) ≡ length xs → (b : Bool)
        → length (cond b (f x ∷ xs) (x ∷ at_first test f xs)) ≡ suc (length xs)
    by more true = refl
    by more false = ap suc more

pub length-restored : (id : ℕ) (saved : List Saved) → length (restored id saved) ≡ length saved
length-restored id [] = refl
length-restored id (s ∷ saved) = ap suc (length-restored (id + 1) saved)

few-at : (test : Life → Bool) (f : Life → Life) (lives : List Life) → length lives ≤ last_id
    → length (at_first test f lives) ≤ last_id
few-at test f lives h = let e = length-at_first test f lives in omega arith

-- there are never more lives than ids
pub lives-few : (start : Start) (past : List Entry) → length start.saved ≤ last_id
    → length (now_of start past).lives ≤ last_id
lives-few start past few =
    lives-keep (λ k lives. length lives ≤ last_id)
    (record {
      later = λ k lives h. h;
      joined = λ k name p lives free. few-at _ (with_publishing (k + 1) p) lives;
      began = λ k name typ props p lives free e room h. let e =
          length-append lives (born (k + 1) (length lives + 1) name typ props p ∷ []) in omega arith;
      left = λ k conn uid. few-at _ _;
      updated = λ k conn name u. few-at _ _;
      put = λ k conn uid time value. few-at _ _;
      dropped = λ k conn lives h. let e = length-map lives (closed_for (k + 1) conn) in omega arith;
    })
    start (let e = length-restored 1 start.saved in omega arith) past

-- ---- places

-- all are before this place
abbrev pub AllBefore : ℕ → List Put → Type 0
AllBefore n [] = Unit {0}
AllBefore n (p ∷ ps) = (p.place < n) × AllBefore n ps

-- the places fall
abbrev pub Falling : List Put → Type 0
Falling [] = Unit {0}
Falling (p ∷ ps) = AllBefore p.place ps × Falling ps

-- the places rise from this one on, and the last is at most n
abbrev pub IsRising : {X : Type 0} → (X → ℕ) → ℕ → ℕ → List X → Type 0
IsRising place from n [] = Unit {0}
IsRising place from n (x ∷ xs) = (from ≤ place x) × (place x ≤ n) × IsRising place (suc (place x)) n xs

-- an end stands at a place from 1 to n
abbrev pub IsOverBy : ℕ → Option ℕ → Type 0
IsOverBy n None = Unit {0}
IsOverBy n (Some place) = (1 ≤ place) × (place ≤ n)

pub before-more : (m n : ℕ) (ps : List Put) → m ≤ n → AllBefore m ps → AllBefore n ps
before-more m n [] h a = tt
before-more m n (p ∷ ps) h a = let less = a.0 in (omega arith, before-more m n ps h a.1)

pub rising-more : {X : Type 0} (place : X → ℕ) (from m n : ℕ) (xs : List X) → m ≤ n → IsRising place from m xs
    → IsRising place from n xs
rising-more place from m n [] h a = tt
rising-more place from m n (x ∷ xs) h a =
    let last = a.1 in (a.0, omega arith, rising-more place (suc (place x)) m n xs h a.2)

pub rising-push : {X : Type 0} (place : X → ℕ) (from n : ℕ) (xs : List X) (x : X) → from ≤ n + 1 → place x
    ≡ n + 1
    → IsRising place from n xs → IsRising place from (n + 1) (xs ++ x ∷ [])
rising-push place from n [] x h e a = (omega arith, omega arith, tt)
rising-push place from n (y ∷ ys) x h e a =
    let last = a.1 in
    (a.0, omega arith, rising-push place (suc (place y)) n ys x (omega arith) e a.2)

over-more : (m n : ℕ) (o : Option ℕ) → m ≤ n → IsOverBy m o → IsOverBy n o
over-more m n None h a = tt
over-more m n (Some place) h a = let last = a.1 in (a.0, omega arith)

-- all are after this place, from the place 1 on: a restored put stands at 0, where its life turned
abbrev pub AllAfter : ℕ → List Put → Type 0
AllAfter n [] = Unit {0}
AllAfter n (p ∷ ps) = (1 ≤ n → n < p.place) × AllAfter n ps

-- the places of a life, none of which is past n
pub record IsPlaced (n : ℕ) (l : Life) : Type 0 where
  pub puts_before : AllBefore (n + 1) l.puts
  pub puts_fall : Falling l.puts
  pub puts_after : AllAfter l.turn l.puts
  pub turn_by : l.turn ≤ n
  pub taken_earlier : AllBefore l.turn l.taken_before
  pub taken_fall : Falling l.taken_before
  pub publishings_rise : IsRising (λ p. p.place) 1 n l.publishings
  pub settings_rise : IsRising (λ s. s.place) 1 n l.settings
  pub is_over_by : IsOverBy n l.over

-- ---- places of puts that were taken

pub before-taken : (n : ℕ) (ps : List Put) → AllBefore n ps → AllBefore n (taken ps)
before-taken n [] a = tt
before-taken n (p ∷ ps) a = by (list_all (λ q. leb q.time p.time) ps) (before-taken n ps a.1)
  where
    by : (b : Bool) → AllBefore n (taken ps) → AllBefore n (cond b (p ∷ taken ps) (taken ps))
    by true t = (a.0, t)
    by false t = t

pub falling-taken : (ps : List Put) → Falling ps → Falling (taken ps)
falling-taken [] f = tt
falling-taken (p ∷ ps) f = by (list_all (λ q. leb q.time p.time) ps) (falling-taken ps f.1)
  where
    by : (b : Bool) → Falling (taken ps) → Falling (cond b (p ∷ taken ps) (taken ps))
    by true t = (before-taken p.place ps f.0, t)
    by false t = t

-- of those since the turn
pub before-since : (n : ℕ) (l : Life) → AllBefore n l.puts → AllBefore n (taken_since_turn l)
before-since n l a = by (is_cached l.props)
  where
    by : (b : Bool) → AllBefore n (cond b (taken l.puts) l.puts)
    by true = before-taken n l.puts a
    by false = a

pub falling-since : (l : Life) → Falling l.puts → Falling (taken_since_turn l)
falling-since l f = by (is_cached l.props)
  where
    by : (b : Bool) → Falling (cond b (taken l.puts) l.puts)
    by true = falling-taken l.puts f
    by false = f

after-taken : (n : ℕ) (ps : List Put) → AllAfter n ps → AllAfter n (taken ps)
after-taken n [] a = tt
after-taken n (p ∷ ps) a = by (list_all (λ q. leb q.time p.time) ps) (after-taken n ps a.1)
  where
    by : (b : Bool) → AllAfter n (taken ps) → AllAfter n (cond b (p ∷ taken ps) (taken ps))
    by true t = (a.0, t)
    by false t = t

pub after-since : (n : ℕ) (l : Life) → AllAfter n l.puts → AllAfter n (taken_since_turn l)
after-since n l a = by (is_cached l.props)
  where
    by : (b : Bool) → AllAfter n (cond b (taken l.puts) l.puts)
    by true = after-taken n l.puts a
    by false = a

-- of all: those before the turn come after those since it
before-append : (n : ℕ) (ps qs : List Put) → AllBefore n ps → AllBefore n qs → AllBefore n (ps ++ qs)
before-append n [] qs a b = b
before-append n (p ∷ ps) qs a b = (a.0, before-append n ps qs a.1 b)

falling-append : (turn : ℕ) (ps qs : List Put) → Falling ps → AllAfter turn ps → Falling qs → AllBefore turn qs
    → Falling (ps ++ qs)
falling-append turn [] qs f a g b = g
falling-append turn (p ∷ ps) qs f a g b =
    (before-append p.place ps qs f.0 (earlier qs b), falling-append turn ps qs f.1 a.1 g b)
  where
    earlier : (qs : List Put) → AllBefore turn qs → AllBefore p.place qs
    earlier [] b = tt
    earlier (q ∷ qs) b =
        let less : q.place < turn = b.0 in
        let low : turn < p.place = a.0 (omega arith) in
        (omega arith, earlier qs b.1)

pub before-all : (n : ℕ) (l : Life) → IsPlaced n l → AllBefore (n + 1) (taken_of l)
before-all n l h =
    let by = h.turn_by in
    before-append (n + 1) (taken_since_turn l) l.taken_before (before-since (n + 1) l h.puts_before)
    (before-more l.turn (n + 1) l.taken_before (omega arith) h.taken_earlier)

pub falling-all : (n : ℕ) (l : Life) → IsPlaced n l → Falling (taken_of l)
falling-all n l h =
    falling-append l.turn (taken_since_turn l) l.taken_before (falling-since l h.puts_fall)
    (after-since l.turn l h.puts_after) h.taken_fall h.taken_earlier

abbrev pub ArePlaced : ℕ → List Life → Type 0
ArePlaced n [] = Unit {0}
ArePlaced n (l ∷ lives) = IsPlaced n l × ArePlaced n lives

placed-more : (n : ℕ) (l : Life) → IsPlaced n l → IsPlaced (n + 1) l
placed-more n l h = record {
  puts_before = before-more (n + 1) (n + 1 + 1) l.puts (omega arith) h.puts_before;
  puts_fall = h.puts_fall;
  puts_after = h.puts_after;
  turn_by = let by = h.turn_by in omega arith;
  taken_earlier = h.taken_earlier;
  taken_fall = h.taken_fall;
  publishings_rise =
      rising-more (λ (p : Publishing). p.place) 1 n (n + 1) l.publishings (omega arith) h.publishings_rise;
  settings_rise = rising-more (λ (s : Setting). s.place) 1 n (n + 1) l.settings (omega arith) h.settings_rise;
  is_over_by = over-more n (n + 1) l.over (omega arith) h.is_over_by;
}

placed-ended : (n : ℕ) (l : Life) → IsPlaced (n + 1) l → IsPlaced (n + 1) (or_ended (n + 1) l)
placed-ended n l h = by (lives_on (topic_of l))
  where
    by : (b : Bool) → IsPlaced (n + 1) (cond b l (record l { over = Some (n + 1) }))
    by true = h
    by false = record {
      puts_before = h.puts_before;
      puts_fall = h.puts_fall;
      puts_after = h.puts_after;
      turn_by = h.turn_by;
      taken_earlier = h.taken_earlier;
      taken_fall = h.taken_fall;
      publishings_rise = h.publishings_rise;
      settings_rise = h.settings_rise;
      is_over_by = (omega arith, omega arith);
    }

placed-joined : (n : ℕ) (p : Pub) (l : Life) → IsPlaced n l → IsPlaced (n + 1) (with_publishing (n + 1) p l)
placed-joined n p l h =
    let m = placed-more n l h in
    record {
      puts_before = m.puts_before;
      puts_fall = m.puts_fall;
      puts_after = m.puts_after;
      turn_by = m.turn_by;
      taken_earlier = m.taken_earlier;
      taken_fall = m.taken_fall;
      publishings_rise =
          rising-push (λ (p : Publishing). p.place) 1 n l.publishings
          (record { place = n + 1; conn = p.conn; uid = p.uid }) (omega arith) refl h.publishings_rise;
      settings_rise = m.settings_rise;
      is_over_by = m.is_over_by;
    }

-- a life that turns after n
placed-turned : (n : ℕ) (l : Life) → IsPlaced n l → IsPlaced (n + 1) (turned_at (n + 1) l)
placed-turned n l h =
    let m = placed-more n l h in
    record {
      puts_before = tt;
      puts_fall = tt;
      puts_after = tt;
      turn_by = omega arith;
      taken_earlier = before-all n l h;
      taken_fall = falling-all n l h;
      publishings_rise = m.publishings_rise;
      settings_rise = m.settings_rise;
      is_over_by = m.is_over_by;
    }

placed-set : (n conn : ℕ) (u : Data) (l : Life) → IsPlaced n l
    → IsPlaced (n + 1) (with_setting (n + 1) conn u l)
placed-set n conn u l h =
    setting-by (n + 1) conn u l (IsPlaced (n + 1)) (changed (turned_at (n + 1) l) (placed-turned n l h))
    (changed l (placed-more n l h))
  where
    settings : IsRising (λ s. s.place) 1 (n + 1) (l.settings ++ record { place = n + 1; conn = conn; update = u } ∷ [])
    settings =
        rising-push (λ (s : Setting). s.place) 1 n l.settings
        (record { place = n + 1; conn = conn; update = u }) (omega arith) refl h.settings_rise

    changed : (m : Life) → IsPlaced (n + 1) m → IsPlaced (n + 1) (with_change (n + 1) conn u l m)
    changed m h = record {
      puts_before = h.puts_before;
      puts_fall = h.puts_fall;
      puts_after = h.puts_after;
      turn_by = h.turn_by;
      taken_earlier = h.taken_earlier;
      taken_fall = h.taken_fall;
      publishings_rise = h.publishings_rise;
      settings_rise = settings;
      is_over_by = h.is_over_by;
    }

placed-put : (n time : ℕ) (value : Value) (l : Life) → IsPlaced n l
    → IsPlaced (n + 1) (with_a_put (record { place = n + 1; time = time; value = value }) l)
placed-put n time value l h =
    let m = placed-more n l h in
    record {
      puts_before = (omega arith, m.puts_before);
      puts_fall = (h.puts_before, h.puts_fall);
      puts_after = (λ real. let by = h.turn_by in omega arith, h.puts_after);
      turn_by = m.turn_by;
      taken_earlier = m.taken_earlier;
      taken_fall = m.taken_fall;
      publishings_rise = m.publishings_rise;
      settings_rise = m.settings_rise;
      is_over_by = m.is_over_by;
    }

-- fewer publishers stand at the same places
placed-pubs : (n : ℕ) (pubs : List Pub) (l : Life) → IsPlaced n l → IsPlaced n (record l { pubs = pubs })
placed-pubs n pubs l h = record {
  puts_before = h.puts_before;
  puts_fall = h.puts_fall;
  puts_after = h.puts_after;
  turn_by = h.turn_by;
  taken_earlier = h.taken_earlier;
  taken_fall = h.taken_fall;
  publishings_rise = h.publishings_rise;
  settings_rise = h.settings_rise;
  is_over_by = h.is_over_by;
}

placed-closed : (n conn : ℕ) (l : Life) → IsPlaced n l → IsPlaced (n + 1) (closed_for (n + 1) conn l)
placed-closed n conn l h = by (is_living l && has_conn conn (topic_of l))
  where
    left : IsPlaced (n + 1) (without_conn conn l)
    left = placed-pubs (n + 1) (without_conn conn l).pubs l (placed-more n l h)

    by : (b : Bool) → IsPlaced (n + 1) (cond b (or_ended (n + 1) (without_conn conn l)) (without_conn conn l))
    by true = placed-ended n (without_conn conn l) left
    by false = left

all-placed-map : (n : ℕ) (f : Life → Life) → ((l : Life) → IsPlaced n l → IsPlaced (n + 1) (f l))
    → (lives : List Life)
    → ArePlaced n lives → ArePlaced (n + 1) (map f lives)
all-placed-map n f keeps [] a = tt
all-placed-map n f keeps (l ∷ lives) a = (keeps l a.0, all-placed-map n f keeps lives a.1)

all-placed-more : (n : ℕ) (lives : List Life) → ArePlaced n lives → ArePlaced (n + 1) lives
all-placed-more n [] a = tt
all-placed-more n (l ∷ lives) a = (placed-more n l a.0, all-placed-more n lives a.1)

all-placed-at : (n : ℕ) (test : Life → Bool) (f : Life → Life)
    → ((l : Life) → IsPlaced n l → IsPlaced (n + 1) (f l))
    → (lives : List Life) → ArePlaced n lives → ArePlaced (n + 1) (at_first test f lives)
all-placed-at n test f keeps [] a = tt
all-placed-at n test f keeps (l ∷ lives) a = by (all-placed-at n test f keeps lives a.1) (test l)
  where
    by : ArePlaced (n + 1) (at_first test f lives) → (b : Bool)
        → ArePlaced (n + 1) (cond b (f l ∷ lives) (l ∷ at_first test f lives))
    by more true = (keeps l a.0, all-placed-more n lives a.1)
    by more false = (placed-more n l a.0, more)

all-placed-push : (n : ℕ) (l : Life) (lives : List Life) → IsPlaced (n + 1) l → ArePlaced n lives
    → ArePlaced (n + 1) (lives ++ l ∷ [])
all-placed-push n l [] h a = (h, tt)
all-placed-push n l (m ∷ lives) h a = (placed-more n m a.0, all-placed-push n l lives h a.1)

placed-born : (n id : ℕ) (name typ : List ℕ) (props : Data) (p : Pub)
    → IsPlaced (n + 1) (born (n + 1) id name typ props p)
placed-born n id name typ props p = record {
  puts_before = tt;
  puts_fall = tt;
  puts_after = tt;
  turn_by = omega arith;
  taken_earlier = tt;
  taken_fall = tt;
  publishings_rise = (omega arith, omega arith, tt);
  settings_rise = tt;
  is_over_by = tt;
}

placed-restored : (id : ℕ) (saved : List Saved) → ArePlaced 0 (restored id saved)
placed-restored id [] = tt
placed-restored id (s ∷ saved) = (
  record {
    puts_before = before s.value;
    puts_fall = fall s.value;
    puts_after = after s.value;
    turn_by = omega arith;
    taken_earlier = tt;
    taken_fall = tt;
    publishings_rise = tt;
    settings_rise = tt;
    is_over_by = tt;
  },
  placed-restored (id + 1) saved,
)
  where
    before : (v : Option Value) → AllBefore (0 + 1) (restored_put v)
    before None = tt
    before (Some v) = (omega arith, tt)

    fall : (v : Option Value) → Falling (restored_put v)
    fall None = tt
    fall (Some v) = (tt, tt)

    after : (v : Option Value) → AllAfter 0 (restored_put v)
    after None = tt
    after (Some v) = (λ real. absurd (omega arith), tt)

-- in every history puts stand at falling places, publishes and changes of properties at rising ones from 1
-- on, and none is past the present
pub lives-placed : (start : Start) (past : List Entry)
    → ArePlaced (now_of start past).place (now_of start past).lives
lives-placed start =
    lives-keep ArePlaced
    (record {
      later = all-placed-more;
      joined =
          λ k name p lives free. all-placed-at k _ (with_publishing (k + 1) p) (placed-joined k p) lives;
      began =
          λ k name typ props p lives free e few. all-placed-push k
          (born (k + 1) (length lives + 1) name typ props p) lives
          (placed-born k (length lives + 1) name typ props p);
      left =
          λ k conn uid. all-placed-at k _ _
          (λ l h. placed-ended k (without_publisher conn uid l)
          (placed-pubs (k + 1) (without_publisher conn uid l).pubs l (placed-more k l h)));
      updated =
          λ k conn name u. all-placed-at k _ _
          (λ l h. placed-ended k (with_setting (k + 1) conn u l) (placed-set k conn u l h));
      put = λ k conn uid time value. all-placed-at k _
          (with_a_put (record { place = k + 1; time = time; value = value })) (placed-put k time value);
      dropped = λ k conn. all-placed-map k (closed_for (k + 1) conn) (placed-closed k conn);
    })
    start (placed-restored 1 start.saved)

-- the places of one life of all
pub placed-find : (test : Life → Bool) (n : ℕ) (lives : List Life) (l : Life) → ArePlaced n lives
    → find test lives ≡ Some l
    → IsPlaced n l
placed-find test n [] l a e = absurd (cc)
placed-find test n (m ∷ lives) l a e = by (λ k. placed-find test n lives l a.1 k) (test m) e
  where
    by : (find test lives ≡ Some l → IsPlaced n l) → (b : Bool) → cond b (Some m) (find test lives) ≡ Some l
        → IsPlaced n l
    by more true e = let same : m ≡ l = cc in subst (IsPlaced n) same a.0
    by more false e = more e

-- ---- connections

abbrev pub IsNumberedConnections : ℕ → List Connection → Type 0
IsNumberedConnections k [] = Unit {0}
IsNumberedConnections k (c ∷ cs) = (c.number ≡ k) × IsNumberedConnections (suc k) cs

abbrev pub AreOverBy : ℕ → List Connection → Type 0
AreOverBy n [] = Unit {0}
AreOverBy n (c ∷ cs) = IsOverBy n c.over × AreOverBy n cs

numbered-connections-map : (f : Connection → Connection) → ((c : Connection) → (f c).number ≡ c.number)
    → (k : ℕ) (cs : List Connection)
    → IsNumberedConnections k cs → IsNumberedConnections k (map f cs)
numbered-connections-map f same k [] h = tt
numbered-connections-map f same k (c ∷ cs) h = (same c ∙ h.0, numbered-connections-map f same (suc k) cs h.1)

numbered-connections-push : (k : ℕ) (cs : List Connection) (c : Connection) → c.number ≡ length cs + k
    → IsNumberedConnections k cs
    → IsNumberedConnections k (cs ++ c ∷ [])
numbered-connections-push k [] c e h = (omega arith, tt)
numbered-connections-push k (d ∷ cs) c e h = (h.0, numbered-connections-push (suc k) cs c (omega arith) h.1)

-- connections are numbered 1, 2 and so on
pub connections-numbered : (start : Start) (past : List Entry) → Legal start past
    → IsNumberedConnections 1 (now_of start past).connections
connections-numbered start =
    connections-keep (λ k cs. IsNumberedConnections 1 cs)
    (record {
      later = λ k cs h. h;
      subscribed =
          λ k conn f cs keeps. numbered-connections-map _ (λ c. resubscribed conn f c (is_conn conn c)) 1 cs;
      opened =
          λ k worker name cs free. numbered-connections-push 1 cs (opened worker (length cs + 1) name) refl;
      closed = λ k conn. numbered-connections-map _ (λ c. ended k c (is_conn conn c)) 1;
    })
    start tt
  where
    resubscribed : (conn : ℕ) (f : Subs → Subs) (c : Connection) (b : Bool)
        → (cond b (record c { subs = f c.subs }) c).number ≡ c.number
    resubscribed conn f c true = refl
    resubscribed conn f c false = refl

    ended : (k : ℕ) (c : Connection) (b : Bool) → (cond b (record c { over = Some (k + 1) }) c).number
        ≡ c.number
    ended k c true = refl
    ended k c false = refl

overs-map : (n : ℕ) (f : Connection → Connection)
    → ((c : Connection) → IsOverBy n c.over → IsOverBy (n + 1) (f c).over)
    → (cs : List Connection) → AreOverBy n cs → AreOverBy (n + 1) (map f cs)
overs-map n f keeps [] h = tt
overs-map n f keeps (c ∷ cs) h = (keeps c h.0, overs-map n f keeps cs h.1)

overs-more : (n : ℕ) (cs : List Connection) → AreOverBy n cs → AreOverBy (n + 1) cs
overs-more n [] h = tt
overs-more n (c ∷ cs) h = (over-more n (n + 1) c.over (omega arith) h.0, overs-more n cs h.1)

overs-push : (n : ℕ) (cs : List Connection) (c : Connection) → IsOverBy (n + 1) c.over → AreOverBy n cs
    → AreOverBy (n + 1) (cs ++ c ∷ [])
overs-push n [] c e h = (e, tt)
overs-push n (d ∷ cs) c e h = (over-more n (n + 1) d.over (omega arith) h.0, overs-push n cs c e h.1)

-- those that are closed were closed at a place from 1 to the present
pub connections-over : (start : Start) (past : List Entry) → Legal start past
    → AreOverBy (now_of start past).place (now_of start past).connections
connections-over start =
    connections-keep AreOverBy
    (record {
      later = overs-more;
      subscribed =
          λ k conn f cs keeps. overs-map k _
          (λ c h. resubscribed k f c (is_conn conn c) (over-more k (k + 1) c.over (omega arith) h)) cs;
      opened = λ k worker name cs free. overs-push k cs (opened worker (length cs + 1) name) tt;
      closed =
          λ k conn. overs-map k _
          (λ c h. ended k c (is_conn conn c) (over-more k (k + 1) c.over (omega arith) h));
    })
    start tt
  where
    resubscribed : (k : ℕ) (f : Subs → Subs) (c : Connection) (b : Bool) → IsOverBy (k + 1) c.over
        → IsOverBy (k + 1) (cond b (record c { subs = f c.subs }) c).over
    resubscribed k f c true h = h
    resubscribed k f c false h = h

    ended : (k : ℕ) (c : Connection) (b : Bool) → IsOverBy (k + 1) c.over
        → IsOverBy (k + 1) (cond b (record c { over = Some (k + 1) }) c).over
    ended k c true h = (omega arith, omega arith)
    ended k c false h = h
