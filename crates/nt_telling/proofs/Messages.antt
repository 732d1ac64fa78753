-- The messages of keys: what each makes of the topic of an id.
use Rattle.std.proofs.Common.{◌≡◌, ℕ, ℤ, pos, ◌&&◌, int_lt, Bool, true, false, cond, not, ◌==◌, List}
use Rattle.std.proofs.Common.{[], ◌∷◌, ◌++◌, map, filter, take, Option, Some, None, option_map, is_some, refl}
use Rattle.std.proofs.Common.{sym, ap, subst, ◌∙◌}
use Rattle.std.specs.List.{list_any, find, AllByRecursion}
use Rattle.std.specs.Ordering.{int_eq}
use Rattle.std.proofs.lemmas.Bool.{true≢false, eqb-true, eq-eqb}
use Rattle.std.proofs.lemmas.List.{map-append}
use Rattle.std.proofs.lemmas.Slice.Eq.{bytes_eq-Decides}
use Rattle.serde_json.specs.Data.{Data}
use Rattle.nt_frames.specs.declared.message.ValueMsg.{ValueMsg}
use Rattle.nt_control.specs.declared.message.ServerMsg.{ServerMsg}
use Rattle.nt_control.specs.declared.message.ServerMsg.TheVariants.{Announce, Unannounce, Properties}
use Rattle.nt_topics.specs.Properties.{is_cached}
use Rattle.nt_rules.specs.declared.held.Held.{Held}
use Rattle.nt_rules.specs.topics.Puts.{Put}
use Rattle.nt_rules.specs.outbox.Keys.{Kind, Of_end, Of_publish, Of_setting, Of_topic, Of_value, Key, is_kind, is_value}
use Rattle.nt_rules.specs.history.Lives.{Life, Setting, is_living}
use Rattle.nt_rules.specs.history.Owed.{messages, text_of, value_of, text_by, put_value, properties_text, life_at}
use Rattle.nt_rules.specs.telling.Told.{Message, Text, Value, messages_in, with_properties, new_held, after_announce}
use Rattle.nt_rules.specs.telling.Told.{is_called, after_properties, with_message, after_message, told_from}
use Rattle.nt_telling.proofs.Lists.{split-text, IsOnly}
use Rattle.nt_telling.proofs.LifeKeys.{is_of, life-id}
use Rattle.nt_telling.proofs.Holding.{look, RiseById, id-is, is-id, not-id, other-id, pos-same, announced}
use Rattle.nt_telling.proofs.Holding.{look-announce, look-unannounce, valued, look-value, updated_held, look-properties}
use Rattle.nt_telling.proofs.Holding.{IsNameOf, rise-message}
use Rattle.nt_laws.proofs.topics.ItemFacts.{each-filter, each-more, each-passes}

-- ---- the message of a key

abbrev pub message_of : List Life → ℕ → ℕ → Key → Message
message_of lives moment conn k =
    cond (is_value k) (Value (value_of moment k (life_at k.topic lives)))
    (Text (text_of conn k (life_at k.topic lives)))

texts-are : (lives : List Life) (moment conn : ℕ) (ks : List Key) → AllByRecursion (λ k. is_value k ≡ false) ks
    → map Text (map (λ k. text_of conn k (life_at k.topic lives)) ks) ≡ map (message_of lives moment conn) ks
texts-are lives moment conn [] h = refl
texts-are lives moment conn (k ∷ ks) h =
    let text = h.0 in
    rw text (ap (λ (w : List Message). Text (text_of conn k (life_at k.topic lives)) ∷ w)
    (texts-are lives moment conn ks h.1))

values-are : (lives : List Life) (moment conn : ℕ) (ks : List Key) → AllByRecursion (λ k. is_value k ≡ true) ks
    → map Value (map (λ k. value_of moment k (life_at k.topic lives)) ks) ≡ map (message_of lives moment conn) ks
values-are lives moment conn [] h = refl
values-are lives moment conn (k ∷ ks) h =
    let value = h.0 in
    rw value (ap (λ (w : List Message). Value (value_of moment k (life_at k.topic lives)) ∷ w)
    (values-are lives moment conn ks h.1))

not-value : (k : Key) → not (is_value k) ≡ true → is_value k ≡ false
not-value k e = by (is_value k) e
  where
    by : (b : Bool) → not b ≡ true → b ≡ false
    by true e = absurd (true≢false (sym e))
    by false e = refl

-- the messages of a front of texts and values are those of its keys, one by one
pub batch-messages : (lives : List Life) (moment conn n : ℕ) (xs ys : List Key)
    → AllByRecursion (λ k. is_value k ≡ false) xs → AllByRecursion (λ k. is_value k ≡ true) ys
    → messages_in (messages lives moment conn (take n (xs ++ ys)))
    ≡ map (message_of lives moment conn) (take n (xs ++ ys))
batch-messages lives moment conn n xs ys a b =
    (λ i. t i ++ v i)
    ∙ sym (map-append (message_of lives moment conn) (filter (λ k. not (is_value k)) ks) (filter is_value ks))
    ∙ ap (map (message_of lives moment conn))
    (split-text (λ k. not (is_value k)) is_value xs ys n
    (each-more (λ k. is_value k ≡ false) (IsOnly (λ k. not (is_value k)) is_value) (λ k e. (ap not e, e)) xs a)
    (each-more (λ k. is_value k ≡ true) (IsOnly is_value (λ k. not (is_value k))) (λ k e. (e, ap not e)) ys b))
  where
    ks : List Key
    ks = take n (xs ++ ys)

    t : map Text (map (λ k. text_of conn k (life_at k.topic lives)) (filter (λ k. not (is_value k)) ks))
        ≡ map (message_of lives moment conn) (filter (λ k. not (is_value k)) ks)
    t = texts-are lives moment conn (filter (λ k. not (is_value k)) ks)
        (each-more (λ k. not (is_value k) ≡ true) (λ k. is_value k ≡ false) not-value _
        (each-passes (λ k. not (is_value k)) ks))

    v : map Value (map (λ k. value_of moment k (life_at k.topic lives)) (filter is_value ks))
        ≡ map (message_of lives moment conn) (filter is_value ks)
    v = values-are lives moment conn (filter is_value ks) (each-passes is_value ks)

-- ---- what a key makes of the topic of its life

abbrev pub set_by : Option Setting → Option Held → Option Held
set_by None s = s
set_by (Some x) s = option_map (updated_held x.update) s

abbrev pub said_by : ℕ → ℕ → Option Put → Option Held → Option Held
said_by moment id None s = s
said_by moment id (Some p) s = option_map (valued (put_value moment id (Some p))) s

abbrev pub setting_at : ℕ → Life → Option Setting
setting_at place l = find (λ s. s.place == place) l.settings

abbrev pub put_at : ℕ → Life → Option Put
put_at place l = find (λ p. p.place == place) l.puts

abbrev pub step_at : Kind → ℕ → Life → ℕ → Option Held → Option Held
step_at Of_end moment l place s = None
step_at Of_publish moment l place s = Some (announced l.name (pos l.id) l.typ l.props s)
step_at Of_setting moment l place s = set_by (setting_at place l) s
step_at Of_topic moment l place s = Some (announced l.name (pos l.id) l.typ l.props s)
step_at Of_value moment l place s = said_by moment l.id (put_at place l) s

abbrev pub step : ℕ → Life → Key → Option Held → Option Held
step moment l x s = step_at x.kind moment l x.place s

-- the setting or the put that a key names is there
abbrev pub FoundAs : Kind → Life → ℕ → Type 0
FoundAs Of_end l place = Unit {0}
FoundAs Of_publish l place = Unit {0}
FoundAs Of_setting l place = is_some (setting_at place l) ≡ true
FoundAs Of_topic l place = Unit {0}
FoundAs Of_value l place = is_some (put_at place l) ≡ true

pub id-eq : (a b : ℕ) → int_eq (pos a) (pos b) ≡ (a == b)
id-eq a b = by (a == b) refl
  where
    by : (t : Bool) → (a == b) ≡ t → int_eq (pos a) (pos b) ≡ t
    by true e = is-id (pos a) (pos b) (ap pos (eqb-true a b e))
    by false e = not-id (pos a) (pos b) (λ s. true≢false (sym (eq-eqb a b (pos-same a b s)) ∙ e))

-- what is made of the topic of an id, by its own look
own-look : (a k : ℤ) (hs : List Held) (f : Option Held → Option Held)
    → cond (int_eq a k) (f (look a hs)) (look k hs) ≡ cond (int_eq a k) (f (look k hs)) (look k hs)
own-look a k hs f = by (int_eq a k) refl
  where
    by : (b : Bool) → int_eq a k ≡ b → cond b (f (look a hs)) (look k hs) ≡ cond b (f (look k hs)) (look k hs)
    by true e = ap (λ i. f (look i hs)) (id-is a k e)
    by false e = refl

pub look-key : (lives : List Life) (moment conn k : ℕ) (x : Key) (l : Life) (hs : List Held)
    → life_at x.topic lives ≡ Some l
    → RiseById hs → FoundAs x.kind l x.place → (x.kind ≡ Of_setting → IsNameOf l.name (pos l.id) hs)
    → look (pos k) (after_message (message_of lives moment conn x) hs)
    ≡ cond (x.topic == k) (step moment l x (look (pos k) hs)) (look (pos k) hs)
look-key lives moment conn k x l hs found rise there name =
    ap (λ o. look (pos k) (after_message
    (cond (is_value x) (Value (value_of moment x o)) (Text (text_of conn x o))) hs)) found
    ∙ at x.kind there name
    ∙ ap (λ b. cond b (step moment l x (look (pos k) hs)) (look (pos k) hs))
    (id-eq l.id k ∙ ap (λ i. i == k) (life-id x.topic lives l found))
  where
    Made : Kind → Type 0
    Made kind =
        look (pos k) (after_message (cond (is_kind kind Of_value) (Value (put_value moment l.id (put_at x.place l)))
        (Text (text_by kind conn l x.place))) hs)
        ≡ cond (int_eq (pos l.id) (pos k)) (step_at kind moment l x.place (look (pos k) hs)) (look (pos k) hs)

    set : (o : Option Setting) → setting_at x.place l ≡ o → is_some o ≡ true → IsNameOf l.name (pos l.id) hs
        → Made Of_setting
    set None e h n = absurd (true≢false (sym h))
    set (Some s) e h n =
        ap (λ o. look (pos k) (after_message (Text (properties_by o)) hs)) e
        ∙ look-properties (pos k) l.name (pos l.id) s.update hs rise n
        ∙ ap (λ o. cond (int_eq (pos l.id) (pos k)) (set_by o (look (pos k) hs)) (look (pos k) hs)) (sym e)
      where
        properties_by : Option Setting → ServerMsg
        properties_by o = properties_text conn l.name o

    said : (o : Option Put) → put_at x.place l ≡ o → is_some o ≡ true → Made Of_value
    said None e h = absurd (true≢false (sym h))
    said (Some p) e h =
        ap (λ o. look (pos k) (map (with_message (put_value moment l.id o)) hs)) e
        ∙ look-value (pos k) (put_value moment l.id (Some p)) hs
        ∙ ap (λ o. cond (int_eq (pos l.id) (pos k)) (said_by moment l.id o (look (pos k) hs)) (look (pos k) hs)) (sym e)

    at : (kind : Kind) → FoundAs kind l x.place → (kind ≡ Of_setting → IsNameOf l.name (pos l.id) hs) → Made kind
    at Of_end h n = look-unannounce (pos k) (pos l.id) hs
    at Of_publish h n =
        look-announce (pos k) l.name (pos l.id) l.typ l.props hs rise
        ∙ own-look (pos l.id) (pos k) hs (λ o. Some (announced l.name (pos l.id) l.typ l.props o))
    at Of_topic h n =
        look-announce (pos k) l.name (pos l.id) l.typ l.props hs rise
        ∙ own-look (pos l.id) (pos k) hs (λ o. Some (announced l.name (pos l.id) l.typ l.props o))
    at Of_setting h n = set (setting_at x.place l) refl h (n refl)
    at Of_value h n = said (put_at x.place l) refl h

-- ---- the messages of many keys

-- the keys of a life, one after another
abbrev pub runs : ℕ → Life → List Key → Option Held → Option Held
runs moment l [] s = s
runs moment l (x ∷ xs) s = runs moment l xs (step moment l x s)

pub runs-append : (moment : ℕ) (l : Life) (xs ys : List Key) (s : Option Held)
    → runs moment l (xs ++ ys) s ≡ runs moment l ys (runs moment l xs s)
runs-append moment l [] ys s = refl
runs-append moment l (x ∷ xs) ys s = runs-append moment l xs ys (step moment l x s)

abbrev pub runs_of : ℕ → Option Life → List Key → Option Held → Option Held
runs_of moment None xs s = s
runs_of moment (Some l) xs s = runs moment l xs s

-- a key is of a life, and what it names is there
abbrev pub IsFound : List Life → Key → Type 0
IsFound lives x = (l : Life) × (life_at x.topic lives ≡ Some l) × FoundAs x.kind l x.place

-- each change of properties reaches its own topic
abbrev pub Reach : List Life → ℕ → ℕ → List Held → List Key → Type 0
Reach lives moment conn hs [] = Unit {0}
Reach lives moment conn hs (x ∷ xs) =
    (x.kind ≡ Of_setting → (l : Life) → life_at x.topic lives ≡ Some l → IsNameOf l.name (pos l.id) hs)
    × Reach lives moment conn (after_message (message_of lives moment conn x) hs) xs

pub reach-append : (lives : List Life) (moment conn : ℕ) (hs : List Held) (xs ys : List Key)
    → Reach lives moment conn hs xs
    → Reach lives moment conn (told_from hs (map (message_of lives moment conn) xs)) ys
    → Reach lives moment conn hs (xs ++ ys)
reach-append lives moment conn hs [] ys a b = b
reach-append lives moment conn hs (x ∷ xs) ys a b =
    (a.0, reach-append lives moment conn (after_message (message_of lives moment conn x) hs) xs ys a.1 b)

pub run-keys : (lives : List Life) (moment conn k : ℕ) (hs : List Held) (xs : List Key) → RiseById hs
    → AllByRecursion (IsFound lives) xs → Reach lives moment conn hs xs
    → look (pos k) (told_from hs (map (message_of lives moment conn) xs))
    ≡ runs_of moment (life_at k lives) (filter (is_of k) xs) (look (pos k) hs)
run-keys lives moment conn k hs [] rise f r = none (life_at k lives)
  where
    none : (o : Option Life) → look (pos k) hs ≡ runs_of moment o [] (look (pos k) hs)
    none None = refl
    none (Some l) = refl
run-keys lives moment conn k hs (x ∷ xs) rise f r =
    run-keys lives moment conn k next xs (rise-message (message_of lives moment conn x) hs rise) f.1 r.1
    ∙ ap (runs_of moment (life_at k lives) rest)
    (look-key lives moment conn k x f.0.0 hs f.0.1 rise f.0.2 (λ e. r.0 e f.0.0 f.0.1))
    ∙ by (x.topic == k) refl
  where
    next : List Held
    next = after_message (message_of lives moment conn x) hs

    rest : List Key
    rest = filter (is_of k) xs

    here : (o : Option Life) → o ≡ Some f.0.0
        → runs_of moment o rest (step moment f.0.0 x (look (pos k) hs)) ≡ runs_of moment o (x ∷ rest) (look (pos k) hs)
    here None e = cc
    here (Some l) e =
        let same : l ≡ f.0.0 = cc in
        ap (λ m. runs moment l rest (step moment m x (look (pos k) hs))) (sym same)

    by : (b : Bool) → (x.topic == k) ≡ b
        → runs_of moment (life_at k lives) rest (cond b (step moment f.0.0 x (look (pos k) hs)) (look (pos k) hs))
        ≡ runs_of moment (life_at k lives) (cond b (x ∷ rest) rest) (look (pos k) hs)
    by true e = here (life_at k lives) (ap (λ i. life_at i lives) (sym (eqb-true x.topic k e)) ∙ f.0.1)
    by false e = refl

-- ---- of which lives the held topics are

abbrev pub EachHeld : (ℤ → List ℕ → Type 0) → List Held → Type 0
EachHeld P hs = AllByRecursion (λ (h : Held). P h.id h.name) hs

each-announce : (P : ℤ → List ℕ → Type 0) (name : List ℕ) (id : ℤ) (typ : List ℕ) (props : Data) (hs : List Held)
    → P id name
    → EachHeld P hs → EachHeld P (after_announce name id typ props hs)
each-announce P name id typ props [] p h = (p, tt)
each-announce P name id typ props (x ∷ hs) p h =
    by (int_eq x.id id) (int_lt id x.id) (each-announce P name id typ props hs p h.1)
  where
    by : (b c : Bool) → EachHeld P (after_announce name id typ props hs)
        → EachHeld P (cond b (with_properties props x ∷ hs)
        (cond c (new_held name id typ props ∷ x ∷ hs) (x ∷ after_announce name id typ props hs)))
    by true c more = h
    by false true more = (p, h)
    by false false more = (h.0, more)

each-properties : (P : ℤ → List ℕ → Type 0) (name : List ℕ) (u : Data) (hs : List Held) → EachHeld P hs
    → EachHeld P (after_properties name u hs)
each-properties P name u [] h = tt
each-properties P name u (x ∷ hs) h =
    by (is_called name x && not (list_any (is_called name) hs)) (each-properties P name u hs h.1)
  where
    by : (b : Bool) → EachHeld P (after_properties name u hs)
        → EachHeld P (cond b (updated_held u x ∷ hs) (x ∷ after_properties name u hs))
    by true more = h
    by false more = (h.0, more)

each-valued : (P : ℤ → List ℕ → Type 0) (v : ValueMsg) (hs : List Held) → EachHeld P hs
    → EachHeld P (map (with_message v) hs)
each-valued P v [] h = tt
each-valued P v (x ∷ hs) h = (by (int_eq x.id v.id && is_cached x.props), each-valued P v hs h.1)
  where
    by : (b : Bool) → P (cond b (record x { value = Some (record { time = v.time; value = v.value }) }) x).id
        (cond b (record x { value = Some (record { time = v.time; value = v.value }) }) x).name
    by true = h.0
    by false = h.0

-- a message announces none but such topics
abbrev pub Announces : (ℤ → List ℕ → Type 0) → Message → Type 0
Announces P (Text (Announce name id typ pubuid props)) = P id name
Announces P (Text (Unannounce name id)) = Unit {0}
Announces P (Text (Properties name ack update)) = Unit {0}
Announces P (Value v) = Unit {0}

pub each-message : (P : ℤ → List ℕ → Type 0) (m : Message) (hs : List Held) → Announces P m → EachHeld P hs
    → EachHeld P (after_message m hs)
each-message P (Text (Announce name id typ pubuid props)) hs a h = each-announce P name id typ props hs a h
each-message P (Text (Unannounce name id)) hs a h =
    each-filter (λ (x : Held). P x.id x.name) (λ x. not (int_eq x.id id)) hs h
each-message P (Text (Properties name ack update)) hs a h = each-properties P name update hs h
each-message P (Value v) hs a h = each-valued P v hs h

pub announces-own : (P : ℤ → List ℕ → Type 0) (lives : List Life) (moment conn : ℕ) (x : Key) (l : Life)
    → life_at x.topic lives ≡ Some l
    → P (pos l.id) l.name → Announces P (message_of lives moment conn x)
announces-own P lives moment conn x l found p =
    subst (λ o. Announces P (cond (is_value x) (Value (value_of moment x o)) (Text (text_of conn x o)))) (sym found)
    (at x.kind)
  where
    set : (o : Option Setting) → Announces P (Text (properties_text conn l.name o))
    set None = tt
    set (Some s) = tt

    at : (kind : Kind)
        → Announces P (cond (is_kind kind Of_value) (Value (put_value moment l.id (put_at x.place l)))
        (Text (text_by kind conn l x.place)))
    at Of_end = tt
    at Of_publish = p
    at Of_setting = set (setting_at x.place l)
    at Of_topic = p
    at Of_value = tt

-- a held topic is of a life, and of one that goes on
abbrev pub OfLife : List Life → ℤ → List ℕ → Type 0
OfLife lives id name = (l : Life) × (id ≡ pos l.id) × (name ≡ l.name) × (life_at l.id lives ≡ Some l)

abbrev pub OfLivingLife : List Life → ℤ → List ℕ → Type 0
OfLivingLife lives id name = (l : Life) × (id ≡ pos l.id) × (name ≡ l.name) × (life_at l.id lives ≡ Some l)
    × (is_living l ≡ true)

pub lives-many : (lives : List Life) (moment conn : ℕ) (hs : List Held) (xs : List Key)
    → AllByRecursion (IsFound lives) xs
    → EachHeld (OfLife lives) hs → EachHeld (OfLife lives) (told_from hs (map (message_of lives moment conn) xs))
lives-many lives moment conn hs [] f h = h
lives-many lives moment conn hs (x ∷ xs) f h =
    lives-many lives moment conn (after_message (message_of lives moment conn x) hs) xs f.1
    (each-message (OfLife lives) (message_of lives moment conn x) hs
    (announces-own (OfLife lives) lives moment conn x f.0.0 f.0.1
    (f.0.0, refl, refl, ap (λ i. life_at i lives) (life-id x.topic lives f.0.0 f.0.1) ∙ f.0.1)) h)

-- ---- names

-- of the lives that go on one alone has the name of a life with changes of properties
abbrev pub AreNamedOnce : List Life → Type 0
AreNamedOnce lives =
    (l m : Life) → life_at l.id lives ≡ Some l → life_at m.id lives ≡ Some m → is_living l ≡ true → is_living m ≡ true
    → (l.settings ≡ [] → ⊥) → m.name ≡ l.name → m.id ≡ l.id

name-of : (lives : List Life) (l : Life) (hs : List Held) → AreNamedOnce lives → life_at l.id lives ≡ Some l
    → is_living l ≡ true
    → (l.settings ≡ [] → ⊥) → EachHeld (OfLivingLife lives) hs → IsNameOf l.name (pos l.id) hs
name-of lives l [] once found living some h = tt
name-of lives l (x ∷ hs) once found living some h =
    (by (int_eq x.id (pos l.id)) refl, name-of lives l hs once found living some h.1)
  where
    m : Life
    m = h.0.0

    by : (b : Bool) → int_eq x.id (pos l.id) ≡ b → is_called l.name x ≡ b
    by true e =
        let ids : m.id ≡ l.id = pos-same m.id l.id (sym h.0.1 ∙ id-is x.id (pos l.id) e) in
        let both : Some m ≡ Some l = sym h.0.3 ∙ ap (λ i. life_at i lives) ids ∙ found in
        let same : m ≡ l = cc in
        (bytes_eq-Decides x.name l.name).1 (h.0.2 ∙ ap (λ (y : Life). y.name) same)
    by false e = by_name (is_called l.name x) refl
      where
        by_name : (c : Bool) → is_called l.name x ≡ c → c ≡ false
        by_name false f = refl
        by_name true f =
            let names : m.name ≡ l.name = sym h.0.2 ∙ (bytes_eq-Decides x.name l.name).0 f in
            let ids = once l m found h.0.3 living h.0.4 some names in
            absurd (other-id x.id (pos l.id) e (h.0.1 ∙ ap pos ids))

found-some : (place : ℕ) (l : Life) → is_some (setting_at place l) ≡ true → l.settings ≡ [] → ⊥
found-some place l e none = true≢false (sym e ∙ ap (λ ss. is_some (find (λ (s : Setting). s.place == place) ss)) none)

-- once each held topic is of a life that goes on, each change of properties reaches its own
pub living-reach : (lives : List Life) (moment conn : ℕ) (hs : List Held) (xs : List Key) → AreNamedOnce lives
    → AllByRecursion (IsFound lives) xs
    → AllByRecursion (λ x. (l : Life) → life_at x.topic lives ≡ Some l → is_living l ≡ true) xs
    → EachHeld (OfLivingLife lives) hs → Reach lives moment conn hs xs
living-reach lives moment conn hs [] once f g h = tt
living-reach lives moment conn hs (x ∷ xs) once f g h = (
  λ e m at. name-of lives m hs once (own m at) (g.0 m at) (some e m at) h,
  living-reach lives moment conn (after_message (message_of lives moment conn x) hs) xs once f.1 g.1
      (each-message (OfLivingLife lives) (message_of lives moment conn x) hs
      (announces-own (OfLivingLife lives) lives moment conn x f.0.0 f.0.1
      (f.0.0, refl, refl, own f.0.0 f.0.1, g.0 f.0.0 f.0.1)) h),
)
  where
    own : (m : Life) → life_at x.topic lives ≡ Some m → life_at m.id lives ≡ Some m
    own m at = ap (λ i. life_at i lives) (life-id x.topic lives m at) ∙ at

    some : x.kind ≡ Of_setting → (m : Life) → life_at x.topic lives ≡ Some m → m.settings ≡ [] → ⊥
    some e m at =
        let both : Some f.0.0 ≡ Some m = sym f.0.1 ∙ at in
        let same : f.0.0 ≡ m = cc in
        found-some x.place m
        (subst (λ (y : Life). is_some (setting_at x.place y) ≡ true) same
        (subst (λ kind. FoundAs kind f.0.0 x.place) e f.0.2))

pub living-many : (lives : List Life) (moment conn : ℕ) (hs : List Held) (xs : List Key)
    → AllByRecursion (IsFound lives) xs
    → AllByRecursion (λ x. (l : Life) → life_at x.topic lives ≡ Some l → is_living l ≡ true) xs
    → EachHeld (OfLivingLife lives) hs
    → EachHeld (OfLivingLife lives) (told_from hs (map (message_of lives moment conn) xs))
living-many lives moment conn hs [] f g h = h
living-many lives moment conn hs (x ∷ xs) f g h =
    living-many lives moment conn (after_message (message_of lives moment conn x) hs) xs f.1 g.1
    (each-message (OfLivingLife lives) (message_of lives moment conn x) hs
    (announces-own (OfLivingLife lives) lives moment conn x f.0.0 f.0.1
    (f.0.0, refl, refl, ap (λ i. life_at i lives) (life-id x.topic lives f.0.0 f.0.1) ∙ f.0.1, g.0 f.0.0 f.0.1)) h)

pub ends-reach : (lives : List Life) (moment conn : ℕ) (hs : List Held) (xs : List Key)
    → AllByRecursion (λ x. x.kind ≡ Of_end) xs
    → Reach lives moment conn hs xs
ends-reach lives moment conn hs [] h = tt
ends-reach lives moment conn hs (x ∷ xs) h = (
  λ e. absurd (apart (sym h.0 ∙ e)),
  ends-reach lives moment conn (after_message (message_of lives moment conn x) hs) xs h.1,
)
  where
    apart : Of_end ≡ Of_setting → ⊥
    apart e = cc
