-- What an entry leaves of a connection's wishes and of its account.
use Rattle.std.proofs.Common.{◌≡◌, ◌+◌, ◌==◌, ◌++◌, ◌&&◌, ◌||◌, ℕ, Bool, true, false, cond, List, [], ◌∷◌, Some, map}
use Rattle.std.proofs.Common.{refl, sym, ◌∙◌, ap, arith}
use Rattle.std.proofs.lemmas.Bool.Decides.{nat_tests}
use Rattle.nt_control.specs.declared.message.ClientMsg.TheVariants.{Publish, Unpublish, SetProps, Subscribe}
use Rattle.nt_control.specs.declared.message.ClientMsg.TheVariants.{Unsubscribe}
use Rattle.nt_subs.specs.Subscriptions.{Subs, with_sub, without_sub}
use Rattle.nt_subs.specs.Wishes.{wanted}
use Rattle.nt_rules.specs.outbox.Keys.{Key}
use Rattle.nt_rules.specs.declared.act.Msg.{Msg}
use Rattle.nt_rules.specs.declared.act.Msg.TheVariants as msg
use Rattle.nt_rules.specs.declared.act.Deed.{Deed}
use Rattle.nt_rules.specs.declared.act.Deed.TheVariants.{Opened, NotOpened, Said, Drained, Closed, Permitted}
use Rattle.nt_rules.specs.declared.act.Deed.TheVariants.{NoPermit}
use Rattle.nt_rules.specs.declared.act.Deed.TheVariants.{Shut}
use Rattle.nt_rules.specs.declared.act.Entry.{Entry}
use Rattle.nt_rules.specs.history.Lives.{closed_for}
use Rattle.nt_rules.specs.declared.start.Start.{Start}
use Rattle.nt_rules.specs.history.Now.{Now, Connection, is_open, is_conn, is_there, is_open_for, subs_of, with_subs}
use Rattle.nt_rules.specs.history.Now.{opened, closed, cause_of, is_traced, connections_after, lives_after}
use Rattle.nt_rules.specs.history.Now.{after_said}
use Rattle.nt_rules.specs.history.Now.{after_deed, now_of}
use Rattle.nt_rules.specs.history.Owed.{wish_for, given_after}
use Rattle.nt_laws.proofs.metas.MetaRows.{row_of_life, row_of_conn, rows_by, meta_rows}

-- ---- subscriptions

-- one more connection
pub subs-push : (cs : List Connection) (worker number conn : ℕ) (name : List ℕ)
    → subs_of (cs ++ opened worker number name ∷ []) conn ≡ subs_of cs conn
subs-push [] worker number conn name = by (number == conn) []
  where
    by : (b : Bool) (none : Subs) → cond (true && b) none none ≡ none
    by true none = refl
    by false none = refl
subs-push (c ∷ cs) worker number conn name =
    ap (λ subs. cond (is_conn conn c) c.subs subs) (subs-push cs worker number conn name)

-- a connection of another number isn't this one
other-conn : (sender conn : ℕ) (c : Connection) → (sender == conn) ≡ false → (c.number == sender) ≡ true
    → (c.number == conn) ≡ false
other-conn sender conn c other same = grind (arith, nat_tests)

-- other subscriptions of another connection
pub subs-with : (sender conn : ℕ) (f : Subs → Subs) (cs : List Connection) → (sender == conn) ≡ false
    → subs_of (with_subs sender f cs) conn ≡ subs_of cs conn
subs-with sender conn f [] other = refl
subs-with sender conn f (c ∷ cs) other =
    by (subs-with sender conn f cs other) (is_open c) (c.number == sender) refl
  where
    none : (o b : Bool) (x y : Subs) → b ≡ false → cond (o && b) x y ≡ y
    none true b x y e = ap (λ b. cond b x y) e
    none false b x y e = refl

    by : subs_of (with_subs sender f cs) conn ≡ subs_of cs conn → (o b : Bool) → (c.number == sender) ≡ b
        → subs_of (cond (o && b) (record c { subs = f c.subs }) c ∷ with_subs sender f cs) conn
        ≡ subs_of (c ∷ cs) conn
    by more true true e =
        let apart = other-conn sender conn c other e in
        none (is_open c) (c.number == conn) (f c.subs) (subs_of (with_subs sender f cs) conn) apart ∙ more
        ∙ sym (none (is_open c) (c.number == conn) c.subs (subs_of cs conn) apart)
    by more true false e = ap (λ subs. cond (is_conn conn c) c.subs subs) more
    by more false b e = ap (λ subs. cond (is_conn conn c) c.subs subs) more

-- another connection is closed
pub subs-closed : (place sender conn : ℕ) (cs : List Connection) → (sender == conn) ≡ false
    → subs_of (closed place sender cs) conn ≡ subs_of cs conn
subs-closed place sender conn [] other = refl
subs-closed place sender conn (c ∷ cs) other =
    by (subs-closed place sender conn cs other) (is_open c) (c.number == sender) refl
  where
    none : (o b : Bool) (x y : Subs) → b ≡ false → cond (o && b) x y ≡ y
    none true b x y e = ap (λ b. cond b x y) e
    none false b x y e = refl

    by : subs_of (closed place sender cs) conn ≡ subs_of cs conn → (o b : Bool) → (c.number == sender) ≡ b
        → subs_of (cond (o && b) (record c { over = Some place }) c ∷ closed place sender cs) conn
        ≡ subs_of (c ∷ cs) conn
    by more true true e =
        let apart = other-conn sender conn c other e in
        more ∙ sym (none (is_open c) (c.number == conn) c.subs (subs_of cs conn) apart)
    by more true false e = ap (λ subs. cond (is_conn conn c) c.subs subs) more
    by more false b e = ap (λ subs. cond (is_conn conn c) c.subs subs) more

-- one that is closed isn't open
pub closed-gone : (place conn : ℕ) (cs : List Connection) → is_there (closed place conn cs) conn ≡ false
closed-gone place conn [] = refl
closed-gone place conn (c ∷ cs) = by (closed-gone place conn cs) (is_open c) refl (c.number == conn) refl
  where
    by : is_there (closed place conn cs) conn ≡ false → (o : Bool) → is_open c ≡ o → (b : Bool)
        → (c.number == conn) ≡ b
        → is_there (cond (o && b) (record c { over = Some place }) c ∷ closed place conn cs) conn ≡ false
    by more true e true f = more
    by more true e false f = ap (λ b. (is_open c && b) || is_there (closed place conn cs) conn) f
        ∙ on (is_open c) more
      where
        on : (o : Bool) → is_there (closed place conn cs) conn ≡ false
            → ((o && false) || is_there (closed place conn cs) conn) ≡ false
        on true more = more
        on false more = more
    by more false e b f = ap (λ o. (o && (c.number == conn)) || is_there (closed place conn cs) conn) e ∙ more

-- ---- after an entry

-- whether a deed may change the wishes of the connection that did it
abbrev pub is_rewanting : Deed → Bool
is_rewanting (Said (msg.Control (Subscribe uid sub))) = true
is_rewanting (Said (msg.Control (Unsubscribe uid))) = true
is_rewanting d = false

-- a deed that doesn't leaves the subscriptions of each connection that is open after it
pub subs-deed : (n : Now) (worker sender conn : ℕ) (d : Deed) → is_rewanting d ≡ false
    → is_there (after_deed n worker sender d).connections conn ≡ true
    → subs_of (after_deed n worker sender d).connections conn ≡ subs_of n.connections conn
subs-deed n worker sender conn (Opened name) e there = subs-push n.connections worker sender conn name
subs-deed n worker sender conn NotOpened e there = refl
subs-deed n worker sender conn (Said (msg.Control (Publish name uid typ props))) e there =
    by (is_traced (msg.Control (Publish name uid typ props))
    (cause_of n worker sender (msg.Control (Publish name uid typ props))))
  where
    by : (b : Bool) → subs_of
        (cond b (record n {
          lives =
              lives_after (n.place + 1) n.lives sender (msg.Control (Publish name uid typ props));
        })
        n).connections conn ≡ subs_of n.connections conn
    by true = refl
    by false = refl
subs-deed n worker sender conn (Said (msg.Control (Unpublish uid))) e there =
    by (is_traced (msg.Control (Unpublish uid)) (cause_of n worker sender (msg.Control (Unpublish uid))))
  where
    by : (b : Bool) → subs_of
        (cond b (record n { lives = lives_after (n.place + 1) n.lives sender (msg.Control (Unpublish uid)) })
        n).connections conn ≡ subs_of n.connections conn
    by true = refl
    by false = refl
subs-deed n worker sender conn (Said (msg.Control (SetProps name update))) e there =
    by (is_traced (msg.Control (SetProps name update))
    (cause_of n worker sender (msg.Control (SetProps name update))))
  where
    by : (b : Bool) → subs_of
        (cond b (record n {
          lives =
              lives_after (n.place + 1) n.lives sender (msg.Control (SetProps name update));
        }) n).connections
        conn ≡ subs_of n.connections conn
    by true = refl
    by false = refl
subs-deed n worker sender conn (Said (msg.Control (Subscribe uid sub))) e there = absurd (cc)
subs-deed n worker sender conn (Said (msg.Control (Unsubscribe uid))) e there = absurd (cc)
subs-deed n worker sender conn (Said (msg.Put v)) e there =
    by (is_traced (msg.Put v) (cause_of n worker sender (msg.Put v)))
  where
    by : (b : Bool) → subs_of
        (cond b (record n { lives = lives_after (n.place + 1) n.lives sender (msg.Put v) }) n).connections
        conn ≡ subs_of n.connections conn
    by true = refl
    by false = refl
subs-deed n worker sender conn (Drained batch) e there = refl
subs-deed n worker sender conn Closed e there = by (is_open_for n.connections worker sender) there
  where
    apart : (b : Bool) → (sender == conn) ≡ b → is_there (closed (n.place + 1) sender n.connections) conn
        ≡ true → b ≡ false
    apart true e there =
        let same : sender ≡ conn = grind (arith, nat_tests) in
        let gone : true ≡ false = sym there
        ∙ ap (λ k. is_there (closed (n.place + 1) k n.connections) conn) same
        ∙ closed-gone (n.place + 1) conn n.connections in
        absurd (cc)
    apart false e there = refl

    by : (b : Bool)
        → is_there (cond b (record n {
          connections = closed (n.place + 1) sender n.connections;
          lives =
              map (closed_for (n.place + 1) sender) n.lives;
        }) n).connections conn ≡ true
        → subs_of (cond b (record n {
          connections = closed (n.place + 1) sender n.connections;
          lives =
              map (closed_for (n.place + 1) sender) n.lives;
        }) n).connections conn
        ≡ subs_of n.connections conn
    by true there = subs-closed (n.place + 1) sender conn n.connections (apart (sender == conn) refl there)
    by false there = refl
subs-deed n worker sender conn Permitted e there = refl
subs-deed n worker sender conn NoPermit e there = refl
subs-deed n worker sender conn Shut e there = refl

-- and what another connection says, too
pub subs-other : (n : Now) (worker sender conn : ℕ) (m : Msg) → (sender == conn) ≡ false
    → subs_of (after_said n worker sender m).connections conn ≡ subs_of n.connections conn
subs-other n worker sender conn m other = by (is_traced m (cause_of n worker sender m))
  where
    said : (m : Msg) → subs_of (connections_after n.connections sender m) conn ≡ subs_of n.connections conn
    said (msg.Control (Publish name uid typ props)) = refl
    said (msg.Control (Unpublish uid)) = refl
    said (msg.Control (SetProps name update)) = refl
    said (msg.Control (Subscribe uid sub)) = subs-with sender conn (with_sub uid sub) n.connections other
    said (msg.Control (Unsubscribe uid)) = subs-with sender conn (without_sub uid) n.connections other
    said (msg.Put v) = refl

    by : (b : Bool)
        → subs_of (cond b (record n {
          connections = connections_after n.connections sender m;
          lives =
              lives_after (n.place + 1) n.lives sender m;
        }) n).connections conn
        ≡ subs_of n.connections conn
    by true = said m
    by false = refl

-- equal subscriptions are equal wishes
pub wish-stays : (start : Start) (past : List Entry) (e : Entry) (conn : ℕ)
    → subs_of (now_of start (e ∷ past)).connections conn ≡ subs_of (now_of start past).connections conn
    → (name : List ℕ) → wish_for start (e ∷ past) conn name ≡ wish_for start past conn name
wish-stays start past e conn same name = ap (λ subs. wanted subs name) same

-- a subscription and its end begin and end no meta topic
pub rows-subscribed : (n : Now) (worker sender : ℕ) (d : Deed) → is_rewanting d ≡ true
    → meta_rows (after_deed n worker sender d) ≡ meta_rows n
rows-subscribed n worker sender (Opened name) e = absurd (cc)
rows-subscribed n worker sender NotOpened e = absurd (cc)
rows-subscribed n worker sender (Said m) e = by m e
  where
    same-rows : (f : Subs → Subs) (cs : List Connection) → map row_of_conn (with_subs sender f cs)
        ≡ map row_of_conn cs
    same-rows f [] = refl
    same-rows f (c ∷ cs) = one (is_conn sender c) (same-rows f cs)
      where
        one : (b : Bool) → map row_of_conn (with_subs sender f cs) ≡ map row_of_conn cs
            → map row_of_conn (cond b (record c { subs = f c.subs }) c ∷ with_subs sender f cs)
            ≡ map row_of_conn (c ∷ cs)
        one true more = ap (λ rows. row_of_conn c ∷ rows) more
        one false more = ap (λ rows. row_of_conn c ∷ rows) more

    on : (f : Subs → Subs) (b : Bool)
        → meta_rows (cond b (record n { connections = with_subs sender f n.connections }) n) ≡ meta_rows n
    on f true = ap (λ rows. rows_by (map row_of_life n.lives) rows) (same-rows f n.connections)
    on f false = refl

    by : (m : Msg) → is_rewanting (Said m) ≡ true → meta_rows (after_said n worker sender m) ≡ meta_rows n
    by (msg.Control (Publish name uid typ props)) e = absurd (cc)
    by (msg.Control (Unpublish uid)) e = absurd (cc)
    by (msg.Control (SetProps name update)) e = absurd (cc)
    by (msg.Control (Subscribe uid sub)) e =
        on (with_sub uid sub) (is_traced (msg.Control (Subscribe uid sub))
        (cause_of n worker sender (msg.Control (Subscribe uid sub))))
    by (msg.Control (Unsubscribe uid)) e =
        on (without_sub uid) (is_traced (msg.Control (Unsubscribe uid))
        (cause_of n worker sender (msg.Control (Unsubscribe uid))))
    by (msg.Put v) e = absurd (cc)
rows-subscribed n worker sender (Drained batch) e = absurd (cc)
rows-subscribed n worker sender Closed e = absurd (cc)
rows-subscribed n worker sender Permitted e = absurd (cc)
rows-subscribed n worker sender NoPermit e = absurd (cc)
rows-subscribed n worker sender Shut e = absurd (cc)

-- ---- the account

-- nothing is handed by a deed of another connection
pub given-other : (d : Deed) (given owed : List Key) → given_after d false given owed ≡ given
given-other (Opened name) given owed = refl
given-other NotOpened given owed = refl
given-other (Said m) given owed = refl
given-other (Drained batch) given owed = refl
given-other Closed given owed = refl
given-other Permitted given owed = refl
given-other NoPermit given owed = refl
given-other Shut given owed = refl
