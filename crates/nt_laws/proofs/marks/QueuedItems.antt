-- What is queued stands after all that was queued before it, since each entry has a later place.
use Rattle.std.proofs.Common.{◌≡◌, ◌<◌, ◌==◌, ℕ, suc, Bool, false, cond, List, [], ◌∷◌, ◌++◌, map, filter, reverse}
use Rattle.std.proofs.Common.{refl, ap, arith}
use Rattle.std.specs.List.{AllByRecursion}
use Rattle.std.proofs.lemmas.Bool.Decides.{nat_tests}
use Rattle.nt_rules.specs.topics.Puts.{Put}
use Rattle.nt_rules.specs.declared.waiting.Publish.{Publish}
use Rattle.nt_rules.specs.declared.waiting.Setting as marked
use Rattle.nt_rules.specs.declared.waiting.Placed.{Placed}
use Rattle.nt_rules.specs.outbox.Marks.{queued}
use Rattle.nt_rules.specs.history.Lives.{Life, Publishing, Setting, taken_since_turn}
use Rattle.nt_rules.specs.history.Owed.{Account, owed_publishes, owed_settings}
use Rattle.nt_rules.specs.history.Marks.{waiting_publish, waiting_setting, waiting_put}
use Rattle.nt_laws.proofs.histories.Facts.{AllBefore, IsRising, before-since}
use Rattle.nt_laws.proofs.topics.ItemFacts.{each-filter, each-map, each-reverse}

-- all of these stand at places before this one
abbrev pub AreEarlier : {X : Type 0} → (X → ℕ) → ℕ → List X → Type 0
AreEarlier place n xs = AllByRecursion (λ x. place x < n) xs

-- an item of a later place than all that is queued stands for none of it
pub queued-last : {X : Type 0} (place : X → ℕ) (x : X) (xs : List X) → AreEarlier place (place x) xs
    → queued place x xs ≡ xs ++ x ∷ []
queued-last place x [] h = refl
queued-last place x (y ∷ []) h =
    let less = h.0 in
    let other : (place y == place x) ≡ false = grind (arith, nat_tests) in
    ap (λ b. cond b (x ∷ []) (y ∷ x ∷ [])) other
queued-last place x (y ∷ z ∷ ys) h = ap (λ rest. y ∷ rest) (queued-last place x (z ∷ ys) h.1)

rising-earlier : {X : Type 0} (place : X → ℕ) (from n last : ℕ) (xs : List X) → n < last
    → IsRising place from n xs → AreEarlier place last xs
rising-earlier place from n last [] less h = tt
rising-earlier place from n last (x ∷ xs) less h =
    let here = h.1 in (omega arith, rising-earlier place (suc (place x)) n last xs less h.2)

before-earlier : (n : ℕ) (ps : List Put) → AllBefore n ps → AreEarlier (λ (p : Put). p.place) n ps
before-earlier n [] h = tt
before-earlier n (p ∷ ps) h = (h.0, before-earlier n ps h.1)

-- what is owed of a life stands at places of the history
module _ (a : Account) (l : Life) where
  pub publishes-earlier : (conn n last : ℕ) → n < last → IsRising (λ p. p.place) 1 n l.publishings
      → AreEarlier (λ (p : Publish). p.place) last (map waiting_publish (owed_publishes a conn l))
  publishes-earlier conn n last less h =
      each-map (λ (p : Publish). p.place < last) waiting_publish (owed_publishes a conn l)
      (each-filter (λ (p : Publishing). p.place < last) _ (filter (λ p. p.conn == conn) l.publishings)
      (each-filter (λ (p : Publishing). p.place < last) _ l.publishings
      (rising-earlier (λ p. p.place) 1 n last l.publishings less h)))

  pub settings-earlier : (conn n last : ℕ) → n < last → IsRising (λ s. s.place) 1 n l.settings
      → AreEarlier (λ (s : marked.Setting). s.place) last (map (waiting_setting conn) (owed_settings a l))
  settings-earlier conn n last less h =
      each-map (λ (s : marked.Setting). s.place < last) (waiting_setting conn) (owed_settings a l)
      (each-filter (λ (s : Setting). s.place < last) _ _
      (each-filter (λ (s : Setting). s.place < last) _ l.settings
      (rising-earlier (λ s. s.place) 1 n last l.settings less h)))

  pub values-earlier : (test : Put → Bool) (last : ℕ) → AllBefore last l.puts
      → AreEarlier (λ (p : Placed). p.place) last (map waiting_put (reverse (filter test (taken_since_turn l))))
  values-earlier test last h =
      each-map (λ (p : Placed). p.place < last) waiting_put (reverse (filter test (taken_since_turn l)))
      (each-reverse (λ (p : Put). p.place < last) _
      (each-filter (λ (p : Put). p.place < last) test (taken_since_turn l)
      (before-earlier last (taken_since_turn l) (before-since last l h))))
