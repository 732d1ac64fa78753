-- What an act does to the locked value.
--     tells-refused, tells-made       what it tells then
--     is-acted                        an act that was answered
--     keeps-refused, keeps-made       what its type keeps
--     still-off                       a recorder that is off stays so
use Rattle.std.proofs.Common.{◌≡◌, ℕ, ◌+◌, List, [], ◌∷◌, ◌++◌, sym, refl, ap, ◌∙◌, subst, arith, Bool, true, false}
use Rattle.std.specs.Prelude.{Option, Some, None, IfSome}
use Rattle.nt_rules.specs.declared.act.Act.{Act}
use Rattle.nt_rules.specs.declared.act.StepOut.{StepOut}
use Rattle.nt_rules.specs.declared.act.Entry.{Entry}
use Rattle.nt_rules.specs.declared.start.Start.{Start}
use Rattle.nt_rules.specs.history.Step.{ServerState, Represents, Steps, IsEntryOf}
use Rattle.nt_lock.specs.declared.view.Kept.{Kept}
use Rattle.nt_lock.specs.declared.view.Origin.{Origin}
use Rattle.nt_lock.specs.declared.view.Note.TheVariants.{Made, Refused}
use Rattle.nt_lock.specs.Notes.{after, Tells}
use Rattle.nt_lock.proofs.Lists.{if-some, false-is-not-true}
use Rattle.nt_record.specs.Recording.{Recording}
use Rattle.nt_record.specs.declared.recorder.RecState.TheVariants.{Off}
use Rattle.nt_hall.specs.Journals.{GoesOn}
use Rattle.nt_hall.specs.Histories.{IsHistory, StandsFor, IsNext}
use Rattle.nt_hall.specs.Locked.{LockedView, IsKeeping, IsActed}
use Rattle.nt_hall.proofs.Histories.{goes-on, stands-after, next-is, before-is, after-is}

abbrev pub kept-of : Origin → Option (List Entry) → ℕ → Bool → Kept
kept-of origin told count failed = record { origin = origin; told = told; count = count; failed = failed }

-- the list itself is told
itself : (o : Option (List Entry)) → IfSome o (λ list. o ≡ Some list)
itself (Some x) = refl
itself None = tt

pub tells-refused : (k : Kept) (told : Option (List Entry)) → told ≡ k.told
    → Tells (after Refused k) (kept-of k.origin told k.count true)
tells-refused k told same =
    record {
      origin = refl;
      count = omega arith;
      failed = refl;
      entries = subst (λ o. IfSome o (λ list. k.told ≡ Some list)) (sym same) (itself k.told);
    }

pub tells-made : (k : Kept) (told : Option (List Entry)) (e : Entry) → k.failed ≡ false → GoesOn k.told e told
    → Tells (after (Made e) k) (kept-of k.origin told (k.count + 1) false)
tells-made k told e well on =
    record { origin = refl; count = refl; failed = sym well; entries = goes-on k.told told e on }

module _ {S : Type 0} (opened before : Recording S) where
  pub still-off : (now : Recording S) → (opened.state ≡ Off → before ≡ opened) → (before.state ≡ Off → now ≡ before)
      → opened.state ≡ Off → now ≡ opened
  still-off now was is off =
      let same = was off in
      is (ap (λ (r : Recording S). r.state) same ∙ off) ∙ same

module _ {S : Type 0} (opened before recorder : Recording S) (server server' : ServerState) (start : Start)
    (told told' : Option (List Entry)) (counted counted' count : ℕ) (failed : Bool)
    (keeps : IsKeeping server start told counted count failed opened before)
    (off : before.state ≡ Off → recorder ≡ before) where
  pub keeps-refused : counted' ≡ counted → IsKeeping server' start told' counted' count true opened recorder
  keeps-refused same =
      record {
        count_is = same ∙ keeps.count_is;
        stands = λ well. absurd (false-is-not-true (sym well));
        recorded = still-off opened before recorder keeps.recorded off;
      }

  module _ (worker now : ℕ) (a : Act) (out : StepOut) (e : Entry)
      (steps : (start : Start) (past : List Entry) → Represents server start past
      → Steps start past worker now a out e server') where
    pub keeps-made : failed ≡ false → counted' ≡ counted + 1 → GoesOn told e told'
        → IsKeeping server' start told' counted' (count + 1) false opened recorder
    keeps-made well more on =
        record {
          count_is = more ∙ ap (λ n. n + 1) keeps.count_is;
          stands = λ _.
              stands-after server server' start worker now a out e steps told told' (keeps.stands well) on;
          recorded = still-off opened before recorder keeps.recorded off;
        }

module _ {S : Type 0} (found left : LockedView S) (server server' : ServerState) (worker now : ℕ) (a : Act)
    (out : StepOut) (e : Entry)
    (steps : (start : Start) (past : List Entry) → Represents server start past
    → Steps start past worker now a out e server') (told : Option (List Entry)) (start : Start) (failed : Bool)
    (told-is : found.kept.told ≡ told) (start-is : found.kept.origin.start ≡ start)
    (failed-is : found.kept.failed ≡ failed) where
  pub is-acted : failed ≡ false → left.last ≡ Made e → IsEntryOf worker now a out e
      → (failed ≡ false → IfSome told (StandsFor server start)) → GoesOn told e left.kept.told
      → IsActed worker now a out found left
  is-acted well last entry stands on =
      let here = stands well in
      let next : IfSome told (λ list. IsNext start list worker now a out e) =
      next-is server server' start worker now a out e steps told here in
      let before : IfSome told (IsHistory start) = before-is server server' start worker now a out e steps told here in
      let after : IfSome left.kept.told (IsHistory start) =
      after-is server server' start worker now a out e steps told left.kept.told here on in
      record {
        well = failed-is ∙ well;
        entry = e;
        last_is = last;
        entry_is = entry;
        next = subst (λ o. IfSome o (λ list. IsNext found.kept.origin.start list worker now a out e)) (sym told-is)
            (subst (λ start. IfSome told (λ list. IsNext start list worker now a out e)) (sym start-is) next);
        before = subst (λ o. IfSome o (IsHistory found.kept.origin.start)) (sym told-is)
            (subst (λ start. IfSome told (IsHistory start)) (sym start-is) before);
        after = subst (λ start. IfSome left.kept.told (IsHistory start)) (sym start-is) after;
      }
