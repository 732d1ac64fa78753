use Rattle.std.proofs.Common.{◌≡◌, ◌<◌, ◌^◌, ◌∙◌, ℕ, Ok, Err, List, OnOk, sym, arith, subst}
use Rattle.nt_rules.proofs.Calls.{on-ok}
use Rattle.nt_rules.specs.outbox.Marks.{Mark}
use Rattle.nt_outbox.specs.declared.step.Step.{Step}
use Rattle.nt_rules.specs.outbox.Marks.{at_id}
use Rattle.nt_outbox.specs.Steps.{after, position_of, RiseFrom}
use Rattle.nt_outbox.proofs.Places.{stands, gap, after-id, rise-at_id}
use Rattle.nt_outbox.proofs.marks.change.Goals as goal

pub change_at-requires-clause-within : goal.change_at-requires-clause-within
change_at-requires-clause-within c =
    let at : position_of c.args.id c.args.marks.now.items ≡ Ok c.in-Ok.i = cc in
    let within = (stands c.args.id c.args.marks.now.items c.in-Ok.i at).within in omega arith

pub change_fresh-requires-clause-within : goal.change_fresh-requires-clause-within
change_fresh-requires-clause-within c =
    let at : position_of c.args.id c.args.marks.now.items ≡ Err c.in-Err.i = cc in
    let within = (gap c.args.id c.args.marks.now.items c.in-Err.i at).within in omega arith

-- the ids rise where the list is this one
rises : (id : ℕ) (name : List ℕ) (s : Step) (ms now : List Mark) → id < 2 ^ 32 → RiseFrom 0 ms
    → now ≡ at_id id name (after s) ms
    → RiseFrom 0 now
rises id name s ms now fits h e =
    subst (RiseFrom 0) (sym e) (rise-at_id 0 id name (after s) ms (after-id s) (omega arith) fits h)

changed_of : (c : goal.After-change_at)
    → OnOk c.change_at.result (c.change_at.new.marks.items
    ≡ at_id c.args.id c.args.name.now (after c.args.step) c.args.marks.now.items)
changed_of c =
    let at : position_of c.args.id c.args.marks.now.items ≡ Ok c.in-Ok.i = cc in
    on-ok c.change_at.result
    (λ e. e ∙ sym ((stands c.args.id c.args.marks.now.items c.in-Ok.i at).changed c.args.name.now
    (after c.args.step)))
    c.change_at.ensures.marks

pub returns-in-Ok-clause-marks : goal.returns-in-Ok-clause-marks
returns-in-Ok-clause-marks c = changed_of c

pub returns-in-Ok-clause-rising : goal.returns-in-Ok-clause-rising
returns-in-Ok-clause-rising c =
    on-ok c.change_at.result
    (rises c.args.id c.args.name.now c.args.step c.args.marks.now.items c.change_at.new.marks.items
    (omega arith) c.requires.rising)
    (changed_of c)

put_of : (c : goal.After-change_fresh)
    → OnOk c.change_fresh.result
    (c.change_fresh.new.marks.items
    ≡ at_id c.args.id c.args.name.now (after c.args.step) c.args.marks.now.items)
put_of c =
    let at : position_of c.args.id c.args.marks.now.items ≡ Err c.in-Err.i = cc in
    on-ok c.change_fresh.result
    (λ e. rw c.in-Ok-fresh.ensures at e
    ∙ sym ((gap c.args.id c.args.marks.now.items c.in-Err.i at).put c.args.name.now (after c.args.step)))
    c.change_fresh.ensures.marks

pub returns-in-Ok-fresh-clause-marks : goal.returns-in-Ok-fresh-clause-marks
returns-in-Ok-fresh-clause-marks c = put_of c

pub returns-in-Ok-fresh-clause-rising : goal.returns-in-Ok-fresh-clause-rising
returns-in-Ok-fresh-clause-rising c =
    on-ok c.change_fresh.result
    (rises c.args.id c.args.name.now c.args.step c.args.marks.now.items c.change_fresh.new.marks.items
    (omega arith) c.requires.rising)
    (put_of c)
