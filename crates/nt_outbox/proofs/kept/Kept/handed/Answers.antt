use Rattle.std.proofs.Common.{◌≡◌, ◌∙◌, Bool, true, false, not, length, filter, sym, ap, subst, arith}
use Rattle.std.specs.List.Sorted.{IsPermutation}
use Rattle.std.proofs.lemmas.Bool.{eqb-true}
use Rattle.nt_rules.specs.outbox.Marks.{Mark, is_blank}
use Rattle.nt_outbox.proofs.Blanks.{no-blank-same, sound-kept}
use Rattle.nt_outbox.proofs.Runs.{run-within, run-of, run-handed, run-ended}
use Rattle.nt_outbox.proofs.kept.Kept.handed.Goals as goal
use Rattle.nt_outbox.proofs.kept.Kept.handed.Goals.{then-has_blank-2, else-has_blank-2}

clash : {P : Type 0} (b : Bool) → b ≡ true → b ≡ false → P
clash true t f = absurd (cc)
clash false t f = absurd (cc)

pub split_at-requires : goal.split_at-requires
split_at-requires c =
    let within = run-within c.first.inside.topic c.loop-rest.rest.now in let len = c.run_len-len.ensures in omega arith

pub hand-requires : goal.hand-requires
hand-requires c =
    run-of c.first.inside.topic c.run_len-len.result c.loop-rest.rest.now c.split_at.result.0.now c.run_len-len.ensures
    c.split_at.ensures.front

pub loop-rest-preserved-then-has_blank : goal.loop-rest-preserved-then-has_blank
loop-rest-preserved-then-has_blank c = record {
  all = run-handed c.loop-rest.rest.now c.split_at.result.0.now c.split_at.result.1.now c.run_len-len.result
      c.loop-rest.kept c.in_ok-next.next _ c.split_at.ensures.front c.split_at.ensures.back c.in_ok-next.ensures.kept
      c.loop-rest.invariant.all;
  full = λ none. clash c.loop-rest.has_blank c.if-has_blank.true none;
}

pub loop-rest-preserved : goal.loop-rest-preserved
loop-rest-preserved c = record {
  all = run-handed c.loop-rest.rest.now c.split_at.result.0.now c.split_at.result.1.now c.run_len-len.result
      c.loop-rest.kept c.in_ok-next.next _ c.split_at.ensures.front c.split_at.ensures.back c.in_ok-next.ensures.kept
      c.loop-rest.invariant.all;
  full = λ none. c.in_ok-next.ensures.blank none (c.loop-rest.invariant.full c.if-has_blank.false);
}

pub invariant_of-kept : goal.invariant_of-kept
invariant_of-kept c =
    sound-kept c.kept.inside.marks.items c.keep_marks.new.marks.items c.kept.inside.owing.items c.kept.inside.weight
    c.kept.inside.count c.keep_marks.ensures c.kept.invariant

pub returns : goal.returns
returns c =
    let none : length c.loop-rest.rest.now ≡ 0 =
    eqb-true (length c.loop-rest.rest.now) 0 (sym c.loop-rest-test.ensures) in
    let order : IsPermutation c.args.keys.items c.as_slice-rest.result.now =
    subst (IsPermutation c.args.keys.items) (sym c.as_slice-rest.ensures.value) c.in_ok-sort_by_key.ensures.permutation
    in
    let ended =
    run-ended c.args.keys.items c.loop-rest.rest.now c.as_slice-rest.result.now c.loop-rest.kept c.args.self none
    c.loop-rest.invariant.all order in
    elim c.if-has_blank-2.branch [
      | then-has_blank-2 w ↦
          w.kept-is ∙ w.keep_marks.ensures ∙ ap (filter (λ (m : Mark). not (is_blank m))) c.kept.view_is ∙ ended
      | else-has_blank-2 w ↦
          w.kept-is
          ∙ sym (no-blank-same c.loop-rest.kept (c.loop-rest.invariant.full w.if-has_blank-2.false)) ∙ ended
    ]
