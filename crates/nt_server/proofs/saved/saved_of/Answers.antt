use Rattle.std.proofs.Common.{◌≡◌, List, subst, rules}
use Rattle.std.specs.List.Sorted.{IsPermutation}
use Rattle.std.specs.Ordering.{is_lt}
use Rattle.std.proofs.lemmas.Cmp.{nat_list_cmp_total}
use Rattle.std.proofs.lemmas.List.Sorted.{answers_always, ranks_by}
use Rattle.nt_rules.specs.declared.topic.Saved.{Saved}
use Rattle.nt_rules.specs.history.Saved.{is_before}
use Rattle.nt_server.proofs.saved.saved_of.Goals as goal

pub returns : goal.returns
returns c = record {
  same =
      subst (λ (xs : List Saved). IsPermutation xs c.sort_by.new.self.items) c.in_ok-saved.ensures
      c.in_ok-sort_by.ensures.permutation;
  by_name =
      c.in_ok-sort_by.ensures.sorted is_before (ranks_by nat_list_cmp_total (λ (s : Saved). s.name))
      (answers_always _ (λ a r. is_lt r ≡ is_before a.0.now a.1.0.now) _ (λ f a r g k. search rules));
}
