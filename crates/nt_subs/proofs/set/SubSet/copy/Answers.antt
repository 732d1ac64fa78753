use Rattle.std.proofs.Common.{◌≡◌, sym, subst, ◌∙◌}
use Rattle.nt_subs.specs.Index.{IsIndexed}
use Rattle.nt_subs.specs.Subscriptions.{IsKept}
use Rattle.nt_subs.proofs.set.SubSet.copy.Goals as goal

pub invariant_of-result : goal.invariant_of-result
invariant_of-result c =
    let same : c.in_ok-copy_entries.field-0.items ≡ c.self.inside.entries.items =
    c.in_ok-copy_entries.ensures ∙ c.deref.ensures.value in (
      subst (λ s. IsKept s c.self.inside.size) (sym same) c.self.invariant.0,
      subst (IsIndexed c.in_ok-indexed.field-0) (c.deref-2.ensures.value ∙ sym same) c.in_ok-indexed.ensures,
    )
