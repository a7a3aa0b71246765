use Rattle.std.proofs.Common.{◌≡◌, ◌++◌, ◌∷◌, [], List, ap, ◌∙◌, sym, subst, append_assoc}
use Rattle.std.specs.List.Sorted.{IsPermutation}
use Rattle.fc_types.specs.Libraries.{AreInstances}
use Rattle.fc_types.specs.BuiltIn.{built_in_instances}
use Rattle.fc_types.proofs.BuiltIns.{instances_with}
use Rattle.fc_types.proofs.library.Instances.with_built_in.Goals as goal

-- three items one after the other
three_pushed : {X : Type 0} (xs one two three : List X) (x y z : X) → one ≡ xs ++ x ∷ [] → two ≡ one ++ y ∷ [] → three ≡ two ++ z ∷ []
    → three ≡ xs ++ (x ∷ y ∷ z ∷ [])
three_pushed xs one two three x y z a b c =
    c ∙ ap (λ s. s ++ z ∷ []) (b ∙ ap (λ s. s ++ y ∷ []) a ∙ append_assoc xs (x ∷ []) (y ∷ [])) ∙ append_assoc xs (x ∷ y ∷ []) (z ∷ [])

pub invariant_of-result : goal.invariant_of-result
invariant_of-result c =
    let held : c.into_vec-pairs.result.items ≡ c.args.self = c.into_vec-pairs.ensures ∙ c.self.view_is in
    let pushed : c.push-3.new.self.items ≡ c.args.self ++ built_in_instances =
    three_pushed c.args.self _ _ _ _ _ _ (c.in_ok-push.ensures.items ∙ ap (λ s. s ++ (1, 1) ∷ []) held) c.in_ok-push-2.ensures.items c.in_ok-push-3.ensures.items in
    let moves : IsPermutation (c.args.self ++ built_in_instances) c.sort.new.self.items = subst (λ s. IsPermutation s c.sort.new.self.items) pushed c.in_ok-sort.ensures.permutation in
    subst AreInstances (sym c.from_vec.ensures)
    (instances_with c.args.self c.sort.new.self.items (subst AreInstances c.self.view_is c.self.invariant) c.requires moves c.in_ok-sort.ensures.sorted)

pub returns-clause-order : goal.returns-clause-order
returns-clause-order c = invariant_of-result c
