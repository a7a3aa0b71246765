-- A ground whose configurations are kept by instances has the laws of a store.
use Rattle.std.proofs.Common.{◌≡◌, ℕ, List, sym, ap, ◌∙◌, subst}
use Rattle.fc_headline.specs.Instances.{ByInstances}
use Rattle.fc_machine.specs.Ground.{Ground, Lawful, Commute}
use Rattle.fc_machine.specs.Instances.{Held, by_instance}
use Rattle.fc_machine.proofs.Instances.{apart_commute, refused_keeps, nowhere_refused}

pub instances_lawful : {X Op Subs : Type 0} (g : Ground (List (Held X)) Op Subs) → ByInstances g → Lawful g
instances_lawful {X} {Op} {Subs} g i =
    let effect : List (Held X) → Op → List (Held X) × ℕ = by_instance g.place_of i.local i.nowhere i.no_instance in
    let same : effect ≡ g.effect = λ t c op. sym (i.effect c op) t in
    record {
      refused = λ c op n. ap (λ (s : List (Held X) × ℕ). s.0) (i.effect c op) ∙ refused_keeps g.place_of i.local i.nowhere i.no_instance i.refused c op (λ z. n (ap (λ (s : List (Held X) × ℕ). s.1) (i.effect c op) ∙ z));
      placeless = λ c op e z. nowhere_refused g.place_of i.local i.nowhere i.no_instance i.placeless c op e (sym (ap (λ (s : List (Held X) × ℕ). s.1) (i.effect c op)) ∙ z);
      apart = λ a b p q e f d. subst (λ (v : List (Held X) → Op → List (Held X) × ℕ). Commute v a b) same (apart_commute g.place_of i.local i.nowhere i.no_instance a b p q e f d);
    }
