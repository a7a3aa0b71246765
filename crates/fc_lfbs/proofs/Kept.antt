-- The built-in classes keep the rules of a declared class.
use Rattle.std.proofs.Common.{◌≡◌, true, sym, subst, List, rules}
use Rattle.std.specs.List.{list_all}
use Rattle.fc_types.specs.Classes.{class_keeps}
use Rattle.fc_types.specs.Types.{inside, nests}
use Rattle.fc_types.specs.Libraries.{KeepRules}
use Rattle.fc_types.specs.declared.class.Class.{Class}
use Rattle.fc_types.specs.declared.class_rules.ClassRule.TheVariants.{Small, DistinctIds, Shallow, Ranges, AtomicKeys, Targets}
use Rattle.fc_types.specs.declared.ty.Ty.{the_lemmas}
use Rattle.fc_types.proofs.Inside.{inside_law}
use Rattle.fc_lfbs.specs.BuiltIns.{built_in}

small_kept : list_all (class_keeps Small) built_in ≡ true
small_kept = search (rules, the_lemmas)

distinct_kept : list_all (class_keeps DistinctIds) built_in ≡ true
distinct_kept = search (rules, the_lemmas, inside_law)

shallow_kept : list_all (class_keeps Shallow) built_in ≡ true
unfolding nests
shallow_kept = search (rules, the_lemmas)

ranges_kept : list_all (class_keeps Ranges) built_in ≡ true
ranges_kept = search (rules, the_lemmas, inside_law)

keys_kept : list_all (class_keeps AtomicKeys) built_in ≡ true
keys_kept = search (rules, the_lemmas, inside_law)

targets_kept : list_all (class_keeps Targets) built_in ≡ true
targets_kept = search (rules, the_lemmas)

pub built_in_kept : KeepRules built_in
built_in_kept Small = small_kept
built_in_kept DistinctIds = distinct_kept
built_in_kept Shallow = shallow_kept
built_in_kept Ranges = ranges_kept
built_in_kept AtomicKeys = keys_kept
built_in_kept Targets = targets_kept

pub kept_of : (classes : List Class) → classes ≡ built_in → KeepRules classes
kept_of classes e = subst KeepRules (sym e) built_in_kept
