use Rattle.std.proofs.Common.{◌≡◌, drop}
use Rattle.std.specs.List.{list_all}
use Rattle.fc_types.specs.Classes.{class_keeps}
use Rattle.fc_types.proofs.class_rules.all_keep.Given as goal

abbrev pub invariant-loop-class : goal.invariant-loop-class
invariant-loop-class l = list_all (class_keeps l.rule) (drop l.class-index l.classes) ≡ list_all (class_keeps l.rule) l.classes
