-- A store that has the class Mastership as each element has it, and its instance 1. This profile's own.
use Rattle.std.specs.Prelude.{◌≡◌, ℕ, ◌==◌, ◌&&◌, Some, find, position}
use Rattle.fc_lfbs.specs.BuiltIns as built_ins
use Rattle.fc_store.specs.Stores.{Stored}
use Rattle.fc_types.specs.declared.class.Class.{Class}

pub record HasMastership (s : Stored) : Type 0 where
  pub class : find (λ (k : Class). k.id == 126977) s.library ≡ Some built_ins.mastership
  pub place : ℕ
  pub stands : position (λ (q : ℕ × ℕ). (q.0 == 126977) && (q.1 == 1)) s.instances ≡ Some place
