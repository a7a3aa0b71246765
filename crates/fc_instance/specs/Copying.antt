-- Copies of what undoes changes. This profile's own.
use Rattle.std.specs.Prelude.{◌≡◌}
use Rattle.fc_instance.specs.Histories.{IsRoomier}
use Rattle.fc_instance.specs.declared.instance.Inverse.{Inverse}
use Rattle.fc_instance.specs.declared.instance.Inverse.TheVariants as inverse

-- they undo the same change, and one gives at least as much room
abbrev pub IsAlike : Inverse → Inverse → Type 0
IsAlike (inverse.Whole c a) (inverse.Whole d b) = (d ≡ c) × IsRoomier a b
IsAlike (inverse.Whole c a) (inverse.Entry d s row) = ⊥
IsAlike (inverse.Entry c s row) (inverse.Whole d b) = ⊥
IsAlike (inverse.Entry c s row) (inverse.Entry d t other) = (d ≡ c) × (t ≡ s) × (other ≡ row)
