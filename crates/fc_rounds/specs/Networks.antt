-- The network of the protocol that the setting of a world is. This profile's own.
use Rattle.std.specs.Prelude.{ℕ, ◌==◌, List, [], ◌∷◌, map, unwrap_or, if◌then◌else◌}
use Rattle.fc_protocol.specs.WorldSteps.{Network, controller_of}
use Rattle.fc_world.specs.Settings.{node_id}
use Rattle.fc_world.specs.declared.setting.Setting.{Setting}

-- the control element that is to configure an element, by the element's ID
abbrev pub first_ce : List (ℕ × ℕ) → ℕ → ℕ
first_ce [] f = 0
first_ce (e ∷ es) f = if f == e.0 then e.1 else first_ce es f

abbrev pub network_of : Setting → Network
network_of s = record { elements = map node_id s.elements; controllers = s.controllers; first_ce = first_ce s.elements }

-- the ID of the control element of this number, or 0
abbrev pub ce_of : Setting → ℕ → ℕ
ce_of s c = unwrap_or (controller_of s.controllers c) 0
