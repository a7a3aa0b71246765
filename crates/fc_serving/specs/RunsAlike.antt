-- Two runs of `element` that differ in how the bytes of a peer were cut alone. This profile's own.
use Rattle.std.specs.Prelude.{◌≡◌, ℕ, List, Option, Result, Ok, Err, option_map, ⊤}
use Rattle.fc_hub.specs.Hubs.{Held}
use Rattle.fc_hub.specs.declared.event.Act.{Act}
use Rattle.fc_serving.specs.declared.end.ElementEnd.{ElementEnd}
use Rattle.fc_serving.specs.declared.end.ElementEnd.TheVariants.{Done, ReadFault, HubFault, Refused, Turns, TooLong}
use Rattle.fc_endings.specs.declared.stops.Stop.{Stop}
use Rattle.fc_serving.specs.ElementRun.{element_status}
use Rattle.fc_serving.specs.Pieces.{unnumbered}

-- a run in which nothing failed, memory sufficed, and fewer events were taken than are to be taken
abbrev pub IsRunOut : Result ElementEnd Stop → Type 0
IsRunOut (Ok Done) = ⊤
IsRunOut (Ok Refused) = ⊤
IsRunOut (Ok TooLong) = ⊤
IsRunOut (Ok Turns) = ⊥
IsRunOut (Ok ReadFault) = ⊥
IsRunOut (Ok HubFault) = ⊥
IsRunOut (Err stop) = ⊥

-- the acts that a hub holds, without their numbers of events
abbrev pub acts_held : Option Held → Option (List Act)
acts_held held = option_map (λ h. unnumbered h.acts) held

-- two runs have one status, did the same acts in the same order but for their numbers, and wrote the same
pub record EndAlike (one other : Result ElementEnd Stop) (first second : Option Held) (written rewritten : Option (List ℕ)) : Type 0 where
  pub status : element_status one ≡ element_status other
  pub acts : acts_held first ≡ acts_held second
  pub text : written ≡ rewritten
