-- What control elements are told once the primary one is gone: RFC 5810, section 7.8 and appendix B.
use Rattle.std.specs.Prelude.{ℕ, List, [], ◌∷◌, map, Option, Some, None}
use Rattle.std.specs.FinMap.{entries}
use Rattle.fc_assoc.specs.Associations.{AssociationMap}
use Rattle.fc_events.specs.Telling.{primary_down}
use Rattle.fc_events.specs.declared.subscriptions.Notice.{Notice}
use Rattle.fc_events.specs.declared.subscriptions.Subscription.{Subscription}
use Rattle.fc_performing.specs.Notices.{notice_outs, route}
use Rattle.fc_performing.specs.declared.out.Out.{Out}
use Rattle.fc_types.specs.declared.class.Class.{Class}

abbrev pub listed : Option Notice → List Notice
listed None = []
listed (Some n) = n ∷ []

-- what a control element is told of that over its peer
abbrev pub down_to : ℕ → List Class → List Subscription → ℕ × ℕ → List Out
down_to id library subs seen = notice_outs library (route id seen.0 seen.1) (listed (primary_down seen.0 subs))

-- each control element that has an association, with its peer, by rising ID
abbrev pub peers_of : AssociationMap → List (ℕ × ℕ)
peers_of m = map (λ pair. (pair.0, pair.1.peer)) (entries m)
