-- What an element answers to a query: RFC 5810, section 7.7. The code of a query for another element is this profile's own.
use Rattle.std.specs.Prelude.{ℕ, Bool, true, false, List, [], ◌∷◌, Option, Result, Ok, Err}
use Rattle.std.specs.List.{flat_map}
use Rattle.fc_events.specs.Properties.{get_spot}
use Rattle.fc_events.specs.declared.subscriptions.Subscription.{Subscription}
use Rattle.fc_path.specs.declared.oper.Select.{Select}
use Rattle.fc_path.specs.declared.oper.Spot.{Spot}
use Rattle.fc_ops.specs.Answering.{answered, response_fits}
use Rattle.fc_ops.specs.Asking.{Asked, content_of, contents_of, questions, takes_prop}
use Rattle.fc_ops.specs.Filling.{selects_filled}
use Rattle.fc_ops.specs.declared.asking.Prop.{Prop}
use Rattle.fc_ops.specs.declared.asking.Prop.TheVariants as prop
use Rattle.fc_ops.specs.declared.offers.Content.{Content}
use Rattle.fc_reply.specs.Answered.{answered_selects}
use Rattle.fc_reply.specs.Counting.{each_gets}
use Rattle.fc_store.specs.Stores.{Stored}
use Rattle.fc_value.specs.declared.value.Value.{Value}
use Rattle.fc_wire.specs.declared.ilvs.Ilv.{Ilv}

-- what an element tells of a component of an instance by their IDs, where that stands in no configuration
abbrev pub Telling : Type 0
Telling = ℕ → ℕ → ℕ → Option Value

-- ---- properties
abbrev pub prop_by : Result (List Ilv) ℕ → Prop
prop_by (Ok ilvs) = prop.Held ilvs
prop_by (Err code) = prop.Refused code

-- the properties of what a spot leads to, or the code by which there are none
abbrev pub prop_at : Telling → Stored → List Subscription → Spot → Prop
prop_at told store subs spot = prop_by (get_spot told store subs spot)

abbrev pub props_if : Bool → Prop → List Prop
props_if true p = p ∷ []
props_if false p = []

-- those of a leaf, where it asks for properties
abbrev pub asked_props : Telling → Stored → List Subscription → Asked → List Prop
asked_props told store subs asked = props_if (takes_prop asked.0) (prop_at told store subs asked.1)

-- those of each leaf that asks for properties, in their order
abbrev pub props_of : Telling → Stored → List Subscription → List Asked → List Prop
props_of told store subs asked = flat_map (asked_props told store subs) asked

-- what a leaf holds: of a GET-PROP its own properties, of a GET the value
abbrev pub own_content : Telling → Stored → List Subscription → Asked → Content
own_content told store subs asked = (content_of told store (asked_props told store subs asked) asked).0

-- ---- answers
-- what each leaf leads to, where there is room for it
abbrev pub told_selects : Telling → Stored → List Subscription → List Select → List Select
told_selects told store subs selects =
    (selects_filled selects
    (answered (response_fits selects) (contents_of told store (props_of told store subs (questions selects)) (questions selects)))).0

-- the code of another destination in each leaf
abbrev pub foreign_selects : List Select → List Select
foreign_selects selects = answered_selects selects (each_gets 4 selects)
