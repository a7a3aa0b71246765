-- What an input of one element makes of all of them. This profile's own.
use Rattle.std.specs.Prelude.{ℕ, List, Option, Some, None, option_map}
use Rattle.fc_element.specs.ElementMachine.{step}
use Rattle.fc_element.specs.ElementState.{ElementState, restarted}
use Rattle.fc_element.specs.declared.input.ElIn.{ElIn}
use Rattle.fc_performing.specs.declared.out.Out.{Out}
use Rattle.fc_world.specs.Lookups.{element_in, node_with, with_element}
use Rattle.fc_world.specs.declared.nodes.Node.{Node}

abbrev pub turned_node : ElIn → Node → Node
turned_node i n = node_with (step n.element i).state n

abbrev pub restarted_node : Node → Node
restarted_node n = node_with (restarted n.element) n

-- what the element sends, if it is there
abbrev pub outs_of : ElIn → ElementState → List Out
outs_of i e = (step e i).outs

abbrev pub outs_in : ℕ → ElIn → List Node → Option (List Out)
outs_in f i ns = option_map (outs_of i) (element_in f ns)

-- the elements then
abbrev pub turned_by : Option ElementState → ℕ → ElIn → List Node → List Node
turned_by None f i ns = ns
turned_by (Some e) f i ns = with_element f (step e i).state ns

abbrev pub turned_in : ℕ → ElIn → List Node → List Node
turned_in f i ns = turned_by (element_in f ns) f i ns

abbrev pub restarted_by : Option ElementState → ℕ → List Node → List Node
restarted_by None f ns = ns
restarted_by (Some e) f ns = with_element f (restarted e) ns

abbrev pub restarted_in : ℕ → List Node → List Node
restarted_in f ns = restarted_by (element_in f ns) f ns
