use Rattle.std.proofs.Common.{◌∙◌, sym, ap}
use Rattle.fc_types.specs.Types.{throughout}
use Rattle.fc_types.specs.TypeRules.{keeps}
use Rattle.fc_types.proofs.Inside.{inside_struct, inside_array, inside_other}
use Rattle.fc_types.proofs.type_rules.+throughout.Goals as goal

pub holds_inside-returns-in-Struct : goal.holds_inside-returns-in-Struct
holds_inside-returns-in-Struct t c = c.holds_in_fields.ensures ∙ sym (inside_struct (keeps c.args.rule) c.args.ty.now c.in-Struct.fields c.in-Struct.is)

pub holds_inside-returns-in-Array : goal.holds_inside-returns-in-Array
holds_inside-returns-in-Array t c =
    c.holds_throughout.ensures ∙ ap (throughout (keeps c.args.rule)) c.get.ensures
    ∙ sym (inside_array (keeps c.args.rule) c.args.ty.now c.in-Array.entry c.in-Array.entries c.in-Array.keys c.in-Array.is)

pub holds_inside-returns-in_default : goal.holds_inside-returns-in_default
holds_inside-returns-in_default t c = sym (inside_other (keeps c.args.rule) c.args.ty.now c.in_default.not-Struct c.in_default.not-Array)
