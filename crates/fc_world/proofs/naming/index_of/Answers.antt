use Rattle.std.proofs.Common.{ap, sym, ◌∙◌}
use Rattle.std.specs.FinMap.{get, get-empty}
use Rattle.fc_keys.specs.Keys.{key_cmp}
use Rattle.fc_world.proofs.NamePlaces.{enters_next}
use Rattle.fc_world.proofs.naming.index_of.Goals as goal

pub loop-place-init : goal.loop-place-init
loop-place-init c name = ap (λ m. get m name) c.new-names.ensures.pairs ∙ get-empty key_cmp name

pub loop-place-preserved : goal.loop-place-preserved
loop-place-preserved c =
    enters_next _ _ _ c.index-transactions-place.result c.loop-place.place c.in-Ok.place _ c.in_ok-insert.field-0 c.loop-place.invariant c.loop-place-test.true (sym c.index-transactions-place.is)
    c.in-Ok.ensures.1 (c.in_ok-name.ensures ∙ c.as_bytes.ensures.value ∙ c.as_str.ensures) c.in_ok-insert.ensures.answer c.in_ok-insert.ensures.pairs
