-- The list as a type that may hold the type that holds it: a vector, of which contracts see the items.
use mathlib.Core.Path.{◌≡◌, refl, sym}
use mathlib.Core.List.{List, []}
use mathlib.Core.Former.{Former, this, list, via, children}
use base.Stored.{code_map}
use denote.RattleType.{RattleType}
use denote.HoleLaws.{Alike}
use denote.HolePlaces.{Recodes, struct_places, laid}
use denote.Hole.Carrier.{listed, list-listed}
use denote.Hole.Fix.{over}
use denote.Param.Weighed.{Weighed, w_list}
use denote.Model.Placed.{view_places}
use Rattle.std.specs.formers.vec.Vec as vec
use Rattle.std.specs.declared.alloc.Global.{Global}
use Rattle.std.specs.contracts.alloc.Global as heap
use Rattle.std.specs.contracts.impls.GlobalAllocator.TheImpl.{ghosts}
use Rattle.fc_base.specs.declared.list.List.TheInside.{Inside}
use Rattle.fc_base.specs.declared.list.List.TheView.{view, invariant}
use Rattle.fc_base.specs.contracts.list.List as contracts
use Rattle.fc_base.specs.contracts.list.List.TheInside as inside

-- one list of what the former holds
abbrev pub the_former : Former {0} → Former {0}
the_former held = list held

abbrev pub the_weighed : {held : Former {0}} → Weighed held → Weighed (the_former held)
the_weighed weighed = w_list weighed

-- the list that weighs nothing
pub the_empty : List ⊥
the_empty = []

-- contracts see the items themselves
abbrev pub the_items : (X : Type 0) → List X → List X
the_items X items = items

pub the_items_listed : (X : Type 0) (items : List X) → listed _ (children (the_former this) X items) ≡ the_items X items
the_items_listed X items = list-listed X items

-- the struct's one field, a vector
abbrev stored : Former {0}
stored =
    via (vec.the_former this Global) Inside (λ X s. s.items) (λ X items. record { items = items }) (λ X s. refl) (λ X items. refl)

module _ (From To : RattleType) (change : From.Denot → To.Denot) where
  pub the_places : Alike From To change
      → Alike (contracts.the_row From) (contracts.the_row To) ((the_former this).map From.Denot To.Denot change)
  the_places alike = view_places stored (list this) view (λ X Y k u. refl) (λ X u. refl) From.Denot To.Denot change
      (contracts.the_row From).coded (contracts.the_row To).coded (invariant From.Denot) (invariant To.Denot)
      (λ u p q. refl) (λ u p q. refl) (λ u e. tt) (λ u e. tt) (over (inside.the_row From)) (over (inside.the_row To))
      (struct_places (inside.the_type From) (inside.the_type To) (vec.mapped change, tt) _ (λ d. refl) refl
      (laid _ _ _ (vec.the_places heap.the_row ghosts From To change alike), tt))

  pub the_codes_placed : Recodes From To change
      → Recodes (contracts.the_row From) (contracts.the_row To) ((the_former this).map From.Denot To.Denot change)
  the_codes_placed recodes items = sym (code_map From.coded.code To.coded.code change (λ x. sym (recodes x)) items)
