-- The box as a type that may hold the type that holds it: contracts see the value in it.
use mathlib.Core.Path.{refl}
use mathlib.Core.Former.{Former, this, const, pair, via}
use base.Stored.{gnil}
use base.Fml.{ftrue}
use denote.RattleType.{RattleType}
use denote.Memory.{part_of}
use denote.RawPtr.{Ptr}
use denote.Sharing.{nothing}
use denote.HoleLaws.{Alike}
use denote.HolePlaces.{Recodes, struct_places, laid, one_value}
use denote.Hole.Fix.{over}
use denote.Param.Weighed.{Weighed}
use denote.Model.Placed.{view_places}
use Rattle.std.specs.declared.boxed.Box.{Box}
use Rattle.std.specs.contracts.boxed.Box as box
use Rattle.std.specs.declared.alloc.Global.{Global}
use Rattle.std.specs.contracts.alloc.Global as heap
use Rattle.std.specs.contracts.impls.GlobalAllocator.TheImpl.{ghosts}
use Rattle.fc_base.specs.declared.boxed.Boxed.TheInside.{Inside}
use Rattle.fc_base.specs.declared.boxed.Boxed.TheView.{view, invariant}
use Rattle.fc_base.specs.contracts.boxed.Boxed as contracts
use Rattle.fc_base.specs.contracts.boxed.Boxed.TheInside as inside

-- one value of what the former holds
abbrev pub the_former : Former {0} → Former {0}
the_former held = held

abbrev pub the_weighed : {held : Former {0}} → Weighed held → Weighed (the_former held)
the_weighed weighed = weighed

-- the struct's one field: a pointer, an allocator and the value
abbrev stored : Former {0}
stored =
    via (pair (const (Ptr × Global)) this) Inside (λ X s. ((s.inner.ptr, s.inner.alloc), s.inner.value))
    (λ X v. record { inner = record { ptr = v.0.0; alloc = v.0.1; value = v.1 } }) (λ X s. refl) (λ X v. refl)

-- the box with another value
abbrev with_value : {X Y : Type 0} → Box X Global → Y → Box Y Global
with_value b y = record { ptr = b.ptr; alloc = b.alloc; value = y }

abbrev box_of : RattleType → RattleType
box_of T = box.the_row T heap.the_row ghosts

module _ (From To : RattleType) (change : From.Denot → To.Denot) where
  box_places : Alike From To change → Alike (box_of From) (box_of To) (λ b. with_value b (change b.value))
  unfolding part_of
  box_places alike = record {
    mir_same = λ i. (box_of (one_value From (alike.mir_same i) (λ _. ftrue) (λ _ _. nothing) gnil)).mir;
    own_same = λ b i. (box_of (one_value From (alike.mir_same i) (alike.own_same b.value i) (alike.shr_same b.value i) gnil)).own_val (with_value b tt);
    shr_same = λ b i. (box_of (one_value From (alike.mir_same i) (alike.own_same b.value i) (alike.shr_same b.value i) gnil)).shr_at (with_value b tt);
  }

  pub the_places : Alike From To change
      → Alike (contracts.the_row From) (contracts.the_row To) ((the_former this).map From.Denot To.Denot change)
  the_places alike = view_places stored this view (λ X Y k u. refl) (λ X u. refl) From.Denot To.Denot change
      (contracts.the_row From).coded (contracts.the_row To).coded (invariant From.Denot) (invariant To.Denot)
      (λ u p q. refl) (λ u p q. refl) (λ u e. tt) (λ u e. tt) (over (inside.the_row From)) (over (inside.the_row To))
      (struct_places (inside.the_type From) (inside.the_type To) ((λ b. with_value b (change b.value)), tt) _ (λ d. refl) refl
      (laid _ _ _ (box_places alike), tt))

  pub the_codes_placed : Recodes From To change
      → Recodes (contracts.the_row From) (contracts.the_row To) ((the_former this).map From.Denot To.Denot change)
  the_codes_placed recodes value = recodes value
