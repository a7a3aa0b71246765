-- The properties of a query's leaves stand each in its own leaf.
use Rattle.std.proofs.Common.{◌≡◌, Bool, true, false, List, [], ◌∷◌, ◌++◌, map, refl, ap}
use Rattle.fc_events.specs.declared.subscriptions.Subscription.{Subscription}
use Rattle.fc_ops.specs.Asking.{Asked, content_by, contents_of, prop_content, takes_prop}
use Rattle.fc_ops.specs.declared.asking.Prop.{Prop}
use Rattle.fc_ops.specs.declared.offers.Content.{Content}
use Rattle.fc_path.specs.declared.oper.Spot.{Spot}
use Rattle.fc_store.specs.Stores.{Stored}
use Rattle.fc_blocks.specs.Queries.{Telling, own_content, prop_at, props_if, props_of}

module _ (told : Telling) (s : Stored) (subs : List Subscription) where
  one_more : (b : Bool) (spot : Spot) (p : Prop) (rest : List Prop) (more : List Asked) (cs : List Content) → contents_of told s rest more ≡ cs
      → ((content_by told s (props_if b p ++ rest) spot b).0 ∷ contents_of told s (content_by told s (props_if b p ++ rest) spot b).1 more)
      ≡ ((content_by told s (props_if b p) spot b).0 ∷ cs)
  one_more true spot p rest more cs e = ap (λ (xs : List Content). prop_content p ∷ xs) e
  one_more false spot p rest more cs e = ap (λ (xs : List Content). (content_by told s [] spot false).0 ∷ xs) e

  pub each_own : (asked : List Asked) → contents_of told s (props_of told s subs asked) asked ≡ map (own_content told s subs) asked
  each_own [] = refl
  each_own (a ∷ more) =
      one_more (takes_prop a.0) a.1 (prop_at told s subs a.1) (props_of told s subs more) more (map (own_content told s subs) more) (each_own more)
