-- How deep a type nests, one level at a time.
use Rattle.std.proofs.Common.{◌≡◌, ℕ, zero, suc, true}
use Rattle.fc_types.specs.Types.{nests, nests_layer}
use Rattle.fc_types.specs.declared.ty.Ty.{Ty}
use Rattle.fc_types.specs.declared.ty.Ty.TheViews.{out-Ty}

pub no_depth : (ty : Ty) → nests zero ty ≡ true → ⊥
unfolding nests
no_depth ty e = cc

pub one_level : (depth : ℕ) (ty : Ty) → nests (suc depth) ty ≡ true → nests_layer (nests depth) (out-Ty ty) ≡ true
unfolding nests
one_level depth ty e = e
