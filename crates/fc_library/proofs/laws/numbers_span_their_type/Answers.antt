use Rattle.std.proofs.Common.{◌≡◌, Some, refl}
use Rattle.fc_types.specs.Types.{span}
use Rattle.fc_library.specs.Names.{greatest, is_signed, least, width}
use Rattle.fc_library.specs.declared.names.NumberName.{NumberName}
use Rattle.fc_library.specs.declared.names.NumberName.TheVariants.{U8, U16, U32, U64, I8, I16, I32, I64}
use Rattle.fc_library.proofs.laws.numbers_span_their_type.Goals as goal

each_span : (name : NumberName) → span (width name) (is_signed name) ≡ Some (least name, greatest name)
each_span U8 = refl
each_span U16 = refl
each_span U32 = refl
each_span U64 = refl
each_span I8 = refl
each_span I16 = refl
each_span I32 = refl
each_span I64 = refl

pub returns : goal.returns
returns c = each_span
