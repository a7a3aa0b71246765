-- A value whose full form stands in bytes fits.
use Rattle.std.proofs.Common.{ℕ, zero, suc, ◌+◌, ◌^◌, ◌<◌, List, [], ◌∷◌, ◌++◌, length, sym, subst, arith}
use Rattle.std.specs.List.{AllByRecursion}
use Rattle.fc_types.specs.Types.{field_ty}
use Rattle.fc_types.specs.declared.ty.Field.{Field}
use Rattle.fc_types.specs.declared.ty.Ty.{Ty}
use Rattle.fc_types.specs.declared.ty.Ty.TheOpen.{Ty-F}
use Rattle.fc_types.specs.declared.ty.Ty.TheViews.{out-Ty}
use Rattle.fc_wire.specs.Bytes.{u16_bytes, u32_bytes, AreBytes}
use Rattle.fc_wire.specs.Tlvs.{IsTlv}
use Rattle.fc_value.specs.Numbers.{number_of}
use Rattle.fc_value.specs.Fits.{EachFits, EntryFits, FitsLayer, FitsIn, Fits}
use Rattle.fc_value.specs.FullForm.{EachField, EachEntry, AreJoined, IsTable, InsideLayer, IsInside, FullLayer, IsFull}
use Rattle.fc_value.specs.declared.value.Value.{Value}
use Rattle.fc_value.proofs.Sound.{front_bytes, back_bytes, split_front, split_back}

tlv_bytes_are : (body padded bytes : List ℕ) → IsTlv 274 body padded bytes → AreBytes bytes → AreBytes body
tlv_bytes_are body padded bytes t fine =
    front_bytes body t.padding (subst AreBytes t.value (back_bytes (u16_bytes 274 ++ u16_bytes (length body + 4)) padded (subst AreBytes t.spelled fine)))

module _ (P : ℕ × Value → Type 0) where
  all_put : (f b : List (ℕ × Value)) (p : ℕ × Value) → P p → AllByRecursion P (f ++ b) → AllByRecursion P (f ++ p ∷ b)
  all_put [] b p h all = (h, all)
  all_put (e ∷ f) b p h all = (all.0, all_put f b p h all.1)

  all_joined : (old ps es : List (ℕ × Value)) → AreJoined old ps es → AllByRecursion P old → AllByRecursion P ps → AllByRecursion P es
  all_joined old [] es j a b = subst (AllByRecursion P) (sym j) a
  all_joined old (p ∷ ps) es j a b = all_joined (j.0 ++ p ∷ j.1) ps es j.3 (all_put j.0 j.1 p b.0 (subst (AllByRecursion P) j.2 a)) b.1

subscript_fits : (n : ℕ) (rest : List ℕ) → AreBytes (u32_bytes n ++ rest) → n < 2 ^ 32
subscript_fits n rest h = omega (arith, h.0)

module _ (depth : ℕ) (fit : (ty : Ty) (v : Value) (bytes : List ℕ) → AreBytes bytes → IsInside depth ty v bytes → FitsIn depth ty v) where
  fields_fit : (fs : List Field) (vs : List Value) (bytes : List ℕ) → AreBytes bytes → EachField (IsInside depth) fs vs bytes → EachFits (FitsIn depth) fs vs
  fields_fit [] [] bytes fine h = tt
  fields_fit [] (v ∷ vs) bytes fine h = absurd h
  fields_fit (f ∷ fs) [] bytes fine h = absurd h
  fields_fit (f ∷ fs) (v ∷ vs) bytes fine h =
      (fit (field_ty f) v h.0 (split_front bytes h.0 h.1 h.2 fine) h.3, fields_fit fs vs h.1 (split_back bytes h.0 h.1 h.2 fine) h.4)

  entries_fit : (entry : Ty) (ps : List (ℕ × Value)) (bytes : List ℕ) → AreBytes bytes → EachEntry (IsInside depth) entry ps bytes → AllByRecursion (EntryFits (FitsIn depth) entry) ps
  entries_fit entry [] bytes fine h = tt
  entries_fit entry (p ∷ ps) bytes fine h =
      let e = h.3 in
      let front = subst AreBytes e.1 (split_front bytes h.0 h.1 h.2 fine) in
      ((subscript_fits p.0 e.0 front, fit entry p.1 e.0 (back_bytes (u32_bytes p.0) e.0 front) e.2), entries_fit entry ps h.1 (split_back bytes h.0 h.1 h.2 fine) h.4)

  table_fits : (entry : Ty) (limit : ℕ) (keys : _) (v : Value) (bytes : List ℕ) → AreBytes bytes → IsTable (IsInside depth) entry limit keys v bytes
      → FitsLayer (FitsIn depth) (Ty-F.Array entry limit keys) v
  table_fits entry limit keys v bytes fine h =
      (h.0, h.2, h.3, all_joined (EntryFits (FitsIn depth) entry) [] h.1 h.0 h.4 tt (entries_fit entry h.1 bytes fine h.5))

  layer_fits : (l : Ty-F Ty Field) (v : Value) (bytes : List ℕ) → AreBytes bytes → InsideLayer (IsInside depth) l v bytes → FitsLayer (FitsIn depth) l v
  layer_fits Ty-F.Bool v bytes fine h = (h.1, h.2)
  layer_fits (Ty-F.Number w s min max) v bytes fine h = (number_of s bytes, h.0, h.3)
  layer_fits (Ty-F.String n) v bytes fine h = (h.0, h.3.0, h.3.1, h.3.2)
  layer_fits (Ty-F.Octets n) v bytes fine h = (h.0, h.3.0, tlv_bytes_are h.0 h.1 bytes h.2 fine, h.3.1)
  layer_fits (Ty-F.Bytes n) v bytes fine h = (bytes, h.0, fine, h.1)
  layer_fits (Ty-F.Struct fields) v bytes fine h = (h.0, h.1, fields_fit fields h.0 bytes fine h.2)
  layer_fits (Ty-F.Array entry limit keys) v bytes fine h = table_fits entry limit keys v h.0 (tlv_bytes_are h.0 h.1 bytes h.2 fine) h.3

inside_fits : (depth : ℕ) (ty : Ty) (v : Value) (bytes : List ℕ) → AreBytes bytes → IsInside depth ty v bytes → FitsIn depth ty v
inside_fits zero ty v bytes fine h = absurd h
inside_fits (suc depth) ty v bytes fine h = layer_fits depth (inside_fits depth) (out-Ty ty) v bytes fine h

full_layer_fits : (l : Ty-F Ty Field) (v : Value) (bytes : List ℕ) → AreBytes bytes → FullLayer (IsInside 7) l v bytes → FitsLayer (FitsIn 7) l v
full_layer_fits (Ty-F.String n) v bytes fine h = (bytes, h.0, h.1, h.2)
full_layer_fits (Ty-F.Octets n) v bytes fine h = (bytes, h.0, fine, h.1)
full_layer_fits (Ty-F.Array entry limit keys) v bytes fine h = table_fits 7 (inside_fits 7) entry limit keys v bytes fine h
full_layer_fits Ty-F.Bool v bytes fine h = layer_fits 7 (inside_fits 7) Ty-F.Bool v bytes fine h
full_layer_fits (Ty-F.Number w s min max) v bytes fine h = layer_fits 7 (inside_fits 7) (Ty-F.Number w s min max) v bytes fine h
full_layer_fits (Ty-F.Bytes n) v bytes fine h = layer_fits 7 (inside_fits 7) (Ty-F.Bytes n) v bytes fine h
full_layer_fits (Ty-F.Struct fields) v bytes fine h = layer_fits 7 (inside_fits 7) (Ty-F.Struct fields) v bytes fine h

pub full_fits : (ty : Ty) (v : Value) (bytes : List ℕ) → AreBytes bytes → IsFull ty v bytes → Fits ty v
full_fits ty v bytes fine h = full_layer_fits (out-Ty ty) v bytes fine h
