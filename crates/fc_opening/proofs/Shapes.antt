-- Values of the types of which the components of the element's own classes are made.
use Rattle.std.proofs.Common.{◌≡◌, ◌<◌, ◌≤◌, ◌+◌, ◌^◌, ℕ, ℤ, pos, suc, int_lt, Bool, true, false, IsUtf8, List, [], ◌∷◌, length, map, refl, sym, ap, subst, ◌∙◌, arith}
use Rattle.std.specs.List.{AllByRecursion}
use Rattle.std.proofs.lemmas.Int.{ints}
use Rattle.fc_types.specs.Types.{fields_of}
use Rattle.fc_types.specs.declared.ty.Field.{Field}
use Rattle.fc_types.specs.declared.ty.KeyDecl.{KeyDecl}
use Rattle.fc_types.specs.declared.ty.Ty.{Ty}
use Rattle.fc_types.specs.declared.ty.Ty.TheOpen.{Ty-F}
use Rattle.fc_types.specs.declared.ty.Ty.TheViews.{out-Ty, out-roll-Ty}
use Rattle.fc_types.specs.declared.ty.Ty.TheVariants as type
use Rattle.fc_value.specs.Fits.{EachFits, EntryFits, FitsIn, FitsLayer, Holding}
use Rattle.fc_value.specs.FullForm.{AreEntries, AreRising, InRange}
use Rattle.fc_value.specs.Keys.{keys_differ}
use Rattle.fc_value.specs.declared.value.Value.{Value}
use Rattle.fc_value.specs.declared.value.Value.TheVariants as value
use Rattle.fc_lfbs.specs.Kinds as kinds
use Rattle.fc_lfbs.specs.LiveValues.{numbered, table, word}
use Rattle.fc_opening.specs.TellsWords.{IsWord}

-- ---- numbers and texts
pub number_out : (w : ℕ) (s : Bool) (a b : ℤ) → out-Ty (type.Number w s a b) ≡ Ty-F.Number w s a b
number_out w s a b = ap out-Ty (sym (type.rolls-Number w s a b)) ∙ out-roll-Ty (Ty-F.Number w s a b)

pub number_fits : (d w : ℕ) (s : Bool) (a b z : ℤ) → InRange a b z → FitsIn (suc d) (type.Number w s a b) (value.Number z)
number_fits d w s a b z h = subst (λ (l : Ty-F Ty Field). FitsLayer (FitsIn d) l (value.Number z)) (sym (number_out w s a b)) (z, refl, h)

text_out : (n : ℕ) → out-Ty (type.String n) ≡ Ty-F.String n
text_out n = ap out-Ty (sym (type.rolls-String n)) ∙ out-roll-Ty (Ty-F.String n)

pub text_fits : (d n : ℕ) (text : List ℕ) → IsUtf8 text → length text ≤ n → FitsIn (suc d) (type.String n) (value.Text text)
text_fits d n text fine few = subst (λ (l : Ty-F Ty Field). FitsLayer (FitsIn d) l (value.Text text)) (sym (text_out n)) (text, refl, fine, few)

in_range : (m n : ℕ) → n ≤ m → InRange (pos 0) (pos m) (pos n)
in_range m n h = (grind (arith, ints, h), grind (arith, ints, h))

pub word_fits : (d n : ℕ) → IsWord n → FitsIn (suc d) kinds.word (word n)
word_fits d n h = number_fits d 4 false (pos 0) (pos 4294967295) (pos n) (in_range 4294967295 n (omega (arith, h)))

pub byte_fits : (d m n : ℕ) → n ≤ m → FitsIn (suc d) (kinds.byte_upto m) (word n)
byte_fits d m n h = number_fits d 1 false (pos 0) (pos m) (pos n) (in_range m n h)

pub words_fit : (d : ℕ) (ns : List ℕ) → AllByRecursion IsWord ns → AllByRecursion (FitsIn (suc d) kinds.word) (map word ns)
words_fit d [] a = tt
words_fit d (n ∷ ns) a = (word_fits d n a.0, words_fit d ns a.1)

-- ---- structs
pub struct_out : (fields : List Field) → out-Ty (type.Struct fields) ≡ Ty-F.Struct fields
struct_out fields = ap out-Ty (sym (type.rolls-Struct fields)) ∙ out-roll-Ty (Ty-F.Struct fields)

pub struct_fits : (d : ℕ) (fields : List Field) (vs : List Value) → EachFits (FitsIn d) fields vs → FitsIn (suc d) (type.Struct fields) (value.Group vs)
struct_fits d fields vs h = subst (λ (l : Ty-F Ty Field). FitsLayer (FitsIn d) l (value.Group vs)) (sym (struct_out fields)) (vs, refl, h)

-- ---- arrays
numbered_above : (k n : ℕ) (vs : List Value) → k < n → AllByRecursion (λ (f : ℕ × Value). k < f.0) (numbered n vs)
numbered_above k n [] h = tt
numbered_above k n (v ∷ vs) h = (h, numbered_above k (suc n) vs (omega (arith, h)))

numbered_rises : (n : ℕ) (vs : List Value) → AreRising (numbered n vs)
numbered_rises n [] = tt
numbered_rises n (v ∷ vs) = (numbered_above n (suc n) vs (omega arith), numbered_rises (suc n) vs)

numbered_long : (n : ℕ) (vs : List Value) → length (numbered n vs) ≡ length vs
numbered_long n [] = refl
numbered_long n (v ∷ vs) = ap suc (numbered_long (suc n) vs)

entries_fit : (d : ℕ) (entry : Ty) (n : ℕ) (vs : List Value) → n + length vs ≤ 65537 → AllByRecursion (FitsIn d entry) vs → AllByRecursion (EntryFits (FitsIn d) entry) (numbered n vs)
entries_fit d entry n [] few a = tt
entries_fit d entry n (v ∷ vs) few a = ((omega (arith, few), a.0), entries_fit d entry (suc n) vs (omega (arith, few)) a.1)

array_out : (entry : Ty) (limit : ℕ) (keys : List KeyDecl) → out-Ty (type.Array entry limit keys) ≡ Ty-F.Array entry limit keys
array_out entry limit keys = ap out-Ty (sym (type.rolls-Array entry limit keys)) ∙ out-roll-Ty (Ty-F.Array entry limit keys)

pub array_fits : (d : ℕ) (entry : Ty) (limit : ℕ) (keys : List KeyDecl) (vs : List Value) → length vs ≤ limit → limit ≤ 65536 → keys_differ (fields_of entry) keys (numbered 1 vs) ≡ true
    → AllByRecursion (FitsIn d entry) vs → FitsIn (suc d) (type.Array entry limit keys) (table vs)
array_fits d entry limit keys vs few most differ a =
    subst (λ (l : Ty-F Ty Field). FitsLayer (FitsIn d) l (table vs)) (sym (array_out entry limit keys)) (
      numbered 1 vs,
      refl,
      record { rising = numbered_rises 1 vs; few = omega (arith, numbered_long 1 vs, few); keyed = differ },
      entries_fit d entry 1 vs (omega (arith, few, most)) a,
    )

-- an array without keys
pub list_fits : (d : ℕ) (entry : Ty) (limit : ℕ) (vs : List Value) → length vs ≤ limit → limit ≤ 65536 → AllByRecursion (FitsIn d entry) vs → FitsIn (suc d) (kinds.array_of entry limit) (table vs)
list_fits d entry limit vs few most a = array_fits d entry limit [] vs few most refl a
