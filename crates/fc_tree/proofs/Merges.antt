-- Changes of the fields of a struct or of the entries of an array.
use Rattle.std.proofs.Common.{◌≡◌, ◌<◌, ◌==◌, ℕ, zero, suc, List, [], ◌∷◌, ◌++◌, length, position, slice_set, slice_index_or, refl, sym, ap, subst, ◌∙◌, arith}
use Rattle.std.specs.List.{AllWithin, insert}
use Rattle.std.specs.Ordering.{nat_cmp}
use Rattle.std.specs.FinMap.{nat_cmp-IsAntisymmetric}
use Rattle.std.specs.FinMap.Entries.{put}
use Rattle.fc_tree.specs.Places.{Belongs}
use Rattle.fc_tree.proofs.Places.{put_belongs}
use Rattle.std.specs.Cmp.{nat_cmp_is, nat_cmp_total, tied_itself}
use Rattle.std.specs.declared.cmp.Ordering.TheVariants.{Greater}
use Rattle.fc_types.specs.Types.{field_id}
use Rattle.fc_types.specs.declared.ty.Field.{Field}
use Rattle.fc_value.specs.declared.value.Value.{Value}
use Rattle.fc_tree.specs.Merging.{IsHere, merged_fields, merged_rows, with_field}

abbrev Entries : Type 0
Entries = List (ℕ × Value)

pub rows_last : (cs : Entries) (s : ℕ) (w : Value) (es : Entries) → merged_rows (cs ++ (s, w) ∷ []) es ≡ merged_rows cs (put nat_cmp s w es)
rows_last [] s w es = refl
rows_last (c ∷ cs) s w es = ap (put nat_cmp c.0 c.1) (rows_last cs s w es)

pub fields_last : (fields : List Field) (cs : Entries) (s : ℕ) (w v : Value) → merged_fields fields (cs ++ (s, w) ∷ []) v ≡ merged_fields fields cs (with_field (position (λ f. field_id f == s) fields) w v)
fields_last fields [] s w v = refl
fields_last fields (c ∷ cs) s w v = ap (with_field (position (λ f. field_id f == c.0) fields) c.1) (fields_last fields cs s w v)

greater_is : (x y : ℕ) → y < x → nat_cmp x y ≡ Greater
greater_is x y l = sym (nat_cmp_is x y Greater l)

-- another value where a subscript stands
pub put_here : (s i : ℕ) (es : Entries) (x : ℕ × Value) (w : Value) → IsHere s i es → x ≡ slice_index_or es i x → slice_set es i (x.0, w) ≡ put nat_cmp s w es
put_here s i [] x w h e = absurd h
put_here s zero (y ∷ es) x w h e =
    let k : y.0 ≡ x.0 = ap (λ (p : ℕ × Value). p.0) (sym e) in
    rw (ap (nat_cmp s) h ∙ tied_itself nat_cmp_total s) (ap (λ (n : ℕ). (n, w) ∷ es) (sym k))
put_here s (suc i) (y ∷ es) x w h e = rw (greater_is s y.0 h.0) (ap (λ (zs : Entries). y ∷ zs) (put_here s i es x w h.1 e))

pub is_here : (s i : ℕ) (es : Entries) (x : ℕ × Value) → i < length es → AllWithin (λ (e : ℕ × Value). e.0 < s) es 0 i → x ≡ slice_index_or es i x → x.0 ≡ s → IsHere s i es
is_here s i [] x lt a e h = absurd (omega arith)
is_here s zero (y ∷ es) x lt a e h = ap (λ (p : ℕ × Value). p.0) (sym e) ∙ h
is_here s (suc i) (y ∷ es) x lt a e h = (a zero y (omega arith) (omega arith), is_here s i es x (omega arith) (λ j d p q. a (suc j) d (omega arith) (omega arith)) e h)

pub row_set : (s i : ℕ) (es part items : Entries) (x : ℕ × Value) (w d : Value) → part ≡ es → items ≡ es → IsHere s i part → x ≡ slice_index_or items i x → d ≡ w → slice_set items i (x.0, d) ≡ put nat_cmp s w es
row_set s i es part items x w d p q h e f =
    ap (λ (zs : Entries). slice_set zs i (x.0, d)) q ∙ ap (λ (v : Value). slice_set es i (x.0, v)) f
    ∙ put_here s i es x w (subst (λ (zs : Entries). IsHere s i zs) p h) (subst (λ (zs : Entries). x ≡ slice_index_or zs i x) q e)

pub row_new : (s i : ℕ) (es part items new : Entries) (w : Value) → part ≡ es → items ≡ es → Belongs nat_cmp s i part → new ≡ insert items i (s, w) → new ≡ put nat_cmp s w es
row_new s i es part items new w p q h n =
    n ∙ ap (λ (zs : Entries). insert zs i (s, w)) q ∙ put_belongs {X = Value} nat_cmp nat_cmp_total nat_cmp-IsAntisymmetric s w i es (subst (λ (zs : Entries). Belongs nat_cmp s i zs) p h)

pub rows_popped : (all rest es end : Entries) (s : ℕ) (w : Value) (new : Entries) → all ≡ rest ++ (s, w) ∷ [] → new ≡ put nat_cmp s w es → merged_rows all es ≡ end → merged_rows rest new ≡ end
rows_popped all rest es end s w new p n h = ap (merged_rows rest) n ∙ sym (rows_last rest s w es) ∙ sym (ap (λ (cs : Entries). merged_rows cs es) p) ∙ h

pub fields_popped : (fields : List Field) (all rest : Entries) (v end : Value) (s : ℕ) (w new : Value) → all ≡ rest ++ (s, w) ∷ [] → new ≡ with_field (position (λ f. field_id f == s) fields) w v
    → merged_fields fields all v ≡ end → merged_fields fields rest new ≡ end
fields_popped fields all rest v end s w new p n h =
    ap (merged_fields fields rest) n ∙ sym (fields_last fields rest s w v) ∙ sym (ap (λ (cs : Entries). merged_fields fields cs v) p) ∙ h
