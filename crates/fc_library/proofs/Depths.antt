-- Tables inside a table are less deep, so that the reader of types ends, and has the law that its definition wants.
use Rattle.std.proofs.Common.{◌≡◌, ℕ, zero, suc, ◌<◌, ◌≤◌, max, List, [], ◌∷◌, length, get_or, Option, Some, None, Result, Ok, Err, Ordering, Less, Equal, Greater, nat_cmp, codes, refl, ap, inl, inr, arith}
use Rattle.std.proofs.lemmas.Bool.{cases_Bool}
use Rattle.std.specs.Cmp.Lexicographic.{slice_cmp}
use Rattle.std.specs.Ordering.{match_ordering}
use Rattle.toml.specs.Data.{Data, string, integer, float, boolean, datetime, array, table, Items, no_items, item, Members, no_members, member, get_member, depth, items_depth, members_depth}
use Rattle.toml.specs.View.{view, items_view}
use Rattle.toml.specs.declared.value.Value.{Value}
use Rattle.fc_library.specs.declared.fault.LibFault.{LibFault}
use Rattle.fc_types.specs.declared.ty.Field.{Field, roll-Field}
use Rattle.fc_types.specs.declared.ty.Ty.{Ty}
use Rattle.fc_types.specs.declared.ty.Ty as v
use Rattle.fc_library.specs.declared.names.TypeName.{TypeName}
use Rattle.fc_library.specs.declared.names.TypeName.TheVariants as type
use Rattle.fc_base.specs.Answers.{◌>>=◌}
use Rattle.fc_library.specs.Keys.{only, needed, tables, are_tables, one_table, tables_at, tables_or_none, table_at, text_at, number_at}
use Rattle.fc_library.specs.Names.{named, type_at, type_keys}
use Rattle.fc_library.specs.Types.{each, key, field_in, entry_in, type_in, type_by, type_of}

member_depth : (o : Ordering) (d e : Data) (rest : Option Data) (n : ℕ) → ((x : Data) → rest ≡ Some x → depth x ≤ n) → match_ordering o rest (Some d) rest ≡ Some e → depth e ≤ max (depth d) n
member_depth Less d e rest n ih h = let g : depth e ≤ n = ih e h in omega arith
member_depth Equal d e rest n ih h = let g : d ≡ e = cc in rw g (omega arith)
member_depth Greater d e rest n ih h = let g : depth e ≤ n = ih e h in omega arith

pub get_member_depth : (k : List ℕ) (ms : Members) (e : Data) → get_member k ms ≡ Some e → depth e ≤ members_depth ms
get_member_depth k no_members e h = cc
get_member_depth k (member l d ms) e h = member_depth (slice_cmp nat_cmp k l) d e (get_member k ms) (members_depth ms) (λ x r. get_member_depth k ms x r) h

tables_depth : (key : List ℕ) (d : Data) (ds : Items) → tables key d ≡ Ok ds → suc (items_depth ds) ≤ depth d
tables_depth key (array es) ds h =
    elim (cases_Bool (are_tables es)) [
      | inl all ↦ let e : es ≡ ds = (let g = rw all at h in cc) in rw e (omega arith)
      | inr some ↦ let g = rw some at h in cc
    ]
tables_depth key (string s) ds h = cc
tables_depth key (integer z) ds h = cc
tables_depth key (float x) ds h = cc
tables_depth key (boolean b) ds h = cc
tables_depth key (datetime t) ds h = cc
tables_depth key (table ms) ds h = cc

table_depth : (key : List ℕ) (d : Data) (ms : Members) → one_table key d ≡ Ok ms → suc (members_depth ms) ≤ depth d
table_depth key (table ns) ms h = let e : ns ≡ ms = cc in rw e (omega arith)
table_depth key (string s) ms h = cc
table_depth key (integer z) ms h = cc
table_depth key (float x) ms h = cc
table_depth key (boolean b) ms h = cc
table_depth key (datetime t) ms h = cc
table_depth key (array ds) ms h = cc

needed_depth : {A : Type 0} (key : List ℕ) (read : Data → Result A LibFault) (size : A → ℕ) (o : Option Data) (n : ℕ) (x : A)
    → ((d : Data) (y : A) → read d ≡ Ok y → suc (size y) ≤ depth d) → ((d : Data) → o ≡ Some d → depth d ≤ n) → needed key read o ≡ Ok x → suc (size x) ≤ n
needed_depth key read size None n x below within h = cc
needed_depth key read size (Some d) n x below within h =
    let a : suc (size x) ≤ depth d = below d x h in
    let b : depth d ≤ n = within d refl in
    omega arith

pub tables_at_depth : (key : List ℕ) (ms : Members) (ds : Items) → tables_at key ms ≡ Ok ds → suc (items_depth ds) ≤ members_depth ms
tables_at_depth key ms ds h = needed_depth key (tables key) items_depth (get_member key ms) _ ds (λ d y e. tables_depth key d y e) (λ d e. get_member_depth key ms d e) h

pub table_at_depth : (key : List ℕ) (ms ns : Members) → table_at key ms ≡ Ok ns → suc (members_depth ns) ≤ members_depth ms
table_at_depth key ms ns h = needed_depth key (one_table key) members_depth (get_member key ms) _ ns (λ d y e. table_depth key d y e) (λ d e. get_member_depth key ms d e) h

pub item_depth : (vs : List Value) (i : ℕ) (d : Value) → i < length vs → depth (view (get_or vs i d)) ≤ items_depth (items_view vs)
item_depth [] i d h = absurd (omega arith)
item_depth (v ∷ vs) zero d h = omega arith
item_depth (v ∷ vs) (suc i) d h = let g : depth (view (get_or vs i d)) ≤ items_depth (items_view vs) = item_depth vs i d (omega arith) in omega arith

-- readers that agree on less deep tables
bind_same : {A B : Type 0} (r : Result A LibFault) (f g : A → Result B LibFault) → ((x : A) → r ≡ Ok x → f x ≡ g x) → (r >>= f) ≡ (r >>= g)
bind_same (Ok x) f g same = same x refl
bind_same (Err e) f g same = refl

each_same : {A : Type 0} (f g : Members → Result A LibFault) (ds : Items) → ((ms : Members) → suc (members_depth ms) ≤ items_depth ds → f ms ≡ g ms) → each f ds ≡ each g ds
each_same f g no_items same = refl
each_same f g (item (table ms) ds) same =
    rw (same ms (omega arith), each_same f g ds (λ ns h. same ns (omega arith)))
each_same f g (item (string s) ds) same = each_same f g ds (λ ns h. same ns (omega arith))
each_same f g (item (integer z) ds) same = each_same f g ds (λ ns h. same ns (omega arith))
each_same f g (item (float x) ds) same = each_same f g ds (λ ns h. same ns (omega arith))
each_same f g (item (boolean b) ds) same = each_same f g ds (λ ns h. same ns (omega arith))
each_same f g (item (datetime t) ds) same = each_same f g ds (λ ns h. same ns (omega arith))
each_same f g (item (array es) ds) same = each_same f g ds (λ ns h. same ns (omega arith))

field_same : (f g : TypeName → Members → Result Ty LibFault) (ms : Members) → ((w : TypeName) → f w ms ≡ g w ms) → field_in f ms ≡ field_in g ms
field_same f g ms same =
    let field : (TypeName → Result Ty LibFault) → Result Field LibFault = λ h.
    only (codes "id" ∷ codes "name" ∷ codes "type" ∷ type_keys (named ms)) ms >>= λ _.
    number_at (codes "id") 0 4294967295 ms >>= λ id.
    text_at (codes "name") ms >>= λ name.
    type_at ms >>= λ word.
    h word >>= λ ty.
    Ok (roll-Field (record { id = id; name = name; ty = ty })) in
    λ i. field (λ w. same w i)

entry_same : (f g : TypeName → Members → Result Ty LibFault) (ms : Members) → ((w : TypeName) → f w ms ≡ g w ms) → entry_in f ms ≡ entry_in g ms
entry_same f g ms same =
    let entry : (TypeName → Result Ty LibFault) → Result Ty LibFault = λ h.
    only (codes "type" ∷ type_keys (named ms)) ms >>= λ _.
    type_at ms >>= λ word.
    h word in
    λ i. entry (λ w. same w i)

-- an array, by what the type of its entry is
abbrev array_of : Members → Result Ty LibFault → Result Ty LibFault
array_of ms entry =
    number_at (codes "entries") 0 4294967295 ms >>= λ n.
    tables_or_none (codes "keys") ms >>= λ key_tables.
    entry >>= λ t.
    each key key_tables >>= λ keys.
    Ok (v.Array t n keys)

type_same : (f g : TypeName → Members → Result Ty LibFault) (w : TypeName) (ms : Members)
    → ((v : TypeName) (ns : Members) → suc (members_depth ns) ≤ members_depth ms → f v ns ≡ g v ns) → type_in f w ms ≡ type_in g w ms
type_same f g type.Bool ms same = refl
type_same f g (type.Number n) ms same = refl
type_same f g type.String ms same = refl
type_same f g type.Octets ms same = refl
type_same f g type.Bytes ms same = refl
type_same f g type.Struct ms same =
    bind_same (tables_at (codes "fields") ms)
    (λ ds. each (field_in f) ds >>= λ fields. Ok (v.Struct fields))
    (λ ds. each (field_in g) ds >>= λ fields. Ok (v.Struct fields))
    (λ ds e.
    let inside = tables_at_depth (codes "fields") ms ds e in
    ap (λ (r : Result (List Field) LibFault). r >>= λ fields. Ok (v.Struct fields))
    (each_same (field_in f) (field_in g) ds (λ ns h. field_same f g ns (λ w. same w ns (omega arith)))))
type_same f g type.Array ms same =
    bind_same (table_at (codes "entry") ms)
    (λ ns. array_of ms (entry_in f ns))
    (λ ns. array_of ms (entry_in g ns))
    (λ ns e.
    let inside = table_at_depth (codes "entry") ms ns e in
    ap (λ (r : Result Ty LibFault). array_of ms r) (entry_same f g ns (λ w. same w ns inside)))

type_by_same : (d e : ℕ) (w : TypeName) (ms : Members) → members_depth ms < d → members_depth ms < e → type_by d w ms ≡ type_by e w ms
type_by_same zero e w ms h k = absurd (omega arith)
type_by_same (suc d) zero w ms h k = absurd (omega arith)
type_by_same (suc d) (suc e) w ms h k = type_same (type_by d) (type_by e) w ms (λ v ns inside. type_by_same d e v ns (omega arith) (omega arith))

-- what a word means, by what the words of the tables inside mean
pub type_law : (w : TypeName) (ms : Members) → type_of w ms ≡ type_in type_of w ms
unfolding type_of
type_law w ms = type_same (type_by (members_depth ms)) type_of w ms (λ v ns inside. type_by_same (members_depth ms) (suc (members_depth ns)) v ns (omega arith) (omega arith))
