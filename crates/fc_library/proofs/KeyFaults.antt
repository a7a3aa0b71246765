-- The readers of tables give no fault but those of keys: an unknown, a missing or a wrong one.
use Rattle.std.proofs.Common.{rules, ◌≡◌, ◌&&◌, nat_le, ℕ, ℤ, pos, negsuc, zero, suc, Bool, true, false, if◌then◌else◌, List, [], ◌∷◌, codes, Option, Some, None, option_and_then, Result, Ok, Err, refl}
use Rattle.toml.specs.Data.{Data, string, integer, float, boolean, datetime, array, table, Items, no_items, item, Members, get_member, as_integer, as_str, as_table, members_depth}
use Rattle.fc_types.specs.declared.ty.Ty.{Ty}
use Rattle.fc_library.specs.declared.fault.LibFault.{LibFault}
use Rattle.fc_library.specs.declared.fault.LibFault.TheVariants.{Unknown, Missing, WrongKind}
use Rattle.fc_library.specs.declared.names.TypeName.{TypeName}
use Rattle.fc_library.specs.declared.names.TypeName.TheVariants as type
use Rattle.fc_base.specs.Answers.{◌>>=◌}
use Rattle.fc_library.specs.Keys.{unknown_keys, none_of, only, needed, given, found_or_wrong, number_in, number, number_at, number_or, integer_or, text, text_at, truth, truth_or, are_tables, tables, tables_at, tables_or_none, one_table, table_at, numbers_in, numbers, numbers_at, texts_in, texts, texts_at}
use Rattle.fc_library.specs.Names.{least, type_word, type_at, when_word, when_at}
use Rattle.fc_library.specs.Types.{each, key, field_in, entry_in, struct_in, array_in, type_in, type_by, type_of}
use Rattle.fc_library.specs.Declarations.{component, event, class, instance, declaration}

abbrev pub is_of_key : LibFault → Bool
is_of_key (Unknown key) = true
is_of_key (Missing key) = true
is_of_key (WrongKind key) = true
is_of_key _ = false

abbrev pub of_keys : {A : Type 0} → Result A LibFault → Bool
of_keys (Ok x) = true
of_keys (Err fault) = is_of_key fault

pub bind_keys : {A B : Type 0} (r : Result A LibFault) (next : A → Result B LibFault) → of_keys r ≡ true → ((x : A) → of_keys (next x) ≡ true) → of_keys (r >>= next) ≡ true
bind_keys (Ok x) next h more = more x
bind_keys (Err fault) next h more = h

either_keys : {A : Type 0} (b : Bool) (x y : Result A LibFault) → of_keys x ≡ true → of_keys y ≡ true → of_keys (if b then x else y) ≡ true
either_keys true x y h k = h
either_keys false x y h k = k

none_keys : (keys : List (List ℕ)) → of_keys (none_of keys) ≡ true
none_keys [] = refl
none_keys (k ∷ keys) = refl

pub only_keys : (known : List (List ℕ)) (ms : Members) → of_keys (only known ms) ≡ true
only_keys known ms = none_keys (unknown_keys known ms)

needed_keys : {A : Type 0} (key : List ℕ) (read : Data → Result A LibFault) (o : Option Data) → ((d : Data) → of_keys (read d) ≡ true) → of_keys (needed key read o) ≡ true
needed_keys key read None h = refl
needed_keys key read (Some d) h = h d

pub given_keys : {A : Type 0} (default : A) (read : Data → Result A LibFault) (o : Option Data) → ((d : Data) → of_keys (read d) ≡ true) → of_keys (given default read o) ≡ true
given_keys default read None h = refl
given_keys default read (Some d) h = h d

found_keys : {A : Type 0} (key : List ℕ) (o : Option A) → of_keys (found_or_wrong key o) ≡ true
found_keys key (Some x) = refl
found_keys key None = refl

in_keys : (key : List ℕ) (least most : ℕ) (o : Option ℤ) → of_keys (number_in key least most o) ≡ true
in_keys key least most None = refl
in_keys key least most (Some (pos n)) = either_keys (nat_le least n && nat_le n most) (Ok n) (Err (WrongKind key)) refl refl
in_keys key least most (Some (negsuc n)) = refl

pub number_keys : (key : List ℕ) (least most : ℕ) (ms : Members) → of_keys (number_at key least most ms) ≡ true
number_keys key least most ms = needed_keys key (number key least most) (get_member key ms) (λ d. in_keys key least most (as_integer d))

number_or_keys : (default : ℕ) (key : List ℕ) (most : ℕ) (ms : Members) → of_keys (number_or default key most ms) ≡ true
number_or_keys default key most ms = given_keys default (number key 0 most) (get_member key ms) (λ d. in_keys key 0 most (as_integer d))

integer_keys : (default : ℤ) (key : List ℕ) (ms : Members) → of_keys (integer_or default key ms) ≡ true
integer_keys default key ms = given_keys default (λ d. found_or_wrong key (as_integer d)) (get_member key ms) (λ d. found_keys key (as_integer d))

text_in : (key : List ℕ) (d : Data) → of_keys (text key d) ≡ true
text_in key (string s) = refl
text_in key (integer z) = refl
text_in key (float x) = refl
text_in key (boolean b) = refl
text_in key (datetime t) = refl
text_in key (array ds) = refl
text_in key (table ms) = refl

pub text_keys : (key : List ℕ) (ms : Members) → of_keys (text_at key ms) ≡ true
text_keys key ms = needed_keys key (text key) (get_member key ms) (text_in key)

truth_in : (key : List ℕ) (d : Data) → of_keys (truth key d) ≡ true
truth_in key (string s) = refl
truth_in key (integer z) = refl
truth_in key (float x) = refl
truth_in key (boolean b) = refl
truth_in key (datetime t) = refl
truth_in key (array ds) = refl
truth_in key (table ms) = refl

pub truth_keys : (default : Bool) (key : List ℕ) (ms : Members) → of_keys (truth_or default key ms) ≡ true
truth_keys default key ms = given_keys default (truth key) (get_member key ms) (truth_in key)

tables_in : (key : List ℕ) (d : Data) → of_keys (tables key d) ≡ true
tables_in key (string s) = refl
tables_in key (integer z) = refl
tables_in key (float x) = refl
tables_in key (boolean b) = refl
tables_in key (datetime t) = refl
tables_in key (array ds) = either_keys (are_tables ds) (Ok ds) (Err (WrongKind key)) refl refl
tables_in key (table ms) = refl

pub tables_keys : (key : List ℕ) (ms : Members) → of_keys (tables_at key ms) ≡ true
tables_keys key ms = needed_keys key (tables key) (get_member key ms) (tables_in key)

pub tables_or_keys : (key : List ℕ) (ms : Members) → of_keys (tables_or_none key ms) ≡ true
tables_or_keys key ms = given_keys no_items (tables key) (get_member key ms) (tables_in key)

table_keys : (key : List ℕ) (ms : Members) → of_keys (table_at key ms) ≡ true
table_keys key ms = needed_keys key (one_table key) (get_member key ms) (λ d. found_keys key (as_table d))

numbers_in_keys : (key : List ℕ) (ds : Items) → of_keys (numbers_in key ds) ≡ true
numbers_in_keys key no_items = refl
numbers_in_keys key (item d ds) =
    bind_keys (number key 0 4294967295 d) _ (in_keys key 0 4294967295 (as_integer d)) (λ n. bind_keys (numbers_in key ds) _ (numbers_in_keys key ds) (λ ns. refl))

numbers_of : (key : List ℕ) (d : Data) → of_keys (numbers key d) ≡ true
numbers_of key (string s) = refl
numbers_of key (integer z) = refl
numbers_of key (float x) = refl
numbers_of key (boolean b) = refl
numbers_of key (datetime t) = refl
numbers_of key (array ds) = numbers_in_keys key ds
numbers_of key (table ms) = refl

texts_in_keys : (key : List ℕ) (ds : Items) → of_keys (texts_in key ds) ≡ true
texts_in_keys key no_items = refl
texts_in_keys key (item d ds) = bind_keys (text key d) _ (text_in key d) (λ t. bind_keys (texts_in key ds) _ (texts_in_keys key ds) (λ ts. refl))

texts_of : (key : List ℕ) (d : Data) → of_keys (texts key d) ≡ true
texts_of key (string s) = refl
texts_of key (integer z) = refl
texts_of key (float x) = refl
texts_of key (boolean b) = refl
texts_of key (datetime t) = refl
texts_of key (array ds) = texts_in_keys key ds
texts_of key (table ms) = refl

pub texts_keys : (key : List ℕ) (ms : Members) → of_keys (texts_at key ms) ≡ true
texts_keys key ms = needed_keys key (texts key) (get_member key ms) (texts_of key)

numbers_keys : (key : List ℕ) (ms : Members) → of_keys (numbers_at key ms) ≡ true
numbers_keys key ms = needed_keys key (numbers key) (get_member key ms) (numbers_of key)

type_at_keys : (ms : Members) → of_keys (type_at ms) ≡ true
type_at_keys ms = needed_keys (codes "type") _ (get_member (codes "type") ms) (λ d. found_keys (codes "type") (option_and_then type_word (as_str d)))

when_at_keys : (ms : Members) → of_keys (when_at ms) ≡ true
when_at_keys ms = needed_keys (codes "when") _ (get_member (codes "when") ms) (λ d. found_keys (codes "when") (option_and_then when_word (as_str d)))

pub each_keys : {A : Type 0} (read : Members → Result A LibFault) (ds : Items) → ((ms : Members) → of_keys (read ms) ≡ true) → of_keys (each read ds) ≡ true
each_keys read no_items h = refl
each_keys read (item (table ms) ds) h = bind_keys (read ms) _ (h ms) (λ x. bind_keys (each read ds) _ (each_keys read ds h) (λ xs. refl))
each_keys read (item (string s) ds) h = each_keys read ds h
each_keys read (item (integer z) ds) h = each_keys read ds h
each_keys read (item (float x) ds) h = each_keys read ds h
each_keys read (item (boolean b) ds) h = each_keys read ds h
each_keys read (item (datetime t) ds) h = each_keys read ds h
each_keys read (item (array es) ds) h = each_keys read ds h

key_keys : (ms : Members) → of_keys (key ms) ≡ true
key_keys ms = search (rules, bind_keys, only_keys, number_keys, numbers_keys) depth 12

-- the types with tables inside, where this holds of the types of those tables
module _ (inner : TypeName → Members → Result Ty LibFault) (h : (name : TypeName) (ms : Members) → of_keys (inner name ms) ≡ true) where
  field_keys : (ms : Members) → of_keys (field_in inner ms) ≡ true
  field_keys ms = search (rules, bind_keys, only_keys, number_keys, text_keys, type_at_keys, h) depth 12

  entry_keys : (ms : Members) → of_keys (entry_in inner ms) ≡ true
  entry_keys ms = search (rules, bind_keys, only_keys, type_at_keys, h) depth 12

  struct_keys : (ms : Members) → of_keys (struct_in inner ms) ≡ true
  struct_keys ms = search (rules, bind_keys, tables_keys, each_keys, field_keys) depth 12

  array_keys : (ms : Members) → of_keys (array_in inner ms) ≡ true
  array_keys ms = search (rules, bind_keys, table_keys, number_keys, tables_or_keys, each_keys, entry_keys, key_keys) depth 12

  type_keys : (name : TypeName) (ms : Members) → of_keys (type_in inner name ms) ≡ true
  type_keys type.Bool ms = refl
  type_keys (type.Number n) ms = search (rules, bind_keys, integer_keys) depth 12
  type_keys type.String ms = search (rules, bind_keys, number_keys) depth 12
  type_keys type.Octets ms = search (rules, bind_keys, number_keys) depth 12
  type_keys type.Bytes ms = search (rules, bind_keys, number_keys) depth 12
  type_keys type.Struct ms = struct_keys ms
  type_keys type.Array ms = array_keys ms

type_by_keys : (depth : ℕ) (name : TypeName) (ms : Members) → of_keys (type_by depth name ms) ≡ true
type_by_keys zero name ms = refl
type_by_keys (suc depth) name ms = type_keys (type_by depth) (type_by_keys depth) name ms

type_of_keys : (name : TypeName) (ms : Members) → of_keys (type_of name ms) ≡ true
unfolding type_of
type_of_keys name ms = type_by_keys (suc (members_depth ms)) name ms

component_keys : (ms : Members) → of_keys (component ms) ≡ true
component_keys ms = search (rules, bind_keys, only_keys, number_keys, text_keys, type_at_keys, number_or_keys, truth_keys, type_of_keys) depth 12

event_keys : (ms : Members) → of_keys (event ms) ≡ true
event_keys ms = search (rules, bind_keys, only_keys, number_keys, text_keys, when_at_keys, numbers_keys) depth 12

pub class_keys : (ms : Members) → of_keys (class ms) ≡ true
class_keys ms = search (rules, bind_keys, only_keys, number_keys, text_keys, tables_or_keys, number_or_keys, each_keys, component_keys, event_keys) depth 12

pub instance_keys : (ms : Members) → of_keys (instance ms) ≡ true
instance_keys ms = search (rules, bind_keys, only_keys, number_keys) depth 12

pub declaration_keys : (ms : Members) → of_keys (declaration ms) ≡ true
declaration_keys ms = search (rules, bind_keys, only_keys, tables_or_keys, each_keys, class_keys, instance_keys) depth 12
