-- The values that name a transaction: Opening and Subject of class Mastership. This profile's own.
use Rattle.std.specs.Prelude.{ℕ, ℤ, pos, negsuc, ◌^◌, nat_lt, Bool, true, false, List, [], ◌∷◌, ◌++◌, Option, Some, None, Result, Ok, Err, if◌then◌else◌}
use Rattle.std.specs.Option.{option_and_then}
use Rattle.fc_types.specs.declared.ty.Ty.{Ty}
use Rattle.fc_value.specs.Reading.{full_in}
use Rattle.fc_value.specs.declared.value.Value.{Value, out-Value}
use Rattle.fc_value.specs.declared.value.Value.TheOpen.{Value-F}
use Rattle.fc_phases.specs.declared.values.Subject.{Subject}
use Rattle.fc_phases.specs.declared.values.Opening.{Opening}

-- a number of 32 bits
abbrev pub int_word : ℤ → Option ℕ
int_word (pos n) = if nat_lt n (2 ^ 32) then Some n else None
int_word (negsuc n) = None

abbrev pub word_layer : Value-F Value → Option ℕ
word_layer (Value-F.Truth b) = None
word_layer (Value-F.Number z) = int_word z
word_layer (Value-F.Text t) = None
word_layer (Value-F.Raw bytes) = None
word_layer (Value-F.Group vs) = None
word_layer (Value-F.Table es) = None

abbrev pub word_of : Value → Option ℕ
word_of v = word_layer (out-Value v)

-- the fields of a struct
abbrev pub group_layer : Value-F Value → List Value
group_layer (Value-F.Truth b) = []
group_layer (Value-F.Number z) = []
group_layer (Value-F.Text t) = []
group_layer (Value-F.Raw bytes) = []
group_layer (Value-F.Group vs) = vs
group_layer (Value-F.Table es) = []

abbrev pub group_of : Value → List Value
group_of v = group_layer (out-Value v)

-- the entries of an array
abbrev pub table_layer : Value-F Value → List (ℕ × Value)
table_layer (Value-F.Truth b) = []
table_layer (Value-F.Number z) = []
table_layer (Value-F.Text t) = []
table_layer (Value-F.Raw bytes) = []
table_layer (Value-F.Group vs) = []
table_layer (Value-F.Table es) = es

abbrev pub table_of : Value → List (ℕ × Value)
table_of v = table_layer (out-Value v)

-- two parts, both of which must be there
abbrev pub both : {A B C : Type 0} → (A → B → C) → Option A → Option B → Option C
both f None second = None
both f (Some a) None = None
both f (Some a) (Some b) = Some (f a b)

abbrev pub pair : {A B : Type 0} → A → B → A × B
pair a b = (a, b)

-- two numbers of 32 bits
abbrev pub two_words : List Value → Option (ℕ × ℕ)
two_words [] = None
two_words (a ∷ []) = None
two_words (a ∷ b ∷ []) = both pair (word_of a) (word_of b)
two_words (a ∷ b ∷ c ∷ more) = None

abbrev pub add : {A : Type 0} → A → List A → List A
add x xs = x ∷ xs

-- a list in front of another
abbrev pub in_front : {A : Type 0} → List A → Option (List A) → Option (List A)
in_front xs None = None
in_front xs (Some ys) = Some (xs ++ ys)

-- what stands in each entry, by rising subscript
abbrev pub each_of : {A : Type 0} → (Value → Option A) → List (ℕ × Value) → Option (List A)
each_of read [] = Some []
each_of read (e ∷ es) = both add (read e.1) (each_of read es)

abbrev pub pair_of : Value → Option (ℕ × ℕ)
pair_of v = two_words (group_of v)

-- a subject
abbrev pub subject : ℕ → ℕ → Subject
subject epoch number = record { epoch = epoch; number = number }

abbrev pub subject_parts : Option (ℕ × ℕ) → Option Subject
subject_parts None = None
subject_parts (Some pair) = Some (subject pair.0 pair.1)

abbrev pub subject_of : Value → Option Subject
subject_of v = subject_parts (pair_of v)

-- what is opened: the transaction, its participants and its instances
abbrev pub opened : ℕ × ℕ → List ℕ × List (ℕ × ℕ) → Opening
opened x l = record { epoch = x.0; number = x.1; participants = l.0; instances = l.1 }

abbrev pub opening_parts : Value → Value → Value → Value → Option Opening
opening_parts epoch number participants instances =
    both opened (both pair (word_of epoch) (word_of number)) (both pair (each_of word_of (table_of participants)) (each_of pair_of (table_of instances)))

abbrev pub opening_fields : List Value → Option Opening
opening_fields [] = None
opening_fields (a ∷ []) = None
opening_fields (a ∷ b ∷ []) = None
opening_fields (a ∷ b ∷ c ∷ []) = None
opening_fields (a ∷ b ∷ c ∷ d ∷ []) = opening_parts a b c d
opening_fields (a ∷ b ∷ c ∷ d ∷ e ∷ more) = None

abbrev pub opening_of : Value → Option Opening
opening_of v = opening_fields (group_of v)

-- the value as which bytes read, if they do
abbrev pub ok_of : Result Value ℕ → Option Value
ok_of (Ok v) = Some v
ok_of (Err code) = None

abbrev pub subject_in : Ty → List ℕ → Option Subject
subject_in ty bytes = option_and_then subject_of (ok_of (full_in ty bytes))

abbrev pub opening_in : Ty → List ℕ → Option Opening
opening_in ty bytes = option_and_then opening_of (ok_of (full_in ty bytes))
