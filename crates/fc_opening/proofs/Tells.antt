-- Each value that an element tells fits the type of its component.
use Rattle.std.proofs.Common.{◌≡◌, ◌≤◌, ◌==◌, ℕ, suc, Bool, true, false, ◌&&◌, not, if◌then◌else◌, IsUtf8, List, [], ◌∷◌, ◌++◌, length, map, codes, slice_get, refl, sym, ap, subst, ◌∙◌, Option, Some, None, arith}
use Rattle.std.specs.List.{AllByRecursion, filter, list_all}
use Rattle.std.proofs.lemmas.List.{length-map}
use Rattle.std.proofs.lemmas.List.Filters.{length-filter_both}
use Rattle.std.proofs.lemmas.Str.{IsUtf8-from_ascii}
use Rattle.std.proofs.lemmas.Str.Ascii.{IsAscii-cons, IsAscii-nil}
use Rattle.fc_types.specs.BuiltIn.{is_live}
use Rattle.fc_types.specs.Components.{ComponentDecl}
use Rattle.fc_types.specs.Libraries.{is_own, same_instance}
use Rattle.fc_types.specs.Ids.{is_distinct}
use Rattle.fc_types.specs.declared.class.Class.{Class}
use Rattle.fc_types.specs.declared.ty.Ty.{Ty}
use Rattle.fc_types.specs.declared.ty.Ty.TheVariants as type
use Rattle.fc_value.specs.Fits.{Fits, FitsIn}
use Rattle.fc_value.specs.declared.value.Value.{Value}
use Rattle.fc_lfbs.specs.BuiltIns.{built_in, fe_object, fe_protocol, mastership}
use Rattle.fc_lfbs.specs.Kinds as kinds
use Rattle.fc_lfbs.specs.LiveValues.{IsTold, Told, Txn, is_held, live_value, selector, table, told_value, transaction, txn_id, word}
use Rattle.fc_store.specs.Stores.{declared_in}
use Rattle.fc_store.proofs.Lists.{none_some, some_is}
use Rattle.fc_opening.specs.TellsWords.{IsPacked, IsWordPair, TellsWords}
use Rattle.fc_opening.proofs.Keyed.{held_distinct, held_packed, records_differ}
use Rattle.fc_opening.proofs.Own.{of_own, same_number}
use Rattle.fc_opening.proofs.Shapes.{array_fits, byte_fits, list_fits, struct_fits, text_fits, word_fits, words_fit}

-- ---- instances and transactions
selector_fits : (d : ℕ) (p : ℕ × ℕ) → IsWordPair p → FitsIn (suc (suc d)) kinds.instance_type (selector p)
selector_fits d p h = struct_fits (suc d) _ _ (word_fits d p.0 h.0, (word_fits d p.1 h.1, tt))

selectors_fit : (d : ℕ) (ps : List (ℕ × ℕ)) → AllByRecursion IsWordPair ps → AllByRecursion (FitsIn (suc (suc d)) kinds.instance_type) (map selector ps)
selectors_fit d [] a = tt
selectors_fit d (p ∷ ps) a = (selector_fits d p a.0, selectors_fit d ps a.1)

participants_fit : (d : ℕ) (x : Txn) → IsPacked x → FitsIn (suc (suc d)) (kinds.words 64) (table (map word x.participants))
participants_fit d x p =
    list_fits (suc d) kinds.word 64 (map word x.participants) (omega (arith, length-map x.participants word, p.few)) (omega arith) (words_fit d x.participants p.participants)

transaction_fits : (d : ℕ) (x : Txn) → IsPacked x → FitsIn (suc (suc (suc d))) kinds.transaction_type (transaction x)
transaction_fits d x p =
    struct_fits (suc (suc d)) _ _
    (word_fits (suc d) x.epoch p.epoch, (word_fits (suc d) x.number p.number, (word_fits (suc d) x.state p.state, (participants_fit d x p, tt))))

all_transactions_fit : (d : ℕ) (xs : List Txn) → AllByRecursion IsPacked xs → AllByRecursion (FitsIn (suc (suc (suc d))) kinds.transaction_type) (map transaction xs)
all_transactions_fit d [] a = tt
all_transactions_fit d (x ∷ xs) a = (transaction_fits d x a.0, all_transactions_fit d xs a.1)

transactions_fit : (xs : List Txn) → length xs ≤ 4096 → AllByRecursion IsPacked xs → is_distinct same_instance (map txn_id xs) ≡ true → Fits kinds.transactions_type (table (map transaction xs))
transactions_fit xs few a distinct =
    array_fits 7 kinds.transaction_type 4096 (kinds.transaction_key ∷ []) (map transaction xs) (omega (arith, length-map xs transaction, few)) (omega arith)
    (records_differ xs a distinct) (all_transactions_fit 4 xs a)

held_few : (xs : List Txn) → length xs ≤ 4096 → length (filter is_held xs) ≤ 4096
held_few xs few = omega (arith, length-filter_both is_held (λ x. not (is_held x)) (λ x. refl) xs, few)

held_fit : (xs : List Txn) → length xs ≤ 4096 → AllByRecursion IsPacked xs → is_distinct same_instance (map txn_id xs) ≡ true → Fits kinds.transactions_type (table (map transaction (filter is_held xs)))
held_fit xs few a distinct = transactions_fit (filter is_held xs) (held_few xs few) (held_packed xs a) (held_distinct xs distinct)

no_words : (limit : ℕ) → limit ≤ 65536 → Fits (kinds.words limit) (table [])
no_words limit h = list_fits 7 kinds.word limit [] (omega arith) h tt

selectors_told : (ps : List (ℕ × ℕ)) → length ps ≤ 65536 → AllByRecursion IsWordPair ps → Fits (kinds.array_of kinds.instance_type 65536) (table (map selector ps))
selectors_told ps few a = list_fits 7 kinds.instance_type 65536 (map selector ps) (omega (arith, length-map ps selector, few)) (omega arith) (selectors_fit 5 ps a)

fc_text : IsUtf8 (codes "fc")
fc_text = IsUtf8-from_ascii (codes "fc") (IsAscii-cons 102 (99 ∷ []) (omega arith) (IsAscii-cons 99 [] (omega arith) IsAscii-nil))

-- ---- components
told_by : (ty : Ty) (w v : Value) → Fits ty w → (b : Bool) → (if b then Some w else None) ≡ Some v → Fits ty v
told_by ty w v h true e = subst (Fits ty) (some_is w v e) h
told_by ty w v h false e = absurd (none_some v e)

abbrev Tells : Told → ℕ → ComponentDecl → Type 0
Tells s class c = (instance : ℕ) (v : Value) → told_value s class instance c.id ≡ Some v → Fits c.ty v

untold : (ty : Ty) (instance : ℕ) (v : Value) → None ≡ Some v → Fits ty v
untold ty instance v e = absurd (none_some v e)

tells : (ty : Ty) (w : Value) → Fits ty w → (instance : ℕ) (v : Value) → (if instance == 1 then Some w else None) ≡ Some v → Fits ty v
tells ty w h instance v e = told_by ty w v h (instance == 1) e

object_tells : (s : Told) → IsTold s → TellsWords s → AllByRecursion (Tells s 1) fe_object.components
object_tells s t w = (
  tells _ _ (no_words 65536 (omega arith)),
  (
    tells _ _ (selectors_told s.instances t.instances w.instances),
    (
      untold (type.String 40),
      (
        tells _ _ (word_fits 7 s.id w.id),
        (
          tells _ _ (text_fits 7 40 [] (IsUtf8-from_ascii [] IsAscii-nil) (omega arith)),
          (
            tells _ _ (text_fits 7 40 (codes "fc") fc_text (omega arith)),
            (
              untold (kinds.byte_upto 255),
              (tells _ _ (no_words 65536 (omega arith)), tt),
            ),
          ),
        ),
      ),
    ),
  ),
)

protocol_tells : (s : Told) → IsTold s → TellsWords s → AllByRecursion (Tells s 2) fe_protocol.components
protocol_tells s t w = (
  tells _ _ (byte_fits 7 255 1 (omega arith)),
  (
    tells _ _ (word_fits 7 s.id w.id),
    (
      tells _ _ (no_words 65536 (omega arith)),
      (
        untold (kinds.byte_upto 1),
        (
          untold (kinds.word),
          (
            untold (kinds.byte_upto 1),
            (
              untold (kinds.word),
              (
                tells _ _ (word_fits 7 s.ce w.ce),
                (
                  untold (kinds.words 16),
                  (tells _ _ (word_fits 7 s.last_ce w.last_ce), tt),
                ),
              ),
            ),
          ),
        ),
      ),
    ),
  ),
)

mastership_tells : (s : Told) → IsTold s → TellsWords s → AllByRecursion (Tells s 126977) mastership.components
mastership_tells s t w = (
  tells _ _ (word_fits 7 s.epoch w.epoch),
  (
    tells _ _ (word_fits 7 s.master w.master),
    (
      tells _ _ (transactions_fit s.transactions t.transactions w.transactions t.distinct),
      (
        untold (kinds.opening_type),
        (
          untold (kinds.subject_type),
          (tells _ _ (held_fit s.transactions t.transactions w.transactions t.distinct), tt),
        ),
      ),
    ),
  ),
)

not_live : (class id : ℕ) → (class == 1) ≡ false → (class == 2) ≡ false → (class == 126977) ≡ false → is_live class id ≡ false
not_live class id a b c = rw a (rw b (rw c refl))

nothing : (s : Told) (class instance id : ℕ) → is_live class id ≡ false → told_value s class instance id ≡ None
nothing s class instance id e = ap (λ b. if b && (instance == 1) then Some (live_value s class id) else None) e

pub told_fit : (classes : List Class) (s : Told) (class instance i : ℕ) (component : ComponentDecl) (v : Value) → list_all is_own classes ≡ true → IsTold s → TellsWords s
    → slice_get (declared_in (classes ++ built_in) class) i ≡ Some component → told_value s class instance component.id ≡ Some v → Fits component.ty v
told_fit classes s class instance i component v own t w e f = by (class == 1) refl (class == 2) refl (class == 126977) refl
  where
    at : (k : ℕ) → class ≡ k → told_value s k instance component.id ≡ Some v
    at k g = ap (λ k. told_value s k instance component.id) (sym g) ∙ f

    by : (a : Bool) → (class == 1) ≡ a → (b : Bool) → (class == 2) ≡ b → (c : Bool) → (class == 126977) ≡ c → Fits component.ty v
    by true x b y c z = let g : class ≡ 1 = same_number class 1 x in of_own (Tells s 1) classes 1 class i component refl own (object_tells s t w) g e instance v (at 1 g)
    by false x true y c z = let g : class ≡ 2 = same_number class 2 y in of_own (Tells s 2) classes 2 class i component refl own (protocol_tells s t w) g e instance v (at 2 g)
    by false x false y true z = let g : class ≡ 126977 = same_number class 126977 z in of_own (Tells s 126977) classes 126977 class i component refl own (mastership_tells s t w) g e instance v (at 126977 g)
    by false x false y false z = absurd (none_some v (sym (nothing s class instance component.id (not_live class component.id x y z)) ∙ f))
