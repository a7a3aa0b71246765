-- What a master of a life may say can be encoded.
use Rattle.std.proofs.Common.{◌≡◌, ℕ, suc, ◌-◌, ◌<◌, ◌||◌, ◌==◌, Bool, true, false, not, if◌then◌else◌, List, [], ◌∷◌, length, slice_get, Option, Some, None, ◌⊎◌, inl, inr, refl, sym, ap, ◌∙◌, subst, arith, rules, zero}
use Rattle.std.specs.List.{AllByRecursion}
use Rattle.fc_base.specs.Ids.{Txn}
use Rattle.fc_wire.specs.Bytes.{u32_bytes}
use Rattle.fc_wire.specs.Flags.{FlagsFit}
use Rattle.fc_path.specs.Proper.{ProperBody, ProperOper, ProperPath, ProperSelect}
use Rattle.fc_path.specs.declared.oper.OperKind.TheVariants as kinds
use Rattle.fc_path.specs.declared.oper.Oper.{Oper}
use Rattle.fc_path.specs.declared.oper.Oper.TheVariants as oper
use Rattle.fc_path.specs.declared.oper.Select.{Select}
use Rattle.fc_path.specs.declared.path.Key.{Key}
use Rattle.fc_path.specs.declared.path.Body.{out-Body, the_lemmas}
use Rattle.fc_path.specs.declared.path.Body.TheOpen.{Body-F}
use Rattle.fc_path.specs.declared.path.Body.TheVariants as body
use Rattle.fc_msg.specs.Messages.{ProperMsgBody, ProperSelects, message_fits}
use Rattle.fc_msg.specs.MessageTypes as types
use Rattle.fc_msg.specs.declared.message.Message.{Message as Wire}
use Rattle.fc_msg.specs.declared.message.MsgBody.TheVariants.{Config, Query}
use Rattle.fc_protocol.specs.Messages.{Body as Asked, Claim, Sot, Mot, Eot, Trcomp, Abt, Floor, Malformed, Plain, Ask, Ask_record}
use Rattle.fc_plans.specs.Components as components
use Rattle.fc_plans.specs.Changes.{all_change, carrying, change_fault, is_floor, is_short, no_name}
use Rattle.fc_plans.specs.Mastership.{behind, of_transaction, on_mastership, path, sets, subject_bytes}
use Rattle.fc_plans.specs.declared.fault.ChangeFault.TheVariants as fault
use Rattle.fc_plans.specs.declared.plan.Part.{Part}
use Rattle.fc_asks.specs.Plans.{change_at, changes_in, changes_of, numbered, selects_of}
use Rattle.fc_asks.specs.Requests.{asks_held, asks_record, flags, opening_bytes, request_of}
use Rattle.fc_asks.specs.Tables.{found}
use Rattle.fc_asks.specs.declared.life.Life.{Life}
use Rattle.fc_wellformed.specs.Saying.{MaySay}
use Rattle.fc_wellformed.specs.WellFormed.{HasChanges, HasPlain, IsChange, IsWellFormed, KeepsChanges}
use Rattle.fc_wellformed.proofs.Sizes.{Fit, config_fits, query_fits, claim_fits, subject_fits, commit_fits, trcomp_fits, opening_fits, held_fits, record_fits, named_fits, plain_fits, name_fits, and_second}

-- ---- what was asked for is a change

get_all : {A : Type 0} (P : A → Type 0) (xs : List A) (i : ℕ) (x : A) → AllByRecursion P xs → slice_get xs i ≡ Some x → P x
get_all P [] i x h e = cc
get_all P (y ∷ xs) zero x h e = let same : y ≡ x = cc in subst P same h.0
get_all P (y ∷ xs) (suc i) x h e = get_all P xs i x h.1 e

-- no selects, or a change
abbrev pub MayChange : List Select → Type 0
MayChange selects = (selects ≡ []) ⊎ IsChange selects

selects_may : (o : Option (List Select)) → ((selects : List Select) → o ≡ Some selects → IsChange selects) → MayChange (selects_of o)
selects_may None h = inl refl
selects_may (Some selects) h = inr (h selects refl)

of_changes : (p : ℕ) (b : Bool) (here rest : List (List Select)) → AllByRecursion IsChange here → AllByRecursion IsChange rest → AllByRecursion IsChange (if b then here else rest)
of_changes p true here rest h k = h
of_changes p false here rest h k = k

changes_may : (p : ℕ) (parts : List Part) → AllByRecursion HasChanges parts → AllByRecursion IsChange (changes_of p parts)
changes_may p [] h = tt
changes_may p (part ∷ parts) h = of_changes p (p == part.element) part.changes (changes_of p parts) h.0 (changes_may p parts h.1)

in_may : (o : Option (List Part)) (p : ℕ) → ((parts : List Part) → o ≡ Some parts → AllByRecursion HasChanges parts) → AllByRecursion IsChange (changes_in o p)
in_may None p h = tt
in_may (Some parts) p h = changes_may p parts (h parts refl)

pub change_may : (life : Life) (x : Txn) (p i : ℕ) → KeepsChanges life → MayChange (change_at life.plans x p i)
change_may life x p i keeps =
    let own = in_may (numbered life.plans x.number) p (λ parts e. get_all (λ (parts : List Part). AllByRecursion HasChanges parts) life.plans (x.number - 1) parts keeps.plans e) in
    selects_may (numbered (changes_in (numbered life.plans x.number) p) i) (λ selects e. get_all IsChange (changes_in (numbered life.plans x.number) p) (i - 1) selects own e)

-- ---- what is a change fits behind the name of a transaction

pub short_of : (a b : Bool) → (if a then Some fault.Operation else (if b then None else Some fault.TooLong)) ≡ None → b ≡ true
short_of true b e = cc
short_of false true e = refl
short_of false false e = cc

change_short : (ss : List Select) → change_fault ss ≡ None → message_fits (carrying (behind no_name ss)) ≡ true
change_short [] e = cc
change_short (s ∷ ss) e = and_second _ (message_fits (carrying (behind no_name (s ∷ ss)))) (short_of (not (all_change (s ∷ ss)) || is_floor (s ∷ ss)) (is_short (behind no_name (s ∷ ss))) e)

-- ---- what is written to Mastership, or asked of it, is of the grammar

out_full : (value : List ℕ) → out-Body (body.Full value) ≡ Body-F.Full value
out_full value = search (rules, the_lemmas)

out_nothing : out-Body body.Nothing ≡ Body-F.Nothing
out_nothing = search (rules, the_lemmas)

set_proper : (id : ℕ) (value : List ℕ) → ProperOper types.config (sets id value)
set_proper id value = (refl, omega arith, (subst (ProperBody kinds.Set (ProperPath kinds.Set 15)) (sym (out_full value)) refl, tt))

get_proper : (id other : ℕ) (key : Option Key) → ProperOper types.query (oper.Paths kinds.Get (path (id ∷ []) None body.Nothing ∷ path (other ∷ []) key body.Nothing ∷ []))
get_proper id other key =
    let nothing = subst (ProperBody kinds.Get (ProperPath kinds.Get 15)) (sym out_nothing) refl in
    (refl, omega arith, (nothing, (nothing, tt)))

on_proper : (kind : ℕ) (opers : List Oper) → AllByRecursion (ProperOper kind) opers → 0 < length opers → (kind ≡ types.config) ⊎ (kind ≡ types.query) → ProperSelect kind (on_mastership opers)
on_proper kind opers all some (inl is) = (rw is refl, some, all)
on_proper kind opers all some (inr is) = (rw is refl, some, all)

config_proper : (opers : List Oper) → AllByRecursion (ProperOper types.config) opers → 0 < length opers → ProperSelects types.config (on_mastership opers ∷ [])
config_proper opers all some = (omega arith, (on_proper types.config opers all some (inl refl), tt))

query_proper : (opers : List Oper) → AllByRecursion (ProperOper types.query) opers → 0 < length opers → ProperSelects types.query (on_mastership opers ∷ [])
query_proper opers all some = (omega arith, (on_proper types.query opers all some (inr refl), tt))

write_proper : (id : ℕ) (value : List ℕ) → ProperSelects types.config (on_mastership (sets id value ∷ []) ∷ [])
write_proper id value = config_proper (sets id value ∷ []) (set_proper id value, tt) (omega arith)

named_proper : (x : Txn) (ss : List Select) → AllByRecursion (ProperSelect types.config) ss → ProperSelects types.config (of_transaction x ss)
named_proper x ss all = (omega arith, (on_proper types.config (sets components.subject (subject_bytes x) ∷ []) (set_proper components.subject (subject_bytes x), tt) (omega arith) (inl refl), all))

-- ---- each message

flags_fit : (em : ℕ) (at : Bool) (tp : ℕ) → em < 4 → tp < 4 → FlagsFit (flags em at tp)
flags_fit em at tp h k = (omega arith, omega arith, h, k)

config_good : (m : Wire) (ss : List Select) → m.body ≡ Config ss → FlagsFit m.flags → ProperSelects types.config ss → Fit ss → IsWellFormed m
config_good m ss is flags proper fits = record { flags = flags; body = subst ProperMsgBody (sym is) proper; fits = config_fits m ss is fits }

query_good : (m : Wire) (ss : List Select) → m.body ≡ Query ss → FlagsFit m.flags → ProperSelects types.query ss → Fit ss → IsWellFormed m
query_good m ss is flags proper fits = record { flags = flags; body = subst ProperMsgBody (sym is) proper; fits = query_fits m ss is fits }

by_change : (life : Life) (p corr : ℕ) (x : Txn) (i : ℕ) (ss : List Select) → change_at life.plans x p i ≡ ss → MayChange ss → IsWellFormed (request_of life p corr (Mot x i))
by_change life p corr x i ss is (inl none) =
    let all : change_at life.plans x p i ≡ [] = is ∙ none in
    config_good (request_of life p corr (Mot x i)) (of_transaction x []) (ap (λ l. Config (of_transaction x l)) all) (flags_fit 1 true 1 (omega arith) (omega arith)) (named_proper x [] tt) (name_fits x)
by_change life p corr x i ss is (inr change) =
    config_good (request_of life p corr (Mot x i)) (of_transaction x ss) (ap (λ l. Config (of_transaction x l)) is) (flags_fit 1 true 1 (omega arith) (omega arith)) (named_proper x ss change.1.1) (named_fits x ss (change_short ss change.0))

found_step : {A : Type 0} (P : A → Type 0) (b : Bool) (y x : A) (o : Option A) → P y → (o ≡ Some x → P x) → (if b then Some y else o) ≡ Some x → P x
found_step P true y x o h more e = let same : y ≡ x = cc in subst P same h
found_step P false y x o h more e = more e

found_all : {A : Type 0} (P : A → Type 0) (p : ℕ) (es : List (ℕ × A)) (x : A) → AllByRecursion (λ (e : ℕ × A). P e.1) es → found p es ≡ Some x → P x
found_all P p [] x h e = cc
found_all P p (y ∷ es) x h e = found_step P (p == y.0) y.1 x (found p es) h.0 (λ later. found_all P p es x h.1 later) e

pub request_good : (life : Life) (p corr : ℕ) (b : Asked) → KeepsChanges life → MaySay (HasPlain life) p b → IsWellFormed (request_of life p corr b)
request_good life p corr (Claim w) keeps may = config_good (request_of life p corr (Claim w)) _ refl (flags_fit 1 false 0 (omega arith) (omega arith)) (write_proper components.epoch (u32_bytes w)) (claim_fits w)
request_good life p corr (Sot x ps sc) keeps may =
    config_good (request_of life p corr (Sot x ps sc)) _ refl (flags_fit 1 true 0 (omega arith) (omega arith)) (write_proper components.opening (opening_bytes x ps sc)) (opening_fits x ps sc may.0 may.1)
request_good life p corr (Mot x i) keeps may = by_change life p corr x i (change_at life.plans x p i) refl (change_may life x p i keeps)
request_good life p corr (Eot x) keeps may =
    config_good (request_of life p corr (Eot x)) _ refl (flags_fit 1 true 2 (omega arith) (omega arith))
    (config_proper (sets components.subject (subject_bytes x) ∷ oper.Commit ∷ []) (set_proper components.subject (subject_bytes x), (refl, tt)) (omega arith)) (commit_fits x)
request_good life p corr (Trcomp x) keeps may =
    config_good (request_of life p corr (Trcomp x)) _ refl (flags_fit 1 true 2 (omega arith) (omega arith))
    (config_proper (sets components.subject (subject_bytes x) ∷ oper.Trcomp ∷ []) (set_proper components.subject (subject_bytes x), (refl, tt)) (omega arith)) (trcomp_fits x)
request_good life p corr (Abt x) keeps may = config_good (request_of life p corr (Abt x)) _ refl (flags_fit 1 true 3 (omega arith) (omega arith)) (write_proper components.subject (subject_bytes x)) (subject_fits components.subject x)
request_good life p corr (Floor f) keeps may = config_good (request_of life p corr (Floor f)) _ refl (flags_fit 1 false 0 (omega arith) (omega arith)) (write_proper components.floor (subject_bytes f)) (subject_fits components.floor f)
request_good life p corr Malformed keeps may = absurd may
request_good life p corr Plain keeps (selects, is) =
    let change = found_all IsChange p life.plains selects keeps.plains is in
    config_good (request_of life p corr Plain) selects (ap (λ o. Config (selects_of o)) is) (flags_fit 1 false 0 (omega arith) (omega arith)) change.1 (plain_fits selects (change_short selects change.0))
request_good life p corr Ask keeps may =
    query_good (request_of life p corr Ask) _ refl (flags_fit 0 false 0 (omega arith) (omega arith)) (query_proper (oper.Paths kinds.Get asks_held ∷ []) (get_proper components.epoch components.held None, tt) (omega arith)) held_fits
request_good life p corr (Ask_record x) keeps may =
    query_good (request_of life p corr (Ask_record x)) _ refl (flags_fit 0 false 0 (omega arith) (omega arith))
    (query_proper (oper.Paths kinds.Get (asks_record x) ∷ []) (get_proper components.epoch components.transactions (Some (record { ident = components.transaction_key; value = subject_bytes x })), tt) (omega arith)) (record_fits x)
