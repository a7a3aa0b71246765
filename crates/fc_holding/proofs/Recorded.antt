-- Records, one by one.
use Rattle.std.proofs.Common.{◌≡◌, ◌≤◌, ◌+◌, ◌&&◌, ℕ, zero, suc, Bool, true, false, cond, List, [], ◌∷◌, ◌++◌, append_assoc, length, drop, slice_get, Option, Some, None, refl, sym, ap, ◌∙◌, arith, add-one}
use Rattle.std.specs.Option.{option_map}
use Rattle.fc_base.specs.Ids.{Txn}
use Rattle.fc_protocol.specs.Messages.{same}
use Rattle.fc_protocol.specs.Records.{is_held}
use Rattle.fc_protocol.specs.declared.answers.TxnEntry.{TxnEntry}
use Rattle.fc_tx.specs.Records.{place, AreSettled}
use Rattle.fc_holding.specs.Held.{counts, held_by_at, held_instances, instances_of, scope_in, scope_of}

no_drop : (i : ℕ) → drop {A = TxnEntry} i [] ≡ []
no_drop zero = refl
no_drop (suc i) = refl

all_dropped : (ns : List TxnEntry) (i : ℕ) → length ns ≤ i → drop i ns ≡ []
all_dropped [] i h = no_drop i
all_dropped (n ∷ ns) zero h = absurd (omega (arith, h))
all_dropped (n ∷ ns) (suc i) h = all_dropped ns i (omega (arith, h))

-- ---- scopes
-- the scope at a place, if there is one
abbrev scope_at : List TxnEntry → Option ℕ → List (ℕ × ℕ)
scope_at ns None = []
scope_at ns (Some i) = scope_in (slice_get ns i)

behind : (n : TxnEntry) (ns : List TxnEntry) (o : Option ℕ) → scope_at (n ∷ ns) (option_map suc o) ≡ scope_at ns o
behind n ns None = refl
behind n ns (Some i) = refl

here_or_behind : (b : Bool) (n : TxnEntry) (ns : List TxnEntry) (o : Option ℕ) → scope_at (n ∷ ns) (cond b (Some 0) (option_map suc o)) ≡ cond b n.scope (scope_at ns o)
here_or_behind true n ns o = refl
here_or_behind false n ns o = behind n ns o

scope_placed : (x : Txn) (ns : List TxnEntry) → scope_at ns (place x ns) ≡ scope_of x ns
scope_placed x [] = refl
scope_placed x (n ∷ ns) = here_or_behind (same x n.txn) n ns (place x ns) ∙ ap (cond (same x n.txn) n.scope) (scope_placed x ns)

pub scope_found : (x : Txn) (ns : List TxnEntry) (i : ℕ) → Some i ≡ place x ns → scope_in (slice_get ns i) ≡ scope_of x ns
scope_found x ns i e = ap (scope_at ns) e ∙ scope_placed x ns

pub scope_none : (x : Txn) (ns : List TxnEntry) → None ≡ place x ns → [] ≡ scope_of x ns
scope_none x ns e = ap (scope_at ns) e ∙ scope_placed x ns

-- ---- what is held
held_from : (all : List (ℕ × ℕ)) (x : Option Txn) (ns : List TxnEntry) (i : ℕ) → held_instances all x (drop i ns) ≡ held_by_at all x (slice_get ns i) ++ held_instances all x (drop (suc i) ns)
held_from all x [] i = ap (held_instances all x) (no_drop i) ∙ sym (ap (held_instances all x) (no_drop (suc i)))
held_from all x (n ∷ ns) zero = refl
held_from all x (n ∷ ns) (suc i) = held_from all x ns i

-- what is settled holds nothing
held_by_none : (b c : Bool) (xs : List (ℕ × ℕ)) → c ≡ false → cond (b && c) xs [] ≡ []
held_by_none false c xs e = refl
held_by_none true c xs e = ap (λ d. cond d xs []) e

held_past : (all : List (ℕ × ℕ)) (x : Option Txn) (i : ℕ) (ns : List TxnEntry) → AreSettled i ns → held_instances all x (drop i ns) ≡ held_instances all x ns
held_past all x zero ns a = refl
held_past all x (suc i) [] a = absurd a
held_past all x (suc i) (n ∷ ns) a = held_past all x i ns a.1 ∙ sym (ap (λ l. l ++ held_instances all x ns) (held_by_none (counts x n) (is_held n.state) (instances_of all n.scope) a.0))

pub held_begun : (all : List (ℕ × ℕ)) (x : Option Txn) (i : ℕ) (ns : List TxnEntry) (old : List (ℕ × ℕ)) → old ≡ [] → AreSettled i ns → old ++ held_instances all x (drop i ns) ≡ held_instances all x ns
held_begun all x i ns old e a = ap (λ l. l ++ held_instances all x (drop i ns)) e ∙ held_past all x i ns a

pub held_further : (all : List (ℕ × ℕ)) (x : Option Txn) (ns : List TxnEntry) (i : ℕ) (old new : List (ℕ × ℕ)) → new ≡ old ++ held_by_at all x (slice_get ns i) → old ++ held_instances all x (drop i ns) ≡ held_instances all x ns
    → new ++ held_instances all x (drop (i + 1) ns) ≡ held_instances all x ns
held_further all x ns i old new e f =
    rw add-one (ap (λ l. l ++ held_instances all x (drop (suc i) ns)) e ∙ append_assoc old (held_by_at all x (slice_get ns i)) (held_instances all x (drop (suc i) ns)) ∙ sym (ap (λ l. old ++ l) (held_from all x ns i)) ∙ f)

none_behind : (xs : List (ℕ × ℕ)) → xs ≡ xs ++ []
none_behind [] = refl
none_behind (x ∷ xs) = ap (λ l. x ∷ l) (none_behind xs)

pub held_whole : (all : List (ℕ × ℕ)) (x : Option Txn) (ns : List TxnEntry) (i n : ℕ) (old : List (ℕ × ℕ)) → n ≡ length ns → n ≤ i → old ++ held_instances all x (drop i ns) ≡ held_instances all x ns → old ≡ held_instances all x ns
held_whole all x ns i n old e h f = none_behind old ∙ sym (ap (λ l. old ++ held_instances all x l) (all_dropped ns i (omega (arith, e, h)))) ∙ f
