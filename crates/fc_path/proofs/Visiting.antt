-- The fault that reading gives is that of the first test that fails.
use Rattle.std.proofs.Common.{◌≡◌, ◌↔◌, ℕ, zero, suc, ◌+◌, ◌*◌, ◌/◌, ◌^◌, List, [], ◌∷◌, ◌++◌, length, drop, Bool, true, false, ◌==◌, ◌&&◌, ◌||◌, not, cond, nat_lt, Option, Some, None, Result, Ok, Err, refl, sym, ap, ◌∙◌, subst, eqb-true}
use Rattle.std.specs.Option.{option_or}
use Rattle.std.specs.List.{AllByRecursion}
use Rattle.fc_wire.specs.Bytes.{u16_at, u32_at}
use Rattle.fc_wire.specs.Tlvs.{TlvItem, tlvs}
use Rattle.fc_wire.specs.Ilvs.{IlvItem, ilvs}
use Rattle.fc_wire.specs.declared.header.WireFault.{WireFault}
use Rattle.fc_wire.specs.declared.header.WireFault.TheVariants as wire
use Rattle.fc_path.specs.Kinds.{is_known, operation_of, holds_selects, takes_nothing, takes_full, takes_sparse, takes_outcome}
use Rattle.fc_base.specs.Answers.{◌>>=◌}
use Rattle.fc_path.specs.Stray.{misplaced, beside, trailing, shut}
use Rattle.fc_path.specs.Reading.{each_in, some_in, single, full_at, outcome_at, sparse_in, sparse_at, key_at, leaf_at, path_or, nested_in, body_in, content_in, numbers, path_at, operation_at, oper_by, oper_at, select_at, end_of}
use Rattle.fc_path.specs.Visits as visits
use Rattle.fc_path.specs.Visits.{Visit, visit, IsGood, FirstBad, unless, Slot, is_body, oper_stands, stands, behind, behind_body, ends, place_of, walk_in, ilv_walk_in, nothing, key_visits, sparse_visits, outcome_visits, data_visits, path_visits, operation_visits, oper_visits_by, oper_visits, select_visits}
use Rattle.fc_path.specs.declared.fault.PathFault.{PathFault}
use Rattle.fc_path.specs.declared.fault.PathFault.TheVariants as faults
use Rattle.fc_path.specs.declared.kinds.Operation.{Operation}
use Rattle.fc_path.specs.declared.kinds.Operation.TheVariants as operation
use Rattle.fc_path.specs.declared.oper.OperKind.{OperKind}
use Rattle.fc_path.specs.declared.oper.Oper.{Oper}
use Rattle.fc_path.specs.declared.oper.Select.{Select}
use Rattle.fc_path.specs.declared.path.Body.{Body}
use Rattle.fc_path.specs.declared.path.Body.TheVariants as v
use Rattle.fc_path.specs.declared.path.Key.{Key}
use Rattle.fc_path.specs.declared.path.PathData.{PathData, roll-PathData}

-- the fault of the first test that fails
abbrev bad : List Visit → Option PathFault
bad [] = None
bad (v ∷ vs) = option_or v.fault (bad vs)

abbrev fault_of : {X : Type 0} → Result X PathFault → Option PathFault
fault_of (Ok x) = None
fault_of (Err fault) = Some fault

or_assoc : (a b c : Option PathFault) → option_or (option_or a b) c ≡ option_or a (option_or b c)
or_assoc None b c = refl
or_assoc (Some x) b c = refl

or_none : (a : Option PathFault) → option_or a None ≡ a
or_none None = refl
or_none (Some x) = refl

bad_append : (xs ys : List Visit) → bad (xs ++ ys) ≡ option_or (bad xs) (bad ys)
bad_append [] ys = refl
bad_append (x ∷ xs) ys = ap (option_or x.fault) (bad_append xs ys) ∙ sym (or_assoc x.fault (bad xs) (bad ys))

-- one after the other
then_fault : {A B : Type 0} (r : Result A PathFault) (f : A → Result B PathFault) (o : Option PathFault) → ((x : A) → fault_of (f x) ≡ o) → fault_of (r >>= f) ≡ option_or (fault_of r) o
then_fault (Ok x) f o h = h x
then_fault (Err e) f o h = refl

keeps : {A B : Type 0} (r : Result A PathFault) (g : A → B) → fault_of (r >>= λ x. Ok (g x)) ≡ fault_of r
keeps (Ok x) g = refl
keeps (Err e) g = refl

both_fault : {A B C : Type 0} (r : Result A PathFault) (s : Result B PathFault) (g : A → B → C) → fault_of (r >>= λ x. s >>= λ y. Ok (g x y)) ≡ option_or (fault_of r) (fault_of s)
both_fault r s g = then_fault r (λ x. s >>= λ y. Ok (g x y)) (fault_of s) (λ x. keeps s (g x))

-- a test of both
tested : {X : Type 0} (b : Bool) (x : X) (fault : PathFault) → fault_of (cond b (Ok x) (Err fault)) ≡ option_or (unless b fault) None
tested true x fault = refl
tested false x fault = refl

refused : {X : Type 0} (b : Bool) (r : Result X PathFault) (fault : PathFault) (vs : List Visit) → fault_of r ≡ bad vs → fault_of (cond b (Err fault) r) ≡ option_or (unless (not b) fault) (bad vs)
refused true r fault vs h = refl
refused false r fault vs h = h

by_test : {P : Type 0} (b : Bool) → (b ≡ true → P) → (b ≡ false → P) → P
by_test true h k = h refl
by_test false h k = k refl

-- nothing may stand here
shut_past : (held : TlvItem → List Visit) (end : ℕ) (ts : List TlvItem) (fault : Option WireFault) → fault_of (shut trailing ts fault) ≡ bad (walk_in held visits.past end ts fault)
shut_past held end [] None = refl
shut_past held end [] (Some f) = refl
shut_past held end (t ∷ ts) fault = refl

shut_leaf : (held : TlvItem → List Visit) (end : ℕ) (ts : List TlvItem) (fault : Option WireFault) → fault_of (shut beside ts fault) ≡ bad (walk_in held visits.leaf end ts fault)
shut_leaf held end [] None = refl
shut_leaf held end [] (Some f) = refl
shut_leaf held end (t ∷ ts) fault = refl

-- lists of what may stand any number of times
module _ {X : Type 0} (one : TlvItem → Result X PathFault) (held : TlvItem → List Visit) (slot : Slot) (steps : (t : TlvItem) → fault_of (one t) ≡ option_or (stands slot t) (bad (held t)))
    (stays : (t : TlvItem) → behind slot t ≡ slot) (free : (end : ℕ) → ends slot end ≡ None) where
  each_walk : (end : ℕ) (ts : List TlvItem) (fault : Option WireFault) → fault_of (each_in one ts fault) ≡ bad (walk_in held slot end ts fault)
  each_walk end [] None = ap (λ q. option_or q None) (sym (free end))
  each_walk end [] (Some f) = refl
  each_walk end (t ∷ ts) fault =
      let more : fault_of (each_in one ts fault) ≡ bad (walk_in held (behind slot t) end ts fault) = each_walk end ts fault ∙ ap (λ s. bad (walk_in held s end ts fault)) (sym (stays t)) in
      both_fault (one t) (each_in one ts fault) (λ x xs. x ∷ xs)
      ∙ ap (λ q. option_or q (fault_of (each_in one ts fault))) (steps t)
      ∙ ap (λ q. option_or (option_or (stands slot t) (bad (held t))) q) more
      ∙ or_assoc (stands slot t) (bad (held t)) _
      ∙ ap (option_or (stands slot t)) (sym (bad_append (held t) (walk_in held (behind slot t) end ts fault)))

-- a PATH-DATA where one may stand
module _ (one : TlvItem → Result PathData PathFault) (paths : TlvItem → List Visit) (same : (t : TlvItem) → fault_of (one t) ≡ bad (paths t)) where
  or_steps : (stray : TlvItem → PathFault) (t : TlvItem) → fault_of (path_or stray one t) ≡ option_or (unless (t.kind == 272) (stray t)) (bad (data_visits paths t))
  or_steps stray t = by_test (t.kind == 272)
      (λ e. ap (λ q. fault_of (cond q (one t) (Err (stray t)))) e ∙ same t
      ∙ sym (ap (λ q. option_or (unless q (stray t)) (bad (cond q (paths t) (cond (t.kind == 273) (key_visits t) (cond (t.kind == 275) (sparse_visits t) (cond (t.kind == 276) (outcome_visits t) [])))))) e))
      (λ e. ap (λ q. fault_of (cond q (one t) (Err (stray t)))) e
      ∙ sym (ap (λ q. option_or (unless q (stray t)) (bad (cond q (paths t) (cond (t.kind == 273) (key_visits t) (cond (t.kind == 275) (sparse_visits t) (cond (t.kind == 276) (outcome_visits t) [])))))) e))

  paths_walk : (end : ℕ) (ts : List TlvItem) (fault : Option WireFault) → fault_of (some_in (path_or misplaced one) end ts fault) ≡ bad (walk_in (data_visits paths) (visits.path false) end ts fault)
  paths_walk end [] None = refl
  paths_walk end [] (Some f) = refl
  paths_walk end (t ∷ ts) fault = each_walk (path_or misplaced one) (data_visits paths) (visits.path true) (or_steps misplaced) (λ t. refl) (λ end. refl) end (t ∷ ts) fault

  nested_walk : (end : ℕ) (t : TlvItem) (ts : List TlvItem) (fault : Option WireFault) → fault_of (nested_in one t ts fault) ≡ bad (paths t ++ walk_in (data_visits paths) visits.nested end ts fault)
  nested_walk end t ts fault =
      both_fault (one t) (each_in (path_or beside one) ts fault) (λ x xs. x ∷ xs)
      ∙ ap (λ q. option_or q (fault_of (each_in (path_or beside one) ts fault))) (same t)
      ∙ ap (option_or (bad (paths t))) (each_walk (path_or beside one) (data_visits paths) visits.nested (or_steps beside) (λ t. refl) (λ end. refl) end ts fault)
      ∙ sym (bad_append (paths t) (walk_in (data_visits paths) visits.nested end ts fault))

-- what stands alone
single_walk : {X : Type 0} (kind : ℕ) (one : TlvItem → Result X PathFault) (held : TlvItem → List Visit) → ((t : TlvItem) → fault_of (one t) ≡ bad (held t))
    → (end : ℕ) (ts : List TlvItem) (fault : Option WireFault) → fault_of (single kind one end ts fault) ≡ bad (walk_in held (visits.only kind) end ts fault)
single_walk kind one held same end [] None = refl
single_walk kind one held same end [] (Some f) = refl
single_walk kind one held same end (t ∷ ts) fault =
    let rest = walk_in held visits.past end ts fault in
    let yes = one t >>= λ x. shut trailing ts fault >>= λ _. Ok x in
    let goes : fault_of yes ≡ bad (held t ++ rest) =
    both_fault (one t) (shut trailing ts fault) (λ x _. x) ∙ ap (λ q. option_or q (fault_of (shut trailing ts fault))) (same t)
    ∙ ap (option_or (bad (held t))) (shut_past held end ts fault) ∙ sym (bad_append (held t) rest) in
    by_test (t.kind == kind)
    (λ e. ap (λ q. fault_of (cond q yes (Err (misplaced t)))) e ∙ goes ∙ sym (ap (λ q. option_or (unless q (misplaced t)) (bad (held t ++ rest))) e))
    (λ e. ap (λ q. fault_of (cond q yes (Err (misplaced t)))) e ∙ sym (ap (λ q. option_or (unless q (misplaced t)) (bad (held t ++ rest))) e))

outcome_walk : (t : TlvItem) → fault_of (outcome_at t) ≡ bad (outcome_visits t)
outcome_walk t = tested (length t.body == 4) _ (faults.WrongBody t.place)

key_walk : (t : TlvItem) → fault_of (key_at t) ≡ bad (key_visits t)
key_walk t =
    let view = tlvs (t.place + 8) (drop 4 t.padded) in
    let inner = single 274 full_at (end_of t) view.items view.fault in
    refused (nat_lt (length t.body) 4) (inner >>= λ value. Ok (record { ident = u32_at t.padded 0; value = value })) (faults.Wire (wire.TlvShort t.place)) (walk_in nothing (visits.only 274) (end_of t) view.items view.fault)
    (keeps inner _ ∙ single_walk 274 full_at nothing (λ t. refl) (end_of t) view.items view.fault)

ilvs_walk : (end : ℕ) (is : List IlvItem) (fault : Option WireFault) → fault_of (sparse_in is fault) ≡ bad (ilv_walk_in end is fault)
ilvs_walk end [] None = refl
ilvs_walk end [] (Some f) = refl
ilvs_walk end (i ∷ is) None = ilvs_walk end is None
ilvs_walk end (i ∷ is) (Some f) = ilvs_walk end is (Some f)

sparse_walk : (t : TlvItem) → fault_of (sparse_at t) ≡ bad (sparse_visits t)
sparse_walk t = ilvs_walk (end_of t) (ilvs (t.place + 4) t.padded).items (ilvs (t.place + 4) t.padded).fault

-- a TLV of these parts
abbrev tlv_of : ℕ → TlvItem → TlvItem
tlv_of kind t = record { kind = kind; place = t.place; body = t.body; padded = t.padded }

-- what a body that holds no PATH-DATA gives
abbrev leaf_then : OperKind → TlvItem → List TlvItem → Option WireFault → Result Body PathFault
leaf_then kind t ts fault = leaf_at kind t >>= λ b. shut beside ts fault >>= λ _. Ok b

module _ (kind : OperKind) (paths : TlvItem → List Visit) where
  -- the tests from a body on
  abbrev from_body : ℕ → TlvItem → List TlvItem → Option WireFault → Option PathFault
  from_body end t ts fault = bad (walk_in (data_visits paths) (visits.body kind) end (t ∷ ts) fault)

  leaf_walk : (t : TlvItem) (end : ℕ) (ts : List TlvItem) (fault : Option WireFault) (vs : List Visit) → fault_of (leaf_at kind t) ≡ bad vs
      → fault_of (leaf_then kind t ts fault) ≡ bad (vs ++ walk_in (data_visits paths) visits.leaf end ts fault)
  leaf_walk t end ts fault vs h =
      both_fault (leaf_at kind t) (shut beside ts fault) (λ b _. b)
      ∙ ap (λ q. option_or q (fault_of (shut beside ts fault))) h
      ∙ ap (option_or (bad vs)) (shut_leaf (data_visits paths) end ts fault)
      ∙ sym (bad_append vs (walk_in (data_visits paths) visits.leaf end ts fault))

  -- a FULLDATA, a SPARSEDATA and a RESULT
  full_body : (b : Bool) (t : TlvItem) (end : ℕ) (ts : List TlvItem) (fault : Option WireFault) → fault_of ((cond b (Ok (v.Full t.body)) (Err (faults.WrongBody t.place))) >>= λ b. shut beside ts fault >>= λ _. Ok b)
      ≡ option_or (unless (b || false) (faults.WrongBody t.place)) (bad (walk_in (data_visits paths) visits.leaf end ts fault))
  full_body true t end ts fault = keeps (shut beside ts fault) (λ _. v.Full t.body) ∙ shut_leaf (data_visits paths) end ts fault
  full_body false t end ts fault = refl

  sparse_body : (b : Bool) (t : TlvItem) (end : ℕ) (ts : List TlvItem) (fault : Option WireFault) → fault_of ((cond b (sparse_at t >>= λ is. Ok (v.Sparse is)) (Err (faults.WrongBody t.place))) >>= λ b. shut beside ts fault >>= λ _. Ok b)
      ≡ option_or (unless (b || false) (faults.WrongBody t.place)) (bad (sparse_visits t ++ walk_in (data_visits paths) visits.leaf end ts fault))
  sparse_body true t end ts fault =
      both_fault (sparse_at t >>= λ is. Ok (v.Sparse is)) (shut beside ts fault) (λ b _. b)
      ∙ ap (λ q. option_or q (fault_of (shut beside ts fault))) (keeps (sparse_at t) v.Sparse ∙ sparse_walk t)
      ∙ ap (option_or (bad (sparse_visits t))) (shut_leaf (data_visits paths) end ts fault)
      ∙ sym (bad_append (sparse_visits t) (walk_in (data_visits paths) visits.leaf end ts fault))
  sparse_body false t end ts fault = refl

  outcome_body : (b : Bool) (t : TlvItem) (end : ℕ) (ts : List TlvItem) (fault : Option WireFault) → fault_of ((cond b (outcome_at t >>= λ code. Ok (v.Outcome code)) (Err (faults.WrongBody t.place))) >>= λ b. shut beside ts fault >>= λ _. Ok b)
      ≡ option_or (unless b (faults.WrongBody t.place)) (bad (outcome_visits t ++ walk_in (data_visits paths) visits.leaf end ts fault))
  outcome_body true t end ts fault =
      both_fault (outcome_at t >>= λ code. Ok (v.Outcome code)) (shut beside ts fault) (λ b _. b)
      ∙ ap (λ q. option_or q (fault_of (shut beside ts fault))) (keeps (outcome_at t) v.Outcome ∙ outcome_walk t)
      ∙ ap (option_or (bad (outcome_visits t))) (shut_leaf (data_visits paths) end ts fault)
      ∙ sym (bad_append (outcome_visits t) (walk_in (data_visits paths) visits.leaf end ts fault))
  outcome_body false t end ts fault = refl

  module _ (one : TlvItem → Result PathData PathFault) (same : (t : TlvItem) → fault_of (one t) ≡ bad (paths t)) where
    -- one TLV of a body and those behind it, by its type
    abbrev Same : ℕ → TlvItem → ℕ → List TlvItem → Option WireFault → Type 0
    Same n t end ts fault = fault_of (body_in kind one end (tlv_of n t ∷ ts) fault) ≡ from_body end (tlv_of n t) ts fault

    of_paths : (t : TlvItem) (end : ℕ) (ts : List TlvItem) (fault : Option WireFault) → Same 272 t end ts fault
    of_paths t end ts fault = keeps (nested_in one (tlv_of 272 t) ts fault) v.Nested ∙ nested_walk one paths same end (tlv_of 272 t) ts fault

    of_full : (t : TlvItem) (end : ℕ) (ts : List TlvItem) (fault : Option WireFault) → Same 274 t end ts fault
    of_full t end ts fault = full_body (takes_full kind) (tlv_of 274 t) end ts fault

    of_sparse : (t : TlvItem) (end : ℕ) (ts : List TlvItem) (fault : Option WireFault) → Same 275 t end ts fault
    of_sparse t end ts fault = sparse_body (takes_sparse kind) (tlv_of 275 t) end ts fault

    of_outcome : (t : TlvItem) (end : ℕ) (ts : List TlvItem) (fault : Option WireFault) → Same 276 t end ts fault
    of_outcome t end ts fault = outcome_body (takes_outcome kind) (tlv_of 276 t) end ts fault

    -- a TLV of another type
    of_none : (t : TlvItem) (end : ℕ) (ts : List TlvItem) (fault : Option WireFault) (p f s o : Bool) → p ≡ false → f ≡ false → s ≡ false → o ≡ false
        → fault_of (cond p (nested_in one t ts fault >>= λ ps. Ok (v.Nested ps)) ((cond (f && takes_full kind) (Ok (v.Full t.body)) (cond (s && takes_sparse kind) (sparse_at t >>= λ is. Ok (v.Sparse is))
        (cond (o && takes_outcome kind) (outcome_at t >>= λ code. Ok (v.Outcome code)) (Err (misplaced t))))) >>= λ b. shut beside ts fault >>= λ _. Ok b))
        ≡ option_or (unless (p || ((f && takes_full kind) || ((s && takes_sparse kind) || (o && takes_outcome kind)))) (misplaced t))
        (bad (data_visits paths t ++ walk_in (data_visits paths) (behind_body t) end ts fault))
    of_none t end ts fault true f s o e h k l = cc
    of_none t end ts fault false true s o e h k l = cc
    of_none t end ts fault false false true o e h k l = cc
    of_none t end ts fault false false false true e h k l = cc
    of_none t end ts fault false false false false e h k l = refl

    by_kind : (n : ℕ) (t : TlvItem) (end : ℕ) (ts : List TlvItem) (fault : Option WireFault) → (t.kind == n) ≡ true → Same n t end ts fault → Same t.kind t end ts fault
    by_kind n t end ts fault e h = subst (λ m. Same m t end ts fault) (sym (eqb-true t.kind n e)) h

    body_walk : (end : ℕ) (ts : List TlvItem) (fault : Option WireFault) → fault_of (body_in kind one end ts fault) ≡ bad (walk_in (data_visits paths) (visits.body kind) end ts fault)
    body_walk end [] None = tested (takes_nothing kind) v.Nothing (faults.WrongBody end)
    body_walk end [] (Some f) = refl
    body_walk end (t ∷ ts) fault =
        by_test (t.kind == 272) (λ e. by_kind 272 t end ts fault e (of_paths t end ts fault))
        (λ p. by_test (t.kind == 274) (λ e. by_kind 274 t end ts fault e (of_full t end ts fault))
        (λ f. by_test (t.kind == 275) (λ e. by_kind 275 t end ts fault e (of_sparse t end ts fault))
        (λ s. by_test (t.kind == 276) (λ e. by_kind 276 t end ts fault e (of_outcome t end ts fault))
        (λ o. of_none t end ts fault (t.kind == 272) (t.kind == 274) (t.kind == 275) (t.kind == 276) p f s o))))

    abbrev with_key : Key → Body → Option Key × Body
    with_key key b = (Some key, b)

    abbrev without : Body → Option Key × Body
    without b = (None, b)

    -- what stands behind the IDs, one TLV and those behind it, by its type
    abbrev SameContent : ℕ → Bool → ℕ → TlvItem → ℕ → List TlvItem → Option WireFault → Type 0
    SameContent n keyed place t end ts fault =
        fault_of (content_in kind one place keyed end (tlv_of n t ∷ ts) fault) ≡ bad (walk_in (data_visits paths) (visits.opening kind place keyed) end (tlv_of n t ∷ ts) fault)

    of_key : (place : ℕ) (t : TlvItem) (end : ℕ) (ts : List TlvItem) (fault : Option WireFault) → SameContent 273 true place t end ts fault
    of_key place t end ts fault =
        let rest = walk_in (data_visits paths) (visits.body kind) end ts fault in
        both_fault (key_at (tlv_of 273 t)) (body_in kind one end ts fault) with_key
        ∙ ap (λ q. option_or q (fault_of (body_in kind one end ts fault))) (key_walk (tlv_of 273 t))
        ∙ ap (option_or (bad (key_visits (tlv_of 273 t)))) (body_walk end ts fault)
        ∙ sym (bad_append (key_visits (tlv_of 273 t)) rest)

    no_key : (unknown b : Bool) (place : ℕ) (t : TlvItem) (end : ℕ) (ts : List TlvItem) (fault : Option WireFault) (vs : List Visit) → b ≡ false
        → fault_of {X = Option Key × Body} (cond unknown (Err (faults.UnknownTlv t.place)) (cond b (key_at t >>= λ key. body_in kind one end ts fault >>= λ b. Ok (with_key key b)) (Err (faults.KeyFlag (place + 4)))))
        ≡ option_or (cond unknown (Some (faults.UnknownTlv t.place)) (unless b (faults.KeyFlag (place + 4)))) (bad vs)
    no_key unknown true place t end ts fault vs e = cc
    no_key true false place t end ts fault vs e = refl
    no_key false false place t end ts fault vs e = refl

    stray_key : (place : ℕ) (t : TlvItem) (end : ℕ) (ts : List TlvItem) (fault : Option WireFault) → SameContent 273 false place t end ts fault
    stray_key place t end ts fault = refl

    unkeyed : (unknown b : Bool) (place : ℕ) (t : TlvItem) (end : ℕ) (ts : List TlvItem) (fault : Option WireFault) → b ≡ false
        → fault_of {X = Option Key × Body} (cond unknown (Err (faults.UnknownTlv t.place)) (cond b (Err (faults.KeyFlag (place + 4))) (body_in kind one end (t ∷ ts) fault >>= λ b. Ok (without b))))
        ≡ option_or (cond unknown (Some (faults.UnknownTlv t.place)) (cond b (Some (faults.KeyFlag (place + 4))) (unless (is_body kind t.kind) (misplaced t))))
        (bad (data_visits paths t ++ walk_in (data_visits paths) (behind_body t) end ts fault))
    unkeyed unknown true place t end ts fault e = cc
    unkeyed true false place t end ts fault e = refl
    unkeyed false false place t end ts fault e = keeps (body_in kind one end (t ∷ ts) fault) without ∙ body_walk end (t ∷ ts) fault

    content_walk : (place end : ℕ) (keyed : Bool) (ts : List TlvItem) (fault : Option WireFault)
        → fault_of (content_in kind one place keyed end ts fault) ≡ bad (walk_in (data_visits paths) (visits.opening kind place keyed) end ts fault)
    content_walk place end true [] None = refl
    content_walk place end false [] None = keeps (body_in kind one end [] None) without ∙ body_walk end [] None
    content_walk place end keyed [] (Some f) = refl
    content_walk place end true (t ∷ ts) fault =
        by_test (t.kind == 273) (λ e. subst (λ n. SameContent n true place t end ts fault) (sym (eqb-true t.kind 273 e)) (of_key place t end ts fault))
        (no_key (not (is_known t.kind)) (t.kind == 273) place t end ts fault (data_visits paths t ++ walk_in (data_visits paths) (visits.body kind) end ts fault))
    content_walk place end false (t ∷ ts) fault =
        by_test (t.kind == 273) (λ e. subst (λ n. SameContent n false place t end ts fault) (sym (eqb-true t.kind 273 e)) (stray_key place t end ts fault))
        (unkeyed (not (is_known t.kind)) (t.kind == 273) place t end ts fault)

path_walk : (kind : OperKind) (depth : ℕ) (t : TlvItem) → fault_of (path_at kind depth t) ≡ bad (path_visits kind depth t)
path_walk kind zero t = refl
path_walk kind (suc depth) t =
    let n = u16_at t.padded 2 in
    let view = tlvs (t.place + 8 + 4 * n) (drop (4 + 4 * n) t.padded) in
    let keyed = u16_at t.padded 0 / 2 ^ 15 == 1 in
    let content = content_in kind (path_at kind depth) t.place keyed (end_of t) view.items view.fault in
    let make = λ (x : Option Key × Body). roll-PathData (record { ids = numbers n (drop 4 t.padded); key = x.0; body = x.1 }) in
    refused (nat_lt (length t.padded) 4 || nat_lt (length t.padded) (4 + 4 * n)) (content >>= λ x. Ok (make x)) (faults.CountPast t.place)
    (walk_in (data_visits (path_visits kind depth)) (visits.opening kind t.place keyed) (end_of t) view.items view.fault)
    (keeps content make ∙ content_walk kind (path_visits kind depth) (path_at kind depth) (path_walk kind depth) t.place (end_of t) keyed view.items view.fault)

operation_walk : (which : Operation) (t : TlvItem) → fault_of (operation_at which t) ≡ bad (operation_visits which t)
operation_walk (operation.Paths kind) t =
    let view = tlvs (t.place + 4) t.padded in
    keeps (some_in (path_or misplaced (path_at kind 16)) (end_of t) view.items view.fault) _
    ∙ paths_walk (path_at kind 16) (path_visits kind 16) (path_walk kind 16) (end_of t) view.items view.fault
operation_walk operation.Commit t = tested (length t.body == 0) _ (faults.WrongBody t.place)
operation_walk operation.Trcomp t = tested (length t.body == 0) _ (faults.WrongBody t.place)
operation_walk operation.CommitResponse t =
    let view = tlvs (t.place + 4) t.padded in
    keeps (single 276 outcome_at (end_of t) view.items view.fault) _ ∙ single_walk 276 outcome_at outcome_visits outcome_walk (end_of t) view.items view.fault

oper_steps : (which : Option Operation) (t : TlvItem) → fault_of (oper_by which t) ≡ option_or (oper_stands which t) (bad (oper_visits_by which t))
oper_steps (Some which) t = operation_walk which t
oper_steps None t = refl

opers_walk : (message end : ℕ) (ts : List TlvItem) (fault : Option WireFault) → fault_of (some_in (oper_at message) end ts fault) ≡ bad (walk_in (oper_visits message) (visits.oper message false) end ts fault)
opers_walk message end [] None = refl
opers_walk message end [] (Some f) = refl
opers_walk message end (t ∷ ts) fault =
    each_walk (oper_at message) (oper_visits message) (visits.oper message true) (λ t. oper_steps (operation_of message t.kind) t) (λ t. refl) (λ end. refl) end (t ∷ ts) fault

abbrev select_of : TlvItem → List Oper → Select
select_of t opers = record { class = u32_at t.padded 0; instance = u32_at t.padded 4; opers = opers }

select_walk : (message : ℕ) (t : TlvItem) → fault_of (select_at message t) ≡ bad (select_visits message t)
select_walk message t =
    let view = tlvs (t.place + 12) (drop 8 t.padded) in
    let opers = some_in (oper_at message) (end_of t) view.items view.fault in
    let make = select_of t in
    let short = faults.Wire (wire.TlvShort t.place) in
    let inner = walk_in (oper_visits message) (visits.oper message false) (end_of t) view.items view.fault in
    refused (not (t.kind == 4096) || not (holds_selects message)) (cond (nat_lt (length t.body) 8) (Err short) (opers >>= λ os. Ok (make os))) (misplaced t)
    (visit t.place (unless (not (nat_lt (length t.body) 8)) short) ∷ inner)
    (refused (nat_lt (length t.body) 8) (opers >>= λ os. Ok (make os)) short inner (keeps opers make ∙ opers_walk message (end_of t) view.items view.fault))

-- the first test that fails, as a place in the list
some_same : {A : Type 0} (x y : A) → Some x ≡ Some y → x ≡ y
some_same x y e = cc

first_from : (o : Option PathFault) (x : Visit) (vs : List Visit) (f : PathFault) → (bad vs ≡ Some f → FirstBad f vs) → x.fault ≡ o → option_or o (bad vs) ≡ Some f → FirstBad f (x ∷ vs)
first_from (Some g) x vs f k h e = ([], x.place, vs, ap (λ o. visit x.place o ∷ vs) (h ∙ e), tt)
first_from None x vs f k h e =
    let (before, place, rest, is, good) = k e in
    (x ∷ before, place, rest, ap (λ l. x ∷ l) is, (h, good))

is_first : (vs : List Visit) (f : PathFault) → bad vs ≡ Some f → FirstBad f vs
is_first [] f e = cc
is_first (x ∷ vs) f e = first_from x.fault x vs f (is_first vs f) refl e

good_front : (before rest : List Visit) → AllByRecursion IsGood before → bad (before ++ rest) ≡ bad rest
good_front [] rest h = refl
good_front (x ∷ before) rest h = ap (λ o. option_or o (bad (before ++ rest))) h.0 ∙ good_front before rest h.1

first_is : (vs : List Visit) (f : PathFault) → FirstBad f vs → bad vs ≡ Some f
first_is vs f h = ap bad h.3 ∙ good_front h.0 (visit h.1 (Some f) ∷ h.2) h.4

good_from : (o : Option PathFault) (x : Visit) (vs : List Visit) → (bad vs ≡ None → AllByRecursion IsGood vs) → x.fault ≡ o → option_or o (bad vs) ≡ None → AllByRecursion IsGood (x ∷ vs)
good_from (Some g) x vs k h e = cc
good_from None x vs k h e = (h, k e)

all_good : (vs : List Visit) → bad vs ≡ None → AllByRecursion IsGood vs
all_good [] e = tt
all_good (x ∷ vs) e = good_from x.fault x vs (all_good vs) refl e

none_bad : (vs : List Visit) → AllByRecursion IsGood vs → bad vs ≡ None
none_bad [] h = refl
none_bad (x ∷ vs) h = ap (λ o. option_or o (bad vs)) h.0 ∙ none_bad vs h.1

err_of : {X : Type 0} (r : Result X PathFault) (f : PathFault) → fault_of r ≡ Some f → r ≡ Err f
err_of (Ok x) f e = cc
err_of (Err g) f e = ap Err (some_same g f e)

ok_of : {X : Type 0} (r : Result X PathFault) → fault_of r ≡ None → (x : X) × (r ≡ Ok x)
ok_of (Ok x) e = (x, refl)
ok_of (Err g) e = cc

pub first : (message : ℕ) (t : TlvItem) (f : PathFault) → (select_at message t ≡ Err f) ↔ FirstBad f (select_visits message t)
first message t f = (
  λ e. is_first (select_visits message t) f (sym (select_walk message t) ∙ ap fault_of e),
  λ h. err_of (select_at message t) f (select_walk message t ∙ first_is (select_visits message t) f h),
)

pub read : (message : ℕ) (t : TlvItem) → ((s : Select) × (select_at message t ≡ Ok s)) ↔ AllByRecursion IsGood (select_visits message t)
read message t = (
  λ e. all_good (select_visits message t) (sym (select_walk message t) ∙ ap fault_of e.1),
  λ h. ok_of (select_at message t) (select_walk message t ∙ none_bad (select_visits message t) h),
)
