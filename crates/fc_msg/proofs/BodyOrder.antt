-- The fault of a body is that of its first test that fails.
use Rattle.std.proofs.Common.{◌≡◌, ◌↔◌, ℕ, List, [], ◌∷◌, ◌++◌, length, Bool, true, false, ◌==◌, cond, Option, Some, None, Result, Ok, Err, refl, sym, ap, ◌∙◌, append_assoc}
use Rattle.std.specs.Option.{option_or}
use Rattle.std.specs.List.{AllByRecursion, flat_map}
use Rattle.fc_wire.specs.Bytes.{u32_at}
use Rattle.fc_wire.specs.Tlvs.{TlvItem}
use Rattle.fc_wire.specs.declared.header.WireFault.{WireFault}
use Rattle.fc_base.specs.Answers.{◌>>=◌}
use Rattle.fc_path.specs.Stray.{misplaced, shut, trailing}
use Rattle.fc_path.specs.Reading.{each_in, select_at, single, some_in}
use Rattle.fc_path.specs.Visits as visits
use Rattle.fc_path.specs.Visits.{Visit, visit, IsGood, FirstBad, unless, walk_in, nothing, select_visits}
use Rattle.fc_path.specs.declared.fault.PathFault.{PathFault}
use Rattle.fc_path.specs.declared.fault.PathFault.TheVariants as faults
use Rattle.fc_path.specs.declared.oper.Select.{Select}
use Rattle.fc_path.proofs.Visiting.{first, read}
use Rattle.fc_msg.specs.Bodies.{body_at, holding, number_at}
use Rattle.fc_msg.specs.BodyVisits.{are_enough, body_visits, end_visit, number_visits}
use Rattle.fc_msg.specs.declared.message.MsgBody.{MsgBody}
use Rattle.fc_msg.specs.declared.message.MsgBody.TheVariants.{Setup, SetupResponse, Teardown, Heartbeat}

-- the fault of the first test that fails, and that of reading
abbrev pub bad : List Visit → Option PathFault
bad [] = None
bad (v ∷ vs) = option_or v.fault (bad vs)

abbrev pub fault_from : {X : Type 0} → Result X PathFault → Option PathFault
fault_from (Ok x) = None
fault_from (Err fault) = Some fault

or_assoc : (a b c : Option PathFault) → option_or (option_or a b) c ≡ option_or a (option_or b c)
or_assoc None b c = refl
or_assoc (Some x) b c = refl

bad_append : (xs ys : List Visit) → bad (xs ++ ys) ≡ option_or (bad xs) (bad ys)
bad_append [] ys = refl
bad_append (x ∷ xs) ys = ap (option_or x.fault) (bad_append xs ys) ∙ sym (or_assoc x.fault (bad xs) (bad ys))

-- one after the other
keeps : {A B : Type 0} (r : Result A PathFault) (g : A → B) → fault_from (r >>= λ x. Ok (g x)) ≡ fault_from r
keeps (Ok x) g = refl
keeps (Err e) g = refl

both : {A B C : Type 0} (r : Result A PathFault) (s : Result B PathFault) (g : A → B → C) → fault_from (r >>= λ x. s >>= λ y. Ok (g x y)) ≡ option_or (fault_from r) (fault_from s)
both (Ok x) s g = keeps s (g x)
both (Err e) s g = refl

chosen : {X : Type 0} (b : Bool) (r s : Result X PathFault) (xs ys : List Visit) → fault_from r ≡ bad xs → fault_from s ≡ bad ys → fault_from (cond b r s) ≡ bad (cond b xs ys)
chosen true r s xs ys h k = h
chosen false r s xs ys h k = k

by_test : {P : Type 0} (b : Bool) → (b ≡ true → P) → (b ≡ false → P) → P
by_test true h k = h refl
by_test false h k = k refl

-- a list of tests as a place in it, and back
some_same : {A : Type 0} (x y : A) → Some x ≡ Some y → x ≡ y
some_same x y e = cc

first_from : (o : Option PathFault) (x : Visit) (vs : List Visit) (f : PathFault) → (bad vs ≡ Some f → FirstBad f vs) → x.fault ≡ o → option_or o (bad vs) ≡ Some f → FirstBad f (x ∷ vs)
first_from (Some g) x vs f k h e = ([], x.place, vs, ap (λ o. visit x.place o ∷ vs) (h ∙ e), tt)
first_from None x vs f k h e =
    let (before, place, rest, is, good) = k e in
    (x ∷ before, place, rest, ap (λ l. x ∷ l) is, (h, good))

is_first : (vs : List Visit) (f : PathFault) → bad vs ≡ Some f → FirstBad f vs
is_first [] f e = cc
is_first (x ∷ vs) f e = first_from x.fault x vs f (is_first vs f) refl e

good_front : (before rest : List Visit) → AllByRecursion IsGood before → bad (before ++ rest) ≡ bad rest
good_front [] rest h = refl
good_front (x ∷ before) rest h = ap (λ o. option_or o (bad (before ++ rest))) h.0 ∙ good_front before rest h.1

first_is : (vs : List Visit) (f : PathFault) → FirstBad f vs → bad vs ≡ Some f
first_is vs f h = ap bad h.3 ∙ good_front h.0 (visit h.1 (Some f) ∷ h.2) h.4

good_from : (o : Option PathFault) (x : Visit) (vs : List Visit) → (bad vs ≡ None → AllByRecursion IsGood vs) → x.fault ≡ o → option_or o (bad vs) ≡ None → AllByRecursion IsGood (x ∷ vs)
good_from (Some g) x vs k h e = cc
good_from None x vs k h e = (h, k e)

all_good : (vs : List Visit) → bad vs ≡ None → AllByRecursion IsGood vs
all_good [] e = tt
all_good (x ∷ vs) e = good_from x.fault x vs (all_good vs) refl e

none_bad : (vs : List Visit) → AllByRecursion IsGood vs → bad vs ≡ None
none_bad [] h = refl
none_bad (x ∷ vs) h = ap (λ o. option_or o (bad vs)) h.0 ∙ none_bad vs h.1

-- an LFBselect
select_by : (kind : ℕ) (t : TlvItem) (r : Result Select PathFault) → select_at kind t ≡ r → fault_from r ≡ bad (select_visits kind t)
select_by kind t (Ok s) e = sym (none_bad (select_visits kind t) ((read kind t).0 (s, e)))
select_by kind t (Err f) e = sym (first_is (select_visits kind t) f ((first kind t f).0 e))

select_bad : (kind : ℕ) (t : TlvItem) → fault_from (select_at kind t) ≡ bad (select_visits kind t)
select_bad kind t = select_by kind t (select_at kind t) refl

-- LFBselects, one after the other, and their end
each_bad : (kind end : ℕ) (ts : List TlvItem) (fault : Option WireFault) → fault_from (each_in (select_at kind) ts fault) ≡ bad (flat_map (select_visits kind) ts ++ end_visit true end fault ∷ [])
each_bad kind end [] None = refl
each_bad kind end [] (Some f) = refl
each_bad kind end (t ∷ ts) fault =
    let own = select_visits kind t in
    let last = end_visit true end fault ∷ [] in
    let more = flat_map (select_visits kind) ts in
    both (select_at kind t) (each_in (select_at kind) ts fault) (λ s ss. s ∷ ss)
    ∙ ap (λ o. option_or o (fault_from (each_in (select_at kind) ts fault))) (select_bad kind t) ∙ ap (option_or (bad own)) (each_bad kind end ts fault)
    ∙ sym (bad_append own (more ++ last)) ∙ ap bad (sym (append_assoc own more last))

some_bad : (kind end : ℕ) (ts : List TlvItem) (fault : Option WireFault) → fault_from (some_in (select_at kind) end ts fault) ≡ bad (flat_map (select_visits kind) ts ++ end_visit (are_enough false ts) end fault ∷ [])
some_bad kind end [] None = refl
some_bad kind end [] (Some f) = refl
some_bad kind end (t ∷ ts) fault = each_bad kind end (t ∷ ts) fault

each_enough : (kind end : ℕ) (ts : List TlvItem) (fault : Option WireFault) → fault_from (each_in (select_at kind) ts fault) ≡ bad (flat_map (select_visits kind) ts ++ end_visit (are_enough true ts) end fault ∷ [])
each_enough kind end [] fault = each_bad kind end [] fault
each_enough kind end (t ∷ ts) fault = each_bad kind end (t ∷ ts) fault

selects_bad : (is_setup : Bool) (kind end : ℕ) (ts : List TlvItem) (fault : Option WireFault)
    → fault_from (cond is_setup (each_in (select_at kind) ts fault >>= λ ss. Ok (Setup ss)) (some_in (select_at kind) end ts fault >>= λ ss. Ok (holding kind ss)))
    ≡ bad (flat_map (select_visits kind) ts ++ end_visit (are_enough is_setup ts) end fault ∷ [])
selects_bad true kind end ts fault = keeps (each_in (select_at kind) ts fault) Setup ∙ each_enough kind end ts fault
selects_bad false kind end ts fault = keeps (some_in (select_at kind) end ts fault) (holding kind) ∙ some_bad kind end ts fault

-- nothing, and what stands alone
shut_bad : (held : TlvItem → List Visit) (end : ℕ) (ts : List TlvItem) (fault : Option WireFault) → fault_from (shut trailing ts fault) ≡ bad (walk_in held visits.past end ts fault)
shut_bad held end [] None = refl
shut_bad held end [] (Some f) = refl
shut_bad held end (t ∷ ts) fault = refl

tested : {X : Type 0} (b : Bool) (x : X) (fault : PathFault) → fault_from (cond b (Ok x) (Err fault)) ≡ option_or (unless b fault) None
tested true x fault = refl
tested false x fault = refl

number_bad : (t : TlvItem) → fault_from (number_at t) ≡ bad (number_visits t)
number_bad t = tested (length t.body == 4) (u32_at t.body 0) (faults.WrongBody t.place)

single_bad : (kind end : ℕ) (ts : List TlvItem) (fault : Option WireFault) → fault_from (single kind number_at end ts fault) ≡ bad (walk_in number_visits (visits.only kind) end ts fault)
single_bad kind end [] None = refl
single_bad kind end [] (Some f) = refl
single_bad kind end (t ∷ ts) fault =
    let rest = walk_in number_visits visits.past end ts fault in
    let yes = number_at t >>= λ n. shut trailing ts fault >>= λ _. Ok n in
    let goes : fault_from yes ≡ bad (number_visits t ++ rest) =
    both (number_at t) (shut trailing ts fault) (λ n _. n) ∙ ap (λ o. option_or o (fault_from (shut trailing ts fault))) (number_bad t)
    ∙ ap (option_or (bad (number_visits t))) (shut_bad number_visits end ts fault) ∙ sym (bad_append (number_visits t) rest) in
    by_test (t.kind == kind)
    (λ e. ap (λ b. fault_from (cond b yes (Err (misplaced t)))) e ∙ goes ∙ sym (ap (λ b. option_or (unless b (misplaced t)) (bad (number_visits t ++ rest))) e))
    (λ e. ap (λ b. fault_from (cond b yes (Err (misplaced t)))) e ∙ sym (ap (λ b. option_or (unless b (misplaced t)) (bad (number_visits t ++ rest))) e))

-- a body
pub body_bad : (kind end : ℕ) (ts : List TlvItem) (fault : Option WireFault) → fault_from (body_at kind end ts fault) ≡ bad (body_visits kind end ts fault)
body_bad kind end ts fault =
    chosen (kind == 15) _ _ _ _ (keeps (shut trailing ts fault) (λ _. Heartbeat) ∙ shut_bad nothing end ts fault)
    (chosen (kind == 17) _ _ _ _ (keeps (single 16 number_at end ts fault) SetupResponse ∙ single_bad 16 end ts fault)
    (chosen (kind == 2) _ _ _ _ (keeps (single 17 number_at end ts fault) Teardown ∙ single_bad 17 end ts fault) (selects_bad (kind == 1) kind end ts fault)))

pub err_of : {X : Type 0} (r : Result X PathFault) (f : PathFault) → fault_from r ≡ Some f → r ≡ Err f
err_of (Ok x) f e = cc
err_of (Err g) f e = ap Err (some_same g f e)

ok_of : {X : Type 0} (r : Result X PathFault) → fault_from r ≡ None → (x : X) × (r ≡ Ok x)
ok_of (Ok x) e = (x, refl)
ok_of (Err g) e = cc

pub first_fault : (kind end : ℕ) (ts : List TlvItem) (cut : Option WireFault) (f : PathFault) → (body_at kind end ts cut ≡ Err f) ↔ FirstBad f (body_visits kind end ts cut)
first_fault kind end ts cut f = (
  λ e. is_first (body_visits kind end ts cut) f (sym (body_bad kind end ts cut) ∙ ap fault_from e),
  λ h. err_of (body_at kind end ts cut) f (body_bad kind end ts cut ∙ first_is (body_visits kind end ts cut) f h),
)

pub all_read : (kind end : ℕ) (ts : List TlvItem) (cut : Option WireFault) → ((body : MsgBody) × (body_at kind end ts cut ≡ Ok body)) ↔ AllByRecursion IsGood (body_visits kind end ts cut)
all_read kind end ts cut = (
  λ e. all_good (body_visits kind end ts cut) (sym (body_bad kind end ts cut) ∙ ap fault_from e.1),
  λ h. ok_of (body_at kind end ts cut) (body_bad kind end ts cut ∙ none_bad (body_visits kind end ts cut) h),
)
