-- Reading, one step at a time.
use Rattle.std.proofs.Common.{◌≡◌, ◌≢◌, ℕ, suc, ◌+◌, ◌*◌, ◌/◌, ◌<◌, ◌≤◌, ◌^◌, ◌==◌, ◌||◌, List, [], ◌∷◌, ◌++◌, length, drop, Bool, true, false, nat_lt, cond, Option, Some, None, Result, Ok, Err, refl, sym, ap, ◌∙◌, arith, append_assoc, append-nil, subst, ne_eqb}
use Rattle.fc_wire.specs.Bytes.{u16_at}
use Rattle.fc_wire.specs.Tiling.{Tiling, next_of, rest_of}
use Rattle.fc_wire.specs.Tlvs.{TlvItem, tlvs}
use Rattle.fc_wire.specs.declared.header.WireFault.{WireFault}
use Rattle.fc_base.specs.Answers.{◌>>=◌}
use Rattle.fc_path.specs.Stray.{Fails, beside, shut}
use Rattle.fc_path.specs.Reading.{each_in, some_in, path_or, body_in, leaf_at, path_at, content_in, numbers, end_of}
use Rattle.fc_path.specs.declared.fault.PathFault.{PathFault}
use Rattle.fc_path.specs.declared.fault.PathFault.TheVariants as faults
use Rattle.fc_path.specs.declared.oper.OperKind.{OperKind}
use Rattle.fc_path.specs.declared.path.Key.{Key}
use Rattle.fc_path.specs.declared.path.PathData.{PathData, roll-PathData}
use Rattle.fc_path.specs.declared.path.Body.{Body}

pub fails_bind : {A B : Type 0} (e : PathFault) (r : Result A PathFault) (f : A → Result B PathFault) → Fails e r → Fails e (r >>= f)
fails_bind (faults.Wire x) r f h = ap (λ q. q >>= f) h
fails_bind (faults.UnknownTlv x) r f h = ap (λ q. q >>= f) h
fails_bind (faults.CountPast x) r f h = ap (λ q. q >>= f) h
fails_bind (faults.KeyFlag x) r f h = ap (λ q. q >>= f) h
fails_bind (faults.TwoBodies x) r f h = ap (λ q. q >>= f) h
fails_bind (faults.Deep x) r f h = ap (λ q. q >>= f) h
fails_bind (faults.WrongBody x) r f h = ap (λ q. q >>= f) h
fails_bind (faults.Trailing x) r f h = ap (λ q. q >>= f) h
fails_bind faults.Memory r f h = tt

pub skip : {A : Type 0} (b : Bool) (x y : A) → b ≡ false → cond b x y ≡ y
skip true x y e = cc
skip false x y e = refl

-- what a view gave
pub took : {A : Type 0} (items : List A) (fault : Option WireFault) (t : A) (rest : Tiling A) → Some (Ok t) ≡ next_of items fault → rest ≡ rest_of items fault → (items ≡ t ∷ rest.items) × (fault ≡ rest.fault)
took [] None t rest e r = cc
took [] (Some f) t rest e r = cc
took (x ∷ xs) fault t rest e r =
    let same : x ≡ t = cc in
    let items : rest.items ≡ xs = ap (λ w. w.items) r in
    (cc (same, items), sym (ap (λ w. w.fault) r))

module _ {X : Type 0} (one : TlvItem → Result X PathFault) where
  -- the loop over the TLVs, of which those in front are read, and all is what the whole gives
  abbrev pub SoFar : List TlvItem → Option WireFault → List X → Result (List X) PathFault → Type 0
  SoFar items fault front all = (each_in one items fault >>= λ more. Ok (front ++ more)) ≡ all

  front_moves : (front : List X) (x : X) (r : Result (List X) PathFault) → (r >>= λ xs. Ok ((front ++ x ∷ []) ++ xs)) ≡ ((r >>= λ xs. Ok (x ∷ xs)) >>= λ xs. Ok (front ++ xs))
  front_moves front x (Err e) = refl
  front_moves front x (Ok xs) = ap Ok (append_assoc front (x ∷ []) xs)

  pub loop_goes : (items : List TlvItem) (fault : Option WireFault) (t : TlvItem) (rest : Tiling TlvItem) (front next : List X) (all : Result (List X) PathFault) (x : X)
      → SoFar items fault front all → Some (Ok t) ≡ next_of items fault → rest ≡ rest_of items fault → one t ≡ Ok x → next ≡ front ++ x ∷ [] → SoFar rest.items rest.fault next all
  loop_goes items fault t rest front next all x h n r is e =
      let p = took items fault t rest n r in
      ap (λ l. each_in one rest.items rest.fault >>= λ xs. Ok (l ++ xs)) e
      ∙ front_moves front x (each_in one rest.items rest.fault)
      ∙ ap (λ q. (q >>= λ x. each_in one rest.items rest.fault >>= λ xs. Ok (x ∷ xs)) >>= λ xs. Ok (front ++ xs)) (sym is)
      ∙ ap (λ l. each_in one l rest.fault >>= λ xs. Ok (front ++ xs)) (sym p.0)
      ∙ ap (λ l. each_in one items l >>= λ xs. Ok (front ++ xs)) (sym p.1) ∙ h

  pub loop_fails : (items : List TlvItem) (fault : Option WireFault) (t : TlvItem) (rest : Tiling TlvItem) (front : List X) (all : Result (List X) PathFault) (e : PathFault)
      → SoFar items fault front all → Some (Ok t) ≡ next_of items fault → rest ≡ rest_of items fault → Fails e (one t) → Fails e all
  loop_fails items fault t rest front all e h n r f =
      let p = took items fault t rest n r in
      subst (Fails e) (ap (λ l. each_in one l rest.fault >>= λ xs. Ok (front ++ xs)) (sym p.0) ∙ ap (λ l. each_in one items l >>= λ xs. Ok (front ++ xs)) (sym p.1) ∙ h)
      (fails_bind e _ _ (fails_bind e (one t) _ f))

  -- the end of the loop
  pub loop_end : (items : List TlvItem) (fault : Option WireFault) (front : List X) (all : Result (List X) PathFault) → SoFar items fault front all → None ≡ next_of items fault → all ≡ Ok front
  loop_end [] None front all h n = sym h ∙ ap Ok (append-nil front)
  loop_end [] (Some f) front all h n = cc
  loop_end (x ∷ xs) fault front all h n = cc

  not_empty : (r : Result X PathFault) (s : Result (List X) PathFault) {P : Type 0} → (r >>= λ x. s >>= λ xs. Ok (x ∷ xs)) ≡ Ok [] → P
  not_empty (Err e) s h = cc
  not_empty (Ok x) (Err e) h = cc
  not_empty (Ok x) (Ok xs) h = cc

  pub some_empty : (end : ℕ) (items : List TlvItem) (fault : Option WireFault) → each_in one items fault ≡ Ok [] → some_in one end items fault ≡ Err (faults.WrongBody end)
  some_empty end [] None h = refl
  some_empty end [] (Some f) h = cc
  some_empty end (t ∷ ts) fault h = not_empty (one t) (each_in one ts fault) h

  pub some_full : (end : ℕ) (items : List TlvItem) (fault : Option WireFault) (xs : List X) → each_in one items fault ≡ Ok xs → 0 < length xs → some_in one end items fault ≡ Ok xs
  some_full end [] None xs h some = let same : [] ≡ xs = cc in absurd (omega (arith, ap length same))
  some_full end [] (Some f) xs h some = h
  some_full end (t ∷ ts) fault xs h some = h

  pub some_fails : (end : ℕ) (items : List TlvItem) (fault : Option WireFault) (e : PathFault) → Fails e (each_in one items fault) → Fails e (some_in one end items fault)
  some_fails end [] None (faults.Wire x) h = cc
  some_fails end [] None (faults.UnknownTlv x) h = cc
  some_fails end [] None (faults.CountPast x) h = cc
  some_fails end [] None (faults.KeyFlag x) h = cc
  some_fails end [] None (faults.TwoBodies x) h = cc
  some_fails end [] None (faults.Deep x) h = cc
  some_fails end [] None (faults.WrongBody x) h = cc
  some_fails end [] None (faults.Trailing x) h = cc
  some_fails end [] None faults.Memory h = tt
  some_fails end [] (Some f) e h = h
  some_fails end (t ∷ ts) fault e h = h

-- a body that begins with no PATH-DATA
pub body_leaf : (kind : OperKind) (one : TlvItem → Result PathData PathFault) (end : ℕ) (items : List TlvItem) (fault : Option WireFault) (t : TlvItem) (rest : Tiling TlvItem)
    → Some (Ok t) ≡ next_of items fault → rest ≡ rest_of items fault → t.kind ≢ 272 → body_in kind one end items fault ≡ (leaf_at kind t >>= λ leaf. shut beside rest.items rest.fault >>= λ _. Ok leaf)
body_leaf kind one end items fault t rest n r k =
    let p = took items fault t rest n r in
    ap (λ l. body_in kind one end l fault) p.0 ∙ ap (λ l. body_in kind one end (t ∷ rest.items) l) p.1 ∙ skip (t.kind == 272) _ _ (ne_eqb t.kind 272 k)

pub body_leaf_fails : (kind : OperKind) (one : TlvItem → Result PathData PathFault) (end : ℕ) (items : List TlvItem) (fault : Option WireFault) (t : TlvItem) (rest : Tiling TlvItem) (e : PathFault)
    → Some (Ok t) ≡ next_of items fault → rest ≡ rest_of items fault → t.kind ≢ 272 → Fails e (leaf_at kind t) → Fails e (body_in kind one end items fault)
body_leaf_fails kind one end items fault t rest e n r k f = subst (Fails e) (sym (body_leaf kind one end items fault t rest n r k)) (fails_bind e _ _ f)

pub neither : (m k : ℕ) → 4 ≤ m → k ≤ m → (nat_lt m 4 || nat_lt m k) ≡ false
neither m k p q = grind arith

-- what a PATH-DATA gives once its head is there
abbrev content_of : OperKind → ℕ → TlvItem → Result (Option Key × Body) PathFault
content_of kind d t =
    content_in kind (path_at kind d) t.place (u16_at t.padded 0 / 2 ^ 15 == 1) (end_of t) (tlvs (t.place + 8 + 4 * u16_at t.padded 2) (drop (4 + 4 * u16_at t.padded 2) t.padded)).items
    (tlvs (t.place + 8 + 4 * u16_at t.padded 2) (drop (4 + 4 * u16_at t.padded 2) t.padded)).fault

pub path_at_content : (kind : OperKind) (n d : ℕ) (t : TlvItem) → n ≡ suc d → 4 + 4 * u16_at t.padded 2 ≤ length t.padded
    → path_at kind n t ≡ (content_of kind d t >>= λ content. Ok (roll-PathData (record { ids = numbers (u16_at t.padded 2) (drop 4 t.padded); key = content.0; body = content.1 })))
path_at_content kind n d t e h = ap (λ m. path_at kind m t) e ∙ skip _ _ _ (neither (length t.padded) _ (omega arith) h)

-- the content as the code has it
abbrev pub content_by : OperKind → ℕ → ℕ → Bool → ℕ → ℕ → List ℕ → Result (Option Key × Body) PathFault
content_by kind d path keyed end place inner = content_in kind (path_at kind d) path keyed end (tlvs place inner).items (tlvs place inner).fault

pub content_same : (kind : OperKind) (d count path end place : ℕ) (keyed : Bool) (t : TlvItem) (inner : List ℕ) → count ≡ u16_at t.padded 2 → path ≡ t.place → keyed ≡ (u16_at t.padded 0 / 2 ^ 15 == 1) → end ≡ end_of t
    → place ≡ t.place + 8 + 4 * count → inner ≡ drop (4 + 4 * count) t.padded → content_by kind d path keyed end place inner ≡ content_of kind d t
content_same kind d count path end place keyed t inner c p k e at i =
    ap (λ q. content_by kind d q keyed end place inner) p ∙ ap (λ q. content_by kind d t.place q end place inner) k ∙ ap (λ q. content_by kind d t.place (u16_at t.padded 0 / 2 ^ 15 == 1) q place inner) e
    ∙ ap (λ q. content_by kind d t.place (u16_at t.padded 0 / 2 ^ 15 == 1) (end_of t) q inner) at
    ∙ ap (λ q. content_by kind d t.place (u16_at t.padded 0 / 2 ^ 15 == 1) (end_of t) (t.place + 8 + 4 * count) q) i
    ∙ ap (λ q. content_by kind d t.place (u16_at t.padded 0 / 2 ^ 15 == 1) (end_of t) (t.place + 8 + 4 * q) (drop (4 + 4 * q) t.padded)) c

pub path_at_ok : (kind : OperKind) (n d count path end place : ℕ) (keyed : Bool) (t : TlvItem) (inner more ids : List ℕ) (key : Option Key) (b : Body) → n ≡ suc d → 4 + 4 * count ≤ length t.padded
    → count ≡ u16_at t.padded 2 → path ≡ t.place → keyed ≡ (u16_at t.padded 0 / 2 ^ 15 == 1) → end ≡ end_of t → place ≡ t.place + 8 + 4 * count → inner ≡ drop (4 + 4 * count) t.padded → more ≡ drop 4 t.padded
    → content_by kind d path keyed end place inner ≡ Ok (key, b) → ids ≡ numbers count more → path_at kind n t ≡ Ok (roll-PathData (record { ids = ids; key = key; body = b }))
path_at_ok kind n d count path end place keyed t inner more ids key b e h c p k en at i m found is =
    let same : content_of kind d t ≡ Ok (key, b) = sym (content_same kind d count path end place keyed t inner c p k en at i) ∙ found in
    let list : numbers (u16_at t.padded 2) (drop 4 t.padded) ≡ ids = sym (is ∙ ap (numbers count) m ∙ ap (λ q. numbers q (drop 4 t.padded)) c) in
    path_at_content kind n d t e (omega arith)
    ∙ ap (λ r. r >>= λ content. Ok (roll-PathData (record { ids = numbers (u16_at t.padded 2) (drop 4 t.padded); key = content.0; body = content.1 }))) same
    ∙ ap (λ l. Ok (roll-PathData (record { ids = l; key = key; body = b }))) list

-- a PATH-DATA where one may stand
pub or_path : (stray : TlvItem → PathFault) (one : TlvItem → Result PathData PathFault) (t : TlvItem) → t.kind ≡ 272 → path_or stray one t ≡ one t
or_path stray one t k = ap (λ n. cond (n == 272) (one t) (Err (stray t))) k
