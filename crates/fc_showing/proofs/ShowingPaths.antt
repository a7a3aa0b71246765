-- Lending a PATH-DATA and appending its lines, one step at a time.
use Rattle.std.proofs.Common.{◌≡◌, ◌+◌, ◌==◌, Bool, true, false, cond, codes, ℕ, suc, List, [], ◌++◌, Option, Result, Ok, Err, refl, sym, ap, ◌∙◌, append_assoc, append-nil, subst, rules}
use Rattle.std.specs.List.{flat_map}
use Rattle.fc_wire.specs.Tiling.{Tiling}
use Rattle.fc_wire.specs.Tlvs.{TlvItem}
use Rattle.fc_wire.specs.declared.ilvs.Ilv.{Ilv}
use Rattle.fc_base.specs.Answers.{◌>>=◌}
use Rattle.fc_path.specs.BodyHeads.{body_held, leaf_held}
use Rattle.fc_path.specs.Heads.{head_at, with_body}
use Rattle.fc_path.specs.Stray.{Gives, a_path, beside, shut}
use Rattle.fc_path.specs.Reading.{body_in, nested_in, path_at, path_or}
use Rattle.fc_path.specs.declared.body_heads.BodyRef.{BodyRef}
use Rattle.fc_path.specs.declared.body_heads.BodyRef.TheVariants as lent
use Rattle.fc_path.specs.declared.body_heads.LeafRef.{LeafRef}
use Rattle.fc_path.specs.declared.fault.PathFault.{PathFault}
use Rattle.fc_path.specs.declared.heads.PathHead.{PathHead}
use Rattle.fc_path.specs.declared.oper.OperKind.{OperKind}
use Rattle.fc_path.specs.declared.path.Key.{Key}
use Rattle.fc_path.specs.declared.path.PathData.{PathData, roll-PathData}
use Rattle.fc_path.specs.declared.path.Body.{Body, the_lemmas}
use Rattle.fc_path.specs.declared.path.Body.TheVariants as v
use Rattle.fc_path.proofs.Heading.{path_is}
use Rattle.fc_path.proofs.Steps.{fails_bind}
use Rattle.fc_text.specs.Text.{body_text, code_text, full_text, ilv_text, indent, path_line, path_text, sparse_text}
use Rattle.fc_showing.specs.Appending.{shown, Shows}
use Rattle.fc_showing.proofs.Appending.{goes_on, was_read}
use Rattle.fc_text.proofs.Flattening.{nested_text}

rolled_text : (ids : List ℕ) (key : Option Key) (b : Body) (level : ℕ) → path_text (roll-PathData (record { ids = ids; key = key; body = b })) level ≡ path_line level ids key ++ body_text b (level + 1)
rolled_text ids key b level = search (rules, the_lemmas)

nothing_text : (level : ℕ) → body_text v.Nothing level ≡ []
nothing_text level = search (rules, the_lemmas)

pub full_is : (value : List ℕ) (level : ℕ) → body_text (v.Full value) level ≡ full_text level value
full_is value level = search (rules, the_lemmas)

pub sparse_is : (ilvs : List Ilv) (level : ℕ) → body_text (v.Sparse ilvs) level ≡ sparse_text level ilvs
sparse_is ilvs level = search (rules, the_lemmas)

pub outcome_is : (code : ℕ) (level : ℕ) → body_text (v.Outcome code) level ≡ code_text level code
outcome_is code level = search (rules, the_lemmas)

-- a PATH-DATA whose head is lent
pub head_goes : (result : Result (Unit {0}) PathFault) (kind : OperKind) (depth d level inside : ℕ) (t : TlvItem) (h : PathHead) (old mid new : List ℕ) → depth ≡ suc d → head_at t ≡ Ok h → mid ≡ old ++ path_line level h.ids h.key → inside ≡ level + 1
    → Shows result (body_in kind (path_at kind d) h.end h.body.items h.body.fault) (λ b. body_text b inside) mid new → Shows result (path_at kind depth t) (λ path. path_text path level) old new
head_goes result kind depth d level inside t h old mid new deep is m below shown_is =
    let same : path_at kind depth t ≡ with_body kind (path_at kind d) h = ap (λ n. path_at kind n t) deep ∙ path_is kind d t ∙ ap (λ r. r >>= with_body kind (path_at kind d)) is in
    subst (λ (r : Result PathData PathFault). Shows result r (λ path. path_text path level) old new) (sym same)
    (goes_on result (body_in kind (path_at kind d) h.end h.body.items h.body.fault) (λ b. roll-PathData (record { ids = h.ids; key = h.key; body = b })) (λ b. body_text b inside) (λ path. path_text path level) old (path_line level h.ids h.key) mid new m
    (λ b. rolled_text h.ids h.key b level ∙ ap (λ n. path_line level h.ids h.key ++ body_text b n) (sym below)) shown_is)

-- a TLV that was tested to be a PATH-DATA
tested : {A : Type 0} (b : Bool) (stray : PathFault) (r : Result A PathFault) → ◌≡◌ {A = Result (Unit {0}) PathFault} (cond b (Ok tt) (Err stray)) (Ok tt) → cond b r (Err stray) ≡ r
tested true stray r e = refl
tested false stray r e = cc

pub path_there : (stray : TlvItem → PathFault) (one : TlvItem → Result PathData PathFault) (t : TlvItem) → a_path stray t ≡ Ok tt → path_or stray one t ≡ one t
path_there stray one t e = tested (t.kind == 272) (stray t) (one t) e

-- bodies that are lent
module _ (one : TlvItem → Result PathData PathFault) (level : ℕ) (body : BodyRef) where
  leaf_then : (result : Result (Unit {0}) PathFault) (b : Body) (behind : Tiling TlvItem) (old mid : List ℕ) → mid ≡ old ++ body_text b level → Gives result (shut beside behind.items behind.fault)
      → Shows result (shut beside behind.items behind.fault >>= λ _. Ok b) (λ b. body_text b level) old mid
  leaf_then (Ok done) b behind old mid e gives = ap (λ (q : Result (Unit {0}) PathFault). shown (q >>= λ _. Ok b) (λ b. body_text b level) old) gives ∙ ap Ok (sym e)
  leaf_then (Err fault) b behind old mid e gives = fails_bind fault (shut beside behind.items behind.fault) (λ _. Ok b) gives

  pub leaf_goes : (result : Result (Unit {0}) PathFault) (leaf : LeafRef) (behind : Tiling TlvItem) (old mid : List ℕ) → body ≡ lent.Leaf leaf behind → shown (leaf_held leaf) (λ b. body_text b level) old ≡ Ok mid
      → Gives result (shut beside behind.items behind.fault) → Shows result (body_held one body) (λ b. body_text b level) old mid
  leaf_goes result leaf behind old mid is shown_is gives =
      let (b, held, e) = was_read (leaf_held leaf) (λ b. body_text b level) old mid shown_is in
      let same : body_held one body ≡ (shut beside behind.items behind.fault >>= λ _. Ok b) =
      ap (body_held one) is ∙ ap (λ (q : Result Body PathFault). q >>= λ b. shut beside behind.items behind.fault >>= λ _. Ok b) held in
      subst (λ (r : Result Body PathFault). Shows result r (λ b. body_text b level) old mid) (sym same) (leaf_then result b behind old mid e gives)

  pub nested_goes : (result : Result (Unit {0}) PathFault) (first : TlvItem) (behind : Tiling TlvItem) (old new : List ℕ) → body ≡ lent.Nested first behind
      → Shows result (nested_in one first behind.items behind.fault) (flat_map (λ path. path_text path level)) old new → Shows result (body_held one body) (λ b. body_text b level) old new
  nested_goes result first behind old new is shown_is =
      subst (λ (r : Result Body PathFault). Shows result r (λ b. body_text b level) old new) (sym (ap (body_held one) is))
      (goes_on result (nested_in one first behind.items behind.fault) v.Nested (flat_map (λ path. path_text path level)) (λ b. body_text b level) old [] old new (sym (append-nil old)) (λ paths. nested_text paths level) shown_is)

-- a reading whose text has a line in front
pub goes_with : {X : Type 0} (result : Result (Unit {0}) PathFault) (r : Result X PathFault) (text other : X → List ℕ) (old line mid new : List ℕ)
    → mid ≡ old ++ line → ((x : X) → other x ≡ line ++ text x) → Shows result r text mid new → Shows result r other old new
goes_with (Err fault) r text other old line mid new m same t = t
goes_with (Ok done) (Err e) text other old line mid new m same t = cc
goes_with (Ok done) (Ok x) text other old line mid new m same t =
    ap (λ l. Ok (old ++ l)) (same x) ∙ ap Ok (sym (append_assoc old line (text x))) ∙ ap (λ l. Ok (l ++ text x)) (sym m) ∙ t

-- leaves
module _ (r : Result Body PathFault) (level : ℕ) (old : List ℕ) where
  pub nothing_shown : r ≡ Ok v.Nothing → shown r (λ b. body_text b level) old ≡ Ok old
  nothing_shown is = ap (λ (q : Result Body PathFault). shown q (λ b. body_text b level) old) is ∙ ap (λ l. Ok (old ++ l)) (nothing_text level) ∙ ap Ok (append-nil old)

  pub full_shown : (value new : List ℕ) → r ≡ Ok (v.Full value) → new ≡ old ++ full_text level value → shown r (λ b. body_text b level) old ≡ Ok new
  full_shown value new is m = ap (λ (q : Result Body PathFault). shown q (λ b. body_text b level) old) is ∙ ap (λ l. Ok (old ++ l)) (full_is value level) ∙ ap Ok (sym m)

  pub outcome_shown : (code : ℕ) (new : List ℕ) → r ≡ Ok (v.Outcome code) → new ≡ old ++ code_text level code → shown r (λ b. body_text b level) old ≡ Ok new
  outcome_shown code new is m = ap (λ (q : Result Body PathFault). shown q (λ b. body_text b level) old) is ∙ ap (λ l. Ok (old ++ l)) (outcome_is code level) ∙ ap Ok (sym m)

  pub sparse_goes : (result : Result (Unit {0}) PathFault) (ilvs : Result (List Ilv) PathFault) (new : List ℕ) → r ≡ (ilvs >>= λ ilvs. Ok (v.Sparse ilvs)) → Shows result ilvs (sparse_text level) old new
      → Shows result r (λ b. body_text b level) old new
  sparse_goes result ilvs new is shown_is =
      subst (λ (q : Result Body PathFault). Shows result q (λ b. body_text b level) old new) (sym is)
      (goes_on result ilvs v.Sparse (sparse_text level) (λ b. body_text b level) old [] old new (sym (append-nil old)) (λ ilvs. sparse_is ilvs level) shown_is)

sparse_line : (level inside : ℕ) (ilvs : List Ilv) → inside ≡ level + 1 → sparse_text level ilvs ≡ (indent level ++ codes "sparse\n") ++ flat_map (ilv_text inside) ilvs
unfolding sparse_text
sparse_line level inside ilvs e =
    ap (λ n. indent level ++ (codes "sparse\n" ++ flat_map (ilv_text n) ilvs)) (sym e) ∙ sym (append_assoc (indent level) (codes "sparse\n") (flat_map (ilv_text inside) ilvs))

pub ilvs_go : (result : Result (Unit {0}) PathFault) (level inside : ℕ) (r : Result (List Ilv) PathFault) (old mid new : List ℕ) → inside ≡ level + 1 → mid ≡ old ++ (indent level ++ codes "sparse\n")
    → Shows result r (flat_map (ilv_text inside)) mid new → Shows result r (sparse_text level) old new
ilvs_go result level inside r old mid new below m shown_is = goes_with result r (flat_map (ilv_text inside)) (sparse_text level) old (indent level ++ codes "sparse\n") mid new m (λ ilvs. sparse_line level inside ilvs below) shown_is
