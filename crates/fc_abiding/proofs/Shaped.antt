-- The operations of a Config, by what it asks: a start, a change and an end have one leaf in front.
use Rattle.std.proofs.Common.{◌≡◌, ℕ, ◌==◌, Bool, true, false, cond, is_some, List, [], ◌∷◌, ◌++◌, map, Option, Some, None, refl, sym, ap, ◌∙◌, rules}
use Rattle.std.specs.List.{flat_map}
use Rattle.std.specs.Option.{option_and_then}
use Rattle.fc_exec.specs.Operations.{oper_operations, operations}
use Rattle.fc_exec.specs.declared.operations.Operation.TheVariants as operation
use Rattle.fc_lfbs.specs.Kinds.{opening_type, subject_type}
use Rattle.fc_msg.specs.declared.message.Message.{Message}
use Rattle.fc_path.specs.Leaves.{Given, leaf, own_steps, body_leaves, path_leaves}
use Rattle.fc_path.specs.declared.oper.Leaf.{Leaf}
use Rattle.fc_path.specs.declared.oper.Oper.{Oper}
use Rattle.fc_path.specs.declared.oper.Oper.TheVariants as oper
use Rattle.fc_path.specs.declared.oper.OperKind.{OperKind}
use Rattle.fc_path.specs.declared.oper.OperKind.TheVariants as kinds
use Rattle.fc_path.specs.declared.oper.Select.{Select}
use Rattle.fc_path.specs.declared.oper.Step.{Step}
use Rattle.fc_path.specs.declared.path.Key.{Key}
use Rattle.fc_path.specs.declared.path.PathData.{PathData}
use Rattle.fc_path.specs.declared.path.Body.{Body, out-Body, roll-Body, the_lemmas}
use Rattle.fc_path.specs.declared.path.Body.TheOpen.{Body-F}
use Rattle.fc_path.specs.declared.path.Body.TheVariants as v
use Rattle.fc_path.specs.declared.path.Body.TheViews.{roll-out-Body}
use Rattle.fc_phases.specs.Asking.{aborted, asked, claim_or, claim_word, ended, ended_by, floor_in, floor_or_plain, opening_at, phase_asked, started, subject_at, with_subject}
use Rattle.fc_phases.specs.Shapes.{behind, first_full, full_layer, head, is_id, is_mastership, keyless, kind_full, opers_behind, path_full, rest_of, select_first, set_full, single, with_opers}
use Rattle.fc_phases.specs.Values.{opening_in, subject_in}
use Rattle.fc_phases.specs.declared.asked.Asked.{Asked}
use Rattle.fc_phases.specs.declared.asked.Asked.TheVariants.{Claim, Floor, Plain, Start, Change, Commit, Complete as Completing, Abort as Aborting, Malformed}
use Rattle.fc_phases.specs.declared.values.Opening.{Opening}
use Rattle.fc_phases.specs.declared.values.Subject.{Subject}
use Rattle.fc_protocol.proofs.Basics.{none_some, some_same}
use Rattle.fc_transactions.specs.Order.{asked_of}

-- one leaf, and then the operations of the rest
abbrev pub BeginsSo : List Select → Type 0
BeginsSo selects = (l : Leaf) × (operations selects ≡ operation.Leaf l ∷ operations (rest_of selects))

-- one leaf, and then a TRCOMP
abbrev pub EndsSo : List Select → Type 0
EndsSo selects = (l : Leaf) × (operations selects ≡ operation.Leaf l ∷ operation.Trcomp ∷ [])

-- one leaf, and then a COMMIT
abbrev pub CommitsSo : List Select → Type 0
CommitsSo selects = (l : Leaf) × (operations selects ≡ operation.Leaf l ∷ operation.Commit ∷ [])

-- one leaf alone
abbrev pub StandsAlone : List Select → Type 0
StandsAlone selects = (l : Leaf) × (operations selects ≡ operation.Leaf l ∷ [])

abbrev pub Shaped : List Select → Asked → Type 0
Shaped selects (Claim word) = Unit {0}
Shaped selects (Floor f) = Unit {0}
Shaped selects Plain = Unit {0}
Shaped selects (Start o) = BeginsSo selects
Shaped selects (Change x) = BeginsSo selects
Shaped selects (Commit x) = CommitsSo selects
Shaped selects (Completing x) = EndsSo selects
Shaped selects (Aborting x) = StandsAlone selects
Shaped selects Malformed = Unit {0}

-- ---- a whole value is one leaf
full_leaf : (k : OperKind) (c i : ℕ) (x : List ℕ) → body_leaves k c i (v.Full x) ≡ (λ steps. leaf k c i steps (v.Full x))
full_leaf k c i x = search (rules, the_lemmas)

path_leaves_is : (k : OperKind) (c i : ℕ) (p : PathData) → path_leaves k c i p ≡ (λ steps. body_leaves k c i p.body (steps ++ own_steps p.ids p.key))
path_leaves_is k c i p = search (rules, the_lemmas)

abbrev OneLeaf : List Leaf → Type 0
OneLeaf ls = (l : Leaf) × (ls ≡ l ∷ [])

layer_one : (k : OperKind) (c i : ℕ) (b : Body) (y : Body-F Body PathData) (steps : List Step) (bytes : List ℕ) → out-Body b ≡ y → full_layer y ≡ Some bytes → OneLeaf (body_leaves k c i b steps)
layer_one k c i b Body-F.Nothing steps bytes e f = absurd (none_some bytes f)
layer_one k c i b (Body-F.Full x) steps bytes e f =
    let is : b ≡ v.Full x = sym (roll-out-Body b) ∙ ap roll-Body e ∙ v.rolls-Full x in
    (record { kind = k; spot = record { class = c; instance = i; steps = steps }; body = v.Full x }, ap (λ d. body_leaves k c i d steps) is ∙ ap (λ (g : Given). g steps) (full_leaf k c i x))
layer_one k c i b (Body-F.Sparse ilvs) steps bytes e f = absurd (none_some bytes f)
layer_one k c i b (Body-F.Outcome code) steps bytes e f = absurd (none_some bytes f)
layer_one k c i b (Body-F.Nested paths) steps bytes e f = absurd (none_some bytes f)

module _ (id c i : ℕ) (bytes : List ℕ) where
  full_by : (k : OperKind) (p : PathData) (b : Bool) → cond {A = Option (List ℕ)} b (full_layer (out-Body p.body)) None ≡ Some bytes → OneLeaf (path_leaves k c i p [])
  full_by k p true e =
      let one = layer_one k c i p.body (out-Body p.body) ([] ++ own_steps p.ids p.key) bytes refl e in
      (one.0, ap (λ (g : Given). g []) (path_leaves_is k c i p) ∙ one.1)
  full_by k p false e = absurd (none_some bytes e)

  key_by : (k : OperKind) (p : PathData) (key : Option Key) → keyless id p key ≡ Some bytes → OneLeaf (path_leaves k c i p [])
  key_by k p None e = full_by k p (is_id id p.ids) e
  key_by k p (Some key) e = absurd (none_some bytes e)

  abbrev OneOperation : Oper → Type 0
  OneOperation o = (l : Leaf) × (oper_operations c i o ≡ operation.Leaf l ∷ [])

  paths_by : (paths : List PathData) → option_and_then (path_full id) (single paths) ≡ Some bytes → OneOperation (oper.Paths kinds.Set paths)
  paths_by [] e = absurd (none_some bytes e)
  paths_by (p ∷ []) e =
      let one = key_by kinds.Set p p.key e in
      (one.0, ap (λ (ls : List Leaf). map operation.Leaf (ls ++ [])) one.1)
  paths_by (p ∷ q ∷ more) e = absurd (none_some bytes e)

  kind_by : (kind : OperKind) (paths : List PathData) → kind_full kind id paths ≡ Some bytes → OneOperation (oper.Paths kind paths)
  kind_by kinds.Set paths e = paths_by paths e
  kind_by kinds.SetProp paths e = absurd (none_some bytes e)
  kind_by kinds.Del paths e = absurd (none_some bytes e)
  kind_by kinds.SetResponse paths e = absurd (none_some bytes e)
  kind_by kinds.SetPropResponse paths e = absurd (none_some bytes e)
  kind_by kinds.DelResponse paths e = absurd (none_some bytes e)
  kind_by kinds.Get paths e = absurd (none_some bytes e)
  kind_by kinds.GetProp paths e = absurd (none_some bytes e)
  kind_by kinds.GetResponse paths e = absurd (none_some bytes e)
  kind_by kinds.GetPropResponse paths e = absurd (none_some bytes e)
  kind_by kinds.Report paths e = absurd (none_some bytes e)

  oper_one : (o : Oper) → set_full id o ≡ Some bytes → OneOperation o
  oper_one (oper.Paths kind paths) e = kind_by kind paths e
  oper_one oper.Commit e = absurd (none_some bytes e)
  oper_one oper.Trcomp e = absurd (none_some bytes e)
  oper_one (oper.CommitResponse code) e = absurd (none_some bytes e)

-- ---- the first operation of a Config
behind_is : (s : Select) (more : List Select) (os : List Oper) → operations (with_opers s os more) ≡ flat_map (oper_operations s.class s.instance) os ++ operations more
behind_is s more [] = refl
behind_is s more (o ∷ os) = refl

abbrev without_first : List Oper → List Oper
without_first os = Rattle.fc_phases.specs.Shapes.tail os

opers_by : (id : ℕ) (s : Select) (more : List Select) (bytes : List ℕ) (os : List Oper) → s.opers ≡ os → option_and_then (set_full id) (head os) ≡ Some bytes → BeginsSo (s ∷ more)
opers_by id s more bytes [] e f = absurd (none_some bytes f)
opers_by id s more bytes (o ∷ os) e f =
    let one = oper_one id s.class s.instance bytes o f in
    let each = oper_operations s.class s.instance in (
      one.0,
      ap (λ ps. flat_map each ps ++ operations more) e ∙ ap (λ ops. (ops ++ flat_map each os) ++ operations more) one.1
          ∙ sym (ap (λ ops. operation.Leaf one.0 ∷ ops) (ap (λ ps. operations (with_opers s (without_first ps) more)) e ∙ behind_is s more os)),
    )

select_by : (id : ℕ) (s : Select) (more : List Select) (bytes : List ℕ) (b : Bool) → cond {A = Option (List ℕ)} b (option_and_then (set_full id) (head s.opers)) None ≡ Some bytes → BeginsSo (s ∷ more)
select_by id s more bytes true e = opers_by id s more bytes s.opers refl e
select_by id s more bytes false e = absurd (none_some bytes e)

first_begins : (id : ℕ) (selects : List Select) (bytes : List ℕ) → first_full id selects ≡ Some bytes → BeginsSo selects
first_begins id [] bytes e = absurd (none_some bytes e)
first_begins id (s ∷ more) bytes e = select_by id s more bytes (is_mastership s) e

-- ---- an end with TRCOMP
ends_by : (selects : List Select) → behind selects ≡ Some (oper.Trcomp ∷ []) → operations (rest_of selects) ≡ operation.Trcomp ∷ []
ends_by [] e = absurd (none_some (oper.Trcomp ∷ []) e)
ends_by (s ∷ []) e = ap (λ os. operations (with_opers s os [])) (some_same (opers_behind s) (oper.Trcomp ∷ []) e)
ends_by (s ∷ t ∷ more) e = absurd (none_some (oper.Trcomp ∷ []) e)

commits_by : (selects : List Select) → behind selects ≡ Some (oper.Commit ∷ []) → operations (rest_of selects) ≡ operation.Commit ∷ []
commits_by [] e = absurd (none_some (oper.Commit ∷ []) e)
commits_by (s ∷ []) e = ap (λ os. operations (with_opers s os [])) (some_same (opers_behind s) (oper.Commit ∷ []) e)
commits_by (s ∷ t ∷ more) e = absurd (none_some (oper.Commit ∷ []) e)

abbrev no_oper : List Oper
no_oper = []

nothing_by : (selects : List Select) → behind selects ≡ Some no_oper → operations (rest_of selects) ≡ []
nothing_by [] e = absurd (none_some no_oper e)
nothing_by (s ∷ []) e = ap (λ os. operations (with_opers s os [])) (some_same (opers_behind s) no_oper e)
nothing_by (s ∷ t ∷ more) e = absurd (none_some no_oper e)

there : {A B : Type 0} (f : A → Option B) (o : Option A) → is_some (option_and_then f o) ≡ true → (x : A) × (o ≡ Some x)
there f None e = absurd cc
there f (Some x) e = (x, refl)

module _ (selects : List Select) where
  floor_shaped : (f : Option Subject) → Shaped selects (floor_or_plain f)
  floor_shaped None = tt
  floor_shaped (Some f) = tt

  claim_shaped : (o : Option ℕ) → Shaped selects (claim_or o selects)
  claim_shaped None = floor_shaped (floor_in selects)
  claim_shaped (Some w) = tt

  started_shaped : (o : Option Opening) → (is_some o ≡ true → BeginsSo selects) → Shaped selects (started o)
  started_shaped None h = tt
  started_shaped (Some o) h = h refl

  one_shaped : (x : Subject) (o : Oper) → behind selects ≡ Some (o ∷ []) → BeginsSo selects → Shaped selects (ended_by x o)
  one_shaped x (oper.Paths kind paths) e h = tt
  one_shaped x oper.Commit e h = (h.0, h.1 ∙ ap (λ ops. operation.Leaf h.0 ∷ ops) (commits_by selects e))
  one_shaped x oper.Trcomp e h = (h.0, h.1 ∙ ap (λ ops. operation.Leaf h.0 ∷ ops) (ends_by selects e))
  one_shaped x (oper.CommitResponse code) e h = tt

  ended_shaped : (x : Subject) (b : Option (List Oper)) → behind selects ≡ b → BeginsSo selects → Shaped selects (ended x b)
  ended_shaped x None e h = tt
  ended_shaped x (Some []) e h = tt
  ended_shaped x (Some (o ∷ [])) e h = one_shaped x o e h
  ended_shaped x (Some (o ∷ p ∷ more)) e h = tt

  aborted_shaped : (x : Subject) (b : Option (List Oper)) → behind selects ≡ b → BeginsSo selects → Shaped selects (aborted x b)
  aborted_shaped x None e h = tt
  aborted_shaped x (Some []) e h = (h.0, h.1 ∙ ap (λ ops. operation.Leaf h.0 ∷ ops) (nothing_by selects e))
  aborted_shaped x (Some (o ∷ more)) e h = tt

  phase_by : (x : Subject) (b c : Bool) → BeginsSo selects → Shaped selects (cond {A = Asked} b (Change x) (cond {A = Asked} c (ended x (behind selects)) (aborted x (behind selects))))
  phase_by x true c h = h
  phase_by x false true h = ended_shaped x (behind selects) refl h
  phase_by x false false h = aborted_shaped x (behind selects) refl h

  subject_shaped : (tp : ℕ) (o : Option Subject) → (is_some o ≡ true → BeginsSo selects) → Shaped selects (with_subject tp o selects)
  subject_shaped tp None h = tt
  subject_shaped tp (Some x) h = phase_by x (tp == 1) (tp == 2) (h refl)

  opening_begins : is_some (opening_at opening_type (first_full 4 selects)) ≡ true → BeginsSo selects
  opening_begins e = let b = there (opening_in opening_type) (first_full 4 selects) e in first_begins 4 selects b.0 b.1

  subject_begins : is_some (subject_at subject_type (first_full 5 selects)) ≡ true → BeginsSo selects
  subject_begins e = let b = there (subject_in subject_type) (first_full 5 selects) e in first_begins 5 selects b.0 b.1

  flagged_by : (tp : ℕ) (b : Bool) → Shaped selects (cond {A = Asked} b (started (opening_at opening_type (first_full 4 selects))) (with_subject tp (subject_at subject_type (first_full 5 selects)) selects))
  flagged_by tp true = started_shaped (opening_at opening_type (first_full 4 selects)) opening_begins
  flagged_by tp false = subject_shaped tp (subject_at subject_type (first_full 5 selects)) subject_begins

  mode_by : (tp : ℕ) (b : Bool) → Shaped selects (cond {A = Asked} b (phase_asked opening_type subject_type tp selects) Malformed)
  mode_by tp true = flagged_by tp (tp == 0)
  mode_by tp false = tt

  flag_by : (em tp : ℕ) (at : Bool) → Shaped selects (asked opening_type subject_type em at tp selects)
  flag_by em tp false = claim_shaped (claim_word selects)
  flag_by em tp true = mode_by tp (em == 1)

pub shaped : (m : Message) (selects : List Select) → Shaped selects (asked_of m selects)
shaped m selects = flag_by selects m.flags.em m.flags.tp m.flags.at
