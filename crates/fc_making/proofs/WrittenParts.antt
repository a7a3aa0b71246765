-- What is read of a part is written as it is spelled.
use Rattle.std.proofs.Common.{◌≡◌, ◌↔◌, ℕ, zero, suc, ◌+◌, ◌-◌, ◌<◌, ◌≤◌, ◌&&◌, not, nat_lt, cond, Bool, true, false, List, [], ◌∷◌, ◌++◌, length, map, Option, IfOk, Result, Ok, Err, OnOk, append_assoc, append-nil, refl, sym, ap, ◌∙◌, subst, arith}
use Rattle.std.specs.List.{flat_map}
use Rattle.std.specs.Result.{IsErrOf}
use Rattle.std.proofs.lemmas.List.{map-append}
use Rattle.fc_base.specs.Answers.{◌>>=◌}
use Rattle.fc_base.specs.declared.faults.WriteFault.{WriteFault}
use Rattle.fc_base.specs.declared.faults.WriteFault.TheVariants as faults
use Rattle.fc_wire.specs.Bytes.{u16_bytes, u32_bytes}
use Rattle.fc_wire.specs.Writing.{Writing, writing, head_bytes, tlv_bytes}
use Rattle.fc_path.specs.Canon.{Pushed, Written, after, body_written, joined, key_flags, key_written, oper_written, path_written, plain, select_written, wrapped}
use Rattle.fc_path.specs.declared.path.Body.{Body}
use Rattle.fc_path.specs.declared.path.Body.TheVariants as body
use Rattle.fc_path.specs.declared.path.Key.{Key}
use Rattle.fc_path.specs.declared.path.PathData.{PathData}
use Rattle.fc_path.proofs.Closing.{and_assoc, and_left, and_right, both_true, holder, joined_after, joined_fits, path_is}
use Rattle.fc_path.specs.Kinds.{takes_nothing}
use Rattle.fc_path.specs.declared.oper.OperKind.{OperKind}
use Rattle.fc_path.proofs.InGrammar.{nothing_is}
use Rattle.fc_lines.proofs.Cutting.{stay}
use Rattle.fc_lines.specs.LineReading.{Reader}
use Rattle.fc_lines.specs.LineWords.{LinesLeft, stands_at}
use Rattle.fc_lines.specs.TextPlaces.{TextPlace}
use Rattle.fc_text.specs.HeadedReading.{path_of, paths_of}
use Rattle.fc_text.specs.TextReading.{and_more, body_by, each_at, last_body, many_at, oper_at, path_data, path_line, some_at}
use Rattle.fc_text.proofs.HeadedLines.{LineThen, select_of}
use Rattle.fc_text.proofs.Loops.{Going, behind, begins, begins_paths, begins_some, fails, fails_bind, goes}
use Rattle.fc_making.specs.Writes.{Refuses, Writes, steps_written, unwritten_by}
use Rattle.fc_making.specs.declared.unwritten.Unwritten.{Unwritten}
use Rattle.fc_making.specs.declared.unwritten.Unwritten.TheVariants as unwritten

-- what a call answers that writes, after what its own call answers
abbrev pub answered : Result (Unit {0}) WriteFault → Result (Unit {0}) Unwritten
answered (Ok done) = Ok done
answered (Err fault) = Err (unwritten_by fault)

-- something is read, and its spelling appended
abbrev pub Wrote : {X : Type 0} → Result (X × LinesLeft) TextPlace → LinesLeft → (X → Written) → Writing → Writing → Type 0
Wrote {X = X} read rest spelling old new = (x : X) × (read ≡ Ok (x, rest)) × Pushed (Ok tt) old new (spelling x)

-- one after the other
pub pushed_join : (x y : Written) (a b c : Writing) → Pushed (Ok tt) a b x → Pushed (Ok tt) b c y → Pushed (Ok tt) a c (after x y)
pushed_join x y a b c m n = (
  both_true x.fits y.fits m.0 n.0,
  n.1 ∙ ap (λ (w : Writing). writing (w.text ++ y.text) w.places) m.1 ∙ ap (λ l. writing l a.places) (append_assoc a.text x.text y.text),
)

-- what is read is written, or does not fit
pub writes : {X : Type 0} (read : Result (X × LinesLeft) TextPlace) (rest : LinesLeft) (spelling : X → Written) (x : X) (old new : Writing) (r : Result (Unit {0}) WriteFault) (out : Result (Unit {0}) Unwritten) → answered r ≡ out
    → read ≡ Ok (x, rest) → Pushed r old new (spelling x) → Writes out read rest spelling old new
writes {X = X} read rest spelling x old new r out e is p = subst (λ out. Writes out read rest spelling old new) e (by r p)
  where
    by : (r : Result (Unit {0}) WriteFault) → Pushed r old new (spelling x) → Writes (answered r) read rest spelling old new
    by (Ok done) p = (x, is, p)
    by (Err faults.TooLong) p = subst (λ (q : Result (X × LinesLeft) TextPlace). Refuses unwritten.TooLong q (λ x. (spelling x).fits)) (sym is) p
    by (Err faults.Memory) p = tt

-- what is not written of a reader that goes on behind another
module _ {A B : Type 0} (fits : A → Bool) (whole : B → Bool) where
  pub refuses_bind : (error : Unwritten) (r : Result (A × LinesLeft) TextPlace) (f : A × LinesLeft → Result (B × LinesLeft) TextPlace) → ((a : A) (left : LinesLeft) → fits a ≡ false → IfOk (f (a, left)) (λ b. whole b.0 ≡ false))
      → Refuses error r fits → Refuses error (r >>= f) whole
  refuses_bind (unwritten.Fault fault) r f long h = fails_bind r f fault h
  refuses_bind unwritten.TooLong (Ok a) f long h = long a.0 a.1 h
  refuses_bind unwritten.TooLong (Err p) f long h = tt

-- the same of what holds it
pub refuses_as : {X : Type 0} (fits whole : X → Bool) (error : Unwritten) (r : Result (X × LinesLeft) TextPlace) → ((x : X) → fits x ≡ false → whole x ≡ false) → Refuses error r fits → Refuses error r whole
refuses_as fits whole (unwritten.Fault fault) r long h = h
refuses_as fits whole unwritten.TooLong (Ok x) long h = long x.0 h
refuses_as fits whole unwritten.TooLong (Err p) long h = tt

-- what is read behind a line that was read
pub writes_line : {X Y : Type 0} (head : Result (X × LinesLeft) TextPlace) (behind : X → Reader Y) (whole : Result (Y × LinesLeft) TextPlace) (x : X) (mid rest : LinesLeft) (r : Result (Unit {0}) Unwritten) (spelling : Y → Written) (old new : Writing)
    → LineThen head behind ≡ whole → head ≡ Ok (x, mid) → Writes r (behind x mid) rest spelling old new → Writes r whole rest spelling old new
writes_line {Y = Y} head behind whole x mid rest r spelling old new is e h =
    subst (λ (w : Result (Y × LinesLeft) TextPlace). Writes r w rest spelling old new) (ap (λ q. q >>= λ x. behind x.0 x.1) (sym e) ∙ is) h

-- the same in other words
pub writes_as : {X Y : Type 0} (r : Result (Unit {0}) Unwritten) (read : Result (X × LinesLeft) TextPlace) (rest : LinesLeft) (f : X → Y) (spelling : X → Written) (other : Y → Written) (old new : Writing)
    → ((x : X) → other (f x) ≡ spelling x) → Writes r read rest spelling old new → Writes r (read >>= λ x. Ok (f x.0, x.1)) rest other old new
writes_as (Ok done) read rest f spelling other old new same (x, e, p) =
    (f x, ap (λ q. q >>= λ x. Ok (f x.0, x.1)) e, subst (Pushed (Ok tt) old new) (sym (same x)) p)
writes_as (Err error) read rest f spelling other old new same h =
    refuses_bind (λ x. (spelling x).fits) (λ y. (other y).fits) error read _ (λ x left long. ap (λ (w : Written). w.fits) (same x) ∙ long) h

some_left : (level : ℕ) (lines : List (List ℕ)) → stands_at level lines ≡ true → 0 < length lines
some_left level [] h = cc
some_left level (line ∷ lines) h = omega arith

-- several items, of which those in front are read and written
pub record Going_on {X : Type 0} (level : ℕ) (one : Reader X) (spelling : X → Written) (left : LinesLeft) (all : Result (List X × LinesLeft) TextPlace) (old now : Writing) : Type 0 where
  pub front : List X
  pub going : Going level one front left all
  pub pushed : Pushed (Ok tt) old now (joined (map spelling front))

module _ {X : Type 0} (level : ℕ) (one : Reader X) (spelling : X → Written) where
  pub none_written : (left : LinesLeft) (old : Writing) → Going_on level one spelling left (many_at level one left) old old
  none_written left old = record { front = []; going = begins level one [] left refl; pushed = (refl, ap (λ l. writing l old.places) (sym (append-nil old.text))) }

  one_pushed : (x : X) (old new : Writing) → Pushed (Ok tt) old new (spelling x) → Pushed (Ok tt) old new (joined (map spelling (x ∷ [])))
  one_pushed x old new p = (both_true _ _ p.0 refl, p.1 ∙ ap (λ l. writing (old.text ++ l) old.places) (sym (append-nil (spelling x).text)))

  pub some_written : (left rest : LinesLeft) (old new : Writing) → Wrote (one left) rest spelling old new → Going_on level one spelling rest (some_at level one left) old new
  some_written left rest old new (x, e, p) = record { front = x ∷ []; going = begins_some level one x [] (x ∷ []) left rest e refl refl; pushed = one_pushed x old new p }

  pub one_more : (left rest : LinesLeft) (all : Result (List X × LinesLeft) TextPlace) (old now next : Writing) → Going_on level one spelling left all old now → stands_at level left.lines ≡ true → length rest.lines < length left.lines
      → Wrote (one left) rest spelling now next → Going_on level one spelling rest all old next
  one_more left rest all old now next g st less (x, e, p) =
      let front = map spelling g.front in
      let more : map spelling (g.front ++ x ∷ []) ≡ front ++ spelling x ∷ [] = map-append spelling g.front (x ∷ []) in
      let text : (joined (map spelling (g.front ++ x ∷ []))).text ≡ (joined front).text ++ (spelling x).text =
      ap (λ ws. (joined ws).text) more ∙ joined_after front (spelling x ∷ []) ∙ ap (λ l. (joined front).text ++ l) (append-nil (spelling x).text) in
      record {
        front = g.front ++ x ∷ [];
        going = goes level one g.front left all (g.front ++ x ∷ []) rest x g.going st e less refl;
        pushed = (
          ap (λ ws. (joined ws).fits) more ∙ joined_fits front (spelling x ∷ []) ∙ both_true _ _ g.pushed.0 (both_true _ _ p.0 refl),
          p.1 ∙ ap (λ (w : Writing). writing (w.text ++ (spelling x).text) w.places) g.pushed.1 ∙ ap (λ l. writing l old.places) (append_assoc old.text (joined front).text (spelling x).text)
              ∙ ap (λ l. writing (old.text ++ l) old.places) (sym text),
        );
      }

  -- one of them does not fit
  more_long : (front : List X) (x : X) (r : Result (List X × LinesLeft) TextPlace) → (spelling x).fits ≡ false → IfOk (and_more x r >>= behind front) (λ xs. (joined (map spelling xs.0)).fits ≡ false)
  more_long front x (Err p) long = tt
  more_long front x (Ok xs) long =
      ap (λ ws. (joined ws).fits) (map-append spelling front (x ∷ xs.0)) ∙ joined_fits (map spelling front) (map spelling (x ∷ xs.0)) ∙ and_right _ _ (and_left _ _ long)

  one_long : (k : ℕ) (front : List X) (r : Result (X × LinesLeft) TextPlace) → IfOk r (λ x. (spelling x.0).fits ≡ false)
      → IfOk ((r >>= λ x. and_more x.0 (each_at k level one x.1)) >>= behind front) (λ xs. (joined (map spelling xs.0)).fits ≡ false)
  one_long k front (Err p) long = tt
  one_long k front (Ok x) long = more_long front x.0 (each_at k level one x.1) long

  goes_long : (fuel : ℕ) (front : List X) (left : LinesLeft) (all : Result (List X × LinesLeft) TextPlace) → length left.lines ≤ fuel → (each_at fuel level one left >>= behind front) ≡ all → stands_at level left.lines ≡ true
      → IfOk (one left) (λ x. (spelling x.0).fits ≡ false) → IfOk all (λ xs. (joined (map spelling xs.0)).fits ≡ false)
  goes_long zero front left all enough h st long = let some : 0 < length left.lines = some_left level left.lines st in absurd (omega arith)
  goes_long (suc k) front left all enough h st long =
      subst (λ (r : Result (List X × LinesLeft) TextPlace). IfOk r (λ xs. (joined (map spelling xs.0)).fits ≡ false))
      (ap (λ b. cond b (one left >>= λ x. and_more x.0 (each_at k level one x.1)) (Ok ([], left)) >>= behind front) (sym st) ∙ h)
      (one_long k front (one left) long)

  pub one_refused : (left : LinesLeft) (all : Result (List X × LinesLeft) TextPlace) (old now : Writing) (error : Unwritten) → Going_on level one spelling left all old now → stands_at level left.lines ≡ true → Refuses error (one left) (λ x. (spelling x).fits)
      → Refuses error all (λ xs. (joined (map spelling xs)).fits)
  one_refused left all old now (unwritten.Fault fault) g st h = fails level one g.front left all fault g.going st h
  one_refused left all old now unwritten.TooLong g st h = goes_long g.going.fuel g.front left all g.going.enough g.going.so_far st h

  -- the first of them does not fit
  first_long : (x : X) (r : Result (List X × LinesLeft) TextPlace) → (spelling x).fits ≡ false → IfOk (and_more x r) (λ xs. (joined (map spelling xs.0)).fits ≡ false)
  first_long x (Err p) long = tt
  first_long x (Ok xs) long = and_left _ _ long

  pub first_refused : (error : Unwritten) (r : Result (X × LinesLeft) TextPlace) → Refuses error r (λ x. (spelling x).fits) → Refuses error (r >>= λ x. and_more x.0 (many_at level one x.1)) (λ xs. (joined (map spelling xs)).fits)
  first_refused error r h = refuses_bind (λ x. (spelling x).fits) (λ xs. (joined (map spelling xs)).fits) error r _ (λ x left long. first_long x (many_at level one left) long) h

  pub some_refused : (left : LinesLeft) (error : Unwritten) → Refuses error (one left) (λ x. (spelling x).fits) → Refuses error (some_at level one left) (λ xs. (joined (map spelling xs)).fits)
  unfolding some_at
  some_refused left error h = first_refused error (one left) h

-- PATH-DATA
abbrev pub Steps : Type 0
Steps = List ℕ × Option Key

abbrev written : List ℕ → Bool → Written
written text fits = record { text = text; fits = fits }

path_parts : (steps : Steps) (b : Body) → wrapped 272 (after (steps_written steps) (body_written b)) ≡ path_written (path_data steps b)
path_parts steps b =
    let front = u16_bytes (key_flags steps.1) ++ u16_bytes (length steps.0) ++ flat_map u32_bytes steps.0 in
    let key = key_written steps.1 in
    let inner = body_written b in
    ap (λ l. wrapped 272 (written l ((nat_lt (length steps.0) 65536 && key.fits) && inner.fits))) (append_assoc front key.text inner.text)
    ∙ ap (λ f. wrapped 272 (written (front ++ (key.text ++ inner.text)) f)) (and_assoc (nat_lt (length steps.0) 65536) key.fits inner.fits)
    ∙ sym (path_is (path_data steps b))

pub path_done : (inside : ℕ → Reader Body) (level : ℕ) (steps : Steps) (left rest : LinesLeft) (old w0 w1 w2 new : Writing) (begun : ℕ) (r : Result (Unit {0}) WriteFault) (out : Result (Unit {0}) Unwritten) → answered r ≡ out
    → begun ≡ length old.text → w0 ≡ writing (old.text ++ head_bytes 272) (old.places ++ length old.text ∷ []) → Pushed (Ok tt) w0 w1 (steps_written steps) → Wrote (inside (level + 1) left) rest body_written w1 w2
    → ((base value outer : List ℕ) (kind : ℕ) → w2 ≡ writing (base ++ (head_bytes kind ++ value)) (outer ++ length base ∷ []) → OnOk r (new ≡ writing (base ++ tlv_bytes kind value) outer))
    → IsErrOf r faults.TooLong ↔ (65535 < length w2.text - begun) → Writes out (path_of inside level steps left) rest path_written old new
unfolding path_of
path_done inside level steps left rest old w0 w1 w2 new begun r out e b head s (x, is, p) ok long =
    writes (path_of inside level steps left) rest path_written (path_data steps x) old new r out e
    (ap (λ q. q >>= λ b. Ok (path_data steps b.0, b.1)) is)
    (subst (Pushed r old new) (path_parts steps x) (holder old w0 w2 new (after (steps_written steps) (body_written x)) 272 begun r b head (pushed_join (steps_written steps) (body_written x) w0 w1 w2 s p) ok long))

pub first_path : (inside : ℕ → Reader Body) (level : ℕ) (steps : Steps) (left rest : LinesLeft) (old new : Writing) → Wrote (path_of inside level steps left) rest path_written old new
    → Going_on level (path_line inside level) path_written rest (paths_of inside level steps left) old new
first_path inside level steps left rest old new (x, e, p) = record {
  front = x ∷ [];
  going = begins_paths inside level steps x [] (x ∷ []) left rest e refl refl;
  pushed = (both_true _ _ p.0 refl, p.1 ∙ ap (λ l. writing (old.text ++ l) old.places) (sym (append-nil (path_written x).text)));
}

-- a PATH-DATA that does not fit
path_fits : (steps : Steps) (b : Body) → ((steps_written steps).fits && (body_written b).fits) ≡ false → (path_written (path_data steps b)).fits ≡ false
path_fits steps b long = ap (λ (w : Written). w.fits) (sym (path_parts steps b)) ∙ and_right _ _ long

pub path_refused : (inside : ℕ → Reader Body) (level : ℕ) (steps : Steps) (left : LinesLeft) (error : Unwritten) → Refuses error (inside (level + 1) left) (λ b. (body_written b).fits) → Refuses error (path_of inside level steps left) (λ p. (path_written p).fits)
unfolding path_of
path_refused inside level steps left error h =
    refuses_bind (λ b. (body_written b).fits) (λ p. (path_written p).fits) error (inside (level + 1) left) _ (λ b rest long. path_fits steps b (and_right (steps_written steps).fits _ long)) h

pub steps_refused : (inside : ℕ → Reader Body) (level : ℕ) (steps : Steps) (left : LinesLeft) (old new : Writing) (fault : WriteFault) → Pushed (Err fault) old new (steps_written steps)
    → Refuses (unwritten_by fault) (path_of inside level steps left) (λ p. (path_written p).fits)
unfolding path_of
steps_refused inside level steps left old new faults.TooLong h = by (inside (level + 1) left)
  where
    by : (r : Result (Body × LinesLeft) TextPlace) → IfOk {T = PathData × LinesLeft} (r >>= λ b. Ok (path_data steps b.0, b.1)) (λ p. (path_written p.0).fits ≡ false)
    by (Ok b) = path_fits steps b.0 (and_left _ _ h)
    by (Err p) = tt
steps_refused inside level steps left old new faults.Memory h = tt

pub paths_refused : (inside : ℕ → Reader Body) (level : ℕ) (steps : Steps) (left : LinesLeft) (error : Unwritten) → Refuses error (path_of inside level steps left) (λ p. (path_written p).fits)
    → Refuses error (paths_of inside level steps left) (λ ps. (joined (map path_written ps)).fits)
unfolding paths_of
paths_refused inside level steps left error h = first_refused level (path_line inside level) path_written error (path_of inside level steps left) h

-- bodies of PATH-DATA
pub nothing_written : (w : Writing) → Pushed (Ok tt) w w (body_written body.Nothing)
nothing_written w = subst (Pushed (Ok tt) w w) (sym nothing_is) (refl, ap (λ l. writing l w.places) (sym (append-nil w.text)))

pub last_nothing : (kind : OperKind) (level : ℕ) (left : LinesLeft) (w : Writing) → takes_nothing kind ≡ true → Wrote (last_body kind level left) left body_written w w
unfolding last_body
last_nothing kind level left w takes = (body.Nothing, stay (takes_nothing kind) _ _ takes, nothing_written w)

pub bare_nothing : (kind : OperKind) (inside : ℕ → Reader Body) (level : ℕ) (left : LinesLeft) (w : Writing) → (takes_nothing kind && not (stands_at level left.lines)) ≡ true → Wrote (body_by kind inside level left) left body_written w w
unfolding body_by
bare_nothing kind inside level left w bare = (body.Nothing, stay (takes_nothing kind && not (stands_at level left.lines)) _ _ bare, nothing_written w)

-- an LFBselect
pub select_done : (message level : ℕ) (names : ℕ × ℕ) (left rest : LinesLeft) (old w0 w1 w2 new : Writing) (begun : ℕ) (r : Result (Unit {0}) WriteFault) (out : Result (Unit {0}) Unwritten) → answered r ≡ out → begun ≡ length old.text
    → w0 ≡ writing (old.text ++ head_bytes 4096) (old.places ++ length old.text ∷ []) → w1 ≡ writing (w0.text ++ (u32_bytes names.0 ++ u32_bytes names.1)) w0.places
    → Wrote (some_at (level + 1) (oper_at message (level + 1)) left) rest (λ opers. joined (map oper_written opers)) w1 w2
    → ((base value outer : List ℕ) (kind : ℕ) → w2 ≡ writing (base ++ (head_bytes kind ++ value)) (outer ++ length base ∷ []) → OnOk r (new ≡ writing (base ++ tlv_bytes kind value) outer))
    → IsErrOf r faults.TooLong ↔ (65535 < length w2.text - begun) → Writes out (select_of message level names left) rest select_written old new
select_done message level names left rest old w0 w1 w2 new begun r out e b head put (x, is, p) ok long =
    let front = plain (u32_bytes names.0 ++ u32_bytes names.1) in
    let opers = joined (map oper_written x) in
    writes (select_of message level names left) rest select_written (record { class = names.0; instance = names.1; opers = x }) old new r out e
    (ap (λ q. q >>= λ opers. Ok (record { class = names.0; instance = names.1; opers = opers.0 }, opers.1)) is)
    (holder old w0 w2 new (after front opers) 4096 begun r b head (pushed_join front opers w0 w1 w2 (refl, put) p) ok long)

pub select_refused : (message level : ℕ) (names : ℕ × ℕ) (left : LinesLeft) (error : Unwritten) → Refuses error (some_at (level + 1) (oper_at message (level + 1)) left) (λ opers. (joined (map oper_written opers)).fits)
    → Refuses error (select_of message level names left) (λ s. (select_written s).fits)
select_refused message level names left error h =
    refuses_bind (λ opers. (joined (map oper_written opers)).fits) (λ s. (select_written s).fits) error (some_at (level + 1) (oper_at message (level + 1)) left) _ (λ opers rest long. and_right _ _ long) h

-- a TLV that holds what is read
pub held : {X : Type 0} (read : Result (X × LinesLeft) TextPlace) (rest : LinesLeft) (spelling : X → Written) (old w0 w1 new : Writing) (kind begun : ℕ) (r : Result (Unit {0}) WriteFault) (out : Result (Unit {0}) Unwritten) → answered r ≡ out
    → begun ≡ length old.text → w0 ≡ writing (old.text ++ head_bytes kind) (old.places ++ length old.text ∷ []) → Wrote read rest spelling w0 w1
    → ((base value outer : List ℕ) (kind : ℕ) → w1 ≡ writing (base ++ (head_bytes kind ++ value)) (outer ++ length base ∷ []) → OnOk r (new ≡ writing (base ++ tlv_bytes kind value) outer))
    → IsErrOf r faults.TooLong ↔ (65535 < length w1.text - begun) → Writes out read rest (λ x. wrapped kind (spelling x)) old new
held read rest spelling old w0 w1 new kind begun r out e b head (x, is, p) ok long =
    writes read rest (λ x. wrapped kind (spelling x)) x old new r out e is (holder old w0 w1 new (spelling x) kind begun r b head p ok long)

pub held_refused : {X : Type 0} (read : Result (X × LinesLeft) TextPlace) (spelling : X → Written) (kind : ℕ) (error : Unwritten) → Refuses error read (λ x. (spelling x).fits) → Refuses error read (λ x. (wrapped kind (spelling x)).fits)
held_refused read spelling kind error h = refuses_as (λ x. (spelling x).fits) (λ x. (wrapped kind (spelling x)).fits) error read (λ x long. and_right _ _ long) h
