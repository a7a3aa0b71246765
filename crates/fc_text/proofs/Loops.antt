-- Reading items at one level, one step at a time.
use Rattle.std.proofs.Common.{◌≡◌, ◌≢◌, ◌-◌, ℕ, zero, suc, ◌<◌, ◌≤◌, List, [], ◌∷◌, ◌++◌, length, true, false, cond, Option, Result, Ok, Err, refl, sym, ap, ◌∙◌, subst, arith, append_assoc, append-nil}
use Rattle.fc_path.specs.declared.oper.OperKind.{OperKind}
use Rattle.fc_path.specs.declared.path.Key.{Key}
use Rattle.fc_path.specs.declared.path.PathData.{PathData}
use Rattle.fc_path.specs.declared.path.Body.{Body}
use Rattle.fc_base.specs.Answers.{◌>>=◌}
use Rattle.fc_lines.specs.TextPlaces.{TextPlace, Fails}
use Rattle.fc_lines.specs.LineWords.{LinesLeft, stands_at}
use Rattle.fc_lines.specs.LineReading.{Reader}
use Rattle.fc_text.specs.HeadedReading.{path_of, paths_of}
use Rattle.fc_text.specs.TextReading.{and_more, each_at, many_at, some_at, path_line, body_at, body_by}
use Rattle.fc_lines.specs.declared.fault.TextFault.{TextFault}
use Rattle.fc_lines.specs.declared.fault.TextFault.TheVariants as faults

pub fails_bind : {A B : Type 0} (r : Result A TextPlace) (f : A → Result B TextPlace) (e : TextFault) → Fails e r → Fails e (r >>= f)
fails_bind r f (faults.At line column) h = ap (λ q. q >>= f) h
fails_bind r f faults.Memory h = tt

-- with the items in front
abbrev pub behind : {X : Type 0} → List X → List X × LinesLeft → Result (List X × LinesLeft) TextPlace
behind front xs = Ok (front ++ xs.0, xs.1)

-- the items in front are read, and all is what the whole gives
pub record Going {X : Type 0} (level : ℕ) (one : Reader X) (front : List X) (left : LinesLeft) (all : Result (List X × LinesLeft) TextPlace) : Type 0 where
  pub fuel : ℕ
  pub enough : length left.lines ≤ fuel
  pub so_far : (each_at fuel level one left >>= behind front) ≡ all

some_left : (level : ℕ) (lines : List (List ℕ)) → stands_at level lines ≡ true → 0 < length lines
some_left level [] h = cc
some_left level (line ∷ lines) h = omega arith

moves : {X : Type 0} (front : List X) (x : X) (r : Result (List X × LinesLeft) TextPlace)
    → (r >>= behind (front ++ x ∷ [])) ≡ (and_more x r >>= behind front)
moves front x (Err e) = refl
moves front x (Ok xs) = ap (λ l. Ok (l, xs.1)) (append_assoc front (x ∷ []) xs.0)

all_same : {X : Type 0} (r : Result (List X × LinesLeft) TextPlace) → (r >>= behind []) ≡ r
all_same (Err e) = refl
all_same (Ok xs) = refl

pub begins : {X : Type 0} (level : ℕ) (one : Reader X) (front : List X) (left : LinesLeft) → front ≡ [] → Going level one front left (many_at level one left)
unfolding many_at
begins level one front left e = record {
  fuel = length left.lines;
  enough = omega arith;
  so_far = ap (λ l. each_at (length left.lines) level one left >>= behind l) e ∙ all_same (each_at (length left.lines) level one left);
}

-- what stands behind the first item
abbrev pub first_then : {X : Type 0} → ℕ → Reader X → X × LinesLeft → Result (List X × LinesLeft) TextPlace
first_then level one x = and_more x.0 (many_at level one x.1)

begun : {X : Type 0} (level : ℕ) (one : Reader X) (x : X) (empty front : List X) (rest : LinesLeft) (r : Result (X × LinesLeft) TextPlace) → r ≡ Ok (x, rest) → empty ≡ [] → front ≡ empty ++ x ∷ []
    → Going level one front rest (r >>= first_then level one)
unfolding many_at
begun level one x empty front rest r is none e = record {
  fuel = length rest.lines;
  enough = omega arith;
  so_far = ap (λ l. each_at (length rest.lines) level one rest >>= behind l) (e ∙ ap (λ l. l ++ x ∷ []) none) ∙ ap (λ r. r >>= first_then level one) (sym is);
}

pub begins_some : {X : Type 0} (level : ℕ) (one : Reader X) (x : X) (empty front : List X) (left rest : LinesLeft) → one left ≡ Ok (x, rest) → empty ≡ [] → front ≡ empty ++ x ∷ []
    → Going level one front rest (some_at level one left)
unfolding some_at
begins_some level one x empty front left rest is none e = begun level one x empty front rest (one left) is none e

pub begins_paths : (inside : ℕ → Reader Body) (level : ℕ) (steps : List ℕ × Option Key) (x : PathData) (empty front : List PathData) (left rest : LinesLeft) → path_of inside level steps left ≡ Ok (x, rest) → empty ≡ [] → front ≡ empty ++ x ∷ []
    → Going level (path_line inside level) front rest (paths_of inside level steps left)
unfolding paths_of
begins_paths inside level steps x empty front left rest is none e =
    begun level (path_line inside level) x empty front rest (path_of inside level steps left) is none e

module _ {X : Type 0} (level : ℕ) (one : Reader X) (front : List X) (left : LinesLeft) (all : Result (List X × LinesLeft) TextPlace) where
  goes_by : (fuel : ℕ) (next : List X) (rest : LinesLeft) (x : X) → length left.lines ≤ fuel → (each_at fuel level one left >>= behind front) ≡ all
      → stands_at level left.lines ≡ true → one left ≡ Ok (x, rest) → length rest.lines < length left.lines → next ≡ front ++ x ∷ [] → Going level one next rest all
  goes_by zero next rest x enough h st is less e = absurd (omega arith)
  goes_by (suc k) next rest x enough h st is less e = record {
    fuel = k;
    enough = omega arith;
    so_far = ap (λ n. each_at k level one rest >>= behind n) e
        ∙ moves front x (each_at k level one rest)
        ∙ ap (λ r. (r >>= λ x. and_more x.0 (each_at k level one x.1)) >>= behind front) (sym is)
        ∙ ap (λ b. cond b (one left >>= λ x. and_more x.0 (each_at k level one x.1)) (Ok ([], left)) >>= behind front) (sym st)
        ∙ h;
  }

  pub goes : (next : List X) (rest : LinesLeft) (x : X) → Going level one front left all → stands_at level left.lines ≡ true → one left ≡ Ok (x, rest)
      → length rest.lines < length left.lines → next ≡ front ++ x ∷ [] → Going level one next rest all
  goes next rest x g st is less e = goes_by g.fuel next rest x g.enough g.so_far st is less e

  fails_by : (fuel : ℕ) (e : TextFault) → length left.lines ≤ fuel → (each_at fuel level one left >>= behind front) ≡ all
      → stands_at level left.lines ≡ true → Fails e (one left) → Fails e all
  fails_by zero e enough h st f = let some : 0 < length left.lines = some_left level left.lines st in absurd (omega arith)
  fails_by (suc k) e enough h st f =
      subst (λ (r : Result (List X × LinesLeft) TextPlace). Fails e r)
      (ap (λ b. cond b (one left >>= λ x. and_more x.0 (each_at k level one x.1)) (Ok ([], left)) >>= behind front) (sym st) ∙ h)
      (fails_bind _ _ e (fails_bind (one left) _ e f))

  pub fails : (e : TextFault) → Going level one front left all → stands_at level left.lines ≡ true → Fails e (one left) → Fails e all
  fails e g st f = fails_by g.fuel e g.enough g.so_far st f

  ends_by : (fuel : ℕ) → (each_at fuel level one left >>= behind front) ≡ all → stands_at level left.lines ≡ false → all ≡ Ok (front, left)
  ends_by zero h st = sym h ∙ ap (λ l. Ok (l, left)) (append-nil front)
  ends_by (suc k) h st =
      sym h ∙ ap (λ b. cond b (one left >>= λ x. and_more x.0 (each_at k level one x.1)) (Ok ([], left)) >>= behind front) st
      ∙ ap (λ l. Ok (l, left)) (append-nil front)

  pub ends : Going level one front left all → stands_at level left.lines ≡ false → all ≡ Ok (front, left)
  ends g st = ends_by g.fuel g.so_far st

pub deeper : (kind : OperKind) (depth level : ℕ) (left : LinesLeft) → depth ≢ 0 → body_by kind (body_at kind (depth - 1)) level left ≡ body_at kind depth level left
deeper kind zero level left h = absurd (h refl)
deeper kind (suc depth) level left h =
    let less : suc depth - 1 ≡ depth = omega arith in ap (λ d. body_by kind (body_at kind d) level left) less
