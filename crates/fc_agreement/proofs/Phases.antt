-- Each phase at an element is moves of the core.
use Rattle.std.proofs.Common.{◌≡◌, ℕ, ◌<◌, ◌==◌, ◌&&◌, not, Bool, true, false, cond, nat_le, List, [], ◌∷◌, ◌++◌, length, Option, Some, None, ◌⊎◌, inl, inr, ⊎_elim, refl, sym, ap, ◌∙◌, subst, arith, eqb-true, eq-eqb}
use Rattle.fc_protocol.specs.Collections.{among}
use Rattle.fc_agreement.specs.Core.{Element, Core, settled, to}
use Rattle.fc_protocol.specs.ElementMachine.{Circumstance, acts, Acts, after, idles, admits, rises_above, shows}
use Rattle.fc_protocol.specs.Floors.{is_below, held_under, forgotten, floor_code}
use Rattle.fc_protocol.specs.Messages.{same, is_name, Body, Claim, Sot, Mot, Eot, Trcomp, Abt, Floor, Malformed, Plain, Ask, Ask_record}
use Rattle.fc_protocol.specs.Phases.{Turn, keeps, becomes, starting, continuing, preparing, settling, failed, with_rest, opening, adding, aborting}
use Rattle.fc_protocol.specs.Records.{state_of, seen, noted, is_held, clashes, is_full, is_packed}
use Rattle.fc_protocol.specs.Scopes.{Scope, is_scope}
use Rattle.fc_protocol.specs.Trace.{Opens, Settles, Fact, Opened_at, facts_of}
use Rattle.fc_protocol.specs.declared.answers.TxnEntry.{TxnEntry}
use Rattle.fc_protocol.specs.declared.states.Decision.{Decision}
use Rattle.fc_protocol.specs.declared.states.Decision.TheVariants.{Complete, Abort}
use Rattle.fc_protocol.specs.declared.states.Seen.{Seen}
use Rattle.fc_protocol.specs.declared.states.Seen.TheVariants.{Absent, Started, Prepared, Completed, Aborted}
use Rattle.fc_protocol.specs.declared.states.TxnState.{TxnState}
use Rattle.fc_protocol.specs.declared.states.TxnState.TheVariants.{Started as RecordStarted, Prepared as RecordPrepared, Completed as RecordCompleted, Aborted as RecordAborted}
use Rattle.fc_base.specs.Ids.{Txn}
use Rattle.fc_protocol.proofs.Puts.{both_first, both_second}
use Rattle.fc_protocol.proofs.Basics.{AllOf, both, same_true, same_of, put_other}
use Rattle.fc_agreement.proofs.Idles.{Idle, opening_idle, adding_idle, preparing_idle, settling_idle, aborting_idle}
use Rattle.fc_protocol.proofs.Order.{floor_rises, floor_zero}
use Rattle.fc_agreement.proofs.Sealing.{is_live}
use Rattle.fc_agreement.proofs.Moves.{over, Told, note, Turned, Turns, turned_none, turned_then, opens, fails, prepares, settles, tells}
use Rattle.fc_agreement.proofs.Facts.{Past, EntryFine, Means, is_open, done, Single, Marks, GoodFacts}
use Rattle.fc_agreement.proofs.Traces.{Before, open_marks, prepare_marks, settle_marks, settle_good, all_prepared, marks_apart, good_apart}
use Rattle.fc_protocol.proofs.Records.{state_kept, state_gone, forgotten_all, unheld_under, or_else, state_noted, state_noted_other}
use Rattle.fc_agreement.proofs.OneRecord.{live_seen, single_forgotten, noted_fine, Fits, single_noted, live_before}

-- the record's state that a decision makes
abbrev end_of : Decision → TxnState
end_of Complete = RecordCompleted
end_of Abort = RecordAborted

seen_end : (d : Decision) → seen (Some (end_of d)) ≡ done d
seen_end Complete = refl
seen_end Abort = refl

-- a code 0 of a start or a change says that the transaction is started
starting_good : (below clash full : Bool) (s : Option TxnState) → (starting below clash full s).code ≡ 0 → seen (or_else (starting below clash full s).new s) ≡ Started
starting_good true clash full None e = absurd (omega arith)
starting_good false true full None e = absurd (omega arith)
starting_good false false true None e = absurd (omega arith)
starting_good false false false None e = refl
starting_good below clash full (Some s) e = absurd (omega arith)

continuing_good : (s : Option TxnState) → (continuing s).code ≡ 0 → seen (or_else (continuing s).new s) ≡ Started
continuing_good None e = absurd (omega arith)
continuing_good (Some RecordStarted) e = refl
continuing_good (Some RecordPrepared) e = absurd (omega arith)
continuing_good (Some RecordCompleted) e = absurd (omega arith)
continuing_good (Some RecordAborted) e = absurd (omega arith)

module _ (x : Txn) (parts : List ℕ) where
  -- from a core with state s at p, moves to what the turn says, with its facts
  pub record Row (c : Core) (p : ℕ) (t : Turn) (s : Option TxnState) (ps : List ℕ) (fs : List Fact) : Type 0 where
    pub core : Core
    pub turned : Turned x.epoch parts c core p
    pub epoch : (core.at p).epoch ≡ (c.at p).epoch
    pub state : seen (or_else t.new s) ≡ (core.at p).state
    pub marks : Marks x parts (facts_of p x ps t.events ++ fs) p (core.at p)
    pub good : GoodFacts x parts (facts_of p x ps t.events ++ fs)

  row_none : (c : Core) (p : ℕ) (s : Option TxnState) (code : ℕ) (ps : List ℕ) (fs : List Fact) → Before x parts c fs → seen s ≡ (c.at p).state → Row c p (keeps code) s ps fs
  row_none c p s code ps fs b e = record { core = c; turned = turned_none x.epoch parts c p; epoch = refl; state = e; marks = b.marks p; good = b.good }

  -- a settlement
  row_settles : (c : Core) (p : ℕ) (s : Option TxnState) (d : Decision) (code : ℕ) (ps : List ℕ) (fs : List Fact) (y : Element) → Before x parts c fs → seen s ≡ (c.at p).state → over (seen s) ≡ false → Turns x.epoch parts c p y → y.epoch ≡ (c.at p).epoch → y.state ≡ done d → y.prepared ≡ (c.at p).prepared → (d ≡ Complete → is_open (seen s) ≡ true)
      → Row c p (becomes (end_of d) code (Settles d ∷ [])) s ps fs
  row_settles c p s d code ps fs y b e o u i f g k =
      let z : (u.0.at p).state ≡ done d = ap (λ (v : Element). v.state) u.2 ∙ f in
      let w : (u.0.at p).prepared ≡ (c.at p).prepared = ap (λ (v : Element). v.prepared) u.2 ∙ g in
      let open_at = λ (r : d ≡ Complete). ap is_open (sym e) ∙ k r in
      record {
        core = u.0;
        turned = u.1;
        epoch = ap (λ (v : Element). v.epoch) u.2 ∙ i;
        state = seen_end d ∙ sym z;
        marks = settle_marks x parts fs p (c.at p) (u.0.at p) d (b.marks p) (ap over (sym e) ∙ o) z w open_at;
        good = (settle_good x parts fs p (c.at p) d (b.marks p) (ap over (sym e) ∙ o) (λ r. (open_at r, all_prepared x parts c u.0 fs p b u.1 (z ∙ ap done r) w)), b.good);
      }

  -- what came with it fails: the transaction is undone
  row_failed : (c : Core) (p : ℕ) (t : Turn) (rest : ℕ) (s : Option TxnState) (ps : List ℕ) (fs : List Fact) → Row c p t s ps fs → seen (or_else t.new s) ≡ Started → Row c p (failed true rest t) s ps fs
  row_failed c p t rest s ps fs r e =
      let st : (r.core.at p).state ≡ Started = sym r.state ∙ e in
      let u = fails x.epoch parts r.core p st in
      let gs = facts_of p x ps t.events ++ fs in
      let z : (u.0.at p).state ≡ Aborted = ap (λ (v : Element). v.state) u.2 in
      record {
        core = u.0;
        turned = turned_then x.epoch parts c r.core u.0 p r.turned u.1;
        epoch = ap (λ (v : Element). v.epoch) u.2 ∙ r.epoch;
        state = sym z;
        marks = settle_marks x parts gs p (r.core.at p) (u.0.at p) Abort r.marks (ap over st) z (ap (λ (v : Element). v.prepared) u.2) (λ r. cc);
        good = (settle_good x parts gs p (r.core.at p) Abort r.marks (ap over st) (λ r. cc), r.good);
      }

  row_if : (b : Bool) (c : Core) (p : ℕ) (t : Turn) (rest : ℕ) (s : Option TxnState) (ps : List ℕ) (fs : List Fact) → Row c p t s ps fs → (b ≡ true → seen (or_else t.new s) ≡ Started) → Row c p (failed b rest t) s ps fs
  row_if true c p t rest s ps fs r e = row_failed c p t rest s ps fs r (e refl)
  row_if false c p t rest s ps fs r e = r

  rest_row : (c : Core) (p : ℕ) (t : Turn) (rest : ℕ) (s : Option TxnState) (ps : List ℕ) (fs : List Fact) → Row c p t s ps fs → (t.code ≡ 0 → seen (or_else t.new s) ≡ Started) → Row c p (with_rest rest t) s ps fs
  rest_row c p t rest s ps fs r e = row_if (t.code == 0 && not (rest == 0)) c p t rest s ps fs r (λ u. e (eqb-true _ _ (both_first (t.code == 0) _ u)))

  open_row : (c : Core) (p : ℕ) (ps : List ℕ) (fs : List Fact) → Before x parts c fs → Absent ≡ (c.at p).state → (among p parts ≡ true) × ((c.at p).epoch ≡ x.epoch) × (ps ≡ parts) × (0 < x.number) → Row c p (becomes RecordStarted 0 (Opens ∷ [])) None ps fs
  open_row c p ps fs b e f =
      let t = opens x.epoch parts c p f.0 f.1 (sym e) in
      let st : (t.0.at p).state ≡ Started = ap (λ (v : Element). v.state) t.2 in
      record {
        core = t.0;
        turned = t.1;
        epoch = ap (λ (v : Element). v.epoch) t.2;
        state = sym st;
        marks = subst (λ v. Marks x parts (Opened_at p x v ∷ fs) p (t.0.at p)) (sym f.2) (open_marks x parts fs p (c.at p) (t.0.at p) (b.marks p) (sym e) (ap (λ (v : Element). v.prepared) t.2) (ap over st) (λ u. let v : Absent ≡ Started = sym u ∙ st in cc));
        good = ((λ _. (f.2, f.3)), b.good);
      }

  starting_row : (c : Core) (p : ℕ) (below clash full : Bool) (s : Option TxnState) (ps : List ℕ) (fs : List Fact) → Before x parts c fs → seen s ≡ (c.at p).state → (among p parts ≡ true) × ((c.at p).epoch ≡ x.epoch) × (ps ≡ parts) × (0 < x.number) → Row c p (starting below clash full s) s ps fs
  starting_row c p true clash full None ps fs b e f = row_none c p None 10 ps fs b e
  starting_row c p false true full None ps fs b e f = row_none c p None 18 ps fs b e
  starting_row c p false false true None ps fs b e f = row_none c p None 14 ps fs b e
  starting_row c p false false false None ps fs b e f = open_row c p ps fs b e f
  starting_row c p below clash full (Some s) ps fs b e f = row_none c p (Some s) 10 ps fs b e

  pub opening_row : (c : Core) (p : ℕ) (fits below clash full : Bool) (rest : ℕ) (s : Option TxnState) (ps : List ℕ) (fs : List Fact) → Before x parts c fs → seen s ≡ (c.at p).state → (fits ≡ true → (among p parts ≡ true) × ((c.at p).epoch ≡ x.epoch) × (ps ≡ parts) × (0 < x.number)) → Row c p (opening fits below clash full rest s) s ps fs
  opening_row c p true below clash full rest s ps fs b e f = rest_row c p (starting below clash full s) rest s ps fs (starting_row c p below clash full s ps fs b e (f refl)) (starting_good below clash full s)
  opening_row c p false below clash full rest s ps fs b e f = row_none c p s 16 ps fs b e

  continuing_row : (c : Core) (p : ℕ) (s : Option TxnState) (fs : List Fact) → Before x parts c fs → seen s ≡ (c.at p).state → Row c p (continuing s) s [] fs
  continuing_row c p None fs b e = row_none c p None 11 [] fs b e
  continuing_row c p (Some RecordStarted) fs b e = row_none c p (Some RecordStarted) 0 [] fs b e
  continuing_row c p (Some RecordPrepared) fs b e = row_none c p (Some RecordPrepared) 18 [] fs b e
  continuing_row c p (Some RecordCompleted) fs b e = row_none c p (Some RecordCompleted) 18 [] fs b e
  continuing_row c p (Some RecordAborted) fs b e = row_none c p (Some RecordAborted) 18 [] fs b e

  pub adding_row : (c : Core) (p : ℕ) (rest : ℕ) (s : Option TxnState) (fs : List Fact) → Before x parts c fs → seen s ≡ (c.at p).state → Row c p (adding rest s) s [] fs
  adding_row c p rest s fs b e = rest_row c p (continuing s) rest s [] fs (continuing_row c p s fs b e) (continuing_good s)

  pub preparing_row : (c : Core) (p : ℕ) (s : Option TxnState) (fs : List Fact) → Before x parts c fs → seen s ≡ (c.at p).state → (c.at p).epoch ≡ x.epoch → Row c p (preparing s) s [] fs
  preparing_row c p None fs b e o = row_none c p None 11 [] fs b e
  preparing_row c p (Some RecordStarted) fs b e o =
      let t = prepares x.epoch parts c p o (sym e) in
      let st : (t.0.at p).state ≡ Prepared = ap (λ (v : Element). v.state) t.2 in
      record { core = t.0; turned = t.1; epoch = ap (λ (v : Element). v.epoch) t.2; state = sym st; marks = prepare_marks x parts fs p (c.at p) (t.0.at p) (b.marks p) (sym e) st; good = (tt, b.good) }
  preparing_row c p (Some RecordPrepared) fs b e o = row_none c p (Some RecordPrepared) 18 [] fs b e
  preparing_row c p (Some RecordCompleted) fs b e o = row_none c p (Some RecordCompleted) 18 [] fs b e
  preparing_row c p (Some RecordAborted) fs b e o = row_none c p (Some RecordAborted) 18 [] fs b e

  row_settle : (c : Core) (p : ℕ) (s : Option TxnState) (d : Decision) (fs : List Fact) → Before x parts c fs → seen s ≡ (c.at p).state → over (seen s) ≡ false → among p parts ≡ true → c.decided (c.at p).epoch ≡ Some d → settled d (seen s) ≡ done d → (d ≡ Complete → is_open (seen s) ≡ true)
      → Row c p (becomes (end_of d) 0 (Settles d ∷ [])) s [] fs
  row_settle c p s d fs b e o m g r k = row_settles c p s d 0 [] fs (to (c.at p) (settled d (c.at p).state)) b e o (settles x.epoch parts c p d m g) refl (ap (settled d) (sym e) ∙ r) refl k

  pub settling_row : (c : Core) (p : ℕ) (d : Decision) (s : Option TxnState) (fs : List Fact) → Before x parts c fs → seen s ≡ (c.at p).state → among p parts ≡ true → c.decided (c.at p).epoch ≡ Some d → Row c p (settling d s) s [] fs
  settling_row c p d None fs b e m g = row_none c p None 11 [] fs b e
  settling_row c p Complete (Some RecordStarted) fs b e m g = row_none c p (Some RecordStarted) 18 [] fs b e
  settling_row c p Complete (Some RecordPrepared) fs b e m g = row_settle c p (Some RecordPrepared) Complete fs b e refl m g refl (λ _. refl)
  settling_row c p Complete (Some RecordCompleted) fs b e m g = row_none c p (Some RecordCompleted) 0 [] fs b e
  settling_row c p Complete (Some RecordAborted) fs b e m g = row_none c p (Some RecordAborted) 18 [] fs b e
  settling_row c p Abort (Some RecordStarted) fs b e m g = row_settle c p (Some RecordStarted) Abort fs b e refl m g refl (λ r. cc)
  settling_row c p Abort (Some RecordPrepared) fs b e m g = row_settle c p (Some RecordPrepared) Abort fs b e refl m g refl (λ r. cc)
  settling_row c p Abort (Some RecordCompleted) fs b e m g = row_none c p (Some RecordCompleted) 18 [] fs b e
  settling_row c p Abort (Some RecordAborted) fs b e m g = row_none c p (Some RecordAborted) 0 [] fs b e

  pub aborting_row : (c : Core) (p : ℕ) (named full : Bool) (s : Option TxnState) (fs : List Fact) → Before x parts c fs → seen s ≡ (c.at p).state → among p parts ≡ true → c.decided (c.at p).epoch ≡ Some Abort → Row c p (aborting named full s) s [] fs
  aborting_row c p false full None fs b e m g = row_none c p None 11 [] fs b e
  aborting_row c p true true None fs b e m g = row_none c p None 14 [] fs b e
  aborting_row c p true false None fs b e m g = row_settle c p None Abort fs b e refl m g refl (λ r. cc)
  aborting_row c p named full (Some s) fs b e m g = settling_row c p Abort (Some s) fs b e m g

-- how a turn's new state fits the old one
abbrev Lively : Option TxnState → Option TxnState → Type 0
Lively new t = (s : TxnState) → new ≡ Some s → is_held s ≡ true → live_before t ≡ true

none_lively : (t : Option TxnState) → Lively None t
none_lively t s e l = cc

live_lively : (new t : Option TxnState) → live_before t ≡ true → Lively new t
live_lively new t i s e l = i

opening_lively : (fits below clash full : Bool) (rest : ℕ) (t : Option TxnState) → Lively (opening fits below clash full rest t).new t
opening_lively fits below clash full rest None = live_lively _ None refl
opening_lively true below clash full rest (Some s) = none_lively (Some s)
opening_lively false below clash full rest (Some s) = none_lively (Some s)

adding_lively : (rest : ℕ) (t : Option TxnState) → Lively (adding rest t).new t
adding_lively rest None = none_lively None
adding_lively rest (Some RecordStarted) = live_lively _ (Some RecordStarted) refl
adding_lively rest (Some RecordPrepared) = none_lively (Some RecordPrepared)
adding_lively rest (Some RecordCompleted) = none_lively (Some RecordCompleted)
adding_lively rest (Some RecordAborted) = none_lively (Some RecordAborted)

preparing_lively : (t : Option TxnState) → Lively (preparing t).new t
preparing_lively None = none_lively None
preparing_lively (Some RecordStarted) = live_lively _ (Some RecordStarted) refl
preparing_lively (Some RecordPrepared) = none_lively (Some RecordPrepared)
preparing_lively (Some RecordCompleted) = none_lively (Some RecordCompleted)
preparing_lively (Some RecordAborted) = none_lively (Some RecordAborted)

settling_lively : (d : Decision) (t : Option TxnState) → Lively (settling d t).new t
settling_lively d None = none_lively None
settling_lively Complete (Some RecordStarted) = none_lively (Some RecordStarted)
settling_lively Complete (Some RecordPrepared) = live_lively _ (Some RecordPrepared) refl
settling_lively Complete (Some RecordCompleted) = none_lively (Some RecordCompleted)
settling_lively Complete (Some RecordAborted) = none_lively (Some RecordAborted)
settling_lively Abort (Some RecordStarted) = live_lively _ (Some RecordStarted) refl
settling_lively Abort (Some RecordPrepared) = live_lively _ (Some RecordPrepared) refl
settling_lively Abort (Some RecordCompleted) = none_lively (Some RecordCompleted)
settling_lively Abort (Some RecordAborted) = none_lively (Some RecordAborted)

aborting_lively : (named full : Bool) (t : Option TxnState) → Lively (aborting named full t).new t
aborting_lively named full None = live_lively _ None refl
aborting_lively named full (Some s) = settling_lively Abort (Some s)

-- these make no entry
adding_absent : (rest : ℕ) (t : Option TxnState) → t ≡ None → (adding rest t).new ≡ None
adding_absent rest t e = ap (λ s. (adding rest s).new) e

preparing_absent : (t : Option TxnState) → t ≡ None → (preparing t).new ≡ None
preparing_absent t e = ap (λ s. (preparing s).new) e

completing_absent : (t : Option TxnState) → t ≡ None → (settling Complete t).new ≡ None
completing_absent t e = ap (λ s. (settling Complete s).new) e

ended : (s : TxnState) → Some RecordAborted ≡ Some s → is_held s ≡ true → ⊥
ended s e l = let f : RecordAborted ≡ s = cc in let g : false ≡ true = ap is_held f ∙ l in cc

abort_over : (named full : Bool) (t : Option TxnState) (s : TxnState) → (aborting named full t).new ≡ Some s → is_held s ≡ true → ⊥
abort_over false full None s e l = cc
abort_over true true None s e l = cc
abort_over true false None s e l = ended s e l
abort_over named full (Some RecordStarted) s e l = ended s e l
abort_over named full (Some RecordPrepared) s e l = ended s e l
abort_over named full (Some RecordCompleted) s e l = cc
abort_over named full (Some RecordAborted) s e l = cc

preparing_good : (s : Option TxnState) → (preparing s).code ≡ 0 → seen (or_else (preparing s).new s) ≡ Prepared
preparing_good None e = absurd (omega arith)
preparing_good (Some RecordStarted) e = refl
preparing_good (Some RecordPrepared) e = absurd (omega arith)
preparing_good (Some RecordCompleted) e = absurd (omega arith)
preparing_good (Some RecordAborted) e = absurd (omega arith)

settling_good : (d : Decision) (s : Option TxnState) → (settling d s).code ≡ 0 → seen (or_else (settling d s).new s) ≡ done d
settling_good d None e = absurd (omega arith)
settling_good Complete (Some RecordStarted) e = absurd (omega arith)
settling_good Complete (Some RecordPrepared) e = refl
settling_good Complete (Some RecordCompleted) e = refl
settling_good Complete (Some RecordAborted) e = absurd (omega arith)
settling_good Abort (Some RecordStarted) e = refl
settling_good Abort (Some RecordPrepared) e = refl
settling_good Abort (Some RecordCompleted) e = absurd (omega arith)
settling_good Abort (Some RecordAborted) e = refl

aborting_good : (named full : Bool) (s : Option TxnState) → (aborting named full s).code ≡ 0 → seen (or_else (aborting named full s).new s) ≡ Aborted
aborting_good false full None e = absurd (omega arith)
aborting_good true true None e = absurd (omega arith)
aborting_good true false None e = refl
aborting_good named full (Some s) e = settling_good Abort (Some s) e

module _ (x : Txn) (parts : List ℕ) (h : Past) (fs : List Fact) where
  abbrev pub own : ℕ
  own = x.epoch

  abbrev pub epoch_at : ℕ → ℕ
  epoch_at p = (h.core.at p).epoch

  -- what a phase does at p
  pub record Acted (p : ℕ) (b : Body) (fl : Option Txn) (r : Acts) : Type 0 where
    pub core : Core
    pub turned : Turned own parts h.core core p
    pub epoch : (core.at p).epoch ≡ epoch_at p
    pub state : is_below x r.floor ≡ false → seen (state_of x r.records) ≡ (core.at p).state
    pub gone : is_below x r.floor ≡ true → (state_of x r.records ≡ None) × (is_live (core.at p).state ≡ false)
    pub floor : (f : Txn) → r.floor ≡ Some f → (fl ≡ Some f) ⊎ (b ≡ Floor f)
    pub entries : AllOf (EntryFine x parts h (epoch_at p)) r.records
    pub single : Single x parts r.records
    pub prepared : r.code ≡ 0 → b ≡ Eot x → Told core.notes (note (epoch_at p) p Prepared)
    pub completed : r.code ≡ 0 → b ≡ Trcomp x → (core.at p).state ≡ Completed
    pub aborted : r.code ≡ 0 → b ≡ Abt x → (core.at p).state ≡ Aborted
    pub marks : (q : ℕ) → Marks x parts (r.facts ++ fs) q (core.at q)
    pub good : GoodFacts x parts (r.facts ++ fs)

  -- what a code 0 to b shows
  abbrev Aims : Body → Seen → Type 0
  Aims b s = ((b ≡ Eot x) × (s ≡ Prepared)) ⊎ (((b ≡ Trcomp x) × (s ≡ Completed)) ⊎ ((b ≡ Abt x) × (s ≡ Aborted)))

  pub record Given (p : ℕ) (fl : Option Txn) (ns : List TxnEntry) : Type 0 where
    pub before : Before x parts h.core fs
    pub state : is_below x fl ≡ false → seen (state_of x ns) ≡ (h.core.at p).state
    pub gone : is_below x fl ≡ true → (state_of x ns ≡ None) × (is_live (h.core.at p).state ≡ false)
    pub entries : AllOf (EntryFine x parts h (epoch_at p)) ns
    pub single : Single x parts ns

  -- by what the phase's turn is, where it is of x or not
  acted : (p : ℕ) (b : Body) (t : Turn) (y : Txn) (ps : List ℕ) (sc : Scope) (fl : Option Txn) (ns : List TxnEntry) → Given p fl ns → (is_below y fl ≡ true → state_of y ns ≡ None → Idle t)
      → (y ≡ x → is_below x fl ≡ false → Row x parts h.core p t (state_of x ns) ps fs) → Fits x parts h (epoch_at p) y ps sc t.new (state_of y ns) → (t.code ≡ 0 → (s : Seen) → Aims b s → (y ≡ x) × (seen (or_else t.new (state_of x ns)) ≡ s)) → Acted p b fl (after p t y ps sc fl ns)
  acted p b t y ps sc fl ns i q row f g =
      ⊎_elim (λ k.
      let z : x ≡ y = same_true x y k in
      ⊎_elim (λ below.
      let v = i.gone below in
      let idle = q (ap (λ (u : Txn). is_below u fl) (sym z) ∙ below) (ap (λ (u : Txn). state_of u ns) (sym z) ∙ v.0) in
      let none = λ (c : t.code ≡ 0). idle.2 c in
      record {
        core = h.core;
        turned = turned_none own parts h.core p;
        epoch = refl;
        state = λ c. let w : true ≡ false = sym below ∙ c in cc;
        gone = λ _. (ap (λ o. state_of x (noted y ps sc o ns)) idle.0 ∙ v.0, v.1);
        floor = λ _ e. inl e;
        entries = noted_fine x parts h (epoch_at p) y ps sc t.new ns i.entries f;
        single = single_noted x parts y ps sc t.new ns i.single;
        prepared = λ c _. absurd (none c);
        completed = λ c _. absurd (none c);
        aborted = λ c _. absurd (none c);
        marks = λ q. subst (λ es. Marks x parts (facts_of p y ps es ++ fs) q (h.core.at q)) (sym idle.1) (i.before.marks q);
        good = subst (λ es. GoodFacts x parts (facts_of p y ps es ++ fs)) (sym idle.1) i.before.good;
      })
      (λ above.
      let r = row (sym z) above in
      let u = tells own parts r.core p in
      let st : state_of x (noted y ps sc t.new ns) ≡ or_else t.new (state_of x ns) = subst (λ v. state_of x (noted v ps sc t.new ns) ≡ or_else t.new (state_of x ns)) z (state_noted x ps sc t.new ns) in
      let same : u.0.at p ≡ r.core.at p = u.2 in
      let tt' = turned_then own parts h.core r.core u.0 p r.turned u.1 in
      let now = λ (c : t.code ≡ 0) (s : Seen) (a : Aims b s). ap (λ (v : Element). v.state) same ∙ sym r.state ∙ (g c s a).1 in
      record {
        core = u.0;
        turned = tt';
        epoch = ap (λ (v : Element). v.epoch) same ∙ r.epoch;
        state = λ _. ap seen st ∙ r.state ∙ ap (λ (v : Element). v.state) (sym same);
        gone = λ c. let w : true ≡ false = sym c ∙ above in cc;
        floor = λ _ e. inl e;
        entries = noted_fine x parts h (epoch_at p) y ps sc t.new ns i.entries f;
        single = single_noted x parts y ps sc t.new ns i.single;
        prepared = λ c e. let v = g c Prepared (inl (e, refl)) in
            subst (λ n. Told u.0.notes (note n p Prepared)) r.epoch (subst (λ n. Told u.0.notes (note (r.core.at p).epoch p n)) (sym r.state ∙ v.1) u.3);
        completed = λ c e. now c Completed (inr (inl (e, refl)));
        aborted = λ c e. now c Aborted (inr (inr (e, refl)));
        marks = λ q. subst (λ (v : Txn). Marks x parts (facts_of p v ps t.events ++ fs) q (u.0.at q)) z
            (⊎_elim (λ n. let w : q ≡ p = eqb-true q p n in subst (λ v. Marks x parts (facts_of p x ps t.events ++ fs) v (u.0.at v)) (sym w) (subst (Marks x parts (facts_of p x ps t.events ++ fs) p) (sym same) r.marks))
            (λ n. let w = λ (v : q ≡ p). let c : true ≡ false = sym (eq-eqb q p v) ∙ n in absurd {A = ⊥} cc in
            marks_apart x parts fs p q x ps t.events (u.0.at q) (λ v _. w v) (subst (Marks x parts fs q) (sym (tt'.at q ∙ put_other h.core.at p (u.0.at p) q w)) (i.before.marks q)))
            (both (q == p)));
        good = subst (λ (v : Txn). GoodFacts x parts (facts_of p v ps t.events ++ fs)) z r.good;
      }) (both (is_below x fl)))
      (λ k.
      let n = λ (v : y ≡ x). let c : true ≡ false = sym (same_of x y (sym v)) ∙ k in absurd {A = ⊥} cc in
      record {
        core = h.core;
        turned = turned_none own parts h.core p;
        epoch = refl;
        state = λ c. ap seen (state_noted_other x y ps sc t.new ns k) ∙ i.state c;
        gone = λ c. let v = i.gone c in (state_noted_other x y ps sc t.new ns k ∙ v.0, v.1);
        floor = λ _ e. inl e;
        entries = noted_fine x parts h (epoch_at p) y ps sc t.new ns i.entries f;
        single = single_noted x parts y ps sc t.new ns i.single;
        prepared = λ z e. absurd (n (g z Prepared (inl (e, refl))).0);
        completed = λ z e. absurd (n (g z Completed (inr (inl (e, refl)))).0);
        aborted = λ z e. absurd (n (g z Aborted (inr (inr (e, refl)))).0);
        marks = λ q. marks_apart x parts fs p q y ps t.events (h.core.at q) (λ _ v. n (sym v)) (i.before.marks q);
        good = good_apart x parts fs p y ps t.events n i.before.good;
      }) (both (same x y))

  fits_none : (p : ℕ) (y : Txn) (ps : List ℕ) (sc : Scope) (new t : Option TxnState) → Lively new t → (t ≡ None → new ≡ None) → Fits x parts h (epoch_at p) y ps sc new t
  fits_none p y ps sc new t l n s e = (l s e, λ a. let f : None ≡ Some s = sym (n a) ∙ e in cc)

  idles_acted : (p : ℕ) (b : Body) (fl : Option Txn) (ns : List TxnEntry) (code : ℕ) → Given p fl ns → (b ≡ Eot x → ⊥) → (b ≡ Trcomp x → ⊥) → (b ≡ Abt x → ⊥) → Acted p b fl (idles fl ns code)
  idles_acted p b fl ns code i u v w = record {
    core = h.core;
    turned = turned_none own parts h.core p;
    epoch = refl;
    state = i.state;
    gone = i.gone;
    floor = λ _ e. inl e;
    entries = i.entries;
    single = i.single;
    prepared = λ _ e. absurd (u e);
    completed = λ _ e. absurd (v e);
    aborted = λ _ e. absurd (w e);
    marks = i.before.marks;
    good = i.before.good;
  }

  -- which code the response of a start or a change shows is no matter
  shown_acted : (p : ℕ) (b : Body) (fl : Option Txn) (code : ℕ) (r : Acts) → (b ≡ Eot x → ⊥) → (b ≡ Trcomp x → ⊥) → (b ≡ Abt x → ⊥) → Acted p b fl r → Acted p b fl (shows code r)
  shown_acted p b fl code r u v w a = record {
    core = a.core;
    turned = a.turned;
    epoch = a.epoch;
    state = a.state;
    gone = a.gone;
    floor = a.floor;
    entries = a.entries;
    single = a.single;
    prepared = λ _ e. absurd (u e);
    completed = λ _ e. absurd (v e);
    aborted = λ _ e. absurd (w e);
    marks = a.marks;
    good = a.good;
  }

  -- a new floor: what is below it is not held, and its record goes
  floored_acted : (p : ℕ) (fl : Option Txn) (f : Txn) (ns : List TxnEntry) (code : ℕ) (b : Bool) → (b ≡ true → (is_below f fl ≡ false) × (held_under f ns ≡ false)) → Given p fl ns
      → Acted p (Floor f) fl (cond b (record { records = forgotten f ns; floor = Some f; code = 0; facts = [] }) (idles fl ns code))
  floored_acted p fl f ns code true g i = record {
    core = h.core;
    turned = turned_none own parts h.core p;
    epoch = refl;
    state = λ c. ap seen (state_kept x f ns c) ∙ i.state (floor_rises x f fl c (g refl).0);
    gone = λ c. (state_gone x f ns c, ⊎_elim (λ v. (i.gone v).1) (λ v. ap is_live (sym (i.state v)) ∙ live_seen (state_of x ns) ∙ unheld_under x f ns (g refl).1 c) (both (is_below x fl)));
    floor = λ t e. inr (let v : f ≡ t = cc in ap Floor v);
    entries = forgotten_all (EntryFine x parts h (epoch_at p)) f ns i.entries;
    single = single_forgotten x parts f ns i.single;
    prepared = λ _ e. let v : Floor f ≡ Eot x = e in cc;
    completed = λ _ e. let v : Floor f ≡ Trcomp x = e in cc;
    aborted = λ _ e. let v : Floor f ≡ Abt x = e in cc;
    marks = i.before.marks;
    good = i.before.good;
  }
  floored_acted p fl f ns code false g i = idles_acted p (Floor f) fl ns code i (λ e. cc) (λ e. cc) (λ e. cc)

  pub acted_of : (p e : ℕ) (o : Circumstance) (b : Body) (fl : Option Txn) (ns : List TxnEntry) → e ≡ epoch_at p → Given p fl ns → Means x parts h (epoch_at p) p b → Acted p b fl (acts p e o b fl ns)
  acted_of p e o (Sot y ps sc) fl ns at i m =
      let fits = admits p e y ps o.strange sc in
      let part = among p ps && (rises_above 0 ps && nat_le (length ps) 64) in
      let takes = part && (not o.strange && is_scope sc) in
      shown_acted p (Sot y ps sc) fl _ _ (λ e. cc) (λ e. cc) (λ e. cc) (
      acted p (Sot y ps sc) (opening fits (is_below y fl) (clashes sc ns) (is_packed ns) o.rest (state_of y ns)) y ps sc fl ns i (opening_idle fits (is_below y fl) (clashes sc ns) (is_packed ns) o.rest (state_of y ns))
      (λ k b. subst (λ v. Row x parts h.core p (opening fits (is_below y fl) (clashes sc ns) (is_packed ns) o.rest v) (state_of x ns) ps fs) (ap (λ v. state_of v ns) (sym k))
      (opening_row x parts h.core p fits (is_below y fl) (clashes sc ns) (is_packed ns) o.rest (state_of x ns) ps fs i.before (i.state b)
      (λ f. (ap (among p) (sym (m k).1) ∙ both_first (among p ps) _ (both_first part _ (both_second (not (y.number == 0)) takes (both_second (y.epoch == e) _ f))), (m k).0, (m k).1, (m k).2.3))))
      (λ t n. (opening_lively fits (is_below y fl) (clashes sc ns) (is_packed ns) o.rest (state_of y ns) t n, λ _ k. let v = m k in ((λ _. v.1), (let low : epoch_at p ≡ x.epoch = v.0 in omega arith), v.2)))
      (λ _ s a. ⊎_elim (λ u. let f : Sot y ps sc ≡ Eot x = u.0 in cc) (λ u. ⊎_elim (λ v. let f : Sot y ps sc ≡ Trcomp x = v.0 in cc) (λ v. let f : Sot y ps sc ≡ Abt x = v.0 in cc) u) a))
  acted_of p e o (Mot y n) fl ns at i m =
      shown_acted p (Mot y n) fl _ _ (λ e. cc) (λ e. cc) (λ e. cc) (
      acted p (Mot y n) (adding o.rest (state_of y ns)) y [] [] fl ns i (λ _. adding_idle o.rest (state_of y ns))
      (λ k b. subst (λ v. Row x parts h.core p (adding o.rest v) (state_of x ns) [] fs) (ap (λ v. state_of v ns) (sym k)) (adding_row x parts h.core p o.rest (state_of x ns) fs i.before (i.state b)))
      (fits_none p y [] [] _ (state_of y ns) (adding_lively o.rest (state_of y ns)) (adding_absent o.rest (state_of y ns)))
      (λ _ s a. ⊎_elim (λ u. let f : Mot y n ≡ Eot x = u.0 in cc) (λ u. ⊎_elim (λ v. let f : Mot y n ≡ Trcomp x = v.0 in cc) (λ v. let f : Mot y n ≡ Abt x = v.0 in cc) u) a))
  acted_of p e o (Eot y) fl ns at i m =
      acted p (Eot y) (preparing (state_of y ns)) y [] [] fl ns i (λ _. preparing_idle (state_of y ns))
      (λ k b. subst (λ v. Row x parts h.core p (preparing v) (state_of x ns) [] fs) (ap (λ v. state_of v ns) (sym k)) (preparing_row x parts h.core p (state_of x ns) fs i.before (i.state b) (m k)))
      (fits_none p y [] [] _ (state_of y ns) (preparing_lively (state_of y ns)) (preparing_absent (state_of y ns)))
      (λ z s a. ⊎_elim (λ u.
      let f : Eot y ≡ Eot x = u.0 in
      let k : y ≡ x = cc in
      (k, subst (λ v. seen (or_else (preparing (state_of v ns)).new (state_of x ns)) ≡ Prepared) (sym k) (preparing_good (state_of x ns) (subst (λ v. (preparing (state_of v ns)).code ≡ 0) k z)) ∙ sym u.1))
      (λ u. ⊎_elim (λ v. let f : Eot y ≡ Trcomp x = v.0 in cc) (λ v. let f : Eot y ≡ Abt x = v.0 in cc) u) a)
  acted_of p e o (Trcomp y) fl ns at i m =
      acted p (Trcomp y) (settling Complete (state_of y ns)) y [] [] fl ns i (λ _. settling_idle Complete (state_of y ns))
      (λ k b. subst (λ v. Row x parts h.core p (settling Complete v) (state_of x ns) [] fs) (ap (λ v. state_of v ns) (sym k)) (settling_row x parts h.core p Complete (state_of x ns) fs i.before (i.state b) (m k).1 (m k).0))
      (fits_none p y [] [] _ (state_of y ns) (settling_lively Complete (state_of y ns)) (completing_absent (state_of y ns)))
      (λ z s a. ⊎_elim (λ u. let f : Trcomp y ≡ Eot x = u.0 in cc)
      (λ u. ⊎_elim (λ v.
      let f : Trcomp y ≡ Trcomp x = v.0 in
      let k : y ≡ x = cc in
      (k, subst (λ v. seen (or_else (settling Complete (state_of v ns)).new (state_of x ns)) ≡ Completed) (sym k) (settling_good Complete (state_of x ns) (subst (λ v. (settling Complete (state_of v ns)).code ≡ 0) k z)) ∙ sym v.1))
      (λ v. let f : Trcomp y ≡ Abt x = v.0 in cc) u) a)
  acted_of p e o (Abt y) fl ns at i m =
      let full = is_full ns in
      let named = is_name y && not (is_below y fl) in
      acted p (Abt y) (aborting named full (state_of y ns)) y [] [] fl ns i (aborting_idle (is_name y) (is_below y fl) full (state_of y ns))
      (λ k b. subst (λ v. Row x parts h.core p (aborting named full v) (state_of x ns) [] fs) (ap (λ v. state_of v ns) (sym k)) (aborting_row x parts h.core p named full (state_of x ns) fs i.before (i.state b) (m k).1 (m k).0))
      (λ t n. (aborting_lively named full (state_of y ns) t n, λ u k. let v = m k in ((λ l. absurd (abort_over named full (state_of y ns) t n l)), v.2, v.3)))
      (λ z s a. ⊎_elim (λ u. let f : Abt y ≡ Eot x = u.0 in cc)
      (λ u. ⊎_elim (λ v. let f : Abt y ≡ Trcomp x = v.0 in cc)
      (λ v.
      let f : Abt y ≡ Abt x = v.0 in
      let k : y ≡ x = cc in
      (k, subst (λ v. seen (or_else (aborting named full (state_of v ns)).new (state_of x ns)) ≡ Aborted) (sym k) (aborting_good named full (state_of x ns) (subst (λ v. (aborting named full (state_of v ns)).code ≡ 0) k z)) ∙ sym v.1)) u) a)
  acted_of p e o (Claim w) fl ns at i m = idles_acted p (Claim w) fl ns _ i (λ f. cc) (λ f. cc) (λ f. cc)
  acted_of p e o (Floor f) fl ns at i m = floored_acted p fl f ns (floor_code e fl f ns) (floor_code e fl f ns == 0) (λ b. floor_zero e fl f ns (eqb-true _ _ b)) i
  acted_of p e o Malformed fl ns at i m = idles_acted p Malformed fl ns o.shape i (λ f. cc) (λ f. cc) (λ f. cc)
  acted_of p e o Plain fl ns at i m = idles_acted p Plain fl ns _ i (λ f. cc) (λ f. cc) (λ f. cc)
  acted_of p e o Ask fl ns at i m = idles_acted p Ask fl ns 16 i (λ f. cc) (λ f. cc) (λ f. cc)
  acted_of p e o (Ask_record y) fl ns at i m = idles_acted p (Ask_record y) fl ns 16 i (λ f. cc) (λ f. cc) (λ f. cc)
