-- Reading and appending, one step at a time.
use Rattle.std.proofs.Common.{◌≡◌, ◌≤◌, ◌==◌, Bool, true, false, length, take, IfOk, IfErr, OnErr, ℕ, List, [], ◌∷◌, ◌++◌, Option, Some, None, Result, Ok, Err, refl, sym, ap, ◌∙◌, append_assoc, append-nil, subst}
use Rattle.std.specs.List.{flat_map}
use Rattle.std.proofs.lemmas.Grind.{flat_map-append}
use Rattle.fc_wire.specs.Tiling.{Tiling, next_of, rest_of}
use Rattle.fc_wire.specs.Bytes.{AreBytes}
use Rattle.fc_wire.specs.Header.{IsHeader}
use Rattle.fc_wire.specs.Tlvs.{TlvItem}
use Rattle.fc_wire.specs.declared.header.WireFault.{WireFault}
use Rattle.fc_base.specs.Answers.{◌>>=◌}
use Rattle.fc_path.specs.SelectHeads.{oper_head_at, select_head_at, with_opers, with_paths}
use Rattle.fc_path.specs.Stray.{Fails}
use Rattle.fc_path.specs.Reading.{each_in, some_in, oper_at, select_at}
use Rattle.fc_path.specs.declared.oper.Oper.{Oper}
use Rattle.fc_path.specs.declared.oper.Select.{Select}
use Rattle.fc_path.specs.declared.select_heads.OperHead.{OperHead}
use Rattle.fc_path.specs.declared.select_heads.SelectHead.{SelectHead}
use Rattle.fc_path.specs.declared.fault.PathFault.{PathFault}
use Rattle.fc_path.proofs.Opening.{oper_is, select_is}
use Rattle.fc_path.proofs.Steps.{SoFar, loop_goes, loop_fails, loop_end, fails_bind, took}
use Rattle.fc_msg.specs.Bodies.{holding}
use Rattle.fc_msg.specs.Decoding.{IsWithin, Refuses}
use Rattle.fc_msg.specs.Faults.{fault_of}
use Rattle.fc_msg.specs.Heads.{message_by, message_held, with_selects}
use Rattle.fc_msg.specs.Messages.{Spells, kind_of}
use Rattle.fc_msg.specs.Reading.{message_in}
use Rattle.fc_msg.specs.declared.fault.MsgFault.{MsgFault}
use Rattle.fc_msg.specs.declared.fault.MsgFault.TheVariants.{At, Memory}
use Rattle.fc_msg.specs.declared.fault.Refusal.{Refusal}
use Rattle.fc_msg.specs.declared.heads.FrameHead.{FrameHead}
use Rattle.fc_msg.specs.declared.message.Message.{Message}
use Rattle.fc_msg.specs.declared.message.MsgBody.{MsgBody}
use Rattle.fc_msg.specs.declared.message.MsgBody.TheVariants.{Setup, SetupResponse, Teardown, Config, ConfigResponse, Query, QueryResponse, Event, Heartbeat}
use Rattle.fc_msg.proofs.Reading.{whole, with_header}
use Rattle.fc_text.specs.Text.{body_name, content_text, fields_text, head_text, message_text, oper_text, select_line, select_text, selects_text}
use Rattle.fc_showing.specs.Appending.{shown, Shows, ShowsMessage, bare, type_name}

-- what was read, where its text was appended
pub was_read : {X : Type 0} (r : Result X PathFault) (text : X → List ℕ) (now next : List ℕ) → shown r text now ≡ Ok next → (x : X) × (r ≡ Ok x) × (next ≡ now ++ text x)
was_read (Err e) text now next h = cc
was_read (Ok x) text now next h = (x, refl, cc)

-- a reading that goes on with what was read
pub goes_on : {X Y : Type 0} (result : Result (Unit {0}) PathFault) (r : Result X PathFault) (f : X → Y) (text : X → List ℕ) (other : Y → List ℕ) (old line mid new : List ℕ)
    → mid ≡ old ++ line → ((x : X) → other (f x) ≡ line ++ text x) → Shows result r text mid new → Shows result (r >>= λ x. Ok (f x)) other old new
goes_on (Err fault) r f text other old line mid new m same t = fails_bind fault r (λ x. Ok (f x)) t
goes_on (Ok done) (Err e) f text other old line mid new m same t = cc
goes_on (Ok done) (Ok x) f text other old line mid new m same t =
    ap (λ l. Ok (old ++ l)) (same x) ∙ ap Ok (sym (append_assoc old line (text x))) ∙ ap (λ l. Ok (l ++ text x)) (sym m) ∙ t

module _ {X : Type 0} (one : TlvItem → Result X PathFault) (text : X → List ℕ) where
  -- the texts of those in front are appended
  pub record Appended (items : List TlvItem) (fault : Option WireFault) (old now : List ℕ) (all : Result (List X) PathFault) : Type 0 where
    pub front : List X
    pub so_far : SoFar one items fault front all
    pub text_is : now ≡ old ++ flat_map text front

  pub goes : (items : List TlvItem) (fault : Option WireFault) (t : TlvItem) (rest : Tiling TlvItem) (old now next : List ℕ) (all : Result (List X) PathFault)
      → Appended items fault old now all → Some (Ok t) ≡ next_of items fault → rest ≡ rest_of items fault → shown (one t) text now ≡ Ok next → Appended rest.items rest.fault old next all
  goes items fault t rest old now next all a n r h =
      let (x, is, e) = was_read (one t) text now next h in
      record {
        front = a.front ++ x ∷ [];
        so_far = loop_goes one items fault t rest a.front (a.front ++ x ∷ []) all x a.so_far n r is refl;
        text_is = e ∙ ap (λ l. l ++ text x) a.text_is ∙ append_assoc old (flat_map text a.front) (text x)
            ∙ ap (λ l. old ++ (flat_map text a.front ++ l)) (sym (append-nil (text x))) ∙ ap (λ l. old ++ l) (sym (flat_map-append text a.front (x ∷ [])));
      }

  pub stops : (items : List TlvItem) (fault : Option WireFault) (t : TlvItem) (rest : Tiling TlvItem) (old now : List ℕ) (all : Result (List X) PathFault) (e : PathFault)
      → Appended items fault old now all → Some (Ok t) ≡ next_of items fault → rest ≡ rest_of items fault → Fails e (one t) → Fails e all
  stops items fault t rest old now all e a n r f = loop_fails one items fault t rest a.front all e a.so_far n r f

  pub ends : (items : List TlvItem) (fault : Option WireFault) (old now : List ℕ) (all : Result (List X) PathFault) → Appended items fault old now all → None ≡ next_of items fault → shown all (flat_map text) old ≡ Ok now
  ends items fault old now all a n = ap (λ r. shown r (flat_map text) old) (loop_end one items fault a.front all a.so_far n) ∙ ap Ok (sym a.text_is)

  all_same : (r : Result (List X) PathFault) → (r >>= λ xs. Ok xs) ≡ r
  all_same (Ok xs) = refl
  all_same (Err e) = refl

  pub begins : (items : List TlvItem) (fault : Option WireFault) (old : List ℕ) → Appended items fault old old (each_in one items fault)
  begins items fault old = record { front = []; so_far = all_same (each_in one items fault); text_is = sym (append-nil old) }

  -- the first of at least one, and then the others
  some_cons : (end : ℕ) (items : List TlvItem) (fault : Option WireFault) (t : TlvItem) (rest : Tiling TlvItem) → Some (Ok t) ≡ next_of items fault → rest ≡ rest_of items fault
      → some_in one end items fault ≡ (one t >>= λ x. each_in one rest.items rest.fault >>= λ xs. Ok (x ∷ xs))
  some_cons end items fault t rest n r =
      let p = took items fault t rest n r in
      ap (λ l. some_in one end l fault) p.0 ∙ ap (λ l. some_in one end (t ∷ rest.items) l) p.1

  pub first_fails : (end : ℕ) (items : List TlvItem) (fault : Option WireFault) (t : TlvItem) (rest : Tiling TlvItem) (e : PathFault) → Some (Ok t) ≡ next_of items fault → rest ≡ rest_of items fault
      → Fails e (one t) → Fails e (some_in one end items fault)
  first_fails end items fault t rest e n r f = subst (Fails e) (sym (some_cons end items fault t rest n r)) (fails_bind e (one t) _ f)

  pub then_others : (result : Result (Unit {0}) PathFault) (end : ℕ) (items : List TlvItem) (fault : Option WireFault) (t : TlvItem) (rest : Tiling TlvItem) (old mid new : List ℕ)
      → Some (Ok t) ≡ next_of items fault → rest ≡ rest_of items fault → shown (one t) text old ≡ Ok mid → Shows result (each_in one rest.items rest.fault) (flat_map text) mid new
      → Shows result (some_in one end items fault) (flat_map text) old new
  then_others result end items fault t rest old mid new n r h others =
      let (x, is, e) = was_read (one t) text old mid h in
      let same : some_in one end items fault ≡ (each_in one rest.items rest.fault >>= λ xs. Ok (x ∷ xs)) =
      some_cons end items fault t rest n r ∙ ap (λ q. q >>= λ x. each_in one rest.items rest.fault >>= λ xs. Ok (x ∷ xs)) is in
      subst (λ q. Shows result q (flat_map text) old new) (sym same) (goes_on result (each_in one rest.items rest.fault) (λ xs. x ∷ xs) (flat_map text) (flat_map text) old (text x) mid new e (λ xs. refl) others)

-- an operation of which the head is lent
pub oper_goes : (result : Result (Unit {0}) PathFault) (message : ℕ) (t : TlvItem) (h : OperHead) (old new : List ℕ) → oper_head_at message t ≡ Ok h → Shows result (with_paths h) oper_text old new → Shows result (oper_at message t) oper_text old new
oper_goes result message t h old new is shown_is =
    subst (λ (q : Result Oper PathFault). Shows result q oper_text old new) (sym (oper_is message t ∙ ap (λ r. r >>= with_paths) is)) shown_is

-- an LFBselect of which the head is lent
pub select_goes : (result : Result (Unit {0}) PathFault) (message : ℕ) (t : TlvItem) (h : SelectHead) (old mid new : List ℕ) → select_head_at message t ≡ Ok h → mid ≡ old ++ select_line h.class h.instance
    → Shows result (some_in (oper_at message) h.end h.opers.items h.opers.fault) (flat_map oper_text) mid new → Shows result (select_at message t) select_text old new
select_goes result message t h old mid new is m shown_is =
    subst (λ (q : Result Select PathFault). Shows result q select_text old new) (sym (select_is message t ∙ ap (λ r. r >>= with_opers message) is))
    (goes_on result (some_in (oper_at message) h.end h.opers.items h.opers.fault) (λ opers. record { class = h.class; instance = h.instance; opers = opers }) (flat_map oper_text) select_text old (select_line h.class h.instance) mid new m (λ opers. refl) shown_is)

-- the lines of a body that holds LFBselects
holding_by : (a b c d e : Bool) (kind : ℕ) (selects : List Select) → (kind == 3) ≡ a → (kind == 19) ≡ b → (kind == 4) ≡ c → (kind == 20) ≡ d → (kind == 5) ≡ e → content_text (holding kind selects) ≡ selects_text selects
holding_by true b c d e kind selects p q r s t = rw p refl
holding_by false true c d e kind selects p q r s t = rw (p, q) refl
holding_by false false true d e kind selects p q r s t = rw (p, q, r) refl
holding_by false false false true e kind selects p q r s t = rw (p, q, r, s) refl
holding_by false false false false true kind selects p q r s t = rw (p, q, r, s, t) refl
holding_by false false false false false kind selects p q r s t = rw (p, q, r, s, t) refl

holding_text : (kind : ℕ) (selects : List Select) → content_text (holding kind selects) ≡ selects_text selects
holding_text kind selects = holding_by (kind == 3) (kind == 19) (kind == 4) (kind == 20) (kind == 5) kind selects refl refl refl refl refl

pub selects_go : (result : Result (Unit {0}) PathFault) (kind : ℕ) (r : Result (List Select) PathFault) (old new : List ℕ) → Shows result r selects_text old new → Shows result (r >>= λ selects. Ok (holding kind selects)) content_text old new
selects_go result kind r old new shown_is = goes_on result r (holding kind) selects_text content_text old [] old new (sym (append-nil old)) (λ selects. holding_text kind selects) shown_is

-- the name of the type of a body
named : (body : MsgBody) → body_name body ≡ type_name (kind_of body)
named (Setup selects) = refl
named (SetupResponse result) = refl
named (Teardown reason) = refl
named (Config selects) = refl
named (ConfigResponse selects) = refl
named (Query selects) = refl
named (QueryResponse selects) = refl
named (Event selects) = refl
named Heartbeat = refl

-- the text of the message in bytes of which the head is lent
pub shown_by : (bytes : List ℕ) (h : FrameHead) (old mid new : List ℕ) → AreBytes bytes → IsHeader h.header (take 24 bytes) → message_in bytes ≡ message_held h → mid ≡ old ++ (type_name h.header.kind ++ fields_text (bare h.header))
    → shown (with_selects h.body) content_text mid ≡ Ok new → (m : Message) × (message_in bytes ≡ Some m) × (new ≡ old ++ message_text m)
unfolding message_text head_text fields_text
shown_by bytes h old mid new fine header held m shown_is =
    let (body, read, all) = was_read (with_selects h.body) content_text mid new shown_is in
    let there : message_in bytes ≡ Some (with_header h.header body) = held ∙ ap (message_by h.header) read in
    let spelled : Spells (with_header h.header body) bytes = whole bytes (with_header h.header body) fine there in
    let name : body_name body ≡ type_name h.header.kind = named body ∙ ap type_name (spelled.header.kind ∙ sym header.kind) in
    let line = type_name h.header.kind ++ fields_text (bare h.header) in (
      with_header h.header body,
      there,
      all ∙ ap (λ l. l ++ content_text body) m ∙ append_assoc old line (content_text body) ∙ ap (λ l. old ++ ((l ++ fields_text (bare h.header)) ++ content_text body)) (sym name),
    )

-- what is promised of bytes, from what holds of the message in them
pub all_spelled : (r : Result (Unit {0}) MsgFault) (bytes old new : List ℕ) → AreBytes bytes → ShowsMessage r bytes old new
    → IfOk r (λ _. (m : Message) × Spells m bytes × (new ≡ old ++ message_text m))
all_spelled (Ok done) bytes old new fine (m, is, e) = (m, whole bytes m fine is, e)
all_spelled (Err fault) bytes old new fine h = tt

-- a place that is told is within the bytes
pub all_within : (r : Result (Unit {0}) MsgFault) (bytes old new : List ℕ) → AreBytes bytes
    → ((bytes : List ℕ) (told : Refusal) → AreBytes bytes → fault_of bytes ≡ Some told → told.place ≤ length bytes)
    → ShowsMessage r bytes old new → IfErr r (λ fault. IsWithin (length bytes) fault)
all_within (Ok done) bytes old new fine low h = tt
all_within (Err (At told)) bytes old new fine low h = low bytes told fine h.0
all_within (Err Memory) bytes old new fine low h = tt

pub all_refused : (r : Result (Unit {0}) MsgFault) (bytes old new : List ℕ) → ShowsMessage r bytes old new → IfErr r (λ fault. Refuses (fault_of bytes) fault)
all_refused (Ok done) bytes old new h = tt
all_refused (Err fault) bytes old new h = h.0

pub all_kept : (r : Result (Unit {0}) MsgFault) (bytes old new : List ℕ) → ShowsMessage r bytes old new → OnErr r (new ≡ old)
all_kept (Ok done) bytes old new h = tt
all_kept (Err fault) bytes old new h = h.1
