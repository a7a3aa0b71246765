-- What is read of a message is written as it is spelled.
use Rattle.std.proofs.Common.{◌≡◌, ◌≢◌, ◌==◌, ◌≤◌, ◌<◌, ◌+◌, ◌/◌, ◌&&◌, ℕ, nat_lt, Bool, true, false, cond, if◌then◌else◌, List, [], ◌++◌, length, codes, Some, IfOk, Result, Ok, Err, append-nil, ne_eqb, refl, sym, ap, ◌∙◌, subst, arith}
use Rattle.fc_base.specs.Answers.{◌>>=◌}
use Rattle.fc_wire.specs.Bytes.{u32_bytes}
use Rattle.fc_wire.specs.Header.{header_bytes}
use Rattle.fc_wire.specs.Writing.{Writing, writing}
use Rattle.fc_wire.specs.declared.header.Header.{Header}
use Rattle.fc_path.specs.Canon.{Pushed, plain, wrapped}
use Rattle.fc_path.specs.declared.oper.Select.{Select}
use Rattle.fc_path.proofs.Closing.{and_right}
use Rattle.fc_msg.specs.Bodies.{holding}
use Rattle.fc_msg.specs.Messages.{body_written, canonical, framed, kind_of, message_fits, selects_written}
use Rattle.fc_msg.specs.declared.message.Message.{Message}
use Rattle.fc_msg.specs.declared.message.MsgBody.{MsgBody}
use Rattle.fc_msg.specs.declared.message.MsgBody.TheVariants.{Setup, SetupResponse, Teardown, Config, ConfigResponse, Query, QueryResponse, Event, Heartbeat}
use Rattle.fc_msg.proofs.Writing.{body_fits}
use Rattle.fc_lines.specs.LineReading.{head_at, message_named, number_at, shut}
use Rattle.fc_lines.specs.LineWords.{LinesLeft}
use Rattle.fc_lines.specs.TextPlaces.{Fails, TextPlace, place}
use Rattle.fc_lines.specs.declared.fault.TextFault.{TextFault}
use Rattle.fc_lines.specs.declared.said.Head.{Head}
use Rattle.fc_lines.proofs.Cutting.{skip, stay}
use Rattle.fc_text.specs.TextReading.{content_at, many_at, message_at, message_of, select_at, some_at, whole_at}
use Rattle.fc_text.proofs.Loops.{fails_bind}
use Rattle.fc_text.proofs.ReadMessages.{body_number}
use Rattle.fc_text.proofs.SoundMessages.{content_sound, head_sound}
use Rattle.fc_making.specs.Writes.{Refuses, Writes, header_for, long_at}
use Rattle.fc_making.specs.declared.unwritten.Unwritten.{Unwritten}
use Rattle.fc_making.specs.declared.unwritten.Unwritten.TheVariants.{Fault, TooLong}
use Rattle.fc_making.proofs.WrittenParts.{Wrote, refuses_bind, writes_as}

-- the body of a message of a type
module _ (kind : ℕ) (left rest : LinesLeft) (old new : Writing) (r : Result (Unit {0}) Unwritten) where
  pub heartbeat_content : kind ≡ 15 → Wrote (content_at kind left) left body_written old old
  unfolding content_at
  heartbeat_content is = (Heartbeat, ap (λ k. content_at k left) is, (refl, ap (λ l. writing l old.places) (sym (append-nil old.text))))

  at_kind : (k : ℕ) → kind ≡ k → Writes r (content_at k left) rest body_written old new → Writes r (content_at kind left) rest body_written old new
  at_kind k is h = subst (λ k. Writes r (content_at k left) rest body_written old new) (sym is) h

  pub result_content : kind ≡ 17 → Writes r (number_at (codes "result") left) rest (λ n. wrapped 16 (plain (u32_bytes n))) old new → Writes r (content_at kind left) rest body_written old new
  unfolding content_at
  result_content is h = at_kind 17 is (writes_as r (number_at (codes "result") left) rest SetupResponse (λ n. wrapped 16 (plain (u32_bytes n))) body_written old new (λ n. refl) h)

  pub reason_content : kind ≡ 2 → Writes r (number_at (codes "reason") left) rest (λ n. wrapped 17 (plain (u32_bytes n))) old new → Writes r (content_at kind left) rest body_written old new
  unfolding content_at
  reason_content is h = at_kind 2 is (writes_as r (number_at (codes "reason") left) rest Teardown (λ n. wrapped 17 (plain (u32_bytes n))) body_written old new (λ n. refl) h)

  pub setup_content : kind ≡ 1 → Writes r (many_at 1 (select_at kind 1) left) rest selects_written old new → Writes r (content_at kind left) rest body_written old new
  unfolding content_at
  setup_content is h =
      at_kind 1 is (writes_as r (many_at 1 (select_at 1 1) left) rest Setup selects_written body_written old new (λ ss. refl) (subst (λ k. Writes r (many_at 1 (select_at k 1) left) rest selects_written old new) is h))

  held_by : (a b c d e : Bool) (ss : List Select) → body_written (cond a (Config ss) (cond b (ConfigResponse ss) (cond c (Query ss) (cond d (QueryResponse ss) (cond e (Event ss) (Setup ss)))))) ≡ selects_written ss
  held_by true b c d e ss = refl
  held_by false true c d e ss = refl
  held_by false false true d e ss = refl
  held_by false false false true e ss = refl
  held_by false false false false true ss = refl
  held_by false false false false false ss = refl

  pub holding_content : kind ≢ 15 → kind ≢ 17 → kind ≢ 2 → kind ≢ 1 → Writes r (some_at 1 (select_at kind 1) left) rest selects_written old new → Writes r (content_at kind left) rest body_written old new
  unfolding content_at
  holding_content a b c d h =
      subst (λ (q : Result (MsgBody × LinesLeft) TextPlace). Writes r q rest body_written old new)
      (sym (skip (kind == 15) _ _ (ne_eqb kind 15 a) ∙ skip (kind == 17) _ _ (ne_eqb kind 17 b) ∙ skip (kind == 2) _ _ (ne_eqb kind 2 c) ∙ skip (kind == 1) _ _ (ne_eqb kind 1 d)))
      (writes_as r (some_at 1 (select_at kind 1) left) rest (holding kind) selects_written body_written old new (held_by (kind == 3) (kind == 19) (kind == 4) (kind == 20) (kind == 5)) h)

-- a message, part by part
abbrev behind_body : Head → MsgBody × LinesLeft → Result (Message × LinesLeft) TextPlace
behind_body h b = shut b.1 >>= λ _. Ok (message_of h b.0, b.1)

abbrev behind_head : Head × LinesLeft → Result (Message × LinesLeft) TextPlace
behind_head head = content_at head.0.kind head.1 >>= behind_body head.0

abbrev encodable : LinesLeft → Message × LinesLeft → Result (Message × LinesLeft) TextPlace
encodable left m = if message_fits m.0 then Ok (m.0, m.1) else Err (place (left.taken + 1) 1)

whole_parts : (left : LinesLeft) → whole_at left ≡ (head_at left >>= behind_head)
unfolding whole_at
whole_parts left = refl

in_parts : (left : LinesLeft) → message_at left ≡ (whole_at left >>= encodable left)
unfolding message_at
in_parts left = refl

-- why it is not written
at_message : (left : LinesLeft) (error : Unwritten) → Refuses error (head_at left >>= behind_head) message_fits → Refuses error (whole_at left) message_fits
at_message left error h = subst (λ (q : Result (Message × LinesLeft) TextPlace). Refuses error q message_fits) (sym (whole_parts left)) h

pub head_refused : (left : LinesLeft) (fault : TextFault) → Fails fault (head_at left) → Refuses (Fault fault) (whole_at left) message_fits
head_refused left fault h = at_message left (Fault fault) (fails_bind (head_at left) behind_head fault h)

behind_it : (left mid : LinesLeft) (head : Head) (error : Unwritten) → head_at left ≡ Ok (head, mid) → Refuses error (behind_head (head, mid)) message_fits → Refuses error (whole_at left) message_fits
behind_it left mid head error is h = at_message left error (subst (λ (q : Result (Message × LinesLeft) TextPlace). Refuses error q message_fits) (ap (λ q. q >>= behind_head) (sym is)) h)

-- a message does not fit whose body does not
unfitting : (head : Head) (b : MsgBody) → (body_written b).fits ≡ false → message_fits (message_of head b) ≡ false
unfolding message_fits
unfitting head b long = and_right _ _ long

body_long : (head : Head) (b : MsgBody) (rest : LinesLeft) (s : Result (Unit {0}) TextPlace) → (body_written b).fits ≡ false → IfOk {T = Message × LinesLeft} (s >>= λ _. Ok (message_of head b, rest)) (λ m. message_fits m.0 ≡ false)
body_long head b rest (Ok done) long = unfitting head b long
body_long head b rest (Err p) long = tt

pub content_refused : (left mid : LinesLeft) (head : Head) (error : Unwritten) → head_at left ≡ Ok (head, mid) → Refuses error (content_at head.kind mid) (λ b. (body_written b).fits) → Refuses error (whole_at left) message_fits
content_refused left mid head error is h =
    behind_it left mid head error is (refuses_bind (λ b. (body_written b).fits) message_fits error (content_at head.kind mid) (behind_body head) (λ b rest long. body_long head b rest (shut rest) long) h)

pub shut_refused : (left mid rest : LinesLeft) (head : Head) (fault : TextFault) (old new : Writing) → head_at left ≡ Ok (head, mid) → Wrote (content_at head.kind mid) rest body_written old new → Fails fault (shut rest) → Refuses (Fault fault) (whole_at left) message_fits
shut_refused left mid rest head fault old new is (b, e, p) h =
    behind_it left mid head (Fault fault) is (subst (λ (q : Result (Message × LinesLeft) TextPlace). Fails fault q) (ap (λ q. q >>= behind_body head) (sym e)) (fails_bind (shut rest) (λ _. Ok (message_of head b, rest)) fault h))

-- its type is that of its line
same_some : (a b : ℕ) → Some a ≡ Some b → a ≡ b
same_some a b e = cc

kind_is : (left mid rest : LinesLeft) (head : Head) (b : MsgBody) → head_at left ≡ Ok (head, mid) → content_at head.kind mid ≡ Ok (b, rest) → kind_of b ≡ head.kind
kind_is left mid rest head b is e =
    let h = head_sound left head mid is in
    let s = content_sound h.text head.kind h.named mid b rest e in
    same_some (kind_of b) head.kind (sym (body_number b) ∙ ap message_named (sym s.0) ∙ h.named)

abbrev header_with : Head → ℕ → ℕ → Header
header_with h kind words = record (header_for h) { kind = kind; words = words }

-- what its lines say is read
module _ (left mid rest : LinesLeft) (head : Head) where
  whole_read : (b : MsgBody) → head_at left ≡ Ok (head, mid) → content_at head.kind mid ≡ Ok (b, rest) → shut rest ≡ Ok tt → whole_at left ≡ Ok (message_of head b, rest)
  whole_read b is e closes = whole_parts left ∙ ap (λ q. q >>= behind_head) is ∙ ap (λ q. q >>= behind_body head) e ∙ ap (λ q. q >>= λ _. Ok (message_of head b, rest)) closes

  many : (n : ℕ) (f : Bool) → 262116 < n → (nat_lt n 262117 && f) ≡ false
  many n f more = grind arith

  too_many : (b : MsgBody) (w : Writing) (body : List ℕ) → Pushed (Ok tt) (writing [] []) w (body_written b) → body ≡ w.text → 262116 < length body → message_fits (message_of head b) ≡ false
  unfolding message_fits
  too_many b w body p same more = many (length (body_written b).text) (body_written b).fits (subst (λ l. 262116 < length l) (same ∙ ap (λ (w : Writing). w.text) p.1) more)

  pub body_refused : (cleared w : Writing) (body : List ℕ) → head_at left ≡ Ok (head, mid) → cleared ≡ writing [] [] → Wrote (content_at head.kind mid) rest body_written cleared w → shut rest ≡ Ok tt
      → body ≡ w.text → 262116 < length body → Refuses TooLong (whole_at left) message_fits
  body_refused cleared w body is clear (b, e, p) closes same more =
      subst (λ (q : Result (Message × LinesLeft) TextPlace). Refuses TooLong q message_fits) (sym (whole_read b is e closes))
      (too_many b w body (subst (λ (c : Writing). Pushed (Ok tt) c w (body_written b)) clear p) same more)

  pub message_done : (cleared w : Writing) (body old new : List ℕ) → head_at left ≡ Ok (head, mid) → cleared ≡ writing [] [] → Wrote (content_at head.kind mid) rest body_written cleared w → shut rest ≡ Ok tt
      → body ≡ w.text → length body ≤ 262116 → new ≡ old ++ framed (header_for head) body → (m : Message) × (message_at left ≡ Ok (m, rest)) × (new ≡ old ++ canonical m)
  message_done cleared w body old new is clear (b, e, p) closes same few appended =
      let m = message_of head b in
      let made = body_fits m cleared w body clear p same few in (
        m,
        in_parts left ∙ ap (λ q. q >>= encodable left) (whole_read b is e closes) ∙ stay (message_fits m) _ _ made.0,
        appended ∙ ap (λ k. old ++ (header_bytes (header_with head k (6 + length body / 4)) ++ body)) (sym (kind_is left mid rest head b is e)) ∙ ap (λ l. old ++ l) made.1,
      )

-- a message that is not written is refused
module _ (left : LinesLeft) (fault : TextFault) (error : Unwritten) where
  pub fault_refused : error ≡ Fault fault → Refuses error (whole_at left) message_fits → Fails fault (message_at left)
  fault_refused is h =
      let read : Fails fault (whole_at left) = subst (λ (e : Unwritten). Refuses e (whole_at left) message_fits) is h in
      subst (λ (q : Result (Message × LinesLeft) TextPlace). Fails fault q) (sym (in_parts left)) (fails_bind (whole_at left) (encodable left) fault read)

  unencodable : (q : Result (Message × LinesLeft) TextPlace) → IfOk q (λ m. message_fits m.0 ≡ false) → (q >>= λ m. Err (place (left.taken + 1) 1)) ≡ (q >>= encodable left)
  unencodable (Ok m) long = sym (skip (message_fits m.0) _ _ long)
  unencodable (Err p) long = refl

  pub long_refused : (again : LinesLeft) → again ≡ left → error ≡ TooLong → Refuses error (whole_at left) message_fits → Fails fault (long_at again) → Fails fault (message_at left)
  long_refused again same is h told =
      let long : IfOk (whole_at left) (λ m. message_fits m.0 ≡ false) = subst (λ (e : Unwritten). Refuses e (whole_at left) message_fits) is h in
      subst (λ (q : Result (Message × LinesLeft) TextPlace). Fails fault q) (ap long_at same ∙ unencodable (whole_at left) long ∙ sym (in_parts left)) told
