-- What is lent of a message is what reading gives.
use Rattle.std.proofs.Common.{◌≡◌, ◌≤◌, ◌*◌, ◌==◌, ℕ, Bool, true, false, cond, List, length, take, drop, slice_index, Option, Some, None, Result, Ok, Err, refl, sym, ap, ◌∙◌, arith, eqb-true, subst}
use Rattle.fc_base.specs.Answers.{◌>>=◌}
use Rattle.fc_wire.specs.Header.{IsHeader}
use Rattle.fc_wire.specs.Tiling.{Tiling, tiling}
use Rattle.fc_wire.specs.Tlvs.{TlvItem, tlvs}
use Rattle.fc_wire.specs.declared.header.Header.{Header}
use Rattle.fc_wire.specs.declared.header.WireFault.{WireFault}
use Rattle.fc_path.specs.Reading.{each_in, select_at, single, some_in}
use Rattle.fc_path.specs.Stray.{Fails, shut, trailing}
use Rattle.fc_path.specs.declared.fault.PathFault.{PathFault}
use Rattle.fc_path.specs.declared.fault.PathFault.TheVariants as faults
use Rattle.fc_path.proofs.Steps.{fails_bind}
use Rattle.fc_msg.specs.Bodies.{body_at, holding, number_at}
use Rattle.fc_msg.specs.Decoding.{Refuses, fault_from}
use Rattle.fc_msg.specs.Faults.{body_in, fault_in, fault_of, first_of, head_fault}
use Rattle.fc_msg.specs.Heads.{body_head_at, message_by, with_selects}
use Rattle.fc_msg.specs.Reading.{fields_in, message_in, unless_broken}
use Rattle.fc_msg.specs.declared.fault.Refusal.{Refusal}
use Rattle.fc_msg.specs.declared.heads.BodyHead.{BodyHead}
use Rattle.fc_msg.specs.declared.heads.BodyHead.TheVariants as head
use Rattle.fc_msg.specs.declared.message.MsgBody.{MsgBody}
use Rattle.fc_msg.specs.declared.message.MsgBody.TheVariants.{Setup, SetupResponse, Teardown, Heartbeat}
use Rattle.fc_msg.proofs.Reading.{body_refuses, fields_are, is_body_in}

-- a body is its head and then its LFBselects
one_moves : {X : Type 0} (r : Result X PathFault) (make : X → MsgBody) (head : X → BodyHead) → ((x : X) → with_selects (head x) ≡ Ok (make x))
    → (r >>= λ x. Ok (make x)) ≡ ((r >>= λ x. Ok (head x)) >>= with_selects)
one_moves (Ok x) make head same = sym (same x)
one_moves (Err e) make head same = refl

module _ (kind end : ℕ) (items : List TlvItem) (fault : Option WireFault) where
  abbrev nothing : Result (Unit {0}) PathFault
  nothing = shut trailing items fault

  abbrev number : ℕ → Result ℕ PathFault
  number of = single of number_at end items fault

  abbrev any_selects : ℕ → Result MsgBody PathFault
  any_selects kind = each_in (select_at kind) items fault >>= λ selects. Ok (Setup selects)

  abbrev some_selects : Result MsgBody PathFault
  some_selects = some_in (select_at kind) end items fault >>= λ selects. Ok (holding kind selects)

  by_type : (a b c d : Bool) → (kind == 1) ≡ d
      → cond a (nothing >>= λ _. Ok Heartbeat) (cond b (number 16 >>= λ n. Ok (SetupResponse n)) (cond c (number 17 >>= λ n. Ok (Teardown n)) (cond d (any_selects kind) some_selects)))
      ≡ (cond a (nothing >>= λ _. Ok head.Heartbeat) (cond b (number 16 >>= λ n. Ok (head.SetupResponse n)) (cond c (number 17 >>= λ n. Ok (head.Teardown n))
      (cond d (Ok (head.Setup (tiling items fault))) (Ok (head.Selects kind (tiling items fault) end))))) >>= with_selects)
  by_type true b c d is = one_moves nothing (λ _. Heartbeat) (λ _. head.Heartbeat) (λ _. refl)
  by_type false true c d is = one_moves (number 16) SetupResponse head.SetupResponse (λ _. refl)
  by_type false false true d is = one_moves (number 17) Teardown head.Teardown (λ _. refl)
  by_type false false false true is = ap any_selects (eqb-true kind 1 is)
  by_type false false false false is = refl

  pub body_is : body_at kind end items fault ≡ (body_head_at kind end items fault >>= with_selects)
  body_is = by_type (kind == 15) (kind == 17) (kind == 2) (kind == 1) refl

-- a message of which the head is lent
held_by : (r : Option Refusal) (b : Result MsgBody PathFault) (bytes : List ℕ) (h : Header) → r ≡ None → ((body : MsgBody) → fields_in bytes body ≡ record { source = h.source; dest = h.dest; corr = h.corr; flags = h.flags; body = body })
    → unless_broken r b bytes ≡ message_by h b
held_by (Some told) b bytes h p same = cc
held_by None (Ok body) bytes h p same = ap Some (same body)
held_by None (Err fault) bytes h p same = refl

module _ (bytes tail : List ℕ) (kind end : ℕ) (t : Tiling TlvItem) (k : kind ≡ slice_index bytes 1) (d : tail ≡ drop 24 bytes) (e : end ≡ length bytes) (i : t ≡ tlvs 24 tail) (broken : head_fault bytes ≡ None) where
  body_of_head : (b : BodyHead) → body_head_at kind end t.items t.fault ≡ Ok b → body_in bytes ≡ with_selects b
  body_of_head b is = sym (is_body_in bytes tail kind end t k d e i) ∙ body_is kind end t.items t.fault ∙ ap (λ r. r >>= with_selects) is

  pub message_lent : (h : Header) (b : BodyHead) → length bytes ≡ 4 * h.words → 6 ≤ h.words → IsHeader h (take 24 bytes) → body_head_at kind end t.items t.fault ≡ Ok b → message_in bytes ≡ message_by h (with_selects b)
  unfolding message_in
  message_lent h b size some header is =
      held_by (head_fault bytes) (body_in bytes) bytes h broken (λ body. fields_are h bytes body (omega arith) header) ∙ ap (message_by h) (body_of_head b is)

  pub fault_lent : (b : BodyHead) → body_head_at kind end t.items t.fault ≡ Ok b → fault_of bytes ≡ fault_in (with_selects b)
  unfolding fault_of
  fault_lent b is = ap (λ o. first_of o (fault_in (body_in bytes))) broken ∙ ap fault_in (body_of_head b is)

  pub body_head_refuses : (f : PathFault) → Fails f (body_head_at kind end t.items t.fault) → Refuses (fault_of bytes) (fault_from f)
  body_head_refuses f fails =
      body_refuses bytes tail kind end t f k d e i broken (subst (Fails f) (sym (body_is kind end t.items t.fault)) (fails_bind f (body_head_at kind end t.items t.fault) with_selects fails))

-- the fault of LFBselects is that of the message
refuses_in : (f : PathFault) (r : Result MsgBody PathFault) → Fails f r → Refuses (fault_in r) (fault_from f)
refuses_in (faults.Wire x) r h = ap fault_in h
refuses_in (faults.UnknownTlv x) r h = ap fault_in h
refuses_in (faults.CountPast x) r h = ap fault_in h
refuses_in (faults.KeyFlag x) r h = ap fault_in h
refuses_in (faults.TwoBodies x) r h = ap fault_in h
refuses_in (faults.Deep x) r h = ap fault_in h
refuses_in (faults.WrongBody x) r h = ap fault_in h
refuses_in (faults.Trailing x) r h = ap fault_in h
refuses_in faults.Memory r h = tt

pub selects_refuse : (bytes : List ℕ) (b : BodyHead) (f : PathFault) → fault_of bytes ≡ fault_in (with_selects b) → Fails f (with_selects b) → Refuses (fault_of bytes) (fault_from f)
selects_refuse bytes b f is fails = subst (λ o. Refuses o (fault_from f)) (sym is) (refuses_in f (with_selects b) fails)
