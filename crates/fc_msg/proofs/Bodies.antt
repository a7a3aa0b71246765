-- A body is read as it is spelled.
use Rattle.std.proofs.Common.{◌≡◌, ◌%◌, ◌==◌, ◌⊎◌, inl, inr, ℕ, true, List, [], length, Result, Ok, Err, Option, None, refl, sym, ap, subst, arith}
use Rattle.std.proofs.lemmas.Bool.Decides.{nat_tests}
use Rattle.fc_wire.specs.Bytes.{AreBytes}
use Rattle.fc_wire.specs.Tiling.{tiling}
use Rattle.fc_wire.specs.Tlvs.{TlvItem, tlvs}
use Rattle.fc_wire.specs.declared.header.WireFault.{WireFault}
use Rattle.fc_wire.proofs.ItemLaws.{tlvs_described, tlvs_read}
use Rattle.fc_path.specs.Reading.{each_in, select_at, single, some_in}
use Rattle.fc_base.specs.Answers.{◌>>=◌}
use Rattle.fc_path.specs.Stray.{shut, trailing}
use Rattle.fc_path.specs.declared.fault.PathFault.{PathFault}
use Rattle.fc_path.specs.declared.fault.PathFault.TheVariants as faults
use Rattle.fc_path.proofs.Complete.{by_tiling}
use Rattle.fc_path.proofs.Placed.{HasPlace, Placed, bind, broken, each_placed, either, read_ok, select_placed, shut_placed, single_placed, some_placed, trailing_placed}
use Rattle.fc_path.proofs.Sound.{Tiles, bind_ok, ok_same, shut_ok}
use Rattle.fc_msg.specs.Bodies.{body_at, holding, number_at}
use Rattle.fc_msg.specs.Faults.{is_type}
use Rattle.fc_msg.specs.Messages.{ProperMsgBody, SpellsBody, kind_of}
use Rattle.fc_msg.specs.declared.message.MsgBody.{MsgBody}
use Rattle.fc_msg.specs.declared.message.MsgBody.TheVariants.{Setup, SetupResponse, Teardown, Config, ConfigResponse, Query, QueryResponse, Event, Heartbeat}
use Rattle.fc_msg.proofs.Numbers.{number_is, number_small, only_number}
use Rattle.fc_msg.proofs.Selects.{each_is, each_proper, each_read, some_are, some_proper, some_selects_read}

-- the body of a type in bytes from a place on
abbrev pub body_of : ℕ → ℕ → ℕ → List ℕ → Result MsgBody PathFault
body_of kind end place bytes = body_at kind end (tlvs place bytes).items (tlvs place bytes).fault

nothing_read : (place : ℕ) (bytes : List ℕ) → bytes ≡ [] → shut trailing (tlvs place bytes).items (tlvs place bytes).fault ≡ Ok tt
nothing_read place bytes none = by_tiling (shut trailing) (tlvs place bytes) (tiling [] None) (Ok tt) (tlvs_read place bytes (tiling [] None) none) refl

made : {X : Type 0} (r : Result X PathFault) (x : X) (make : X → MsgBody) → r ≡ Ok x → (r >>= λ x. Ok (make x)) ≡ Ok (make x)
made r x make e = ap (λ q. q >>= λ x. Ok (make x)) e

pub body_read : (body : MsgBody) (end place : ℕ) (bytes : List ℕ) → SpellsBody body bytes → body_of (kind_of body) end place bytes ≡ Ok body
body_read (Setup ss) end place bytes h = made _ ss Setup (each_read 1 place ss bytes h)
body_read (SetupResponse n) end place bytes h = made _ n SetupResponse (only_number 16 n end place bytes h)
body_read (Teardown n) end place bytes h = made _ n Teardown (only_number 17 n end place bytes h)
body_read (Config ss) end place bytes h = made _ ss Config (some_selects_read 3 end place ss bytes h)
body_read (ConfigResponse ss) end place bytes h = made _ ss ConfigResponse (some_selects_read 19 end place ss bytes h)
body_read (Query ss) end place bytes h = made _ ss Query (some_selects_read 4 end place ss bytes h)
body_read (QueryResponse ss) end place bytes h = made _ ss QueryResponse (some_selects_read 20 end place ss bytes h)
body_read (Event ss) end place bytes h = made _ ss Event (some_selects_read 5 end place ss bytes h)
body_read Heartbeat end place bytes h = made _ tt (λ _. Heartbeat) (nothing_read place bytes h)

-- a body of a type
abbrev Has : ℕ → List ℕ → MsgBody → Type 0
Has kind bytes body = (kind_of body ≡ kind) × SpellsBody body bytes

types : (kind : ℕ) → is_type kind ≡ true → (kind ≡ 1) ⊎ ((kind ≡ 2) ⊎ ((kind ≡ 3) ⊎ ((kind ≡ 4) ⊎ ((kind ≡ 5) ⊎ ((kind ≡ 15) ⊎ ((kind ≡ 17) ⊎ ((kind ≡ 19) ⊎ (kind ≡ 20))))))))
types kind is = grind (arith, nat_tests)

module _ (end place : ℕ) (ts : List TlvItem) (fault : Option WireFault) (bytes : List ℕ) (body : MsgBody) (fine : AreBytes bytes) (are : Tiles place ts fault bytes) where
  setup_is : body_at 1 end ts fault ≡ Ok body → Has 1 bytes body
  setup_is e = let r = each_is 1 place Setup ts fault bytes body fine are e in subst (Has 1 bytes) r.1 (refl, r.2)

  teardown_is : body_at 2 end ts fault ≡ Ok body → Has 2 bytes body
  teardown_is e = let r = number_is 17 end place Teardown ts fault bytes body are e in subst (Has 2 bytes) r.1 (refl, r.2)

  config_is : body_at 3 end ts fault ≡ Ok body → Has 3 bytes body
  config_is e = let r = some_are 3 end place Config ts fault bytes body fine are e in subst (Has 3 bytes) r.1 (refl, r.2)

  query_is : body_at 4 end ts fault ≡ Ok body → Has 4 bytes body
  query_is e = let r = some_are 4 end place Query ts fault bytes body fine are e in subst (Has 4 bytes) r.1 (refl, r.2)

  event_is : body_at 5 end ts fault ≡ Ok body → Has 5 bytes body
  event_is e = let r = some_are 5 end place Event ts fault bytes body fine are e in subst (Has 5 bytes) r.1 (refl, r.2)

  heartbeat_is : body_at 15 end ts fault ≡ Ok body → Has 15 bytes body
  heartbeat_is e =
      let found : (x : Unit {0}) × (shut trailing ts fault ≡ Ok x) × (Ok Heartbeat ≡ Ok body) = bind_ok (shut trailing ts fault) (λ _. Ok Heartbeat) body e in
      subst (Has 15 bytes) (ok_same Heartbeat body found.2) (refl, shut_ok trailing ts fault place bytes are found.1)

  response_is : body_at 17 end ts fault ≡ Ok body → Has 17 bytes body
  response_is e = let r = number_is 16 end place SetupResponse ts fault bytes body are e in subst (Has 17 bytes) r.1 (refl, r.2)

  config_response_is : body_at 19 end ts fault ≡ Ok body → Has 19 bytes body
  config_response_is e = let r = some_are 19 end place ConfigResponse ts fault bytes body fine are e in subst (Has 19 bytes) r.1 (refl, r.2)

  query_response_is : body_at 20 end ts fault ≡ Ok body → Has 20 bytes body
  query_response_is e = let r = some_are 20 end place QueryResponse ts fault bytes body fine are e in subst (Has 20 bytes) r.1 (refl, r.2)

  typed : (kind k : ℕ) → kind ≡ k → (body_at k end ts fault ≡ Ok body → Has k bytes body) → body_at kind end ts fault ≡ Ok body → Has kind bytes body
  typed kind k e f h = subst (λ n. Has n bytes body) (sym e) (f (subst (λ n. body_at n end ts fault ≡ Ok body) e h))

  any_is : (kind : ℕ) → is_type kind ≡ true → body_at kind end ts fault ≡ Ok body → Has kind bytes body
  any_is kind is h =
      elim (types kind is) [
        | inl e ↦ typed kind 1 e setup_is h
        | inr (inl e) ↦ typed kind 2 e teardown_is h
        | inr (inr (inl e)) ↦ typed kind 3 e config_is h
        | inr (inr (inr (inl e))) ↦ typed kind 4 e query_is h
        | inr (inr (inr (inr (inl e)))) ↦ typed kind 5 e event_is h
        | inr (inr (inr (inr (inr (inl e))))) ↦ typed kind 15 e heartbeat_is h
        | inr (inr (inr (inr (inr (inr (inl e)))))) ↦ typed kind 17 e response_is h
        | inr (inr (inr (inr (inr (inr (inr (inl e))))))) ↦ typed kind 19 e config_response_is h
        | inr (inr (inr (inr (inr (inr (inr (inr e))))))) ↦ typed kind 20 e query_response_is h
      ]

pub body_is : (kind end place : ℕ) (bytes : List ℕ) (body : MsgBody) → AreBytes bytes → length bytes % 4 ≡ 0 → is_type kind ≡ true → body_of kind end place bytes ≡ Ok body → (kind_of body ≡ kind) × SpellsBody body bytes
body_is kind end place bytes body fine whole is e = any_is end place (tlvs place bytes).items (tlvs place bytes).fault bytes body fine (tlvs_described place bytes fine whole) kind is e

-- a body that is spelled is proper
pub body_proper : (body : MsgBody) (bytes : List ℕ) → AreBytes bytes → SpellsBody body bytes → ProperMsgBody body
body_proper (Setup ss) bytes fine h = each_proper 1 ss bytes h
body_proper (SetupResponse n) bytes fine h = number_small 16 n bytes fine h
body_proper (Teardown n) bytes fine h = number_small 17 n bytes fine h
body_proper (Config ss) bytes fine h = some_proper 3 ss bytes h
body_proper (ConfigResponse ss) bytes fine h = some_proper 19 ss bytes h
body_proper (Query ss) bytes fine h = some_proper 4 ss bytes h
body_proper (QueryResponse ss) bytes fine h = some_proper 20 ss bytes h
body_proper (Event ss) bytes fine h = some_proper 5 ss bytes h
body_proper Heartbeat bytes fine h = tt

-- reading a body never gives want of memory
number_placed : (t : TlvItem) → Placed (number_at t)
number_placed t = either (length t.body == 4) _ _ (read_ok _) (broken (faults.WrongBody t.place) tt)

made_placed : {X : Type 0} (r : Result X PathFault) (make : X → MsgBody) → Placed r → Placed (r >>= λ x. Ok (make x))
made_placed r make h = bind r (λ x. Ok (make x)) h (λ x. read_ok (make x))

body_placed : (kind end : ℕ) (ts : List TlvItem) (fault : Option WireFault) → Placed (body_at kind end ts fault)
body_placed kind end ts fault =
    either (kind == 15) _ _ (made_placed (shut trailing ts fault) (λ _. Heartbeat) (shut_placed trailing trailing_placed ts fault))
    (either (kind == 17) _ _ (made_placed (single 16 number_at end ts fault) SetupResponse (single_placed number_at number_placed 16 end ts fault))
    (either (kind == 2) _ _ (made_placed (single 17 number_at end ts fault) Teardown (single_placed number_at number_placed 17 end ts fault))
    (either (kind == 1) _ _ (made_placed (each_in (select_at kind) ts fault) Setup (each_placed (select_at kind) (select_placed kind) ts fault))
    (made_placed (some_in (select_at kind) end ts fault) (holding kind) (some_placed (select_at kind) (select_placed kind) end ts fault)))))

pub has_place : (kind end : ℕ) (ts : List TlvItem) (fault : Option WireFault) (f : PathFault) → body_at kind end ts fault ≡ Err f → HasPlace f
has_place kind end ts fault f e = (body_placed kind end ts fault).has f e
