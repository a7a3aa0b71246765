-- LFBselects, one after the other, are read as they are spelled.
use Rattle.std.proofs.Common.{◌≡◌, ◌≤◌, ℕ, List, length, Ok, Option, None, refl, ap, subst, arith, length-append}
use Rattle.std.specs.List.{AllByRecursion}
use Rattle.fc_wire.specs.Bytes.{AreBytes}
use Rattle.fc_wire.specs.Tiling.{tiling}
use Rattle.fc_wire.specs.Tlvs.{TlvItem, IsTlv, tlvs}
use Rattle.fc_wire.specs.declared.header.WireFault.{WireFault}
use Rattle.fc_wire.proofs.ItemLaws.{tlvs_read}
use Rattle.fc_path.specs.Grammar.{Each, IsSelect}
use Rattle.fc_path.specs.Proper.{ProperSelect}
use Rattle.fc_path.specs.Reading.{each_in, select_at, some_in}
use Rattle.fc_base.specs.Answers.{◌>>=◌}
use Rattle.fc_path.specs.declared.oper.Select.{Select}
use Rattle.fc_path.proofs.Complete.{Tile, by_tiling, each_tiled, item, some_read}
use Rattle.fc_path.proofs.GrammarProper.{all_of, proper_of}
use Rattle.fc_path.proofs.SelectLaws.{read_as}
use Rattle.fc_path.proofs.Sound.{Tiles, bind_ok, bytes_padded, each_spelled, ok_same, select_spelled, some_spelled}
use Rattle.fc_msg.specs.Messages.{AreSelects, ProperSelects}
use Rattle.fc_msg.specs.declared.message.MsgBody.{MsgBody}

select_tile : (kind : ℕ) (s : Select) (place : ℕ) (bytes : List ℕ) → IsSelect kind s bytes → Tile (select_at kind) s place bytes
select_tile kind s place bytes h = (4096, h.0, h.1, h.3, read_as kind place s bytes h)

cut_of : (kind : ℕ) (body padded bytes : List ℕ) → IsTlv kind body padded bytes → length body ≤ length padded
cut_of kind body padded bytes h = omega (arith, ap length h.value, length-append body h.padding)

select_is : (kind : ℕ) (t : TlvItem) (bytes : List ℕ) (s : Select) → IsTlv t.kind t.body t.padded bytes → AreBytes bytes → select_at kind t ≡ Ok s → IsSelect kind s bytes
select_is kind t bytes s h fine e =
    let of = select_spelled kind s t (bytes_padded t.kind t.body t.padded bytes h fine) h.whole (cut_of t.kind t.body t.padded bytes h) e in
    (t.body, t.padded, of.1, subst (λ n. IsTlv n t.body t.padded bytes) of.0 h, of.2)

-- what is spelled is read
pub each_read : (kind place : ℕ) (ss : List Select) (bytes : List ℕ) → Each (IsSelect kind) ss bytes → each_in (select_at kind) (tlvs place bytes).items (tlvs place bytes).fault ≡ Ok ss
each_read kind place ss bytes h =
    let t = each_tiled (IsSelect kind) (select_at kind) (select_tile kind) ss place bytes h in
    by_tiling (each_in (select_at kind)) (tlvs place bytes) (tiling t.0 None) (Ok ss) (tlvs_read place bytes (tiling t.0 None) t.1) t.2

pub some_selects_read : (kind end place : ℕ) (ss : List Select) (bytes : List ℕ) → AreSelects kind ss bytes → some_in (select_at kind) end (tlvs place bytes).items (tlvs place bytes).fault ≡ Ok ss
some_selects_read kind end place ss bytes h = some_read (IsSelect kind) (select_at kind) (select_tile kind) ss end place bytes h.0 h.1

-- what is read is spelled
pub each_is : (kind place : ℕ) (make : List Select → MsgBody) (ts : List TlvItem) (fault : Option WireFault) (bytes : List ℕ) (body : MsgBody) → AreBytes bytes → Tiles place ts fault bytes
    → (each_in (select_at kind) ts fault >>= λ ss. Ok (make ss)) ≡ Ok body → (ss : List Select) × (make ss ≡ body) × Each (IsSelect kind) ss bytes
each_is kind place make ts fault bytes body fine are e =
    let found : (ss : List Select) × (each_in (select_at kind) ts fault ≡ Ok ss) × (Ok (make ss) ≡ Ok body) = bind_ok (each_in (select_at kind) ts fault) (λ ss. Ok (make ss)) body e in
    (found.0, ok_same (make found.0) body found.2, each_spelled (IsSelect kind) (select_at kind) (select_is kind) ts fault place bytes found.0 fine are found.1)

pub some_are : (kind end place : ℕ) (make : List Select → MsgBody) (ts : List TlvItem) (fault : Option WireFault) (bytes : List ℕ) (body : MsgBody) → AreBytes bytes → Tiles place ts fault bytes
    → (some_in (select_at kind) end ts fault >>= λ ss. Ok (make ss)) ≡ Ok body → (ss : List Select) × (make ss ≡ body) × AreSelects kind ss bytes
some_are kind end place make ts fault bytes body fine are e =
    let found : (ss : List Select) × (some_in (select_at kind) end ts fault ≡ Ok ss) × (Ok (make ss) ≡ Ok body) = bind_ok (some_in (select_at kind) end ts fault) (λ ss. Ok (make ss)) body e in
    (found.0, ok_same (make found.0) body found.2, some_spelled (IsSelect kind) (select_at kind) (select_is kind) end ts fault place bytes found.0 fine are found.1)

-- what is spelled is proper
proper_one : (kind : ℕ) (s : Select) (bytes : List ℕ) → IsSelect kind s bytes → ProperSelect kind s
proper_one kind s bytes h = proper_of kind (item 4096 0 h.0 h.1) s (refl, h.2, h.4)

pub each_proper : (kind : ℕ) (ss : List Select) (bytes : List ℕ) → Each (IsSelect kind) ss bytes → AllByRecursion (ProperSelect kind) ss
each_proper kind ss bytes h = all_of (IsSelect kind) (ProperSelect kind) (proper_one kind) ss bytes h

pub some_proper : (kind : ℕ) (ss : List Select) (bytes : List ℕ) → AreSelects kind ss bytes → ProperSelects kind ss
some_proper kind ss bytes h = (h.0, each_proper kind ss bytes h.1)
