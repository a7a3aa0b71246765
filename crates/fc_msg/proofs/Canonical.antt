-- The canonical bytes of a proper message whose lengths fit spell it.
use Rattle.std.proofs.Common.{◌≡◌, ◌<◌, ◌+◌, ◌/◌, ◌%◌, ◌^◌, ◌&&◌, nat_lt, Bool, true, ℕ, List, ◌++◌, length, arith, refl, sym, ap, subst, ◌∙◌, lit<, length-append}
use Rattle.std.proofs.lemmas.List.{take_at, drop_at}
use Rattle.std.proofs.lemmas.Bool.Decides.{nat_tests}
use Rattle.std.specs.List.{AllByRecursion}
use Rattle.fc_wire.specs.Bytes.{u32_bytes}
use Rattle.fc_wire.specs.Header.{IsHeader, InRange, header_bytes}
use Rattle.fc_wire.specs.Writing.{padding, tlv_bytes}
use Rattle.fc_wire.proofs.Again.{again}
use Rattle.fc_wire.proofs.IlvSpelled.{four_back}
use Rattle.fc_wire.proofs.ItemLaws.{tlv_is, tlv_length}
use Rattle.fc_path.specs.Canon.{plain, select_written, wrapped}
use Rattle.fc_path.specs.Grammar.{Each, IsSelect}
use Rattle.fc_path.specs.Proper.{ProperSelect}
use Rattle.fc_path.specs.declared.oper.Select.{Select}
use Rattle.fc_path.proofs.InGrammar.{each_in, joined_whole, select_in}
use Rattle.fc_msg.specs.declared.message.Message.{Message}
use Rattle.fc_msg.specs.declared.message.MsgBody.{MsgBody}
use Rattle.fc_msg.specs.declared.message.MsgBody.TheVariants.{Setup, SetupResponse, Teardown, Config, ConfigResponse, Query, QueryResponse, Event, Heartbeat}
use Rattle.fc_msg.specs.Messages.{IsNumber, Spells, SpellsBody, IsProper, ProperMsgBody, ProperSelects, AreSelects, header_of, kind_of, body_written, selects_written, canonical, message_fits}

number_spelled : (kind n : ℕ) → IsNumber kind n (tlv_bytes kind (u32_bytes n))
number_spelled kind n = record {
  value = u32_bytes n;
  padded = u32_bytes n ++ padding 4;
  tlv = tlv_is kind (u32_bytes n) (lit< tt);
  four = refl;
  same = sym (four_back n);
}

selects_in : (kind : ℕ) (ss : List Select) → AllByRecursion (ProperSelect kind) ss → (selects_written ss).fits ≡ true → Each (IsSelect kind) ss (selects_written ss).text
selects_in kind ss proper fits = each_in select_written (ProperSelect kind) (IsSelect kind) (select_in kind) ss proper fits

some_in : (kind : ℕ) (ss : List Select) → ProperSelects kind ss → (selects_written ss).fits ≡ true → AreSelects kind ss (selects_written ss).text
some_in kind ss proper fits = (proper.0, selects_in kind ss proper.1 fits)

body_spelled : (body : MsgBody) → ProperMsgBody body → (body_written body).fits ≡ true → SpellsBody body (body_written body).text
body_spelled (Setup ss) p f = selects_in 1 ss p f
body_spelled (SetupResponse n) p f = number_spelled 16 n
body_spelled (Teardown n) p f = number_spelled 17 n
body_spelled (Config ss) p f = some_in 3 ss p f
body_spelled (ConfigResponse ss) p f = some_in 19 ss p f
body_spelled (Query ss) p f = some_in 4 ss p f
body_spelled (QueryResponse ss) p f = some_in 20 ss p f
body_spelled (Event ss) p f = some_in 5 ss p f
body_spelled Heartbeat p f = refl

-- a body is whole words
eight : (kind n : ℕ) → length (wrapped kind (plain (u32_bytes n))).text ≡ 8
unfolding tlv_bytes padding
eight kind n = refl

select_whole : (s : Select) → length (select_written s).text % 4 ≡ 0
select_whole s = tlv_length 4096 _

body_whole : (body : MsgBody) → length (body_written body).text % 4 ≡ 0
body_whole (Setup ss) = joined_whole select_written select_whole ss
body_whole (SetupResponse n) = ap (λ k. k % 4) (eight 16 n)
body_whole (Teardown n) = ap (λ k. k % 4) (eight 17 n)
body_whole (Config ss) = joined_whole select_written select_whole ss
body_whole (ConfigResponse ss) = joined_whole select_written select_whole ss
body_whole (Query ss) = joined_whole select_written select_whole ss
body_whole (QueryResponse ss) = joined_whole select_written select_whole ss
body_whole (Event ss) = joined_whole select_written select_whole ss
body_whole Heartbeat = refl

kind_small : (body : MsgBody) → kind_of body < 2 ^ 8
kind_small (Setup ss) = lit< tt
kind_small (SetupResponse n) = lit< tt
kind_small (Teardown n) = lit< tt
kind_small (Config ss) = lit< tt
kind_small (ConfigResponse ss) = lit< tt
kind_small (Query ss) = lit< tt
kind_small (QueryResponse ss) = lit< tt
kind_small (Event ss) = lit< tt
kind_small Heartbeat = lit< tt

fits_both : (n : ℕ) (f : Bool) → (nat_lt n 262117 && f) ≡ true → (n < 262117) × (f ≡ true)
fits_both n f e = (grind (arith, nat_tests), grind (arith, nat_tests))

spelled_by : (m : Message) (body : List ℕ) → IsProper m → SpellsBody m.body body → length body % 4 ≡ 0 → length body < 262117 → Spells m (header_bytes (header_of m (6 + length body / 4)) ++ body)
spelled_by m body proper is whole small =
    let words = 6 + length body / 4 in
    let head = header_bytes (header_of m words) in
    let ranges : InRange (header_of m words) = record {
      kind = kind_small m.body;
      words = omega arith;
      source = proper.source;
      dest = proper.dest;
      correlator = proper.correlator;
      flags = proper.flags;
    } in
    let header = again (header_of m words) ranges in
    record {
      words = words;
      header = subst (IsHeader (header_of m words)) (sym (take_at head body 24 header.size)) header;
      size = length-append head body ∙ ap (λ k. k + length body) header.size ∙ omega arith;
      body = subst (SpellsBody m.body) (sym (drop_at head body 24 header.size)) is;
    }

pub spelled : (m : Message) → IsProper m → message_fits m ≡ true → Spells m (canonical m)
unfolding canonical message_fits
spelled m proper fits =
    let w = body_written m.body in
    let both = fits_both (length w.text) w.fits fits in
    spelled_by m w.text proper (body_spelled m.body proper.body both.1) (body_whole m.body) both.0
