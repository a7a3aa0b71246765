-- Each Config of a life is read as what is said in it.
use Rattle.std.proofs.Common.{◌≡◌, ◌≢◌, ℕ, ◌==◌, ◌^◌, ◌<◌, Bool, true, false, if◌then◌else◌, List, [], ◌∷◌, ◌++◌, Option, Some, None, option_and_then, refl, ap, ◌∙◌, arith}
use Rattle.fc_asks.specs.Plans.{change_at, selects_of}
use Rattle.fc_asks.specs.Requests.{opening_bytes, request_of}
use Rattle.fc_asks.specs.Tables.{found}
use Rattle.fc_asks.specs.declared.life.Life.{Life}
use Rattle.fc_base.specs.Ids.{Txn}
use Rattle.fc_lfbs.specs.Kinds.{opening_type, subject_type}
use Rattle.fc_path.specs.declared.oper.Oper.{Oper}
use Rattle.fc_path.specs.declared.oper.Oper.TheVariants as oper
use Rattle.fc_path.specs.declared.oper.Select.{Select}
use Rattle.fc_phases.specs.Asking.{body_of, claim_at, claim_or, claim_word, floor_bytes, floor_in, floor_or_plain, opening_at, plain_asked, started, subject_at, with_subject, word_bytes}
use Rattle.fc_phases.specs.Shapes.{first_full}
use Rattle.fc_phases.specs.Values.{subject}
use Rattle.fc_phases.specs.declared.values.Opening.{Opening}
use Rattle.fc_phases.specs.declared.values.Subject.{Subject}
use Rattle.fc_plans.specs.Components as components
use Rattle.fc_plans.specs.Mastership.{of_transaction, on_mastership, sets, subject_bytes}
use Rattle.fc_protocol.specs.Messages.{Body, Claim, Sot, Mot, Eot, Trcomp, Abt, Floor, Malformed, Plain, Ask, Ask_record, is_query, stamp}
use Rattle.fc_protocol.specs.Scopes.{Scope}
use Rattle.fc_wire.specs.Bytes.{u32_at, u32_bytes}
use Rattle.fc_numbering.specs.Numbering.{AreWords, FitOpening, IsWord}
use Rattle.fc_heeding.specs.Heeding.{AsksFor, CanSay, CountsAs, IsChange, IsSentBy}
use Rattle.fc_heeding.proofs.Shaped.{first_is, no_floor, only_is}
use Rattle.fc_heeding.proofs.Spelled.{opening_is_read, subject_is_read}
use Rattle.fc_querying.proofs.Values.{number_again}

-- ---- claims

abbrev claims : ℕ → List Select
claims w = on_mastership (sets components.epoch (u32_bytes w) ∷ []) ∷ []

claim_is : (w : ℕ) → IsWord w → claim_word (claims w) ≡ Some w
claim_is w h = ap (option_and_then word_bytes) (only_is components.epoch (u32_bytes w)) ∙ ap Some (number_again w h)

claim_read : (count w : ℕ) → IsWord w → count ≡ 0 → body_of count (plain_asked (claims w)) ≡ Claim w
claim_read count w h e = ap (λ (o : Option ℕ). body_of count (claim_or o (claims w))) (claim_is w h) ∙ ap (λ (n : ℕ). claim_at n w) e

-- ---- floors

front : (a b : ℕ) → IsWord a → u32_at (u32_bytes a ++ u32_bytes b) 0 ≡ a
front a b h = omega (arith, h)

back : (a b : ℕ) → IsWord b → u32_at (u32_bytes a ++ u32_bytes b) 4 ≡ b
back a b h = omega (arith, h)

abbrev floors : Txn → List Select
floors f = on_mastership (sets components.floor (subject_bytes f) ∷ []) ∷ []

floor_is : (f : Txn) → AreWords f → floor_in (floors f) ≡ Some (subject f.epoch f.number)
floor_is f h =
    ap (option_and_then floor_bytes) (only_is components.floor (subject_bytes f))
    ∙ (λ i. Some (subject (front f.epoch f.number h.0 i) (back f.epoch f.number h.1 i)))

floor_read : (count : ℕ) (f : Txn) → AreWords f → body_of count (plain_asked (floors f)) ≡ Floor f
floor_read count f h = ap (λ (o : Option Subject). body_of count (floor_or_plain o)) (floor_is f h)

-- ---- plain changes

not_zero : (n : ℕ) → n ≢ 0 → (n == 0) ≡ false
not_zero n h = grind (arith, h)

plain_by : (count : ℕ) (o : Option ℕ) (selects : List Select) → count ≢ 0 → floor_in selects ≡ None → body_of count (claim_or o selects) ≡ Plain
plain_by count None selects h e = ap (λ (f : Option Subject). body_of count (floor_or_plain f)) e
plain_by count (Some w) selects h e = ap (λ (b : Bool). if b then Claim w else Plain) (not_zero count h)

plain_read : (count : ℕ) (selects : List Select) → count ≢ 0 → IsChange selects → body_of count (plain_asked selects) ≡ Plain
plain_read count selects h change = plain_by count (claim_word selects) selects h (no_floor selects change)

-- ---- the phases of a transaction

opening_read : (count : ℕ) (x : Txn) (ps : List ℕ) (sc : Scope) → AreWords x → FitOpening ps sc
    → body_of count (started (opening_at opening_type (first_full components.opening (on_mastership (sets components.opening (opening_bytes x ps sc) ∷ []) ∷ [])))) ≡ Sot x ps sc
opening_read count x ps sc h fit =
    ap (λ (o : Option (List ℕ)). body_of count (started (opening_at opening_type o))) (first_is components.opening (opening_bytes x ps sc) [] [])
    ∙ ap (λ (o : Option Opening). body_of count (started o)) (opening_is_read x ps sc h fit)

-- what names the transaction stands first
named : (x : Txn) (more : List Oper) (rest : List Select) → AreWords x
    → subject_at subject_type (first_full components.subject (on_mastership (sets components.subject (subject_bytes x) ∷ more) ∷ rest)) ≡ Some (subject x.epoch x.number)
named x more rest h = ap (subject_at subject_type) (first_is components.subject (subject_bytes x) more rest) ∙ subject_is_read x h

-- ---- each of them

pub asks_what_was_said : (life : Life) (p corr : ℕ) (b : Body) → is_query b ≡ false → CanSay (selects_of (found p life.plains)) b → CountsAs (stamp corr).count b → AsksFor (request_of life p corr b) (stamp corr) b
asks_what_was_said life p corr (Claim w) q h e = record { selects = claims w; config = refl; reads = claim_read (stamp corr).count w h e }
asks_what_was_said life p corr (Sot x ps sc) q h e = record {
  selects = on_mastership (sets components.opening (opening_bytes x ps sc) ∷ []) ∷ [];
  config = refl;
  reads = opening_read (stamp corr).count x ps sc h.0 h.1;
}
asks_what_was_said life p corr (Mot x i) q h e =
    let changes = change_at life.plans x p i in record {
      selects = of_transaction x changes;
      config = refl;
      reads = ap (λ (o : Option Subject). body_of (stamp corr).count (with_subject 1 o (of_transaction x changes))) (named x [] changes h);
    }
asks_what_was_said life p corr (Eot x) q h e =
    let selects : List Select = on_mastership (sets components.subject (subject_bytes x) ∷ oper.Commit ∷ []) ∷ [] in record {
      selects = selects;
      config = refl;
      reads = ap (λ (o : Option Subject). body_of (stamp corr).count (with_subject 2 o selects)) (named x (oper.Commit ∷ []) [] h);
    }
asks_what_was_said life p corr (Trcomp x) q h e =
    let selects : List Select = on_mastership (sets components.subject (subject_bytes x) ∷ oper.Trcomp ∷ []) ∷ [] in record {
      selects = selects;
      config = refl;
      reads = ap (λ (o : Option Subject). body_of (stamp corr).count (with_subject 2 o selects)) (named x (oper.Trcomp ∷ []) [] h);
    }
asks_what_was_said life p corr (Abt x) q h e =
    let selects : List Select = on_mastership (sets components.subject (subject_bytes x) ∷ []) ∷ [] in record {
      selects = selects;
      config = refl;
      reads = ap (λ (o : Option Subject). body_of (stamp corr).count (with_subject 3 o selects)) (named x [] [] h);
    }
asks_what_was_said life p corr (Floor f) q h e = record { selects = floors f; config = refl; reads = floor_read (stamp corr).count f h }
asks_what_was_said life p corr Malformed q h e = absurd h
asks_what_was_said life p corr Plain q h e = record { selects = selects_of (found p life.plains); config = refl; reads = plain_read (stamp corr).count (selects_of (found p life.plains)) e h }
asks_what_was_said life p corr Ask q h e = absurd cc
asks_what_was_said life p corr (Ask_record x) q h e = absurd cc

pub is_sent : (life : Life) (p corr : ℕ) (b : Body) → is_query b ≡ false → IsSentBy (request_of life p corr b) life.ce p corr
is_sent life p corr (Claim w) q = record { source = refl; dest = refl; correlator = refl; mode = refl }
is_sent life p corr (Sot x ps sc) q = record { source = refl; dest = refl; correlator = refl; mode = refl }
is_sent life p corr (Mot x i) q = record { source = refl; dest = refl; correlator = refl; mode = refl }
is_sent life p corr (Eot x) q = record { source = refl; dest = refl; correlator = refl; mode = refl }
is_sent life p corr (Trcomp x) q = record { source = refl; dest = refl; correlator = refl; mode = refl }
is_sent life p corr (Abt x) q = record { source = refl; dest = refl; correlator = refl; mode = refl }
is_sent life p corr (Floor f) q = record { source = refl; dest = refl; correlator = refl; mode = refl }
is_sent life p corr Malformed q = record { source = refl; dest = refl; correlator = refl; mode = refl }
is_sent life p corr Plain q = record { source = refl; dest = refl; correlator = refl; mode = refl }
is_sent life p corr Ask q = absurd cc
is_sent life p corr (Ask_record x) q = absurd cc
