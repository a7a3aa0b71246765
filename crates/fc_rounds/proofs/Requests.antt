-- What a life spells goes down as the requests that it says.
use Rattle.std.proofs.Common.{◌≡◌, ◌<◌, ℕ, ◌==◌, ◌||◌, not, Bool, true, false, List, [], ◌∷◌, ◌++◌, length, Option, Some, None, refl, sym, ap, ◌∙◌, subst, eqb-true, if◌then◌else◌, ap₂, arith, ◌^◌}
use Rattle.std.specs.List.{AllByRecursion, list_all, list_any}
use Rattle.fc_asks.specs.Plans.{selects_of}
use Rattle.fc_asks.specs.Requests.{request_of}
use Rattle.fc_asks.specs.Tables.{found}
use Rattle.fc_asks.specs.declared.life.Life.{Life}
use Rattle.fc_hearing.specs.Hearing.{is_shown}
use Rattle.fc_heeding.proofs.Asking.{asks_what_was_said}
use Rattle.fc_heeding.specs.Heeding.{AsksFor, CanSay, CountsAs}
use Rattle.fc_heeding.specs.Heeding as heeding
use Rattle.fc_jobs.specs.Sending.{spelled, spelled_to}
use Rattle.fc_msg.specs.MessageTypes as types
use Rattle.fc_msg.specs.Messages.{ProperMsgBody, ProperSelects}
use Rattle.fc_msg.specs.declared.message.Message.{Message}
use Rattle.fc_msg.specs.declared.message.MsgBody.{MsgBody}
use Rattle.fc_msg.specs.declared.message.MsgBody.TheVariants as body
use Rattle.fc_numbering.specs.Numbering.{AreNumbered, IsNumbered, IsStamped, SaysNumbers}
use Rattle.fc_path.specs.declared.oper.Oper.{Oper}
use Rattle.fc_path.specs.declared.oper.Oper.TheVariants as oper
use Rattle.fc_path.specs.declared.oper.Select.{Select}
use Rattle.fc_plans.specs.Changes.{all_change, change_fault, changes, is_floor, is_short, no_name}
use Rattle.fc_plans.specs.Mastership.{behind}
use Rattle.fc_plans.specs.declared.fault.ChangeFault.TheVariants as fault
use Rattle.fc_protocol.proofs.Halves.{count_again, life_again}
use Rattle.fc_protocol.specs.Messages as said
use Rattle.fc_protocol.specs.Messages.{Body, Claim, Sot, Mot, Eot, Trcomp, Abt, Floor, Malformed, Plain, Ask, Ask_record, Request, Sent, Stamp, correlator, is_claim, is_query, sent, stamp}
use Rattle.fc_store.specs.Stores.{Pairwise}
use Rattle.fc_wellformed.specs.WellFormed.{AreWellFormed, IsChange, IsWellFormed, KeepsChanges}
use Rattle.fc_world.specs.Worlds.{downward}
use Rattle.fc_world.specs.declared.setting.Setting.{Setting}
use Rattle.fc_rounds.specs.Following.{AsksConfig, AsksSo, IsRequest, IsSent, NamesTxn}
use Rattle.fc_rounds.specs.Networks.{ce_of}
use Rattle.fc_rounds.proofs.Speaking.{AreOf}
use Rattle.fc_protocol.proofs.Puts.{both_first}

-- ---- a correlator comes back in its halves
pub stamp_again : (st : Stamp) → st.count < 2 ^ 32 → stamp (correlator st) ≡ st
stamp_again st fits =
    ap (λ (n : ℕ). record { life = n; count = (stamp (correlator st)).count }) (life_again st fits) ∙ ap (λ (n : ℕ). record { life = st.life; count = n }) (count_again st fits)

-- ---- the header
module _ (life : Life) (p corr : ℕ) where
  source_is : (b : Body) → (request_of life p corr b).source ≡ life.ce
  source_is (Claim w) = refl
  source_is (Sot x ps sc) = refl
  source_is (Mot x i) = refl
  source_is (Eot x) = refl
  source_is (Trcomp x) = refl
  source_is (Abt x) = refl
  source_is (Floor f) = refl
  source_is Malformed = refl
  source_is Plain = refl
  source_is Ask = refl
  source_is (Ask_record x) = refl

  dest_is : (b : Body) → (request_of life p corr b).dest ≡ p
  dest_is (Claim w) = refl
  dest_is (Sot x ps sc) = refl
  dest_is (Mot x i) = refl
  dest_is (Eot x) = refl
  dest_is (Trcomp x) = refl
  dest_is (Abt x) = refl
  dest_is (Floor f) = refl
  dest_is Malformed = refl
  dest_is Plain = refl
  dest_is Ask = refl
  dest_is (Ask_record x) = refl

  corr_is : (b : Body) → (request_of life p corr b).corr ≡ corr
  corr_is (Claim w) = refl
  corr_is (Sot x ps sc) = refl
  corr_is (Mot x i) = refl
  corr_is (Eot x) = refl
  corr_is (Trcomp x) = refl
  corr_is (Abt x) = refl
  corr_is (Floor f) = refl
  corr_is Malformed = refl
  corr_is Plain = refl
  corr_is Ask = refl
  corr_is (Ask_record x) = refl

  mode_is : (b : Body) → is_query b ≡ false → (request_of life p corr b).flags.em ≡ 1
  mode_is (Claim w) e = refl
  mode_is (Sot x ps sc) e = refl
  mode_is (Mot x i) e = refl
  mode_is (Eot x) e = refl
  mode_is (Trcomp x) e = refl
  mode_is (Abt x) e = refl
  mode_is (Floor f) e = refl
  mode_is Malformed e = refl
  mode_is Plain e = refl
  mode_is Ask e = absurd cc
  mode_is (Ask_record x) e = absurd cc

-- ---- a change shows a code
shown_oper : (o : Oper) → changes o ≡ true → is_shown o ≡ true
shown_oper (oper.Paths kind paths) e = refl
shown_oper oper.Commit e = absurd cc
shown_oper oper.Trcomp e = absurd cc
shown_oper (oper.CommitResponse code) e = absurd cc

or_left : (a b : Bool) → a ≡ true → (a || b) ≡ true
or_left true b h = refl
or_left false b h = absurd cc

shown_opers : (os : List Oper) → 0 < length os → list_all changes os ≡ true → list_any is_shown os ≡ true
shown_opers [] some all = absurd (omega (arith, some))
shown_opers (o ∷ os) some all = or_left (is_shown o) (list_any is_shown os) (shown_oper o (both_first (changes o) (list_all changes os) all))

abbrev all_changing : Select → Bool
all_changing s = list_all changes s.opers

abbrev shows : Select → Bool
shows s = list_any is_shown s.opers

no_fault : (b c d : Bool) → (if not b || c then Some fault.Operation else (if d then None else Some fault.TooLong)) ≡ None → b ≡ true
no_fault true c d h = refl
no_fault false c d h = absurd cc

pub shown_change : (selects : List Select) → ProperSelects types.config selects → change_fault selects ≡ None → list_any shows selects ≡ true
shown_change [] proper none = absurd cc
shown_change (s ∷ ss) proper none =
    or_left (shows s) (list_any shows ss)
    (shown_opers s.opers proper.1.0.1 (both_first (all_changing s) (list_all all_changing ss) (no_fault (all_change (s ∷ ss)) (is_floor (s ∷ ss)) (is_short (behind no_name (s ∷ ss))) none)))

-- whether a Config shows a code
abbrev body_shows : MsgBody → Bool
body_shows (body.Setup selects) = false
body_shows (body.SetupResponse result) = false
body_shows (body.Teardown reason) = false
body_shows (body.Config selects) = list_any shows selects
body_shows (body.ConfigResponse selects) = false
body_shows (body.Query selects) = false
body_shows (body.QueryResponse selects) = false
body_shows (body.Event selects) = false
body_shows body.Heartbeat = false

-- ---- the plain change of a life
found_if : (P : List Select → Type 0) (b : Bool) (y x : List Select) (o : Option (List Select)) → P y → (o ≡ Some x → P x) → (if b then Some y else o) ≡ Some x → P x
found_if P true y x o h more e = let same : y ≡ x = cc in subst P same h
found_if P false y x o h more e = more e

found_all : (P : List Select → Type 0) (p : ℕ) (es : List (ℕ × List Select)) (x : List Select) → AllByRecursion (λ (e : ℕ × List Select). P e.1) es → found p es ≡ Some x → P x
found_all P p [] x h e = absurd cc
found_all P p (y ∷ es) x h e = found_if P (p == y.0) y.1 x (found p es) h.0 (λ later. found_all P p es x h.1 later) e

heeded_change : (selects : List Select) → IsChange selects → heeding.IsChange selects
heeded_change [] change = tt
heeded_change (s ∷ ss) change = change.0

plain_by : (life : Life) (p : ℕ) (o : Option (List Select)) → KeepsChanges life → found p life.plains ≡ o → heeding.IsChange (selects_of o)
plain_by life p None keeps is = tt
plain_by life p (Some selects) keeps is = heeded_change selects (found_all IsChange p life.plains selects keeps.plains is)

shown_by : (life : Life) (p : ℕ) (o : Option (List Select)) → KeepsChanges life → found p life.plains ≡ o → ProperSelects types.config (selects_of o) → list_any shows (selects_of o) ≡ true
shown_by life p None keeps is proper = absurd (omega (arith, proper.0))
shown_by life p (Some selects) keeps is proper = shown_change selects proper (found_all IsChange p life.plains selects keeps.plains is).0

-- ---- one request
module _ (life : Life) (p : ℕ) (keeps : KeepsChanges life) where
  can_say : (b : Body) → is_query b ≡ false → IsNumbered b → CanSay (selects_of (found p life.plains)) b
  can_say (Claim w) e fits = fits
  can_say (Sot x ps sc) e fits = (fits.0.0, fits.1)
  can_say (Mot x i) e fits = fits.0
  can_say (Eot x) e fits = fits.0
  can_say (Trcomp x) e fits = fits.0
  can_say (Abt x) e fits = fits.0
  can_say (Floor f) e fits = fits.0
  can_say Malformed e fits = absurd fits
  can_say Plain e fits = plain_by life p (found p life.plains) keeps refl
  can_say Ask e fits = absurd cc
  can_say (Ask_record x) e fits = absurd cc

  shows_code : (corr : ℕ) (b : Body) → is_query b ≡ false → IsNumbered b → IsWellFormed (request_of life p corr b) → body_shows (request_of life p corr b).body ≡ true
  shows_code corr (Claim w) e fits good = refl
  shows_code corr (Sot x ps sc) e fits good = refl
  shows_code corr (Mot x i) e fits good = refl
  shows_code corr (Eot x) e fits good = refl
  shows_code corr (Trcomp x) e fits good = refl
  shows_code corr (Abt x) e fits good = refl
  shows_code corr (Floor f) e fits good = refl
  shows_code corr Malformed e fits good = absurd fits
  shows_code corr Plain e fits good = shown_by life p (found p life.plains) keeps refl good.body
  shows_code corr Ask e fits good = absurd cc
  shows_code corr (Ask_record x) e fits good = absurd cc

counts : (st : Stamp) (b : Body) → (st.count == 0) ≡ is_claim b → CountsAs st.count b
counts st (Claim w) is = eqb-true st.count 0 is
counts st (Sot x ps sc) is = tt
counts st (Mot x i) is = tt
counts st (Eot x) is = tt
counts st (Trcomp x) is = tt
counts st (Abt x) is = tt
counts st (Floor f) is = tt
counts st Malformed is = tt
counts st Plain is = λ none. let same : (st.count == 0) ≡ true = ap (λ n. n == 0) none in absurd cc
counts st Ask is = tt
counts st (Ask_record x) is = tt

named : (b : Body) → IsNumbered b → NamesTxn b
named (Claim w) fits = tt
named (Sot x ps sc) fits = tt
named (Mot x i) fits = tt
named (Eot x) fits = tt
named (Trcomp x) fits = tt
named (Abt x) fits = tt
named (Floor f) fits = tt
named Malformed fits = tt
named Plain fits = tt
named Ask fits = tt
named (Ask_record x) fits = record { name = fits.1; number = fits.0.1 }

module _ (life : Life) (p : ℕ) (keeps : KeepsChanges life) (st : Stamp) (b : Body) (stamped : IsStamped st b) (fits : IsNumbered b) (good : IsWellFormed (request_of life p (correlator st) b)) where
  abbrev m : Message
  m = request_of life p (correlator st) b

  asks_config : is_query b ≡ false → AsksConfig m st b
  asks_config e =
      let again = stamp_again st stamped.count in
      let asks : AsksFor m st b = subst (λ (u : Stamp). AsksFor m u b) again (asks_what_was_said life p (correlator st) b e (can_say life p keeps b e fits) (subst (λ (u : Stamp). CountsAs u.count b) (sym again) (counts st b stamped.claims))) in record {
        asks = asks;
        answerable = record {
          proper = subst ProperMsgBody asks.config good.body;
          shown = subst (λ (d : MsgBody). body_shows d ≡ true) asks.config (shows_code life p keeps (correlator st) b e fits good);
        };
        mode = mode_is life p (correlator st) b e;
      }

  asks_so : (q : Bool) → is_query b ≡ q → AsksSo q m st b
  asks_so false e = asks_config e
  asks_so true e = (life, ap₂ (λ (q c : ℕ). request_of life q c b) (sym (dest_is life p (correlator st) b)) (sym (corr_is life p (correlator st) b)))

  pub request_is : (s : Setting) (k : ℕ) → life.ce ≡ ce_of s k → IsRequest s k p m st b
  request_is s k ce = record {
    source = source_is life p (correlator st) b ∙ ce;
    dest = dest_is life p (correlator st) b;
    stamped = ap stamp (corr_is life p (correlator st) b) ∙ stamp_again st stamped.count;
    asks = asks_so (is_query b) refl;
    named = named b fits;
  }

-- ---- all that a life says
module _ (s : Setting) (k : ℕ) (life : Life) (ce : life.ce ≡ ce_of s k) (keeps : KeepsChanges life) where
  one_sent : (p j : ℕ) (x : said.Message) (ts : List Sent) → j ≡ k → SaysNumbers x → AreWellFormed (spelled_to life p x ++ spelled life ts) → (AreWellFormed (spelled life ts) → Pairwise (IsSent s) (downward k (spelled life ts)) ts)
      → Pairwise (IsSent s) (downward k (spelled_to life p x ++ spelled life ts)) (sent p j x ∷ ts)
  one_sent p j (Request st b) ts of fits good more = ((refl, of, request_is life p keeps st b fits.0 fits.1 good.0 s k ce), more good.1)
  one_sent p j said.Setup ts of fits good more = absurd fits
  one_sent p j said.Beat ts of fits good more = absurd fits
  one_sent p j (said.Reply st code) ts of fits good more = absurd fits
  one_sent p j (said.Holds st e ns) ts of fits good more = absurd fits
  one_sent p j (said.Tells st x e t) ts of fits good more = absurd fits
  one_sent p j (said.Unread st e) ts of fits good more = absurd fits
  one_sent p j said.Other_up ts of fits good more = absurd fits
  one_sent p j said.Other_down ts of fits good more = absurd fits

  pub spelled_sent : (ts : List Sent) → AreOf k ts → AreNumbered ts → AreWellFormed (spelled life ts) → Pairwise (IsSent s) (downward k (spelled life ts)) ts
  spelled_sent [] of fits good = tt
  spelled_sent (t ∷ ts) of fits good = one_sent t.element t.controller t.message ts of.0 fits.0 good (λ rest. spelled_sent ts of.1 fits.1 rest)
