-- A clean round of a network element, message by message.
use Rattle.std.specs.Prelude.{⊤}
use Rattle.std.proofs.Common.{[], ◌≡◌, ℕ, ◌==◌, Bool, true, false, List, ◌∷◌, ◌++◌, append-nil, Option, Some, None, refl, sym, ap, ap₂, ◌∙◌, subst, eqb-true, if◌then◌else◌}
use Rattle.std.specs.List.{AllByRecursion}
use Rattle.fc_abiding.specs.Abiding.{IsLike}
use Rattle.fc_agreement.specs.CleanRound.{is_notice as is_bare_notice}
use Rattle.fc_asks.specs.Requests.{request_of}
use Rattle.fc_asks.specs.declared.life.Life.{Life}
use Rattle.fc_element.specs.ElementState.{ElementState}
use Rattle.fc_rounds.proofs.Controllers as controls
use Rattle.fc_rounds.proofs.Steps.{it}
use Rattle.fc_jobs.specs.Sending.{spelled, spelled_to}
use Rattle.fc_msg.specs.declared.message.Message.{Message}
use Rattle.fc_numbering.specs.Numbering.{AreNumbered, SaysNumbers}
use Rattle.fc_performing.specs.declared.out.Out.{Out}
use Rattle.fc_protocol.specs.Messages as said
use Rattle.fc_protocol.specs.Messages.{Body, Sent, Stamp, correlator, sent}
use Rattle.fc_protocol.specs.WorldSteps.{murmurs}
use Rattle.fc_store.specs.Stores.{Pairwise}
use Rattle.fc_world.specs.Lookups.{controller_in, element_in, is_node, life_of, node_with, ruling_in, with_element}
use Rattle.fc_world.specs.Settings.{IsNetwork}
use Rattle.fc_world.specs.Worlds.{Ruling, Standing, WorldState, downward, message_of as message_in, upward}
use Rattle.fc_world.specs.WorldSteps.{calls, delivers, granted, running_in, with_ruling, with_running, with_spoke}
use Rattle.fc_world.specs.WorldSteps as world
use Rattle.fc_world.specs.declared.nodes.Node.{Node}
use Rattle.fc_world.specs.declared.sent.Parcel.{Parcel}
use Rattle.fc_world.specs.declared.sent.Parcel.TheVariants.{Upward, Downward}
use Rattle.fc_world.specs.declared.setting.Setting.{Setting}
use Rattle.fc_rounds.proofs.Delivering.{Seen}
use Rattle.fc_rounds.proofs.Turning.{AnswersFirst}
use Rattle.fc_rounds.specs.CleanRound.{tells_event}

-- ---- an element by its ID
pub element_here : (f : ℕ) (e new : ElementState) (ns : List Node) → element_in f ns ≡ Some e → element_in f (with_element f new ns) ≡ Some new
element_here f e new [] is = absurd cc
element_here f e new (n ∷ ns) is = by (is_node f n) refl is (λ more. element_here f e new ns more)
  where
    by : (b : Bool) → is_node f n ≡ b → (if b then Some n.element else element_in f ns) ≡ Some e → (element_in f ns ≡ Some e → element_in f (with_element f new ns) ≡ Some new)
        → element_in f (if b then node_with new n ∷ ns else n ∷ with_element f new ns) ≡ Some new
    by true at h more = ap (λ b. if b then Some new else element_in f ns) at
    by false at h more = ap (λ b. if b then Some n.element else element_in f (with_element f new ns)) at ∙ more h

pub element_there : (f q : ℕ) (new : ElementState) (ns : List Node) → (q == f) ≡ false → element_in q (with_element f new ns) ≡ element_in q ns
element_there f q new [] away = refl
element_there f q new (n ∷ ns) away = by (is_node f n) refl (element_there f q new ns away)
  where
    by : (b : Bool) → is_node f n ≡ b → element_in q (with_element f new ns) ≡ element_in q ns → element_in q (if b then node_with new n ∷ ns else n ∷ with_element f new ns) ≡ (if is_node q n then Some n.element else element_in q ns)
    by true at more =
        let other : is_node q n ≡ false = ap (λ i. q == i) (sym (eqb-true f n.id at)) ∙ away in
        ap (λ b. if b then Some new else element_in q ns) other ∙ sym (ap (λ b. if b then Some n.element else element_in q ns) other)
    by false at more = ap (λ (o : Option ElementState). if is_node q n then Some n.element else o) more

-- an element as the protocol sees it
pub like_at : (s : Setting) (is : IsNetwork s) (v : Seen s) (p : ℕ) (e : ElementState) → element_in p v.w.nodes ≡ Some e → IsLike e.transactions (v.a.at p)
like_at s is v p e at =
    let found = it s is v.w v.fs v.a v.follows p e at in
    subst (λ (x : ElementState). IsLike x.transactions (v.a.at p)) found.element (subst (λ i. IsLike found.node.element.transactions (v.a.at i)) found.id found.holds.like)

-- ---- a message as it is spelled, and whether it is a notice
abbrev pub IsNoticeAs : Parcel → Sent → Type 0
IsNoticeAs q t = tells_event (message_in q).body ≡ is_bare_notice t.message

no_event : (L : Life) (p corr : ℕ) (b : Body) → tells_event (request_of L p corr b).body ≡ false
no_event L p corr (said.Claim w) = refl
no_event L p corr (said.Sot x ps sc) = refl
no_event L p corr (said.Mot x i) = refl
no_event L p corr (said.Eot x) = refl
no_event L p corr (said.Trcomp x) = refl
no_event L p corr (said.Abt x) = refl
no_event L p corr (said.Floor f) = refl
no_event L p corr said.Malformed = refl
no_event L p corr said.Plain = refl
no_event L p corr said.Ask = refl
no_event L p corr (said.Ask_record x) = refl

pub notice_is : (t : said.Message) → is_bare_notice t ≡ true → t ≡ said.Other_up
notice_is said.Setup e = absurd cc
notice_is said.Beat e = absurd cc
notice_is (said.Request s b) e = absurd cc
notice_is (said.Reply s c) e = absurd cc
notice_is (said.Holds s e ns) i = absurd cc
notice_is (said.Tells s z e t) i = absurd cc
notice_is (said.Unread s e) i = absurd cc
notice_is said.Other_up e = refl
notice_is said.Other_down e = absurd cc

some_same : {A : Type 0} (a b : A) → Some a ≡ Some b → a ≡ b
some_same a b e = cc

module _ (k : ℕ) (L : Life) where
  -- what goes down is a request of this life
  abbrev pub SpelledAs : Parcel → Sent → Type 0
  SpelledAs (Upward f j m) t = ⊤
  SpelledAs (Downward j f m) t = (st : Stamp) (b : Body) → t.message ≡ said.Request st b → m ≡ request_of L f (correlator st) b

  abbrev pub Says : Parcel → Sent → Type 0
  Says q t = IsNoticeAs q t × SpelledAs q t

  one_says : (p j : ℕ) (x : said.Message) (ts : List Sent) → SaysNumbers x → Pairwise Says (downward k (spelled L ts)) ts → Pairwise Says (downward k (spelled_to L p x ++ spelled L ts)) (sent p j x ∷ ts)
  one_says p j (said.Request st b) ts fits more =
      ((no_event L p (correlator st) b, λ u d same. (let one : st ≡ u = cc in let two : b ≡ d = cc in ap₂ (λ (y : Stamp) (z : Body). request_of L p (correlator y) z) one two)), more)
  one_says p j said.Setup ts fits more = absurd fits
  one_says p j said.Beat ts fits more = absurd fits
  one_says p j (said.Reply st code) ts fits more = absurd fits
  one_says p j (said.Holds st e ns) ts fits more = absurd fits
  one_says p j (said.Tells st x e t) ts fits more = absurd fits
  one_says p j (said.Unread st e) ts fits more = absurd fits
  one_says p j said.Other_up ts fits more = absurd fits
  one_says p j said.Other_down ts fits more = absurd fits

  pub all_says : (ts : List Sent) → AreNumbered ts → Pairwise Says (downward k (spelled L ts)) ts
  all_says [] fits = tt
  all_says (t ∷ ts) fits = one_says t.element t.controller t.message ts fits.0 (all_says ts fits.1)

-- notices go with what the protocol does not know
notices_say : (k : ℕ) (L : Life) (p : ℕ) (outs : List Out) (ks : List ℕ) (R : Parcel → Sent → Type 0) → AllByRecursion (λ (o : Out). tells_event o.message.body ≡ true) outs → Pairwise R (upward p outs) (murmurs p ks) → Pairwise (Says k L) (upward p outs) (murmurs p ks)
notices_say k L p [] [] R tell pairs = tt
notices_say k L p [] (j ∷ ks) R tell pairs = absurd pairs
notices_say k L p (o ∷ outs) [] R tell pairs = absurd pairs
notices_say k L p (o ∷ outs) (j ∷ ks) R tell pairs = ((tell.0, tt), notices_say k L p outs ks R tell.1 pairs.1)

pub response_says : (k : ℕ) (L : Life) (p j : ℕ) (outs : List Out) (st : Stamp) (code : ℕ) (ks : List ℕ) (R : Parcel → Sent → Type 0) → AnswersFirst j outs → Pairwise R (upward p outs) (sent p j (said.Reply st code) ∷ murmurs p ks)
    → Pairwise (Says k L) (upward p outs) (sent p j (said.Reply st code) ∷ murmurs p ks)
response_says k L p j outs st code ks R first pairs =
    subst (λ (os : List Out). Pairwise (Says k L) (upward p os) (sent p j (said.Reply st code) ∷ murmurs p ks)) (sym first.are)
    ((first.plain, tt), notices_say k L p first.notices ks R first.tell (subst (λ (os : List Out). Pairwise R (upward p os) (sent p j (said.Reply st code) ∷ murmurs p ks)) first.are pairs).1)

-- ---- the lives of control elements, when one has heard something
pub ruling_same : (c : ℕ) (ss : List Standing) (old : Standing) (r : Option Ruling) → controller_in c ss ≡ Some old → ruling_in c (with_ruling c r ss) ≡ r
ruling_same c ss old r at =
    ap (λ o. ruling_in c (running_in o c r ss)) at ∙ ap life_of (controls.here c old (with_running r old) refl ss at)

ruling_else : (c j : ℕ) (ss : List Standing) (r : Option Ruling) → (c == j) ≡ false → ruling_in c (with_ruling j r ss) ≡ ruling_in c ss
ruling_else c j ss r away = by (controller_in j ss) refl
  where
    by : (o : Option Standing) → controller_in j ss ≡ o → ruling_in c (running_in o j r ss) ≡ ruling_in c ss
    by None at = refl
    by (Some old) at = ap life_of (controls.there j old (with_running r old) refl c away ss at)

-- a message that goes up leaves the elements, and the life of a control element is the same life
pub record Hears (k : ℕ) (w u : WorldState) (L : Life) : Type 0 where
  pub ruling : Ruling
  pub rules : ruling_in k u.controllers ≡ Some ruling
  pub life : ruling.life ≡ L
  pub nodes : u.nodes ≡ w.nodes
  pub new : List Parcel
  pub sent : u.sent ≡ w.sent ++ new

pub hears_up : (k place j f : ℕ) (m : Message) (w : WorldState) (r : Ruling) → ruling_in k w.controllers ≡ Some r → Hears k w (delivers place (Some (Upward f j m)) w) r.life
hears_up k place j f m w r rules = by (ruling_in j w.controllers) refl
  where
    spoke : Ruling → world.Spoke
    spoke q = world.hears j f m q

    stands : (q : Ruling) (o : Option Standing) → controller_in j w.controllers ≡ o → life_of o ≡ Some q → (old : Standing) × (controller_in j w.controllers ≡ Some old)
    stands q None at e = absurd cc
    stands q (Some old) at e = (old, at)

    here : (q : Ruling) → ruling_in j w.controllers ≡ Some q → (b : Bool) → (k == j) ≡ b → Hears k w (with_spoke j (spoke q) w) r.life
    here q at true same =
        let is : k ≡ j = eqb-true k j same in
        let (old, stood) = stands q (controller_in j w.controllers) refl at in
        let one : r ≡ q = some_same r q (sym rules ∙ ap (λ i. ruling_in i w.controllers) is ∙ at) in record {
          ruling = (spoke q).ruling;
          rules = ap (λ i. ruling_in i (with_ruling j (Some (spoke q).ruling) w.controllers)) is ∙ ruling_same j w.controllers old (Some (spoke q).ruling) stood;
          life = ap (λ (x : Ruling). x.life) (sym one);
          nodes = refl;
          new = downward j (spoke q).outs;
          sent = refl;
        }
    here q at false away = record {
      ruling = r;
      rules = ruling_else k j w.controllers (Some (spoke q).ruling) away ∙ rules;
      life = refl;
      nodes = refl;
      new = downward j (spoke q).outs;
      sent = refl;
    }

    by : (o : Option Ruling) → ruling_in j w.controllers ≡ o → Hears k w (calls place j (λ q. granted (world.hears j f m q)) o w) r.life
    by None at = record { ruling = r; rules = rules; life = refl; nodes = refl; new = []; sent = sym (append-nil w.sent) }
    by (Some q) at = here q at (k == j) refl
