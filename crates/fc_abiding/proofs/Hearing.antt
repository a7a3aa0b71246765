-- An element over every list of Configs goes as one of the protocol.
use Rattle.std.proofs.Common.{◌≡◌, ℕ, ◌<◌, ◌==◌, ◌%◌, ◌&&◌, nat_lt, Bool, true, false, cond, List, [], ◌∷◌, ◌++◌, Option, Some, None, ⊎_elim, refl, sym, ap, ◌∙◌, subst, arith, eqb-true}
use Rattle.fc_exec.specs.declared.operations.Operation.{Operation}
use Rattle.fc_machine.specs.Trace.{Fact, Of_protocol, Added_at, Plain_at, bare_facts}
use Rattle.fc_msg.specs.declared.message.Message.{Message}
use Rattle.fc_path.specs.declared.oper.Select.{Select}
use Rattle.fc_phases.specs.Asking.{body_of}
use Rattle.fc_phases.specs.declared.asked.Asked.{Asked}
use Rattle.fc_protocol.proofs.Basics.{both, cond_false}
use Rattle.fc_protocol.proofs.Puts.{both_first, both_second}
use Rattle.fc_protocol.specs.ElementMachine.{Circumstance, ElementState, Heard, by_body, by_verdict, configured, hears, new_element, only_says, reply}
use Rattle.fc_protocol.specs.Fence.{claims, judge}
use Rattle.fc_protocol.specs.Messages.{Stamp, Body, Claim, Sot, Mot, Eot, Trcomp, Abt, Floor, Malformed, Plain, Ask, Ask_record, claim_of, is_epoch, stamp}
use Rattle.fc_protocol.specs.OneElement.{Arrival, Owned, hears_all}
use Rattle.fc_protocol.specs.Trace as trace
use Rattle.fc_protocol.specs.declared.verdict.Verdict.{Verdict}
use Rattle.fc_protocol.specs.declared.verdict.Verdict.TheVariants.{Claim as Claims, Unclaimed, Stale, Again, Gap, Next}
use Rattle.fc_store.specs.Stores.{Stored}
use Rattle.fc_transactions.specs.Order as order
use Rattle.fc_transactions.specs.Order.{Step, asked_of, claim_in, judged}
use Rattle.fc_transactions.specs.State.{TransactionState, opened}
use Rattle.fc_abiding.specs.Abiding.{Abides, IsLike, IsNamed, circumstance, seen}
use Rattle.fc_abiding.specs.Runs.{Came, IsHeard, Life, life_from, life_of}
use Rattle.fc_abiding.proofs.Following.{abides, stale_facts, stale_heard, stale_state}
use Rattle.fc_abiding.proofs.Naming.{named_stay, new_named}

-- ---- the kept response plays no part in what else an element becomes
abbrev pub unkept : ElementState → ElementState
unkept el = record { epoch = el.epoch; master = el.master; sequence = el.sequence; kept = None; records = el.records; floor = el.floor; ce = el.ce; last_ce = el.last_ce }

pub record Alike (h g : Heard) : Type 0 where
  pub element : unkept h.element ≡ unkept g.element
  pub facts : h.facts ≡ g.facts

module _ (p : ℕ) (el : ElementState) (k : ℕ) (c : Circumstance) (m : Stamp) where
  verdict_alike : (b : Body) (v : Verdict) → Alike (by_verdict p (unkept el) k c m b v) (by_verdict p el k c m b v)
  verdict_alike b (Claims e) = record { element = refl; facts = refl }
  verdict_alike b Unclaimed = record { element = refl; facts = refl }
  verdict_alike b Stale = record { element = refl; facts = refl }
  verdict_alike b Again = record { element = refl; facts = refl }
  verdict_alike b Gap = record { element = refl; facts = refl }
  verdict_alike b Next = record { element = refl; facts = refl }

  config_by : (b : Body) (fits : Bool) (h g : Heard) → Alike h g → Alike (cond fits h (only_says (unkept el) (reply c.quiet m c.misfit))) (cond fits g (only_says el (reply c.quiet m c.misfit)))
  config_by b true h g a = a
  config_by b false h g a = record { element = refl; facts = refl }

  config_alike : (b : Body) → Alike (configured p (unkept el) k c m b) (configured p el k c m b)
  config_alike b = config_by b (c.misfit == 0) _ _ (verdict_alike b (judge el.epoch el.master el.sequence k m (claim_of b)))

  body_alike : (b : Body) → Alike (by_body p (unkept el) k c m b) (by_body p el k c m b)
  body_alike (Claim w) = config_alike (Claim w)
  body_alike (Sot x ps sc) = config_alike (Sot x ps sc)
  body_alike (Mot x i) = config_alike (Mot x i)
  body_alike (Eot x) = config_alike (Eot x)
  body_alike (Trcomp x) = config_alike (Trcomp x)
  body_alike (Abt x) = config_alike (Abt x)
  body_alike (Floor f) = config_alike (Floor f)
  body_alike Malformed = config_alike Malformed
  body_alike Plain = config_alike Plain
  body_alike Ask = record { element = refl; facts = refl }
  body_alike (Ask_record x) = record { element = refl; facts = refl }

  heard_by : (lost : Bool) (h g : Heard) → Alike h g → Alike (cond lost (only_says (unkept el) None) h) (cond lost (only_says el None) g)
  heard_by true h g a = record { element = refl; facts = refl }
  heard_by false h g a = a

  hears_alike : (b : Body) → Alike (hears p (unkept el) k c m b) (hears p el k c m b)
  hears_alike b = heard_by c.unheard _ _ (body_alike b)

-- ---- one Config
seen_is : (s : TransactionState) (el : ElementState) → IsLike s el → seen s ≡ unkept el
seen_is s el x = λ i. record { epoch = x.epoch i; master = x.master i; sequence = x.sequence i; kept = None; records = x.records i; floor = x.floor i; ce = x.ce i; last_ce = x.last_ce i }

like_too : (s : TransactionState) (a b : ElementState) → unkept a ≡ unkept b → IsLike s a → IsLike s b
like_too s a b e x = record {
  epoch = x.epoch ∙ ap (λ (u : ElementState). u.epoch) e;
  master = x.master ∙ ap (λ (u : ElementState). u.master) e;
  sequence = x.sequence ∙ ap (λ (u : ElementState). u.sequence) e;
  records = x.records ∙ ap (λ (u : ElementState). u.records) e;
  floor = x.floor ∙ ap (λ (u : ElementState). u.floor) e;
  ce = x.ce ∙ ap (λ (u : ElementState). u.ce) e;
  last_ce = x.last_ce ∙ ap (λ (u : ElementState). u.last_ce) e;
}

pub abides_too : (t : Step) (h g : Heard) → Abides t h → Alike h g → Abides t g
abides_too t h g x a = record { state = like_too t.state h.element g.element a.element x.state; facts = x.facts ∙ a.facts }

module _ (s : TransactionState) (el : ElementState) (like : IsLike s el) (named : IsNamed s) (c : Came) where
  abbrev asked : Asked
  asked = asked_of c.message c.selects

  abbrev pub arrival : Arrival
  arrival = record { sender = c.message.source; circumstance = circumstance s.ledger c.selects asked; stamp = stamp c.message.corr; body = body_of (stamp c.message.corr).count asked }

  step_abides : Abides (order.configured s c.peer c.message c.selects) (hears s.id el arrival.sender arrival.circumstance arrival.stamp arrival.body)
  step_abides =
      abides_too (order.configured s c.peer c.message c.selects) (hears s.id (unkept el) arrival.sender arrival.circumstance arrival.stamp arrival.body)
      (hears s.id el arrival.sender arrival.circumstance arrival.stamp arrival.body)
      (subst (λ (u : ElementState). Abides (order.configured s c.peer c.message c.selects) (hears s.id u arrival.sender arrival.circumstance arrival.stamp arrival.body)) (seen_is s el like)
      (abides s c.peer c.message c.selects named))
      (hears_alike s.id el arrival.sender arrival.circumstance arrival.stamp arrival.body)

-- ---- the ID stays
id_by : (s : TransactionState) (peer : ℕ) (m : Message) (selects : List Select) (a : Asked) (v : Verdict) → (order.by_verdict s peer m selects a v).state.id ≡ s.id
id_by s peer m selects a (Claims e) = refl
id_by s peer m selects a Unclaimed = refl
id_by s peer m selects a Stale = refl
id_by s peer m selects a Again = refl
id_by s peer m selects a Gap = refl
id_by s peer m selects a Next = refl

pub id_stays : (s : TransactionState) (peer : ℕ) (m : Message) (selects : List Select) → (order.configured s peer m selects).state.id ≡ s.id
unfolding order.configured
id_stays s peer m selects = id_by s peer m selects (asked_of m selects) (judged s m (asked_of m selects))

-- ---- all of them
bare_more : (xs ys : List (Fact Operation)) → bare_facts (xs ++ ys) ≡ bare_facts xs ++ bare_facts ys
bare_more [] ys = refl
bare_more (Of_protocol f ∷ xs) ys = ap (λ fs. f ∷ fs) (bare_more xs ys)
bare_more (Added_at p x ops ∷ xs) ys = bare_more xs ys
bare_more (Plain_at p ops ∷ xs) ys = bare_more xs ys

-- a life that begins at this state goes as an element of the protocol that begins as this
abbrev Goes : ℕ → ElementState → List trace.Fact → Life → Type 0
Goes p el gs life = (arrivals : List Arrival) × IsLike life.state (hears_all p arrivals el gs).element × (bare_facts life.facts ≡ (hears_all p arrivals el gs).facts)

goes_from : (p : ℕ) (came : List Came) (s : TransactionState) (fs : List (Fact Operation)) (el : ElementState) (gs : List trace.Fact) → s.id ≡ p → IsLike s el → bare_facts fs ≡ gs → IsNamed s → Goes p el gs (life_from came s fs)
goes_from p [] s fs el gs i like e named = ([], like, e)
goes_from p (c ∷ came) s fs el gs i like e named =
    let t = order.configured s c.peer c.message c.selects in
    let a = arrival s el like named c in
    let x : Abides t (hears p el a.sender a.circumstance a.stamp a.body) = subst (λ n. Abides t (hears n el a.sender a.circumstance a.stamp a.body)) i (step_abides s el like named c) in
    let h = hears p el a.sender a.circumstance a.stamp a.body in
    let r = goes_from p came t.state (t.facts ++ fs) h.element (h.facts ++ gs) (id_stays s c.peer c.message c.selects ∙ i) x.state
    (bare_more t.facts fs ∙ ap (λ (xs : List trace.Fact). xs ++ bare_facts fs) x.facts ∙ ap (λ (ys : List trace.Fact). h.facts ++ ys) e) (named_stay s c.peer c.message c.selects named) in
    (a ∷ r.0, r.1, r.2)

pub life_heard : (id ce : ℕ) (store : Stored) (came : List Came) → IsHeard id ce (life_of id ce store came)
life_heard id ce store came =
    goes_from id came (opened id ce store) [] (new_element ce) [] refl (record { epoch = refl; master = refl; sequence = refl; records = refl; floor = refl; ce = refl; last_ce = refl }) refl (new_named id ce store)

-- ---- a life that was replaced
module _ (epoch master sequence sender : ℕ) (x : Stamp) (below : x.life < epoch) where
  no_claim : (claim : Option ℕ) → claims epoch sender x claim ≡ false
  no_claim None = refl
  no_claim (Some w) =
      ⊎_elim (λ u.
      let one : (x.life == w && x.count == 0) ≡ true = both_first (x.life == w && x.count == 0) _ u in
      let same : x.life ≡ w = eqb-true x.life w (both_first (x.life == w) _ one) in
      let two : (nat_lt epoch w && w % 256 == sender % 256) ≡ true = both_second (is_epoch w) _ (both_second (x.life == w && x.count == 0) _ u) in
      let three : nat_lt epoch w ≡ true = both_first (nat_lt epoch w) _ two in
      let above : epoch < w = grind arith in
      absurd (omega arith))
      (λ u. u) (both (claims epoch sender x (Some w)))

  is_stale : (claim : Option ℕ) → judge epoch master sequence sender x claim ≡ Stale
  is_stale claim =
      let b : (epoch == 0) ≡ false = ⊎_elim (λ u. let z : epoch ≡ 0 = eqb-true epoch 0 u in absurd (omega arith)) (λ u. u) (both (epoch == 0)) in
      let c : (x.life == epoch) ≡ false = ⊎_elim (λ u. let z : x.life ≡ epoch = eqb-true x.life epoch u in absurd (omega arith)) (λ u. u) (both (x.life == epoch)) in
      cond_false (claims epoch sender x claim) (Claims x.life) _ (no_claim claim) ∙ cond_false (epoch == 0) Unclaimed _ b ∙ cond_false (x.life == epoch && sender == master) _ Stale (ap (λ v. v && sender == master) c)

judged_stale : (s : TransactionState) (m : Message) (selects : List Select) → (stamp m.corr).life < s.epoch → judged s m (asked_of m selects) ≡ Stale
judged_stale s m selects below = is_stale s.epoch s.master s.sequence m.source (stamp m.corr) below (claim_in (asked_of m selects))

pub replaced_state : (s : TransactionState) (peer : ℕ) (m : Message) (selects : List Select) → (stamp m.corr).life < s.epoch → (order.configured s peer m selects).state ≡ s
replaced_state s peer m selects below = stale_state s peer m selects (judged_stale s m selects below)

pub replaced_heard : (s : TransactionState) (peer : ℕ) (m : Message) (selects : List Select) → (stamp m.corr).life < s.epoch → (order.configured s peer m selects).is_heard ≡ false
replaced_heard s peer m selects below = stale_heard s peer m selects (judged_stale s m selects below)

pub replaced_facts : (s : TransactionState) (peer : ℕ) (m : Message) (selects : List Select) → (stamp m.corr).life < s.epoch → (order.configured s peer m selects).facts ≡ []
replaced_facts s peer m selects below = stale_facts s peer m selects (judged_stale s m selects below)

-- ---- by whom it is owned
pub owned_seen : (ce : ℕ) (s : TransactionState) (el : ElementState) → IsLike s el → Owned ce el → Owned ce (seen s)
owned_seen ce s el like o = let u : Owned ce (unkept el) = o in subst (Owned ce) (sym (seen_is s el like)) u
