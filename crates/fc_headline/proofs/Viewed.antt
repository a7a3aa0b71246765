-- An element does what the protocol says, in some circumstance.
use Rattle.std.proofs.Common.{◌≡◌, ℕ, ◌+◌, ◌==◌, ◌&&◌, ◌||◌, not, Bool, true, false, cond, List, [], ◌∷◌, ◌++◌, length, map, replicate, Option, Some, None, option_map, ◌⊎◌, inl, inr, ⊎_elim, refl, sym, ap, ◌∙◌, subst, eq-eqb, eqb-true, append-nil}
use Rattle.std.specs.FinMap.{get}
use Rattle.std.specs.List.{AllByRecursion}
use Rattle.fc_assoc.specs.declared.heard.Heard.{Heard}
use Rattle.fc_base.specs.Ids.{Txn}
use Rattle.fc_modes.specs.declared.mode.Mode.{Mode}
use Rattle.fc_machine.specs.ElementMachine.{Step, Out, wants, answer, responds, notices_to, acts, unclaimed_by, unclaimed, gives, takes, claims, says_did, by_verdict, heard_from}
use Rattle.fc_machine.specs.ElementState.{Entry, Element, noted, bares, first_code, response_code, reply_of, tx}
use Rattle.fc_machine.specs.Ground.{Place, Ground}
use Rattle.fc_machine.specs.Messages.{Configuring, Answer}
use Rattle.fc_machine.specs.Trace.{of_protocol, bare_facts}
use Rattle.fc_machine.specs.Transactions.{Did, checked, checked_shown, shown_of, is_completed, all_in, places, with_floor, all_get, none_done, rest_codes, turned, and_adds, and_completes, sets_props, changes, executes, scope_at}
use Rattle.fc_machine.specs.Views.{config_body, view, views, quiet_by, rest_of, rest_shown, circumstance, peers_of, by_fence}
use Rattle.fc_protocol.proofs.Basics.{cond_true, cond_false}
use Rattle.fc_headline.proofs.Held.{bares_written, bares_rest, bares_undone}
use Rattle.fc_headline.proofs.Forgetting.{bares_without}
use Rattle.fc_protocol.specs.Codes.{read_only, invalid_parameters, invalid_flags}
use Rattle.fc_protocol.specs.ElementMachine as protocol
use Rattle.fc_protocol.specs.ElementMachine.{Circumstance, ElementState, only_says, hears, admits, reply, next_with, unclaimed_code, configured, by_body}
use Rattle.fc_protocol.specs.Messages as said
use Rattle.fc_protocol.specs.Messages.{is_name, Stamp, Body, Claim, Sot, Mot, Eot, Trcomp, Abt, Floor, Malformed, Plain, Ask, Ask_record, claim_of, Request, Other_up, sent, Sent}
use Rattle.fc_protocol.specs.Phases.{Turn, shown_code, opening, adding, preparing, settling, aborting}
use Rattle.fc_protocol.specs.Records as records
use Rattle.fc_protocol.specs.Records.{state_of, is_full, is_packed, clashes, any_taken}
use Rattle.fc_protocol.specs.Floors.{is_under, is_below, floor_code}
use Rattle.fc_protocol.specs.Trace as trace
use Rattle.fc_protocol.specs.Trace.{facts_of}
use Rattle.fc_protocol.specs.WorldSteps.{spoken, murmurs}
use Rattle.fc_protocol.specs.declared.states.Decision.TheVariants.{Complete}
use Rattle.fc_protocol.specs.declared.states.TxnState.{TxnState}
use Rattle.fc_protocol.specs.declared.verdict.Verdict.{Verdict}
use Rattle.fc_protocol.specs.declared.verdict.Verdict.TheVariants.{Claim as Claims, Unclaimed, Stale, Again, Gap, Next}

-- Facts, records and codes

pub bare_of : (Op : Type 0) (fs : List trace.Fact) → bare_facts {Op = Op} (of_protocol fs) ≡ fs
bare_of Op [] = refl
bare_of Op (f ∷ fs) = ap (λ v. f ∷ v) (bare_of Op fs)

bares_noted : {Op : Type 0} (x : Txn) (ps : List ℕ) (sc : List Place) (new : Option TxnState) (ns : List (Entry Op)) → bares (noted x ps sc new ns) ≡ records.noted x ps sc new (bares ns)
bares_noted x ps sc None ns = refl
bares_noted x ps sc (Some s) ns = bares_written x ps sc s ns

first_if : (b : Bool) (c : ℕ) (rest : ℕ) → (c == 0) ≡ b → (b ≡ true → rest ≡ c) → cond b rest c ≡ c
first_if true c rest e r = r refl
first_if false c rest e r = refl

zero_of : (c : ℕ) (b : Bool) → (c == 0) ≡ b → b ≡ true → c ≡ 0
zero_of c b e t = eqb-true c 0 (e ∙ t)

first_same : (c n : ℕ) → first_code (replicate n c) ≡ c ⊎ (n ≡ 0) → first_code (c ∷ replicate n c) ≡ c
first_same c n h = first_if (c == 0) c (first_code (replicate n c)) refl (λ t. ⊎_elim (λ u. u) (λ u. ap (λ v. first_code (replicate v c)) u ∙ sym (eqb-true c 0 t)) h)

-- all get one code
pub first_all : (c n : ℕ) → first_code (c ∷ replicate n c) ≡ c
first_all c Rattle.std.proofs.Common.zero = first_same c 0 (inr refl)
first_all c (Rattle.std.proofs.Common.suc n) = first_same c (Rattle.std.proofs.Common.suc n) (inl (first_all c n))

first_one : (c : ℕ) → first_code (c ∷ []) ≡ c
first_one c = first_all c 0

first_two : (c : ℕ) → first_code (c ∷ c ∷ []) ≡ c
first_two c = first_all c 1

-- Responses

-- what the response to a code shows, where it shows anything
abbrev pub Says : List ℕ → ℕ → Type 0
Says [] code = Unit {0}
Says (c ∷ cs) code = first_code (c ∷ cs) ≡ code

-- a response says what it shows
says_own : (shown : List ℕ) → Says shown (response_code shown)
says_own [] = tt
says_own (c ∷ cs) = refl

pub says_each_if : (b : Bool) (c n : ℕ) → Says (cond b [] (c ∷ replicate n c)) c
says_each_if true c n = tt
says_each_if false c n = first_all c n

-- what is shown of operations that all succeed
kept_zero : (b d : Bool) (c : ℕ) (cs hs : List ℕ) → (c == 0) ≡ d → first_code (c ∷ cs) ≡ 0 → (first_code cs ≡ 0 → first_code hs ≡ 0) → first_code (cond b (c ∷ hs) hs) ≡ 0
kept_zero true true c cs hs e z r = cond_true (c == 0) (first_code hs) c e ∙ r (sym (cond_true (c == 0) (first_code cs) c e) ∙ z)
kept_zero false true c cs hs e z r = r (sym (cond_true (c == 0) (first_code cs) c e) ∙ z)
kept_zero b false c cs hs e z r = let k : c ≡ 0 = sym (cond_false (c == 0) (first_code cs) c e) ∙ z in let w : true ≡ false = sym (eq-eqb c 0 k) ∙ e in cc

shown_zero : {Op : Type 0} (is_shown : Op → Bool) (ops : List Op) (codes : List ℕ) → first_code codes ≡ 0 → first_code (shown_of is_shown ops codes) ≡ 0
shown_zero is_shown [] codes z = z
shown_zero is_shown (op ∷ ops) [] z = refl
shown_zero is_shown (op ∷ ops) (c ∷ cs) z = kept_zero (is_shown op) (c == 0) c cs (shown_of is_shown ops cs) refl z (λ k. shown_zero is_shown ops cs k)

-- the code that the response to a start or a change shows
checked_if : (b d : Bool) (check rest : ℕ) (shown refused : List ℕ) → (check == 0) ≡ b → (rest == 0) ≡ d → (rest ≡ 0 → first_code shown ≡ 0) → Says (cond b (0 ∷ shown) (check ∷ refused)) (cond (b && not d) (first_code shown) check)
checked_if true true check rest shown refused e f z = z (eqb-true rest 0 f) ∙ sym (eqb-true check 0 e)
checked_if true false check rest shown refused e f z = refl
checked_if false d check rest shown refused e f z = cond_false (check == 0) (first_code refused) check e

checked_says : {Op : Type 0} (is_shown : Op → Bool) (ops : List Op) (check : ℕ) (codes : List ℕ) → Says (checked_shown is_shown ops check codes) (shown_code check (first_code codes) (first_code (shown_of is_shown ops codes)))
checked_says is_shown ops check codes = checked_if (check == 0) (first_code codes == 0) check (first_code codes) (shown_of is_shown ops codes) (shown_of is_shown ops (replicate (length ops) 255)) refl refl (shown_zero is_shown ops codes)

-- a response
reply_if : (b : Bool) (m : Stamp) (codes : List ℕ) (code : ℕ) → response_code codes ≡ code → option_map reply_of (cond b (Some (record { stamp = m; codes = codes })) None) ≡ reply (not b) m code
reply_if true m codes code e = ap (λ v. Some (said.Reply m v)) e
reply_if false m codes code e = refl

replies : (ack : ℕ) (m : Stamp) (codes shown : List ℕ) (code : ℕ) → Says shown code → option_map reply_of (answer ack m codes shown) ≡ reply (quiet_by ack codes shown) m code
replies ack m codes [] code e = refl
replies ack m codes (c ∷ shown) code e = reply_if (wants ack codes) m (c ∷ shown) code e

pub views_append : {Op : Type 0} (p : ℕ) (xs ys : List (Out Op)) → views p (xs ++ ys) ≡ views p xs ++ views p ys
views_append p [] ys = refl
views_append p (x ∷ xs) ys = ap (λ v. sent p x.peer (view x.message) ∷ v) (views_append p xs ys)

responds_views : (Op : Type 0) (p k : ℕ) (a : Option Answer) → views {Op = Op} p (responds k a) ≡ spoken p k (option_map reply_of a)
responds_views Op p k None = refl
responds_views Op p k (Some a) = refl

notices_views : (Op : Type 0) (p : ℕ) (h : Option Heard) (ns : List ℕ) → views {Op = Op} p (notices_to h ns) ≡ murmurs p (peers_of h ns)
notices_views Op p None ns = refl
notices_views Op p (Some h) [] = refl
notices_views Op p (Some h) (n ∷ ns) = ap (λ v. sent p h.peer Other_up ∷ v) (notices_views Op p (Some h) ns)

module _ {Config Op Subs : Type 0} (g : Ground Config Op Subs) where
  -- what a Config has done, and what the protocol says of it
  record ActsFit (d : Did Config Op Subs) (r : protocol.Acts) : Type 0 where
    records : bares d.records ≡ r.records
    floor : d.floor ≡ r.floor
    code : Says d.shown r.code
    facts : bare_facts d.facts ≡ r.facts

  added_fit : (b : Bool) (p : ℕ) (x : Txn) (ops : List Op) (d : Did Config Op Subs) (r : protocol.Acts) → ActsFit d r → ActsFit (and_adds g b p x ops d) r
  added_fit true p x ops d r f = record { records = bares_rest x ops d.records ∙ f.records; floor = f.floor; code = f.code; facts = f.facts }
  added_fit false p x ops d r f = f

  completed_fit : (b : Bool) (el : Element Config Op Subs) (x : Txn) (d : Did Config Op Subs) (r : protocol.Acts) → ActsFit d r → ActsFit (and_completes g b el x d) r
  completed_fit true el x d r f = record { records = f.records; floor = f.floor; code = f.code; facts = f.facts }
  completed_fit false el x d r f = f

  turned_fit : (p : ℕ) (el : Element Config Op Subs) (x : Txn) (ps : List ℕ) (sc : List Place) (t : Turn) (codes shown : List ℕ) → Says shown t.code → ActsFit (turned g p el x ps sc t codes shown) (protocol.after p t x ps sc el.floor (bares el.records))
  turned_fit p el x ps sc t codes shown e = record { records = bares_noted x ps sc t.new el.records; floor = refl; code = e; facts = bare_of Op (facts_of p x ps t.events) }

  -- one whose rest has a code of its own
  rest_fit : (p : ℕ) (el : Element Config Op Subs) (x : Txn) (ps : List ℕ) (sc : List Place) (t : Turn) (codes shown : List ℕ) (code : ℕ) → Says shown code → ActsFit (turned g p el x ps sc t codes shown) (protocol.shows code (protocol.after p t x ps sc el.floor (bares el.records)))
  rest_fit p el x ps sc t codes shown code e = record { records = bares_noted x ps sc t.new el.records; floor = refl; code = e; facts = bare_of Op (facts_of p x ps t.events) }

  idles_fit : (el : Element Config Op Subs) (m : Configuring Op) (code : ℕ) → ActsFit (all_get g el m code) (protocol.idles el.floor (bares el.records) code)
  idles_fit el m code = record { records = refl; floor = refl; code = says_each_if m.bare code m.more; facts = refl }

  -- nothing has happened to the records
  record Idle (el : Element Config Op Subs) (d : Did Config Op Subs) : Type 0 where
    records : d.records ≡ el.records
    floor : d.floor ≡ el.floor
    facts : bare_facts d.facts ≡ []

  idle_if : (el : Element Config Op Subs) (b : Bool) (u v : Did Config Op Subs) → Idle el u → Idle el v → Idle el (cond b u v)
  idle_if el true u v e f = e
  idle_if el false u v e f = f

  executes_idle : (p : ℕ) (el : Element Config Op Subs) (m : Configuring Op) (mode : Mode) → Idle el (executes g p el m mode)
  executes_idle p el m mode = idle_if el m.props (sets_props g el m mode) (changes g p el m mode) (record { records = refl; floor = refl; facts = refl }) (record { records = refl; floor = refl; facts = refl })

  plain_by : (b : Bool) (p : ℕ) (el : Element Config Op Subs) (m : Configuring Op) (mode : Mode)
      → ActsFit (cond b (all_get g el m invalid_flags) (executes g p el m mode)) (protocol.idles el.floor (bares el.records) (cond b invalid_flags (response_code (executes g p el m mode).shown)))
  plain_by true p el m mode = idles_fit el m invalid_flags
  plain_by false p el m mode = let s = executes_idle p el m mode in record { records = ap bares s.records; floor = s.floor; code = says_own (executes g p el m mode).shown; facts = s.facts }

  floors_by_fit : (b : Bool) (el : Element Config Op Subs) (m : Configuring Op) (f : Txn) (code : ℕ) → (code == 0) ≡ b → ActsFit (cond b (with_floor g el m f) (all_get g el m code))
      (cond b (record { records = Rattle.fc_protocol.specs.Floors.forgotten f (bares el.records); floor = Some f; code = 0; facts = [] }) (protocol.idles el.floor (bares el.records) code))
  floors_by_fit true el m f code e = record { records = bares_without (λ x. is_under x f) el.records; floor = refl; code = says_each_if m.bare 0 m.more; facts = refl }
  floors_by_fit false el m f code e = idles_fit el m code

  acts_fit : (p : ℕ) (el : Element Config Op Subs) (m : Configuring Op) (mode : Mode) (b : Body) (codes shown others : List ℕ) → ActsFit (acts g p el m mode b) (protocol.acts p el.epoch (circumstance g el m b (executes g p el m mode).shown codes shown others) (config_body b) el.floor (bares el.records))
  acts_fit p el m mode (Claim w) cs hs os = idles_fit el m _
  acts_fit p el m mode (Sot x ps sc) cs hs os =
      let codes = rest_codes g el sc m.ops in
      let s = state_of x (bares el.records) in
      let turn = opening (admits p el.epoch x ps (not (all_in g sc)) sc) (is_below x el.floor) (clashes sc (bares el.records)) (is_packed (bares el.records)) in
      let t = turn (first_code codes) s in
      added_fit (t.code == 0) p x m.ops (turned g p el x ps sc t (checked (turn 0 s).code codes (length m.ops)) (checked_shown g.is_shown m.ops (turn 0 s).code codes)) _ (rest_fit p el x ps sc t _ _ _ (checked_says g.is_shown m.ops (turn 0 s).code codes))
  acts_fit p el m mode (Mot x i) cs hs os =
      let codes = rest_codes g el (scope_at x el.records) m.ops in
      let s = state_of x (bares el.records) in
      let t = adding (first_code codes) s in
      added_fit (t.code == 0) p x m.ops (turned g p el x [] [] t (checked (adding 0 s).code codes (length m.ops)) (checked_shown g.is_shown m.ops (adding 0 s).code codes)) _ (rest_fit p el x [] [] t _ _ _ (checked_says g.is_shown m.ops (adding 0 s).code codes))
  acts_fit p el m mode (Eot x) cs hs os = let t = preparing (state_of x (bares el.records)) in turned_fit p el x [] [] t (t.code ∷ t.code ∷ []) (t.code ∷ t.code ∷ []) (first_two t.code)
  acts_fit p el m mode (Trcomp x) cs hs os =
      let t = settling Complete (state_of x (bares el.records)) in
      completed_fit (is_completed t.new) el x (turned g p el x [] [] t (t.code ∷ []) (t.code ∷ [])) _ (turned_fit p el x [] [] t (t.code ∷ []) (t.code ∷ []) (first_one t.code))
  acts_fit p el m mode (Abt x) cs hs os =
      let t = aborting (is_name x && not (is_below x el.floor)) (is_full (bares el.records)) (state_of x (bares el.records)) in turned_fit p el x [] [] t (t.code ∷ []) (t.code ∷ []) (first_one t.code)
  acts_fit p el m mode (Floor f) cs hs os = floors_by_fit (floor_code el.epoch el.floor f (bares el.records) == 0) el m f (floor_code el.epoch el.floor f (bares el.records)) refl
  acts_fit p el m mode Malformed cs hs os = idles_fit el m m.shape
  acts_fit p el m mode Plain cs hs os = plain_by (any_taken (bares el.records) (places g m.ops)) p el m mode
  acts_fit p el m mode Ask cs hs os = idles_fit el m m.shape
  acts_fit p el m mode (Ask_record x) cs hs os = idles_fit el m m.shape

  -- a step, and what the protocol says of it
  pub record Fits (p k : ℕ) (r : Step Config Op Subs) (h : protocol.Heard) (others : List ℕ) : Type 0 where
    pub element : tx r.element ≡ h.element
    pub says : views p r.outs ≡ spoken p k h.says ++ murmurs p others
    pub facts : bare_facts r.facts ≡ h.facts

  -- the response and the notices
  said_views : (p k : ℕ) (el : Element Config Op Subs) (a : Option Answer) (notices : List ℕ) (m : Option said.Message) → option_map reply_of a ≡ m → views p (says_did g el k a notices) ≡ spoken p k m ++ murmurs p (peers_of (get el.associations el.ce) notices)
  said_views p k el a notices m e =
      views_append p (responds k a) (notices_to (get el.associations el.ce) notices)
      ∙ ap (λ v. v ++ views {Op = Op} p (notices_to {Op = Op} (get el.associations el.ce) notices)) (responds_views Op p k a ∙ ap (spoken p k) e) ∙ ap (λ v. spoken p k m ++ v) (notices_views Op p (get el.associations el.ce) notices)

  -- a response that is not kept
  pub gives_fit : (p k : ℕ) (el : Element Config Op Subs) (m : Configuring Op) (d : Did Config Op Subs) (code : ℕ) → d.records ≡ el.records → d.floor ≡ el.floor → bare_facts d.facts ≡ [] → Says d.shown code
      → Fits p k (gives g el k m d) (only_says (tx el) (reply (quiet_by m.ack d.codes d.shown) m.stamp code)) (peers_of (get el.associations el.ce) d.notices)
  gives_fit p k el m d code r l f e = record {
    element = ap (λ ns. record { epoch = el.epoch; master = el.master; sequence = el.sequence; kept = option_map reply_of el.kept; records = bares ns; floor = d.floor; ce = el.ce; last_ce = el.last_ce }) r
        ∙ ap (λ (z : Option Txn). record { epoch = el.epoch; master = el.master; sequence = el.sequence; kept = option_map reply_of el.kept; records = bares el.records; floor = z; ce = el.ce; last_ce = el.last_ce }) l;
    says = said_views p k el (answer m.ack m.stamp d.codes d.shown) d.notices (reply (quiet_by m.ack d.codes d.shown) m.stamp code) (replies m.ack m.stamp d.codes d.shown code e);
    facts = f;
  }

  takes_fit : (p k : ℕ) (el : Element Config Op Subs) (m : Configuring Op) (d : Did Config Op Subs) (r : protocol.Acts) → ActsFit d r → Fits p k (takes g el k m d) (next_with (tx el) (quiet_by m.ack d.codes d.shown) m.stamp r) (peers_of (get el.associations el.ce) d.notices)
  takes_fit p k el m d r f =
      let e = replies m.ack m.stamp d.codes d.shown r.code f.code in
      record {
        element = ap (λ ns. record { epoch = el.epoch; master = el.master; sequence = el.sequence + 1; kept = option_map reply_of (answer m.ack m.stamp d.codes d.shown); records = ns; floor = d.floor; ce = el.ce; last_ce = el.last_ce }) f.records
            ∙ ap (λ (z : Option Txn). record { epoch = el.epoch; master = el.master; sequence = el.sequence + 1; kept = option_map reply_of (answer m.ack m.stamp d.codes d.shown); records = r.records; floor = z; ce = el.ce; last_ce = el.last_ce }) f.floor
            ∙ ap (λ a. record { epoch = el.epoch; master = el.master; sequence = el.sequence + 1; kept = a; records = r.records; floor = r.floor; ce = el.ce; last_ce = el.last_ce }) e;
        says = said_views p k el (answer m.ack m.stamp d.codes d.shown) d.notices (reply (quiet_by m.ack d.codes d.shown) m.stamp r.code) e;
        facts = f.facts;
      }

  claims_fit : (p k source : ℕ) (el : Element Config Op Subs) (m : Configuring Op) (e : ℕ) → Fits p k (claims g p el k source m e) (protocol.claimed_with p (tx el) source (not (wants m.ack (0 ∷ []))) e m.stamp) []
  claims_fit p k source el m e =
      let a = replies m.ack m.stamp (0 ∷ []) (0 ∷ []) 0 refl in
      record {
        element = ap (λ ns. record { epoch = e; master = source; sequence = 0; kept = option_map reply_of (answer m.ack m.stamp (0 ∷ []) (0 ∷ [])); records = ns; floor = el.floor; ce = source; last_ce = el.ce }) (bares_undone el.records)
            ∙ ap (λ v. record { epoch = e; master = source; sequence = 0; kept = v; records = records.all_undone (bares el.records); floor = el.floor; ce = source; last_ce = el.ce }) a;
        says = responds_views Op p k (answer m.ack m.stamp (0 ∷ []) (0 ∷ [])) ∙ ap (spoken p k) a ∙ sym (append-nil (spoken p k (reply (not (wants m.ack (0 ∷ []))) m.stamp 0)));
        facts = bare_of Op (trace.Claimed_at p e ∷ trace.undone_facts p (bares el.records));
      }

  record UnclaimedFit (el : Element Config Op Subs) (d : Did Config Op Subs) (gets : ℕ) : Type 0 where
    records : d.records ≡ el.records
    floor : d.floor ≡ el.floor
    facts : bare_facts d.facts ≡ []
    code : Says d.shown gets

  refused_fit : (el : Element Config Op Subs) (m : Configuring Op) (code : ℕ) → UnclaimedFit el (all_get g el m code) code
  refused_fit el m code = record { records = refl; floor = refl; facts = refl; code = says_each_if m.bare code m.more }

  none_done_fit : (p : ℕ) (el : Element Config Op Subs) (m : Configuring Op) (code : ℕ) → UnclaimedFit el (none_done g p el m code) code
  none_done_fit p el m code = record { records = refl; floor = refl; facts = refl; code = says_each_if m.bare code m.more }

  unclaimed_by_fit : (p : ℕ) (el : Element Config Op Subs) (m : Configuring Op) (mode : Mode) (b : Body) → UnclaimedFit el (unclaimed_by g p el m mode b) (unclaimed_code true (response_code (executes g p el m mode).shown) (config_body b))
  unclaimed_by_fit p el m mode (Claim w) = none_done_fit p el m _
  unclaimed_by_fit p el m mode (Sot x ps sc) = refused_fit el m _
  unclaimed_by_fit p el m mode (Mot x i) = refused_fit el m _
  unclaimed_by_fit p el m mode (Eot x) = refused_fit el m _
  unclaimed_by_fit p el m mode (Trcomp x) = refused_fit el m _
  unclaimed_by_fit p el m mode (Abt x) = refused_fit el m _
  unclaimed_by_fit p el m mode (Floor f) = none_done_fit p el m _
  unclaimed_by_fit p el m mode Malformed = refused_fit el m _
  unclaimed_by_fit p el m mode Plain = let s = executes_idle p el m mode in record { records = s.records; floor = s.floor; facts = s.facts; code = says_own (executes g p el m mode).shown }
  unclaimed_by_fit p el m mode Ask = refused_fit el m _
  unclaimed_by_fit p el m mode (Ask_record x) = refused_fit el m _

  unclaimed_if : (b : Bool) (p : ℕ) (el : Element Config Op Subs) (m : Configuring Op) (mode : Mode) → UnclaimedFit el (cond b (unclaimed_by g p el m mode m.body) (all_get g el m read_only)) (unclaimed_code b (response_code (executes g p el m mode).shown) (config_body m.body))
  unclaimed_if true p el m mode = unclaimed_by_fit p el m mode m.body
  unclaimed_if false p el m mode = refused_fit el m read_only

  pub no_others : (h : Option Heard) → peers_of h [] ≡ []
  no_others None = refl
  no_others (Some h) = refl

  quiet_others : (p k : ℕ) (r : Step Config Op Subs) (h : protocol.Heard) (o : Option Heard) → Fits p k r h [] → Fits p k r h (peers_of o [])
  quiet_others p k r h o f = subst (Fits p k r h) (sym (no_others o)) f

  pub verdict_fits : (p k source : ℕ) (el : Element Config Op Subs) (m : Configuring Op) (mode : Mode) (v : Verdict) → let c = by_fence g p (heard_from g el source k) source m mode v in
      Fits p k (by_verdict g p el k source m mode v) (protocol.by_verdict p (tx el) source c m.stamp (config_body m.body) v) c.others
  verdict_fits p k source el m mode (Claims e) = let now = heard_from g el source k in quiet_others p k _ _ (get now.associations now.ce) (claims_fit p k source now m e)
  verdict_fits p k source el m mode Unclaimed = let now = heard_from g el source k in let u = unclaimed_if (source == el.ce) p now m mode in gives_fit p k now m (unclaimed g p now source m mode) _ u.records u.floor u.facts u.code
  verdict_fits p k source el m mode Stale =
      let now = heard_from g el source k in
      subst (λ o. Fits p k (gives g el k m (all_get g el m read_only)) (only_says (tx el) (reply (quiet_by m.ack (all_get g el m read_only).codes (all_get g el m read_only).shown) m.stamp read_only)) o) (no_others (get el.associations el.ce) ∙ sym (no_others (get now.associations now.ce)))
      (gives_fit p k el m (all_get g el m read_only) read_only refl refl refl (says_each_if m.bare read_only m.more))
  verdict_fits p k source el m mode Again =
      let now = heard_from g el source k in
      quiet_others p k _ _ (get now.associations now.ce) (record { element = refl; says = responds_views Op p k el.kept ∙ sym (append-nil (spoken p k (option_map reply_of el.kept))); facts = refl })
  verdict_fits p k source el m mode Gap = let now = heard_from g el source k in gives_fit p k now m (all_get g now m invalid_parameters) invalid_parameters refl refl refl (says_each_if m.bare invalid_parameters m.more)
  verdict_fits p k source el m mode Next =
      let now = heard_from g el source k in
      let d = acts g p now m mode m.body in
      takes_fit p k now m d _ (acts_fit p now m mode m.body d.codes d.shown (peers_of (get now.associations now.ce) d.notices))

  whole_if : (b : Bool) (code : ℕ) (hs cs : List ℕ) → b ≡ true → hs ≡ cs → cond b (code ∷ hs) hs ≡ code ∷ cs
  whole_if true code hs cs e r = ap (λ v. code ∷ v) r
  whole_if false code hs cs e r = cc

  shown_whole : (ops : List Op) (codes : List ℕ) → AllByRecursion (λ op. g.is_shown op ≡ true) ops → shown_of g.is_shown ops codes ≡ codes
  shown_whole [] codes all = refl
  shown_whole (op ∷ ops) [] all = refl
  shown_whole (op ∷ ops) (code ∷ codes) all = whole_if (g.is_shown op) code (shown_of g.is_shown ops codes) codes all.0 (shown_whole ops codes all.1)

  shown_by : (el : Element Config Op Subs) (m : Configuring Op) (b : Body) → AllByRecursion (λ op. g.is_shown op ≡ true) m.ops → rest_shown g el m b ≡ rest_of g el m b
  shown_by el m (Claim w) all = refl
  shown_by el m (Sot x ps sc) all = ap first_code (shown_whole m.ops (rest_codes g el sc m.ops) all)
  shown_by el m (Mot x i) all = ap first_code (shown_whole m.ops (rest_codes g el (scope_at x el.records) m.ops) all)
  shown_by el m (Eot x) all = refl
  shown_by el m (Trcomp x) all = refl
  shown_by el m (Abt x) all = refl
  shown_by el m (Floor f) all = refl
  shown_by el m Malformed all = refl
  shown_by el m Plain all = refl
  shown_by el m Ask all = refl
  shown_by el m (Ask_record x) all = refl

  -- where each of its operations is shown, a response shows the first code that is not 0
  pub told_whole : (el : Element Config Op Subs) (m : Configuring Op) → AllByRecursion (λ op. g.is_shown op ≡ true) m.ops → rest_shown g el m m.body ≡ rest_of g el m m.body
  told_whole el m all = shown_by el m m.body all
