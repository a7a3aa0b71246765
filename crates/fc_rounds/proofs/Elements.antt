-- One input of one element, as the protocol's element takes it.
use Rattle.std.proofs.lemmas.List.{map-append}
use Rattle.std.proofs.Common.{◌≡◌, ◌⊎◌, ℕ, ◌==◌, ◌&&◌, not, ◌/◌, ◌%◌, ◌^◌, ◌<◌, nat_lt, Bool, true, false, List, [], ◌∷◌, ◌++◌, map, Option, Some, None, inl, inr, refl, sym, ap, ◌∙◌, subst, eq-eqb, ap₂, arith, ⊎_elim, if◌then◌else◌}
use Rattle.std.specs.FinMap.{contains_key}
use Rattle.std.specs.List.{AllByRecursion, list_all}
use Rattle.fc_abiding.specs.Abiding.{IsLike}
use Rattle.fc_abiding.specs.Responses.{telling}
use Rattle.fc_abiding.specs.Runs.{Came, Life, life_of}
use Rattle.fc_querying.proofs.Answering.{goes}
use Rattle.fc_querying.specs.Answering.{Answers, AreSame, heard_of, is_by_store, keeping}
use Rattle.fc_assoc.specs.Associations.{entered}
use Rattle.fc_base.specs.Ids.{Txn}
use Rattle.fc_blocks.specs.Opening.{opened_store}
use Rattle.fc_element.proofs.Ledgered.{after_ledgered, facts_ledgered}
use Rattle.fc_element.specs.ElementMachine.{Turn, all_get, hearing, hearing_if, id_of, is_associated, is_ce, is_own, on_body, query_outs, step, taking, turn, with_associations, with_transactions}
use Rattle.fc_element.specs.ElementState.{ElementState}
use Rattle.fc_element.specs.declared.input.ElIn.{ElIn}
use Rattle.fc_element.specs.declared.input.ElIn.TheVariants.{Opened, Arrived, Moment}
use Rattle.fc_element.specs.Runs.{Taken, ledgered, taken_at, taken_body}
use Rattle.fc_exec.specs.declared.operations.Operation.{Operation}
use Rattle.fc_folding.specs.Folding.{OfControls, is_control}
use Rattle.fc_asks.specs.Requests.{request_of}
use Rattle.fc_asks.specs.declared.life.Life.{Life as Lives}
use Rattle.fc_hearing.proofs.Asked.{held_answers, record_answers}
use Rattle.fc_hearing.proofs.Noticed.{moment_others, wish_heard}
use Rattle.fc_hearing.proofs.Responded.{answers_heard}
use Rattle.fc_hearing.specs.Hearing.{AnswersAreHeard, AreHeardAs, AreOthers, IsAnsweredAs}
use Rattle.fc_heeding.proofs.Changing.{heard_as_read}
use Rattle.fc_heeding.specs.Heeding.{as_read}
use Rattle.fc_machine.specs.Trace.{Fact, bare_facts}
use Rattle.fc_msg.specs.Messages.{message_fits}
use Rattle.fc_numbering.specs.Numbering as numbering
use Rattle.fc_numbering.specs.Numbering.{TellsNumbers}
use Rattle.fc_msg.specs.declared.message.Message.{Message}
use Rattle.fc_msg.specs.declared.message.MsgBody.{MsgBody}
use Rattle.fc_msg.specs.declared.message.MsgBody.TheVariants as body
use Rattle.fc_path.specs.Results.{results_fit}
use Rattle.fc_path.specs.declared.oper.Select.{Select}
use Rattle.fc_performing.specs.Sending.{responses}
use Rattle.fc_performing.specs.declared.out.Out.{Out}
use Rattle.fc_phases.specs.Asking.{body_of}
use Rattle.fc_phases.specs.declared.asked.Asked.{Asked}
use Rattle.fc_protocol.specs.ElementMachine.{Circumstance, Heard, hears, only_says}
use Rattle.fc_protocol.specs.ElementMachine as protocol
use Rattle.fc_protocol.specs.Messages as said
use Rattle.fc_protocol.specs.Records as records
use Rattle.fc_protocol.specs.Records.{is_held, listed, state_of}
use Rattle.fc_protocol.specs.declared.answers.TxnEntry.{TxnEntry}
use Rattle.fc_protocol.specs.Messages.{Body, Sent, Stamp, is_epoch, is_name, is_query, sent, stamp}
use Rattle.fc_protocol.specs.Trace as facts
use Rattle.fc_protocol.specs.WorldSteps.{murmurs, spoken}
use Rattle.fc_querying.specs.Asking.{IsAssociated, IsTold, IsTxn, heeded, held_query, record_query}
use Rattle.fc_store.specs.Stores.{Pairwise}
use Rattle.fc_transactions.specs.Order.{Step, asked_of, configured}
use Rattle.fc_transactions.specs.State.{TransactionState, opened}
use Rattle.fc_types.specs.Libraries.{is_own as is_new}
use Rattle.fc_world.specs.Lookups.{node_with}
use Rattle.fc_world.specs.Worlds.{upward}
use Rattle.fc_world.specs.declared.nodes.Node.{Node}
use Rattle.fc_world.specs.declared.sent.Parcel.TheVariants.{Upward}
use Rattle.fc_world.specs.declared.setting.Setting.{Setting}
use Rattle.fc_rounds.specs.Following.{AsksConfig, AsksSo, IsElement, IsRequest, IsSent, IsUpward, NamesTxn, TellSame}
use Rattle.fc_rounds.specs.Networks.{ce_of}
use Rattle.fc_rounds.proofs.Facts.{AreAt, config_at, tell_more}
use Rattle.fc_rounds.proofs.Lasting.{Lasts, lasts, more_came}
use Rattle.fc_rounds.proofs.Pairs.{pairs_more}
use Rattle.fc_protocol.proofs.Puts.{both_first, both_second}

-- What an element is after a turn, what it has sent, and what has happened, as the protocol's element el, what is said there and the facts of it.
pub record Turned (s : Setting) (fs : List (Fact Operation)) (n : Node) (t : Turn) (el : protocol.ElementState) (gs : List facts.Fact) (ts : List Sent) : Type 0 where
  pub element : IsElement s (t.facts ++ fs) el (node_with t.state n)
  pub sent : Pairwise (IsSent s) (upward n.id t.outs) ts
  pub facts : bare_facts t.facts ≡ gs
  pub there : AreAt n.id t.facts

-- ---- what an element of the world is
module _ (s : Setting) (own : list_all is_new s.library ≡ true) (fs : List (Fact Operation)) (el : protocol.ElementState) (n : Node) (is : IsElement s fs el n) where
  pub lasting : Lasts n.id n.element.transactions
  lasting = subst (Lasts n.id) (sym is.life) (lasts n.id is.ce s.library s.instances is.came own)

  -- its ID is that by which it is named
  pub same_id : id_of n.element ≡ n.id
  same_id = lasting.own

-- ---- an input that changes nothing of what Configs change
module _ (s : Setting) (fs : List (Fact Operation)) (el : protocol.ElementState) (n : Node) (is : IsElement s fs el n) where
  still_element : (e : ElementState) → e.transactions ≡ n.element.transactions → IsElement s fs el (node_with e n)
  still_element e same = record {
    ce = is.ce;
    came = is.came;
    of_controls = is.of_controls;
    life = same ∙ is.life;
    facts = is.facts;
    like = subst (λ (t : TransactionState). IsLike t el) (sym same) is.like;
    kept = subst (λ (t : TransactionState). AreSame t.kept el.kept) (sym same) is.kept;
    heard = subst (λ (t : TransactionState). AreHeardAs t.kept el.kept) (sym same) is.heard;
  }

  pub still_turned : (t : Turn) (ts : List Sent) → t.state.transactions ≡ n.element.transactions → t.facts ≡ [] → Pairwise (IsSent s) (upward n.id t.outs) ts → Turned s fs n t el [] ts
  still_turned t ts same none sends = record {
    element = subst (λ gs. IsElement s (gs ++ fs) el (node_with t.state n)) (sym none) (still_element t.state same);
    sent = sends;
    facts = ap bare_facts none;
    there = subst (AreAt n.id) (sym none) tt;
  }

  -- no Config is taken
  pub quiet_state : (i : ElIn) → taken_at n.element i ≡ [] → (step n.element i).state.transactions ≡ n.element.transactions
  quiet_state i none = after_ledgered n.element (i ∷ []) ∙ ap (λ (cs : List Taken). (ledgered n.element.transactions (cs ++ [])).state) none

  pub quiet_facts : (i : ElIn) → taken_at n.element i ≡ [] → (step n.element i).facts ≡ []
  quiet_facts i none = facts_ledgered n.element (i ∷ []) ∙ ap (λ (cs : List Taken). (ledgered n.element.transactions (cs ++ [])).facts) none

-- ---- what is sent beside
pub others_sent : (s : Setting) (f : ℕ) (outs : List Out) → AreOthers outs → Pairwise (IsSent s) (upward f outs) (murmurs f (map (λ (o : Out). o.peer) outs))
others_sent s f [] others = tt
others_sent s f (o ∷ outs) others = ((refl, refl, (others.0, tt, tt)), others_sent s f outs others.1)

-- what a response says goes up, and tells of no transaction
abbrev Tells : Option said.Message → Type 0
Tells None = Unit {0}
Tells (Some x) = IsUpward x × TellsNumbers x

reply_tells : (r : Option Message) (x : Option said.Message) → AreSame r x → Tells x
reply_tells None None same = tt
reply_tells None (Some x) same = absurd same
reply_tells (Some r) None same = absurd same
reply_tells (Some r) (Some x) same = subst (λ y. IsUpward y × TellsNumbers y) (sym same.1) (tt, tt)

pub response_sent : (s : Setting) (f k : ℕ) (r : Option Message) (x : Option said.Message) → AreHeardAs r x → Tells x → Pairwise (IsSent s) (upward f (responses k r)) (spoken f k x)
response_sent s f k None None heard tells = tt
response_sent s f k None (Some x) heard tells = absurd heard
response_sent s f k (Some r) None heard tells = absurd heard
response_sent s f k (Some r) (Some x) heard tells = ((refl, refl, (heard.0, tells.0, tells.1)), tt)

pub both_sent : (s : Setting) (f : ℕ) (xs ys : List Out) (ts us : List Sent) → Pairwise (IsSent s) (upward f xs) ts → Pairwise (IsSent s) (upward f ys) us → Pairwise (IsSent s) (upward f (xs ++ ys)) (ts ++ us)
both_sent s f xs ys ts us first more =
    subst (λ ps. Pairwise (IsSent s) ps (ts ++ us)) (sym (map-append (λ (o : Out). Upward f o.peer o.message) xs ys)) (pairs_more (IsSent s) (upward f xs) (upward f ys) ts us first more)

controls_more : (came : List Came) (c : Came) → OfControls came → is_control c.message.source ≡ true → OfControls (came ++ c ∷ [])
controls_more [] c all control = (control, tt)
controls_more (first ∷ came) c all control = (all.0, controls_more came c all.1 control)

-- ---- what a question is
query_source : (life : Lives) (p corr : ℕ) (b : Body) → is_query b ≡ true → (request_of life p corr b).source ≡ life.ce
query_source life p corr said.Ask q = refl
query_source life p corr (said.Ask_record y) q = refl
query_source life p corr (said.Claim w) q = absurd cc
query_source life p corr (said.Sot x ps sc) q = absurd cc
query_source life p corr (said.Mot x i) q = absurd cc
query_source life p corr (said.Eot x) q = absurd cc
query_source life p corr (said.Trcomp x) q = absurd cc
query_source life p corr (said.Abt x) q = absurd cc
query_source life p corr (said.Floor x) q = absurd cc
query_source life p corr said.Malformed q = absurd cc
query_source life p corr said.Plain q = absurd cc

module _ (e : ElementState) (k : ℕ) (m : Message) (life : Lives) (p corr : ℕ) where
  query_taken : (b : Body) → is_query b ≡ true → taken_body e k m (request_of life p corr b).body ≡ []
  query_taken said.Ask q = refl
  query_taken (said.Ask_record y) q = refl
  query_taken (said.Claim w) q = absurd cc
  query_taken (said.Sot x ps sc) q = absurd cc
  query_taken (said.Mot x i) q = absurd cc
  query_taken (said.Eot x) q = absurd cc
  query_taken (said.Trcomp x) q = absurd cc
  query_taken (said.Abt x) q = absurd cc
  query_taken (said.Floor x) q = absurd cc
  query_taken said.Malformed q = absurd cc
  query_taken said.Plain q = absurd cc

  query_unheard : (b : Body) → is_query b ≡ true → is_associated e m ≡ false → on_body e k m (request_of life p corr b).body ≡ turn e []
  query_unheard said.Ask q none = ap (λ v. if v then turn (hearing e k m) (query_outs e k m held_query) else turn e []) none
  query_unheard (said.Ask_record y) q none = ap (λ v. if v then turn (hearing e k m) (query_outs e k m (record_query y)) else turn e []) none
  query_unheard (said.Claim w) q none = absurd cc
  query_unheard (said.Sot x ps sc) q none = absurd cc
  query_unheard (said.Mot x i) q none = absurd cc
  query_unheard (said.Eot x) q none = absurd cc
  query_unheard (said.Trcomp x) q none = absurd cc
  query_unheard (said.Abt x) q none = absurd cc
  query_unheard (said.Floor x) q none = absurd cc
  query_unheard said.Malformed q none = absurd cc
  query_unheard said.Plain q none = absurd cc

-- ---- the transactions that an element tells of
small_epoch : (x : Txn) → is_name x ≡ true → x.epoch < 2 ^ 32
small_epoch x name =
    let epoch = both_first (is_epoch x.epoch) (not (x.number == 0)) name in
    below x.epoch (2 ^ 32) (both_second (not (x.epoch % 256 == 0)) (nat_lt x.epoch (2 ^ 32)) (both_second (not (x.epoch / 256 == 0)) (not (x.epoch % 256 == 0) && nat_lt x.epoch (2 ^ 32)) epoch))
  where
    below : (m n : ℕ) → nat_lt m n ≡ true → m < n
    below m n h = grind arith

listed_numbers : (ns : List TxnEntry) → AllByRecursion IsTold ns → AllByRecursion (λ (v : TxnEntry). numbering.IsTxn v.txn) (listed ns)
listed_numbers [] told = tt
listed_numbers (n ∷ ns) told = by (is_held n.state) (listed_numbers ns told.1)
  where
    by : (v : Bool) → AllByRecursion (λ (v : TxnEntry). numbering.IsTxn v.txn) (listed ns) → AllByRecursion (λ (v : TxnEntry). numbering.IsTxn v.txn) (if v then records.entry n.txn n.participants [] n.state ∷ listed ns else listed ns)
    by true more = (((small_epoch n.txn told.0.txn.name, told.0.txn.number), told.0.txn.name), more)
    by false more = more

-- ---- a Config
abbrev lost : Circumstance
lost = record { unheard = true; misfit = 0; quiet = false; rest = 0; shown = 0; plain = 0; touches = []; strange = false; shape = 0; others = [] }

-- of five tests in a row the first three may fail, and then nothing is done
abbrev chosen : Bool → Bool → Bool → Bool → Bool → Turn → Turn → Turn → Turn → Turn
chosen a b c d f none one other last = if a then (if b then (if not c then none else (if not d then one else (if f then other else last))) else none) else none

choice : (a b c d f : Bool) (none one other last : Turn) → d ≡ true → f ≡ false → (chosen a b c d f none one other last ≡ none) ⊎ ((a ≡ true) × (chosen a b c d f none one other last ≡ last))
choice false b c d f none one other last own mode = inl refl
choice true false c d f none one other last own mode = inl refl
choice true true false d f none one other last own mode = inl refl
choice true true true false f none one other last own mode = absurd cc
choice true true true true true none one other last own mode = absurd cc
choice true true true true false none one other last own mode = inr (refl, refl)

module _ (e : ElementState) (k : ℕ) (m : Message) (selects : List Select) (config : m.body ≡ body.Config selects) (own : is_own e m ≡ true) (mode : m.flags.em ≡ 1) where
  pub as_chosen : step e (Arrived k m)
      ≡ chosen (is_ce m.source) (is_associated e m) (results_fit selects && message_fits m) (is_own e m) (m.flags.em == 0) (turn e []) (all_get e k m selects 4) (all_get e k m selects 18) (taking e k m (configured e.transactions k m selects))
  unfolding step
  as_chosen = ap (λ (b : MsgBody). if is_ce m.source then on_body e k m b else turn e []) config

  -- it is lost, or taken
  pub config_turn : (step e (Arrived k m) ≡ turn e []) ⊎ ((is_ce m.source ≡ true) × (step e (Arrived k m) ≡ taking e k m (configured e.transactions k m selects)))
  config_turn =
      ⊎_elim (λ none. inl (as_chosen ∙ none)) (λ last. inr (last.0, as_chosen ∙ last.1))
      (choice (is_ce m.source) (is_associated e m) (results_fit selects && message_fits m) (is_own e m) (m.flags.em == 0) (turn e []) (all_get e k m selects 4) (all_get e k m selects 18) (taking e k m (configured e.transactions k m selects))
      own (ap (λ v. v == 0) mode))

-- the element of the protocol that it is
like_is : (t : TransactionState) (el : protocol.ElementState) → IsLike t el → keeping t el.kept ≡ el
like_is t el like =
    ap (λ v. record { epoch = v; master = t.master; sequence = t.sequence; kept = el.kept; records = t.ledger.records.entries; floor = t.ledger.records.floor; ce = t.ce; last_ce = t.last_ce }) like.epoch
    ∙ ap (λ v. record { epoch = el.epoch; master = v; sequence = t.sequence; kept = el.kept; records = t.ledger.records.entries; floor = t.ledger.records.floor; ce = t.ce; last_ce = t.last_ce }) like.master
    ∙ ap (λ v. record { epoch = el.epoch; master = el.master; sequence = v; kept = el.kept; records = t.ledger.records.entries; floor = t.ledger.records.floor; ce = t.ce; last_ce = t.last_ce }) like.sequence
    ∙ ap (λ v. record { epoch = el.epoch; master = el.master; sequence = el.sequence; kept = el.kept; records = v; floor = t.ledger.records.floor; ce = t.ce; last_ce = t.last_ce }) like.records
    ∙ ap (λ v. record { epoch = el.epoch; master = el.master; sequence = el.sequence; kept = el.kept; records = el.records; floor = v; ce = t.ce; last_ce = t.last_ce }) like.floor
    ∙ ap (λ v. record { epoch = el.epoch; master = el.master; sequence = el.sequence; kept = el.kept; records = el.records; floor = el.floor; ce = v; last_ce = t.last_ce }) like.ce
    ∙ ap (λ v. record { epoch = el.epoch; master = el.master; sequence = el.sequence; kept = el.kept; records = el.records; floor = el.floor; ce = el.ce; last_ce = v }) like.last_ce

-- the same request at the same element
same_hears : (p q : ℕ) (el fl : protocol.ElementState) (k j : ℕ) (c : Circumstance) (st tu : Stamp) (b d : Body) → p ≡ q → el ≡ fl → k ≡ j → st ≡ tu → b ≡ d → hears p el k c st b ≡ hears q fl j c tu d
same_hears p q el fl k j c st tu b d ps els ks sts bs =
    ap (λ v. hears v el k c st b) ps ∙ ap (λ v. hears q v k c st b) els ∙ ap (λ v. hears q fl v c st b) ks ∙ ap (λ v. hears q fl j c v b) sts ∙ ap (λ v. hears q fl j c tu v) bs

heard_keeps : (b : Bool) (e : ElementState) (k : ℕ) (m : Message) → (hearing_if b e k m).transactions ≡ e.transactions
heard_keeps true e k m = refl
heard_keeps false e k m = refl

-- what is delivered to the protocol's element, and what became of it
pub record Delivered (s : Setting) (fs : List (Fact Operation)) (el : protocol.ElementState) (n : Node) (k : ℕ) (m : Message) (st : Stamp) (b : Body) : Type 0 where
  pub c : Circumstance
  pub turned : let h = hears n.id el (ce_of s k) c st b in Turned s fs n (step n.element (Arrived k m)) h.element h.facts (spoken n.id k h.says ++ murmurs n.id c.others)

module _ (s : Setting) (own : list_all is_new s.library ≡ true) (fs : List (Fact Operation)) (el : protocol.ElementState) (n : Node) (is : IsElement s fs el n) (k : ℕ) (m : Message) (st : Stamp) (b : Body) (request : IsRequest s k n.id m st b) where
  abbrev now : TransactionState
  now = n.element.transactions

  abbrev lasts_on : Lasts n.id now
  lasts_on = lasting s own fs el n is

  -- it is lost on the element
  lost_delivered : step n.element (Arrived k m) ≡ turn n.element [] → Delivered s fs el n k m st b
  lost_delivered none = record {
    c = lost;
    turned = subst (λ (t : Turn). Turned s fs n t el [] []) (sym none) (still_turned s fs el n is (turn n.element []) [] refl refl tt);
  }

  own_dest : is_own n.element m ≡ true
  own_dest = eq-eqb m.dest (id_of n.element) (request.dest ∙ sym lasts_on.own)

  module _ (asks : AsksConfig m st b) (control : is_ce m.source ≡ true) (codes : List ℕ) (answers : Answers now el.kept k m asks.asks.selects codes) (heard : AnswersAreHeard now el.kept k m asks.asks.selects codes) where
    abbrev selects : List Select
    selects = asks.asks.selects

    abbrev a : Asked
    a = asked_of m selects

    abbrev c : Circumstance
    c = record (telling now.ledger m selects a codes) { others = map (λ (o : Out). o.peer) heard.notices }

    abbrev done : Step
    done = configured now k m selects

    abbrev t : Turn
    t = taking n.element k m done

    abbrev h : Heard
    h = heard_of now el.kept m selects codes

    pub heard_so : hears n.id el (ce_of s k) c st b ≡ h
    heard_so =
        sym (heard_as_read n.id el (ce_of s k) c st b)
        ∙ same_hears n.id now.id el (keeping now el.kept) (ce_of s k) m.source c st (stamp m.corr) (as_read b) (body_of (stamp m.corr).count a) (sym lasts_on.own) (sym (like_is now el is.like)) (sym request.source) (sym request.stamped)
        (sym asks.asks.reads ∙ ap (λ (u : Stamp). body_of u.count a) (sym request.stamped))

    abbrev one : Came
    one = record { peer = k; message = m; selects = selects }

    abbrev before : List (Fact Operation)
    before = (life_of n.id is.ce (opened_store s.library s.instances) is.came).facts

    new_state : t.state.transactions ≡ done.state
    new_state = heard_keeps done.is_heard (with_transactions n.element done.state) k m

    new_element : IsElement s (done.facts ++ fs) h.element (node_with t.state n)
    new_element = record {
      ce = is.ce;
      came = is.came ++ one ∷ [];
      of_controls = controls_more is.came one is.of_controls control;
      life = new_state ∙ ap (λ (v : TransactionState). (configured v k m selects).state) is.life ∙ sym (ap (λ (l : Life). l.state) (more_came is.came one (opened n.id is.ce (opened_store s.library s.instances)) []));
      facts = subst (λ gs. TellSame n.id (done.facts ++ fs) gs)
          (ap (λ (v : TransactionState). (configured v k m selects).facts ++ before) is.life ∙ sym (ap (λ (l : Life). l.facts) (more_came is.came one (opened n.id is.ce (opened_store s.library s.instances)) [])))
          (tell_more n.id fs before is.facts done.facts);
      like = subst (λ (v : TransactionState). IsLike v h.element) (sym new_state) answers.state;
      kept = subst (λ (v : TransactionState). AreSame v.kept h.element.kept) (sym new_state) answers.kept;
      heard = subst (λ (v : TransactionState). AreHeardAs v.kept h.element.kept) (sym new_state) heard.kept;
    }

    says_sent : Pairwise (IsSent s) (upward n.id t.outs) (spoken n.id k h.says ++ murmurs n.id c.others)
    says_sent =
        let mastership = λ (by : is_by_store now m selects ≡ true). lasts_on.askable.mastership in
        subst (λ outs. Pairwise (IsSent s) (upward n.id outs) (spoken n.id k h.says ++ murmurs n.id c.others)) (sym heard.outs)
        (both_sent s n.id (responses k heard.response) heard.notices (spoken n.id k h.says) (murmurs n.id c.others)
        (response_sent s n.id k heard.response h.says (heard.says mastership) (reply_tells answers.response h.says (answers.says mastership))) (others_sent s n.id heard.notices heard.others))

    pub taken_turned : Turned s fs n t h.element h.facts (spoken n.id k h.says ++ murmurs n.id c.others)
    taken_turned = record {
      element = new_element;
      sent = says_sent;
      facts = answers.facts;
      there = subst (λ p. AreAt p done.facts) lasts_on.own (config_at now k m selects);
    }

    pub taken_delivered : step n.element (Arrived k m) ≡ t → Delivered s fs el n k m st b
    taken_delivered thus = record {
      c = c;
      turned = subst (λ (u : Turn). let g = hears n.id el (ce_of s k) c st b in Turned s fs n u g.element g.facts (spoken n.id k g.says ++ murmurs n.id c.others)) (sym thus)
          (subst (λ (g : Heard). Turned s fs n t g.element g.facts (spoken n.id k g.says ++ murmurs n.id c.others)) (sym heard_so) taken_turned);
    }

  pub config_delivered : AsksConfig m st b → Delivered s fs el n k m st b
  config_delivered asks =
      ⊎_elim lost_delivered
      (λ last.
      let (codes, answers) = goes now el.kept k m asks.asks.selects lasts_on.named is.kept in
      taken_delivered asks last.0 codes answers (answers_heard now el.kept k m asks.asks.selects codes asks.answerable is.heard answers) last.1)
      (config_turn n.element k m asks.asks.selects asks.asks.config own_dest asks.mode)

  -- ---- a question
  module _ (query : is_query b ≡ true) (life : Lives) (m_is : m ≡ request_of life m.dest m.corr b) where
    from_ce : m.source ≡ life.ce
    from_ce = ap (λ (v : Message). v.source) m_is ∙ query_source life m.dest m.corr b query

    -- what the element answers, where it is heard as this
    answered_turned : (x : said.Message) → IsAnsweredAs n.element k m b x → (c : Circumstance) → hears n.id el (ce_of s k) c st b ≡ only_says el (Some x) → c.others ≡ [] → IsUpward x × TellsNumbers x → Delivered s fs el n k m st b
    answered_turned x ans c thus none tells =
        let t = step n.element (Arrived k m) in record {
          c = c;
          turned =
              subst (λ ks. let h = hears n.id el (ce_of s k) c st b in Turned s fs n t h.element h.facts (spoken n.id k h.says ++ murmurs n.id ks)) (sym none)
              (subst (λ (h : Heard). Turned s fs n t h.element h.facts (spoken n.id k h.says ++ murmurs n.id [])) (sym thus)
              (still_turned s fs el n is t (sent n.id k x ∷ []) ans.stays (quiet_facts s fs el n is (Arrived k m) (none_taken (is_ce m.source)))
              (subst (λ outs. Pairwise (IsSent s) (upward n.id outs) (sent n.id k x ∷ [])) (sym ans.outs) ((refl, refl, (ans.heard, tells.0, tells.1)), tt))));
        }
      where
        none_taken : (v : Bool) → (if v then taken_body n.element k m m.body else []) ≡ []
        none_taken true = ap (λ (u : Message). taken_body n.element k m u.body) m_is ∙ query_taken n.element k m life m.dest m.corr b query
        none_taken false = refl

    -- it does not listen
    unheard_turn : (v u : Bool) → is_ce m.source ≡ v → is_associated n.element m ≡ u → (v && u) ≡ false → step n.element (Arrived k m) ≡ turn n.element []
    unfolding step
    unheard_turn false u at there none = ap (λ w. if w then on_body n.element k m m.body else turn n.element []) at
    unheard_turn true false at there none =
        ap (λ w. if w then on_body n.element k m m.body else turn n.element []) at ∙ ap (λ (u : Message). on_body n.element k m u.body) m_is ∙ query_unheard n.element k m life m.dest m.corr b query there
    unheard_turn true true at there none = absurd cc

    id_there : m.dest ≡ id_of n.element
    id_there = request.dest ∙ sym lasts_on.own

  held_delivered : b ≡ said.Ask → (life : Lives) → m ≡ request_of life m.dest m.corr b → Delivered s fs el n k m st b
  held_delivered ask life m_is = by (is_ce m.source) (is_associated n.element m) refl refl
    where
      query : is_query b ≡ true
      query = ap is_query ask

      by : (v u : Bool) → is_ce m.source ≡ v → is_associated n.element m ≡ u → Delivered s fs el n k m st b
      by false u at there = lost_delivered (unheard_turn query life m_is false u at there refl)
      by true false at there = lost_delivered (unheard_turn query life m_is true false at there refl)
      by true true at there =
          let from = from_ce query life m_is in
          let associated : IsAssociated n.element life.ce = record { control = ap is_ce (sym from) ∙ at; associated = ap (contains_key n.element.associations) (sym from) ∙ there } in
          let same : request_of life (id_of n.element) m.corr said.Ask ≡ m = ap₂ (λ d v. request_of life d m.corr v) (sym (id_there query life m_is)) (sym ask) ∙ sym m_is in
          let x : said.Message = said.Holds st el.epoch (listed el.records) in
          let told : said.Holds (stamp m.corr) now.epoch (listed now.ledger.records.entries) ≡ x =
          ap (λ v. said.Holds v now.epoch (listed now.ledger.records.entries)) request.stamped ∙ ap₂ (λ v ns. said.Holds st v (listed ns)) is.like.epoch is.like.records in
          let ans : IsAnsweredAs n.element k m b x =
          subst (λ y. IsAnsweredAs n.element k m b y) told (subst (λ v. IsAnsweredAs n.element k m v (said.Holds (stamp m.corr) now.epoch (listed now.ledger.records.entries))) (sym ask)
          (subst (λ (u : Message). IsAnsweredAs n.element k u said.Ask (said.Holds (stamp m.corr) now.epoch (listed now.ledger.records.entries))) same (held_answers n.element lasts_on.askable k m.corr life associated))) in
          let tells : TellsNumbers x = subst (λ ns. AllByRecursion (λ (v : TxnEntry). numbering.IsTxn v.txn) (listed ns)) is.like.records (listed_numbers now.ledger.records.entries lasts_on.askable.records.each) in
          answered_turned query life m_is x ans heeded (ap (hears n.id el (ce_of s k) heeded st) ask) refl (tt, tells)

  record_delivered : (y : Txn) → b ≡ said.Ask_record y → (life : Lives) → m ≡ request_of life m.dest m.corr b → IsTxn y → Delivered s fs el n k m st b
  record_delivered y ask life m_is named = by (is_ce m.source) (is_associated n.element m) refl refl
    where
      query : is_query b ≡ true
      query = ap is_query ask

      by : (v u : Bool) → is_ce m.source ≡ v → is_associated n.element m ≡ u → Delivered s fs el n k m st b
      by false u at there = lost_delivered (unheard_turn query life m_is false u at there refl)
      by true false at there = lost_delivered (unheard_turn query life m_is true false at there refl)
      by true true at there =
          let from = from_ce query life m_is in
          let associated : IsAssociated n.element life.ce = record { control = ap is_ce (sym from) ∙ at; associated = ap (contains_key n.element.associations) (sym from) ∙ there } in
          let same : request_of life (id_of n.element) m.corr (said.Ask_record y) ≡ m = ap₂ (λ d v. request_of life d m.corr v) (sym (id_there query life m_is)) (sym ask) ∙ sym m_is in
          let x : said.Message = said.Tells st y el.epoch (records.seen (state_of y el.records)) in
          let was : said.Message = said.Tells (stamp m.corr) y now.epoch (records.seen (state_of y now.ledger.records.entries)) in
          let told : was ≡ x =
          ap (λ v. said.Tells v y now.epoch (records.seen (state_of y now.ledger.records.entries))) request.stamped ∙ ap₂ (λ v ns. said.Tells st y v (records.seen (state_of y ns))) is.like.epoch is.like.records in
          let ans : IsAnsweredAs n.element k m b x =
          subst (λ z. IsAnsweredAs n.element k m b z) told (subst (λ v. IsAnsweredAs n.element k m v was) (sym ask)
          (subst (λ (u : Message). IsAnsweredAs n.element k u (said.Ask_record y) was) same (record_answers n.element lasts_on.askable k m.corr life y associated named))) in
          answered_turned query life m_is x ans heeded (ap (hears n.id el (ce_of s k) heeded st) ask) refl (tt, tt)

  pub query_delivered : is_query b ≡ true → AsksSo true m st b → Delivered s fs el n k m st b
  query_delivered query asks = by b refl query request.named
    where
      by : (d : Body) → b ≡ d → is_query d ≡ true → NamesTxn d → Delivered s fs el n k m st b
      by said.Ask same q named = held_delivered same asks.0 asks.1
      by (said.Ask_record y) same q named = record_delivered y same asks.0 asks.1 named
      by (said.Claim w) same q named = absurd cc
      by (said.Sot x ps sc) same q named = absurd cc
      by (said.Mot x i) same q named = absurd cc
      by (said.Eot x) same q named = absurd cc
      by (said.Trcomp x) same q named = absurd cc
      by (said.Abt x) same q named = absurd cc
      by (said.Floor x) same q named = absurd cc
      by said.Malformed same q named = absurd cc
      by said.Plain same q named = absurd cc

-- ---- other inputs
pub wish_turned : (s : Setting) (fs : List (Fact Operation)) (el : protocol.ElementState) (n : Node) (k : ℕ) (is : IsElement s fs el n) → Turned s fs n (step n.element (Opened k)) el [] (sent n.id k said.Setup ∷ [])
unfolding step
wish_turned s fs el n k is = still_turned s fs el n is (step n.element (Opened k)) (sent n.id k said.Setup ∷ []) refl refl ((refl, refl, (wish_heard (id_of n.element), tt, tt)), tt)

pub moment_turned : (s : Setting) (fs : List (Fact Operation)) (el : protocol.ElementState) (n : Node) (t : ℕ) (is : IsElement s fs el n)
    → Turned s fs n (step n.element (Moment t)) el [] (murmurs n.id (map (λ (o : Out). o.peer) (step n.element (Moment t)).outs))
moment_turned s fs el n t is =
    still_turned s fs el n is (step n.element (Moment t)) _ (quiet_state s fs el n is (Moment t) refl) (quiet_facts s fs el n is (Moment t) refl) (others_sent s n.id (step n.element (Moment t)).outs (moment_others n.element t))

module _ (e : ElementState) (k : ℕ) (m : Message) (result : ℕ) (response : m.body ≡ body.SetupResponse result) where
  entered_outs : (b : Bool) → (if b then turn (with_associations e (entered e.associations m.source k e.clock)) [] else turn e []).outs ≡ []
  entered_outs true = refl
  entered_outs false = refl

  body_outs : (on_body e k m m.body).outs ≡ []
  body_outs = ap (λ (b : MsgBody). (on_body e k m b).outs) response ∙ entered_outs (is_own e m && result == 0)

  response_outs : (b : Bool) → is_ce m.source ≡ b → (step e (Arrived k m)).outs ≡ []
  unfolding step
  response_outs true at = ap (λ c. (if c then on_body e k m m.body else turn e []).outs) at ∙ body_outs
  response_outs false at = ap (λ c. (if c then on_body e k m m.body else turn e []).outs) at

pub other_turned : (s : Setting) (fs : List (Fact Operation)) (el : protocol.ElementState) (n : Node) (k : ℕ) (m : Message) (is : IsElement s fs el n) (result : ℕ) → m.body ≡ body.SetupResponse result → Turned s fs n (step n.element (Arrived k m)) el [] []
other_turned s fs el n k m is result response =
    still_turned s fs el n is (step n.element (Arrived k m)) [] (quiet_state s fs el n is (Arrived k m) (none_taken (is_ce m.source))) (quiet_facts s fs el n is (Arrived k m) (none_taken (is_ce m.source)))
    (subst (λ outs. Pairwise (IsSent s) (upward n.id outs) []) (sym (response_outs n.element k m result response (is_ce m.source) refl)) tt)
  where
    none_taken : (b : Bool) → (if b then taken_body n.element k m m.body else []) ≡ []
    none_taken true = ap (taken_body n.element k m) response
    none_taken false = refl
