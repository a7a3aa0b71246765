-- No report on a network tells two outcomes of one transaction.
use Rattle.std.proofs.Common.{◌≡◌, ◌<◌, ◌^◌, ℕ, ◌==◌, ◌%◌, ◌/◌, Bool, true, false, List, [], ◌∷◌, ◌++◌, codes, decimal, Option, Some, None, ◌⊎◌, inl, inr, refl, sym, ap, ap₂, ◌∙◌, subst, arith, append-nil, if◌then◌else◌, map, not, nat_eq, ◌||◌, eq-eqb, eqb-true}
use Rattle.std.specs.List.{AllByRecursion, flat_map, list_any}
use Rattle.std.proofs.lemmas.Bool.{and_parts}
use Rattle.fc_types.specs.Ids.{is_distinct}
use Rattle.std.proofs.lemmas.Fmt.{decimal_injective}
use Rattle.std.proofs.lemmas.List.{append_cancel_left}
use Rattle.std.proofs.lemmas.Option.{same_Some}
use Rattle.fc_agreement.proofs.Numbers.{bounded_law}
use Rattle.fc_base.specs.Hex.{hex}
use Rattle.fc_base.specs.Ids.{Txn, txn_text}
use Rattle.fc_element.specs.Configuration.{configured}
use Rattle.fc_element.specs.ElementState.{settled_store}
use Rattle.fc_element.specs.Reports as element
use Rattle.fc_element.specs.declared.configured.Configured.{Configured}
use Rattle.fc_exec.specs.declared.operations.Operation.{Operation}
use Rattle.fc_machine.specs.Trace.{Fact, bare_facts}
use Rattle.fc_master.specs.Reports as master
use Rattle.fc_protocol.specs.Collections.{In}
use Rattle.fc_protocol.specs.MasterMachine.{Refusal, Deposed, TooMany, Stranger, NotReady, Busy, Spent, Unsettled, Unknown, Decided}
use Rattle.fc_protocol.specs.declared.answers.TxnEntry.{TxnEntry}
use Rattle.fc_protocol.specs.declared.states.Decision.{Decision}
use Rattle.fc_protocol.specs.declared.states.Decision.TheVariants.{Complete, Abort}
use Rattle.fc_protocol.specs.declared.states.TxnState.{TxnState}
use Rattle.fc_protocol.specs.declared.states.TxnState.TheVariants.{Started, Prepared, Completed, Aborted}
use Rattle.fc_store.specs.Stores.{Stored}
use Rattle.fc_transactions.specs.State.{TransactionState}
use Rattle.fc_world.specs.Reports.{busy_text, controller_lines, node_lines, number_text, refusal_line, refusal_text, running_lines, sent_count, sent_line, stopped_line, world_report}
use Rattle.fc_world.specs.Worlds.{Ruling, Standing, WorldState, first_world as first, number_of}
use Rattle.fc_world.specs.declared.nodes.Node.{Node}
use Rattle.fc_steps.proofs.Cuts.{cut_at, lacks}
use Rattle.fc_steps.specs.Words.{cut}
use Rattle.fc_steps.specs.declared.step.Step.{Step as Made}
use Rattle.fc_protocol.proofs.Basics.{same_self, same_true}
use Rattle.fc_protocol.specs.Floors.{is_below}
use Rattle.fc_protocol.specs.Messages.{same}
use Rattle.fc_protocol.specs.OneElement.{Distinct, end_of}
use Rattle.fc_protocol.specs.Records.{state_of}
use Rattle.fc_protocol.specs.Trace.{Settled_at}
use Rattle.fc_protocol.specs.WorldSteps.{first_world, run}
use Rattle.fc_world.specs.Lookups.{controller_in, life_of as life_in, ruling_in}
use Rattle.fc_master.specs.Reports.{outcome}
use Rattle.fc_numbering.specs.Numbering.{DrivesNumbers, IsInNumbers}
use Rattle.fc_protocol.specs.Jobs.{Job, is_settled}
use Rattle.fc_world.specs.Played.{AreMade}
use Rattle.fc_world.specs.Settings.{IsNetwork}
use Rattle.fc_world.specs.WorldSteps as world
use Rattle.fc_world.specs.declared.setting.Setting.{Setting}
use Rattle.fc_rounds.proofs.Runs.{agrees, goes}
use Rattle.fc_rounds.specs.Following.{IsController, RunsSo, core_in, GoesOn, IsElement}
use Rattle.fc_rounds.specs.Networks.{network_of}
use Rattle.fc_rounds.proofs.Telling.{tells_all}
use Rattle.fc_rounds.specs.Lines.{AreNumbered, OneOutcome, OneWord, ReportTells, job_line, lines_of, settled_line}
use Rattle.fc_rounds.specs.Promise.{Tells}
use Rattle.fc_rounds.proofs.Participants.{job_agrees, jobs_one}
use Rattle.fc_rounds.proofs.Lines.{Adds, IsLine, Shows, adds_all, adds_both, adds_line, adds_none, decimal_lacks, hex_lacks, hex_text_lacks, in_front, lacks_more, number_lacks, shows_all, shows_first, shows_line, shows_second, txn_close, txn_lacks}

-- the transaction and the word behind it are read back
pub words_of : (front : List ℕ) (x y : Txn) (a b : List ℕ) → front ++ (txn_text x ++ 32 ∷ a) ≡ front ++ (txn_text y ++ 32 ∷ b) → (txn_text x ≡ txn_text y) × (a ≡ b)
words_of front x y a b h =
    let same = append_cancel_left front (txn_text x ++ 32 ∷ a) (txn_text y ++ 32 ∷ b) h in
    let pair : Some (txn_text x, a) ≡ Some (txn_text y, b) = sym (cut_at 32 (txn_text x) a (txn_close x)) ∙ ap (cut 32) same ∙ cut_at 32 (txn_text y) b (txn_close y) in
    let parts = same_Some (txn_text x, a) (txn_text y, b) pair in
    (ap (λ p. p.0) parts, ap (λ p. p.1) parts)

-- ---- the lines of each part
-- the line of a record, without its line feed
abbrev pub record_of : TxnEntry → List ℕ
record_of n = codes "record " ++ (txn_text n.txn ++ (codes " " ++ element.state_name n.state))

-- the first byte is this one
abbrev begins : ℕ → List ℕ → Bool
begins c [] = false
begins c (b ∷ bs) = b == c

-- a job of a control element that runs, in its line
record JobPart (ks : List Standing) (line : List ℕ) : Type 0 where
  standing : Standing
  ruling : Ruling
  job : Job
  decision : Decision
  there : In standing ks
  runs : standing.running ≡ Some ruling
  kept : In job ruling.core.jobs
  says : outcome job ≡ Some decision
  is : line ≡ job_line job.txn decision

-- a line of neither
record Other (line : List ℕ) : Type 0 where
  plain : begins 114 line ≡ false
  apart : (x : Txn) (d : Decision) → line ≡ job_line x d → ⊥

-- a line is that of a record of one of these elements, or of a job that a control element keeps, or begins in another way
abbrev IsPart : WorldState → List ℕ → Type 0
IsPart w line = ((n : Node) × (e : TxnEntry) × In n w.nodes × In e n.element.transactions.ledger.records.entries × (line ≡ record_of e)) ⊎ (JobPart w.controllers line ⊎ Other line)

other : (w : WorldState) (line : List ℕ) → begins 114 line ≡ false → begins 116 line ≡ false → IsPart w line
other w line h k = inr (inr (record { plain = h; apart = λ x d e. let wrong : true ≡ false = sym (ap (begins 116) e) ∙ k in cc }))

state_line : (s : TxnState) → IsLine (element.state_name s ++ codes "\n") (element.state_name s)
state_line Started = record { whole = refl; one = refl }
state_line Prepared = record { whole = refl; one = refl }
state_line Completed = record { whole = refl; one = refl }
state_line Aborted = record { whole = refl; one = refl }

end_line : IsLine (codes "\n") []
end_line = record { whole = refl; one = refl }

ended : (xs : List ℕ) → lacks 10 xs ≡ true → IsLine (xs ++ codes "\n") xs
ended xs h = record { whole = refl; one = h }

record_is : (n : TxnEntry) → IsLine (element.record_line n) (record_of n)
unfolding element.record_line
record_is n = in_front (codes "record ") _ _ refl (in_front (txn_text n.txn) _ _ (txn_lacks n.txn) (in_front (codes " ") _ _ refl (state_line n.state)))

module _ (w : WorldState) where
  abbrev Part : List ℕ → Type 0
  Part = IsPart w

  head_adds : (t : TransactionState) → Adds Part (element.head_line t)
  unfolding element.head_line
  head_adds t =
      adds_line Part _ _ (in_front (codes "element ") _ _ refl (in_front (decimal t.id) _ _ (decimal_lacks t.id) (in_front (codes " epoch ") _ _ refl (in_front (decimal t.epoch) _ _ (decimal_lacks t.epoch)
      (in_front (codes " ce ") _ _ refl (in_front (hex 8 t.ce) _ _ (hex_lacks 8 t.ce) (in_front (codes " sequence ") _ _ refl (ended (decimal t.sequence) (decimal_lacks t.sequence))))))))) (other w _ refl refl)

  floor_adds : (f : Option Txn) → Adds Part (element.floor_line f)
  unfolding element.floor_line
  floor_adds None = adds_none Part
  floor_adds (Some f) = adds_line Part _ _ (in_front (codes "floor ") _ _ refl (ended (txn_text f) (txn_lacks f))) (other w _ refl refl)

  record_adds : (n : Node) → In n w.nodes → (e : TxnEntry) → In e n.element.transactions.ledger.records.entries → Adds Part (element.record_line e)
  record_adds n i e j = adds_line Part _ _ (record_is e) (inl (n, e, i, j, refl))

  bytes_lack : (bytes : List ℕ) → lacks 10 (element.bytes_text bytes) ≡ true
  bytes_lack [] = refl
  bytes_lack (b ∷ bs) = hex_text_lacks (b ∷ bs)

  form_lacks : (o : Option (List ℕ)) → lacks 10 (element.form_text o) ≡ true
  form_lacks None = refl
  form_lacks (Some bytes) = bytes_lack bytes

  component_lacks : (c : Configured) → lacks 10 (element.component_text c) ≡ true
  unfolding element.component_text
  component_lacks c =
      lacks_more 10 (hex 8 c.class) (codes " " ++ (hex 8 c.instance ++ (codes " " ++ decimal c.component))) (hex_lacks 8 c.class) (lacks_more 10 (codes " ") (hex 8 c.instance ++ (codes " " ++ decimal c.component)) refl
      (lacks_more 10 (hex 8 c.instance) (codes " " ++ decimal c.component) (hex_lacks 8 c.instance) (lacks_more 10 (codes " ") (decimal c.component) refl (decimal_lacks c.component))))

  config_adds : (c : Configured) → Adds Part (element.config_line c)
  unfolding element.config_line
  config_adds c = adds_line Part _ _ (in_front (codes "config ") _ _ refl (in_front (element.component_text c) _ _ (component_lacks c) (in_front (codes " ") _ _ refl (ended (element.form_text c.form) (form_lacks c.form))))) (other w _ refl refl)

  configs_add : (s : Stored) → Adds Part (element.config_lines s)
  unfolding element.config_lines
  configs_add s = adds_all Part element.config_line (configured s) (λ c i. config_adds c)

  node_adds : (n : Node) → In n w.nodes → Adds Part (node_lines n)
  node_adds n i =
      let t = n.element.transactions in
      adds_both Part (element.head_line t) _ (head_adds t) (adds_both Part (element.floor_line t.ledger.records.floor) _ (floor_adds t.ledger.records.floor)
      (adds_both Part (flat_map element.record_line t.ledger.records.entries) _ (adds_all Part element.record_line t.ledger.records.entries (record_adds n i)) (configs_add (settled_store t.ledger))))

  -- the line of a record stands there
  node_shows : (n : Node) → In n w.nodes → (e : TxnEntry) → In e n.element.transactions.ledger.records.entries → Shows (record_of e) (node_lines n)
  node_shows n i e j =
      let t = n.element.transactions in
      let lines = shows_all Part element.record_line (record_of e) t.ledger.records.entries e (record_adds n i) j (shows_line (element.record_line e) (record_of e) (record_is e)) in
      shows_second Part (record_of e) (element.head_line t) _ (head_adds t) (shows_second Part (record_of e) (element.floor_line t.ledger.records.floor) _ (floor_adds t.ledger.records.floor)
      (shows_first (record_of e) (flat_map element.record_line t.ledger.records.entries) (element.config_lines (settled_store t.ledger)) lines))

  -- ---- the other lines
  busy_lacks : (o : Option Txn) → lacks 10 (busy_text o) ≡ true
  busy_lacks None = refl
  busy_lacks (Some x) = txn_lacks x

  word_lacks : (word : List ℕ) (n : ℕ) → lacks 10 word ≡ true → lacks 10 (number_text word n) ≡ true
  word_lacks word n h = lacks_more 10 word (codes " " ++ decimal n) h (lacks_more 10 (codes " ") (decimal n) refl (decimal_lacks n))

  refused_lacks : (r : Refusal) → lacks 10 (refusal_text r) ≡ true
  refused_lacks (Deposed seen) = word_lacks (codes "deposed") seen refl
  refused_lacks (TooMany count) = word_lacks (codes "toomany") count refl
  refused_lacks (Stranger f) = word_lacks (codes "stranger") f refl
  refused_lacks (NotReady f) = word_lacks (codes "notready") f refl
  refused_lacks (Busy f x) = lacks_more 10 (codes "busy ") (decimal f ++ (codes " " ++ busy_text x)) refl (lacks_more 10 (decimal f) (codes " " ++ busy_text x) (decimal_lacks f) (lacks_more 10 (codes " ") (busy_text x) refl (busy_lacks x)))
  refused_lacks Spent = refl
  refused_lacks (Unsettled x) = lacks_more 10 (codes "unsettled ") (txn_text x) refl (txn_lacks x)
  refused_lacks Unknown = refl
  refused_lacks (Decided d) = refl

  refusal_adds : (r : ℕ × Refusal) → Adds Part (refusal_line r)
  unfolding refusal_line
  refusal_adds r = adds_line Part _ _ (in_front (codes "step ") _ _ refl (in_front (decimal r.0) _ _ (decimal_lacks r.0) (in_front (codes " ") _ _ refl (ended (refusal_text r.1) (refused_lacks r.1))))) (other w _ refl refl)

  stopped_adds : (c : ℕ) → Adds Part (stopped_line c)
  unfolding stopped_line
  stopped_adds c = adds_line Part _ _ (in_front (codes "controller ") _ _ refl (in_front (decimal c) _ _ (decimal_lacks c) (ended (codes " stopped") refl))) (other w _ refl refl)

  life_adds : (e : ℕ) (o : Option ℕ) → Adds Part (master.life_line e o)
  unfolding master.life_line
  life_adds e None =
      adds_line Part _ _ (in_front (codes "controller ") _ _ refl (in_front (decimal (e % 256)) _ _ (decimal_lacks (e % 256)) (in_front (codes " round ") _ _ refl (in_front (decimal (e / 256)) _ _ (decimal_lacks (e / 256))
      (in_front (codes " epoch ") _ _ refl (ended (decimal e) (decimal_lacks e))))))) (other w _ refl refl)
  life_adds e (Some seen) =
      adds_line Part _ _ (in_front (codes "controller ") _ _ refl (in_front (decimal (e % 256)) _ _ (decimal_lacks (e % 256)) (in_front (codes " round ") _ _ refl (in_front (decimal (e / 256)) _ _ (decimal_lacks (e / 256))
      (in_front (codes " epoch ") _ _ refl (in_front (decimal e) _ _ (decimal_lacks e) (in_front (codes " deposed ") _ _ refl (ended (decimal seen) (decimal_lacks seen))))))))) (other w _ refl refl)

  unsettled_apart : (y x : Txn) (d : Decision) → codes "txn " ++ (txn_text y ++ codes " unsettled") ≡ job_line x d → ⊥
  unsettled_apart y x Complete h = let wrong : true ≡ false = ap (begins 117) (words_of (codes "txn ") y x (codes "unsettled") (codes "completed") h).1 in cc
  unsettled_apart y x Abort h = let wrong : true ≡ false = ap (begins 117) (words_of (codes "txn ") y x (codes "unsettled") (codes "aborted") h).1 in cc

  job_adds : (k : Standing) (r : Ruling) (j : Job) → In k w.controllers → k.running ≡ Some r → In j r.core.jobs → (o : Option Decision) → outcome j ≡ o → Adds Part (master.txn_line j.txn o)
  unfolding master.txn_line
  job_adds k r j there runs kept None says =
      adds_line Part _ _ (in_front (codes "txn ") _ _ refl (in_front (txn_text j.txn) _ _ (txn_lacks j.txn) (ended (codes " unsettled") refl)))
      (inr (inr (record { plain = refl; apart = unsettled_apart j.txn })))
  job_adds k r j there runs kept (Some Complete) says =
      adds_line Part _ _ (in_front (codes "txn ") _ _ refl (in_front (txn_text j.txn) _ _ (txn_lacks j.txn) (ended (codes " completed") refl)))
      (inr (inl (record { standing = k; ruling = r; job = j; decision = Complete; there = there; runs = runs; kept = kept; says = says; is = refl })))
  job_adds k r j there runs kept (Some Abort) says =
      adds_line Part _ _ (in_front (codes "txn ") _ _ refl (in_front (txn_text j.txn) _ _ (txn_lacks j.txn) (ended (codes " aborted") refl)))
      (inr (inl (record { standing = k; ruling = r; job = j; decision = Abort; there = there; runs = runs; kept = kept; says = says; is = refl })))

  controller_adds : (k : Standing) → In k w.controllers → Adds Part (controller_lines k)
  controller_adds k there = by k.running refl
    where
      by : (o : Option Ruling) → k.running ≡ o → Adds Part (running_lines (number_of k.ce) o)
      by None runs = stopped_adds (number_of k.ce)
      by (Some r) runs =
          adds_both Part (master.life_line r.core.epoch r.core.deposed) _ (life_adds r.core.epoch r.core.deposed) (adds_all Part master.job_line r.core.jobs (λ j i. job_adds k r j there runs i (outcome j) refl))

  sent_adds : (n : ℕ) → Adds Part (sent_line n)
  unfolding sent_line
  sent_adds n = adds_line Part _ _ (in_front (codes "sent ") _ _ refl (ended (decimal n) (decimal_lacks n))) (other w _ refl refl)

-- each line of the report is one of these
report_adds : (w : WorldState) → Adds (IsPart w) (world_report w)
report_adds w =
    let P = IsPart w in
    adds_both P (flat_map refusal_line w.refused) _ (adds_all P refusal_line w.refused (λ r i. refusal_adds w r))
    (adds_both P (flat_map node_lines w.nodes) _ (adds_all P node_lines w.nodes (node_adds w))
    (adds_both P (flat_map controller_lines w.controllers) _ (adds_all P controller_lines w.controllers (controller_adds w)) (sent_adds w (sent_count w))))

pub report_shows : (w : WorldState) (n : Node) (e : TxnEntry) → In n w.nodes → In e n.element.transactions.ledger.records.entries → In (record_of e) (lines_of (world_report w))
report_shows w n e i j =
    let P = IsPart w in
    let shows = shows_second P (record_of e) (flat_map refusal_line w.refused) _ (adds_all P refusal_line w.refused (λ r i. refusal_adds w r))
    (shows_first (record_of e) (flat_map node_lines w.nodes) (flat_map controller_lines w.controllers ++ sent_line (sent_count w))
    (shows_all P node_lines (record_of e) w.nodes n (node_adds w) i (node_shows w n i e j))) in
    subst (λ t. In (record_of e) (lines_of t)) (append-nil (world_report w)) (shows [])

-- ---- what a line of a record says
states_name : (s : TxnState) → element.state_name s ≡ codes "completed" → s ≡ Completed
states_name Started h = let wrong : false ≡ true = ap (begins 99) h in cc
states_name Prepared h = let wrong : false ≡ true = ap (begins 99) h in cc
states_name Completed h = refl
states_name Aborted h = let wrong : false ≡ true = ap (begins 99) h in cc

states_abort : (s : TxnState) → element.state_name s ≡ codes "aborted" → s ≡ Aborted
states_abort Started h = let wrong : false ≡ true = ap (begins 97) h in cc
states_abort Prepared h = let wrong : false ≡ true = ap (begins 97) h in cc
states_abort Completed h = let wrong : false ≡ true = ap (begins 97) h in cc
states_abort Aborted h = refl

-- and so are its numbers, where they are not too large
pub txn_of_text : (x y : Txn) → x.epoch < 2 ^ 32 → x.number < 2 ^ 32 → y.epoch < 2 ^ 32 → y.number < 2 ^ 32 → txn_text x ≡ txn_text y → x ≡ y
txn_of_text x y a b c d h =
    let pair : Some (decimal x.epoch, decimal x.number) ≡ Some (decimal y.epoch, decimal y.number) =
    sym (cut_at 46 (decimal x.epoch) (decimal x.number) (number_lacks 46 x.epoch (omega arith))) ∙ ap (cut 46) h ∙ cut_at 46 (decimal y.epoch) (decimal y.number) (number_lacks 46 y.epoch (omega arith)) in
    let parts = same_Some (decimal x.epoch, decimal x.number) (decimal y.epoch, decimal y.number) pair in
    ap₂ (λ (e n : ℕ). record { epoch = e; number = n }) (decimal_injective x.epoch y.epoch (wide x.epoch a) (wide y.epoch c) (ap (λ p. p.0) parts))
    (decimal_injective x.number y.number (wide x.number b) (wide y.number d) (ap (λ p. p.1) parts))
  where
    wide : (n : ℕ) → n < 2 ^ 32 → n < 2 ^ 64
    wide n h = omega (arith, h)

-- ---- a record that stands there is the one that is found
pub stands : (e : TxnEntry) (es : List TxnEntry) → Distinct es → In e es → state_of e.txn es ≡ Some e.state
stands e [] single i = absurd i
stands e (f ∷ es) single (inl is) =
    subst (λ (g : TxnEntry). state_of e.txn (g ∷ es) ≡ Some e.state) is (ap (λ b. if b then Some e.state else state_of e.txn es) (same_self e.txn))
stands e (f ∷ es) single (inr more) = by (same e.txn f.txn) refl (stands e es single.1 more)
  where
    by : (b : Bool) → same e.txn f.txn ≡ b → state_of e.txn es ≡ Some e.state → (if b then Some f.state else state_of e.txn es) ≡ Some e.state
    by false at later = later
    by true at later =
        let wrong : None ≡ Some e.state = sym single.0 ∙ ap (λ (x : Txn). state_of x es) (sym (same_true e.txn f.txn at)) ∙ later in
        cc

in_all : {X : Type 0} (P : X → Type 0) (x : X) (xs : List X) → AllByRecursion P xs → In x xs → P x
in_all P x [] all i = absurd i
in_all P x (y ∷ ys) all (inl is) = subst P (sym is) all.0
in_all P x (y ∷ ys) all (inr more) = in_all P x ys all.1 more

-- a record that tells an end of a transaction stands for its fact
pub fact_of_record : (fs : List (Fact Operation)) (n : Node) (e : TxnEntry) (d : Decision) → Tells fs n → In e n.element.transactions.ledger.records.entries → e.state ≡ end_of d → In (Settled_at n.id e.txn d) (bare_facts fs)
fact_of_record fs n e d tells i ends =
    let here = stands e n.element.transactions.ledger.records.entries tells.single i ∙ ap (λ s. Some s) ends in
    by (is_below e.txn n.element.transactions.ledger.records.floor) refl here
  where
    by : (b : Bool) → is_below e.txn n.element.transactions.ledger.records.floor ≡ b → state_of e.txn n.element.transactions.ledger.records.entries ≡ Some (end_of d) → In (Settled_at n.id e.txn d) (bare_facts fs)
    by false above here = (tells.settled e.txn d above).1 here
    by true under here = let wrong : None ≡ Some (end_of d) = sym (tells.below e.txn under) ∙ here in cc

-- ---- a line of a report that begins as one of a record is one
pub record Found (ns : List Node) (line : List ℕ) : Type 0 where
  pub node : Node
  pub entry : TxnEntry
  pub there : In node ns
  pub kept : In entry node.element.transactions.ledger.records.entries
  pub is : line ≡ record_of entry

pub found : (w : WorldState) (line : List ℕ) → begins 114 line ≡ true → In line (lines_of (world_report w)) → Found w.nodes line
found w line is_record i = by ((report_adds w).only line [] (subst (λ t. In line (lines_of t)) (sym (append-nil (world_report w))) i))
  where
    by : IsPart w line ⊎ In line (lines_of []) → Found w.nodes line
    by (inl (inl (n, e, there, kept, is))) = record { node = n; entry = e; there = there; kept = kept; is = is }
    by (inl (inr (inl job))) = let wrong : false ≡ true = sym (ap (begins 114) job.is) ∙ is_record in cc
    by (inl (inr (inr away))) = let wrong : false ≡ true = sym away.plain ∙ is_record in cc
    by (inr (inl none)) = let wrong : false ≡ true = ap (begins 114) (sym none) ∙ is_record in cc
    by (inr (inr more)) = absurd more

-- a line that says how a job was settled is one of a job
found_job : (w : WorldState) (x : Txn) (d : Decision) → In (job_line x d) (lines_of (world_report w)) → JobPart w.controllers (job_line x d)
found_job w x d i = by ((report_adds w).only (job_line x d) [] (subst (λ t. In (job_line x d) (lines_of t)) (sym (append-nil (world_report w))) i))
  where
    by : IsPart w (job_line x d) ⊎ In (job_line x d) (lines_of []) → JobPart w.controllers (job_line x d)
    by (inl (inl (n, e, there, kept, is))) = let wrong : false ≡ true = ap (begins 114) is in cc
    by (inl (inr (inl job))) = job
    by (inl (inr (inr away))) = absurd (away.apart x d refl)
    by (inr (inl none)) = let wrong : false ≡ true = ap (begins 116) (sym none) in cc
    by (inr (inr more)) = absurd more

-- what that line says
job_words : (x y : Txn) (d e : Decision) → job_line x d ≡ job_line y e → (txn_text x ≡ txn_text y) × (d ≡ e)
job_words x y Complete Complete h = ((words_of (codes "txn ") x y (codes "completed") (codes "completed") h).0, refl)
job_words x y Abort Abort h = ((words_of (codes "txn ") x y (codes "aborted") (codes "aborted") h).0, refl)
job_words x y Complete Abort h = let wrong : true ≡ false = ap (begins 99) (words_of (codes "txn ") x y (codes "completed") (codes "aborted") h).1 in cc
job_words x y Abort Complete h = let wrong : true ≡ false = ap (begins 97) (words_of (codes "txn ") x y (codes "aborted") (codes "completed") h).1 in cc

-- where no two have one number, each is found by its own
stands_first : (ks : List Standing) (k : Standing) → is_distinct nat_eq (map number_of (map (λ (c : Standing). c.ce) ks)) ≡ true → In k ks → controller_in (number_of k.ce) ks ≡ Some k
stands_first [] k apart i = absurd i
stands_first (c ∷ ks) k apart (inl is) = ap (λ b. if b then Some c else controller_in (number_of k.ce) ks) (self (number_of k.ce) (number_of c.ce) (ap (λ (v : Standing). number_of v.ce) is)) ∙ ap (λ v. Some v) (sym is)
  where
    self : (m n : ℕ) → m ≡ n → (m == n) ≡ true
    self m n h = eq-eqb m n h
stands_first (c ∷ ks) k apart (inr more) =
    let parts = and_parts (not (list_any (nat_eq (number_of c.ce)) (map number_of (map (λ (v : Standing). v.ce) ks)))) (is_distinct nat_eq (map number_of (map (λ (v : Standing). v.ce) ks))) apart in
    by (number_of k.ce == number_of c.ce) refl parts.0 (stands_first ks k parts.1 more)
  where
    listed : (vs : List Standing) → In k vs → nat_eq (number_of c.ce) (number_of k.ce) ≡ true → list_any (nat_eq (number_of c.ce)) (map number_of (map (λ (v : Standing). v.ce) vs)) ≡ true
    listed [] i same = absurd i
    listed (v ∷ vs) (inl is) same = any_first (nat_eq (number_of c.ce) (number_of v.ce)) _ (ap (λ (u : Standing). nat_eq (number_of c.ce) (number_of u.ce)) (sym is) ∙ same)
      where
        any_first : (a b : Bool) → a ≡ true → (a || b) ≡ true
        any_first true b h = refl
        any_first false b h = cc
    listed (v ∷ vs) (inr later) same = any_later (nat_eq (number_of c.ce) (number_of v.ce)) _ (listed vs later same)
      where
        any_later : (a b : Bool) → b ≡ true → (a || b) ≡ true
        any_later true b h = refl
        any_later false b h = h

    by : (b : Bool) → (number_of k.ce == number_of c.ce) ≡ b → not (list_any (nat_eq (number_of c.ce)) (map number_of (map (λ (v : Standing). v.ce) ks))) ≡ true → controller_in (number_of k.ce) ks ≡ Some k
        → (if b then Some c else controller_in (number_of k.ce) ks) ≡ Some k
    by false at none later = later
    by true at none later =
        let same : nat_eq (number_of c.ce) (number_of k.ce) ≡ true = eq-eqb (number_of c.ce) (number_of k.ce) (sym (eqb-true (number_of k.ce) (number_of c.ce) at)) in
        let wrong : false ≡ true = ap not (sym (listed ks more same)) ∙ none in
        cc

-- ---- of every network
abbrev Small : TxnEntry → Type 0
Small e = (e.txn.epoch < 2 ^ 32) × (e.txn.number < 2 ^ 32)

module _ (s : Setting) (done : List (ℕ × Made)) (is : IsNetwork s) (made : AreMade s.transactions (first s) done) where
  abbrev now : WorldState
  now = world.run s.transactions (first s) done

  abbrev trace : List (Fact Operation)
  trace = world.facts s.transactions (first s) done

  abbrev gone : GoesOn s now trace (first_world (network_of s))
  gone = goes s done is made

  abbrev IsHere : Node → Type 0
  IsHere n = IsElement s trace ((run gone.steps (first_world (network_of s))).at n.id) n

  small : (n : Node) (e : TxnEntry) → In n now.nodes → In e n.element.transactions.ledger.records.entries → Small e
  small n e i j =
      let it = in_all IsHere n now.nodes gone.follows.elements i in
      let (requests, elements, sent, floors, masters, begun, records) = bounded_law (network_of s) gone.steps in
      records n.id e (subst (In e) it.like.records j)

  -- a record that stands in a line of this transaction, with this end
  record Ended (x : Txn) (d : Decision) : Type 0 where
    node : Node
    entry : TxnEntry
    there : In node now.nodes
    kept : In entry node.element.transactions.ledger.records.entries
    text : txn_text entry.txn ≡ txn_text x
    ends : entry.state ≡ end_of d

  ended_by : (x : Txn) (d : Decision) → In (settled_line x d) (lines_of (world_report now)) → Ended x d
  ended_by x Complete i =
      let a = found now (settled_line x Complete) refl i in
      let p = words_of (codes "record ") a.entry.txn x (element.state_name a.entry.state) (codes "completed") (sym a.is) in
      record { node = a.node; entry = a.entry; there = a.there; kept = a.kept; text = p.0; ends = states_name a.entry.state p.1 }
  ended_by x Abort i =
      let a = found now (settled_line x Abort) refl i in
      let p = words_of (codes "record ") a.entry.txn x (element.state_name a.entry.state) (codes "aborted") (sym a.is) in
      record { node = a.node; entry = a.entry; there = a.there; kept = a.kept; text = p.0; ends = states_abort a.entry.state p.1 }

  tells : (n : Node) → In n now.nodes → Tells trace n
  tells n i = in_all (Tells trace) n now.nodes (tells_all s done is made) i

  settled_by : (x : Txn) (d : Decision) (a : Ended x d) → In (Settled_at a.node.id a.entry.txn d) (bare_facts trace)
  settled_by x d a = fact_of_record trace a.node a.entry d (tells a.node a.there) a.kept a.ends

  happens : (x : Txn) (d : Decision) → x.epoch < 2 ^ 32 → x.number < 2 ^ 32 → In (settled_line x d) (lines_of (world_report now)) → (n : Node) × In n now.nodes × In (Settled_at n.id x d) (bare_facts trace)
  happens x d low high i =
      let a = ended_by x d i in
      let m = small a.node a.entry a.there a.kept in
      let same : a.entry.txn ≡ x = txn_of_text a.entry.txn x m.0 m.1 low high a.text in
      (a.node, a.there, subst (λ (y : Txn). In (Settled_at a.node.id y d) (bare_facts trace)) same (settled_by x d a))

  -- a record that is found stands there
  found_in : (x : Txn) (v : TxnState) (es : List TxnEntry) → state_of x es ≡ Some v → (e : TxnEntry) × In e es × (e.txn ≡ x) × (e.state ≡ v)
  found_in x v [] h = cc
  found_in x v (e ∷ es) h = by (same x e.txn) refl h (found_in x v es)
    where
      by : (b : Bool) → same x e.txn ≡ b → (if b then Some e.state else state_of x es) ≡ Some v → (state_of x es ≡ Some v → (f : TxnEntry) × In f es × (f.txn ≡ x) × (f.state ≡ v))
          → (f : TxnEntry) × In f (e ∷ es) × (f.txn ≡ x) × (f.state ≡ v)
      by true at here more = (e, inl refl, sym (same_true x e.txn at), same_Some e.state v here)
      by false at here more = let (f, i, is, v) = more here in (f, inr i, is, v)

  line_of : (e : TxnEntry) (x : Txn) (d : Decision) → e.txn ≡ x → e.state ≡ end_of d → record_of e ≡ settled_line x d
  line_of e x Complete is ends = ap₂ (λ (y : Txn) (v : TxnState). codes "record " ++ (txn_text y ++ (codes " " ++ element.state_name v))) is ends
  line_of e x Abort is ends = ap₂ (λ (y : Txn) (v : TxnState). codes "record " ++ (txn_text y ++ (codes " " ++ element.state_name v))) is ends

  shown : (n : Node) (x : Txn) (d : Decision) → In n now.nodes → is_below x n.element.transactions.ledger.records.floor ≡ false → In (Settled_at n.id x d) (bare_facts trace) → In (settled_line x d) (lines_of (world_report now))
  shown n x d i above fact =
      let (e, j, name, ends) = found_in x (end_of d) n.element.transactions.ledger.records.entries (((tells n i).settled x d above).0 fact) in
      subst (λ line. In line (lines_of (world_report now))) (line_of e x d name ends) (report_shows now n e i j)

  -- no transaction is completed in one line of the report and aborted in another
  one_outcome : OneOutcome (world_report now)
  one_outcome x completed aborted =
      let a = ended_by x Complete completed in
      let b = ended_by x Abort aborted in
      let m = small a.node a.entry a.there a.kept in
      let n = small b.node b.entry b.there b.kept in
      let same : b.entry.txn ≡ a.entry.txn = txn_of_text b.entry.txn a.entry.txn n.0 n.1 m.0 m.1 (b.text ∙ sym a.text) in
      let right = subst (λ (y : Txn). In (Settled_at b.node.id y Abort) (bare_facts trace)) same (settled_by x Abort b) in
      let differ : Complete ≡ Abort = agrees s done is made a.entry.txn a.node.id b.node.id Complete Abort (settled_by x Complete a) right in
      cc

  -- ---- what the line of a job says
  runs_as : (c : ℕ) (r : Ruling) → ruling_in c now.controllers ≡ Some r → ((run gone.steps (first_world (network_of s))).masters c ≡ Some r.core) × IsInNumbers r.core
  runs_as c r ruled = by (controller_in c now.controllers) ruled (gone.follows.controllers c)
    where
      runs : (k : Standing) (o : Option Ruling) → o ≡ Some r → RunsSo k.ce o → IsInNumbers r.core
      runs k None none so = cc
      runs k (Some q) is so = subst (λ (v : Ruling). IsInNumbers v.core) (same_Some q r is) so.numbers

      by : (o : Option Standing) → life_in o ≡ Some r → IsController o ((run gone.steps (first_world (network_of s))).masters c) ((run gone.steps (first_world (network_of s))).used c)
          → ((run gone.steps (first_world (network_of s))).masters c ≡ Some r.core) × IsInNumbers r.core
      by None none at = cc
      by (Some old) is at = (at.0 ∙ ap core_in is, runs old old.running is at.2)

  settled_outcome : (j : Job) (d : Decision) → outcome j ≡ Some d → (is_settled j ≡ true) × (j.decision ≡ Some d)
  settled_outcome j d h = by (is_settled j) refl h
    where
      by : (b : Bool) → is_settled j ≡ b → (if b then j.decision else None) ≡ Some d → (is_settled j ≡ true) × (j.decision ≡ Some d)
      by true is there = (is, there)
      by false is there = cc

  jobs_agree : (c : ℕ) (r : Ruling) (j : Job) (d e : Decision) → ruling_in c now.controllers ≡ Some r → In j r.core.jobs → outcome j ≡ Some d → In (settled_line j.txn e) (lines_of (world_report now)) → d ≡ e
  jobs_agree c r j d e ruled there says line =
      let (runs, numbers) = runs_as c r ruled in
      let (settled, decides) = settled_outcome j d says in
      let drives = in_all DrivesNumbers j r.core.jobs numbers.jobs there in
      let (n, i, fact) = happens j.txn e drives.0.0.0 drives.0.0.1 line in
      job_agrees (network_of s) gone.steps c r.core j d n.id e runs there settled decides (subst (In (Settled_at n.id j.txn e)) gone.follows.facts fact)

  one_decision : (c k : ℕ) (r q : Ruling) (j i : Job) (d e : Decision) → ruling_in c now.controllers ≡ Some r → ruling_in k now.controllers ≡ Some q → In j r.core.jobs → In i q.core.jobs → j.txn ≡ i.txn → outcome j ≡ Some d → outcome i ≡ Some e → d ≡ e
  one_decision c k r q j i d e ruled other there here same says tells =
      let (settled, decides) = settled_outcome j d says in
      let (ends, decided) = settled_outcome i e tells in
      jobs_one (network_of s) gone.steps c k r.core q.core j i d e (runs_as c r ruled).0 (runs_as k q other).0 there here same settled ends decides decided

  pub report_tells : ReportTells now trace (world_report now)
  report_tells = record { shown = shown; happened = happens; one = one_outcome; jobs = jobs_agree; decisions = one_decision }

  -- ---- all lines of one transaction, where no two control elements have one number
  module _ (numbered : AreNumbered s) where
    ruled : (x : Txn) (d : Decision) (p : JobPart now.controllers (job_line x d)) → ruling_in (number_of p.standing.ce) now.controllers ≡ Some p.ruling
    ruled x d p = ap life_in (stands_first now.controllers p.standing (ap (λ ks. is_distinct nat_eq (map number_of ks)) gone.follows.ces ∙ numbered) p.there) ∙ p.runs

    fits : (x : Txn) (d : Decision) (p : JobPart now.controllers (job_line x d)) → (p.job.txn.epoch < 2 ^ 32) × (p.job.txn.number < 2 ^ 32)
    fits x d p = (in_all DrivesNumbers p.job p.ruling.core.jobs (runs_as (number_of p.standing.ce) p.ruling (ruled x d p)).1.jobs p.kept).0.0

    -- a line of a record and one of a job
    both_say : (x : Txn) (d e : Decision) → In (settled_line x e) (lines_of (world_report now)) → In (job_line x d) (lines_of (world_report now)) → d ≡ e
    both_say x d e i j =
        let p = found_job now x d j in
        let words = job_words x p.job.txn d p.decision p.is in
        let size = fits x d p in
        let a = ended_by x e i in
        let m = small a.node a.entry a.there a.kept in
        let same : a.entry.txn ≡ p.job.txn = txn_of_text a.entry.txn p.job.txn m.0 m.1 size.0 size.1 (a.text ∙ words.0) in
        let fact = subst (λ (y : Txn). In (Settled_at a.node.id y e) (bare_facts trace)) same (settled_by x e a) in
        let ends = settled_outcome p.job p.decision p.says in
        words.1 ∙ job_agrees (network_of s) gone.steps (number_of p.standing.ce) p.ruling.core p.job p.decision a.node.id e (runs_as (number_of p.standing.ce) p.ruling (ruled x d p)).0 p.kept ends.0 ends.1
        (subst (In (Settled_at a.node.id p.job.txn e)) gone.follows.facts fact)

    -- and two of jobs
    jobs_say : (x : Txn) (d e : Decision) → In (job_line x d) (lines_of (world_report now)) → In (job_line x e) (lines_of (world_report now)) → d ≡ e
    jobs_say x d e i j =
        let p = found_job now x d i in
        let q = found_job now x e j in
        let first = job_words x p.job.txn d p.decision p.is in
        let second = job_words x q.job.txn e q.decision q.is in
        let m = fits x d p in
        let n = fits x e q in
        let same : p.job.txn ≡ q.job.txn = txn_of_text p.job.txn q.job.txn m.0 m.1 n.0 n.1 (sym first.0 ∙ second.0) in
        first.1 ∙ one_decision (number_of p.standing.ce) (number_of q.standing.ce) p.ruling q.ruling p.job q.job p.decision q.decision (ruled x d p) (ruled x e q) p.kept q.kept same p.says q.says ∙ sym second.1

    pub one_word : OneWord (world_report now)
    one_word x (inl a) (inl b) = one_outcome x a b
    one_word x (inl a) (inr b) = let wrong : Abort ≡ Complete = both_say x Abort Complete a b in cc
    one_word x (inr a) (inl b) = let wrong : Complete ≡ Abort = both_say x Complete Abort b a in cc
    one_word x (inr a) (inr b) = let wrong : Complete ≡ Abort = jobs_say x Complete Abort a b in cc
