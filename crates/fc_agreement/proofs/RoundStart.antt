-- A clean round, from its begin to its end.
use Rattle.std.proofs.Common.{◌≡◌, ℕ, ◌+◌, ◌*◌, ◌<◌, ◌≤◌, ◌==◌, ◌&&◌, ◌||◌, not, nat_le, nat_lt, Bool, true, false, cond, List, [], ◌∷◌, ◌++◌, length, Option, Some, None, is_some, ◌⊎◌, inl, inr, ⊎_elim, refl, sym, ap, ◌∙◌, subst, arith, eqb-true, eq-eqb}
use Rattle.fc_base.specs.Ids.{Txn}
use Rattle.fc_agreement.specs.CleanRound.{Able, round_count, Smooth, arrive, Completes, CleanRound}
use Rattle.fc_protocol.specs.Collections.{In, among, or_next}
use Rattle.fc_protocol.specs.ElementMachine.{Circumstance, rises_above, is_element}
use Rattle.fc_protocol.specs.Floors.{is_below}
use Rattle.fc_protocol.specs.Jobs.{Job, body_by, own_body, new_job, find, is_settled, all_settled, needs, first_need, decision_body}
use Rattle.fc_protocol.specs.MasterMachine.{Master, last_count, unspent, stamp_of, sends_all, finish, count_of, next_txn, begins, is_open_at, scope_at, busy_at}
use Rattle.fc_protocol.specs.Messages.{same, Stamp, Floor, sent, Body, Sot, Mot, Eot, Ask_record, is_query, Request, Sent}
use Rattle.fc_protocol.specs.Records.{state_of}
use Rattle.fc_protocol.specs.WorldSteps.{Network, World, Begun, Step, Begin, with_begun, speaks, begin_by, begin_at, happens, first_world, run}
use Rattle.fc_protocol.specs.Scopes.{Scope, meets}
use Rattle.fc_protocol.specs.declared.answers.TxnEntry.{TxnEntry}
use Rattle.fc_protocol.specs.declared.states.Decision.{Decision}
use Rattle.fc_protocol.specs.declared.states.Decision.TheVariants.{Complete, Abort}
use Rattle.fc_protocol.proofs.Puts.{both_first, both_second}
use Rattle.fc_protocol.proofs.Basics.{AllOf, some_same, cond_true, cond_false, and_true, both, same_true, same_of}
use Rattle.fc_agreement.proofs.Calls.{MayBegin, may_begin}
use Rattle.fc_agreement.proofs.Calm.{Calm, LifeCalm, CalmWorld, all_calm, happens_calm}
use Rattle.fc_agreement.proofs.Duty.{Flags, decide_last, find_last, need_here, due_open, unspent_some}
use Rattle.fc_agreement.proofs.Facts.{past, RequestFine, Born, MasterFine, LifeFine, Tied}
use Rattle.fc_protocol.proofs.Order.{under_of, not_under}
use Rattle.fc_agreement.proofs.Numbers.{Numbered, LifeNumbered, at_start, parts_of, goes, ids, settled_law}
use Rattle.fc_agreement.proofs.Round.{Phase, Asking, Told, Ready, Ending, Ended, Done, flies, votes, is_ready, ends, left, Ground, JobIn, ElIn, Going}
use Rattle.fc_agreement.proofs.RoundRuns.{Once, total, Over, Passes, Steps, arrived, walks, next_world, no_more, world_passes, world_steps, arrived_is}
use Rattle.fc_agreement.proofs.RoundSpeaks.{Duty, Turned, spoken_going, config_stamp, config_waits, config_last}
use Rattle.fc_agreement.proofs.Taking.{at_count}

-- no entry, and no job, of a transaction that is new
no_entry : (x : Txn) (ns : List TxnEntry) → AllOf (λ n. n.txn ≡ x → ⊥) ns → state_of x ns ≡ None
no_entry x [] a = refl
no_entry x (n ∷ ns) a = ⊎_elim (λ u. absurd (a.0 (sym (same_true x n.txn u)))) (λ u. cond_false (same x n.txn) (Some n.state) _ u ∙ no_entry x ns a.1) (both (same x n.txn))

no_job : (x : Txn) (js : List Job) → AllOf (λ j. j.txn ≡ x → ⊥) js → find x js ≡ None
no_job x [] a = refl
no_job x (j ∷ js) a = ⊎_elim (λ u. absurd (a.0 (sym (same_true x j.txn u)))) (λ u. cond_false (same x j.txn) (Some j) _ u ∙ no_job x js a.1) (both (same x j.txn))

all_on : {A : Type 0} (P Q : A → Type 0) (xs : List A) → ((a : A) → P a → Q a) → AllOf P xs → AllOf Q xs
all_on P Q [] f h = tt
all_on P Q (x ∷ xs) f h = (f x h.0, all_on P Q xs f h.1)

-- jobs that are settled at p need nothing there
settled_in : (j : Job) (ps : List ℕ) (p : ℕ) → all_settled j ps ≡ true → among p ps ≡ true → j.settled p ≡ true
settled_in j [] p e a = cc
settled_in j (q ∷ ps) p e a =
    ⊎_elim (λ u. ap j.settled (eqb-true p q u) ∙ first (j.settled q) (all_settled j ps) e) (λ u. settled_in j ps p (second (j.settled q) (all_settled j ps) e) (or_rest (p == q) (among p ps) u a)) (both (p == q))
  where
    first : (a b : Bool) → (a && b) ≡ true → a ≡ true
    first true b e = refl
    first false b e = cc

    second : (a b : Bool) → (a && b) ≡ true → b ≡ true
    second true b e = e
    second false b e = cc

    or_rest : (a b : Bool) → a ≡ false → (a || b) ≡ true → b ≡ true
    or_rest true b e f = cc
    or_rest false b e f = f

need_if : (b : Bool) (j : Job) (p : ℕ) → body_by j p j.decision ≡ None → cond b (body_by j p j.decision) None ≡ None
need_if true j p e = e
need_if false j p e = refl

need_none : (j : Job) (p : ℕ) (d : Decision) → j.decision ≡ Some d → j.settled p ≡ true → needs j p ≡ None
need_none j p d e s = need_if (among p j.parts) j p (ap (body_by j p) e ∙ ap (λ b. cond (b || j.stuck p) None (Some (decision_body j.txn d))) s)

need_out : (j : Job) (p : ℕ) → among p j.parts ≡ false → needs j p ≡ None
need_out j p a = cond_false (among p j.parts) _ None a

busy_if : (b : Bool) (x : Txn) (o : Option Txn) → cond b (Some x) o ≡ None → (b ≡ false) × (o ≡ None)
busy_if true x o e = cc
busy_if false x o e = (refl, e)

-- what an own job needs is a Config
own_kind : (a b : Bool) (d : ℕ) (x : Txn) (ps : List ℕ) (sc : Scope) → is_query (cond a (Sot x ps sc) (cond b (Mot x d) (Eot x))) ≡ false
own_kind true b d x ps sc = refl
own_kind false true d x ps sc = refl
own_kind false false d x ps sc = refl

mine_kind : (j : Job) (p : ℕ) (b : Body) (m : Bool) → m ≡ true → cond m (Some (own_body j p)) (Some (Ask_record j.txn)) ≡ Some b → is_query b ≡ false
mine_kind j p b true m e = let same_b : own_body j p ≡ b = some_same _ _ e in ap is_query (sym same_b) ∙ own_kind (j.done p == 0) (nat_le (j.done p) (j.changes p)) (j.done p) j.txn j.parts (j.scopes p)
mine_kind j p b false m e = cc

cond_some : (a : Bool) (o : Option Body) (b : Body) → cond a None o ≡ Some b → o ≡ Some b
cond_some true o b e = cc
cond_some false o b e = e

decision_kind : (d : Decision) (x : Txn) → is_query (decision_body x d) ≡ false
decision_kind Complete x = refl
decision_kind Abort x = refl

body_kind : (j : Job) (p : ℕ) (b : Body) (q : Option Decision) → j.mine ≡ true → body_by j p q ≡ Some b → is_query b ≡ false
body_kind j p b None m e = mine_kind j p b j.mine m (cond_some (is_some (j.answers p)) _ b e)
body_kind j p b (Some d) m e = let same_b : decision_body j.txn d ≡ b = some_same _ _ (cond_some (j.settled p || j.stuck p) _ b e) in ap is_query (sym same_b) ∙ decision_kind d j.txn

found_meets : (m : Bool) (s sc : Scope) → meets (cond m s []) sc ≡ false → m ≡ true
found_meets true s sc e = refl
found_meets false s sc e = cc

not_both : (a b c : Bool) → ((a && not b) && c) ≡ false → a ≡ true → b ≡ false → c ≡ false
not_both true true c e f g = cc
not_both true false c e f g = e
not_both false b c e f g = cc

cond_none : (a : Bool) (o : Option Body) (b : Body) → cond a o None ≡ Some b → (a ≡ true) × (o ≡ Some b)
cond_none true o b e = (refl, e)
cond_none false o b e = cc

next_some : (o r : Option Body) (b : Body) → or_next o r ≡ Some b → (o ≡ Some b) ⊎ (r ≡ Some b)
next_some None r b e = inr e
next_some (Some c) r b e = inl e

-- what a job needs that does not meet the scope is a Config
need_kind : (j : Job) (p : ℕ) (sc : Scope) (b : Body) → (j.settled p ≡ true → (d : Decision) × (j.decision ≡ Some d)) → (is_open_at p j && meets (scope_at p j) sc) ≡ false → needs j p ≡ Some b → is_query b ≡ false
need_kind j p sc b f e n =
    let u = cond_none (among p j.parts) (body_by j p j.decision) b n in
    ⊎_elim (λ s. let g = settled_in j j.parts p s u.0 in let d = f g in let t : None ≡ Some b = sym (need_none j p d.0 d.1 g) ∙ n in cc)
    (λ s. body_kind j p b j.decision (found_meets j.mine (j.scopes p) sc (not_both (among p j.parts) (is_settled j) (meets (scope_at p j) sc) e u.0 s)) u.1) (both (is_settled j))

needs_kind : (js : List Job) (p : ℕ) (sc : Scope) (b : Body) → ((j : Job) → In j js → j.settled p ≡ true → (d : Decision) × (j.decision ≡ Some d)) → busy_at p sc js ≡ None → first_need js p ≡ Some b → is_query b ≡ false
needs_kind [] p sc b f e n = cc
needs_kind (j ∷ js) p sc b f e n =
    let u = busy_if (is_open_at p j && meets (scope_at p j) sc) j.txn (busy_at p sc js) e in
    ⊎_elim (λ v. need_kind j p sc b (f j (inl refl)) u.0 v) (λ v. needs_kind js p sc b (λ i t. f i (inr t)) u.1 v) (next_some (needs j p) (first_need js p) b n)

-- where nothing is due, no job needs a Config whose sequence is left
no_need : (m : Master) (p : ℕ) (o : Option Body) → first_need m.jobs p ≡ o → ((b : Body) → o ≡ Some b → is_query b ≡ false) → (m.at p).last < last_count → unspent (m.at p) o ≡ None → o ≡ None
no_need m p None e k l u = refl
no_need m p (Some b) e k l u =
    let same_count : count_of b (m.at p) ≡ (m.at p).last = ap (λ q. cond q (m.at p).queries (m.at p).last) (k b refl) in
    let t : Some b ≡ None = sym (unspent_some (m.at p) b (subst (λ n. n < last_count) (sym same_count) l)) ∙ u in
    cc

-- a list that rises has nothing twice
rises_over : (n : ℕ) (ps : List ℕ) (q : ℕ) → rises_above n ps ≡ true → among q ps ≡ true → n < q
rises_over n [] q e a = cc
rises_over n (p ∷ ps) q e a =
    let first = both_first (nat_lt n p && is_element p) _ e in
    let low : n < p = below n p (both_first (nat_lt n p) _ first) in
    ⊎_elim (λ u. let z : q ≡ p = eqb-true q p u in omega arith) (λ u. let l : p < q = rises_over p ps q (both_second (nat_lt n p && is_element p) _ e) (or_rest (q == p) (among q ps) u a) in omega arith) (both (q == p))
  where
    below : (m n : ℕ) → nat_lt m n ≡ true → m < n
    below m n h = grind arith

    or_rest : (a b : Bool) → a ≡ false → (a || b) ≡ true → b ≡ true
    or_rest true b e f = cc
    or_rest false b e f = f

rises_once : (n : ℕ) (ps : List ℕ) → rises_above n ps ≡ true → Once ps
rises_once n [] e = tt
rises_once n (p ∷ ps) e =
    let rest = both_second (nat_lt n p && is_element p) _ e in
    (⊎_elim (λ u. let l : p < p = rises_over p ps p rest u in absurd (omega arith)) (λ u. u) (both (among p ps)), rises_once p ps rest)

module _ (net : Network) (steps : List Step) (k : ℕ) (m : Master) (q0 : ℕ) (qs : List ℕ) (changes : ℕ → ℕ) (scopes : ℕ → Scope) where
  abbrev pub w : World
  w = run steps (first_world net)

  abbrev pub ps : List ℕ
  ps = q0 ∷ qs

  abbrev pub x : Txn
  x = next_txn m

  module _ (h : Able w k m ps changes scopes) where
    calm : Calm m
    calm = subst LifeCalm h.runs (all_calm net steps k)

    begin : MayBegin m ps changes scopes
    begin = may_begin m ps changes scopes h.may

    numbered : Numbered (at_start w) k m
    numbered = subst (LifeNumbered (at_start w) k) h.runs ((ids net steps).lives k)

    -- the transaction is new
    unborn : (b : Begun) → In b w.begun → b.txn ≡ x → ⊥
    unborn b i e =
        let low : b.txn.number ≤ m.begun = numbered.numbers b i (ap (λ (t : Txn). t.epoch) e) in
        let now : b.txn.number ≡ m.begun + 1 = ap (λ (t : Txn). t.number) e in
        omega arith

    tied : Tied x (parts_of x w.begun) w (goes net steps x).0
    tied = (goes net steps x).1

    not_born : Born x (parts_of x w.begun) (past w (goes net steps x).0) → ⊥
    not_born b = unborn b.0 b.1 b.2

    fine : MasterFine x (parts_of x w.begun) (past w (goes net steps x).0) k m
    fine = subst (LifeFine x (parts_of x w.begun) (past w (goes net steps x).0) k) h.runs (tied.masters k)

    absent : find x m.jobs ≡ None
    absent = no_job x m.jobs (all_on _ _ m.jobs (λ j f e. not_born (f e).born) fine.jobs.each)

    no_record : (p : ℕ) → state_of x (w.at p).records ≡ None
    no_record p = no_entry x (w.at p).records (all_on _ _ (w.at p).records (λ n f e. not_born (f e).2) (tied.elements p).entries)

    -- the transaction is above each floor: an older life's is below this life's epoch, and this life's is no higher than its next transaction
    below_none : (p : ℕ) (o : Option Txn) → (w.at p).epoch ≡ m.epoch → (w.at p).floor ≡ o → is_below x o ≡ false
    below_none p None e i = refl
    below_none p (Some f) e i =
        let g = (tied.elements p).floor f i in
        let s : Stamp = g.1 in
        let q : RequestFine x (parts_of x w.begun) (past w (goes net steps x).0) g.0 p s (Floor f) = tied.sent (sent p g.0 (Request s (Floor f))) g.2 in
        let at : f.epoch ≡ s.life = q.means.0 in
        let low : s.life ≤ (w.at p).epoch = g.3 in
        not_under x f (λ u.
        ⊎_elim (λ l. absurd (omega arith))
        (λ l.
        let same_epoch : m.epoch ≡ f.epoch = l.0 in
        let more : m.begun + 1 < f.number = l.1 in
        let top : f.number ≤ m.begun + 1 = (fine.forgets.floors p g.0 s f g.2 (omega arith)).0 in
        absurd (omega arith)) (under_of x f u))

    not_below : (p : ℕ) → (w.at p).epoch ≡ m.epoch → is_below x (w.at p).floor ≡ false
    not_below p e = below_none p (w.at p).floor e refl

    epoch_some : (m.epoch == 0) ≡ false
    epoch_some =
        let l = fine.life in
        let e : m.epoch ≡ 256 * l.0 + k = l.2 in
        let r : 0 < l.0 = l.5 in
        ⊎_elim (λ t. let z : m.epoch ≡ 0 = eqb-true m.epoch 0 t in absurd (omega arith)) (λ t. t) (both (m.epoch == 0))

    le_is : (n o : ℕ) → n ≤ o → nat_le n o ≡ true
    le_is n o l = grind arith

    pub ground : Ground w k m ps changes scopes
    ground = record {
      set = calm.set;
      still = calm.still;
      absent = absent;
      parts = λ p a. let f = begin.free p a in record {
        inside = f.inside;
        need =
            let i = h.idle p a in
            let room : (m.at p).last + changes p + 3 ≤ last_count = begin.room p a in
            no_need m p (first_need m.jobs p) refl (λ b e. needs_kind m.jobs p (scopes p) b (λ j i s. let d = settled_law net steps k m j p h.runs i s in (d.0, d.1)) f.settled e) (omega arith)
            (sym (due_open m p (record { met = i.met; claimed = i.claimed; answered = f.answered; doubt = f.doubt; lost = f.lost; owes = f.owes }) begin.deposed i.waits) ∙ calm.still p f.inside);
        room = begin.room p a;
        takes = and_true (among p ps) _ a (and_true (rises_above 0 ps) _ h.rising (le_is (length ps) 64 begin.few));
        scoped = h.scoped p a;
      };
      deposed = begin.deposed;
      epoch = epoch_some;
    }

    abbrev begun : Begun
    begun = record { txn = x; parts = ps }

    abbrev base : World
    base = with_begun w begun

    abbrev job : Job
    job = new_job x ps changes scopes

    abbrev n : Master
    n = record m { begun = m.begun + 1; jobs = m.jobs ++ job ∷ [] }

    finish_is : finish k (begins m ps changes scopes) ≡ sends_all k m.elements n
    finish_is = ap (λ js. sends_all k m.elements (record m { begun = m.begun + 1; jobs = js })) (decide_last m.epoch m.jobs job calm.set)

    pub begins_is : happens w (Begin k ps changes scopes) ≡ speaks base k [] (sends_all k m.elements n)
    begins_is = ap (begin_at w k ps changes scopes) h.runs ∙ ap (begin_by w k ps changes scopes m) h.may ∙ ap (speaks base k []) finish_is

    flags : (p : ℕ) → among p ps ≡ true → Flags (m.at p)
    flags p a = let i = h.idle p a in let f = begin.free p a in record { met = i.met; claimed = i.claimed; answered = f.answered; doubt = f.doubt; lost = f.lost; owes = f.owes }

    one_count : 0 + 1 ≡ 1
    one_count = refl

    first_duty : (p : ℕ) → among p ps ≡ true → Duty w k m ps changes scopes base n job [] p (Asking 0)
    first_duty p a =
        let i = h.idle p a in
        let y = m.at p in
        let f = flags p a in
        let room : y.last + changes p + 3 ≤ last_count = begin.room p a in
        let up : y.last + 1 ≡ y.last + 1 + 0 = omega arith in
        record {
          need = Some (Sot x ps (scopes p));
          due_is = due_open n p f begin.deposed i.waits ∙ ap (unspent y) (need_here m.jobs job p (ground.parts p a).need ∙ cond_true (among p ps) (Some (Sot x ps (scopes p))) None a) ∙ unspent_some y (Sot x ps (scopes p)) (omega arith);
          peer = record {
            flags = record { met = f.met; claimed = f.claimed; answered = f.answered; doubt = f.doubt; lost = f.lost; owes = f.owes };
            waits = config_waits m.epoch (Sot x ps (scopes p)) y refl refl ∙ ap (λ t. Some (record { stamp = at_count m.epoch t; body = Sot x ps (scopes p) })) up;
            sequence = config_last m.epoch (Sot x ps (scopes p)) y refl refl ∙ up;
          };
          job = record { low = omega arith; done = refl; answers = refl; settled = refl; stuck = refl };
          stand = record { epoch = i.epoch; master = i.master; stands = ((let s : (w.at p).sequence ≡ y.last = i.sequence in omega arith), (no_record p, i.free, i.room, not_below p i.epoch)) };
          message = λ b e.
              let same_b : Sot x ps (scopes p) ≡ b = cc in
              (refl, sym (ap (λ t. Request (stamp_of m.epoch t y) t) (sym same_b) ∙ ap (λ t. Request t (Sot x ps (scopes p))) (config_stamp m.epoch (Sot x ps (scopes p)) y refl refl) ∙ ap (λ t. Request (at_count m.epoch t) (Sot x ps (scopes p))) up));
          count = one_count;
        }

    or_same : (q0 == q0 || among q0 qs) ≡ true
    or_same = or_first (q0 == q0) (among q0 qs) (eq-eqb q0 q0 refl)
      where
        or_first : (a b : Bool) → a ≡ true → (a || b) ≡ true
        or_first true b e = refl
        or_first false b e = cc

    turned : Turned w k m ps changes scopes base n job [] (λ _. Asking 0)
    turned = record {
      epoch = refl;
      elements = refl;
      deposed = begin.deposed;
      jobs = refl;
      txn = refl;
      mine = refl;
      parts = refl;
      changed = (refl, refl);
      others = λ q a. refl;
      duties = first_duty;
      mode = inl (refl, (λ q a. refl), (q0, or_same, refl));
      on_way = λ t i. absurd i;
    }

    none_after : (xs : List Sent) → xs ++ [] ≡ xs
    none_after [] = refl
    none_after (s ∷ xs) = ap (λ v. s ∷ v) (none_after xs)

    pub starts : Going w k m ps changes scopes (speaks base k [] (sends_all k m.elements n)) w.sent ([] ++ (sends_all k m.elements n).says) (λ _. Asking 0)
    starts =
        spoken_going w k m ps changes scopes base n job [] (λ _. Asking 0) w.sent ground turned (ap (λ ss. ss ++ (sends_all k m.elements n).says) (none_after w.sent)) refl
        (subst CalmWorld begins_is (happens_calm w (Begin k ps changes scopes) (all_calm net steps)))

    pub once : Once ps
    once = rises_once 0 ps h.rising

    -- the round of anything whose world is seen, which has begun it
    module _ {S : Type 0} (seen : S → World) (next : S → ℕ → S) (Kept : S → List Sent → List Sent → Type 0) (passes : Passes w k m ps changes scopes ground once seen next Kept) (goes : Steps w k m ps changes scopes ground once seen next Kept) (first : S) (begun_is : seen first ≡ happens w (Begin k ps changes scopes))
        (kept : (after : List Sent) → Going w k m ps changes scopes (seen first) w.sent after (λ _. Asking 0) → Kept first w.sent after) where
      over : Over w k m ps changes scopes ground once seen next Kept first w.sent (λ _. Asking 0) (length w.sent + 1)
      over =
          let g : Going w k m ps changes scopes (seen first) w.sent ([] ++ (sends_all k m.elements n).says) (λ _. Asking 0) = subst (λ v. Going w k m ps changes scopes v w.sent ([] ++ (sends_all k m.elements n).says) (λ _. Asking 0)) (sym (begun_is ∙ begins_is)) starts in
          walks w k m ps changes scopes ground once seen next Kept passes goes first w.sent ([] ++ (sends_all k m.elements n).says) (λ _. Asking 0) (length w.sent + 1) g (kept ([] ++ (sends_all k m.elements n).says) g) refl

      none_flies : (p : ℕ) → among p ps ≡ true → flies (over.phase p) ≡ false
      none_flies p a = still (flies (over.phase p)) (over.going.queue.count p a)
        where
          still : (b : Bool) → ◌≡◌ {A = ℕ} 0 (cond b 1 0) → b ≡ false
          still true e = absurd (omega arith)
          still false e = refl

      not_voting : (i : Phase) → votes i ≡ true → is_ready i ≡ false → flies i ≡ false → ⊥
      not_voting (Asking d) e f g = cc
      not_voting (Told d) e f g = cc
      not_voting Ready e f g = cc
      not_voting Ending e f g = cc
      not_voting Ended e f g = cc
      not_voting Done e f g = cc

      was_done : (i : Phase) → ends i ≡ true → flies i ≡ false → i ≡ Done
      was_done (Asking d) e f = cc
      was_done (Told d) e f = cc
      was_done Ready e f = cc
      was_done Ending e f = cc
      was_done Ended e f = cc
      was_done Done e f = refl

      all_done : (over.going.job.decision ≡ Some Complete) × ((p : ℕ) → among p ps ≡ true → over.phase p ≡ Done)
      all_done =
          ⊎_elim (λ u. absurd (not_voting (over.phase u.2.0) (u.1 u.2.0 u.2.1) u.2.2 (none_flies u.2.0 u.2.1))) (λ u. (u.0, (λ p a. was_done (over.phase p) (u.1 p a) (none_flies p a)))) over.going.mode

      settled_all : (j : Job) (rs : List ℕ) → ((p : ℕ) → among p rs ≡ true → j.settled p ≡ true) → all_settled j rs ≡ true
      settled_all j [] f = refl
      settled_all j (r ∷ rs) f = and_true (j.settled r) (all_settled j rs) (f r (or_one (r == r) (among r rs) (eq-eqb r r refl))) (settled_all j rs (λ p a. f p (or_two (p == r) (among p rs) a)))
        where
          or_one : (a b : Bool) → a ≡ true → (a || b) ≡ true
          or_one true b e = refl
          or_one false b e = cc

          or_two : (a b : Bool) → b ≡ true → (a || b) ≡ true
          or_two true b e = refl
          or_two false b e = e

      job_settled : (p : ℕ) → among p ps ≡ true → over.going.job.settled p ≡ true
      job_settled p a = subst (JobIn w k m ps changes scopes p over.going.job) (all_done.1 p a) (over.going.job_in p a)

      all_counted : (rs : List ℕ) → ((p : ℕ) → among p rs ≡ true → over.phase p ≡ Done) → total (λ q. left w k m ps changes scopes q (over.phase q)) rs ≡ 0
      all_counted [] f = refl
      all_counted (r ∷ rs) f =
          let a : left w k m ps changes scopes r (over.phase r) ≡ 0 = ap (left w k m ps changes scopes r) (f r (or_one (r == r) (among r rs) (eq-eqb r r refl))) in
          let b : total (λ q. left w k m ps changes scopes q (over.phase q)) rs ≡ 0 = all_counted rs (λ p c. f p (or_two (p == r) (among p rs) c)) in
          omega arith
        where
          or_one : (a b : Bool) → a ≡ true → (a || b) ≡ true
          or_one true b e = refl
          or_one false b e = cc

          or_two : (a b : Bool) → b ≡ true → (a || b) ≡ true
          or_two true b e = refl
          or_two false b e = e

      first_count : (rs : List ℕ) → total (λ q. left w k m ps changes scopes q (Asking 0)) rs ≡ round_count changes rs
      first_count [] = refl
      first_count (r ∷ rs) = let b : total (λ q. left w k m ps changes scopes q (Asking 0)) rs ≡ round_count changes rs = first_count rs in omega arith

      abbrev end : World
      end = seen (arrived w k m ps changes scopes ground once seen next Kept (length w.sent + 1) (length over.since) first)

      pub round : (o : ℕ) × Completes w (seen (arrived w k m ps changes scopes ground once seen next Kept (length w.sent + 1) o first)) k m ps changes o
      round = (
        length over.since,
        record {
          since = over.since;
          sent = over.going.sent ∙ none_after (w.sent ++ over.since);
          delivered = refl;
          count = let a = over.count in let b = all_counted ps all_done.1 in let c = first_count ps in omega arith;
          elements = λ p a. (subst (ElIn w k m ps changes scopes p (end.at p) end.facts) (all_done.1 p a) (over.going.stand p a)).stands;
          now = over.going.now;
          runs = over.going.runs;
          job = over.going.job;
          found = ap (find x) over.going.jobs ∙ find_last x m.jobs over.going.job absent (same_of x over.going.job.txn (sym over.going.txn));
          decision = all_done.0;
          settled = ap (all_settled over.going.job) over.going.parts ∙ settled_all over.going.job ps job_settled;
        },
      )

    -- of the world itself, where all is smooth
    pub smooth_round : (cs : ℕ → Circumstance) → ((i : ℕ) → Smooth (cs i)) → (o : ℕ) × Completes w (arrive cs (length w.sent + 1) o (happens w (Begin k ps changes scopes))) k m ps changes o
    smooth_round cs smooth =
        let r = round (λ (v : World). v) (next_world w k m ps changes scopes ground once cs smooth) (no_more w k m ps changes scopes ground once cs smooth) (world_passes w k m ps changes scopes ground once cs smooth) (world_steps w k m ps changes scopes ground once cs smooth)
        (happens w (Begin k ps changes scopes)) refl (λ after e. tt) in
        (r.0, subst (λ v. Completes w v k m ps changes r.0) (arrived_is w k m ps changes scopes ground once cs smooth r.0 (length w.sent + 1) (happens w (Begin k ps changes scopes))) r.1)

pub clean_round_law : (net : Network) (steps : List Step) → CleanRound (run steps (first_world net))
clean_round_law net steps k m p ps changes scopes h cs s = smooth_round net steps k m p ps changes scopes h cs s
