-- A control element that speaks clearly does so after whatever is asked of it, and what it sends is well formed.
use Rattle.std.proofs.Common.{◌≡◌, ℕ, suc, zero, Bool, true, false, if◌then◌else◌, List, [], ◌∷◌, map, slice_get, Option, Some, None, IfSome, sym, subst}
use Rattle.std.specs.List.{AllByRecursion}
use Rattle.fc_documents.specs.Parts.{begun}
use Rattle.fc_documents.specs.declared.transaction.PlanTxn.{PlanTxn}
use Rattle.fc_jobs.specs.declared.sending.CeOut.{CeOut}
use Rattle.fc_master.specs.declared.input.CeIn.TheVariants as ce_in
use Rattle.fc_path.specs.declared.oper.Select.{Select}
use Rattle.fc_performing.specs.Sending.{IsSaid}
use Rattle.fc_performing.specs.declared.out.Out.{Out}
use Rattle.fc_plans.specs.Plans as plans
use Rattle.fc_wellformed.specs.WellFormed.{AreWellFormed, HasChanges, IsChange, TxnHolds}
use Rattle.fc_wellformed.proofs.Said.{begin_clear, first_clear, forget_clear, give_up_clear, plain_clear, resend_clear, step_clear}
use Rattle.fc_world.specs.Answering.{AnswersAmong, AnswersIn, AnswersLife, started_by, started_in}
use Rattle.fc_world.specs.Lookups.{controller_in, is_controller, lone_change, lone_of, lone_part, parcel_in, plain_in, transaction_in, with_controller}
use Rattle.fc_world.specs.Stages.{AnswersCall, IsClear, IsClearLife, IsProperParcel, KeepsClear, call_of}
use Rattle.fc_world.specs.Worlds.{Ruling, Standing, downward, epoch_of, first_life, upward}
use Rattle.fc_world.specs.WorldSteps.{Spoke, running_in, started, with_ruling, with_running}
use Rattle.fc_world.specs.declared.lives.Answer.{Answer}
use Rattle.fc_world.specs.declared.lives.Answer.TheVariants as answer
use Rattle.fc_world.specs.declared.lives.Request.{Request}
use Rattle.fc_world.specs.declared.lives.Request.TheVariants as request
use Rattle.fc_world.specs.declared.sent.Parcel.{Parcel}

-- ---- of one life
-- what is said in an answer is well formed
abbrev pub SaysWell : Option Answer → Type 0
SaysWell None = Unit {0}
SaysWell (Some (answer.Spoke os)) = AreWellFormed os
SaysWell (Some (answer.Refused r)) = Unit {0}

spoke_clear : (os : List CeOut) (new : Ruling) (s : Spoke) → os ≡ s.outs → new ≡ s.ruling → IsClearLife s.ruling → AreWellFormed s.outs → IsClearLife new × AreWellFormed os
spoke_clear os new s e f clear well = (subst IsClearLife (sym f) clear, subst AreWellFormed (sym e) well)

answer_clear : (k : ℕ) (q : Request) (r : Ruling) (a : Answer) (new : Ruling) → KeepsClear q → IsClearLife r → AnswersCall k q r a new → IsClearLife new × SaysWell (Some a)
answer_clear k (request.Hear f m) r (answer.Spoke os) new keeps clear h =
    let c = step_clear r.life k r.core (ce_in.Arrived f m) clear in
    spoke_clear os new (call_of k (request.Hear f m) r).spoke h.1 h.2 c.0 c.1
answer_clear k (request.Hear f m) r (answer.Refused x) new keeps clear h = (subst IsClearLife (sym h.3) clear, tt)
answer_clear k (request.Begin parts) r (answer.Spoke os) new keeps clear h =
    let c = begin_clear r.life k r.core parts keeps.0 keeps.1 h.0 clear in
    spoke_clear os new (call_of k (request.Begin parts) r).spoke h.1 h.2 c.0 c.1
answer_clear k (request.Begin parts) r (answer.Refused x) new keeps clear h = (subst IsClearLife (sym h.3) clear, tt)
answer_clear k (request.Plain f change) r (answer.Spoke os) new keeps clear h =
    let c = plain_clear r.life k r.core f change keeps clear in
    spoke_clear os new (call_of k (request.Plain f change) r).spoke h.1 h.2 c.0 c.1
answer_clear k (request.Plain f change) r (answer.Refused x) new keeps clear h = (subst IsClearLife (sym h.3) clear, tt)
answer_clear k (request.GiveUp x) r (answer.Spoke os) new keeps clear h =
    let c = give_up_clear r.life k r.core x clear in
    spoke_clear os new (call_of k (request.GiveUp x) r).spoke h.1 h.2 c.0 c.1
answer_clear k (request.GiveUp x) r (answer.Refused y) new keeps clear h = (subst IsClearLife (sym h.3) clear, tt)
answer_clear k (request.Resend f) r (answer.Spoke os) new keeps clear h =
    spoke_clear os new (call_of k (request.Resend f) r).spoke h.1 h.2 clear (resend_clear r.life k r.core f clear)
answer_clear k (request.Resend f) r (answer.Refused x) new keeps clear h = (subst IsClearLife (sym h.3) clear, tt)
answer_clear k request.Forget r (answer.Spoke os) new keeps clear h =
    let c = forget_clear r.life k r.core clear in
    spoke_clear os new (call_of k request.Forget r).spoke h.1 h.2 c.0 c.1
answer_clear k request.Forget r (answer.Refused x) new keeps clear h = (subst IsClearLife (sym h.3) clear, tt)

life_clear : (k : ℕ) (q : Request) (r : Option Ruling) (a : Option Answer) (new : Option Ruling) → KeepsClear q → IfSome r IsClearLife → AnswersLife k q r a new → IfSome new IsClearLife × SaysWell a
life_clear k q None None new keeps clear h = (subst (λ o. IfSome o IsClearLife) (sym h) tt, tt)
life_clear k q None (Some a) new keeps clear h = absurd h
life_clear k q (Some r) None new keeps clear h = absurd h
life_clear k q (Some r) (Some a) None keeps clear h = absurd h
life_clear k q (Some r) (Some a) (Some s) keeps clear h = answer_clear k q r a s keeps clear h

-- ---- of all control elements
found_clear_by : (b : Bool) (s : Standing) (o : Option Standing) → IsClear s → IfSome o IsClear → IfSome (if b then Some s else o) IsClear
found_clear_by true s o here there = here
found_clear_by false s o here there = there

found_clear : (c : ℕ) (ss : List Standing) → AllByRecursion IsClear ss → IfSome (controller_in c ss) IsClear
found_clear c [] all = tt
found_clear c (s ∷ ss) all = found_clear_by (is_controller c s) s (controller_in c ss) all.0 (found_clear c ss all.1)

with_clear_by : (b : Bool) (new s : Standing) (ss ts : List Standing) → IsClear new → IsClear s → AllByRecursion IsClear ss → AllByRecursion IsClear ts → AllByRecursion IsClear (if b then new ∷ ss else s ∷ ts)
with_clear_by true new s ss ts one here all more = (one, all)
with_clear_by false new s ss ts one here all more = (here, more)

with_clear : (c : ℕ) (new : Standing) (ss : List Standing) → IsClear new → AllByRecursion IsClear ss → AllByRecursion IsClear (with_controller c new ss)
with_clear c new [] one all = tt
with_clear c new (s ∷ ss) one all = with_clear_by (is_controller c s) new s ss (with_controller c new ss) one all.0 all.1 (with_clear c new ss one all.1)

among_clear : (c : ℕ) (q : Request) (o : Option Standing) (old : List Standing) (a : Option Answer) (new : List Standing) → KeepsClear q → IfSome o IsClear → AllByRecursion IsClear old
    → AnswersAmong c q o old a new → AllByRecursion IsClear new × SaysWell a
among_clear c q None old None new keeps found all h = (subst (AllByRecursion IsClear) (sym h) all, tt)
among_clear c q None old (Some a) new keeps found all h = absurd h
among_clear c q (Some s) old a new keeps found all h =
    let one = life_clear c q s.running a h.0 keeps found h.1 in
    (subst (AllByRecursion IsClear) (sym h.2) (with_clear c (with_running h.0 s) old one.0 all), one.1)

pub answers_clear : (c : ℕ) (q : Request) (old : List Standing) (a : Option Answer) (new : List Standing) → KeepsClear q → AllByRecursion IsClear old
    → AnswersIn c q old a new → AllByRecursion IsClear new × SaysWell a
answers_clear c q old a new keeps all h = among_clear c q (controller_in c old) old a new keeps (found_clear c old all) all h

started_clear_by : (c : ℕ) (ids : List ℕ) (round : ℕ) (o : Option Standing) (ss : List Standing) → AllByRecursion IsClear ss → AllByRecursion IsClear (started_by o c ids round ss)
started_clear_by c ids round None ss all = all
started_clear_by c ids round (Some s) ss all =
    with_clear c (started ids round s) ss (first_clear (first_life s.ce (epoch_of round s.ce)) (epoch_of round s.ce) ids (record { plans = tt; plains = tt })) all

pub started_clear : (c : ℕ) (ids : List ℕ) (round : ℕ) (ss new : List Standing) → new ≡ started_in c ids round ss → AllByRecursion IsClear ss → AllByRecursion IsClear new
started_clear c ids round ss new e all = subst (AllByRecursion IsClear) (sym e) (started_clear_by c ids round (controller_in c ss) ss all)

stopped_clear_by : (c : ℕ) (o : Option Standing) (ss : List Standing) → AllByRecursion IsClear ss → AllByRecursion IsClear (running_in o c None ss)
stopped_clear_by c None ss all = all
stopped_clear_by c (Some s) ss all = with_clear c (with_running None s) ss tt all

pub stopped_clear : (c : ℕ) (ss new : List Standing) → new ≡ with_ruling c None ss → AllByRecursion IsClear ss → AllByRecursion IsClear new
stopped_clear c ss new e all = subst (AllByRecursion IsClear) (sym e) (stopped_clear_by c (controller_in c ss) ss all)

pub first_controllers_clear : (ids : List ℕ) → AllByRecursion IsClear (map (λ ce. record { ce = ce; used = []; running = None }) ids)
first_controllers_clear [] = tt
first_controllers_clear (i ∷ ids) = (tt, first_controllers_clear ids)

-- ---- what is sent
pub down_proper : (c : ℕ) (os : List CeOut) → AreWellFormed os → AllByRecursion IsProperParcel (downward c os)
down_proper c [] well = tt
down_proper c (o ∷ os) well = (well.0, down_proper c os well.1)

pub up_proper : (f : ℕ) (os : List Out) → AllByRecursion IsSaid os → AllByRecursion IsProperParcel (upward f os)
up_proper f [] well = tt
up_proper f (o ∷ os) well = (well.0, up_proper f os well.1)

nth_proper : (ps : List Parcel) (i : ℕ) → AllByRecursion IsProperParcel ps → IfSome (slice_get ps i) IsProperParcel
nth_proper [] i all = tt
nth_proper (p ∷ ps) zero all = all.0
nth_proper (p ∷ ps) (suc i) all = nth_proper ps i all.1

parcel_proper : (i : ℕ) (ps : List Parcel) → AllByRecursion IsProperParcel ps → IfSome (parcel_in i ps) IsProperParcel
parcel_proper zero ps all = tt
parcel_proper (suc i) ps all = nth_proper ps i all

pub taken_proper : (i : ℕ) (ps : List Parcel) (o : Option Parcel) → AllByRecursion IsProperParcel ps → o ≡ parcel_in i ps → IfSome o IsProperParcel
taken_proper i ps o all e = subst (λ p. IfSome p IsProperParcel) (sym e) (parcel_proper i ps all)

-- ---- what the transactions of a script change
named_holds_by : (b : Bool) (t : PlanTxn) (o : Option PlanTxn) → TxnHolds t → IfSome o TxnHolds → IfSome (if b then Some t else o) TxnHolds
named_holds_by true t o here there = here
named_holds_by false t o here there = there

named_holds : (name : List ℕ) (ts : List PlanTxn) → AllByRecursion TxnHolds ts → IfSome (transaction_in name ts) TxnHolds
named_holds name [] all = tt
named_holds name (t ∷ ts) all = named_holds_by _ t (transaction_in name ts) all.0 (named_holds name ts all.1)

pub transaction_holds : (name : List ℕ) (ts : List PlanTxn) (t : PlanTxn) → AllByRecursion TxnHolds ts → Some t ≡ transaction_in name ts → AllByRecursion HasChanges (begun t)
transaction_holds name ts t all e = subst (λ o. IfSome o TxnHolds) (sym e) (named_holds name ts all)

abbrev IsOne : ℕ × List Select → Type 0
IsOne p = IsChange p.1

abbrev HoldsPart : ℕ × List (List Select) → Type 0
HoldsPart p = AllByRecursion IsChange p.1

scoped_own : (ps : List (ℕ × List (List Select))) → AllByRecursion HasChanges (map plans.scoped ps) → AllByRecursion HoldsPart ps
scoped_own [] all = tt
scoped_own (p ∷ ps) all = (all.0, scoped_own ps all.1)

whole_own : (ps : List (ℕ × List (List Select))) → AllByRecursion HasChanges (map plans.whole ps) → AllByRecursion HoldsPart ps
whole_own [] all = tt
whole_own (p ∷ ps) all = (all.0, whole_own ps all.1)

own_holds : (b : Bool) (ps : List (ℕ × List (List Select))) → AllByRecursion HasChanges (if b then map plans.scoped ps else map plans.whole ps) → AllByRecursion HoldsPart ps
own_holds true ps all = scoped_own ps all
own_holds false ps all = whole_own ps all

one_change : (f : ℕ) (cs : List (List Select)) → AllByRecursion IsChange cs → IfSome (lone_change f cs) IsOne
one_change f [] all = tt
one_change f (c ∷ []) all = all.0
one_change f (c ∷ d ∷ cs) all = tt

one_part : (ps : List (ℕ × List (List Select))) → AllByRecursion HoldsPart ps → IfSome (lone_part ps) IsOne
one_part [] all = tt
one_part (p ∷ []) all = one_change p.0 p.1 all.0
one_part (p ∷ q ∷ ps) all = tt

one_holds : (o : Option PlanTxn) → IfSome o TxnHolds → IfSome (lone_of o) IsOne
one_holds None h = tt
one_holds (Some t) h = one_part t.parts (own_holds t.scoped t.parts h)

pub plain_holds : (name : List ℕ) (ts : List PlanTxn) (p : ℕ × List Select) → AllByRecursion TxnHolds ts → Some p ≡ plain_in name ts → IsChange p.1
plain_holds name ts p all e = subst (λ o. IfSome o IsOne) (sym e) (one_holds (transaction_in name ts) (named_holds name ts all))
