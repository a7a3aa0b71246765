-- What is due at an element, case by case.
use Rattle.std.proofs.Common.{◌≡◌, ℕ, ◌+◌, ◌<◌, true, false, not, ◌&&◌, cond, List, ◌∷◌, length, drop, get_or, Option, Some, None, is_none, Result, Ok, Err, IfOk, sym, ap, ◌∙◌}
use Rattle.fc_protocol.specs.Collections.{among, or_next}
use Rattle.fc_protocol.specs.Jobs.{Job, body_by, needs, first_need}
use Rattle.fc_protocol.specs.Messages.{Body, Ask, Claim}
use Rattle.fc_protocol.specs.MasterMachine.{Peer, Master, due, wanted, floor_body, unspent}
use Rattle.fc_protocol.specs.declared.states.Decision.{Decision}
use Rattle.fc_asks.proofs.Numbered.{drop_at}
use Rattle.fc_jobs.specs.JobViews.{job_of, jobs_of}
use Rattle.fc_jobs.specs.declared.job.Job.{Job as Kept}

pub needs_by : (j : Job) (p : ℕ) (d : Option Decision) → among p j.parts ≡ true → j.decision ≡ d → needs j p ≡ body_by j p d
needs_by j p d a e = ap (λ b. cond b (body_by j p j.decision) None) a ∙ ap (body_by j p) e

first_here : (n rest here whole : Option Body) (b : Body) → here ≡ or_next n rest → n ≡ Some b → here ≡ whole → Some b ≡ whole
first_here n rest here whole b e f h = sym (e ∙ ap (λ m. or_next m rest) f) ∙ h

first_later : (n rest here whole : Option Body) → here ≡ or_next n rest → n ≡ None → here ≡ whole → rest ≡ whole
first_later n rest here whole e f h = sym (e ∙ ap (λ m. or_next m rest) f) ∙ h

pub some_next : (n rest : Option Body) (b : Body) → n ≡ Some b → Some b ≡ or_next n rest
some_next n rest b e = sym (ap (λ m. or_next m rest) e)

pub none_next : (n rest : Option Body) → n ≡ None → rest ≡ or_next n rest
none_next n rest e = sym (ap (λ m. or_next m rest) e)

module _ (js : List Kept) (i : ℕ) (j : Kept) (p : ℕ) where
  turn : i < length js → j ≡ get_or js i j → first_need (jobs_of (drop i js)) p ≡ or_next (needs (job_of j) p) (first_need (jobs_of (drop (i + 1) js)) p)
  turn l e = ap (λ r. first_need (jobs_of r) p) (drop_at js i j l) ∙ ap (λ k. or_next (needs (job_of k) p) (first_need (jobs_of (drop (i + 1) js)) p)) (sym e)

  pub need_here : (b : Body) → i < length js → j ≡ get_or js i j → needs (job_of j) p ≡ Some b → first_need (jobs_of (drop i js)) p ≡ first_need (jobs_of js) p → Some b ≡ first_need (jobs_of js) p
  need_here b l e n h = first_here _ _ _ _ b (turn l e) n h

  pub need_later : i < length js → j ≡ get_or js i j → needs (job_of j) p ≡ None → first_need (jobs_of (drop i js)) p ≡ first_need (jobs_of js) p → first_need (jobs_of (drop (i + 1) js)) p ≡ first_need (jobs_of js) p
  need_later l e n h = first_later _ _ _ _ (turn l e) n h

pub if_ok_on : {X E : Type 0} (P Q : X → Type 0) (r : Result X E) → ((x : X) → P x → Q x) → IfOk r P → IfOk r Q
if_ok_on P Q (Ok x) f h = f x h
if_ok_on P Q (Err e) f h = h

pub due_open : (m : Master) (p : ℕ) (w : Option Body) → ((m.at p).met && not (m.at p).lost) && (is_none (m.at p).waits && is_none m.deposed) ≡ true → wanted m p (m.at p) ≡ w → due m p ≡ unspent (m.at p) w
due_open m p w o e = ap (λ b. cond b (unspent (m.at p) (wanted m p (m.at p))) None) o ∙ ap (unspent (m.at p)) e

pub due_shut : (m : Master) (p : ℕ) → ((m.at p).met && not (m.at p).lost) && (is_none (m.at p).waits && is_none m.deposed) ≡ false → due m p ≡ None
due_shut m p o = ap (λ b. cond b (unspent (m.at p) (wanted m p (m.at p))) None) o

pub wanted_last : (m : Master) (p : ℕ) (y : Peer) → y.doubt ≡ false → y.claimed ≡ true → y.answered ≡ true → wanted m p y ≡ or_next (first_need m.jobs p) (floor_body y.owes)
wanted_last m p y d c a =
    let last = or_next (first_need m.jobs p) (floor_body y.owes) in
    ap (λ b. cond b (Some Ask) (cond (not y.claimed) (Some (Claim m.epoch)) (cond (not y.answered) (Some Ask) last))) d
    ∙ ap (λ b. cond (not b) (Some (Claim m.epoch)) (cond (not y.answered) (Some Ask) last)) c
    ∙ ap (λ b. cond (not b) (Some Ask) last) a
