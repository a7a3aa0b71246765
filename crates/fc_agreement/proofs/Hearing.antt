-- An element hears a request.
use Rattle.std.proofs.Common.{◌≡◌, ℕ, ◌+◌, ◌^◌, ◌<◌, ◌≤◌, ◌==◌, ◌&&◌, Bool, true, false, cond, nat_lt, List, ◌∷◌, ◌++◌, Option, Some, None, inl, inr, ⊎_elim, refl, sym, ap, ◌∙◌, subst, arith, eqb-true, eq-eqb}
use Rattle.fc_agreement.specs.Core.{Element, Core, raised}
use Rattle.fc_protocol.specs.ElementMachine.{configured, by_body, Circumstance, ElementState, Heard, by_verdict, hears, acts, reply, unclaimed_code, only_says}
use Rattle.fc_protocol.specs.Fence.{judge, claims}
use Rattle.fc_protocol.specs.Floors.{is_under, is_below}
use Rattle.fc_protocol.specs.MasterMachine.{last_count}
use Rattle.fc_protocol.specs.Messages.{Floor, Malformed, Beat, Unread, is_epoch, claim_of, Stamp, Body, Claim, Sot, Mot, Eot, Trcomp, Abt, Ask, Ask_record, Plain, is_query, Message, Setup, Request, Reply, Holds, Tells, Other_up, Other_down}
use Rattle.fc_protocol.specs.Records.{seen, state_of, is_held, listed}
use Rattle.fc_protocol.specs.Trace.{Fact, Claimed_at, undone_facts}
use Rattle.fc_protocol.specs.declared.answers.TxnEntry.{TxnEntry}
use Rattle.fc_protocol.specs.declared.states.Seen.{Seen}
use Rattle.fc_protocol.specs.declared.states.Seen.TheVariants.{Absent, Started, Prepared, Completed, Aborted}
use Rattle.fc_protocol.specs.declared.states.TxnState.TheVariants.{Started as RecordStarted}
use Rattle.fc_protocol.specs.declared.verdict.Verdict.{Verdict}
use Rattle.fc_protocol.specs.declared.verdict.Verdict.TheVariants.{Claim as Claims, Unclaimed, Stale, Again, Next, Gap}
use Rattle.fc_base.specs.Ids.{Txn}
use Rattle.fc_protocol.proofs.Puts.{both_first, both_second, put_keep}
use Rattle.fc_protocol.proofs.Basics.{In, AllOf, all_on, both, put_other}
use Rattle.fc_agreement.proofs.Sealing.{is_live}
use Rattle.fc_agreement.proofs.Moves.{over, reached_on, sealed_leads, low_leads, sealed_here, live_in, Told, note, Turned, turned_none, raises, tells}
use Rattle.fc_agreement.proofs.Facts.{Past, has, Ends, Asked, EntryFine, MessageFine, KeptFine, ReplyFine, ElFine, Means, Later, el_on, entry_on, Marks, GoodFacts}
use Rattle.fc_protocol.proofs.Records.{undone_or, held_or, state_undone}
use Rattle.fc_agreement.proofs.OneRecord.{live_seen, single_state, unlisted, not_held, raised_undone, undone_fine, listed_fine, single_undone}
use Rattle.fc_agreement.proofs.Traces.{Before, StartedAlike, seen_started, claim_marks, claim_other, claim_good}
use Rattle.fc_agreement.proofs.Phases.{Given, acted_of}

abbrev pub on : Past → Core → Past
on h d = record { core = d; sent = h.sent; used = h.used; begun = h.begun; elements = h.elements }

pick_next : (e : ℕ) (o u l a n : Bool) → cond o (Claims e) (cond u Unclaimed (cond l (cond a Again (cond n Next Gap)) Stale)) ≡ Next → (l ≡ true) × (n ≡ true)
pick_next f true u l a n e = cc
pick_next f false true l a n e = cc
pick_next f false false true true n e = cc
pick_next f false false true false true e = (refl, refl)
pick_next f false false true false false e = cc
pick_next f false false false a n e = cc

pick_claims : (f g : ℕ) (o u l a n : Bool) → cond o (Claims f) (cond u Unclaimed (cond l (cond a Again (cond n Next Gap)) Stale)) ≡ Claims g → (o ≡ true) × (f ≡ g)
pick_claims f g true u l a n e = (refl, cc)
pick_claims f g false true l a n e = cc
pick_claims f g false false true true n e = cc
pick_claims f g false false true false true e = cc
pick_claims f g false false true false false e = cc
pick_claims f g false false false a n e = cc

abbrev pub verdict_on : ElementState → ℕ → Stamp → Body → Verdict
verdict_on el k m b = judge el.epoch el.master el.sequence k m (claim_of b)

pub next_is : (el : ElementState) (k : ℕ) (m : Stamp) (b : Body) → verdict_on el k m b ≡ Next → (m.life ≡ el.epoch) × (m.count ≡ el.sequence + 1)
next_is el k m b e =
    let r = pick_next m.life (claims el.epoch k m (claim_of b)) (el.epoch == 0) (m.life == el.epoch && k == el.master) (m.count == el.sequence) (m.count == el.sequence + 1) e in
    (eqb-true _ _ (both_first (m.life == el.epoch) _ r.0), eqb-true _ _ r.1)

below : (m n : ℕ) → nat_lt m n ≡ true → m < n
below m n h = grind arith

opens_claim : (el : ElementState) (k : ℕ) (m : Stamp) (b : Body) → claims el.epoch k m (claim_of b) ≡ true → (b ≡ Claim m.life) × (el.epoch < m.life)
opens_claim el k m (Claim w) e =
    let s : m.life ≡ w = eqb-true _ _ (both_first (m.life == w) _ (both_first (m.life == w && m.count == 0) _ e)) in
    let l : el.epoch < w = below _ _ (both_first (nat_lt el.epoch w) _ (both_second (is_epoch w) _ (both_second (m.life == w && m.count == 0) _ e))) in
    (ap Claim (sym s), omega arith)
opens_claim el k m (Sot y ps sc) e = cc
opens_claim el k m (Mot y i) e = cc
opens_claim el k m (Eot y) e = cc
opens_claim el k m (Trcomp y) e = cc
opens_claim el k m (Abt y) e = cc
opens_claim el k m (Floor f) e = cc
opens_claim el k m Malformed e = cc
opens_claim el k m Ask e = cc
opens_claim el k m (Ask_record y) e = cc
opens_claim el k m Plain e = cc

-- a claim that is taken is one of the life that the correlator names, which is above the element's epoch
pub claims_claim : (el : ElementState) (k : ℕ) (m : Stamp) (b : Body) (g : ℕ) → verdict_on el k m b ≡ Claims g → (b ≡ Claim m.life) × (el.epoch < m.life) × (m.life ≡ g)
claims_claim el k m b g e =
    let r = pick_claims m.life g (claims el.epoch k m (claim_of b)) (el.epoch == 0) (m.life == el.epoch && k == el.master) (m.count == el.sequence) (m.count == el.sequence + 1) e in
    let t = opens_claim el k m b r.0 in
    (t.0, t.1, r.1)

-- the halves of a correlator fit in their 32 bits
abbrev pub Low : Stamp → Type 0
Low s = (s.life < 2 ^ 32) × (s.count ≤ last_count)

module _ (x : Txn) (parts : List ℕ) (h : Past) (fs : List Fact) where
  pub later_turned : (d : Core) (p : ℕ) → Turned x.epoch parts h.core d p → Later x parts h (on h d)
  later_turned d p t = record { decided = λ e i u. t.decided e ∙ u; told = t.told; final = t.final; sent = λ s i. i; used = λ k r i. i; born = λ b. b; closed = λ e q s. sealed_leads x.epoch parts h.core d e q t.leads s; rises = λ e q s. low_leads x.epoch parts h.core d e q t.leads s; crew = λ q a. a }

  abbrev pub SaysFine : Past → ℕ → ℕ → Option Message → Type 0
  SaysFine g p k None = Unit {0}
  SaysFine g p k (Some Setup) = Unit {0}
  SaysFine g p k (Some Beat) = Unit {0}
  SaysFine g p k (Some (Unread s e)) = Unit {0}
  SaysFine g p k (Some (Request s b)) = ⊥
  SaysFine g p k (Some (Reply s code)) = ReplyFine x parts g p s code
  SaysFine g p k (Some (Holds s e ns)) = MessageFine x parts g p k (Holds s e ns) × (is_live (h.core.at p).state ≡ false → has x ns ≡ false)
  SaysFine g p k (Some (Tells s z e t)) = MessageFine x parts g p k (Tells s z e t)
  SaysFine g p k (Some Other_up) = Unit {0}
  SaysFine g p k (Some Other_down) = Unit {0}

  pub record Went (p k : ℕ) (r : Heard) : Type 0 where
    pub core : Core
    pub turned : Turned x.epoch parts h.core core p
    pub element_fine : ElFine x parts (on h core) p r.element (core.at p)
    pub says_fine : SaysFine (on h core) p k r.says
    pub marks : (q : ℕ) → Marks x parts (r.facts ++ fs) q (core.at q)
    pub good : GoodFacts x parts (r.facts ++ fs)

  kept_says : (g : Past) (p k : ℕ) (m : Option Message) → KeptFine x parts g p m → SaysFine g p k m
  kept_says g p k None f = tt
  kept_says g p k (Some Setup) f = tt
  kept_says g p k (Some Beat) f = tt
  kept_says g p k (Some (Unread s e)) f = tt
  kept_says g p k (Some (Request s b)) f = f
  kept_says g p k (Some (Reply s code)) f = f
  kept_says g p k (Some (Holds s e ns)) f = absurd f
  kept_says g p k (Some (Tells s z e t)) f = absurd f
  kept_says g p k (Some Other_up) f = tt
  kept_says g p k (Some Other_down) f = tt

  -- nothing changes
  stays : (p k : ℕ) (el : ElementState) (m : Option Message) → Before x parts h.core fs → ElFine x parts h p el (h.core.at p) → SaysFine h p k m → Went p k (only_says el m)
  stays p k el m b f s = record { core = h.core; turned = turned_none x.epoch parts h.core p; element_fine = f; says_fine = s; marks = b.marks; good = b.good }

  refused : (p k : ℕ) (s : Stamp) (b : Body) (code : ℕ) → Asked h p k s b → is_query b ≡ false → (code ≡ 0 → b ≡ Plain) → ReplyFine x parts h p s code
  refused p k s b code a q n = record { body = b; controller = k; asked = a; kind = q; prepared = λ z e. let u : Plain ≡ Eot x = sym (n z) ∙ e in cc; completed = λ z e. let u : Plain ≡ Trcomp x = sym (n z) ∙ e in cc; aborted = λ z e. let u : Plain ≡ Abt x = sym (n z) ∙ e in cc }

  reply_says : (g : Past) (p k : ℕ) (s : Stamp) (code : ℕ) (mute : Bool) → ReplyFine x parts g p s code → SaysFine g p k (reply mute s code)
  reply_says g p k s code true r = tt
  reply_says g p k s code false r = r

  reply_kept : (g : Past) (p : ℕ) (s : Stamp) (code : ℕ) (mute : Bool) → ReplyFine x parts g p s code → KeptFine x parts g p (reply mute s code)
  reply_kept g p s code true r = tt
  reply_kept g p s code false r = r

  unclaimed : (first : Bool) (plain : ℕ) (b : Body) → unclaimed_code first plain b ≡ 0 → b ≡ Plain
  unclaimed false plain b z = absurd (omega arith)
  unclaimed true plain Plain z = refl
  unclaimed true plain (Claim w) z = absurd (omega arith)
  unclaimed true plain (Sot y ps sc) z = absurd (omega arith)
  unclaimed true plain (Mot y i) z = absurd (omega arith)
  unclaimed true plain (Eot y) z = absurd (omega arith)
  unclaimed true plain (Trcomp y) z = absurd (omega arith)
  unclaimed true plain (Abt y) z = absurd (omega arith)
  unclaimed true plain (Floor f) z = absurd (omega arith)
  unclaimed true plain Malformed z = absurd (omega arith)
  unclaimed true plain Ask z = absurd (omega arith)
  unclaimed true plain (Ask_record y) z = absurd (omega arith)

  started_alike : (p : ℕ) (el : ElementState) → ElFine x parts h p el (h.core.at p) → StartedAlike x parts el.records (h.core.at p).state
  started_alike p el f =
      ⊎_elim (λ b.
      let g = f.gone b in
      ((λ i. let u : None ≡ Some RecordStarted = sym g.0 ∙ i in cc), (λ i. let u : true ≡ false = ap is_live (sym i) ∙ g.1 in cc)))
      (λ b. ((λ i. sym (f.state b) ∙ ap seen i), (λ i. seen_started _ (f.state b ∙ i)))) (both (is_below x el.floor))

  still_raised : (s : Seen) → is_live s ≡ false → is_live (raised s) ≡ false
  still_raised Absent e = refl
  still_raised Started e = let u : true ≡ false = e in cc
  still_raised Prepared e = e
  still_raised Completed e = refl
  still_raised Aborted e = refl

  claimed : (p k from : ℕ) (el : ElementState) (s : Stamp) (b : Body) (ok : Circumstance) → Low s → Before x parts h.core fs → ElFine x parts h p el (h.core.at p) → Asked h p k s b → is_query b ≡ false → (b ≡ Claim s.life) × (el.epoch < s.life) → Went p k (by_verdict p el from ok s b (Claims s.life))
  claimed p k from el s b ok w v f a q c =
      let above : (h.core.at p).epoch < s.life = subst (λ n. n < s.life) f.epoch c.1 in
      let low : el.epoch ≤ s.life = let l : el.epoch < s.life = c.1 in omega arith in
      let t = raises x.epoch parts h.core p s.life above in
      let l = later_turned t.0 p t.1 in
      let alike : StartedAlike x parts el.records (h.core.at p).state = started_alike p el f in
      let answer : ReplyFine x parts (on h t.0) p s 0 = record {
        body = b;
        controller = k;
        asked = a;
        kind = q;
        prepared = λ _ e. let u : Claim s.life ≡ Eot x = sym c.0 ∙ e in cc;
        completed = λ _ e. let u : Claim s.life ≡ Trcomp x = sym c.0 ∙ e in cc;
        aborted = λ _ e. let u : Claim s.life ≡ Abt x = sym c.0 ∙ e in cc;
      } in
      record {
        core = t.0;
        turned = t.1;
        element_fine = record {
          epoch = ap (λ (v : Element). v.epoch) (sym t.2);
          state = λ b. ap seen (state_undone x el.records) ∙ raised_undone (state_of x el.records) ∙ ap raised (f.state b) ∙ ap (λ (v : Element). v.state) (sym t.2);
          gone = λ b. let n = f.gone b in (state_undone x el.records ∙ ap undone_or n.0, ap (λ (v : Element). is_live v.state) t.2 ∙ still_raised (h.core.at p).state n.1);
          floor = λ n i. let u = f.floor n i in (u.0, u.1, u.2, (let l : u.1.life ≤ el.epoch = u.3 in omega arith));
          entries = all_on _ _ _ (entry_on x parts h (on h t.0) l s.life) (undone_fine x parts h el.epoch s.life el.records low f.entries);
          single = single_undone x parts el.records f.single;
          kept = reply_kept (on h t.0) p s 0 ok.quiet answer;
          low = (w.0, omega arith);
        };
        says_fine = reply_says (on h t.0) p k s 0 ok.quiet answer;
        marks = λ n. ⊎_elim (λ u.
            let w : n ≡ p = eqb-true n p u in
            subst (λ i. Marks x parts ((Claimed_at p s.life ∷ undone_facts p el.records) ++ fs) i (t.0.at i)) (sym w)
            (claim_marks x parts fs p s.life el.records (h.core.at p) (t.0.at p) f.single alike (ap (λ (v : Element). v.state) t.2) (ap (λ (v : Element). v.prepared) t.2) (v.marks p)))
            (λ u.
            let w = λ (z : n ≡ p). let y : true ≡ false = sym (eq-eqb n p z) ∙ u in absurd {A = ⊥} cc in
            claim_other x parts fs p n s.life el.records (t.0.at n) f.single w (subst (Marks x parts fs n) (sym (t.1.at n ∙ put_other h.core.at p (t.0.at p) n w)) (v.marks n)))
            (both (n == p));
        good = claim_good x parts fs p s.life el.records (h.core.at p) f.single alike (v.marks p) v.good;
      }

  next : (p k from : ℕ) (el : ElementState) (s : Stamp) (b : Body) (ok : Circumstance) → Low s → Before x parts h.core fs → ElFine x parts h p el (h.core.at p) → Asked h p k s b → Means x parts h s.life p b → is_query b ≡ false → s.life ≡ el.epoch → s.count ≡ el.sequence + 1 → Went p k (by_verdict p el from ok s b Next)
  next p k from el s b ok w v f a m q i n =
      let given : Given x parts h fs p el.floor el.records = record { before = v; state = f.state; gone = f.gone; entries = subst (λ v. AllOf (EntryFine x parts h v) el.records) f.epoch f.entries; single = f.single } in
      let t = acted_of x parts h fs p el.epoch ok b el.floor el.records f.epoch given (subst (λ v. Means x parts h v p b) (i ∙ f.epoch) m) in
      let l = later_turned t.core p t.turned in
      let closed = λ (live : is_live (t.core.at p).state ≡ false) (opened : (t.core.at p).state ≡ Absent → x.epoch < (t.core.at p).epoch).
      sealed_here x.epoch parts t.core p s.life (reached_on x.epoch parts h.core t.core t.turned.leads v.reached) (i ∙ f.epoch ∙ sym t.epoch) live opened in
      let answer : ReplyFine x parts (on h t.core) p s (acts p el.epoch ok b el.floor el.records).code =
      record {
        body = b;
        controller = k;
        asked = a;
        kind = q;
        prepared = λ z e. subst (λ v. Told t.core.notes (note v p Prepared)) (sym (i ∙ f.epoch)) (t.prepared z e);
        completed = λ z e. let g = t.completed z e in (g, closed (ap is_live g) (λ u. let w : Absent ≡ Completed = sym u ∙ g in cc));
        aborted = λ z e. let g = t.aborted z e in (g, closed (ap is_live g) (λ u. let w : Absent ≡ Aborted = sym u ∙ g in cc));
      } in
      record {
        core = t.core;
        turned = t.turned;
        element_fine = record {
          epoch = f.epoch ∙ sym t.epoch;
          state = t.state;
          gone = t.gone;
          floor = λ g u. ⊎_elim (λ o. f.floor g o) (λ o. (k, s, subst (Asked h p k s) o a, (let e : s.life ≡ el.epoch = i in omega arith))) (t.floor g u);
          entries = subst (λ v. AllOf (EntryFine x parts (on h t.core) v) (acts p el.epoch ok b el.floor el.records).records) (sym f.epoch) (all_on _ _ _ (entry_on x parts h (on h t.core) l (h.core.at p).epoch) t.entries);
          single = t.single;
          kept = reply_kept (on h t.core) p s (acts p el.epoch ok b el.floor el.records).code ok.quiet answer;
          low = (f.low.0, subst (λ v. v ≤ last_count) n w.1);
        };
        says_fine = reply_says (on h t.core) p k s (acts p el.epoch ok b el.floor el.records).code ok.quiet answer;
        marks = t.marks;
        good = t.good;
      }

  by_judge : (p k from : ℕ) (el : ElementState) (s : Stamp) (b : Body) (ok : Circumstance) (v : Verdict) → Low s → Before x parts h.core fs → ElFine x parts h p el (h.core.at p) → Asked h p k s b → Means x parts h s.life p b → is_query b ≡ false → verdict_on el from s b ≡ v → Went p k (by_verdict p el from ok s b v)
  by_judge p k from el s b ok (Claims g) w v f a m q e = let c = claims_claim el from s b g e in subst (λ n. Went p k (by_verdict p el from ok s b (Claims n))) c.2 (claimed p k from el s b ok w v f a q (c.0, c.1))
  by_judge p k from el s b ok Unclaimed w v f a m q e =
      let code = unclaimed_code (from == el.ce) ok.plain b in
      stays p k el (reply ok.quiet s code) v f (reply_says h p k s code ok.quiet (refused p k s b code a q (unclaimed (from == el.ce) ok.plain b)))
  by_judge p k from el s b ok Stale w v f a m q e = stays p k el (reply ok.quiet s 12) v f (reply_says h p k s 12 ok.quiet (refused p k s b 12 a q (λ z. absurd (omega arith))))
  by_judge p k from el s b ok Again w v f a m q e = stays p k el el.kept v f (kept_says h p k el.kept f.kept)
  by_judge p k from el s b ok Next w v f a m q e = let i = next_is el from s b e in next p k from el s b ok w v f a m q i.0 i.1
  by_judge p k from el s b ok Gap w v f a m q e = stays p k el (reply ok.quiet s 16) v f (reply_says h p k s 16 ok.quiet (refused p k s b 16 a q (λ z. absurd (omega arith))))

  by_misfit : (p k from : ℕ) (el : ElementState) (s : Stamp) (b : Body) (ok : Circumstance) (fits : Bool) → (ok.misfit == 0) ≡ fits → Low s → Before x parts h.core fs → ElFine x parts h p el (h.core.at p) → Asked h p k s b → Means x parts h s.life p b → is_query b ≡ false
      → Went p k (cond fits (by_verdict p el from ok s b (verdict_on el from s b)) (only_says el (reply ok.quiet s ok.misfit)))
  by_misfit p k from el s b ok true i w v f a m q = by_judge p k from el s b ok (verdict_on el from s b) w v f a m q refl
  by_misfit p k from el s b ok false i w v f a m q =
      stays p k el (reply ok.quiet s ok.misfit) v f (reply_says h p k s ok.misfit ok.quiet (refused p k s b ok.misfit a q (λ z. let t : true ≡ false = sym (eq-eqb ok.misfit 0 z) ∙ i in cc)))

  config : (p k from : ℕ) (el : ElementState) (ok : Circumstance) (s : Stamp) (b : Body) → Low s → Before x parts h.core fs → ElFine x parts h p el (h.core.at p) → Asked h p k s b → Means x parts h s.life p b → is_query b ≡ false → Went p k (configured p el from ok s b)
  config p k from el ok s b w v f a m q = by_misfit p k from el s b ok (ok.misfit == 0) refl w v f a m q

  below_some : (fl : Option Txn) → is_below x fl ≡ true → (f : Txn) × (fl ≡ Some f) × (is_under x f ≡ true)
  below_some None e = cc
  below_some (Some f) e = (f, refl, e)

  over_live : (s : Seen) → over s ≡ true → is_live s ≡ false
  over_live Absent e = refl
  over_live Started e = cc
  over_live Prepared e = cc
  over_live Completed e = refl
  over_live Aborted e = refl

  absent_over : {P : Type 0} (s : Seen) → s ≡ Absent → over s ≡ true → P
  absent_over s e o = let u : false ≡ true = ap over (sym e) ∙ o in cc

  -- what is held is told
  listed_said : (p k : ℕ) (el : ElementState) (s : Stamp) → Before x parts h.core fs → ElFine x parts h p el (h.core.at p) → Asked h p k s Ask → Went p k (only_says el (Some (Holds s el.epoch (listed el.records))))
  listed_said p k el s v f a =
      let t = tells x.epoch parts h.core p in
      let l = later_turned t.0 p t.1 in
      let g = on h t.0 in
      let said : Told t.0.notes (note el.epoch p (h.core.at p).state) = subst (λ w. Told t.0.notes (note w p (h.core.at p).state)) (sym f.epoch) t.3 in
      let state_here = λ (n : TxnEntry) (i : In n el.records) (e : n.txn ≡ x). single_state x parts n el.records f.single i e in
      let live_here = λ (n : TxnEntry) (i : In n el.records) (e : n.txn ≡ x) (b : is_held n.state ≡ true).
      let st = state_here n i e in
      ⊎_elim (λ u. let w : None ≡ Some n.state = sym (f.gone u).0 ∙ st in absurd {A = is_live (h.core.at p).state ≡ true} cc) (λ u. ap is_live (sym (f.state u)) ∙ live_seen (state_of x el.records) ∙ ap held_or st ∙ b) (both (is_below x el.floor)) in
      record {
        core = t.0;
        turned = t.1;
        element_fine = el_on x parts h g l p el (h.core.at p) (t.0.at p) t.2 f;
        says_fine = (
          record {
            controller = k;
            asked = a;
            reached = (let same_epoch : el.epoch ≡ (t.0.at p).epoch = f.epoch ∙ ap (λ (v : Element). v.epoch) (sym t.2) in omega arith);
            each = listed_fine x parts g p el.epoch el.records (all_on _ _ _ (entry_on x parts h g l el.epoch) f.entries) (λ n i e b. let w = live_here n i e b in ((h.core.at p).state, said, w, live_in x.epoch parts h.core p v.reached w));
            closed = λ above none.
                let here = λ (w : is_live (h.core.at p).state ≡ false).
                sealed_here x.epoch parts t.0 p el.epoch (reached_on x.epoch parts h.core t.0 t.1.leads v.reached) (f.epoch ∙ ap (λ (v : Element). v.epoch) (sym t.2)) (ap (λ (v : Element). is_live v.state) t.2 ∙ w)
                (λ _. subst (λ n. x.epoch < n) (f.epoch ∙ ap (λ (v : Element). v.epoch) (sym t.2)) above) in
                ⊎_elim (λ u. here (f.gone u).1) (λ u. here (ap is_live (sym (f.state u)) ∙ live_seen (state_of x el.records) ∙ not_held x parts el.records none)) (both (is_below x el.floor));
          },
          (λ w. unlisted x parts el.records f.single (⊎_elim (λ u. ap held_or (f.gone u).0) (λ u. sym (live_seen (state_of x el.records)) ∙ ap is_live (f.state u) ∙ w) (both (is_below x el.floor)))),
        );
        marks = λ n. subst (Marks x parts fs n) (sym (t.1.at n ∙ put_keep h.core.at p (t.0.at p) n (h.core.at n) refl (λ z. t.2 ∙ ap h.core.at (sym z)))) (v.marks n);
        good = v.good;
      }

  -- the record of y is told
  told : (p k : ℕ) (el : ElementState) (s : Stamp) (y : Txn) → Before x parts h.core fs → ElFine x parts h p el (h.core.at p) → Asked h p k s (Ask_record y) → Went p k (only_says el (Some (Tells s y el.epoch (seen (state_of y el.records)))))
  told p k el s y v f a =
      let t = tells x.epoch parts h.core p in
      let l = later_turned t.0 p t.1 in
      record {
        core = t.0;
        turned = t.1;
        element_fine = el_on x parts h (on h t.0) l p el (h.core.at p) (t.0.at p) t.2 f;
        says_fine = record {
          body = Ask_record y;
          controller = k;
          asked = a;
          kind = refl;
          told = λ e.
              let i : y ≡ x = cc in
              ⊎_elim (λ b.
              let g = f.gone b in
              let o = below_some el.floor b in
              let q = f.floor o.0 o.1 in
              inr (ap (λ v. seen (state_of v el.records)) i ∙ ap seen g.0, (o.0, p, q.0, q.1, q.2, q.3, o.2)))
              (λ b. inl (subst (λ v. Told t.0.notes (note el.epoch p (seen (state_of v el.records)))) (sym i) (subst (λ v. Told t.0.notes (note el.epoch p v)) (sym (f.state b)) (subst (λ v. Told t.0.notes (note v p (h.core.at p).state)) (sym f.epoch) t.3))))
              (both (is_below x el.floor));
          ended = λ e o.
              let i : y ≡ x = cc in
              let told = ap (λ v. seen (state_of v el.records)) i in
              ⊎_elim (λ b. let g = f.gone b in let u : false ≡ true = ap over (sym (ap seen g.0) ∙ sym told) ∙ o in absurd {A = Ends x parts (on h t.0) el.epoch p (seen (state_of y el.records))} cc)
              (λ b.
              let same : (t.0.at p).state ≡ seen (state_of y el.records) = ap (λ (v : Element). v.state) t.2 ∙ sym (f.state b) ∙ sym told in
              (same, sealed_here x.epoch parts t.0 p el.epoch (reached_on x.epoch parts h.core t.0 t.1.leads v.reached) (f.epoch ∙ ap (λ (v : Element). v.epoch) (sym t.2)) (over_live (t.0.at p).state (ap over same ∙ o)) (λ u. absent_over (t.0.at p).state u (ap over same ∙ o))))
              (both (is_below x el.floor));
        };
        marks = λ n. subst (Marks x parts fs n) (sym (t.1.at n ∙ put_keep h.core.at p (t.0.at p) n (h.core.at n) refl (λ z. t.2 ∙ ap h.core.at (sym z)))) (v.marks n);
        good = v.good;
      }

  asked_fit : (p k : ℕ) (el : ElementState) (s : Stamp) (answer : Message) (fits : Bool) → Before x parts h.core fs → ElFine x parts h p el (h.core.at p) → Went p k (only_says el (Some answer)) → Went p k (only_says el (cond fits (Some answer) (Some (Unread s None))))
  asked_fit p k el s answer true v f w = w
  asked_fit p k el s answer false v f w = stays p k el (Some (Unread s None)) v f tt

  by_kind : (p k from : ℕ) (el : ElementState) (ok : Circumstance) (s : Stamp) (b : Body) → Low s → Before x parts h.core fs → ElFine x parts h p el (h.core.at p) → Asked h p k s b → Means x parts h s.life p b → Went p k (by_body p el from ok s b)
  by_kind p k from el ok s Ask w v f a m = asked_fit p k el s (Holds s el.epoch (listed el.records)) (ok.misfit == 0) v f (listed_said p k el s v f a)
  by_kind p k from el ok s (Ask_record y) w v f a m = asked_fit p k el s (Tells s y el.epoch (seen (state_of y el.records))) (ok.misfit == 0) v f (told p k el s y v f a)
  by_kind p k from el ok s (Claim e) w v f a m = config p k from el ok s (Claim e) w v f a m refl
  by_kind p k from el ok s (Sot y ps sc) w v f a m = config p k from el ok s (Sot y ps sc) w v f a m refl
  by_kind p k from el ok s (Mot y i) w v f a m = config p k from el ok s (Mot y i) w v f a m refl
  by_kind p k from el ok s (Eot y) w v f a m = config p k from el ok s (Eot y) w v f a m refl
  by_kind p k from el ok s (Trcomp y) w v f a m = config p k from el ok s (Trcomp y) w v f a m refl
  by_kind p k from el ok s (Abt y) w v f a m = config p k from el ok s (Abt y) w v f a m refl
  by_kind p k from el ok s (Floor g) w v f a m = config p k from el ok s (Floor g) w v f a m refl
  by_kind p k from el ok s Malformed w v f a m = config p k from el ok s Malformed w v f a m refl
  by_kind p k from el ok s Plain w v f a m = config p k from el ok s Plain w v f a m refl

  went_if : (p k from : ℕ) (el : ElementState) (ok : Circumstance) (s : Stamp) (b : Body) (unheard : Bool) → Low s → Before x parts h.core fs → ElFine x parts h p el (h.core.at p) → Asked h p k s b → Means x parts h s.life p b → Went p k (cond unheard (only_says el None) (by_body p el from ok s b))
  went_if p k from el ok s b true w v f a m = stays p k el None v f tt
  went_if p k from el ok s b false w v f a m = by_kind p k from el ok s b w v f a m

  pub went : (p k from : ℕ) (el : ElementState) (ok : Circumstance) (s : Stamp) (b : Body) → Low s → Before x parts h.core fs → ElFine x parts h p el (h.core.at p) → Asked h p k s b → Means x parts h s.life p b → Went p k (hears p el from ok s b)
  went p k from el ok s b w v f a m = went_if p k from el ok s b ok.unheard w v f a m
