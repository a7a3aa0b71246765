-- What elements say keeps the whole.
use Rattle.std.proofs.Common.{◌≡◌, ℕ, List, ◌++◌, false, Option, Some, None, inl, inr, ⊎_elim, refl, sym, ap, ◌∙◌, subst}
use Rattle.fc_agreement.specs.Core.{Core}
use Rattle.fc_protocol.specs.ElementMachine.{Heard}
use Rattle.fc_protocol.specs.MasterMachine.{Master}
use Rattle.fc_protocol.specs.Messages.{Beat, Unread, Stamp, Body, Message, Setup, Request, Reply, Holds, Tells, Other_up, Other_down, Sent, sent}
use Rattle.fc_protocol.specs.Trace.{Fact}
use Rattle.fc_protocol.specs.WorldSteps.{World, spoken, to_element}
use Rattle.fc_protocol.specs.declared.answers.TxnEntry.{TxnEntry}
use Rattle.fc_base.specs.Ids.{Txn}
use Rattle.fc_protocol.proofs.Basics.{In, in_left, in_either, put_other, put_rest}
use Rattle.fc_agreement.proofs.Sealing.{is_live}
use Rattle.fc_agreement.proofs.Moves.{reached_on}
use Rattle.fc_agreement.proofs.Facts.{Past, has, past, Unique, SentFine, ElFine, LifeFine, Tied, Later, Apart, message_on, el_on, master_on}
use Rattle.fc_agreement.proofs.Hearing.{on, later_turned, SaysFine, Went}

abbrev pub Quiet : List Sent → Type 0
Quiet ss = (p k : ℕ) (s : Stamp) (b : Body) → In (sent p k (Request s b)) ss → ⊥

pub unique_quiet : (ss ts : List Sent) → Unique ss → Quiet ts → Unique (ss ++ ts)
unique_quiet ss ts u q p j k s a b i l e =
    ⊎_elim (λ m. ⊎_elim (λ n. u p j k s a b m n e) (λ n. absurd (q p k s b n)) (in_either _ ss ts l)) (λ m. absurd (q p j s a m)) (in_either _ ss ts i)

module _ (x : Txn) (parts : List ℕ) where
  pub later_trans : (f g h : Past) → Later x parts f g → Later x parts g h → Later x parts f h
  later_trans f g h a b = record {
    decided = λ e d i. b.decided e d (a.decided e d i);
    told = λ n i. b.told n (a.told n i);
    final = λ q s o e. b.final q s o (a.final q s o e);
    sent = λ s i. b.sent s (a.sent s i);
    used = λ k r i. b.used k r (a.used k r i);
    born = λ i. b.born (a.born i);
    closed = λ e p s. b.closed e p (a.closed e p s);
    rises = λ e p s. b.rises e p (a.rises e p s);
    crew = λ q s. a.crew q (b.crew q s);
  }

  pub life_on : (h g : Past) → Later x parts h g → (k : ℕ) (o : Option Master) → ((m : Master) → o ≡ Some m → Apart x parts m.epoch h g) → LifeFine x parts h k o → LifeFine x parts g k o
  life_on h g l k None a f = tt
  life_on h g l k (Some m) a f = master_on x parts h g l k m (a m refl) f

  pub sent_on : (h g : Past) → Later x parts h g → (s : Sent) → SentFine x parts h s → SentFine x parts g s
  sent_on h g l s f = message_on x parts h g l s.element s.controller s.message f

  abbrev more : Past → List Sent → Past
  more h ss = record { core = h.core; sent = h.sent ++ ss; used = h.used; begun = h.begun; elements = h.elements }

  pub later_more : (h : Past) (ss : List Sent) → Later x parts h (more h ss)
  later_more h ss = record { decided = λ e d i. i; told = λ n t. t; final = λ q s o e. e; sent = λ s i. in_left s h.sent ss i; used = λ k r i. i; born = λ b. b; closed = λ e p s. s; rises = λ e p l. l; crew = λ q a. a }

  pub says_quiet : (h g : Past) (fs : List Fact) (p k : ℕ) (m : Option Message) → SaysFine x parts h fs g p k m → Quiet (spoken p k m)
  says_quiet h g fs p k None f = λ q j s b i. absurd i
  says_quiet h g fs p k (Some Setup) f = λ q j s b i. ⊎_elim (λ e. let u : Request s b ≡ Setup = ap (λ (v : Sent). v.message) e in cc) (λ n. absurd n) i
  says_quiet h g fs p k (Some Beat) f = λ q j s b i. ⊎_elim (λ e. let u : Request s b ≡ Beat = ap (λ (v : Sent). v.message) e in cc) (λ n. absurd n) i
  says_quiet h g fs p k (Some (Unread t v)) f = λ q j s b i. ⊎_elim (λ e. let u : Request s b ≡ Unread t v = ap (λ (v : Sent). v.message) e in cc) (λ n. absurd n) i
  says_quiet h g fs p k (Some (Request s b)) f = absurd f
  says_quiet h g fs p k (Some (Reply t c)) f = λ q j s b i. ⊎_elim (λ e. let u : Request s b ≡ Reply t c = ap (λ (v : Sent). v.message) e in cc) (λ n. absurd n) i
  says_quiet h g fs p k (Some (Holds t e ns)) f = λ q j s b i. ⊎_elim (λ v. let u : Request s b ≡ Holds t e ns = ap (λ (v : Sent). v.message) v in cc) (λ n. absurd n) i
  says_quiet h g fs p k (Some (Tells t z e n)) f = λ q j s b i. ⊎_elim (λ v. let u : Request s b ≡ Tells t z e n = ap (λ (v : Sent). v.message) v in cc) (λ n. absurd n) i
  says_quiet h g fs p k (Some Other_up) f = λ q j s b i. ⊎_elim (λ e. let u : Request s b ≡ Other_up = ap (λ (v : Sent). v.message) e in cc) (λ n. absurd n) i
  says_quiet h g fs p k (Some Other_down) f = λ q j s b i. ⊎_elim (λ e. let u : Request s b ≡ Other_down = ap (λ (v : Sent). v.message) e in cc) (λ n. absurd n) i

  says_sent : (h g : Past) (fs : List Fact) (p k : ℕ) (m : Option Message) → SaysFine x parts h fs g p k m → (s : Sent) → In s (spoken p k m) → SentFine x parts g s
  says_sent h g fs p k None f s i = absurd i
  says_sent h g fs p k (Some Setup) f s i = ⊎_elim (λ e. subst (SentFine x parts g) (sym e) tt) (λ n. absurd n) i
  says_sent h g fs p k (Some Beat) f s i = ⊎_elim (λ e. subst (SentFine x parts g) (sym e) tt) (λ n. absurd n) i
  says_sent h g fs p k (Some (Unread t v)) f s i = ⊎_elim (λ e. subst (SentFine x parts g) (sym e) tt) (λ n. absurd n) i
  says_sent h g fs p k (Some (Request t b)) f s i = absurd f
  says_sent h g fs p k (Some (Reply t c)) f s i = ⊎_elim (λ e. subst (SentFine x parts g) (sym e) f) (λ n. absurd n) i
  says_sent h g fs p k (Some (Holds t e ns)) f s i = ⊎_elim (λ v. subst (SentFine x parts g) (sym v) f.0) (λ n. absurd n) i
  says_sent h g fs p k (Some (Tells t z e n)) f s i = ⊎_elim (λ v. subst (SentFine x parts g) (sym v) f) (λ n. absurd n) i
  says_sent h g fs p k (Some Other_up) f s i = ⊎_elim (λ e. subst (SentFine x parts g) (sym e) tt) (λ n. absurd n) i
  says_sent h g fs p k (Some Other_down) f s i = ⊎_elim (λ e. subst (SentFine x parts g) (sym e) tt) (λ n. absurd n) i

  -- what p lists it holds
  says_silent : (h g : Past) (fs : List Fact) (p k : ℕ) (m : Option Message) → SaysFine x parts h fs g p k m → (q j : ℕ) (s : Stamp) (e : ℕ) (ns : List TxnEntry) → In (sent q j (Holds s e ns)) (spoken p k m) → is_live (h.core.at q).state ≡ false → has x ns ≡ false
  says_silent h g fs p k None f q j s e ns i = absurd i
  says_silent h g fs p k (Some (Holds t d ms)) f q j s e ns i =
      ⊎_elim (λ v l.
      let same_said : Holds s e ns ≡ Holds t d ms = ap (λ (u : Sent). u.message) v in
      let same_list : ns ≡ ms = cc in
      let here : q ≡ p = ap (λ (u : Sent). u.element) v in
      subst (λ us. has x us ≡ false) (sym same_list) (f.1 (subst (λ n. is_live (h.core.at n).state ≡ false) here l)))
      (λ n. absurd n) i
  says_silent h g fs p k (Some Setup) f q j s e ns i = ⊎_elim (λ v. let u : Holds s e ns ≡ Setup = ap (λ (v : Sent). v.message) v in cc) (λ n. absurd n) i
  says_silent h g fs p k (Some Beat) f q j s e ns i = ⊎_elim (λ v. let u : Holds s e ns ≡ Beat = ap (λ (v : Sent). v.message) v in cc) (λ n. absurd n) i
  says_silent h g fs p k (Some (Unread t d)) f q j s e ns i = ⊎_elim (λ v. let u : Holds s e ns ≡ Unread t d = ap (λ (v : Sent). v.message) v in cc) (λ n. absurd n) i
  says_silent h g fs p k (Some (Request t b)) f q j s e ns i = absurd f
  says_silent h g fs p k (Some (Reply t c)) f q j s e ns i = ⊎_elim (λ v. let u : Holds s e ns ≡ Reply t c = ap (λ (v : Sent). v.message) v in cc) (λ n. absurd n) i
  says_silent h g fs p k (Some (Tells t z d n)) f q j s e ns i = ⊎_elim (λ v. let u : Holds s e ns ≡ Tells t z d n = ap (λ (v : Sent). v.message) v in cc) (λ n. absurd n) i
  says_silent h g fs p k (Some Other_up) f q j s e ns i = ⊎_elim (λ v. let u : Holds s e ns ≡ Other_up = ap (λ (v : Sent). v.message) v in cc) (λ n. absurd n) i
  says_silent h g fs p k (Some Other_down) f q j s e ns i = ⊎_elim (λ v. let u : Holds s e ns ≡ Other_down = ap (λ (v : Sent). v.message) v in cc) (λ n. absurd n) i

  pub element_tied : (w : World) (c : Core) (p k : ℕ) (r : Heard) → Tied x parts w c → (u : Went x parts (past w c) w.facts p k r) → Tied x parts (to_element w p k r) u.core
  element_tied w c p k r t u =
      let h = past w c in
      let ss = spoken p k r.says in
      let one = on h u.core in
      let g = past (to_element w p k r) u.core in
      let l = later_turned x parts h w.facts u.core p u.turned in
      let m = later_more one ss in
      let n = later_trans h one g l m in
      let quiet = says_quiet h one w.facts p k r.says u.says_fine in
      record {
        reached = reached_on x.epoch parts c u.core u.turned.leads t.reached;
        inside = t.inside;
        elements = put_rest (λ q v. ElFine x parts g q v (u.core.at q)) w.at p r.element
            (el_on x parts one g m p r.element (u.core.at p) (u.core.at p) refl u.element_fine)
            (λ q d. el_on x parts h g n q (w.at q) (c.at q) (u.core.at q) (u.turned.at q ∙ put_other c.at p (u.core.at p) q d) (t.elements q));
        masters = λ j. life_on h g n j (w.masters j) (λ v _. record {
          decided = u.turned.decided v.epoch;
          asked = λ q i s b a _. ⊎_elim (λ o. o) (λ o. absurd (quiet q i s b o)) (in_either _ w.sent ss a);
          born = λ _ b. b;
          silent = λ q i s d ns a. ⊎_elim (λ o. inl o) (λ o. inr (λ z. says_silent h one w.facts p k r.says u.says_fine q i s d ns o z.shut.0)) (in_either _ w.sent ss a);
        }) (t.masters j);
        sent = λ s i. ⊎_elim (λ o. sent_on h g n s (t.sent s o)) (λ o. sent_on one g m s (says_sent h one w.facts p k r.says u.says_fine s o)) (in_either s w.sent ss i);
        unique = unique_quiet w.sent ss t.unique quiet;
        decided = λ e d i. t.decided e d (sym (u.turned.decided e) ∙ i);
        owner = t.owner;
        marks = u.marks;
        good = u.good;
      }
