-- What the facts of an element show, as one of its phases adds to them.
use Rattle.std.proofs.Common.{◌≡◌, ℕ, ◌==◌, Bool, true, false, cond, List, [], ◌∷◌, ◌++◌, Option, Some, None, ◌⊎◌, inl, inr, ⊎_elim, refl, sym, ap, ◌∙◌, subst, eqb-true, eq-eqb}
use Rattle.fc_protocol.specs.Collections.{among}
use Rattle.fc_agreement.specs.Core.{Element, Core, raised}
use Rattle.fc_protocol.specs.Records.{seen, state_of, still_started}
use Rattle.fc_protocol.specs.Trace.{Event, Opens, Prepares, Settles, Fact, Opened_at, Prepared_at, Settled_at, Claimed_at, fact_of, facts_of, undone_facts}
use Rattle.fc_protocol.specs.declared.answers.TxnEntry.{TxnEntry}
use Rattle.fc_protocol.specs.declared.states.Decision.{Decision}
use Rattle.fc_protocol.specs.declared.states.Decision.TheVariants.{Complete, Abort}
use Rattle.fc_protocol.specs.declared.states.Seen.{Seen}
use Rattle.fc_protocol.specs.declared.states.Seen.TheVariants.{Absent, Started, Prepared, Completed, Aborted}
use Rattle.fc_protocol.specs.declared.states.TxnState.{TxnState}
use Rattle.fc_protocol.specs.declared.states.TxnState.TheVariants.{Started as RecordStarted, Prepared as RecordPrepared, Completed as RecordCompleted, Aborted as RecordAborted}
use Rattle.fc_base.specs.Ids.{Txn}
use Rattle.fc_agreement.proofs.States.{raised_absent}
use Rattle.fc_agreement.proofs.Keeps.{ready}
use Rattle.fc_protocol.proofs.Basics.{In, in_left, in_right, in_either, both, put_other}
use Rattle.fc_agreement.proofs.Moves.{Reached, reached_on, Turned, over, raised_over}
use Rattle.fc_agreement.proofs.Facts.{Marks, GoodFact, GoodFacts, Single, is_open, done, done_over}
use Rattle.fc_agreement.proofs.OneRecord.{undone_only, undone_has, undone_good}

pub seen_started : (o : Option TxnState) → seen o ≡ Started → o ≡ Some RecordStarted
seen_started None e = cc
seen_started (Some RecordStarted) e = refl
seen_started (Some RecordPrepared) e = cc
seen_started (Some RecordCompleted) e = cc
seen_started (Some RecordAborted) e = cc

done_same : (d g : Decision) → done d ≡ done g → d ≡ g
done_same Complete Complete e = refl
done_same Complete Abort e = cc
done_same Abort Complete e = cc
done_same Abort Abort e = refl

pub not_over : {P : Type 0} (s : Seen) (d : Decision) → over s ≡ false → s ≡ done d → P
not_over s d o e = let u : false ≡ true = sym o ∙ ap over e ∙ done_over d in cc

module _ (x : Txn) (parts : List ℕ) where
  pub record Before (c : Core) (fs : List Fact) : Type 0 where
    pub reached : Reached x.epoch parts c
    pub marks : (q : ℕ) → Marks x parts fs q (c.at q)
    pub good : GoodFacts x parts fs

  pub open_marks : (fs : List Fact) (p : ℕ) (y z : Element) → Marks x parts fs p y → y.state ≡ Absent → z.prepared ≡ y.prepared → over z.state ≡ false → (z.state ≡ Absent → ⊥) → Marks x parts (Opened_at p x parts ∷ fs) p z
  open_marks fs p y z m a b o n = record {
    was = λ _ _ e. n e;
    opened = λ _. inl refl;
    prepared = λ e. inr (m.prepared (sym b ∙ e));
    settled = λ d i. ⊎_elim (λ e. cc) (λ e. not_over y.state d (ap over a) (m.settled d e)) i;
    ended = λ d e. not_over z.state d o e;
  }

  pub prepare_marks : (fs : List Fact) (p : ℕ) (y z : Element) → Marks x parts fs p y → y.state ≡ Started → z.state ≡ Prepared → Marks x parts (Prepared_at p x ∷ fs) p z
  prepare_marks fs p y z m a b = record {
    was = λ _ _ e. let u : Absent ≡ Prepared = sym e ∙ b in cc;
    opened = λ _. inr (m.opened (ap is_open a));
    prepared = λ _. inl refl;
    settled = λ d i. ⊎_elim (λ e. cc) (λ e. not_over y.state d (ap over a) (m.settled d e)) i;
    ended = λ d e. not_over z.state d (ap over b) e;
  }

  open_done : (d : Decision) (s : Seen) → s ≡ done d → is_open s ≡ true → d ≡ Complete
  open_done Complete s e i = refl
  open_done Abort s e i = let u : false ≡ true = ap is_open (sym e) ∙ i in cc

  pub settle_marks : (fs : List Fact) (p : ℕ) (y z : Element) (d : Decision) → Marks x parts fs p y → over y.state ≡ false → z.state ≡ done d → z.prepared ≡ y.prepared → (d ≡ Complete → is_open y.state ≡ true) → Marks x parts (Settled_at p x d ∷ fs) p z
  settle_marks fs p y z d m o e b k = record {
    was = λ _ _ u. not_over Absent d refl (sym u ∙ e);
    opened = λ i. inr (m.opened (k (open_done d z.state e i)));
    prepared = λ i. inr (m.prepared (sym b ∙ i));
    settled = λ g i. ⊎_elim (λ u. let v : d ≡ g = cc in e ∙ ap done v) (λ u. not_over y.state g o (m.settled g u)) i;
    ended = λ g i. inl (let v : g ≡ d = done_same g d (sym i ∙ e) in ap (Settled_at p x) v);
  }

  pub settle_good : (fs : List Fact) (p : ℕ) (y : Element) (d : Decision) → Marks x parts fs p y → over y.state ≡ false → (d ≡ Complete → (is_open y.state ≡ true) × ((q : ℕ) → among q parts ≡ true → In (Prepared_at q x) fs)) → GoodFact x parts fs (Settled_at p x d)
  settle_good fs p y d m o k = λ _. ((λ g i. not_over y.state g o (m.settled g i)), (λ e. let v = k e in (m.opened v.0, v.1)))

  pub no_facts : (c : Core) (fs : List Fact) (p : ℕ) → Before c fs → Marks x parts fs p (c.at p) × GoodFacts x parts fs
  no_facts c fs p b = (b.marks p, b.good)

  -- a core in which p has completed has all participants prepared, as the facts before show
  pub all_prepared : (c d : Core) (fs : List Fact) (p : ℕ) → Before c fs → Turned x.epoch parts c d p → (d.at p).state ≡ Completed → (d.at p).prepared ≡ (c.at p).prepared → (q : ℕ) → among q parts ≡ true → In (Prepared_at q x) fs
  all_prepared c d fs p b t e k q m =
      let r = reached_on x.epoch parts c d t.leads b.reached in
      let has : (d.at q).prepared ≡ true = ap (λ (v : Core). (v.at q).prepared) (sym r.1) ∙ ready x.epoch parts r.0 p q (ap (λ (v : Core). (v.at p).state) r.1 ∙ e) m in
      ⊎_elim (λ u. let s : q ≡ p = eqb-true q p u in (b.marks q).prepared (ap (λ n. (c.at n).prepared) s ∙ sym k ∙ ap (λ n. (d.at n).prepared) (sym s) ∙ has))
      (λ u. (b.marks q).prepared (ap (λ (v : Element). v.prepared) (sym (put_other c.at p (d.at p) q (λ s. let z : true ≡ false = sym (eq-eqb q p s) ∙ u in cc)) ∙ sym (t.at q)) ∙ has))
      (both (q == p))

  -- facts of another transaction, or of another element
  fact_is : (p q : ℕ) (y : Txn) (ps : List ℕ) (d : Decision) (e : Event) → Settled_at q x d ≡ fact_of p y ps e → (q ≡ p) × (x ≡ y)
  fact_is p q y ps d Opens i = cc
  fact_is p q y ps d Prepares i = cc
  fact_is p q y ps d (Settles g) i = (cc, cc)

  facts_are : (p q : ℕ) (y : Txn) (ps : List ℕ) (d : Decision) (es : List Event) → In (Settled_at q x d) (facts_of p y ps es) → (q ≡ p) × (x ≡ y)
  facts_are p q y ps d [] i = absurd i
  facts_are p q y ps d (e ∷ es) i = ⊎_elim (λ u. fact_is p q y ps d e u) (λ u. facts_are p q y ps d es u) i

  open_is : (p q : ℕ) (y : Txn) (ps rs : List ℕ) (e : Event) → Opened_at q x rs ≡ fact_of p y ps e → (q ≡ p) × (x ≡ y)
  open_is p q y ps rs Opens i = (cc, cc)
  open_is p q y ps rs Prepares i = cc
  open_is p q y ps rs (Settles g) i = cc

  opens_are : (p q : ℕ) (y : Txn) (ps rs : List ℕ) (es : List Event) → In (Opened_at q x rs) (facts_of p y ps es) → (q ≡ p) × (x ≡ y)
  opens_are p q y ps rs [] i = absurd i
  opens_are p q y ps rs (e ∷ es) i = ⊎_elim (λ u. open_is p q y ps rs e u) (λ u. opens_are p q y ps rs es u) i

  one_open : (b : Bool) (p q : ℕ) (y : Txn) (rs : List ℕ) → In (Opened_at q x rs) (cond b (Settled_at p y Abort ∷ []) []) → ⊥
  one_open true p q y rs i = ⊎_elim (λ u. cc) (λ u. u) i
  one_open false p q y rs i = i

  -- a claim opens nothing
  undone_open : (p q : ℕ) (rs : List ℕ) (ns : List TxnEntry) → In (Opened_at q x rs) (undone_facts p ns) → ⊥
  undone_open p q rs [] i = i
  undone_open p q rs (n ∷ ns) i = ⊎_elim (λ u. undone_open p q rs ns u) (λ u. one_open (still_started n.state) p q n.txn rs u) (in_either _ (undone_facts p ns) (cond (still_started n.state) (Settled_at p n.txn Abort ∷ []) []) i)

  pub marks_other : (fs gs : List Fact) (q : ℕ) (z : Element) → ((d : Decision) → In (Settled_at q x d) gs → ⊥) → ((ps : List ℕ) → In (Opened_at q x ps) gs → ⊥) → Marks x parts fs q z → Marks x parts (gs ++ fs) q z
  marks_other fs gs q z n o m = record {
    was = λ ps i. ⊎_elim (λ u. absurd (o ps u)) (λ u. m.was ps u) (in_either _ gs fs i);
    opened = λ i. in_right _ gs fs (m.opened i);
    prepared = λ i. in_right _ gs fs (m.prepared i);
    settled = λ d i. ⊎_elim (λ u. absurd (n d u)) (λ u. m.settled d u) (in_either _ gs fs i);
    ended = λ d i. in_right _ gs fs (m.ended d i);
  }

  pub marks_apart : (fs : List Fact) (p q : ℕ) (y : Txn) (ps : List ℕ) (es : List Event) (z : Element) → (q ≡ p → x ≡ y → ⊥) → Marks x parts fs q z → Marks x parts (facts_of p y ps es ++ fs) q z
  marks_apart fs p q y ps es z n m = marks_other fs (facts_of p y ps es) q z (λ d i. let u = facts_are p q y ps d es i in n u.0 u.1) (λ rs i. let u = opens_are p q y ps rs es i in n u.0 u.1) m

  fact_apart : (fs : List Fact) (p : ℕ) (y : Txn) (ps : List ℕ) (e : Event) → (y ≡ x → ⊥) → GoodFact x parts fs (fact_of p y ps e)
  fact_apart fs p y ps Opens n = λ i. absurd (n i)
  fact_apart fs p y ps Prepares n = tt
  fact_apart fs p y ps (Settles d) n = λ i. absurd (n i)

  pub good_apart : (fs : List Fact) (p : ℕ) (y : Txn) (ps : List ℕ) (es : List Event) → (y ≡ x → ⊥) → GoodFacts x parts fs → GoodFacts x parts (facts_of p y ps es ++ fs)
  good_apart fs p y ps [] n g = g
  good_apart fs p y ps (e ∷ es) n g = (fact_apart (facts_of p y ps es ++ fs) p y ps e n, good_apart fs p y ps es n g)

  -- the facts of a claim
  raised_open : (s : Seen) → is_open (raised s) ≡ true → is_open s ≡ true
  raised_open Absent e = e
  raised_open Started e = refl
  raised_open Prepared e = e
  raised_open Completed e = e
  raised_open Aborted e = e

  raised_done : (s : Seen) (d : Decision) → raised s ≡ done d → ((s ≡ Started) × (d ≡ Abort)) ⊎ (s ≡ done d)
  raised_done Absent d e = inr e
  raised_done Started Abort e = inl (refl, refl)
  raised_done Started Complete e = cc
  raised_done Prepared d e = inr e
  raised_done Completed d e = inr e
  raised_done Aborted d e = inr e

  -- the records have x as started exactly where the core does
  abbrev pub StartedAlike : List TxnEntry → Seen → Type 0
  StartedAlike ns s = (state_of x ns ≡ Some RecordStarted → s ≡ Started) × (s ≡ Started → state_of x ns ≡ Some RecordStarted)

  pub claim_marks : (fs : List Fact) (p e : ℕ) (ns : List TxnEntry) (y z : Element) → Single x parts ns → StartedAlike ns y.state → z.state ≡ raised y.state → z.prepared ≡ y.prepared → Marks x parts fs p y → Marks x parts ((Claimed_at p e ∷ undone_facts p ns) ++ fs) p z
  claim_marks fs p e ns y z s i r b m = record {
    was = λ ps u v. ⊎_elim (λ n. cc) (λ n. ⊎_elim (λ o. undone_open p p ps ns o) (λ o. m.was ps o (raised_absent y.state (sym r ∙ v))) (in_either _ (undone_facts p ns) fs n)) u;
    opened = λ u. inr (in_right _ (undone_facts p ns) fs (m.opened (raised_open y.state (ap is_open (sym r) ∙ u))));
    prepared = λ u. inr (in_right _ (undone_facts p ns) fs (m.prepared (sym b ∙ u)));
    settled = λ d u. ⊎_elim (λ v. cc)
        (λ v. ⊎_elim (λ n. let t = undone_only x parts p p d ns s n in r ∙ ap raised (i.0 t.1) ∙ ap done (sym t.2)) (λ n. let t = m.settled d n in r ∙ ap raised t ∙ raised_over (done d) (done_over d)) (in_either _ (undone_facts p ns) fs v)) u;
    ended = λ d u. ⊎_elim (λ v. inr (in_left _ (undone_facts p ns) fs (subst (λ g. In (Settled_at p x g) (undone_facts p ns)) (sym v.1) (undone_has x parts p ns (i.1 v.0)))))
        (λ v. inr (in_right _ (undone_facts p ns) fs (m.ended d v))) (raised_done y.state d (sym r ∙ u));
  }

  pub claim_other : (fs : List Fact) (p q e : ℕ) (ns : List TxnEntry) (z : Element) → Single x parts ns → (q ≡ p → ⊥) → Marks x parts fs q z → Marks x parts ((Claimed_at p e ∷ undone_facts p ns) ++ fs) q z
  claim_other fs p q e ns z s n m = marks_other fs (Claimed_at p e ∷ undone_facts p ns) q z (λ d u. ⊎_elim (λ v. cc) (λ v. n (undone_only x parts p q d ns s v).0) u) (λ ps u. ⊎_elim (λ v. cc) (λ v. undone_open p q ps ns v) u) m

  pub claim_good : (fs : List Fact) (p e : ℕ) (ns : List TxnEntry) (y : Element) → Single x parts ns → StartedAlike ns y.state → Marks x parts fs p y → GoodFacts x parts fs → GoodFacts x parts ((Claimed_at p e ∷ undone_facts p ns) ++ fs)
  claim_good fs p e ns y s i m g = (tt, undone_good x parts p ns fs s g (λ u d v. not_over y.state d (ap over (i.0 u)) (m.settled d v)))
