-- One element by itself: its records tell what it has settled, and it completes only what it has prepared.
use Rattle.std.proofs.Common.{◌≡◌, ℕ, ◌==◌, ◌&&◌, not, Bool, true, false, cond, List, [], ◌∷◌, ◌++◌, append_assoc, Option, Some, None, ◌⊎◌, inl, inr, ⊎_elim, refl, sym, ap, ◌∙◌, subst, arith, eqb-true}
use Rattle.fc_base.specs.Ids.{Txn}
use Rattle.fc_protocol.specs.Messages.{same}
use Rattle.fc_protocol.specs.OneElement.{end_of}
use Rattle.fc_protocol.specs.Phases.{Turn, starting, continuing, preparing, settling, failed, with_rest, opening, adding, aborting}
use Rattle.fc_protocol.specs.Records.{state_of, still_started}
use Rattle.fc_protocol.specs.Trace.{Event, Opens, Prepares, Settles, Fact, Opened_at, Prepared_at, Settled_at, Claimed_at, fact_of, facts_of, undone_facts}
use Rattle.fc_protocol.specs.declared.answers.TxnEntry.{TxnEntry}
use Rattle.fc_protocol.specs.declared.states.Decision.{Decision}
use Rattle.fc_protocol.specs.declared.states.Decision.TheVariants.{Complete, Abort}
use Rattle.fc_protocol.specs.declared.states.TxnState.{TxnState}
use Rattle.fc_protocol.specs.declared.states.TxnState.TheVariants.{Started as RecordStarted, Prepared as RecordPrepared, Completed as RecordCompleted, Aborted as RecordAborted}
use Rattle.fc_protocol.proofs.Puts.{both_first}
use Rattle.fc_protocol.proofs.Basics.{In, in_left, in_right, in_either, cond_true, cond_false, both, same_of, some_same}
use Rattle.fc_agreement.proofs.Facts.{Single}
use Rattle.fc_protocol.proofs.Records.{or_else, undone_or, was_started}
use Rattle.fc_agreement.proofs.OneRecord.{absent_of, undone_only, undone_has}

end_same : (d g : Decision) → end_of d ≡ end_of g → d ≡ g
end_same Complete Complete e = refl
end_same Complete Abort e = cc
end_same Abort Complete e = cc
end_same Abort Abort e = refl

-- whether a record may still end
abbrev open_end : Option TxnState → Bool
open_end None = true
open_end (Some RecordStarted) = true
open_end (Some RecordPrepared) = true
open_end (Some RecordCompleted) = false
open_end (Some RecordAborted) = false

not_ended : {P : Type 0} (s : Option TxnState) (d : Decision) → open_end s ≡ true → s ≡ Some (end_of d) → P
not_ended s Complete o e = let u : true ≡ false = sym o ∙ ap open_end e in cc
not_ended s Abort o e = let u : true ≡ false = sym o ∙ ap open_end e in cc

module _ (p : ℕ) (x : Txn) where
  abbrev pub GoodAt : List Fact → Fact → Type 0
  GoodAt fs (Opened_at q y ps) = Unit {0}
  GoodAt fs (Prepared_at q y) = Unit {0}
  GoodAt fs (Settled_at q y d) = q ≡ p → y ≡ x → ((g : Decision) → In (Settled_at p x g) fs → ⊥) × (d ≡ Complete → In (Prepared_at p x) fs)
  GoodAt fs (Claimed_at q e) = Unit {0}

  abbrev pub Good : List Fact → Type 0
  Good [] = Unit {0}
  Good (f ∷ fs) = GoodAt fs f × Good fs

  -- what the facts tell of the record of x
  pub record Known (fs : List Fact) (s : Option TxnState) : Type 0 where
    pub prepared : s ≡ Some RecordPrepared → In (Prepared_at p x) fs
    pub settled : (d : Decision) → In (Settled_at p x d) fs → s ≡ Some (end_of d)
    pub ended : (d : Decision) → s ≡ Some (end_of d) → In (Settled_at p x d) fs
    pub good : Good fs

  opens_known : (ps : List ℕ) (fs : List Fact) → Known fs None → Known (Opened_at p x ps ∷ fs) (Some RecordStarted)
  opens_known ps fs k = record {
    prepared = λ e. cc;
    settled = λ d i. ⊎_elim (λ e. cc) (λ e. not_ended None d refl (k.settled d e)) i;
    ended = λ d e. not_ended (Some RecordStarted) d refl e;
    good = (tt, k.good);
  }

  prepares_known : (fs : List Fact) → Known fs (Some RecordStarted) → Known (Prepared_at p x ∷ fs) (Some RecordPrepared)
  prepares_known fs k = record {
    prepared = λ _. inl refl;
    settled = λ d i. ⊎_elim (λ e. cc) (λ e. not_ended (Some RecordStarted) d refl (k.settled d e)) i;
    ended = λ d e. not_ended (Some RecordPrepared) d refl e;
    good = (tt, k.good);
  }

  settles_known : (fs : List Fact) (s : Option TxnState) (d : Decision) → open_end s ≡ true → (d ≡ Complete → s ≡ Some RecordPrepared) → Known fs s → Known (Settled_at p x d ∷ fs) (Some (end_of d))
  settles_known fs s d o c k = record {
    prepared = λ e. unprepared d e;
    settled = λ g i. ⊎_elim (λ e. let v : g ≡ d = cc in ap (λ z. Some (end_of z)) (sym v)) (λ e. not_ended s g o (k.settled g e)) i;
    ended = λ g e. inl (let v : d ≡ g = end_same d g (some_same _ _ e) in ap (Settled_at p x) (sym v));
    good = ((λ _ _. ((λ g i. not_ended s g o (k.settled g i)), (λ e. k.prepared (c e)))), k.good);
  }
    where
      unprepared : {P : Type 0} (d : Decision) → Some (end_of d) ≡ Some RecordPrepared → P
      unprepared Complete e = cc
      unprepared Abort e = cc

  -- after the turn of a phase of x at the state s
  abbrev pub Turned : Turn → Option TxnState → List ℕ → List Fact → Type 0
  Turned t s ps fs = Known (facts_of p x ps t.events ++ fs) (or_else t.new s)

  failed_turn : (b : Bool) (rest : ℕ) (t : Turn) (s : Option TxnState) (ps : List ℕ) (fs : List Fact) → Turned t s ps fs → (b ≡ true → or_else t.new s ≡ Some RecordStarted) → Turned (failed b rest t) s ps fs
  failed_turn false rest t s ps fs k e = k
  failed_turn true rest t s ps fs k e = settles_known (facts_of p x ps t.events ++ fs) (or_else t.new s) Abort (ap open_end (e refl)) (λ c. cc) k

  rest_turn : (rest : ℕ) (t : Turn) (s : Option TxnState) (ps : List ℕ) (fs : List Fact) → Turned t s ps fs → (t.code ≡ 0 → or_else t.new s ≡ Some RecordStarted) → Turned (with_rest rest t) s ps fs
  rest_turn rest t s ps fs k e = failed_turn (t.code == 0 && not (rest == 0)) rest t s ps fs k (λ u. e (eqb-true _ _ (both_first (t.code == 0) _ u)))

  starting_turn : (below clash full : Bool) (s : Option TxnState) (ps : List ℕ) (fs : List Fact) → Known fs s → Turned (starting below clash full s) s ps fs × ((starting below clash full s).code ≡ 0 → or_else (starting below clash full s).new s ≡ Some RecordStarted)
  starting_turn true clash full None ps fs k = (k, (λ e. absurd (omega arith)))
  starting_turn false true full None ps fs k = (k, (λ e. absurd (omega arith)))
  starting_turn false false true None ps fs k = (k, (λ e. absurd (omega arith)))
  starting_turn false false false None ps fs k = (opens_known ps fs k, (λ _. refl))
  starting_turn below clash full (Some s) ps fs k = (k, (λ e. absurd (omega arith)))

  pub opening_turn : (fits below clash full : Bool) (rest : ℕ) (s : Option TxnState) (ps : List ℕ) (fs : List Fact) → Known fs s → Turned (opening fits below clash full rest s) s ps fs
  opening_turn true below clash full rest s ps fs k = let t = starting_turn below clash full s ps fs k in rest_turn rest (starting below clash full s) s ps fs t.0 t.1
  opening_turn false below clash full rest s ps fs k = k

  continuing_turn : (s : Option TxnState) (fs : List Fact) → Known fs s → Turned (continuing s) s [] fs × ((continuing s).code ≡ 0 → or_else (continuing s).new s ≡ Some RecordStarted)
  continuing_turn None fs k = (k, (λ e. absurd (omega arith)))
  continuing_turn (Some RecordStarted) fs k = (k, (λ _. refl))
  continuing_turn (Some RecordPrepared) fs k = (k, (λ e. absurd (omega arith)))
  continuing_turn (Some RecordCompleted) fs k = (k, (λ e. absurd (omega arith)))
  continuing_turn (Some RecordAborted) fs k = (k, (λ e. absurd (omega arith)))

  pub adding_turn : (rest : ℕ) (s : Option TxnState) (fs : List Fact) → Known fs s → Turned (adding rest s) s [] fs
  adding_turn rest s fs k = let t = continuing_turn s fs k in rest_turn rest (continuing s) s [] fs t.0 t.1

  pub preparing_turn : (s : Option TxnState) (fs : List Fact) → Known fs s → Turned (preparing s) s [] fs
  preparing_turn None fs k = k
  preparing_turn (Some RecordStarted) fs k = prepares_known fs k
  preparing_turn (Some RecordPrepared) fs k = k
  preparing_turn (Some RecordCompleted) fs k = k
  preparing_turn (Some RecordAborted) fs k = k

  pub settling_turn : (d : Decision) (s : Option TxnState) (fs : List Fact) → Known fs s → Turned (settling d s) s [] fs
  settling_turn d None fs k = k
  settling_turn Complete (Some RecordStarted) fs k = k
  settling_turn Complete (Some RecordPrepared) fs k = settles_known fs (Some RecordPrepared) Complete refl (λ _. refl) k
  settling_turn Complete (Some RecordCompleted) fs k = k
  settling_turn Complete (Some RecordAborted) fs k = k
  settling_turn Abort (Some RecordStarted) fs k = settles_known fs (Some RecordStarted) Abort refl (λ e. cc) k
  settling_turn Abort (Some RecordPrepared) fs k = settles_known fs (Some RecordPrepared) Abort refl (λ e. cc) k
  settling_turn Abort (Some RecordCompleted) fs k = k
  settling_turn Abort (Some RecordAborted) fs k = k

  pub aborting_turn : (named full : Bool) (s : Option TxnState) (fs : List Fact) → Known fs s → Turned (aborting named full s) s [] fs
  aborting_turn false full None fs k = k
  aborting_turn true true None fs k = k
  aborting_turn true false None fs k = settles_known fs None Abort refl (λ e. cc) k
  aborting_turn named full (Some s) fs k = settling_turn Abort (Some s) fs k

  -- facts of another transaction tell nothing of x
  other_fact : (y : Txn) (ps : List ℕ) (e : Event) (fs : List Fact) (s : Option TxnState) → (y ≡ x → ⊥) → Known fs s → Known (fact_of p y ps e ∷ fs) s
  other_fact y ps Opens fs s n k = record { prepared = λ e. inr (k.prepared e); settled = λ d i. ⊎_elim (λ e. cc) (λ e. k.settled d e) i; ended = λ d e. inr (k.ended d e); good = (tt, k.good) }
  other_fact y ps Prepares fs s n k = record { prepared = λ e. inr (k.prepared e); settled = λ d i. ⊎_elim (λ e. cc) (λ e. k.settled d e) i; ended = λ d e. inr (k.ended d e); good = (tt, k.good) }
  other_fact y ps (Settles g) fs s n k = record {
    prepared = λ e. inr (k.prepared e);
    settled = λ d i. ⊎_elim (λ e. let v : y ≡ x = cc in absurd (n v)) (λ e. k.settled d e) i;
    ended = λ d e. inr (k.ended d e);
    good = ((λ _ v. absurd (n v)), k.good);
  }

  pub other_facts : (y : Txn) (ps : List ℕ) (es : List Event) (fs : List Fact) (s : Option TxnState) → (y ≡ x → ⊥) → Known fs s → Known (facts_of p y ps es ++ fs) s
  other_facts y ps [] fs s n k = k
  other_facts y ps (e ∷ es) fs s n k = other_fact y ps e (facts_of p y ps es ++ fs) s n (other_facts y ps es fs s n k)

  -- a claim
  one_good : (b : Bool) (n : TxnEntry) (fs : List Fact) → still_started n.state ≡ b → Good fs → (still_started n.state ≡ true → n.txn ≡ x → (g : Decision) → In (Settled_at p x g) fs → ⊥) → Good (cond b (Settled_at p n.txn Abort ∷ []) [] ++ fs)
  one_good true n fs e g k = ((λ _ u. (k e u, (λ v. cc))), g)
  one_good false n fs e g k = g

  one_is : (b : Bool) (n : TxnEntry) (d : Decision) → In (Settled_at p x d) (cond b (Settled_at p n.txn Abort ∷ []) []) → n.txn ≡ x
  one_is true n d i = ⊎_elim (λ e. cc) (λ e. absurd e) i
  one_is false n d i = absurd i

  undone_good : (ns : List TxnEntry) (fs : List Fact) → Single x [] ns → Good fs → (state_of x ns ≡ Some RecordStarted → (g : Decision) → In (Settled_at p x g) fs → ⊥) → Good (undone_facts p ns ++ fs)
  undone_good [] fs s g k = g
  undone_good (n ∷ ns) fs s g k =
      let one = cond (still_started n.state) (Settled_at p n.txn Abort ∷ []) [] in
      let first = one_good (still_started n.state) n fs refl g (λ e u. k (cond_true _ (Some n.state) _ (same_of x n.txn (sym u)) ∙ ap Some (was_started n.state e))) in
      subst Good (sym (append_assoc (undone_facts p ns) one fs))
      (undone_good ns (one ++ fs) s.1 first (λ e d i.
      ⊎_elim (λ v. let t : Some RecordStarted ≡ None = sym e ∙ absent_of x [] ns (s.0 v) in absurd {A = ⊥} cc)
      (λ v. ⊎_elim (λ u. let t : true ≡ false = sym (same_of x n.txn (sym (one_is (still_started n.state) n d u))) ∙ v in absurd {A = ⊥} cc) (λ u. k (cond_false _ (Some n.state) _ v ∙ e) d u) (in_either _ one fs i))
      (both (same x n.txn))))

  undone_end : (s : Option TxnState) (d : Decision) → undone_or s ≡ Some (end_of d) → ((s ≡ Some RecordStarted) × (d ≡ Abort)) ⊎ (s ≡ Some (end_of d))
  undone_end None d e = cc
  undone_end (Some RecordStarted) Complete e = cc
  undone_end (Some RecordStarted) Abort e = inl (refl, refl)
  undone_end (Some RecordPrepared) Complete e = cc
  undone_end (Some RecordPrepared) Abort e = cc
  undone_end (Some RecordCompleted) d e = inr e
  undone_end (Some RecordAborted) d e = inr e

  undone_prepared : (s : Option TxnState) → undone_or s ≡ Some RecordPrepared → s ≡ Some RecordPrepared
  undone_prepared None e = cc
  undone_prepared (Some RecordStarted) e = cc
  undone_prepared (Some RecordPrepared) e = refl
  undone_prepared (Some RecordCompleted) e = cc
  undone_prepared (Some RecordAborted) e = cc

  undone_stays : (d : Decision) → undone_or (Some (end_of d)) ≡ Some (end_of d)
  undone_stays Complete = refl
  undone_stays Abort = refl

  pub claim_known : (e : ℕ) (ns : List TxnEntry) (fs : List Fact) → Single x [] ns → Known fs (state_of x ns) → Known ((Claimed_at p e ∷ undone_facts p ns) ++ fs) (undone_or (state_of x ns))
  claim_known e ns fs s k = record {
    prepared = λ i. inr (in_right _ (undone_facts p ns) fs (k.prepared (undone_prepared _ i)));
    settled = λ d i. ⊎_elim (λ u. cc) (λ u. ⊎_elim (λ v. let t = undone_only x [] p p d ns s v in ap undone_or t.1 ∙ ap (λ z. Some (end_of z)) (sym t.2)) (λ v. ap undone_or (k.settled d v) ∙ undone_stays d) (in_either _ (undone_facts p ns) fs u)) i;
    ended = λ d i. ⊎_elim (λ u. inr (in_left _ (undone_facts p ns) fs (subst (λ z. In (Settled_at p x z) (undone_facts p ns)) (sym u.1) (undone_has x [] p ns u.0)))) (λ u. inr (in_right _ (undone_facts p ns) fs (k.ended d u))) (undone_end (state_of x ns) d i);
    good = (tt, undone_good ns fs s k.good (λ i d v. not_ended (state_of x ns) d (ap open_end i) (k.settled d v)));
  }

  -- a claim tells nothing of what has no record
  pub gone_known : (e : ℕ) (ns : List TxnEntry) (fs : List Fact) (s : Option TxnState) → Single x [] ns → state_of x ns ≡ None → Known fs s → Known ((Claimed_at p e ∷ undone_facts p ns) ++ fs) s
  gone_known e ns fs s u z k = record {
    prepared = λ i. inr (in_right _ (undone_facts p ns) fs (k.prepared i));
    settled = λ d i. ⊎_elim (λ v. cc) (λ v. ⊎_elim (λ n. let t = undone_only x [] p p d ns u n in let w : None ≡ Some RecordStarted = sym z ∙ t.1 in cc) (λ n. k.settled d n) (in_either _ (undone_facts p ns) fs v)) i;
    ended = λ d i. inr (in_right _ (undone_facts p ns) fs (k.ended d i));
    good = (tt, undone_good ns fs u k.good (λ i g u. let w : None ≡ Some RecordStarted = sym z ∙ i in absurd {A = ⊥} cc));
  }

  -- what the lists of facts show
  good_at : (later before : List Fact) (f : Fact) → Good (later ++ f ∷ before) → GoodAt before f
  good_at [] before f g = g.0
  good_at (e ∷ later) before f g = good_at later before f g.1

  pub once_known : (fs : List Fact) (s : Option TxnState) → Known fs s → (d g : Decision) (later before : List Fact) → fs ≡ later ++ Settled_at p x d ∷ before → In (Settled_at p x g) before → ⊥
  once_known fs s k d g later before e = (good_at later before (Settled_at p x d) (subst Good e k.good) refl refl).0 g

  pub first_known : (fs : List Fact) (s : Option TxnState) → Known fs s → (later before : List Fact) → fs ≡ later ++ Settled_at p x Complete ∷ before → In (Prepared_at p x) before
  first_known fs s k later before e = (good_at later before (Settled_at p x Complete) (subst Good e k.good) refl refl).1 refl
