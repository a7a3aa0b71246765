-- The moves of the core, by what they need, and chains of moves at one element.
use Rattle.std.proofs.Common.{◌≡◌, ℕ, zero, suc, ◌<◌, ◌≤◌, ◌==◌, Bool, true, false, List, [], ◌∷◌, ◌++◌, slice_get, Some, nat_lt, refl, sym, ap, ◌∙◌, subst, arith, eq-eqb}
use Rattle.fc_protocol.specs.Collections.{among, put}
use Rattle.fc_agreement.specs.Core.{Note, Element, Core, Move, Raise, Open, Fail, Prepare, Tell, Settle, start, moved, moves, settles_by, changed, to, raised, settled}
use Rattle.fc_protocol.specs.Decide.{is_absent, is_started}
use Rattle.fc_protocol.specs.declared.states.Decision.{Decision}
use Rattle.fc_protocol.specs.declared.states.Decision.TheVariants.{Complete, Abort}
use Rattle.fc_protocol.specs.declared.states.Seen.{Seen}
use Rattle.fc_protocol.specs.declared.states.Seen.TheVariants.{Absent, Started, Prepared, Completed, Aborted}
use Rattle.fc_protocol.proofs.Puts.{put_keep, put_here}
use Rattle.fc_agreement.proofs.Keeps.{notes_low}
use Rattle.fc_agreement.proofs.Sealing.{is_live, Sealed, sealed_on, low_on, live_member}
use Rattle.fc_protocol.proofs.Basics.{cond_true, and_true, put_over, put_rest}

abbrev pub Told : List Note → Note → Type 0
Told notes n = (w : ℕ) × (slice_get notes w ≡ Some n)

abbrev pub note : ℕ → ℕ → Seen → Note
note e p s = record { life = e; element = p; state = s }

abbrev pub over : Seen → Bool
over Absent = false
over Started = false
over Prepared = false
over Completed = true
over Aborted = true

absurd_over : {P : Type 0} (s t : Seen) → over s ≡ true → t ≡ s → over t ≡ false → P
absurd_over s t o e f = let u : true ≡ false = sym o ∙ ap over (sym e) ∙ f in cc

pub raised_over : (s : Seen) → over s ≡ true → raised s ≡ s
raised_over Absent e = cc
raised_over Started e = cc
raised_over Prepared e = cc
raised_over Completed e = refl
raised_over Aborted e = refl

pub settled_over : (d : Decision) (s : Seen) → over s ≡ true → settled d s ≡ s
settled_over d Absent e = cc
settled_over d Started e = cc
settled_over d Prepared e = cc
settled_over Complete Completed e = refl
settled_over Abort Completed e = refl
settled_over Complete Aborted e = refl
settled_over Abort Aborted e = refl

module _ (own : ℕ) (parts : List ℕ) where
  abbrev pub Reached : Core → Type 0
  Reached c = (ms : List Move) × (moves own parts ms start ≡ c)

  -- moves lead from c to d
  abbrev pub Leads : Core → Core → Type 0
  Leads c d = (ms : List Move) × (moves own parts ms c ≡ d)

  moves_then : (ms ns : List Move) (c : Core) → moves own parts (ms ++ ns) c ≡ moves own parts ns (moves own parts ms c)
  moves_then [] ns c = refl
  moves_then (m ∷ ms) ns c = moves_then ms ns (moved own parts c m)

  pub leads_then : (c d f : Core) → Leads c d → Leads d f → Leads c f
  leads_then c d f a b = (a.0 ++ b.0, moves_then a.0 b.0 c ∙ ap (moves own parts b.0) a.1 ∙ b.1)

  pub reached_on : (c d : Core) → Leads c d → Reached c → Reached d
  reached_on c d a r = leads_then start c d r a

  pub sealed_leads : (c d : Core) (e p : ℕ) → Leads c d → Sealed own parts e p c → Sealed own parts e p d
  sealed_leads c d e p l s = subst (Sealed own parts e p) l.1 (sealed_on own parts e p l.0 c s)

  pub low_leads : (c d : Core) (e p : ℕ) → Leads c d → e ≤ (c.at p).epoch → e ≤ (d.at p).epoch
  low_leads c d e p l s = subst (λ (v : Core). e ≤ (v.at p).epoch) l.1 (low_on own parts e p l.0 c s)

  -- an element that does not hold the transaction and cannot open it is sealed for the life of its epoch
  pub sealed_here : (c : Core) (p e : ℕ) → Reached c → e ≡ (c.at p).epoch → is_live (c.at p).state ≡ false → ((c.at p).state ≡ Absent → own < (c.at p).epoch) → Sealed own parts e p c
  sealed_here c p e r i l a = record {
    shut = (l, a);
    unheld = λ w n g k u.
        let low : n.life ≤ (c.at p).epoch = subst (λ (d : Core). n.life ≤ (d.at p).epoch) r.1 (notes_low own parts r.0 p w n (subst (λ (d : Core). slice_get d.notes w ≡ Some n) (sym r.1) g) k) in
        absurd (omega arith);
  }

  pub live_in : (c : Core) (p : ℕ) → Reached c → is_live (c.at p).state ≡ true → among p parts ≡ true
  live_in c p r l = live_member own parts r.0 p (subst (λ (d : Core). is_live (d.at p).state ≡ true) (sym r.1) l)

  -- from c to d only element p has changed, by moves
  pub record Turned (c d : Core) (p : ℕ) : Type 0 where
    pub at : (q : ℕ) → d.at q ≡ put c.at p (d.at p) q
    pub decided : (e : ℕ) → d.decided e ≡ c.decided e
    pub told : (n : Note) → Told c.notes n → Told d.notes n
    pub final : (q : ℕ) (s : Seen) → over s ≡ true → (c.at q).state ≡ s → (d.at q).state ≡ s
    pub leads : Leads c d

  abbrev pub Turns : Core → ℕ → Element → Type 0
  Turns c p y = (d : Core) × Turned c d p × (d.at p ≡ y)

  pub turned_none : (c : Core) (p : ℕ) → Turned c c p
  turned_none c p = record { at = λ q. sym (put_keep c.at p (c.at p) q (c.at q) refl (λ e. ap c.at (sym e))); decided = λ _. refl; told = λ _ t. t; final = λ q s o e. e; leads = ([], refl) }

  pub turned_then : (c d f : Core) (p : ℕ) → Turned c d p → Turned d f p → Turned c f p
  turned_then c d f p t u = record {
    at = λ q. u.at q ∙ put_over c.at d.at p (d.at p) (f.at p) q (t.at q);
    decided = λ e. u.decided e ∙ t.decided e;
    told = λ n h. u.told n (t.told n h);
    final = λ q s o e. u.final q s o (t.final q s o e);
    leads = leads_then c d f t.leads u.leads;
  }

  by_changed : (c d : Core) (p : ℕ) (y : Element) → ((s : Seen) → over s ≡ true → (c.at p).state ≡ s → y.state ≡ s) → Leads c d → d ≡ changed c p y → Turns c p y
  by_changed c d p y k r e =
      let here : d.at p ≡ y = ap (λ (f : Core). f.at p) e ∙ put_here c.at p y in (
        d,
        record {
          at = λ q. ap (λ (f : Core). f.at q) e ∙ ap (λ v. put c.at p v q) (sym here);
          decided = λ f. ap (λ (g : Core). g.decided f) e;
          told = λ n h. subst (λ (g : Core). Told g.notes n) (sym e) h;
          final = λ q s o h. ap (λ (f : Core). (f.at q).state) e ∙ put_rest (λ i v. (c.at i).state ≡ s → v.state ≡ s) c.at p y (k s o) (λ i _ u. u) q h;
          leads = r;
        },
        here,
      )

  by_move : (c : Core) (m : Move) (p : ℕ) (y : Element) → ((s : Seen) → over s ≡ true → (c.at p).state ≡ s → y.state ≡ s) → moved own parts c m ≡ changed c p y → Turns c p y
  by_move c m p y k e = by_changed c (moved own parts c m) p y k (m ∷ [], refl) e

  pub opens : (c : Core) (p : ℕ) → among p parts ≡ true → (c.at p).epoch ≡ own → (c.at p).state ≡ Absent → Turns c p (to (c.at p) Started)
  opens c p m e s = by_move c (Open p) p _ (λ t o h. absurd_over t (c.at p).state o h (ap over s)) (cond_true _ _ c (and_true (among p parts) _ m (and_true ((c.at p).epoch == own) _ (eq-eqb _ _ e) (ap is_absent s))))

  pub fails : (c : Core) (p : ℕ) → (c.at p).state ≡ Started → Turns c p (to (c.at p) Aborted)
  fails c p s = by_move c (Fail p) p _ (λ t o h. absurd_over t (c.at p).state o h (ap over s)) (cond_true _ _ c (ap is_started s))

  pub prepares : (c : Core) (p : ℕ) → (c.at p).epoch ≡ own → (c.at p).state ≡ Started → Turns c p (record { epoch = (c.at p).epoch; state = Prepared; prepared = true })
  prepares c p e s = by_move c (Prepare p) p _ (λ t o h. absurd_over t (c.at p).state o h (ap over s)) (cond_true _ _ c (and_true ((c.at p).epoch == own) _ (eq-eqb _ _ e) (ap is_started s)))

  lt_test : (m n : ℕ) → m < n → nat_lt m n ≡ true
  lt_test m n h = grind arith

  pub raises : (c : Core) (p e : ℕ) → (c.at p).epoch < e → Turns c p (record { epoch = e; state = raised (c.at p).state; prepared = (c.at p).prepared })
  raises c p e h = by_move c (Raise p e) p _ (λ t o u. ap raised u ∙ raised_over t o) (cond_true _ _ c (lt_test _ _ h))

  pub settles : (c : Core) (p : ℕ) (d : Decision) → among p parts ≡ true → c.decided (c.at p).epoch ≡ Some d → Turns c p (to (c.at p) (settled d (c.at p).state))
  settles c p d m e = by_move c (Settle p) p _ (λ t o u. ap (settled d) u ∙ settled_over d t o) (cond_true _ _ c m ∙ ap (settles_by c p) e)

  -- the element tells its state
  pub tells : (c : Core) (p : ℕ) → (d : Core) × Turned c d p × (d.at p ≡ c.at p) × Told d.notes (note (c.at p).epoch p (c.at p).state)
  tells c p = (
    moved own parts c (Tell p),
    record {
      at = λ q. sym (put_keep c.at p (c.at p) q (c.at q) refl (λ e. ap c.at (sym e)));
      decided = λ _. refl;
      told = λ n h. (suc h.0, h.1);
      final = λ q s o h. h;
      leads = (Tell p ∷ [], refl);
    },
    refl,
    (zero, refl),
  )
