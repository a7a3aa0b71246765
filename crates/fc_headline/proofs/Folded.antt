-- The settled configuration is what was completed, over every list of inputs.
use Rattle.std.proofs.Common.{arith, nat_lt, ◌%◌, ◌<◌, ◌+◌, ◌≡◌, ℕ, ◌==◌, ◌&&◌, not, Bool, true, false, cond, List, [], ◌∷◌, ◌++◌, Option, Some, None, refl, sym, ap, ◌∙◌, subst, eqb-true}
use Rattle.std.specs.FinMap.{contains_key, remove}
use Rattle.fc_assoc.specs.Associations.{still_heard}
use Rattle.fc_base.specs.Ids.{Txn}
use Rattle.fc_modes.specs.Modes.{folded, outcome}
use Rattle.fc_modes.specs.declared.mode.Mode.{Mode}
use Rattle.fc_modes.proofs.Outcomes.{kept_is_done}
use Rattle.fc_machine.specs.ElementMachine.{Input, Opened, Arrived, Closed, Moment, Step, acts, unclaimed_by, unclaimed, by_verdict, by_mode, on_config, heard_from, with_associations, ended, from_associate, accepts, is_ce, moved_on, watched, is_due, step, steps}
use Rattle.fc_machine.specs.ElementState.{Entry, Element, new_element, restarted, held_ops, working, written, rest_added, bares, first_code}
use Rattle.fc_headline.specs.Folds.{Clean, ElementFolds}
use Rattle.fc_headline.specs.Restarts.{with_restarts}
use Rattle.fc_machine.specs.Ground.{Place, Ground, Lawful}
use Rattle.fc_machine.specs.Messages.{Configuring, Message, Setup, Beat, Response, Says, Notice, Accepted, Teardown, Beat_down, Query, Configure}
use Rattle.fc_machine.specs.Trace.{Fact, of_protocol}
use Rattle.fc_machine.specs.Transactions.{all_get, sets_props, Did, scope_at, is_completed, all_in, places, with_floor, within, rest_codes, turned, and_adds, and_completes, starts, continues, changes, plain}
use Rattle.fc_headline.proofs.Folding.{Folds, same_folds, abort_folds, held_folds, rest_folds, complete_folds, plain_folds, claim_folds, floor_folds, live_at}
use Rattle.fc_headline.proofs.Held.{bares_written, kept_held}
use Rattle.fc_headline.proofs.Kept.{Goes}
use Rattle.fc_headline.proofs.Rests.{clean_rest_codes, clean_within, clean_done, all_done, all_placed, touches, touch_all, untouched}
use Rattle.fc_headline.proofs.Scopes.{Lies, never}
use Rattle.fc_protocol.specs.ElementMachine.{admits}
use Rattle.fc_protocol.specs.Fence.{claims, judge}
use Rattle.fc_protocol.specs.Messages.{same, is_name, is_epoch, Stamp, Body, Claim, Sot, Mot, Eot, Trcomp, Abt, Floor, Malformed, Plain, Ask, Ask_record, claim_of}
use Rattle.fc_protocol.specs.Phases.{keeps, becomes, failed, opening, adding, preparing, settling, aborting}
use Rattle.fc_protocol.specs.Records.{state_of, is_held, is_full, is_packed, clashes, any_taken}
use Rattle.fc_protocol.specs.Floors.{is_below, floor_code}
use Rattle.fc_protocol.specs.Scopes.{Scope}
use Rattle.fc_protocol.proofs.Order.{floor_zero}
use Rattle.fc_protocol.specs.Trace.{Opens, Prepares, Settles, facts_of}
use Rattle.fc_protocol.specs.declared.states.Decision.TheVariants.{Complete, Abort}
use Rattle.fc_protocol.specs.declared.states.TxnState.{TxnState}
use Rattle.fc_protocol.specs.declared.states.TxnState.TheVariants.{Started, Prepared, Completed, Aborted}
use Rattle.fc_protocol.specs.declared.verdict.Verdict.{Verdict}
use Rattle.fc_protocol.specs.declared.verdict.Verdict.TheVariants.{Claim as Claims, Unclaimed, Stale, Again, Gap, Next}
use Rattle.fc_protocol.proofs.Basics.{AllOf, cond_true, cond_false, some_same, same_self}
use Rattle.fc_protocol.proofs.Puts.{both_first, both_second}
use Rattle.fc_protocol.proofs.Records.{state_written}

goes_none : (s : TxnState) (o : Option TxnState) → o ≡ None → Goes s o
goes_none s o e t i h = let u : None ≡ Some t = sym e ∙ i in cc

goes_from : (s t : TxnState) (o : Option TxnState) → o ≡ Some t → is_held t ≡ true → Goes s o
goes_from s t o e k u i h = let v : t ≡ u = some_same t u (sym e ∙ i) in ap is_held (sym v) ∙ k

not_none : (A : Type 0) (t : TxnState) (o : Option TxnState) → o ≡ Some t → o ≡ None → A
not_none A t o e f = cc

-- a new record stands last, with its scope
scope_if : {Op : Type 0} (b : Bool) (x : Txn) (ps : List ℕ) (sc : List Place) (s : TxnState) (n : Entry Op) (ns : List (Entry Op)) → same x n.txn ≡ b → cond b (Some n.state) (state_of x (bares ns)) ≡ None
    → (state_of x (bares ns) ≡ None → scope_at x (written x ps sc s ns) ≡ sc) → scope_at x (written x ps sc s (n ∷ ns)) ≡ sc
scope_if true x ps sc s n ns e i r = cc
scope_if false x ps sc s n ns e i r = ap (scope_at x) (cond_false (same x n.txn) _ _ e) ∙ cond_false (same x n.txn) _ _ e ∙ r i

scope_written : {Op : Type 0} (x : Txn) (ps : List ℕ) (sc : List Place) (s : TxnState) (ns : List (Entry Op)) → state_of x (bares ns) ≡ None → scope_at x (written x ps sc s ns) ≡ sc
scope_written x ps sc s [] e = cond_true (same x x) _ _ (same_self x)
scope_written x ps sc s (n ∷ ns) e = scope_if (same x n.txn) x ps sc s n ns refl e (scope_written x ps sc s ns)

-- What a verdict says of the epoch

claim_if : (b : Bool) (epoch : ℕ) (m : Stamp) (rest : Verdict) (e : ℕ) → (b ≡ true → epoch < m.life) → ((e : ℕ) → rest ≡ Claims e → ⊥) → cond b (Claims m.life) rest ≡ Claims e → epoch < e
claim_if true epoch m rest e h n j = let i : m.life ≡ e = cc in subst (λ v. epoch < v) i (h refl)
claim_if false epoch m rest e h n j = absurd (n e j)

no_claim : (a b c d : Bool) (e : ℕ) → cond a Unclaimed (cond b (cond c Again (cond d Next Gap)) Stale) ≡ Claims e → ⊥
no_claim true b c d e j = cc
no_claim false false c d e j = cc
no_claim false true true d e j = cc
no_claim false true false true e j = cc
no_claim false true false false e j = cc

claimed_above : (epoch sender : ℕ) (m : Stamp) (claim : Option ℕ) → claims epoch sender m claim ≡ true → epoch < m.life
claimed_above epoch sender m None u = cc
claimed_above epoch sender m (Some w) u =
    let one : (m.life == w && m.count == 0) ≡ true = both_first (m.life == w && m.count == 0) _ u in
    let same : m.life ≡ w = eqb-true m.life w (both_first (m.life == w) _ one) in
    let two : (nat_lt epoch w && w % 256 == sender % 256) ≡ true = both_second (is_epoch w) _ (both_second (m.life == w && m.count == 0) _ u) in
    let three : nat_lt epoch w ≡ true = both_first (nat_lt epoch w) _ two in
    let above : epoch < w = grind arith in
    omega arith

claim_above : (epoch master seq sender : ℕ) (m : Stamp) (claim : Option ℕ) (e : ℕ) → judge epoch master seq sender m claim ≡ Claims e → epoch < e
claim_above epoch master seq sender m claim e j =
    claim_if (claims epoch sender m claim) epoch m _ e (claimed_above epoch sender m claim) (λ d i. no_claim (epoch == 0) (m.life == epoch && sender == master) (m.count == seq) (m.count == seq + 1) d i) j

unclaimed_if : (a b c d e : Bool) (n : ℕ) → cond a (Claims n) (cond b Unclaimed (cond c (cond d Again (cond e Next Gap)) Stale)) ≡ Unclaimed → b ≡ true
unclaimed_if true b c d e n j = cc
unclaimed_if false true c d e n j = refl
unclaimed_if false false false d e n j = cc
unclaimed_if false false true true e n j = cc
unclaimed_if false false true false true n j = cc
unclaimed_if false false true false false n j = cc

unclaimed_epoch : (epoch master seq sender : ℕ) (m : Stamp) (claim : Option ℕ) → judge epoch master seq sender m claim ≡ Unclaimed → (epoch == 0) ≡ true
unclaimed_epoch epoch master seq sender m claim j = unclaimed_if (claims epoch sender m claim) (epoch == 0) (m.life == epoch && sender == master) (m.count == seq) (m.count == seq + 1) m.life j

next_if : (a b c d e : Bool) (n : ℕ) → cond a (Claims n) (cond b Unclaimed (cond c (cond d Again (cond e Next Gap)) Stale)) ≡ Next → b ≡ false
next_if true b c d e n j = cc
next_if false true c d e n j = cc
next_if false false c d e n j = refl

next_epoch : (epoch master seq sender : ℕ) (m : Stamp) (claim : Option ℕ) → judge epoch master seq sender m claim ≡ Next → (epoch == 0) ≡ false
next_epoch epoch master seq sender m claim j = next_if (claims epoch sender m claim) (epoch == 0) (m.life == epoch && sender == master) (m.count == seq) (m.count == seq + 1) m.life j

module _ {Config Op Subs : Type 0} (g : Ground Config Op Subs) (law : Lawful g) (first : Config) (p : ℕ) where
  abbrev FoldsDid : List (Fact Op) → Did Config Op Subs → Type 0
  FoldsDid fs d = Folds g first p d.floor d.settled d.records (d.facts ++ fs)

  -- while no controller has claimed the element it has no record
  abbrev pub Unheld : Element Config Op Subs → Type 0
  Unheld el = (el.epoch == 0) ≡ true → el.records ≡ []

  abbrev pub FoldsIn : List (Fact Op) → Element Config Op Subs → Type 0
  FoldsIn fs el = Folds g first p el.floor el.settled el.records fs × Unheld el

  abbrev FoldsStep : List (Fact Op) → Step Config Op Subs → Type 0
  FoldsStep fs r = Folds g first p r.element.floor r.element.settled r.element.records (r.facts ++ fs) × Unheld r.element

  step_if : (fs : List (Fact Op)) (b : Bool) (v w : Step Config Op Subs) → FoldsStep fs v → FoldsStep fs w → FoldsStep fs (cond b v w)
  step_if fs true v w f h = f
  step_if fs false v w f h = h

  did_if : (fs : List (Fact Op)) (b : Bool) (v w : Did Config Op Subs) → (b ≡ true → FoldsDid fs v) → (b ≡ false → FoldsDid fs w) → FoldsDid fs (cond b v w)
  did_if fs true v w f h = f refl
  did_if fs false v w f h = h refl

  module _ (el : Element Config Op Subs) (fs : List (Fact Op)) (f : Folds g first p el.floor el.settled el.records fs) where
    abbrev fl : Option Txn
    fl = el.floor

    abbrev c : Config
    c = el.settled

    abbrev ns : List (Entry Op)
    ns = el.records

    -- the whole transaction is undone
    undone_folds : (x : Txn) (ps : List ℕ) (sc : List Place) → Folds g first p fl c (written x ps sc Aborted ns) fs
    undone_folds x ps sc = abort_folds g first p fl law x ps sc c ns fs f

    -- SOT
    opened_folds : (x : Txn) (ps : List ℕ) (sc : List Place) (ops : List Op) → state_of x (bares ns) ≡ None → clashes sc (bares ns) ≡ false → is_below x fl ≡ false → Clean g.effect (folded g.effect c (held_ops ns)) ops × AllOf (Lies g sc) ops
        → Folds g first p fl c (rest_added x ops (written x ps sc Started ns)) (Rattle.fc_machine.specs.Trace.Added_at p x ops ∷ of_protocol (facts_of p x ps (Opens ∷ [])) ++ fs)
    opened_folds x ps sc ops e k low v =
        let new = facts_of p x ps (Opens ∷ []) in
        rest_folds g first p fl law x ops c (written x ps sc Started ns) (of_protocol new ++ fs)
        (ap (state_of x) (bares_written x ps sc Started ns) ∙ state_written x x ps sc Started (bares ns) ∙ cond_true (same x x) _ _ (same_self x))
        (subst (λ w. AllOf (Lies g w) ops) (sym (scope_written x ps sc Started ns e)) v.1)
        (subst (λ w. Clean g.effect (folded g.effect c w) ops) (sym (kept_held g law x ps sc Started ns refl (λ t i. not_none _ t (state_of x (bares ns)) i e))) v.0)
        (same_folds g first p fl law c (written x ps sc Started ns) new fs (refl, tt) (held_folds g first p fl law x ps sc Started c ns fs refl (goes_none Started (state_of x (bares ns)) e) (λ _. k) low f))

    starts_if : (b : Bool) (x : Txn) (ps : List ℕ) (sc : List Place) (ops : List Op) (code : ℕ) (cs ds : List ℕ) → (code == 0) ≡ b → state_of x (bares ns) ≡ None → clashes sc (bares ns) ≡ false → is_below x fl ≡ false
        → (code ≡ 0 → Clean g.effect (folded g.effect c (held_ops ns)) ops × AllOf (Lies g sc) ops)
        → let t = failed (not b) code (becomes Started 0 (Opens ∷ [])) in FoldsDid fs (and_adds g (t.code == 0) p x ops (turned g p el x ps sc t cs ds))
    starts_if true x ps sc ops code cs ds e i k low v = opened_folds x ps sc ops i k low (v (eqb-true code 0 e))
    starts_if false x ps sc ops code cs ds e i k low v =
        let t = failed true code (becomes Started 0 (Opens ∷ [])) in
        subst (λ w. FoldsDid fs (and_adds g w p x ops (turned g p el x ps sc t cs ds))) (sym e) (same_folds g first p fl law c (written x ps sc Aborted ns) (facts_of p x ps (Settles Abort ∷ Opens ∷ [])) fs (refl, (refl, tt)) (undone_folds x ps sc))

    starts_at : (x : Txn) (ps : List ℕ) (sc : List Place) (ops : List Op) (fits below clash full : Bool) (codes cs ds : List ℕ) (s : Option TxnState) → state_of x (bares ns) ≡ s → is_below x fl ≡ below → clashes sc (bares ns) ≡ clash
        → (first_code codes ≡ 0 → Clean g.effect (folded g.effect c (held_ops ns)) ops × AllOf (Lies g sc) ops)
        → let t = opening fits below clash full (first_code codes) s in FoldsDid fs (and_adds g (t.code == 0) p x ops (turned g p el x ps sc t cs ds))
    starts_at x ps sc ops false below clash full codes cs ds s e d k v = f
    starts_at x ps sc ops true below clash full codes cs ds (Some s) e d k v = f
    starts_at x ps sc ops true true clash full codes cs ds None e d k v = f
    starts_at x ps sc ops true false true full codes cs ds None e d k v = f
    starts_at x ps sc ops true false false true codes cs ds None e d k v = f
    starts_at x ps sc ops true false false false codes cs ds None e d k v = starts_if (first_code codes == 0) x ps sc ops (first_code codes) cs ds refl e k d v

    -- a rest that succeeds within a scope
    rest_good : (sc : List Place) (ops : List Op) → first_code (rest_codes g el sc ops) ≡ 0 → Clean g.effect (folded g.effect c (held_ops ns)) ops × AllOf (Lies g sc) ops
    rest_good sc ops z = clean_within g law sc (working g el) ops (clean_rest_codes (within g sc) (working g el) ops z)

    starts_folds : (x : Txn) (ps : List ℕ) (sc : List Place) (ops : List Op) → FoldsDid fs (starts g p el x ps sc ops)
    starts_folds x ps sc ops =
        starts_at x ps sc ops (admits p el.epoch x ps (not (all_in g sc)) sc) (is_below x fl) (clashes sc (bares ns)) (is_packed (bares ns)) (rest_codes g el sc ops) _ _ (state_of x (bares ns)) refl refl refl (rest_good sc ops)

    -- MOT
    continues_if : (b : Bool) (x : Txn) (ops : List Op) (code : ℕ) (cs ds : List ℕ) → (code == 0) ≡ b → state_of x (bares ns) ≡ Some Started → (code ≡ 0 → Clean g.effect (folded g.effect c (held_ops ns)) ops × AllOf (Lies g (scope_at x ns)) ops)
        → let t = failed (not b) code (keeps 0) in FoldsDid fs (and_adds g (t.code == 0) p x ops (turned g p el x [] [] t cs ds))
    continues_if true x ops code cs ds e i v = let w = v (eqb-true code 0 e) in rest_folds g first p fl law x ops c ns fs i w.1 w.0 f
    continues_if false x ops code cs ds e i v =
        let t = failed true code (keeps 0) in
        subst (λ w. FoldsDid fs (and_adds g w p x ops (turned g p el x [] [] t cs ds))) (sym e) (same_folds g first p fl law c (written x [] [] Aborted ns) (facts_of p x [] (Settles Abort ∷ [])) fs (refl, tt) (undone_folds x [] []))

    continues_at : (x : Txn) (ops : List Op) (codes cs ds : List ℕ) (s : Option TxnState) → state_of x (bares ns) ≡ s → (first_code codes ≡ 0 → Clean g.effect (folded g.effect c (held_ops ns)) ops × AllOf (Lies g (scope_at x ns)) ops)
        → let t = adding (first_code codes) s in FoldsDid fs (and_adds g (t.code == 0) p x ops (turned g p el x [] [] t cs ds))
    continues_at x ops codes cs ds None e v = f
    continues_at x ops codes cs ds (Some Started) e v = continues_if (first_code codes == 0) x ops (first_code codes) cs ds refl e v
    continues_at x ops codes cs ds (Some Prepared) e v = f
    continues_at x ops codes cs ds (Some Completed) e v = f
    continues_at x ops codes cs ds (Some Aborted) e v = f

    continues_folds : (x : Txn) (ops : List Op) → FoldsDid fs (continues g p el x ops)
    continues_folds x ops = continues_at x ops (rest_codes g el (scope_at x ns) ops) _ _ (state_of x (bares ns)) refl (rest_good (scope_at x ns) ops)

    -- EOT with COMMIT
    prepares_at : (x : Txn) (cs ds : List ℕ) (s : Option TxnState) → state_of x (bares ns) ≡ s → FoldsDid fs (turned g p el x [] [] (preparing s) cs ds)
    prepares_at x cs ds None e = f
    prepares_at x cs ds (Some Started) e =
        same_folds g first p fl law c (written x [] [] Prepared ns) (facts_of p x [] (Prepares ∷ [])) fs (refl, tt) (held_folds g first p fl law x [] [] Prepared c ns fs refl (goes_from Prepared Started (state_of x (bares ns)) e refl) (λ n. not_none _ Started (state_of x (bares ns)) e n) (live_at fl x ns Started refl e f.live) f)
    prepares_at x cs ds (Some Prepared) e = f
    prepares_at x cs ds (Some Completed) e = f
    prepares_at x cs ds (Some Aborted) e = f

    -- EOT with TRCOMP
    completes_at : (x : Txn) (cs ds : List ℕ) (s : Option TxnState) → state_of x (bares ns) ≡ s → let t = settling Complete s in FoldsDid fs (and_completes g (is_completed t.new) el x (turned g p el x [] [] t cs ds))
    completes_at x cs ds None e = f
    completes_at x cs ds (Some Started) e = f
    completes_at x cs ds (Some Prepared) e = complete_folds g first p fl law x [] [] c ns fs e f
    completes_at x cs ds (Some Completed) e = f
    completes_at x cs ds (Some Aborted) e = f

    -- ABT
    aborted : (x : Txn) → Folds g first p fl c (written x [] [] Aborted ns) (of_protocol (facts_of p x [] (Settles Abort ∷ [])) ++ fs)
    aborted x = same_folds g first p fl law c (written x [] [] Aborted ns) (facts_of p x [] (Settles Abort ∷ [])) fs (refl, tt) (undone_folds x [] [])

    aborts_at : (x : Txn) (named full : Bool) (cs ds : List ℕ) (s : Option TxnState) → FoldsDid fs (turned g p el x [] [] (aborting named full s) cs ds)
    aborts_at x false full cs ds None = f
    aborts_at x true true cs ds None = f
    aborts_at x true false cs ds None = aborted x
    aborts_at x named full cs ds (Some Started) = aborted x
    aborts_at x named full cs ds (Some Prepared) = aborted x
    aborts_at x named full cs ds (Some Completed) = f
    aborts_at x named full cs ds (Some Aborted) = f

    -- a plain change
    changes_folds : (m : Configuring Op) (mode : Mode) → any_taken (bares ns) (places g m.ops) ≡ false → FoldsDid fs (changes g p el m mode)
    changes_folds m mode e =
        let done = (outcome g.effect mode c m.ops).done in
        let k = clean_done g.effect law.refused mode c m.ops in
        plain_folds g first p fl law done c (outcome g.effect mode c m.ops).state ns fs (kept_is_done g.effect law.refused mode c m.ops) k
        (untouched g law done ns (all_done g.effect (λ op. touches (g.place_of op) ns ≡ false) mode c m.ops (touch_all g law m.ops ns e)) (all_placed g law c done k) f.fine) f

    plain_folds_did : (m : Configuring Op) (mode : Mode) → FoldsDid fs (plain g p el m mode)
    plain_folds_did m mode = did_if fs (any_taken (bares ns) (places g m.ops)) _ _ (λ _. f) (λ e. did_if fs m.props _ _ (λ _. f) (λ _. changes_folds m mode e))

    floors_folds : (m : Configuring Op) (y : Txn) (b : Bool) → (floor_code el.epoch fl y (bares ns) == 0) ≡ b → FoldsDid fs (cond b (with_floor g el m y) (all_get g el m (floor_code el.epoch fl y (bares ns))))
    floors_folds m y true e = let z = floor_zero el.epoch fl y (bares ns) (eqb-true _ 0 e) in floor_folds g first p fl y c ns fs z.0 z.1 f
    floors_folds m y false e = f

    acts_folds : (m : Configuring Op) (mode : Mode) (b : Body) → FoldsDid fs (acts g p el m mode b)
    acts_folds m mode (Claim w) = f
    acts_folds m mode (Sot x ps sc) = starts_folds x ps sc m.ops
    acts_folds m mode (Mot x i) = continues_folds x m.ops
    acts_folds m mode (Eot x) = let code = (preparing (state_of x (bares ns))).code in prepares_at x (code ∷ code ∷ []) (code ∷ code ∷ []) (state_of x (bares ns)) refl
    acts_folds m mode (Trcomp x) = let code = (settling Complete (state_of x (bares ns))).code in completes_at x (code ∷ []) (code ∷ []) (state_of x (bares ns)) refl
    acts_folds m mode (Abt x) = let code = (aborting (is_name x && not (is_below x fl)) (is_full (bares ns)) (state_of x (bares ns))).code in aborts_at x (is_name x && not (is_below x fl)) (is_full (bares ns)) (code ∷ []) (code ∷ []) (state_of x (bares ns))
    acts_folds m mode (Floor y) = floors_folds m y (floor_code el.epoch fl y (bares ns) == 0) refl
    acts_folds m mode Malformed = f
    acts_folds m mode Plain = plain_folds_did m mode
    acts_folds m mode Ask = f
    acts_folds m mode (Ask_record x) = f

    none_touch : (is : Scope) → any_taken [] is ≡ false
    none_touch [] = refl
    none_touch (i ∷ is) = none_touch is

    -- a plain change of which nothing is done
    none_folds : Folds g first p fl c ns (Rattle.fc_machine.specs.Trace.Plain_at p [] ∷ fs)
    none_folds = plain_folds g first p fl law [] c c ns fs refl tt (λ a b i j. absurd i) f

    unclaimed_by_folds : (m : Configuring Op) (mode : Mode) (b : Body) → ns ≡ [] → FoldsDid fs (unclaimed_by g p el m mode b)
    unclaimed_by_folds m mode (Claim w) e = none_folds
    unclaimed_by_folds m mode (Sot x ps sc) e = f
    unclaimed_by_folds m mode (Mot x i) e = f
    unclaimed_by_folds m mode (Eot x) e = f
    unclaimed_by_folds m mode (Trcomp x) e = f
    unclaimed_by_folds m mode (Abt x) e = f
    unclaimed_by_folds m mode (Floor y) e = none_folds
    unclaimed_by_folds m mode Malformed e = f
    unclaimed_by_folds m mode Plain e = did_if fs m.props _ _ (λ _. f) (λ _. changes_folds m mode (ap (λ v. any_taken (bares v) (places g m.ops)) e ∙ none_touch (places g m.ops)))
    unclaimed_by_folds m mode Ask e = f
    unclaimed_by_folds m mode (Ask_record x) e = f

    unclaimed_folds : (source : ℕ) (m : Configuring Op) (mode : Mode) → ns ≡ [] → FoldsDid fs (unclaimed g p el source m mode)
    unclaimed_folds source m mode e = did_if fs (source == el.ce) _ _ (λ _. unclaimed_by_folds m mode m.body e) (λ _. f)

    records_if : (b : Bool) (v w : Did Config Op Subs) → v.records ≡ ns → w.records ≡ ns → (cond b v w).records ≡ ns
    records_if true v w i j = i
    records_if false v w i j = j

    unclaimed_by_records : (m : Configuring Op) (mode : Mode) (b : Body) → (unclaimed_by g p el m mode b).records ≡ ns
    unclaimed_by_records m mode (Claim w) = refl
    unclaimed_by_records m mode (Sot x ps sc) = refl
    unclaimed_by_records m mode (Mot x i) = refl
    unclaimed_by_records m mode (Eot x) = refl
    unclaimed_by_records m mode (Trcomp x) = refl
    unclaimed_by_records m mode (Abt x) = refl
    unclaimed_by_records m mode (Floor y) = refl
    unclaimed_by_records m mode Malformed = refl
    unclaimed_by_records m mode Plain = records_if m.props (sets_props g el m mode) (changes g p el m mode) refl refl
    unclaimed_by_records m mode Ask = refl
    unclaimed_by_records m mode (Ask_record x) = refl

    unclaimed_records : (source : ℕ) (m : Configuring Op) (mode : Mode) → (unclaimed g p el source m mode).records ≡ ns
    unclaimed_records source m mode = records_if (source == el.ce) (unclaimed_by g p el m mode m.body) (all_get g el m Rattle.fc_protocol.specs.Codes.read_only) (unclaimed_by_records m mode m.body) refl

  verdict_folds : (el : Element Config Op Subs) (fs : List (Fact Op)) (f : FoldsIn fs el) (peer source : ℕ) (m : Configuring Op) (mode : Mode) (v : Verdict) → judge el.epoch el.master el.sequence source m.stamp (claim_of m.body) ≡ v → FoldsStep fs (by_verdict g p el peer source m mode v)
  verdict_folds el fs f peer source m mode (Claims e) j =
      (claim_folds g first p el.floor law e el.settled el.records fs f.0, λ z. let above : el.epoch < e = claim_above el.epoch el.master el.sequence source m.stamp (claim_of m.body) e j in let none : e ≡ 0 = eqb-true e 0 z in absurd (omega arith))
  verdict_folds el fs f peer source m mode Unclaimed j =
      let none : el.records ≡ [] = f.1 (unclaimed_epoch el.epoch el.master el.sequence source m.stamp (claim_of m.body) j) in
      let now = heard_from g el source peer in
      (unclaimed_folds now fs f.0 source m mode none, λ z. unclaimed_records now fs f.0 source m mode ∙ none)
  verdict_folds el fs f peer source m mode Stale j = f
  verdict_folds el fs f peer source m mode Again j = f
  verdict_folds el fs f peer source m mode Gap j = f
  verdict_folds el fs f peer source m mode Next j =
      (acts_folds (heard_from g el source peer) fs f.0 m mode m.body, λ z. never (el.epoch == 0) z (next_epoch el.epoch el.master el.sequence source m.stamp (claim_of m.body) j))

  mode_folds : (el : Element Config Op Subs) (fs : List (Fact Op)) (f : FoldsIn fs el) (peer source : ℕ) (m : Configuring Op) (o : Option Mode) → FoldsStep fs (by_mode g p el peer source m o)
  mode_folds el fs f peer source m None = f
  mode_folds el fs f peer source m (Some mode) = verdict_folds el fs f peer source m mode (judge el.epoch el.master el.sequence source m.stamp (claim_of m.body)) refl

  config_folds : (el : Element Config Op Subs) (fs : List (Fact Op)) (f : FoldsIn fs el) (peer source : ℕ) (m : Configuring Op) → FoldsStep fs (on_config g p el peer source m)
  config_folds el fs f peer source m = step_if fs m.lost _ _ f (step_if fs m.astray _ _ f (mode_folds el fs f peer source m m.mode))

  ended_folds : (el : Element Config Op Subs) (fs : List (Fact Op)) (f : FoldsIn fs el) (b : Bool) → FoldsIn fs (ended g b el).0
  ended_folds el fs f true = f
  ended_folds el fs f false = f

  associate_folds : (el : Element Config Op Subs) (fs : List (Fact Op)) (f : FoldsIn fs el) (peer source : ℕ) (m : Message Op) → FoldsStep fs (from_associate g p el peer source m)
  associate_folds el fs f peer source Setup = f
  associate_folds el fs f peer source (Beat w) = f
  associate_folds el fs f peer source (Response a) = f
  associate_folds el fs f peer source (Says m t) = f
  associate_folds el fs f peer source (Notice n) = f
  associate_folds el fs f peer source (Accepted r) = f
  associate_folds el fs f peer source Teardown = ended_folds (with_associations g el (remove el.associations source)) fs f (source == el.ce && contains_key el.associations source)
  associate_folds el fs f peer source (Beat_down w) = f
  associate_folds el fs f peer source (Query m l a q) = f
  associate_folds el fs f peer source (Configure m) = config_folds el fs f peer source m

  in_if : (fs : List (Fact Op)) (b : Bool) (v w : Element Config Op Subs) → FoldsIn fs v → FoldsIn fs w → FoldsIn fs (cond b v w)
  in_if fs true v w f h = f
  in_if fs false v w f h = h

  accepts_folds : (el : Element Config Op Subs) (fs : List (Fact Op)) (f : FoldsIn fs el) (peer source : ℕ) (m : Message Op) (other : Step Config Op Subs) → FoldsStep fs other → FoldsStep fs (accepts g el peer source m other)
  accepts_folds el fs f peer source Setup other h = h
  accepts_folds el fs f peer source (Beat w) other h = h
  accepts_folds el fs f peer source (Response a) other h = h
  accepts_folds el fs f peer source (Says m t) other h = h
  accepts_folds el fs f peer source (Notice n) other h = h
  accepts_folds el fs f peer source (Accepted r) other h = in_if fs (r == 0) _ _ f f
  accepts_folds el fs f peer source Teardown other h = h
  accepts_folds el fs f peer source (Beat_down w) other h = h
  accepts_folds el fs f peer source (Query m l a q) other h = h
  accepts_folds el fs f peer source (Configure m) other h = h

  watched_if : (el : Element Config Op Subs) (fs : List (Fact Op)) (b : Bool) (v w : Element Config Op Subs × List ℕ) → FoldsIn fs v.0 → FoldsIn fs w.0 → FoldsIn fs (cond b v w).0
  watched_if el fs true v w f h = f
  watched_if el fs false v w f h = h

  watched_folds : (el : Element Config Op Subs) (fs : List (Fact Op)) (f : FoldsIn fs el) → FoldsIn fs (watched g el).0
  watched_folds el fs f = watched_if el fs ((g.settings el.settled).ce_policy == 0) _ _ (ended_folds (with_associations g el (still_heard el.associations el.clock (g.settings el.settled).ce_dead)) fs f _) f

  -- one input
  pub step_folds : (el : Element Config Op Subs) (fs : List (Fact Op)) (f : FoldsIn fs el) (i : Input Op) → FoldsStep fs (step g p el i)
  step_folds el fs f (Opened peer) = f
  step_folds el fs f (Arrived peer source m) = step_if fs (is_ce g source) _ _ (accepts_folds el fs f peer source m _ (step_if fs (contains_key el.associations source) _ _ (associate_folds el fs f peer source m) f)) f
  step_folds el fs f (Closed peer) = f
  step_folds el fs f (Moment moment) = let r = watched g (moved_on g el moment) in let k = watched_folds (moved_on g el moment) fs f in step_if fs (is_due g r.0) _ _ k k

  steps_fold : (inputs : List (Input Op)) (el : Element Config Op Subs) (fs : List (Fact Op)) → FoldsIn fs el → let r = steps g p inputs el fs in FoldsIn r.facts r.element
  steps_fold [] el fs f = f
  steps_fold (i ∷ rest) el fs f = let r = step g p el i in steps_fold rest r.element (r.facts ++ fs) (step_folds el fs f i)

  -- a restart loses nothing of this
  pub runs_fold : (runs : List (List (Input Op))) (el : Element Config Op Subs) (fs : List (Fact Op)) → FoldsIn fs el → let r = with_restarts g p runs el fs in FoldsIn r.facts r.element
  runs_fold [] el fs f = f
  runs_fold (inputs ∷ runs) el fs f = let r = steps g p inputs (restarted el) fs in runs_fold runs r.element r.facts (steps_fold inputs (restarted el) fs f)

abbrev pub Empty : {Op : Type 0} → List (Entry Op) → Type 0
Empty ns = ns ≡ []

pub new_folds : {Config Op Subs : Type 0} (g : Ground Config Op Subs) (first : Config) (p : ℕ) → Folds g first p None first [] [] × ((0 == 0) ≡ true → Empty {Op = Op} [])
new_folds g first p = (record { settles = refl; clean = tt; works = tt; fine = tt; disjoint = tt; live = tt; known = λ x b o. refl }, λ _. refl)

pub element_folds : {Config Op Subs : Type 0} (g : Ground Config Op Subs) → Lawful g → ElementFolds g
element_folds g law p first subs ce runs =
    let f = runs_fold g law first p runs (new_element first subs ce) [] (new_folds g first p) in
    record { settled = f.0.settles; clean = f.0.clean; works = f.0.works }
