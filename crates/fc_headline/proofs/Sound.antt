-- What an element keeps besides: its controller, the reply that it gave last, and the rests of what it holds.
use Rattle.std.proofs.Common.{◌≡◌, ◌≢◌, ℕ, ◌+◌, ◌==◌, ◌&&◌, not, Bool, true, false, cond, List, [], ◌∷◌, ◌++◌, Option, Some, None, refl, sym, ap, ◌∙◌, subst, eqb-true}
use Rattle.std.specs.FinMap.{contains_key, remove}
use Rattle.fc_assoc.specs.Associations.{still_heard}
use Rattle.fc_base.specs.Ids.{Txn}
use Rattle.fc_modes.specs.declared.mode.Mode.{Mode}
use Rattle.fc_machine.specs.ElementMachine.{Input, Opened, Arrived, Closed, Moment, Step, wants, answer, acts, unclaimed_by, unclaimed, by_verdict, by_mode, on_config, heard_from, with_associations, ended, from_associate, accepts, is_ce, moved_on, watched, is_due, step, steps}
use Rattle.fc_machine.specs.ElementState.{Entry, Element, new_element, restarted, entry, and_rest, written, rest_added, undone_records, without, bares, first_code}
use Rattle.fc_machine.specs.Ground.{Ground}
use Rattle.fc_machine.specs.Messages.{Configuring, Answer, Message, Setup, Beat, Response, Says, Notice, Accepted, Teardown, Beat_down, Query, Configure}
use Rattle.fc_machine.specs.Trace.{Fact}
use Rattle.fc_machine.specs.Transactions.{Did, all_get, is_completed, all_in, with_floor, places, scope_at, rest_codes, turned, and_adds, and_completes, starts, continues, floors_by, plain}
use Rattle.fc_headline.specs.OneElement.{Each, Rested, KeptReply, MessagePasses, Passes, RestsPass}
use Rattle.fc_headline.specs.Restarts.{with_restarts}
use Rattle.fc_headline.proofs.Held.{Is, bares_written}
use Rattle.fc_headline.proofs.Scopes.{never}
use Rattle.fc_protocol.specs.ElementMachine.{admits}
use Rattle.fc_protocol.specs.Fence.{claims, judge}
use Rattle.fc_protocol.specs.Floors.{is_under, is_below, floor_code}
use Rattle.fc_protocol.specs.Messages.{same, is_name, Stamp, Body, Claim, Sot, Mot, Eot, Trcomp, Abt, Floor, Malformed, Plain, Ask, Ask_record, claim_of}
use Rattle.fc_protocol.specs.Phases.{keeps, becomes, failed, opening, adding, preparing, settling, aborting}
use Rattle.fc_protocol.specs.Records.{state_of, is_held, undone, is_full, is_packed, clashes, any_taken}
use Rattle.fc_protocol.specs.Scopes.{Scope}
use Rattle.fc_protocol.specs.Trace.{Opens}
use Rattle.fc_protocol.specs.declared.states.Decision.TheVariants.{Complete}
use Rattle.fc_protocol.specs.declared.states.TxnState.{TxnState}
use Rattle.fc_protocol.specs.declared.states.TxnState.TheVariants.{Started, Prepared, Completed, Aborted}
use Rattle.fc_protocol.specs.declared.verdict.Verdict.{Verdict}
use Rattle.fc_protocol.specs.declared.verdict.Verdict.TheVariants.{Claim as Claims, Unclaimed, Stale, Again, Gap, Next}
use Rattle.fc_protocol.proofs.Basics.{cond_true, some_same, same_self}
use Rattle.fc_protocol.proofs.Puts.{both_first, both_second}
use Rattle.fc_protocol.proofs.Records.{state_written}

-- Rests, each of which passes this test

module _ {Op : Type 0} (test : List Op → Bool) where
  abbrev pub Filled : List (List Op) → Type 0
  Filled rests = Each (λ rest. (rest ≢ []) × (test rest ≡ true)) rests

  abbrev pub Held : Entry Op → Type 0
  Held n = (is_held n.state ≡ false → n.rests ≡ []) × Filled n.rests

  filled_append : (rests more : List (List Op)) → Filled rests → Filled more → Filled (rests ++ more)
  filled_append [] more f h = h
  filled_append (r ∷ rests) more f h = (f.0, filled_append rests more f.1 h)

  filled_and : (rests : List (List Op)) (ops : List Op) → test ops ≡ true → Filled rests → Filled (and_rest rests ops)
  filled_and rests [] t f = f
  filled_and rests (op ∷ ops) t f = filled_append rests ((op ∷ ops) ∷ []) f (((λ e. cc), t), tt)

  held_if : (b : Bool) (rests : List (List Op)) → Filled rests → (b ≡ false → cond b rests [] ≡ []) × Filled (cond b rests [])
  held_if true rests f = ((λ e. cc), f)
  held_if false rests f = ((λ e. refl), tt)

  held_entry : (x : Txn) (s : TxnState) (ps : List ℕ) (sc : Scope) (rests : List (List Op)) → Filled rests → Held (entry x s ps sc rests)
  held_entry x s ps sc rests f = held_if (is_held s) rests f

  written_if : (b : Bool) (x : Txn) (ps : List ℕ) (sc : Scope) (s : TxnState) (n : Entry Op) (ns : List (Entry Op)) → Each Held (n ∷ ns) → Each Held (written x ps sc s ns) → Each Held (cond b (entry n.txn s n.participants n.scope n.rests ∷ ns) (n ∷ written x ps sc s ns))
  written_if true x ps sc s n ns f r = (held_entry n.txn s n.participants n.scope n.rests f.0.1, f.1)
  written_if false x ps sc s n ns f r = (f.0, r)

  written_held : (x : Txn) (ps : List ℕ) (sc : Scope) (s : TxnState) (ns : List (Entry Op)) → Each Held ns → Each Held (written x ps sc s ns)
  written_held x ps sc s [] f = (held_entry x s ps sc [] tt, tt)
  written_held x ps sc s (n ∷ ns) f = written_if (same x n.txn) x ps sc s n ns f (written_held x ps sc s ns f.1)

  added_if : (b : Bool) (x : Txn) (ops : List Op) (n : Entry Op) (ns : List (Entry Op)) (s : TxnState) → test ops ≡ true → is_held s ≡ true → cond b (Some n.state) (state_of x (bares ns)) ≡ Some s → Each Held (n ∷ ns) → (Is x ns s → Each Held (rest_added x ops ns))
      → Each Held (cond b (record { txn = n.txn; state = n.state; participants = n.participants; scope = n.scope; rests = and_rest n.rests ops } ∷ ns) (n ∷ rest_added x ops ns))
  added_if true x ops n ns s t h e f r =
      let k : is_held n.state ≡ true = ap is_held (some_same n.state s e) ∙ h in
      (((λ z. never (is_held n.state) k z), filled_and n.rests ops t f.0.1), f.1)
  added_if false x ops n ns s t h e f r = (f.0, r e)

  -- a rest is added to what is held
  added_held : (x : Txn) (ops : List Op) (ns : List (Entry Op)) (s : TxnState) → test ops ≡ true → is_held s ≡ true → Is x ns s → Each Held ns → Each Held (rest_added x ops ns)
  added_held x ops [] s t h e f = tt
  added_held x ops (n ∷ ns) s t h e f = added_if (same x n.txn) x ops n ns s t h e f (λ i. added_held x ops ns s t h i f.1)

  undone_held : (ns : List (Entry Op)) → Each Held ns → Each Held (undone_records ns)
  undone_held [] f = tt
  undone_held (n ∷ ns) f = (held_entry n.txn (undone n.state) n.participants n.scope n.rests f.0.1, undone_held ns f.1)

  without_if : (b : Bool) (n : Entry Op) (ns : List (Entry Op)) → Held n → Each Held ns → Each Held (cond b ns (n ∷ ns))
  without_if true n ns f r = r
  without_if false n ns f r = (f, r)

  without_held : (gone : Txn → Bool) (ns : List (Entry Op)) → Each Held ns → Each Held (without gone ns)
  without_held gone [] f = tt
  without_held gone (n ∷ ns) f = without_if (gone n.txn) n (without gone ns) f.0 (without_held gone ns f.1)

  -- as the laws say it
  each_filled : (rests : List (List Op)) → Filled rests → Each (λ rest. rest ≢ []) rests × Each (λ rest. test rest ≡ true) rests
  each_filled [] f = (tt, tt)
  each_filled (r ∷ rests) f = let v = each_filled rests f.1 in ((f.0.0, v.0), (f.0.1, v.1))

  pub each_held : (ns : List (Entry Op)) → Each Held ns → Each Rested ns × Each (λ n. Each (λ rest. test rest ≡ true) n.rests) ns
  each_held [] f = (tt, tt)
  each_held (n ∷ ns) f = let v = each_held ns f.1 in let w = each_filled n.rests f.0.1 in (((f.0.0, w.0), v.0), (w.1, v.1))

-- The reply

answer_if : (b : Bool) (m : Stamp) (code : ℕ) (shown : List ℕ) (a : Answer) → cond b (Some (record { stamp = m; codes = code ∷ shown })) None ≡ Some a → (a.stamp ≡ m) × (a.codes ≢ [])
answer_if true m code shown a e = (cc, λ n. let c : code ∷ shown ≡ a.codes = cc in some_code code shown (c ∙ n))
  where
    some_code : (code : ℕ) (shown : List ℕ) → code ∷ shown ≡ [] → ⊥
    some_code code shown e = cc
answer_if false m code shown a e = cc

answer_is : (ack : ℕ) (m : Stamp) (codes shown : List ℕ) (a : Answer) → answer ack m codes shown ≡ Some a → (a.stamp ≡ m) × (a.codes ≢ [])
answer_is ack m codes [] a e = cc
answer_is ack m codes (code ∷ shown) a e = answer_if (wants ack codes) m code shown a e

-- What a verdict says of the correlator

claim_if : (a b c d e : Bool) (n l : ℕ) → cond a (Claims n) (cond b Unclaimed (cond c (cond d Again (cond e Next Gap)) Stale)) ≡ Claims l → (a ≡ true) × (n ≡ l)
claim_if true b c d e n l j = (refl, cc)
claim_if false true c d e n l j = cc
claim_if false false true true e n l j = cc
claim_if false false true false true n l j = cc
claim_if false false true false false n l j = cc
claim_if false false false d e n l j = cc

next_if : (a b c d e : Bool) (n : ℕ) → cond a (Claims n) (cond b Unclaimed (cond c (cond d Again (cond e Next Gap)) Stale)) ≡ Next → (c ≡ true) × (e ≡ true)
next_if true b c d e n j = cc
next_if false true c d e n j = cc
next_if false false true true e n j = cc
next_if false false true false true n j = (refl, refl)
next_if false false true false false n j = cc
next_if false false false d e n j = cc

claim_count : (epoch sender : ℕ) (m : Stamp) (claim : Option ℕ) → claims epoch sender m claim ≡ true → m.count ≡ 0
claim_count epoch sender m None e = cc
claim_count epoch sender m (Some w) e = eqb-true m.count 0 (both_second (m.life == w) _ (both_first (m.life == w && m.count == 0) _ e))

stamp_same : (m : Stamp) (life count : ℕ) → m.life ≡ life → m.count ≡ count → m ≡ record { life = life; count = count }
stamp_same m life count e f = ap (λ n. record { life = n; count = m.count }) e ∙ ap (λ n. record { life = life; count = n }) f

claim_stamp : (epoch master seq sender : ℕ) (m : Stamp) (claim : Option ℕ) (e : ℕ) → judge epoch master seq sender m claim ≡ Claims e → m ≡ record { life = e; count = 0 }
claim_stamp epoch master seq sender m claim e j =
    let v = claim_if (claims epoch sender m claim) (epoch == 0) (m.life == epoch && sender == master) (m.count == seq) (m.count == seq + 1) m.life e j in
    stamp_same m e 0 v.1 (claim_count epoch sender m claim v.0)

next_stamp : (epoch master seq sender : ℕ) (m : Stamp) (claim : Option ℕ) → judge epoch master seq sender m claim ≡ Next → m ≡ record { life = epoch; count = seq + 1 }
next_stamp epoch master seq sender m claim j =
    let v = next_if (claims epoch sender m claim) (epoch == 0) (m.life == epoch && sender == master) (m.count == seq) (m.count == seq + 1) m.life j in
    stamp_same m epoch (seq + 1) (eqb-true m.life epoch (both_first (m.life == epoch) _ v.0)) (eqb-true m.count (seq + 1) v.1)

module _ {Config Op Subs : Type 0} (g : Ground Config Op Subs) (ce p : ℕ) (test : List Op → Bool) where
  abbrev pub Sound : Element Config Op Subs → Type 0
  Sound el = (is_ce g ce ≡ true → is_ce g el.ce ≡ true) × KeptReply el × Each (Held test) el.records

  step_if : (b : Bool) (v w : Step Config Op Subs) → Sound v.element → Sound w.element → Sound (cond b v w).element
  step_if true v w f h = f
  step_if false v w f h = h

  abbrev HeldDid : Did Config Op Subs → Type 0
  HeldDid d = Each (Held test) d.records

  did_if : (b : Bool) (v w : Did Config Op Subs) → HeldDid v → HeldDid w → HeldDid (cond b v w)
  did_if true v w f h = f
  did_if false v w f h = h

  module _ (el : Element Config Op Subs) (f : Each (Held test) el.records) where
    abbrev ns : List (Entry Op)
    ns = el.records

    -- SOT
    starts_if : (b : Bool) (x : Txn) (ps : List ℕ) (sc : Scope) (ops : List Op) (code : ℕ) (cs ds : List ℕ) → test ops ≡ true → (code == 0) ≡ b
        → let t = failed (not b) code (becomes Started 0 (Opens ∷ [])) in HeldDid (and_adds g (t.code == 0) p x ops (turned g p el x ps sc t cs ds))
    starts_if true x ps sc ops code cs ds t e =
        added_held test x ops (written x ps sc Started ns) Started t refl (ap (state_of x) (bares_written x ps sc Started ns) ∙ state_written x x ps sc Started (bares ns) ∙ cond_true (same x x) _ _ (same_self x)) (written_held test x ps sc Started ns f)
    starts_if false x ps sc ops code cs ds u e =
        let t = failed true code (becomes Started 0 (Opens ∷ [])) in
        subst (λ w. HeldDid (and_adds g w p x ops (turned g p el x ps sc t cs ds))) (sym e) (written_held test x ps sc Aborted ns f)

    starts_at : (x : Txn) (ps : List ℕ) (sc : Scope) (ops : List Op) (fits below clash full : Bool) (code : ℕ) (cs ds : List ℕ) (s : Option TxnState) → test ops ≡ true
        → let t = opening fits below clash full code s in HeldDid (and_adds g (t.code == 0) p x ops (turned g p el x ps sc t cs ds))
    starts_at x ps sc ops false below clash full code cs ds s u = f
    starts_at x ps sc ops true below clash full code cs ds (Some s) u = f
    starts_at x ps sc ops true true clash full code cs ds None u = f
    starts_at x ps sc ops true false true full code cs ds None u = f
    starts_at x ps sc ops true false false true code cs ds None u = f
    starts_at x ps sc ops true false false false code cs ds None u = starts_if (code == 0) x ps sc ops code cs ds u refl

    starts_held : (x : Txn) (ps : List ℕ) (sc : Scope) (ops : List Op) → test ops ≡ true → HeldDid (starts g p el x ps sc ops)
    starts_held x ps sc ops u = starts_at x ps sc ops (admits p el.epoch x ps (not (all_in g sc)) sc) (is_below x el.floor) (clashes sc (bares ns)) (is_packed (bares ns)) (first_code (rest_codes g el sc ops)) _ _ (state_of x (bares ns)) u

    -- MOT
    continues_if : (b : Bool) (x : Txn) (ops : List Op) (code : ℕ) (cs ds : List ℕ) → test ops ≡ true → (code == 0) ≡ b → state_of x (bares ns) ≡ Some Started
        → let t = failed (not b) code (keeps 0) in HeldDid (and_adds g (t.code == 0) p x ops (turned g p el x [] [] t cs ds))
    continues_if true x ops code cs ds u e i = added_held test x ops ns Started u refl i f
    continues_if false x ops code cs ds u e i =
        let t = failed true code (keeps 0) in
        subst (λ w. HeldDid (and_adds g w p x ops (turned g p el x [] [] t cs ds))) (sym e) (written_held test x [] [] Aborted ns f)

    continues_at : (x : Txn) (ops : List Op) (code : ℕ) (cs ds : List ℕ) (s : Option TxnState) → test ops ≡ true → state_of x (bares ns) ≡ s → let t = adding code s in HeldDid (and_adds g (t.code == 0) p x ops (turned g p el x [] [] t cs ds))
    continues_at x ops code cs ds None u e = f
    continues_at x ops code cs ds (Some Started) u e = continues_if (code == 0) x ops code cs ds u refl e
    continues_at x ops code cs ds (Some Prepared) u e = f
    continues_at x ops code cs ds (Some Completed) u e = f
    continues_at x ops code cs ds (Some Aborted) u e = f

    continues_held : (x : Txn) (ops : List Op) → test ops ≡ true → HeldDid (continues g p el x ops)
    continues_held x ops u = continues_at x ops (first_code (rest_codes g el (scope_at x ns) ops)) _ _ (state_of x (bares ns)) u refl

    -- EOT with COMMIT
    prepares_at : (x : Txn) (cs ds : List ℕ) (s : Option TxnState) → HeldDid (turned g p el x [] [] (preparing s) cs ds)
    prepares_at x cs ds None = f
    prepares_at x cs ds (Some Started) = written_held test x [] [] Prepared ns f
    prepares_at x cs ds (Some Prepared) = f
    prepares_at x cs ds (Some Completed) = f
    prepares_at x cs ds (Some Aborted) = f

    -- EOT with TRCOMP
    completes_at : (x : Txn) (cs ds : List ℕ) (s : Option TxnState) → let t = settling Complete s in HeldDid (and_completes g (is_completed t.new) el x (turned g p el x [] [] t cs ds))
    completes_at x cs ds None = f
    completes_at x cs ds (Some Started) = f
    completes_at x cs ds (Some Prepared) = written_held test x [] [] Completed ns f
    completes_at x cs ds (Some Completed) = f
    completes_at x cs ds (Some Aborted) = f

    -- ABT
    aborts_at : (x : Txn) (named full : Bool) (cs ds : List ℕ) (s : Option TxnState) → HeldDid (turned g p el x [] [] (aborting named full s) cs ds)
    aborts_at x false full cs ds None = f
    aborts_at x true true cs ds None = f
    aborts_at x true false cs ds None = written_held test x [] [] Aborted ns f
    aborts_at x named full cs ds (Some Started) = written_held test x [] [] Aborted ns f
    aborts_at x named full cs ds (Some Prepared) = written_held test x [] [] Aborted ns f
    aborts_at x named full cs ds (Some Completed) = f
    aborts_at x named full cs ds (Some Aborted) = f

    plain_held : (m : Configuring Op) (mode : Mode) → HeldDid (plain g p el m mode)
    plain_held m mode = did_if (any_taken (bares ns) (places g m.ops)) _ _ f (did_if m.props _ _ f f)

    floors_held : (m : Configuring Op) (y : Txn) (code : ℕ) → HeldDid (floors_by g el m y code)
    floors_held m y code = did_if (code == 0) (with_floor g el m y) (all_get g el m code) (without_held test (λ x. is_under x y) ns f) f

    acts_held : (m : Configuring Op) (mode : Mode) (b : Body) → test m.ops ≡ true → HeldDid (acts g p el m mode b)
    acts_held m mode (Claim w) u = f
    acts_held m mode (Sot x ps sc) u = starts_held x ps sc m.ops u
    acts_held m mode (Mot x i) u = continues_held x m.ops u
    acts_held m mode (Eot x) u = prepares_at x [] [] (state_of x (bares ns))
    acts_held m mode (Trcomp x) u = completes_at x _ _ (state_of x (bares ns))
    acts_held m mode (Abt x) u = aborts_at x (is_name x && not (is_below x el.floor)) (is_full (bares ns)) [] [] (state_of x (bares ns))
    acts_held m mode (Floor y) u = floors_held m y (floor_code el.epoch el.floor y (bares ns))
    acts_held m mode Malformed u = f
    acts_held m mode Plain u = plain_held m mode
    acts_held m mode Ask u = f
    acts_held m mode (Ask_record x) u = f

    unclaimed_by_held : (m : Configuring Op) (mode : Mode) (b : Body) → HeldDid (unclaimed_by g p el m mode b)
    unclaimed_by_held m mode (Claim w) = f
    unclaimed_by_held m mode (Sot x ps sc) = f
    unclaimed_by_held m mode (Mot x i) = f
    unclaimed_by_held m mode (Eot x) = f
    unclaimed_by_held m mode (Trcomp x) = f
    unclaimed_by_held m mode (Abt x) = f
    unclaimed_by_held m mode (Floor y) = f
    unclaimed_by_held m mode Malformed = f
    unclaimed_by_held m mode Plain = did_if m.props _ _ f f
    unclaimed_by_held m mode Ask = f
    unclaimed_by_held m mode (Ask_record x) = f

    unclaimed_held : (source : ℕ) (m : Configuring Op) (mode : Mode) → HeldDid (unclaimed g p el source m mode)
    unclaimed_held source m mode = did_if (source == el.ce) _ _ (unclaimed_by_held m mode m.body) f

  verdict_sound : (el : Element Config Op Subs) (s : Sound el) (peer source : ℕ) (c : is_ce g source ≡ true) (m : Configuring Op) (mode : Mode) (v : Verdict) → test m.ops ≡ true → judge el.epoch el.master el.sequence source m.stamp (claim_of m.body) ≡ v → Sound (by_verdict g p el peer source m mode v).element
  verdict_sound el s peer source c m mode (Claims e) u j = (
    (λ z. c),
    (λ a k. let v = answer_is m.ack m.stamp (0 ∷ []) (0 ∷ []) a k in (v.0 ∙ claim_stamp el.epoch el.master el.sequence source m.stamp (claim_of m.body) e j, v.1)),
    undone_held test el.records s.2,
  )
  verdict_sound el s peer source c m mode Unclaimed u j = (s.0, s.1, unclaimed_held (heard_from g el source peer) s.2 source m mode)
  verdict_sound el s peer source c m mode Stale u j = s
  verdict_sound el s peer source c m mode Again u j = s
  verdict_sound el s peer source c m mode Gap u j = s
  verdict_sound el s peer source c m mode Next u j =
      let d = acts g p (heard_from g el source peer) m mode m.body in (
        s.0,
        (λ a k. let v = answer_is m.ack m.stamp d.codes d.shown a k in (v.0 ∙ next_stamp el.epoch el.master el.sequence source m.stamp (claim_of m.body) j, v.1)),
        acts_held (heard_from g el source peer) s.2 m mode m.body u,
      )

  mode_sound : (el : Element Config Op Subs) (s : Sound el) (peer source : ℕ) (c : is_ce g source ≡ true) (m : Configuring Op) (o : Option Mode) → test m.ops ≡ true → Sound (by_mode g p el peer source m o).element
  mode_sound el s peer source c m None u = s
  mode_sound el s peer source c m (Some mode) u = verdict_sound el s peer source c m mode (judge el.epoch el.master el.sequence source m.stamp (claim_of m.body)) u refl

  lost_if : (b : Bool) (v w : Step Config Op Subs) → Sound v.element → (b ≡ false → Sound w.element) → Sound (cond b v w).element
  lost_if true v w f h = f
  lost_if false v w f h = h refl

  config_sound : (el : Element Config Op Subs) (s : Sound el) (peer source : ℕ) (c : is_ce g source ≡ true) (m : Configuring Op) → (m.lost ≡ false → test m.ops ≡ true) → Sound (on_config g p el peer source m).element
  config_sound el s peer source c m u = lost_if m.lost _ _ s (λ l. step_if m.astray _ _ s (mode_sound el s peer source c m m.mode (u l)))

  ended_sound : (el : Element Config Op Subs) (s : Sound el) (b : Bool) → Sound (ended g b el).0
  ended_sound el s true = s
  ended_sound el s false = s

  associate_sound : (el : Element Config Op Subs) (s : Sound el) (peer source : ℕ) (c : is_ce g source ≡ true) (m : Message Op) → MessagePasses test m → Sound (from_associate g p el peer source m).element
  associate_sound el s peer source c Setup u = s
  associate_sound el s peer source c (Beat w) u = s
  associate_sound el s peer source c (Response a) u = s
  associate_sound el s peer source c (Says m t) u = s
  associate_sound el s peer source c (Notice n) u = s
  associate_sound el s peer source c (Accepted r) u = s
  associate_sound el s peer source c Teardown u = ended_sound (with_associations g el (remove el.associations source)) s (source == el.ce && contains_key el.associations source)
  associate_sound el s peer source c (Beat_down w) u = s
  associate_sound el s peer source c (Query m l a q) u = s
  associate_sound el s peer source c (Configure m) u = config_sound el s peer source c m u

  in_if : (b : Bool) (v w : Element Config Op Subs) → Sound v → Sound w → Sound (cond b v w)
  in_if true v w f h = f
  in_if false v w f h = h

  accepts_sound : (el : Element Config Op Subs) (s : Sound el) (peer source : ℕ) (m : Message Op) (other : Step Config Op Subs) → Sound other.element → Sound (accepts g el peer source m other).element
  accepts_sound el s peer source Setup other h = h
  accepts_sound el s peer source (Beat w) other h = h
  accepts_sound el s peer source (Response a) other h = h
  accepts_sound el s peer source (Says m t) other h = h
  accepts_sound el s peer source (Notice n) other h = h
  accepts_sound el s peer source (Accepted r) other h = in_if (r == 0) _ _ s s
  accepts_sound el s peer source Teardown other h = h
  accepts_sound el s peer source (Beat_down w) other h = h
  accepts_sound el s peer source (Query m l a q) other h = h
  accepts_sound el s peer source (Configure m) other h = h

  watched_if : (b : Bool) (v w : Element Config Op Subs × List ℕ) → Sound v.0 → Sound w.0 → Sound (cond b v w).0
  watched_if true v w f h = f
  watched_if false v w f h = h

  watched_sound : (el : Element Config Op Subs) (s : Sound el) → Sound (watched g el).0
  watched_sound el s = watched_if ((g.settings el.settled).ce_policy == 0) _ _ (ended_sound (with_associations g el (still_heard el.associations el.clock (g.settings el.settled).ce_dead)) s _) s

  -- only what comes from a control element is heard
  message_if : (el : Element Config Op Subs) (s : Sound el) (source : ℕ) (b : Bool) (v : Step Config Op Subs) → is_ce g source ≡ b → (is_ce g source ≡ true → Sound v.element) → Sound (cond b v (record { element = el; outs = []; facts = [] })).element
  message_if el s source true v e h = h e
  message_if el s source false v e h = s

  step_sound : (el : Element Config Op Subs) (s : Sound el) (i : Input Op) → Passes test i → Sound (step g p el i).element
  step_sound el s (Opened peer) u = s
  step_sound el s (Arrived peer source m) u = message_if el s source (is_ce g source) _ refl (λ c. accepts_sound el s peer source m _ (step_if (contains_key el.associations source) _ _ (associate_sound el s peer source c m u) s))
  step_sound el s (Closed peer) u = s
  step_sound el s (Moment moment) u = let r = watched g (moved_on g el moment) in let k = watched_sound (moved_on g el moment) s in step_if (is_due g r.0) _ _ k k

  steps_sound : (inputs : List (Input Op)) (el : Element Config Op Subs) (fs : List (Fact Op)) → Each (Passes test) inputs → Sound el → Sound (steps g p inputs el fs).element
  steps_sound [] el fs u s = s
  steps_sound (i ∷ rest) el fs u s = let r = step g p el i in steps_sound rest r.element (r.facts ++ fs) u.1 (step_sound el s i u.0)

  pub runs_sound : (runs : List (List (Input Op))) (el : Element Config Op Subs) (fs : List (Fact Op)) → Each (Each (Passes test)) runs → Sound el → Sound (with_restarts g p runs el fs).element
  runs_sound [] el fs u s = s
  runs_sound (inputs ∷ runs) el fs u s = let r = steps g p inputs (restarted el) fs in runs_sound runs r.element r.facts u.1 (steps_sound inputs (restarted el) fs u.0 s)

pub new_sound : {Config Op Subs : Type 0} (g : Ground Config Op Subs) (ce : ℕ) (test : List Op → Bool) (opening : Config) (subs : Subs) → (is_ce g ce ≡ true → is_ce g ce ≡ true) × KeptReply (new_element {Op = Op} opening subs ce) × Each (Held test) []
new_sound g ce test opening subs = ((λ z. z), (λ a e. cc), tt)

message_passes : {Op : Type 0} (m : Message Op) → MessagePasses (λ ops. true) m
message_passes Setup = tt
message_passes (Beat w) = tt
message_passes (Response a) = tt
message_passes (Says m t) = tt
message_passes (Notice n) = tt
message_passes (Accepted r) = tt
message_passes Teardown = tt
message_passes (Beat_down w) = tt
message_passes (Query m l a q) = tt
message_passes (Configure m) = λ e. refl

input_passes : {Op : Type 0} (i : Input Op) → Passes (λ ops. true) i
input_passes (Opened peer) = tt
input_passes (Arrived peer source m) = message_passes m
input_passes (Closed peer) = tt
input_passes (Moment moment) = tt

-- every input passes what is no test
inputs_pass : {Op : Type 0} (inputs : List (Input Op)) → Each (Passes (λ ops. true)) inputs
inputs_pass [] = tt
inputs_pass (i ∷ rest) = (input_passes i, inputs_pass rest)

pub all_pass : {Op : Type 0} (runs : List (List (Input Op))) → Each (Each (Passes (λ ops. true))) runs
all_pass [] = tt
all_pass (inputs ∷ runs) = (inputs_pass inputs, all_pass runs)

pub rests_pass : {Config Op Subs : Type 0} (g : Ground Config Op Subs) → RestsPass g
rests_pass g test p opening subs ce runs u =
    let s = runs_sound g ce p test runs (new_element opening subs ce) [] u (new_sound g ce test opening subs) in
    (each_held test (with_restarts g p runs (new_element opening subs ce) []).element.records s.2).1
