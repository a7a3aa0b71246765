-- Whatever an element is sent keeps what its records tell, and their limits.
use Rattle.std.proofs.Common.{◌≡◌, ℕ, ◌≤◌, ◌==◌, Bool, true, false, cond, List, [], ◌∷◌, ◌++◌, length, ◌&&◌, not, nat_le, Option, Some, None, ⊎_elim, refl, sym, ap, ◌∙◌, subst, arith, eqb-true}
use Rattle.fc_agreement.specs.Restarts.{with_restarts}
use Rattle.fc_agreement.specs.Scopes.{RisingScopes}
use Rattle.fc_base.specs.Ids.{Txn}
use Rattle.fc_protocol.specs.Collections.{among}
use Rattle.fc_protocol.specs.ElementMachine.{ElementState, new_element, resumed, Circumstance, acts, after, idles, takes_part, rises_above, admits, Heard, only_says, reply, by_verdict, configured, by_body, hears}
use Rattle.fc_protocol.specs.Floors.{is_below, held_under, forgotten, floor_code}
use Rattle.fc_protocol.specs.Messages.{same, is_name, Stamp, Body, Claim, Sot, Mot, Eot, Trcomp, Abt, Floor, Malformed, Plain, Ask, Ask_record}
use Rattle.fc_protocol.specs.OneElement.{Arrival, hears_all, PreparedFirst, SettlesOnce, RecordsTell, FloorClear, Distinct, Limited, ScopesApart, FewParticipants}
use Rattle.fc_protocol.specs.Phases.{Turn, opening, adding, preparing, settling, aborting}
use Rattle.fc_protocol.specs.Records.{state_of, noted, held, clashes, is_full, is_packed, all_undone}
use Rattle.fc_protocol.specs.Scopes.{Scope, is_scope}
use Rattle.fc_protocol.specs.Trace.{Fact, Claimed_at, facts_of, undone_facts}
use Rattle.fc_protocol.specs.declared.answers.TxnEntry.{TxnEntry}
use Rattle.fc_protocol.specs.declared.states.Decision.TheVariants.{Complete}
use Rattle.fc_protocol.specs.declared.states.TxnState.{TxnState}
use Rattle.fc_protocol.specs.declared.verdict.Verdict.{Verdict}
use Rattle.fc_protocol.specs.declared.verdict.Verdict.TheVariants.{Claim as Claims, Unclaimed, Stale, Again, Gap, Next}
use Rattle.fc_agreement.proofs.Alone.{Known, Turned, opening_turn, adding_turn, preparing_turn, settling_turn, aborting_turn, other_facts, claim_known, gone_known, once_known, first_known}
use Rattle.fc_protocol.proofs.Puts.{both_first, both_second}
use Rattle.fc_protocol.proofs.Basics.{AllOf, both, same_true, same_of, same_self}
use Rattle.fc_agreement.proofs.Facts.{Single}
use Rattle.fc_agreement.proofs.Hearing.{verdict_on}
use Rattle.fc_agreement.proofs.Idles.{Idle, opening_idle, adding_idle, preparing_idle, settling_idle, aborting_idle}
use Rattle.fc_agreement.proofs.Limits.{Fit, noted_limited, noted_apart, undone_apart, forgotten_apart, undone_limits, forgotten_limits, opening_fit, adding_fit, preparing_fit, settling_fit, aborting_fit}
use Rattle.fc_protocol.proofs.Order.{floor_rises, floor_zero}
use Rattle.fc_protocol.proofs.Records.{write_all, forgotten_all, or_else, undone_or, held_or, state_noted, state_noted_other, state_undone, state_kept, state_gone, unheld_under}
use Rattle.fc_agreement.proofs.OneRecord.{single_noted, single_undone, absent_of, single_forgotten}

-- participants and a scope that a record may have
abbrev Bounds : List ℕ → Scope → Type 0
Bounds ps sc = (length ps ≤ 64) × (is_scope sc ≡ true)

abbrev Formed : TxnEntry → Type 0
Formed n = Bounds n.participants n.scope

noted_formed : (y : Txn) (ps : List ℕ) (sc : Scope) (new : Option TxnState) (ns : List TxnEntry) → AllOf Formed ns → ((s : TxnState) → new ≡ Some s → Bounds ps sc) → AllOf Formed (noted y ps sc new ns)
noted_formed y ps sc None ns a f = a
noted_formed y ps sc (Some s) ns a f = write_all Formed y ps sc s (state_of y ns) ns refl a (λ n _ _ u. u) (λ _. f s refl)

undone_formed : (ns : List TxnEntry) → AllOf Formed ns → AllOf Formed (all_undone ns)
undone_formed [] a = tt
undone_formed (n ∷ ns) a = (a.0, undone_formed ns a.1)

le_of : (m n : ℕ) → nat_le m n ≡ true → m ≤ n
le_of m n h = grind arith

opens_fit : (fits below clash full : Bool) (rest : ℕ) (o : Option TxnState) (s : TxnState) → (opening fits below clash full rest o).new ≡ Some s → fits ≡ true
opens_fit true below clash full rest o s e = refl
opens_fit false below clash full rest o s e = cc

admits_bounds : (p e : ℕ) (y : Txn) (ps : List ℕ) (strange : Bool) (sc : Scope) → admits p e y ps strange sc ≡ true → Bounds ps sc
admits_bounds p e y ps strange sc h =
    let named = both_second (y.epoch == e) _ h in
    let rest = both_second (not (y.number == 0)) _ named in
    let part = both_first (takes_part p ps) _ rest in
    (le_of (length ps) 64 (both_second (rises_above 0 ps) _ (both_second (among p ps) _ part)), both_second (not strange) _ (both_second (takes_part p ps) _ rest))

none_bounds : (s : TxnState) → Bounds [] []
none_bounds s = (omega arith, refl)

module _ (p : ℕ) where
  -- of one transaction: its record, or the state that it was forgotten in
  record Kept (fl : Option Txn) (ns : List TxnEntry) (fs : List Fact) (x : Txn) : Type 0 where
    now : Option TxnState
    known : Known p x fs now
    here : is_below x fl ≡ false → state_of x ns ≡ now
    gone : is_below x fl ≡ true → (state_of x ns ≡ None) × (held_or now ≡ false)

  record Sound (fl : Option Txn) (ns : List TxnEntry) (fs : List Fact) : Type 0 where
    kept : (x : Txn) → Kept fl ns fs x
    single : (x : Txn) → Single x [] ns
    limited : Limited ns
    apart : ScopesApart ns
    formed : AllOf Formed ns

  abbrev Keeps : List Fact → Heard → Type 0
  Keeps fs r = Sound r.element.floor r.element.records (r.facts ++ fs)

  kept_known : (fl : Option Txn) (ns : List TxnEntry) (fs : List Fact) (x : Txn) → is_below x fl ≡ false → Kept fl ns fs x → Known p x fs (state_of x ns)
  kept_known fl ns fs x b k = subst (Known p x fs) (sym (k.here b)) k.known

  after_kept : (x y : Txn) (t : Turn) (ps : List ℕ) (sc : Scope) (fl : Option Txn) (ns : List TxnEntry) (fs : List Fact) → Kept fl ns fs x → (y ≡ x → is_below x fl ≡ false → Turned p x t (state_of x ns) ps fs) → (is_below y fl ≡ true → state_of y ns ≡ None → Idle t)
      → Kept fl (noted y ps sc t.new ns) (facts_of p y ps t.events ++ fs) x
  after_kept x y t ps sc fl ns fs k f q =
      ⊎_elim (λ u.
      let z : y ≡ x = sym (same_true x y u) in
      ⊎_elim (λ b.
      let g = k.gone b in
      let i = q (ap (λ v. is_below v fl) z ∙ b) (ap (λ v. state_of v ns) z ∙ g.0) in
      record {
        now = k.now;
        known = subst (λ es. Known p x (facts_of p y ps es ++ fs) k.now) (sym i.1) k.known;
        here = λ c. let v : true ≡ false = sym b ∙ c in cc;
        gone = λ _. (ap (λ o. state_of x (noted y ps sc o ns)) i.0 ∙ g.0, g.1);
      })
      (λ b. record {
        now = or_else t.new (state_of x ns);
        known = subst (λ v. Known p x (facts_of p v ps t.events ++ fs) (or_else t.new (state_of x ns))) (sym z) (f z b);
        here = λ _. ap (λ v. state_of x (noted v ps sc t.new ns)) z ∙ state_noted x ps sc t.new ns;
        gone = λ c. let v : true ≡ false = sym c ∙ b in cc;
      }) (both (is_below x fl)))
      (λ u. record {
        now = k.now;
        known = other_facts p x y ps t.events fs k.now (λ v. let n : true ≡ false = sym (same_of x y (sym v)) ∙ u in absurd {A = ⊥} cc) k.known;
        here = λ b. state_noted_other x y ps sc t.new ns u ∙ k.here b;
        gone = λ b. let g = k.gone b in (state_noted_other x y ps sc t.new ns u ∙ g.0, g.1);
      }) (both (same x y))

  after_sound : (y : Txn) (t : Turn) (ps : List ℕ) (sc : Scope) (fl : Option Txn) (ns : List TxnEntry) (fs : List Fact) → Sound fl ns fs → ((x : Txn) → y ≡ x → is_below x fl ≡ false → Turned p x t (state_of x ns) ps fs) → (is_below y fl ≡ true → state_of y ns ≡ None → Idle t) → Fit sc t.new (state_of y ns) ns → ((s : TxnState) → t.new ≡ Some s → Bounds ps sc)
      → Sound fl (after p t y ps sc fl ns).records ((after p t y ps sc fl ns).facts ++ fs)
  after_sound y t ps sc fl ns fs s f q g b = record {
    kept = λ x. after_kept x y t ps sc fl ns fs (s.kept x) (f x) q;
    single = λ x. single_noted x [] y ps sc t.new ns (s.single x);
    limited = noted_limited y ps sc t.new ns s.limited g;
    apart = noted_apart y ps sc t.new ns s.apart g;
    formed = noted_formed y ps sc t.new ns s.formed b;
  }

  -- a new floor
  floor_kept : (fl : Option Txn) (f : Txn) (ns : List TxnEntry) (fs : List Fact) (x : Txn) → is_below f fl ≡ false → held_under f ns ≡ false → Kept fl ns fs x → Kept (Some f) (forgotten f ns) fs x
  floor_kept fl f ns fs x r u k = record {
    now = k.now;
    known = k.known;
    here = λ b. state_kept x f ns b ∙ k.here (floor_rises x f fl b r);
    gone = λ b. (state_gone x f ns b, ⊎_elim (λ v. (k.gone v).1) (λ v. ap held_or (sym (k.here v)) ∙ unheld_under x f ns u b) (both (is_below x fl)));
  }

  floor_sound : (fl : Option Txn) (f : Txn) (ns : List TxnEntry) (fs : List Fact) → is_below f fl ≡ false → held_under f ns ≡ false → Sound fl ns fs → Sound (Some f) (forgotten f ns) fs
  floor_sound fl f ns fs r u s =
      let l = forgotten_limits f ns in
      let a : length (held ns) ≤ 64 = s.limited.0 in
      let n : length ns ≤ 4096 = s.limited.1 in
      let d : length (held (forgotten f ns)) ≤ length (held ns) = l.0 in
      let g : length (forgotten f ns) ≤ length ns = l.1 in
      record { kept = λ x. floor_kept fl f ns fs x r u (s.kept x); single = λ x. single_forgotten x [] f ns (s.single x); limited = (omega arith, omega arith); apart = forgotten_apart f ns s.apart; formed = forgotten_all Formed f ns s.formed }

  floored_sound : (fl : Option Txn) (f : Txn) (ns : List TxnEntry) (code : ℕ) (fs : List Fact) (b : Bool) → (b ≡ true → (is_below f fl ≡ false) × (held_under f ns ≡ false)) → Sound fl ns fs → let r = cond b (record { records = forgotten f ns; floor = Some f; code = 0; facts = [] }) (idles fl ns code) in Sound r.floor r.records (r.facts ++ fs)
  floored_sound fl f ns code fs true g s = floor_sound fl f ns fs (g refl).0 (g refl).1 s
  floored_sound fl f ns code fs false g s = s

  acts_sound : (e : ℕ) (c : Circumstance) (b : Body) (fl : Option Txn) (ns : List TxnEntry) (fs : List Fact) → Sound fl ns fs → Sound (acts p e c b fl ns).floor (acts p e c b fl ns).records ((acts p e c b fl ns).facts ++ fs)
  acts_sound e c (Claim w) fl ns fs s = s
  acts_sound e0 c (Sot y ps sc) fl ns fs s =
      let fits = admits p e0 y ps c.strange sc in
      after_sound y (opening fits (is_below y fl) (clashes sc ns) (is_packed ns) c.rest (state_of y ns)) ps sc fl ns fs s
      (λ x i b. subst (λ v. Turned p x (opening fits (is_below v fl) (clashes sc ns) (is_packed ns) c.rest (state_of v ns)) (state_of x ns) ps fs) (sym i)
      (opening_turn p x fits (is_below x fl) (clashes sc ns) (is_packed ns) c.rest (state_of x ns) ps fs (kept_known fl ns fs x b (s.kept x))))
      (opening_idle fits (is_below y fl) (clashes sc ns) (is_packed ns) c.rest (state_of y ns))
      (opening_fit sc fits (is_below y fl) (clashes sc ns) (is_packed ns) c.rest (state_of y ns) ns refl refl)
      (λ s e. admits_bounds p e0 y ps c.strange sc (opens_fit fits (is_below y fl) (clashes sc ns) (is_packed ns) c.rest (state_of y ns) s e))
  acts_sound e c (Mot y i) fl ns fs s =
      after_sound y (adding c.rest (state_of y ns)) [] [] fl ns fs s
      (λ x i b. subst (λ v. Turned p x (adding c.rest (state_of v ns)) (state_of x ns) [] fs) (sym i) (adding_turn p x c.rest (state_of x ns) fs (kept_known fl ns fs x b (s.kept x)))) (λ _. adding_idle c.rest (state_of y ns)) (adding_fit [] c.rest (state_of y ns) ns) (λ s _. none_bounds s)
  acts_sound e c (Eot y) fl ns fs s =
      after_sound y (preparing (state_of y ns)) [] [] fl ns fs s (λ x i b. subst (λ v. Turned p x (preparing (state_of v ns)) (state_of x ns) [] fs) (sym i) (preparing_turn p x (state_of x ns) fs (kept_known fl ns fs x b (s.kept x))))
      (λ _. preparing_idle (state_of y ns)) (preparing_fit [] (state_of y ns) ns) (λ s _. none_bounds s)
  acts_sound e c (Trcomp y) fl ns fs s =
      after_sound y (settling Complete (state_of y ns)) [] [] fl ns fs s
      (λ x i b. subst (λ v. Turned p x (settling Complete (state_of v ns)) (state_of x ns) [] fs) (sym i) (settling_turn p x Complete (state_of x ns) fs (kept_known fl ns fs x b (s.kept x))))
      (λ _. settling_idle Complete (state_of y ns)) (settling_fit [] Complete (state_of y ns) ns) (λ s _. none_bounds s)
  acts_sound e c (Abt y) fl ns fs s =
      after_sound y (aborting (is_name y && not (is_below y fl)) (is_full ns) (state_of y ns)) [] [] fl ns fs s
      (λ x i b. subst (λ v. Turned p x (aborting (is_name v && not (is_below v fl)) (is_full ns) (state_of v ns)) (state_of x ns) [] fs) (sym i) (aborting_turn p x (is_name x && not (is_below x fl)) (is_full ns) (state_of x ns) fs (kept_known fl ns fs x b (s.kept x))))
      (aborting_idle (is_name y) (is_below y fl) (is_full ns) (state_of y ns)) (aborting_fit [] (is_name y && not (is_below y fl)) (is_full ns) (state_of y ns) ns refl) (λ s _. none_bounds s)
  acts_sound e c (Floor f) fl ns fs s = floored_sound fl f ns (floor_code e fl f ns) fs (floor_code e fl f ns == 0) (λ b. floor_zero e fl f ns (eqb-true _ _ b)) s
  acts_sound e c Malformed fl ns fs s = s
  acts_sound e c Plain fl ns fs s = s
  acts_sound e c Ask fl ns fs s = s
  acts_sound e c (Ask_record y) fl ns fs s = s

  claim_kept : (e : ℕ) (fl : Option Txn) (ns : List TxnEntry) (fs : List Fact) (x : Txn) → Single x [] ns → Kept fl ns fs x → Kept fl (all_undone ns) ((Claimed_at p e ∷ undone_facts p ns) ++ fs) x
  claim_kept e fl ns fs x u k =
      ⊎_elim (λ b.
      let g = k.gone b in
      record { now = k.now; known = gone_known p x e ns fs k.now u g.0 k.known; here = λ c. let v : true ≡ false = sym b ∙ c in cc; gone = λ _. (state_undone x ns ∙ ap undone_or g.0, g.1) })
      (λ b. record { now = undone_or (state_of x ns); known = claim_known p x e ns fs u (kept_known fl ns fs x b k); here = λ _. state_undone x ns; gone = λ c. let v : true ≡ false = sym c ∙ b in cc }) (both (is_below x fl))

  verdict_sound : (el : ElementState) (k : ℕ) (c : Circumstance) (m : Stamp) (b : Body) (v : Verdict) (fs : List Fact) → Sound el.floor el.records fs → Keeps fs (by_verdict p el k c m b v)
  verdict_sound el k c m b (Claims e) fs s =
      let l = undone_limits el.records in
      let a : length (held el.records) ≤ 64 = s.limited.0 in
      let n : length el.records ≤ 4096 = s.limited.1 in
      let d : length (held (all_undone el.records)) ≤ length (held el.records) = l.0 in
      let g : length (all_undone el.records) ≡ length el.records = l.1 in
      record {
        kept = λ x. claim_kept e el.floor el.records fs x (s.single x) (s.kept x);
        single = λ x. single_undone x [] el.records (s.single x);
        limited = (omega arith, omega arith);
        apart = undone_apart el.records s.apart;
        formed = undone_formed el.records s.formed;
      }
  verdict_sound el k c m b Unclaimed fs s = s
  verdict_sound el k c m b Stale fs s = s
  verdict_sound el k c m b Again fs s = s
  verdict_sound el k c m b Gap fs s = s
  verdict_sound el k c m b Next fs s = acts_sound el.epoch c b el.floor el.records fs s

  sound_if : (fs : List Fact) (b : Bool) (v w : Heard) → Keeps fs v → Keeps fs w → Keeps fs (cond b v w)
  sound_if fs true v w f g = f
  sound_if fs false v w f g = g

  config_sound : (el : ElementState) (k : ℕ) (c : Circumstance) (m : Stamp) (b : Body) (fs : List Fact) → Sound el.floor el.records fs → Keeps fs (configured p el k c m b)
  config_sound el k c m b fs s = sound_if fs (c.misfit == 0) (by_verdict p el k c m b (verdict_on el k m b)) (only_says el (reply c.quiet m c.misfit)) (verdict_sound el k c m b (verdict_on el k m b) fs s) s

  body_sound : (el : ElementState) (k : ℕ) (c : Circumstance) (m : Stamp) (b : Body) (fs : List Fact) → Sound el.floor el.records fs → Keeps fs (by_body p el k c m b)
  body_sound el k c m (Claim w) fs s = config_sound el k c m (Claim w) fs s
  body_sound el k c m (Sot y ps sc) fs s = config_sound el k c m (Sot y ps sc) fs s
  body_sound el k c m (Mot y i) fs s = config_sound el k c m (Mot y i) fs s
  body_sound el k c m (Eot y) fs s = config_sound el k c m (Eot y) fs s
  body_sound el k c m (Trcomp y) fs s = config_sound el k c m (Trcomp y) fs s
  body_sound el k c m (Abt y) fs s = config_sound el k c m (Abt y) fs s
  body_sound el k c m (Floor f) fs s = config_sound el k c m (Floor f) fs s
  body_sound el k c m Malformed fs s = config_sound el k c m Malformed fs s
  body_sound el k c m Plain fs s = config_sound el k c m Plain fs s
  body_sound el k c m Ask fs s = s
  body_sound el k c m (Ask_record y) fs s = s

  hears_sound : (el : ElementState) (k : ℕ) (c : Circumstance) (m : Stamp) (b : Body) (fs : List Fact) → Sound el.floor el.records fs → Keeps fs (hears p el k c m b)
  hears_sound el k c m b fs s = sound_if fs c.unheard (only_says el None) (by_body p el k c m b) s (body_sound el k c m b fs s)

  all_sound : (arrivals : List Arrival) (el : ElementState) (fs : List Fact) → Sound el.floor el.records fs → Sound (hears_all p arrivals el fs).element.floor (hears_all p arrivals el fs).element.records (hears_all p arrivals el fs).facts
  all_sound [] el fs s = s
  all_sound (a ∷ rest) el fs s =
      let r = hears p el a.sender a.circumstance a.stamp a.body in
      all_sound rest r.element (r.facts ++ fs) (hears_sound el a.sender a.circumstance a.stamp a.body fs s)

  new_sound : Sound None [] []
  new_sound = record {
    kept = λ x. record { now = None; known = record { prepared = λ e. cc; settled = λ d i. absurd i; ended = λ d e. cc; good = tt }; here = λ _. refl; gone = λ b. cc };
    single = λ x. tt;
    limited = (omega arith, omega arith);
    apart = tt;
    formed = tt;
  }

  distinct : (ns : List TxnEntry) → ((x : Txn) → Single x [] ns) → Distinct ns
  distinct [] s = tt
  distinct (n ∷ ns) s = (absent_of n.txn [] ns ((s n.txn).0 (same_self n.txn)), distinct ns (λ x. (s x).1))

  runs_sound : (runs : List (List Arrival)) (el : ElementState) (fs : List Fact) → Sound el.floor el.records fs → Sound (with_restarts p runs el fs).element.floor (with_restarts p runs el fs).element.records (with_restarts p runs el fs).facts
  runs_sound [] el fs s = s
  runs_sound (arrivals ∷ runs) el fs s =
      let r = hears_all p arrivals (resumed el) fs in
      runs_sound runs r.element r.facts (all_sound arrivals (resumed el) fs s)

  module _ (ce : ℕ) (runs : List (List Arrival)) where
    abbrev pub then : Heard
    then = with_restarts p runs (new_element ce) []

    sound : Sound then.element.floor then.element.records then.facts
    sound = runs_sound runs (new_element ce) [] new_sound

    pub first_law : PreparedFirst p then.facts
    first_law x later before = first_known p x then.facts (sound.kept x).now (sound.kept x).known later before

    pub settles_law : SettlesOnce p then.facts
    settles_law x d g later before = once_known p x then.facts (sound.kept x).now (sound.kept x).known d g later before

    pub tell_law : RecordsTell p then.element.floor then.element.records then.facts
    tell_law x d b = let k = kept_known then.element.floor then.element.records then.facts x b (sound.kept x) in (k.settled d, k.ended d)

    pub clear_law : FloorClear then.element.floor then.element.records
    clear_law x b = ((sound.kept x).gone b).0

    pub distinct_law : Distinct then.element.records
    distinct_law = distinct then.element.records sound.single

    pub limited_law : Limited then.element.records
    limited_law = sound.limited

    few_of : (ns : List TxnEntry) → AllOf Formed ns → FewParticipants ns
    few_of [] a = tt
    few_of (n ∷ ns) a = (a.0.0, few_of ns a.1)

    pub few_law : FewParticipants then.element.records
    few_law = few_of then.element.records sound.formed

    rising_of : (ns : List TxnEntry) → AllOf Formed ns → RisingScopes ns
    rising_of [] a = tt
    rising_of (n ∷ ns) a = (a.0.1, rising_of ns a.1)

    pub rising_law : RisingScopes then.element.records
    rising_law = rising_of then.element.records sound.formed

    pub apart_law : ScopesApart then.element.records
    apart_law = sound.apart
