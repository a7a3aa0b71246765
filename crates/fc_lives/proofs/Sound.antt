-- What holds of each registered event stays.
use Rattle.std.proofs.Common.{◌≡◌, ◌≤◌, ◌<◌, ℕ, ◌+◌, ◌==◌, ◌||◌, nat_lt, Bool, true, false, cond, not, List, [], ◌∷◌, ◌++◌, map, find, fold, length, Option, Some, None, option_map, Result, Ok, Err, refl, sym, ap, ◌∙◌, subst, arith, eqb-true, inl, inr}
use Rattle.std.proofs.lemmas.Bool.Decides.{nat_tests}
use Rattle.std.specs.List.{AllByRecursion, list_any}
use Rattle.fc_base.specs.Answers.{◌>>=◌}
use Rattle.fc_events.specs.Events.{Sight, declared, event_at, event_behind, event_by, event_in, event_named, events_of, has_instance, is_signed, place, seen_layer, seen_of, sight_of}
use Rattle.fc_events.specs.Reports.{evaluated_in, reported_by, reports}
use Rattle.fc_events.specs.Subscribing.{is_at, settings_at, settings_or_opening}
use Rattle.fc_events.specs.declared.subscriptions.EventPlace.{EventPlace}
use Rattle.fc_events.specs.declared.subscriptions.Notice.{Notice}
use Rattle.fc_events.specs.declared.subscriptions.Subscription.{Subscription}
use Rattle.fc_path.specs.declared.oper.Spot.{Spot}
use Rattle.fc_path.specs.declared.oper.Step.{Step}
use Rattle.fc_path.specs.declared.oper.Step.TheVariants as step
use Rattle.fc_store.proofs.Lists.{found_passes, none_some, some_is}
use Rattle.fc_store.specs.Spots.{unknown_class}
use Rattle.fc_store.specs.Stores.{Stored, declared_in}
use Rattle.fc_tree.specs.Finding.{or_code}
use Rattle.fc_types.specs.Classes.{target_type}
use Rattle.fc_types.specs.declared.class.Class.{Class}
use Rattle.fc_types.specs.declared.class.EventDecl.{EventDecl}
use Rattle.fc_types.specs.declared.class.When.{When}
use Rattle.fc_types.specs.declared.class.When.TheVariants as when
use Rattle.fc_types.specs.declared.ty.Field.{Field}
use Rattle.fc_types.specs.declared.ty.Ty.{Ty}
use Rattle.fc_types.specs.declared.ty.Ty.TheOpen.{Ty-F}
use Rattle.fc_types.specs.declared.ty.Ty.TheViews.{out-Ty}
use Rattle.fc_value.specs.declared.value.Value.{Value}
use Rattle.fc_watch.specs.Settings.{condition_of, count, invalid_parameters, invalid_tlv, registration, settings_after, with_prop, with_word}
use Rattle.fc_watch.specs.Watching.{counting, evaluated, hits_of, last_of, started}
use Rattle.fc_watch.specs.declared.settings.Settings.{Settings}
use Rattle.fc_watch.specs.declared.watch.Seen.{Seen}
use Rattle.fc_watch.specs.declared.watch.Told.{Told}
use Rattle.fc_watch.specs.declared.watch.Watch.{Watch}
use Rattle.fc_wire.specs.Bytes.{u32_at}
use Rattle.fc_wire.specs.declared.ilvs.Ilv.{Ilv}
use Rattle.fc_element.specs.Runs.{did_by}
use Rattle.fc_exec.specs.Operations.{operations}
use Rattle.fc_msg.specs.declared.message.Message.{Message}
use Rattle.fc_path.specs.declared.oper.Leaf.{Leaf}
use Rattle.fc_path.specs.declared.oper.Select.{Select}
use Rattle.fc_performing.specs.Performing.{mode_of}
use Rattle.fc_phases.specs.declared.asked.Asked.{Asked}
use Rattle.fc_protocol.specs.declared.verdict.Verdict.{Verdict}
use Rattle.fc_protocol.specs.declared.verdict.Verdict.TheVariants.{Claim as Claims, Unclaimed, Stale, Again, Gap, Next}
use Rattle.fc_standing.specs.Basis.{leaves_of}
use Rattle.fc_transactions.specs.Order.{by_verdict, unclaimed}
use Rattle.fc_transactions.specs.Phases.{Did, acts}
use Rattle.fc_transactions.specs.State.{TransactionState}
use Rattle.fc_transactions.specs.declared.ledger.Ledger.{Ledger}
use Rattle.fc_lives.specs.SettledEvents.{IsBefore, TellsAt}
use Rattle.fc_lives.specs.Registered.{AreSound, IsSound, form_layer, has_form}
use Rattle.fc_lives.proofs.Setting.{IsFresh, IsFreshLeaf, props_keep}
use Rattle.fc_lives.proofs.Types.{err_not, ok_is, sight_type}

-- ---- the count
abbrev Counts : Result Settings ℕ → Type 0
Counts (Ok t) = 1 ≤ t.count
Counts (Err code) = Unit {0}

counts_if : (b : Bool) (r q : Result Settings ℕ) → Counts r → Counts q → Counts (cond b r q)
counts_if true r q c d = c
counts_if false r q c d = d

count_word : (s : Settings) (code w : ℕ) (b : Bool) → (w == 0) ≡ b → Counts (cond {A = Result Settings ℕ} b (Err code) (Ok (record { registered = s.registered; threshold = s.threshold; hysteresis = s.hysteresis; count = w })))
count_word s code w true e = tt
count_word s code w false e = grind (arith, nat_tests, e)

word_counts : (s : Settings) (ident w : ℕ) → 1 ≤ s.count → Counts (with_word s ident w)
word_counts s ident w h =
    counts_if (ident == 2) _ _ (counts_if (nat_lt 1 w) _ _ tt h) (counts_if (ident == 3) _ _ h (counts_if (ident == 4) _ _ h (count_word s _ w (w == 0) refl)))

prop_counts : (before : List Ilv) (s : Settings) (ilv : Ilv) → 1 ≤ s.count → Counts (with_prop before s ilv)
prop_counts before s ilv h =
    counts_if (nat_lt ilv.ident registration || nat_lt count ilv.ident) (Err invalid_parameters) _ tt
    (counts_if (list_any (λ (other : Ilv). other.ident == ilv.ident) before) (Err invalid_tlv) _ tt
    (counts_if (not (length ilv.value == 4)) (Err invalid_tlv) _ tt (word_counts s ilv.ident (u32_at ilv.value 0) h)))

all_count : (ilvs before : List Ilv) (s : Settings) → 1 ≤ s.count → Counts (settings_after before s ilvs)
all_count [] before s h = h
all_count (ilv ∷ ilvs) before s h = by (with_prop before s ilv) (prop_counts before s ilv h) (all_count ilvs (before ++ ilv ∷ []))
  where
    by : (r : Result Settings ℕ) → Counts r → ((t : Settings) → 1 ≤ t.count → Counts (settings_after (before ++ ilv ∷ []) t ilvs)) → Counts (r >>= λ t. settings_after (before ++ ilv ∷ []) t ilvs)
    by (Ok t) c more = more t c
    by (Err code) c more = tt

-- ---- what was counted
noted_below : (count n : ℕ) (told hits : List Told) → n < count → (fold (counting count) (n, told) hits).0 < count
noted_below count n told [] h = h
noted_below count n told (hit ∷ hits) h = by (nat_lt (n + 1) count) refl (λ m others. noted_below count m others hits)
  where
    by : (b : Bool) → nat_lt (n + 1) count ≡ b → ((m : ℕ) (others : List Told) → m < count → (fold (counting count) (m, others) hits).0 < count) → (fold (counting count) (cond b (n + 1, told) (0, told ++ hit ∷ [])) hits).0 < count
    by true e more = more (n + 1) told (grind (arith, nat_tests, e))
    by false e more = more 0 (told ++ hit ∷ []) (omega (arith, h))

-- ---- the form
seen_form : (l : Ty-F Ty Field) (ty : Ty) (v : Value) → form_layer l (seen_layer ty v l) ≡ true
seen_form Ty-F.Bool ty v = refl
seen_form (Ty-F.Number bytes signed min max) ty v = refl
seen_form (Ty-F.Bytes n) ty v = refl
seen_form (Ty-F.String n) ty v = refl
seen_form (Ty-F.Octets n) ty v = refl
seen_form (Ty-F.Struct fields) ty v = refl
seen_form (Ty-F.Array entry limit keys) ty v = refl

has_seen : (ty : Ty) (v : Value) → has_form ty (seen_of ty v) ≡ true
unfolding seen_of
has_seen ty v = seen_form (out-Ty ty) ty v

last_form : (w : When) (ty : Ty) (old s : Seen) → has_form ty old ≡ true → has_form ty s ≡ true → has_form ty (last_of w old s) ≡ true
last_form when.Greater ty old s h k = h
last_form when.Less ty old s h k = h
last_form when.Changed ty old s h k = k
last_form when.Created ty old s h k = k
last_form when.Deleted ty old s h k = k

-- ---- an evaluation
module _ (library : List Class) (instances : List (ℕ × ℕ)) where
  sound_by : (s : Stored) (sub : Subscription) (o : Option Watch) (g : Option Sight) → s.library ≡ library → IsSound library instances sub → sub.watch ≡ o → sight_of s sub.place ≡ g → IsSound library instances (reported_by sub o g).0
  sound_by s sub None g l h e f = h
  sound_by s sub (Some w) None l h e f = h
  sound_by s sub (Some w) (Some sight) l h e f =
      let c = condition_of sight.when (is_signed sight.ty) sub.settings in
      let x = seen_of sight.ty sight.value in
      let hits = hits_of c.when c w x in
      let w' = (evaluated c w x).0 in
      record {
        registered = h.registered;
        counts = h.counts;
        there = h.there;
        is_declared = h.is_declared;
        below = λ v k. subst (λ (z : Watch). z.satisfied < sub.settings.count) (some_is w' v k) (noted_below sub.settings.count w.satisfied [] hits (h.below w e));
        formed = λ event ty v d t k.
            let is : sight.ty ≡ ty = sight_type s sub.place event sight ty (ap (λ lib. declared lib sub.place) l ∙ d) f (ap (λ lib. target_type (declared_in lib sub.place.class) event.target) l ∙ t) in
            subst (λ (z : Watch). has_form ty z.last ≡ true) (some_is w' v k)
            (last_form c.when ty w.last x (h.formed event ty w d t e) (subst (λ (u : Ty). has_form u x ≡ true) is (has_seen sight.ty sight.value)));
      }

  one_sound : (s : Stored) (sub : Subscription) → s.library ≡ library → IsSound library instances sub → IsSound library instances (evaluated_in s sub).0
  one_sound s sub l h = sound_by s sub sub.watch (sight_of s sub.place) l h refl refl

  all_sound : (s : Stored) (subs : List Subscription) → s.library ≡ library → AreSound library instances subs → AreSound library instances (map (λ sub. (evaluated_in s sub).0) subs)
  all_sound s [] l h = tt
  all_sound s (sub ∷ subs) l h = (one_sound s sub l h.0, all_sound s subs l h.1)

  pub reports_sound : (s : Stored) (subs new : List Subscription) (notices : List Notice) → s.library ≡ library → reports s subs ≡ (new, notices) → AreSound library instances subs → AreSound library instances new
  reports_sound s subs new notices l e h = subst (AreSound library instances) (ap (λ (r : List Subscription × List Notice). r.0) e) (all_sound s subs l h)

  -- ---- a SET-PROP
  at_counts : (q : EventPlace) (subs : List Subscription) → AreSound library instances subs → 1 ≤ (settings_at q subs).count
  at_counts q [] h = omega arith
  at_counts q (sub ∷ subs) h = by (is_at q sub) (at_counts q subs h.1)
    where
      by : (b : Bool) → 1 ≤ (settings_or_opening (find (is_at q) subs)).count → 1 ≤ (settings_or_opening (cond b (Some sub) (find (is_at q) subs))).count
      by true more = h.0.counts
      by false more = more

-- ---- an event that a spot names is declared, at an instance that there is
any_found : {X : Type 0} (f : X → Bool) (xs : List X) → list_any f xs ≡ true → (x : X) × (find f xs ≡ Some x)
any_found {X = X} f [] e = absurd (let k : false ≡ true = e in cc)
any_found {X = X} f (x ∷ xs) e = by (f x) e (any_found f xs)
  where
    by : (b : Bool) → (b || list_any f xs) ≡ true → (list_any f xs ≡ true → (y : X) × (find f xs ≡ Some y)) → (y : X) × (cond b (Some x) (find f xs) ≡ Some y)
    by true g more = (x, refl)
    by false g more = more g

abbrev called : ℕ → EventDecl → Bool
called id e = e.id == id

named_any : (events : List EventDecl) (id n code : ℕ) (b : Bool) → list_any (called id) events ≡ b → cond {A = Result ℕ ℕ} b (Ok id) (Err code) ≡ Ok n → list_any (called n) events ≡ true
named_any events id n code true e f = ap (λ k. list_any (called k) events) (sym (ok_is id n f)) ∙ e
named_any events id n code false e f = err_not code n f

step_any : (events : List EventDecl) (s : Step) (n : ℕ) → event_named events s ≡ Ok n → list_any (called n) events ≡ true
step_any events (step.Id id) n e = named_any events id n _ (list_any (called id) events) refl e
step_any events (step.Key id bytes) n e = err_not _ n e

behind_any : (events : List EventDecl) (ss : List Step) (n : ℕ) → event_behind events ss ≡ Ok n → list_any (called n) events ≡ true
behind_any events [] n e = err_not _ n e
behind_any events (s ∷ []) n e = step_any events s n e
behind_any events (s ∷ t ∷ ss) n e = err_not _ n e

base_any : (events : List EventDecl) (ss : List Step) (n code : ℕ) (b : Bool) → cond {A = Result ℕ ℕ} b (event_behind events ss) (Err code) ≡ Ok n → list_any (called n) events ≡ true
base_any events ss n code true e = behind_any events ss n e
base_any events ss n code false e = err_not code n e

in_any : (class : Class) (ss : List Step) (n : ℕ) → event_in class ss ≡ Ok n → list_any (called n) class.events ≡ true
in_any class [] n e = err_not _ n e
in_any class (step.Key id bytes ∷ ss) n e = err_not _ n e
in_any class (step.Id id ∷ ss) n e = base_any class.events ss n _ _ e

module _ (classes : List Class) (pairs : List (ℕ × ℕ)) (spot : Spot) where
  abbrev IsNamed : EventPlace → Type 0
  IsNamed q = (has_instance pairs q.class q.instance ≡ true) × ((event : EventDecl) × (declared classes q ≡ Some event))

  named_by : (class : Class) (r : Result ℕ ℕ) (b : Bool) (code : ℕ) (q : EventPlace) → find (λ (c : Class). c.id == spot.class) classes ≡ Some class → event_in class spot.steps ≡ r → has_instance pairs class.id spot.instance ≡ b
      → cond b (r >>= λ event. Ok (place spot.class spot.instance event)) (Err code) ≡ Ok q → IsNamed q
  named_by class r false code q f g h e = err_not code q e
  named_by class (Err k) true code q f g h e = err_not k q e
  named_by class (Ok n) true code q f g h e =
      let same : class.id ≡ spot.class = eqb-true class.id spot.class (found_passes (λ (c : Class). c.id == spot.class) classes class f) in
      let x = any_found (called n) class.events (in_any class spot.steps n g) in
      subst IsNamed (ok_is (place spot.class spot.instance n) q e)
      (ap (λ k. has_instance pairs k spot.instance) (sym same) ∙ h, (x.0, ap (λ (o : Option Class). find (called n) (events_of o)) f ∙ x.1))

  named_in : (o : Option Class) (q : EventPlace) → find (λ (c : Class). c.id == spot.class) classes ≡ o → (or_code unknown_class o >>= event_by pairs spot) ≡ Ok q → IsNamed q
  named_in None q f e = err_not _ q e
  named_in (Some class) q f e = named_by class (event_in class spot.steps) (has_instance pairs class.id spot.instance) _ q f refl refl e

  named_at : (q : EventPlace) → event_at classes pairs spot ≡ Ok q → IsNamed q
  named_at q e = named_in (find (λ (c : Class). c.id == spot.class) classes) q refl e

-- ---- what a SET-PROP registers
first_below : (o : Option Sight) (w : Watch) (n : ℕ) → option_map (λ (sight : Sight). started (seen_of sight.ty sight.value)) o ≡ Some w → 1 ≤ n → w.satisfied < n
first_below None w n e h = absurd (none_some w e)
first_below (Some sight) w n e h = subst (λ (z : Watch). z.satisfied < n) (some_is _ w e) (omega (arith, h))

first_formed : (o : Option Sight) (w : Watch) (ty : Ty) → option_map (λ (sight : Sight). started (seen_of sight.ty sight.value)) o ≡ Some w → ((sight : Sight) → o ≡ Some sight → sight.ty ≡ ty) → has_form ty w.last ≡ true
first_formed None w ty e f = absurd (none_some w e)
first_formed (Some sight) w ty e f = subst (λ (z : Watch). has_form ty z.last ≡ true) (some_is _ w e) (subst (λ (u : Ty). has_form u (seen_of sight.ty sight.value) ≡ true) (f sight refl) (has_seen sight.ty sight.value))

count_after : (r : Result Settings ℕ) (t : Settings) → r ≡ Ok t → Counts r → 1 ≤ t.count
count_after r t e c = subst Counts e c

module _ (library : List Class) (instances : List (ℕ × ℕ)) (st : Stored) (of : st.library ≡ library) (with : st.instances ≡ instances) where
  pub fresh_sound : (spot : Spot) → IsFresh (IsSound library instances) st spot
  fresh_sound spot subs ilvs q t a e f r =
      let named = named_at st.library st.instances spot q e in
      let least : 1 ≤ t.count = count_after (settings_after [] (settings_at q subs) ilvs) t f (all_count ilvs [] (settings_at q subs) (at_counts library instances q subs a)) in
      record {
        registered = r;
        counts = least;
        there = ap (λ is. has_instance is q.class q.instance) (sym with) ∙ named.0;
        is_declared = (named.1.0, ap (λ lib. declared lib q) (sym of) ∙ named.1.1);
        below = λ w k. first_below (sight_of st q) w t.count k least;
        formed = λ event ty w d g k. first_formed (sight_of st q) w ty k (λ sight s.
            sight_type st q event sight ty (ap (λ lib. declared lib q) of ∙ d) s (ap (λ lib. target_type (declared_in lib q.class) event.target) of ∙ g));
      }

  pub all_fresh : (leaves : List Leaf) → AllByRecursion (IsFreshLeaf (IsSound library instances) st) leaves
  all_fresh [] = tt
  all_fresh (l ∷ ls) = (fresh_sound l.spot, all_fresh ls)

-- ---- a Config
before_sound : (library : List Class) (instances : List (ℕ × ℕ)) (was : Stored) (l : Ledger) (m : Message) (selects : List Select) (d : Did) (subs : List Subscription) → was.library ≡ library → was.instances ≡ instances
    → AreSound library instances l.subscriptions → IsBefore was l m selects d subs → AreSound library instances subs
before_sound library instances was l m selects d subs e f h (inl is) = subst (AreSound library instances) (sym is) h
before_sound library instances was l m selects d subs e f h (inr is) =
    subst (AreSound library instances) (sym is.1)
    (props_keep (IsSound library instances) was (mode_of m.flags.em) l.subscriptions selects (all_fresh library instances was e f (leaves_of (operations selects))) h)

pub did_sound : (library : List Class) (instances : List (ℕ × ℕ)) (was settled : Stored) (l : Ledger) (m : Message) (selects : List Select) (d : Did) → was.library ≡ library → was.instances ≡ instances → settled.library ≡ library
    → AreSound library instances l.subscriptions → TellsAt was settled l m selects d → AreSound library instances d.ledger.subscriptions
did_sound library instances was settled l m selects d e f g h t =
    reports_sound library instances settled t.before d.ledger.subscriptions d.notices g t.told (before_sound library instances was l m selects d t.before e f h t.are)

module _ (library : List Class) (instances : List (ℕ × ℕ)) (t : TransactionState) (peer : ℕ) (m : Message) (selects : List Select) (h : AreSound library instances t.ledger.subscriptions) where
  pub verdict_sound : (a : Asked) (v : Verdict) → ((d : Did) → did_by t m selects a v ≡ Some d → AreSound library instances d.ledger.subscriptions) → AreSound library instances (by_verdict t peer m selects a v).state.ledger.subscriptions
  verdict_sound a (Claims e) f = h
  verdict_sound a Unclaimed f = f (unclaimed t m selects) refl
  verdict_sound a Stale f = h
  verdict_sound a Again f = h
  verdict_sound a Gap f = h
  verdict_sound a Next f = f (acts t.id t.epoch t.ledger m selects a) refl
