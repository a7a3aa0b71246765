-- Whatever arrives, an element does what the protocol says, in some circumstance.
use Rattle.std.proofs.Common.{◌≡◌, ℕ, ◌==◌, ◌&&◌, not, Bool, true, false, cond, List, [], ◌∷◌, ◌++◌, map, Option, Some, None, refl, sym, ap, ◌∙◌, subst}
use Rattle.std.specs.FinMap.{contains_key, remove, entries}
use Rattle.fc_assoc.specs.Associations.{AssociationMap, entered, still_heard}
use Rattle.fc_assoc.specs.declared.heard.Heard.{Heard}
use Rattle.fc_modes.specs.declared.mode.Mode.{Mode}
use Rattle.fc_machine.specs.ElementMachine.{Arrived, Step, Out, out, no_fact, by_mode, on_config, on_query, gives, heard_from, with_associations, ended, notices_each, everyone, on_teardown, from_associate, is_ce, moved_on, watched, beats, is_due, on_moment, step}
use Rattle.fc_machine.specs.ElementState.{Element, tx}
use Rattle.fc_machine.specs.Ground.{Ground}
use Rattle.fc_machine.specs.Messages.{Configuring, Asked, Ask_held, Ask_one, Ask_other, Answer, Told, Message, Setup, Beat, Response, Says, Notice, Accepted, Teardown, Beat_down, Query, Configure}
use Rattle.fc_machine.specs.Transactions.{all_get}
use Rattle.fc_machine.specs.Views.{config_body, query_body, view, view_told, views, turns, quiet_by, aside, peers_out, by_fence, refused_aside, of_mode, of_config, of_query, if_associate, of_outs, circumstance_of, Goes}
use Rattle.fc_headline.proofs.Viewed.{Fits, says_each_if, gives_fit, verdict_fits, views_append}
use Rattle.fc_protocol.specs.Codes.{invalid_destination, invalid_flags}
use Rattle.fc_protocol.specs.ElementMachine as protocol
use Rattle.fc_protocol.specs.ElementMachine.{Circumstance, ElementState, only_says, hears, reply, configured, by_body}
use Rattle.fc_protocol.specs.Fence.{judge}
use Rattle.fc_protocol.specs.Messages as said
use Rattle.fc_protocol.specs.Messages.{Stamp, Body, Claim, Sot, Mot, Eot, Trcomp, Abt, Floor, Malformed, Plain, Ask, Ask_record, claim_of, Request, Other_up, sent, Sent}
use Rattle.fc_protocol.specs.WorldSteps.{murmurs}
use Rattle.fc_protocol.proofs.Basics.{cond_false}

-- a Config goes by the fence
config_way : (p : ℕ) (el : ElementState) (k : ℕ) (c : Circumstance) (m : Stamp) (b : Body) → by_body p el k c m (config_body b) ≡ configured p el k c m (config_body b)
config_way p el k c m (Claim w) = refl
config_way p el k c m (Sot x ps sc) = refl
config_way p el k c m (Mot x i) = refl
config_way p el k c m (Eot x) = refl
config_way p el k c m (Trcomp x) = refl
config_way p el k c m (Abt x) = refl
config_way p el k c m (Floor f) = refl
config_way p el k c m Malformed = refl
config_way p el k c m Plain = refl
config_way p el k c m Ask = refl
config_way p el k c m (Ask_record x) = refl

claim_same : (b : Body) → claim_of (config_body b) ≡ claim_of b
claim_same (Claim w) = refl
claim_same (Sot x ps sc) = refl
claim_same (Mot x i) = refl
claim_same (Eot x) = refl
claim_same (Trcomp x) = refl
claim_same (Abt x) = refl
claim_same (Floor f) = refl
claim_same Malformed = refl
claim_same Plain = refl
claim_same Ask = refl
claim_same (Ask_record x) = refl

module _ {Config Op Subs : Type 0} (g : Ground Config Op Subs) where
  -- a step is what the protocol says of this message, in this circumstance
  abbrev pub Way : Circumstance → ℕ → ℕ → ℕ → Element Config Op Subs → said.Message → Step Config Op Subs → Type 0
  Way c p k source el m r = Fits g p k r (turns c p (tx el) source m) c.others

  way_if : (b : Bool) (c d : Circumstance) (p k source : ℕ) (el : Element Config Op Subs) (m : said.Message) (v w : Step Config Op Subs) → Way c p k source el m v → Way d p k source el m w → Way (cond b c d) p k source el m (cond b v w)
  way_if true c d p k source el m v w f h = f
  way_if false c d p k source el m v w f h = h

  -- Configs

  heard_config : (p : ℕ) (el : ElementState) (source : ℕ) (c : Circumstance) (m : Stamp) (b : Body) → c.unheard ≡ false → c.misfit ≡ 0
      → hears p el source c m (config_body b) ≡ protocol.by_verdict p el source c m (config_body b) (judge el.epoch el.master el.sequence source m (claim_of b))
  heard_config p el source c m b u i =
      cond_false c.unheard _ _ u ∙ config_way p el source c m b ∙ ap (λ n. cond (n == 0) (protocol.by_verdict p el source c m (config_body b) (judge el.epoch el.master el.sequence source m (claim_of (config_body b)))) (only_says el (reply c.quiet m n))) i
      ∙ ap (λ o. protocol.by_verdict p el source c m (config_body b) (judge el.epoch el.master el.sequence source m o)) (claim_same b)

  refused_way : (p k source : ℕ) (el : Element Config Op Subs) (m : Configuring Op) (code : ℕ) → (code == 0) ≡ false → Way (refused_aside g el m code) p k source el (Request m.stamp (config_body m.body)) (gives g el k m (all_get g el m code))
  refused_way p k source el m code z =
      let quiet = quiet_by m.ack (all_get g el m code).codes (all_get g el m code).shown in
      let c = refused_aside g el m code in
      let e : hears p (tx el) source c m.stamp (config_body m.body) ≡ only_says (tx el) (reply quiet m.stamp code) = config_way p (tx el) source c m.stamp m.body ∙ cond_false (code == 0) _ _ z in
      subst (λ h. Fits g p k (gives g el k m (all_get g el m code)) h c.others) (sym e) (gives_fit g p k el m (all_get g el m code) code refl refl refl (says_each_if m.bare code m.more))

  mode_way : (p k source : ℕ) (el : Element Config Op Subs) (m : Configuring Op) (o : Option Mode) → Way (of_mode g p el k source m o) p k source el (Request m.stamp (config_body m.body)) (by_mode g p el k source m o)
  mode_way p k source el m None = refused_way p k source el m invalid_flags refl
  mode_way p k source el m (Some mode) =
      let v = judge el.epoch el.master el.sequence source m.stamp (claim_of m.body) in
      let c = by_fence g p (heard_from g el source k) source m mode v in
      subst (λ h. Fits g p k (by_mode g p el k source m (Some mode)) h c.others) (sym (heard_config p (tx el) source c m.stamp m.body refl refl)) (verdict_fits g p k source el m mode v)

  -- nothing at all
  lost : (p k source : ℕ) (el : Element Config Op Subs) (m : Stamp) (b : Body) → Way (aside g true 0 true []) p k source el (Request m b) (no_fact el [])
  lost p k source el m b = record { element = refl; says = refl; facts = refl }

  config_arrives : (p k source : ℕ) (el : Element Config Op Subs) (m : Configuring Op) → Way (of_config g p el k source m) p k source el (Request m.stamp (config_body m.body)) (on_config g p el k source m)
  config_arrives p k source el m =
      way_if m.lost (aside g true 0 true []) _ p k source el (Request m.stamp (config_body m.body)) _ _ (lost p k source el m.stamp (config_body m.body))
      (way_if m.astray (refused_aside g el m invalid_destination) (of_mode g p el k source m m.mode) p k source el (Request m.stamp (config_body m.body)) _ _ (refused_way p k source el m invalid_destination refl) (mode_way p k source el m m.mode))

  -- Queries

  query_way : (p k source : ℕ) (el : Element Config Op Subs) (m : Stamp) (gone astray : Bool) (q : Asked) → Way (of_query g gone astray q) p k source el (Request m (query_body q)) (on_query g el k m gone astray q)
  query_way p k source el m true astray q = lost p k source el m (query_body q)
  query_way p k source el m false true Ask_held = record { element = refl; says = refl; facts = refl }
  query_way p k source el m false true (Ask_one x) = record { element = refl; says = refl; facts = refl }
  query_way p k source el m false true Ask_other = record { element = refl; says = refl; facts = refl }
  query_way p k source el m false false Ask_held = record { element = refl; says = refl; facts = refl }
  query_way p k source el m false false (Ask_one x) = record { element = refl; says = refl; facts = refl }
  query_way p k source el m false false Ask_other = record { element = refl; says = refl; facts = refl }

  -- What is no request

  -- only something else is said
  abbrev pub Murmurs : ℕ → List (Out Op) → Type 0
  Murmurs p os = (others : List ℕ) × (views p os ≡ murmurs p others)

  murmurs_append : (p : ℕ) (xs ys : List ℕ) → murmurs p (xs ++ ys) ≡ murmurs p xs ++ murmurs p ys
  murmurs_append p [] ys = refl
  murmurs_append p (x ∷ xs) ys = ap (λ v. sent p x Other_up ∷ v) (murmurs_append p xs ys)

  murmurs_both : (p : ℕ) (xs ys : List (Out Op)) → Murmurs p xs → Murmurs p ys → Murmurs p (xs ++ ys)
  murmurs_both p xs ys a b = (a.0 ++ b.0, views_append p xs ys ∙ ap (λ v. v ++ views p ys) a.1 ∙ ap (λ v. murmurs p a.0 ++ v) b.1 ∙ sym (murmurs_append p a.0 b.0))

  notices_murmur : (p peer : ℕ) (ns : List ℕ) → Murmurs p (map (λ n. out peer (Notice n)) ns)
  notices_murmur p peer [] = ([], refl)
  notices_murmur p peer (n ∷ ns) = let r = notices_murmur p peer ns in (peer ∷ r.0, ap (λ v. sent p peer Other_up ∷ v) r.1)

  each_murmurs : (p : ℕ) (peers ns : List ℕ) → Murmurs p (notices_each g peers ns)
  each_murmurs p [] ns = ([], refl)
  each_murmurs p (peer ∷ peers) ns = murmurs_both p (map (λ n. out peer (Notice n)) ns) (notices_each g peers ns) (notices_murmur p peer ns) (each_murmurs p peers ns)

  beats_murmur : (p : ℕ) (pairs : List (ℕ × Heard)) → Murmurs p (map (λ pair. out pair.1.peer (Beat false)) pairs)
  beats_murmur p [] = ([], refl)
  beats_murmur p (x ∷ xs) = let r = beats_murmur p xs in (x.1.peer ∷ r.0, ap (λ v. sent p x.1.peer Other_up ∷ v) r.1)

  -- the protocol sees nothing of it
  pub record Aside (p : ℕ) (el : Element Config Op Subs) (r : Step Config Op Subs) : Type 0 where
    pub element : tx r.element ≡ tx el
    pub says : Murmurs p r.outs
    pub facts : r.facts ≡ []

  aside_if : (p : ℕ) (el : Element Config Op Subs) (b : Bool) (v w : Step Config Op Subs) → Aside p el v → Aside p el w → Aside p el (cond b v w)
  aside_if p el true v w f h = f
  aside_if p el false v w f h = h

  ended_same : (b : Bool) (el : Element Config Op Subs) → tx (ended g b el).0 ≡ tx el
  ended_same true el = refl
  ended_same false el = refl

  nothing : (p : ℕ) (el : Element Config Op Subs) → Aside p el (no_fact el [])
  nothing p el = record { element = refl; says = ([], refl); facts = refl }

  teardown_aside : (p : ℕ) (el : Element Config Op Subs) (source : ℕ) → Aside p el (on_teardown g el source)
  teardown_aside p el source =
      let b = source == el.ce && contains_key el.associations source in
      let r = ended g b (with_associations g el (remove el.associations source)) in
      record { element = ended_same b (with_associations g el (remove el.associations source)); says = each_murmurs p (map (λ pair. pair.1.peer) (entries r.0.associations)) r.1; facts = refl }

  beat_if : (p peer : ℕ) (b : Bool) → Murmurs p (cond b (out peer (Beat false) ∷ []) [])
  beat_if p peer true = (peer ∷ [], refl)
  beat_if p peer false = ([], refl)

  beat_aside : (p : ℕ) (el : Element Config Op Subs) (peer source : ℕ) (b : Bool) → Aside p el (from_associate g p el peer source (Beat_down b))
  beat_aside p el peer source b = record { element = refl; says = beat_if p peer b; facts = refl }

  accepted_same : (b : Bool) (el : Element Config Op Subs) (a : AssociationMap) → tx (cond b (with_associations g el a) el) ≡ tx el
  accepted_same true el a = refl
  accepted_same false el a = refl

  watched_same : (b : Bool) (el : Element Config Op Subs) (v : Element Config Op Subs × List ℕ) → tx v.0 ≡ tx el → tx (cond b v (el, [])).0 ≡ tx el
  watched_same true el v e = e
  watched_same false el v e = refl

  pub moment_aside : (p : ℕ) (el : Element Config Op Subs) (moment : ℕ) → Aside p el (on_moment g el moment)
  moment_aside p el moment =
      let now = moved_on g el moment in
      let r = watched g now in
      let s = still_heard now.associations now.clock (g.settings now.settled).ce_dead in
      let left = with_associations g now s in
      let same : tx r.0 ≡ tx el =
      watched_same ((g.settings now.settled).ce_policy == 0) now (ended g (contains_key now.associations now.ce && not (contains_key left.associations now.ce)) left) (ended_same (contains_key now.associations now.ce && not (contains_key left.associations now.ce)) left) in
      let first = each_murmurs p (map (λ pair. pair.1.peer) (entries r.0.associations)) r.1 in
      aside_if p el (is_due g r.0) _ _
      (record { element = same; says = murmurs_both p (everyone g r.0.associations r.1) (beats g r.0.associations) first (beats_murmur p (entries r.0.associations)); facts = refl })
      (record { element = same; says = first; facts = refl })

  -- the protocol does nothing with what is no request
  abbrev pub IsSilent : said.Message → Type 0
  IsSilent m = (c : Circumstance) (p : ℕ) (el : ElementState) (k : ℕ) → turns c p el k m ≡ only_says el None

  peers_murmur : (p : ℕ) (os : List (Out Op)) (others : List ℕ) → views p os ≡ murmurs p others → views p os ≡ murmurs p (peers_out os)
  peers_murmur p [] others e = refl
  peers_murmur p (o ∷ os) [] e = cc
  peers_murmur p (o ∷ os) (k ∷ ks) e =
      let first : sent p o.peer (view o.message) ≡ sent p k Other_up = cc in
      let head : view o.message ≡ Other_up = ap (λ (s : Sent). s.message) first in
      let tail : views p os ≡ murmurs p ks = cc in
      ap (λ m. sent p o.peer m ∷ views p os) head ∙ ap (λ v. sent p o.peer Other_up ∷ v) (peers_murmur p os ks tail)

  aside_way : (p k source : ℕ) (el : Element Config Op Subs) (m : said.Message) (r : Step Config Op Subs) → IsSilent m → Aside p el r → Way (of_outs g r.outs) p k source el m r
  aside_way p k source el m r s a =
      let c = of_outs g r.outs in
      subst (λ h. Fits g p k r h c.others) (sym (s c p (tx el) source)) (record { element = a.element; says = peers_murmur p r.outs a.says.0 a.says.1; facts = ap Rattle.fc_machine.specs.Trace.bare_facts a.facts })

  pub beat_silent : (b : Bool) → IsSilent (cond b said.Beat Other_up)
  beat_silent true c p el k = refl
  beat_silent false c p el k = refl

  pub told_silent : (m : Stamp) (t : Told) → IsSilent (view_told m t)
  told_silent m (Rattle.fc_machine.specs.Messages.Told_held e ns) c p el k = refl
  told_silent m (Rattle.fc_machine.specs.Messages.Told_one x e s) c p el k = refl
  told_silent m (Rattle.fc_machine.specs.Messages.Told_unread e) c p el k = refl
  told_silent m Rattle.fc_machine.specs.Messages.Told_other c p el k = refl

  -- a step that is one of three
  associate_aside : (p k source : ℕ) (el : Element Config Op Subs) (v : Step Config Op Subs) → Aside p el v → Aside p el (cond (is_ce g source) (cond (contains_key el.associations source) v (no_fact el [])) (no_fact el []))
  associate_aside p k source el v f = aside_if p el (is_ce g source) _ _ (aside_if p el (contains_key el.associations source) _ _ f (nothing p el)) (nothing p el)

  associate_way : (c : Circumstance) (p k source : ℕ) (el : Element Config Op Subs) (m : Stamp) (b : Body) (v : Step Config Op Subs) → Way c p k source el (Request m b) v
      → Way (if_associate g el source c) p k source el (Request m b) (cond (is_ce g source) (cond (contains_key el.associations source) v (no_fact el [])) (no_fact el []))
  associate_way c p k source el m b v f =
      way_if (is_ce g source) _ (aside g true 0 true []) p k source el (Request m b) _ _ (way_if (contains_key el.associations source) c (aside g true 0 true []) p k source el (Request m b) _ _ f (lost p k source el m b)) (lost p k source el m b)

  -- whatever arrives
  pub arrives : (p k source : ℕ) (el : Element Config Op Subs) (m : Message Op) → Goes g p el k source m (circumstance_of g p el k source m)
  arrives p k source el m = let f = by_message m in record { element = f.element; says = f.says; facts = f.facts }
    where
      by_message : (x : Message Op) → Way (circumstance_of g p el k source x) p k source el (view x) (step g p el (Arrived k source x))
      by_message Setup = aside_way p k source el said.Setup _ (λ c q e j. refl) (associate_aside p k source el _ (nothing p el))
      by_message (Beat w) = aside_way p k source el (cond w said.Beat Other_up) _ (beat_silent w) (associate_aside p k source el _ (nothing p el))
      by_message (Response a) = aside_way p k source el (view {Op = Op} (Response a)) _ (λ c q e j. refl) (associate_aside p k source el _ (nothing p el))
      by_message (Says s t) = aside_way p k source el (view_told s t) _ (told_silent s t) (associate_aside p k source el _ (nothing p el))
      by_message (Notice n) = aside_way p k source el Other_up _ (λ c q e j. refl) (associate_aside p k source el _ (nothing p el))
      by_message (Accepted r) = aside_way p k source el said.Other_down _ (λ c q e j. refl)
          (aside_if p el (is_ce g source) _ _ (record { element = accepted_same (r == 0) el (entered el.associations source k el.clock); says = ([], refl); facts = refl }) (nothing p el))
      by_message Teardown = aside_way p k source el said.Other_down _ (λ c q e j. refl) (associate_aside p k source el _ (teardown_aside p el source))
      by_message (Beat_down w) = aside_way p k source el said.Other_down _ (λ c q e j. refl) (associate_aside p k source el _ (beat_aside p el k source w))
      by_message (Query s l a q) = associate_way (of_query g l a q) p k source el s (query_body q) _ (query_way p k source (heard_from g el source k) s l a q)
      by_message (Configure c) = associate_way (of_config g p el k source c) p k source el c.stamp (config_body c.body) _ (config_arrives p k source el c)
