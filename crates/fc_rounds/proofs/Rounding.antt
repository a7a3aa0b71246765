-- What is kept beside a clean round, and how each delivery keeps it.
use Rattle.std.proofs.Common.{[], ◌≡◌, ◌≤◌, ℕ, suc, ◌+◌, ◌==◌, true, false, List, ◌∷◌, ◌++◌, append_assoc, append-nil, length, slice_get, Some, None, ⊎_elim, refl, sym, ap, ap₂, ◌∙◌, subst, arith, eqb-true}
use Rattle.std.specs.FinMap.{contains_key}
use Rattle.fc_abiding.specs.Abiding.{IsLike}
use Rattle.fc_agreement.proofs.Round.{Phase, flies, Ground, Going, message_of}
use Rattle.fc_agreement.proofs.RoundElements.{Next}
use Rattle.fc_agreement.proofs.RoundRuns.{Once, by_phase, number_of, notice_arrives}
use Rattle.fc_agreement.proofs.Taking.{Expected, at_count, heard as is_heard, taken as is_taken}
use Rattle.fc_agreement.specs.CleanRound.{Smooth, is_notice as is_bare_notice}
use Rattle.fc_asks.specs.Plans.{changes_of, numbered as numbered_of}
use Rattle.fc_asks.specs.Requests.{request_of}
use Rattle.fc_asks.specs.declared.life.Life.{Life}
use Rattle.fc_base.specs.Ids.{Txn}
use Rattle.fc_element.specs.ElementMachine.{Turn, id_of, is_ce, step}
use Rattle.fc_element.specs.ElementState.{ElementState}
use Rattle.fc_element.specs.declared.input.ElIn.TheVariants as el_in
use Rattle.fc_rounds.proofs.Elements.{same_id}
use Rattle.fc_rounds.proofs.Nodes.{Found}
use Rattle.fc_rounds.proofs.Pairs.{pairs_more}
use Rattle.fc_rounds.proofs.Steps.{it, life, master_is, ruled, sender_is}
use Rattle.fc_rounds.specs.Following.{AsksConfig, AsksSo, GoesDownAs, GoesUpAs, IsElement, IsLife, IsRequest, IsSent}
use Rattle.fc_rounds.specs.Networks.{ce_of}
use Rattle.fc_jobs.specs.Plans.{changes_in, scopes_in}
use Rattle.fc_jobs.specs.Sending.{spelled}
use Rattle.fc_master.specs.Steps.{said as said_by}
use Rattle.fc_master.specs.declared.input.CeIn.TheVariants as ce_in
use Rattle.fc_msg.specs.declared.message.Message.{Message}
use Rattle.fc_numbering.proofs.Keeping.{hear_speaks}
use Rattle.fc_plans.specs.declared.plan.Part.{Part}
use Rattle.fc_protocol.proofs.Basics.{both}
use Rattle.fc_protocol.specs.Collections.{among}
use Rattle.fc_protocol.specs.ElementMachine.{Circumstance, Heard, by_body, configured as is_configured, hears, next_with}
use Rattle.fc_protocol.specs.ElementMachine as protocol
use Rattle.fc_protocol.specs.MasterMachine.{Master, finish, heard, next_txn}
use Rattle.fc_protocol.specs.Messages as said
use Rattle.fc_protocol.specs.Messages.{Body, Sent, Stamp, claim_of, correlator, is_query, sent}
use Rattle.fc_protocol.specs.Scopes.{Scope}
use Rattle.fc_protocol.specs.WorldSteps.{World, delivered, happens, murmurs, numbered, sender, spoken, to_master}
use Rattle.fc_protocol.specs.WorldSteps as network
use Rattle.fc_store.specs.Stores.{Pairwise}
use Rattle.fc_wellformed.specs.WellFormed.{KeepsChanges}
use Rattle.fc_world.specs.Lookups.{element_in, parcel_in, ruling_in, with_element}
use Rattle.fc_world.specs.Settings.{IsNetwork}
use Rattle.fc_world.specs.Worlds.{Ruling, WorldState, downward, upward}
use Rattle.fc_world.specs.WorldSteps.{calls, delivers, granted, taken_by, with_turn}
use Rattle.fc_world.specs.WorldSteps as world
use Rattle.fc_world.specs.declared.nodes.Node.{Node}
use Rattle.fc_world.specs.declared.sent.Parcel.{Parcel}
use Rattle.fc_world.specs.declared.sent.Parcel.TheVariants.{Upward, Downward}
use Rattle.fc_world.specs.declared.setting.Setting.{Setting}
use Rattle.fc_rounds.proofs.Delivering.{Seen, stepped}
use Rattle.fc_rounds.proofs.Lists.{Head, cancel, head_of, length_one, none_paired, pair_here, pairs_as, pairs_drop, regroup, there}
use Rattle.fc_rounds.proofs.Taking.{Has, IsTaken}
use Rattle.fc_rounds.proofs.Turning.{associated_still, answers_first, transactions_are}
use Rattle.fc_rounds.proofs.Parting.{change_ops}
use Rattle.fc_rounds.proofs.Serving.{Serving}
use Rattle.fc_transactions.specs.State.{TransactionState}
use Rattle.fc_blocks.specs.Opening.{opened_store}
use Rattle.fc_rounds.proofs.Walking.{IsNoticeAs, Says, all_says, element_here, element_there, hears_up, like_at, notice_is, response_says}

body_config : (p : ℕ) (el : protocol.ElementState) (j : ℕ) (c : Circumstance) (st : Stamp) (b : Body) → is_query b ≡ false → by_body p el j c st b ≡ is_configured p el j c st b
body_config p el j c st (said.Claim w) q = refl
body_config p el j c st (said.Sot x ps sc) q = refl
body_config p el j c st (said.Mot x i) q = refl
body_config p el j c st (said.Eot x) q = refl
body_config p el j c st (said.Trcomp x) q = refl
body_config p el j c st (said.Abt x) q = refl
body_config p el j c st (said.Floor f) q = refl
body_config p el j c st said.Malformed q = refl
body_config p el j c st said.Plain q = refl
body_config p el j c st said.Ask q = absurd cc
body_config p el j c st (said.Ask_record x) q = absurd cc

module _ (s : Setting) (is : IsNetwork s) (start : Seen s) (k : ℕ) (m : Master) (ps : List ℕ) (parts : List Part) (L : Life) (keeps : KeepsChanges L) (plan : numbered_of L.plans (next_txn m).number ≡ Some parts) (ce : ℕ) (of_ce : ce_of s k ≡ ce) (control : is_ce ce ≡ true)
    (few : length ps ≤ 64) (small : (p : ℕ) → length (scopes_in parts p) ≤ 4096) (places : ℕ → ℕ) (ground : Ground start.a k m ps (changes_in parts) (scopes_in parts)) (one : Once ps) where
  abbrev changes : ℕ → ℕ
  changes = changes_in parts

  abbrev scopes : ℕ → Scope
  scopes = scopes_in parts

  abbrev x : Txn
  x = next_txn m

  abbrev last : ℕ → ℕ
  last p = (m.at p).last

  abbrev Goes : World → List Sent → List Sent → (ℕ → Phase) → Type 0
  Goes = Going start.a k m ps changes scopes

  abbrev pub seen : Seen s → World
  seen v = v.a

  -- the message of this number is delivered
  abbrev pub next : Seen s → ℕ → Seen s
  next v i = record {
    w = delivers (places i) (parcel_in i v.w.sent) v.w;
    fs = world.facts_of (parcel_in i v.w.sent) v.w ++ v.fs;
    a = (stepped s is v (places i) i).becomes;
    follows = (stepped s is v (places i) i).follows;
  }

  abbrev pub HasAt : ℕ → ElementState → Type 0
  HasAt p e = Has s k p x parts (scopes p) (last p) L keeps plan ce e

  -- a participant is there, and in the round
  pub record At (w : WorldState) (p : ℕ) : Type 0 where
    pub e : ElementState
    pub there : element_in p w.nodes ≡ Some e
    pub has : HasAt p e

  pub record Kept (v : Seen s) (before after : List Sent) : Type 0 where
    pub ruling : Ruling
    pub rules : ruling_in k v.w.controllers ≡ Some ruling
    pub life : ruling.life ≡ L
    pub earlier : List Parcel
    pub queue : List Parcel
    pub split : v.w.sent ≡ earlier ++ queue
    pub long : length earlier ≡ length before
    pub says : Pairwise (Says k L) queue after
    pub news : List Parcel
    pub tails : List Sent
    pub news_are : v.w.sent ≡ start.w.sent ++ news
    pub tails_are : v.a.sent ≡ start.a.sent ++ tails
    pub notices : Pairwise IsNoticeAs news tails
    pub at : (p : ℕ) → among p ps ≡ true → At v.w p

  -- the first message has gone, and more has come
  module _ (v u : Seen s) (before : List Sent) (s0 : Sent) (rest after : List Sent) (z : Kept v before (s0 ∷ rest)) where
    abbrev head : Head (Says k L) z.queue s0 rest
    head = head_of (Says k L) z.queue s0 rest z.says

    pub kept_on : (new : List Parcel) (newts : List Sent) → u.w.sent ≡ v.w.sent ++ new → u.a.sent ≡ v.a.sent ++ newts → v.a.sent ≡ before ++ s0 ∷ rest → u.a.sent ≡ (before ++ s0 ∷ []) ++ after → Pairwise (Says k L) new newts
        → (ruling : Ruling) → ruling_in k u.w.controllers ≡ Some ruling → ruling.life ≡ L → ((p : ℕ) → among p ps ≡ true → At u.w p) → Kept u (before ++ s0 ∷ []) after
    kept_on new newts w_sent a_sent was now pairs ruling rules life at =
        let after_is : after ≡ rest ++ newts = cancel (before ++ s0 ∷ []) after (rest ++ newts) (sym now ∙ a_sent ∙ ap (λ ts. ts ++ newts) was ∙ regroup before s0 rest newts) in record {
          ruling = ruling;
          rules = rules;
          life = life;
          earlier = z.earlier ++ head.first ∷ [];
          queue = head.others ++ new;
          split = w_sent ∙ ap (λ qs. qs ++ new) (z.split ∙ ap (λ qs. z.earlier ++ qs) head.whole) ∙ regroup z.earlier head.first head.others new;
          long = length_one z.earlier head.first ∙ ap (λ n. n + 1) z.long ∙ sym (length_one before s0);
          says = subst (Pairwise (Says k L) (head.others ++ new)) (sym after_is) (pairs_more (Says k L) head.others new rest newts head.behind pairs);
          news = z.news ++ new;
          tails = z.tails ++ newts;
          news_are = w_sent ∙ ap (λ qs. qs ++ new) z.news_are ∙ append_assoc start.w.sent z.news new;
          tails_are = a_sent ∙ ap (λ ts. ts ++ newts) z.tails_are ∙ append_assoc start.a.sent z.tails newts;
          notices = pairs_more IsNoticeAs z.news new z.tails newts z.notices (pairs_as (Says k L) IsNoticeAs (λ q t h. h.0) new newts pairs);
          at = at;
        }

  -- where there is no message of this number, nothing changes
  pub kept_still : (v u : Seen s) (before after : List Sent) → u.w ≡ v.w → u.a ≡ v.a → Kept v before after → Kept u before after
  kept_still v u before after w_is a_is z = record {
    ruling = z.ruling;
    rules = ap (λ (q : WorldState). ruling_in k q.controllers) w_is ∙ z.rules;
    life = z.life;
    earlier = z.earlier;
    queue = z.queue;
    split = ap (λ (q : WorldState). q.sent) w_is ∙ z.split;
    long = z.long;
    says = z.says;
    news = z.news;
    tails = z.tails;
    news_are = ap (λ (q : WorldState). q.sent) w_is ∙ z.news_are;
    tails_are = ap (λ (q : World). q.sent) a_is ∙ z.tails_are;
    notices = z.notices;
    at = λ p a. let was = z.at p a in record { e = was.e; there = ap (λ (q : WorldState). element_in p q.nodes) w_is ∙ was.there; has = was.has };
  }

  number_at : (qs : List Parcel) (n i : ℕ) → i ≡ n + 1 → parcel_in i qs ≡ slice_get qs n
  number_at qs n i e = let f : i ≡ suc n = omega arith in subst (λ j. parcel_in j qs ≡ slice_get qs n) (sym f) refl

  sent_at : (ts : List Sent) (n i : ℕ) → i ≡ n + 1 → numbered ts i ≡ slice_get ts n
  sent_at ts n i e = let f : i ≡ suc n = omega arith in subst (λ j. numbered ts j ≡ slice_get ts n) (sym f) refl

  -- the message of this number, and that which is delivered in the network of the protocol
  module _ (v : Seen s) (before : List Sent) (s0 : Sent) (rest : List Sent) (ph : ℕ → Phase) (i : ℕ) (y : Goes v.a before (s0 ∷ rest) ph) (z : Kept v before (s0 ∷ rest)) (e : i ≡ length before + 1) where
    abbrev u : Seen s
    u = next v i

    abbrev first : Parcel
    first = (head_of (Says k L) z.queue s0 rest z.says).first

    numbers : numbered v.a.sent i ≡ Some s0
    numbers = number_of start.a k m ps changes scopes v.a before s0 rest ph i y e

    slice_first : slice_get v.w.sent (length before) ≡ Some first
    slice_first =
        let h = head_of (Says k L) z.queue s0 rest z.says in
        ap (λ qs. slice_get qs (length before)) (z.split ∙ ap (λ qs. z.earlier ++ qs) h.whole) ∙ there z.earlier h.first h.others (length before) z.long

    parcel_is : parcel_in i v.w.sent ≡ Some first
    parcel_is = number_at v.w.sent (length before) i e ∙ slice_first

    first_sent : IsSent s first s0
    first_sent = pair_here (IsSent s) (length before) v.w.sent v.a.sent first s0 v.follows.sent slice_first (sym (sent_at v.a.sent (length before) i e) ∙ numbers)

    first_says : Says k L first s0
    first_says = (head_of (Says k L) z.queue s0 rest z.says).here

    world_is : (q : Parcel) → first ≡ q → u.w ≡ delivers (places i) (Some q) v.w
    world_is q same = ap (λ o. delivers (places i) o v.w) (parcel_is ∙ ap (λ p. Some p) same)

    -- ---- a notice
    abbrev Passed : Type 0
    Passed = (u.a ≡ v.a) × Kept u (before ++ s0 ∷ []) rest

    pub passed : is_bare_notice s0.message ≡ true → Passed
    passed notice = by first refl
      where
        by : (q : Parcel) → first ≡ q → Passed
        by (Downward j f d) same =
            let goes : IsSent s (Downward j f d) s0 = subst (λ q. IsSent s q s0) same first_sent in
            absurd (subst (GoesDownAs s j f d) (notice_is s0.message notice) goes.2)
        by (Upward f j d) same =
            let (c, thus, smooth) = (stepped s is v (places i) i).thus (Upward f j d) (parcel_is ∙ ap (λ p. Some p) same) tt in
            let still : u.a ≡ v.a = thus ∙ notice_arrives v.a c i s0 y.calm numbers notice in
            let w_is = world_is (Upward f j d) same in
            let h = hears_up k (places i) j f d v.w z.ruling z.rules in
            let w_sent : u.w.sent ≡ v.w.sent ++ h.new = ap (λ (q : WorldState). q.sent) w_is ∙ h.sent in
            let a_sent : u.a.sent ≡ v.a.sent ++ [] = ap (λ (q : World). q.sent) still ∙ sym (append-nil v.a.sent) in
            let none : h.new ≡ [] =
            none_paired (IsSent s) h.new
            (pairs_drop (IsSent s) v.w.sent h.new v.a.sent [] v.follows.sent (subst (λ ts. Pairwise (IsSent s) (v.w.sent ++ h.new) ts) a_sent (subst (λ qs. Pairwise (IsSent s) qs u.a.sent) w_sent u.follows.sent))) in
            let nodes : u.w.nodes ≡ v.w.nodes = ap (λ (q : WorldState). q.nodes) w_is ∙ h.nodes in (
              still,
              kept_on v u before s0 rest rest z [] [] (w_sent ∙ ap (λ qs. v.w.sent ++ qs) none) a_sent y.sent (ap (λ (q : World). q.sent) still ∙ y.sent ∙ sym (append_assoc before (s0 ∷ []) rest)) tt
                  h.ruling (ap (λ (q : WorldState). ruling_in k q.controllers) w_is ∙ h.rules) (h.life ∙ z.life)
                  (λ p a. let was = z.at p a in record { e = was.e; there = ap (element_in p) nodes ∙ was.there; has = was.has }),
            )

    -- ---- a message of a participant
    abbrev Result : Type 0
    Result = (n : Next start.a k m ps changes scopes u.a (before ++ s0 ∷ []) s0 ph) × Kept u (before ++ s0 ∷ []) n.after

    module _ (p : ℕ) (a : among p ps ≡ true) (h : Phase) (eh : ph p ≡ h) (fl : flies h ≡ true) (se : s0 ≡ sent p k (message_of start.a k m ps changes scopes p h)) where
      -- in a smooth circumstance it is a step of the round
      going_on : (c : Circumstance) → Smooth c → u.a ≡ happens v.a (network.Deliver i c) → Next start.a k m ps changes scopes u.a (before ++ s0 ∷ []) s0 ph
      going_on c smooth thus =
          subst (λ b. Next start.a k m ps changes scopes b (before ++ s0 ∷ []) s0 ph) (sym thus)
          (by_phase start.a k m ps changes scopes v.a before s0 rest ph i c (record { ground = ground; going = y; smooth = smooth; number = numbers }) p a h eh fl se)

      -- ---- a response reaches its control element
      pub replied : (st : Stamp) → message_of start.a k m ps changes scopes p h ≡ said.Reply st 0 → Result
      replied st msg = by first refl
        where
          is_reply : s0 ≡ sent p k (said.Reply st 0)
          is_reply = se ∙ ap (sent p k) msg

          by : (q : Parcel) → first ≡ q → Result
          by (Downward j f d) same =
              let goes : IsSent s (Downward j f d) s0 = subst (λ q. IsSent s q s0) same first_sent in
              absurd (subst (GoesDownAs s j f d) (ap (λ (t : Sent). t.message) is_reply) goes.2)
          by (Upward f j d) same =
              let goes : IsSent s (Upward f j d) s0 = subst (λ q. IsSent s q s0) same first_sent in
              let f_is : f ≡ p = sym goes.0 ∙ ap (λ (t : Sent). t.element) is_reply in
              let j_is : j ≡ k = sym goes.1 ∙ ap (λ (t : Sent). t.controller) is_reply in
              let q_is : first ≡ Upward p k d = same ∙ ap₂ (λ (f' j' : ℕ). Upward f' j' d) f_is j_is in
              let up : GoesUpAs d (said.Reply st 0) = subst (GoesUpAs d) (ap (λ (t : Sent). t.message) is_reply) goes.2 in
              let (c, thus, smooth) = (stepped s is v (places i) i).thus (Upward p k d) (parcel_is ∙ ap (λ q. Some q) q_is) tt in
              let now = going_on c (smooth tt) thus in
              let (old, stood, runs) = ruled s is v.w v.fs v.a v.follows k z.ruling z.rules in
              let core : v.a.masters k ≡ Some z.ruling.core = master_is s is v.w v.fs v.a v.follows k old stood z.ruling runs in
              let lives : IsLife old.ce z.ruling = life s is v.w v.fs v.a v.follows k old stood z.ruling runs in
              let newts = (finish k (heard z.ruling.core p (said.Reply st 0))).says in
              let a_sent : u.a.sent ≡ v.a.sent ++ newts =
              ap (λ (q : World). q.sent)
              (thus ∙ ap (network.delivers v.a c) numbers ∙ ap (λ t. network.delivers v.a c (Some t)) is_reply ∙ ap (to_master v.a p k (said.Reply st 0)) core) ∙ ap (λ ts. ts ++ newts) (append-nil v.a.sent) in
              let w_is = world_is (Upward p k d) q_is in
              let hu = hears_up k (places i) k p d v.w z.ruling z.rules in
              let w_sent : u.w.sent ≡ v.w.sent ++ downward k (said_by z.ruling.life k z.ruling.core (ce_in.Arrived p d)) =
              ap (λ (q : WorldState). q.sent) (w_is ∙ ap (λ o. calls (places i) k (λ r. granted (world.hears k p d r)) o v.w) z.rules) in
              let outs_are : said_by z.ruling.life k z.ruling.core (ce_in.Arrived p d) ≡ spelled L newts =
              ap₂ (λ xs ys. xs ++ ys) (up.0.calm up.0.wish z.ruling.life z.ruling.core p)
              (ap₂ (λ (l : Life) (n : Master). spelled l (finish k n).says) z.life (up.0.core z.ruling.core p)) in
              let pairs : Pairwise (Says k L) (downward k (said_by z.ruling.life k z.ruling.core (ce_in.Arrived p d))) newts =
              subst (λ os. Pairwise (Says k L) (downward k os) newts) (sym outs_are) (all_says k L newts (hear_speaks k z.ruling.core p (said.Reply st 0) up.2 lives.numbers).says) in
              let nodes : u.w.nodes ≡ v.w.nodes = ap (λ (q : WorldState). q.nodes) w_is ∙ hu.nodes in (
                now,
                kept_on v u before s0 rest now.after z (downward k (said_by z.ruling.life k z.ruling.core (ce_in.Arrived p d))) newts w_sent a_sent y.sent now.going.sent pairs
                    hu.ruling (ap (λ (q : WorldState). ruling_in k q.controllers) w_is ∙ hu.rules) (hu.life ∙ z.life)
                    (λ o b. let was = z.at o b in record { e = was.e; there = ap (element_in o) nodes ∙ was.there; has = was.has }),
              )

      -- ---- a request reaches its element
      abbrev here : At v.w p
      here = z.at p a

      abbrev like : IsLike here.e.transactions (v.a.at p)
      like = like_at s is v p here.e here.there

      pub its_epoch : here.e.transactions.epoch ≡ m.epoch
      its_epoch = like.epoch ∙ (y.stand p a).epoch

      sender_here : sender v.a k ≡ ce
      sender_here = sender_is s is v.w v.fs v.a v.follows k ∙ of_ce

      pub its_master : here.e.transactions.master ≡ ce
      its_master = like.master ∙ (y.stand p a).master ∙ sym y.network ∙ sender_here

      module _ (n : ℕ) (b : Body) (msg : message_of start.a k m ps changes scopes p h ≡ said.Request (at_count m.epoch n) b) (count : n ≡ here.e.transactions.sequence + 1) (config : is_query b ≡ false) (plain : claim_of b ≡ None) where
        abbrev st : Stamp
        st = at_count m.epoch n

        is_request : s0 ≡ sent p k (said.Request st b)
        is_request = se ∙ ap (sent p k) msg

        abbrev Taken : (d : Message) → IsRequest s k p d st b → Type 0
        Taken d request = IsTaken s k p x parts (scopes p) (last p) L keeps plan ce control of_ce here.e here.has d m.epoch n b request ground.epoch its_epoch its_master count

        to_config : (d : Message) → IsRequest s k p d st b → AsksConfig d st b
        to_config d request = subst (λ q. AsksSo q d st b) config request.asks

        says_is : (c : Circumstance) → Smooth c → (code : ℕ) × ((hears p (v.a.at p) (sender v.a k) c st b).says ≡ Some (said.Reply (at_count (v.a.at p).epoch n) code))
        says_is c smooth =
            let el = v.a.at p in
            let expected : Expected el (sender v.a k) n c = record {
              smooth = smooth;
              claimed = ap (λ q. q == 0) (y.stand p a).epoch ∙ ground.epoch;
              sender = y.network ∙ sym (y.stand p a).master;
              count = count ∙ ap (λ q. q + 1) like.sequence;
            } in
            let acts = protocol.acts p el.epoch c b el.floor el.records in
            let thus : hears p el (sender v.a k) c (at_count el.epoch n) b ≡ next_with el false (at_count el.epoch n) acts =
            is_heard p el (sender v.a k) n c expected b ∙ body_config p el (sender v.a k) c (at_count el.epoch n) b config ∙ is_taken p el (sender v.a k) n c expected b plain in (
              acts.code,
              ap (λ q. (hears p el (sender v.a k) c (at_count q n) b).says) (sym (y.stand p a).epoch) ∙ ap (λ (q : Heard). q.says) thus,
            )

        pub requested : ((d : Message) (request : IsRequest s k p d st b) → AsksConfig d st b → d ≡ request_of L p (correlator st) b → Taken d request) → Result
        requested take = by first refl
          where
            by : (q : Parcel) → first ≡ q → Result
            by (Upward f j d) same =
                let goes : IsSent s (Upward f j d) s0 = subst (λ q. IsSent s q s0) same first_sent in
                let up : GoesUpAs d (said.Request st b) = subst (GoesUpAs d) (ap (λ (t : Sent). t.message) is_request) goes.2 in
                absurd up.1
            by (Downward j f d) same =
                let goes : IsSent s (Downward j f d) s0 = subst (λ q. IsSent s q s0) same first_sent in
                let f_is : f ≡ p = sym goes.0 ∙ ap (λ (t : Sent). t.element) is_request in
                let j_is : j ≡ k = sym goes.1 ∙ ap (λ (t : Sent). t.controller) is_request in
                let q_is : first ≡ Downward k p d = same ∙ ap₂ (λ (j' f' : ℕ). Downward j' f' d) j_is f_is in
                let sends : IsSent s (Downward k p d) s0 = subst (λ q. IsSent s q s0) q_is first_sent in
                let asked : s0.message ≡ said.Request st b = ap (λ (t : Sent). t.message) is_request in
                let request : IsRequest s k p d st b = subst (GoesDownAs s k p d) asked sends.2 in
                let says : Says k L (Downward k p d) s0 = subst (λ q. Says k L q s0) q_is first_says in
                let asks = to_config d request in
                let taken = take d request asks (says.1 st b asked) in
                let step_at = (stepped s is v (places i) i).thus (Downward k p d) (parcel_is ∙ ap (λ q. Some q) q_is) (here.e, here.there) in
                let c = step_at.0 in
                let thus = step_at.1 in
                let smooth : Smooth c = step_at.2 (record { element = here.e; selects = taken.selects; there = here.there; well = taken.well; stamp = st; body = b; sent = s0; numbers = numbers; asks = asked; config = config }) in
                let now = going_on c smooth thus in
                let turn : Turn = step here.e (el_in.Arrived k d) in
                let found : Found (λ (o : Node). IsElement s v.fs (v.a.at o.id) o) p here.e = it s is v.w v.fs v.a v.follows p here.e here.there in
                let id : id_of here.e ≡ p = ap id_of (sym found.element) ∙ same_id s is.own v.fs (v.a.at found.node.id) found.node found.holds ∙ found.id in
                let own : d.dest ≡ id_of here.e = request.dest ∙ sym id in
                let w_is : u.w ≡ with_turn p turn v.w = world_is (Downward k p d) q_is ∙ ap (λ o. taken_by o p (el_in.Arrived k d) v.w) here.there in
                let w_sent : u.w.sent ≡ v.w.sent ++ upward p turn.outs = ap (λ (q : WorldState). q.sent) w_is in
                let told = says_is c smooth in
                let newts : List Sent = sent p k (said.Reply (at_count (v.a.at p).epoch n) told.0) ∷ murmurs p c.others in
                let a_sent : u.a.sent ≡ v.a.sent ++ newts =
                ap (λ (q : World). q.sent) (thus ∙ ap (network.delivers v.a c) numbers ∙ ap (λ t. network.delivers v.a c (Some t)) is_request)
                ∙ ap (λ o. (v.a.sent ++ spoken p k o) ++ murmurs p c.others) told.1 ∙ append_assoc v.a.sent (sent p k (said.Reply (at_count (v.a.at p).epoch n) told.0) ∷ []) (murmurs p c.others) in
                let bare : Pairwise (IsSent s) (upward p turn.outs) newts =
                pairs_drop (IsSent s) v.w.sent (upward p turn.outs) v.a.sent newts v.follows.sent (subst (λ ts. Pairwise (IsSent s) (v.w.sent ++ upward p turn.outs) ts) a_sent (subst (λ qs. Pairwise (IsSent s) qs u.a.sent) w_sent u.follows.sent)) in
                let pairs : Pairwise (Says k L) (upward p turn.outs) newts =
                response_says k L p k turn.outs (at_count (v.a.at p).epoch n) told.0 c.others (IsSent s) (answers_first here.e k d taken.selects taken.well own asks.mode taken.next) bare in
                let nodes : u.w.nodes ≡ with_element p turn.state v.w.nodes = ap (λ (q : WorldState). q.nodes) w_is in
                let mine : At u.w p = record {
                  e = turn.state;
                  there = ap (element_in p) nodes ∙ element_here p here.e turn.state v.w.nodes here.there;
                  has = record {
                    associated = ap (contains_key turn.state.associations) (sym (request.source ∙ of_ce)) ∙ associated_still here.e k d taken.selects taken.well own asks.mode;
                    first_ce = here.has.first_ce;
                    c = here.has.c;
                    clean = here.has.clean;
                    inside = here.has.inside;
                    serving = subst (λ (t : TransactionState). Serving p here.has.first_ce (opened_store s.library s.instances) x (scopes p) (change_ops (changes_of p parts)) here.has.c (last p) t)
                        (sym (transactions_are here.e k d taken.selects taken.well own asks.mode)) taken.serving;
                  };
                } in
                let at_all : (o : ℕ) → among o ps ≡ true → At u.w o = λ o q.
                ⊎_elim (λ t. subst (At u.w) (sym (eqb-true o p t)) mine)
                (λ t. let was = z.at o q in record { e = was.e; there = ap (element_in o) nodes ∙ element_there p o turn.state v.w.nodes t ∙ was.there; has = was.has }) (both (o == p)) in (
                  now,
                  kept_on v u before s0 rest now.after z (upward p turn.outs) newts w_sent a_sent y.sent now.going.sent pairs
                      z.ruling (ap (λ (q : WorldState). ruling_in k q.controllers) w_is ∙ z.rules) z.life at_all,
                )
