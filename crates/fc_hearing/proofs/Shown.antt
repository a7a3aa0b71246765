-- A response to a Config that control elements send shows a code, whatever the codes of its operations are.
use Rattle.std.proofs.Common.{◌≡◌, ◌≢◌, ◌<◌, ℕ, zero, suc, ◌||◌, Bool, true, false, if◌then◌else◌, List, [], ◌∷◌, ◌++◌, length, map, Option, Some, None, refl, sym, ap, ◌∙◌, subst, rules, arith}
use Rattle.std.proofs.lemmas.Grind.{flat_map-append}
use Rattle.std.specs.List.{AllByRecursion, flat_map, list_any}
use Rattle.fc_asks.specs.Codes.{body_codes, oper_codes, path_codes, select_codes}
use Rattle.fc_msg.specs.MessageTypes as types
use Rattle.fc_msg.specs.declared.message.Message.{Message}
use Rattle.fc_ops.specs.Filling.{body_filled, path_filled, paths_filled}
use Rattle.fc_ops.specs.declared.offers.Content.{Content}
use Rattle.fc_ops.specs.declared.offers.Content.TheVariants as content
use Rattle.fc_path.specs.Proper.{ProperBody, ProperOper, ProperPath, ProperSelect}
use Rattle.fc_path.specs.Results.{select_with}
use Rattle.fc_path.specs.declared.oper.Oper.{Oper}
use Rattle.fc_path.specs.declared.oper.Oper.TheVariants as oper
use Rattle.fc_path.specs.declared.oper.OperKind.{OperKind}
use Rattle.fc_path.specs.declared.oper.Select.{Select}
use Rattle.fc_path.specs.declared.path.Key.{Key}
use Rattle.fc_path.specs.declared.path.PathData.{PathData, roll-PathData}
use Rattle.fc_path.specs.declared.path.Body.{Body, out-Body, roll-Body, the_lemmas}
use Rattle.fc_path.specs.declared.path.Body.TheOpen.{Body-F}
use Rattle.fc_path.specs.declared.path.Body.TheVariants as v
use Rattle.fc_path.specs.declared.path.Body.TheViews.{roll-out-Body}
use Rattle.fc_reply.proofs.Filled.{full_filled, leaf_filled, nested_filled, nothing_filled, outcome_filled, path_filled_is, sparse_filled}
use Rattle.fc_reply.specs.Answered.{answered_selects, each_answered, oper_answered, opers_answered, results}
use Rattle.fc_reply.specs.Replies.{is_wanted, reply, response, with_selects}
use Rattle.fc_hearing.specs.Hearing.{IsAnswerable, ShowsCode, is_shown}

-- ---- lists that are not empty

front_some : (xs ys : List ℕ) → xs ≢ [] → xs ++ ys ≢ []
front_some [] ys h e = h refl
front_some (x ∷ xs) ys h e = cc e

back_some : (xs ys : List ℕ) → ys ≢ [] → xs ++ ys ≢ []
back_some [] ys h e = h e
back_some (x ∷ xs) ys h e = cc e

one_some : (x : ℕ) (xs : List ℕ) → x ∷ xs ≢ []
one_some x xs e = cc e

-- ---- what fills a response are results

abbrev IsResult : Content → Type 0
IsResult c = (code : ℕ) × (c ≡ content.Refused code)

abbrev AreResults : List Content → Type 0
AreResults cs = AllByRecursion IsResult cs

all_results : (codes : List ℕ) → AreResults (results codes)
all_results [] = tt
all_results (code ∷ codes) = ((code, refl), all_results codes)

-- what was filled shows a code, and the contents that are left are results
abbrev Shows : List ℕ → List Content → Type 0
Shows codes left = (codes ≢ []) × AreResults left

path_codes_is : (ids : List ℕ) (key : Option Key) (b : Body) → path_codes (roll-PathData (record { ids = ids; key = key; body = b })) ≡ body_codes b
path_codes_is ids key b = search (rules, the_lemmas)

outcome_codes : (code : ℕ) → body_codes (v.Outcome code) ≡ code ∷ []
outcome_codes code = search (rules, the_lemmas)

nested_codes : (ps : List PathData) → body_codes (v.Nested ps) ≡ flat_map (λ (cs : List ℕ). cs) (map path_codes ps)
nested_codes ps = search (rules, the_lemmas)

joined_codes : (ps : List PathData) → flat_map (λ (cs : List ℕ). cs) (map path_codes ps) ≡ flat_map path_codes ps
joined_codes [] = refl
joined_codes (p ∷ ps) = ap (λ cs. path_codes p ++ cs) (joined_codes ps)

-- ---- a body, and a PATH-DATA

leaf_shows : (cs : List Content) → AreResults cs → Shows (body_codes (leaf_filled cs).0) (leaf_filled cs).1
leaf_shows [] r = (subst (λ (xs : List ℕ). xs ≢ []) (sym (outcome_codes 0)) (one_some 0 []), tt)
leaf_shows (c ∷ cs) r =
    let (code, is) = r.0 in (
      subst (λ (d : Content). body_codes (leaf_filled (d ∷ cs)).0 ≢ []) (sym is) (subst (λ (xs : List ℕ). xs ≢ []) (sym (outcome_codes code)) (one_some code [])),
      r.1,
    )

abbrev BodyShows : Body → Type 0
BodyShows b = (cs : List Content) → AreResults cs → Shows (body_codes (body_filled b cs).0) (body_filled b cs).1

abbrev PathShows : PathData → Type 0
PathShows p = (cs : List Content) → AreResults cs → Shows (path_codes (path_filled p cs).0) (path_filled p cs).1

filled_by_leaf : (b : Body) → body_filled b ≡ leaf_filled → BodyShows b
filled_by_leaf b is cs r = subst (λ (f : List Content → Body × List Content). Shows (body_codes (f cs).0) (f cs).1) (sym is) (leaf_shows cs r)

-- PATH-DATA, one after the other
abbrev AllShow : List PathData → Type 0
AllShow ps = AllByRecursion PathShows ps

left_results : (ps : List PathData) → AllShow ps → (cs : List Content) → AreResults cs → AreResults (paths_filled ps cs).1
left_results [] each cs r = r
left_results (p ∷ ps) each cs r = left_results ps each.1 (path_filled p cs).1 (each.0 cs r).1

paths_show : (ps : List PathData) → 0 < length ps → AllShow ps → (cs : List Content) → AreResults cs → Shows (flat_map path_codes (paths_filled ps cs).0) (paths_filled ps cs).1
paths_show [] some each cs r = absurd (omega (arith, some))
paths_show (p ∷ ps) some each cs r = (
  front_some (path_codes (path_filled p cs).0) (flat_map path_codes (paths_filled ps (path_filled p cs).1).0) (each.0 cs r).0,
  left_results (p ∷ ps) each cs r,
)

nested_shows : (ps : List PathData) → 0 < length ps → AllShow ps → BodyShows (v.Nested ps)
nested_shows ps some each cs r =
    let both = paths_show ps some each cs r in
    subst (λ (f : List Content → Body × List Content). Shows (body_codes (f cs).0) (f cs).1) (sym (nested_filled ps))
    (subst (λ (xs : List ℕ). xs ≢ []) (sym (nested_codes (paths_filled ps cs).0 ∙ joined_codes (paths_filled ps cs).0)) both.0, both.1)

all_proper : (P : PathData → Type 0) → ((p : PathData) → P p → PathShows p) → (ps : List PathData) → AllByRecursion P ps → AllShow ps
all_proper P each [] h = tt
all_proper P each (p ∷ ps) h = (each p h.0, all_proper P each ps h.1)

layer_shows : (kind : OperKind) (P : PathData → Type 0) → ((p : PathData) → P p → PathShows p) → (y : Body-F Body PathData) → ProperBody kind P y → BodyShows (roll-Body y)
layer_shows kind P each Body-F.Nothing h = subst BodyShows (sym v.rolls-Nothing) (filled_by_leaf v.Nothing nothing_filled)
layer_shows kind P each (Body-F.Full x) h = subst BodyShows (sym (v.rolls-Full x)) (filled_by_leaf (v.Full x) (full_filled x))
layer_shows kind P each (Body-F.Sparse ilvs) h = subst BodyShows (sym (v.rolls-Sparse ilvs)) (filled_by_leaf (v.Sparse ilvs) (sparse_filled ilvs))
layer_shows kind P each (Body-F.Outcome code) h = subst BodyShows (sym (v.rolls-Outcome code)) (filled_by_leaf (v.Outcome code) (outcome_filled code))
layer_shows kind P each (Body-F.Nested ps) h = subst BodyShows (sym (v.rolls-Nested ps)) (nested_shows ps h.0 (all_proper P each ps h.1))

path_by_body : (p : PathData) → BodyShows p.body → PathShows p
path_by_body p inner cs r =
    subst (λ (f : List Content → PathData × List Content). Shows (path_codes (f cs).0) (f cs).1) (sym (path_filled_is p))
    (subst (λ (xs : List ℕ). xs ≢ []) (sym (path_codes_is p.ids p.key (body_filled p.body cs).0)) (inner cs r).0, (inner cs r).1)

path_shows : (kind : OperKind) (depth : ℕ) (p : PathData) → ProperPath kind depth p → PathShows p
path_shows kind zero p h = absurd h
path_shows kind (suc depth) p h = path_by_body p (subst BodyShows (roll-out-Body p.body) (layer_shows kind (ProperPath kind depth) (path_shows kind depth) (out-Body p.body) h))

-- ---- operations

oper_left : (o : Oper) → ProperOper types.config o → (cs : List Content) → AreResults cs → AreResults (oper_answered o cs).1
oper_left (oper.Paths kind paths) h cs r = left_results paths (all_proper (ProperPath kind 16) (path_shows kind 16) paths h.2) cs r
oper_left oper.Commit h [] r = tt
oper_left oper.Commit h (c ∷ cs) r = r.1
oper_left oper.Trcomp h [] r = tt
oper_left oper.Trcomp h (c ∷ cs) r = r.1
oper_left (oper.CommitResponse code) h cs r = r

oper_shows : (o : Oper) → ProperOper types.config o → is_shown o ≡ true → (cs : List Content) → AreResults cs → flat_map oper_codes (oper_answered o cs).0 ≢ []
oper_shows (oper.Paths kind paths) h shown cs r =
    front_some (flat_map path_codes (paths_filled paths cs).0) [] (paths_show paths h.1 (all_proper (ProperPath kind 16) (path_shows kind 16) paths h.2) cs r).0
oper_shows oper.Commit h shown cs r = one_some _ []
oper_shows oper.Trcomp h shown cs r = absurd (cc shown)
oper_shows (oper.CommitResponse code) h shown cs r = absurd (cc shown)

abbrev AreProper : List Oper → Type 0
AreProper os = AllByRecursion (ProperOper types.config) os

opers_left : (os : List Oper) → AreProper os → (cs : List Content) → AreResults cs → AreResults (opers_answered os cs).1
opers_left [] h cs r = r
opers_left (o ∷ os) h cs r = opers_left os h.1 (oper_answered o cs).1 (oper_left o h.0 cs r)

opers_by : (o : Oper) (os : List Oper) (b : Bool) → is_shown o ≡ b → (b || list_any is_shown os) ≡ true → ProperOper types.config o → (cs : List Content) → AreResults cs
    → (list_any is_shown os ≡ true → flat_map oper_codes (opers_answered os (oper_answered o cs).1).0 ≢ []) → flat_map oper_codes (opers_answered (o ∷ os) cs).0 ≢ []
opers_by o os true is any h cs r later =
    subst (λ (xs : List ℕ). xs ≢ []) (sym (flat_map-append oper_codes (oper_answered o cs).0 (opers_answered os (oper_answered o cs).1).0))
    (front_some (flat_map oper_codes (oper_answered o cs).0) (flat_map oper_codes (opers_answered os (oper_answered o cs).1).0) (oper_shows o h is cs r))
opers_by o os false is any h cs r later =
    subst (λ (xs : List ℕ). xs ≢ []) (sym (flat_map-append oper_codes (oper_answered o cs).0 (opers_answered os (oper_answered o cs).1).0))
    (back_some (flat_map oper_codes (oper_answered o cs).0) (flat_map oper_codes (opers_answered os (oper_answered o cs).1).0) (later any))

opers_show : (os : List Oper) → AreProper os → list_any is_shown os ≡ true → (cs : List Content) → AreResults cs → flat_map oper_codes (opers_answered os cs).0 ≢ []
opers_show [] h any cs r = absurd (cc any)
opers_show (o ∷ os) h any cs r = opers_by o os (is_shown o) refl any h.0 cs r (λ more. opers_show os h.1 more (oper_answered o cs).1 (oper_left o h.0 cs r))

-- ---- selects

with_codes : (s : Select) (os : List Oper) → flat_map oper_codes os ≢ [] → flat_map select_codes (select_with s os) ≢ []
with_codes s [] some = absurd (some refl)
with_codes s (o ∷ os) some = front_some (flat_map oper_codes (o ∷ os)) [] some

abbrev shows_in : Select → Bool
shows_in s = list_any is_shown s.opers

selects_by : (s : Select) (ss : List Select) (b : Bool) → shows_in s ≡ b → (b || list_any shows_in ss) ≡ true → AreProper s.opers → (cs : List Content) → AreResults cs
    → (list_any shows_in ss ≡ true → flat_map select_codes (each_answered ss (opers_answered s.opers cs).1).0 ≢ []) → flat_map select_codes (each_answered (s ∷ ss) cs).0 ≢ []
selects_by s ss true is any h cs r later =
    let here = opers_answered s.opers cs in
    subst (λ (xs : List ℕ). xs ≢ []) (sym (flat_map-append select_codes (select_with s here.0) (each_answered ss here.1).0))
    (front_some (flat_map select_codes (select_with s here.0)) (flat_map select_codes (each_answered ss here.1).0) (with_codes s here.0 (opers_show s.opers h is cs r)))
selects_by s ss false is any h cs r later =
    let here = opers_answered s.opers cs in
    subst (λ (xs : List ℕ). xs ≢ []) (sym (flat_map-append select_codes (select_with s here.0) (each_answered ss here.1).0))
    (back_some (flat_map select_codes (select_with s here.0)) (flat_map select_codes (each_answered ss here.1).0) (later any))

selects_show : (ss : List Select) → AllByRecursion (ProperSelect types.config) ss → list_any shows_in ss ≡ true → (cs : List Content) → AreResults cs → flat_map select_codes (each_answered ss cs).0 ≢ []
selects_show [] h any cs r = absurd (cc any)
selects_show (s ∷ ss) h any cs r = selects_by s ss (shows_in s) refl any h.0.2 cs r (λ more. selects_show ss h.1 more (opers_answered s.opers cs).1 (opers_left s.opers h.0.2 cs r))

-- ---- the response

-- a response, if there is one, shows a code
abbrev pub IsShowing : Option Message → Type 0
IsShowing None = Unit {0}
IsShowing (Some r) = ShowsCode r

wanted_shows : (m : Message) (ss : List Select) (wanted : Bool) → flat_map select_codes ss ≢ [] → IsShowing (if wanted then Some (response m ss) else None)
wanted_shows m ss true some = (ss, refl, some)
wanted_shows m ss false some = tt

with_shows : (m : Message) (codes : List ℕ) (ss : List Select) → flat_map select_codes ss ≢ [] → IsShowing (with_selects m codes ss)
with_shows m codes [] some = tt
with_shows m codes (s ∷ ss) some = wanted_shows m (s ∷ ss) (is_wanted m.flags.ack codes) some

pub reply_shows : (m : Message) (selects : List Select) (codes : List ℕ) → IsAnswerable selects → IsShowing (reply m selects codes)
reply_shows m selects codes is = with_shows m codes (answered_selects selects codes) (selects_show selects is.proper.1 is.shown (results codes) (all_results codes))

pub response_shows : (m : Message) (selects : List Select) (codes : List ℕ) (r : Message) → IsAnswerable selects → reply m selects codes ≡ Some r → ShowsCode r
response_shows m selects codes r is e = subst IsShowing e (reply_shows m selects codes is)
