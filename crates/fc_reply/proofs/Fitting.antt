-- A response with codes has as many bytes as that of results alone.
use Rattle.std.proofs.Common.{◌≡◌, ℕ, zero, suc, if◌then◌else◌, ◌+◌, ◌/◌, ◌*◌, ◌&&◌, Bool, true, false, nat_lt, List, [], ◌∷◌, ◌++◌, length, map, Option, Some, None, refl, sym, ap, ◌∙◌, subst, arith, rules, length-append}
use Rattle.std.specs.List.{AllByRecursion, flat_map}
use Rattle.fc_wire.specs.Bytes.{u16_bytes, u32_bytes}
use Rattle.fc_path.specs.Canon.{Written, plain, after, joined, wrapped, result_written, key_written, key_flags, body_written, path_written, oper_written, select_written}
use Rattle.fc_path.specs.Kinds.{number_of}
use Rattle.fc_path.specs.Results.{path_results, body_results, oper_results, select_with, select_results, results_fit, response_kind}
use Rattle.fc_path.specs.declared.oper.Oper.{Oper}
use Rattle.fc_path.specs.declared.oper.Oper.TheVariants as oper
use Rattle.fc_path.specs.declared.oper.Select.{Select}
use Rattle.fc_path.specs.declared.path.Key.{Key}
use Rattle.fc_path.specs.declared.path.PathData.{PathData, roll-PathData}
use Rattle.fc_path.specs.declared.path.Body.{Body, roll-Body, map-Body}
use Rattle.fc_path.specs.declared.path.Body.TheOpen.{Body-F, PathData-F}
use Rattle.fc_path.specs.declared.path.Body.TheFolds.{ind-Body}
use Rattle.fc_path.specs.declared.path.Body.TheVariants as v
use Rattle.fc_path.proofs.Closing.{path_is, nested_is}
use Rattle.fc_path.proofs.Sizes.{tlv_size}
use Rattle.fc_path.proofs.InGrammar.{outcome_is}
use Rattle.fc_msg.specs.Messages.{message_fits}
use Rattle.fc_msg.specs.declared.message.Message.{Message}
use Rattle.fc_ops.specs.Filling.{Filled, next_of, each_filled, path_filled, body_filled, paths_filled, oper_filled}
use Rattle.fc_ops.specs.declared.offers.Content.{Content}
use Rattle.fc_ops.specs.declared.offers.Content.TheVariants as content
use Rattle.fc_reply.specs.Answered.{results, code_in, oper_answered, opers_answered, each_answered, answered_selects}
use Rattle.fc_reply.specs.Replies.{reply, response, with_selects, is_wanted}
use Rattle.fc_reply.proofs.Filled.{leaf_filled, nothing_filled, full_filled, sparse_filled, outcome_filled, nested_filled, path_filled_is, nothing_result, full_result, sparse_result, outcome_result, nested_result, path_results_is}

-- ---- results
abbrev pub IsResult : Content → Type 0
IsResult (content.Full value) = ⊥
IsResult (content.Sparse ilvs) = ⊥
IsResult (content.Refused code) = Unit {0}

abbrev pub AreResults : List Content → Type 0
AreResults cs = AllByRecursion IsResult cs

pub codes_are_results : (codes : List ℕ) → AreResults (results codes)
codes_are_results [] = tt
codes_are_results (c ∷ cs) = (tt, codes_are_results cs)

pub next_is_result : (cs : List Content) → AreResults cs → IsResult (next_of cs).0 × AreResults (next_of cs).1
next_is_result [] h = (tt, tt)
next_is_result (c ∷ cs) h = h

-- ---- as many bytes, and the same lengths fit
pub record Alike (w x : Written) : Type 0 where
  pub size : length w.text ≡ length x.text
  pub fits : w.fits ≡ x.fits

itself : (w : Written) → Alike w w
itself w = record { size = refl; fits = refl }

alike_by : (w x y z : Written) → w ≡ y → x ≡ z → Alike y z → Alike w x
alike_by w x y z e f h = subst (λ u. Alike u x) (sym e) (subst (Alike y) (sym f) h)

after_alike : (a b x y : Written) → Alike a x → Alike b y → Alike (after a b) (after x y)
after_alike a b x y h k = record {
  size = length-append a.text b.text ∙ ap (λ n. n + length b.text) h.size ∙ ap (λ n. length x.text + n) k.size ∙ sym (length-append x.text y.text);
  fits = ap (λ f. f && b.fits) h.fits ∙ ap (λ f. x.fits && f) k.fits;
}

wrapped_alike : (kind other : ℕ) (w x : Written) → Alike w x → Alike (wrapped kind w) (wrapped other x)
wrapped_alike kind other w x h = record {
  size = tlv_size kind w.text ∙ ap (λ n. 4 + (n + 3) / 4 * 4) h.size ∙ sym (tlv_size other x.text);
  fits = ap (λ n. nat_lt n 65532 && w.fits) h.size ∙ ap (λ f. nat_lt (length x.text) 65532 && f) h.fits;
}

-- a result, whatever its code
result_alike : (c d : ℕ) → Alike (result_written c) (result_written d)
result_alike c d = wrapped_alike 276 276 (plain (c ∷ 0 ∷ 0 ∷ 0 ∷ [])) (plain (d ∷ 0 ∷ 0 ∷ 0 ∷ [])) (record { size = refl; fits = refl })

-- a PATH-DATA by its body
abbrev spelled : List ℕ → Option Key → Written → Written
spelled ids key w = record {
  text = u16_bytes (key_flags key) ++ u16_bytes (length ids) ++ flat_map u32_bytes ids ++ ((key_written key).text ++ w.text);
  fits = nat_lt (length ids) 65536 && ((key_written key).fits && w.fits);
}

spelled_alike : (ids : List ℕ) (key : Option Key) (w x : Written) → Alike w x → Alike (spelled ids key w) (spelled ids key x)
spelled_alike ids key w x h =
    let front = u16_bytes (key_flags key) ++ u16_bytes (length ids) ++ flat_map u32_bytes ids in
    let k = (key_written key).text in
    record {
      size = length-append front (k ++ w.text) ∙ ap (λ n. length front + n) (length-append k w.text ∙ ap (λ n. length k + n) h.size ∙ sym (length-append k x.text)) ∙ sym (length-append front (k ++ x.text));
      fits = ap (λ f. nat_lt (length ids) 65536 && ((key_written key).fits && f)) h.fits;
    }

path_alike : (ids : List ℕ) (key : Option Key) (b c : Body) → Alike (body_written b) (body_written c)
    → Alike (path_written (roll-PathData (record { ids = ids; key = key; body = b }))) (path_written (roll-PathData (record { ids = ids; key = key; body = c })))
path_alike ids key b c h =
    alike_by _ _ _ _ (path_is (roll-PathData (record { ids = ids; key = key; body = b }))) (path_is (roll-PathData (record { ids = ids; key = key; body = c })))
    (wrapped_alike 272 272 (spelled ids key (body_written b)) (spelled ids key (body_written c)) (spelled_alike ids key (body_written b) (body_written c) h))

-- ---- what is filled with results is alike, and leaves results
pub record Filled_alike {A : Type 0} (f : A → Written) (x : A) (filled : A × List Content) : Type 0 where
  pub alike : Alike (f filled.0) (f x)
  pub left : AreResults filled.1

abbrev pub BodyAlike : Body → Type 0
BodyAlike b = (cs : List Content) → AreResults cs → Filled_alike body_written (body_results b) (body_filled b cs)

abbrev pub PathAlike : PathData → Type 0
PathAlike p = (cs : List Content) → AreResults cs → Filled_alike path_written (path_results p) (path_filled p cs)

next_alike : (cs : List Content) → AreResults cs → Filled_alike body_written (v.Outcome 0) (leaf_filled cs)
next_alike [] h = record { alike = itself _; left = tt }
next_alike (content.Full value ∷ cs) h = absurd h.0
next_alike (content.Sparse ilvs ∷ cs) h = absurd h.0
next_alike (content.Refused code ∷ cs) h = record { alike = alike_by _ _ _ _ (outcome_is code) (outcome_is 0) (result_alike code 0); left = h.1 }

leaf_alike : (b : Body) → body_filled b ≡ leaf_filled → body_results b ≡ v.Outcome 0 → BodyAlike b
leaf_alike b e f cs h =
    subst (λ (g : Filled Body). Filled_alike body_written (body_results b) (g cs)) (sym e)
    (subst (λ r. Filled_alike body_written r (leaf_filled cs)) (sym f) (next_alike cs h))

-- each one of several
abbrev Pathed : Type 0
Pathed = (p : PathData) × PathAlike p

each_alike : (ps : List Pathed) (cs : List Content) → AreResults cs
    → Filled_alike (λ (xs : List PathData). joined (map path_written xs)) (map path_results (map (λ e. e.0) ps)) (each_filled (map path_filled (map (λ e. e.0) ps)) cs)
each_alike [] cs h = record { alike = itself (plain []); left = h }
each_alike (p ∷ ps) cs h =
    let first = p.1 cs h in
    let more = each_alike ps (path_filled p.0 cs).1 first.left in
    record { alike = after_alike _ _ _ _ first.alike more.alike; left = more.left }

nested_alike : (ps : List Pathed) → BodyAlike (v.Nested (map (λ e. e.0) ps))
nested_alike ps cs h =
    let all = map {A = Pathed} (λ e. e.0) ps in
    let inner = each_alike ps cs h in
    subst (λ (g : Filled Body). Filled_alike body_written (body_results (v.Nested all)) (g cs)) (sym (nested_filled all))
    (subst (λ r. Filled_alike body_written r (v.Nested (each_filled (map path_filled all) cs).0, (each_filled (map path_filled all) cs).1)) (sym (nested_result all))
    (record { alike = alike_by _ _ _ _ (nested_is (each_filled (map path_filled all) cs).0) (nested_is (map path_results all)) inner.alike; left = inner.left }))

abbrev Bodied : Type 0
Bodied = (b : Body) × BodyAlike b

layer_alike : (y : Body-F Bodied Pathed) → BodyAlike (roll-Body (map-Body Bodied Pathed Body PathData (λ e. e.0) (λ e. e.0) y))
layer_alike Body-F.Nothing = subst BodyAlike (sym v.rolls-Nothing) (leaf_alike v.Nothing nothing_filled nothing_result)
layer_alike (Body-F.Full value) = subst BodyAlike (sym (v.rolls-Full value)) (leaf_alike (v.Full value) (full_filled value) (full_result value))
layer_alike (Body-F.Sparse ilvs) = subst BodyAlike (sym (v.rolls-Sparse ilvs)) (leaf_alike (v.Sparse ilvs) (sparse_filled ilvs) (sparse_result ilvs))
layer_alike (Body-F.Outcome code) = subst BodyAlike (sym (v.rolls-Outcome code)) (leaf_alike (v.Outcome code) (outcome_filled code) (outcome_result code))
layer_alike (Body-F.Nested ps) = subst BodyAlike (sym (v.rolls-Nested (map (λ e. e.0) ps))) (nested_alike ps)

by_body : (p : PathData) → BodyAlike p.body → PathAlike p
by_body p h cs r =
    let inner = h cs r in
    subst (λ (g : Filled PathData). Filled_alike path_written (path_results p) (g cs)) (sym (path_filled_is p))
    (subst (λ q. Filled_alike path_written q (roll-PathData (record { ids = p.ids; key = p.key; body = (body_filled p.body cs).0 }), (body_filled p.body cs).1)) (sym (path_results_is p))
    (record { alike = path_alike p.ids p.key (body_filled p.body cs).0 (body_results p.body) inner.alike; left = inner.left }))

bodies_alike : (b : Body) → BodyAlike b
bodies_alike = ind-Body BodyAlike PathAlike
    (λ x y is. subst (λ l. BodyAlike (roll-Body l)) is (layer_alike y))
    (λ x y is. by_body (roll-PathData x) (subst BodyAlike (ap (λ (z : PathData-F Body PathData). z.body) is) y.body.1))

paths_alike : (ps : List PathData) (cs : List Content) → AreResults cs
    → Filled_alike (λ (xs : List PathData). joined (map path_written xs)) (map path_results ps) (paths_filled ps cs)
paths_alike [] cs h = record { alike = itself (plain []); left = h }
paths_alike (p ∷ ps) cs h =
    let first = by_body p (bodies_alike p.body) cs h in
    let more = paths_alike ps (path_filled p cs).1 first.left in
    record { alike = after_alike _ _ _ _ first.alike more.alike; left = more.left }

-- ---- as many parts, and alike in all
pub record Matched {A : Type 0} (f : A → Written) (xs ys : List A) : Type 0 where
  pub count : length xs ≡ length ys
  pub alike : Alike (joined (map f xs)) (joined (map f ys))

joined_two : {A : Type 0} (f : A → Written) (xs ys : List A) → Alike (joined (map f (xs ++ ys))) (after (joined (map f xs)) (joined (map f ys)))
joined_two f [] ys = itself _
joined_two f (x ∷ xs) ys =
    let h = joined_two f xs ys in
    let a = (f x).text in
    let b = (joined (map f xs)).text in
    let c = (joined (map f ys)).text in
    record {
      size = length-append a (joined (map f (xs ++ ys))).text ∙ ap (λ n. length a + n) (h.size ∙ length-append b c) ∙ plus_assoc (length a) (length b) (length c) ∙ ap (λ n. n + length c) (sym (length-append a b)) ∙ sym (length-append (a ++ b) c);
      fits = ap (λ t. (f x).fits && t) h.fits ∙ and_assoc (f x).fits (joined (map f xs)).fits (joined (map f ys)).fits;
    }
  where
    plus_assoc : (k m n : ℕ) → k + (m + n) ≡ (k + m) + n
    plus_assoc k m n = omega arith

    and_assoc : (a b c : Bool) → (a && (b && c)) ≡ ((a && b) && c)
    and_assoc true b c = refl
    and_assoc false b c = refl

both_sides : (v w x y : Written) → Alike v w → Alike w x → Alike y x → Alike v y
both_sides v w x y h k m = record { size = h.size ∙ k.size ∙ sym m.size; fits = h.fits ∙ k.fits ∙ sym m.fits }

two_matched : {A : Type 0} (f : A → Written) (ps qs xs ys : List A) → Matched f ps xs → Matched f qs ys → Matched f (ps ++ qs) (xs ++ ys)
two_matched f ps qs xs ys h k = record {
  count = length-append ps qs ∙ ap (λ n. n + length qs) h.count ∙ ap (λ n. length xs + n) k.count ∙ sym (length-append xs ys);
  alike = both_sides _ _ _ _ (joined_two f ps qs) (after_alike _ _ _ _ h.alike k.alike) (joined_two f xs ys);
}

alone : (w x : Written) → Alike w x → Alike (after w (plain [])) (after x (plain []))
alone w x h = after_alike w (plain []) x (plain []) h (itself (plain []))

-- operations and selects that answer others, and the results that they leave
pub record Answers {A : Type 0} (f : A → Written) (ys : List A) (answered : List A × List Content) : Type 0 where
  pub matched : Matched f answered.0 ys
  pub left : AreResults answered.1

pub oper_answers : (o : Oper) (cs : List Content) → AreResults cs → Answers oper_written (oper_results o) (oper_answered o cs)
oper_answers (oper.Paths kind ps) cs h =
    let inner = paths_alike ps cs h in
    record { matched = record { count = refl; alike = alone _ _ (wrapped_alike (number_of (response_kind kind)) (number_of (response_kind kind)) _ _ inner.alike) }; left = inner.left }
oper_answers oper.Commit cs h =
    record { matched = record { count = refl; alike = alone _ _ (wrapped_alike 13 13 (result_written (code_in (next_of cs).0)) (result_written 0) (result_alike (code_in (next_of cs).0) 0)) }; left = (next_is_result cs h).1 }
oper_answers oper.Trcomp cs h = record { matched = record { count = refl; alike = itself (plain []) }; left = (next_is_result cs h).1 }
oper_answers (oper.CommitResponse code) cs h = record { matched = record { count = refl; alike = itself (plain []) }; left = h }

pub opers_answer : (os : List Oper) (cs : List Content) → AreResults cs → Answers oper_written (flat_map oper_results os) (opers_answered os cs)
opers_answer [] cs h = record { matched = record { count = refl; alike = itself (plain []) }; left = h }
opers_answer (o ∷ os) cs h =
    let first = oper_answers o cs h in
    let more = opers_answer os (oper_answered o cs).1 first.left in
    record { matched = two_matched oper_written _ _ _ _ first.matched more.matched; left = more.left }

select_alike : (s : Select) (ps xs : List Oper) → Matched oper_written ps xs → Matched select_written (select_with s ps) (select_with s xs)
select_alike s [] [] h = record { count = refl; alike = itself (plain []) }
select_alike s [] (x ∷ xs) h = let e : zero ≡ suc (length xs) = h.count in cc
select_alike s (a ∷ more) [] h = let e : suc (length more) ≡ zero = h.count in cc
select_alike s (a ∷ more) (x ∷ xs) h = record {
  count = refl;
  alike = alone _ _ (wrapped_alike 4096 4096 _ _ (after_alike _ _ _ _ (itself (plain (u32_bytes s.class ++ u32_bytes s.instance))) h.alike));
}

each_answers : (ss : List Select) (cs : List Content) → AreResults cs → Answers select_written (flat_map select_results ss) (each_answered ss cs)
each_answers [] cs h = record { matched = record { count = refl; alike = itself (plain []) }; left = h }
each_answers (s ∷ ss) cs h =
    let first = opers_answer s.opers cs h in
    let more = each_answers ss (opers_answered s.opers cs).1 first.left in
    record { matched = two_matched select_written _ _ _ _ (select_alike s _ _ first.matched) more.matched; left = more.left }

-- ---- so it fits where the other does
fits_alike : (w x : Written) → Alike w x → (nat_lt (length w.text) 262117 && w.fits) ≡ (nat_lt (length x.text) 262117 && x.fits)
fits_alike w x h = ap (λ n. nat_lt n 262117 && w.fits) h.size ∙ ap (λ f. nat_lt (length x.text) 262117 && f) h.fits

-- selects with results fit a message where the results alone do
pub answered_fit : (selects : List Select) (codes : List ℕ) → results_fit selects ≡ true
    → (nat_lt (length (joined (map select_written (answered_selects selects codes))).text) 262117 && (joined (map select_written (answered_selects selects codes))).fits) ≡ true
answered_fit selects codes f =
    let all = each_answers selects (results codes) (codes_are_results codes) in fits_alike _ _ all.matched.alike ∙ f

same_some : (m n : Message) → Some m ≡ Some n → m ≡ n
same_some m n e = cc

response_fits : (m : Message) (ss : List Select) → message_fits (response m ss) ≡ (nat_lt (length (joined (map select_written ss)).text) 262117 && (joined (map select_written ss)).fits)
unfolding message_fits
response_fits m ss = refl

sent_if : (b : Bool) (m r : Message) (ss : List Select) → (if b then Some (response m ss) else None) ≡ Some r → r ≡ response m ss
sent_if true m r ss e = sym (same_some _ _ e)
sent_if false m r ss e = cc

-- what is sent is the response, which has a select
pub sent_is : (m r : Message) (codes : List ℕ) (ss : List Select) → with_selects m codes ss ≡ Some r → r ≡ response m ss
sent_is m r codes [] e = cc
sent_is m r codes (s ∷ ss) e = sent_if (is_wanted m.flags.ack codes) m r (s ∷ ss) e

pub reply_fits : (m r : Message) (selects : List Select) (codes : List ℕ) → results_fit selects ≡ true → reply m selects codes ≡ Some r → message_fits r ≡ true
reply_fits m r selects codes f e =
    ap message_fits (sent_is m r codes (answered_selects selects codes) e) ∙ response_fits m (answered_selects selects codes) ∙ answered_fit selects codes f
