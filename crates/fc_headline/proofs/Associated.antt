-- Associations are few, and of control elements.
use Rattle.std.proofs.Common.{◌≡◌, ℕ, ◌+◌, ◌-◌, ◌<◌, ◌≤◌, ◌||◌, not, nat_lt, Bool, true, false, cond, T, is_some, List, [], ◌∷◌, length, Option, Some, None, refl, sym, ap, ◌∙◌, subst, arith}
use Rattle.std.proofs.lemmas.Bool.Decides.{nat_tests}
use Rattle.std.specs.Cmp.{nat_cmp_total}
use Rattle.std.specs.FinMap as finmap
use Rattle.std.specs.FinMap.{is_sorted, contains_key, get, len, entries, entries_sorted, from_sorted, entries-from_sorted, same_map, nat_cmp-IsAntisymmetric, get-entries, get-empty, get-from_sorted, get-insert, get-remove, get-retain_keys, len-empty, len-entries, len-insert, len-remove}
use Rattle.std.specs.FinMap.Entries.{find-where_key, is_sorted-where_key}
use Rattle.std.specs.List.{filter}
use Rattle.std.specs.Ordering.{nat_cmp, eq_by_cmp}
use Rattle.std.specs.declared.cmp.Ordering.TheVariants.{Equal}
use Rattle.fc_assoc.specs.Associations.{AssociationMap, takes_in, entered, renewed, is_silent, still_heard, heard_at}
use Rattle.fc_assoc.specs.declared.heard.Heard.{Heard}
use Rattle.fc_headline.specs.OneElement.{Associates}
use Rattle.fc_machine.specs.ElementMachine.{is_ce}
use Rattle.fc_machine.specs.Ground.{Ground}

same_key : (q k : ℕ) → eq_by_cmp nat_cmp q k ≡ true → q ≡ k
same_key q k e = grind (arith, nat_tests)

alike : (p : ℕ → Bool) (q x : ℕ) → nat_cmp q x ≡ Equal → p x ≡ p q
alike p q x e = ap p (sym (nat_cmp-IsAntisymmetric q x e))

filter_short : (p : ℕ × Heard → Bool) (es : List (ℕ × Heard)) → length (filter p es) ≤ length es
filter_short p [] = omega arith
filter_short p (e ∷ es) = elim (p e) as (λ b. length (cond b (e ∷ filter p es) (filter p es)) ≤ length (e ∷ es)) [ true ↦ omega (arith, filter_short p es) | false ↦ omega (arith, filter_short p es) ]

abbrev map_of : List (ℕ × Heard) → AssociationMap
map_of es = from_sorted es

-- without some keys there are no more
retained_short : (a : AssociationMap) (p : ℕ → Bool) → len (finmap.retain_keys a p) ≤ len a
retained_short a p =
    let fs : List (ℕ × Heard) = filter (λ e. p e.0) (entries a) in
    let t : T (is_sorted nat_cmp fs) = is_sorted-where_key nat_cmp p (entries a) (entries_sorted a) in
    let same : finmap.retain_keys a p ≡ map_of fs =
    same_map nat_cmp_total nat_cmp-IsAntisymmetric (finmap.retain_keys a p) (map_of fs) (λ q.
    get-retain_keys a p q (alike p q) ∙ ap (λ (o : Option Heard). cond (p q) o None) (get-entries a q) ∙ sym (find-where_key nat_cmp p q (alike p q) (entries a)) ∙ sym (get-from_sorted nat_cmp fs q t)) in
    let now : len (finmap.retain_keys a p) ≡ length fs = ap (λ (m : AssociationMap). len m) same ∙ len-entries (map_of fs) ∙ ap (λ (es : List (ℕ × Heard)). length es) (entries-from_sorted nat_cmp fs t) in
    let before : len a ≡ length (entries a) = len-entries a in
    let short : length fs ≤ length (entries a) = filter_short (λ e. p e.0) (entries a) in
    omega arith

was_there : (b : Bool) (o : Option Heard) → is_some (cond b o None) ≡ true → is_some o ≡ true
was_there true o e = e
was_there false o e = cc

was_other : (b : Bool) (o : Option Heard) → is_some (cond b None o) ≡ true → is_some o ≡ true
was_other true o e = cc
was_other false o e = e

less_one : (b : Bool) (n : ℕ) → n ≤ 64 → cond b (n - 1) n ≤ 64
less_one true n l = omega arith
less_one false n l = l

room : (b : Bool) (n : ℕ) → (b || nat_lt n 64) ≡ true → n ≤ 64 → cond b n (n + 1) ≤ 64
room true n e l = l
room false n e l =
    let k : nat_lt n 64 ≡ true = e in
    let below : n < 64 = grind arith in
    omega arith

or_known : (b c : Bool) → b ≡ true → (b || c) ≡ true
or_known true c e = refl
or_known false c e = cc

module _ {Config Op Subs : Type 0} (g : Ground Config Op Subs) where
  pub none_associated : Associates g finmap.empty
  none_associated = (subst (λ n. n ≤ 64) (sym (len-empty nat_cmp Heard)) (omega arith), λ k e. none k (sym (ap (λ (o : Option Heard). is_some o) (get-empty {X = Heard} nat_cmp k)) ∙ e))
    where
      none : (k : ℕ) → false ≡ true → is_ce g k ≡ true
      none k e = cc

  -- one more, or one anew
  put : (a : AssociationMap) (ce : ℕ) (h : Heard) → is_ce g ce ≡ true → takes_in a ce ≡ true → Associates g a → Associates g (finmap.insert a ce h)
  put a ce h c t f =
      (subst (λ n. n ≤ 64) (sym (len-insert nat_cmp_total a ce h)) (room (contains_key a ce) (len a) t f.0), λ k e. by (eq_by_cmp nat_cmp k ce) k refl (sym (ap (λ (o : Option Heard). is_some o) (get-insert nat_cmp_total a ce h k)) ∙ e))
    where
      by : (b : Bool) (k : ℕ) → eq_by_cmp nat_cmp k ce ≡ b → is_some (cond b (Some h) (get a k)) ≡ true → is_ce g k ≡ true
      by true k same e = subst (λ n. is_ce g n ≡ true) (sym (same_key k ce same)) c
      by false k same e = f.1 k e

  entered_if : (b : Bool) (a : AssociationMap) (ce : ℕ) (h : Heard) → is_ce g ce ≡ true → takes_in a ce ≡ b → Associates g a → Associates g (cond b (finmap.insert a ce h) a)
  entered_if true a ce h c t f = put a ce h c t f
  entered_if false a ce h c t f = f

  pub entered_associated : (a : AssociationMap) (ce peer now : ℕ) → is_ce g ce ≡ true → Associates g a → Associates g (entered a ce peer now)
  entered_associated a ce peer now c f = entered_if (takes_in a ce) a ce (heard_at now peer) c refl f

  renewed_if : (b : Bool) (a : AssociationMap) (ce : ℕ) (h : Heard) → is_ce g ce ≡ true → contains_key a ce ≡ b → Associates g a → Associates g (cond b (finmap.insert a ce h) a)
  renewed_if true a ce h c t f = put a ce h c (or_known (contains_key a ce) (nat_lt (len a) 64) t) f
  renewed_if false a ce h c t f = f

  pub renewed_associated : (a : AssociationMap) (ce peer now : ℕ) → is_ce g ce ≡ true → Associates g a → Associates g (renewed a ce peer now)
  renewed_associated a ce peer now c f = renewed_if (contains_key a ce) a ce (heard_at now peer) c refl f

  pub removed_associated : (a : AssociationMap) (ce : ℕ) → Associates g a → Associates g (finmap.remove a ce)
  removed_associated a ce f = (
    subst (λ n. n ≤ 64) (sym (len-remove nat_cmp_total a ce)) (less_one (contains_key a ce) (len a) f.0),
    λ k e. f.1 k (was_other (eq_by_cmp nat_cmp k ce) (get a k) (sym (ap (λ (o : Option Heard). is_some o) (get-remove nat_cmp_total a ce k)) ∙ e)),
  )

  pub heard_associated : (a : AssociationMap) (now dead : ℕ) → Associates g a → Associates g (still_heard a now dead)
  heard_associated a now dead f =
      let p : ℕ → Bool = λ ce. not (is_silent (get a ce) now dead) in
      let short : len (still_heard a now dead) ≤ len a = retained_short a p in
      let few : len a ≤ 64 = f.0 in
      (omega arith, λ k e. f.1 k (was_there (p k) (get a k) (sym (ap (λ (o : Option Heard). is_some o) (get-retain_keys a p k (alike p k))) ∙ e)))
