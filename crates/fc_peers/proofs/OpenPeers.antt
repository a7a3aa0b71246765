-- The map of the peers that are open: what changes of the entries make of it, and changes after each other.
use Rattle.std.proofs.Common.{◌≡◌, ℕ, ◌+◌, Bool, true, false, cond, List, [], ◌∷◌, length, is_some, Option, None, Some, refl, sym, ap, ◌∙◌, arith}
use Rattle.std.specs.Cmp.{eq_by_cmp_equiv, nat_cmp_is, nat_cmp_total}
use Rattle.std.specs.declared.cmp.Ordering.TheVariants.{Less, Equal}
use Rattle.std.specs.FinMap.{find, get, get-from_entries, get-insert, get-remove, insert, len, len-empty, len-insert, nat_cmp-IsAntisymmetric, remove, same_map}
use Rattle.std.specs.List.{AllByRecursion}
use Rattle.std.specs.List.Sorted.{IsStrictlySortedBy}
use Rattle.std.specs.Map.{keys_of, lookup}
use Rattle.std.specs.BTreeMap.{is_at}
use Rattle.std.specs.Ordering.{eq_by_cmp, nat_cmp}
use Rattle.fc_peers.specs.OpenPeers.{PeerMap, peers_of}

abbrev Entries : Type 0
Entries = List (ℕ × List ℕ)

-- what stands at a number among the entries
abbrev pub held_at : Entries → ℕ → Option (List ℕ)
held_at es q = lookup (is_at (nat_cmp q)) es

found : (es : Entries) (q : ℕ) → held_at es q ≡ find nat_cmp q es
found [] q = refl
found (e ∷ es) q = ap (cond (eq_by_cmp nat_cmp q e.0) (Some e.1)) (found es q)

pub got : (es : Entries) (q : ℕ) → get (peers_of es) q ≡ held_at es q
got es q = get-from_entries nat_cmp_total es q ∙ sym (found es q)

turned : (k q : ℕ) → is_at (nat_cmp k) q ≡ eq_by_cmp nat_cmp q k
turned k q = (eq_by_cmp_equiv nat_cmp_total).symm k q

-- ---- changes of the entries

pub is_put : (m n : Entries) (k : ℕ) (w : List ℕ) → ((q : ℕ) → held_at n q ≡ cond (is_at (nat_cmp k) q) (Some w) (held_at m q))
    → peers_of n ≡ insert (peers_of m) k w
is_put m n k w is =
    same_map nat_cmp_total nat_cmp-IsAntisymmetric (peers_of n) (insert (peers_of m) k w)
    (λ q. got n q ∙ is q ∙ ap (λ b. cond b (Some w) (held_at m q)) (turned k q) ∙ ap (cond (eq_by_cmp nat_cmp q k) (Some w)) (sym (got m q))
    ∙ sym (get-insert nat_cmp_total (peers_of m) k w q))

pub is_gone : (m n : Entries) (k : ℕ) → ((q : ℕ) → held_at n q ≡ cond (is_at (nat_cmp k) q) None (held_at m q))
    → peers_of n ≡ remove (peers_of m) k
is_gone m n k is =
    same_map nat_cmp_total nat_cmp-IsAntisymmetric (peers_of n) (remove (peers_of m) k)
    (λ q. got n q ∙ is q ∙ ap (λ b. cond b None (held_at m q)) (turned k q) ∙ ap (cond (eq_by_cmp nat_cmp q k) None) (sym (got m q))
    ∙ sym (get-remove nat_cmp_total (peers_of m) k q))

-- ---- how many they are

is_other : (k j : ℕ) → nat_cmp k j ≡ Less → eq_by_cmp nat_cmp k j ≡ false
is_other k j is = rw is refl

none_below : (k : ℕ) (es : Entries) → AllByRecursion (λ j. nat_cmp k j ≡ Less) (keys_of es) → held_at es k ≡ None
none_below k [] below = refl
none_below k (e ∷ es) below = rw (is_other k e.0 below.0) (none_below k es below.1)

pub counted : (es : Entries) → IsStrictlySortedBy nat_cmp (keys_of es) → len (peers_of es) ≡ length es
unfolding IsStrictlySortedBy
counted [] sorted = len-empty nat_cmp (List ℕ)
counted (e ∷ es) sorted =
    let new : is_some (get (peers_of es) e.0) ≡ false = ap is_some (got es e.0 ∙ none_below e.0 es sorted.0) in
    let more = counted es sorted.1 in
    len-insert nat_cmp_total (peers_of es) e.0 e.1 ∙ ap (λ b. cond b (len (peers_of es)) (len (peers_of es) + 1)) new ∙ omega (arith, more)

-- ---- changes after each other

itself : (k : ℕ) → eq_by_cmp nat_cmp k k ≡ true
itself k = let same : nat_cmp k k ≡ Equal = sym (nat_cmp_is k k Equal refl) in rw same refl

hidden : {A : Type 0} (b : Bool) (x y z : A) → cond b x (cond b y z) ≡ cond b x z
hidden true x y z = refl
hidden false x y z = refl

pub put_twice : (m : PeerMap) (k : ℕ) (one two : List ℕ) → insert (insert m k one) k two ≡ insert m k two
put_twice m k one two =
    same_map nat_cmp_total nat_cmp-IsAntisymmetric (insert (insert m k one) k two) (insert m k two)
    (λ q. get-insert nat_cmp_total (insert m k one) k two q ∙ ap (cond (eq_by_cmp nat_cmp q k) (Some two)) (get-insert nat_cmp_total m k one q)
    ∙ hidden (eq_by_cmp nat_cmp q k) (Some two) (Some one) (get m q) ∙ sym (get-insert nat_cmp_total m k two q))

pub gone_put : (m : PeerMap) (k : ℕ) (one : List ℕ) → remove (insert m k one) k ≡ remove m k
gone_put m k one =
    same_map nat_cmp_total nat_cmp-IsAntisymmetric (remove (insert m k one) k) (remove m k)
    (λ q. get-remove nat_cmp_total (insert m k one) k q ∙ ap (cond (eq_by_cmp nat_cmp q k) None) (get-insert nat_cmp_total m k one q)
    ∙ hidden (eq_by_cmp nat_cmp q k) None (Some one) (get m q) ∙ sym (get-remove nat_cmp_total m k q))

pub got_put : (m : PeerMap) (k : ℕ) (left : List ℕ) → get (insert m k left) k ≡ Some left
got_put m k left = get-insert nat_cmp_total m k left k ∙ ap (λ b. cond b (Some left) (get m k)) (itself k)

pub got_gone : (m : PeerMap) (k : ℕ) → get (remove m k) k ≡ None
got_gone m k = get-remove nat_cmp_total m k k ∙ ap (λ b. cond b None (get m k)) (itself k)
