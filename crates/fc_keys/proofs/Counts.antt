-- How many pairs a map has where a key is entered or taken out.
use Rattle.std.proofs.Common.{◌≡◌, ℕ, zero, suc, ◌+◌, ◌-◌, ◌≤◌, Bool, false, cond, sym, ap, ◌∙◌, List, Option, Some, None, is_some, arith}
use Rattle.std.specs.Cmp.Lexicographic.{nat_list_cmp_total}
use Rattle.std.specs.FinMap as map
use Rattle.std.specs.FinMap.{empty_of_len, get-empty, len-insert, len-remove}
use Rattle.fc_keys.specs.Keys.{KeyMap, key_cmp}

pub one_more : (m n : KeyMap) (k : List ℕ) (v count : ℕ) → false ≡ map.contains_key m k → n ≡ map.insert m k v → count ≡ map.len m → count + 1 ≡ map.len n
one_more m n k v count none is all =
    ap (λ (x : ℕ). x + 1) all ∙ sym (ap map.len is ∙ len-insert nat_list_cmp_total m k v ∙ ap (λ (b : Bool). cond b (map.len m) (map.len m + 1)) (sym none))

some_is_none : (x : ℕ) → Some x ≡ None → ⊥
some_is_none x e = cc

any_of_len : (m : KeyMap) (k : List ℕ) (x n : ℕ) → Some x ≡ map.get m k → map.len m ≡ n → 1 ≤ n
any_of_len m k x zero there e = absurd (some_is_none x (there ∙ ap (λ (o : KeyMap). map.get o k) (empty_of_len m e) ∙ get-empty key_cmp k))
any_of_len m k x (suc n) there e = omega arith

pub any : (m : KeyMap) (k : List ℕ) (x count : ℕ) → Some x ≡ map.get m k → count ≡ map.len m → 1 ≤ count
any m k x count there all = any_of_len m k x count there (sym all)

pub one_fewer : (m n : KeyMap) (k : List ℕ) (x count : ℕ) → Some x ≡ map.get m k → n ≡ map.remove m k → count ≡ map.len m → count - 1 ≡ map.len n
one_fewer m n k x count there is all =
    ap (λ (y : ℕ). y - 1) all ∙ sym (ap map.len is ∙ len-remove nat_list_cmp_total m k ∙ ap (λ (o : Option ℕ). cond (is_some o) (map.len m - 1) (map.len m)) (sym there))

pub as_many : (m n : KeyMap) (k : List ℕ) (count : ℕ) → None ≡ map.get m k → n ≡ map.remove m k → count ≡ map.len m → count ≡ map.len n
as_many m n k count none is all =
    all ∙ sym (ap map.len is ∙ len-remove nat_list_cmp_total m k ∙ ap (λ (o : Option ℕ). cond (is_some o) (map.len m - 1) (map.len m)) (sym none))
