-- Of records that are settled at the front: what is looked for behind them is all that is held.
use Rattle.std.proofs.Common.{◌≡◌, ℕ, zero, suc, ◌<◌, ◌≤◌, Bool, false, ◌||◌, cond, List, [], ◌∷◌, ◌++◌, length, drop, slice_get, refl, sym, ap, ◌∙◌, arith}
use Rattle.std.specs.List.{list_any}
use Rattle.fc_protocol.specs.Records.{held, is_held}
use Rattle.fc_protocol.specs.declared.states.TxnState.{TxnState}
use Rattle.fc_protocol.specs.declared.answers.TxnEntry.{TxnEntry}
use Rattle.fc_tx.specs.Kept.{passes, restated}
use Rattle.fc_tx.specs.Records.{AreSettled}

pub held_past : (i : ℕ) (ns : List TxnEntry) → AreSettled i ns → held (drop i ns) ≡ held ns
held_past zero ns a = refl
held_past (suc i) [] a = absurd a
held_past (suc i) (n ∷ ns) a = held_past i ns a.1 ∙ sym (ap (λ b. cond b (n ∷ held ns) (held ns)) a.0)

-- a test that no settled record passes
pub any_past : (test : TxnEntry → Bool) → ((n : TxnEntry) → is_held n.state ≡ false → test n ≡ false) → (i : ℕ) (ns : List TxnEntry) → AreSettled i ns → list_any test ns ≡ list_any test (drop i ns)
any_past test fails zero ns a = refl
any_past test fails (suc i) [] a = absurd a
any_past test fails (suc i) (n ∷ ns) a = ap (λ b. b || list_any test ns) (fails n a.0) ∙ any_past test fails i ns a.1

pub settled_more : (i : ℕ) (ns : List TxnEntry) → i < length ns → passes (λ n. is_held n.state) (slice_get ns i) ≡ false → AreSettled i ns → AreSettled (suc i) ns
settled_more zero [] l e a = absurd (omega (arith, l))
settled_more zero (n ∷ ns) l e a = (e, tt)
settled_more (suc i) [] l e a = a
settled_more (suc i) (n ∷ ns) l e a = (a.0, settled_more i ns (omega (arith, l)) e a.1)

-- a record that takes another state leaves those settled that stand before it
pub settled_less : (i j k : ℕ) (ns : List TxnEntry) (s : TxnState) → k ≤ i → k ≤ j → AreSettled i ns → AreSettled k (restated ns j s)
settled_less i j zero ns s l m a = tt
settled_less zero j (suc k) ns s l m a = absurd (omega (arith, l))
settled_less (suc i) zero (suc k) ns s l m a = absurd (omega (arith, m))
settled_less (suc i) (suc j) (suc k) [] s l m a = a
settled_less (suc i) (suc j) (suc k) (n ∷ ns) s l m a = (a.0, settled_less i j k ns s (omega (arith, l)) (omega (arith, m)) a.1)

pub settled_last : (i : ℕ) (ns : List TxnEntry) (n : TxnEntry) → AreSettled i ns → AreSettled i (ns ++ n ∷ [])
settled_last zero ns n a = tt
settled_last (suc i) [] n a = absurd a
settled_last (suc i) (m ∷ ns) n a = (a.0, settled_last i ns n a.1)
