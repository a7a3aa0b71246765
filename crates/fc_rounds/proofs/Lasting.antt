-- What holds of an element after any Configs: its ID, its epoch, its records and its store.
use Rattle.std.proofs.Common.{◌≡◌, ℕ, ◌^◌, ◌<◌, ◌==◌, not, ◌/◌, ◌%◌, ◌&&◌, nat_lt, Bool, true, false, find, position, List, [], ◌∷◌, ◌++◌, refl, sym, ap, ◌∙◌, subst, arith, eqb-true}
use Rattle.std.specs.List.{AllByRecursion, list_all}
use Rattle.fc_abiding.proofs.Hearing.{id_stays, life_heard}
use Rattle.fc_abiding.proofs.Naming.{named_stay, new_named}
use Rattle.fc_abiding.specs.Abiding.{IsNamed}
use Rattle.fc_abiding.specs.Runs.{Came, life_from, life_of}
use Rattle.fc_agreement.proofs.OneElement.{distinct_law, limited_law}
use Rattle.fc_querying.proofs.Written.{opened_has}
use Rattle.fc_querying.specs.Mastership.{HasMastership}
use Rattle.fc_blocks.specs.Opening.{opened_store}
use Rattle.fc_exec.specs.declared.operations.Operation.{Operation}
use Rattle.fc_machine.specs.Trace.{Fact}
use Rattle.fc_protocol.specs.Messages.{is_epoch}
use Rattle.fc_protocol.specs.OneElement.{Distinct, Limited}
use Rattle.fc_querying.proofs.Records.{and_right, less}
use Rattle.fc_querying.proofs.Staying.{instances_are, library_is}
use Rattle.fc_querying.proofs.Telling.{told_stay}
use Rattle.fc_querying.specs.Asking.{IsAskable, IsTold}
use Rattle.fc_store.specs.Stores.{Stored}
use Rattle.fc_transactions.specs.Order.{configured}
use Rattle.fc_transactions.specs.State.{TransactionState, opened}
use Rattle.fc_types.specs.Libraries.{is_own}
use Rattle.fc_types.specs.declared.class.Class.{Class}

-- ---- one Config more
pub more_came : (came : List Came) (c : Came) (s : TransactionState) (fs : List (Fact Operation))
    → let l = life_from came s fs in let r = configured l.state c.peer c.message c.selects in life_from (came ++ c ∷ []) s fs ≡ record { state = r.state; facts = r.facts ++ l.facts }
more_came [] c s fs = refl
more_came (first ∷ came) c s fs = let r = configured s first.peer first.message first.selects in more_came came c r.state (r.facts ++ fs)

-- ---- what stays
record Stays (p : ℕ) (opening : Stored) (s : TransactionState) : Type 0 where
  own : s.id ≡ p
  library : s.ledger.store.library ≡ opening.library
  instances : s.ledger.store.instances ≡ opening.instances
  named : IsNamed s
  told : AllByRecursion IsTold s.ledger.records.entries

stays_from : (id : ℕ) (opening : Stored) (came : List Came) (s : TransactionState) (fs : List (Fact Operation)) → Stays id opening s → Stays id opening (life_from came s fs).state
stays_from id opening [] s fs h = h
stays_from id opening (c ∷ came) s fs h =
    let step = configured s c.peer c.message c.selects in
    stays_from id opening came step.state (step.facts ++ fs) (record {
      own = id_stays s c.peer c.message c.selects ∙ h.own;
      library = library_is s c.peer c.message c.selects ∙ h.library;
      instances = instances_are s c.peer c.message c.selects ∙ h.instances;
      named = named_stay s c.peer c.message c.selects h.named;
      told = told_stay s c.peer c.message c.selects h.told;
    })

stays_of : (id ce : ℕ) (opening : Stored) (came : List Came) → Stays id opening (life_of id ce opening came).state
stays_of id ce opening came = stays_from id opening came (opened id ce opening) [] (record { own = refl; library = refl; instances = refl; named = new_named id ce opening; told = tt })

has_still : (opening s : Stored) → s.library ≡ opening.library → s.instances ≡ opening.instances → HasMastership opening → HasMastership s
has_still opening s library instances has = record {
  class = ap (find (λ (k : Class). k.id == 126977)) library ∙ has.class;
  place = has.place;
  stands = ap (position (λ (q : ℕ × ℕ). (q.0 == 126977) && (q.1 == 1))) instances ∙ has.stands;
}

epoch_small : (n : ℕ) → ((n == 0) ≡ false → is_epoch n ≡ true) → n < 2 ^ 32
epoch_small n h = by (n == 0) refl
  where
    by : (b : Bool) → (n == 0) ≡ b → n < 2 ^ 32
    by true e = let none : n ≡ 0 = eqb-true n 0 e in omega (arith, none)
    by false e = less n (2 ^ 32) (and_right (not (n % 256 == 0)) (nat_lt n (2 ^ 32)) (and_right (not (n / 256 == 0)) (not (n % 256 == 0) && nat_lt n (2 ^ 32)) (h e)))

-- what is asked of an element that lives on
pub record Lasts (p : ℕ) (s : TransactionState) : Type 0 where
  pub own : s.id ≡ p
  pub named : IsNamed s
  pub askable : IsAskable s

module _ (id ce : ℕ) (library : List Class) (instances : List (ℕ × ℕ)) (came : List Came) (own : list_all is_own library ≡ true) where
  abbrev opening : Stored
  opening = opened_store library instances

  abbrev state : TransactionState
  state = (life_of id ce opening came).state

  pub lasts : Lasts id state
  lasts =
      let here = stays_of id ce opening came in
      let h = life_heard id ce opening came in record {
        own = here.own;
        named = here.named;
        askable = record {
          mastership = has_still opening state.ledger.store here.library here.instances (opened_has library instances own);
          epoch = epoch_small state.epoch here.named.epoch;
          records = record {
            each = here.told;
            distinct = subst Distinct (sym h.1.records) (distinct_law id ce (h.0 ∷ []));
            limited = subst Limited (sym h.1.records) (limited_law id ce (h.0 ∷ []));
          };
        };
      }
