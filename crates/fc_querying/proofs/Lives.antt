-- An element can be asked after any list of inputs.
use Rattle.std.proofs.Common.{◌≡◌, ℕ, ◌^◌, ◌<◌, ◌==◌, not, ◌/◌, ◌%◌, ◌&&◌, nat_lt, Bool, true, false, find, position, List, [], ◌∷◌, ◌++◌, refl, sym, ap, ◌∙◌, subst, arith, eqb-true}
use Rattle.std.specs.List.{AllByRecursion, list_all}
use Rattle.fc_abiding.proofs.Naming.{named_stay, new_named}
use Rattle.fc_abiding.specs.Abiding.{IsNamed}
use Rattle.fc_abiding.specs.Runs.{Came, Life, life_from, life_of}
use Rattle.fc_agreement.proofs.OneElement.{distinct_law, limited_law}
use Rattle.fc_querying.proofs.Written.{opened_has}
use Rattle.fc_querying.specs.Mastership.{HasMastership}
use Rattle.fc_blocks.specs.Opening.{opened_store}
use Rattle.fc_element.specs.ElementState as elements
use Rattle.fc_element.specs.Runs.{taken}
use Rattle.fc_element.specs.declared.input.ElIn.{ElIn}
use Rattle.fc_exec.specs.declared.operations.Operation.{Operation}
use Rattle.fc_lives.proofs.Lives.{all_came, heard, life_is}
use Rattle.fc_lives.specs.Lives.{life_after}
use Rattle.fc_machine.specs.Trace.{Fact}
use Rattle.fc_protocol.specs.Messages.{is_epoch}
use Rattle.fc_protocol.specs.OneElement.{Distinct, Limited}
use Rattle.fc_store.specs.Stores.{Stored}
use Rattle.fc_transactions.specs.Order.{configured}
use Rattle.fc_transactions.specs.State.{TransactionState, opened}
use Rattle.fc_types.specs.Libraries.{is_own}
use Rattle.fc_types.specs.declared.class.Class.{Class}
use Rattle.fc_querying.specs.Asking.{IsAskable, IsTold}
use Rattle.fc_querying.proofs.Records.{and_right, less}
use Rattle.fc_querying.proofs.Staying.{instances_are, library_is}
use Rattle.fc_querying.proofs.Telling.{told_stay}

-- what stays of the store with which an element opened, and what holds of its epoch and of each record
record Stays (opening : Stored) (s : TransactionState) : Type 0 where
  library : s.ledger.store.library ≡ opening.library
  instances : s.ledger.store.instances ≡ opening.instances
  named : IsNamed s
  told : AllByRecursion IsTold s.ledger.records.entries

stays_from : (opening : Stored) (came : List Came) (s : TransactionState) (fs : List (Fact Operation)) → Stays opening s → Stays opening (life_from came s fs).state
stays_from opening [] s fs h = h
stays_from opening (c ∷ came) s fs h =
    let step = configured s c.peer c.message c.selects in
    stays_from opening came step.state (step.facts ++ fs) (record {
      library = library_is s c.peer c.message c.selects ∙ h.library;
      instances = instances_are s c.peer c.message c.selects ∙ h.instances;
      named = named_stay s c.peer c.message c.selects h.named;
      told = told_stay s c.peer c.message c.selects h.told;
    })

stays_of : (id ce : ℕ) (opening : Stored) (came : List Came) → Stays opening (life_of id ce opening came).state
stays_of id ce opening came = stays_from opening came (opened id ce opening) [] (record { library = refl; instances = refl; named = new_named id ce opening; told = tt })

has_still : (opening s : Stored) → s.library ≡ opening.library → s.instances ≡ opening.instances → HasMastership opening → HasMastership s
has_still opening s library instances has = record {
  class = ap (find (λ (k : Class). k.id == 126977)) library ∙ has.class;
  place = has.place;
  stands = ap (position (λ (q : ℕ × ℕ). (q.0 == 126977) && (q.1 == 1))) instances ∙ has.stands;
}

epoch_small : (n : ℕ) → ((n == 0) ≡ false → is_epoch n ≡ true) → n < 2 ^ 32
epoch_small n h = by (n == 0) refl
  where
    by : (b : Bool) → (n == 0) ≡ b → n < 2 ^ 32
    by true e = let none : n ≡ 0 = eqb-true n 0 e in omega (arith, none)
    by false e = less n (2 ^ 32) (and_right (not (n % 256 == 0)) (nat_lt n (2 ^ 32)) (and_right (not (n / 256 == 0)) (not (n % 256 == 0) && nat_lt n (2 ^ 32)) (h e)))

-- ---- a whole element

pub askable : (id ce : ℕ) (library : List Class) (instances : List (ℕ × ℕ)) (is : List ElIn) → list_all is_own library ≡ true → IsAskable (life_after id ce library instances is).state
askable id ce library instances is own =
    let opening = opened_store library instances in
    let life = life_after id ce library instances is in
    let here : Stays opening life.state = subst (λ (l : Life). Stays opening l.state) (sym (life_is id ce library instances is)) (stays_of id ce opening (all_came (taken (elements.opened id ce library instances) is))) in
    let h = heard id ce library instances is in record {
      mastership = has_still opening life.state.ledger.store here.library here.instances (opened_has library instances own);
      epoch = epoch_small life.state.epoch here.named.epoch;
      records = record {
        each = here.told;
        distinct = subst Distinct (sym h.1.records) (distinct_law id ce (h.0 ∷ []));
        limited = subst Limited (sym h.1.records) (limited_law id ce (h.0 ∷ []));
      };
    }
