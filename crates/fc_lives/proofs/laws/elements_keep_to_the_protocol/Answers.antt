use Rattle.std.proofs.Common.{[], ◌∷◌, sym, subst}
use Rattle.fc_abiding.proofs.Hearing.{owned_seen}
use Rattle.fc_agreement.proofs.OneElement.{apart_law, clear_law, distinct_law, few_law, first_law, limited_law, rising_law, settles_law, tell_law}
use Rattle.fc_agreement.proofs.Ownership.{owned_law}
use Rattle.fc_agreement.specs.Scopes.{RisingScopes}
use Rattle.fc_lives.specs.Lives.{life_after}
use Rattle.fc_protocol.specs.ElementMachine.{new_element}
use Rattle.fc_protocol.specs.OneElement.{Distinct, FewParticipants, FloorClear, Limited, PreparedFirst, RecordsTell, ScopesApart, SettlesOnce, hears_all}
use Rattle.fc_lives.proofs.Lives.{heard}
use Rattle.fc_lives.proofs.laws.elements_keep_to_the_protocol.Goals as goal

pub returns-clause-heard : goal.returns-clause-heard
returns-clause-heard c = heard

pub returns-clause-prepared_first : goal.returns-clause-prepared_first
returns-clause-prepared_first c id ce library instances is = let h = heard id ce library instances is in subst (PreparedFirst id) (sym h.2) (first_law id ce (h.0 ∷ []))

pub returns-clause-settles_once : goal.returns-clause-settles_once
returns-clause-settles_once c id ce library instances is = let h = heard id ce library instances is in subst (SettlesOnce id) (sym h.2) (settles_law id ce (h.0 ∷ []))

pub returns-clause-distinct : goal.returns-clause-distinct
returns-clause-distinct c id ce library instances is = let h = heard id ce library instances is in subst Distinct (sym h.1.records) (distinct_law id ce (h.0 ∷ []))

pub returns-clause-apart : goal.returns-clause-apart
returns-clause-apart c id ce library instances is = let h = heard id ce library instances is in subst ScopesApart (sym h.1.records) (apart_law id ce (h.0 ∷ []))

pub returns-clause-limited : goal.returns-clause-limited
returns-clause-limited c id ce library instances is = let h = heard id ce library instances is in subst Limited (sym h.1.records) (limited_law id ce (h.0 ∷ []))

pub returns-clause-records_tell : goal.returns-clause-records_tell
returns-clause-records_tell c id ce library instances is =
    let h = heard id ce library instances is in
    let life = life_after id ce library instances is in
    let all = hears_all id h.0 (new_element ce) [] in
    subst (RecordsTell id life.state.ledger.records.floor life.state.ledger.records.entries) (sym h.2)
    (subst (λ fl. RecordsTell id fl life.state.ledger.records.entries all.facts) (sym h.1.floor) (subst (λ ns. RecordsTell id all.element.floor ns all.facts) (sym h.1.records) (tell_law id ce (h.0 ∷ []))))

pub returns-clause-floor_clear : goal.returns-clause-floor_clear
returns-clause-floor_clear c id ce library instances is =
    let h = heard id ce library instances is in
    let life = life_after id ce library instances is in
    let all = hears_all id h.0 (new_element ce) [] in
    subst (λ fl. FloorClear fl life.state.ledger.records.entries) (sym h.1.floor) (subst (FloorClear all.element.floor) (sym h.1.records) (clear_law id ce (h.0 ∷ [])))

pub returns-clause-rising : goal.returns-clause-rising
returns-clause-rising c id ce library instances is = let h = heard id ce library instances is in subst RisingScopes (sym h.1.records) (rising_law id ce (h.0 ∷ []))

pub returns-clause-few : goal.returns-clause-few
returns-clause-few c id ce library instances is = let h = heard id ce library instances is in subst FewParticipants (sym h.1.records) (few_law id ce (h.0 ∷ []))

pub returns-clause-owned : goal.returns-clause-owned
returns-clause-owned c id ce library instances is = owned_seen ce _ _ (heard id ce library instances is).1 (owned_law ce id ((heard id ce library instances is).0 ∷ []))
