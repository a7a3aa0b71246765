use Rattle.std.proofs.Common.{[], ◌∷◌, sym, subst}
use Rattle.fc_agreement.proofs.OneElement.{first_law, settles_law, tell_law, distinct_law, limited_law, apart_law, few_law, clear_law, rising_law}
use Rattle.fc_agreement.proofs.Ownership.{owned_law}
use Rattle.fc_agreement.specs.Scopes.{RisingScopes}
use Rattle.fc_protocol.specs.ElementMachine.{new_element}
use Rattle.fc_protocol.specs.OneElement.{Distinct, FewParticipants, FloorClear, Limited, PreparedFirst, RecordsTell, ScopesApart, SettlesOnce, hears_all}
use Rattle.fc_abiding.specs.Runs.{life_of}
use Rattle.fc_abiding.proofs.Hearing.{life_heard, owned_seen}
use Rattle.fc_abiding.proofs.laws.one_element.Goals as goal

pub returns-clause-heard : goal.returns-clause-heard
returns-clause-heard c = life_heard

pub returns-clause-prepared_first : goal.returns-clause-prepared_first
returns-clause-prepared_first c id ce store came = let h = life_heard id ce store came in subst (PreparedFirst id) (sym h.2) (first_law id ce (h.0 ∷ []))

pub returns-clause-settles_once : goal.returns-clause-settles_once
returns-clause-settles_once c id ce store came = let h = life_heard id ce store came in subst (SettlesOnce id) (sym h.2) (settles_law id ce (h.0 ∷ []))

pub returns-clause-records_tell : goal.returns-clause-records_tell
returns-clause-records_tell c id ce store came =
    let h = life_heard id ce store came in
    let life = life_of id ce store came in
    let heard = hears_all id h.0 (new_element ce) [] in
    subst (RecordsTell id life.state.ledger.records.floor life.state.ledger.records.entries) (sym h.2)
    (subst (λ fl. RecordsTell id fl life.state.ledger.records.entries heard.facts) (sym h.1.floor) (subst (λ ns. RecordsTell id heard.element.floor ns heard.facts) (sym h.1.records) (tell_law id ce (h.0 ∷ []))))

pub returns-clause-floor_clear : goal.returns-clause-floor_clear
returns-clause-floor_clear c id ce store came =
    let h = life_heard id ce store came in
    let life = life_of id ce store came in
    let heard = hears_all id h.0 (new_element ce) [] in
    subst (λ fl. FloorClear fl life.state.ledger.records.entries) (sym h.1.floor) (subst (FloorClear heard.element.floor) (sym h.1.records) (clear_law id ce (h.0 ∷ [])))

pub returns-clause-distinct : goal.returns-clause-distinct
returns-clause-distinct c id ce store came = let h = life_heard id ce store came in subst Distinct (sym h.1.records) (distinct_law id ce (h.0 ∷ []))

pub returns-clause-apart : goal.returns-clause-apart
returns-clause-apart c id ce store came = let h = life_heard id ce store came in subst ScopesApart (sym h.1.records) (apart_law id ce (h.0 ∷ []))

pub returns-clause-rising : goal.returns-clause-rising
returns-clause-rising c id ce store came = let h = life_heard id ce store came in subst RisingScopes (sym h.1.records) (rising_law id ce (h.0 ∷ []))

pub returns-clause-few : goal.returns-clause-few
returns-clause-few c id ce store came = let h = life_heard id ce store came in subst FewParticipants (sym h.1.records) (few_law id ce (h.0 ∷ []))

pub returns-clause-limited : goal.returns-clause-limited
returns-clause-limited c id ce store came = let h = life_heard id ce store came in subst Limited (sym h.1.records) (limited_law id ce (h.0 ∷ []))

pub returns-clause-owned : goal.returns-clause-owned
returns-clause-owned c id ce store came = owned_seen ce _ _ (life_heard id ce store came).1 (owned_law ce id ((life_heard id ce store came).0 ∷ []))
