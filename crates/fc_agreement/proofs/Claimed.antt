-- Two elements that were claimed are idle, and a transaction may begin at them.
use Rattle.std.proofs.Common.{◌≡◌, ℕ, ◌==◌, true, false, [], ◌∷◌, Option, Some, None, is_some, ⊎_elim, refl, sym, ◌∙◌, subst, eqb-true}
use Rattle.fc_agreement.specs.CleanRound.{Idle, Able}
use Rattle.fc_protocol.specs.Collections.{among, put}
use Rattle.fc_agreement.specs.Runs.{pair, claiming, after_steps, master_of}
use Rattle.fc_protocol.specs.MasterMachine.{Master, begin_refusal}
use Rattle.fc_protocol.specs.WorldSteps.{World, sender}
use Rattle.fc_protocol.specs.Records.{clashes, is_packed}
use Rattle.fc_protocol.proofs.Basics.{both}
use Rattle.fc_agreement.proofs.Calm.{or_false}

abbrev w : World
w = after_steps pair claiming

abbrev m : Master
m = master_of (w.masters 1)

m_epoch : m.epoch ≡ 257
unfolding Rattle.fc_protocol.specs.Collections.put
m_epoch = refl

w_sender : sender w 1 ≡ 1073741825
unfolding Rattle.fc_protocol.specs.Collections.put
w_sender = refl

runs_if : (o : Option Master) → is_some o ≡ true → o ≡ Some (master_of o)
runs_if None e = cc
runs_if (Some n) e = refl

is_running : is_some (w.masters 1) ≡ true
unfolding Rattle.fc_protocol.specs.Collections.put
is_running = refl

may : begin_refusal m (1 ∷ 2 ∷ []) (λ _. 1) (λ _. []) ≡ None
unfolding Rattle.fc_protocol.specs.Collections.put
may = refl

first_el_epoch : (w.at 1).epoch ≡ 257
unfolding Rattle.fc_protocol.specs.Collections.put
first_el_epoch = refl

first_el_master : (w.at 1).master ≡ 1073741825
unfolding Rattle.fc_protocol.specs.Collections.put
first_el_master = refl

first_el_sequence : (w.at 1).sequence ≡ 0
unfolding Rattle.fc_protocol.specs.Collections.put
first_el_sequence = refl

first_free : clashes [] (w.at 1).records ≡ false
unfolding Rattle.fc_protocol.specs.Collections.put
first_free = refl

first_room : is_packed (w.at 1).records ≡ false
unfolding Rattle.fc_protocol.specs.Collections.put
first_room = refl

first_met : (m.at 1).met ≡ true
unfolding Rattle.fc_protocol.specs.Collections.put
first_met = refl

first_claimed : (m.at 1).claimed ≡ true
unfolding Rattle.fc_protocol.specs.Collections.put
first_claimed = refl

first_waits : (m.at 1).waits ≡ None
unfolding Rattle.fc_protocol.specs.Collections.put
first_waits = refl

first_last : (m.at 1).last ≡ 0
unfolding Rattle.fc_protocol.specs.Collections.put
first_last = refl

first_idle : Idle w 1 m 1 []
first_idle = record { epoch = first_el_epoch ∙ sym m_epoch; master = first_el_master ∙ sym w_sender; sequence = first_el_sequence ∙ sym first_last; free = first_free; room = first_room; met = first_met; claimed = first_claimed; waits = first_waits }

second_el_epoch : (w.at 2).epoch ≡ 257
unfolding Rattle.fc_protocol.specs.Collections.put
second_el_epoch = refl

second_el_master : (w.at 2).master ≡ 1073741825
unfolding Rattle.fc_protocol.specs.Collections.put
second_el_master = refl

second_el_sequence : (w.at 2).sequence ≡ 0
unfolding Rattle.fc_protocol.specs.Collections.put
second_el_sequence = refl

second_free : clashes [] (w.at 2).records ≡ false
unfolding Rattle.fc_protocol.specs.Collections.put
second_free = refl

second_room : is_packed (w.at 2).records ≡ false
unfolding Rattle.fc_protocol.specs.Collections.put
second_room = refl

second_met : (m.at 2).met ≡ true
unfolding Rattle.fc_protocol.specs.Collections.put
second_met = refl

second_claimed : (m.at 2).claimed ≡ true
unfolding Rattle.fc_protocol.specs.Collections.put
second_claimed = refl

second_waits : (m.at 2).waits ≡ None
unfolding Rattle.fc_protocol.specs.Collections.put
second_waits = refl

second_last : (m.at 2).last ≡ 0
unfolding Rattle.fc_protocol.specs.Collections.put
second_last = refl

second_idle : Idle w 1 m 2 []
second_idle = record { epoch = second_el_epoch ∙ sym m_epoch; master = second_el_master ∙ sym w_sender; sequence = second_el_sequence ∙ sym second_last; free = second_free; room = second_room; met = second_met; claimed = second_claimed; waits = second_waits }

none_more : (p : ℕ) → among p [] ≡ true → Idle w 1 m p []
none_more p e = cc

both_idle : (p : ℕ) → among p (1 ∷ 2 ∷ []) ≡ true → Idle w 1 m p []
both_idle p a =
    ⊎_elim (λ u. subst (λ q. Idle w 1 m q []) (sym (eqb-true p 1 u)) first_idle)
    (λ u. let b = or_false (p == 1) _ u a in ⊎_elim (λ v. subst (λ q. Idle w 1 m q []) (sym (eqb-true p 2 v)) second_idle) (λ v. none_more p (or_false (p == 2) _ v b)) (both (p == 2))) (both (p == 1))

pub able_law : Able w 1 m (1 ∷ 2 ∷ []) (λ _. 1) (λ _. [])
able_law = record { runs = runs_if (w.masters 1) is_running; may = may; rising = refl; scoped = λ _ _. refl; idle = both_idle }
