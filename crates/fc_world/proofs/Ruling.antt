-- One control element: what is asked of its life, and a life that begins.
use Rattle.std.proofs.Common.{◌≡◌, ℕ, List, [], ◌∷◌, ◌++◌, Some, None, option_map, refl, sym, ap, ◌∙◌, subst}
use Rattle.fc_asks.specs.declared.life.Life.{Life}
use Rattle.fc_master.specs.Masters.{core_of}
use Rattle.fc_master.specs.declared.master.Master.{Master}
use Rattle.fc_protocol.specs.MasterMachine.{new_master}
use Rattle.fc_world.specs.Answering.{AnswersLife, AnswersOne}
use Rattle.fc_world.specs.Stages.{AnswersCall, ruling_of, standing_of}
use Rattle.fc_world.specs.Worlds.{epoch_of, first_life}
use Rattle.fc_world.specs.WorldSteps.{started}
use Rattle.fc_world.specs.declared.controllers.Controller.{Controller}
use Rattle.fc_world.specs.declared.lives.Answer.{Answer}
use Rattle.fc_world.specs.declared.lives.Request.{Request}

-- what a life answers, its control element answers
pub one_asked : (q : Request) (old new : Controller) (m n : Master) (a : Answer) → old.master ≡ Some m → new.master ≡ Some n → new.ce ≡ old.ce → new.used.items ≡ old.used.items
    → ((k : ℕ) → AnswersCall k q (ruling_of m) a (ruling_of n)) → (k : ℕ) → AnswersOne k q (standing_of old) (Some a) (standing_of new)
one_asked q old new m n a was is ce used h = λ k. (
  ce,
  used,
  subst (λ o. AnswersLife k q (option_map ruling_of o) (Some a) (option_map ruling_of new.master)) (sym was)
      (subst (λ o. AnswersLife k q (Some (ruling_of m)) (Some a) (option_map ruling_of o)) (sym is) (h k)),
)

pub one_still : (q : Request) (old new : Controller) → old.master ≡ None → new.master ≡ None → new.ce ≡ old.ce → new.used.items ≡ old.used.items → (k : ℕ) → AnswersOne k q (standing_of old) None (standing_of new)
one_still q old new was is ce used = λ k. (
  ce,
  used,
  subst (λ o. AnswersLife k q (option_map ruling_of o) None (option_map ruling_of new.master)) (sym was)
      (subst (λ o. AnswersLife k q None None (option_map ruling_of o)) (sym is) refl),
)

-- a life that begins
life_is : (l : Life) (ce epoch : ℕ) → l.ce ≡ ce → l.epoch ≡ epoch → l.plans ≡ [] → l.plains ≡ [] → l ≡ first_life ce epoch
life_is l n e a b c d =
    ap (λ x. record { ce = x; epoch = l.epoch; plans = l.plans; plains = l.plains; alloc = l.alloc }) a ∙ ap (λ x. record { ce = n; epoch = x; plans = l.plans; plains = l.plains; alloc = l.alloc }) b
    ∙ ap (λ x. record { ce = n; epoch = e; plans = x; plains = l.plains; alloc = l.alloc }) c ∙ ap (λ x. record { ce = n; epoch = e; plans = []; plains = x; alloc = l.alloc }) d

ruled : (m : Master) (ce epoch : ℕ) (ids : List ℕ) → m.life.ce ≡ ce → m.life.epoch ≡ epoch → m.life.plans ≡ [] → m.life.plains ≡ [] → core_of m ≡ new_master epoch ids
    → ruling_of m ≡ record { life = first_life ce epoch; core = new_master epoch ids }
ruled m ce epoch ids a b c d e =
    ap (λ x. record { life = x; core = core_of m }) (life_is m.life ce epoch a b c d) ∙ ap (λ x. record { life = first_life ce epoch; core = x }) e

pub begun_life : (old new : Controller) (m : Master) (epoch round : ℕ) (ids : List ℕ) → new.master ≡ Some m → new.ce ≡ old.ce → new.used.items ≡ old.used.items ++ round ∷ [] → epoch ≡ epoch_of round old.ce
    → m.life.ce ≡ old.ce → m.life.epoch ≡ epoch → m.life.plans ≡ [] → m.life.plains ≡ [] → core_of m ≡ new_master epoch ids → standing_of new ≡ started ids round (standing_of old)
begun_life old new m epoch round ids is ce used at a b c d e =
    let ruling = ruled m old.ce epoch ids a b c d e ∙ ap (λ x. record { life = first_life old.ce x; core = new_master x ids }) at in
    ap (λ n. record { ce = n; used = new.used.items; running = option_map ruling_of new.master }) ce
    ∙ ap (λ l. record { ce = old.ce; used = l; running = option_map ruling_of new.master }) used
    ∙ ap (λ o. record { ce = old.ce; used = old.used.items ++ round ∷ []; running = option_map ruling_of o }) is
    ∙ ap (λ r. record { ce = old.ce; used = old.used.items ++ round ∷ []; running = Some r }) ruling
