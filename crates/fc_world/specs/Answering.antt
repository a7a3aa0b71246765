-- What is asked of control elements, and what they are then. This profile's own.
use Rattle.std.specs.Prelude.{◌≡◌, ℕ, List, slice_get, Option, Some, None}
use Rattle.fc_world.specs.Lookups.{changed_at, controller_in, with_controller}
use Rattle.fc_world.specs.Stages.{AnswersCall}
use Rattle.fc_world.specs.Worlds.{Ruling, Standing}
use Rattle.fc_world.specs.WorldSteps.{started, with_running}
use Rattle.fc_world.specs.declared.lives.Answer.{Answer}
use Rattle.fc_world.specs.declared.lives.Request.{Request}

-- One that stands still gives no answer, and is as it was. Of one that runs the answer is that of its life.
abbrev pub AnswersLife : ℕ → Request → Option Ruling → Option Answer → Option Ruling → Type 0
AnswersLife k q None None new = new ≡ None
AnswersLife k q None (Some a) new = ⊥
AnswersLife k q (Some r) None new = ⊥
AnswersLife k q (Some r) (Some a) None = ⊥
AnswersLife k q (Some r) (Some a) (Some s) = AnswersCall k q r a s

abbrev pub AnswersOne : ℕ → Request → Standing → Option Answer → Standing → Type 0
AnswersOne k q old answer new = (new.ce ≡ old.ce) × (new.used ≡ old.used) × AnswersLife k q old.running answer new.running

-- the control element at a place, whatever its number
abbrev pub AnswersNth : Request → Option Standing → ℕ → List Standing → Option Answer → List Standing → Type 0
AnswersNth q None i old None new = new ≡ old
AnswersNth q None i old (Some a) new = ⊥
AnswersNth q (Some s) i old answer new = (r : Option Ruling) × ((k : ℕ) → AnswersLife k q s.running answer r) × (new ≡ changed_at (with_running r) i old)

abbrev pub AnswersAt : ℕ → Request → List Standing → Option Answer → List Standing → Type 0
AnswersAt i q old answer new = AnswersNth q (slice_get old i) i old answer new

-- the control element of number c among all
abbrev pub AnswersAmong : ℕ → Request → Option Standing → List Standing → Option Answer → List Standing → Type 0
AnswersAmong c q None old None new = new ≡ old
AnswersAmong c q None old (Some a) new = ⊥
AnswersAmong c q (Some s) old answer new = (r : Option Ruling) × AnswersLife c q s.running answer r × (new ≡ with_controller c (with_running r s) old)

abbrev pub AnswersIn : ℕ → Request → List Standing → Option Answer → List Standing → Type 0
AnswersIn c q old answer new = AnswersAmong c q (controller_in c old) old answer new

abbrev pub started_by : Option Standing → ℕ → List ℕ → ℕ → List Standing → List Standing
started_by None c ids round ss = ss
started_by (Some s) c ids round ss = with_controller c (started ids round s) ss

abbrev pub started_in : ℕ → List ℕ → ℕ → List Standing → List Standing
started_in c ids round ss = started_by (controller_in c ss) c ids round ss
