-- What holds of what an element keeps for its Configs in every state. This profile's own.
use Rattle.std.specs.Prelude.{◌≡◌, Option}
use Rattle.fc_lfbs.specs.Kinds.{opening_type, subject_type}
use Rattle.fc_lfbs.specs.declared.kinds.Mastership.{Mastership}
use Rattle.fc_msg.specs.declared.message.Message.{Message}
use Rattle.fc_performing.specs.Sending.{IsAnswer}

-- the types by which Configs are read, and that the kept response is one that can be sent
pub record IsSound (types : Mastership) (kept : Option Message) : Type 0 where
  pub opening : types.opening ≡ opening_type
  pub subject : types.subject ≡ subject_type
  pub answer : IsAnswer kept
