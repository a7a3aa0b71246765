-- What holds of each script (this profile's own).
use Rattle.std.specs.Prelude.{◌≡◌, ◌≤◌, ℕ, nat_eq, true, map, length}
use Rattle.std.specs.List.{AllByRecursion, list_all}
use Rattle.std.specs.Str.{bytes_eq}
use Rattle.fc_types.specs.Ids.{is_distinct}
use Rattle.fc_types.specs.Libraries.{AreKnown, is_own}
use Rattle.fc_documents.specs.Kept.{has_listed, has_name, name_of}
use Rattle.fc_documents.specs.Parts.{makes_plan}
use Rattle.fc_steps.specs.Steps.{CanStep}
use Rattle.fc_steps.specs.declared.step.Step.{Step}
use Rattle.fc_scripts.specs.Changes.{ChangesWell}
use Rattle.fc_scripts.specs.Rules.{number_of, is_served}
use Rattle.fc_scripts.specs.Scripts.{Scripted}
use Rattle.fc_scripts.specs.Tables.{id_of}

-- a text can say the step
abbrev pub CanBeSaid : ℕ × Step → Type 0
CanBeSaid s = CanStep s.1

-- The library is one to which an element can add its own classes. No element is listed twice and no two controllers have one number;
-- each element has a controller that is listed. Each transaction is a plan over elements that are listed, each change of which is one
-- by selects of the grammar, and has a name of its own. There are at most 255 elements, 16 controllers, 1,024 transactions and 100,000
-- steps, each of which a text can say.
pub record IsScript (s : Scripted) : Type 0 where
  pub known : AreKnown s.library s.instances
  pub own : list_all is_own s.library ≡ true
  pub apart : is_distinct nat_eq (map id_of s.elements) ≡ true
  pub few : length s.elements ≤ 255
  pub numbered : is_distinct nat_eq (map number_of s.controllers) ≡ true
  pub masters : length s.controllers ≤ 16
  pub served : list_all (is_served s.controllers) s.elements ≡ true
  pub short : length s.transactions ≤ 1024
  pub planned : list_all makes_plan s.transactions ≡ true
  pub changing : AllByRecursion ChangesWell s.transactions
  pub listed : list_all (has_listed (map id_of s.elements)) s.transactions ≡ true
  pub named : list_all has_name s.transactions ≡ true
  pub distinct : is_distinct bytes_eq (map name_of s.transactions) ≡ true
  pub all : length s.steps ≤ 100000
  pub said : AllByRecursion CanBeSaid s.steps
