-- What holds of each plan (this profile's own).
use Rattle.std.specs.Prelude.{◌≡◌, ◌≤◌, ℕ, nat_eq, Bool, true, List, map, length}
use Rattle.std.specs.List.{list_all}
use Rattle.std.specs.Str.{bytes_eq}
use Rattle.fc_types.specs.Ids.{is_distinct}
use Rattle.fc_path.specs.declared.oper.Select.{Select}
use Rattle.fc_documents.specs.Rules.{is_listed, is_name}
use Rattle.fc_documents.specs.Parts.{can_begin}
use Rattle.fc_documents.specs.Plans.{Planned}
use Rattle.fc_documents.specs.declared.transaction.PlanTxn.{PlanTxn}

-- the participant is one of the elements
abbrev pub is_listed_part : List ℕ → ℕ × List (List Select) → Bool
is_listed_part es p = is_listed es p.0

-- each participant is
abbrev pub has_listed : List ℕ → PlanTxn → Bool
has_listed es t = list_all (is_listed_part es) t.parts

abbrev pub name_of : PlanTxn → List ℕ
name_of t = t.name

abbrev pub has_name : PlanTxn → Bool
has_name t = is_name t.name

-- No element is listed twice. A control element can begin each transaction, over elements that are listed, and each one has a name
-- of its own.
pub record IsPlan (plan : Planned) : Type 0 where
  pub apart : is_distinct nat_eq plan.elements ≡ true
  pub few : length plan.elements ≤ 255
  pub short : length plan.transactions ≤ 1024
  pub begun : list_all can_begin plan.transactions ≡ true
  pub listed : list_all (has_listed plan.elements) plan.transactions ≡ true
  pub named : list_all has_name plan.transactions ≡ true
  pub distinct : is_distinct bytes_eq (map name_of plan.transactions) ≡ true
