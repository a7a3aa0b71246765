-- The line that tells why a document is refused (this profile's own).
use Rattle.std.specs.Prelude.{ℕ, List, [], ◌++◌, codes, decimal}
use Rattle.fc_types.specs.declared.fault.CheckFault.{CheckFault}
use Rattle.fc_types.specs.declared.fault.CheckFault.TheVariants as check
use Rattle.fc_library.specs.declared.fault.DocumentRule.{DocumentRule}
use Rattle.fc_library.specs.declared.fault.DocumentRule.TheVariants as rules
use Rattle.fc_library.specs.declared.fault.LibFault.{LibFault}
use Rattle.fc_library.specs.declared.fault.LibFault.TheVariants.{NotToml, Unknown, Missing, WrongKind, Check, Rule, StepText, Memory}

-- the name of a fault of the check, in lower case
abbrev pub check_word : CheckFault → List ℕ
check_word check.TooMany = codes "toomany"
check_word check.DuplicateId = codes "duplicateid"
check_word check.TooDeep = codes "toodeep"
check_word check.BadRange = codes "badrange"
check_word check.KeyNotAtomic = codes "keynotatomic"
check_word check.BadTarget = codes "badtarget"
check_word check.UnknownClass = codes "unknownclass"
check_word check.Memory = codes "memory"

-- the name of a rule
abbrev pub rule_word : DocumentRule → List ℕ
rule_word rules.TooMany = codes "toomany"
rule_word rules.Element = codes "element"
rule_word rules.Controller = codes "controller"
rule_word rules.Name = codes "name"
rule_word rules.Body = codes "body"
rule_word rules.Addresses = codes "addresses"

-- a line for a document of a kind, as `library`: the rule, and what it names
abbrev pub line : List ℕ → List ℕ → List ℕ → List ℕ
line kind rule name = codes "refused " ++ (kind ++ (codes " " ++ (rule ++ (name ++ codes "\n"))))

-- the line of a fault; want of memory has none
abbrev pub refusal_text : List ℕ → LibFault → List ℕ
refusal_text kind NotToml = line kind (codes "nottoml") []
refusal_text kind (Unknown key) = line kind (codes "unknown ") key
refusal_text kind (Missing key) = line kind (codes "missing ") key
refusal_text kind (WrongKind key) = line kind (codes "wrongkind ") key
refusal_text kind (Check fault) = line kind (codes "check ") (check_word fault)
refusal_text kind (Rule rule) = line kind (codes "rule ") (rule_word rule)
refusal_text kind (StepText place) = line kind (codes "step ") (decimal place)
refusal_text kind Memory = []
