-- A Config's selects with a RESULT in each leaf, in the order of the codes: RFC 5810, sections 7.1.6 and 7.1.7, in this profile. COMMIT
-- becomes COMMIT-RESPONSE; TRCOMP is left out, though it has a code, and so is a select that is left empty.
use Rattle.std.specs.Prelude.{ℕ, ◌++◌, List, [], ◌∷◌, map}
use Rattle.fc_path.specs.Results.{select_with}
use Rattle.fc_path.specs.declared.oper.Oper.{Oper}
use Rattle.fc_path.specs.declared.oper.Oper.TheVariants as oper
use Rattle.fc_path.specs.declared.oper.Select.{Select}
use Rattle.fc_ops.specs.Filling.{Filled, ahead, next_of, oper_filled}
use Rattle.fc_ops.specs.declared.offers.Content.{Content}
use Rattle.fc_ops.specs.declared.offers.Content.TheVariants as content

-- a result with each code
abbrev pub results : List ℕ → List Content
results codes = map content.Refused codes

-- the code of a result; what holds something succeeded
abbrev pub code_in : Content → ℕ
code_in (content.Full value) = 0
code_in (content.Sparse ilvs) = 0
code_in (content.Refused code) = code

abbrev pub one_oper : Oper × List Content → List Oper × List Content
one_oper x = (x.0 ∷ [], x.1)

-- the operations that answer one: one, or none
abbrev pub oper_answered : Oper → Filled (List Oper)
oper_answered (oper.Paths kind paths) cs = one_oper (oper_filled (oper.Paths kind paths) cs)
oper_answered oper.Commit cs = (oper.CommitResponse (code_in (next_of cs).0) ∷ [], (next_of cs).1)
oper_answered oper.Trcomp cs = ([], (next_of cs).1)
oper_answered (oper.CommitResponse code) cs = ([], cs)

abbrev pub opers_answered : List Oper → Filled (List Oper)
opers_answered [] cs = ([], cs)
opers_answered (o ∷ os) cs = ahead (oper_answered o cs).0 (opers_answered os (oper_answered o cs).1)

abbrev pub each_answered : List Select → Filled (List Select)
each_answered [] cs = ([], cs)
each_answered (s ∷ ss) cs = ahead (select_with s (opers_answered s.opers cs).0) (each_answered ss (opers_answered s.opers cs).1)

abbrev pub answered_selects : List Select → List ℕ → List Select
answered_selects selects codes = (each_answered selects (results codes)).0
