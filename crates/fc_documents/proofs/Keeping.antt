-- What a document means keeps the rules of a plan.
use Rattle.std.proofs.Common.{◌≡◌, ◌≤◌, ℕ, nat_eq, nat_le, ◌==◌, ◌&&◌, Bool, true, not, List, [], ◌∷◌, map, length, Result, Ok, refl, sym, ap, ◌∙◌, subst, arith}
use Rattle.std.proofs.lemmas.Bool.{and_parts, leb-true}
use Rattle.std.specs.List.{list_all}
use Rattle.std.specs.Str.{bytes_eq}
use Rattle.fc_path.specs.declared.oper.Select.{Select}
use Rattle.fc_types.specs.Ids.{is_distinct}
use Rattle.fc_library.specs.declared.fault.DocumentRule.TheVariants as broken
use Rattle.fc_documents.specs.Rules.{is_listed, participants, bodies_at, has_few, is_short, are_listed, keeps_to, keeps_limits, keeps_elements, keeps_names, is_name, has_name, name_of}
use Rattle.fc_documents.specs.Parts.{each_of, change_of, part_of, parts_of, transaction_of, can_begin}
use Rattle.fc_documents.specs.Plans.{Planned, plan_in}
use Rattle.fc_documents.specs.Kept.{IsPlan, has_listed, is_listed_part}
use Rattle.fc_documents.specs.Kept as kept
use Rattle.fc_documents.specs.declared.tables.ChangeTable.{ChangeTable}
use Rattle.fc_documents.specs.declared.tables.TransactionTable.{TransactionTable}
use Rattle.fc_documents.specs.declared.tables.PlanTable.{PlanTable}
use Rattle.fc_documents.specs.declared.transaction.PlanTxn.{PlanTxn}
use Rattle.fc_documents.proofs.Chains.{read_first, kept_first, all_made, same_mapped, same_length, behind_rules}
use Rattle.fc_documents.proofs.Entering.{all_entered}

abbrev pub Parts : Type 0
Parts = List (ℕ × List (List Select))

abbrev pub made : TransactionTable → Parts → PlanTxn
made t ps = record { name = t.name; give_up = t.give_up; scoped = t.scoped; parts = ps }

abbrev pub planned : List ℕ → List PlanTxn → Planned
planned es ts = record { elements = es; transactions = ts }

pub part_is : (cs : List ChangeTable) (e : ℕ) (p : ℕ × List (List Select)) → part_of cs e ≡ Ok p → p.0 ≡ e
part_is cs e p h =
    let (changes, read, is) = read_first (each_of change_of (bodies_at e cs)) (λ changes. Ok (e, changes)) p h in
    let same : (e, changes) ≡ p = cc in
    ap (λ (q : ℕ × List (List Select)). q.0) (sym same)

pub transaction_is : (t : TransactionTable) (x : PlanTxn) → transaction_of t ≡ Ok x → (ps : Parts) × (parts_of t.changes ≡ Ok ps) × (x ≡ made t ps)
transaction_is t x h =
    let (ps, read, is) = read_first (parts_of t.changes) (λ ps. Ok (made t ps)) x h in
    let same : made t ps ≡ x = cc in
    (ps, read, sym same)

-- there is a change, and each participant has its own
pub parts_are : (cs : List ChangeTable) (ps : Parts) → parts_of cs ≡ Ok ps → (not (length cs == 0) ≡ true) × (each_of (part_of cs) (participants cs) ≡ Ok ps)
parts_are cs ps e = kept_first broken.Body (not (length cs == 0)) (λ _. each_of (part_of cs) (participants cs)) ps e

-- the participants are listed, as the elements of the changes are
parts_listed : (es : List ℕ) (cs : List ChangeTable) (ps : Parts) → parts_of cs ≡ Ok ps → are_listed es cs ≡ true → list_all (is_listed_part es) ps ≡ true
parts_listed es cs ps e h =
    all_made (part_of cs) (is_listed es) (is_listed_part es) (λ d p is k. ap (is_listed es) (part_is cs d p is) ∙ k) (participants cs) ps (parts_are cs ps e).1
    (all_entered (is_listed es) cs [] h refl)

pub transaction_listed : (es : List ℕ) (t : TransactionTable) (x : PlanTxn) → transaction_of t ≡ Ok x → keeps_to es t ≡ true → has_listed es x ≡ true
transaction_listed es t x e h =
    let (ps, read, is) = transaction_is t x e in
    subst (λ (y : PlanTxn). has_listed es y ≡ true) (sym is) (parts_listed es t.changes ps read h)

pub same_name : (t : TransactionTable) (x : PlanTxn) → transaction_of t ≡ Ok x → kept.name_of x ≡ name_of t
same_name t x e = let (ps, read, is) = transaction_is t x e in ap kept.name_of is

pub named_still : (t : TransactionTable) (x : PlanTxn) → transaction_of t ≡ Ok x → has_name t ≡ true → kept.has_name x ≡ true
named_still t x e h = ap is_name (same_name t x e) ∙ h

is_plan : (table : PlanTable) (ts : List PlanTxn) → keeps_limits table ≡ true → keeps_elements table ≡ true → keeps_names table.transactions ≡ true
    → each_of transaction_of table.transactions ≡ Ok ts → list_all can_begin ts ≡ true → IsPlan (planned table.elements ts)
is_plan table ts limits elements names read begun =
    let (counts, changes) = and_parts (is_short table) (list_all has_few table.transactions) limits in
    let (few, short) = and_parts (nat_le (length table.elements) 255) (nat_le (length table.transactions) 1024) counts in
    let (apart, listed) = and_parts (is_distinct nat_eq table.elements) (list_all (keeps_to table.elements) table.transactions) elements in
    let (named, distinct) = and_parts (list_all has_name table.transactions) (is_distinct bytes_eq (map name_of table.transactions)) names in
    let long = leb-true (length table.transactions) 1024 short in
    let same = same_length transaction_of table.transactions ts read in
    record {
      apart = apart;
      few = leb-true (length table.elements) 255 few;
      short = omega (arith, long, same);
      begun = begun;
      listed = all_made transaction_of (keeps_to table.elements) (has_listed table.elements) (transaction_listed table.elements) table.transactions ts read listed;
      named = all_made transaction_of has_name kept.has_name named_still table.transactions ts read named;
      distinct = ap (is_distinct bytes_eq) (same_mapped transaction_of name_of kept.name_of same_name table.transactions ts read) ∙ distinct;
    }

pub plan_is : (table : PlanTable) (p : Planned) → plan_in table ≡ Ok p → IsPlan p
plan_is table p e =
    let (limits, elements, names, ts, read, begun, is) =
    behind_rules (keeps_limits table) (keeps_elements table) (keeps_names table.transactions) (each_of transaction_of table.transactions) (λ xs. list_all can_begin xs)
    (λ xs. planned table.elements xs) p e in
    subst IsPlan (sym is) (is_plan table ts limits elements names read begun)
