use Rattle.std.proofs.Common.{◌≡◌, List, ℕ, Ok}
use Rattle.toml.specs.Data.{Members}
use Rattle.fc_documents.specs.Tables.{table_of, plan_table}
use Rattle.fc_documents.specs.Plans.{Planned, plan_in, plan, plan_of}
use Rattle.fc_documents.specs.Kept.{IsPlan}
use Rattle.fc_documents.proofs.Chains.{read_first}
use Rattle.fc_documents.proofs.Keeping.{plan_is}
use Rattle.fc_documents.proofs.laws.plans_keep_their_rules.Goals as goal

kept_by : (bytes : List ℕ) (p : Planned) → plan_of bytes ≡ Ok p → IsPlan p
kept_by bytes p e =
    let (ms, read, means) = read_first (table_of bytes) plan p e in
    let (table, is, whole) = read_first (plan_table ms) plan_in p means in
    plan_is table p whole

pub returns : goal.returns
returns c = kept_by
