use Rattle.std.proofs.Common.{◌≡◌, drop}
use Rattle.std.specs.List.{list_all}
use Rattle.fc_documents.specs.Parts.{makes_plan}
use Rattle.fc_scripts.proofs.rules.all_make_plans.Given as goal

abbrev pub invariant-loop-transaction : goal.invariant-loop-transaction
invariant-loop-transaction l = list_all makes_plan (drop l.transaction-index l.transactions) ≡ list_all makes_plan l.transactions
