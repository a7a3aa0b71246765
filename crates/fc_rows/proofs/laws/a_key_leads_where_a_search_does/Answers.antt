use Rattle.fc_rows.proofs.Leading.{leads_by_search}
use Rattle.fc_rows.proofs.laws.a_key_leads_where_a_search_does.Goals as goal

pub returns : goal.returns
returns c = leads_by_search
