-- The scopes of the transactions that an element has seen. This profile's own.
use Rattle.std.specs.Prelude.{◌≡◌, true, List, [], ◌∷◌}
use Rattle.fc_protocol.specs.Scopes.{is_scope}
use Rattle.fc_protocol.specs.declared.answers.TxnEntry.{TxnEntry}

-- each record, so of what is held too, has a scope that a transaction may have: its instances rise, and none is of the control class
abbrev pub RisingScopes : List TxnEntry → Type 0
RisingScopes [] = Unit {0}
RisingScopes (n ∷ ns) = (is_scope n.scope ≡ true) × RisingScopes ns
